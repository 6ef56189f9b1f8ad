-- The alarms' homes hold what their events in the book's list say, in every history. Assumes nothing.
use mathlib.Core.Path.{ap, ◌∙◌}
use native.Mathlib.Omega.{arith}
use borrow.Author.Tests.{eq-eqb}
use Rattle.unit_events.specs.Homes.{alarm_home, alarm_homes}
use Rattle.unit_events.specs.Folded.{Filling, Growing}
use Rattle.unit_events.proofs.FoldedHolds.{events-recorded}
use Rattle.unit_alarms_list.specs.OpenAlarms.{alarms_of, gravest_kept}
use Rattle.unit_alarms_list.specs.Events.{answer, after, settled, applied}
use Rattle.unit_alarms_list.specs.Guarantees.{answer_by, held_with, Represents, Typed}
use Rattle.unit_alarms_list.specs.Stored.{judged, AlarmsRecorded, GravestReply}
use Rattle.unit_alarms_list.proofs.BackLaws.{length-packed, kept_block}
use Rattle.unit_alarms_list.proofs.Guaranteed.{grown, kept-none}

pub filling : Filling alarm_home alarm_homes judged held_with
unfolding judged held_with applied settled
filling bs e z = rw (eq-eqb (answer (alarms_of bs) e) 0 z) (length-packed (after (alarms_of bs) e))

growing : Growing alarm_home alarm_homes judged held_with Typed answer_by Represents
unfolding judged held_with
growing ds bs e k t = let g = grown k e bs t in (g.code, g.kept)

pub alarms-recorded : AlarmsRecorded
alarms-recorded = events-recorded alarm_home alarm_homes judged held_with Typed answer_by Represents (omega arith) filling kept-none growing

pub gravest-told : GravestReply
gravest-told w ns r writer block ready l z =
    let p = r.partly writer 0 1 block ready (omega arith) l z in
    ap gravest_kept p.2 ∙ kept_block p.0 ∙ p.1.kept
