-- `object_runner::kagutin_next_action` meets its contract. Assumes nothing.
use mathlib.Core.Bool.{not}
use mathlib.Core.Path.{refl, ap}
use native.Mathlib.Omega.{arith}
use Rattle.object_runner.proofs.AskedLaws.{was-asked}
use Rattle.object_runner.proofs.NextLaws.{next-refused, next-done, next-short, next-record}
use borrow.Author.Rules.{rules}
use Rattle.object_runner.proofs.kagutin_next_action.Statement.{statement}
use Rattle.object_runner.proofs.kagutin_next_action.Tie as tie

asked-requires : tie.Need-asked-requires
asked-requires c κs = search rules

bare-requires : tie.Need-bare-requires
bare-requires c κs = search rules

returns : tie.Need-returns-then-not-asked
returns c = next-refused _ _ _ _ _ _ _ _ c.asked.ensures (ap not c.if-not-asked.true) c.bare.ensures

bare-requires-2 : tie.Need-bare-requires-then-at-size
bare-requires-2 c κs = search rules

returns-2 : tie.Need-returns-then-at-size
returns-2 c =
    next-done _ _ _ _ _ _ _ _ c.asked.ensures (ap not c.if-not-asked.false) c.if-at-size.true c.bare-then-at-size.ensures

sub-if3 : tie.Need-overflow_sub-size
sub-if3 c = (was-asked _ _ _ _ _ _ c.asked.ensures (ap not c.if-not-asked.false)).within

bare-requires-3 : tie.Need-bare-requires-then-size-at-lt2
bare-requires-3 c κs = search rules

returns-3 : tie.Need-returns-then-size-at-lt2
returns-3 c =
    next-short _ _ _ _ _ _ _ _ c.asked.ensures (ap not c.if-not-asked.false) c.if-at-size.false c.if-size-at-lt2.true c.bare-then-size-at-lt2.ensures

record-action-requires : tie.Need-record_action-requires
record-action-requires c κs =
    let a = was-asked _ _ _ _ _ _ c.asked.ensures (ap not c.if-not-asked.false) in
    (omega (arith, c.if-size-at-lt2.false, a.within), a.some, a.most)

returns-4 : tie.Need-returns
returns-4 c =
    next-record _ _ _ _ _ _ _ _ c.asked.ensures (ap not c.if-not-asked.false) c.if-at-size.false _ refl c.if-size-at-lt2.false
    c.record_action.ensures

pub kagutin_next_action_spec : {M : Type 1} → statement M
kagutin_next_action_spec =
    tie.close
    (tie.spec
    asked-requires
    bare-requires
    returns
    bare-requires-2
    returns-2
    sub-if3
    bare-requires-3
    returns-3
    record-action-requires
    returns-4)
