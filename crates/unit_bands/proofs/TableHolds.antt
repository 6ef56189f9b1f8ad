-- The table of depth bands in every history. Assumes nothing.
use Prim.Native.Nat.{ℕ, ◌*◌}
use mathlib.Core.Path.{◌≡◌, refl, subst}
use mathlib.Core.Bool.{true}
use mathlib.Core.List.{List}
use mathlib.Core.Option.{Option}
use native.Mathlib.Omega.{arith}
use Rattle.model.specs.Bytes.{zeros}
use Rattle.model.specs.History.{World, after_format}
use Rattle.unit_events.specs.Homes.{table_home}
use Rattle.unit_events.specs.Offered.{held_after}
use Rattle.unit_events.specs.Folded.{noted, sets, ran, notes, stepped, Folded, Recorded, Growing}
use Rattle.unit_events.proofs.FoldedHolds.{events-folded, events-recorded}
use Rattle.unit_shared.specs.Unit.{transacted}
use Rattle.unit_shared.specs.Moments.{lent_in, Leaves}
use Rattle.unit_shared.proofs.MomentLaws.{set-stands}
use Rattle.unit_shared.proofs.MomentShown.{shown-there, kept_there}
use Rattle.unit_bands_table.specs.Judge.{judgement}
use Rattle.unit_bands_table.specs.Stored.{judged, stored, answer_by, Accepted}
use Rattle.unit_bands_table.proofs.StoredHolds.{filling}
use Rattle.unit_bands.specs.Calls.{accepted, set_call}
use Rattle.unit_bands.specs.Claims.{Represents}
use Rattle.unit_bands.specs.Histories.{TableAt, TableKept}
use Rattle.unit_bands.proofs.Claimed.{recording, claimed}

growing : Growing table_home 3 judged stored Accepted answer_by Represents
unfolding judged stored answer_by
growing ts blocks bytes k a = (refl, λ z. recording.grows ts bytes z)

-- a call that sets an accepted table stores it
set_is : (w : World) (writer : ℕ) (bytes batch : List ℕ) → (judgement bytes).code ≡ 0
    → transacted (lent_in w batch) writer table_home (stored (zeros (64 * 3)) bytes) ≡ set_call (lent_in w batch) writer bytes
unfolding set_call accepted stored
set_is w writer bytes batch z = rw z

module _ (w : World) (ns : List (Option (List ℕ))) (ready : w.ready ≡ true)
    (f : Folded table_home 3 judged stored Accepted w ns) (r : Recorded table_home 3 judged stored Accepted answer_by Represents w ns) where
  abbrev held : List ℕ
  held = held_after stored (zeros (64 * 3)) (noted ns)

  pub table_at : TableAt w (noted ns)
  table_at =
      record {
        claim = λ writer batch. claimed (lent_in w batch) writer (noted ns) held
            (kept_there table_home 3 judged stored Accepted w ns f answer_by Represents r) (shown-there table_home 3 judged stored Accepted w ns f ready writer batch);
        stands = λ writer bytes batch z. subst (Leaves w (stepped table_home 3 judged stored w (sets writer bytes batch))) (set_is w writer bytes batch z)
            (set-stands table_home 3 judged stored w writer bytes batch);
      }

pub table_kept : TableKept
table_kept groups homes d f ss ok s ready =
    table_at (ran table_home 3 judged stored (after_format f) ss) (notes table_home 3 judged stored (after_format f) ss) ready
    (events-folded table_home 3 judged stored Accepted (omega arith) filling groups homes (omega arith) f ss ok s)
    (events-recorded table_home 3 judged stored Accepted answer_by Represents (omega arith) filling recording.none growing groups homes (omega arith) f ss ok s)
