-- `base_batch::all_homes` meets its contract. The loop's invariant: the records of the homes below `home` stand from `at` on, and `to` is the index after them.
-- Assumes nothing.
use mathlib.Core.Path.{◌≡◌, refl, ◌∙◌}
use Prim.Native.Nat.{◌+◌, ◌*◌, ◌-◌, ◌≤◌}
use native.Mathlib.Omega.{arith}
use lib.ListN.{length}
use Rattle.model.specs.Bytes.{puts}
use Rattle.model.specs.Batch.{batch_bytes}
use Rattle.model.specs.Effects.{zero_homes}
use Rattle.base_batch.proofs.FormatLaws.{homes_none, homes_more}
use Rattle.base_batch.proofs.format.all_homes.Statement.{statement}
use Rattle.base_batch.proofs.format.all_homes.Tie as tie

abbrev invariant-loop : tie.invariant-loop-home
invariant-loop batch₀ at homes to₀ home₀ batch to home =
    (batch ≡ puts batch₀ at (batch_bytes (zero_homes home))) × (to ≡ at + 68 * home) × (home ≤ homes) × (length batch ≡ length batch₀)

abbrev decreases-loop : tie.decreases-loop-home
decreases-loop batch₀ at homes to₀ home₀ batch to home = homes - home

loop-holds : tie.Need-loop-home-init invariant-loop decreases-loop
loop-holds c = (homes_none _ _, omega arith, omega arith, refl)

zero-home-write-requires : tie.Need-zero_home_write-to-requires invariant-loop decreases-loop
zero-home-write-requires c κs = omega arith

add-home : tie.Need-overflow_add-home invariant-loop decreases-loop
add-home c = omega arith

loop-less : tie.Need-loop-home-smaller invariant-loop decreases-loop
loop-less c = omega arith

loop-again : tie.Need-loop-home-preserved invariant-loop decreases-loop
loop-again c =
    let l = c.loop-home in
    (c.zero_home_write-to.ensures.1 ∙ rw (l.invariant.0, l.invariant.1) (homes_more _ _ _), omega arith, omega arith, omega arith)

same_length : tie.Need-shape_of-batch invariant-loop decreases-loop
same_length c = omega arith

returns : tie.Need-returns invariant-loop decreases-loop
returns c =
    let l = c.loop-home in
    let e : l.home ≡ c.args.homes = omega arith in
    (omega arith, rw e at l.invariant.0)

pub all_homes_spec : {M : Type 1} → statement M
all_homes_spec = tie.close (tie.spec invariant-loop decreases-loop loop-holds zero-home-write-requires add-home loop-less loop-again same_length returns)
