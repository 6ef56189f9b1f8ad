-- `unit_bands_table::judging::width` meets its contract. The loop's invariant: the sum so far and the rows from `at` on give all. Assumes nothing.
use Prim.Native.Nat.{◌+◌, ◌-◌, ◌*◌, ◌%◌, ◌≤◌}
use mathlib.Core.Path.{◌≡◌, refl, ap}
use mathlib.Core.Bool.{true}
use native.Mathlib.Omega.{arith}
use borrow.Author.Rules.{rules}
use lib.ListN.{length}
use Rattle.unit_bands_table.specs.Rows.{rows}
use Rattle.unit_bands_table.specs.Judge.{all_fit}
use Rattle.unit_bands_table.specs.Sweep.{rest, width}
use Rattle.unit_bands_table.proofs.RowLaws.{rest_all, sound-short, sound-whole, sound-fit}
use Rattle.unit_bands_table.proofs.LoopLaws.{width-over, width-ended, fits-ordered, fits_next, fits_all}
use Rattle.unit_bands_table.proofs.judging.width.Statement.{statement}
use Rattle.unit_bands_table.proofs.judging.width.Tie as tie

abbrev invariant-loop : tie.invariant-loop-at
invariant-loop s sum₀ at₀ sum at = (at ≤ length s) × (at % 5 ≡ 0) × (length s ≤ 160) × (length s % 5 ≡ 0) × (sum ≤ 65536 * at)
    × (all_fit (rest s at) ≡ true) × (sum + width (rest s at) ≡ width (rows s))

abbrev decreases-loop : tie.decreases-loop-at
decreases-loop s sum₀ at₀ sum at = length s - at

loop-holds : tie.Need-loop-at-init invariant-loop decreases-loop
loop-holds c =
    let s = c.args.s.now in
    let e = c.requires in
    (omega arith, refl, sound-short s e, sound-whole s e, omega arith, fits_all s (sound-fit s e), omega (arith, ap width (rest_all s)))

add-two-bytes : tie.Need-overflow_add-at invariant-loop decreases-loop
add-two-bytes c = search rules

two-bytes-requires : tie.Need-two_bytes-requires invariant-loop decreases-loop
two-bytes-requires c κs = search rules

add-sum : tie.Need-overflow_add-sum invariant-loop decreases-loop
add-sum c = search rules

two-bytes-requires-2 : tie.Need-two_bytes-requires-in-loop-at invariant-loop decreases-loop
two-bytes-requires-2 c κs = search rules

sub-sum : tie.Need-overflow_sub-sum invariant-loop decreases-loop
sub-sum c =
    let s = c.args.s.now in
    let l = c.loop-at in
    omega (arith, fits-ordered s l.at (omega arith) l.invariant.5 c.two_bytes-in-loop-at.ensures.0 c.two_bytes.ensures.0)

add-sum-2 : tie.Need-overflow_add-sum-in-loop-at invariant-loop decreases-loop
add-sum-2 c = search rules

add_at : tie.Need-overflow_add-at-in-loop-at invariant-loop decreases-loop
add_at c = search rules

loop-less : tie.Need-loop-at-smaller invariant-loop decreases-loop
loop-less c = search rules

loop-again : tie.Need-loop-at-preserved invariant-loop decreases-loop
loop-again c =
    let s = c.args.s.now in
    let l = c.loop-at in (
      omega arith,
      omega arith,
      l.invariant.2,
      l.invariant.3,
      omega arith,
      fits_next s l.at (omega arith) l.invariant.5,
      omega (arith, width-over s l.at (omega arith) c.two_bytes-in-loop-at.ensures.0 c.two_bytes.ensures.0),
    )

returns : tie.Need-returns invariant-loop decreases-loop
returns c =
    let s = c.args.s.now in
    let l = c.loop-at in
    omega (arith, width-ended s l.at (omega arith))

pub width_spec : {M : Type 1} → statement M
width_spec =
    tie.close
    (tie.spec
    invariant-loop
    decreases-loop
    loop-holds
    add-two-bytes
    two-bytes-requires
    add-sum
    two-bytes-requires-2
    sub-sum
    add-sum-2
    add_at
    loop-less
    loop-again
    returns)
