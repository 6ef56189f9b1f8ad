-- `base_codec::each_byte` meets its contract. The loop's invariant: `x` is the number that the `j` bytes from `i` on make.
-- Assumes nothing.
use mathlib.Core.Path.{◌≡◌}
use Prim.Native.Nat.{◌+◌, ◌*◌, ◌-◌, ◌^◌, ◌≤◌, ◌<◌}
use native.Mathlib.Omega.{arith}
use lib.ListN.{get_or}
use Rattle.model.specs.Bytes.{number}
use Rattle.model_laws.proofs.bytes.ByteLaws.{number-none, digit, within, get-turn}
use Rattle.base_codec.proofs.numbers.each_byte.Statement.{statement}
use Rattle.base_codec.proofs.numbers.each_byte.Tie as tie

abbrev invariant-loop : tie.invariant-loop-j
invariant-loop s at k x₀ i₀ j₀ x i j = (x ≡ number j s i) × (x < 256 ^ j) × (i + j ≡ at + k) × (j ≤ k)

abbrev decreases-loop : tie.decreases-loop-j
decreases-loop s at k x₀ i₀ j₀ x i j = k - j

-- the byte read is one, and the number with it is a digit longer
byte : (c : tie.After-shared_slice_known-1 invariant-loop decreases-loop) → get_or c.args.s.now (c.loop-j.i - 1) 0 < 256
byte c = omega (arith, c.shared_slice_known-1.given (c.loop-j.i - 1))

next : (c : tie.After-shared_slice_known-1 invariant-loop decreases-loop)
    → c.loop-j.x * 256 + get_or c.args.s.now (c.loop-j.i - 1) 0
    < 256 ^ (c.loop-j.j + 1)
next c = digit _ _ _ c.loop-j.invariant.1 (byte c)

add-i : tie.Need-overflow_add-i invariant-loop decreases-loop
add-i c = omega arith

loop-holds : tie.Need-loop-j-init invariant-loop decreases-loop
unfolding number
loop-holds c = (omega (arith, number-none c.args.s.now (c.args.at + c.args.k)), omega arith, omega arith, omega arith)

sub-i : tie.Need-overflow_sub-i invariant-loop decreases-loop
sub-i c = omega arith

mul-x : tie.Need-overflow_mul-x invariant-loop decreases-loop
mul-x c =
    let l = c.loop-j in
    let h = digit l.x 0 l.j (omega arith) (omega arith) in
    omega (arith, within _ (l.j + 1) h (omega arith))

shared-slice-read-x : tie.Need-bounds-s-i invariant-loop decreases-loop
shared-slice-read-x c = omega arith

cast-x : tie.Need-overflow_cast-x invariant-loop decreases-loop
cast-x c = omega (arith, byte c)

add-x : tie.Need-overflow_add-x invariant-loop decreases-loop
add-x c = omega (arith, within _ (c.loop-j.j + 1) (next c) (omega arith))

add-j : tie.Need-overflow_add-j invariant-loop decreases-loop
add-j c = omega arith

loop-less : tie.Need-loop-j-smaller invariant-loop decreases-loop
loop-less c = omega arith

loop-again : tie.Need-loop-j-preserved invariant-loop decreases-loop
loop-again c =
    let l = c.loop-j in
    (get-turn _ _ l.i _ (omega arith) l.invariant.0, next c, omega arith, omega arith)

returns : tie.Need-returns invariant-loop decreases-loop
returns c =
    let l = c.loop-j in
    let a = c.args in
    let e : l.j ≡ a.k = omega arith in
    let f : l.i ≡ a.at = omega arith in
    (rw (e, f) at l.invariant.0, rw e at l.invariant.1)

pub each_byte_spec : {M : Type 1} → statement M
each_byte_spec = tie.close (tie.spec invariant-loop decreases-loop add-i loop-holds sub-i mul-x shared-slice-read-x cast-x add-x add-j loop-less loop-again returns)
