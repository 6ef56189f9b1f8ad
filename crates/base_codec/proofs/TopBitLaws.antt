-- Laws of the top bit of a block's last byte: read from the block's place, and replaced after a copy. Assumes nothing.
use mathlib.Core.Path.{◌≡◌, refl, sym, ap, ◌∙◌}
use mathlib.Core.List.{List, [], ◌∷◌}
use Prim.Native.Nat.{ℕ, zero, suc, ◌+◌, ◌-◌, ◌*◌, ◌/◌, ◌%◌, ◌^◌, ◌≤◌, ◌<◌}
use native.Mathlib.Nat.{suc-add, zero-add}
use native.Mathlib.Omega.{arith}
use lib.ListN.{length, get_or, set, take, drop}
use Rattle.model.specs.Bytes.{part, puts, number}
use Rattle.model.specs.Tag.{field}
use Rattle.model.specs.Layout.{top_bit, with_top_bit}
use Rattle.model_laws.proofs.bytes.ByteLaws.{puts-nil, puts-cons, length_part, number-part}
use Rattle.base_codec.proofs.JoinLaws.{number-one}

-- what is written into what was written
pub puts-inside : (d : List ℕ) (at : ℕ) (b : List ℕ) (o : ℕ) (s : List ℕ) → o + length s ≤ length b → puts (puts d at b) (at + o) s ≡ puts d at (puts b o s)
unfolding puts
puts-inside [] at b o s h = refl
puts-inside (x ∷ d) (suc at) b o s h = rw suc-add (ap {B = List ℕ} (λ r. x ∷ r) (puts-inside d at b o s h))
puts-inside (x ∷ d) zero [] o [] h = rw zero-add (puts-nil (x ∷ d) o)
puts-inside (x ∷ d) zero [] o (z ∷ s) h = absurd (omega arith)
puts-inside (x ∷ d) zero (y ∷ b) zero [] h = refl
puts-inside (x ∷ d) zero (y ∷ b) zero (z ∷ s) h = ap {B = List ℕ} (λ r. z ∷ r) (puts-inside d zero b zero s (omega arith))
puts-inside (x ∷ d) zero (y ∷ b) (suc o) s h =
    let e : puts (puts d zero b) o s ≡ puts d zero (puts b o s) = rw zero-add at (puts-inside d zero b o s (omega arith)) in
    rw zero-add (ap {B = List ℕ} (λ r. y ∷ r) e)

-- a block's last byte in its place
last_byte : (s : List ℕ) (at : ℕ) → number 1 (part s at 64) 63 ≡ get_or s (at + 63) 0
last_byte s at = number-part 1 s at 64 63 (omega arith) ∙ number-one s (at + 63)

pub top_read : (s : List ℕ) (at : ℕ) → get_or s (at + 63) 0 < 256 → (get_or s (at + 63) 0 / 2 ^ 7 ≡ top_bit (part s at 64)) × (get_or s (at + 63) 0 / 2 ^ 7 < 2)
unfolding top_bit field
top_read s at h = rw (last_byte s at) (omega arith, omega arith)

-- the last byte written over once the block is copied, which makes c of d
pub top-replaced : (c d : List ℕ) (at : ℕ) (s : List ℕ) (from bit : ℕ) → from + 64 ≤ length s → get_or s (from + 63) 0 < 256
    → c ≡ puts d at (take (from + 64 - from) (drop from s))
    → set c (at + 63) (get_or s (from + 63) 0 % 128 + 128 * bit) ≡ puts d at (with_top_bit (part s from 64) bit)
unfolding with_top_bit top_bit field part
top-replaced c d at s from bit h l q =
    let x : ℕ = get_or s (from + 63) 0 in
    let e : x % 128 + 128 * bit ≡ x - 2 ^ 7 * (x / 2 ^ 7 % 2 ^ 1) + 2 ^ 7 * bit = omega arith in
    let f : from + 64 - from ≡ 64 = omega arith in
    rw (q, f, last_byte s from, e)
    (sym (puts-nil _ (at + 63 + 1)) ∙ puts-cons (puts d at (part s from 64)) (at + 63) _ []
    ∙ puts-inside d at (part s from 64) 63 _ (omega (arith, length_part s from 64 h)))
