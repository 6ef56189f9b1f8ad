-- Data blocks with a turn bit alone written one after the other, the bit of an unused slot, and an empty log slot by slot. Assumes nothing.
use mathlib.Core.Path.{◌≡◌, refl, sym, ap, ◌∙◌}
use mathlib.Core.List.{List, ◌++◌}
use Prim.Native.Nat.{ℕ, zero, suc, ◌+◌, ◌-◌, ◌*◌, ◌/◌, ◌%◌, ◌≤◌, ◌<◌}
use native.Mathlib.Nat.{mod-lt, mod-eq_of_lt, mod-eq-sub-mod, div-add-mod, div-eq_of_lt, mul-add-div, mul-suc}
use native.Mathlib.Numerals.{add-one}
use native.Mathlib.Omega.{arith}
use lib.ListN.{length, set, length-append}
use Rattle.model.specs.Bytes.{puts, zeros}
use Rattle.model.specs.Layout.{header, turn_of, turn_blocks, next_in, unused_group, unused_slots, empty_log}
use Rattle.model_laws.proofs.bytes.ByteLaws.{puts-nil, puts-cons, puts-append, puts_whole, length-zeros}
use Rattle.model_laws.proofs.bytes.LayoutLaws.{length-header}
use Rattle.model_laws.proofs.bytes.EmptyLaws.{length-unused_slots}

-- ---- a group's turn, by the quotient

pub turn-quotient : (groups n : ℕ) → n / groups % 2 ≡ turn_of groups n
unfolding turn_of
turn-quotient groups n = refl

-- ---- blocks with a turn bit

-- one block more is written: what is left goes in after it
pub turn_more : (d : List ℕ) (to left bit : ℕ) → 0 < left
    → puts (set (puts d to (zeros 63)) (to + 63) (128 * bit)) (to + 64) (turn_blocks (left - 1) bit) ≡ puts d to (turn_blocks left bit)
unfolding turn_blocks
turn_more d to zero bit h = absurd (omega arith)
turn_more d to (suc k) bit h =
    let e : suc k - 1 ≡ k = omega arith in
    let f : to + 64 ≡ to + 63 + 1 = omega arith in
    rw (e, f, puts-cons, puts-append, length-zeros)

pub turn-none : (d : List ℕ) (to left bit : ℕ) → left ≤ 0 → puts d to (turn_blocks left bit) ≡ d
unfolding turn_blocks
turn-none d to left bit h = let e : left ≡ 0 = omega arith in rw (e, puts-nil)

pub unused-written : (d : List ℕ) (at bit : ℕ) → puts (puts d at (zeros 64)) (at + 64) (turn_blocks 7 bit) ≡ puts d at (zeros 64 ++ turn_blocks 7 bit)
unused-written d at bit = rw (puts-append, length-zeros)

-- ---- the bit of an unused slot

in-lap : (groups lap slot : ℕ) → slot < groups → (groups * lap + slot) / groups % 2 ≡ lap % 2
in-lap groups lap slot h = rw (mul-add-div {m = groups} (omega arith) lap slot, div-eq_of_lt {n = slot} {m = groups} h) (omega arith)

module _ (slot first turn groups start : ℕ) (low : slot < groups) (f : first ≡ start % groups) (t : turn ≡ turn_of groups start) where
  here : start ≡ groups * (start / groups) + first
  here = omega (arith, div-add-mod start groups)

  least : first < groups
  least = rw f (mod-lt start (omega arith))

  pub bit-before : slot < first → turn ≡ 1 - turn_of groups (next_in groups start slot)
  unfolding next_in turn_of
  bit-before h =
      let e : (slot + groups - first) % groups ≡ slot + groups - first = mod-eq_of_lt (omega (arith, least)) in
      let n : start + (slot + groups - first) ≡ groups * (start / groups + 1) + slot = omega (arith, here, least, mul-suc groups (start / groups)) in
      rw (← f, e, n, in-lap groups (start / groups + 1) slot low, t) (omega arith)

  pub bit-from : first ≤ slot → 1 - turn ≡ 1 - turn_of groups (next_in groups start slot)
  unfolding next_in turn_of
  bit-from h =
      let e : (slot + groups - first) % groups ≡ slot - first =
      mod-eq-sub-mod {n = slot + groups - first} {m = groups} (omega arith) ∙ ap (λ (x : ℕ). x % groups) (omega arith) ∙ mod-eq_of_lt (omega arith) in
      let n : start + (slot - first) ≡ groups * (start / groups) + slot = omega (arith, here) in
      rw (← f, e, n, in-lap groups (start / groups) slot low, t)

-- ---- an empty log

pub slots-none : (d : List ℕ) (at groups start : ℕ) → d ≡ puts d at (unused_slots groups start 0)
unfolding unused_slots
slots-none d at groups start = sym (puts-nil d at)

pub slots-more : (c d : List ℕ) (groups start n bit : ℕ) → c ≡ puts d 64 (unused_slots groups start n)
    → bit ≡ 1 - turn_of groups (next_in groups start n)
    → puts c (64 + 512 * n) (zeros 64 ++ turn_blocks 7 bit) ≡ puts d 64 (unused_slots groups start (n + 1))
unfolding unused_slots unused_group
slots-more c d groups start n bit e b =
    rw (e, b, add-one n, puts-append d 64 (unused_slots groups start n), length-unused_slots)

pub empty-made : (d : List ℕ) (start groups homes : ℕ) → length d ≡ 64 + 512 * groups
    → puts (puts d 0 (header start groups homes)) 64 (unused_slots groups start groups) ≡ empty_log start groups homes
unfolding empty_log
empty-made d start groups homes l =
    let h : length (header start groups homes) ≡ 64 = length-header start groups homes in
    let s : length (unused_slots groups start groups) ≡ 512 * groups = length-unused_slots groups start groups in
    let e : puts (puts d 0 (header start groups homes)) 64 (unused_slots groups start groups) ≡ puts d 0 (header start groups homes ++ unused_slots groups start groups) =
    rw (puts-append, h) in
    e ∙ puts_whole d (header start groups homes ++ unused_slots groups start groups) (rw length-append (omega arith))
