-- Laws of unused ring slots and of the empty log (specs/Layout), which format and an opening leave.
-- A law takes its variables in the order in which its left side first names them, then its premises. Assumes nothing.
use mathlib.Core.Path.{◌≡◌, refl, sym, ap, ◌∙◌}
use mathlib.Core.Bool.{Bool, true, false}
use mathlib.Core.List.{List, ◌++◌}
use Prim.Native.Nat.{ℕ, zero, suc, ◌+◌, ◌-◌, ◌*◌, ◌%◌, ◌^◌, ◌≤◌, ◌<◌}
use native.Mathlib.Nat.{mod-lt, mod-mod}
use native.Mathlib.Omega.{arith}
use borrow.Author.Tests.{eqb-true, eqb-false}
use lib.Dec.{eqb}
use lib.ListN.{length, length-append}
use Rattle.model.specs.Bytes.{part, puts, zeros, same}
use Rattle.model.specs.Layout.{header, header_start, header_right, group_mark, group_offset, group_at, group_block, group_valid, turn_of, top_bit, next_in, unused_group, unused_slots, empty_log}
use Rattle.model_laws.proofs.bytes.ByteLaws.{length-zeros, puts-front, part-whole}
use Rattle.model_laws.proofs.bytes.TurnLaws.{next_in-from, next_in-within, next_in-slot}
use Rattle.model_laws.proofs.bytes.LayoutLaws.{part-after, part-of-front, length-header, length-turn_blocks, turn_blocks-turn, header-start, header-right, ring}

-- ---- an unused group

module _ (groups start slot : ℕ) where
  pub length-unused_group : length (unused_group groups start slot) ≡ 512
  unfolding unused_group
  length-unused_group = simp (length-append, length-zeros, length-turn_blocks)

  pub unused-mark : same (part (unused_group groups start slot) 0 2) group_mark ≡ false
  unfolding unused_group zeros part same
  unused-mark = refl

  pub unused-valid : (G s n : ℕ) → group_valid (unused_group groups start slot) G s n ≡ false
  unfolding group_valid
  unused-valid G s n = rw unused-mark

  pub unused-turn : (k : ℕ) → k < 7 → top_bit (group_block (unused_group groups start slot) k) ≡ 1 - turn_of groups (next_in groups start slot)
  unfolding unused_group
  unused-turn k h = turn_blocks-turn (zeros 64) (1 - turn_of groups (next_in groups start slot)) k (length-zeros 64) (omega arith) h

-- the slot of a group that belongs to the log that starts there
pub next_in-own : (groups start n : ℕ) → start ≤ n → n < start + groups → next_in groups start (n % groups) ≡ n
next_in-own groups start n l h =
    ring start groups (next_in groups start (n % groups)) n (next_in-from groups start (n % groups)) (next_in-within groups start (n % groups) (omega arith)) l h
    (next_in-slot groups start (n % groups) (mod-lt n (omega arith)) ∙ mod-mod n groups)

-- its data blocks have the opposite of that group's turn
pub unused-opposite : (groups start n k : ℕ) → start ≤ n → n < start + groups → k < 7
    → top_bit (group_block (unused_group groups start (n % groups)) k) ≡ 1 - turn_of groups n
unused-opposite groups start n k l h i = unused-turn groups start (n % groups) k i ∙ ap (λ (x : ℕ). 1 - turn_of groups x) (next_in-own groups start n l h)

-- ---- unused slots

module _ (groups start : ℕ) where
  pub length-unused_slots : (n : ℕ) → length (unused_slots groups start n) ≡ 512 * n
  unfolding unused_slots
  length-unused_slots zero = refl
  length-unused_slots (suc n) = rw (length-append, length-unused_slots n, length-unused_group groups start n) (omega arith)

  slot-part : (n slot : ℕ) → slot < n → part (unused_slots groups start n) (512 * slot) 512 ≡ unused_group groups start slot
  unfolding unused_slots
  slot-part zero slot h = absurd (omega arith)
  slot-part (suc n) slot h = go (eqb slot n) refl (slot-part n slot)
    where
      go : (b : Bool) → eqb slot n ≡ b → (slot < n → part (unused_slots groups start n) (512 * slot) 512 ≡ unused_group groups start slot)
          → part (unused_slots groups start n ++ unused_group groups start n) (512 * slot) 512 ≡ unused_group groups start slot
      go true t f =
          let e : slot ≡ n = eqb-true slot n t in
          let z : 512 * n ≡ 512 * n + 0 = omega arith in
          rw (e, z)
          (part-after (unused_slots groups start n) (unused_group groups start n) (512 * n) 0 512 (length-unused_slots n)
          ∙ part-whole (unused_group groups start n) 512 (omega (arith, length-unused_group groups start n)))
      go false t f =
          let d : slot < n = omega (arith, eqb-false slot n t) in
          sym (part-of-front (unused_slots groups start n) (unused_group groups start n) (512 * n) (512 * slot) 512 (length-unused_slots n) (omega arith)) ∙ f d

-- ---- the empty log

module _ (start groups homes : ℕ) where
  pub length-empty_log : length (empty_log start groups homes) ≡ 64 + 512 * groups
  unfolding empty_log
  length-empty_log = rw (length-append, length-header, length-unused_slots)

  own-header : puts (empty_log start groups homes) 0 (header start groups homes) ≡ empty_log start groups homes
  unfolding empty_log
  own-header = puts-front (header start groups homes) (unused_slots groups start groups) (header start groups homes) refl

  pub empty_log-start : start < 256 ^ 6 → header_start (empty_log start groups homes) ≡ start
  empty_log-start h = ap header_start (sym own-header) ∙ header-start (empty_log start groups homes) start groups homes h (omega (arith, length-empty_log))

  pub empty_log-right : groups < 65536 → homes < 65536 → header_right (empty_log start groups homes) groups homes ≡ true
  empty_log-right g d =
      ap (λ (l : List ℕ). header_right l groups homes) (sym own-header)
      ∙ header-right (empty_log start groups homes) start groups homes g d (omega (arith, length-empty_log))

  pub empty_log-group : (slot : ℕ) → slot < groups → group_at (empty_log start groups homes) slot ≡ unused_group groups start slot
  unfolding group_at group_offset empty_log
  empty_log-group slot h =
      part-after (header start groups homes) (unused_slots groups start groups) 64 (512 * slot) 512 (length-header start groups homes)
      ∙ slot-part groups start groups slot h
