-- Laws of turns (specs/Layout): the top bit of a block's last byte, read and replaced; the turn of a group; the group that a ring slot gets next.
-- A law takes its variables in the order in which its left side first names them, then its premises. Assumes nothing.
use mathlib.Core.Path.{◌≡◌, refl, ap, ◌∙◌}
use mathlib.Core.List.{List, [], ◌∷◌}
use Prim.Native.Nat.{ℕ, zero, suc, ◌+◌, ◌-◌, ◌*◌, ◌/◌, ◌%◌, ◌^◌, ◌≤◌, ◌<◌}
use native.Mathlib.Nat.{mod-lt, div-add-mod, add-mod-mod, add-div_right, mul-add-mod_self_left, add-mod_right}
use native.Mathlib.Omega.{arith}
use lib.ListN.{length}
use Rattle.model.specs.Bytes.{puts, value, number}
use Rattle.model.specs.Tag.{field}
use Rattle.model.specs.Layout.{turn_of, top_bit, with_top_bit, next_in}
use Rattle.model_laws.proofs.bytes.ByteLaws.{length-puts, number-inside}

-- ---- the top bit

pub top_bit-lt : (block : List ℕ) → top_bit block < 2
unfolding top_bit field
top_bit-lt block = omega arith

pub length-with_top_bit : (block : List ℕ) (bit : ℕ) → length (with_top_bit block bit) ≡ length block
unfolding with_top_bit
length-with_top_bit block bit = length-puts block 63 _

-- one byte written, and written over
pub byte-number : (v : ℕ) → number 1 (v ∷ []) 0 ≡ v
unfolding number value
byte-number v = omega arith

byte-written : (d : List ℕ) (at v : ℕ) → at < length d → number 1 (puts d at (v ∷ [])) at ≡ v
byte-written d at v h =
    let e : at + 0 ≡ at = omega arith in
    rw e at (number-inside 1 d at (v ∷ []) 0 (omega arith) (omega arith)) ∙ byte-number v

byte-over : (d : List ℕ) (at v u : ℕ) → puts (puts d at (v ∷ [])) at (u ∷ []) ≡ puts d at (u ∷ [])
unfolding puts
byte-over [] at v u = refl
byte-over (x ∷ d) (suc at) v u = ap {B = List ℕ} (λ r. x ∷ r) (byte-over d at v u)
byte-over (x ∷ d) zero v u = ap {B = List ℕ} (λ r. u ∷ r) (none d)
  where
    none : (d : List ℕ) → puts (puts d 0 []) 0 [] ≡ puts d 0 []
    none [] = refl
    none (y ∷ d) = refl

byte-kept : (d : List ℕ) (at : ℕ) → puts d at (number 1 d at ∷ []) ≡ d
unfolding puts number value
byte-kept [] at = refl
byte-kept (x ∷ d) (suc at) = ap {B = List ℕ} (λ r. x ∷ r) (byte-kept d at)
byte-kept (x ∷ d) zero = let e : x + 256 * 0 ≡ x = omega arith in rw e (ap {B = List ℕ} (λ r. x ∷ r) (none d))
  where
    none : (d : List ℕ) → puts d 0 [] ≡ d
    none [] = refl
    none (y ∷ d) = refl

-- a block that differs in its last byte alone, and there in the top bit alone
over : (block changed : List ℕ) (v other : ℕ) → changed ≡ puts block 63 (v ∷ [])
    → number 1 changed 63 - 2 ^ 7 * top_bit changed ≡ number 1 block 63 - 2 ^ 7 * top_bit block
    → with_top_bit changed other ≡ with_top_bit block other
unfolding with_top_bit
over block changed v other e f = rw (f, e) (byte-over block 63 v _)

module _ (block : List ℕ) (bit : ℕ) (size : length block ≡ 64) (small : bit < 2) where
  last_byte : number 1 (with_top_bit block bit) 63 ≡ number 1 block 63 - 2 ^ 7 * top_bit block + 2 ^ 7 * bit
  unfolding with_top_bit
  last_byte = byte-written block 63 _ (omega arith)

  pub top_bit-with : top_bit (with_top_bit block bit) ≡ bit
  unfolding top_bit field
  top_bit-with = rw last_byte (omega arith)

  pub with-with : (other : ℕ) → with_top_bit (with_top_bit block bit) other ≡ with_top_bit block other
  unfolding with_top_bit
  with-with other = over block (with_top_bit block bit) _ other refl (rw (last_byte, top_bit-with) (omega arith))

-- the top bit back in its place
pub with-own : (block : List ℕ) → with_top_bit block (top_bit block) ≡ block
unfolding with_top_bit top_bit field
with-own block =
    let x : ℕ = number 1 block 63 in
    let e : x - 2 ^ 7 * (x / 2 ^ 7 % 2 ^ 1) + 2 ^ 7 * (x / 2 ^ 7 % 2 ^ 1) ≡ x = omega arith in
    rw e (byte-kept block 63)

pub turn-back : (block : List ℕ) (bit : ℕ) → length block ≡ 64 → bit < 2 → with_top_bit (with_top_bit block bit) (top_bit block) ≡ block
turn-back block bit size small = with-with block bit size small (top_bit block) ∙ with-own block

-- ---- turns

pub turn_of-lt : (groups n : ℕ) → turn_of groups n < 2
unfolding turn_of
turn_of-lt groups n = omega arith

-- the next group of a ring slot has the other turn
pub turn_of-next : (groups n : ℕ) → 0 < groups → turn_of groups (n + groups) ≡ 1 - turn_of groups n
unfolding turn_of
turn_of-next groups n h = rw (add-div_right n h) (omega arith)

-- ---- the group that a slot gets next

pub next_in-from : (groups start slot : ℕ) → start ≤ next_in groups start slot
unfolding next_in
next_in-from groups start slot = omega arith

pub next_in-within : (groups start slot : ℕ) → 0 < groups → next_in groups start slot < start + groups
unfolding next_in
next_in-within groups start slot h = omega (arith, mod-lt (slot + groups - start % groups) h)

pub next_in-slot : (groups start slot : ℕ) → slot < groups → next_in groups start slot % groups ≡ slot % groups
unfolding next_in
next_in-slot groups start slot h =
    let q : ℕ = start / groups in
    let l : start % groups < groups = mod-lt start (omega arith) in
    let e : start + (slot + groups - start % groups) ≡ groups * q + (slot + groups) = omega (arith, div-add-mod start groups) in
    add-mod-mod start (slot + groups - start % groups) groups
    ∙ ap (λ (x : ℕ). x % groups) e
    ∙ mul-add-mod_self_left groups q (slot + groups)
    ∙ add-mod_right slot groups
