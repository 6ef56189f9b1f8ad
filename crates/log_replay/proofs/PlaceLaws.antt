-- Places of the log by their offset from its start: the ring slot, the group and the block. Assumes nothing.
use mathlib.Core.Path.{◌≡◌, refl, sym, ap, ◌∙◌}
use mathlib.Core.Bool.{Bool, true, false, cond, false≢true}
use mathlib.Core.List.{List}
use Prim.Native.Nat.{ℕ, ◌+◌, ◌-◌, ◌*◌, ◌/◌, ◌%◌, ◌≤◌, ◌<◌}
use native.Mathlib.Nat.{mod-eq_of_lt, mod-eq-sub-mod, mod-add-mod}
use native.Mathlib.Omega.{arith}
use lib.Dec.{eqb}
use lib.ListN.{take, drop}
use Rattle.model.specs.Bytes.{number, puts}
use Rattle.model.specs.Tag.{present, read_tag}
use Rattle.model.specs.Layout.{group_at, group_tag, tag_offset, group_block, group_valid, turn_of, top_bit, slot_of, index_of, word_there, entry_within, block_of, entry_at, block_at, put_home}
use Rattle.model.specs.declared.Tag.{Tag}
use Rattle.model.specs.declared.Tag.TheVariants.{Nothing}
use Rattle.model_laws.proofs.bytes.TagLaws.{read-zero}
use Rattle.log_scan.proofs.GroupLaws.{part-group}

-- ---- ring slots

pub slot-within : (slot n groups : ℕ) → slot + n < groups → slot + n ≡ (slot + n) % groups
slot-within slot n groups h = sym (mod-eq_of_lt h)

pub slot-past : (slot n groups next : ℕ) → slot < groups → n < groups → groups ≤ slot + n → next ≡ slot + n - groups → next ≡ (slot + n) % groups
slot-past slot n groups next a b h e = e ∙ sym (mod-eq-sub-mod h ∙ mod-eq_of_lt (omega arith))

-- the slot of an offset
module _ (groups start offset slot r : ℕ) (e : slot ≡ start % groups) (f : r ≡ (slot + offset / 7) % groups) where
  pub offset-slot : r ≡ (7 * start + offset) / 7 % groups
  offset-slot =
      let z : (7 * start + offset) / 7 ≡ start + offset / 7 = omega arith in
      f ∙ rw (e, z, mod-add-mod)

offset-index : (start offset : ℕ) → (7 * start + offset) % 7 ≡ offset % 7
offset-index start offset = omega arith

-- ---- what stands at an offset

-- an entry that is there stands in a valid group, and its block has the turn
module _ (log : List ℕ) (groups homes start offset slot from : ℕ) (s : slot ≡ (7 * start + offset) / 7 % groups) (g : from ≡ 64 + 512 * slot)
    (there : present (entry_at log groups homes start (7 * start + offset)) ≡ true) where
  pub entry_read : read_tag (group_tag (take (from + 512 - from) (drop from log)) (offset % 7)) (7 * start + offset) (7 * start) homes
      ≡ entry_at log groups homes start (7 * start + offset)
  unfolding entry_at entry_within index_of slot_of present word_there
  entry_read =
      let a : take (from + 512 - from) (drop from log) ≡ group_at log ((7 * start + offset) / 7 % groups) = part-group log slot from g ∙ ap (group_at log) s in
      let n : ℕ = (7 * start + offset) / 7 in
      let group : List ℕ = group_at log (n % groups) in
      rw (a, ← offset-index start offset)
      (go (group_valid group groups start n) (eqb (top_bit (group_block group ((7 * start + offset) % 7))) (turn_of groups n)) there)
    where
      w : ℕ
      w = group_tag (group_at log ((7 * start + offset) / 7 % groups)) ((7 * start + offset) % 7)

      read : ℕ → Tag
      read x = read_tag x (7 * start + offset) (7 * start) homes

      go : (b c : Bool) → present (cond b (read (cond c w 0)) Nothing) ≡ true → read w ≡ cond b (read (cond c w 0)) Nothing
      go true true h = refl
      go true false h = let z : present (read 0) ≡ false = ap present (read-zero (7 * start + offset) (7 * start) homes) in absurd (false≢true (sym z ∙ h))
      go false c h = absurd (false≢true h)

-- the word of a tag by its number
pub word_read : (group : List ℕ) (k word position base homes : ℕ) → word ≡ number 8 group (8 + 8 * k)
    → read_tag word position base homes ≡ read_tag (group_tag group k) position base homes
unfolding group_tag tag_offset
word_read group k word position base homes e = rw e

-- ---- the block at an offset

pub copied : (log area d : List ℕ) (groups start offset slot home : ℕ) → d ≡ puts area (64 * home) (block_of (group_at log slot) (offset % 7))
    → slot ≡ (7 * start + offset) / 7 % groups → d ≡ put_home area home (block_at log groups (7 * start + offset))
unfolding put_home block_at slot_of index_of
copied log area d groups start offset slot home e s = rw (offset-index start offset, ← s) e
