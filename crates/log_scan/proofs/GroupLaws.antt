-- What a group says, test by test of its bytes, and a group as a part of the log. Assumes nothing.
use mathlib.Core.Path.{◌≡◌, refl, ◌∙◌}
use mathlib.Core.Bool.{Bool, true, false, ◌&&◌, and-false}
use mathlib.Core.List.{List}
use Prim.Native.Nat.{ℕ, ◌+◌, ◌-◌, ◌*◌, ◌%◌, ◌^◌, ◌≤◌, ◌<◌}
use native.Mathlib.Decide.{ℕ_discrete}
use native.Mathlib.Nat.{mod-eq_of_lt}
use native.Mathlib.Omega.{arith}
use borrow.Author.Tests.{eq-eqb, ne_eqb, ltb-true, le-leb, lt-leb}
use lib.Dec.{eqb, leb, ltb}
use lib.ListN.{length, get_or, set, take, drop}
use lib.Seq.{get_or-set_same, get_or-set_other}
use Rattle.model.specs.Bytes.{part, number, same}
use Rattle.model.specs.Tag.{read_tag}
use Rattle.model.specs.Layout.{group_mark, group_offset, group_at, group_number, tag_offset, group_tag, block_offset, group_block, group_valid, top_bit, word_there}

-- ---- a group's tags

pub tag_read : (group : List ℕ) (k word position base homes : ℕ) → word ≡ number 8 group (8 + 8 * k)
    → read_tag word position base homes ≡ read_tag (group_tag group k) position base homes
unfolding group_tag tag_offset
tag_read group k word position base homes e = rw e

-- a tag's word, by its block's top bit
module _ (group : List ℕ) (turn k : ℕ) where
  pub word-other : (top_bit (part group (64 + 64 * k) 64) ≡ turn → ⊥) → 0 ≡ word_there group turn k
  unfolding word_there group_block block_offset
  word-other h = rw (ne_eqb (top_bit (part group (64 + 64 * k) 64)) turn h)

  pub word_fits : top_bit (part group (64 + 64 * k) 64) ≡ turn → number 8 group (8 + 8 * k) ≡ word_there group turn k
  unfolding word_there group_block block_offset group_tag tag_offset
  word_fits h = rw (eq-eqb (top_bit (part group (64 + 64 * k) 64)) turn h)

-- one word more of those read in a row
pub words_more : (group : List ℕ) (turn : ℕ) (words : List ℕ) (k word : ℕ) → length words ≡ 7 → k < 7 → word ≡ word_there group turn k
    → ((j : ℕ) → j < k → get_or words j 0 ≡ word_there group turn j) → (j : ℕ) → j < k + 1 → get_or (set words k word) j 0 ≡ word_there group turn j
words_more group turn words k word l h e q j m = go (ℕ_discrete j k)
  where
    go : Dec (j ≡ k) → get_or (set words k word) j 0 ≡ word_there group turn j
    go (yes z) = rw z (get_or-set_same words k word 0 (omega arith) ∙ e)
    go (no z) = get_or-set_other words k j word 0 z ∙ q j (omega arith)

-- ---- a group's tests

module _ (group : List ℕ) (groups start n : ℕ) where
  -- its mark, and its number in six bytes
  abbrev head : Bool
  head = same (part group 0 2) group_mark && eqb (number 6 group 2) (n % 2 ^ 48)

  valid-head : start + groups < 2 ^ 48 → group_valid group groups start n ≡ (head && leb start n && ltb n (start + groups))
  unfolding group_valid group_number
  valid-head h = go (ltb n (start + groups)) refl
    where
      go : (b : Bool) → ltb n (start + groups) ≡ b
          → (same (part group 0 2) group_mark && eqb (number 6 group 2) n && leb start n && ltb n (start + groups)) ≡ (head && leb start n && ltb n (start + groups))
      go false e = simp (e, and-false)
      go true e = let f : n % 2 ^ 48 ≡ n = mod-eq_of_lt (omega (arith, ltb-true n (start + groups) e)) in rw f

  pub valid-other : start + groups < 2 ^ 48 → (same (part group 0 2) group_mark && eqb (number 6 group 2) (n % 2 ^ 48)) ≡ false → false ≡ group_valid group groups start n
  valid-other h e = rw (valid-head h, e)

  pub valid-before : n < start → false ≡ group_valid group groups start n
  unfolding group_valid
  valid-before h = simp (lt-leb start n h, and-false)

  pub valid-range : start + groups < 2 ^ 48 → (same (part group 0 2) group_mark && eqb (number 6 group 2) (n % 2 ^ 48)) ≡ true → start ≤ n
      → ltb n (start + groups) ≡ group_valid group groups start n
  valid-range h e g = rw (valid-head h, e, le-leb start n g)

-- ---- a group as a part of the log

pub part-group : (log : List ℕ) (slot from : ℕ) → from ≡ 64 + 512 * slot → take (from + 512 - from) (drop from log) ≡ group_at log slot
unfolding group_at part group_offset
part-group log slot from e = let d : from + 512 - from ≡ 512 = omega arith in rw (d, e)
