-- A tag whose closing bit is not set closes nothing, and one that closes a transaction which begins at the limit or after lowers nothing. Assumes nothing.
use mathlib.Core.Path.{◌≡◌, refl, sym, ap, ◌∙◌}
use mathlib.Core.Bool.{Bool, true, false, cond}
use mathlib.Core.List.{List}
use Prim.Native.Nat.{ℕ, ◌+◌, ◌-◌, ◌*◌, ◌/◌, ◌≤◌}
use native.Mathlib.Omega.{arith}
use lib.Dec.{eqb, leb}
use lib.Bits.{bit_and, and_high}
use borrow.Author.Tests.{eq-eqb}
use Rattle.model.specs.Bytes.{number}
use Rattle.model.specs.Tag.{field, says, read_fields, read_tag}
use Rattle.model.specs.Layout.{top_bit, group_block, group_tag, tag_offset, word_there}
use Rattle.model.specs.declared.Tag.{Tag}
use Rattle.model.specs.declared.Tag.TheVariants.{Entry, Closing}
use Rattle.log_limits.specs.Limits.{span_limit}

-- a tag that leaves the limit still does behind a test
says-quiet : (b : Bool) (t : Tag) (limit : ℕ) → span_limit t limit ≡ limit → span_limit (says b t) limit ≡ limit
unfolding says span_limit
says-quiet true t limit e = e
says-quiet false t limit e = refl

entry-quiet : (h f limit : ℕ) → span_limit (Entry h f) limit ≡ limit
unfolding span_limit
entry-quiet h f limit = refl

fields-quiet : (used closing above upper home back link count position base homes limit : ℕ) → closing ≡ 0
    → span_limit (read_fields used closing above upper home back link count position base homes) limit ≡ limit
unfolding read_fields
fields-quiet used closing above upper home back link count position base homes limit z =
    says-quiet (eqb used 1) _ limit
    (says-quiet (eqb above 0) _ limit
    (says-quiet (leb (home + 1) homes) _ limit
    (says-quiet (leb (base + back) position) _ limit (rw (eq-eqb closing 0 z) (says-quiet (eqb upper 0) _ limit (entry-quiet home _ limit))))))

word-quiet : (word position base homes limit : ℕ) → bit_and word 2 ≡ 0 → span_limit (read_tag word position base homes) limit ≡ limit
unfolding read_tag field
word-quiet word position base homes limit e =
    fields-quiet _ _ _ _ _ _ _ _ position base homes limit (omega (arith, sym (and_high word 1 1) ∙ e))

-- whatever its data block is
pub open-quiet : (group : List ℕ) (turn k position base homes limit : ℕ) → bit_and (number 8 group (8 + 8 * k)) 2 ≡ 0
    → limit ≡ span_limit (read_tag (word_there group turn k) position base homes) limit
unfolding word_there group_tag tag_offset
open-quiet group turn k position base homes limit e = sym (go (eqb (top_bit (group_block group k)) turn))
  where
    go : (b : Bool) → span_limit (read_tag (cond b (number 8 group (8 + 8 * k)) 0) position base homes) limit ≡ limit
    go true = word-quiet (number 8 group (8 + 8 * k)) position base homes limit e
    go false = word-quiet 0 position base homes limit refl

closing-far : (h f link count limit : ℕ) → limit ≤ f / 7 → span_limit (Closing h f link count) limit ≡ limit
unfolding span_limit
closing-far h f link count limit l = omega arith

fields-far : (used closing above upper home back link count position base homes limit : ℕ) → limit ≤ (position - back) / 7
    → span_limit (read_fields used closing above upper home back link count position base homes) limit ≡ limit
unfolding read_fields
fields-far used closing above upper home back link count position base homes limit l =
    says-quiet (eqb used 1) _ limit
    (says-quiet (eqb above 0) _ limit
    (says-quiet (leb (home + 1) homes) _ limit
    (says-quiet (leb (base + back) position) _ limit (go (eqb closing 0)))))
  where
    go : (b : Bool) → span_limit (cond b (says (eqb upper 0) (Entry home (position - back))) (says (leb 1 count) (Closing home (position - back) link count))) limit ≡ limit
    go true = says-quiet (eqb upper 0) _ limit (entry-quiet home _ limit)
    go false = says-quiet (leb 1 count) _ limit (closing-far home _ link count limit l)

word-far : (word position base homes limit : ℕ) → limit ≤ (position - field word 14 13) / 7 → span_limit (read_tag word position base homes) limit ≡ limit
unfolding read_tag
word-far word position base homes limit l = fields-far _ _ _ _ _ _ _ _ position base homes limit l

-- whatever its data block is
pub far-quiet : (group : List ℕ) (turn k position base homes limit : ℕ) → limit ≤ (position - field (number 8 group (8 + 8 * k)) 14 13) / 7
    → limit ≡ span_limit (read_tag (word_there group turn k) position base homes) limit
unfolding word_there group_tag tag_offset
far-quiet group turn k position base homes limit l = sym (go (eqb (top_bit (group_block group k)) turn))
  where
    go : (b : Bool) → span_limit (read_tag (cond b (number 8 group (8 + 8 * k)) 0) position base homes) limit ≡ limit
    go true = word-far (number 8 group (8 + 8 * k)) position base homes limit l
    go false = word-quiet 0 position base homes limit refl

-- the limit by a word that was read
pub span-read : (word there position base homes limit r : ℕ) → r ≡ span_limit (read_tag word position base homes) limit → word ≡ there
    → r ≡ span_limit (read_tag there position base homes) limit
span-read word there position base homes limit r e w = e ∙ ap (λ (x : ℕ). span_limit (read_tag x position base homes) limit) w
