-- "A tag is a 64-bit word: bit 0 used, bit 1 closing, bits 2–13 home, bits 14–26 distance back to the transaction's first entry, bits 27–39
-- distance back to the previous closing entry (0: none since the start), bits 40–52 number of entries, 53–63 zero. Bits 27–52 are zero unless
-- closing." "Tag bits 53 to 56 carry the home's bits 12 to 15, so they leave the zero bits of document 01, and a tag reads a 16-bit home." "the bit it
-- displaces goes into tag bit 57, which is no longer a zero bit in a used tag."
use Rattle.std.specs.Prelude.{ℕ, ◌+◌, ◌-◌, ◌*◌, ◌/◌, ◌%◌, ◌^◌, Bool, true, false, cond, eqb, leb}
use Rattle.model.specs.declared.Tag.{Tag}
use Rattle.model.specs.declared.Tag.TheVariants.{Nothing, Entry, Closing}

-- the word of a tag; `closing` is 0 or 1 [S-12]
unfoldable pub tag_word : ℕ → ℕ → ℕ → ℕ → ℕ → ℕ
tag_word closing home back link count =
    1 + 2 * closing + 2 ^ 2 * (home % 2 ^ 12) + 2 ^ 14 * back + 2 ^ 27 * link + 2 ^ 40 * count + 2 ^ 53 * (home / 2 ^ 12)

-- an entry that does not close, and a closing one
unfoldable pub entry_word : ℕ → ℕ → ℕ
entry_word home back = tag_word 0 home back 0 0

unfoldable pub closing_word : ℕ → ℕ → ℕ → ℕ → ℕ
closing_word home back link count = tag_word 1 home back link count

-- a word with the bit that its block's turn bit displaced; the words above leave bit 57 zero
unfoldable pub with_displaced : ℕ → ℕ → ℕ
with_displaced word bit = word + 2 ^ 57 * bit

-- the number in a word's bits from `low` on, `width` of them
unfoldable pub field : ℕ → ℕ → ℕ → ℕ
field word low width = word / 2 ^ low % 2 ^ width

-- the displaced bit in a word
unfoldable pub displaced : ℕ → ℕ
displaced word = field word 57 1

-- a test that must hold for a tag to say anything
unfoldable pub says : Bool → Tag → Tag
says true t = t
says false t = Nothing

-- the home in a word: its low 12 bits, and above them bits 12 to 15
abbrev pub home_field : ℕ → ℕ
home_field word = field word 2 12 + 2 ^ 12 * field word 53 4

-- the tag that the fields make: used, closing, bits 58 to 63, bits 27 to 52, home, distance back, link and count, at a position, with the
-- position where the log starts and the number of homes.
-- "It reads as nothing if unused, if a zero bit is set, if home ≥ D, if the first entry would lie before the start, or if it closes with
-- number 0."
unfoldable pub read_fields : ℕ → ℕ → ℕ → ℕ → ℕ → ℕ → ℕ → ℕ → ℕ → ℕ → ℕ → Tag
read_fields used closing above upper home back link count position base homes =
    says (eqb used 1)
    (says (eqb above 0)
    (says (leb (home + 1) homes)
    (says (leb (base + back) position)
    (cond (eqb closing 0)
    (says (eqb upper 0) (Entry home (position - back)))
    (says (leb 1 count) (Closing home (position - back) link count))))))

-- the tag that a word reads as [S-13]
unfoldable pub read_tag : ℕ → ℕ → ℕ → ℕ → Tag
read_tag word position base homes =
    read_fields (field word 0 1) (field word 1 1) (field word 58 6) (field word 27 26) (home_field word) (field word 14 13) (field word 27 13)
    (field word 40 13) position base homes

-- "Logs of smaller stations read as they did": how a word read while a home had 12 bits, the ones above bit 52 all zero. Only the law that
-- compares the two readers names it, for words without a displaced bit. [S-16]
unfoldable pub read_small_tag : ℕ → ℕ → ℕ → ℕ → Tag
read_small_tag word position base homes =
    read_fields (field word 0 1) (field word 1 1) (field word 53 11) (field word 27 26) (field word 2 12) (field word 14 13) (field word 27 13)
    (field word 40 13) position base homes

-- the parts of a tag
unfoldable pub present : Tag → Bool
present Nothing = false
present (Entry h f) = true
present (Closing h f l c) = true

unfoldable pub home_of : Tag → ℕ
home_of Nothing = 0
home_of (Entry h f) = h
home_of (Closing h f l c) = h

-- whether a tag is an entry of the transaction whose first position is f ("a closing entry is an entry")
unfoldable pub belongs : ℕ → Tag → Bool
belongs f Nothing = false
belongs f (Entry h g) = eqb f g
belongs f (Closing h g l c) = eqb f g
