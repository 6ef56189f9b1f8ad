-- Maps of marks: words of 64 bits, bit i of the map for home i.
-- "Touched homes are marked one bit each in words of 64; the lowest marked goes next."
use Rattle.std.specs.Prelude.{ℕ, ◌+◌, ◌/◌, ◌%◌, ◌^◌, Bool, cond, List, [], ◌∷◌, eqb, get_or, set}
use Rattle.model.specs.Effects.{marked}

-- whether bit k of a word is set
unfoldable pub bit : ℕ → ℕ → Bool
bit w k = eqb (w / 2 ^ k % 2) 1

-- whether a map marks i
unfoldable pub marks : List ℕ → ℕ → Bool
marks ws i = bit (get_or ws (i / 64) 0) (i % 64)

-- the bits that are set in a word, rising
unfoldable pub bits_of : ℕ → List ℕ
bits_of w = marked (bit w) 64

-- numbers, each raised by a base: the homes of a word's bits, where the word's first home is the base
unfoldable pub raised : ℕ → List ℕ → List ℕ
raised base [] = []
raised base (k ∷ ks) = (base + k) ∷ raised base ks

-- a word with bit k set, and a map that marks i too
unfoldable pub with_bit : ℕ → ℕ → ℕ
with_bit w k = cond (bit w k) w (w + 2 ^ k)

unfoldable pub with_mark : List ℕ → ℕ → List ℕ
with_mark ws i = set ws (i / 64) (with_bit (get_or ws (i / 64) 0) (i % 64))
