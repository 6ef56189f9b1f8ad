-- Fields and decimal numbers in the text of a script.
use Rattle.std.specs.Prelude.{ℕ, suc, ◌+◌, ◌-◌, ◌*◌, cond, ◌&&◌, List, [], ◌∷◌, eqb, leb}

-- the index of the first byte `stop`, or the length
unfoldable pub index_of : ℕ → List ℕ → ℕ
index_of stop [] = 0
index_of stop (b ∷ bs) = cond (eqb b stop) 0 (suc (index_of stop bs))

-- "all decimal"; "Numbers are at most 65,535": what stands for anything else
abbrev pub no_number : ℕ
no_number = 65536

-- the value of a digit, 10 for any other byte
unfoldable pub digit_of : ℕ → ℕ
digit_of b = cond (leb 48 b && leb b 57) (b - 48) 10

-- the number that some bytes spell after what has been read already; leading zeros are fine
unfoldable pub decimal_from : ℕ → List ℕ → ℕ
decimal_from value [] = value
decimal_from value (b ∷ bs) =
    let next : ℕ = 10 * value + digit_of b in
    cond (leb (digit_of b) 9 && leb next 65535) (decimal_from next bs) no_number

unfoldable pub decimal : List ℕ → ℕ
decimal [] = no_number
decimal (b ∷ bs) = decimal_from 0 (b ∷ bs)
