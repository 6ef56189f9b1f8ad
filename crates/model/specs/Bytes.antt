-- Numbers and blocks in lists of bytes. "All numbers are little-endian."
use Rattle.std.specs.Prelude.{ℕ, zero, suc, ◌+◌, ◌*◌, ◌/◌, ◌%◌, Bool, true, false, ◌&&◌, List, [], ◌∷◌, eqb, take, drop, replicate}

-- the n bytes from index `at` on
unfoldable pub part : List ℕ → ℕ → ℕ → List ℕ
part xs at n = take n (drop at xs)

-- xs with ys written over it from index `at` on; what would lie past the end of xs is dropped
unfoldable pub puts : List ℕ → ℕ → List ℕ → List ℕ
puts [] at ys = []
puts (x ∷ xs) (suc at) ys = x ∷ puts xs at ys
puts (x ∷ xs) zero [] = x ∷ xs
puts (x ∷ xs) zero (y ∷ ys) = y ∷ puts xs zero ys

-- n zeros
unfoldable pub zeros : ℕ → List ℕ
zeros n = replicate n 0

-- a number as k bytes, lowest first
unfoldable pub bytes : ℕ → ℕ → List ℕ
bytes zero v = []
bytes (suc k) v = v % 256 ∷ bytes k (v / 256)

-- the number that the first k bytes make
unfoldable pub value : ℕ → List ℕ → ℕ
value zero bs = 0
value (suc k) [] = 0
value (suc k) (b ∷ bs) = b + 256 * value k bs

-- the number of k bytes at index `at`, read and written
unfoldable pub number : ℕ → List ℕ → ℕ → ℕ
number k xs at = value k (drop at xs)

unfoldable pub put_number : ℕ → List ℕ → ℕ → ℕ → List ℕ
put_number k xs at v = puts xs at (bytes k v)

-- whether two byte strings are the same
unfoldable pub same : List ℕ → List ℕ → Bool
same [] [] = true
same [] (y ∷ ys) = false
same (x ∷ xs) [] = false
same (x ∷ xs) (y ∷ ys) = eqb x y && same xs ys

-- the length of a block
abbrev pub block_bytes : ℕ
block_bytes = 64
