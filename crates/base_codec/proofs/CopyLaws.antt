-- Laws of a copy in steps of two words: the words that were read, and a turn of the copy. Assumes nothing.
use mathlib.Core.Path.{◌≡◌, refl, sym, ap, ◌∙◌}
use mathlib.Core.List.{List, ◌++◌}
use Prim.Native.Nat.{ℕ, zero, suc, ◌+◌, ◌*◌, ◌/◌, ◌%◌, ◌≤◌, ◌<◌}
use native.Mathlib.Numerals.{add-one}
use native.Mathlib.Omega.{arith}
use lib.ListN.{length, get_or, drop, take-append-drop}
use lib.Seq.{drop-drop, take-add}
use Rattle.model.specs.Bytes.{part, puts, bytes, number, put_number}
use Rattle.model_laws.proofs.bytes.ByteLaws.{puts-append, length_part, number_more}
use Rattle.base_codec.proofs.BlockLaws.{part-cons}

-- the bytes of a number that was read
pub read-bytes : (k : ℕ) (xs : List ℕ) (at : ℕ) → ((i : ℕ) → get_or xs i 0 < 256) → at + k ≤ length xs → bytes k (number k xs at) ≡ part xs at k
unfolding bytes part
read-bytes zero xs at b h = refl
read-bytes (suc k) xs at b h =
    let e : number (suc k) xs at ≡ get_or xs at 0 + 256 * number k xs (at + 1) = rw (← add-one k) (number_more k xs at) in
    let p : number (suc k) xs at % 256 ≡ get_or xs at 0 = omega (arith, b at) in
    let q : number (suc k) xs at / 256 ≡ number k xs (at + 1) = omega (arith, b at) in
    rw (p, q, read-bytes k xs (at + 1) b (omega arith)) (sym (part-cons xs at k (omega arith)))

-- a part written, and what follows it
part_then : (d : List ℕ) (i : ℕ) (xs : List ℕ) (j n : ℕ) (rest : List ℕ) → j + n ≤ length xs
    → puts (puts d i (part xs j n)) (i + n) rest ≡ puts d i (part xs j n ++ rest)
part_then d i xs j n rest h = rw (puts-append, length_part xs j n h)

module _ (d : List ℕ) (i : ℕ) (xs : List ℕ) (j : ℕ) (h : j + 16 ≤ length xs) where
  pub words-put : ((k : ℕ) → get_or xs k 0 < 256) → put_number 8 (put_number 8 d i (number 8 xs j)) (i + 8) (number 8 xs (j + 8)) ≡ puts d i (part xs j 16)
  unfolding put_number part
  words-put b =
      rw (read-bytes 8 xs j b (omega arith), read-bytes 8 xs (j + 8) b (omega arith))
      (part_then d i xs j 8 (part xs (j + 8) 8) (omega arith) ∙ ap (λ (r : List ℕ). puts d i r) (rw (take-add 8 8 (drop j xs), drop-drop)))

  pub words-turn : puts (puts d i (part xs j 16)) (i + 16) (drop (j + 16) xs) ≡ puts d i (drop j xs)
  unfolding part
  words-turn = part_then d i xs j 16 (drop (j + 16) xs) h ∙ ap (λ (r : List ℕ). puts d i r) (rw (← drop-drop) (take-append-drop 16 (drop j xs)))
