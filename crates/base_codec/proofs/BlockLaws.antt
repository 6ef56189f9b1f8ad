-- Laws of a run of bytes that is tested for zeros from its first byte on: a turn by a byte or a word, a stop and the end. Assumes nothing.
use mathlib.Core.Path.{◌≡◌, refl, sym, ◌∙◌}
use mathlib.Core.Bool.{Bool, true, false, ◌&&◌}
use mathlib.Core.List.{List, ◌∷◌}
use Prim.Native.Nat.{ℕ, zero, suc, ◌+◌, ◌-◌, ◌*◌, ◌≤◌, ◌<◌}
use native.Mathlib.Numerals.{add-one}
use native.Mathlib.Omega.{arith}
use borrow.Author.Tests.{eq-eqb, ne_eqb, eqb-true, eqb-false}
use lib.Dec.{eqb}
use lib.ListN.{length, get_or}
use lib.Seq.{drop-cons}
use Rattle.model.specs.Bytes.{part, zeros, same, number}
use Rattle.model_laws.proofs.bytes.ByteLaws.{number-none, number_more}

-- a part by its first byte and the rest
pub part-cons : (s : List ℕ) (i n : ℕ) → i < length s → part s i (suc n) ≡ get_or s i 0 ∷ part s (i + 1) n
unfolding part
part-cons s i n h = rw (drop-cons s i 0, add-one)

same-cons : (x y : ℕ) (xs ys : List ℕ) → same (x ∷ xs) (y ∷ ys) ≡ (eqb x y && same xs ys)
unfolding same
same-cons x y xs ys = refl

zeros-cons : (n : ℕ) → zeros (suc n) ≡ 0 ∷ zeros n
unfolding zeros
zeros-cons n = refl

pub test-turn : (s : List ℕ) (i n : ℕ) → 0 < n → i < length s → get_or s i 0 ≡ 0
    → same (part s (i + 1) (n - 1)) (zeros (n - 1)) ≡ same (part s i n) (zeros n)
test-turn s i zero h k e = absurd (omega arith)
test-turn s i (suc n) h k e =
    let f : suc n - 1 ≡ n = omega arith in
    rw (f, part-cons s i n k, zeros-cons, same-cons, eq-eqb (get_or s i 0) 0 e)

pub test-stop : (s : List ℕ) (i n : ℕ) → 0 < n → i < length s → (get_or s i 0 ≡ 0 → ⊥) → same (part s i n) (zeros n) ≡ false
test-stop s i zero h k e = absurd (omega arith)
test-stop s i (suc n) h k e = rw (part-cons s i n k, zeros-cons, same-cons, ne_eqb (get_or s i 0) 0 e)

pub test-end : (s : List ℕ) (i n : ℕ) → n ≤ 0 → same (part s i n) (zeros n) ≡ true
unfolding part zeros same
test-end s i n h = let e : n ≡ 0 = omega arith in rw e

-- the same by a number of k bytes
more : (k : ℕ) (s : List ℕ) (i : ℕ) → number (suc k) s i ≡ get_or s i 0 + 256 * number k s (i + 1)
more k s i = rw (← add-one k) (number_more k s i)

pub word-turn : (k : ℕ) (s : List ℕ) (i n : ℕ) → k ≤ n → i + k ≤ length s → number k s i ≡ 0
    → same (part s (i + k) (n - k)) (zeros (n - k)) ≡ same (part s i n) (zeros n)
word-turn zero s i n h l e =
    let f : i + 0 ≡ i = omega arith in
    let g : n - 0 ≡ n = omega arith in
    rw (f, g)
word-turn (suc k) s i n h l e =
    let f : i + suc k ≡ i + 1 + k = omega arith in
    let g : n - suc k ≡ n - 1 - k = omega arith in
    rw (f, g) (word-turn k s (i + 1) (n - 1) (omega arith) (omega arith) (omega (arith, more k s i)))
    ∙ test-turn s i n (omega arith) (omega arith) (omega (arith, more k s i))

pub word-stop : (k : ℕ) (s : List ℕ) (i n : ℕ) → k ≤ n → i + k ≤ length s → (number k s i ≡ 0 → ⊥) → same (part s i n) (zeros n) ≡ false
word-stop zero s i n h l e = absurd (e (number-none s i))
word-stop (suc k) s i n h l e = first (eqb (get_or s i 0) 0) refl (word-stop k s (i + 1) (n - 1) (omega arith) (omega arith))
  where
    first : (b : Bool) → eqb (get_or s i 0) 0 ≡ b → ((number k s (i + 1) ≡ 0 → ⊥) → same (part s (i + 1) (n - 1)) (zeros (n - 1)) ≡ false)
        → same (part s i n) (zeros n) ≡ false
    first false f rest = test-stop s i n (omega arith) (omega arith) (eqb-false (get_or s i 0) 0 f)
    first true f rest =
        let z : get_or s i 0 ≡ 0 = eqb-true (get_or s i 0) 0 f in
        sym (test-turn s i n (omega arith) (omega arith) z) ∙ rest (λ q. e (omega (arith, more k s i)))
