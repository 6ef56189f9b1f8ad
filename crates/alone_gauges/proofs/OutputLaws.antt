-- Laws of the report's bytes: how many they are, and how they are written over a strip line by line. Assumes nothing.
use mathlib.Core.Path.{◌≡◌, refl, ap, ◌∙◌}
use mathlib.Core.Bool.{Bool, true, false, cond}
use mathlib.Core.List.{List, [], ◌∷◌, ◌++◌}
use Prim.Native.Nat.{ℕ, zero, suc, ◌+◌, ◌*◌, ◌/◌, ◌%◌, ◌≤◌}
use native.Mathlib.Numerals.{add-one}
use native.Mathlib.Omega.{arith}
use lib.Dec.{eqb}
use lib.ListN.{length, drop, set}
use Rattle.alone_gauges.specs.Report.{Line, line, hit, of_kind, encode}
use Rattle.alone_gauges.specs.Compare.{written}
use Rattle.alone_gauges.specs.Merge.{puts}

pub length-encode : (ls : List Line) → length (encode ls) ≡ 3 * length ls
unfolding encode
length-encode [] = refl
length-encode (l ∷ ls) = omega (arith, length-encode ls)

pub kind-cons : (k : ℕ) (l : Line) (ls : List Line) → of_kind k (l ∷ ls) ≡ hit l.kind k + of_kind k ls
unfolding of_kind
kind-cons k l ls = refl

pub kind-nil : (k : ℕ) → of_kind k [] ≡ 0
unfolding of_kind
kind-nil k = refl

-- the lines of a kind among one line and the others
pub kind-step : (k : ℕ) {ls rs : List Line} {l : Line} → ls ≡ l ∷ rs → of_kind k ls ≡ hit l.kind k + of_kind k rs
kind-step k {ls} {rs} {l} e = ap (of_kind k) e ∙ kind-cons k l rs

pub hit-le : (kind k : ℕ) → hit kind k ≤ 1
unfolding hit
hit-le kind k = go (eqb kind k)
  where
    go : (b : Bool) → cond b 1 0 ≤ 1
    go true = omega arith
    go false = omega arith

-- ---- bytes written over a strip

pub puts-nil : (xs : List ℕ) (at : ℕ) → puts xs at [] ≡ xs
unfolding puts
puts-nil [] at = refl
puts-nil (x ∷ xs) zero = refl
puts-nil (x ∷ xs) (suc at) = ap {B = List ℕ} (λ l. x ∷ l) (puts-nil xs at)

puts-suc : (xs : List ℕ) (at b : ℕ) (bs : List ℕ) → puts xs at (b ∷ bs) ≡ puts (set xs at b) (suc at) bs
unfolding puts
puts-suc [] at b bs = refl
puts-suc (x ∷ xs) zero b bs = refl
puts-suc (x ∷ xs) (suc at) b bs = ap {B = List ℕ} (λ l. x ∷ l) (puts-suc xs at b bs)

pub puts-cons : (xs : List ℕ) (at b : ℕ) (bs : List ℕ) → puts xs at (b ∷ bs) ≡ puts (set xs at b) (at + 1) bs
puts-cons xs at b bs = rw (add-one at) (puts-suc xs at b bs)

pub length-puts : (xs : List ℕ) (at : ℕ) (bs : List ℕ) → length (puts xs at bs) ≡ length xs
unfolding puts
length-puts [] at bs = refl
length-puts (x ∷ xs) (suc at) bs = ap suc (length-puts xs at bs)
length-puts (x ∷ xs) zero [] = refl
length-puts (x ∷ xs) zero (b ∷ bs) = ap suc (length-puts xs zero bs)

-- one line, byte by byte
pub put-bytes : (xs : List ℕ) (at m k : ℕ) → puts xs at (encode (line m k ∷ [])) ≡ set (set (set xs at (m % 256)) (at + 1) (m / 256 % 256)) (at + 2) k
unfolding encode
put-bytes xs at m k =
    let e : at + 1 + 1 ≡ at + 2 = omega arith in
    rw (puts-cons xs at, puts-cons (set xs at (m % 256)) (at + 1), e, puts-cons (set (set xs at (m % 256)) (at + 1) (m / 256 % 256)) (at + 2), puts-nil)

-- one line, then the others
pub puts-line : (xs : List ℕ) (at : ℕ) (l : Line) (ls : List Line) → puts xs at (encode (l ∷ ls)) ≡ puts (puts xs at (encode (l ∷ []))) (at + 3) (encode ls)
unfolding encode
puts-line xs at l ls =
    let e : at + 1 + 1 ≡ at + 2 = omega arith in
    let f : at + 2 + 1 ≡ at + 3 = omega arith in
    rw (put-bytes xs at l.minute l.kind, puts-cons xs at, puts-cons (set xs at (l.minute % 256)) (at + 1), e, puts-cons (set (set xs at (l.minute % 256)) (at + 1) (l.minute / 256 % 256)) (at + 2), f)

-- all of them from the front
puts-front : (xs bs : List ℕ) → length bs ≤ length xs → puts xs 0 bs ≡ bs ++ drop (length bs) xs
unfolding puts
puts-front [] [] h = refl
puts-front [] (b ∷ bs) h = absurd (omega arith)
puts-front (x ∷ xs) [] h = refl
puts-front (x ∷ xs) (b ∷ bs) h = ap {B = List ℕ} (λ l. b ∷ l) (puts-front xs bs (omega arith))

pub puts-written : (output : List ℕ) (ls : List Line) → 3 * length ls ≤ length output → puts output 0 (encode ls) ≡ written ls output
unfolding written
puts-written output ls h = puts-front output (encode ls) (rw (length-encode ls) h) ∙ rw (length-encode ls)
