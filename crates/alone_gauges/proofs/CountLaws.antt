-- The four counts of a report add up to its lines, at most one for each minute. Assumes nothing.
use mathlib.Core.Path.{◌≡◌, refl, ◌∙◌}
use mathlib.Core.Bool.{Bool, true, false, cond}
use mathlib.Core.List.{List, [], ◌∷◌, ◌++◌}
use mathlib.Core.Option.{Option, none, some}
use Prim.Native.Nat.{ℕ, zero, suc, ◌+◌, ◌≤◌}
use native.Mathlib.Omega.{arith}
use lib.Dec.{leb}
use lib.ListN.{length, length-append}
use Rattle.alone_gauges.specs.Readings.{Reading, level_at}
use Rattle.alone_gauges.specs.Report.{Line, line, difference, kind_of, line_of, line_at, gather, minutes, report, hit, of_kind}
use Rattle.alone_gauges.proofs.OutputLaws.{kind-cons, kind-nil}

abbrev pub total : List Line → ℕ
total ls = of_kind 1 ls + of_kind 2 ls + of_kind 3 ls + of_kind 4 ls

kind-append : (k : ℕ) (ls rs : List Line) → of_kind k (ls ++ rs) ≡ of_kind k ls + of_kind k rs
kind-append k [] rs = omega (arith, kind-nil k)
kind-append k (l ∷ ls) rs = omega (arith, kind-cons k l (ls ++ rs), kind-append k ls rs, kind-cons k l ls)

total-append : (ls rs : List Line) → total (ls ++ rs) ≡ total ls + total rs
total-append ls rs = omega (arith, kind-append 1 ls rs, kind-append 2 ls rs, kind-append 3 ls rs, kind-append 4 ls rs)

-- ---- one minute

one-total : (tolerance m : ℕ) (a b : Option ℕ) → total (line_of tolerance m a b) ≡ length (line_of tolerance m a b)
unfolding line_of kind_of of_kind hit
one-total tolerance m none none = refl
one-total tolerance m none (some b) = refl
one-total tolerance m (some a) none = refl
one-total tolerance m (some a) (some b) = go (leb (difference a b) tolerance)
  where
    go : (t : Bool) → total (line m (cond t 1 2) ∷ []) ≡ 1
    go true = refl
    go false = refl

one-short : (tolerance m : ℕ) (a b : Option ℕ) → length (line_of tolerance m a b) ≤ 1
unfolding line_of
one-short tolerance m none none = omega arith
one-short tolerance m none (some b) = omega arith
one-short tolerance m (some a) none = omega arith
one-short tolerance m (some a) (some b) = omega arith

-- ---- all minutes

gather-total : (f : ℕ → List Line) → ((m : ℕ) → total (f m) ≡ length (f m)) → (n : ℕ) → total (gather f n) ≡ length (gather f n)
unfolding gather of_kind
gather-total f h zero = refl
gather-total f h (suc n) = total-append (gather f n) (f n) ∙ omega (arith, gather-total f h n, h n, length-append (gather f n) (f n))

gather-short : (f : ℕ → List Line) → ((m : ℕ) → length (f m) ≤ 1) → (n : ℕ) → length (gather f n) ≤ n
unfolding gather
gather-short f h zero = omega arith
gather-short f h (suc n) = omega (arith, gather-short f h n, h n, length-append (gather f n) (f n))

module _ (tolerance : ℕ) (xs ys : List Reading) where
  pub report-total : total (report tolerance xs ys) ≡ length (report tolerance xs ys)
  unfolding report line_at
  report-total = gather-total (line_at tolerance xs ys) (λ m. one-total tolerance m (level_at m xs) (level_at m ys)) minutes

  pub report-short : length (report tolerance xs ys) ≤ 65536
  unfolding report line_at minutes
  report-short = gather-short (line_at tolerance xs ys) (λ m. one-short tolerance m (level_at m xs) (level_at m ys)) 65536
