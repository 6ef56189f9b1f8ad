-- The lines of a report are as many as the different minutes of both lists. Assumes nothing.
use mathlib.Core.Path.{◌≡◌, refl, ap, ◌∙◌}
use mathlib.Core.Bool.{Bool, true, false, ◌||◌, cond}
use mathlib.Core.List.{List, [], ◌∷◌, ◌++◌}
use mathlib.Core.Option.{Option, none, some}
use Prim.Native.Nat.{ℕ, zero, suc, ◌+◌, ◌<◌}
use native.Mathlib.Omega.{arith}
use borrow.Author.Tests.{eqb-true, eqb-false, ne_eqb}
use lib.Dec.{eqb}
use lib.ListN.{length, length-append}
use Rattle.alone_gauges.specs.Readings.{Reading, level_at}
use Rattle.alone_gauges.specs.Report.{Line, line_of, line_at, gather, minutes, report}
use Rattle.alone_gauges.specs.Guarantees.{minutes_of, among, different}
use Rattle.alone_gauges.proofs.StrictLaws.{Below}

-- how many numbers below n a test takes
passing : (ℕ → Bool) → ℕ → ℕ
passing g zero = 0
passing g (suc n) = cond (g n) 1 0 + passing g n

passing-same : (g h : ℕ → Bool) (n : ℕ) → ((m : ℕ) → m < n → g m ≡ h m) → passing g n ≡ passing h n
unfolding passing
passing-same g h zero e = refl
passing-same g h (suc n) e = rw (e n (omega arith), passing-same g h n (λ m l. e m (omega arith)))

passing-none : (n : ℕ) → passing (λ m. false) n ≡ 0
unfolding passing
passing-none zero = refl
passing-none (suc n) = rw (passing-none n)

-- one number more is taken, unless it was before
passing-one : (g : ℕ → Bool) (k n : ℕ) → k < n → passing (λ m. eqb k m || g m) n ≡ cond (g k) 0 1 + passing g n
unfolding passing
passing-one g k zero h = absurd (omega arith)
passing-one g k (suc n) h = go (eqb k n) refl (passing-one g k n)
  where
    same : (t : Bool) → 1 + passing g n ≡ cond t 0 1 + (cond t 1 0 + passing g n)
    same true = omega arith
    same false = omega arith

    go : (b : Bool) → eqb k n ≡ b → (k < n → passing (λ m. eqb k m || g m) n ≡ cond (g k) 0 1 + passing g n)
        → cond (eqb k n || g n) 1 0 + passing (λ m. eqb k m || g m) n ≡ cond (g k) 0 1 + (cond (g n) 1 0 + passing g n)
    go true e rec =
        let q = eqb-true k n e in
        let s : passing (λ m. eqb k m || g m) n ≡ passing g n =
        passing-same (λ m. eqb k m || g m) g n (λ m l. ap (λ (b : Bool). b || g m) (ne_eqb k m (λ d. omega arith))) in
        rw (e, s, q) (same (g n))
    go false e rec =
        let d = eqb-false k n e in
        let r = rec (omega arith) in
        rw e (omega arith)

-- ---- the different numbers of a list

passing-different : (ms : List ℕ) (n : ℕ) → Below n ms → passing (λ m. among m ms) n ≡ different ms
unfolding among different
passing-different [] n b = passing-none n
passing-different (k ∷ ks) n b =
    passing-one (λ m. among m ks) k n (b 0 (omega arith))
    ∙ ap (λ (x : ℕ). cond (among k ks) 0 1 + x) (passing-different ks n (λ j h. b (suc j) (omega arith)))

among-append : (m : ℕ) (ks ls : List ℕ) → among m (ks ++ ls) ≡ (among m ks || among m ls)
unfolding among
among-append m [] ls = refl
among-append m (k ∷ ks) ls = go (eqb k m) (among-append m ks ls)
  where
    go : (b : Bool) → among m (ks ++ ls) ≡ (among m ks || among m ls) → (b || among m (ks ++ ls)) ≡ ((b || among m ks) || among m ls)
    go true e = refl
    go false e = e

-- ---- a minute has a line if it is among those of either list

heard : Option ℕ → Bool
heard none = false
heard (some a) = true

heard-level : (m : ℕ) (rs : List Reading) → heard (level_at m rs) ≡ among m (minutes_of rs)
unfolding heard level_at among
heard-level m [] = refl
heard-level m (r ∷ rs) = go (eqb r.minute m) (heard-level m rs)
  where
    go : (b : Bool) → heard (level_at m rs) ≡ among m (minutes_of rs) → heard (cond b (some r.level) (level_at m rs)) ≡ (b || among m (minutes_of rs))
    go true e = refl
    go false e = e

length-line : (tolerance m : ℕ) (a b : Option ℕ) → length (line_of tolerance m a b) ≡ cond (heard a || heard b) 1 0
unfolding line_of heard
length-line tolerance m none none = refl
length-line tolerance m none (some b) = refl
length-line tolerance m (some a) none = refl
length-line tolerance m (some a) (some b) = refl

gather-passing : (f : ℕ → List Line) (g : ℕ → Bool) → ((m : ℕ) → length (f m) ≡ cond (g m) 1 0) → (n : ℕ) → length (gather f n) ≡ passing g n
unfolding gather passing
gather-passing f g h zero = refl
gather-passing f g h (suc n) = omega (arith, length-append (gather f n) (f n), gather-passing f g h n, h n)

pub report-different : (tolerance : ℕ) (xs ys : List Reading) → Below 65536 (minutes_of xs ++ minutes_of ys)
    → length (report tolerance xs ys) ≡ different (minutes_of xs ++ minutes_of ys)
unfolding report line_at minutes
report-different tolerance xs ys b =
    gather-passing (line_at tolerance xs ys) (λ m. among m (minutes_of xs ++ minutes_of ys))
    (λ m. length-line tolerance m (level_at m xs) (level_at m ys) ∙ rw (heard-level m xs, heard-level m ys, among-append m (minutes_of xs) (minutes_of ys)))
    65536
    ∙ passing-different (minutes_of xs ++ minutes_of ys) 65536 b
