-- The report taken line by line from the front, as the merge finds it. Assumes nothing.
use mathlib.Core.Path.{◌≡◌, refl, ◌∙◌}
use mathlib.Core.Bool.{Bool, true, false}
use mathlib.Core.List.{List, [], ◌∷◌, ◌++◌, append-nil, append_assoc}
use mathlib.Core.Option.{none, some}
use Prim.Native.Nat.{ℕ, zero, suc, ◌+◌, ◌<◌}
use native.Mathlib.Omega.{arith}
use borrow.Author.Tests.{eqb-true, eqb-false}
use lib.Dec.{eqb}
use Rattle.alone_gauges.specs.Readings.{Reading, rising, level_at}
use Rattle.alone_gauges.specs.Report.{Line, line, kind_of, line_of, line_at, gather, minutes, report}
use Rattle.alone_gauges.proofs.ReadingLaws.{rising-nil, rising-next, level-here, level-other, level-below}

-- ---- lines gathered: where f gives nothing below t, and g is f but gives nothing at t

gather-suc : (f : ℕ → List Line) (n : ℕ) → gather f (suc n) ≡ gather f n ++ f n
unfolding gather
gather-suc f n = refl

gather_none : (f : ℕ → List Line) (n : ℕ) → ((m : ℕ) → m < n → f m ≡ []) → gather f n ≡ []
unfolding gather
gather_none f zero h = refl
gather_none f (suc n) h = rw (gather-suc, gather_none f n (λ m l. h m (omega arith)), h n (omega arith))

module _ (f g : ℕ → List Line) (t : ℕ) (low : (m : ℕ) → m < t → f m ≡ []) (none' : (m : ℕ) → m < t + 1 → g m ≡ []) (high : (m : ℕ) → t < m → f m ≡ g m) where
  gather-first : (n : ℕ) → t < n → gather f n ≡ f t ++ gather g n
  gather-first zero h = absurd (omega arith)
  gather-first (suc n) h = go (eqb t n) refl (gather-first n)
    where
      go : (b : Bool) → eqb t n ≡ b → (t < n → gather f n ≡ f t ++ gather g n) → gather f (suc n) ≡ f t ++ gather g (suc n)
      go true e rec =
          let q : t ≡ n = eqb-true t n e in
          let l : gather f n ≡ [] = gather_none f n (λ m k. low m (omega arith)) in
          let r : gather g (suc n) ≡ [] = gather_none g (suc n) (λ m k. none' m (omega arith)) in
          rw (gather-suc f n, l, r, append-nil, q)
      go false e rec =
          let d = eqb-false t n e in
          let l : t < n = omega arith in
          rw (gather-suc f n, gather-suc g n, rec l, high n l, append_assoc)

-- ---- the three ways a line can come first

line-none : (tolerance : ℕ) (xs ys : List Reading) (m : ℕ) → level_at m xs ≡ none → level_at m ys ≡ none → line_at tolerance xs ys m ≡ []
unfolding line_at line_of
line-none tolerance xs ys m e f = rw (e, f)

line_same : (tolerance : ℕ) (xs ys xs' ys' : List Reading) (m : ℕ) → level_at m xs ≡ level_at m xs' → level_at m ys ≡ level_at m ys' → line_at tolerance xs ys m ≡ line_at tolerance xs' ys' m
unfolding line_at
line_same tolerance xs ys xs' ys' m e f = rw (e, f)

line_first : (tolerance : ℕ) (xs ys : List Reading) (m a : ℕ) → level_at m xs ≡ some a → level_at m ys ≡ none → line_at tolerance xs ys m ≡ line m 3 ∷ []
unfolding line_at line_of
line_first tolerance xs ys m a e f = rw (e, f)

line_second : (tolerance : ℕ) (xs ys : List Reading) (m b : ℕ) → level_at m xs ≡ none → level_at m ys ≡ some b → line_at tolerance xs ys m ≡ line m 4 ∷ []
unfolding line_at line_of
line_second tolerance xs ys m b e f = rw (e, f)

line-both : (tolerance : ℕ) (xs ys : List Reading) (m a b : ℕ) → level_at m xs ≡ some a → level_at m ys ≡ some b → line_at tolerance xs ys m ≡ line m (kind_of tolerance a b) ∷ []
unfolding line_at line_of
line-both tolerance xs ys m a b e f = rw (e, f)

-- the first list's next minute is below all of the second's
pub report-first : (tolerance : ℕ) (x : Reading) (xs ys : List Reading) → rising 0 (x ∷ xs) ≡ true → rising (x.minute + 1) ys ≡ true → x.minute < 65536
    → report tolerance (x ∷ xs) ys ≡ line x.minute 3 ∷ report tolerance xs ys
unfolding report minutes
report-first tolerance x xs ys p q h =
    let n = rising-next 0 x xs p in
    let t : ℕ = x.minute in
    let gone : (m : ℕ) → m < t + 1 → level_at m xs ≡ none = λ m l. level-below (t + 1) m xs n l in
    let late : (m : ℕ) → m < t + 1 → level_at m ys ≡ none = λ m l. level-below (t + 1) m ys q l in
    gather-first (line_at tolerance (x ∷ xs) ys) (line_at tolerance xs ys) t
    (λ m l. line-none tolerance (x ∷ xs) ys m (level-other m x xs (λ e. omega arith) ∙ gone m (omega arith)) (late m (omega arith)))
    (λ m l. line-none tolerance xs ys m (gone m l) (late m l))
    (λ m l. line_same tolerance (x ∷ xs) ys xs ys m (level-other m x xs (λ e. omega arith)) refl)
    65536 h
    ∙ rw (line_first tolerance (x ∷ xs) ys t x.level (level-here x xs) (late t (omega arith)))

-- the second list's next minute is below all of the first's
pub report-second : (tolerance : ℕ) (xs : List Reading) (y : Reading) (ys : List Reading) → rising 0 (y ∷ ys) ≡ true → rising (y.minute + 1) xs ≡ true → y.minute < 65536
    → report tolerance xs (y ∷ ys) ≡ line y.minute 4 ∷ report tolerance xs ys
unfolding report minutes
report-second tolerance xs y ys p q h =
    let n = rising-next 0 y ys p in
    let t : ℕ = y.minute in
    let gone : (m : ℕ) → m < t + 1 → level_at m ys ≡ none = λ m l. level-below (t + 1) m ys n l in
    let late : (m : ℕ) → m < t + 1 → level_at m xs ≡ none = λ m l. level-below (t + 1) m xs q l in
    gather-first (line_at tolerance xs (y ∷ ys)) (line_at tolerance xs ys) t
    (λ m l. line-none tolerance xs (y ∷ ys) m (late m (omega arith)) (level-other m y ys (λ e. omega arith) ∙ gone m (omega arith)))
    (λ m l. line-none tolerance xs ys m (late m l) (gone m l))
    (λ m l. line_same tolerance xs (y ∷ ys) xs ys m refl (level-other m y ys (λ e. omega arith)))
    65536 h
    ∙ rw (line_second tolerance xs (y ∷ ys) t y.level (late t (omega arith)) (level-here y ys))

-- both have the same minute next
pub report-both : (tolerance : ℕ) (x : Reading) (xs : List Reading) (y : Reading) (ys : List Reading) → rising 0 (x ∷ xs) ≡ true → rising 0 (y ∷ ys) ≡ true → y.minute ≡ x.minute
    → x.minute < 65536 → report tolerance (x ∷ xs) (y ∷ ys) ≡ line x.minute (kind_of tolerance x.level y.level) ∷ report tolerance xs ys
unfolding report minutes
report-both tolerance x xs y ys p q s h =
    let n = rising-next 0 x xs p in
    let k = rising-next 0 y ys q in
    let t : ℕ = x.minute in
    let gone : (m : ℕ) → m < t + 1 → level_at m xs ≡ none = λ m l. level-below (t + 1) m xs n l in
    let late : (m : ℕ) → m < t + 1 → level_at m ys ≡ none = λ m l. level-below (y.minute + 1) m ys k (omega arith) in
    let here : level_at t (y ∷ ys) ≡ some y.level = rw (← s) (level-here y ys) in
    gather-first (line_at tolerance (x ∷ xs) (y ∷ ys)) (line_at tolerance xs ys) t
    (λ m l. line-none tolerance (x ∷ xs) (y ∷ ys) m (level-other m x xs (λ e. omega arith) ∙ gone m (omega arith)) (level-other m y ys (λ e. omega arith) ∙ late m (omega arith)))
    (λ m l. line-none tolerance xs ys m (gone m l) (late m l))
    (λ m l. line_same tolerance (x ∷ xs) (y ∷ ys) xs ys m (level-other m x xs (λ e. omega arith)) (level-other m y ys (λ e. omega arith)))
    65536 h
    ∙ rw (line-both tolerance (x ∷ xs) (y ∷ ys) t x.level y.level (level-here x xs) here)

-- nothing is left
pub report-end : (tolerance : ℕ) → report tolerance [] [] ≡ []
unfolding report minutes
report-end tolerance =
    gather_none (line_at tolerance [] []) 65536
    (λ m l. line-none tolerance [] [] m (level-below (m + 1) m [] (rising-nil (m + 1)) (omega arith)) (level-below (m + 1) m [] (rising-nil (m + 1)) (omega arith)))
