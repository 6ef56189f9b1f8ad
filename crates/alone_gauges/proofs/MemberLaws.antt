-- The report's lines by membership: which lines stand in it, and that their minutes rise. Assumes nothing.
use mathlib.Core.Path.{◌≡◌, refl, ap, ◌∙◌, subst}
use mathlib.Core.Logic.{⊎_elim}
use mathlib.Core.Bool.{Bool, true, false, cond}
use mathlib.Core.List.Memᴰ
use mathlib.Core.List.{List, [], ◌∷◌, ◌++◌, append-nil, Memᴰ}
use mathlib.Core.Option.{Option, none, some}
use Prim.Native.Nat.{ℕ, zero, suc, ◌+◌, ◌≤◌, ◌<◌}
use native.Mathlib.Omega.{arith}
use borrow.Author.Tests.{eqb-true, eqb-false, leb-true, leb-false, le-leb, lt-leb}
use lib.Dec.{eqb, leb}
use Rattle.alone_gauges.specs.Readings.{Reading, rising, level_at}
use Rattle.alone_gauges.specs.Report.{Line, line, difference, kind_of, line_of, line_at, gather, minutes, report}
use Rattle.alone_gauges.specs.Guarantees.{Has, Lacks, Rises, minutes_in, Right, agreeing, differing, only_first, only_second}
use Rattle.alone_gauges.proofs.ReadingLaws.{rising-low, rising-next, level-here, level-other}
use Rattle.alone_gauges.proofs.StrictLaws.{Below, below-snoc, rises-snoc}

-- ---- the level at a minute, and what the list has

same-reading : (r : Reading) (m a : ℕ) → r.minute ≡ m → r.level ≡ a → ◌≡◌ {A = Reading} (record { minute = m; level = a }) r
same-reading r m a e f = rw (← e, ← f)

level-has : (m a : ℕ) (rs : List Reading) → level_at m rs ≡ some a → Has rs m a
unfolding level_at
level-has m a [] e = let z : ◌≡◌ {A = ℕ} 0 1 = cc in absurd (omega arith)
level-has m a (r ∷ rs) e = go (eqb r.minute m) refl (level-has m a rs) e
  where
    go : (t : Bool) → eqb r.minute m ≡ t → (level_at m rs ≡ some a → Has rs m a) → cond t (some r.level) (level_at m rs) ≡ some a → Has (r ∷ rs) m a
    go true q rec e = let l : r.level ≡ a = cc in Memᴰ.head (same-reading r m a (eqb-true r.minute m q) l)
    go false q rec e = Memᴰ.tail (rec e)

pub has-low : (lowest m a : ℕ) (rs : List Reading) → rising lowest rs ≡ true → Has rs m a → lowest ≤ m
has-low lowest m a [] e h = absurd (Memᴰ.not-nil h)
has-low lowest m a (r ∷ rs) e h =
    let l = rising-low lowest r rs e in
    ⊎_elim (λ q. omega (arith, ap (λ (x : Reading). x.minute) q))
    (λ t. let k = has-low (r.minute + 1) m a rs (rising-next lowest r rs e) t in omega arith) (Memᴰ.cases_cons h)

has-level : (lowest m a : ℕ) (rs : List Reading) → rising lowest rs ≡ true → Has rs m a → level_at m rs ≡ some a
has-level lowest m a [] e h = absurd (Memᴰ.not-nil h)
has-level lowest m a (r ∷ rs) e h =
    ⊎_elim
    (λ q.
    let e₁ : m ≡ r.minute = ap (λ (x : Reading). x.minute) q in
    let e₂ : a ≡ r.level = ap (λ (x : Reading). x.level) q in
    rw (e₁, e₂) (level-here r rs))
    (λ t. let k = has-low (r.minute + 1) m a rs (rising-next lowest r rs e) t in
    level-other m r rs (λ q. omega arith) ∙ has-level (r.minute + 1) m a rs (rising-next lowest r rs e) t) (Memᴰ.cases_cons h)

level-lacks : (lowest m : ℕ) (rs : List Reading) → rising lowest rs ≡ true → level_at m rs ≡ none → Lacks rs m
level-lacks lowest m rs e n a h =
    let s = has-level lowest m a rs e h in
    let z : ◌≡◌ {A = ℕ} 0 1 = cc in
    absurd (omega arith)

lacks-level : (m : ℕ) (rs : List Reading) → Lacks rs m → level_at m rs ≡ none
lacks-level m rs l = go (level_at m rs) refl
  where
    go : (o : Option ℕ) → level_at m rs ≡ o → level_at m rs ≡ none
    go none e = e
    go (some a) e = absurd (l a (level-has m a rs e))

-- ---- lines gathered

record Found (f : ℕ → List Line) (n : ℕ) (l : Line) : Type 0 where
  at : ℕ
  below : at < n
  here : Memᴰ l (f at)

gathered : (f : ℕ → List Line) (n : ℕ) (l : Line) → Memᴰ l (gather f n) → Found f n l
unfolding gather
gathered f zero l h = absurd (Memᴰ.not-nil h)
gathered f (suc n) l h =
    ⊎_elim (λ t. let r = gathered f n l t in record { at = r.at; below = omega (arith, r.below); here = r.here })
    (λ t. record { at = n; below = omega arith; here = t }) (Memᴰ.append_cases (gather f n) h)

gathers : (f : ℕ → List Line) (n m : ℕ) (l : Line) → m < n → Memᴰ l (f m) → Memᴰ l (gather f n)
unfolding gather
gathers f zero m l h t = absurd (omega arith)
gathers f (suc n) m l h t = go (eqb m n) refl (λ k. gathers f n m l k t)
  where
    go : (b : Bool) → eqb m n ≡ b → (m < n → Memᴰ l (gather f n)) → Memᴰ l (gather f n ++ f n)
    go true e rec = Memᴰ.append_right (gather f n) (subst (λ (k : ℕ). Memᴰ l (f k)) (eqb-true m n e) t)
    go false e rec = let d = eqb-false m n e in Memᴰ.append_left (f n) (rec (omega arith))

told-minute : (m k : ℕ) {ls : List Line} → Memᴰ (line m k) ls → Memᴰ m (minutes_in ls)
told-minute m k (Memᴰ.head e) = Memᴰ.head (ap (λ (l : Line). l.minute) e)
told-minute m k (Memᴰ.tail t) = Memᴰ.tail (told-minute m k t)

-- ---- the line of a minute

kind-agreeing : (tolerance a b : ℕ) → difference a b ≤ tolerance → kind_of tolerance a b ≡ 1
unfolding kind_of
kind-agreeing tolerance a b h = rw (le-leb (difference a b) tolerance h)

kind-differing : (tolerance a b : ℕ) → tolerance < difference a b → kind_of tolerance a b ≡ 2
unfolding kind_of
kind-differing tolerance a b h = rw (lt-leb (difference a b) tolerance h)

module _ (tolerance : ℕ) (xs ys : List Reading) (ex : rising 0 xs ≡ true) (ey : rising 0 ys ≡ true) where
  both_right : (m a b : ℕ) → Has xs m a → Has ys m b → Right tolerance xs ys m (kind_of tolerance a b)
  both_right m a b hx hy = go (leb (difference a b) tolerance) refl
    where
      go : (t : Bool) → leb (difference a b) tolerance ≡ t → Right tolerance xs ys m (kind_of tolerance a b)
      go true e = let l = leb-true (difference a b) tolerance e in rw (kind-agreeing tolerance a b l) (agreeing hx hy l)
      go false e = let l = leb-false (difference a b) tolerance e in rw (kind-differing tolerance a b l) (differing hx hy l)

  line-right : (m : ℕ) (l : Line) → Memᴰ l (line_at tolerance xs ys m) → (l.minute ≡ m) × Right tolerance xs ys m l.kind
  unfolding line_at line_of
  line-right m l h = go (level_at m xs) (level_at m ys) refl refl h
    where
      go : (a b : Option ℕ) → level_at m xs ≡ a → level_at m ys ≡ b → Memᴰ l (line_of tolerance m a b) → (l.minute ≡ m) × Right tolerance xs ys m l.kind
      go none none p q t = absurd (Memᴰ.not-nil t)
      go none (some b) p q t =
          let e = Memᴰ.eq_of_singleton t in
          (ap (λ (x : Line). x.minute) e, rw (ap (λ (x : Line). x.kind) e) (only_second (level-lacks 0 m xs ex p) (level-has m b ys q)))
      go (some a) none p q t =
          let e = Memᴰ.eq_of_singleton t in
          (ap (λ (x : Line). x.minute) e, rw (ap (λ (x : Line). x.kind) e) (only_first (level-has m a xs p) (level-lacks 0 m ys ey q)))
      go (some a) (some b) p q t =
          let e = Memᴰ.eq_of_singleton t in
          (ap (λ (x : Line). x.minute) e, rw (ap (λ (x : Line). x.kind) e) (both_right m a b (level-has m a xs p) (level-has m b ys q)))

  line-all : (m k : ℕ) → Right tolerance xs ys m k → Memᴰ (line m k) (line_at tolerance xs ys m)
  unfolding line_at line_of
  line-all m k (agreeing {a} {b} hx hy d) =
      rw (has-level 0 m a xs ex hx, has-level 0 m b ys ey hy, kind-agreeing tolerance a b d) (Memᴰ.head refl)
  line-all m k (differing {a} {b} hx hy d) =
      rw (has-level 0 m a xs ex hx, has-level 0 m b ys ey hy, kind-differing tolerance a b d) (Memᴰ.head refl)
  line-all m k (only_first {a} hx ly) = rw (has-level 0 m a xs ex hx, lacks-level m ys ly) (Memᴰ.head refl)
  line-all m k (only_second {b} lx hy) = rw (lacks-level m xs lx, has-level 0 m b ys ey hy) (Memᴰ.head refl)

  pub report-right : (m k : ℕ) → Memᴰ (line m k) (report tolerance xs ys) → Right tolerance xs ys m k
  unfolding report
  report-right m k h =
      let f = gathered (line_at tolerance xs ys) minutes (line m k) h in
      let r = line-right f.at (line m k) f.here in
      rw r.0 r.1

  pub report-all : (m k : ℕ) → m < 65536 → Right tolerance xs ys m k → Memᴰ (line m k) (report tolerance xs ys)
  unfolding report minutes
  report-all m k h r = gathers (line_at tolerance xs ys) 65536 m (line m k) h (line-all m k r)

  -- a minute that a list has is told
  pub first-told : (m a : ℕ) → m < 65536 → Has xs m a → Memᴰ m (minutes_in (report tolerance xs ys))
  first-told m a h hx = go (level_at m ys) refl
    where
      go : (o : Option ℕ) → level_at m ys ≡ o → Memᴰ m (minutes_in (report tolerance xs ys))
      go none e = told-minute m 3 (report-all m 3 h (only_first hx (level-lacks 0 m ys ey e)))
      go (some b) e = told-minute m (kind_of tolerance a b) (report-all m (kind_of tolerance a b) h (both_right m a b hx (level-has m b ys e)))

  pub second-told : (m b : ℕ) → m < 65536 → Has ys m b → Memᴰ m (minutes_in (report tolerance xs ys))
  second-told m b h hy = go (level_at m xs) refl
    where
      go : (o : Option ℕ) → level_at m xs ≡ o → Memᴰ m (minutes_in (report tolerance xs ys))
      go none e = told-minute m 4 (report-all m 4 h (only_second (level-lacks 0 m xs ex e) hy))
      go (some a) e = told-minute m (kind_of tolerance a b) (report-all m (kind_of tolerance a b) h (both_right m a b (level-has m a xs e) hy))

-- ---- the minutes of the lines

-- at most one line, and it tells its minute
data One (m : ℕ) : List Line → Type 0 where
  blank : One m []
  told : (k : ℕ) → One m (line m k ∷ [])

one_line : (tolerance m : ℕ) (a b : Option ℕ) → One m (line_of tolerance m a b)
unfolding line_of
one_line tolerance m none none = blank
one_line tolerance m none (some b) = told 4
one_line tolerance m (some a) none = told 3
one_line tolerance m (some a) (some b) = told (kind_of tolerance a b)

minutes-append : (ls rs : List Line) → minutes_in (ls ++ rs) ≡ minutes_in ls ++ minutes_in rs
minutes-append [] rs = refl
minutes-append (l ∷ ls) rs = ap {B = List ℕ} (λ ms. l.minute ∷ ms) (minutes-append ls rs)

minutes-more : (n : ℕ) (ls rs : List Line) → One n rs → Rises (minutes_in ls) → Below n (minutes_in ls) → Rises (minutes_in (ls ++ rs)) × Below (suc n) (minutes_in (ls ++ rs))
minutes-more n ls rs blank s b = rw (append-nil ls) (s, λ j h. let k = b j h in omega arith)
minutes-more n ls rs (told k) s b = rw (minutes-append ls (line n k ∷ [])) (rises-snoc n (minutes_in ls) s b, below-snoc n (minutes_in ls) b)

gather-rises : (f : ℕ → List Line) → ((m : ℕ) → One m (f m)) → (n : ℕ) → Rises (minutes_in (gather f n)) × Below n (minutes_in (gather f n))
unfolding gather
gather-rises f h zero = (λ i j l k. absurd (omega arith), λ j k. absurd (omega arith))
gather-rises f h (suc n) = let r = gather-rises f h n in minutes-more n (gather f n) (f n) (h n) r.0 r.1

pub report-rises : (tolerance : ℕ) (xs ys : List Reading) → Rises (minutes_in (report tolerance xs ys))
unfolding report line_at
report-rises tolerance xs ys = (gather-rises (line_at tolerance xs ys) (λ m. one_line tolerance m (level_at m xs) (level_at m ys)) minutes).0
