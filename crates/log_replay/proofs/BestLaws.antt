-- The best entry for a home, by the last closing entry of each transaction, is the newest one that replay leaves. Assumes nothing.
use mathlib.Core.Path.{◌≡◌, refl, sym, ap, ◌∙◌}
use mathlib.Core.Bool.{Bool, true, false, cond, ◌&&◌}
use mathlib.Core.List.{[], ◌++◌, append-nil}
use mathlib.Core.Option.{Option, none, some}
use Prim.Native.Nat.{ℕ, zero, suc, ◌+◌, ◌-◌, ◌≤◌, ◌<◌}
use native.Mathlib.Decide.{dec_lt, ℕ_discrete}
use native.Mathlib.Omega.{arith}
use borrow.Author.Tests.{eq-eqb, ne_eqb, le-leb, lt-ltb, le-ltb}
use lib.Dec.{eqb, leb, ltb}
use Rattle.model.specs.Tag.{belongs, home_of}
use Rattle.model.specs.Commit.{add_if, members, entries, each_entries, newest_in, newest, or_else, found}
use Rattle.model.specs.declared.Tag.{Tag}
use Rattle.model.specs.declared.Tag.TheVariants.{Nothing, Entry, Closing}
use Rattle.model_laws.proofs.rule.Closings.{span_at, closings}
use Rattle.model_laws.proofs.rule.MemberLaws.{entries_at, each_append, newest-if, newest-append, or_else-none, or_else-assoc}
use Rattle.log_scan.proofs.ScanLaws.{Placed}
use Rattle.log_gather.specs.Closers.{closes, closer}
use Rattle.log_gather.proofs.CloserLaws.{closer-most, closer-same, closer-now}
use Rattle.log_replay.specs.Best.{from, Best, nothing, better, taken, best, offset_code}

-- ---- closing entries from an offset on

pub from-here : (i m : ℕ) → i < m → from i m ≡ m
unfolding from
from-here i m h = rw (lt-ltb i m h)

pub from_past : (i m : ℕ) → m ≤ i → from i m ≡ 0
unfolding from
from_past i m h = rw (le-ltb i m h)

pub from-most : (i m : ℕ) → from i m ≤ m
from-most i m = go (dec_lt i m)
  where
    go : Dec (i < m) → from i m ≤ m
    go (yes h) = rw (from-here i m h) (omega arith)
    go (no h) = rw (from_past i m (omega arith)) (omega arith)

-- ---- the best entry

better-not : (m code : ℕ) (r : Best) → m ≤ r.closer → better m code r ≡ r
unfolding better
better-not m code r h = rw (le-ltb r.closer m h)

better-now : (m code : ℕ) (r : Best) → r.closer < m → better m code r ≡ record { closer = m; entry = code }
unfolding better
better-now m code r h = rw (lt-ltb r.closer m h)

module _ (tags : ℕ → Tag) (base home : ℕ) where
  -- no closing entries, no best one
  best_none : (c : ℕ → ℕ) → ((f : ℕ) → c f ≡ 0) → (i m : ℕ) → best c tags base home i m ≡ nothing
  unfolding best taken
  best_none c z i zero = refl
  best_none c z i (suc m) = rw (best_none c z (suc i) m) (go (tags (base + i)))
    where
      one : (h f : ℕ) → cond (eqb h home) (better (from i (c f)) (i + 1) nothing) nothing ≡ nothing
      one h f = rw (z f, from_past i 0 (omega arith), better-not 0 (i + 1) nothing (omega arith)) (both (eqb h home))
        where
          both : (b : Bool) → cond b nothing nothing ≡ nothing
          both true = refl
          both false = refl

      go : (t : Tag) → taken c home i t nothing ≡ nothing
      go Nothing = refl
      go (Entry h f) = one h f
      go (Closing h f link count) = one h f

  -- the same closing entries, the same best one
  best-same : (c d : ℕ → ℕ) → ((f : ℕ) → c f ≡ d f) → (i m : ℕ) → best c tags base home i m ≡ best d tags base home i m
  unfolding best taken
  best-same c d e i zero = refl
  best-same c d e i (suc m) = rw (best-same c d e (suc i) m) (go (tags (base + i)))
    where
      go : (t : Tag) → taken c home i t (best d tags base home (suc i) m) ≡ taken d home i t (best d tags base home (suc i) m)
      go Nothing = refl
      go (Entry h f) = rw (e f)
      go (Closing h f link count) = rw (e f)

  -- the closing entry of the best one is one of them
  best-below : (c : ℕ → ℕ) (b : ℕ) → ((f : ℕ) → c f ≤ b) → (i m : ℕ) → (best c tags base home i m).closer ≤ b
  unfolding best taken nothing better
  best-below c b l i zero = omega arith
  best-below c b l i (suc m) = go (tags (base + i)) (best c tags base home (suc i) m) (best-below c b l (suc i) m)
    where
      one : (h f : ℕ) (r : Best) → r.closer ≤ b → (cond (eqb h home) (better (from i (c f)) (i + 1) r) r).closer ≤ b
      one h f r k = both (eqb h home) (ltb r.closer (from i (c f)))
        where
          both : (x y : Bool) → (cond x (cond y (record { closer = from i (c f); entry = i + 1 }) r) r).closer ≤ b
          both true true = omega (arith, from-most i (c f), l f)
          both true false = k
          both false y = k

      go : (t : Tag) (r : Best) → r.closer ≤ b → (taken c home i t r).closer ≤ b
      go Nothing r k = k
      go (Entry h f) r k = one h f r k
      go (Closing h f link count) r k = one h f r k

  -- the entry at the lowest of some positions comes last
  members-low : (f b n : ℕ) → newest_in tags home (members tags f b (suc n))
      ≡ or_else (newest_in tags home (members tags f (suc b) n)) (newest_in tags home (add_if (leb f b && belongs f (tags b)) b []))
  unfolding members
  members-low f b zero = let e : b + 0 ≡ b = omega arith in rw e (unfold newest_in or_else in refl)
  members-low f b (suc n) =
      let e : b + suc n ≡ suc b + n = omega arith in
      newest-if tags home _ (b + suc n) (members tags f b (suc n))
      ∙ ap (or_else (newest_in tags home (add_if (leb f (b + suc n) && belongs f (tags (b + suc n))) (b + suc n) []))) (members-low f b n)
      ∙ sym (or_else-assoc _ _ _)
      ∙ rw (e, newest-if tags home (leb f (suc b + n) && belongs f (tags (suc b + n))) (suc b + n) (members tags f (suc b) n))

  -- one closing entry more, at offset n: the entries of its transaction are better than all others
  unfoldable over : ℕ → Option ℕ → Best → Best
  over m none r = r
  over m (some p) r = record { closer = m; entry = p - base + 1 }

  module _ (c d : ℕ → ℕ) (g n : ℕ) (placed : Placed tags base) (same : (f : ℕ) → (f ≡ g → ⊥) → d f ≡ c f) (last : d g ≡ n + 1) (most : (f : ℕ) → c f ≤ n)
    where
      -- past it, nothing changes
      step_past : (i : ℕ) → n + 1 ≤ i → (t : Tag) (r : Best) → taken d home i t r ≡ taken c home i t r
      unfolding taken
      step_past i h t r = go t
        where
          equal : (f : ℕ) → from i (d f) ≡ from i (c f)
          equal f = at (ℕ_discrete f g)
            where
              at : Dec (f ≡ g) → from i (d f) ≡ from i (c f)
              at (yes e) = rw (e, last, from_past i (n + 1) h, from_past i (c g) (omega (arith, most g)))
              at (no e) = rw (same f e)

          go : (t : Tag) → taken d home i t r ≡ taken c home i t r
          go Nothing = refl
          go (Entry h f) = rw (equal f)
          go (Closing h f link count) = rw (equal f)

      -- an entry for the home, from the offset i up to the closing entry
      step-entry : (i f : ℕ) → i ≤ n → f ≤ base + i → (o : Option ℕ) (r s : Best) → r ≡ over (n + 1) o s → s.closer ≤ n
          → better (from i (d f)) (i + 1) r
          ≡ over (n + 1) (or_else o (cond (leb f (base + i) && eqb g f) (some (base + i)) none)) (better (from i (c f)) (i + 1) s)
      unfolding over or_else
      step-entry i f h k o r s e l = go (ℕ_discrete f g) o e
        where
          go : Dec (f ≡ g) → (o : Option ℕ) → r ≡ over (n + 1) o s
              → better (from i (d f)) (i + 1) r
              ≡ over (n + 1) (or_else o (cond (leb f (base + i) && eqb g f) (some (base + i)) none)) (better (from i (c f)) (i + 1) s)
          go (yes z) none q =
              let x : base + i - base + 1 ≡ i + 1 = omega arith in
              rw (z, last, le-leb g (base + i) (omega arith), eq-eqb g g refl, from-here i (n + 1) (omega arith), q, better-now (n + 1) (i + 1) s (omega arith), x)
          go (yes z) (some p) q =
              rw (z, last, from-here i (n + 1) (omega arith), q) (better-not (n + 1) (i + 1) (record { closer = n + 1; entry = p - base + 1 }) (omega arith))
          go (no z) none q = rw (le-leb f (base + i) k, ne_eqb g f (λ x. z (sym x)), same f z, q)
          go (no z) (some p) q =
              rw (same f z, q)
              (better-not (from i (c f)) (i + 1) (record { closer = n + 1; entry = p - base + 1 }) (omega (arith, from-most i (c f), most f)))

      -- the entry at an offset up to the closing entry
      entry-low : (b f h : ℕ) → tags b ≡ Entry h f → newest_in tags home (add_if (leb g b && belongs g (tags b)) b [])
          ≡ cond (eqb h home) (cond (leb g b && eqb g f) (some b) none) none
      unfolding newest_in add_if belongs home_of
      entry-low b f h e = rw e (go (leb g b && eqb g f))
        where
          go : (x : Bool) → newest_in tags home (add_if x b []) ≡ cond (eqb h home) (cond x (some b) none) none
          go true = rw e
          go false = both (eqb h home)
            where
              both : (y : Bool) → ◌≡◌ {A = Option ℕ} none (cond y none none)
              both true = refl
              both false = refl

      closing-low : (b f h link count : ℕ) → tags b ≡ Closing h f link count → newest_in tags home (add_if (leb g b && belongs g (tags b)) b [])
          ≡ cond (eqb h home) (cond (leb g b && eqb g f) (some b) none) none
      unfolding newest_in add_if belongs home_of
      closing-low b f h link count e = rw e (go (leb g b && eqb g f))
        where
          go : (x : Bool) → newest_in tags home (add_if x b []) ≡ cond (eqb h home) (cond x (some b) none) none
          go true = rw e
          go false = both (eqb h home)
            where
              both : (y : Bool) → ◌≡◌ {A = Option ℕ} none (cond y none none)
              both true = refl
              both false = refl

      nothing-low : (b : ℕ) → tags b ≡ Nothing → newest_in tags home (add_if (leb g b && belongs g (tags b)) b []) ≡ none
      unfolding newest_in add_if belongs
      nothing-low b e = rw e (go (leb g b))
        where
          go : (x : Bool) → newest_in tags home (add_if (x && false) b []) ≡ none
          go true = refl
          go false = refl

      same_first : (b f : ℕ) → f ≤ b → (leb g b && eqb g f) ≡ (leb f b && eqb g f)
      same_first b f h = go (ℕ_discrete g f)
        where
          go : Dec (g ≡ f) → (leb g b && eqb g f) ≡ (leb f b && eqb g f)
          go (yes e) = rw e
          go (no e) = rw (ne_eqb g f e) (both (leb g b) (leb f b))
            where
              both : (x y : Bool) → (x && false) ≡ (y && false)
              both true true = refl
              both true false = refl
              both false true = refl
              both false false = refl

      step-home : (i h f : ℕ) → i ≤ n → f ≤ base + i → (o : Option ℕ) (r s : Best) → r ≡ over (n + 1) o s → s.closer ≤ n
          → cond (eqb h home) (better (from i (d f)) (i + 1) r) r
          ≡ over (n + 1) (or_else o (cond (eqb h home) (cond (leb g (base + i) && eqb g f) (some (base + i)) none) none))
          (cond (eqb h home) (better (from i (c f)) (i + 1) s) s)
      step-home i h f l k o r s e b = rw (same_first (base + i) f k) (go (eqb h home))
        where
          go : (x : Bool) → cond x (better (from i (d f)) (i + 1) r) r
              ≡ over (n + 1) (or_else o (cond x (cond (leb f (base + i) && eqb g f) (some (base + i)) none) none))
              (cond x (better (from i (c f)) (i + 1) s) s)
          go true = step-entry i f l k o r s e b
          go false = rw (or_else-none o) e

      step-low : (i : ℕ) → i ≤ n → (o : Option ℕ) (r s : Best) → r ≡ over (n + 1) o s → s.closer ≤ n → (t : Tag) → tags (base + i) ≡ t
          → taken d home i t r
          ≡ over (n + 1) (or_else o (newest_in tags home (add_if (leb g (base + i) && belongs g (tags (base + i))) (base + i) []))) (taken c home i t s)
      unfolding taken
      step-low i l o r s e b Nothing q = rw (nothing-low (base + i) q, or_else-none o) e
      step-low i l o r s e b (Entry h f) q =
          rw (entry-low (base + i) f h q) (step-home i h f l (placed.entry (base + i) h f q).1 o r s e b)
      step-low i l o r s e b (Closing h f link count) q =
          rw (closing-low (base + i) f h link count q) (step-home i h f l (placed.closing (base + i) h f link count q).1 o r s e b)

      over_none : (b : ℕ) (r : Best) → over (n + 1) (newest_in tags home (members tags g b 0)) r ≡ r
      unfolding members newest_in over
      over_none b r = refl

      best-over : (m i : ℕ) → n + 1 ≤ i + m → best d tags base home i m ≡ over (n + 1) (newest_in tags home (members tags g (base + i) (n + 1 - i))) (best c tags base home i m)
      unfolding best
      best-over zero i h =
          let e : n + 1 - i ≡ 0 = omega arith in
          rw (e, over_none (base + i) nothing)
      best-over (suc m) i h = go (dec_lt n i) (best-over m (suc i) (omega arith))
        where
          go : Dec (n < i)
              → best d tags base home (suc i) m
              ≡ over (n + 1) (newest_in tags home (members tags g (base + suc i) (n + 1 - suc i))) (best c tags base home (suc i) m)
              → taken d home i (tags (base + i)) (best d tags base home (suc i) m)
              ≡ over (n + 1) (newest_in tags home (members tags g (base + i) (n + 1 - i))) (taken c home i (tags (base + i)) (best c tags base home (suc i) m))
          go (yes l) k =
              let e : n + 1 - i ≡ 0 = omega arith in
              let f : n + 1 - suc i ≡ 0 = omega arith in
              let q : best d tags base home (suc i) m ≡ best c tags base home (suc i) m =
              rw f at k ∙ over_none (base + suc i) (best c tags base home (suc i) m) in
              rw (e, over_none (base + i) (taken c home i (tags (base + i)) (best c tags base home (suc i) m)), q)
              (step_past i (omega arith) (tags (base + i)) (best c tags base home (suc i) m))
          go (no l) k =
              let e : n + 1 - i ≡ suc (n + 1 - suc i) = omega arith in
              let f : base + suc i ≡ suc (base + i) = omega arith in
              rw (e, members-low g (base + i) (n + 1 - suc i))
              (step-low i (omega arith) (newest_in tags home (members tags g (suc (base + i)) (n + 1 - suc i))) (best d tags base home (suc i) m)
              (best c tags base home (suc i) m) (rw f at k) (best-below c n most (suc i) m) (tags (base + i)) refl)

  -- what the best one says of the newest
  pub record Says (r : Best) (o : Option ℕ) : Type 0 where
    pub entry : r.entry ≡ offset_code base o
    pub there : ltb 0 r.closer ≡ found o

  says-over : (n : ℕ) (o p : Option ℕ) (r : Best) → Says r p → Says (over (n + 1) o r) (or_else o p)
  unfolding over or_else offset_code found
  says-over n none p r k = k
  says-over n (some q) p r k = record { entry = refl; there = lt-ltb 0 (n + 1) (omega arith) }

  newest-more : (n h g link count : ℕ) → tags (base + n) ≡ Closing h g link count
      → newest tags home (each_entries tags base (closings tags base n ++ span_at (tags (base + n)) (base + n)))
      ≡ or_else (newest_in tags home (members tags g (base + 0) (n + 1 - 0))) (newest tags home (each_entries tags base (closings tags base n)))
  newest-more n h g link count e =
      let a : base + n + 1 - base ≡ n + 1 - 0 = omega arith in
      let b : base + 0 ≡ base = omega arith in
      rw (e, each_append tags base (closings tags base n) (span_at (Closing h g link count) (base + n)), newest-append, b)
      (ap (λ (o : Option ℕ). or_else o (newest tags home (each_entries tags base (closings tags base n)))) (last a))
    where
      last : base + n + 1 - base ≡ n + 1 - 0
          → newest tags home (each_entries tags base (span_at (Closing h g link count) (base + n))) ≡ newest_in tags home (members tags g base (n + 1 - 0))
      last a = rw (one, entries_at tags base g (base + n), a)
        where
          one : newest tags home (each_entries tags base (span_at (Closing h g link count) (base + n)))
              ≡ newest_in tags home (entries tags base (record { first = g; closing = base + n }))
          one = unfold newest each_entries span_at or_else in refl

  module _ (placed : Placed tags base) where
    -- among the closing entries of the first n offsets, where the best one is sought among N
    pub best-newest : (N n : ℕ) → n ≤ N → Says (best (closer tags base n) tags base home 0 N) (newest tags home (each_entries tags base (closings tags base n)))
    unfolding closings each_entries newest closes span_at
    best-newest N zero h =
        rw (best_none (closer tags base 0) (λ f. unfold closer in refl) 0 N) (unfold nothing offset_code found in record { entry = refl; there = refl })
    best-newest N (suc n) q = go (tags (base + n)) refl (best-newest N n (omega arith))
      where
        unclosed : closings tags base n ++ span_at (tags (base + n)) (base + n) ≡ closings tags base n
            → ((f : ℕ) → closes f (tags (base + n)) ≡ false)
            → Says (best (closer tags base n) tags base home 0 N) (newest tags home (each_entries tags base (closings tags base n)))
            → Says (best (closer tags base (suc n)) tags base home 0 N)
            (newest tags home (each_entries tags base (closings tags base n ++ span_at (tags (base + n)) (base + n))))
        unclosed e z k = rw (e, best-same (closer tags base (suc n)) (closer tags base n) (λ f. closer-same tags base f n (z f)) 0 N) k

        go : (t : Tag) → tags (base + n) ≡ t
            → Says (best (closer tags base n) tags base home 0 N) (newest tags home (each_entries tags base (closings tags base n)))
            → Says (best (closer tags base (suc n)) tags base home 0 N)
            (newest tags home (each_entries tags base (closings tags base n ++ span_at (tags (base + n)) (base + n))))
        go Nothing e k = unclosed (rw e (append-nil (closings tags base n))) (λ f. rw e) k
        go (Entry h f) e k = unclosed (rw e (append-nil (closings tags base n))) (λ f. rw e) k
        go (Closing h g link count) e k =
            let s : newest tags home (each_entries tags base (closings tags base n ++ span_at (tags (base + n)) (base + n)))
            ≡ or_else (newest_in tags home (members tags g (base + 0) (n + 1 - 0))) (newest tags home (each_entries tags base (closings tags base n))) =
            newest-more n h g link count e in
            rw (
              s,
              best-over (closer tags base n) (closer tags base (suc n)) g n placed (λ f z. closer-same tags base f n (rw e (ne_eqb f g z)))
                  (closer-now tags base g n (rw e (eq-eqb g g refl))) (λ f. closer-most tags base f n) N 0 (omega (arith, q)),
            )
            (says-over n (newest_in tags home (members tags g (base + 0) (n + 1 - 0))) (newest tags home (each_entries tags base (closings tags base n)))
            (best (closer tags base n) tags base home 0 N) k)
