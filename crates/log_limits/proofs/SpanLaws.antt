-- Laws of the highest start that no committed transaction lies across, from the last closing entry down. Assumes nothing.
use mathlib.Core.Path.{◌≡◌, refl, sym, ◌∙◌}
use mathlib.Core.Bool.{Bool, true, false, not, ◌&&◌, and-false}
use mathlib.Core.List.{List, [], ◌∷◌, ◌++◌}
use Prim.Native.Nat.{ℕ, zero, suc, ◌+◌, ◌-◌, ◌*◌, ◌/◌, ◌%◌, min, ◌≤◌, ◌<◌}
use native.Mathlib.Decide.{dec_le, dec_lt, ℕ_discrete}
use native.Mathlib.Nat.{add-zero}
use native.Mathlib.Omega.{arith}
use borrow.Author.Tests.{le-leb, leb-true, lt-ltb, ltb-true}
use lib.Dec.{leb, ltb}
use lib.ListN.{take, drop}
use Rattle.model.specs.Layout.{entry_within, entry_at}
use Rattle.model.specs.Commit.{Span}
use Rattle.model.specs.Effects.{none_across}
use Rattle.model.specs.declared.Tag.{Tag}
use Rattle.model.specs.declared.Tag.TheVariants.{Nothing, Entry, Closing}
use Rattle.model_laws.proofs.rule.Closings.{span_at, closings}
use Rattle.log_scan.specs.Scan.{over}
use Rattle.log_scan.proofs.PassLaws.{log-turn}
use Rattle.log_limits.specs.Limits.{Highest, span_limit, lowered}
use Rattle.log_limits.proofs.EntryLaws.{closing-at-known}

never-nothing : (h f l c : ℕ) → Nothing ≡ Closing h f l c → ⊥
never-nothing h f l c e = let k : ◌≡◌ {A = ℕ} 0 1 = cc in omega arith

never-entry : (x y h f l c : ℕ) → Entry x y ≡ Closing h f l c → ⊥
never-entry x y h f l c e = let k : ◌≡◌ {A = ℕ} 0 1 = cc in omega arith

same_first : (h f l c h' f' l' c' : ℕ) → Closing h f l c ≡ Closing h' f' l' c' → f ≡ f'
same_first h f l c h' f' l' c' e = cc

-- ---- the limit of one closing entry, as the code makes it

module _ (limit : ℕ) (r t : Tag) (e : t ≡ r) where
  pub span-nothing : t ≡ Nothing → limit ≡ span_limit r limit
  unfolding span_limit
  span-nothing d = rw (← e, d)

  pub span-entry : (h f : ℕ) → t ≡ Entry h f → limit ≡ span_limit r limit
  unfolding span_limit
  span-entry h f d = rw (← e, d)

  span-first : (h f l c : ℕ) → t ≡ Closing h f l c → min (f / 7) limit ≡ span_limit r limit
  unfolding span_limit
  span-first h f l c d = rw (← e, d)

  pub span-low : (h f l c : ℕ) → t ≡ Closing h f l c → f / 7 < limit → f / 7 ≡ span_limit r limit
  span-low h f l c d k = let q : f / 7 ≡ min (f / 7) limit = omega arith in q ∙ span-first h f l c d

  pub span-high : (h f l c : ℕ) → t ≡ Closing h f l c → limit ≤ f / 7 → limit ≡ span_limit r limit
  span-high h f l c d k = let q : limit ≡ min (f / 7) limit = omega arith in q ∙ span-first h f l c d

pub span-quiet : (p limit : ℕ) → span_limit Nothing limit ≡ limit
unfolding span_limit
span-quiet p limit = refl

-- ---- committed transactions, from the last closing entry down

across-append : (p : ℕ) (xs ys : List Span) → none_across p (xs ++ ys) ≡ (none_across p xs && none_across p ys)
unfolding none_across
across-append p [] ys = refl
across-append p (x ∷ xs) ys = rw (across-append p xs ys) (and_assoc (not (ltb x.first p && leb p x.closing)) (none_across p xs) (none_across p ys))
  where
    and_assoc : (a b c : Bool) → (a && (b && c)) ≡ ((a && b) && c)
    and_assoc true b c = refl
    and_assoc false b c = refl

module _ (tags : ℕ → Tag) (base : ℕ) where
  -- no transaction lies across a position, or one does
  across-free : (p n : ℕ)
      → ((i h f l c : ℕ) → i < n → tags (base + i) ≡ Closing h f l c → f < p → p ≤ base + i → ⊥)
      → none_across p (closings tags base n) ≡ true
  unfolding closings none_across span_at
  across-free p zero k = refl
  across-free p (suc n) k =
      rw (across-append, across-free p n (λ i h f l c j. k i h f l c (omega arith))) (go (tags (base + n)) refl)
    where
      one : (f : ℕ) → (f < p → p ≤ base + n → ⊥) → (not (ltb f p && leb p (base + n)) && true) ≡ true
      one f z = two (ltb f p) refl (leb p (base + n)) refl
        where
          two : (a : Bool) → ltb f p ≡ a → (b : Bool) → leb p (base + n) ≡ b → (not (a && b) && true) ≡ true
          two true u true v = absurd (z (ltb-true f p u) (leb-true p (base + n) v))
          two true u false v = refl
          two false u b v = refl

      go : (t : Tag) → tags (base + n) ≡ t → none_across p (span_at t (base + n)) ≡ true
      go Nothing e = refl
      go (Entry h f) e = refl
      go (Closing h f l c) e = one f (k n h f l c (omega arith) e)

  across-not : (p n i h f l c : ℕ) → i < n → tags (base + i) ≡ Closing h f l c → f < p → p ≤ base + i → none_across p (closings tags base n) ≡ false
  unfolding closings none_across span_at
  across-not p zero i h f l c j e a b = absurd (omega arith)
  across-not p (suc n) i h f l c j e a b = rw across-append (go (ℕ_discrete i n) (λ k. across-not p n i h f l c k e a b))
    where
      go : Dec (i ≡ n) → (i < n → none_across p (closings tags base n) ≡ false)
          → (none_across p (closings tags base n) && none_across p (span_at (tags (base + n)) (base + n))) ≡ false
      go (yes q) k = rw (← q, e, lt-ltb f p a, le-leb p (base + i) b) (and-false (none_across p (closings tags base i)))
      go (no q) k = rw (k (omega arith))

module _ (tags : ℕ → Tag) (base end : ℕ) where
  -- the positions from `from` to `to` have lowered a limit: all starts above the lowest are ruled out, and the transactions that close at those
  -- positions begin at the lowest or later
  pub record Lowered (from to limit lowest : ℕ) : Type 0 where
    pub most : lowest ≤ limit
    pub seen : (p h f l c : ℕ) → from ≤ p → p < to → tags p ≡ Closing h f l c → 7 * lowest ≤ f
    pub above : (s : ℕ) → lowest < s → s ≤ limit → none_across (7 * s) (closings tags base (end - base)) ≡ false

  pub lowered_none : (from to limit : ℕ) → to ≤ from → Lowered from to limit limit
  lowered_none from to limit k =
      record { most = omega arith; seen = λ p h f l c a b. absurd (omega arith); above = λ s h k. absurd (omega arith) }

  -- one more position, where the limit is lowered only as far as the transaction that closes there asks
  lowered_by : (from to limit lowest r : ℕ) → r ≤ lowest → Lowered from to limit lowest
      → ((h f l c : ℕ) → tags to ≡ Closing h f l c → 7 * r ≤ f)
      → ((s : ℕ) → r < s → s ≤ lowest → none_across (7 * s) (closings tags base (end - base)) ≡ false)
      → Lowered from (to + 1) limit r
  lowered_by from to limit lowest r b o u v =
      record {
        most = omega (arith, o.most);
        seen = λ p h f l c i j k. here p h f l c i j k (ℕ_discrete p to);
        above = λ s i j. over-lowest s i j (dec_le s lowest);
      }
    where
      here : (p h f l c : ℕ) → from ≤ p → p < to + 1 → tags p ≡ Closing h f l c → Dec (p ≡ to) → 7 * r ≤ f
      here p h f l c i j k (yes q) = u h f l c (rw q at k)
      here p h f l c i j k (no q) = let m = o.seen p h f l c i (omega arith) k in omega arith

      over-lowest : (s : ℕ) → r < s → s ≤ limit → Dec (s ≤ lowest) → none_across (7 * s) (closings tags base (end - base)) ≡ false
      over-lowest s i j (yes q) = v s i q
      over-lowest s i j (no q) = o.above s (omega arith) j

  lowered-turn : (from to limit lowest r : ℕ) → base ≤ to → 7 * limit ≤ to → to < end → r ≡ span_limit (tags to) lowest
      → Lowered from to limit lowest → Lowered from (to + 1) limit r
  unfolding span_limit
  lowered-turn from to limit lowest r a b d e o = go (tags to) refl e
    where
      go : (t : Tag) → tags to ≡ t → r ≡ span_limit t lowest → Lowered from (to + 1) limit r
      go Nothing q z =
          lowered_by from to limit lowest r (omega arith) o (λ h f l c k. absurd (never-nothing h f l c (sym q ∙ k))) (λ s i j. absurd (omega arith))
      go (Entry x y) q z =
          lowered_by from to limit lowest r (omega arith) o (λ h f l c k. absurd (never-entry x y h f l c (sym q ∙ k))) (λ s i j. absurd (omega arith))
      go (Closing x y m n) q z =
          let at : base + (to - base) ≡ to = omega arith in
          lowered_by from to limit lowest r (omega arith) o
          (λ h f l c k. let i : y ≡ f = same_first x y m n h f l c (sym q ∙ k) in omega arith)
          (λ s i j. across-not tags base (7 * s) (end - base) (to - base) x y m n (omega arith) (rw at q) (omega arith) (omega (arith, o.most)))

  -- the positions of a group, all at or after the limit
  lowered-over : (from m limit r : ℕ) → base ≤ from → 7 * limit ≤ from → from + m ≤ end → r ≡ lowered tags from m limit → Lowered from (from + m) limit r
  unfolding over
  lowered-over from zero limit r a b d e = rw (e, add-zero from) (lowered_none from from limit (omega arith))
  lowered-over from (suc m) limit r a b d e =
      let z : from + suc m ≡ from + m + 1 = omega arith in
      rw z (lowered-turn from (from + m) limit (lowered tags from m limit) r (omega arith) (omega arith) (omega arith) e
      (lowered-over from m limit (lowered tags from m limit) a b (omega arith) refl))

  -- the positions before those that have lowered it already
  lowered-join : (from mid to limit lowest r : ℕ) → ((p : ℕ) → from ≤ p → p < end → to ≤ p → mid ≤ p)
      → Lowered mid end limit lowest → Lowered from to lowest r → Lowered from end limit r
  lowered-join from mid to limit lowest r g o u =
      record {
        most = omega (arith, o.most, u.most);
        seen = λ p h f l c i j k. here p h f l c i j k (dec_lt p to);
        above = λ s i j. there s i j (dec_le s lowest);
      }
    where
      here : (p h f l c : ℕ) → from ≤ p → p < end → tags p ≡ Closing h f l c → Dec (p < to) → 7 * r ≤ f
      here p h f l c i j k (yes q) = u.seen p h f l c i q k
      here p h f l c i j k (no q) = let m = o.seen p h f l c (g p i j (omega arith)) j k in omega (arith, u.most)

      there : (s : ℕ) → r < s → s ≤ limit → Dec (s ≤ lowest) → none_across (7 * s) (closings tags base (end - base)) ≡ false
      there s i j (yes q) = u.above s i q
      there s i j (no q) = o.above s (omega arith) j

  pub lowered-end : (from limit lowest : ℕ) → base ≤ 7 * lowest → from ≤ 7 * lowest → Lowered from end limit lowest
      → Highest (λ s. none_across (7 * s) (closings tags base (end - base))) limit lowest
  lowered-end from limit lowest a b o =
      record {
        most = o.most;
        allowed = across-free tags base (7 * lowest) (end - base) (λ i h f l c j e x y. let k = o.seen (base + i) h f l c (omega arith) (omega arith) e in omega arith);
        above = o.above;
      }

-- a lowered limit is not before the start
span-from : (log : List ℕ) (groups homes start p limit : ℕ) → start ≤ limit → start ≤ span_limit (entry_at log groups homes start p) limit
unfolding span_limit
span-from log groups homes start p limit h = go (entry_at log groups homes start p) refl
  where
    go : (t : Tag) → entry_at log groups homes start p ≡ t → start ≤ span_limit t limit
    go Nothing e = h
    go (Entry x f) e = h
    go (Closing x f l c) e = let k = closing-at-known log groups homes start p x f l c e in omega arith

lowered-from : (log : List ℕ) (groups homes start position m limit : ℕ) → start ≤ limit
    → start ≤ lowered (entry_at log groups homes start) position m limit
unfolding over
lowered-from log groups homes start position zero limit h = h
lowered-from log groups homes start position (suc m) limit h =
    span-from log groups homes start (position + m) (lowered (entry_at log groups homes start) position m limit)
    (lowered-from log groups homes start position m limit h)

-- the pass has taken the groups from `number` on, and takes the one before, which is the part of the log from `from` on
pub lowered-group : (log : List ℕ) (groups homes start end limit lowest number m slot from r : ℕ) → start ≤ lowest → lowest < number
    → 7 * number ≤ end + 6 → m ≡ min (end - 7 * (number - 1)) 7 → slot ≡ (number - 1) % groups → from ≡ 64 + 512 * slot
    → Lowered (entry_at log groups homes start) (7 * start) end (7 * number) end limit lowest
    → r ≡ lowered (entry_within (take (from + 512 - from) (drop from log)) groups homes start) (7 * (number - 1)) m lowest
    → Lowered (entry_at log groups homes start) (7 * start) end (7 * (number - 1)) end limit r × (start ≤ r)
unfolding over
lowered-group log groups homes start end limit lowest number m slot from r a b d e f g o q =
    let h : r ≡ lowered (entry_at log groups homes start) (7 * (number - 1)) m lowest =
    log-turn (λ p. span_limit) log groups homes start (7 * (number - 1)) 0 m (number - 1) slot from m lowest r lowest (omega arith) (omega arith) f g (omega arith) refl q in
    let u = lowered-over (entry_at log groups homes start) (7 * start) end (7 * (number - 1)) m lowest r (omega arith) (omega arith) (omega arith) h in (
      lowered-join (entry_at log groups homes start) (7 * start) end (7 * (number - 1)) (7 * number) (7 * (number - 1) + m) limit lowest r (λ p i j k. omega arith) o u,
      omega (arith, h, lowered-from log groups homes start (7 * (number - 1)) m lowest a),
    )
