-- No more homes are touched than there are entries below the end. Assumes nothing.
use mathlib.Core.Path.{◌≡◌, refl, sym, ap, ◌∙◌}
use mathlib.Core.Logic.{◌⊎◌, inl, inr}
use mathlib.Core.Bool.{Bool, true, false, cond, false≢true}
use mathlib.Core.List.{List, [], ◌∷◌, ◌++◌}
use Prim.Native.Nat.{ℕ, zero, suc, ◌+◌, ◌-◌, ◌*◌, ◌≤◌}
use native.Mathlib.Decide.{ℕ_discrete}
use native.Mathlib.Omega.{arith}
use borrow.Author.Tests.{eq-eqb, ne_eqb}
use lib.Dec.{eqb, ltb}
use lib.ListN.{length, length-append}
use Rattle.model.specs.Layout.{entry_at}
use Rattle.model.specs.Commit.{newest, found}
use Rattle.model.specs.Effects.{marked, touched}
use Rattle.model.specs.declared.Tag.{Tag}
use Rattle.model.specs.declared.Tag.TheVariants.{Nothing, Entry, Closing}
use Rattle.base_bitmap.proofs.MarkedLaws.{marked-none}
use Rattle.log_scan.specs.Walk.{Walkable, closed_below}
use Rattle.log_scan.proofs.ScanLaws.{placed}
use Rattle.log_gather.specs.Closers.{closer}
use Rattle.log_replay.specs.Best.{Best, nothing, taken, best}
use Rattle.log_replay.proofs.BestLaws.{best-newest}
use Rattle.log_tables.proofs.PlanLaws.{touched-most}

-- ---- how many homes a test marks

module _ (f g : ℕ → Bool) where
  marked-either : (n : ℕ) → length (marked (λ h. cond (f h) true (g h)) n) ≤ length (marked f n) + length (marked g n)
  unfolding marked
  marked-either zero = omega arith
  marked-either (suc n) =
      omega (
        arith,
        marked-either n,
        length-append (marked (λ h. cond (f h) true (g h)) n) (cond (cond (f n) true (g n)) (n ∷ []) []),
        length-append (marked f n) (cond (f n) (n ∷ []) []),
        length-append (marked g n) (cond (g n) (n ∷ []) []),
        one (f n) (g n),
      )
    where
      one : (x y : Bool)
          → length (cond {A = List ℕ} (cond x true y) (n ∷ []) []) ≤ length (cond {A = List ℕ} x (n ∷ []) []) + length (cond {A = List ℕ} y (n ∷ []) [])
      one true y = omega arith
      one false true = omega arith
      one false false = omega arith

  marked-fewer : ((h : ℕ) → f h ≡ true → g h ≡ true) → (n : ℕ) → length (marked f n) ≤ length (marked g n)
  unfolding marked
  marked-fewer k zero = omega arith
  marked-fewer k (suc n) =
      omega (
        arith,
        marked-fewer k n,
        length-append (marked f n) (cond (f n) (n ∷ []) []),
        length-append (marked g n) (cond (g n) (n ∷ []) []),
        one (f n) (g n) (k n),
      )
    where
      one : (x y : Bool) → (x ≡ true → y ≡ true) → length (cond {A = List ℕ} x (n ∷ []) []) ≤ length (cond {A = List ℕ} y (n ∷ []) [])
      one true true z = omega arith
      one true false z = absurd (false≢true (z refl))
      one false y z = omega arith

marked-one : (g n : ℕ) → length (marked (λ h. eqb g h) n) ≤ 1
unfolding marked
marked-one g zero = omega arith
marked-one g (suc n) = go (ℕ_discrete g n) (marked-one g n)
  where
    go : Dec (g ≡ n) → length (marked (λ h. eqb g h) n) ≤ 1 → length (marked (λ h. eqb g h) n ++ cond (eqb g n) (n ∷ []) []) ≤ 1
    go (yes e) k =
        let z : marked (λ h. eqb g h) n ≡ [] = marked-none (λ h. eqb g h) n (λ j l. ne_eqb g j (λ q. omega arith)) in
        rw (z, eq-eqb g n e) (omega arith)
    go (no e) k =
        let z : cond {A = List ℕ} (eqb g n) (n ∷ []) [] ≡ [] = rw (ne_eqb g n e) in
        omega (arith, k, length-append (marked (λ h. eqb g h) n) (cond (eqb g n) (n ∷ []) []), ap length z)

-- ---- the homes that have entries

-- whether a tag is an entry for a home
unfoldable is_for : ℕ → Tag → Bool
is_for h Nothing = false
is_for h (Entry g f) = eqb g h
is_for h (Closing g f link count) = eqb g h

-- whether one of the m offsets from i on has an entry for a home
unfoldable has : (ℕ → Tag) → ℕ → ℕ → ℕ → ℕ → Bool
has tags base i zero = λ h. false
has tags base i (suc m) = λ h. cond (is_for h (tags (base + i))) true (has tags base (suc i) m h)

marked-for : (t : Tag) (n : ℕ) → length (marked (λ h. is_for h t) n) ≤ 1
unfolding is_for
marked-for Nothing n = omega (arith, ap length (marked-none (λ h. false) n (λ j l. refl)))
marked-for (Entry g f) n = marked-one g n
marked-for (Closing g f link count) n = marked-one g n

has-few : (tags : ℕ → Tag) (base i m n : ℕ) → length (marked (has tags base i m) n) ≤ m
unfolding has
has-few tags base i zero n = omega (arith, ap length (marked-none (λ h. false) n (λ j l. refl)))
has-few tags base i (suc m) n =
    omega (
      arith,
      marked-either (λ h. is_for h (tags (base + i))) (has tags base (suc i) m) n,
      marked-for (tags (base + i)) n,
      has-few tags base (suc i) m n,
    )

-- a home without entries has no best one
best-unhad : (c : ℕ → ℕ) (tags : ℕ → Tag) (base home i m : ℕ) → has tags base i m home ≡ false → best c tags base home i m ≡ nothing
unfolding best taken has is_for
best-unhad c tags base home i zero e = refl
best-unhad c tags base home i (suc m) e = go (tags (base + i)) e (best-unhad c tags base home (suc i) m)
  where
    one : (b x : Bool) (r s : Best) → cond b true x ≡ false → (x ≡ false → r ≡ nothing) → cond b s r ≡ nothing
    one true x r s q k = absurd (false≢true (sym q))
    one false x r s q k = k q

    go : (t : Tag) → cond (is_for home t) true (has tags base (suc i) m home) ≡ false
        → (has tags base (suc i) m home ≡ false → best c tags base home (suc i) m ≡ nothing)
        → taken c home i t (best c tags base home (suc i) m) ≡ nothing
    go Nothing q k = k q
    go (Entry h f) q k = one (eqb h home) (has tags base (suc i) m home) (best c tags base home (suc i) m) _ q k
    go (Closing h f link count) q k = one (eqb h home) (has tags base (suc i) m home) (best c tags base home (suc i) m) _ q k

module _ (log : List ℕ) (groups homes start end : ℕ) where
  abbrev tags : ℕ → Tag
  tags = entry_at log groups homes start

  touched-has : (h : ℕ) → found (newest tags h (closed_below log groups homes start end)) ≡ true → has tags (7 * start) 0 (end - 7 * start) h ≡ true
  touched-has h t = go (has tags (7 * start) 0 (end - 7 * start) h) refl
    where
      go : (b : Bool) → has tags (7 * start) 0 (end - 7 * start) h ≡ b → b ≡ true
      go true e = refl
      go false e =
          let s = best-newest tags (7 * start) h (placed log groups homes start) (end - 7 * start) (end - 7 * start) (omega arith) in
          let z : best (closer tags (7 * start) (end - 7 * start)) tags (7 * start) h 0 (end - 7 * start) ≡ nothing =
          best-unhad (closer tags (7 * start) (end - 7 * start)) tags (7 * start) h 0 (end - 7 * start) e in
          let y : ltb 0 nothing.closer ≡ false = unfold nothing in refl in
          absurd (false≢true (sym y ∙ ap (λ (r : Best). ltb 0 r.closer) (sym z) ∙ s.there ∙ t))

  touched-entries : length (touched tags (closed_below log groups homes start end) homes) ≤ end - 7 * start
  unfolding touched
  touched-entries =
      omega (
        arith,
        marked-fewer (λ h. found (newest tags h (closed_below log groups homes start end))) (has tags (7 * start) 0 (end - 7 * start)) touched-has homes,
        has-few tags (7 * start) 0 (end - 7 * start) homes,
      )

  -- the lesser of both bounds
  pub touched-least : (d : ℕ) → Walkable log groups start end → (d ≡ homes) ⊎ (d ≡ 7 * groups)
      → length (touched tags (closed_below log groups homes start end) homes) ≤ d
  touched-least d w (inl e) = omega (arith, touched-most tags (closed_below log groups homes start end) homes)
  touched-least d w (inr e) = omega (arith, touched-entries, w.within)
