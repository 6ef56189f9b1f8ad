-- Laws of the entries, the writes and the newest entries of transactions (specs/Commit), for loops over positions: one more position, one more
-- transaction. Assumes nothing.
use mathlib.Core.Path.{◌≡◌, refl, sym, ap, ◌∙◌}
use mathlib.Core.Bool.{Bool, true, false, cond, ◌||◌}
use mathlib.Core.List.{List, [], ◌∷◌, ◌++◌}
use mathlib.Core.Option.{Option, none, some}
use Prim.Native.Nat.{ℕ, zero, suc, ◌+◌, ◌-◌, ◌≤◌}
use native.Mathlib.Omega.{arith}
use borrow.Author.Tests.{le-leb, lt-leb}
use lib.Dec.{eqb}
use Rattle.model.specs.Tag.{belongs, home_of}
use Rattle.model.specs.Commit.{Span, add_if, members, entries, each_entries, write_all, replay, newest_in, or_else, newest, found}
use Rattle.model.specs.declared.Tag.{Tag}
use Rattle.model_laws.proofs.rule.Closings.{span_at, closings}

-- ---- the entries of a transaction

module _ (log : ℕ → Tag) where
  -- none lies below the first
  pub members-none : (f base n : ℕ) → base + n ≤ f → members log f base n ≡ []
  unfolding members add_if
  members-none f base zero h = refl
  members-none f base (suc n) h = rw (lt-leb f (base + n) (omega arith)) (members-none f base n (omega arith))

  -- one more position
  pub members-turn : (f base p : ℕ) → base ≤ p → f ≤ p → members log f base (p + 1 - base) ≡ add_if (belongs f (log p)) p (members log f base (p - base))
  unfolding members
  members-turn f base p h k =
      let e : p + 1 - base ≡ suc (p - base) = omega arith in
      let g : base + (p - base) ≡ p = omega arith in
      rw (e, g, le-leb f p k)

  pub entries_at : (base f p : ℕ) → entries log base (record { first = f; closing = p }) ≡ members log f base (p + 1 - base)
  unfolding entries
  entries_at base f p = let e : suc p ≡ p + 1 = omega arith in rw e

  -- ---- the transactions

  pub closings-turn : (base p : ℕ) → base ≤ p → closings log base (p + 1 - base) ≡ closings log base (p - base) ++ span_at (log p) p
  unfolding closings
  closings-turn base p h =
      let e : p + 1 - base ≡ suc (p - base) = omega arith in
      let g : base + (p - base) ≡ p = omega arith in
      rw (e, g)

  pub each_append : (base : ℕ) (xs ys : List Span) → each_entries log base (xs ++ ys) ≡ each_entries log base xs ++ each_entries log base ys
  unfolding each_entries
  each_append base [] ys = refl
  each_append base (x ∷ xs) ys = ap {B = List (List ℕ)} (λ r. entries log base x ∷ r) (each_append base xs ys)

  pub each_turn : (base p : ℕ) → base ≤ p
      → each_entries log base (closings log base (p + 1 - base))
      ≡ each_entries log base (closings log base (p - base)) ++ each_entries log base (span_at (log p) p)
  each_turn base p h = rw (closings-turn base p h, each_append)

-- ---- writes

module _ {M : Type 0} (put : ℕ → M → M) where
  pub write-if : (b : Bool) (p : ℕ) (ps : List ℕ) (m : M) → write_all put (add_if b p ps) m ≡ write_all put (add_if b p []) (write_all put ps m)
  unfolding write_all add_if
  write-if true p ps m = refl
  write-if false p ps m = refl

  pub replay-append : (xs ys : List (List ℕ)) (m : M) → replay put (xs ++ ys) m ≡ replay put ys (replay put xs m)
  unfolding replay
  replay-append [] ys m = refl
  replay-append (x ∷ xs) ys m = replay-append xs ys (write_all put x m)

-- ---- the newest entry for a home

pub or_else-none : (o : Option ℕ) → or_else o none ≡ o
unfolding or_else
or_else-none none = refl
or_else-none (some p) = refl

pub or_else-assoc : (a b c : Option ℕ) → or_else (or_else a b) c ≡ or_else a (or_else b c)
unfolding or_else
or_else-assoc none b c = refl
or_else-assoc (some p) b c = refl

pub found-or_else : (a b : Option ℕ) → found (or_else a b) ≡ (found a || found b)
unfolding or_else found
found-or_else none b = refl
found-or_else (some p) b = refl

module _ (log : ℕ → Tag) (home : ℕ) where
  -- an entry that is taken in front
  pub newest-if : (b : Bool) (p : ℕ) (ps : List ℕ) → newest_in log home (add_if b p ps) ≡ or_else (newest_in log home (add_if b p [])) (newest_in log home ps)
  unfolding newest_in add_if or_else
  newest-if true p ps = go (eqb (home_of (log p)) home)
    where
      go : (c : Bool) → cond c (some p) (newest_in log home ps) ≡ or_else (cond c (some p) none) (newest_in log home ps)
      go true = refl
      go false = refl
  newest-if false p ps = refl

  -- that of the later transactions comes first
  pub newest-append : (xs ys : List (List ℕ)) → newest log home (xs ++ ys) ≡ or_else (newest log home ys) (newest log home xs)
  unfolding newest
  newest-append [] ys = sym (or_else-none (newest log home ys))
  newest-append (x ∷ xs) ys =
      ap (λ (o : Option ℕ). or_else o (newest_in log home x)) (newest-append xs ys)
      ∙ or_else-assoc (newest log home ys) (newest log home xs) (newest_in log home x)
