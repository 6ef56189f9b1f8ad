-- A pass that takes the entries of one transaction writes all its members, and nothing before its first position. Assumes nothing.
use mathlib.Core.Path.{◌≡◌, refl, sym, ◌∙◌}
use mathlib.Core.Bool.{Bool, true, false, cond, ◌&&◌, and-false}
use mathlib.Core.List.{List}
use mathlib.Core.Logic.{◌≢◌}
use Prim.Native.Nat.{ℕ, zero, suc, ◌+◌, ◌-◌, ◌≤◌, ◌<◌}
use native.Mathlib.Omega.{arith}
use borrow.Author.Tests.{eq-eqb, ne_eqb, le-leb, lt-leb}
use lib.Dec.{leb}
use Rattle.model.specs.Tag.{field, read_tag, belongs, home_of}
use Rattle.model.specs.Commit.{add_if, members, write_all}
use Rattle.model.specs.declared.Tag.{Tag}
use Rattle.model.specs.declared.Tag.TheVariants.{Nothing, Entry, Closing}
use Rattle.model_laws.proofs.bytes.TagLaws.{entry-fields, closing-fields}
use Rattle.log_scan.specs.Members.{taking}
use Rattle.log_scan.specs.Scan.{over}

-- a word with another distance back is of another transaction
pub taking-back : (word position base homes first : ℕ) → field word 14 13 ≢ position - first → belongs first (read_tag word position base homes) ≡ false
unfolding belongs
taking-back word position base homes first n = go (read_tag word position base homes) refl
  where
    go : (t : Tag) → read_tag word position base homes ≡ t → belongs first t ≡ false
    go Nothing e = refl
    go (Entry h f) e = let q = entry-fields word position base homes h f e in ne_eqb first f (λ z. n (omega (arith, q.1)))
    go (Closing h f l c) e = let q = closing-fields word position base homes h f l c e in ne_eqb first f (λ z. n (omega (arith, q.1)))

module _ {S : Type 0} (f : ℕ) (put : ℕ → ℕ → S → S) where
  -- ---- one position

  pub taking-other : (p : ℕ) (t : Tag) (s : S) → belongs f t ≡ false → taking f put p t s ≡ s
  unfolding taking
  taking-other p t s e = simp (e, and-false)

  pub taking-quiet : (p : ℕ) (s : S) → taking f put p Nothing s ≡ s
  unfolding belongs
  taking-quiet p s = taking-other p Nothing s refl

  taking-below : (p : ℕ) (t : Tag) (s : S) → p < f → taking f put p t s ≡ s
  unfolding taking
  taking-below p t s h = rw (lt-leb f p h)

  pub taking-entry : (p h g : ℕ) (t : Tag) (s : S) → t ≡ Entry h g → f ≡ g → f ≤ p → taking f put p t s ≡ put p h s
  unfolding taking belongs home_of
  taking-entry p h g t s d e l = rw (d, le-leb f p l, eq-eqb f g e)

  pub taking-closing : (p h g link count : ℕ) (t : Tag) (s : S) → t ≡ Closing h g link count → f ≡ g → f ≤ p → taking f put p t s ≡ put p h s
  unfolding taking belongs home_of
  taking-closing p h g link count t s d e l = rw (d, le-leb f p l, eq-eqb f g e)

  -- ---- many

  module _ (tags : ℕ → Tag) where
    -- nothing before the first position
    pub over-before : (position k : ℕ) (s : S) → k ≤ f - position → s ≡ over (taking f put) tags position k s
    unfolding over
    over-before position zero s h = refl
    over-before position (suc k) s h =
        over-before position k s (omega arith) ∙ sym (taking-below (position + k) (tags (position + k)) _ (omega arith))

    -- the pass writes the members
    pub over-members : (base n : ℕ) (s : S) → over (taking f put) tags base n s ≡ write_all (λ p. put p (home_of (tags p))) (members tags f base n) s
    unfolding over taking members write_all add_if
    over-members base zero s = refl
    over-members base (suc n) s =
        rw (over-members base n s) (go (leb f (base + n) && belongs f (tags (base + n))) (members tags f base n))
      where
        go : (b : Bool) (ps : List ℕ)
            → cond b (put (base + n) (home_of (tags (base + n))) (write_all (λ p. put p (home_of (tags p))) ps s)) (write_all (λ p. put p (home_of (tags p))) ps s)
            ≡ write_all (λ p. put p (home_of (tags p))) (add_if b (base + n) ps) s
        go true ps = refl
        go false ps = refl
