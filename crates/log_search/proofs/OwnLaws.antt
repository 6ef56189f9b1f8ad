-- The pass over a writer's own entries finds the newest one for a home. Assumes nothing.
use mathlib.Core.Path.{◌≡◌, refl, sym, ap, ◌∙◌}
use mathlib.Core.Bool.{Bool, true, false, cond}
use mathlib.Core.List.{List, [], ◌∷◌}
use mathlib.Core.Logic.{◌≢◌}
use mathlib.Core.Option.{Option, some}
use Prim.Native.Nat.{ℕ, ◌+◌, ◌-◌, ◌≤◌}
use native.Mathlib.Omega.{arith}
use borrow.Author.Tests.{eq-eqb, ne_eqb}
use lib.Dec.{eqb}
use Rattle.model.specs.Tag.{field, read_tag, belongs, home_of}
use Rattle.model.specs.Commit.{members, write_all, newest_in}
use Rattle.model.specs.declared.Tag.{Tag}
use Rattle.model.specs.declared.Tag.TheVariants.{Nothing, Entry, Closing}
use Rattle.model_laws.proofs.bytes.TagLaws.{entry-fields, closing-fields}
use Rattle.log_scan.specs.Members.{taking}
use Rattle.log_scan.proofs.MemberPass.{taking-other, taking-entry, taking-closing, taking-back, over-members}
use Rattle.log_search.specs.Codes.{code_of}
use Rattle.log_search.specs.Own.{note_at, noted}

-- ---- one entry

module _ (home p written newest : ℕ) where
  pub note-other : written ≢ home → newest ≡ note_at home p written newest
  unfolding note_at
  note-other n = rw (ne_eqb written home n)

  pub note-this : written ≡ home → p + 1 ≡ note_at home p written newest
  unfolding note_at
  note-this e = rw (eq-eqb written home e)

-- ---- one position

module _ (word position base homes first home newest : ℕ) where
  pub own-other : (back : ℕ) → back ≡ field word 14 13 → back ≢ position - first
      → newest ≡ taking first (note_at home) position (read_tag word position base homes) newest
  own-other back e n = sym (taking-other first (note_at home) position _ newest (taking-back word position base homes first (λ z. n (e ∙ z))))

  module _ (back : ℕ) (e : back ≡ field word 14 13) (b : back ≡ position - first) (l : first ≤ position) (t : Tag) (r : t ≡ read_tag word position base homes) where
    pub own-nothing : t ≡ Nothing → newest ≡ taking first (note_at home) position (read_tag word position base homes) newest
    unfolding belongs
    own-nothing d = sym (taking-other first (note_at home) position (read_tag word position base homes) newest (ap (belongs first) (sym r ∙ d)))

    pub own-entry : (h f x : ℕ) → t ≡ Entry h f → x ≡ note_at home position h newest
        → x ≡ taking first (note_at home) position (read_tag word position base homes) newest
    own-entry h f x d q =
        let s = entry-fields word position base homes h f (sym r ∙ d) in
        q ∙ sym (taking-entry first (note_at home) position h f _ newest (sym r ∙ d) (omega (arith, s.1)) l)

    pub own-closing : (h f link count x : ℕ) → t ≡ Closing h f link count → x ≡ note_at home position h newest
        → x ≡ taking first (note_at home) position (read_tag word position base homes) newest
    own-closing h f link count x d q =
        let s = closing-fields word position base homes h f link count (sym r ∙ d) in
        q ∙ sym (taking-closing first (note_at home) position h f link count _ newest (sym r ∙ d) (omega (arith, s.1)) l)

-- ---- all of them

newest-code : (tags : ℕ → Tag) (home : ℕ) (ps : List ℕ) → write_all (λ p. note_at home p (home_of (tags p))) ps 0 ≡ code_of (newest_in tags home ps)
unfolding write_all note_at newest_in code_of
newest-code tags home [] = refl
newest-code tags home (p ∷ ps) = rw (newest-code tags home ps) (go (eqb (home_of (tags p)) home) (newest_in tags home ps))
  where
    go : (b : Bool) (o : Option ℕ) → cond b (p + 1) (code_of o) ≡ code_of (cond b (some p) o)
    go true o = refl
    go false o = refl

pub own-all : (tags : ℕ → Tag) (home first base n x : ℕ) → x ≡ noted tags home first base n 0 → x ≡ code_of (newest_in tags home (members tags first base n))
own-all tags home first base n x e = e ∙ over-members first (note_at home) tags base n 0 ∙ newest-code tags home (members tags first base n)
