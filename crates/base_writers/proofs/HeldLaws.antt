-- The three cases of a record that comes to hold a block (specs/Held), as definitions and as code meets them. Assumes nothing.
use mathlib.Core.Path.{◌≡◌, sym, ◌∙◌}
use mathlib.Core.Bool.{Bool, true, false, not}
use mathlib.Core.Logic.{◌≢◌}
use Prim.Native.Nat.{ℕ, ◌+◌}
use borrow.Author.Tests.{not-true, not-false, eq-eqb, ne_eqb}
use Rattle.model.specs.declared.Writer.{Writer}
use Rattle.model.specs.State.{holding, logging, holds, first_for, count_for}
use Rattle.base_writers.specs.Held.{held_for}

module _ (r : Writer) (home position : ℕ) where
  -- one that holds nothing
  pub held_first : holds r ≡ false → held_for r home position ≡ holding home
  unfolding held_for
  held_first h = rw h

  -- one that holds a block for the same home stays as it is
  pub held-again : holds r ≡ true → r.home ≡ home → held_for r home position ≡ r
  unfolding held_for
  held-again h e = rw (h, eq-eqb r.home home e)

  -- one that holds a block for another home has logged it
  pub held-other : holds r ≡ true → r.home ≢ home → held_for r home position ≡ logging home (first_for r position) (count_for r + 1)
  unfolding held_for
  held-other h n = rw (h, ne_eqb r.home home n)

  module _ (t : Bool) (e : t ≡ holds r) where
    pub by_first : (x : Writer) → not t ≡ true → x ≡ holding home → x ≡ held_for r home position
    by_first x h k = k ∙ sym (held_first (sym e ∙ not-true t h))

    pub by-again : not t ≡ false → r.home ≡ home → r ≡ held_for r home position
    by-again h k = sym (held-again (sym e ∙ not-false t h) k)

    pub by-other : (f n : ℕ) (x : Writer) → not t ≡ false → r.home ≢ home → f ≡ first_for r position → n ≡ count_for r
        → x ≡ logging home f (n + 1) → x ≡ held_for r home position
    by-other f n x h k ef en ex = ex ∙ rw (ef, en) (sym (held-other (sym e ∙ not-false t h) k))
