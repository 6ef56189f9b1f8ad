-- How an event ends at a moment when the homes hold `held`. Assumes nothing.
use Prim.Native.Nat.{ℕ}
use mathlib.Core.Path.{◌≡◌, sym, ap, ◌∙◌}
use mathlib.Core.List.{List}
use mathlib.Core.Logic.{◌≢◌}
use borrow.Author.Tests.{ne_eqb}
use Rattle.unit_shared.specs.Unit.{Lent, Judged, untouched, revised, transacted, stored, after_reading, event}
use Rattle.unit_shared.specs.Shown.{Shown}

module _ (l : Lent) (writer home n : ℕ) (judge : List ℕ → Judged) (held : List ℕ) (s : Shown l writer home n held) (z : (revised l writer home n).code ≡ 0) where
  ends : event l writer home n judge ≡ stored l writer home (judge held)
  unfolding event after_reading
  ends = rw (z, s.revised z)

  refuses : (judge held).code ≢ 0 → stored l writer home (judge held) ≡ untouched l (judge held).code 0
  unfolding stored
  refuses h = rw (ne_eqb (judge held).code 0 h)

  stores : (judge held).code ≡ 0 → stored l writer home (judge held) ≡ transacted l writer home (judge held).blocks
  unfolding stored
  stores h = rw h

  pub event-refuses : (a : ℕ) → (judge held).code ≡ a → a ≢ 0 → event l writer home n judge ≡ untouched l a 0
  event-refuses a e h = ends ∙ refuses (λ y. h (sym e ∙ y)) ∙ ap (λ (c : ℕ). untouched l c 0) e

  pub event-stores : (judge held).code ≡ 0 → event l writer home n judge ≡ transacted l writer home (judge held).blocks
  event-stores h = ends ∙ stores h
