-- A moment of a history as the calls on a unit meet it.
use Rattle.std.specs.Prelude.{ℕ, ◌≡◌, List}
use Rattle.unit_shared.specs.Unit.{Lent, fetched, revised}

-- a done reading of n homes gives `held`, a plain one and one before an event
pub record Shown (l : Lent) (writer home n : ℕ) (held : List ℕ) : Type 0 where
  pub fetched : (fetched l writer home n).code ≡ 0 → (fetched l writer home n).block ≡ held
  pub revised : (revised l writer home n).code ≡ 0 → (revised l writer home n).block ≡ held
