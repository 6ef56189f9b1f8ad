-- The history of crates/model/specs/examples/Witnesses goes as listed, by computation.
use mathlib.Core.Path.{◌≡◌, refl}
use mathlib.Core.Bool.{true}
use mathlib.Core.List.{[], ◌∷◌}
use Rattle.model.specs.Bytes.{same}
use Rattle.model.specs.examples.Witnesses.{goes_as_listed, opens_larger}
use Rattle.model.proofs.examples.Computing.{all-definitions}

pub goes-as-listed : goes_as_listed ≡ true
unfolding all-definitions
goes-as-listed = refl

opens-larger : same opens_larger (0 ∷ 0 ∷ 2652 ∷ []) ≡ true
unfolding all-definitions
opens-larger = refl
