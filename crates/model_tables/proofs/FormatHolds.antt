-- A format over a store in use leaves what crates/model/specs/examples/Witnesses says, whole and cut, by computation.
use mathlib.Core.Path.{◌≡◌, refl}
use mathlib.Core.Bool.{true}
use Rattle.model.specs.examples.Witnesses.{formats_so}
use Rattle.model.proofs.examples.Computing.{all-definitions}

pub formats-so : formats_so ≡ true
unfolding all-definitions
formats-so = refl
