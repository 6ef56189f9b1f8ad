-- What is kept of newest positions in the history of specs/NewestTrue, and what reads show by it, by computation.
use mathlib.Core.Path.{◌≡◌, refl}
use mathlib.Core.Bool.{true}
use Rattle.model.specs.examples.Trials.{all_match}
use Rattle.model.specs.examples.Positions.{moments}
use Rattle.model.proofs.examples.Computing.{all-definitions}

pub positions-hold : all_match moments ≡ true
unfolding all-definitions all_match moments
positions-hold = refl
