-- Who may touch what in the histories of crates/model/specs/examples/Guarded, by computation.
use mathlib.Core.Path.{◌≡◌, refl}
use mathlib.Core.Bool.{true}
use Rattle.model.specs.examples.Trials.{all_match}
use Rattle.model.specs.examples.Guarded.{laid_down, reopened, again, closed_again, small_store, moment, moments}
use Rattle.model.proofs.examples.Computing.{all-definitions}

pub guarded-so : all_match moments ≡ true
unfolding all-definitions all_match laid_down reopened again closed_again small_store moment moments
guarded-so = refl
