-- What the lists of crates/model/specs/examples/Lists allow, by computation.
use mathlib.Core.Path.{◌≡◌, refl}
use mathlib.Core.Bool.{true}
use Rattle.model.specs.examples.Trials.{all_match}
use Rattle.model.specs.examples.Lists.{four_from, writers_up_to, stores_in, reads_in, both_in, all_ranges, last, fourth, laid_down, by_fourth, reopened, brought, taken_back, rows}
use Rattle.model.proofs.examples.Computing.{all-definitions}

pub ranges-hold : all_ranges (writers_up_to 8) 8 ≡ true
unfolding all-definitions four_from writers_up_to stores_in reads_in both_in all_ranges
ranges-hold = refl

pub lists-hold : all_match rows ≡ true
unfolding all-definitions all_match last fourth laid_down by_fourth reopened brought taken_back rows
lists-hold = refl
