-- What the table of specs/examples/Landings says persists does, by computation.
use mathlib.Core.Path.{◌≡◌, refl}
use mathlib.Core.Bool.{true}
use Rattle.model.specs.examples.Trials.{all_match}
use Rattle.model.specs.examples.Landings.{before, stretch, written, filled_of, bit, seven_of, entries_of, leaves, every, none, all_but, only, zero7, all7, first_stretch, second_stretch, third_stretch, table}
use Rattle.model.proofs.examples.Computing.{all-definitions}

pub landings-hold : all_match table ≡ true
unfolding all-definitions all_match before stretch written filled_of bit seven_of entries_of leaves every none all_but only zero7 all7 first_stretch second_stretch third_stretch table
landings-hold = refl
