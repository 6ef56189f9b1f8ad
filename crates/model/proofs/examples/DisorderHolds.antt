-- What question 2 and question 3 answer to the strips and headers of specs/examples/Disorder, by computation.
use mathlib.Core.Path.{◌≡◌, refl}
use mathlib.Core.Bool.{true}
use Rattle.model.specs.examples.Trials.{all_match}
use Rattle.model.specs.examples.Disorder.{is_in_use, begins, each, of_mode, wrong_numbers, right_numbers, opened, wrong_promises, right_promises, wrong_writers, right_writers, opens_with, changed, headers, rows}
use Rattle.model.proofs.examples.Computing.{all-definitions}

pub disorder-told : all_match rows ≡ true
unfolding all-definitions all_match is_in_use begins each of_mode wrong_numbers right_numbers opened wrong_promises right_promises wrong_writers right_writers opens_with changed headers rows
disorder-told = refl
