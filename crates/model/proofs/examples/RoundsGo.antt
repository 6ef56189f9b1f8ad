-- The two rounds of specs/examples/TwoRounds go as listed, by computation.
use mathlib.Core.Path.{◌≡◌, refl}
use mathlib.Core.Bool.{true}
use Rattle.model.specs.examples.TwoRounds.{first_round, between, second_round, rounds, rounds_go}
use Rattle.model.proofs.examples.Computing.{all-definitions}

pub rounds-go : rounds_go ≡ true
unfolding all-definitions first_round between second_round rounds rounds_go
rounds-go = refl
