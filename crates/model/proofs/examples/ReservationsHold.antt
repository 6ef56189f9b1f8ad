-- The history of specs/examples/Reservations goes as listed, and tags of large stations read as they were written, by computation.
use mathlib.Core.Path.{◌≡◌, refl}
use mathlib.Core.Bool.{true, ◌&&◌}
use Rattle.model.specs.examples.Reservations.{promising, giving_back, closing, reserving, reserving_lines, reserves_so, tags_so}
use Rattle.model.proofs.examples.Computing.{all-definitions}

pub reserves-so : (reserves_so && tags_so) ≡ true
unfolding all-definitions promising giving_back closing reserving reserving_lines reserves_so tags_so
reserves-so = refl
