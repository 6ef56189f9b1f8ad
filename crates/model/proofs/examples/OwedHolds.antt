-- Which commits are owed at the moments of specs/examples/Owed, by computation.
use mathlib.Core.Path.{◌≡◌, refl}
use mathlib.Core.Bool.{true}
use Rattle.model.specs.DemandThree.{lost}
use Rattle.model.specs.examples.Trials.{all_match}
use Rattle.model.specs.examples.Owed.{owed_in, commits_of, commit_at, two, confirmed, three, early, cut_early, cut_late, brought_back, taken, moments}
use Rattle.model.proofs.examples.Computing.{all-definitions}

pub owed-so : all_match moments ≡ true
unfolding all-definitions all_match lost owed_in commits_of commit_at two confirmed three early cut_early cut_late brought_back taken moments
owed-so = refl
