-- The marked trials hold: one statement over the table, by computation.
use mathlib.Core.Path.{◌≡◌, refl}
use mathlib.Core.Bool.{true}
use Rattle.model.specs.examples.Trials.{stored, turn_bytes, turns, slot0, logged_once, turn_trial, trials, all_match}
use Rattle.model.proofs.examples.Computing.{all-definitions}

pub trials-hold : all_match trials ≡ true
unfolding all-definitions stored turn_bytes turns slot0 logged_once turn_trial trials all_match
trials-hold = refl
