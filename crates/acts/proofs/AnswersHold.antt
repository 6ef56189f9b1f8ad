-- What the calls of specs/Verdicts answer, by computation.
use mathlib.Core.Path.{◌≡◌, refl}
use mathlib.Core.Bool.{true}
use Rattle.model.specs.examples.Trials.{all_match}
use Rattle.acts.specs.Many.{blocks_lent, lent_on, and_then, stored_first, transact_effect, blocks_read, fetch_effect, blocks_right, homes_known, all_of, may_store_all, may_read_all, room_for_all, ask_homes, fetch_answer, revise_answer, transact_answer, fetch_call, revise_call, transact_call}
use Rattle.acts.specs.Verdicts.{lend, new, wrong, nearly_full, listed, five, of_fetch, of_revise, of_transact, tags_logged, verdicts}
use Rattle.model.proofs.examples.Computing.{all-definitions}

pub verdicts-hold : all_match verdicts ≡ true
unfolding all-definitions all_match blocks_lent lent_on and_then stored_first transact_effect blocks_read fetch_effect blocks_right homes_known all_of may_store_all may_read_all room_for_all ask_homes fetch_answer revise_answer transact_answer fetch_call revise_call transact_call lend new wrong nearly_full listed five of_fetch of_revise of_transact tags_logged verdicts
verdicts-hold = refl
