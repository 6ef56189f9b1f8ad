-- What calls on several homes answer and read in the histories of specs/Together, by computation.
use mathlib.Core.Path.{◌≡◌, refl}
use mathlib.Core.Bool.{true}
use Rattle.model.specs.examples.Trials.{all_match}
use Rattle.acts.specs.Many.{blocks_lent, lent_on, and_then, stored_first, transact_effect, blocks_read, fetch_effect, blocks_right, homes_known, all_of, may_store_all, may_read_all, room_for_all, ask_homes, fetch_answer, revise_answer, transact_answer, fetch_call, revise_call, transact_call}
use Rattle.acts.specs.Units.{transact_ends, fetch_ends, revise_ends, feed_stores, feed_transact, left_under, act, acted, relabel, label_of, labels_from, last_unit}
use Rattle.acts.specs.Together.{number_at, number_of, answered_by, yes, no, acts_of, numbers_of, two, firsts, seen, together, looks, again, flushed_once, cut, across_groups, with_rights, moments}
use Rattle.model.proofs.examples.Computing.{all-definitions}

pub together-so : all_match moments ≡ true
unfolding all-definitions blocks_lent lent_on and_then stored_first transact_effect blocks_read fetch_effect blocks_right homes_known all_of may_store_all may_read_all room_for_all ask_homes fetch_answer revise_answer transact_answer fetch_call revise_call transact_call transact_ends fetch_ends revise_ends feed_stores feed_transact left_under act acted relabel label_of labels_from last_unit number_at number_of answered_by yes no acts_of numbers_of two firsts seen together looks again flushed_once cut across_groups with_rights moments all_match
together-so = refl
