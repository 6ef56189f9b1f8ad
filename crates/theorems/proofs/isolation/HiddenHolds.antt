-- What rights hide from one writer and show to another, by computation.
use mathlib.Core.Path.{◌≡◌, refl}
use mathlib.Core.Bool.{true}
use Rattle.model.specs.State.{listed_of, set_listed, list_sign, set_list_sign, fresh_numbers}
use Rattle.model.specs.Newest.{carry_listed}
use Rattle.model.specs.Rights.{for_home, shown_at, list_by, store_list, read_list, of_list, is_list, in_range, in_ranges, may_store, may_read, same_listed, list_moved, sign_for, sign_if, keep_list, signed_list, right_to_store, right_to_read}
use Rattle.model.specs.Questions.{store_allowed, read_allowed}
use Rattle.theorems.specs.IsolatedActs.{block_of_service, block_of_read}
use Rattle.theorems.specs.Hidden.{range_of, first_writers, next_writers, first_opening, listing, listed_before, both_at_work, listed_world, answers_with, answers_listed, blocks_read, blocks_with, hidden_from_one, shown_to_two}
use Rattle.model.proofs.examples.Computing.{all-definitions}

pub hidden-from-one : hidden_from_one ≡ true
unfolding all-definitions listed_of set_listed fresh_numbers carry_listed list_sign set_list_sign same_listed list_moved sign_for sign_if keep_list signed_list right_to_store right_to_read for_home shown_at list_by store_list read_list of_list is_list in_range in_ranges may_store may_read store_allowed read_allowed range_of first_writers next_writers first_opening listing listed_before both_at_work listed_world answers_with answers_listed block_of_service block_of_read blocks_read blocks_with hidden_from_one
hidden-from-one = refl

pub shown-to-two : shown_to_two ≡ true
unfolding all-definitions listed_of set_listed fresh_numbers carry_listed list_sign set_list_sign same_listed list_moved sign_for sign_if keep_list signed_list right_to_store right_to_read for_home shown_at list_by store_list read_list of_list is_list in_range in_ranges may_store may_read store_allowed read_allowed range_of first_writers next_writers first_opening listing listed_before both_at_work listed_world block_of_service block_of_read blocks_read blocks_with shown_to_two
shown-to-two = refl
