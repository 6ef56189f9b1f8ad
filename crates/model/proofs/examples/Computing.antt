-- A name that unfolds every definition, for what is shown by computation.
use mathlib.Core.Bool.{Bool, true}
use Rattle.model.specs.Bytes.{part, puts, zeros, bytes, value, number, put_number, same}
use Rattle.model.specs.Tag.{tag_word, entry_word, closing_word, with_displaced, field, displaced, says, read_fields, read_tag, present, home_of, belongs}
use Rattle.model.specs.Layout.{group_count, home_count, log_length_right, data_length_right, header, header_start, header_right, group_offset, group_at, group_number, tag_offset, group_tag, block_offset, group_block, group_valid, turn_of, top_bit, with_top_bit, turn_blocks, blank_group, next_in, unused_group, unused_slots, empty_log, put_blank, put_entry, slot_of, index_of, word_there, entry_within, block_of, entry_at, block_at, home_at, put_home}
use Rattle.model.specs.Commit.{add_if, members, complete, linked, started, decided_closing, visit, walk, committed, entries, each_entries, transactions, write_all, replay, newest_in, or_else, newest, found}
use Rattle.model.specs.Batch.{record_bytes, batch_bytes, or_stop, mark_of, read_records, read_batch}
use Rattle.model.specs.State.{state_of, set_groups, set_homes, set_start, set_next, set_filled, set_settled, set_fenced, set_durable, set_last, next_position, mode_offset, writer_offset, less_one, one_more_than, writer_of, set_writer, held_offset, held_of, set_held, idle, begun, holding, logging, is_open_now, holds, has_logged, holds_home, first_for, count_for, fresh_state, numbers_in_order, writer_in_order, writers_in_order, is_in_order, promise_offset, promise_of, set_promise, promised, places, free_places, promise_left, promise_in_order, writer_at_in_order, set_round, set_cursor, under_way, fixed_in, listed_of, list_sign, set_list_sign, set_listed, fresh_numbers}
use Rattle.model.specs.Effects.{new_state, blank_writes, zero_homes, formatted, format_effect, marked, touched, restore, replayed, home_writes, open_tags, open_start, open_effect, begin_effect, abort_effect, entered, submitted, logged, log_held, store_first, store_again, store_other, store_effect, link_from, log_closing, commit_held, commit_effect, flush_part, flush_none, flush_effect, confirm_effect, live_tags, live_base, settle_effect, none_across, none_open_before, may_start, largest, trim_start, trim_to, trim_effect, newest_own, newest_committed, block_or, current, visible, read_effect, reserve_effect, tags_of, kept_commit, own_else, is_there, kept_position, shown, begin_round_effect, touched_from, restore_home, restored_homes, round_transactions, round_homes, round_ended, round_moved, step_homes, step_round_effect}
use Rattle.model.specs.Questions.{ask, areas_right, state_right, block_right, state_in_order, header_fits, writer_known, is_home_known, writer_open, room, store_logs, commit_logs, start_fits, batch_fits, format_answer, open_answer, ask_state, ask_block, begin_answer, abort_answer, store_answer, commit_answer, flush_answer, confirm_answer, settle_answer, trim_answer, read_answer, room_for, may_promise, keeps_promises, reserve_answer, newest_right, ask_newest, ask_both, in_round, begin_round_answer, step_round_answer, store_allowed, read_allowed}
use Rattle.model.specs.Rights.{for_home, shown_at, list_by, store_list, read_list, of_list, is_list, in_range, in_ranges, may_store, may_read, same_listed, list_moved, sign_for, open_sign, sign_if, keep_list, signed_list, right_to_store, right_to_read}
use Rattle.model.specs.Newest.{kept_as, kept_for, keep, nothing_kept, keep_entry, keep_entries, forget, carry_listed}
use Rattle.model.specs.Calls.{refused, done, size_of, outcome, format_call, open_call, begin_call, abort_call, store_call, commit_call, flush_call, confirm_call, settle_call, trim_call, read_call, reserve_call, begin_round_call, step_round_call}
use Rattle.model.specs.Crash.{blocks, pieces, write, write_each, write_if, write_chosen, many, is_fence, fences, persist_chosen, persist, group_fate, fates_chosen, fates}
use Rattle.model.specs.History.{unopened, empty_store, lent, loaded, ends, feed, is_opening, is_confirm, after_done, after_refused, after_call, row_fates, after_crash, step, after, change_ends, service_ends, feed_change}
use Rattle.model.specs.Book.{empty as book-empty, set_task as book-set_task, with_task as book-with_task, begin as book-begin, abort as book-abort, entry_of as book-entry_of, submit as book-submit, grown as book-grown, filled_up as book-filled_up, hold as book-hold, store_task as book-store_task, store as book-store, add_commit as book-add_commit, commit_task as book-commit_task, commit as book-commit, flush as book-flush, owed_by as book-owed_by, all_owed as book-all_owed, with_commits as book-with_commits, fate_at as book-fate_at, survives as book-survives, all_survive as book-all_survive, run as book-run, persisted_entries as book-settled_entries, ended as book-ended, crash as book-crash, write_entries as book-write_entries, write_commits as book-write_commits, homes_after as book-homes_after, newest_entry as book-newest_entry, held_or as book-held_or, own_or as book-own_or, read_by as book-reads}
use Rattle.model.specs.examples.Lines.{does, gives, refuses, events_of, answers_of}
use Rattle.model.specs.examples.Trials.{room as trial-room, lane, fill, goes, answer_of, answers, fresh, base, tag_at, start_of, next_of, read_of, last_read_of, reopened, trial1, trial1_high, trial2, trial3, stores, commits, first_lost, trial4, trial5, in_turn, answers_then, full_and_freed, trial6and7, trial8, trial9, unformatted, trial10, starting_at, trial13, marked_with, head_marks, positions}
use Rattle.model.specs.History.{calls}
use Rattle.model.specs.examples.Witnesses.{open_again, history_lines, used_before, used_copies, format_leaves, opens_with, formats_so, alike, allowed, reopen, refusals, seven, alone, wraps, loses, again, history, plain, answered, filled_with, ends_so, goes_onto, goes_so, goes_as_listed, opens_larger}
use Rattle.model.specs.examples.Positions.{seen_of, first_commits, both_commit, next_group, first_trimmed, opened_again, listed, lent_other, shows_at, over_damage, wrong_length}
use Rattle.model.specs.examples.Guarded.{sixteens, ranges, first_list, next_list, yes as guarded-yes, no as guarded-no, calls_of, numbers_of, runs, asks_read as guarded-reads, writes as guarded-writes, seen, reopening, unguarded, before_list, begun as guarded-begun, guarded, under_list, denying, replaced, below_next, trimmed, opened_again as guarded-again, below_first, recommitted, withdrawn, open_to_all, too_small}

unfoldable pub all-definitions : Bool
unfolding does gives refuses events_of answers_of open_again history_lines part puts zeros bytes value number put_number same tag_word entry_word closing_word with_displaced field displaced says read_fields read_tag present home_of belongs group_count home_count log_length_right data_length_right header header_start header_right group_offset group_at group_number tag_offset group_tag block_offset group_block group_valid turn_of top_bit with_top_bit turn_blocks blank_group next_in unused_group unused_slots empty_log put_blank put_entry slot_of index_of word_there entry_within block_of entry_at block_at home_at put_home add_if members complete linked started decided_closing visit walk committed entries each_entries transactions write_all replay newest_in or_else newest found record_bytes batch_bytes or_stop mark_of read_records read_batch state_of set_groups set_homes set_start set_next set_filled set_settled set_fenced set_durable set_last next_position promise_offset promise_of set_promise promised places free_places promise_left promise_in_order writer_at_in_order mode_offset writer_offset less_one one_more_than writer_of set_writer held_offset held_of set_held idle begun holding logging is_open_now holds has_logged holds_home first_for count_for fresh_state numbers_in_order writer_in_order writers_in_order is_in_order new_state blank_writes zero_homes formatted format_effect marked touched restore replayed home_writes open_tags open_start open_effect begin_effect reserve_effect abort_effect entered submitted logged log_held store_first store_again store_other store_effect link_from log_closing commit_held commit_effect flush_part flush_none flush_effect confirm_effect live_tags live_base settle_effect none_across none_open_before may_start largest trim_start trim_to trim_effect newest_own newest_committed block_or current visible read_effect ask areas_right state_right block_right state_in_order header_fits writer_known is_home_known writer_open room_for room may_promise keeps_promises reserve_answer store_logs commit_logs start_fits batch_fits format_answer open_answer ask_state ask_block begin_answer abort_answer store_answer commit_answer flush_answer confirm_answer settle_answer trim_answer read_answer refused done size_of outcome format_call open_call begin_call reserve_call abort_call store_call commit_call flush_call confirm_call settle_call trim_call read_call blocks pieces write write_each write_if write_chosen many is_fence fences persist_chosen persist group_fate fates_chosen fates unopened empty_store lent loaded ends change_ends service_ends feed feed_change is_opening is_confirm after_done after_refused after_call row_fates after_crash step after book-empty book-set_task book-with_task book-begin book-abort book-entry_of book-submit book-grown book-filled_up book-hold book-store_task book-store book-add_commit book-commit_task book-commit book-flush book-owed_by book-all_owed book-with_commits book-fate_at book-survives book-all_survive book-run book-settled_entries book-ended book-crash book-write_entries book-write_commits book-homes_after book-newest_entry book-held_or book-own_or book-reads trial-room lane fill goes answer_of answers fresh base tag_at start_of next_of read_of last_read_of reopened trial1 trial1_high trial2 trial3 stores commits first_lost trial4 trial5 in_turn answers_then full_and_freed trial6and7 trial8 trial9 unformatted trial10 starting_at trial13 marked_with head_marks used_before used_copies format_leaves opens_with formats_so alike allowed calls reopen refusals seven alone wraps loses again history plain answered filled_with ends_so goes_onto goes_so goes_as_listed opens_larger kept_as kept_for keep nothing_kept keep_entry keep_entries forget tags_of kept_commit own_else is_there kept_position shown newest_right ask_newest ask_both positions seen_of first_commits both_commit next_group first_trimmed opened_again listed lent_other shows_at over_damage wrong_length set_round set_cursor under_way fixed_in begin_round_effect touched_from restore_home restored_homes round_transactions round_homes round_ended round_moved step_homes step_round_effect in_round begin_round_answer step_round_answer begin_round_call step_round_call listed_of set_listed fresh_numbers carry_listed list_sign set_list_sign same_listed list_moved sign_for open_sign sign_if keep_list signed_list right_to_store right_to_read store_allowed read_allowed for_home shown_at list_by store_list read_list of_list is_list in_range in_ranges may_store may_read sixteens ranges first_list next_list guarded-yes guarded-no calls_of numbers_of runs guarded-reads guarded-writes seen reopening unguarded before_list guarded-begun guarded under_list denying replaced below_next trimmed guarded-again below_first recommitted withdrawn open_to_all too_small
all-definitions = true
