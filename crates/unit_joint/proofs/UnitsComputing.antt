-- One name for the definitions that computing a history of acts and units' calls unfolds. Assumes nothing.
use mathlib.Core.Bool.{Bool, true}
use Rattle.model.proofs.examples.Computing.{all-definitions}
use Rattle.model.specs.State.{listed_of, set_listed, list_sign, set_list_sign, fresh_numbers}
use Rattle.model.specs.Newest.{carry_listed}
use Rattle.model.specs.Rights.{for_home, shown_at, list_by, store_list, read_list, of_list, is_list, in_range, in_ranges, may_store, may_read, same_listed, list_moved, sign_for, sign_if, keep_list, signed_list, right_to_store, right_to_read}
use Rattle.model.specs.Questions.{store_allowed, read_allowed}
use Rattle.abstract_store.specs.Store as abstract-store
use Rattle.acts.specs.Many.{blocks_lent, lent_on, and_then, stored_first, transact_effect, blocks_read, fetch_effect, blocks_right, homes_known, all_of, may_store_all, may_read_all, room_for_all, ask_homes, fetch_answer, revise_answer, transact_answer, fetch_call, revise_call, transact_call}
use Rattle.acts.specs.Units.{transact_ends, fetch_ends, revise_ends, feed_stores, feed_transact, left_under, act, acted, relabel}
use Rattle.theorems.specs.IsolatedActs.{answer_of}
use Rattle.unit_events.specs.Folded as unit
use Rattle.unit_events.specs.Folded.{first, read_for, event_answer, storing}
use Rattle.unit_shared.specs.Unit as shared
use Rattle.unit_shared.specs.Replies.{told_by}
use Rattle.unit_bands_table.specs.Rows.{row, rows, holds, count, place}
use Rattle.unit_bands_table.specs.Judge.{depths, fit, all_fit, sound, lowest, uncovered, doubled, overlaps, coverage, judgement}
use Rattle.unit_bands_table.specs.Packed.{pack}
use Rattle.unit_bands_table.specs.Stored as table
use Rattle.unit_bands.specs.Calls.{accepted, set_call}
use Rattle.unit_hours_book.specs.Pump.{pump_of, flag, block_of}
use Rattle.unit_hours_book.specs.Events as hours-events
use Rattle.unit_hours_book.specs.Guarantees as hours
use Rattle.unit_hours_book.specs.Stored as pumps
use Rattle.unit_hours.specs.Calls as hours-calls
use Rattle.unit_alarms_list.specs.Alarm.{alarm_at, alarm_bytes, class_known, goes_before, graver}
use Rattle.unit_alarms_list.specs.OpenAlarms.{among, without, gravest_from, gravest, told, alarms_from, limited, number_open, alarms_of, gravest_kept, list_bytes, sealed, packed}
use Rattle.unit_alarms_list.specs.Events as alarm-events
use Rattle.unit_alarms_list.specs.Guarantees as alarms
use Rattle.unit_alarms_list.specs.Stored as panel
use Rattle.unit_alarms.specs.Calls as alarm-calls
use Rattle.unit_alarms.specs.Claims as alarm-claims
use Rattle.unit_joint.specs.Joint.{acts_of, stepped, ran, acts_all, note_of, notes_from, notes, told_in}

unfoldable pub unit-definitions : Bool
unfolding all-definitions listed_of set_listed fresh_numbers carry_listed list_sign set_list_sign same_listed list_moved sign_for sign_if keep_list signed_list right_to_store right_to_read for_home shown_at list_by store_list read_list of_list is_list in_range in_ranges may_store may_read store_allowed read_allowed abstract-store.reply_of abstract-store.told blocks_lent lent_on and_then stored_first transact_effect blocks_read fetch_effect blocks_right homes_known all_of may_store_all may_read_all room_for_all ask_homes fetch_answer revise_answer transact_answer fetch_call revise_call transact_call transact_ends fetch_ends revise_ends feed_stores feed_transact left_under act acted relabel answer_of first read_for event_answer storing unit.acts_of shared.untouched shared.left_under shared.fetched shared.revised shared.transacted shared.stored shared.after_reading shared.event told_by row rows holds count place depths fit all_fit sound lowest uncovered doubled overlaps coverage judgement pack table.judged table.stored accepted set_call pump_of flag block_of hours-events.late hours-events.total_at hours-events.answer hours-events.after hours-events.settled hours-events.applied hours.held_with pumps.judged hours-calls.known hours-calls.judge hours-calls.event_call hours-calls.pump_tells hours-calls.hours_in hours-calls.hours_call alarm_at alarm_bytes class_known goes_before graver among without gravest_from gravest told alarms_from limited number_open alarms_of gravest_kept list_bytes sealed packed alarm-events.answer alarm-events.after alarm-events.settled alarm-events.applied alarms.held_with panel.judged alarm-calls.judge alarm-calls.arrive_call alarm-calls.clear_call alarm-claims.event_call acts_of stepped ran acts_all note_of notes_from notes told_in
unit-definitions = true
