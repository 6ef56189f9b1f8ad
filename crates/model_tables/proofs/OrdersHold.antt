-- Records, ring slots and numbers are those of crates/model/specs/examples/Orders, by computation.
use mathlib.Core.Path.{◌≡◌, refl}
use mathlib.Core.Bool.{true}
use Rattle.model.specs.examples.Trials.{all_match, turn_bytes}
use Rattle.model.specs.examples.Orders.{number_of, each_among, records_of, mixed, by_settle, by_round, by_opening, is_in_order, by_format, two_groups, numbers_of, kept_for_home, around_trim, anew, slots_of, blanked, behind_lost, lost_first, records, rows}
use Rattle.model.proofs.examples.Computing.{all-definitions}

pub orders-hold : all_match rows ≡ true
unfolding all-definitions all_match turn_bytes number_of each_among records_of mixed by_settle by_round by_opening is_in_order by_format two_groups numbers_of kept_for_home around_trim anew slots_of blanked behind_lost lost_first records rows
orders-hold = refl
