-- The places of specs/Counted are counted so, by computation.
use mathlib.Core.Path.{◌≡◌, refl}
use mathlib.Core.Bool.{Bool, true, ◌&&◌}
use borrow.Author.Tests.{leb-true}
use Rattle.model.specs.DemandTwo.{held_entries, untrimmed, closed_below, lands_before, some_before, across, any_across, open_before, any_open_before}
use Rattle.model.specs.examples.Reservations.{promising, giving_back, closing, reserving_lines, reserving}
use Rattle.model.proofs.examples.Computing.{all-definitions}
use Rattle.model.specs.History.{empty_store}
use Rattle.abstract_store.specs.Store as store
use Rattle.abstract_store.specs.Store.{new_store, group_of_first, next_group, next_of, store_must_log, commit_must_log, last_after, fenced_after, set_for, promises_after, numbered, with_round, after_reply, reply_of, follow, places_left, next_start, trimmed_to, after_service, round_over, wrote, any_wrote, many_homes, to_settle}
use Rattle.abstract_store.specs.Places as places
use Rattle.abstract_store.specs.Places.{settle_one, settle_all, enter, enter_call, enter_event, class_of, fate_on, class_at, same_class}
use Rattle.abstract_store.specs.Usage.{entries_in, committed_entries, open_entries, no_holder, holds_lower, holder_of, usage_of, usage_refused, usage_if, usage_call}
use Rattle.abstract_store.specs.Counted.{counts, counts_so, usage_after, numbers_of, usage_so, drains_at, one_commit, drains_so, EnoughAt}

-- a name that unfolds every definition below
unfoldable computed : Bool
unfolding all-definitions promising giving_back closing reserving_lines reserving counts counts_so new_store group_of_first next_group next_of store_must_log commit_must_log last_after fenced_after set_for promises_after numbered with_round store.after_done after_reply reply_of follow settle_one settle_all enter enter_call enter_event class_of fate_on class_at same_class places.many usage_after numbers_of usage_so entries_in committed_entries open_entries no_holder holds_lower holder_of usage_of usage_refused usage_if usage_call drains_at drains_so wrote any_wrote many_homes to_settle held_entries untrimmed closed_below places_left next_start trimmed_to after_service round_over store.may_start lands_before some_before across any_across open_before any_open_before places.drained one_commit
computed = true

pub counted-so : (counts_so && usage_so && drains_so) ≡ true
unfolding computed
counted-so = refl

pub enough-so : EnoughAt (empty_store 4 8) (new_store 4 8) one_commit
unfolding computed
enough-so = record { for_flush = leb-true _ _ refl; for_settle = leb-true _ _ refl; for_trim = leb-true _ _ refl }
