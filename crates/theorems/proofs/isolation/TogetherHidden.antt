-- The two histories of specs/HiddenTogether are told so, by computation; and they meet the premises of `IsolatedFromFormat`, which therefore says something of
-- them.
use Prim.Native.Nat.{ℕ, zero, suc, ◌+◌, ◌*◌, ◌/◌, ◌<◌}
use mathlib.Core.Path.{◌≡◌, refl, sym}
use mathlib.Core.Bool.{Bool, true, false, false≢true}
use mathlib.Core.List.{List, ◌++◌}
use native.Mathlib.Omega.{arith}
use lib.ListN.{length}
use borrow.Author.Tests.{leb-true}
use Rattle.model.specs.Bytes.{part}
use Rattle.model.specs.State.{listed_of, set_listed, list_sign, set_list_sign, fresh_numbers}
use Rattle.model.specs.Newest.{carry_listed}
use Rattle.model.specs.Rights.{for_home, shown_at, list_by, store_list, read_list, of_list, is_list, in_range, in_ranges, may_store, may_read, same_listed, list_moved, sign_for, sign_if, keep_list, signed_list, right_to_store, right_to_read}
use Rattle.model.specs.Questions.{store_allowed, read_allowed}
use Rattle.model.specs.examples.Trials.{room, fill}
use Rattle.model.specs.History.{store, after_format, empty_store}
use Rattle.acts.specs.Many.{blocks_lent, lent_on, and_then, stored_first, transact_effect, blocks_read, fetch_effect, blocks_right, homes_known, all_of, may_store_all, may_read_all, room_for_all, ask_homes, fetch_answer, revise_answer, transact_answer, fetch_call, revise_call, transact_call}
use Rattle.acts.specs.Units.{transact_ends, fetch_ends, revise_ends, feed_stores, feed_transact, left_under, act, acted, AllActsAllowed, stores_from, chain, expand, expand_all, roomy}
use Rattle.abstract_store.specs.Store.{Store, new_store, group_of_first, numbered, with_round, list_of, last_after, fenced_after, set_for, promises_after, store_must_log, reply_of, told, after_reply, follow, after_service}
use Rattle.abstract_store.specs.Store as abstract-store
use Rattle.theorems.specs.Isolation.{Each, both, more, CallAlike, equal, stored, followed}
use Rattle.theorems.specs.IsolatedActs.{BlocksAlike, ActAlike, called, transacted, fetched, revised, BeforeAlike, differs, shares, answer_of, block_of_service, block_of_read, blocks_of, SameThroughout, followed_acts}
use Rattle.theorems.specs.Hidden.{range_of, first_writers, next_writers, first_opening, fourth}
use Rattle.theorems.specs.HiddenTogether.{shared_before, shared_after, numbers, answers_in, blocks_in, shared_world, answers_shared, blocks_of_one, together_hidden, together_shown}
use Rattle.theorems.proofs.steps.FormatRuns.{after-format}
use Rattle.model.proofs.examples.Computing.{all-definitions}
use Rattle.theorems.proofs.isolation.HiddenThere.{format, never_four, denied-always}
use Rattle.theorems.proofs.isolation.IsolatedActsHold.{isolated-from-format}

-- a name that unfolds every definition below
unfoldable computed : Bool
unfolding all-definitions listed_of set_listed fresh_numbers carry_listed list_sign set_list_sign same_listed list_moved sign_for sign_if keep_list signed_list right_to_store right_to_read for_home shown_at list_by store_list read_list of_list is_list in_range in_ranges may_store may_read store_allowed read_allowed range_of first_writers next_writers first_opening blocks_lent lent_on and_then stored_first transact_effect blocks_read fetch_effect blocks_right homes_known all_of may_store_all may_read_all room_for_all ask_homes fetch_answer revise_answer transact_answer fetch_call revise_call transact_call transact_ends fetch_ends revise_ends feed_stores feed_transact left_under act acted shared_before shared_after numbers answers_in blocks_in shared_world answers_shared blocks_of_one together_hidden together_shown answer_of block_of_service block_of_read blocks_of told reply_of
computed = true

pub together-hidden : together_hidden ≡ true
unfolding computed
together-hidden = refl

pub together-shown : together_shown ≡ true
unfolding computed
together-shown = refl

-- ---- the premises

allowed-one : AllActsAllowed (empty_store 4 12) (shared_before 1 ++ shared_after 2 3)
unfolding computed
allowed-one = (refl, (refl, ((leb-true _ _ refl, leb-true _ _ refl), (refl, (refl, (refl, (refl, (refl, (refl, (refl, (refl, (refl, (refl, (refl, (refl, (refl, (refl, (refl, (refl, (refl, (refl, tt)))))))))))))))))))))

allowed-other : AllActsAllowed (empty_store 4 12) (shared_before 101 ++ shared_after 102 103)
unfolding computed
allowed-other = (refl, (refl, ((leb-true _ _ refl, leb-true _ _ refl), (refl, (refl, (refl, (refl, (refl, (refl, (refl, (refl, (refl, (refl, (refl, (refl, (refl, (refl, (refl, (refl, (refl, (refl, tt)))))))))))))))))))))

ready-there : (acted (empty_store 4 12) (shared_before 1)).ready ≡ true
unfolding computed
ready-there = refl

-- homes 3 and 4 stored together differ in home 4 alone
both_stored : BlocksAlike fourth 3 (fill 5 ++ fill 1) (fill 5 ++ fill 101)
unfolding computed fourth
both_stored = record { size = refl; shown = go }
  where
    go : (k : ℕ) → k < length (fill 5 ++ fill 1) / 64 → fourth (3 + k) ≡ false → part (fill 5 ++ fill 1) (64 * k) 64 ≡ part (fill 5 ++ fill 101) (64 * k) 64
    go zero l e = refl
    go (suc zero) l e = absurd (false≢true (sym e))
    go (suc (suc k)) l e = absurd (omega arith)

own-stored : BlocksAlike fourth 4 (fill 2) (fill 102)
unfolding computed fourth
own-stored = record { size = refl; shown = go }
  where
    go : (k : ℕ) → k < length (fill 2) / 64 → fourth (4 + k) ≡ false → part (fill 2) (64 * k) 64 ≡ part (fill 102) (64 * k) 64
    go zero l e = absurd (false≢true (sym e))
    go (suc k) l e = absurd (omega arith)

plain-stored : CallAlike fourth (store 2 4 (fill 3) room) (store 2 4 (fill 103) room)
unfolding computed fourth
plain-stored = stored refl refl

same-stored : (home : ℕ) (blocks : List ℕ) → BlocksAlike fourth home blocks blocks
same-stored home blocks = record { size = refl; shown = λ k l e. refl }

before-alike : BeforeAlike fourth (shared_before 1) (shared_before 101)
unfolding shared_before
before-alike =
    shares (shares (shares (shares (differs (more (transacted both_stored) (more (transacted (same-stored 8 (first_writers ++ next_writers))) both))))))

after-alike : Each (ActAlike fourth) (shared_after 2 3) (shared_after 102 103)
unfolding shared_after
after-alike =
    more fetched (more fetched (more fetched (more revised (more (transacted own-stored) (more revised (more (transacted (same-stored 4 (fill 7))) (more revised
    (more (transacted (same-stored 3 (fill 7))) (more (called equal) (more (called plain-stored) (more (called equal) (more (called equal) (more fetched (more fetched both))))))))))))))

never-four : never_four (followed_acts (new_store 4 12) (empty_store 4 12) (shared_before 1)) (acted (empty_store 4 12) (shared_before 1)) (expand_all (acted (empty_store 4 12) (shared_before 1)) (shared_after 2 3)) ≡ true
unfolding computed roomy stores_from chain expand expand_all new_store group_of_first numbered with_round list_of last_after fenced_after set_for promises_after store_must_log after_reply follow followed after_service abstract-store.after_done abstract-store.after_crash never_four
never-four = refl

-- ---- so writer 1 is told the same

pub told-together : SameThroughout 1 (acted (after_format format) (shared_before 1)) (acted (after_format format) (shared_before 101)) (shared_after 2 3) (shared_after 102 103)
told-together =
    isolated-from-format 4 12 format format (shared_before 1) (shared_before 101) (shared_after 2 3) (shared_after 102 103) 1 fourth (rw (after-format format) allowed-one)
    (rw (after-format format) allowed-other) (rw (after-format format) ready-there) before-alike after-alike
    (rw (after-format format)
    (denied-always (expand_all (acted (empty_store 4 12) (shared_before 1)) (shared_after 2 3)) (followed_acts (new_store 4 12) (empty_store 4 12) (shared_before 1))
    (acted (empty_store 4 12) (shared_before 1)) never-four))
