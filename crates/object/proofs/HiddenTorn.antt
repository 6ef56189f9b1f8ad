-- The two histories of specs/Example with a list of rights and a torn crash meet the premises of IsolationTorn, which therefore says something of them.
use Prim.Native.Nat.{ℕ}
use mathlib.Core.Path.{◌≡◌, refl}
use mathlib.Core.Bool.{Bool, true, false}
use mathlib.Core.List.{List, [], ◌∷◌, ◌++◌}
use Rattle.model.specs.Bytes.{same}
use Rattle.model.specs.State.{listed_of, set_listed, list_sign, set_list_sign, fresh_numbers}
use Rattle.model.specs.Newest.{carry_listed}
use Rattle.model.specs.Rights.{for_home, shown_at, list_by, store_list, read_list, of_list, is_list, in_range, in_ranges, may_store, may_read, same_listed, list_moved, sign_for, sign_if, keep_list, signed_list, right_to_store, right_to_read}
use Rattle.model.specs.Questions.{store_allowed, read_allowed}
use Rattle.model.specs.examples.Trials.{fill}
use Rattle.model.specs.History.{Call, call, World, after_format, empty_store, is_opening, step, after, AllAllowed, calls}
use Rattle.abstract_store.specs.Store.{Store, new_store, group_of_first, numbered, with_round, list_of, last_after, fenced_after, set_for, promises_after, store_must_log, reply_of, after_service, after_reply, follow}
use Rattle.abstract_store.specs.Store as abstract-store
use Rattle.theorems.specs.Isolation.{Each, both, more, StoreAlike, CallAlike, equal, stored, followed, ToldSameThroughout}
use Rattle.theorems.specs.Hidden.{range_of, first_writers, next_writers, first_opening, both_at_work, fourth}
use Rattle.theorems.proofs.steps.FormatRuns.{after-format}
use Rattle.theorems.proofs.isolation.AlikeFollows.{store-self}
use Rattle.theorems.proofs.isolation.AlikeFaithful.{ready_on}
use Rattle.theorems.proofs.isolation.HiddenThere.{no_opening, calm, SameReplies, alike-along, never_four, denied-always, format, work-alike}
use Rattle.object.specs.Alike.{Tearing, tears, torn_after}
use Rattle.object.specs.TornClaims.{follow_torn, followed_torn}
use Rattle.object.specs.Example.{as_tearings, tears_to, ruled, ruled_memory, ruled_torn, hides, ruled_then, whole_after}
use Rattle.object.proofs.ExampleHolds.{computed, met-torn}
use Rattle.object.proofs.TornIsolation.{isolation-torn}

-- ---- histories one behind the other

torn-append : (ts us : List Tearing) (w : World) → torn_after w (ts ++ us) ≡ torn_after (torn_after w ts) us
unfolding torn_after
torn-append [] us w = refl
torn-append (t ∷ ts) us w = torn-append ts us (tears w t)

followed-append : (ts us : List Tearing) (s : Store) (w : World) → followed_torn s w (ts ++ us) ≡ followed_torn (followed_torn s w ts) (torn_after w ts) us
unfolding torn_after followed_torn
followed-append [] us s w = refl
followed-append (t ∷ ts) us s w = followed-append ts us (follow_torn s w t) (tears w t)

after-calls : (cs : List Call) (w : World) → torn_after w (as_tearings cs) ≡ after w (calls cs)
unfolding torn_after as_tearings after calls tears
after-calls [] w = refl
after-calls (c ∷ cs) w = after-calls cs (step w (call c))

followed-calls : (cs : List Call) (s : Store) (w : World) → followed_torn s w (as_tearings cs) ≡ followed s w (calls cs)
unfolding followed_torn follow_torn as_tearings followed calls tears
followed-calls [] s w = refl
followed-calls (c ∷ cs) s w = followed-calls cs (follow s w (call c)) (step w (call c))

ready-along : (cs : List Call) (w : World) → w.ready ≡ true → (after w (calls cs)).ready ≡ true
unfolding after calls
ready-along [] w r = r
ready-along (c ∷ cs) w r = ready-along cs (step w (call c)) (ready_on w c r)

-- ---- computed

-- a name that unfolds every definition below
unfoldable counted : Bool
unfolding computed listed_of set_listed fresh_numbers carry_listed list_sign set_list_sign same_listed list_moved sign_for sign_if keep_list signed_list right_to_store right_to_read for_home shown_at list_by store_list read_list of_list is_list in_range in_ranges may_store may_read store_allowed read_allowed range_of first_writers next_writers first_opening both_at_work new_store group_of_first numbered with_round list_of last_after fenced_after set_for promises_after store_must_log reply_of after_reply follow followed calls after_service abstract-store.after_done abstract-store.after_crash never_four ruled ruled_memory ruled_torn hides ruled_then torn_after follow_torn followed_torn
counted = true

abbrev new : World
new = empty_store 4 12

abbrev torn-world : World
torn-world = torn_after new ruled_torn

abbrev torn-store : Store
torn-store = followed_torn (new_store 4 12) new ruled_torn

allowed-one : tears_to 4 new (ruled_then 1) ≡ true
unfolding counted
allowed-one = refl

allowed-other : tears_to 4 new (ruled_then 101) ≡ true
unfolding counted
allowed-other = refl

opened-again : torn-world.ready ≡ true
unfolding counted
opened-again = refl

hides-answers : SameReplies torn-world torn-world (hides 1) (hides 101)
unfolding counted
hides-answers = (refl, (refl, (refl, tt)))

never-four : never_four (followed_torn (new_store 4 12) new (ruled_then 1)) (torn_after new (ruled_then 1)) (calls (both_at_work 2)) ≡ true
unfolding counted
never-four = refl

-- torn, the memory is not one that whole blocks leave
pub ruled-apart : same ruled_memory.log (whole_after 12 ruled).log ≡ false
unfolding counted
ruled-apart = refl

-- ---- so writer 1 is told the same

hides-alike : Each (CallAlike fourth) (hides 1) (hides 101)
unfolding hides fourth fill
hides-alike = more equal (more (stored refl refl) (more equal both))

then-world : (a : ℕ) → torn_after new (ruled_then a) ≡ after torn-world (calls (hides a))
unfolding ruled_then
then-world a = rw (torn-append ruled_torn (as_tearings (hides a)) new) (after-calls (hides a) torn-world)

then-store : (a : ℕ) → followed_torn (new_store 4 12) new (ruled_then a) ≡ followed torn-store torn-world (calls (hides a))
unfolding ruled_then
then-store a = rw (followed-append ruled_torn (as_tearings (hides a)) (new_store 4 12) new) (followed-calls (hides a) torn-store torn-world)

ready-then : (a : ℕ) → (torn_after new (ruled_then a)).ready ≡ true
ready-then a = rw (then-world a) (ready-along (hides a) torn-world opened-again)

work-allowed : (a b : ℕ) → AllAllowed (torn_after new (ruled_then a)) (calls (both_at_work b))
work-allowed a b = calm (both_at_work b) (torn_after new (ruled_then a)) (ready-then a) (unfold both_at_work is_opening no_opening in refl)

stores-alike : StoreAlike fourth (followed_torn (new_store 4 12) new (ruled_then 1)) (followed_torn (new_store 4 12) new (ruled_then 101))
stores-alike =
    rw (then-store 1, then-store 101)
    (alike-along fourth (hides 1) (hides 101) torn-world torn-world torn-store torn-store (unfold hides is_opening no_opening in refl) hides-answers
    hides-alike (store-self fourth torn-store))

pub isolated-torn-there : ToldSameThroughout 1 (torn_after (after_format format) (ruled_then 1)) (torn_after (after_format format) (ruled_then 101)) (both_at_work 2)
    (both_at_work 102)
isolated-torn-there =
    isolation-torn 4 12 format format (ruled_then 1) (ruled_then 101) (both_at_work 2) (both_at_work 102) 1 fourth
    (rw (after-format format) (met-torn 4 (ruled_then 1) new allowed-one)) (rw (after-format format) (met-torn 4 (ruled_then 101) new allowed-other))
    (rw (after-format format) (work-allowed 1 2)) (rw (after-format format) (work-allowed 101 102)) (rw (after-format format) (ready-then 1))
    (rw (after-format format) (ready-then 101)) (rw (after-format format) stores-alike) work-alike
    (rw (after-format format)
    (denied-always (calls (both_at_work 2)) (followed_torn (new_store 4 12) new (ruled_then 1)) (torn_after new (ruled_then 1)) never-four))
