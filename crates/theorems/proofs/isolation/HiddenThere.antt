-- The two histories of specs/Hidden meet the premises of non-interference, which therefore says something of them.
use Prim.Native.Nat.{ℕ, ◌+◌, ◌*◌}
use mathlib.Core.Path.{◌≡◌, refl, sym, ap, ◌∙◌, subst}
use mathlib.Core.Bool.{Bool, true, false, not, ◌&&◌, false≢true}
use mathlib.Core.List.{List, [], ◌∷◌, ◌++◌}
use borrow.Author.Tests.{eqb-true}
use Rattle.model.specs.Bytes.{zeros}
use Rattle.model.specs.State.{listed_of, set_listed, list_sign, set_list_sign, fresh_numbers}
use Rattle.model.specs.Newest.{carry_listed}
use Rattle.model.specs.Rights.{for_home, shown_at, list_by, store_list, read_list, of_list, is_list, in_range, in_ranges, may_store, may_read, same_listed, list_moved, sign_for, sign_if, keep_list, signed_list, right_to_store, right_to_read}
use Rattle.model.specs.Questions.{store_allowed, read_allowed}
use Rattle.model.specs.Calls.{format_call}
use Rattle.model.specs.examples.Trials.{fill}
use Rattle.model.specs.History.{Call, Event, call, World, Formatting, after_format, empty_store, unopened, ends, is_opening, step, after, AllAllowed}
use Rattle.abstract_store.specs.Store.{Store, new_store, group_of_first, numbered, with_round, list_of, last_after, fenced_after, set_for, promises_after, store_must_log, Reply, reply_of, after_service, after_reply, follow}
use Rattle.abstract_store.specs.Store as abstract-store
use Rattle.theorems.specs.Isolation.{Each, both, more, StoreAlike, CallAlike, equal, stored, followed, Denied, DeniedThroughout, ToldSameThroughout}
use Rattle.model.specs.History.{calls}
use Rattle.theorems.specs.Hidden.{range_of, first_writers, next_writers, unformatted, first_opening, listing, listed_before, both_at_work, fourth}
use Rattle.model_laws.proofs.bytes.ByteLaws.{length-zeros}
use Rattle.theorems.proofs.steps.FormatRuns.{after-format}
use Rattle.model.proofs.examples.Computing.{all-definitions}
use Rattle.theorems.proofs.isolation.AlikeFollows.{reply-keeps-alike, store-self}
use Rattle.theorems.proofs.isolation.AlikeHistories.{ready_on}
use Rattle.theorems.proofs.isolation.IsolationHolds.{isolation}

-- ---- what is left to compute

-- calls without an opening are allowed once one is done
unfoldable pub no_opening : List Call → Bool
no_opening [] = true
no_opening (c ∷ cs) = not (is_opening c) && no_opening cs

none_first : (a b : Bool) → (not a && b) ≡ true → (a ≡ false) × (b ≡ true)
none_first true b e = absurd (false≢true e)
none_first false b e = (refl, e)

pub calm : (cs : List Call) (w : World) → w.ready ≡ true → no_opening cs ≡ true → AllAllowed w (calls cs)
unfolding calls no_opening
calm [] w r n = tt
calm (c ∷ cs) w r n =
    let k = none_first (is_opening c) (no_opening cs) n in
    (k.0 ∙ sym (ap not r), calm cs (step w (call c)) (ready_on w c r) k.1)

-- stores stay alike where the answers are the same
abbrev pub SameReplies : World → World → List Call → List Call → Type 0
SameReplies w v [] ds = Unit {0}
SameReplies w v (c ∷ cs) [] = Unit {0}
SameReplies w v (c ∷ cs) (e ∷ ds) = (reply_of (ends w c) ≡ reply_of (ends v e)) × SameReplies (step w (call c)) (step v (call e)) cs ds

pub alike-along : (hidden : ℕ → Bool) (cs ds : List Call) (w v : World) (s t : Store) → no_opening cs ≡ true → SameReplies w v cs ds → Each (CallAlike hidden) cs ds
    → StoreAlike hidden s t → StoreAlike hidden (followed s w (calls cs)) (followed t v (calls ds))
unfolding calls followed no_opening
alike-along hidden [] [] w v s t n q both a = a
alike-along hidden [] (e ∷ ds) w v s t n q unequal a = elim unequal [ ]
alike-along hidden (c ∷ cs) [] w v s t n q unequal a = elim unequal [ ]
alike-along hidden (c ∷ cs) (e ∷ ds) w v s t n q (more k ks) a =
    let m = none_first (is_opening c) (no_opening cs) n in
    alike-along hidden cs ds (step w (call c)) (step v (call e)) (follow s w (call c)) (follow t v (call e)) m.1 q.1 ks
    (unfold follow in
    subst (λ (x : Reply). StoreAlike hidden (after_reply s c (reply_of (ends w c))) (after_reply t e x)) q.0
    (reply-keeps-alike hidden a (reply_of (ends w c)) m.0 k))

-- what writer 1 may not read is home 4
unfoldable pub never_four : Store → World → List Event → Bool
never_four s w [] = not (may_read s.homes (list_of s) 1 4)
never_four s w (e ∷ es) = not (may_read s.homes (list_of s) 1 4) && never_four (follow s w e) (step w e) es

not-true : (a : Bool) → not a ≡ true → a ≡ false
not-true true e = absurd (false≢true e)
not-true false e = refl

denied-four : (s : Store) → may_read s.homes (list_of s) 1 4 ≡ false → Denied 1 fourth s
unfolding fourth
denied-four s m home e = rw (eqb-true home 4 e) m

pub denied-always : (es : List Event) (s : Store) (w : World) → never_four s w es ≡ true → DeniedThroughout 1 fourth s w es
unfolding never_four
denied-always [] s w m = denied-four s (not-true (may_read s.homes (list_of s) 1 4) m)
denied-always (e ∷ es) s w m =
    let k = none_first (may_read s.homes (list_of s) 1 4) (never_four (follow s w e) (step w e) es) m in
    (denied-four s k.0, denied-always es (follow s w e) (step w e) k.1)

-- ---- computed

format-done : (format_call unformatted).code ≡ 0
unfolding all-definitions unformatted
format-done = refl

pub format : Formatting 4 12
unfolding unformatted
format =
    record {
      memory = record { log = zeros (64 + 512 * 4); area = zeros (64 * 12) };
      given = unformatted;
      log_size = length-zeros (64 + 512 * 4);
      area_size = length-zeros (64 * 12);
      log_copy = length-zeros (64 + 512 * 4);
      area_copy = length-zeros (64 * 12);
      done = format-done;
    }

abbrev started : World
started = step (empty_store 4 12) (call first_opening)

opening-done : started.ready ≡ true
unfolding all-definitions listed_of set_listed fresh_numbers carry_listed list_sign set_list_sign same_listed list_moved sign_for sign_if keep_list signed_list right_to_store right_to_read for_home shown_at list_by store_list read_list of_list is_list in_range in_ranges may_store may_read store_allowed read_allowed range_of first_writers next_writers first_opening listing listed_before both_at_work
opening-done = refl

listing-ready : (a : ℕ) → (after (empty_store 4 12) (calls (listed_before a))).ready ≡ true
unfolding after calls listed_before listing
listing-ready a = go (listing a) started opening-done
  where
    go : (cs : List Call) (w : World) → w.ready ≡ true → (after w (calls cs)).ready ≡ true
    go [] w r = r
    go (c ∷ cs) w r = go cs (step w (call c)) (ready_on w c r)

allowed-there : (a b : ℕ) → AllAllowed (empty_store 4 12) (calls (listed_before a) ++ calls (both_at_work b))
unfolding calls listed_before listing both_at_work is_opening
allowed-there a b = (
  unfold first_opening empty_store unopened in refl,
  calm (listing a ++ both_at_work b) started opening-done
      (unfold no_opening in refl),
)

listing-alike : Each (CallAlike fourth) (listing 1) (listing 101)
unfolding listing fourth fill
listing-alike = more equal (more equal (more (stored refl refl) (more equal (more equal (more equal both)))))

pub work-alike : Each (CallAlike fourth) (both_at_work 2) (both_at_work 102)
unfolding both_at_work fourth fill
work-alike =
    more equal (more equal (more equal (more equal (more (stored refl refl) (more equal (more equal (more equal (more equal (more equal (more equal (more equal (more equal both))))))))))))

listing-answers : SameReplies started started (listing 1) (listing 101)
unfolding all-definitions listed_of set_listed fresh_numbers carry_listed list_sign set_list_sign same_listed list_moved sign_for sign_if keep_list signed_list right_to_store right_to_read for_home shown_at list_by store_list read_list of_list is_list in_range in_ranges may_store may_read store_allowed read_allowed range_of first_writers next_writers first_opening listing listed_before both_at_work reply_of
listing-answers = (refl, (refl, (refl, (refl, (refl, (refl, tt))))))

abbrev first : Store
first = follow (new_store 4 12) (empty_store 4 12) (call first_opening)

stores-alike : StoreAlike fourth (followed (new_store 4 12) (empty_store 4 12) (calls (listed_before 1)))
    (followed (new_store 4 12) (empty_store 4 12) (calls (listed_before 101)))
unfolding calls followed listed_before
stores-alike =
    alike-along fourth (listing 1) (listing 101) started started first first (unfold listing is_opening no_opening in refl)
    listing-answers listing-alike (store-self fourth first)

never-four : never_four (followed (new_store 4 12) (empty_store 4 12) (calls (listed_before 1))) (after (empty_store 4 12) (calls (listed_before 1))) (calls (both_at_work 2)) ≡ true
unfolding all-definitions listed_of set_listed fresh_numbers carry_listed list_sign set_list_sign same_listed list_moved sign_for sign_if keep_list signed_list right_to_store right_to_read for_home shown_at list_by store_list read_list of_list is_list in_range in_ranges may_store may_read store_allowed read_allowed range_of first_writers next_writers first_opening listing listed_before both_at_work new_store group_of_first numbered with_round list_of last_after fenced_after set_for promises_after store_must_log reply_of after_reply follow followed calls after_service abstract-store.after_done never_four
never-four = refl

-- ---- so writer 1 is told the same

pub isolated-there : ToldSameThroughout 1 (after (after_format format) (calls (listed_before 1))) (after (after_format format) (calls (listed_before 101))) (both_at_work 2)
    (both_at_work 102)
isolated-there =
    isolation 4 12 format format (calls (listed_before 1)) (calls (listed_before 101)) (both_at_work 2) (both_at_work 102) 1 fourth
    (rw (after-format format) (allowed-there 1 2)) (rw (after-format format) (allowed-there 101 102)) (rw (after-format format) (listing-ready 1))
    (rw (after-format format) (listing-ready 101)) (rw (after-format format) stores-alike) work-alike
    (rw (after-format format)
    (denied-always (calls (both_at_work 2)) (followed (new_store 4 12) (empty_store 4 12) (calls (listed_before 1)))
    (after (empty_store 4 12) (calls (listed_before 1))) never-four))
