-- Rounds: begun, and moved on by a step of k homes. Assumes nothing.
use Prim.Native.Nat.{ℕ, ◌+◌, ◌-◌, ◌*◌, ◌^◌, ◌≤◌, ◌<◌}
use mathlib.Core.Path.{◌≡◌, refl, sym, ap, ◌∙◌}
use mathlib.Core.Logic.{◌⊎◌, inl, inr}
use mathlib.Core.Bool.{Bool, true, false, cond, ◌&&◌}
use mathlib.Core.List.{List, [], ◌∷◌, ◌++◌, append-nil, append_assoc}
use native.Mathlib.Decide.{dec_lt}
use native.Mathlib.Omega.{arith}
use lib.Dec.{leb}
use lib.ListN.{length, get_or, take}
use lib.Seq.{take_all}
use borrow.Author.Tests.{leb-true, leb-false, le-leb}
use Rattle.model.specs.Layout.{home_at, block_at}
use Rattle.model.specs.Commit.{newest, found}
use Rattle.model.specs.State.{state_of, set_settled, set_fenced, set_round, set_cursor, fixed_in, next_position, promise_of, writer_of, held_of}
use Rattle.model.specs.declared.State.{State}
use Rattle.model.specs.Effects.{Effect, new_state, marked, home_writes, touched_from, restored_homes, round_transactions, round_homes, round_ended, round_moved, step_homes, step_round_effect, begin_round_effect}
use Rattle.model.specs.Questions.{in_round}
use Rattle.model.specs.Batch.{Record, FN}
use Rattle.model.specs.Crash.{Memory}
use Rattle.model.specs.Book.{homes_after}
use Rattle.model.specs.DemandTwo.{closed_below, settled_for, SettledHomes}
use Rattle.model.specs.History.{World, lent, feed, is_confirm, begin_round, step_round, feed_change}
use Rattle.model_laws.proofs.state.BatchLaws.{AllFormed, formed-append}
use Rattle.model_laws.proofs.state.PromiseLaws.{promise-set_settled, promise-set_fenced, promise-set_round, promise-set_cursor}
use Rattle.model_laws.proofs.state.StateLaws.{with_settled, with_fenced, with_round, with_cursor, length-set_settled, length-set_fenced, length-set_round, length-set_cursor, state-set_settled, state-set_fenced, state-set_round, state-set_cursor, writer-set_settled, writer-set_fenced, writer-set_round, writer-set_cursor, held-set_settled, held-set_fenced, held-set_round, held-set_cursor}
use Rattle.model_laws.proofs.state.QuestionLaws.{and-true, out-of-round, within-round}
use Rattle.model_laws.proofs.trace.CrashLaws.{write_records, write-append}
use Rattle.model_laws.proofs.trace.HomeLaws.{In, in-cases, in-marked, marked-in, marked-below}
use Rattle.model_laws.proofs.trace.MixLaws.{group_part, mixed-append, mixed-homes, group_part-append, home_part-append, group_part-homes, home_part-homes}
use Rattle.model_laws.proofs.trace.ReplayLaws.{Good, replay-home, length-block_at}
use Rattle.model_laws.proofs.trace.RestoreLaws.{in-at, take-marked, in-or-not, length-restored, restored-other, restored-in}
use Rattle.model_laws.proofs.trace.TraceLaws.{All}
use Rattle.model_laws.proofs.trace.WalkLaws.{closing_below}
use Rattle.theorems.proofs.invariant.Invariant.{Sizes, Copies, Submitted, Running}
use Rattle.theorems.proofs.invariant.SettledLaws.{settled-done, settled-none, settled-ahead, settled-fixed}
use Rattle.theorems.proofs.invariant.LiveLog.{tags_in, end_of, kept_in, Shown, all-each, live-upto, upto-shown, lent-groups, lent-homes, lent-tags, lent-base}
use Rattle.theorems.proofs.steps.DoneLaws.{after}
use Rattle.theorems.proofs.steps.HomeRuns.{homes-since, homes-become, submitted-homes}
use Rattle.theorems.proofs.steps.LogSubmits.{confirmed-more}
use Rattle.theorems.proofs.steps.NumberRuns.{copies-renumber}
use Rattle.theorems.proofs.steps.SettleRuns.{touches-found, settle-replay, settle-untouched, formed-homes}

-- whether a round is under way, as the calls ask it
pub lent_out : (w : World) (batch : List ℕ) → in_round (lent w [] batch 0 0) ≡ false → (state_of w.state).round ≡ 0
unfolding lent
lent_out w batch e = out-of-round (lent w [] batch 0 0) e

pub lent-within : (w : World) (batch : List ℕ) → in_round (lent w [] batch 0 0) ≡ true → 1 ≤ (state_of w.state).round
unfolding lent
lent-within w batch e = within-round (lent w [] batch 0 0) e

-- ---- a round is begun

module _ (G D : ℕ) (z : Sizes G D) (w : World) (r : Running G D w) (none : (state_of w.state).round ≡ 0) where
  abbrev begun : List ℕ
  begun = set_cursor (set_round w.state ((state_of w.state).fenced + 1)) 0

  small : (state_of w.state).fenced + 1 < 2 ^ 64
  small = let o = r.copies.order in omega (arith, o.fenced-next, o.next-most, o.start-most, o.groups-same, z.high)

  pub begun-numbers : state_of begun ≡ with_cursor (with_round (state_of w.state) ((state_of w.state).fenced + 1)) 0
  begun-numbers =
      state-set_cursor (set_round w.state ((state_of w.state).fenced + 1)) 0
      (length-set_round w.state ((state_of w.state).fenced + 1) ∙ r.copies.state_size) (omega arith)
      ∙ ap (λ (x : State). with_cursor x 0) (state-set_round w.state ((state_of w.state).fenced + 1) r.copies.state_size small)

  pub begin-round-runs : Running G D (after w begin_round (begin_round_effect (lent w [] [] 0 0)))
  unfolding begin_round_effect new_state lent feed feed_change is_confirm
  begin-round-runs =
      let c = r.copies in
      let o = c.order in
      let s = r.submitted in
      let st : State = state_of w.state in
      let F : ℕ = st.fenced + 1 in
      let e : state_of begun ≡ with_cursor (with_round st F) 0 = begun-numbers in
      let u : World = after w begin_round (begin_round_effect (lent w [] [] 0 0)) in
      record {
        b = r.b;
        tr = r.tr;
        old = r.old;
        ready = refl;
        since = r.since;
        commits = r.commits;
        copies =
            copies-renumber G D r.b r.tr w u c
            (rw e (record {
              groups = refl;
              homes = refl;
              next = refl;
              filled = refl;
              start = omega arith;
              most = o.start-most;
              upto = o.start-next;
              low = o.start-settled;
              settled = o.settled-fenced;
              fenced = o.fenced-next;
              durable = o.durable-fenced;
              round-settled = λ h. omega (arith, o.settled-fenced);
              round-fenced = omega arith;
            }))
            (length-set_cursor (set_round w.state F) 0 ∙ length-set_round w.state F ∙ c.state_size)
            (λ x l. writer-set_cursor (set_round w.state F) 0 x ∙ writer-set_round w.state F x)
            (λ x l. held-set_cursor (set_round w.state F) 0 x ∙ held-set_round w.state F x)
            (λ x l. promise-set_cursor (set_round w.state F) 0 x l ∙ promise-set_round w.state F x l)
            (rw e o.last-closing) (λ x l h. rw e ((o.writers x l).logged h).0) refl refl (λ slot. refl) refl refl refl refl
            (λ h l. rw (e, settled-ahead (with_cursor (with_round st F) 0) h (omega arith), ← settled-none st h none) (c.settled_homes h l))
            (rw e c.apart) (rw e c.links) (rw e c.last);
        submitted = record {
          fenced = s.fenced;
          group = s.group;
          count = s.count;
          content = s.content;
          tail = s.tail;
          done = s.done;
          split = append-nil w.pending ∙ s.split;
          mixed = s.mixed;
          groups_of = s.groups_of;
          homes_of = s.homes_of;
          behind = λ h i. absurd (omega (arith, (s.behind h i).1));
          area = s.area;
          at_fence = rw e s.at_fence;
          next = rw e s.next;
          low = s.low;
          written = s.written;
          contents = s.contents;
          log_size = s.log_size;
          area_size = s.area_size;
          homes = rw e s.homes;
          header = s.header;
          start = rw e s.start;
          numbers = s.numbers;
          there = rw e s.there;
          turned = rw e s.turned;
          images = s.images;
          bounded = rw e s.bounded;
        };
        confirmed = confirmed-more G r.b w u [] r.confirmed refl refl (rw e (omega arith)) (λ bound h. h);
      }

-- ---- a step

module _ (G D : ℕ) (z : Sizes G D) (w : World) (r : Running G D w) (under : 1 ≤ (state_of w.state).round) where
  abbrev st : State
  st = state_of w.state

  abbrev c : Copies G D r.b r.tr w
  c = r.copies

  abbrev s : Submitted G D r.b r.tr r.old w
  s = r.submitted

  abbrev F : ℕ
  F = fixed_in (state_of w.state)

  abbrev pub ts : List (List ℕ)
  ts = closing_below (fixed_in (state_of w.state)) (kept_in r.b r.tr w)

  abbrev pub is_due : ℕ → Bool
  is_due h = leb (state_of w.state).cursor h && found (newest (tags_in G D w) h ts)

  -- the homes that remain
  abbrev pub remaining : List ℕ
  remaining = marked is_due D

  fixed-low : st.settled ≤ F
  unfolding fixed_in
  fixed-low = let k = c.order.round-settled under in omega arith

  fixed-high : F ≤ st.fenced
  unfolding fixed_in
  fixed-high = let k = c.order.round-fenced in omega arith

  fixed-inside : F ≤ end_of w
  unfolding next_position
  fixed-inside = omega (arith, fixed-high, c.order.fenced-next)

  pub round_is : (batch : List ℕ) → round_transactions (lent w [] batch 0 0) ≡ ts
  unfolding round_transactions lent
  round_is batch =
      rw (lent-tags G D r.b r.tr w z c [] batch 0 0, lent-base G D r.b r.tr w z c [] batch 0 0)
      (live-upto G D r.b r.tr w z c F (omega (arith, c.order.start-settled, fixed-low)) fixed-inside)

  pub remaining-are : (batch : List ℕ) → round_homes (lent w [] batch 0 0) ≡ remaining
  unfolding round_homes touched_from lent
  remaining-are batch =
      rw (round_is batch, lent-tags G D r.b r.tr w z c [] batch 0 0, lent-homes G D r.b r.tr w z c [] batch 0 0)

  -- the data copy with some homes brought up
  abbrev pub brought_up : List ℕ → List ℕ
  brought_up hs = restored_homes w.log G (tags_in G D w) ts hs w.area

  abbrev pub stepped : ℕ → Bool → Effect
  stepped k last =
      record {
        figure = 0;
        state = cond last (round_ended w.state (state_of w.state)) (round_moved w.state remaining k);
        newest = w.newest;
        log = w.log;
        area = brought_up (take k remaining);
        block = [];
        records = home_writes (brought_up (take k remaining)) (take k remaining) ++ cond last (FN ∷ []) [];
      }

  pub step-effect : (k : ℕ) (batch : List ℕ) → step_round_effect (lent w [] batch 0 0) k ≡ stepped k (leb (length remaining) k)
  unfolding step_round_effect step_homes lent
  step-effect k batch =
      rw (remaining-are batch, round_is batch, lent-tags G D r.b r.tr w z c [] batch 0 0, lent-groups G D r.b r.tr w z c [] batch 0 0)

  -- ---- the homes below a bound brought up

  sized : (p : ℕ) → length (block_at w.log G p) ≡ 64
  sized p = length-block_at w.log G p (omega (arith, z.low)) c.log_size

  good : (ts' : List (List ℕ)) → All (All (Shown G D r.b r.tr w)) ts'
      → All (All (Good w.log G D (tags_in G D w))) ts'
  good ts' = all-each (Shown G D r.b r.tr w) (Good w.log G D (tags_in G D w)) (λ p x. (rw x.home x.fits.0, sized p)) ts'

  module _ (e : ℕ) (upto : e ≤ D) where
    abbrev now : List ℕ
    now = marked is_due e

    pub step-inside : (h : ℕ) → In h now → h < D
    step-inside h i = let l = marked-below is_due e h i in omega arith

    pub step-ahead : (h : ℕ) → In h now → st.cursor ≤ h
    step-ahead h i = leb-true st.cursor h (and-true (leb st.cursor h) _ (in-marked h is_due e i).1).0

    pub step-size : length (brought_up now) ≡ 64 * D
    step-size = length-restored w.log G D (tags_in G D w) ts sized now w.area ∙ c.area_size

    pub step-others : (h : ℕ) → (In h now → ⊥) → home_at (brought_up now) h ≡ home_at w.area h
    step-others h n = restored-other w.log G D (tags_in G D w) ts sized now w.area h n

    -- homes from the bound on stay
    pub step-beyond : (h : ℕ) → e ≤ h → home_at (brought_up now) h ≡ home_at w.area h
    step-beyond h l = step-others h (λ i. let k = marked-below is_due e h i in omega arith)

    -- those below it hold what the commits below the fixed F say
    pub step-below : (h : ℕ) → h < D → h < e → home_at (brought_up now) h ≡ home_at (homes_after D (closed_below F w.book.commits)) h
    step-below h l m = go (in-or-not h now)
      where
        fresh : st.cursor ≤ h → (In h now → ⊥) → home_at w.area h ≡ home_at (homes_after D (closed_below F w.book.commits)) h
        fresh k n =
            settle-untouched G D r.b r.tr r.old w z r.commits c F h l (settled-fixed w.state G D c.order h under)
            (touches-found G D r.b r.tr r.old w z r.commits c F h ∙ none (found (newest (tags_in G D w) h ts)) refl)
          where
            none : (d : Bool) → found (newest (tags_in G D w) h ts) ≡ d → found (newest (tags_in G D w) h ts) ≡ false
            none true q = absurd (n (marked-in h is_due e m (rw (le-leb st.cursor h k, q))))
            none false q = q

        old : (In h now → ⊥) → Dec (h < st.cursor) → home_at w.area h ≡ home_at (homes_after D (closed_below F w.book.commits)) h
        old n (yes k) = rw (settled-done st h under k) at (c.settled_homes h l)
        old n (no k) = fresh (omega arith) n

        go : In h now ⊎ (In h now → ⊥) → home_at (brought_up now) h ≡ home_at (homes_after D (closed_below F w.book.commits)) h
        go (inl i) =
            restored-in w.log G D (tags_in G D w) ts sized now w.area h i l c.area_size
            ∙ sym (replay-home w.log G D (tags_in G D w) ts w.area h (good ts (upto-shown G D r.b r.tr w z c F)) c.area_size l)
            ∙ ap (λ (a : List ℕ). home_at a h)
            (settle-replay G D r.b r.tr r.old w z r.commits c F fixed-low (λ x. settled-fixed w.state G D c.order x under))
        go (inr n) = step-others h n ∙ old n (dec_lt h st.cursor)

    pub step-fresh : (h : ℕ) → In h s.done → In h now → ⊥
    step-fresh h i j = let k = (s.behind h i).2 in let l = step-ahead h j in omega arith

    pub step-formed : AllFormed (home_writes (brought_up now) now)
    step-formed = formed-homes (brought_up now) now D z.homes step-size step-inside

  -- ---- the last step

  abbrev pub ended_state : List ℕ
  ended_state = round_ended w.state (state_of w.state)

  abbrev pub ended_numbers : State
  ended_numbers = with_cursor (with_round (with_fenced (with_settled (state_of w.state) (fixed_in (state_of w.state))) (7 * (state_of w.state).next)) 0) 0

  next_small : 7 * st.next < 2 ^ 64
  next_small = let o = c.order in omega (arith, o.next-most, o.start-most, o.groups-same, z.high)

  fixed-small : F < 2 ^ 64
  fixed-small = omega (arith, fixed-high, c.order.fenced-next, next_small)

  abbrev s₁ : List ℕ
  s₁ = set_settled w.state (fixed_in (state_of w.state))

  abbrev s₂ : List ℕ
  s₂ = set_fenced s₁ (7 * (state_of w.state).next)

  abbrev s₃ : List ℕ
  s₃ = set_round s₂ 0

  size₁ : length s₁ ≡ 1024
  size₁ = length-set_settled w.state F ∙ c.state_size

  size₂ : length s₂ ≡ 1024
  size₂ = length-set_fenced s₁ (7 * st.next) ∙ size₁

  size₃ : length s₃ ≡ 1024
  size₃ = length-set_round s₂ 0 ∙ size₂

  ended-size : length ended_state ≡ 1024
  unfolding round_ended
  ended-size = length-set_cursor s₃ 0 ∙ size₃

  pub ended-numbers : state_of ended_state ≡ ended_numbers
  unfolding round_ended
  ended-numbers =
      state-set_cursor s₃ 0 size₃ (omega arith)
      ∙ ap (λ (x : State). with_cursor x 0)
      (state-set_round s₂ 0 size₂ (omega arith)
      ∙ ap (λ (x : State). with_round x 0)
      (state-set_fenced s₁ (7 * st.next) size₁ next_small ∙ ap (λ (x : State). with_fenced x (7 * st.next)) (state-set_settled w.state F c.state_size fixed-small)))

  ended-writers : (x : ℕ) → writer_of ended_state x ≡ writer_of w.state x
  unfolding round_ended
  ended-writers x = writer-set_cursor s₃ 0 x ∙ writer-set_round s₂ 0 x ∙ writer-set_fenced s₁ (7 * st.next) x ∙ writer-set_settled w.state F x

  ended_held : (x : ℕ) → held_of ended_state x ≡ held_of w.state x
  unfolding round_ended
  ended_held x = held-set_cursor s₃ 0 x ∙ held-set_round s₂ 0 x ∙ held-set_fenced s₁ (7 * st.next) x ∙ held-set_settled w.state F x

  pub ended-promises : (x : ℕ) → x < 8 → promise_of ended_state x ≡ promise_of w.state x
  unfolding round_ended
  ended-promises x l =
      promise-set_cursor s₃ 0 x l ∙ promise-set_round s₂ 0 x l ∙ promise-set_fenced s₁ (7 * st.next) x ∙ promise-set_settled w.state F x

  ended-settled : SettledHomes D (brought_up remaining) ended_numbers w.book.commits
  ended-settled h l = rw (settled-none ended_numbers h refl) (step-below D (omega arith) h l l)

  ended-runs : (k : ℕ) (batch : List ℕ) → length remaining ≤ k → Running G D (after w (step_round k batch) (stepped k true))
  unfolding feed feed_change is_confirm
  ended-runs k batch few =
      let o = c.order in
      let e : state_of ended_state ≡ ended_numbers = ended-numbers in
      let q : take k remaining ≡ remaining = take_all k remaining few in
      let u : World = after w (step_round k batch) (stepped k true) in
      let area : List ℕ = brought_up remaining in
      record {
        b = r.b;
        tr = r.tr;
        old = r.old;
        ready = refl;
        since = r.since;
        commits = r.commits;
        copies =
            copies-renumber G D r.b r.tr w u c
            (rw e (record {
              groups = refl;
              homes = refl;
              next = refl;
              filled = refl;
              start = omega arith;
              most = o.start-most;
              upto = o.start-next;
              low = omega (arith, o.start-settled, fixed-low);
              settled = omega (arith, fixed-high, o.fenced-next);
              fenced = omega arith;
              durable = omega (arith, o.durable-fenced, o.fenced-next);
              round-settled = λ h. absurd (omega arith);
              round-fenced = omega arith;
            }))
            ended-size (λ x l. ended-writers x) (λ x l. ended_held x) ended-promises (rw e o.last-closing) (λ x l h. rw e ((o.writers x l).logged h).0) refl refl
            (λ slot. refl) (rw q (step-size D (omega arith)) ∙ sym c.area_size) refl refl refl (rw (e, q) ended-settled)
            (rw e c.apart) (rw e c.links) (rw e c.last);
        submitted =
            submitted-homes G D r.b r.tr r.old w z r.commits c s area remaining (step-size D (omega arith)) (step-inside D (omega arith))
            (step-fresh D (omega arith)) (λ h l n. step-others D (omega arith) h n) u F fixed-low (omega (arith, fixed-high, s.at_fence))
            (λ h l. (F, omega arith, omega (arith, fixed-high, s.at_fence), step-below D (omega arith) h l l)) (rw q) refl refl (rw q) (rw e) (rw e) (rw e)
            (rw e);
        confirmed =
            confirmed-more G r.b w u _ r.confirmed refl refl (rw e o.fenced-next) (λ bound h. h);
      }

  -- ---- a step that leaves homes

  module _ (k : ℕ) (one : 1 ≤ k) (many : k < length remaining) where
    abbrev pub next_cursor : ℕ
    next_cursor = get_or (marked is_due D) (k - 1) 0 + 1

    last-in : In (get_or remaining (k - 1) 0) remaining
    last-in = in-at remaining (k - 1) (omega arith)

    pub cursor-upto : next_cursor ≤ D
    cursor-upto = let l = marked-below is_due D (get_or remaining (k - 1) 0) last-in in omega arith

    pub cursor-from : st.cursor < next_cursor
    cursor-from = let l = step-ahead D (omega arith) (get_or remaining (k - 1) 0) last-in in omega arith

    pub step-now : take k remaining ≡ marked is_due next_cursor
    step-now = take-marked is_due D k one (omega arith)

    abbrev hs : List ℕ
    hs = marked is_due next_cursor

    pub moved-numbers : state_of (round_moved w.state remaining k) ≡ with_cursor st next_cursor
    unfolding round_moved
    moved-numbers = state-set_cursor w.state next_cursor c.state_size (omega (arith, cursor-upto, z.homes))

    moved-settled : SettledHomes D (brought_up hs) (with_cursor st next_cursor) w.book.commits
    moved-settled h l = go (dec_lt h next_cursor)
      where
        go : Dec (h < next_cursor)
            → home_at (brought_up hs) h ≡ home_at (homes_after D (closed_below (settled_for (with_cursor st next_cursor) h) w.book.commits)) h
        go (yes m) = rw (settled-done (with_cursor st next_cursor) h under m) (unfold fixed_in in step-below next_cursor cursor-upto h l m)
        go (no m) =
            step-beyond next_cursor cursor-upto h (omega arith) ∙ c.settled_homes h l
            ∙ ap (λ (x : ℕ). home_at (homes_after D (closed_below x w.book.commits)) h)
            (settled-ahead st h (omega (arith, cursor-from)) ∙ sym (settled-ahead (with_cursor st next_cursor) h (omega arith)))

    moved-behind : (h : ℕ) → In h (s.done ++ hs) → (h < D) × (1 ≤ st.round) × (h < next_cursor)
    moved-behind h i = go (in-cases h s.done hs i)
      where
        go : In h s.done ⊎ In h hs → (h < D) × (1 ≤ st.round) × (h < next_cursor)
        go (inl p) = let x = s.behind h p in (x.0, x.1, omega (arith, x.2, cursor-from))
        go (inr p) = (step-inside next_cursor cursor-upto h p, under, marked-below is_due next_cursor h p)

    moved-submitted : (u : World) → u.pending ≡ w.pending ++ home_writes (brought_up hs) hs → u.memory ≡ w.memory → u.area ≡ brought_up hs
        → u.book.commits ≡ w.book.commits → state_of u.state ≡ with_cursor st next_cursor → Submitted G D r.b r.tr r.old u
    moved-submitted u ep em ea ec e =
        record {
          fenced = s.fenced;
          group = s.group;
          count = s.count;
          content = s.content;
          tail = s.tail ++ home_writes (brought_up hs) hs;
          done = s.done ++ hs;
          split =
              ep ∙ ap (λ (x : List Record). x ++ home_writes (brought_up hs) hs) s.split
              ∙ append_assoc (s.fenced ++ (FN ∷ [])) s.tail (home_writes (brought_up hs) hs);
          mixed = mixed-append s.tail (home_writes (brought_up hs) hs) s.mixed (mixed-homes (brought_up hs) hs);
          groups_of =
              group_part-append s.tail (home_writes (brought_up hs) hs)
              ∙ rw (group_part-homes (brought_up hs) hs, append-nil (group_part s.tail)) s.groups_of;
          homes_of =
              home_part-append s.tail (home_writes (brought_up hs) hs)
              ∙ rw (s.homes_of, home_part-homes (brought_up hs) hs, ea)
              (homes-since G D r.b r.tr r.old w z r.commits c s (brought_up hs) hs (step-size next_cursor cursor-upto)
              (step-inside next_cursor cursor-upto) (step-fresh next_cursor cursor-upto) (λ h l n. step-others next_cursor cursor-upto h n));
          behind = rw e moved-behind;
          area = rw (em, ea) moved-area;
          at_fence = rw e s.at_fence;
          next = rw e s.next;
          low = s.low;
          written = s.written;
          contents = s.contents;
          log_size = rw em s.log_size;
          area_size = rw em s.area_size;
          homes = rw (em, ec, e) s.homes;
          header = rw em s.header;
          start = rw (em, e) s.start;
          numbers = rw em s.numbers;
          there = rw (em, e) s.there;
          turned = rw (em, e) s.turned;
          images = rw (em, ec) s.images;
          bounded = rw (em, e) s.bounded;
        }
      where
        m : Memory
        m = write_records s.fenced w.memory

        moved-area : (write_records (s.tail ++ home_writes (brought_up hs) hs) m).area ≡ brought_up hs
        moved-area =
            rw write-append
            (homes-become (brought_up hs) hs (write_records s.tail m) D (ap length s.area ∙ c.area_size) (step-size next_cursor cursor-upto)
            (step-inside next_cursor cursor-upto) (rw s.area (λ h l n. step-others next_cursor cursor-upto h n)))

    moved-runs : (batch : List ℕ) → Running G D (after w (step_round k batch) (stepped k false))
    unfolding feed feed_change is_confirm round_moved
    moved-runs batch =
        let o = c.order in
        let e : state_of (set_cursor w.state next_cursor) ≡ with_cursor st next_cursor = moved-numbers in
        let u : World = after w (step_round k batch) (stepped k false) in
        record {
          b = r.b;
          tr = r.tr;
          old = r.old;
          ready = refl;
          since = r.since;
          commits = r.commits;
          copies =
              copies-renumber G D r.b r.tr w u c
              (rw e (record {
                groups = refl;
                homes = refl;
                next = refl;
                filled = refl;
                start = omega arith;
                most = o.start-most;
                upto = o.start-next;
                low = o.start-settled;
                settled = o.settled-fenced;
                fenced = o.fenced-next;
                durable = o.durable-fenced;
                round-settled = o.round-settled;
                round-fenced = o.round-fenced;
              }))
              (length-set_cursor w.state next_cursor ∙ c.state_size) (λ x l. writer-set_cursor w.state next_cursor x)
              (λ x l. held-set_cursor w.state next_cursor x) (λ x l. promise-set_cursor w.state next_cursor x l) (rw e o.last-closing)
              (λ x l h. rw e ((o.writers x l).logged h).0) refl refl (λ slot. refl)
              (rw step-now (step-size next_cursor cursor-upto) ∙ sym c.area_size) refl refl refl (rw (e, step-now) moved-settled)
              (rw e c.apart) (rw e c.links) (rw e c.last);
          submitted =
              moved-submitted u (rw (step-now, append-nil (home_writes (brought_up hs) hs))) refl (rw step-now) refl e;
          confirmed = confirmed-more G r.b w u _ r.confirmed refl refl (rw e (omega arith)) (λ bound h. h);
        }

  -- ---- either

  pub step-round-runs : (k : ℕ) (batch : List ℕ) → 1 ≤ k → Running G D (after w (step_round k batch) (step_round_effect (lent w [] batch 0 0) k))
  step-round-runs k batch one = rw (step-effect k batch) (go (leb (length remaining) k) refl)
    where
      go : (d : Bool) → leb (length remaining) k ≡ d → Running G D (after w (step_round k batch) (stepped k d))
      go true e = ended-runs k batch (leb-true (length remaining) k e)
      go false e = moved-runs k one (leb-false (length remaining) k e) batch

  -- the data copy that a step leaves
  pub step-yields : (k : ℕ) (batch : List ℕ) → 1 ≤ k
      → SettledHomes D (step_round_effect (lent w [] batch 0 0) k).area (state_of (step_round_effect (lent w [] batch 0 0) k).state) w.book.commits
  unfolding feed
  step-yields k batch one = (step-round-runs k batch one).copies.settled_homes

  pub step-round-formed : (k : ℕ) (batch : List ℕ) → 1 ≤ k → AllFormed (step_round_effect (lent w [] batch 0 0) k).records
  step-round-formed k batch one = rw (step-effect k batch) (go (leb (length remaining) k) refl)
    where
      go : (d : Bool) → leb (length remaining) k ≡ d → AllFormed (stepped k d).records
      go true e =
          rw (take_all k remaining (leb-true (length remaining) k e))
          (formed-append (home_writes (brought_up remaining) remaining) (FN ∷ []) (step-formed D (omega arith)) (tt, tt))
      go false e =
          let many : k < length remaining = leb-false (length remaining) k e in
          rw (step-now k one many)
          (formed-append (home_writes (brought_up (marked is_due (next_cursor k one many))) (marked is_due (next_cursor k one many))) []
          (step-formed (next_cursor k one many) (cursor-upto k one many)) tt)
