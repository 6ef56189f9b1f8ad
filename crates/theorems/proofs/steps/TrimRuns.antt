-- Trim: the log starts at a later group, the header says so, and a fence follows.
use mathlib.Core.Path.{◌≡◌, refl, sym, ap, ◌∙◌, subst}
use mathlib.Core.Logic.{◌⊎◌, inl, inr}
use mathlib.Core.Bool.{Bool, true, false, cond}
use mathlib.Core.List.{List, [], ◌∷◌, ◌++◌, append-nil}
use mathlib.Core.Option.{none}
use Prim.Native.Nat.{ℕ, ◌+◌, ◌-◌, ◌*◌, ◌/◌, ◌^◌, ◌≤◌, ◌<◌}
use native.Mathlib.Decide.{dec_lt}
use native.Mathlib.Omega.{arith}
use lib.Dec.{eqb, leb}
use lib.ListN.{length}
use borrow.Author.Tests.{eqb-true, leb-true, leb-false}
use Rattle.model.specs.Bytes.{puts}
use Rattle.model.specs.Layout.{header}
use Rattle.model.specs.Batch.{Record, KW, FN}
use Rattle.model.specs.State.{state_of, set_start, set_fenced, set_last, next_position, promise_of, writer_of, held_of}
use Rattle.model.specs.declared.State.{State}
use Rattle.model.specs.Newest.{forget, carry_listed}
use Rattle.model.specs.Effects.{Given, groups, homes, new_state, may_start, largest, none_across, none_open_before, trim_start, trim_to, trim_effect}
use Rattle.model.specs.Crash.{Memory, is_fence}
use Rattle.model.specs.DemandTwo.{group_writes}
use Rattle.model.specs.History.{World, lent, feed, is_confirm, trim, feed_change}
use Rattle.model_laws.proofs.bytes.ByteLaws.{length-puts}
use Rattle.model_laws.proofs.bytes.LayoutLaws.{length-header, group-header}
use Rattle.model_laws.proofs.state.BatchLaws.{AllFormed}
use Rattle.model_laws.proofs.state.StateLaws.{with_start, with_fenced, with_last, state-set_start, length-set_start, writer-set_start, held-set_start, state-set_fenced, length-set_fenced, writer-set_fenced, held-set_fenced, state-set_last, length-set_last, writer-set_last, held-set_last}
use Rattle.model_laws.proofs.state.PromiseLaws.{promise-set_start, promise-set_fenced, promise-set_last}
use Rattle.model_laws.proofs.state.ListedLaws.{length-carry, state-carry, writer-carry, held-carry, promise-carry}
use Rattle.model_laws.proofs.state.QuestionLaws.{and-true}
use Rattle.model_laws.proofs.trace.CrashLaws.{write_records, write-append}
use Rattle.model_laws.proofs.trace.HomeLaws.{In, area-header-wrote}
use Rattle.model_laws.proofs.trace.Trace.{hist, tag_at, Apart}
use Rattle.model_laws.proofs.trace.LinkLaws.{linked-later}
use Rattle.model_laws.proofs.trace.CountLaws.{spans_of}
use Rattle.theorems.proofs.steps.DoneLaws.{after}
use Rattle.theorems.proofs.invariant.Invariant.{Sizes, HeldHome, Copies, Submitted, Running, LastOk, last_closer}
use Rattle.theorems.proofs.invariant.Now.{Now}
use Rattle.theorems.proofs.invariant.NowLate.{now-late-trim, start-trim}
use Rattle.theorems.proofs.invariant.NowNext.{now-trimmed}
use Rattle.theorems.proofs.invariant.SettledLaws.{settled-homes-same, copy-held}
use Rattle.theorems.proofs.steps.FenceRuns.{now_of, is_in_order, in-order-area, done_held, submitted-fence}
use Rattle.theorems.proofs.steps.LogSubmits.{confirmed-more}
use Rattle.theorems.proofs.steps.NumberRuns.{Renumbered, copies-renumber}
use Rattle.theorems.proofs.invariant.LiveLog.{kept_in, lent-groups, lent-homes, lent-tags, lent-base, live-spans}
use Rattle.theorems.proofs.steps.TrimLaws.{largest-from, largest-upto, largest-may, largest-most, across-apart, apart-across, apart-all, apart-closing, open-from, from-open}

-- a group at which the log may start from now on
pub record MayMove (G D : ℕ) (w : World) (r : Running G D w) (s : ℕ) : Type 0 where
  pub from : (state_of w.state).start ≤ s
  pub upto : 7 * s ≤ (state_of w.state).settled
  pub apart : Apart (7 * s) (hist (7 * r.b) r.tr).done
  pub opens : (x : ℕ) → x < 8 → 3 ≤ (writer_of w.state x).mode → 7 * s ≤ (writer_of w.state x).first

-- the last closing entry, where the log starts at s
unfoldable pub last_kept : ℕ → ℕ → ℕ
last_kept s last = cond (leb last (7 * s)) 0 last

pub last_ok : (start s last closer : ℕ) → start ≤ s → LastOk start last closer → LastOk s (last_kept s last) closer
unfolding last_kept
last_ok start s last closer l o = go (leb last (7 * s)) refl o
  where
    go : (b : Bool) → leb last (7 * s) ≡ b → LastOk start last closer → LastOk s (cond b 0 last) closer
    go true e (inl h) = inr (refl, omega (arith, leb-true last (7 * s) e))
    go true e (inr h) = inr (refl, omega arith)
    go false e (inl h) = inl h
    go false e (inr h) = absurd (omega (arith, leb-false last (7 * s) e))

last-most : (s last bound : ℕ) → last ≤ bound → last_kept s last ≤ bound
unfolding last_kept
last-most s last bound h = go (leb last (7 * s))
  where
    go : (b : Bool) → cond b 0 last ≤ bound
    go true = omega arith
    go false = h

module _ (G D : ℕ) (z : Sizes G D) (w : World) (r : Running G D w) (s : ℕ) (t : MayMove G D w r s) (most : s ≤ 2 ^ 47) where
  abbrev c : Copies G D r.b r.tr w
  c = r.copies

  abbrev sb : Submitted G D r.b r.tr r.old w
  sb = r.submitted

  abbrev st : State
  st = state_of w.state

  abbrev head : List ℕ
  head = header s G D

  abbrev last : ℕ
  last = last_kept s (state_of w.state).last

  abbrev renumbered-state : List ℕ
  renumbered-state = set_last (set_fenced (set_start w.state s) (7 * (state_of w.state).next)) (last_kept s (state_of w.state).last)

  -- and the positions of the list's homes carried over
  abbrev state_moved : List ℕ
  state_moved =
      carry_listed D (forget w.newest (7 * s) D)
      (set_last (set_fenced (set_start w.state s) (7 * (state_of w.state).next)) (last_kept s (state_of w.state).last))

  abbrev moved : World
  moved =
      record {
        homes = w.homes;
        state =
            carry_listed D (forget w.newest (7 * s) D)
            (set_last (set_fenced (set_start w.state s) (7 * (state_of w.state).next)) (last_kept s (state_of w.state).last));
        newest = forget w.newest (7 * s) D;
        log = puts w.log 0 (header s G D);
        area = w.area;
        memory = w.memory;
        pending = w.pending ++ (KW (header s G D) ∷ FN ∷ []);
        passed = w.passed;
        ready = true;
        book = w.book;
      }

  next_small : 7 * st.next + 6 < 2 ^ 64
  next_small = omega (arith, c.order.next-most, c.order.start-most, c.order.groups-same, z.high)

  last-small : last_kept s st.last < 2 ^ 64
  last-small =
      let q : next_position st ≡ 7 * st.next + st.filled = unfold next_position in refl in
      omega (arith, last-most s st.last (next_position st) c.order.last-closing, next_small, c.order.filled-most)

  pub renumbered-is : state_of renumbered-state ≡ with_last (with_fenced (with_start st s) (7 * st.next)) last
  renumbered-is =
      state-set_last (set_fenced (set_start w.state s) (7 * st.next)) last
      (length-set_fenced (set_start w.state s) (7 * st.next) ∙ length-set_start w.state s ∙ c.state_size)
      last-small
      ∙ ap (λ (x : State). with_last x last)
      (state-set_fenced (set_start w.state s) (7 * st.next) (length-set_start w.state s ∙ c.state_size) (omega (arith, next_small))
      ∙ ap (λ (x : State). with_fenced x (7 * st.next)) (state-set_start w.state s c.state_size (omega arith)))

  moved-numbers : state_of state_moved ≡ with_last (with_fenced (with_start st s) (7 * st.next)) last
  moved-numbers = state-carry D _ renumbered-state ∙ renumbered-is

  size : length state_moved ≡ 1024
  size =
      length-carry D _ renumbered-state ∙ length-set_last (set_fenced (set_start w.state s) (7 * st.next)) last ∙ length-set_fenced (set_start w.state s) (7 * st.next)
      ∙ length-set_start w.state s ∙ c.state_size

  writers : (x : ℕ) → x < 8 → writer_of state_moved x ≡ writer_of w.state x
  writers x l =
      writer-carry D _ renumbered-state x l ∙ writer-set_last (set_fenced (set_start w.state s) (7 * st.next)) last x ∙ writer-set_fenced (set_start w.state s) (7 * st.next) x
      ∙ writer-set_start w.state s x

  blocks : (x : ℕ) → x < 8 → held_of state_moved x ≡ held_of w.state x
  blocks x l =
      held-carry D _ renumbered-state x l ∙ held-set_last (set_fenced (set_start w.state s) (7 * st.next)) last x ∙ held-set_fenced (set_start w.state s) (7 * st.next) x
      ∙ held-set_start w.state s x

  promises : (x : ℕ) → x < 8 → promise_of state_moved x ≡ promise_of w.state x
  promises x l =
      promise-carry D _ renumbered-state x l ∙ promise-set_last (set_fenced (set_start w.state s) (7 * st.next)) last x ∙ promise-set_fenced (set_start w.state s) (7 * st.next) x
      ∙ promise-set_start w.state s x

  renumbered : Renumbered st (state_of state_moved)
  renumbered =
      rw moved-numbers
      (let o = c.order in
      record {
        groups = refl;
        homes = refl;
        next = refl;
        filled = refl;
        start = t.from;
        most = most;
        upto = omega (arith, t.upto, o.settled-fenced, o.fenced-next);
        low = t.upto;
        settled = omega (arith, o.settled-fenced, o.fenced-next);
        fenced = omega arith;
        durable = omega (arith, o.durable-fenced, o.fenced-next);
        round-settled = o.round-settled;
        round-fenced = omega (arith, o.round-fenced, o.fenced-next);
      })

  copies' : Copies G D r.b r.tr moved
  copies' =
      copies-renumber G D r.b r.tr w moved c renumbered size writers blocks promises
      (rw moved-numbers (last-most s st.last (next_position st) c.order.last-closing)) (rw moved-numbers t.opens) refl
      (length-puts w.log 0 head) (λ slot. group-header w.log head slot (omega (arith, length-header s G D))) refl refl refl refl
      (rw moved-numbers
      (settled-homes-same D w.area st (with_last (with_fenced (with_start st s) (7 * st.next)) last) w.book.commits refl refl refl c.settled_homes))
      (rw moved-numbers t.apart)
      (rw moved-numbers
      (linked-later (7 * st.start) (7 * s) (tag_at (7 * r.b) r.tr) none (hist (7 * r.b) r.tr).done (omega (arith, t.from)) c.links))
      (rw moved-numbers (last_ok st.start s st.last (last_closer (hist (7 * r.b) r.tr).done) t.from c.last))

  abbrev S : List Record
  S = is_in_order G D r.b r.tr r.old w r.submitted

  abbrev memory : Memory
  memory = write_records r.submitted.fenced w.memory

  abbrev N :
      Now G D r.b r.tr r.old w.book.commits (state_of w.state).start (state_of w.state).settled r.submitted.group
      r.submitted.count r.submitted.content (write_records r.submitted.fenced w.memory)
  N = now_of G D r.b r.tr r.old w z r.commits r.copies r.submitted

  submitted' : Submitted G D r.b r.tr r.old moved
  submitted' =
      submitted-fence G D r.b r.tr r.old w sb (KW head ∷ []) (unfold is_fence in (refl, tt)) moved s st.settled sb.content
      (unfold group_writes in refl)
      (now-trimmed N w.area sb.done s t.from t.upto most t.apart
      (λ h l. rw area (copy-held G D r.b r.tr w c (7 * (sb.group + sb.count)) h (omega (arith, sb.at_fence)) l))) refl refl refl
      (sym area) (rw moved-numbers) (rw moved-numbers) (rw moved-numbers (ap (λ (n : ℕ). 7 * n) (sym sb.next))) (rw moved-numbers (sym sb.next))
      t.from
      (λ chosen. now-late-trim N w.area sb.done c.area_size inside held chosen s t.from t.upto most t.apart)
      (λ chosen. start-trim N w.area sb.done c.area_size inside held chosen s t.from t.upto most t.apart)
    where
      area : (write_records (S ++ (KW head ∷ [])) memory).area ≡ w.area
      area =
          rw write-append (area-header-wrote head (write_records S memory)) ∙ in-order-area G D r.b r.tr r.old w sb

      inside : (h : ℕ) → In h sb.done → h < D
      inside h i = (sb.behind h i).0

      held : (h : ℕ) → In h sb.done → HeldHome D w.book.commits st.settled (7 * sb.group) w.area h
      held = done_held G D r.b r.tr r.old w sb c

  pub moved-runs : Running G D moved
  moved-runs =
      record {
        b = r.b;
        tr = r.tr;
        old = r.old;
        ready = refl;
        since = r.since;
        commits = r.commits;
        copies = copies';
        submitted = submitted';
        confirmed = confirmed-more G r.b w moved (KW head ∷ FN ∷ []) r.confirmed refl refl (rw moved-numbers c.order.fenced-next) (λ k h. h);
      }

-- the log may start at s: what the call finds out
may-start : (G D : ℕ) (w : World) (r : Running G D w) (s : ℕ) → (state_of w.state).start ≤ s → 7 * s ≤ (state_of w.state).settled
    → may_start w.state (spans_of (kept_in r.b r.tr w)) s ≡ true → MayMove G D w r s
unfolding may_start
may-start G D w r s l u m =
    let f = and-true (none_across (7 * s) (spans_of (kept_in r.b r.tr w))) (none_open_before (7 * s) w.state 8) m in
    record {
      from = l;
      upto = u;
      apart = apart-all (7 * (state_of w.state).start) (7 * s) (hist (7 * r.b) r.tr).done (omega arith) (across-apart (7 * s) _ f.0);
      opens = open-from (7 * s) w.state 8 f.1;
    }

start-may : (G D : ℕ) (w : World) (r : Running G D w) (s : ℕ) → MayMove G D w r s
    → may_start w.state (spans_of (kept_in r.b r.tr w)) s ≡ true
unfolding may_start
start-may G D w r s t =
    rw (
      apart-across (7 * s) _ (apart-closing (7 * (state_of w.state).start) (7 * s) (hist (7 * r.b) r.tr).done t.apart),
      from-open (7 * s) w.state 8 t.opens,
    )

-- it may start where it starts
pub may-stay : (G D : ℕ) (w : World) (r : Running G D w) → MayMove G D w r (state_of w.state).start
may-stay G D w r =
    let c = r.copies in
    record { from = omega arith; upto = c.order.start-settled; apart = c.apart; opens = λ x l m. ((c.order.writers x l).logged m).0 }

module _ (G D : ℕ) (z : Sizes G D) (w : World) (r : Running G D w) (batch : List ℕ) where
  abbrev found : ℕ → Bool
  found = may_start w.state (spans_of (kept_in r.b r.tr w))

  abbrev range : ℕ
  range = (state_of w.state).settled / 7 - (state_of w.state).start

  trim-is : trim_start (lent w [] batch 0 0) ≡ largest found (state_of w.state).start range
  unfolding trim_start lent
  trim-is =
      rw (
        lent-tags G D r.b r.tr w z r.copies [] batch 0 0,
        lent-base G D r.b r.tr w z r.copies [] batch 0 0,
        live-spans G D r.b r.tr w z r.copies,
      )

  pub trim-may : MayMove G D w r (trim_start (lent w [] batch 0 0))
  trim-may =
      rw trim-is
      (go (largest found (state_of w.state).start range) (largest-from found (state_of w.state).start range)
      (largest-upto found (state_of w.state).start range) (largest-may found (state_of w.state).start range))
    where
      go : (s : ℕ) → (state_of w.state).start ≤ s → s ≤ (state_of w.state).start + range → (s ≡ (state_of w.state).start) ⊎ (found s ≡ true)
          → MayMove G D w r s
      go s l u (inl e) = rw e (may-stay G D w r)
      go s l u (inr m) = may-start G D w r s l (omega (arith, r.copies.order.start-settled)) m

  -- no group beyond it may be the start
  pub trim-most : (s : ℕ) → MayMove G D w r s → s ≤ trim_start (lent w [] batch 0 0)
  trim-most s t = rw trim-is (go (dec_lt (state_of w.state).start s))
    where
      go : Dec ((state_of w.state).start < s) → s ≤ largest found (state_of w.state).start range
      go (yes l) = largest-most found (state_of w.state).start range s l (omega (arith, t.upto)) (start-may G D w r s t)
      go (no l) = omega (arith, largest-from found (state_of w.state).start range)

  -- a trim that does not move the start leaves the world as it is
  pub stayed : after w (trim batch) (new_state (lent w [] batch 0 0) w.state 0) ≡ w
  unfolding new_state lent feed feed_change is_confirm
  stayed = λ i.
      record {
        homes = w.homes;
        state = w.state;
        newest = w.newest;
        log = w.log;
        area = w.area;
        memory = w.memory;
        pending = append-nil w.pending i;
        passed = w.passed;
        ready = sym r.ready i;
        book = w.book;
      }

  same-world : (s : ℕ) (t : MayMove G D w r s) (most : s ≤ 2 ^ 47)
      → after w (trim batch) (trim_to (lent w [] batch 0 0) (state_of w.state) s) ≡ moved G D z w r s t most
  unfolding trim_to lent feed feed_change is_confirm last_kept
  same-world s t most =
      rw (lent-groups G D r.b r.tr w z r.copies [] batch 0 0, lent-homes G D r.b r.tr w z r.copies [] batch 0 0)

  -- a trim to any group at which the log may start
  pub trim-to-runs : (s : ℕ) → MayMove G D w r s → s ≤ 2 ^ 47 → Running G D (after w (trim batch) (trim_effect (lent w [] batch 0 0) s))
  unfolding trim_effect lent
  trim-to-runs s t most = go (eqb s (state_of w.state).start)
    where
      go : (d : Bool)
          → Running G D
          (after w (trim batch) (cond d (new_state (lent w [] batch 0 0) w.state 0) (trim_to (lent w [] batch 0 0) (state_of w.state) s)))
      go true = subst (λ (x : World). Running G D x) (sym stayed) r
      go false = subst (λ (x : World). Running G D x) (sym (same-world s t most)) (moved-runs G D z w r s t most)

  -- the start that the strip then has
  pub trim-to-start : (s : ℕ) → MayMove G D w r s → s ≤ 2 ^ 47 → (state_of (trim_effect (lent w [] batch 0 0) s).state).start ≡ s
  unfolding trim_effect lent new_state trim_to last_kept
  trim-to-start s t most = go (eqb s (state_of w.state).start) refl
    where
      go : (d : Bool) → eqb s (state_of w.state).start ≡ d
          → (state_of (cond d (new_state (lent w [] batch 0 0) w.state 0) (trim_to (lent w [] batch 0 0) (state_of w.state) s)).state).start ≡ s
      go true e = sym (eqb-true s (state_of w.state).start e)
      go false e = ap (λ (x : State). x.start) (state-carry _ _ _ ∙ renumbered-is G D z w r s t most)

  pub trim-runs : trim_start (lent w [] batch 0 0) ≤ 2 ^ 47
      → Running G D (after w (trim batch) (trim_effect (lent w [] batch 0 0) (trim_start (lent w [] batch 0 0))))
  trim-runs most = trim-to-runs (trim_start (lent w [] batch 0 0)) trim-may most

-- the records that a trim writes
pub trim-formed : (w : World) (batch : List ℕ) (s : ℕ) → AllFormed (trim_effect (lent w [] batch 0 0) s).records
unfolding trim_effect new_state trim_to
trim-formed w batch s = go (eqb s (state_of (lent w [] batch 0 0).state).start)
  where
    g : Given
    g = lent w [] batch 0 0

    go : (d : Bool) → AllFormed (cond d (new_state g g.state 0) (trim_to g (state_of g.state) s)).records
    go true = tt
    go false = (length-header s (groups g) (homes g), (tt, tt))
