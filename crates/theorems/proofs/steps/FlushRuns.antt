-- Flush: a part-filled group is submitted, its other places passed over, and a fence follows.
use mathlib.Core.Path.{◌≡◌, refl, sym, ap, ◌∙◌, subst}
use mathlib.Core.Bool.{Bool, true, false, cond}
use mathlib.Core.List.{List, [], ◌∷◌, ◌++◌, append-nil, append_assoc}
use mathlib.Core.Option.{none}
use Prim.Native.Nat.{ℕ, zero, suc, ◌+◌, ◌-◌, ◌*◌, ◌%◌, ◌≤◌, ◌<◌}
use native.Mathlib.Omega.{arith}
use lib.ListN.{length, drop}
use lib.Dec.{eqb}
use borrow.Author.Tests.{eqb-true, eqb-false, eq-eqb, ne_eqb}
use Rattle.model.specs.Layout.{group_at}
use Rattle.model.specs.State.{state_of, set_fenced, set_next, set_filled, next_position, promise_of, promised, places, writer_of, held_of}
use Rattle.model.specs.declared.State.{State}
use Rattle.model.specs.declared.Writer.{Writer}
use Rattle.model.specs.Effects.{flush_none, flush_part}
use Rattle.model.specs.Batch.{Record, GW, FN}
use Rattle.model.specs.Crash.{persist, fates}
use Rattle.model.specs.Book.{Commit, Task, Book, submit, fate_at, homes_after}
use Rattle.model.specs.Book as book
use Rattle.model.specs.DemandTwo.{group_writes}
use Rattle.model.specs.History.{World, lent, feed, is_confirm, flush, feed_change}
use Rattle.model_laws.proofs.state.StateLaws.{with_fenced, with_next, with_filled, state-set_fenced, length-set_fenced, writer-set_fenced, held-set_fenced, state-set_next, length-set_next, writer-set_next, held-set_next, state-set_filled, length-set_filled, writer-set_filled, held-set_filled}
use Rattle.model_laws.proofs.state.PromiseLaws.{promise-set_fenced, promise-set_next, promise-set_filled, promised-agree}
use Rattle.model_laws.proofs.trace.CrashLaws.{write_records}
use Rattle.model_laws.proofs.trace.HomeLaws.{In}
use Rattle.model_laws.proofs.trace.MixLaws.{mixed-append}
use Rattle.model_laws.proofs.trace.Trace.{Ev, hist, tag_at, closer_of, Linked}
use Rattle.model_laws.proofs.trace.TraceLaws.{all_map}
use Rattle.model_laws.proofs.trace.LinkLaws.{linked-ext}
use Rattle.theorems.proofs.invariant.GrowLaws.{holds-gap, sound-gap, commits-gap, gap-done, gap-open, entries-older, open-below}
use Rattle.theorems.proofs.invariant.GrowImages.{image-gap, closers-older}
use Rattle.theorems.proofs.steps.DoneLaws.{after}
use Rattle.theorems.proofs.invariant.Invariant.{Sizes, Sound, Holds, TaskOk, Copies, Submitted, Commits, Running, ImageOk}
use Rattle.theorems.proofs.invariant.NowLate.{now-late-homes, same_start}
use Rattle.theorems.proofs.invariant.NowNext.{now-fenced}
use Rattle.theorems.proofs.invariant.SettledLaws.{settled-homes-same, copy-held}
use Rattle.theorems.proofs.steps.FenceRuns.{now_of, is_in_order, in-order-area, done_held, submitted-fence}
use Rattle.theorems.proofs.steps.LogRuns.{task-grows}
use Rattle.theorems.proofs.steps.LogSubmits.{submits-more, groups-more, homes_more, area-more, confirmed-more}
use Rattle.theorems.proofs.steps.NumberRuns.{copies-renumber}

-- no part-filled group: only a fence
pub flush-none-runs : (G D : ℕ) (z : Sizes G D) (w : World) (r : Running G D w) (batch : List ℕ) → (state_of w.state).filled ≡ 0
    → Running G D (after w (flush batch) (flush_none (lent w [] batch 0 0) (state_of w.state)))
unfolding flush_none lent feed feed_change is_confirm book.flush
flush-none-runs G D z w r batch empty =
    let c = r.copies in
    let s = r.submitted in
    let st : State = state_of w.state in
    let o = c.order in
    let N = now_of G D r.b r.tr r.old w z r.commits c s in
    let S = is_in_order G D r.b r.tr r.old w s in
    let held = done_held G D r.b r.tr r.old w s c in
    let inside : (h : ℕ) → In h s.done → h < D = λ h i. (s.behind h i).0 in
    let e : state_of (set_fenced w.state (7 * st.next)) ≡ with_fenced st (7 * st.next) = state-set_fenced w.state (7 * st.next) c.state_size (omega (arith, o.next-most, o.start-most, o.groups-same)) in
    let u : World = after w (flush batch) (flush_none (lent w [] batch 0 0) (state_of w.state)) in
    let eb : u.book ≡ w.book = rw (eq-eqb w.book.filled 0 (c.filled ∙ empty)) in
    record {
      b = r.b;
      tr = r.tr;
      old = r.old;
      ready = refl;
      since = r.since;
      commits = rw eb r.commits;
      copies =
          copies-renumber G D r.b r.tr w u c
          (rw e (record { groups = refl; homes = refl; next = refl; filled = refl; start = omega arith; most = o.start-most; upto = o.start-next; low = o.start-settled; settled = omega (arith, o.settled-fenced, o.fenced-next); fenced = omega arith; durable = omega (arith, o.durable-fenced, o.fenced-next); round-settled = o.round-settled; round-fenced = omega (arith, o.round-fenced, o.fenced-next) }))
          (length-set_fenced w.state (7 * st.next) ∙ c.state_size) (λ x l. writer-set_fenced w.state (7 * st.next) x) (λ x l. held-set_fenced w.state (7 * st.next) x)
          (λ x l. promise-set_fenced w.state (7 * st.next) x)
          (rw e o.last-closing) (λ x l h. rw e ((o.writers x l).logged h).0) refl refl (λ slot. refl) refl
          (ap (λ (k : Book). k.tasks) eb) (ap (λ (k : Book). k.rows) eb) (ap (λ (k : Book). k.filled) eb)
          (rw (e, eb) (settled-homes-same D w.area st (with_fenced st (7 * st.next)) w.book.commits refl refl refl c.settled_homes)) (rw e c.apart) (rw e c.links) (rw e c.last);
      submitted =
          submitted-fence G D r.b r.tr r.old w s [] tt u st.start st.settled s.content (unfold group_writes in refl)
          (rw (append-nil S)
          (now-fenced N w.area s.done st.settled o.start-settled (omega (arith, o.settled-fenced, s.at_fence))
          (λ h l. rw (in-order-area G D r.b r.tr r.old w s) (copy-held G D r.b r.tr w c (7 * (s.group + s.count)) h (omega (arith, s.at_fence)) l))))
          refl refl (ap (λ (k : Book). k.commits) eb)
          (rw (append-nil S) (sym (in-order-area G D r.b r.tr r.old w s)))
          (rw e) (rw e) (rw e (ap (λ (n : ℕ). 7 * n) (sym s.next))) (rw e (sym s.next)) (omega arith)
          (λ chosen. rw (append-nil S) (now-late-homes N w.area s.done c.area_size inside held chosen))
          (λ chosen. rw (append-nil S, same_start N w.area s.done c.area_size inside held chosen) (omega arith));
      confirmed = confirmed-more G r.b w u (FN ∷ []) r.confirmed refl refl (rw e o.fenced-next) (λ bound h. rw eb h);
    }

-- places passed over
unfoldable pub gap : Ev
gap = record { used = false; writer = 0; home = 0; block = []; fresh = false; final = false; link = 0 }

unfoldable pub gaps : ℕ → List Ev → List Ev
gaps zero tr = tr
gaps (suc n) tr = gap ∷ gaps n tr

unused : gap.used ≡ false
unfolding gap
unused = refl

gaps-keep : (Q : List Ev → Type 0) → ((t : List Ev) → Q t → Q (gap ∷ t)) → (n : ℕ) (tr : List Ev) → Q tr → Q (gaps n tr)
unfolding gaps
gaps-keep Q f zero tr q = q
gaps-keep Q f (suc n) tr q = f (gaps n tr) (gaps-keep Q f n tr q)

length-gaps : (n : ℕ) (tr : List Ev) → length (gaps n tr) ≡ n + length tr
unfolding gaps
length-gaps zero tr = omega arith
length-gaps (suc n) tr = omega (arith, length-gaps n tr)

module _ (G D : ℕ) (z : Sizes G D) (w : World) (r : Running G D w) (part : 0 < (state_of w.state).filled)
    (kept : promised w.state 8 ≤ 7 * ((state_of w.state).start + (state_of w.state).groups) - 7 * ((state_of w.state).next + 1)) where
  abbrev b : ℕ
  b = r.b

  abbrev c : Copies G D r.b r.tr w
  c = r.copies

  abbrev s : Submitted G D r.b r.tr r.old w
  s = r.submitted

  abbrev st : State
  st = state_of w.state

  abbrev n₁ : ℕ
  n₁ = (state_of w.state).next + 1

  abbrev tr₁ : List Ev
  tr₁ = gaps (7 - (state_of w.state).filled) r.tr

  abbrev s₁ : List ℕ
  s₁ = set_filled (set_next w.state ((state_of w.state).next + 1)) 0

  -- the world between the group write and the fence
  abbrev w₁ : World
  w₁ =
      record {
        homes = w.homes;
        state = set_filled (set_next w.state ((state_of w.state).next + 1)) 0;
        newest = w.newest;
        log = w.log;
        area = w.area;
        memory = w.memory;
        pending = w.pending ++ (GW ((state_of w.state).next % G) (group_at w.log ((state_of w.state).next % G)) ∷ []);
        passed = w.passed;
        ready = true;
        book = submit w.book;
      }

  room : st.next < st.start + G
  room = go (native.Mathlib.Decide.dec_lt st.next (st.start + G))
    where
      go : Dec (st.next < st.start + G) → st.next < st.start + G
      go (yes h) = h
      go (no h) =
          let e : st.next ≡ st.start + st.groups = omega (arith, c.order.next-most, c.order.groups-same) in
          let f = c.order.filled_none e in
          absurd (omega arith)

  numbers₁ : state_of s₁ ≡ with_filled (with_next st n₁) 0
  numbers₁ =
      state-set_filled (set_next w.state n₁) 0 (length-set_next w.state n₁ ∙ c.state_size) (omega arith)
      ∙ ap (λ (x : State). with_filled x 0) (state-set_next w.state n₁ c.state_size (omega (arith, c.order.start-most)))

  was : 7 * st.next + st.filled ≡ 7 * b + length r.tr
  was = unfold next_position in c.position

  full : 7 * b + length tr₁ ≡ 7 * n₁
  full = omega (arith, was, length-gaps (7 - st.filled) r.tr, c.order.filled-most)

  writers₁ : (x : ℕ) → writer_of s₁ x ≡ writer_of w.state x
  writers₁ x = writer-set_filled (set_next w.state n₁) 0 x ∙ writer-set_next w.state n₁ x

  held₁ : (x : ℕ) → held_of s₁ x ≡ held_of w.state x
  held₁ x = held-set_filled (set_next w.state n₁) 0 x ∙ held-set_next w.state n₁ x

  promises₁ : (x : ℕ) → promise_of s₁ x ≡ promise_of w.state x
  promises₁ x = promise-set_filled (set_next w.state n₁) 0 x ∙ promise-set_next w.state n₁ x

  holds₁ : (bytes : List ℕ) (n : ℕ) → Holds G (7 * b) r.tr bytes n → Holds G (7 * b) tr₁ bytes n
  holds₁ bytes n h = gaps-keep (λ t. Holds G (7 * b) t bytes n) (λ t k. holds-gap G (7 * b) gap t bytes n unused k) (7 - st.filled) r.tr h

  done₁ : (hist (7 * b) tr₁).done ≡ (hist (7 * b) r.tr).done
  done₁ = gaps-keep (λ t. (hist (7 * b) t).done ≡ (hist (7 * b) r.tr).done) (λ t k. gap-done (7 * b) gap t unused ∙ k) (7 - st.filled) r.tr refl

  links₁ : Linked (7 * st.start) (tag_at (7 * b) tr₁) none (hist (7 * b) tr₁).done
  links₁ =
      gaps-keep (λ t. Linked (7 * st.start) (tag_at (7 * b) t) none (hist (7 * b) t).done)
      (λ t k. rw (gap-done (7 * b) gap t unused)
      (linked-ext (7 * st.start) (tag_at (7 * b) t) (tag_at (7 * b) (gap ∷ t)) none (hist (7 * b) t).done
      (all_map (λ x. tag_at (7 * b) (gap ∷ t) (closer_of x) ≡ tag_at (7 * b) t (closer_of x)) (λ x. tag_at (7 * b) t (closer_of x) ≡ tag_at (7 * b) (gap ∷ t) (closer_of x)) (λ x h. sym h)
      (hist (7 * b) t).done (closers-older (7 * b) gap t)) k))
      (7 - st.filled) r.tr c.links

  tasks₁ : (x : ℕ) (v : Writer) (held : List ℕ) (task : Task) → TaskOk b r.tr v held ((hist (7 * b) r.tr).open_transaction x) task
      → TaskOk b tr₁ v held ((hist (7 * b) tr₁).open_transaction x) task
  tasks₁ x v held task h =
      gaps-keep (λ t. TaskOk b t v held ((hist (7 * b) t).open_transaction x) task)
      (λ t k. rw (gap-open (7 * b) gap t x unused)
      (task-grows b gap t v held ((hist (7 * b) t).open_transaction x) task (entries-older b gap t ((hist (7 * b) t).open_transaction x) (open-below (7 * b) t x)) k))
      (7 - st.filled) r.tr h

  further : next_position st ≤ next_position (with_filled (with_next st n₁) 0)
  unfolding next_position
  further = omega (arith, c.order.filled-most)

  copies₁ : Copies G D b tr₁ w₁
  unfolding submit
  copies₁ =
      let o = c.order in
      record {
        homes = c.homes;
        state_size = length-set_filled (set_next w.state n₁) 0 ∙ length-set_next w.state n₁ ∙ c.state_size;
        log_size = c.log_size;
        area_size = c.area_size;
        order = record {
          groups-same = rw numbers₁ o.groups-same;
          homes_same = rw numbers₁ o.homes_same;
          start-most = rw numbers₁ o.start-most;
          start-next = rw numbers₁ (omega (arith, o.start-next));
          next-most = rw numbers₁ (omega (arith, room, o.groups-same));
          filled-most = rw numbers₁ (omega arith);
          filled_none = rw numbers₁ (λ h. refl);
          start-settled = rw numbers₁ o.start-settled;
          settled-fenced = rw numbers₁ o.settled-fenced;
          fenced-next = rw numbers₁ (omega (arith, o.fenced-next));
          durable-fenced = rw numbers₁ o.durable-fenced;
          last-closing = rw numbers₁ (omega (arith, further, o.last-closing));
          round-settled = rw numbers₁ o.round-settled;
          round-fenced = rw numbers₁ o.round-fenced;
          promises = record {
            within = rw (numbers₁, promised-agree w.state s₁ 8 (λ x l. promises₁ x)) (unfold places next_position in omega (arith, kept));
            none-idle = λ x l. rw (writers₁ x, promises₁ x) (o.promises.none-idle x l);
          };
          writers = λ x l. rw (numbers₁, writers₁ x) (let k = o.writers x l in
              record {
                mode = k.mode;
                home = k.home;
                logged = λ h. let j = k.logged h in (j.0, omega (arith, further), j.2, omega (arith, further));
              });
        };
        from = rw numbers₁ c.from;
        position = rw numbers₁ (unfold next_position in omega (arith, full));
        sound = gaps-keep (λ t. Sound (7 * b) D t) (λ t k. sound-gap (7 * b) D gap t unused k) (7 - st.filled) r.tr c.sound;
        groups = rw numbers₁ (λ n h k. holds₁ (group_at w.log (n % G)) n (c.groups n h (omega (arith, full, was))));
        apart = rw (numbers₁, done₁) c.apart;
        links = rw numbers₁ links₁;
        last = rw (numbers₁, done₁) c.last;
        tasks = λ x l. rw (writers₁ x, held₁ x) (tasks₁ x (writer_of w.state x) (held_of w.state x) (w.book.tasks x) (c.tasks x l));
        rows = rw numbers₁ (omega (arith, c.rows, c.from, o.start-next));
        filled = rw numbers₁;
        settled_homes = rw numbers₁ (settled-homes-same D w.area st (with_filled (with_next st n₁) 0) w.book.commits refl refl refl c.settled_homes);
      }

  submitted₁ : Submitted G D b tr₁ r.old w₁
  unfolding submit
  submitted₁ =
      record {
        fenced = s.fenced;
        group = s.group;
        count = s.count + 1;
        content = λ x. cond (eqb x st.next) (group_at w.log (st.next % G)) (s.content x);
        tail = s.tail ++ more;
        done = s.done;
        split = ap (λ (x : List Record). x ++ more) s.split ∙ append_assoc (s.fenced ++ (FN ∷ [])) s.tail more;
        mixed = mixed-append s.tail more s.mixed tt;
        groups_of =
            groups-more s.tail (st.next % G) (group_at w.log (st.next % G))
            ∙ rw s.groups_of (sym (submits-more G s.group s.content s.count st.next (group_at w.log (st.next % G)) s.next));
        homes_of = homes_more s.tail (st.next % G) (group_at w.log (st.next % G)) ∙ s.homes_of;
        behind = rw numbers₁ s.behind;
        area = area-more s.tail (st.next % G) (group_at w.log (st.next % G)) (write_records s.fenced w.memory) ∙ s.area;
        at_fence = rw numbers₁ s.at_fence;
        next = rw numbers₁ (omega (arith, s.next));
        low = s.low;
        written = s.written;
        contents = λ n x y. sub n x y (eqb n st.next) refl;
        log_size = s.log_size;
        area_size = s.area_size;
        homes = rw numbers₁ s.homes;
        header = s.header;
        start = rw numbers₁ s.start;
        numbers = s.numbers;
        there = rw numbers₁ (λ n x y. holds₁ _ n (s.there n x y));
        turned = rw numbers₁ s.turned;
        images = λ passed chosen l.
            gaps-keep (λ t. ImageOk G D b w.memory.log t r.old w.book.commits (persist passed chosen (s.fenced ++ (FN ∷ [])) w.memory) (drop G (fates passed chosen (s.fenced ++ (FN ∷ [])))))
            (λ t k. image-gap G D b w.memory.log gap t r.old w.book.commits _ _ unused k) (7 - st.filled) r.tr (s.images passed chosen l);
        bounded = rw numbers₁ s.bounded;
      }
    where
      more : List Record
      more = GW (st.next % G) (group_at w.log (st.next % G)) ∷ []

      sub : (n : ℕ) → s.group ≤ n → n < s.group + (s.count + 1) → (t : Bool) → eqb n st.next ≡ t
          → Holds G (7 * b) tr₁ (cond t (group_at w.log (st.next % G)) (s.content n)) n
      sub n x y true k =
          let q : n ≡ st.next = eqb-true n st.next k in
          rw q (holds₁ (group_at w.log (st.next % G)) st.next (c.groups st.next c.order.start-next (omega (arith, was))))
      sub n x y false k =
          let q = eqb-false n st.next k in
          holds₁ (s.content n) n (s.contents n x (omega (arith, s.next)))

  between : Running G D w₁
  unfolding submit
  between =
      record {
        b = b;
        tr = tr₁;
        old = r.old;
        ready = refl;
        since = r.since;
        commits = gaps-keep (λ t. Commits D b t r.old w.book.commits) (λ t k. commits-gap D b gap t r.old w.book.commits unused k) (7 - st.filled) r.tr r.commits;
        copies = copies₁;
        submitted = submitted₁;
        confirmed = confirmed-more G b w w₁ (GW (st.next % G) (group_at w.log (st.next % G)) ∷ []) r.confirmed refl refl (rw numbers₁ (omega arith)) (λ bound h. h);
      }

  -- the world that flush leaves is that of a flush with nothing filled after the group write
  same-world : (batch : List ℕ)
      → after w₁ (flush batch) (flush_none (lent w₁ [] batch 0 0) (state_of w₁.state)) ≡ after w (flush batch) (flush_part (lent w [] batch 0 0) (state_of w.state))
  unfolding flush_none flush_part lent feed feed_change is_confirm book.flush submit
  same-world batch =
      let e₁ : (state_of s₁).next ≡ n₁ = rw numbers₁ in
      let e₂ : eqb w.book.filled 0 ≡ false = ne_eqb w.book.filled 0 (λ q. omega (arith, c.filled)) in
      rw (e₁, e₂, c.order.groups-same, append_assoc)

  pub flush-part-runs : (batch : List ℕ) → Running G D (after w (flush batch) (flush_part (lent w [] batch 0 0) (state_of w.state)))
  flush-part-runs batch = subst (λ (x : World). Running G D x) (same-world batch) (flush-none-runs G D z w₁ between batch (rw numbers₁))
