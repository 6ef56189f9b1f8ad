-- Calls that change the strip's numbers and no writer's record: flush with no part-filled group, confirm, settle, trim.
use mathlib.Core.Path.{◌≡◌, refl, sym, ap, ◌∙◌, subst}
use mathlib.Core.Logic.{inl, inr, ⊎_elim}
use mathlib.Core.Bool.{Bool, true, false, cond, ◌&&◌, ◌||◌, false≢true}
use mathlib.Core.List.{List, [], ◌∷◌, ◌++◌, append-nil}
use mathlib.Core.Option.{none}
use Prim.Native.Nat.{ℕ, ◌+◌, ◌-◌, ◌*◌, ◌%◌, ◌^◌, ◌≤◌, ◌<◌}
use native.Mathlib.Omega.{arith}
use lib.ListN.{length}
use Rattle.model.specs.Layout.{group_at, header_start, home_at}
use Rattle.model.specs.State.{state_of, set_durable, next_position, promise_of, places, writer_of, held_of}
use Rattle.model.specs.declared.State.{State}
use Rattle.model.specs.Effects.{confirm_effect, new_state}
use Rattle.model.specs.Batch.{FN}
use Rattle.model.specs.Crash.{Memory, fences}
use Rattle.model.specs.Book.{Commit, homes_after, write_commits, owed_by, with_commits, run, all_survive}
use Rattle.model.specs.DemandTwo.{closed_below, settled_for, SettledHomes, group_writes}
use Rattle.model.specs.History.{World, lent, feed, is_confirm, confirm, feed_change}
use Rattle.model_laws.proofs.state.StateLaws.{with_durable, state-set_durable, length-set_durable, writer-set_durable, held-set_durable}
use Rattle.model_laws.proofs.state.OrderLaws.{InOrder, Reserved}
use Rattle.model_laws.proofs.state.PromiseLaws.{promise-set_durable, promised-agree}
use Rattle.model_laws.proofs.trace.CrashLaws.{fences-append, fences-none, group_writes-fence}
use Rattle.model_laws.proofs.trace.MixLaws.{none-mixed}
use Rattle.model_laws.proofs.trace.Trace.{Ev, hist, tag_at, Apart, Linked}
use Rattle.theorems.proofs.steps.DoneLaws.{after}
use Rattle.theorems.proofs.invariant.Invariant.{Sizes, Copies, Commits, Running, LastOk, last_closer, OwedBelow, OldCommits, Matches, Late, touches_above}
use Rattle.theorems.proofs.invariant.SettledLaws.{settled_same}

-- what the strip's numbers keep, and how they may change
pub record Renumbered (st st' : State) : Type 0 where
  pub groups : st'.groups ≡ st.groups
  pub homes : st'.homes ≡ st.homes
  pub next : st'.next ≡ st.next
  pub filled : st'.filled ≡ st.filled
  pub start : st.start ≤ st'.start
  pub most : st'.start ≤ 2 ^ 47
  pub upto : st'.start ≤ st.next
  pub low : 7 * st'.start ≤ st'.settled
  pub settled : st'.settled ≤ st'.fenced
  pub fenced : st'.fenced ≤ 7 * st.next
  pub durable : st'.durable ≤ st'.fenced
  pub round-settled : 1 ≤ st'.round → st'.settled < st'.round
  pub round-fenced : st'.round ≤ st'.fenced + 1

-- the start goes up at most, so there are no fewer places
promises-renumber : (s t : List ℕ) → Reserved s → Renumbered (state_of s) (state_of t) → ((x : ℕ) → x < 8 → writer_of t x ≡ writer_of s x)
    → ((x : ℕ) → x < 8 → promise_of t x ≡ promise_of s x) → Reserved t
unfolding places next_position
promises-renumber s t p n ew ep =
    record {
      within = omega (arith, promised-agree s t 8 ep, p.within, n.start, n.groups, n.next, n.filled);
      none-idle = λ x l. rw (ew x l, ep x l) (p.none-idle x l);
    }

pub order-renumber : (G D : ℕ) (s t : List ℕ) → InOrder s G D → Renumbered (state_of s) (state_of t) → ((x : ℕ) → x < 8 → writer_of t x ≡ writer_of s x)
    → ((x : ℕ) → x < 8 → promise_of t x ≡ promise_of s x)
    → (state_of t).last ≤ next_position (state_of s)
    → ((x : ℕ) → x < 8 → 3 ≤ (writer_of s x).mode → 7 * (state_of t).start ≤ (writer_of s x).first) → InOrder t G D
order-renumber G D s t o n ew ep lc fs =
    let p : next_position (state_of t) ≡ next_position (state_of s) = unfold next_position in omega (arith, n.next, n.filled) in
    record {
      groups-same = n.groups ∙ o.groups-same;
      homes_same = n.homes ∙ o.homes_same;
      start-most = n.most;
      start-next = omega (arith, n.upto, n.next);
      next-most = omega (arith, n.next, n.groups, n.start, o.next-most);
      filled-most = omega (arith, n.filled, o.filled-most);
      filled_none = λ h. let k : (state_of s).next ≡ (state_of s).start + (state_of s).groups = omega (arith, n.next, n.groups, n.start, o.next-most) in n.filled ∙ o.filled_none k;
      start-settled = n.low;
      settled-fenced = n.settled;
      fenced-next = omega (arith, n.fenced, n.next);
      durable-fenced = n.durable;
      last-closing = omega (arith, p, lc);
      round-settled = n.round-settled;
      round-fenced = n.round-fenced;
      promises = promises-renumber s t o.promises n ew ep;
      writers = λ x l. rw (ew x l) (let k = o.writers x l in
          record {
            mode = k.mode;
            home = λ h. let j = k.home h in omega (arith, n.homes);
            logged = λ h. let j = k.logged h in (fs x l h, omega (arith, p), j.2, omega (arith, p));
          });
    }

pub copies-renumber : (G D b : ℕ) (tr : List Ev) (w u : World) → Copies G D b tr w → Renumbered (state_of w.state) (state_of u.state)
    → length u.state ≡ 1024 → ((x : ℕ) → x < 8 → writer_of u.state x ≡ writer_of w.state x) → ((x : ℕ) → x < 8 → held_of u.state x ≡ held_of w.state x)
    → ((x : ℕ) → x < 8 → promise_of u.state x ≡ promise_of w.state x)
    → (state_of u.state).last ≤ next_position (state_of w.state)
    → ((x : ℕ) → x < 8 → 3 ≤ (writer_of w.state x).mode → 7 * (state_of u.state).start ≤ (writer_of w.state x).first)
    → u.homes ≡ w.homes → length u.log ≡ length w.log → ((slot : ℕ) → group_at u.log slot ≡ group_at w.log slot) → length u.area ≡ length w.area
    → u.book.tasks ≡ w.book.tasks → u.book.rows ≡ w.book.rows → u.book.filled ≡ w.book.filled
    → SettledHomes D u.area (state_of u.state) u.book.commits
    → Apart (7 * (state_of u.state).start) (hist (7 * b) tr).done → Linked (7 * (state_of u.state).start) (tag_at (7 * b) tr) none (hist (7 * b) tr).done
    → LastOk (state_of u.state).start (state_of u.state).last (last_closer (hist (7 * b) tr).done) → Copies G D b tr u
copies-renumber G D b tr w u c n size ew eh ep lc fs ho ll lg la et er ef ar ap' ln lo =
    let p : next_position (state_of u.state) ≡ next_position (state_of w.state) = unfold next_position in omega (arith, n.next, n.filled) in
    record {
      homes = ho ∙ c.homes;
      state_size = size;
      log_size = ll ∙ c.log_size;
      area_size = la ∙ c.area_size;
      order = order-renumber G D w.state u.state c.order n ew ep lc fs;
      from = omega (arith, n.start, c.from);
      position = p ∙ c.position;
      sound = c.sound;
      groups = λ k h j. rw (lg (k % G)) (c.groups k (omega (arith, n.start)) j);
      apart = ap';
      links = ln;
      last = lo;
      tasks = λ x h. rw (ew x h, eh x h, et) (c.tasks x h);
      rows = er ∙ c.rows ∙ omega (arith, n.next);
      filled = ef ∙ c.filled ∙ sym n.filled;
      settled_homes = ar;
    }

-- confirm: commits become owed, and the fences so far have passed

owed-matches : (b : ℕ) (tr : List Ev) (mark : ℕ) (cs : List Commit) (ts : List (List ℕ)) → Matches b tr cs ts → Matches b tr (owed_by mark cs) ts
unfolding owed_by
owed-matches b tr mark [] [] h = tt
owed-matches b tr mark [] (t ∷ ts) h = h
owed-matches b tr mark (c ∷ cs) [] h = h
owed-matches b tr mark (c ∷ cs) (t ∷ ts) h = (h.0, h.1, owed-matches b tr mark cs ts h.2)

owed-old : (D mark : ℕ) (cs : List Commit) → OldCommits D cs → OldCommits D (owed_by mark cs)
unfolding owed_by
owed-old D mark [] h = tt
owed-old D mark (c ∷ cs) h = (h.0, h.1, owed-old D mark cs h.2)

owed-append : (mark : ℕ) (xs ys : List Commit) → owed_by mark (xs ++ ys) ≡ owed_by mark xs ++ owed_by mark ys
unfolding owed_by
owed-append mark [] ys = refl
owed-append mark (x ∷ xs) ys = ap {B = List Commit} (λ l. record { entries = x.entries; ticket = x.ticket; owed = x.owed || (lib.Dec.leb 1 x.ticket && lib.Dec.leb x.ticket mark) } ∷ l) (owed-append mark xs ys)

owed-closed : (mark bound : ℕ) (cs : List Commit) → closed_below bound (owed_by mark cs) ≡ owed_by mark (closed_below bound cs)
unfolding owed_by closed_below
owed-closed mark bound [] = refl
owed-closed mark bound (c ∷ cs) = rw (owed-closed mark bound cs) (go (lib.Dec.leb c.ticket bound))
  where
    k : Commit
    k = record { entries = c.entries; ticket = c.ticket; owed = c.owed || (lib.Dec.leb 1 c.ticket && lib.Dec.leb c.ticket mark) }

    go : (t : Bool) → cond t (k ∷ owed_by mark (closed_below bound cs)) (owed_by mark (closed_below bound cs)) ≡ owed_by mark (cond t (c ∷ closed_below bound cs) (closed_below bound cs))
    go true = refl
    go false = refl

pub owed-writes : (mark : ℕ) (cs : List Commit) (A : List ℕ) → write_commits (owed_by mark cs) A ≡ write_commits cs A
unfolding owed_by write_commits
owed-writes mark [] A = refl
owed-writes mark (c ∷ cs) A = owed-writes mark cs _

pub owed-homes : (D mark bound : ℕ) (cs : List Commit) → homes_after D (closed_below bound (owed_by mark cs)) ≡ homes_after D (closed_below bound cs)
unfolding homes_after
owed-homes D mark bound cs = rw (owed-closed mark bound cs) (owed-writes mark (closed_below bound cs) _)

owed-run : (mark : ℕ) (fs : List (ℕ → Bool)) (cs : List Commit) → run fs (owed_by mark cs) ≡ owed_by mark (run fs cs)
unfolding owed_by run
owed-run mark fs [] = refl
owed-run mark fs (c ∷ cs) = rw (owed-run mark fs cs) (go (all_survive fs c.entries))
  where
    k : Commit
    k = record { entries = c.entries; ticket = c.ticket; owed = c.owed || (lib.Dec.leb 1 c.ticket && lib.Dec.leb c.ticket mark) }

    go : (t : Bool) → cond t (k ∷ owed_by mark (run fs cs)) [] ≡ owed_by mark (cond t (c ∷ run fs cs) [])
    go true = refl
    go false = refl

owed-touches : (mark c h : ℕ) (cs : List Commit) → touches_above c h (owed_by mark cs) ≡ touches_above c h cs
unfolding owed_by touches_above
owed-touches mark c h [] = refl
owed-touches mark c h (k ∷ ks) = rw (owed-touches mark c h ks)

or-none : (b : Bool) → (b || false) ≡ b
or-none true = refl
or-none false = refl

owed-past : (D mark : ℕ) (cs : List Commit) → OldCommits D cs → owed_by mark cs ≡ cs
unfolding owed_by
owed-past D mark [] o = refl
owed-past D mark (c ∷ cs) o =
    let e : lib.Dec.leb 1 c.ticket ≡ false = borrow.Author.Tests.lt-leb 1 c.ticket (omega (arith, o.0)) in
    rw (e, or-none c.owed, owed-past D mark cs o.2)

late-owed : (G D b : ℕ) (tr : List Ev) (cs : List Commit) (m : Memory) (fs : List (ℕ → Bool)) (mark : ℕ) → Late G D b tr cs m fs → Late G D b tr (owed_by mark cs) m fs
late-owed G D b tr cs m fs mark l =
    record {
      log_size = l.log_size;
      area_size = l.area_size;
      header = l.header;
      start = l.start;
      from = l.from;
      numbers = l.numbers;
      below = l.below;
      inside = l.inside;
      within = l.within;
      there = l.there;
      absent = l.absent;
      apart = l.apart;
      links = l.links;
      homes = λ h k. rw (owed-homes D mark (7 * header_start m.log) cs, owed-run mark fs cs, owed-touches mark (7 * header_start m.log) h (run fs cs)) (l.homes h k);
    }

owed-commits : (D b : ℕ) (tr : List Ev) (old cs : List Commit) (mark : ℕ) → Commits D b tr old cs → Commits D b tr old (owed_by mark cs)
owed-commits D b tr old cs mark k =
    record {
      new = owed_by mark k.new;
      split = ap (owed_by mark) k.split ∙ owed-append mark old k.new ∙ ap (λ (x : List Commit). x ++ owed_by mark k.new) (owed-past D mark old k.past);
      past = k.past;
      matches = owed-matches b tr mark k.new _ k.matches;
    }

-- after a confirm every owed commit of the era closes below the mark
marked-below : (mark bound : ℕ) (cs : List Commit) → OwedBelow bound cs → bound ≤ mark → OwedBelow mark (owed_by mark cs)
unfolding owed_by
marked-below mark bound [] o l = tt
marked-below mark bound (c ∷ cs) o l = (go c.owed (lib.Dec.leb c.ticket mark) refl refl, marked-below mark bound cs o.1 l)
  where
    go : (x t : Bool) → c.owed ≡ x → lib.Dec.leb c.ticket mark ≡ t → (c.owed || (lib.Dec.leb 1 c.ticket && lib.Dec.leb c.ticket mark)) ≡ true → 1 ≤ c.ticket → c.ticket ≤ mark
    go true t ex et h k = let j = o.0 ex k in omega arith
    go false true ex et h k = borrow.Author.Tests.leb-true c.ticket mark et
    go false false ex et h k = absurd (false≢true (sym (rw (ex, et, borrow.Author.Tests.le-leb 1 c.ticket k)) ∙ h))

pub confirm-runs : (G D : ℕ) (z : Sizes G D) (w : World) (r : Running G D w) → Running G D (after w confirm (confirm_effect (lent w [] [] 0 0)))
unfolding confirm_effect new_state lent feed feed_change is_confirm with_commits
confirm-runs G D z w r =
    let c = r.copies in
    let s = r.submitted in
    let st : State = state_of w.state in
    let o = c.order in
    let F : ℕ = st.fenced in
    let e : state_of (set_durable w.state F) ≡ with_durable st F = state-set_durable w.state F c.state_size (omega (arith, o.fenced-next, o.next-most, o.start-most, o.groups-same)) in
    let u : World = after w confirm (confirm_effect (lent w [] [] 0 0)) in
    let bw = r.confirmed.before in
    record {
      b = r.b;
      tr = r.tr;
      old = r.old;
      ready = refl;
      since = r.since;
      commits = owed-commits D r.b r.tr r.old w.book.commits F r.commits;
      copies =
          copies-renumber G D r.b r.tr w u c
          (rw e (record { groups = refl; homes = refl; next = refl; filled = refl; start = omega arith; most = o.start-most; upto = o.start-next; low = o.start-settled; settled = o.settled-fenced; fenced = o.fenced-next; durable = omega arith; round-settled = o.round-settled; round-fenced = o.round-fenced }))
          (length-set_durable w.state F ∙ c.state_size) (λ x l. writer-set_durable w.state F x) (λ x l. held-set_durable w.state F x) (λ x l. promise-set_durable w.state F x)
          (rw e o.last-closing) (λ x l h. rw e ((o.writers x l).logged h).0) refl refl (λ slot. refl) refl refl refl refl
          (λ h l.
          rw (e, settled_same st (with_durable st F) h refl refl refl)
          (c.settled_homes h l ∙ sym (ap (λ (a : List ℕ). home_at a h) (owed-homes D F (settled_for st h) w.book.commits)))) (rw e c.apart) (rw e c.links) (rw e c.last);
      submitted = record {
        fenced = s.fenced;
        group = s.group;
        count = s.count;
        content = s.content;
        tail = s.tail;
        done = s.done;
        split = append-nil w.pending ∙ s.split;
        mixed = s.mixed;
        groups_of = s.groups_of;
        homes_of = s.homes_of;
        behind = rw e s.behind;
        area = s.area;
        at_fence = rw e s.at_fence;
        next = rw e s.next;
        low = s.low;
        written = s.written;
        contents = s.contents;
        log_size = s.log_size;
        area_size = s.area_size;
        homes = λ h l.
            let x = s.homes h l in
            rw e (x.0, x.1, x.2, x.3 ∙ sym (ap (λ (a : List ℕ). home_at a h) (owed-homes D F x.0 w.book.commits)));
        header = s.header;
        start = rw e s.start;
        numbers = s.numbers;
        there = rw e s.there;
        turned = rw e s.turned;
        images = λ passed chosen l. ⊎_elim inl (λ k. inr (late-owed G D r.b r.tr w.book.commits _ _ F k)) (s.images passed chosen l);
        bounded = rw e s.bounded;
      };
      confirmed = record {
        before = s.fenced ++ (FN ∷ []);
        after = s.tail;
        split = append-nil w.pending ∙ s.split;
        count = sym (ap fences s.split ∙ fences-append (s.fenced ++ (FN ∷ [])) s.tail ∙ omega (arith, fences-none s.tail (none-mixed s.tail s.mixed)));
        ends = inr (s.fenced, refl);
        owed = subst (λ (x : ℕ). OwedBelow x (owed_by F w.book.commits)) (omega (arith, s.at_fence, group_writes-fence s.fenced, s.written, s.low))
            (marked-below F (7 * (r.b + (group_writes r.confirmed.before - G))) w.book.commits r.confirmed.owed r.confirmed.reached);
        reached = rw e (omega (arith, s.at_fence, group_writes-fence s.fenced, s.written, s.low));
      };
    }
