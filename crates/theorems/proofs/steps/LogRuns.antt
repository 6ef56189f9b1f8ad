-- A call that logs an entry: the strip and the copies after it.
use mathlib.Core.Path.{◌≡◌, sym, ap, ◌∙◌}
use mathlib.Core.Logic.{◌⊎◌, inl, inr, ⊎_elim}
use mathlib.Core.Bool.{true, cond}
use mathlib.Core.List.{List, ◌∷◌}
use mathlib.Core.Option.{none, some}
use Prim.Native.Nat.{ℕ, ◌+◌, ◌-◌, ◌*◌, ◌%◌, ◌≤◌, ◌<◌}
use native.Mathlib.Omega.{arith}
use lib.ListN.{length}
use lib.Dec.{eqb}
use borrow.Author.Tests.{eq-eqb, ne_eqb}
use Rattle.model.specs.Layout.{group_at}
use Rattle.model.specs.State.{state_of, next_position, writer_of, held_of, promise_of, promised, places}
use Rattle.model.specs.declared.State.{State}
use Rattle.model.specs.declared.Writer.{Writer}
use Rattle.model.specs.Effects.{entered}
use Rattle.model.specs.Book.{Task, opened, Book, submit, grown, filled_up}
use Rattle.model.specs.DemandTwo.{closed_below, settled_for}
use Rattle.model.specs.History.{World}
use Rattle.model_laws.proofs.state.OrderLaws.{WriterInOrder, Reserved}
use Rattle.model_laws.proofs.state.QuestionLaws.{Roomy}
use Rattle.model_laws.proofs.state.PromiseLaws.{promised-change}
use Rattle.model_laws.proofs.trace.Trace.{Ev, mine, hist, tag_at, Apart, Linked}
use Rattle.theorems.proofs.invariant.GrowLaws.{sound-grow, open-other, open-below, entries-older}
use Rattle.theorems.proofs.invariant.LogStep.{log-groups}
use Rattle.theorems.proofs.invariant.Invariant.{Sizes, SoundAt, Holds, plain_of, entries_for, TaskOk, Copies, LastOk, last_closer}
use Rattle.theorems.proofs.invariant.SettledLaws.{settled_same, settled-most}
use Rattle.theorems.proofs.steps.WriterSteps.{each-writer}
use Rattle.model_laws.proofs.state.LoggingLaws.{length-entered}
pub use Rattle.model_laws.proofs.state.LoggingLaws.{Advance, SameWriters, advance-position, logged-numbers, logged-writers, logged-log, logged-records}

-- the book's row is filled and submitted along with the log's group
pub row-moves : (b : ℕ) (k : Book) (st st' : State) (last : ℕ) → Advance st st' last → b ≤ st.next → k.rows ≡ st.next - b → k.filled ≡ st.filled
    → ((filled_up k).rows ≡ st'.next - b) × ((filled_up k).filled ≡ st'.filled)
unfolding filled_up submit grown
row-moves b k st st' last a l r f = go a.moved
  where
    go : ((st.filled < 6) × (st'.next ≡ st.next) × (st'.filled ≡ st.filled + 1)) ⊎ ((st.filled ≡ 6) × (st'.next ≡ st.next + 1) × (st'.filled ≡ 0))
        → ((cond (eqb k.filled 6) (submit k) (grown k)).rows ≡ st'.next - b) × ((cond (eqb k.filled 6) (submit k) (grown k)).filled ≡ st'.filled)
    go (inl h) = rw (ne_eqb k.filled 6 (λ z. omega arith)) (omega arith, omega arith)
    go (inr h) = rw (eq-eqb k.filled 6 (omega arith)) (omega arith, omega arith)

-- another writer's task, where the trace grows
pub task-grows : (b : ℕ) (e : Ev) (tr : List Ev) (r : Writer) (held ps : List ℕ) (t : Task) → entries_for b (e ∷ tr) ps ≡ entries_for b tr ps
    → TaskOk b tr r held ps t → TaskOk b (e ∷ tr) r held ps t
task-grows b e tr r held ps t q (inl h) = inl h
task-grows b e tr r held ps t q (inr (inl h)) = inr (inl h)
task-grows b e tr r held ps t q (inr (inr (inl h))) = inr (inr (inl h))
task-grows b e tr r held ps t q (inr (inr (inr h))) = inr (inr (inr (h.0, h.1 ∙ ap (λ es. opened es (some (record { home = r.home; block = held }))) (sym q), h.2, h.3, h.4)))

-- another writer's record stays in order
order-grows : (st st' : State) (last : ℕ) (r : Writer) → Advance st st' last → WriterInOrder st r → WriterInOrder st' r
order-grows st st' last r a o =
    let p = advance-position st st' last a in
    record {
      mode = o.mode;
      home = λ h. let k = o.home h in omega (arith, a.homes);
      logged = λ h. let k = o.logged h in (omega (arith, a.start), omega (arith, p), k.2, omega (arith, p));
    }

-- the promises once a writer with room has logged an entry: its own, if it had one, has become less
pub promises-logged : (s t : List ℕ) (v last : ℕ) → v < 8 → Reserved s → Advance (state_of s) (state_of t) last → Roomy s v
    → ((x : ℕ) → x < 8 → (x ≡ v → ⊥) → promise_of t x ≡ promise_of s x) → ((x : ℕ) → x < 8 → (x ≡ v → ⊥) → writer_of t x ≡ writer_of s x)
    → promise_of t v ≤ promise_of s v - 1 → ((writer_of t v).mode ≡ 0 → promise_of t v ≡ 0) → Reserved t
unfolding places
promises-logged s t v last l p a r f g k h =
    record {
      within = fits r;
      none-idle = λ x m. each-writer (λ y. (writer_of t y).mode ≡ 0 → promise_of t y ≡ 0) v x h (λ n. rw (g x m n, f x m n) (p.none-idle x m));
    }
  where
    q : next_position (state_of t) ≡ next_position (state_of s) + 1
    q = advance-position (state_of s) (state_of t) last a

    fits : Roomy s v → promised t 8 ≤ places (state_of t)
    fits (inl x) = omega (arith, promised-change s t v 8 l f, k, q, a.start, a.groups, p.within)
    fits (inr x) = omega (arith, promised-change s t v 8 l f, k, q, a.start, a.groups)

pub copies-logged : (G D b : ℕ) (tr : List Ev) (w u : World) (v : ℕ) (e : Ev) (t : Task) (last : ℕ)
    → Sizes G D → Copies G D b tr w → v < 8 → (state_of w.state).next < (state_of w.state).start + G
    → e.used ≡ true → e.writer ≡ v → SoundAt D (7 * b + length tr) e (mine (hist (7 * b) tr) e)
    → Advance (state_of w.state) (state_of u.state) last → length u.state ≡ 1024
    → ((x : ℕ) → x < 8 → (x ≡ v → ⊥) → writer_of u.state x ≡ writer_of w.state x)
    → ((x : ℕ) → x < 8 → (x ≡ v → ⊥) → held_of u.state x ≡ held_of w.state x)
    → WriterInOrder (state_of u.state) (writer_of u.state v) → Reserved u.state
    → TaskOk b (e ∷ tr) (writer_of u.state v) (held_of u.state v) ((hist (7 * b) (e ∷ tr)).open_transaction v) t
    → u.homes ≡ w.homes
    → u.log ≡ entered (state_of w.state) ((state_of w.state).next % G) w.log (plain_of (7 * b + length tr) e (mine (hist (7 * b) tr) e) e.final) e.block
    → u.area ≡ w.area → u.book.tasks v ≡ t → ((x : ℕ) → (x ≡ v → ⊥) → u.book.tasks x ≡ w.book.tasks x)
    → u.book.rows ≡ (filled_up w.book).rows → u.book.filled ≡ (filled_up w.book).filled
    → ((bound : ℕ) → bound ≤ (state_of w.state).fenced → closed_below bound u.book.commits ≡ closed_below bound w.book.commits)
    → Apart (7 * (state_of w.state).start) (hist (7 * b) (e ∷ tr)).done
    → Linked (7 * (state_of w.state).start) (tag_at (7 * b) (e ∷ tr)) none (hist (7 * b) (e ∷ tr)).done
    → LastOk (state_of w.state).start last (last_closer (hist (7 * b) (e ∷ tr)).done)
    → last ≤ next_position (state_of w.state) + 1
    → Copies G D b (e ∷ tr) u
copies-logged G D b tr w u v e t last z c l room us who sd a size ow oh wo pr tk eh el ea tv to er ef eh' ap' ln lo lc =
    let st = state_of w.state in
    let st' = state_of u.state in
    let o = c.order in
    let p : next_position st' ≡ next_position st + 1 = advance-position st st' last a in
    let q : 7 * st.next + st.filled ≡ 7 * b + length tr = unfold next_position in c.position in
    let rm = row-moves b w.book st st' last a (omega (arith, c.from)) c.rows c.filled in
    let gs : (n : ℕ) → st.start ≤ n → 7 * n < 7 * b + length (e ∷ tr) → Holds G (7 * b) (e ∷ tr) (group_at u.log (n % G)) n =
    rw el (log-groups G D b e tr st w.log z c.log_size o.groups-same o.start-most o.start-next room o.filled-most q us sd c.groups) in
    record {
      homes = eh ∙ c.homes;
      state_size = size;
      log_size = ap length el ∙ length-entered st (st.next % G) w.log _ e.block ∙ c.log_size;
      area_size = ap length ea ∙ c.area_size;
      order = record {
        groups-same = a.groups ∙ o.groups-same;
        homes_same = a.homes ∙ o.homes_same;
        start-most = omega (arith, a.start, o.start-most);
        start-next = ⊎_elim (λ h. omega (arith, a.start, o.start-next)) (λ h. omega (arith, a.start, o.start-next)) a.moved;
        next-most = ⊎_elim (λ h. omega (arith, a.start, a.groups, o.next-most)) (λ h. omega (arith, a.start, a.groups, o.groups-same, room)) a.moved;
        filled-most = ⊎_elim (λ h. omega arith) (λ h. omega arith) a.moved;
        filled_none = λ k. ⊎_elim (λ h. omega (arith, a.start, a.groups, o.groups-same, room)) (λ h. omega arith) a.moved;
        start-settled = omega (arith, a.start, a.settled, o.start-settled);
        settled-fenced = omega (arith, a.settled, a.fenced, o.settled-fenced);
        fenced-next = ⊎_elim (λ h. omega (arith, a.fenced, o.fenced-next)) (λ h. omega (arith, a.fenced, o.fenced-next)) a.moved;
        durable-fenced = omega (arith, a.durable, a.fenced, o.durable-fenced);
        last-closing = omega (arith, a.last, p, lc);
        round-settled = λ h. let k = o.round-settled (omega (arith, a.round)) in omega (arith, a.round, a.settled);
        round-fenced = omega (arith, a.round, a.fenced, o.round-fenced);
        promises = pr;
        writers = λ x h. each-writer (λ y. WriterInOrder st' (writer_of u.state y)) v x wo (λ n. rw (ow x h n) (order-grows st st' last (writer_of w.state x) a (o.writers x h)));
      };
      from = omega (arith, a.start, c.from);
      position = p ∙ omega (arith, c.position);
      sound = sound-grow (7 * b) D e tr (λ h. sd) c.sound;
      groups = λ n h k. gs n (omega (arith, a.start)) k;
      apart = rw a.start ap';
      links = rw a.start ln;
      last = rw (a.start, a.last) lo;
      tasks = λ x h.
          each-writer (λ y. TaskOk b (e ∷ tr) (writer_of u.state y) (held_of u.state y) ((hist (7 * b) (e ∷ tr)).open_transaction y) (u.book.tasks y)) v x (rw tv tk)
          (λ n. rw (to x n, ow x h n, oh x h n, open-other (7 * b) e tr x (λ y. n (sym y ∙ who)))
          (task-grows b e tr (writer_of w.state x) (held_of w.state x) ((hist (7 * b) tr).open_transaction x) (w.book.tasks x) (entries-older b e tr ((hist (7 * b) tr).open_transaction x) (open-below (7 * b) tr x)) (c.tasks x h)));
      rows = er ∙ rm.0;
      filled = ef ∙ rm.1;
      settled_homes = λ h k.
          rw (ea, settled_same st st' h a.round a.cursor a.settled, eh' (settled_for st h) (settled-most w.state G D o h)) (c.settled_homes h k);
    }
