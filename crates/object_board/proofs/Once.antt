-- Operations that are done at once: begin, abort, read. They make a call without a batch, and may come while another operation is under way.
use Prim.Native.Nat.{ℕ, zero, suc, ◌/◌}
use mathlib.Core.Path.{◌≡◌, refl, sym, ap, ◌∙◌, subst}
use mathlib.Core.Logic.{◌⊎◌, inl, inr}
use mathlib.Core.Bool.{Bool, true, false, cond, not}
use mathlib.Core.List.{List, [], ◌++◌, append-nil}
use mathlib.Core.Option.{some}
use native.Mathlib.Omega.{arith}
use lib.Dec.{eqb}
use lib.ListN.{length}
use borrow.Author.Tests.{eqb-true, eqb-false}
use Rattle.model.specs.Batch.{Record, batch_bytes, read_batch, read_records}
use Rattle.model.specs.State.{state_of}
use Rattle.model.specs.Effects.{Given, Effect, new_state, begin_effect, abort_effect, read_effect}
use Rattle.model.specs.Calls.{Outcome, outcome, refused, done as done_call, begin_call, abort_call}
use Rattle.model.specs.Book.{Book, Task, with_task, set_task, read_by}
use Rattle.model.specs.Book as book
use Rattle.model.specs.Crash.{Memory}
use Rattle.model.specs.Facts.{left_with}
use Rattle.model.specs.History.{Call, begin, abort, read, call, World, ends, service_ends, step, after_call, after_done, after_refused, feed, feed_change, is_opening, is_confirm, Allowed}
use Rattle.model.specs.History as history
use Rattle.abstract_store.specs.Store.{Store, follow, after_reply, reply_of, after_done as store_done, after_service, numbered, fenced_after, next_of, next_group, group_of_first}
use Rattle.theorems.specs.Lent.{asked as lent_to₀}
use Rattle.theorems.proofs.facts.AsideHolds.{lent_alike}
use Rattle.theorems.proofs.invariant.Invariant.{Sizes}
use Rattle.theorems.proofs.steps.Rows.{row_of, ends-row}
use Rattle.object.specs.Medium.{Grain}
use Rattle.object.specs.Order.{Motion, motions, moved}
use Rattle.object.specs.Runner.{Carried}
use Rattle.object.proofs.TornClaims.{live_now}
use Rattle.object_runner.specs.Moves.{Hands}
use Rattle.object_runner.specs.Always.{batch_of, records_of}
use Rattle.object_machine.specs.declared.Control.{Control}
use Rattle.object_machine.specs.Moves.{done}
use Rattle.object_machine.specs.Next.{shut, refusal}
use Rattle.object_board.specs.Board.{Board, in_hand, piece_of, is_over, fed_by, refused_to, at_once, once, begins_in, aborts_in, reads_in, with_medium, happens, Shut}
use Rattle.object_board.specs.Board as board
use Rattle.object_board.proofs.StepLaws.{Stepped, stepped}
use Rattle.object_board.proofs.Ways.{Way, way-call, way-running, next-told, fenced-told}
use Rattle.object_board.proofs.Along.{cursor_of, Copies, Along, passed-fences}
use Rattle.object_board.proofs.Follows.{due_of, ahead_of, Kind, idle, other, sync, opening, Follows}
use Rattle.object_board.proofs.Stages.{other-not, sync-not}
use Rattle.object_board.proofs.Good.{Good, behind, loaded, follows}
use Rattle.object_board.proofs.Happens.{told-good}
use Rattle.object_board.proofs.Asks.{shut_open, shut-failed}

-- a call that leaves all but the state, and writes nothing
pub record Quick (w : World) (d : Call) : Type 0 where
  pub opening : is_opening d ≡ false
  pub confirm : is_confirm d ≡ false
  pub log : (ends w d).log ≡ w.log
  pub area : (ends w d).area ≡ w.area
  pub newest : (ends w d).newest ≡ w.newest
  pub records : records_of (ends w d) ≡ []
  pub fenced : (s : Store) → (follow s w (call d)).fenced ≡ s.fenced
  pub next : (s : Store) → next_group (follow s w (call d)) ≡ next_group s
  pub position : (s : Store) → next_of (follow s w (call d)) ≡ next_of s

record Same (g : Given) (o : Outcome) : Type 0 where
  log : o.log ≡ g.log
  area : o.area ≡ g.area
  newest : o.newest ≡ g.newest
  size : o.size ≡ 0

none-size : length (batch_bytes []) ≡ 0
unfolding batch_bytes
none-size = refl

same_outcome : (g : Given) (a : ℕ) (e : Effect) → e.log ≡ g.log → e.area ≡ g.area → e.newest ≡ g.newest → e.records ≡ [] → Same g (outcome g a e)
unfolding outcome done_call refused
same_outcome g zero e p q r s = record { log = p; area = q; newest = r; size = ap (λ (x : List Record). length (batch_bytes x)) s ∙ none-size }
same_outcome g (suc k) e p q r s = record { log = refl; area = refl; newest = refl; size = refl }

no-records : (o : Outcome) → o.size ≡ 0 → records_of o ≡ []
unfolding records_of batch_of read_batch read_records
no-records o e = rw e

-- the effect of each, by its row
record Plain (w : World) (d : Call) : Type 0 where
  log : ((row_of w d).effect.log ≡ (row_of w d).given.log) × ((row_of w d).given.log ≡ w.log)
  area : ((row_of w d).effect.area ≡ (row_of w d).given.area) × ((row_of w d).given.area ≡ w.area)
  newest : ((row_of w d).effect.newest ≡ (row_of w d).given.newest) × ((row_of w d).given.newest ≡ w.newest)
  records : (row_of w d).effect.records ≡ []

plain-same : (w : World) (d : Call) → Plain w d → Same (row_of w d).given (ends w d)
plain-same w d p =
    subst (Same (row_of w d).given) (sym (ends-row w d))
    (same_outcome (row_of w d).given (row_of w d).answer (row_of w d).effect p.log.0 p.area.0 p.newest.0 p.records)

record Stands (s t : Store) : Type 0 where
  fenced : t.fenced ≡ s.fenced
  next : next_group t ≡ next_group s
  position : next_of t ≡ next_of s

quick-by : (w : World) (d : Call) → is_opening d ≡ false → is_confirm d ≡ false → Plain w d → ((s : Store) → Stands s (follow s w (call d))) → Quick w d
quick-by w d o k p q =
    let e = plain-same w d p in
    record {
      opening = o;
      confirm = k;
      log = e.log ∙ p.log.1;
      area = e.area ∙ p.area.1;
      newest = e.newest ∙ p.newest.1;
      records = no-records (ends w d) e.size;
      fenced = λ s. (q s).fenced;
      next = λ s. (q s).next;
      position = λ s. (q s).position;
    }

begin-plain : (w : World) (v : ℕ) → Plain w (begin v)
unfolding row_of begin_effect new_state history.lent
begin-plain w v = record { log = (refl, refl); area = (refl, refl); newest = (refl, refl); records = refl }

begin-stands : (w : World) (v : ℕ) (s : Store) → Stands s (follow s w (call (begin v)))
unfolding follow after_reply reply_of store_done after_service numbered fenced_after next_of next_group group_of_first feed feed_change book.begin book.abort with_task
begin-stands w v s = go (eqb (ends w (begin v)).code 0)
  where
    go : (i : Bool) → Stands s (cond i (store_done s (begin v) (ends w (begin v)).figure) s)
    go true = record { fenced = refl; next = refl; position = refl }
    go false = record { fenced = refl; next = refl; position = refl }

pub begin-quick : (w : World) (v : ℕ) → Quick w (begin v)
begin-quick w v = quick-by w (begin v) (unfold is_opening in refl) (unfold is_confirm in refl) (begin-plain w v) (begin-stands w v)

abort-plain : (w : World) (v : ℕ) → Plain w (abort v)
unfolding row_of abort_effect new_state history.lent
abort-plain w v = record { log = (refl, refl); area = (refl, refl); newest = (refl, refl); records = refl }

abort-stands : (w : World) (v : ℕ) (s : Store) → Stands s (follow s w (call (abort v)))
unfolding follow after_reply reply_of store_done after_service numbered fenced_after next_of next_group group_of_first feed feed_change book.begin book.abort with_task
abort-stands w v s = go (eqb (ends w (abort v)).code 0)
  where
    go : (i : Bool) → Stands s (cond i (store_done s (abort v) (ends w (abort v)).figure) s)
    go true = record { fenced = refl; next = refl; position = refl }
    go false = record { fenced = refl; next = refl; position = refl }

pub abort-quick : (w : World) (v : ℕ) → Quick w (abort v)
abort-quick w v = quick-by w (abort v) (unfold is_opening in refl) (unfold is_confirm in refl) (abort-plain w v) (abort-stands w v)

read_plain : (w : World) (v home : ℕ) (block : List ℕ) → Plain w (read v home block)
unfolding row_of read_effect history.lent
read_plain w v home block = record { log = (refl, refl); area = (refl, refl); newest = (refl, refl); records = refl }

read-stands : (w : World) (v home : ℕ) (block : List ℕ) (s : Store) → Stands s (follow s w (call (read v home block)))
unfolding follow after_reply reply_of store_done after_service numbered fenced_after next_of next_group group_of_first feed feed_change book.begin book.abort with_task
read-stands w v home block s = go (eqb (ends w (read v home block)).code 0)
  where
    go : (i : Bool) → Stands s (cond i (store_done s (read v home block) (ends w (read v home block)).figure) s)
    go true = record { fenced = refl; next = refl; position = refl }
    go false = record { fenced = refl; next = refl; position = refl }

pub read-quick : (w : World) (v home : ℕ) (block : List ℕ) → Quick w (read v home block)
read-quick w v home block = quick-by w (read v home block) (unfold is_opening in refl) (unfold is_confirm in refl) (read_plain w v home block) (read-stands w v home block)

passed-same : (w : World) (d : Call) → is_confirm d ≡ false → (step w (call d)).passed ≡ w.passed
unfolding step
passed-same w d k = go (ends w d).code
  where
    go : (n : ℕ) → (after_call w d (ends w d) n).passed ≡ w.passed
    go zero = (unfold after_call after_done in rw k)
    go (suc n) = (unfold after_call after_refused in refl)

open-not : (c : Control) → Kind c → c.condition ≡ 2 → c.stage ≡ 21 → ⊥
open-not c (idle h i) e s = omega (arith, h, s)
open-not c (other h i j) e s = (other-not c.stage h).5 s
open-not c (sync h i j) e s = (sync-not c.stage h).4 s
open-not c (opening h i j) e s = omega (arith, e, j)

module _ (l : Grain) (G D : ℕ) (z : Sizes G D) (b : Board) (f : Follows l G D z b) (usable : b.control.condition ≡ 2) where
  abbrev a : Along l G D z (ahead_of b)
  a = f.along

  abbrev w : World
  w = f.along.w

  -- the copies, as the board has them
  copies : Copies l G D z b.memory w
  unfolding with_medium
  copies = a.copies

  module _ (d : Call) (q : Quick w d) (o : Outcome) (code : o.code ≡ (ends w d).code) (figure : o.figure ≡ (ends w d).figure) (state : o.state ≡ (ends w d).state) where
    abbrev v : World
    v = step f.along.w (call d)

    abbrev s' : Store
    s' = follow f.along.s f.along.w (call d)

    abbrev b' : Board
    b' = at_once b o d

    allowed : Allowed w (call d)
    allowed = q.opening ∙ sym (ap not a.ready)

    way' : Way G D z v s'
    way' = way-call G D z w a.s a.way d allowed

    t : Stepped w d v (ends w d).code
    t = stepped w d q.opening a.ready (passed-fences l G D z w (length a.out) a.carried)

    pending : v.pending ≡ w.pending
    pending = t.pending ∙ ap (λ (x : List Record). w.pending ++ x) q.records ∙ append-nil w.pending

    next-same : (state_of v.state).next ≡ (state_of w.state).next
    next-same = next-told G D z v s' way' t.ready ∙ q.next a.s ∙ sym (next-told G D z w a.s a.way a.ready)

    fenced-same : (state_of v.state).fenced ≡ (state_of w.state).fenced
    fenced-same = fenced-told G D z v s' way' t.ready ∙ q.fenced a.s ∙ sym (fenced-told G D z w a.s a.way a.ready)

    due-same : due_of b' ≡ due_of b
    unfolding due_of at_once piece_of in_hand
    due-same = refl

    carried' : (n : ℕ) → Carried l w n → Carried l v n
    carried' n k =
        record { front = k.front; more = k.more; split = pending ∙ k.split; confirmed = omega (arith, passed-same w d q.confirm, k.confirmed); out = k.out }

    log-same : v.log ≡ w.log
    log-same = t.log ∙ q.log

    book-same : (at_once b o d).book ≡ v.book
    unfolding at_once with_medium
    book-same = ap (λ (x : Book). fed_by x (some d) o.code o.figure) a.book ∙ ap (λ (x : ℕ). fed_by w.book (some d) x o.figure) code ∙ ap (λ (x : ℕ). fed_by w.book (some d) (ends w d).code x) figure ∙ sym t.book

    hands' : Hands l G D (state_of v.state).next (in_hand b) v.log (cursor_of b.control) a.rest a.headed
    unfolding with_medium in_hand
    hands' =
        subst (λ (x : List ℕ). Hands l G D (state_of v.state).next (in_hand b) x (cursor_of b.control) a.rest a.headed) (sym log-same)
        (subst (λ (x : ℕ). Hands l G D x (in_hand b) w.log (cursor_of b.control) a.rest a.headed) (sym next-same) a.hands)

    along' : Along l G D z (ahead_of b')
    unfolding with_medium at_once in_hand
    along' =
        record {
          w = v;
          s = s';
          way = way';
          ready = t.ready;
          homes = a.homes;
          copies =
              record {
                log = a.copies.log ∙ sym log-same;
                area = a.copies.area ∙ sym (t.area ∙ q.area);
                state = state ∙ sym t.state;
                newest = a.copies.newest ∙ sym (t.newest ∙ q.newest);
                room = a.copies.room;
              };
          book = book-same;
          landing = a.landing;
          out = a.out;
          rest = a.rest;
          headed = a.headed;
          split = ap (motions l []) pending ∙ a.split;
          medium = ap (moved b.medium) due-same ∙ a.medium ∙ ap (λ (x : Memory). moved (record { lasting = x; written = [] }) a.out) (sym t.memory);
          hands = hands';
          ahead =
              record {
                low = omega (arith, a.ahead.low, next-same);
                words = λ p. a.ahead.words p ∙ ap (λ (x : ℕ). x / 7) (sym fenced-same);
              };
          fits = a.fits;
          carried = carried' (length a.out) a.carried;
        }

    pub once-follows : Follows l G D z b'
    unfolding at_once along'
    once-follows =
        record {
          along = along';
          facts =
              record {
                kind = f.facts.kind;
                fenced = λ h. q.fenced a.s ∙ f.facts.fenced h ∙ sym (q.position a.s);
                area = λ h. absurd (open-not b.control f.facts.kind usable h);
              };
          before = f.before;
          out = f.out ∙ ap (λ (x : List Motion). f.before ++ x) (sym due-same);
          medium = f.medium ∙ ap (λ (x : Memory). moved (record { lasting = x; written = [] }) f.before) (sym t.memory);
          carried = carried' (length f.before) f.carried;
          idle = f.idle;
          live = f.live;
          log = f.log;
          area = f.area;
        }

-- ---- each of them

begins-as : (b : Board) (w : World) (v : ℕ) → b.memory.log ≡ w.log → b.memory.area ≡ w.area → b.memory.state ≡ w.state
    → begins_in b v ≡ begin_call (lent_to₀ w [] [] v 0)
unfolding begins_in
begins-as b w v e₁ e₂ e₃ = rw (e₁, e₂, e₃)

aborts-as : (b : Board) (w : World) (v : ℕ) → b.memory.log ≡ w.log → b.memory.area ≡ w.area → b.memory.state ≡ w.state
    → aborts_in b v ≡ abort_call (lent_to₀ w [] [] v 0)
unfolding aborts_in
aborts-as b w v e₁ e₂ e₃ = rw (e₁, e₂, e₃)

reads_as : (b : Board) (w : World) (v home : ℕ) (block : List ℕ) → b.memory.log ≡ w.log → b.memory.area ≡ w.area → b.memory.state ≡ w.state → b.memory.newest ≡ w.newest
    → reads_in b v home block ≡ ends w (read v home block)
unfolding reads_in ends service_ends history.lent
reads_as b w v home block e₁ e₂ e₃ e₄ = rw (e₁, e₂, e₃, e₄)

left-fields : (newest : List ℕ) (o p : Outcome) → p ≡ left_with newest o → (o.code ≡ p.code) × (o.figure ≡ p.figure) × (o.state ≡ p.state)
unfolding left_with
left-fields newest o p e = (rw e, rw e, rw e)

refusal-code : (c : Control) (code : ℕ) → (refusal c code).code ≡ code
unfolding refusal done
refusal-code c code = refl

module _ (l : Grain) (G D : ℕ) (z : Sizes G D) (b : Board) (f : Follows l G D z b) (usable : b.control.condition ≡ 2) where
  homes-is : b.homes ≡ D
  unfolding with_medium
  homes-is = f.along.homes

  book-is : b.book ≡ f.along.w.book
  unfolding with_medium
  book-is = f.along.book

  pub read-block : (v home : ℕ) (block : List ℕ) → (reads_in b v home block).code ≡ 0 → (reads_in b v home block).block ≡ read_by b.homes b.book v home
  read-block v home block e =
      let w : World = f.along.w in
      let c = copies l G D z b f usable in
      let o = reads_as b w v home block c.log c.area c.state c.newest in
      let r = way-running G D z w f.along.s f.along.way f.along.ready in
      let k = live_now G D z w f.along.s f.along.way.standing f.along.ready in
      ap (λ (x : Outcome). x.block) o ∙ k.readable v home block (sym (ap (λ (x : Outcome). x.code) o) ∙ e)
      ∙ ap (λ (x : ℕ). read_by x w.book v home) (r.copies.homes ∙ sym homes-is) ∙ ap (λ (x : Book). read_by b.homes x v home) (sym book-is)

pub once-told : (b : Board) (o : Outcome) (d : Call) → Shut b (once b o d).told
unfolding once
once-told b o d h = rw (shut-failed b.control h) (tells b.control)
  where
    tells : (c : Control) → (refused_to b (refusal b.control 65)).told ≡ done 65 b.control.error
    tells c = (unfold refused_to refusal in refl)

module _ (l : Grain) (G D : ℕ) (z : Sizes G D) (b : Board) (good : Good l G D z b) where
  once-good : (o : Outcome) (d : Call) → ((f : Follows l G D z b) → b.control.condition ≡ 2 → Follows l G D z (at_once b o d)) → Good l G D z (once b o d)
  unfolding once
  once-good o d k = go (eqb (shut b.control) 0) refl good
    where
      not-two : (b.control.condition ≡ 1) ⊎ (b.control.condition ≡ 3) → b.control.condition ≡ 2 → ⊥
      not-two (inl p) q = omega (arith, p, q)
      not-two (inr p) q = omega (arith, p, q)

      go : (i : Bool) → eqb (shut b.control) 0 ≡ i → Good l G D z b → Good l G D z (cond i (at_once b o d) (refused_to b (refusal b.control (shut b.control))))
      go true e (behind x) = absurd (not-two x.shut (shut_open b.control (eqb-true (shut b.control) 0 e)))
      go true e (loaded x) = absurd (omega (arith, x.condition, shut_open b.control (eqb-true (shut b.control) 0 e)))
      go true e (follows x) = follows (k x (shut_open b.control (eqb-true (shut b.control) 0 e)))
      go false e x = told-good l G D z b (refusal b.control (shut b.control)) x

  pub begins-good : (v n : ℕ) → Good l G D z (happens l b (board.begins v) n)
  unfolding happens
  begins-good v n =
      once-good (begins_in b v) (begin v)
      (λ f u.
      let w : World = f.along.w in
      let c = copies l G D z b f u in
      let e = left-fields w.newest (begin_call (lent_to₀ w [] [] v 0)) (ends w (begin v)) (lent_alike.calls w (begin v)) in
      let o = begins-as b w v c.log c.area c.state in
      once-follows l G D z b f u (begin v) (begin-quick w v) (begins_in b v) (ap (λ (x : Outcome). x.code) o ∙ e.0) (ap (λ (x : Outcome). x.figure) o ∙ e.1)
      (ap (λ (x : Outcome). x.state) o ∙ e.2))

  pub aborts-good : (v n : ℕ) → Good l G D z (happens l b (board.aborts v) n)
  unfolding happens
  aborts-good v n =
      once-good (aborts_in b v) (abort v)
      (λ f u.
      let w : World = f.along.w in
      let c = copies l G D z b f u in
      let e = left-fields w.newest (abort_call (lent_to₀ w [] [] v 0)) (ends w (abort v)) (lent_alike.calls w (abort v)) in
      let o = aborts-as b w v c.log c.area c.state in
      once-follows l G D z b f u (abort v) (abort-quick w v) (aborts_in b v) (ap (λ (x : Outcome). x.code) o ∙ e.0) (ap (λ (x : Outcome). x.figure) o ∙ e.1)
      (ap (λ (x : Outcome). x.state) o ∙ e.2))

  pub reads-good : (v home : ℕ) (block : List ℕ) (n : ℕ) → Good l G D z (happens l b (board.reads v home block) n)
  unfolding happens
  reads-good v home block n =
      once-good (reads_in b v home block) (read v home block)
      (λ f u.
      let w : World = f.along.w in
      let c = copies l G D z b f u in
      let o = reads_as b w v home block c.log c.area c.state c.newest in
      once-follows l G D z b f u (read v home block) (read-quick w v home block) (reads_in b v home block) (ap (λ (x : Outcome). x.code) o) (ap (λ (x : Outcome). x.figure) o)
      (ap (λ (x : Outcome). x.state) o))

  -- a done read gives the writer's own newest block, else the newest committed one
  pub reads-right : (v home : ℕ) (block : List ℕ) (n : ℕ) → (happens l b (board.reads v home block) n).told.code ≡ 0
      → (happens l b (board.reads v home block) n).shown ≡ read_by b.homes b.book v home
  unfolding happens once
  reads-right v home block n = go (eqb (shut b.control) 0) refl good
    where
      not-two : (b.control.condition ≡ 1) ⊎ (b.control.condition ≡ 3) → b.control.condition ≡ 2 → ⊥
      not-two (inl p) q = omega (arith, p, q)
      not-two (inr p) q = omega (arith, p, q)

      Shown : Board → Type 0
      Shown x = x.told.code ≡ 0 → x.shown ≡ read_by b.homes b.book v home

      refused-no : eqb (shut b.control) 0 ≡ false → Shown (refused_to b (refusal b.control (shut b.control)))
      refused-no e h = absurd (eqb-false (shut b.control) 0 e (sym (refusal-code b.control (shut b.control)) ∙ (unfold refused_to in h)))

      shows : Follows l G D z b → b.control.condition ≡ 2 → Shown (at_once b (reads_in b v home block) (read v home block))
      shows f u h = (unfold at_once in read-block l G D z b f u v home block (unfold at_once done in h))

      go : (i : Bool) → eqb (shut b.control) 0 ≡ i → Good l G D z b
          → Shown (cond i (at_once b (reads_in b v home block) (read v home block)) (refused_to b (refusal b.control (shut b.control))))
      go true e (behind x) = absurd (not-two x.shut (shut_open b.control (eqb-true (shut b.control) 0 e)))
      go true e (loaded x) = absurd (omega (arith, x.condition, shut_open b.control (eqb-true (shut b.control) 0 e)))
      go true e (follows x) = shows x (shut_open b.control (eqb-true (shut b.control) 0 e))
      go false e x = refused-no e
