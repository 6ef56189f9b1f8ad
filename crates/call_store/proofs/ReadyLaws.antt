-- What a call that logs an entry knows of what it was lent. Assumes nothing.
use mathlib.Core.Path.{◌≡◌, refl, ◌∙◌}
use mathlib.Core.Bool.{Bool, true, false, cond, not, ◌||◌}
use mathlib.Core.List.{List}
use Prim.Native.Nat.{ℕ, ◌+◌, ◌*◌, ◌≤◌, ◌<◌}
use native.Mathlib.Omega.{arith}
use lib.Dec.{eqb, leb}
use lib.ListN.{length}
use borrow.Author.Tests.{leb-true, le-leb, eq-eqb}
use Rattle.model.specs.Layout.{group_count, home_count}
use Rattle.model.specs.declared.State.{State}
use Rattle.model.specs.declared.Writer.{Writer}
use Rattle.model.specs.State.{state_of, next_position, writer_of, holds}
use Rattle.model.specs.Questions.{ask}
use Rattle.model_laws.proofs.state.OrderLaws.{InOrder, WriterInOrder}
use Rattle.model_laws.proofs.state.QuestionLaws.{ask-yes}
use Rattle.call_ask.proofs.AnswerLaws.{Usable}
use Rattle.call_store.specs.Logs.{MayLog, Fits}
use Rattle.model_laws.proofs.state.LoggingLaws.{bounds, link-small}

-- questions 8 and 10 of a call that logs nothing, and of one that logs
pub quiet : (logs has : Bool) (size len : ℕ) → logs ≡ false → size ≡ 0 → ask (not logs || has) 8 (ask (leb size len) 9 0) ≡ 0
quiet logs has size len e z = rw (e, z) (ask-yes true 8 _ refl ∙ ask-yes (leb 0 len) 9 0 (le-leb 0 len (omega arith)))

pub loud : (logs has : Bool) (v : ℕ) → logs ≡ true → ask (not logs || has) 8 v ≡ ask has 8 v
loud logs has v e = rw e

-- an entry may be logged
pub may : (l a s b : List ℕ) (st : State) (v : ℕ) → Usable l a s → st ≡ state_of s → v < 8 → st.next < st.start + st.groups
    → cond (eqb st.filled 6) 516 0 ≤ length b → MayLog l s b st v
may l a s b st v u e hv room fit =
    let room' : (state_of s).next < (state_of s).start + (state_of s).groups = rw e at room in
    let fit' : cond (eqb (state_of s).filled 6) 516 0 ≤ length b = rw e at fit in
    let o = u.order in
    let p : (state_of s).groups ≡ group_count (length l) = o.groups-same in
    let m : MayLog l s b (state_of s) v = record {
      state = refl;
      state_fits = u.state-length;
      writer = hv;
      some = omega (arith, u.groups-least);
      few = omega (arith, u.groups-most);
      log = omega (arith, u.log-length);
      high = o.start-most;
      low = o.start-next;
      room = room';
      homes = omega (arith, o.homes_same, u.homes-most);
      filled = o.filled-most;
      batch = λ f. rw (eq-eqb (state_of s).filled 6 f) at fit';
    } in
    rw e m

-- the fields of its tag fit
pub fits-tag : (l a s : List ℕ) (st : State) (r : Writer) (v : ℕ) → Usable l a s → st ≡ state_of s → r ≡ writer_of s v → v < 8
    → holds r ≡ true → st.next < st.start + st.groups → Fits st r (next_position st)
unfolding holds
fits-tag l a s st r v u es er hv hh room = rw (es, er) (go (rw er at hh) (rw es at room))
  where
    o : InOrder s (group_count (length l)) (home_count (length a))
    o = u.order

    go : leb 2 (writer_of s v).mode ≡ true → (state_of s).next < (state_of s).start + (state_of s).groups
        → Fits (state_of s) (writer_of s v) (next_position (state_of s))
    go h k =
        let q : next_position (state_of s) ≡ 7 * (state_of s).next + (state_of s).filled = unfold next_position in refl in
        let wo : WriterInOrder (state_of s) (writer_of s v) = o.writers v hv in
        let hm : (writer_of s v).home < (state_of s).homes = wo.home (leb-true 2 (writer_of s v).mode h) in
        let low : 7 * (state_of s).start ≤ next_position (state_of s) = omega (arith, q, o.start-next) in
        let b = bounds (state_of s) (writer_of s v) wo low in
        let top : next_position (state_of s) < 7 * ((state_of s).start + (state_of s).groups) = omega (arith, q, o.filled-most) in
        let g : (state_of s).groups ≤ 1024 = omega (arith, o.groups-same, u.groups-most) in
        record {
          home = omega (arith, o.homes_same, u.homes-most);
          from = b.low;
          upto = b.upto;
          near = omega (arith, b.low);
          many = omega (arith, b.low, b.many);
          high = omega (arith, o.start-most);
          before = omega (arith, o.last-closing);
          link = link-small (state_of s).groups (state_of s) g top o.last-closing;
        }
