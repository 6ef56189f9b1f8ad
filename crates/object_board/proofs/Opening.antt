-- The homes are loaded, and the store's opening is called.
use Prim.Native.Nat.{ℕ, zero, suc, ◌+◌, ◌*◌, ◌/◌, ◌≤◌}
use mathlib.Core.Path.{◌≡◌, refl, sym, ap, ◌∙◌, subst}
use mathlib.Core.Logic.{◌⊎◌, inl, inr}
use mathlib.Core.Bool.{Bool, true, false, not}
use mathlib.Core.List.{List, [], ◌∷◌, ◌++◌}
use mathlib.Core.Option.{Option, some}
use native.Mathlib.Omega.{arith}
use native.Mathlib.Nat.{le_trans}
use lib.ListN.{length, take, get_or}
use borrow.Author.Tests.{ne_eqb}
use Rattle.model.specs.Bytes.{part, zeros}
use Rattle.model.specs.Layout.{home_count}
use Rattle.model.specs.Batch.{Record, batch_bytes}
use Rattle.model.specs.State.{state_of}
use Rattle.model.specs.declared.State.{State}
use Rattle.model.specs.Effects.{Given, marked}
use Rattle.model.specs.Calls.{Outcome, outcome, refused, done as done_call}
use Rattle.model.specs.Book.{Book, Commit, all_owed, with_commits, write_commits, homes_after}
use Rattle.model.specs.Crash.{Memory}
use Rattle.model.specs.History.{Call, call, World, ends, step, feed, is_opening, is_confirm, loaded as lends, after_call, after_done, Allowed}
use Rattle.model.specs.History as history
use Rattle.abstract_store.specs.Store.{Store, Reply, reply, reply_of, follow, many_homes, any_wrote, told}
use Rattle.theorems.proofs.invariant.Invariant.{Sizes}
use Rattle.theorems.proofs.steps.Rows.{row_of, ends-row}
use Rattle.theorems.proofs.demands.DemandThree.{keeps}
use Rattle.object.specs.Medium.{Grain, words, blocks, Medium}
use Rattle.object.specs.Order.{Motion, motions, moved}
use Rattle.object_runner.specs.Next.{cursor}
use Rattle.object_runner.specs.Moves.{headed_after, waiting_after, Due, Hands}
use Rattle.object_runner.specs.Always.{batch_of, records_of, next_of, headed_before, BatchDue}
use Rattle.object_runner.proofs.MovesHold.{runner-moves}
use Rattle.object_runner.proofs.DueHolds.{call-due}
use Rattle.object_runner.proofs.DueSteps.{headed-next}
use Rattle.object_machine.specs.declared.Control.{Control}
use Rattle.object_machine.specs.declared.Turn.{Turn}
use Rattle.object_machine.specs.declared.Moved.{Moved}
use Rattle.object_machine.specs.Control.{with_cursor, with_stage, with_batch}
use Rattle.object_machine.specs.Moves.{done, load, pass, full, after, headed_at}
use Rattle.object_machine.specs.Moves as machine
use Rattle.object_machine.specs.Next.{Lent, lent_to, given, makes}
use Rattle.call_ask.specs.Lent.{lent_all}
use Rattle.object_board.specs.Board.{Board, goes, in_hand, is_over, loads_log, loads_area, carried, copied, keeps as keeps_book, goes_further, call_of, fed_by, made, made_call, call_for, next, with_medium, happens, Tells}
use Rattle.object_board.proofs.BareLaws.{marked-few}
use Rattle.object_board.proofs.MadeLaws.{SameEnd, open_made}
use Rattle.object_board.proofs.StepLaws.{front-is}
use Rattle.object_board.proofs.Ways.{Way, way-call, way-running, way-answers, opening-answers}
use Rattle.object_board.proofs.Along.{cursor_of, first, headed-blocks, grain-not, Ahead, Along}
use Rattle.object_board.proofs.Follows.{opening, Facts, quiet-follows}
use Rattle.object_board.proofs.MoveLaws.{CalledTo, over, on, room, fence, no as refuse, gone}
use Rattle.object_board.proofs.Stages.{opening-call}
use Rattle.object_board.proofs.Calling.{given-same, quiet_pass, pass-under, done-code, stage-of, batch-of, MovesOn}
use Rattle.object_board.proofs.Turns.{moves_to, Calls, calls-next, made-call, follows-called}
use Rattle.object_board.proofs.Good.{Under, rests, Loaded, Good, behind, follows}
use Rattle.object_board.proofs.Happens.{none-carried, over_done}
use Rattle.object_board.proofs.Loads.{closed_of}

-- a board whose homes have been loaded too
unfoldable pub area_board : Board → Board
area_board b =
    let m : Lent = b.memory in
    record {
      homes = b.homes;
      control = b.control;
      memory = lent_to m.log b.medium.lasting.area m.state m.newest m.block m.batch;
      turn = b.turn;
      told = b.told;
      shown = b.shown;
      medium = b.medium;
      book = b.book;
    }

loads-area : (l : Grain) (b : Board) (m : ℕ) → b.turn ≡ load 1 m → (chosen : ℕ → Bool) (n : ℕ) → happens l b (goes chosen) n ≡ next (area_board b) 0
unfolding happens goes_further carried copied keeps_book loads_log loads_area load area_board with_medium
loads-area l b m e chosen n = rw e

pub no-loss : (b : Board) (m : ℕ) → b.turn ≡ load 1 m → loads_log b.turn ≡ false
unfolding loads_log load
no-loss b m e = rw e

-- whether commits are owed is nothing to the homes
owed-writes : (cs : List Commit) (area : List ℕ) → write_commits (all_owed cs) area ≡ write_commits cs area
unfolding write_commits all_owed
owed-writes [] area = refl
owed-writes (c ∷ cs) area = owed-writes cs _

owed-homes : (D : ℕ) (cs : List Commit) → homes_after D (all_owed cs) ≡ homes_after D cs
unfolding homes_after
owed-homes D cs = owed-writes cs (zeros (64 * D))

-- ---- the bare opening

module _ (w : World) (state newest batch : List ℕ) where
  abbrev c₀ : Call
  c₀ = history.opening state newest batch

  record Opens (v : World) : Type 0 where
    states : v.state ≡ (ends w c₀).state
    newests : v.newest ≡ (ends w c₀).newest
    log : v.log ≡ (ends w c₀).log
    area : v.area ≡ (ends w c₀).area
    memory : v.memory ≡ w.memory
    pending : v.pending ≡ w.pending ++ records_of (ends w c₀)
    ready : v.ready ≡ true
    passed : v.passed ≡ w.passed
    book : v.book ≡ with_commits w.book (all_owed w.book.commits)

  opens-to : (ends w c₀).code ≡ 0 → Opens (step w (call c₀))
  unfolding step
  opens-to e = subst (λ (n : ℕ). Opens (after_call w c₀ (ends w c₀) n)) (sym e) done-fields
    where
      done-fields : Opens (after_call w c₀ (ends w c₀) 0)
      done-fields =
          unfold after_call after_done is_confirm feed records_of batch_of in
          record {
            states = refl;
            newests = refl;
            log = refl;
            area = refl;
            memory = refl;
            pending = refl;
            ready = refl;
            passed = refl;
            book = refl;
          }

  refused-outcome : (k : ℕ) → outcome (row_of w c₀).given (suc k) (row_of w c₀).effect ≡ refused (row_of w c₀).given (suc k)
  unfolding outcome
  refused-outcome k = refl

  lent-fields : (k : ℕ) → ((refused (row_of w c₀).given k).state ≡ state) × ((refused (row_of w c₀).given k).newest ≡ newest)
      × ((refused (row_of w c₀).given k).log ≡ w.memory.log) × ((refused (row_of w c₀).given k).area ≡ w.memory.area)
  unfolding refused row_of lends
  lent-fields k = (refl, refl, refl, refl)

  -- a refused one leaves what it was lent
  record Leaves : Type 0 where
    states : (ends w c₀).state ≡ state
    newests : (ends w c₀).newest ≡ newest
    log : (ends w c₀).log ≡ w.memory.log
    area : (ends w c₀).area ≡ w.memory.area

  refused-leaves : ((ends w c₀).code ≡ 0 → ⊥) → Leaves
  refused-leaves n = go (row_of w c₀).answer refl
    where
      go : (k : ℕ) → (row_of w c₀).answer ≡ k → Leaves
      go zero e = absurd (n (ap (λ (o : Outcome). o.code) (ends-row w c₀ ∙ ap (λ (i : ℕ). outcome (row_of w c₀).given i (row_of w c₀).effect) e) ∙ (unfold outcome done_call in refl)))
      go (suc k) e =
          let q : ends w c₀ ≡ refused (row_of w c₀).given (suc k) = ends-row w c₀ ∙ ap (λ (i : ℕ). outcome (row_of w c₀).given i (row_of w c₀).effect) e ∙ refused-outcome k in
          record {
            states = ap (λ (o : Outcome). o.state) q ∙ (lent-fields (suc k)).0;
            newests = ap (λ (o : Outcome). o.newest) q ∙ (lent-fields (suc k)).1;
            log = ap (λ (o : Outcome). o.log) q ∙ (lent-fields (suc k)).2;
            area = ap (λ (o : Outcome). o.area) q ∙ (lent-fields (suc k)).3;
          }

full-open : full 1 ≡ 0
unfolding full
full-open = refl

after_open : get_or after 1 0 ≡ 21
unfolding after
after_open = refl

call-open : (b : Board) → b.control.stage ≡ 1 → call_for b ≡ 1
unfolding call_for
call-open b e = opening-call b.control (state_of b.memory.state) (home_count (length b.memory.area)) e

is_open : (g : Given) (n k : ℕ) → k ≡ 1 → call_of k g n ≡ some (history.opening g.state g.newest g.batch)
unfolding call_of
is_open g n k e = rw e

fed-refused : (b : Book) (x : Call) (code figure : ℕ) → (code ≡ 0 → ⊥) → fed_by b (some x) code figure ≡ b
unfolding fed_by
fed-refused b x code figure n = rw (ne_eqb code 0 n)

fed-opened : (b : Book) (state newest batch : List ℕ) (code figure : ℕ) → code ≡ 0
    → fed_by b (some (history.opening state newest batch)) code figure ≡ with_commits b (all_owed b.commits)
unfolding fed_by feed
fed-opened b state newest batch code figure e = rw e

told-size : (n figure size : ℕ) → (told n figure size).size ≤ size
unfolding told
told-size zero figure size = omega arith
told-size (suc n) figure size = omega arith

reply-size : (s : Store) (state newest batch : List ℕ) → (reply s (history.opening state newest batch)).size ≤ 68 * s.homes + (72 + 516 * s.groups)
unfolding reply many_homes
reply-size s state newest batch =
    let few = marked-few (λ h. any_wrote h s.back) s.homes in
    let low : 68 * length (marked (λ h. any_wrote h s.back) s.homes) + (72 + 516 * s.groups) ≤ 68 * s.homes + (72 + 516 * s.groups) = omega (arith, few) in
    le_trans (told-size _ _ _) low

headed-open : (c : Control) (st : State) → c.stage ≡ 1 → headed_at c st ≡ st.next
unfolding headed_at
headed-open c st e = rw e

landing_kept : (m : Moved) (c : Control) (n : ℕ) (t : Turn) → m ≡ machine.moved (with_stage c n) t → m.control.landing ≡ c.landing
unfolding machine.moved with_stage
landing_kept m c n t e = rw e

record OpenBatch (c c' : Control) (n size : ℕ) : Type 0 where
  long : c'.size ≡ size
  at : c'.at ≡ 0
  headed : c'.headed ≡ n
  stepped : c'.step ≡ 0
  landing : c'.landing ≡ c.landing

open-batch : (c : Control) (st : State) (m : Moved) (n figure size : ℕ) (t : Turn) → c.stage ≡ 1 → m ≡ machine.moved (with_batch (gone c st) n figure size) t
    → OpenBatch c m.control st.next size
unfolding machine.moved with_batch with_cursor
open-batch c st m n figure size t e q =
    record { long = rw q; at = rw q; headed = rw q (headed-open c st e); stepped = rw q; landing = rw q }

module _ (l : Grain) (G D : ℕ) (z : Sizes G D) (b : Board) (k : Loaded l G D z b) where
  abbrev w : World
  w = k.under.w

  abbrev c : Control
  c = b.control

  abbrev b₁ : Board
  b₁ = area_board b

  abbrev b' : Board
  b' = next (area_board b) 0

  abbrev state : List ℕ
  state = b.memory.state

  abbrev newest : List ℕ
  newest = b.memory.newest

  abbrev batch : List ℕ
  batch = b.memory.batch

  abbrev opens₀ : Call
  opens₀ = history.opening b.memory.state b.memory.newest b.memory.batch

  allowed : Allowed w (call (history.opening b.memory.state b.memory.newest b.memory.batch))
  unfolding is_opening
  allowed = sym (ap not k.ready)

  g : Calls b₁ b'
  g = calls-next b₁ (unfold area_board in k.left)

  given_is : given b₁.memory b₁.control ≡ lent_all w.memory.log w.memory.area state newest b.memory.block batch c.writer c.home
  unfolding area_board
  given_is =
      given-same b₁.memory c w.memory.log w.memory.area state newest k.log (ap (λ (m : Medium). m.lasting.area) k.whole) refl refl

  stage_is : b₁.control.stage ≡ 1
  unfolding area_board
  stage_is = k.stage

  end : SameEnd (made b₁) (ends w opens₀) (length batch)
  unfolding made
  end =
      subst (λ (i : ℕ). SameEnd (makes i (given b₁.memory b₁.control) b₁.control.number) (ends w opens₀) (length batch)) (sym (call-open b₁ stage_is))
      (subst (λ (i : Given). SameEnd (makes 1 i b₁.control.number) (ends w opens₀) (length batch)) (sym given_is)
      (open_made w state newest b.memory.block batch c.writer c.home b₁.control.number))

  call-is : made_call b₁ 0 ≡ some opens₀
  unfolding area_board
  call-is =
      made-call b₁ k.left ∙ is_open (given b₁.memory b₁.control) b₁.control.number (call_for b₁) (call-open b₁ stage_is)
      ∙ ap (λ (i : Given). some (history.opening i.state i.newest i.batch)) given_is

  fed-is : b'.book ≡ fed_by b.book (some opens₀) (made b₁).code (made b₁).figure
  unfolding area_board
  fed-is = g.book ∙ ap (λ (i : Option Call). fed_by b.book i (made b₁).code (made b₁).figure) call-is

  answer : ((made b₁).code ≡ 0) ⊎ ((made b₁).code ≡ 10)
  answer =
      go (opening-answers G D z w k.under.s k.under.way state newest batch k.ready k.kept.sized.state k.kept.sized.newest k.kept.sized.room)
    where
      go : ((ends w opens₀).code ≡ 0) ⊎ ((ends w opens₀).code ≡ 10) → ((made b₁).code ≡ 0) ⊎ ((made b₁).code ≡ 10)
      go (inl e) = inl (end.code ∙ e)
      go (inr e) = inr (end.code ∙ e)

  kept-size : length b'.memory.batch ≡ length batch
  kept-size = ap length g.batch ∙ end.room

  whole : b'.medium ≡ first w
  unfolding area_board
  whole = g.medium ∙ k.whole

  abbrev Result : Type 0
  Result = Good l G D z b' × (is_over b'.told ≡ true → Tells b')

  -- refused: the log is worn out
  refuses : (figure : ℕ) → ((made b₁).code ≡ 0 → ⊥) → moves_to b₁ ≡ machine.moved (with_stage b₁.control 0) (done (made b₁).code figure) → Result
  unfolding area_board moved
  refuses figure n q =
      let o = stage-of (moves_to b₁) c 0 (done (made b₁).code figure) q in
      let v = refused-leaves w state newest batch (λ h. n (end.code ∙ h)) in
      let i = closed_of l G D z w k.under.s k.under.way k.ready in
      let u : Under l G D z b' =
      record {
        w = w;
        s = k.under.s;
        way = k.under.way;
        homes = g.homes ∙ k.under.homes;
        book = fed-is ∙ fed-refused b.book opens₀ (made b₁).code (made b₁).figure n ∙ k.under.book;
        many = 0;
        medium = whole;
        carried = none-carried l G D z w k.quiet k.passed;
      } in (
        behind
            (record {
              under = u;
              kept =
                  record {
                    sized =
                        record {
                          state = ap length (g.state ∙ end.state ∙ v.states) ∙ k.kept.sized.state;
                          newest = ap length (g.newest ∙ end.newest ∙ v.newests) ∙ k.kept.sized.newest;
                          log = ap length (g.log ∙ end.log ∙ v.log) ∙ i.opens.log_size;
                          area = ap length (g.area ∙ end.area ∙ v.area) ∙ i.opens.area_size;
                          room = rw kept-size k.kept.sized.room;
                        };
                    landing = ap (λ (j : Control). j.landing) g.control ∙ landing_kept (moves_to b₁) c 0 (done (made b₁).code figure) q ∙ k.kept.landing;
                  };
              shut = inl (ap (λ (j : Control). j.condition) g.control ∙ o.condition-is ∙ k.condition);
              left = λ h. absurd (h (ap (λ (j : Control). j.stage) g.control ∙ o.stage_is));
              waiting = rests (ap (λ (j : Control). j.stage) g.control ∙ o.stage_is) (ap is_over (g.turn ∙ o.turn) ∙ over_done l G D z (made b₁).code figure);
            }),
        λ h.
            record {
              opened = λ p r. absurd (n (sym (ap (λ (j : Turn). j.code) (g.told ∙ o.turn) ∙ done-code (made b₁).code figure) ∙ r));
              opening = λ p. inr (ap (λ (j : Turn). j.code) (g.told ∙ o.turn) ∙ done-code (made b₁).code figure ∙ ten answer);
              synced = λ p. absurd (omega (arith, p, ap (λ (j : Control). j.op) g.control ∙ o.op ∙ k.op));
            },
      )
    where
      ten : ((made b₁).code ≡ 0) ⊎ ((made b₁).code ≡ 10) → (made b₁).code ≡ 10
      ten (inl e) = absurd (n e)
      ten (inr e) = e

  -- done: the world is an open store's
  module _ (e : (made b₁).code ≡ 0) (figure : ℕ) (q : moves_to b₁ ≡ machine.moved (with_batch (gone b₁.control (state_of (made b₁).state)) 21 figure (made b₁).size) pass) where
    abbrev v : World
    v = step k.under.w (call (history.opening b.memory.state b.memory.newest b.memory.batch))

    done₀ : (ends w opens₀).code ≡ 0
    done₀ = sym end.code ∙ e

    t : Opens w state newest batch v
    t = opens-to w state newest batch done₀

    way' : Way G D z v (follow k.under.s w (call opens₀))
    way' = way-call G D z w k.under.s k.under.way opens₀ allowed

    m : BatchDue l G D w opens₀
    m = (call-due G D z w k.under.way.standing.invariant k.under.way.waits opens₀ allowed done₀).due l

    x : OpenBatch c (moves_to b₁).control (state_of (made b₁).state).next (made b₁).size
    unfolding area_board
    x = open-batch c (state_of (made b₁).state) (moves_to b₁) 21 figure (made b₁).size pass k.stage q

    o : MovesOn (moves_to b₁) b₁.control 21 b₁.control.condition pass
    o = batch-of (moves_to b₁) b₁.control b₁.control.at (headed_at b₁.control (state_of (made b₁).state)) b₁.control.step 21 figure (made b₁).size pass q

    next-made : (state_of (made b₁).state).next ≡ next_of (ends w opens₀)
    unfolding next_of
    next-made = ap (λ (i : List ℕ). (state_of i).next) end.state

    next-v : next_of (ends w opens₀) ≡ (state_of v.state).next
    unfolding next_of
    next-v = ap (λ (i : List ℕ). (state_of i).next) (sym t.states)

    before : headed_before w opens₀ ≡ next_of (ends w opens₀)
    unfolding headed_before is_opening
    before = refl

    rs : List Record
    rs = records_of (ends w opens₀)

    pending : v.pending ≡ records_of (ends w opens₀)
    pending = t.pending ∙ ap (λ (i : List Record). i ++ records_of (ends w opens₀)) k.quiet

    none-waits : waiting_after l [] w.pending ≡ []
    unfolding waiting_after
    none-waits = ap (waiting_after l []) k.quiet

    size_low : (ends w opens₀).size ≤ 72 + 516 * G + 68 * D
    unfolding reply_of
    size_low =
        let a = k.under.way.standing.agrees in
        let r : (ends w opens₀).size ≡ (reply k.under.s opens₀).size = ap (λ (i : Reply). i.size) (way-answers G D z w k.under.s k.under.way opens₀ allowed) in
        omega (arith, r, reply-size k.under.s state newest batch, a.homes, a.groups)

    in-hand : in_hand b' ≡ batch_bytes (records_of (ends w opens₀))
    unfolding in_hand
    in-hand =
        let a : b'.control.size ≡ (made b₁).size = ap (λ (i : Control). i.size) g.control ∙ x.long in
        ap (λ (i : ℕ). part b'.memory.batch 0 i) a ∙ ap (λ (i : List ℕ). part i 0 (made b₁).size) g.batch ∙ front-is (made b₁).size (made b₁).batch
        ∙ end.bytes ∙ taken
      where
        taken : take (ends w opens₀).size (ends w opens₀).batch ≡ batch_bytes (records_of (ends w opens₀))
        taken = (unfold batch_of in m.bytes)

    at_front : cursor_of b'.control ≡ cursor 0 (next_of (ends w opens₀)) 0
    at_front =
        ap cursor_of g.control ∙ at_moved
      where
        at_moved : cursor_of (moves_to b₁).control ≡ cursor 0 (next_of (ends w opens₀)) 0
        at_moved = rw (x.at, x.headed ∙ next-made, x.stepped)

    abbrev H : ℕ
    H = headed_after l (next_of (ends w (history.opening b.memory.state b.memory.newest b.memory.batch))) (next_of (ends w (history.opening b.memory.state b.memory.newest b.memory.batch))) (records_of (ends w (history.opening b.memory.state b.memory.newest b.memory.batch)))

    ahead : Ahead l G D z v H
    ahead = go l refl
      where
        go : (i : Grain) → l ≡ i → Ahead l G D z v H
        go words j =
            let y : H ≡ (state_of v.state).fenced / 7 =
            ap (λ (i : Grain). headed_after i (next_of (ends w opens₀)) (next_of (ends w opens₀)) (records_of (ends w opens₀))) j
            ∙ ap (λ (i : ℕ). headed_after words i (next_of (ends w opens₀)) (records_of (ends w opens₀))) (sym before) ∙ m.headed
            ∙ ap (λ (i : List ℕ). (state_of i).fenced / 7) (sym t.states) in
            record { low = omega (arith, y, headed-next G D v (way-running G D z v (follow k.under.s w (call opens₀)) way' t.ready)); words = λ p. y }
        go blocks j =
            let y : H ≡ next_of (ends w opens₀) =
            ap (λ (i : Grain). headed_after i (next_of (ends w opens₀)) (next_of (ends w opens₀)) (records_of (ends w opens₀))) j
            ∙ headed-blocks (next_of (ends w opens₀)) (next_of (ends w opens₀)) (records_of (ends w opens₀)) in
            record { low = omega (arith, y, next-v); words = λ p. absurd (grain-not (sym j ∙ p)) }

    along : Along l G D z b'
    unfolding area_board
    along =
        record {
          w = v;
          s = follow k.under.s w (call opens₀);
          way = way';
          ready = t.ready;
          homes = g.homes ∙ k.under.homes;
          copies =
              record {
                log = g.log ∙ end.log ∙ sym t.log;
                area = g.area ∙ end.area ∙ sym t.area;
                state = g.state ∙ end.state ∙ sym t.states;
                newest = g.newest ∙ end.newest ∙ sym t.newests;
                room = rw kept-size k.kept.sized.room;
              };
          book = fed-is ∙ fed-opened b.book state newest batch (made b₁).code (made b₁).figure e ∙ ap (λ (i : Book). with_commits i (all_owed i.commits)) k.under.book ∙ sym t.book;
          landing = ap (λ (i : Control). i.landing) g.control ∙ x.landing ∙ k.kept.landing;
          out = [];
          rest = motions l [] (records_of (ends w opens₀));
          headed = H;
          split = ap (motions l []) pending;
          medium = whole ∙ on-first;
          hands = hands-are;
          ahead = ahead;
          fits = omega (arith, ap (λ (i : Control). i.size) g.control ∙ x.long, end.size, size_low, kept-size, k.kept.sized.room);
          carried = record { front = []; more = records_of (ends w opens₀); split = pending; confirmed = omega (arith, t.passed, k.passed); out = none_out };
        }
      where
        on-first : first w ≡ moved (first v) []
        on-first = (unfold moved in ap (λ (i : Memory). record { lasting = i; written = [] }) (sym t.memory))

        none_out : length (motions l [] []) ≤ 0
        none_out = (unfold motions in omega arith)

        hands-are : Hands l G D (state_of v.state).next (in_hand b') v.log (cursor_of b'.control) (motions l [] (records_of (ends w opens₀))) H
        hands-are =
            let h = runner-moves l G D (next_of (ends w opens₀)) (next_of (ends w opens₀)) (ends w opens₀).log (waiting_after l [] w.pending) (records_of (ends w opens₀))
            (omega (arith, z.low)) z.high z.homes (omega arith) m.fitting
            (subst (λ (i : ℕ). Due l G (ends w opens₀).log (next_of (ends w opens₀)) i (waiting_after l [] w.pending) (records_of (ends w opens₀))) before m.due) in
            rw (in-hand, at_front, ← next-v, t.log) (subst (λ (i : List Motion). Hands l G D (next_of (ends w opens₀)) (batch_bytes (records_of (ends w opens₀))) (ends w opens₀).log (cursor 0 (next_of (ends w opens₀)) 0) (motions l i (records_of (ends w opens₀))) H) none-waits h)

    -- the homes are those after the commits
    area-is : v.area ≡ homes_after D v.book.commits
    unfolding with_commits
    area-is =
        let h = (keeps G D z w k.under.way.standing.invariant (call opens₀) allowed).1 in
        let d : w.homes ≡ D = (closed_of l G D z w k.under.s k.under.way k.ready).homes in
        t.area ∙ h.restored done₀ ∙ ap (λ (i : ℕ). homes_after i w.book.commits) d ∙ sym (owed-homes D w.book.commits)
        ∙ ap (λ (i : Book). homes_after D i.commits) (sym t.book)

    opened : Result
    unfolding area_board along
    opened = (
      follows
          (quiet-follows l G D z b' along (quiet_pass b' (g.turn ∙ o.turn))
          (subst (λ (i : Control). Facts l G D z i v (follow k.under.s w (call opens₀))) (sym g.control)
          (record {
            kind = opening o.stage_is (o.op ∙ k.op) (o.condition-is ∙ k.condition);
            fenced = λ h. absurd (omega (arith, h, o.stage_is));
            area = λ h. area-is;
          }))
          (λ h. absurd (omega (arith, h, ap (λ (i : Control). i.stage) g.control ∙ o.stage_is)))
          (λ p h. omega (arith, h, ap (λ (i : Control). i.stage) g.control ∙ o.stage_is))),
      λ h. absurd (pass-under (subst (λ (i : Turn). is_over i ≡ true) (g.told ∙ o.turn) h)),
    )

  calls : CalledTo b₁.control (made b₁).code (made b₁).figure (made b₁).size (state_of (made b₁).state) (moves_to b₁) → Result
  calls (over x r t q) = absurd (omega (arith, t, ap (λ (i : ℕ). get_or after i 0) stage_is ∙ after_open))
  calls (on x t q) =
      opened x (made b₁).figure
      (q ∙ ap (λ (i : ℕ). machine.moved (with_batch (gone b₁.control (state_of (made b₁).state)) i (made b₁).figure (made b₁).size) pass) (ap (λ (i : ℕ). get_or after i 0) stage_is ∙ after_open))
  calls (room x t q) = absurd (x (t ∙ ap full stage_is ∙ full-open))
  calls (fence x t q) = absurd (omega (arith, t, stage_is))
  calls (refuse figure x q) = refuses figure x q

  pub loaded-goes : (chosen : ℕ → Bool) (n : ℕ)
      → Good l G D z (happens l b (goes chosen) n) × (is_over (happens l b (goes chosen) n).told ≡ true → Tells (happens l b (goes chosen) n))
  loaded-goes chosen n =
      subst (λ (i : Board). Good l G D z i × (is_over i.told ≡ true → Tells i)) (sym (loads-area l b k.turn.0 k.turn.1 chosen n))
      (calls (follows-called b₁ (omega (arith, stage_is))))
