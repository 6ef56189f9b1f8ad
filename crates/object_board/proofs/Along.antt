-- A board in good condition and the world of its bare calls: copies, book and medium agree, and what is left of the batch in hand are the motions to come.
use Prim.Native.Nat.{ℕ, zero, suc, ◌+◌, ◌*◌, ◌/◌, ◌≤◌}
use mathlib.Core.Path.{◌≡◌, refl, sym, ap, ◌∙◌, subst}
use mathlib.Core.Logic.{◌⊎◌, inl, inr}
use mathlib.Core.Bool.{Bool, true, false, not, false≢true}
use mathlib.Core.List.{List, [], ◌∷◌, ◌++◌, append-nil}
use mathlib.Core.Option.{some}
use native.Mathlib.Omega.{arith}
use lib.ListN.{length, take}
use Rattle.model.specs.Bytes.{part}
use Rattle.model.specs.Batch.{Record, GW, HW, KW, FN, batch_bytes, read_batch, read_records}
use Rattle.model.specs.State.{state_of}
use Rattle.model.specs.Calls.{Outcome, size_of, done as done_call}
use Rattle.model.specs.Crash.{Memory, fences}
use Rattle.model.specs.History.{Call, call, World, ends, step, is_opening, Allowed}
use Rattle.abstract_store.specs.Store.{Store, follow}
use Rattle.model_laws.proofs.trace.CrashLaws.{fences-append}
use Rattle.theorems.proofs.invariant.Invariant.{Sizes}
use Rattle.theorems.proofs.steps.RefusalLaws.{step-refused}
use Rattle.theorems.proofs.steps.Rows.{row_of, ends-row, row-answer, row_done}
use Rattle.object_runner.proofs.CallWrites.{call-wrote}
use Rattle.object.specs.Medium.{Grain, words, blocks, Medium}
use Rattle.object.specs.Order.{Motion, motions, moved}
use Rattle.object.specs.Runner.{Carried}
use Rattle.object_runner.specs.declared.Cursor.{Cursor}
use Rattle.object_runner.specs.Next.{cursor}
use Rattle.object_runner.specs.Moves.{landing_of, headed_at, headed_after, waiting_after, Due, Hands}
use Rattle.object_runner.specs.Always.{batch_of, records_of, next_of, headed_before, BatchDue}
use Rattle.object_runner.proofs.MovesHold.{runner-moves}
use Rattle.object_runner.proofs.GoesOnHolds.{blocks-due, motions-go-on}
use Rattle.object_runner.proofs.WaitingLaws.{waiting-blocks}
use Rattle.object_runner.proofs.DueHolds.{call-due}
use Rattle.object_runner.proofs.DueSteps.{headed-next}
use Rattle.object_machine.specs.declared.Control.{Control}
use Rattle.object_machine.specs.Next.{Lent}
use Rattle.object_board.specs.Board.{Board, in_hand, fed_by}
use Rattle.object_board.proofs.HandLaws.{end-hands, hands_end, hands-few}
use Rattle.object_board.proofs.MadeLaws.{SameEnd, outcome-room}
use Rattle.object_board.proofs.StepLaws.{Stepped, stepped, next_grows, front_long, front-is}
use Rattle.object_board.proofs.Ways.{Way, way-call, way-running}

abbrev pub cursor_of : Control → Cursor
cursor_of c = cursor c.at c.headed c.step

abbrev pub first : World → Medium
first w = record { lasting = w.memory; written = [] }

-- the control block goes on with the same cursor, or with a new batch
pub record SameCursor (c c' : Control) : Type 0 where
  pub size : c'.size ≡ c.size
  pub at : c'.at ≡ c.at
  pub headed : c'.headed ≡ c.headed
  pub step : c'.step ≡ c.step

pub record NewBatch (c c' : Control) (long : ℕ) : Type 0 where
  pub size : c'.size ≡ long
  pub at : c'.at ≡ 0
  pub headed : c'.headed ≡ c.headed
  pub step : c'.step ≡ 0

abbrev pub Cursors : Control → Control → ℕ → ℕ → Type 0
Cursors c c' size code = (SameCursor c c' × (size ≡ 0)) ⊎ (NewBatch c c' size × (code ≡ 0))

pub headed-blocks : (headed next : ℕ) (rs : List Record) → headed_after blocks headed next rs ≡ headed
unfolding headed_after headed_at
headed-blocks headed next [] = refl
headed-blocks headed next (GW slot group ∷ rs) = headed-blocks headed next rs
headed-blocks headed next (HW home block ∷ rs) = headed-blocks headed next rs
headed-blocks headed next (KW header ∷ rs) = headed-blocks headed next rs
headed-blocks headed next (FN ∷ rs) = headed-blocks headed next rs

unfoldable is_words : Grain → Bool
is_words words = true
is_words blocks = false

pub grain-not : blocks ≡ words → ⊥
unfolding is_words
grain-not e = false≢true (ap is_words e)

module _ (l : Grain) (G D : ℕ) (z : Sizes G D) where
  -- lent memory as the world has it
  pub record Copies (m : Lent) (w : World) : Type 0 where
    pub log : m.log ≡ w.log
    pub area : m.area ≡ w.area
    pub state : m.state ≡ w.state
    pub newest : m.newest ≡ w.newest
    pub room : 72 + 516 * G + 68 * D ≤ length m.batch

  -- from which group on first words are to be written
  pub record Ahead (w : World) (n : ℕ) : Type 0 where
    pub low : n ≤ (state_of w.state).next
    pub words : l ≡ words → n ≡ (state_of w.state).fenced / 7

  -- what is behind the board but the turn
  pub record Along (b : Board) : Type 0 where
    pub w : World
    pub s : Store
    pub way : Way G D z w s
    pub ready : w.ready ≡ true
    pub homes : b.homes ≡ D
    pub copies : Copies b.memory w
    pub book : b.book ≡ w.book
    pub landing : b.control.landing ≡ landing_of l
    pub out : List Motion
    pub rest : List Motion
    pub headed : ℕ
    pub split : motions l [] w.pending ≡ out ++ rest
    pub medium : b.medium ≡ moved (first w) out
    pub hands : Hands l G D (state_of w.state).next (in_hand b) w.log (cursor_of b.control) rest headed
    pub ahead : Ahead w headed
    pub fits : b.control.size ≤ length b.memory.batch
    pub carried : Carried l w (length out)

  -- all of the batch is out
  pub record Out (b : Board) (a : Along b) : Type 0 where
    pub none : a.rest ≡ []
    pub at : b.control.at ≡ length (in_hand b)
    pub headed : b.control.headed ≡ a.headed
    pub few : b.control.step ≤ 2
    pub all : a.out ≡ motions l [] a.w.pending

  pub all-out : (b : Board) (a : Along b) → a.rest ≡ [] → Out b a
  all-out b a e =
      let h : Hands l G D (state_of a.w.state).next (in_hand b) a.w.log (cursor_of b.control) [] a.headed =
      subst (λ (ms : List Motion). Hands l G D (state_of a.w.state).next (in_hand b) a.w.log (cursor_of b.control) ms a.headed) e a.hands in
      record {
        none = e;
        at = hands_end l G D (state_of a.w.state).next (omega (arith, z.low)) z.high (in_hand b) a.w.log (cursor_of b.control) a.headed h;
        headed = h.1;
        few = hands-few l G D (state_of a.w.state).next (omega (arith, z.low)) z.high (in_hand b) a.w.log (cursor_of b.control) [] a.headed h;
        all = sym (a.split ∙ ap (λ (x : List Motion). a.out ++ x) e ∙ append-nil a.out);
      }

  -- where all is out, all fences so far are carried out
  all-carried : (w v : World) (rs : List Record) (out : List Motion) → Carried l w (length out) → out ≡ motions l [] w.pending
      → v.pending ≡ w.pending ++ rs → v.passed ≤ fences w.pending → Carried l v (length out)
  all-carried w v rs out k e p q =
      record { front = w.pending; more = rs; split = p; confirmed = q; out = rw e (omega arith) }

  pub passed-fences : (w : World) (many : ℕ) → Carried l w many → w.passed ≤ fences w.pending
  passed-fences w many k = omega (arith, k.confirmed, ap fences k.split, fences-append k.front k.more)

  -- ---- a call is made when all is out

  module _ (b b' : Board) (a : Along b) (u : Out b a) (homes : b'.homes ≡ b.homes) (medium : b'.medium ≡ b.medium) (landing : b'.control.landing ≡ b.control.landing) where
    -- none: the world stays
    pub unmade-along : b'.memory.log ≡ b.memory.log → b'.memory.area ≡ b.memory.area → b'.memory.state ≡ b.memory.state
        → b'.memory.newest ≡ b.memory.newest → b'.memory.batch ≡ b.memory.batch → b'.book ≡ b.book → Cursors b.control b'.control 0 0 → Along b'
    unmade-along e₁ e₂ e₃ e₄ e₅ e₆ k =
        let c = a.copies in
        let at : (b'.control.at ≡ length (in_hand b')) × (b'.control.headed ≡ b.control.headed) × (b'.control.step ≤ 2) × (b'.control.size ≤ length b'.memory.batch) = go k in
        record {
          w = a.w;
          s = a.s;
          way = a.way;
          ready = a.ready;
          homes = homes ∙ a.homes;
          copies = record { log = e₁ ∙ c.log; area = e₂ ∙ c.area; state = e₃ ∙ c.state; newest = e₄ ∙ c.newest; room = rw e₅ c.room };
          book = e₆ ∙ a.book;
          landing = landing ∙ a.landing;
          out = a.out;
          rest = [];
          headed = b'.control.headed;
          split = sym u.all ∙ sym (append-nil a.out);
          medium = medium ∙ a.medium;
          hands =
              end-hands l G D (state_of a.w.state).next (omega (arith, z.low)) z.high (in_hand b') a.w.log (cursor_of b'.control) at.0
              (omega (arith, at.1, u.headed, a.ahead.low)) at.2;
          ahead = record { low = omega (arith, at.1, u.headed, a.ahead.low); words = λ q. at.1 ∙ u.headed ∙ a.ahead.words q };
          fits = at.3;
          carried = a.carried;
        }
      where
        go : Cursors b.control b'.control 0 0
            → (b'.control.at ≡ length (in_hand b')) × (b'.control.headed ≡ b.control.headed) × (b'.control.step ≤ 2) × (b'.control.size ≤ length b'.memory.batch)
        go (inl k) = (
          k.0.at ∙ u.at ∙ (unfold in_hand in rw (k.0.size, e₅)),
          k.0.headed,
          omega (arith, k.0.step, u.few),
          omega (arith, k.0.size, ap length e₅, a.fits),
        )
        go (inr k) = (k.0.at ∙ (unfold in_hand part in rw k.0.size), k.0.headed, omega (arith, k.0.step), omega (arith, k.0.size))

    pub record Stayed : Type 0 where
      pub along : Along b'
      pub world : along.w ≡ a.w
      pub store : along.s ≡ a.s
      pub none : along.rest ≡ []

    pub stayed : b'.memory.log ≡ b.memory.log → b'.memory.area ≡ b.memory.area → b'.memory.state ≡ b.memory.state
        → b'.memory.newest ≡ b.memory.newest → b'.memory.batch ≡ b.memory.batch → b'.book ≡ b.book → Cursors b.control b'.control 0 0 → Stayed
    unfolding unmade-along
    stayed e₁ e₂ e₃ e₄ e₅ e₆ k = record { along = unmade-along e₁ e₂ e₃ e₄ e₅ e₆ k; world = refl; store = refl; none = refl }

    -- one: the world goes on by it
    module _ (c : Call) (n : is_opening c ≡ false) (o : Outcome) (e : SameEnd o (ends a.w c) (length b.memory.batch)) (log : b'.memory.log ≡ o.log) (area : b'.memory.area ≡ o.area) (state : b'.memory.state ≡ o.state) (newest : b'.memory.newest ≡ o.newest) (batch : b'.memory.batch ≡ o.batch) (book : b'.book ≡ fed_by b.book (some c) o.code o.figure) where
      abbrev w : World
      w = a.w

      abbrev v : World
      v = step a.w (call c)

      allowed : Allowed w (call c)
      allowed = n ∙ sym (ap not a.ready)

      t : Stepped w c v (ends w c).code
      t = stepped w c n a.ready (passed-fences w (length a.out) a.carried)

      way' : Way G D z v (follow a.s w (call c))
      way' = way-call G D z w a.s a.way c allowed

      grows : (state_of w.state).next ≤ (state_of v.state).next
      grows =
          next_grows G D w v (way-running G D z w a.s a.way a.ready) (way-running G D z v (follow a.s w (call c)) way' t.ready) (records_of (ends w c))
          t.memory t.pending

      copies' : Copies b'.memory v
      copies' =
          record {
            log = log ∙ e.log ∙ sym t.log;
            area = area ∙ e.area ∙ sym t.area;
            state = state ∙ e.state ∙ sym t.state;
            newest = newest ∙ e.newest ∙ sym t.newest;
            room = rw (batch, e.room) a.copies.room;
          }

      book' : b'.book ≡ v.book
      book' = book ∙ rw (a.book, e.code, e.figure) (sym t.book)

      carried' : Carried l v (length a.out)
      carried' = all-carried w v (records_of (ends w c)) a.out a.carried u.all t.pending t.passed

      -- nothing to write
      quiet : records_of (ends w c) ≡ [] → b'.control.at ≡ length (in_hand b') → b'.control.headed ≡ b.control.headed → b'.control.step ≤ 2 → b'.control.size ≤ length b'.memory.batch
          → (l ≡ words → (state_of v.state).fenced / 7 ≡ (state_of w.state).fenced / 7) → Along b'
      quiet empty at same few fits fenced =
          record {
            w = v;
            s = follow a.s w (call c);
            way = way';
            ready = t.ready;
            homes = homes ∙ a.homes;
            copies = copies';
            book = book';
            landing = landing ∙ a.landing;
            out = a.out;
            rest = [];
            headed = b'.control.headed;
            split = ap (motions l []) (t.pending ∙ ap (λ (x : List Record). w.pending ++ x) empty ∙ append-nil w.pending) ∙ sym u.all ∙ sym (append-nil a.out);
            medium = medium ∙ a.medium ∙ ap (λ (x : Memory). moved (record { lasting = x; written = [] }) a.out) (sym t.memory);
            hands =
                end-hands l G D (state_of v.state).next (omega (arith, z.low)) z.high (in_hand b') v.log (cursor_of b'.control) at
                (omega (arith, same, u.headed, a.ahead.low, grows)) few;
            ahead =
                record {
                  low = omega (arith, same, u.headed, a.ahead.low, grows);
                  words = λ q. same ∙ u.headed ∙ a.ahead.words q ∙ sym (fenced q);
                };
            fits = fits;
            carried = carried';
          }

      -- a batch to write
      module _ (done : (ends w c).code ≡ 0) (k : NewBatch b.control b'.control o.size) where
        m : BatchDue l G D w c
        m = (call-due G D z w a.way.standing.invariant a.way.waits c allowed done).due l

        next-v : next_of (ends w c) ≡ (state_of v.state).next
        next-v = unfold next_of in ap (λ (x : List ℕ). (state_of x).next) (sym t.state)

        before : headed_before w c ≡ (state_of w.state).fenced / 7
        before = unfold headed_before in rw n

        low : b.control.headed ≤ next_of (ends w c)
        low = omega (arith, u.headed, a.ahead.low, grows, next-v)

        by-grain : (g : Grain) → l ≡ g
            → Due l G (ends w c).log (next_of (ends w c)) b.control.headed (waiting_after l [] w.pending) (records_of (ends w c))
            × (l ≡ words → headed_after l b.control.headed (next_of (ends w c)) (records_of (ends w c)) ≡ (state_of v.state).fenced / 7)
            × (headed_after l b.control.headed (next_of (ends w c)) (records_of (ends w c)) ≤ (state_of v.state).next)
        by-grain words q =
            let h : b.control.headed ≡ headed_before w c = u.headed ∙ a.ahead.words q ∙ sym before in
            let x : headed_after l b.control.headed (next_of (ends w c)) (records_of (ends w c)) ≡ (state_of v.state).fenced / 7 =
            ap (λ (i : ℕ). headed_after l i (next_of (ends w c)) (records_of (ends w c))) h
            ∙ ap (λ (i : Grain). headed_after i (headed_before w c) (next_of (ends w c)) (records_of (ends w c))) q ∙ m.headed
            ∙ ap (λ (y : List ℕ). (state_of y).fenced / 7) (sym t.state) in
            (subst (λ (i : ℕ). Due l G (ends w c).log (next_of (ends w c)) i (waiting_after l [] w.pending) (records_of (ends w c))) (sym h) m.due, (λ y. x), omega (arith, x, headed-next G D v (way-running G D z v (follow a.s w (call c)) way' t.ready)))
        by-grain blocks q = (
          subst (λ (i : Grain). Due i G (ends w c).log (next_of (ends w c)) b.control.headed (waiting_after i [] w.pending) (records_of (ends w c))) (sym q)
              (subst (λ (x : List Motion). Due blocks G (ends w c).log (next_of (ends w c)) b.control.headed x (records_of (ends w c))) (sym (waiting-blocks w.pending))
              (blocks-due G (next_of (ends w c)) b.control.headed (ends w c).log (records_of (ends w c)))),
          (λ y. absurd (grain-not (sym q ∙ y))),
          omega (arith, low, next-v, ap (λ (i : Grain). headed_after i b.control.headed (next_of (ends w c)) (records_of (ends w c))) q, headed-blocks b.control.headed (next_of (ends w c)) (records_of (ends w c))),
        )

        front : part b'.memory.batch 0 b'.control.size ≡ take o.size o.batch
        front = ap (λ (x : List ℕ). part x 0 b'.control.size) batch ∙ ap (λ (x : ℕ). part o.batch 0 x) k.size ∙ front-is o.size o.batch

        taken : take (ends w c).size (ends w c).batch ≡ batch_bytes (records_of (ends w c))
        taken = unfold batch_of in m.bytes

        in-hand : in_hand b' ≡ batch_bytes (records_of (ends w c))
        in-hand = unfold in_hand in (front ∙ e.bytes ∙ taken)

        at_front : cursor_of b'.control ≡ cursor 0 b.control.headed 0
        at_front = rw (k.at, k.headed, k.step)

        size_is : (ends w c).size ≡ size_of (row_of w c).effect
        size_is = ap (λ (x : Outcome). x.size) (row_done w c done) ∙ (unfold done_call size_of in refl)

        long-is : length (ends w c).batch ≡ length (row_of w c).given.batch
        long-is = ap (λ (x : Outcome). length x.batch) (ends-row w c) ∙ outcome-room (row_of w c).given (row_of w c).answer (row_of w c).effect

        fits : b'.control.size ≤ length b'.memory.batch
        fits =
            let x = (call-wrote G D z w (way-running G D z w a.s a.way a.ready) c n (row-answer w c done)).fit in
            omega (arith, k.size, e.size, size_is, long-is, x, e.within, e.room, ap length batch)

        loud : Along b'
        loud =
            let g = by-grain l refl in
            let rs : List Record = records_of (ends w c) in
            let h = runner-moves l G D (next_of (ends w c)) b.control.headed (ends w c).log (waiting_after l [] w.pending) rs (omega (arith, z.low)) z.high z.homes low m.fitting g.0 in
            record {
              w = v;
              s = follow a.s w (call c);
              way = way';
              ready = t.ready;
              homes = homes ∙ a.homes;
              copies = copies';
              book = book';
              landing = landing ∙ a.landing;
              out = a.out;
              rest = motions l (waiting_after l [] w.pending) rs;
              headed = headed_after l b.control.headed (next_of (ends w c)) rs;
              split = ap (motions l []) t.pending ∙ motions-go-on l w.pending rs ∙ ap (λ (x : List Motion). x ++ motions l (waiting_after l [] w.pending) rs) (sym u.all);
              medium = medium ∙ a.medium ∙ ap (λ (x : Memory). moved (record { lasting = x; written = [] }) a.out) (sym t.memory);
              hands = rw (in-hand, at_front, ← next-v, t.log) h;
              ahead = record { low = g.2; words = g.1 };
              fits = fits;
              carried = carried';
            }

      no-records : (p : Outcome) → p.size ≡ 0 → records_of p ≡ []
      unfolding records_of batch_of read_batch read_records
      no-records p q = rw q

      same-long : b'.control.size ≡ b.control.size → length (in_hand b) ≡ length (in_hand b')
      unfolding in_hand
      same-long k =
          let q : length b.memory.batch ≡ length b'.memory.batch = sym (ap length batch ∙ e.room) in
          front_long b.control.size b.memory.batch b'.memory.batch q ∙ ap (λ (x : ℕ). length (part b'.memory.batch 0 x)) (sym k)

      empty-headed : (h n : ℕ) (rs : List Record) → rs ≡ [] → headed_after words h n rs ≡ h
      unfolding headed_after
      empty-headed h n rs q = rw q

      headed-era : headed_before w c ≡ (state_of w.state).fenced / 7
      unfolding headed_before
      headed-era = rw n

      -- either
      pub made-along : Cursors b.control b'.control o.size o.code → Along b'
      made-along (inl k) =
          let empty : records_of (ends w c) ≡ [] = no-records (ends w c) (sym e.size ∙ k.1) in
          quiet empty (k.0.at ∙ u.at ∙ same-long k.0.size) k.0.headed (omega (arith, k.0.step, u.few)) (omega (arith, k.0.size, a.fits, ap length batch, e.room))
          (λ q. fence-stays empty (ends w c).code refl)
        where
          fence-stays : records_of (ends w c) ≡ [] → (i : ℕ) → (ends w c).code ≡ i → (state_of v.state).fenced / 7 ≡ (state_of w.state).fenced / 7
          fence-stays empty zero h =
              let d = ((call-due G D z w a.way.standing.invariant a.way.waits c allowed h).due words).headed in
              let f : (state_of v.state).fenced / 7 ≡ headed_after words (headed_before w c) (next_of (ends w c)) (records_of (ends w c)) =
              ap (λ (y : List ℕ). (state_of y).fenced / 7) t.state ∙ sym d in
              f ∙ empty-headed (headed_before w c) (next_of (ends w c)) (records_of (ends w c)) empty ∙ headed-era
          fence-stays empty (suc i) h = ap (λ (x : World). (state_of x.state).fenced / 7) (step-refused w c i h)
      made-along (inr k) = loud (sym e.code ∙ k.1) k.0

      pub record Went : Type 0 where
        pub along : Along b'
        pub world : along.w ≡ step a.w (call c)
        pub store : along.s ≡ follow a.s a.w (call c)

      pub went : Cursors b.control b'.control o.size o.code → Went
      unfolding made-along quiet loud
      went (inl k) = record { along = made-along (inl k); world = refl; store = refl }
      went (inr k) = record { along = made-along (inr k); world = refl; store = refl }

      pub went-none : (k : SameCursor b.control b'.control) (q : o.size ≡ 0) → (went (inl (k, q))).along.rest ≡ []
      unfolding went made-along quiet
      went-none k q = refl
