-- A turn with nothing left of the batch in hand: a call of the store, or none.
use Prim.Native.Nat.{ℕ, zero, suc, ◌+◌, ◌*◌, ◌≤◌}
use mathlib.Core.Path.{◌≡◌, refl, sym, ap, ◌∙◌, subst}
use mathlib.Core.Logic.{◌⊎◌, inl, inr}
use mathlib.Core.Bool.{Bool, true, false, not, false≢true}
use mathlib.Core.List.{List, []}
use mathlib.Core.Option.{Option, none, some}
use native.Mathlib.Omega.{arith}
use native.Mathlib.Decide.{dec_le}
use lib.Dec.{eqb}
use lib.ListN.{length, get_or}
use borrow.Author.Tests.{eqb-true, eqb-false}
use Rattle.model.specs.Layout.{home_count}
use Rattle.model.specs.State.{state_of}
use Rattle.model.specs.declared.State.{State}
use Rattle.model.specs.Effects.{Given}
use Rattle.model.specs.Calls.{Outcome, outcome, refused, done as done_call}
use Rattle.model.specs.Book.{Book, Commit, homes_after, owed_by, with_commits, submit}
use Rattle.model.specs.Book as book
use Rattle.model.specs.History.{Call, confirm, flush, call, World, ends, step, feed, feed_change, is_opening, Allowed}
use Rattle.abstract_store.specs.Store.{Store, Reply, reply, reply_of, follow, after_reply, after_done, numbered, fenced_after, next_of, next_group, group_of_first, told}
use Rattle.theorems.proofs.invariant.Invariant.{Sizes}
use Rattle.theorems.proofs.steps.Rows.{row_of, ends-row}
use Rattle.call_ask.specs.Lent.{lent_all}
use Rattle.object.specs.Medium.{Grain}
use Rattle.object_machine.specs.declared.Control.{Control}
use Rattle.object_machine.specs.declared.Turn.{Turn}
use Rattle.object_machine.specs.declared.Moved.{Moved}
use Rattle.object_machine.specs.Control.{ready, with_cursor, with_stage, with_batch, with_condition, with_room}
use Rattle.object_machine.specs.Moves.{done, pass, full, after}
use Rattle.object_machine.specs.Moves as machine
use Rattle.object_machine.specs.Calls.{nothing, room_call}
use Rattle.object_machine.specs.Next.{Lent, given, makes}
use Rattle.object_board.specs.Board.{Board, in_hand, is_over, loads_log, loads_area, call_of, fed_by, call_for, made, made_call, next, AllOwed, Tells}
use Rattle.object_board.proofs.MadeLaws.{SameEnd, Still, Made, unmade, made_by}
use Rattle.object_board.proofs.MadeLaws as makings
use Rattle.object_board.proofs.StepLaws.{front-whole, stepped}
use Rattle.object_board.proofs.Ways.{way-answers, all-owed}
use Rattle.object_board.proofs.Along.{SameCursor, NewBatch, Cursors, Along, Out, all-out, passed-fences, Stayed, stayed, Went, went, went-none}
use Rattle.object_board.proofs.MoveLaws.{CalledTo, over, on, room, fence, no as refuse, UncalledTo, load-log, load-area, opens, ends as ends_all, settles, again, gives_up}
use Rattle.object_board.proofs.Stages.{sync_stage, other_stage, is_other, sync-after, other_after, not-opening, no_call, flush-call, confirm-call, sync-not, other-not, other-op}
use Rattle.object_board.proofs.Turns.{moves_to, Calls, calls-next, made-call, follows-called, follows-uncalled, Stays, over-same, on-new, room-same, stage-same, uncalled-cursors}
use Rattle.object_board.proofs.Follows.{due_of, Kind, idle, other, sync, opening, Quiet, Facts, Follows, quiet-follows}

-- turns for nobody, and answers

pub quiet_pass : (b : Board) → b.turn ≡ pass → Quiet b
unfolding due_of loads_log loads_area pass
quiet_pass b e = record { due = rw e; log = rw e; area = rw e }

pub quiet-done : (b : Board) (code figure : ℕ) → b.turn ≡ done code figure → Quiet b
unfolding due_of loads_log loads_area done
quiet-done b code figure e = record { due = rw e; log = rw e; area = rw e }

pub pass-under : is_over pass ≡ true → ⊥
unfolding is_over pass
pass-under h = false≢true h

pub done-over : (code figure : ℕ) → is_over (done code figure) ≡ false → ⊥
unfolding is_over done
done-over code figure h = false≢true (sym h)

pub done-code : (code figure : ℕ) → (done code figure).code ≡ code
unfolding done
done-code code figure = refl

-- a refused call writes nothing
pub refused-size : (w : World) (c : Call) → ((ends w c).code ≡ 0 → ⊥) → (ends w c).size ≡ 0
refused-size w c n = subst (λ (o : Outcome). (o.code ≡ 0 → ⊥) → o.size ≡ 0) (sym (ends-row w c)) (go (row_of w c).answer) n
  where
    go : (k : ℕ) → ((outcome (row_of w c).given k (row_of w c).effect).code ≡ 0 → ⊥) → (outcome (row_of w c).given k (row_of w c).effect).size ≡ 0
    go zero h = absurd (h (unfold outcome done_call in refl))
    go (suc k) h = (unfold outcome refused in refl)

-- a done flush fences all
flush-fenced : (s : Store) (w : World) (batch : List ℕ) → (ends w (flush batch)).code ≡ 0 → (follow s w (call (flush batch))).fenced ≡ next_of (follow s w (call (flush batch)))
unfolding follow after_reply reply_of after_done numbered fenced_after next_of next_group group_of_first feed feed_change
flush-fenced s w batch e = rw e (go (eqb s.book.filled 0) refl)
  where
    go : (d : Bool) → eqb s.book.filled 0 ≡ d
        → 7 * (s.head + s.groups + (book.flush s.book).rows) ≡ 7 * (s.head + s.groups + (book.flush s.book).rows) + (book.flush s.book).filled
    go true q = (unfold book.flush in rw q (omega (arith, eqb-true s.book.filled 0 q)))
    go false q = (unfold book.flush submit in rw q (omega arith))

some_same : (c d : Call) → some c ≡ some d → c ≡ d
some_same c d e = cc

none-some : (c : Call) → none ≡ some c → ⊥
none-some c e = false≢true (ap is_some e)
  where
    is_some : Option Call → Bool
    is_some none = false
    is_some (some c) = true

call-not-one : (b : Board) → (b.control.stage ≡ 1 → ⊥) → call_for b ≡ 1 → ⊥
unfolding call_for
call-not-one b n = not-opening b.control (state_of b.memory.state) (home_count (length b.memory.area)) n

pub call_none : (b : Board) → 19 ≤ b.control.stage → call_for b ≡ 0
unfolding call_for
call_none b l = no_call b.control (state_of b.memory.state) (home_count (length b.memory.area)) l

call-flush : (b : Board) → b.control.stage ≡ 5 → call_for b ≡ 5
unfolding call_for
call-flush b e = flush-call b.control (state_of b.memory.state) (home_count (length b.memory.area)) e

call-confirm : (b : Board) → b.control.stage ≡ 6 → call_for b ≡ 6
unfolding call_for
call-confirm b e = confirm-call b.control (state_of b.memory.state) (home_count (length b.memory.area)) e

is-flush : (g : Given) (n k : ℕ) → k ≡ 5 → call_of k g n ≡ some (flush g.batch)
unfolding call_of
is-flush g n k e = rw e

is-confirm : (g : Given) (n k : ℕ) → k ≡ 6 → call_of k g n ≡ some confirm
unfolding call_of
is-confirm g n k e = rw e

pub is_none : (g : Given) (n k : ℕ) → k ≡ 0 → call_of k g n ≡ none
unfolding call_of
is_none g n k e = rw e

pub still-none : (g : Given) (n k : ℕ) → k ≡ 0 → Still (makes k g n) g
unfolding makes room_call nothing refused
still-none g n k e = rw e (record { size = refl; log = refl; area = refl; state = refl; newest = refl; batch = refl })

pub record MovesOn (m : Moved) (c : Control) (stage condition : ℕ) (t : Turn) : Type 0 where
  pub stage_is : m.control.stage ≡ stage
  pub condition-is : m.control.condition ≡ condition
  pub op : m.control.op ≡ c.op
  pub turn : m.turn ≡ t

pub stage-of : (m : Moved) (c : Control) (n : ℕ) (t : Turn) → m ≡ machine.moved (with_stage c n) t → MovesOn m c n c.condition t
unfolding machine.moved with_stage
stage-of m c n t e = record { stage_is = rw e; condition-is = rw e; op = rw e; turn = rw e }

rest-of : (m : Moved) (c : Control) (at headed step : ℕ) (t : Turn) → m ≡ machine.moved (with_stage (with_cursor c at headed step) 0) t → MovesOn m c 0 c.condition t
unfolding machine.moved with_stage with_cursor
rest-of m c at headed step t e = record { stage_is = rw e; condition-is = rw e; op = rw e; turn = rw e }

open_of : (m : Moved) (c : Control) (t : Turn) → m ≡ machine.moved (with_condition c ready 0) t → MovesOn m c 0 2 t
unfolding machine.moved with_condition
open_of m c t e = record { stage_is = rw e; condition-is = rw e; op = rw e; turn = rw e }

pub batch-of : (m : Moved) (c : Control) (at headed step n figure size : ℕ) (t : Turn) → m ≡ machine.moved (with_batch (with_cursor c at headed step) n figure size) t
    → MovesOn m c n c.condition t
unfolding machine.moved with_batch with_cursor
batch-of m c at headed step n figure size t e = record { stage_is = rw e; condition-is = rw e; op = rw e; turn = rw e }

room_of : (m : Moved) (c : Control) (n from : ℕ) (t : Turn) → m ≡ machine.moved (with_room c n from) t → MovesOn m c n c.condition t
unfolding machine.moved with_room
room_of m c n from t e = record { stage_is = rw e; condition-is = rw e; op = rw e; turn = rw e }

-- the same operation at another stage
to-other : (m : Moved) (c : Control) (n : ℕ) (t : Turn) → MovesOn m c n c.condition t → other_stage n ≡ true → is_other c.op ≡ true → c.condition ≡ 2 → Kind m.control
to-other m c n t o a b d = other (ap other_stage o.stage_is ∙ a) (ap is_other o.op ∙ b) (o.condition-is ∙ d)

to-sync : (m : Moved) (c : Control) (n : ℕ) (t : Turn) → MovesOn m c n c.condition t → sync_stage n ≡ true → c.op ≡ 5 → c.condition ≡ 2 → Kind m.control
to-sync m c n t o a b d = sync (ap sync_stage o.stage_is ∙ a) (o.op ∙ b) (o.condition-is ∙ d)

five : sync_stage 5 ≡ true
unfolding sync_stage
five = refl

full-sync : full 5 ≡ 18
unfolding full
full-sync = refl

is-six : (n : ℕ) → (n ≡ 6) ⊎ (n ≡ 6 → ⊥)
is-six n = go (eqb n 6) refl
  where
    go : (d : Bool) → eqb n 6 ≡ d → (n ≡ 6) ⊎ (n ≡ 6 → ⊥)
    go true e = inl (eqb-true n 6 e)
    go false e = inr (eqb-false n 6 e)

after-six : get_or after 6 0 ≡ 22
unfolding after
after-six = refl

confirm-told : (w : World) (s : Store) → reply_of (ends w confirm) ≡ reply s confirm
    → ((ends w confirm).size ≡ 0) × ((ends w confirm).figure ≡ s.fenced) × ((ends w confirm).code ≡ 0)
unfolding reply_of reply told
confirm-told w s h = (ap (λ (i : Reply). i.size) h, ap (λ (i : Reply). i.figure) h, ap (λ (i : Reply). i.code) h)

confirm-owes : (b : Book) (code figure mark : ℕ) → code ≡ 0 → figure ≡ mark → AllOwed (owed_by mark b.commits) → AllOwed (fed_by b (some confirm) code figure).commits
unfolding fed_by feed with_commits
confirm-owes b code figure mark e g h = rw (e, g) h

pub given-batch : (m : Lent) (c : Control) → (given m c).batch ≡ m.batch
unfolding given
given-batch m c = refl

pub given-same : (m : Lent) (c : Control) (log area state newest : List ℕ) → m.log ≡ log → m.area ≡ area → m.state ≡ state → m.newest ≡ newest
    → given m c ≡ lent_all log area state newest m.block m.batch c.writer c.home
unfolding given
given-same m c log area state newest e₁ e₂ e₃ e₄ = rw (e₁, e₂, e₃, e₄)

module _ (l : Grain) (G D : ℕ) (z : Sizes G D) (b : Board) (a : Along l G D z b) (e : a.rest ≡ []) (f : Facts l G D z b.control a.w a.s) (n : b.control.stage ≡ 0 → ⊥) where
  abbrev w : World
  w = a.w

  abbrev c : Control
  c = b.control

  abbrev b' : Board
  b' = next b 0

  u : Out l G D z b a
  u = all-out l G D z b a e

  all-at : c.size ≤ c.at
  all-at = let q : length (in_hand b) ≡ c.size = (unfold in_hand in front-whole c.size b.memory.batch a.fits) in omega (arith, u.at, q)

  k : Calls b (next b 0)
  k = calls-next b all-at

  given_is : given b.memory c ≡ lent_all w.log w.area w.state w.newest b.memory.block b.memory.batch c.writer c.home
  given_is = given-same b.memory c w.log w.area w.state w.newest a.copies.log a.copies.area a.copies.state a.copies.newest

  by_kind : Kind c → (c.stage ≡ 1 → ⊥) × (c.stage ≡ 19 → ⊥) × (c.stage ≡ 20 → ⊥)
  by_kind (idle x y) = absurd (n x)
  by_kind (other x y q) = let o = other-not c.stage x in (o.1, o.3, o.4)
  by_kind (sync x y q) = let o = sync-not c.stage x in (o.1, o.2, o.3)
  by_kind (opening x y q) = ((λ h. omega (arith, h, x)), (λ h. omega (arith, h, x)), λ h. omega (arith, h, x))

  makes-which : Made w (given b.memory c) c.number (call_for b)
  makes-which =
      subst (λ (g : Given). Made w g c.number (call_for b)) (sym given_is)
      (made_by w b.memory.block b.memory.batch c.writer c.home c.number (call_for b) (call-not-one b (by_kind f.kind).0))

  abbrev m : Moved
  m = moves_to b

  -- ---- no call

  module _ (none_made : made_call b 0 ≡ none) (q : Still (made b) (given b.memory c)) (x : Cursors c m.control 0 0) (y : Stays c m.control) where
    still-on : Stayed l G D z b b' a u k.homes k.medium (ap (λ (i : Control). i.landing) k.control ∙ y.landing)
    unfolding given fed_by
    still-on =
        stayed l G D z b b' a u k.homes k.medium (ap (λ (i : Control). i.landing) k.control ∙ y.landing)
        (k.log ∙ q.log) (k.area ∙ q.area) (k.state ∙ q.state) (k.newest ∙ q.newest) (k.batch ∙ q.batch)
        (k.book ∙ ap (λ (i : Option Call). fed_by b.book i (made b).code (made b).figure) none_made)
        (subst (λ (i : Control). Cursors c i 0 0) (sym k.control) x)

    still-follows : Kind m.control → (m.control.stage ≡ 6 → a.s.fenced ≡ next_of a.s)
        → (m.control.stage ≡ 21 → ⊥) → Quiet b' → (is_over m.turn ≡ false → m.control.stage ≡ 0 → ⊥) → Follows l G D z b'
    still-follows d h i j o =
        let g = still-on in
        quiet-follows l G D z b' g.along j
        (subst (λ (x : Control). Facts l G D z x g.along.w g.along.s) (sym k.control)
        (record {
          kind = d;
          fenced = λ s. subst (λ (t : Store). t.fenced ≡ next_of t) (sym g.store) (h s);
          area = λ s. absurd (i s);
        }))
        (λ s. g.none)
        (λ p r. o (subst (λ (t : Turn). is_over t ≡ false) k.turn p) (ap (λ (i : Control). i.stage) (sym k.control) ∙ r))

  -- ---- a call

  module _ (d : Call) (some-made : made_call b 0 ≡ some d) (p : is_opening d ≡ false) (q : SameEnd (made b) (ends w d) (length b.memory.batch)) (y : Stays c m.control) where
    abbrev Goes : Type 0
    Goes =
        Went l G D z b b' a u k.homes k.medium (ap (λ (i : Control). i.landing) k.control ∙ y.landing) d p (made b) q k.log k.area k.state k.newest k.batch
        (k.book ∙ ap (λ (i : Option Call). fed_by b.book i (made b).code (made b).figure) some-made)

    goes_by : Cursors c b'.control (made b).size (made b).code → Goes
    goes_by x =
        went l G D z b b' a u k.homes k.medium (ap (λ (i : Control). i.landing) k.control ∙ y.landing) d p (made b) q k.log k.area k.state k.newest k.batch
        (k.book ∙ ap (λ (i : Option Call). fed_by b.book i (made b).code (made b).figure) some-made) x

    rest-none : (x : SameCursor c b'.control) (r : (made b).size ≡ 0) → (goes_by (inl (x, r))).along.rest ≡ []
    unfolding goes_by
    rest-none x r =
        went-none l G D z b b' a u k.homes k.medium (ap (λ (i : Control). i.landing) k.control ∙ y.landing) d p (made b) q k.log k.area k.state k.newest
        k.batch (k.book ∙ ap (λ (i : Option Call). fed_by b.book i (made b).code (made b).figure) some-made) x r

    call-follows : (g : Goes) → Kind m.control → (m.control.stage ≡ 6 → (follow a.s w (call d)).fenced ≡ next_of (follow a.s w (call d)))
        → (m.control.stage ≡ 21 → ⊥) → Quiet b' → (m.control.stage ≡ 0 → g.along.rest ≡ []) → (is_over m.turn ≡ false → m.control.stage ≡ 0 → ⊥)
        → Follows l G D z b'
    call-follows g d₁ h i j r o =
        quiet-follows l G D z b' g.along j
        (subst (λ (x : Control). Facts l G D z x g.along.w g.along.s) (sym k.control)
        (record {
          kind = d₁;
          fenced = λ s. subst (λ (t : Store). t.fenced ≡ next_of t) (sym g.store) (h s);
          area = λ s. absurd (i s);
        }))
        (λ s. r (ap (λ (i : Control). i.stage) (sym k.control) ∙ s))
        (λ p r. o (subst (λ (t : Turn). is_over t ≡ false) k.turn p) (ap (λ (i : Control). i.stage) (sym k.control) ∙ r))

    book-fed : (g : Goes) → b'.book ≡ (step w (call d)).book
    book-fed g = g.along.book ∙ ap (λ (v : World). v.book) g.world

  -- ---- what is told

  -- an operation that is neither an opening nor a sync
  tells-other : is_other c.op ≡ true → Stays c m.control → Tells b'
  tells-other o y =
      let h = other-op c.op o in
      let p : b'.control.op ≡ c.op = ap (λ (i : Control). i.op) k.control ∙ y.op in
      record {
        opened = λ q. absurd (h.2 (sym p ∙ q));
        opening = λ q. absurd (h.2 (sym p ∙ q));
        synced = λ q. absurd (h.1 (sym p ∙ q));
      }

  -- a sync
  tells-sync : c.op ≡ 5 → Stays c m.control → (b'.told.code ≡ 0 → AllOwed b'.book.commits) → Tells b'
  tells-sync o y t =
      let p : b'.control.op ≡ 5 = ap (λ (i : Control). i.op) k.control ∙ y.op ∙ o in
      record {
        opened = λ q. absurd (omega (arith, p, q));
        opening = λ q. absurd (omega (arith, p, q));
        synced = λ q. t;
      }

  told-code : (t : Turn) → m.turn ≡ t → b'.told.code ≡ t.code
  told-code t e = ap (λ (i : Turn). i.code) (k.told ∙ e)

  passing : m.turn ≡ pass → is_over b'.told ≡ true → Tells b'
  passing e h = absurd (pass-under (subst (λ (i : Turn). is_over i ≡ true) (k.told ∙ e) h))

  abbrev Result : Type 0
  Result = Follows l G D z b' × (is_over b'.told ≡ true → Tells b')

  -- ---- stages without a call

  module _ (high : 19 ≤ c.stage) where
    none_made : made_call b 0 ≡ none
    none_made = made-call b all-at ∙ is_none (given b.memory c) c.number (call_for b) (call_none b high)

    still : Still (made b) (given b.memory c)
    unfolding made
    still = still-none (given b.memory c) c.number (call_for b) (call_none b high)

    module _ (x : Cursors c m.control 0 0) (y : Stays c m.control) where
      on-stage : (n : ℕ) → MovesOn m c n c.condition pass → Kind m.control → (n ≡ 6 → ⊥) → (n ≡ 21 → ⊥) → (n ≡ 0 → ⊥) → Result
      on-stage n o d a₁ a₂ a₃ = (
        still-follows none_made still x y d (λ q. absurd (a₁ (sym o.stage_is ∙ q))) (λ q. a₂ (sym o.stage_is ∙ q)) (quiet_pass b' (k.turn ∙ o.turn))
            (λ p q. a₃ (sym o.stage_is ∙ q)),
        passing o.turn,
      )

      at_rest : (code figure i : ℕ) → MovesOn m c 0 i (done code figure) → i ≡ 2 → Tells b' → Result
      at_rest code figure i o j t = (
        still-follows none_made still x y (idle o.stage_is (o.condition-is ∙ j)) (λ q. absurd (omega (arith, o.stage_is, q))) (λ q. omega (arith, o.stage_is, q))
            (quiet-done b' code figure (k.turn ∙ o.turn))
            (λ p q. done-over code figure (subst (λ (i : Turn). is_over i ≡ false) o.turn p)),
        λ h. t,
      )

    book-kept : b'.book ≡ w.book
    unfolding fed_by
    book-kept = k.book ∙ ap (λ (i : Option Call). fed_by b.book i (made b).code (made b).figure) none_made ∙ a.book

    area-kept : b'.memory.area ≡ w.area
    unfolding given
    area-kept = k.area ∙ still.area ∙ a.copies.area

    shows : c.stage ≡ 21 → b'.memory.area ≡ homes_after b'.homes b'.book.commits
    shows s =
        area-kept ∙ f.area s ∙ ap (λ (i : ℕ). homes_after i w.book.commits) (sym (k.homes ∙ a.homes))
        ∙ ap (λ (i : Book). homes_after b'.homes i.commits) (sym book-kept)

    uncalled-result : UncalledTo c (length b.memory.log) (length b.memory.area) m → Result
    uncalled-result (load-log s q) = absurd ((by_kind f.kind).1 s)
    uncalled-result (load-area s q) = absurd ((by_kind f.kind).2 s)
    uncalled-result (opens s q) = go f.kind
      where
        v : Cursors c m.control 0 0 × Stays c m.control
        v = uncalled-cursors c (length b.memory.log) (length b.memory.area) m (opens s q)

        o : MovesOn m c 0 2 (done 0 c.figure)
        o = open_of m c (done 0 c.figure) q

        go : Kind c → Result
        go (idle h i) = absurd (n h)
        go (other h i j) = absurd ((other-not c.stage h).5 s)
        go (sync h i j) = absurd ((sync-not c.stage h).4 s)
        go (opening h i j) =
            at_rest v.0 v.1 0 c.figure 2 o refl
            (record {
              opened = λ p r. shows s;
              opening = λ p. inl (told-code (done 0 c.figure) o.turn ∙ done-code 0 c.figure);
              synced = λ p. absurd (omega (arith, p, i, ap (λ (i : Control). i.op) k.control ∙ v.1.op));
            })
    uncalled-result (ends_all t s q) = go f.kind s
      where
        v : Cursors c m.control 0 0 × Stays c m.control
        v = uncalled-cursors c (length b.memory.log) (length b.memory.area) m (ends_all t s q)

        o : MovesOn m c 0 c.condition (done 0 t)
        o = stage-of m c 0 (done 0 t) q

        go : Kind c → (c.stage ≡ 22) ⊎ (c.stage ≡ 25) → Result
        go (idle h i) x = absurd (n h)
        go (other h i j) x = at_rest v.0 v.1 0 t c.condition o j (tells-other i v.1)
        go (sync h i j) (inl x) = absurd ((sync-not c.stage h).5 x)
        go (sync h i j) (inr x) = absurd ((sync-not c.stage h).6 x)
        go (opening h i j) (inl x) = absurd (omega (arith, h, x))
        go (opening h i j) (inr x) = absurd (omega (arith, h, x))
    uncalled-result (settles s q) = go f.kind
      where
        v : Cursors c m.control 0 0 × Stays c m.control
        v = uncalled-cursors c (length b.memory.log) (length b.memory.area) m (settles s q)

        o : MovesOn m c 11 c.condition pass
        o = stage-of m c 11 pass q

        go : Kind c → Result
        go (idle h i) = absurd (n h)
        go (other h i j) =
            on-stage v.0 v.1 11 o (to-other m c 11 pass o (unfold other_stage in refl) i j) (λ p. omega (arith, p)) (λ p. omega (arith, p)) (λ p. omega (arith, p))
        go (sync h i j) =
            on-stage v.0 v.1 11 o (to-sync m c 11 pass o (unfold sync_stage in refl) i j) (λ p. omega (arith, p)) (λ p. omega (arith, p)) (λ p. omega (arith, p))
        go (opening h i j) = absurd (omega (arith, h, s))
    uncalled-result (again s q) = go f.kind
      where
        v : Cursors c m.control 0 0 × Stays c m.control
        v = uncalled-cursors c (length b.memory.log) (length b.memory.area) m (again s q)

        o : MovesOn m c c.op c.condition pass
        o = stage-of m c c.op pass q

        go : Kind c → Result
        go (idle h i) = absurd (n h)
        go (other h i j) =
            let x = (other-op c.op i).0 in
            let y = other-not c.op x in
            on-stage v.0 v.1 c.op o (to-other m c c.op pass o x i j) y.2 y.5 y.0
        go (sync h i j) =
            on-stage v.0 v.1 c.op o (to-sync m c c.op pass o (ap sync_stage i ∙ five) i j) (λ p. omega (arith, p, i)) (λ p. omega (arith, p, i)) (λ p. omega (arith, p, i))
        go (opening h i j) = absurd (s h)
    uncalled-result (gives_up t s q) = go f.kind
      where
        v : Cursors c m.control 0 0 × Stays c m.control
        v = uncalled-cursors c (length b.memory.log) (length b.memory.area) m (gives_up t s q)

        o : MovesOn m c 0 c.condition (done (full c.op) t)
        o = stage-of m c 0 (done (full c.op) t) q

        go : Kind c → Result
        go (idle h i) = absurd (n h)
        go (other h i j) = at_rest v.0 v.1 (full c.op) t c.condition o j (tells-other i v.1)
        go (sync h i j) =
            at_rest v.0 v.1 (full c.op) t c.condition o j
            (tells-sync i v.1 (λ p. absurd (omega (arith, p, told-code (done (full c.op) t) o.turn ∙ done-code (full c.op) t ∙ ap full i ∙ full-sync))))
        go (opening h i j) = absurd (s h)

  -- ---- stages with a call

  -- what follows whether a call was made or none
  record Ways : Type 0 where
    same : SameCursor c m.control → Stays c m.control → (made b).size ≡ 0 → Kind m.control → (m.control.stage ≡ 6 → ⊥) → (m.control.stage ≡ 21 → ⊥) → Quiet b'
        → (is_over m.turn ≡ false → m.control.stage ≡ 0 → ⊥) → Follows l G D z b'
    new : NewBatch c m.control (made b).size → Stays c m.control → (made b).code ≡ 0 → Kind m.control → (m.control.stage ≡ 6 → c.stage ≡ 5) → (m.control.stage ≡ 21 → ⊥)
        → (m.control.stage ≡ 0 → ⊥) → Quiet b' → (is_over m.turn ≡ false → m.control.stage ≡ 0 → ⊥) → Follows l G D z b'
    owed : c.stage ≡ 6 → (made b).code ≡ 0 → Stays c m.control → SameCursor c m.control → AllOwed b'.book.commits
    refused_none : ((made b).code ≡ 0 → ⊥) → (made b).size ≡ 0
    confirm-none : c.stage ≡ 6 → (made b).size ≡ 0

  which-call : call_of (call_for b) (given b.memory c) c.number ≡ made_call b 0
  which-call = sym (made-call b all-at)

  ways-unmade : call_of (call_for b) (given b.memory c) c.number ≡ none → Still (made b) (given b.memory c) → Ways
  ways-unmade x q =
      let none_made : made_call b 0 ≡ none = sym which-call ∙ x in
      record {
        same = λ s y r d a₁ a₂ j o. still-follows none_made q (inl (s, refl)) y d (λ t. absurd (a₁ t)) a₂ j o;
        new = λ s y r d a₁ a₂ a₃ j o.
            still-follows none_made q (inr (record { size = s.size ∙ q.size; at = s.at; headed = s.headed; step = s.step }, refl)) y d
            (λ t. absurd (none-some _ (sym x ∙ is-flush (given b.memory c) c.number (call_for b) (call-flush b (a₁ t))))) a₂ j o;
        owed = λ s r y t. absurd (none-some _ (sym x ∙ is-confirm (given b.memory c) c.number (call_for b) (call-confirm b s)));
        refused_none = λ s. q.size;
        confirm-none = λ s. q.size;
      }

  ways-made : (d : Call) → call_of (call_for b) (given b.memory c) c.number ≡ some d → is_opening d ≡ false → SameEnd (made b) (ends w d) (length b.memory.batch) → Ways
  ways-made d x p q =
      let some-made : made_call b 0 ≡ some d = sym which-call ∙ x in
      record {
        same = λ s y r e₁ a₁ a₂ j o.
            call-follows d some-made p q y (goes_by d some-made p q y (inl (subst (SameCursor c) (sym k.control) s, r))) e₁ (λ t. absurd (a₁ t)) a₂ j
            (λ t. rest-none d some-made p q y (subst (SameCursor c) (sym k.control) s) r) o;
        new = λ s y r e₁ a₁ a₂ a₃ j o.
            call-follows d some-made p q y (goes_by d some-made p q y (inr (subst (λ (i : Control). NewBatch c i (made b).size) (sym k.control) s, r))) e₁
            (λ t. fenced (a₁ t) r) a₂ j (λ t. absurd (a₃ t)) o;
        owed = λ s r y t. owes s r (book-fed d some-made p q y (goes_by d some-made p q y (inl (subst (SameCursor c) (sym k.control) t, nothing-to s))));
        refused_none = λ s. q.size ∙ refused-size w d (λ t. s (q.code ∙ t));
        confirm-none = nothing-to;
      }
    where
      is-the-flush : c.stage ≡ 5 → d ≡ flush b.memory.batch
      is-the-flush s = some_same d (flush b.memory.batch) (sym x ∙ is-flush (given b.memory c) c.number (call_for b) (call-flush b s) ∙ batch-given)
        where
          batch-given : some (flush (given b.memory c).batch) ≡ some (flush b.memory.batch)
          batch-given = ap (λ (i : List ℕ). some (flush i)) (given-batch b.memory c)

      is-the-confirm : c.stage ≡ 6 → d ≡ confirm
      is-the-confirm s = some_same d confirm (sym x ∙ is-confirm (given b.memory c) c.number (call_for b) (call-confirm b s))

      allowed : Allowed w (call d)
      allowed = p ∙ sym (ap not a.ready)

      fenced : c.stage ≡ 5 → (made b).code ≡ 0 → (follow a.s w (call d)).fenced ≡ next_of (follow a.s w (call d))
      fenced s r =
          subst (λ (i : Call). (ends w i).code ≡ 0 → (follow a.s w (call i)).fenced ≡ next_of (follow a.s w (call i))) (sym (is-the-flush s))
          (flush-fenced a.s w b.memory.batch) (sym q.code ∙ r)

      to-confirm : c.stage ≡ 6 → ((ends w confirm).size ≡ 0) × ((ends w confirm).figure ≡ a.s.fenced) × ((ends w confirm).code ≡ 0)
      to-confirm s = confirm-told w a.s (way-answers G D z w a.s a.way confirm (subst (λ (i : Call). Allowed w (call i)) (is-the-confirm s) allowed))

      nothing-to : c.stage ≡ 6 → (made b).size ≡ 0
      nothing-to s = q.size ∙ ap (λ (i : Call). (ends w i).size) (is-the-confirm s) ∙ (to-confirm s).0

      owes : c.stage ≡ 6 → (made b).code ≡ 0 → b'.book ≡ (step w (call d)).book → AllOwed b'.book.commits
      owes s r h =
          let v : b'.book ≡ (step w (call confirm)).book = h ∙ ap (λ (i : Call). (step w (call i)).book) (is-the-confirm s) in
          let t = (stepped w confirm (subst (λ (i : Call). is_opening i ≡ false) (is-the-confirm s) p) a.ready (passed-fences l G D z w (length a.out) a.carried)).book in
          subst (λ (i : Book). AllOwed i.commits) (sym (v ∙ t))
          (confirm-owes w.book (ends w confirm).code (ends w confirm).figure a.s.fenced (to-confirm s).2 (to-confirm s).1
          (all-owed G D z w a.s a.way a.ready (f.fenced s)))

  rest-condition : Kind c → c.stage ≤ 18 → c.condition ≡ 2
  rest-condition (idle h i) q = i
  rest-condition (other h i j) q = j
  rest-condition (sync h i j) q = j
  rest-condition (opening h i j) q = absurd (omega (arith, h, q))

  module _ (low : c.stage ≤ 18) (ways : Ways) where
    abbrev st : State
    st = state_of (made b).state

    n₁ : c.stage ≡ 1 → ⊥
    n₁ = (by_kind f.kind).0

    -- the operation is over
    resting : (code figure : ℕ) → SameCursor c m.control → Stays c m.control → (made b).size ≡ 0 → MovesOn m c 0 c.condition (done code figure) → Tells b' → Result
    resting code figure x y r o t = (
      ways.same x y r (idle o.stage_is (o.condition-is ∙ rest-condition f.kind low)) (λ q. omega (arith, o.stage_is, q)) (λ q. omega (arith, o.stage_is, q))
          (quiet-done b' code figure (k.turn ∙ o.turn)) (λ p q. done-over code figure (subst (λ (i : Turn). is_over i ≡ false) o.turn p)),
      λ h. t,
    )

    -- it goes on at another stage with nothing new to write
    passing-on : (i : ℕ) → SameCursor c m.control → Stays c m.control → (made b).size ≡ 0 → MovesOn m c i c.condition pass → Kind m.control → (i ≡ 6 → ⊥) → (i ≡ 21 → ⊥)
        → (i ≡ 0 → ⊥) → Result
    passing-on i x y r o d a₁ a₂ a₃ =
        (ways.same x y r d (λ q. a₁ (sym o.stage_is ∙ q)) (λ q. a₂ (sym o.stage_is ∙ q)) (quiet_pass b' (k.turn ∙ o.turn)) (λ p q. a₃ (sym o.stage_is ∙ q)), passing o.turn)

    called-result : CalledTo c (made b).code (made b).figure (made b).size st m → Result
    called-result (over x r t q) = go f.kind
      where
        v : SameCursor c m.control × Stays c m.control
        v = over-same c st n₁ m (done 0 (made b).figure) q

        o : MovesOn m c 0 c.condition (done 0 (made b).figure)
        o = rest-of m c c.at (machine.headed_at c st) c.step (done 0 (made b).figure) q

        go : Kind c → Result
        go (idle h i) = absurd (n h)
        go (other h i j) = resting 0 (made b).figure v.0 v.1 r o (tells-other i v.1)
        go (sync h i j) = resting 0 (made b).figure v.0 v.1 r o (tells-sync i v.1 (λ g. six (is-six c.stage)))
          where
            six : (c.stage ≡ 6) ⊎ (c.stage ≡ 6 → ⊥) → AllOwed b'.book.commits
            six (inl g) = ways.owed g x v.1 v.0
            six (inr g) = absurd ((sync-after c.stage h low g).1 t)
        go (opening h i j) = absurd (omega (arith, h, low))
    called-result (on x t q) = go f.kind
      where
        v : NewBatch c m.control (made b).size × Stays c m.control
        v = on-new c st n₁ m pass (get_or after c.stage 0) (made b).figure (made b).size q

        o : MovesOn m c (get_or after c.stage 0) c.condition pass
        o = batch-of m c c.at (machine.headed_at c st) c.step (get_or after c.stage 0) (made b).figure (made b).size pass q

        going : Kind m.control → (get_or after c.stage 0 ≡ 6 → c.stage ≡ 5) → (get_or after c.stage 0 ≡ 21 → ⊥) → (get_or after c.stage 0 ≡ 0 → ⊥) → Result
        going d a₁ a₂ a₃ = (
          ways.new v.0 v.1 x d (λ g. a₁ (sym o.stage_is ∙ g)) (λ g. a₂ (sym o.stage_is ∙ g)) (λ g. a₃ (sym o.stage_is ∙ g)) (quiet_pass b' (k.turn ∙ o.turn))
              (λ p g. a₃ (sym o.stage_is ∙ g)),
          passing o.turn,
        )

        go : Kind c → Result
        go (idle h i) = absurd (n h)
        go (other h i j) =
            let s = other_after c.stage h low in
            let y = other-not (get_or after c.stage 0) s in
            going (to-other m c (get_or after c.stage 0) pass o s i j) (λ g. absurd (y.2 g)) y.5 y.0
        go (sync h i j) = six (is-six c.stage)
          where
            six : (c.stage ≡ 6) ⊎ (c.stage ≡ 6 → ⊥) → Result
            six (inl g) = absurd (t (ap (λ (r : ℕ). get_or after r 0) g ∙ after-six) (ways.confirm-none g))
            six (inr g) =
                let s = sync-after c.stage h low g in
                let y = sync-not (get_or after c.stage 0) s.0 in
                going (to-sync m c (get_or after c.stage 0) pass o s.0 i j) s.2 y.4 y.0
        go (opening h i j) = absurd (omega (arith, h, low))
    called-result (room x t q) = go f.kind
      where
        v : SameCursor c m.control × Stays c m.control
        v = room-same c st n₁ m pass 7 st.start q

        o : MovesOn m c 7 c.condition pass
        o = room_of m c 7 st.start pass q

        go : Kind c → Result
        go (idle h i) = absurd (n h)
        go (other h i j) =
            passing-on 7 v.0 v.1 (ways.refused_none x) o (to-other m c 7 pass o (unfold other_stage in refl) i j) (λ p. omega (arith, p)) (λ p. omega (arith, p)) (λ p. omega (arith, p))
        go (sync h i j) =
            passing-on 7 v.0 v.1 (ways.refused_none x) o (to-sync m c 7 pass o (unfold sync_stage in refl) i j) (λ p. omega (arith, p)) (λ p. omega (arith, p)) (λ p. omega (arith, p))
        go (opening h i j) = absurd (omega (arith, h, low))
    called-result (fence x t q) = go f.kind
      where
        v : SameCursor c m.control × Stays c m.control
        v = stage-same c st n₁ m pass 8 q

        o : MovesOn m c 8 c.condition pass
        o = stage-of m c 8 pass q

        go : Kind c → Result
        go (idle h i) = absurd (n h)
        go (other h i j) =
            passing-on 8 v.0 v.1 (ways.refused_none x) o (to-other m c 8 pass o (unfold other_stage in refl) i j) (λ p. omega (arith, p)) (λ p. omega (arith, p)) (λ p. omega (arith, p))
        go (sync h i j) =
            passing-on 8 v.0 v.1 (ways.refused_none x) o (to-sync m c 8 pass o (unfold sync_stage in refl) i j) (λ p. omega (arith, p)) (λ p. omega (arith, p)) (λ p. omega (arith, p))
        go (opening h i j) = absurd (omega (arith, h, low))
    called-result (refuse figure x q) = go f.kind
      where
        v : SameCursor c m.control × Stays c m.control
        v = stage-same c st n₁ m (done (made b).code figure) 0 q

        o : MovesOn m c 0 c.condition (done (made b).code figure)
        o = stage-of m c 0 (done (made b).code figure) q

        go : Kind c → Result
        go (idle h i) = absurd (n h)
        go (other h i j) = resting (made b).code figure v.0 v.1 (ways.refused_none x) o (tells-other i v.1)
        go (sync h i j) =
            resting (made b).code figure v.0 v.1 (ways.refused_none x) o
            (tells-sync i v.1 (λ g. absurd (x (sym (told-code (done (made b).code figure) o.turn ∙ done-code (made b).code figure) ∙ g))))
        go (opening h i j) = absurd (omega (arith, h, low))

  -- ---- either

  pub calling-next : Result
  calling-next = go (dec_le c.stage 18)
    where
      by-made : Made w (given b.memory c) c.number (call_for b) → Ways
      by-made (unmade x q) = ways-unmade x (unfold made in q)
      by-made (makings.made d x p q) = ways-made d x p (subst (SameEnd (made b) (ends w d)) (ap length (given-batch b.memory c)) (unfold made in q))

      go : Dec (c.stage ≤ 18) → Result
      go (yes h) = called-result h (by-made makes-which) (follows-called b h)
      go (no h) = uncalled-result (omega arith) (follows-uncalled b (omega arith))
