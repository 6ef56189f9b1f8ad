-- The loads of an opening.
use Prim.Native.Nat.{ℕ, ◌≤◌}
use mathlib.Core.Path.{◌≡◌, refl, sym, ap, ◌∙◌, subst}
use mathlib.Core.Logic.{inl, inr}
use mathlib.Core.Bool.{Bool, true, false, false≢true}
use mathlib.Core.List.{List, []}
use mathlib.Core.Option.{Option, none}
use native.Mathlib.Omega.{arith}
use lib.ListN.{length}
use Rattle.model.specs.History.{Call, World}
use Rattle.abstract_store.specs.Store.{Store}
use Rattle.theorems.proofs.invariant.Invariant.{Sizes, Closed, Invariant}
use Rattle.object.specs.Medium.{Grain, Medium, loses}
use Rattle.object.specs.Order.{Motion, moved}
use Rattle.object_machine.specs.declared.Control.{Control}
use Rattle.object_machine.specs.declared.Turn.{Turn}
use Rattle.object_machine.specs.declared.Moved.{Moved}
use Rattle.object_machine.specs.Control.{with_stage}
use Rattle.object_machine.specs.Moves.{done, load, pass}
use Rattle.object_machine.specs.Moves as machine
use Rattle.object_machine.specs.Next.{Lent, lent_to, given}
use Rattle.object_board.specs.Board.{Board, goes, is_over, loads_log, loads_area, carried, copied, keeps, goes_further, cut_to, fed_by, made, made_call, call_for, next, with_medium, happens}
use Rattle.object_board.proofs.MadeLaws.{Still}
use Rattle.object_board.proofs.Ways.{Way}
use Rattle.object_board.proofs.Follows.{due_of, ahead_of}
use Rattle.object_board.proofs.Calling.{call_none, is_none, still-none}
use Rattle.object_board.proofs.Turns.{moves_to, calls-next, made-call, moves-log, moves-area}
use Rattle.object_board.proofs.Good.{Sized, loads, Behind, Good, behind, loaded, under-like}
use Rattle.object_board.proofs.Happens.{Losing, lost-under, load-none}

-- a board whose log has been loaded
unfoldable pub lost_board : Grain → Board → (ℕ → Bool) → ℕ → Board
lost_board l b chosen n =
    let m : Lent = b.memory in
    record {
      homes = b.homes;
      control = b.control;
      memory = lent_to (loses l chosen b.medium).lasting.log m.area m.state m.newest m.block m.batch;
      turn = b.turn;
      told = b.told;
      shown = b.shown;
      medium = loses l chosen b.medium;
      book = cut_to n b.book;
    }

-- what a stage without a call leaves
record Passed (b b' : Board) : Type 0 where
  homes : b'.homes ≡ b.homes
  medium : b'.medium ≡ b.medium
  book : b'.book ≡ b.book
  log : b'.memory.log ≡ b.memory.log
  area : b'.memory.area ≡ b.memory.area
  state : b'.memory.state ≡ b.memory.state
  newest : b'.memory.newest ≡ b.memory.newest
  batch : b'.memory.batch ≡ b.memory.batch

passed-by : (b : Board) → b.control.size ≤ b.control.at → 19 ≤ b.control.stage → Passed b (next b 0)
unfolding made given fed_by
passed-by b l h =
    let k = calls-next b l in
    let q : Still (made b) (given b.memory b.control) = still-none (given b.memory b.control) b.control.number (call_for b) (call_none b h) in
    let e : made_call b 0 ≡ none = made-call b l ∙ is_none (given b.memory b.control) b.control.number (call_for b) (call_none b h) in
    record {
      homes = k.homes;
      medium = k.medium;
      book = k.book ∙ ap (λ (i : Option Call). fed_by b.book i (made b).code (made b).figure) e;
      log = k.log ∙ q.log;
      area = k.area ∙ q.area;
      state = k.state ∙ q.state;
      newest = k.newest ∙ q.newest;
      batch = k.batch ∙ q.batch;
    }

pub pass-quiet : (b : Board) → b.turn ≡ pass → (due_of b ≡ []) × (loads_log b.turn ≡ false) × (loads_area b.turn ≡ false)
unfolding due_of loads_log loads_area pass
pass-quiet b e = (rw e, rw e, rw e)

load_is : (area n : ℕ) → (is_over (load area n) ≡ false)
unfolding is_over load
load_is area n = refl

module _ (l : Grain) (G D : ℕ) (z : Sizes G D) where
  sized-by : (b b' : Board) → Passed b b' → Sized l G D z b.memory → Sized l G D z b'.memory
  sized-by b b' p s =
      record {
        state = ap length p.state ∙ s.state;
        newest = ap length p.newest ∙ s.newest;
        log = ap length p.log ∙ s.log;
        area = ap length p.area ∙ s.area;
        room = rw p.batch s.room;
      }

  none-moved : (m : Medium) (ms : List Motion) → ms ≡ [] → moved m ms ≡ m
  unfolding moved
  none-moved m ms e = rw e

  landing-of : (c c' : Control) (n : ℕ) → c' ≡ with_stage c n
      → (c'.landing ≡ c.landing) × (c'.size ≡ c.size) × (c'.at ≡ c.at) × (c'.condition ≡ c.condition) × (c'.op ≡ c.op) × (c'.stage ≡ n)
  unfolding with_stage
  landing-of c c' n e = (rw e, rw e, rw e, rw e, rw e, rw e)

  control-of : (m : Moved) (c : Control) (t : Turn) → m ≡ machine.moved c t → (m.control ≡ c) × (m.turn ≡ t)
  unfolding machine.moved
  control-of m c t e = (rw e, rw e)

  -- the opening asks for the log
  pub asked-goes : (b : Board) (k : Behind l G D z b) → b.control.stage ≡ 19 → b.control.op ≡ 19 → b.turn ≡ pass → (chosen : ℕ → Bool) (n : ℕ)
      → Good l G D z (happens l b (goes chosen) n) × (is_over (happens l b (goes chosen) n).told ≡ false)
  unfolding with_medium
  asked-goes b k e o t chosen n =
      let q = pass-quiet b t in
      let x = k.left (λ h. omega (arith, h, e)) in
      let b₁ : Board = ahead_of b in
      let c = calls-next (ahead_of b) x.1 in
      let p = passed-by (ahead_of b) x.1 (omega (arith, e)) in
      let v = control-of (moves_to (ahead_of b)) (with_stage b.control 20) (load 0 (length b.memory.log)) (moves-log (ahead_of b) e) in
      let y = landing-of b.control (next (ahead_of b) 0).control 20 (c.control ∙ v.0) in
      subst (λ (i : Board). Good l G D z i × (is_over i.told ≡ false)) (sym (load-none l G D z b q.1 q.2 chosen n)) (
        behind
            (record {
              under = under-like l G D z b (next (ahead_of b) 0) p.homes p.book (p.medium ∙ none-moved b.medium (due_of b) q.0) k.under;
              kept = record { sized = sized-by (ahead_of b) (next (ahead_of b) 0) p k.kept.sized; landing = y.0 ∙ k.kept.landing };
              shut = inl (y.3 ∙ x.0);
              left = λ h. (y.3 ∙ x.0, omega (arith, y.1, y.2, x.1));
              waiting = loads (length b.memory.log) y.5 (y.4 ∙ o) (c.turn ∙ v.1);
            }),
        ap is_over (c.told ∙ v.1) ∙ load_is 0 (length b.memory.log),
      )

  -- the log is loaded: a loss
  loads-log : (b : Board) (m : ℕ) → b.turn ≡ load 0 m → (chosen : ℕ → Bool) (n : ℕ) → happens l b (goes chosen) n ≡ next (lost_board l b chosen n) 0
  unfolding happens goes_further carried copied keeps loads_log load lost_board with_medium
  loads-log b m e chosen n = rw e

  pub is-loss : (b : Board) (m : ℕ) → b.turn ≡ load 0 m → loads_log b.turn ≡ true
  unfolding loads_log load
  is-loss b m e = rw e

  pub closed_of : (w : World) (s : Store) → Way G D z w s → w.ready ≡ false → Closed G D w
  closed_of w s k e = go k.standing.invariant
    where
      go : Invariant G D w → Closed G D w
      go (inl c) = c
      go (inr r) = absurd (false≢true (sym e ∙ r.ready))

  pub loads-goes : (b : Board) (k : Behind l G D z b) (m : ℕ) → b.control.stage ≡ 20 → b.control.op ≡ 19 → b.turn ≡ load 0 m → (chosen : ℕ → Bool) (x : Losing l G D z b chosen)
      → Good l G D z (happens l b (goes chosen) x.commits) × (is_over (happens l b (goes chosen) x.commits).told ≡ false)
  unfolding lost_board lost-under
  loads-goes b k m e o t chosen x =
      let y = k.left (λ h. omega (arith, h, e)) in
      let b₁ : Board = lost_board l b chosen x.commits in
      let c = calls-next (lost_board l b chosen x.commits) y.1 in
      let p = passed-by (lost_board l b chosen x.commits) y.1 (omega (arith, e)) in
      let v = control-of (moves_to b₁) (with_stage b.control 1) (load 1 (length b.memory.area)) (moves-area b₁ e) in
      let r = landing-of b.control (next b₁ 0).control 1 (c.control ∙ v.0) in
      let i = closed_of x.w x.s x.way x.ready in
      let f : (loses l chosen b.medium).lasting.log ≡ x.w.memory.log = ap (λ (j : Medium). j.lasting.log) x.medium in
      let s : Sized l G D z b₁.memory =
      record {
        state = k.kept.sized.state;
        newest = k.kept.sized.newest;
        log = ap length f ∙ i.opens.log_size;
        area = k.kept.sized.area;
        room = k.kept.sized.room;
      } in
      subst (λ (j : Board). Good l G D z j × (is_over j.told ≡ false)) (sym (loads-log b m t chosen x.commits)) (
        loaded
            (record {
              under = lost-under l G D z b (next b₁ 0) chosen x (p.homes ∙ k.under.homes) p.book p.medium;
              kept = record { sized = sized-by b₁ (next b₁ 0) p s; landing = r.0 ∙ k.kept.landing };
              ready = x.ready;
              quiet = x.pending;
              passed = x.passed;
              condition = r.3 ∙ y.0;
              stage = r.5;
              op = r.4 ∙ o;
              left = omega (arith, r.1, r.2, y.1);
              turn = (length b.memory.area, c.turn ∙ v.1);
              log = p.log ∙ f;
              whole = p.medium ∙ x.medium;
            }),
        ap is_over (c.told ∙ v.1) ∙ load_is 1 (length b.memory.area),
      )
