-- A board whose store is open, or opens: a turn keeps it so, and what it tells is right.
use Prim.Native.Nat.{ℕ, ◌≤◌, ◌<◌}
use mathlib.Core.Path.{◌≡◌, refl, sym, ap, ◌∙◌, subst}
use mathlib.Core.Logic.{◌⊎◌, inl, inr}
use mathlib.Core.Bool.{true, false, cond, false≢true}
use mathlib.Core.List.{List, [], ◌∷◌, ◌++◌, append-nil, append_assoc}
use native.Mathlib.Omega.{arith}
use lib.Dec.{eqb}
use lib.ListN.{length, length-append}
use Rattle.model.specs.Layout.{group_count, home_count}
use Rattle.model.specs.State.{state_of}
use Rattle.model.specs.Crash.{Piece}
use Rattle.model.specs.Book.{homes_after}
use Rattle.model.specs.History.{World, step}
use Rattle.abstract_store.specs.Store.{Store, next_of}
use Rattle.model_laws.proofs.bytes.LayoutLaws.{groups-in, homes_in}
use Rattle.theorems.proofs.invariant.Invariant.{Sizes}
use Rattle.object.specs.Medium.{Grain, Medium}
use Rattle.object.specs.Order.{Motion, put, wait, moved}
use Rattle.object.specs.Runner.{Carried}
use Rattle.object_runner.specs.declared.Action.{Action}
use Rattle.object_runner.specs.Next.{cursor, next_action}
use Rattle.object_runner.specs.Moves.{landing_of, Does, Hands}
use Rattle.object_runner.specs.Moves as runner
use Rattle.object_machine.specs.declared.Control.{Control}
use Rattle.object_machine.specs.Control.{with_cursor}
use Rattle.object_board.specs.Board.{Board, in_hand, piece_of, is_over, loads_log, loads_area, next, with_medium, Tells}
use Rattle.object_board.proofs.HandLaws.{moved-append, hands-some}
use Rattle.object_board.proofs.StepLaws.{front-few}
use Rattle.object_board.proofs.Ways.{way-running}
use Rattle.object_board.proofs.Along.{cursor_of, first, Along}
use Rattle.object_board.proofs.Stages.{sync_stage, other_stage, is_other}
use Rattle.object_board.proofs.Turns.{turn_of, asks_for, handed_to, handed-next, piece_is}

-- what the driver has been asked to do, as motions
unfoldable pub due_of : Board → List Motion
due_of b = cond (eqb b.turn.kind 1) (put (piece_of b b.turn) ∷ []) (cond (eqb b.turn.kind 2) (wait ∷ []) [])

-- the board when it has done so
abbrev pub ahead_of : Board → Board
ahead_of b = with_medium b (moved b.medium (due_of b)) b.memory b.book

-- which operation goes through which stages
pub data Kind (c : Control) : Type 0 where
  idle : c.stage ≡ 0 → c.condition ≡ 2 → Kind c
  other : other_stage c.stage ≡ true → is_other c.op ≡ true → c.condition ≡ 2 → Kind c
  sync : sync_stage c.stage ≡ true → c.op ≡ 5 → c.condition ≡ 2 → Kind c
  opening : c.stage ≡ 21 → c.op ≡ 19 → c.condition ≡ 1 → Kind c

-- turns that leave the driver nothing to do
pub record Quiet (b : Board) : Type 0 where
  pub due : due_of b ≡ []
  pub log : loads_log b.turn ≡ false
  pub area : loads_area b.turn ≡ false

due-write : (b : Board) (a : Action) → a.kind ≡ 1 → due_of (handed_to b a) ≡ put (piece_of (handed_to b a) (turn_of a)) ∷ []
unfolding due_of handed_to turn_of
due-write b a e = rw e

due-wait : (b : Board) (a : Action) → a.kind ≡ 2 → due_of (handed_to b a) ≡ wait ∷ []
unfolding due_of handed_to turn_of
due-wait b a e = rw e

handed-kind : (c : Control) (at headed step : ℕ) → Kind c → Kind (with_cursor c at headed step)
unfolding with_cursor
handed-kind c at headed step (idle a b) = idle a b
handed-kind c at headed step (other a b d) = other a b d
handed-kind c at headed step (sync a b d) = sync a b d
handed-kind c at headed step (opening a b d) = opening a b d

module _ (l : Grain) (G D : ℕ) (z : Sizes G D) where
  -- what a stage has made true
  pub record Facts (c : Control) (w : World) (s : Store) : Type 0 where
    pub kind : Kind c
    pub fenced : c.stage ≡ 6 → s.fenced ≡ next_of s
    pub area : c.stage ≡ 21 → w.area ≡ homes_after D w.book.commits

  pub record Follows (b : Board) : Type 0 where
    pub along : Along l G D z (ahead_of b)
    pub facts : Facts b.control along.w along.s
    pub before : List Motion
    pub out : along.out ≡ before ++ due_of b
    pub medium : b.medium ≡ moved (first along.w) before
    pub carried : Carried l along.w (length before)
    pub idle : b.control.stage ≡ 0 → along.rest ≡ []
    pub live : is_over b.turn ≡ false → b.control.stage ≡ 0 → ⊥
    pub log : loads_log b.turn ≡ false
    pub area : loads_area b.turn ≡ false

  -- the same board with its medium written otherwise
  same-medium : (b : Board) (a : Along l G D z b) (m : Medium) → m ≡ b.medium → Along l G D z (with_medium b m b.memory b.book)
  unfolding with_medium in_hand
  same-medium b a m e =
      record {
        w = a.w;
        s = a.s;
        way = a.way;
        ready = a.ready;
        homes = a.homes;
        copies = a.copies;
        book = a.book;
        landing = a.landing;
        out = a.out;
        rest = a.rest;
        headed = a.headed;
        split = a.split;
        medium = e ∙ a.medium;
        hands = a.hands;
        ahead = a.ahead;
        fits = a.fits;
        carried = a.carried;
      }

  none-moved : (m : Medium) → moved m [] ≡ m
  unfolding moved
  none-moved m = refl

  -- a turn that is over or passes
  pub quiet-follows : (b : Board) (a : Along l G D z b) → Quiet b → Facts b.control a.w a.s → (b.control.stage ≡ 0 → a.rest ≡ [])
      → (is_over b.turn ≡ false → b.control.stage ≡ 0 → ⊥) → Follows b
  unfolding same-medium
  quiet-follows b a q f i o =
      record {
        along = same-medium b a (moved b.medium (due_of b)) (ap (moved b.medium) q.due ∙ none-moved b.medium);
        facts = f;
        before = a.out;
        out = sym (append-nil a.out) ∙ ap (λ (x : List Motion). a.out ++ x) (sym q.due);
        medium = a.medium;
        carried = a.carried;
        idle = i;
        live = o;
        log = q.log;
        area = q.area;
      }

  carried-more : (w : World) (n m : ℕ) → n ≤ m → Carried l w n → Carried l w m
  carried-more w n m h k = record { front = k.front; more = k.more; split = k.split; confirmed = k.confirmed; out = omega (arith, k.out, h) }

  -- ---- something is left of the batch in hand

  module _ (b : Board) (a : Along l G D z b) (m : Motion) (ms : List Motion) (some_left : a.rest ≡ m ∷ ms) where
    abbrev w : World
    w = a.w

    abbrev act : Action
    act = next_action (landing_of l) G D (state_of a.w.state).next (in_hand b) (cursor_of b.control)

    hands : Does (in_hand b) w.log act m × Hands l G D (state_of w.state).next (in_hand b) w.log (cursor act.at act.headed act.stage) ms a.headed
    hands = subst (λ (x : List Motion). Hands l G D (state_of w.state).next (in_hand b) w.log (cursor_of b.control) x a.headed) some_left a.hands

    asks-is : asks_for b ≡ act
    unfolding asks_for
    asks-is =
        let r = way-running G D z w a.s a.way a.ready in
        let g : group_count (length b.memory.log) ≡ G = ap (λ (x : List ℕ). group_count (length x)) a.copies.log ∙ ap group_count r.copies.log_size ∙ groups-in G in
        let d : home_count (length b.memory.area) ≡ D = ap (λ (x : List ℕ). home_count (length x)) a.copies.area ∙ ap home_count r.copies.area_size ∙ homes_in D in
        rw (a.landing, g, d, a.copies.state)

    kind-of : (m : Motion) → Does (in_hand b) w.log act m → (act.kind ≡ 1) ⊎ (act.kind ≡ 2)
    kind-of (put p) d = inl d.0
    kind-of wait d = inr d

    in-hand : length (in_hand b) ≤ b.control.size
    unfolding in_hand
    in-hand = front-few b.control.size b.memory.batch

    at_low : b.control.at < length (in_hand b)
    at_low =
        hands-some l G D (state_of w.state).next (omega (arith, z.low)) z.high (in_hand b) w.log (cursor_of b.control) m ms a.headed hands

    new : Board
    new = handed_to b act

    next-is : next b 0 ≡ handed_to b act
    next-is =
        handed-next b (omega (arith, at_low, in-hand)) a.fits (subst (λ (x : Action). (x.kind ≡ 1) ⊎ (x.kind ≡ 2)) (sym asks-is) (kind-of m hands.0))
        ∙ ap (handed_to b) asks-is

    due-is : (m : Motion) → Does (in_hand b) w.log act m → due_of (handed_to b act) ≡ m ∷ []
    due-is (put p) d =
        let q : piece_of (handed_to b act) (turn_of act) ≡ p =
        piece_is b act ∙ ap (λ (x : List ℕ). runner.piece_of (in_hand b) x act) a.copies.log ∙ d.1 in
        due-write b act d.0 ∙ ap (λ (x : Piece). put x ∷ []) q
    due-is wait d = due-wait b act d

    on-medium : moved b.medium (due_of (handed_to b act)) ≡ moved (first w) (a.out ++ (m ∷ []))
    on-medium =
        ap (moved b.medium) (due-is m hands.0) ∙ ap (λ (x : Medium). moved x (m ∷ [])) a.medium ∙ sym (moved-append (first w) a.out (m ∷ []))

    along-handed : Along l G D z (ahead_of (handed_to b act))
    unfolding with_medium handed_to with_cursor in_hand
    along-handed =
        record {
          w = w;
          s = a.s;
          way = a.way;
          ready = a.ready;
          homes = a.homes;
          copies = a.copies;
          book = a.book;
          landing = a.landing;
          out = a.out ++ (m ∷ []);
          rest = ms;
          headed = a.headed;
          split = a.split ∙ ap (λ (x : List Motion). a.out ++ x) some_left ∙ sym (append_assoc a.out (m ∷ []) ms);
          medium = on-medium;
          hands = hands.1;
          ahead = a.ahead;
          fits = a.fits;
          carried = carried-more w (length a.out) (length (a.out ++ (m ∷ []))) (omega (arith, length-append a.out (m ∷ []))) a.carried;
        }

    not-over : (m : Motion) → Does (in_hand b) w.log act m → (is_over (turn_of act) ≡ false) × (loads_log (turn_of act) ≡ false) × (loads_area (turn_of act) ≡ false)
    unfolding is_over loads_log loads_area turn_of
    not-over (put p) d = (rw d.0, rw d.0, rw d.0)
    not-over wait d = (rw d, rw d, rw d)

    handed-follows : Facts b.control w a.s → (b.control.stage ≡ 0 → ⊥) → Follows (handed_to b act)
    unfolding handed_to with_cursor along-handed
    handed-follows f n =
        let o = not-over m hands.0 in
        record {
          along = along-handed;
          facts = record { kind = handed-kind b.control act.at act.headed act.stage f.kind; fenced = f.fenced; area = f.area };
          before = a.out;
          out = ap (λ (x : List Motion). a.out ++ x) (sym (due-is m hands.0));
          medium = a.medium;
          carried = a.carried;
          idle = λ q. absurd (n q);
          live = λ q r. n r;
          log = o.1;
          area = o.2;
        }

    -- the next turn hands out one action
    pub handing-next : Facts b.control w a.s → (b.control.stage ≡ 0 → ⊥) → Follows (next b 0) × (is_over (next b 0).told ≡ true → Tells (next b 0))
    handing-next f n =
        subst (λ (x : Board). Follows x × (is_over x.told ≡ true → Tells x)) (sym next-is)
        (handed-follows f n, λ q. absurd (false≢true (sym (not-over m hands.0).0 ∙ (unfold handed_to in q))))
