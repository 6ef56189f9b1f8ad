-- What holds of every board: a store that is open, one that waits for its loads, or one whose condition is known by its medium alone.
use Prim.Native.Nat.{ℕ, ◌+◌, ◌*◌, ◌≤◌}
use mathlib.Core.Path.{◌≡◌, refl, sym, ap, ◌∙◌, subst}
use mathlib.Core.Logic.{◌⊎◌}
use mathlib.Core.Bool.{true, false}
use mathlib.Core.List.{List, [], ◌∷◌, ◌++◌, append_assoc}
use lib.ListN.{length, take}
use Rattle.model.specs.Bytes.{part}
use Rattle.model.specs.State.{state_of}
use Rattle.model.specs.History.{World}
use Rattle.abstract_store.specs.Store.{Store}
use Rattle.theorems.proofs.invariant.Invariant.{Sizes}
use Rattle.object.specs.Medium.{Grain}
use Rattle.object.specs.Order.{Motion, motions, moved}
use Rattle.object.specs.Runner.{Carried}
use Rattle.object_runner.specs.Moves.{landing_of, Hands}
use Rattle.object_machine.specs.declared.Control.{Control}
use Rattle.object_machine.specs.Moves.{load, pass}
use Rattle.object_machine.specs.Next.{Lent}
use Rattle.object_board.specs.Board.{Board, in_hand, is_over, next, with_medium, Tells}
use Rattle.object_board.proofs.Ways.{Way, way-running}
use Rattle.object_board.proofs.Along.{cursor_of, first, Copies, Along}
use Rattle.object_board.proofs.Follows.{due_of, ahead_of, Facts, Follows, handing-next}
use Rattle.object_board.proofs.Calling.{calling-next}

module _ (l : Grain) (G D : ℕ) (z : Sizes G D) where
  -- a turn of an open store
  pub goes-next : (b : Board) (a : Along l G D z b) → Facts l G D z b.control a.w a.s → (b.control.stage ≡ 0 → ⊥)
      → Follows l G D z (next b 0) × (is_over (next b 0).told ≡ true → Tells (next b 0))
  goes-next b a f n = go a.rest refl
    where
      go : (ms : List Motion) → a.rest ≡ ms → Follows l G D z (next b 0) × (is_over (next b 0).told ≡ true → Tells (next b 0))
      go [] e = calling-next l G D z b a e f n
      go (m ∷ ms) e = handing-next l G D z b a m ms e f n

  -- lent memory of the sizes that a start has
  pub record Sized (m : Lent) : Type 0 where
    pub state : length m.state ≡ 1024
    pub newest : length m.newest ≡ 8 * D
    pub log : length m.log ≡ 64 + 512 * G
    pub area : length m.area ≡ 64 * D
    pub room : 72 + 516 * G + 68 * D ≤ length m.batch

  -- the medium and the book, by the world of the bare calls
  pub record Under (b : Board) : Type 0 where
    pub w : World
    pub s : Store
    pub way : Way G D z w s
    pub homes : b.homes ≡ D
    pub book : b.book ≡ w.book
    pub many : ℕ
    pub medium : b.medium ≡ moved (first w) (take many (motions l [] w.pending))
    pub carried : Carried l w many

  -- what every start and every turn leaves
  pub record Kept (b : Board) : Type 0 where
    pub sized : Sized b.memory
    pub landing : b.control.landing ≡ landing_of l

  pub data Waiting (b : Board) : Type 0 where
    rests : b.control.stage ≡ 0 → is_over b.turn ≡ true → Waiting b
    asked : b.control.stage ≡ 19 → b.control.op ≡ 19 → b.turn ≡ pass → Waiting b
    loads : (n : ℕ) → b.control.stage ≡ 20 → b.control.op ≡ 19 → b.turn ≡ load 0 n → Waiting b

  -- closed, or failed
  pub record Behind (b : Board) : Type 0 where
    pub under : Under b
    pub kept : Kept b
    pub shut : (b.control.condition ≡ 1) ⊎ (b.control.condition ≡ 3)
    pub left : (b.control.stage ≡ 0 → ⊥) → (b.control.condition ≡ 1) × (b.control.size ≤ b.control.at)
    pub waiting : Waiting b

  -- the log is loaded, and the homes are asked for
  pub record Loaded (b : Board) : Type 0 where
    pub under : Under b
    pub kept : Kept b
    pub ready : under.w.ready ≡ false
    pub quiet : under.w.pending ≡ []
    pub passed : under.w.passed ≡ 0
    pub condition : b.control.condition ≡ 1
    pub stage : b.control.stage ≡ 1
    pub op : b.control.op ≡ 19
    pub left : b.control.size ≤ b.control.at
    pub turn : (n : ℕ) × (b.turn ≡ load 1 n)
    pub log : b.memory.log ≡ under.w.memory.log
    pub whole : b.medium ≡ first under.w

  pub data Good (b : Board) : Type 0 where
    behind : Behind b → Good b
    loaded : Loaded b → Good b
    follows : Follows l G D z b → Good b

  pub take-front : (xs ys : List Motion) → take (length xs) (xs ++ ys) ≡ xs
  take-front [] ys = refl
  take-front (x ∷ xs) ys = ap {B = List Motion} (λ r. x ∷ r) (take-front xs ys)

  follows-under : (b : Board) → Follows l G D z b → Under b
  unfolding with_medium
  follows-under b f =
      let a = f.along in
      let e : motions l [] a.w.pending ≡ f.before ++ (due_of b ++ a.rest) =
      a.split ∙ ap (λ (x : List Motion). x ++ a.rest) f.out ∙ append_assoc f.before (due_of b) a.rest in
      record {
        w = a.w;
        s = a.s;
        way = a.way;
        homes = a.homes;
        book = a.book;
        many = length f.before;
        medium = f.medium ∙ ap (moved (first a.w)) (sym (take-front f.before (due_of b ++ a.rest)) ∙ ap (take (length f.before)) (sym e));
        carried = f.carried;
      }

  pub under : (b : Board) → Good b → Under b
  under b (behind k) = k.under
  under b (loaded k) = k.under
  under b (follows f) = follows-under b f

  -- a store that is open has its sizes
  along-sized : (b : Board) (a : Along l G D z b) → Sized b.memory
  along-sized b a =
      let r = way-running G D z a.w a.s a.way a.ready in
      record {
        state = ap length a.copies.state ∙ r.copies.state_size;
        newest = ap length a.copies.newest ∙ a.way.standing.agrees.newest a.ready;
        log = ap length a.copies.log ∙ r.copies.log_size;
        area = ap length a.copies.area ∙ r.copies.area_size;
        room = a.copies.room;
      }

  follows-kept : (b : Board) → Follows l G D z b → Kept b
  unfolding with_medium
  follows-kept b f = record { sized = along-sized (ahead_of b) f.along; landing = f.along.landing }

  pub kept : (b : Board) → Good b → Kept b
  kept b (behind k) = k.kept
  kept b (loaded k) = k.kept
  kept b (follows f) = follows-kept b f

  -- ---- boards that differ in nothing that matters

  unfoldable pub under-like : (b b' : Board) → b'.homes ≡ b.homes → b'.book ≡ b.book → b'.medium ≡ b.medium → Under b → Under b'
  under-like b b' e₁ e₂ e₃ k =
      record { w = k.w; s = k.s; way = k.way; homes = e₁ ∙ k.homes; book = e₂ ∙ k.book; many = k.many; medium = e₃ ∙ k.medium; carried = k.carried }

  pub kept-like : (b b' : Board) → b'.memory ≡ b.memory → b'.control.landing ≡ b.control.landing → Kept b → Kept b'
  kept-like b b' e₁ e₂ k = record { sized = subst Sized (sym e₁) k.sized; landing = e₂ ∙ k.landing }

  pub in-hand-like : (b b' : Board) → b'.control ≡ b.control → b'.memory ≡ b.memory → in_hand b' ≡ in_hand b
  unfolding in_hand
  in-hand-like b b' e f = ap (λ (x : Control). part b'.memory.batch 0 x.size) e ∙ ap (λ (x : Lent). part x.batch 0 b.control.size) f

  unfoldable pub along-like : (b b' : Board) → b'.control ≡ b.control → b'.memory ≡ b.memory → b'.homes ≡ b.homes → b'.book ≡ b.book → b'.medium ≡ b.medium
      → Along l G D z b → Along l G D z b'
  along-like b b' e₁ e₂ e₃ e₄ e₅ a =
      record {
        w = a.w;
        s = a.s;
        way = a.way;
        ready = a.ready;
        homes = e₃ ∙ a.homes;
        copies = subst (λ (m : Lent). Copies l G D z m a.w) (sym e₂) a.copies;
        book = e₄ ∙ a.book;
        landing = ap (λ (c : Control). c.landing) e₁ ∙ a.landing;
        out = a.out;
        rest = a.rest;
        headed = a.headed;
        split = a.split;
        medium = e₅ ∙ a.medium;
        hands =
            subst (λ (c : Control). Hands l G D (state_of a.w.state).next (in_hand b') a.w.log (cursor_of c) a.rest a.headed) (sym e₁)
            (subst (λ (x : List ℕ). Hands l G D (state_of a.w.state).next x a.w.log (cursor_of b.control) a.rest a.headed) (sym (in-hand-like b b' e₁ e₂))
            a.hands);
        ahead = a.ahead;
        fits =
            subst (λ (c : Control). c.size ≤ length b'.memory.batch) (sym e₁) (subst (λ (m : Lent). b.control.size ≤ length m.batch) (sym e₂) a.fits);
        carried = a.carried;
      }

  pub world-like : (b b' : Board) (e₁ : b'.control ≡ b.control) (e₂ : b'.memory ≡ b.memory) (e₃ : b'.homes ≡ b.homes) (e₄ : b'.book ≡ b.book) (e₅ : b'.medium ≡ b.medium)
      (a : Along l G D z b) → ((along-like b b' e₁ e₂ e₃ e₄ e₅ a).w ≡ a.w) × ((along-like b b' e₁ e₂ e₃ e₄ e₅ a).s ≡ a.s) × ((along-like b b' e₁ e₂ e₃ e₄ e₅ a).rest ≡ a.rest)
      × ((along-like b b' e₁ e₂ e₃ e₄ e₅ a).out ≡ a.out)
  unfolding along-like
  world-like b b' e₁ e₂ e₃ e₄ e₅ a = (refl, refl, refl, refl)
