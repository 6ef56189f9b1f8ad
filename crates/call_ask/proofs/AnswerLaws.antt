-- What the two first questions tell a caller, and how a refused and a done call end. Assumes nothing.
use mathlib.Core.Path.{◌≡◌, refl, sym}
use mathlib.Core.Bool.{Bool, true, false, ◌&&◌}
use mathlib.Core.List.{List, []}
use mathlib.Core.Logic.{◌≢◌}
use Prim.Native.Nat.{ℕ, zero, suc, ◌+◌, ◌*◌, ◌≤◌}
use native.Mathlib.Omega.{arith}
use lib.ListN.{length}
use borrow.Author.Tests.{eqb-true}
use Rattle.model.specs.Bytes.{puts}
use Rattle.model.specs.Layout.{group_count, home_count, log_length_right, data_length_right}
use Rattle.model.specs.State.{state_of}
use Rattle.model.specs.declared.State.{State}
use Rattle.base_state.specs.Order.{GroupsInOrder}
use Rattle.model.specs.Batch.{batch_bytes}
use Rattle.model.specs.Effects.{Given, Effect, new_state}
use Rattle.model.specs.Questions.{ask, areas_right, state_right, block_right, state_in_order, ask_state, ask_block}
use Rattle.model.specs.Calls.{refused, done, outcome}
use Rattle.model_laws.proofs.bytes.ByteLaws.{puts-nil}
use Rattle.model_laws.proofs.state.QuestionLaws.{ask-passed, and-true}
use Rattle.model_laws.proofs.state.OrderLaws.{tests, InOrder, in_order}
use Rattle.call_ask.specs.Lent.{lent, leaves_everything}

-- ---- the first two questions, and a third that stands for the rest

stops : (a b : Bool) (k v : ℕ) → ask a 1 (ask b 2 0) ≡ suc k → ask a 1 (ask b 2 v) ≡ suc k
unfolding ask
stops true true k v e = absurd (omega arith)
stops true false k v e = e
stops false b k v e = e

passes : (a b : Bool) (v : ℕ) → ask a 1 (ask b 2 0) ≡ 0 → ask a 1 (ask b 2 v) ≡ v
unfolding ask
passes true true v e = refl
passes true false v e = absurd (omega arith)
passes false b v e = absurd (omega arith)

-- a refusal by the first two questions is the answer, whatever else is asked
pub state-stops : (g : Given) (k v : ℕ) → ask_state g 0 ≡ suc k → ask_state g v ≡ suc k
unfolding ask_state
state-stops g k v e = stops (areas_right g && state_right g) (state_in_order g) k v e

pub block-stops : (g : Given) (k v : ℕ) → ask_block g 0 ≡ suc k → ask_block g v ≡ suc k
unfolding ask_block
block-stops g k v e = stops (areas_right g && state_right g && block_right g) (state_in_order g) k v e

-- the same from what `state_answer` and `block_answer` give
pub state-refuses : (g : Given) (r v : ℕ) → r ≡ ask_state g 0 → r ≢ 0 → r ≡ ask_state g v
state-refuses g zero v e h = absurd (h refl)
state-refuses g (suc k) v e h = sym (state-stops g k v (sym e))

pub block-refuses : (g : Given) (r v : ℕ) → r ≡ ask_block g 0 → r ≢ 0 → r ≡ ask_block g v
block-refuses g zero v e h = absurd (h refl)
block-refuses g (suc k) v e h = sym (block-stops g k v (sym e))

-- where they refuse nothing the rest is the answer
pub state-passes : (g : Given) (v : ℕ) → ask_state g 0 ≡ 0 → ask_state g v ≡ v
unfolding ask_state
state-passes g v e = passes (areas_right g && state_right g) (state_in_order g) v e

pub block-passes : (g : Given) (v : ℕ) → ask_block g 0 ≡ 0 → ask_block g v ≡ v
unfolding ask_block
block-passes g v e = passes (areas_right g && state_right g && block_right g) (state_in_order g) v e

-- they look at the log copy, the data copy, the strip and the block only
pub state-only : (l a s b t : List ℕ) (w h v : ℕ) → ask_state (lent l a s b t w h) v ≡ ask_state (lent l a s [] [] 0 0) v
unfolding ask_state areas_right state_right state_in_order
state-only l a s b t w h v = refl

pub block-only : (l a s b t : List ℕ) (w h v : ℕ) → ask_block (lent l a s b t w h) v ≡ ask_block (lent l a s b [] 0 0) v
unfolding ask_block areas_right state_right block_right state_in_order
block-only l a s b t w h v = refl

-- ---- what an answer of 0 to them gives

pub record Usable (log area state : List ℕ) : Type 0 where
  pub log-length : length log ≡ 64 + 512 * group_count (length log)
  pub groups-least : 4 ≤ group_count (length log)
  pub groups-most : group_count (length log) ≤ 1024
  pub area-length : length area ≡ 64 * home_count (length area)
  pub homes-least : 1 ≤ home_count (length area)
  pub homes-most : home_count (length area) ≤ 65535
  pub state-length : length state ≡ 1024
  pub order : InOrder state (group_count (length log)) (home_count (length area))

-- the group numbers of its strip are in order
pub usable-groups : (l a s : List ℕ) (st : State) → Usable l a s → st ≡ state_of s → GroupsInOrder st
usable-groups l a s st u e =
    let o = u.order in
    let k : GroupsInOrder (state_of s) = record {
      groups-most = omega (arith, o.groups-same, u.groups-most);
      start-most = o.start-most;
      start-next = o.start-next;
      next-most = o.next-most;
      filled-most = o.filled-most;
      filled_none = o.filled_none;
    } in
    rw e k

log_facts : (n : ℕ) → log_length_right n ≡ true → (n ≡ 64 + 512 * group_count n) × (4 ≤ group_count n) × (group_count n ≤ 1024)
unfolding log_length_right
log_facts n h = let f = simp tests at h in omega arith

area-facts : (n : ℕ) → data_length_right n ≡ true → (n ≡ 64 * home_count n) × (1 ≤ home_count n) × (home_count n ≤ 65535)
unfolding data_length_right
area-facts n h = let f = simp tests at h in omega arith

usable : (g : Given) → areas_right g ≡ true → state_right g ≡ true → state_in_order g ≡ true → Usable g.log g.area g.state
unfolding areas_right state_right state_in_order
usable g a s o =
    let b = and-true (log_length_right (length g.log)) (data_length_right (length g.area)) a in
    let l = log_facts (length g.log) b.0 in
    let d = area-facts (length g.area) b.1 in
    record {
      log-length = l.0;
      groups-least = l.1;
      groups-most = l.2;
      area-length = d.0;
      homes-least = d.1;
      homes-most = d.2;
      state-length = eqb-true (length g.state) 1024 s;
      order = in_order g.state (group_count (length g.log)) (home_count (length g.area)) o;
    }

pub state-usable : (g : Given) → ask_state g 0 ≡ 0 → Usable g.log g.area g.state
unfolding ask_state
state-usable g e =
    let a = ask-passed (areas_right g && state_right g) 0 (ask (state_in_order g) 2 0) e in
    let b = ask-passed (state_in_order g) 1 0 a.1 in
    let c = and-true (areas_right g) (state_right g) a.0 in
    usable g c.0 c.1 b.0

pub block-usable : (g : Given) → ask_block g 0 ≡ 0 → Usable g.log g.area g.state × (length g.block ≡ 64)
unfolding ask_block block_right
block-usable g e =
    let a = ask-passed (areas_right g && state_right g && block_right g) 0 (ask (state_in_order g) 2 0) e in
    let b = ask-passed (state_in_order g) 1 0 a.1 in
    let c = and-true (areas_right g && state_right g) (block_right g) a.0 in
    let d = and-true (areas_right g) (state_right g) c.0 in
    (usable g d.0 d.1 b.0, eqb-true (length g.block) 64 c.1)

-- ---- how a call ends

-- a refused call: its number is the answer, and all it was lent is as it was
pub refused-by : (g : Given) (e : Effect) (a code figure size : ℕ) → code ≡ a → code ≢ 0 → figure ≡ 0 → size ≡ 0
    → leaves_everything code figure size g.log g.area g.state g.newest g.block g.batch ≡ outcome g a e
unfolding outcome refused
refused-by g e zero code figure size h n f s = absurd (n h)
refused-by g e (suc k) code figure size h n f s = rw (h, f, s)

-- a done call: each part is the effect's
pub done-by : (g : Given) (e : Effect) (a code figure size : ℕ) (log area state newest block batch : List ℕ) → a ≡ 0 → code ≡ 0
    → figure ≡ e.figure → size ≡ length (batch_bytes e.records) → log ≡ e.log → area ≡ e.area → state ≡ e.state → newest ≡ e.newest
    → block ≡ e.block → batch ≡ puts g.batch 0 (batch_bytes e.records)
    → leaves_everything code figure size log area state newest block batch ≡ outcome g a e
unfolding outcome done
done-by g e zero code figure size log area state newest block batch z c f n l d s p b t = rw (c, f, n, l, d, s, p, b, t)
done-by g e (suc k) code figure size log area state newest block batch z c f n l d s p b t = absurd (omega arith)

-- a done call that changes the strip only
pub state-by : (g : Given) (s : List ℕ) (a f code figure size : ℕ) (state : List ℕ) → a ≡ 0 → code ≡ 0 → figure ≡ f → size ≡ 0 → state ≡ s
    → leaves_everything code figure size g.log g.area state g.newest g.block g.batch ≡ outcome g a (new_state g s f)
unfolding outcome done new_state batch_bytes
state-by g s zero f code figure size state z c e n h = rw (c, e, n, h, puts-nil)
state-by g s (suc k) f code figure size state z c e n h = absurd (omega arith)
