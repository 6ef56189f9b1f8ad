-- What a call that is not refused knows of what it was lent, and how it ends. Assumes nothing.
use mathlib.Core.Path.{◌≡◌, refl, sym, ap, ◌∙◌}
use mathlib.Core.Bool.{Bool, true, false, cond, ◌&&◌}
use mathlib.Core.List.{List, [], ◌∷◌, ◌++◌, append-nil}
use Prim.Native.Nat.{ℕ, ◌+◌, ◌*◌, ◌%◌, ◌≤◌, ◌<◌}
use native.Mathlib.Nat.{mod-lt}
use native.Mathlib.Omega.{arith}
use lib.Dec.{eqb}
use lib.ListN.{length}
use borrow.Author.Tests.{eq-eqb, ne_eqb}
use Rattle.model.specs.Bytes.{puts}
use Rattle.model.specs.Layout.{group_at, group_offset}
use Rattle.model.specs.Batch.{Record, record_bytes, batch_bytes}
use Rattle.model.specs.Effects.{Given, Effect}
use Rattle.model.specs.Questions.{ask, ask_state, ask_block, ask_newest, areas_right, state_right, block_right, newest_right, state_in_order}
use Rattle.model.specs.Calls.{outcome}
use Rattle.model_laws.proofs.bytes.LayoutLaws.{length-group_at}
use Rattle.call_ask.specs.Lent.{leaves_everything}
use Rattle.call_ask.proofs.AnswerLaws.{done-by}

-- a call's answer is 0: so is that of its first two questions, and so is the rest
firsts : (a b : Bool) (v : ℕ) → ask a 1 (ask b 2 v) ≡ 0 → (ask a 1 (ask b 2 0) ≡ 0) × (v ≡ 0)
unfolding ask
firsts true true v e = (refl, e)
firsts true false v e = absurd (omega arith)
firsts false b v e = absurd (omega arith)

pub state-first : (g : Given) (v : ℕ) → ask_state g v ≡ 0 → (ask_state g 0 ≡ 0) × (v ≡ 0)
unfolding ask_state
state-first g v e = firsts (areas_right g && state_right g) (state_in_order g) v e

pub block-first : (g : Given) (v : ℕ) → ask_block g v ≡ 0 → (ask_block g 0 ≡ 0) × (v ≡ 0)
unfolding ask_block
block-first g v e = firsts (areas_right g && state_right g && block_right g) (state_in_order g) v e

pub newest-first : (g : Given) (v : ℕ) → ask_newest g v ≡ 0 → (ask_newest g 0 ≡ 0) × (v ≡ 0)
unfolding ask_newest
newest-first g v e = firsts (areas_right g && state_right g && newest_right g) (state_in_order g) v e

-- a choice by a test
pub pick_yes : (n m a b : ℕ) → n ≡ m → a ≡ cond (eqb n m) a b
pick_yes n m a b h = rw (eq-eqb n m h)

pub pick_no : (n m a b : ℕ) → (n ≡ m → ⊥) → b ≡ cond (eqb n m) a b
pick_no n m a b h = rw (ne_eqb n m h)

-- a ring slot lies in the log
pub slot-fits : (n groups len : ℕ) → 1 ≤ groups → 64 + 512 * groups ≤ len → 64 + 512 * (n % groups) + 512 ≤ len
slot-fits n groups len h l = let k : n % groups < groups = mod-lt n (omega arith) in omega arith

pub length-slot : (log : List ℕ) (n groups : ℕ) → 1 ≤ groups → 64 + 512 * groups ≤ length log → length (group_at log (n % groups)) ≡ 512
unfolding group_offset
length-slot log n groups h l = length-group_at log (n % groups) (slot-fits n groups (length log) h l)

-- two records, one after the other
pub batch-two : (r q : Record) → batch_bytes (r ∷ q ∷ []) ≡ record_bytes r ++ record_bytes q
unfolding batch_bytes
batch-two r q = rw append-nil

-- a done call whose effect is known
pub ends : (g : Given) (e₀ e : Effect) (a code figure size : ℕ) (log area state newest block batch : List ℕ) → e₀ ≡ e → a ≡ 0 → code ≡ 0
    → figure ≡ e.figure → size ≡ length (batch_bytes e.records) → log ≡ e.log → area ≡ e.area → state ≡ e.state → newest ≡ e.newest
    → block ≡ e.block → batch ≡ puts g.batch 0 (batch_bytes e.records)
    → leaves_everything code figure size log area state newest block batch ≡ outcome g a e₀
ends g e₀ e a code figure size log area state newest block batch h z c f n l d s p b t =
    done-by g e a code figure size log area state newest block batch z c f n l d s p b t ∙ ap (outcome g a) (sym h)
