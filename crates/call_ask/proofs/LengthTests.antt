-- The first two questions test by test, as the functions of this crate put them. Assumes nothing.
use mathlib.Core.Path.{◌≡◌, refl, sym, ◌∙◌}
use mathlib.Core.Bool.{Bool, true, false, not, ◌&&◌, and-false}
use mathlib.Core.Logic.{◌≢◌}
use Prim.Native.Nat.{ℕ, ◌≤◌}
use native.Mathlib.Omega.{arith}
use borrow.Author.Tests.{not-true, not-false, ne_eqb, eq-eqb}
use lib.Dec.{eqb}
use lib.ListN.{length}
use Rattle.model.specs.Layout.{group_count, home_count, log_length_right, data_length_right}
use Rattle.model.specs.State.{is_in_order}
use Rattle.model.specs.Effects.{Given}
use Rattle.model.specs.Questions.{areas_right, state_right, block_right, state_in_order, ask_state, ask_block}
use Rattle.model_laws.proofs.state.QuestionLaws.{ask-yes, ask-no}
use Rattle.model_laws.proofs.state.OrderLaws.{tests}

-- ---- the lengths of what is lent

abbrev lengths : Given → Bool
lengths g = log_length_right (length g.log) && (data_length_right (length g.area) && eqb (length g.state) 1024)

regroup : (x y z : Bool) → (x && (y && z)) ≡ (x && y && z)
regroup true y z = refl
regroup false y z = refl

same-lengths : (g : Given) → lengths g ≡ (areas_right g && state_right g)
unfolding areas_right state_right
same-lengths g = regroup (log_length_right (length g.log)) (data_length_right (length g.area)) (eqb (length g.state) 1024)

no : (g : Given) (r : Bool) → r ≡ lengths g → not r ≡ true → (areas_right g && state_right g) ≡ false
no g r e h = sym (same-lengths g) ∙ sym e ∙ not-true r h

yes : (g : Given) (r : Bool) → r ≡ lengths g → not r ≡ false → (areas_right g && state_right g) ≡ true
yes g r e h = sym (same-lengths g) ∙ sym e ∙ not-false r h

-- what right lengths give
pub record Sizes (log area state : ℕ) : Type 0 where
  pub groups-most : group_count log ≤ 1024
  pub homes-most : home_count area ≤ 65535
  pub state-length : state ≡ 1024

pub sizes : (log area state : ℕ) (r : Bool) → r ≡ (log_length_right log && (data_length_right area && eqb state 1024)) → not r ≡ false
    → Sizes log area state
unfolding log_length_right data_length_right
sizes log area state r e h =
    let f = simp tests at (sym e ∙ not-false r h) in
    record { groups-most = omega arith; homes-most = omega arith; state-length = omega arith }

-- ---- the strip

ordered : (g : Given) (n m : ℕ) (o : Bool) → n ≡ group_count (length g.log) → m ≡ home_count (length g.area)
    → o ≡ is_in_order g.state n m → o ≡ state_in_order g
unfolding state_in_order
ordered g n m o en em eo = eo ∙ rw (en, em)

-- ---- the answers of a call that is lent no block

pub state-lengths-no : (g : Given) (r : Bool) (v : ℕ) → r ≡ lengths g → not r ≡ true → 1 ≡ ask_state g v
unfolding ask_state
state-lengths-no g r v e h = sym (ask-no _ 1 _ (no g r e h))

pub state-order-no : (g : Given) (r o : Bool) (n m v : ℕ) → r ≡ lengths g → not r ≡ false → n ≡ group_count (length g.log)
    → m ≡ home_count (length g.area) → o ≡ is_in_order g.state n m → not o ≡ true → 2 ≡ ask_state g v
unfolding ask_state
state-order-no g r o n m v e h en em eo k =
    sym (ask-yes _ 1 _ (yes g r e h) ∙ ask-no _ 2 v (sym (ordered g n m o en em eo) ∙ not-true o k))

pub state-all : (g : Given) (r o : Bool) (n m v : ℕ) → r ≡ lengths g → not r ≡ false → n ≡ group_count (length g.log)
    → m ≡ home_count (length g.area) → o ≡ is_in_order g.state n m → not o ≡ false → v ≡ ask_state g v
unfolding ask_state
state-all g r o n m v e h en em eo k =
    sym (ask-yes _ 1 _ (yes g r e h) ∙ ask-yes _ 2 v (sym (ordered g n m o en em eo) ∙ not-false o k))

-- where a quick look tells

-- ---- the answers of one that is lent a block

block_no : (g : Given) → length g.block ≢ 64 → (areas_right g && state_right g && block_right g) ≡ false
unfolding block_right
block_no g h = rw (ne_eqb (length g.block) 64 h) (and-false (areas_right g && state_right g))

block-yes : (g : Given) → (areas_right g && state_right g) ≡ true → length g.block ≡ 64 → (areas_right g && state_right g && block_right g) ≡ true
unfolding block_right
block-yes g a h = rw (a, eq-eqb (length g.block) 64 h)

pub block-lengths-no : (g : Given) (r : Bool) (v : ℕ) → r ≡ lengths g → not r ≡ true → 1 ≡ ask_block g v
unfolding ask_block
block-lengths-no g r v e h = sym (ask-no _ 1 _ (rw (no g r e h)))

pub block-length-no : (g : Given) (v : ℕ) → length g.block ≢ 64 → 1 ≡ ask_block g v
unfolding ask_block
block-length-no g v h = sym (ask-no _ 1 _ (block_no g h))

pub block-order-no : (g : Given) (r o : Bool) (n m v : ℕ) → r ≡ lengths g → not r ≡ false → length g.block ≡ 64
    → n ≡ group_count (length g.log) → m ≡ home_count (length g.area) → o ≡ is_in_order g.state n m → not o ≡ true → 2 ≡ ask_block g v
unfolding ask_block
block-order-no g r o n m v e h b en em eo k =
    sym (ask-yes _ 1 _ (block-yes g (yes g r e h) b) ∙ ask-no _ 2 v (sym (ordered g n m o en em eo) ∙ not-true o k))

pub block-all : (g : Given) (r o : Bool) (n m v : ℕ) → r ≡ lengths g → not r ≡ false → length g.block ≡ 64
    → n ≡ group_count (length g.log) → m ≡ home_count (length g.area) → o ≡ is_in_order g.state n m → not o ≡ false → v ≡ ask_block g v
unfolding ask_block
block-all g r o n m v e h b en em eo k =
    sym (ask-yes _ 1 _ (block-yes g (yes g r e h) b) ∙ ask-yes _ 2 v (sym (ordered g n m o en em eo) ∙ not-false o k))
