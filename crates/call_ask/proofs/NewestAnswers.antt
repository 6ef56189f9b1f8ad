-- The first two questions of a call that is lent the newest positions: those of one that is not, once their length is right. Assumes nothing.
use mathlib.Core.Path.{◌≡◌, refl, sym, ap, ◌∙◌}
use mathlib.Core.Bool.{Bool, true, false, ◌&&◌, and-false}
use mathlib.Core.List.{List, []}
use mathlib.Core.Logic.{◌≢◌}
use Prim.Native.Nat.{ℕ, ◌*◌, ◌≤◌}
use native.Mathlib.Omega.{arith}
use borrow.Author.Tests.{eqb-true, ne_eqb, eq-eqb}
use lib.ListN.{length}
use Rattle.model.specs.Layout.{home_count}
use Rattle.model.specs.State.{state_of}
use Rattle.model.specs.declared.State.{State}
use Rattle.model.specs.Effects.{Given}
use Rattle.model.specs.Questions.{ask, areas_right, state_right, block_right, newest_right, state_in_order, ask_state, ask_block, ask_newest, ask_both}
use Rattle.model_laws.proofs.state.QuestionLaws.{ask-no}
use Rattle.call_ask.specs.Lent.{lent_all, lent}
use Rattle.call_ask.proofs.AnswerLaws.{Usable, state-refuses, state-passes, state-usable, block-refuses, block-passes, block-usable}

and-true-right : (b : Bool) → (b && true) ≡ b
and-true-right true = refl
and-true-right false = refl

-- ---- the length of the newest positions

pub homes-few : (n h : ℕ) → h ≡ home_count n → 8 * h ≤ n
unfolding home_count
homes-few n h e = omega arith

pub newest-length : (g : Given) (n : ℕ) → n ≡ home_count (length g.area) → length g.newest ≡ 8 * n → newest_right g ≡ true
unfolding newest_right
newest-length g n e h = eq-eqb (length g.newest) (8 * home_count (length g.area)) (h ∙ ap (λ x. 8 * x) e)

pub newest-other : (g : Given) (n : ℕ) → n ≡ home_count (length g.area) → length g.newest ≢ 8 * n → newest_right g ≡ false
unfolding newest_right
newest-other g n e h = ne_eqb (length g.newest) (8 * home_count (length g.area)) (λ z. h (z ∙ ap (λ x. 8 * x) (sym e)))

pub right-length : (g : Given) → newest_right g ≡ true → length g.newest ≡ 8 * home_count (length g.area)
unfolding newest_right
right-length g e = eqb-true _ _ e

-- the homes of a strip in order are those of the data copy
pub newest-fits : (log area state : List ℕ) (st : State) (n : ℕ) → Usable log area state → st ≡ state_of state → n ≡ 8 * home_count (length area)
    → n ≡ 8 * st.homes
newest-fits log area state st n u e h = h ∙ rw (e, u.order.homes_same)

-- ---- right and wrong

module _ (g : Given) (v : ℕ) where
  pub newest-asks : newest_right g ≡ true → ask_newest g v ≡ ask_state g v
  unfolding ask_newest ask_state
  newest-asks e = rw (e, and-true-right)

  pub newest-stops : newest_right g ≡ false → ask_newest g v ≡ 1
  unfolding ask_newest
  newest-stops e = ask-no _ 1 _ (rw (e, and-false))

  pub both-asks : newest_right g ≡ true → ask_both g v ≡ ask_block g v
  unfolding ask_both ask_block
  both-asks e = rw (e, and-true-right)

  pub both-stops : newest_right g ≡ false → ask_both g v ≡ 1
  unfolding ask_both
  both-stops e = ask-no _ 1 _ (rw (e, and-false))

-- an answer of 0 answers the first two questions
zeros : (a b : Bool) (v : ℕ) → ask a 1 (ask b 2 v) ≡ 0 → ask a 1 (ask b 2 0) ≡ 0
unfolding ask
zeros true true v e = refl
zeros true false v e = absurd (omega arith)
zeros false b v e = absurd (omega arith)

-- ---- a call f whose questions are those of k if a test says so, and else answer 1

module _ (f k : ℕ → ℕ) (b : Bool) (yes : b ≡ true → (v : ℕ) → f v ≡ k v) (no : b ≡ false → (v : ℕ) → f v ≡ 1) where
  refuses-with : ((r v : ℕ) → r ≡ k 0 → r ≢ 0 → r ≡ k v) → (r v : ℕ) → r ≡ f 0 → r ≢ 0 → r ≡ f v
  refuses-with h r v e n = go b refl
    where
      go : (c : Bool) → b ≡ c → r ≡ f v
      go true q = h r v (e ∙ yes q 0) n ∙ sym (yes q v)
      go false q = e ∙ no q 0 ∙ sym (no q v)

  zero-with : f 0 ≡ 0 → (b ≡ true) × (k 0 ≡ 0)
  zero-with e = go b refl
    where
      go : (c : Bool) → b ≡ c → (b ≡ true) × (k 0 ≡ 0)
      go true q = (q, sym (yes q 0) ∙ e)
      go false q = absurd (let z = sym (no q 0) ∙ e in omega arith)

  passes-with : ((v : ℕ) → k 0 ≡ 0 → k v ≡ v) → (v : ℕ) → f 0 ≡ 0 → f v ≡ v
  passes-with h v e = let z = zero-with e in yes z.0 v ∙ h v z.1

-- ---- the same for the two kinds of call

module _ (g : Given) where
  pub newest-refuses : (r v : ℕ) → r ≡ ask_newest g 0 → r ≢ 0 → r ≡ ask_newest g v
  newest-refuses = refuses-with (ask_newest g) (ask_state g) (newest_right g) (λ e v. newest-asks g v e) (λ e v. newest-stops g v e) (state-refuses g)

  pub newest-passes : (v : ℕ) → ask_newest g 0 ≡ 0 → ask_newest g v ≡ v
  newest-passes = passes-with (ask_newest g) (ask_state g) (newest_right g) (λ e v. newest-asks g v e) (λ e v. newest-stops g v e) (state-passes g)

  pub newest-usable : ask_newest g 0 ≡ 0 → Usable g.log g.area g.state × (length g.newest ≡ 8 * home_count (length g.area))
  newest-usable e =
      let z = zero-with (ask_newest g) (ask_state g) (newest_right g) (λ e v. newest-asks g v e) (λ e v. newest-stops g v e) e in
      (state-usable g z.1, right-length g z.0)

  pub both-refuses : (r v : ℕ) → r ≡ ask_both g 0 → r ≢ 0 → r ≡ ask_both g v
  both-refuses = refuses-with (ask_both g) (ask_block g) (newest_right g) (λ e v. both-asks g v e) (λ e v. both-stops g v e) (block-refuses g)

  pub both-passes : (v : ℕ) → ask_both g 0 ≡ 0 → ask_both g v ≡ v
  both-passes = passes-with (ask_both g) (ask_block g) (newest_right g) (λ e v. both-asks g v e) (λ e v. both-stops g v e) (block-passes g)

  pub both_zero : (v : ℕ) → ask_both g v ≡ 0 → ask_both g 0 ≡ 0
  unfolding ask_both
  both_zero v e = zeros (areas_right g && state_right g && newest_right g && block_right g) (state_in_order g) v e

  pub both-usable : ask_both g 0 ≡ 0
      → Usable g.log g.area g.state × (length g.block ≡ 64) × (length g.newest ≡ 8 * home_count (length g.area))
  both-usable e =
      let z = zero-with (ask_both g) (ask_block g) (newest_right g) (λ e v. both-asks g v e) (λ e v. both-stops g v e) e in
      let u = block-usable g z.1 in
      (u.0, u.1, right-length g z.0)

-- a call without them does not look at them
pub newest-unasked : (l a s n : List ℕ) (v : ℕ) → ask_state (lent l a s [] [] 0 0) v ≡ ask_state (lent_all l a s n [] [] 0 0) v
unfolding ask_state areas_right state_right state_in_order
newest-unasked l a s n v = refl

pub both-unasked : (l a s n b : List ℕ) (v : ℕ) → ask_block (lent l a s b [] 0 0) v ≡ ask_block (lent_all l a s n b [] 0 0) v
unfolding ask_block areas_right state_right block_right state_in_order
both-unasked l a s n b v = refl

-- they look at the copies, the strip, the newest positions and the block only
pub newest-only : (l a s n b t : List ℕ) (w h v : ℕ) → ask_newest (lent_all l a s n b t w h) v ≡ ask_newest (lent_all l a s n [] [] 0 0) v
unfolding ask_newest areas_right state_right newest_right state_in_order
newest-only l a s n b t w h v = refl

pub both-only : (l a s n b t : List ℕ) (w h v : ℕ) → ask_both (lent_all l a s n b t w h) v ≡ ask_both (lent_all l a s n b [] 0 0) v
unfolding ask_both areas_right state_right newest_right block_right state_in_order
both-only l a s n b t w h v = refl
