-- What each call does to the newest positions: their length stays, and only commit, trim and open change them. Assumes nothing.
use mathlib.Core.Path.{◌≡◌, refl, sym, ap, ◌∙◌}
use mathlib.Core.Logic.{◌⊎◌, inl, inr}
use mathlib.Core.Bool.{Bool, true, false, cond, false≢true}
use mathlib.Core.List.{List, []}
use Prim.Native.Nat.{ℕ, ◌*◌}
use lib.Dec.{eqb}
use lib.ListN.{length}
use Rattle.model.specs.State.{state_of, next_position, writer_of, holds}
use Rattle.model.specs.Effects.{Given, Effect, homes, new_state, open_effect, open_start, abort_effect, kept_commit, commit_held, commit_effect, trim_start, trim_to, trim_effect}
use Rattle.model.specs.Newest.{nothing_kept}
use Rattle.model.specs.Questions.{open_answer}
use Rattle.model.specs.Calls.{Outcome, done, size_of, outcome, open_call}
use Rattle.model.specs.History.{Call, opening, commit, trim, World, lent, loaded, ends, is_opening}
use Rattle.model_laws.proofs.state.NewestLaws.{length-entries, length-forget}
use Rattle.theorems.proofs.steps.DoneLaws.{outcome-code, outcome-done}
use Rattle.theorems.proofs.steps.Rows.{row_of, row-newest}
use Rattle.theorems.proofs.steps.Footprint.{lists, Touch, lists-open, lists-commit, lists-trim, Spares, frame}

-- ---- by the answer

pub done-newest : (o : Outcome) (g : Given) (a : ℕ) (e : Effect) → o ≡ outcome g a e → o.code ≡ 0 → o.newest ≡ e.newest
done-newest o g a e q h =
    let z : a ≡ 0 = sym (outcome-code g a e) ∙ ap (λ (x : Outcome). x.code) (sym q) ∙ h in
    ap (λ (x : Outcome). x.newest) (q ∙ outcome-done g a e z) ∙ (unfold done in refl)

-- ---- effects

commit-length : (g : Given) → length (commit_effect g).newest ≡ length g.newest
unfolding commit_effect
commit-length g = go (holds (writer_of g.state g.writer))
  where
    go : (d : Bool)
        → length (cond d (commit_held g (writer_of g.state g.writer) (next_position (state_of g.state))) (abort_effect g)).newest ≡ length g.newest
    go true = unfold commit_held kept_commit in length-entries _ _ g.newest
    go false = unfold abort_effect new_state in refl

trim-length : (g : Given) (s : ℕ) → length (trim_effect g s).newest ≡ length g.newest
unfolding trim_effect
trim-length g s = go (eqb s (state_of g.state).start)
  where
    go : (d : Bool) → length (cond d (new_state g g.state 0) (trim_to g (state_of g.state) s)).newest ≡ length g.newest
    go true = unfold new_state in refl
    go false = unfold trim_to in length-forget g.newest (7 * s) (homes g)

-- ---- calls

-- every done call but an opening leaves the length
pub newest-length : (w : World) (c : Call) → is_opening c ≡ false → (ends w c).code ≡ 0 → length (ends w c).newest ≡ length w.newest
unfolding is_opening row_of
newest-length w c o h = go c o h (frame lists c)
  where
    go : (c : Call) → is_opening c ≡ false → (ends w c).code ≡ 0 → Touch lists c ⊎ Spares lists c → length (ends w c).newest ≡ length w.newest
    go c o h (inl (lists-open state newest batch)) = absurd (false≢true (sym o))
    go c o h (inl (lists-commit v batch)) = ap length (row-newest w (commit v batch) h) ∙ commit-length (lent w [] batch v 0) ∙ (unfold lent in refl)
    go c o h (inl (lists-trim batch)) =
        ap length (row-newest w (trim batch) h) ∙ trim-length (lent w [] batch 0 0) (trim_start (lent w [] batch 0 0)) ∙ (unfold lent in refl)
    go c o h (inr f) = ap length (f w h).0

-- a done opening keeps none
pub open-newest : (w : World) (state newest batch : List ℕ) → (ends w (opening state newest batch)).code ≡ 0
    → (ends w (opening state newest batch)).newest ≡ nothing_kept (homes (loaded w state newest batch))
unfolding ends open_call
open-newest w state newest batch h =
    let g : Given = loaded w state newest batch in
    done-newest (open_call g) g (open_answer g (open_start g) (size_of (open_effect g))) (open_effect g) refl h ∙ (unfold open_effect in refl)
