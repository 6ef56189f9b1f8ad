-- A call as a row of a table: what it is lent, its verdict and what it does when it is done. Here alone the calls are told apart by what they are lent.
use Prim.Native.Nat.{ℕ}
use mathlib.Core.Path.{◌≡◌, refl, sym, ap, ◌∙◌}
use mathlib.Core.Bool.{false, false≢true}
use mathlib.Core.List.{List, []}
use Rattle.model.specs.Effects.{Given, Effect, open_effect, open_start, begin_effect, reserve_effect, abort_effect, store_effect, commit_effect, flush_effect, confirm_effect, settle_effect, begin_round_effect, step_round_effect, trim_start, trim_effect, read_effect}
use Rattle.model.specs.Questions.{open_answer, begin_answer, reserve_answer, abort_answer, store_answer, commit_answer, flush_answer, confirm_answer, settle_answer, begin_round_answer, step_round_answer, trim_answer, read_answer}
use Rattle.model.specs.Calls.{Outcome, done, size_of, outcome, open_call, begin_call, reserve_call, abort_call, store_call, commit_call, flush_call, confirm_call, settle_call, begin_round_call, step_round_call, trim_call, read_call}
use Rattle.model.specs.History.{begins, reserves, aborts, stores, commits, flushes, settles, round_begins, round_steps, trims, reads, Call, opening, confirm, change, service, World, lent, loaded, ends, change_ends, service_ends, is_opening}
use Rattle.theorems.proofs.steps.DoneLaws.{outcome-code, outcome-done}

pub record Row : Type 0 where
  pub given : Given
  pub answer : ℕ
  pub effect : Effect

abbrev pub row : Given → ℕ → Effect → Row
row g a e = record { given = g; answer = a; effect = e }

-- a verdict that looks at the bytes that the effect writes
abbrev pub sized : Given → (ℕ → ℕ) → Effect → Row
sized g answer e = record { given = g; answer = answer (size_of e); effect = e }

unfoldable pub row_of : World → Call → Row
row_of w (opening state newest batch) = let g : Given = loaded w state newest batch in sized g (open_answer g (open_start g)) (open_effect g)
row_of w confirm = let g : Given = lent w [] [] 0 0 in row g (confirm_answer g) (confirm_effect g)
row_of w (change (begins v)) = let g : Given = lent w [] [] v 0 in row g (begin_answer g) (begin_effect g)
row_of w (change (reserves v n)) = let g : Given = lent w [] [] v 0 in row g (reserve_answer g n) (reserve_effect g n)
row_of w (change (aborts v)) = let g : Given = lent w [] [] v 0 in row g (abort_answer g) (abort_effect g)
row_of w (change (stores v home block batch)) = let g : Given = lent w block batch v home in sized g (store_answer g) (store_effect g)
row_of w (change (commits v batch)) = let g : Given = lent w [] batch v 0 in sized g (commit_answer g) (commit_effect g)
row_of w (change (flushes batch)) = let g : Given = lent w [] batch 0 0 in sized g (flush_answer g) (flush_effect g)
row_of w (service (settles batch)) = let g : Given = lent w [] batch 0 0 in sized g (settle_answer g) (settle_effect g)
row_of w (service round_begins) = let g : Given = lent w [] [] 0 0 in row g (begin_round_answer g) (begin_round_effect g)
row_of w (service (round_steps k batch)) = let g : Given = lent w [] batch 0 0 in sized g (step_round_answer g k) (step_round_effect g k)
row_of w (service (trims batch)) = let g : Given = lent w [] batch 0 0 in sized g (trim_answer g (trim_start g)) (trim_effect g (trim_start g))
row_of w (service (reads v home block)) = let g : Given = lent w block [] v home in row g (read_answer g) (read_effect g)

pub ends-row : (w : World) (c : Call) → ends w c ≡ outcome (row_of w c).given (row_of w c).answer (row_of w c).effect
unfolding row_of ends change_ends service_ends open_call begin_call reserve_call abort_call store_call commit_call flush_call confirm_call settle_call begin_round_call step_round_call trim_call read_call
ends-row w (opening state newest batch) = refl
ends-row w confirm = refl
ends-row w (change (begins v)) = refl
ends-row w (change (reserves v n)) = refl
ends-row w (change (aborts v)) = refl
ends-row w (change (stores v home block batch)) = refl
ends-row w (change (commits v batch)) = refl
ends-row w (change (flushes batch)) = refl
ends-row w (service (settles batch)) = refl
ends-row w (service round_begins) = refl
ends-row w (service (round_steps k batch)) = refl
ends-row w (service (trims batch)) = refl
ends-row w (service (reads v home block)) = refl

-- ---- what every call has in common

-- all but an opening are lent the world's strip, newest positions and copies
pub record LentBy (w : World) (g : Given) : Type 0 where
  pub state : g.state ≡ w.state
  pub newest : g.newest ≡ w.newest
  pub log : g.log ≡ w.log
  pub area : g.area ≡ w.area

lent_by : (w : World) (block batch : List ℕ) (v home : ℕ) → LentBy w (lent w block batch v home)
unfolding lent
lent_by w block batch v home = record { state = refl; newest = refl; log = refl; area = refl }

pub row-lent : (w : World) (c : Call) → is_opening c ≡ false → LentBy w (row_of w c).given
unfolding row_of is_opening
row-lent w (opening state newest batch) e = absurd (false≢true (sym e))
row-lent w confirm e = lent_by w [] [] 0 0
row-lent w (change (begins v)) e = lent_by w [] [] v 0
row-lent w (change (reserves v n)) e = lent_by w [] [] v 0
row-lent w (change (aborts v)) e = lent_by w [] [] v 0
row-lent w (change (stores v home block batch)) e = lent_by w block batch v home
row-lent w (change (commits v batch)) e = lent_by w [] batch v 0
row-lent w (change (flushes batch)) e = lent_by w [] batch 0 0
row-lent w (service (settles batch)) e = lent_by w [] batch 0 0
row-lent w (service round_begins) e = lent_by w [] [] 0 0
row-lent w (service (round_steps k batch)) e = lent_by w [] batch 0 0
row-lent w (service (trims batch)) e = lent_by w [] batch 0 0
row-lent w (service (reads v home block)) e = lent_by w block [] v home

module _ (w : World) (c : Call) (h : (ends w c).code ≡ 0) where
  pub row-answer : (row_of w c).answer ≡ 0
  row-answer = sym (outcome-code _ _ _) ∙ ap (λ (x : Outcome). x.code) (sym (ends-row w c)) ∙ h

  pub row_done : ends w c ≡ done (row_of w c).given (row_of w c).effect
  row_done = ends-row w c ∙ outcome-done _ _ _ row-answer

  pub row-state : (ends w c).state ≡ (row_of w c).effect.state
  row-state = ap (λ (x : Outcome). x.state) row_done ∙ (unfold done in refl)

  pub row-newest : (ends w c).newest ≡ (row_of w c).effect.newest
  row-newest = ap (λ (x : Outcome). x.newest) row_done ∙ (unfold done in refl)
