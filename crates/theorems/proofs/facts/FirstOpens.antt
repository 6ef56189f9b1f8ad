-- The first opening after a done format is done. Assumes nothing.
use Prim.Native.Nat.{ℕ, zero, suc, ◌+◌, ◌*◌, ◌^◌, ◌≤◌}
use mathlib.Core.Path.{◌≡◌, refl, ap, ◌∙◌}
use mathlib.Core.List.{List, [], ◌∷◌, append-nil}
use native.Mathlib.Omega.{arith}
use lib.ListN.{length}
use borrow.Author.Tests.{eq-eqb, le-leb}
use Rattle.model.specs.Questions.{ask}
use Rattle.model.specs.Effects.{marked}
use Rattle.model.specs.History.{opening, call, Formatting, after_format, ends, unopened, is_opening, Allowed}
use Rattle.abstract_store.specs.Store.{Reply, new_store, group_of_first, many_homes, any_wrote, ask_batch, told, reply_of, reply}
use Rattle.theorems.specs.FirstOpening.{FormatOpens}
use Rattle.theorems.proofs.invariant.Invariant.{Sizes}
use Rattle.theorems.proofs.steps.FormatRuns.{sizes}
use Rattle.theorems.proofs.store.AnswersHold.{answers-hold}

-- a new store has no home to bring back
none-marked : (n : ℕ) → length (marked (λ h. any_wrote h []) n) ≡ 0
unfolding marked any_wrote
none-marked zero = refl
none-marked (suc n) = rw (append-nil (marked (λ h. any_wrote h []) n)) (none-marked n)

told-zero : (k figure size : ℕ) → k ≡ 0 → (told k figure size).code ≡ 0
unfolding told
told-zero zero figure size e = refl
told-zero (suc k) figure size e = absurd (omega arith)

module _ (G D : ℕ) (z : Sizes G D) (state newest batch : List ℕ) (s : length state ≡ 1024) (n : length newest ≡ 8 * D) (b : 72 + 516 * G ≤ length batch) where
  reply-done : (reply (new_store G D) (opening state newest batch)).code ≡ 0
  unfolding reply new_store group_of_first many_homes ask_batch ask
  reply-done =
      told-zero _ _ _
      (rw (eq-eqb (length state) 1024 s, eq-eqb (length newest) (8 * D) n, le-leb (0 + G) (2 ^ 47) (omega arith), none-marked D, le-leb (68 * 0 + (72 + 516 * G)) (length batch) (omega arith)))

pub format-opens : FormatOpens
unfolding ends reply_of
format-opens G D f state newest batch s n b =
    let h = answers-hold G D f (call (opening state newest batch) ∷ []) (unready f, tt) in
    ap (λ (r : Reply). r.code) h.1 ∙ reply-done G D (sizes f) state newest batch s n b
  where
    unready : {groups homes : ℕ} (f : Formatting groups homes) → Allowed (after_format f) (call (opening state newest batch))
    unready f = unfold after_format unopened is_opening in refl
