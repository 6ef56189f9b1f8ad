-- The fates of the book's rows: those of the group writes after the first G, with which an opening blanks the log.
-- A law takes its variables in the order in which its left side first names them, then its premises. Assumes nothing.
use mathlib.Core.Path.{◌≡◌, refl}
use mathlib.Core.Bool.{Bool}
use mathlib.Core.List.{List, [], ◌∷◌, ◌++◌}
use Prim.Native.Nat.{ℕ, zero, suc, ◌+◌, ◌-◌, ◌≤◌}
use native.Mathlib.Omega.{arith}
use lib.ListN.{length, drop}
use Rattle.model.specs.Batch.{Record}
use Rattle.model.specs.Crash.{fates}
use Rattle.model.specs.Book.{fate_at}
use Rattle.model.specs.DemandTwo.{group_writes}
use Rattle.model_laws.proofs.trace.CrashLaws.{trues, length-fates}

pub fate_at-drop : (n : ℕ) (fs : List (ℕ → Bool)) (r k : ℕ) → fate_at (drop n fs) r k ≡ fate_at fs (n + r) k
unfolding fate_at
fate_at-drop zero fs r k = let e : 0 + r ≡ r = omega arith in rw e
fate_at-drop (suc n) [] r k = refl
fate_at-drop (suc n) (f ∷ fs) r k = let e : suc n + r ≡ suc (n + r) = omega arith in rw e (fate_at-drop n fs r k)

pub drop-trues : (n many : ℕ) (fs : List (ℕ → Bool)) → n ≤ many → drop n (trues many ++ fs) ≡ trues (many - n) ++ fs
unfolding trues
drop-trues zero many fs h = let e : many - 0 ≡ many = omega arith in rw e
drop-trues (suc n) zero fs h = absurd (omega arith)
drop-trues (suc n) (suc many) fs h = let e : suc many - suc n ≡ many - n = omega arith in rw e (drop-trues n many fs (omega arith))

drop-short : {A : Type 0} (n : ℕ) (l : List A) → length l ≤ n → drop n l ≡ []
drop-short zero [] h = refl
drop-short zero (x ∷ l) h = absurd (omega arith)
drop-short (suc n) [] h = refl
drop-short (suc n) (x ∷ l) h = drop-short n l (omega arith)

-- where no more groups were written
pub drop-fates : (n passed : ℕ) (chosen : ℕ → Bool) (R : List Record) → group_writes R ≤ n → drop n (fates passed chosen R) ≡ []
drop-fates n passed chosen R h = drop-short n (fates passed chosen R) (omega (arith, length-fates passed chosen R))
