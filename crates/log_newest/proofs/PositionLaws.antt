-- Laws of the strip of newest positions. Assumes nothing.
use mathlib.Core.Path.{◌≡◌, sym, ap, ◌∙◌}
use mathlib.Core.Bool.{cond}
use mathlib.Core.List.{List}
use Prim.Native.Nat.{ℕ, zero, suc, ◌+◌, ◌-◌, ◌*◌, ◌≤◌, ◌<◌}
use native.Mathlib.Numerals.{add-one}
use native.Mathlib.Omega.{arith}
use borrow.Author.Tests.{lt-ltb, le-ltb}
use lib.Dec.{ltb}
use lib.ListN.{length, set, replicate, length-replicate}
use Rattle.model.specs.Bytes.{puts, number, put_number}
use Rattle.model.specs.Newest.{no_position, kept_for, keep, nothing_kept, forget}
use Rattle.model_laws.proofs.bytes.ByteLaws.{puts-nil, puts-cons, puts_whole}
use Rattle.model_laws.proofs.state.NewestLaws.{forget-above}

-- ---- one home

pub kept_read : (newest : List ℕ) (home r : ℕ) → r ≡ number 8 newest (8 * home) → r ≡ kept_for newest home
unfolding kept_for
kept_read newest home r e = e

pub keep-written : (newest after : List ℕ) (home position : ℕ) → after ≡ put_number 8 newest (8 * home) position → after ≡ keep newest home position
unfolding keep
keep-written newest after home position e = e

pub forgotten : (newest after : List ℕ) (home bound r : ℕ) → r ≡ kept_for newest home → r < bound → after ≡ keep newest home no_position
    → after ≡ cond (ltb (kept_for newest home) bound) (keep newest home no_position) newest
forgotten newest after home bound r e h q = q ∙ rw (ap (λ x. ltb x bound) (sym e) ∙ lt-ltb r bound h)

pub remembered : (newest : List ℕ) (home bound r : ℕ) → r ≡ kept_for newest home → bound ≤ r
    → newest ≡ cond (ltb (kept_for newest home) bound) (keep newest home no_position) newest
remembered newest home bound r e h = rw (ap (λ x. ltb x bound) (sym e) ∙ le-ltb r bound h)

-- ---- none

pub ones-turn : (d : List ℕ) (at n : ℕ) → 0 < n → puts (set d at 255) (at + 1) (replicate (n - 1) 255) ≡ puts d at (replicate n 255)
ones-turn d at zero h = absurd (omega arith)
ones-turn d at (suc n) h = let e : suc n - 1 ≡ n = omega arith in rw (e, puts-cons)

pub ones-end : (newest d : List ℕ) (homes i left : ℕ) → length d ≡ 8 * homes → left ≤ 0 → puts newest i (replicate left 255) ≡ puts d 0 (replicate (length d) 255)
    → newest ≡ nothing_kept homes
unfolding nothing_kept
ones-end newest d homes i left l h e =
    let z : left ≡ 0 = omega arith in
    let q : newest ≡ puts d 0 (replicate (length d) 255) = sym (puts-nil newest i) ∙ (rw z at e) in
    q ∙ puts_whole d (replicate (length d) 255) (sym (length-replicate (length d) 255)) ∙ ap (λ n. replicate n 255) l

-- ---- those before a bound

module _ (newest : List ℕ) (bound : ℕ) where
  -- one home more
  pub forget-more : (now after : List ℕ) (n : ℕ) → now ≡ forget newest bound n
      → after ≡ cond (ltb (kept_for now n) bound) (keep now n no_position) now → after ≡ forget newest bound (n + 1)
  unfolding forget
  forget-more now after n e q =
      let k : kept_for now n ≡ kept_for newest n = ap (λ xs. kept_for xs n) e ∙ forget-above newest bound n n (omega arith) in
      q ∙ rw (add-one n, k, e)

  pub forget-next : (now after : List ℕ) (n m : ℕ) → m ≡ n + 1 → now ≡ forget newest bound n
      → after ≡ cond (ltb (kept_for now n) bound) (keep now n no_position) now → after ≡ forget newest bound m
  forget-next now after n m k e q = rw k (forget-more now after n e q)
