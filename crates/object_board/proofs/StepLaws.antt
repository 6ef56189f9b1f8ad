-- What a call of an era leaves of the world, done or refused.
use Prim.Native.Nat.{ℕ, zero, suc, ◌+◌, ◌≤◌}
use mathlib.Core.Path.{◌≡◌, refl, sym, ap, ◌∙◌}
use mathlib.Core.Bool.{Bool, true, false, cond}
use mathlib.Core.List.{List, [], ◌∷◌, ◌++◌}
use mathlib.Core.Option.{some}
use native.Mathlib.Omega.{arith}
use lib.ListN.{length, take}
use borrow.Author.Tests.{ne_eqb}
use Rattle.model.specs.Bytes.{part}
use Rattle.model.specs.Batch.{Record}
use Rattle.model.specs.State.{state_of}
use Rattle.model.specs.Layout.{header_start}
use Rattle.model.specs.Crash.{Memory, fences}
use Rattle.model.specs.DemandTwo.{group_writes}
use Rattle.model.specs.History.{Call, call, World, ends, is_opening, is_confirm, after_call, after_done, after_refused, step}
use Rattle.model_laws.proofs.trace.CrashLaws.{group_writes-append}
use Rattle.theorems.proofs.invariant.Invariant.{Running}
use Rattle.object_runner.specs.Always.{batch_of, records_of}
use Rattle.object_runner.proofs.DueSteps.{next-written}
use Rattle.object_board.specs.Board.{fed_by}

pub record Stepped (w : World) (c : Call) (v : World) (code : ℕ) : Type 0 where
  pub state : v.state ≡ (ends w c).state
  pub newest : v.newest ≡ (ends w c).newest
  pub log : v.log ≡ (ends w c).log
  pub area : v.area ≡ (ends w c).area
  pub homes : v.homes ≡ w.homes
  pub memory : v.memory ≡ w.memory
  pub pending : v.pending ≡ w.pending ++ records_of (ends w c)
  pub ready : v.ready ≡ true
  pub passed : v.passed ≤ fences w.pending
  pub book : v.book ≡ fed_by w.book (some c) code (ends w c).figure

pub stepped : (w : World) (c : Call) → is_opening c ≡ false → w.ready ≡ true → w.passed ≤ fences w.pending
    → Stepped w c (step w (call c)) (ends w c).code
unfolding step fed_by records_of batch_of
stepped w c o r p = go (ends w c).code
  where
    most : (d : Bool) → cond d (fences w.pending) w.passed ≤ fences w.pending
    most true = omega arith
    most false = p

    go : (n : ℕ) → Stepped w c (after_call w c (ends w c) n) n
    go zero =
        unfold after_call after_done in
        record {
          state = refl;
          newest = refl;
          log = refl;
          area = refl;
          homes = refl;
          memory = refl;
          pending = refl;
          ready = refl;
          passed = most (is_confirm c);
          book = refl;
        }
    go (suc n) =
        unfold after_call after_refused in
        record {
          state = rw o;
          newest = rw o;
          log = rw o;
          area = rw o;
          homes = refl;
          memory = refl;
          pending = refl;
          ready = r;
          passed = p;
          book = rw (ne_eqb (suc n) 0 (λ q. omega (arith, q)));
        }

-- groups are submitted, never taken back
pub next_grows : (G D : ℕ) (w v : World) → Running G D w → Running G D v → (rs : List Record) → v.memory ≡ w.memory → v.pending ≡ w.pending ++ rs
    → (state_of w.state).next ≤ (state_of v.state).next
next_grows G D w v r q rs m e =
    let a = next-written G D w r in
    let b = next-written G D v q in
    let f : group_writes v.pending ≡ group_writes w.pending + group_writes rs = ap group_writes e ∙ group_writes-append w.pending rs in
    let s : q.b ≡ r.b = q.since ∙ ap (λ (x : Memory). header_start x.log + G) m ∙ sym r.since in
    omega (arith, a, b, f, s)

-- lists of the same length have fronts of the same length
pub take_long : (n : ℕ) (xs ys : List ℕ) → length xs ≡ length ys → length (take n xs) ≡ length (take n ys)
take_long zero xs ys e = refl
take_long (suc n) [] [] e = refl
take_long (suc n) [] (y ∷ ys) e = absurd (omega (arith, e))
take_long (suc n) (x ∷ xs) [] e = absurd (omega (arith, e))
take_long (suc n) (x ∷ xs) (y ∷ ys) e = ap suc (take_long n xs ys (omega (arith, e)))

pub front_long : (n : ℕ) (xs ys : List ℕ) → length xs ≡ length ys → length (part xs 0 n) ≡ length (part ys 0 n)
unfolding part
front_long n xs ys e = take_long n xs ys e

pub front-is : (n : ℕ) (xs : List ℕ) → part xs 0 n ≡ take n xs
unfolding part
front-is n xs = refl

take-few : (n : ℕ) (xs : List ℕ) → length (take n xs) ≤ n
take-few zero xs = omega arith
take-few (suc n) [] = omega arith
take-few (suc n) (x ∷ xs) = omega (arith, take-few n xs)

pub front-few : (n : ℕ) (xs : List ℕ) → length (part xs 0 n) ≤ n
unfolding part
front-few n xs = take-few n xs

take_whole : (n : ℕ) (xs : List ℕ) → n ≤ length xs → length (take n xs) ≡ n
take_whole zero xs h = refl
take_whole (suc n) [] h = absurd (omega (arith, h))
take_whole (suc n) (x ∷ xs) h = ap suc (take_whole n xs (omega (arith, h)))

pub front-whole : (n : ℕ) (xs : List ℕ) → n ≤ length xs → length (part xs 0 n) ≡ n
unfolding part
front-whole n xs h = take_whole n xs h
