-- What the board needs of the bare calls' histories, machine or none: a loss of power or of a driver, a sync, an opening's answers, lengths.
use Prim.Native.Nat.{ℕ, zero, suc, ◌+◌, ◌*◌, ◌≤◌}
use mathlib.Core.Path.{◌≡◌, refl, sym, ap, subst}
use mathlib.Core.Bool.{Bool, true, false, cond, ◌&&◌, ◌||◌}
use mathlib.Core.List.{List, [], ◌∷◌, ◌++◌}
use native.Mathlib.Omega.{arith}
use lib.Dec.{leb}
use lib.ListN.{length, take, length-append}
use borrow.Author.Tests.{le-leb}
use Rattle.model.specs.Book.{Commit, run, owed_by, all_survive}
use Rattle.model.specs.Effects.{marked}
use Rattle.model_laws.proofs.trace.Trace.{Ev, hist, closer_of}
use Rattle.model_laws.proofs.trace.TraceLaws.{All, Falling, Long, done-falling, done-long}
use Rattle.theorems.proofs.invariant.Invariant.{Matches, OldCommits, Commits}
use Rattle.theorems.proofs.demands.Yields.{PastOwed}
use Rattle.object_board.specs.Board.{AllOwed}

-- ---- lists of commits

pub run_is : (fs : List (ℕ → Bool)) (cs : List Commit) → take (length (run fs cs)) cs ≡ run fs cs
unfolding run
run_is fs [] = refl
run_is fs (c ∷ cs) = go (all_survive fs c.entries) (run_is fs cs)
  where
    go : (d : Bool) → take (length (run fs cs)) cs ≡ run fs cs → take (length (cond d (c ∷ run fs cs) [])) (c ∷ cs) ≡ cond d (c ∷ run fs cs) []
    go true h = ap (λ (x : List Commit). c ∷ x) h
    go false h = refl

pub run-within : (fs : List (ℕ → Bool)) (cs : List Commit) → length (run fs cs) ≤ length cs
unfolding run
run-within fs [] = omega arith
run-within fs (c ∷ cs) = go (all_survive fs c.entries) (run-within fs cs)
  where
    go : (d : Bool) → length (run fs cs) ≤ length cs → length (cond d (c ∷ run fs cs) []) ≤ length (c ∷ cs)
    go true h = omega arith
    go false h = omega arith

ticket-owed : (mark ticket : ℕ) (owed : Bool) → (ticket ≡ 0 → owed ≡ true) → ticket ≤ mark → (owed || (leb 1 ticket && leb ticket mark)) ≡ true
ticket-owed mark zero owed h l = rw (h refl)
ticket-owed mark (suc n) true h l = refl
ticket-owed mark (suc n) false h l = rw (le-leb 1 (suc n) (omega arith), le-leb (suc n) mark l)

pub owed-up-to : (mark : ℕ) (cs : List Commit) → PastOwed cs → All (λ c. c.ticket ≤ mark) cs → AllOwed (owed_by mark cs)
unfolding owed_by
owed-up-to mark [] p l = tt
owed-up-to mark (c ∷ cs) p l = (ticket-owed mark c.ticket c.owed p.0 l.0, owed-up-to mark cs p.1 l.1)

new-below : (b high : ℕ) (tr : List Ev) (cs : List Commit) (ts : List (List ℕ)) → Matches b tr cs ts → All Long ts → All (Falling (7 * b) high) ts
    → All (λ (c : Commit). c.ticket ≤ high) cs
unfolding closer_of
new-below b high tr [] ts m l f = tt
new-below b high tr (c ∷ cs) [] m l f = absurd m
new-below b high tr (c ∷ cs) ([] ∷ ts) m l f = absurd l.0
new-below b high tr (c ∷ cs) ((p ∷ ps) ∷ ts) m l f = (omega (arith, m.1, f.0.1), new-below b high tr cs ts m.2 l.1 f.1)

old_below : (D high : ℕ) (cs more : List Commit) → OldCommits D cs → All (λ (c : Commit). c.ticket ≤ high) more → All (λ (c : Commit). c.ticket ≤ high) (cs ++ more)
old_below D high [] more o m = m
old_below D high (c ∷ cs) more o m = (omega (arith, o.0), old_below D high cs more o.2 m)

-- no commit has a ticket above the next position
pub tickets-below : (D b : ℕ) (tr : List Ev) (old commits : List Commit) → Commits D b tr old commits → All (λ c. c.ticket ≤ 7 * b + length tr) commits
tickets-below D b tr old commits k =
    subst (λ (x : List Commit). All (λ (c : Commit). c.ticket ≤ 7 * b + length tr) x) (sym k.split)
    (old_below D (7 * b + length tr) old k.new k.past
    (new-below b (7 * b + length tr) tr k.new (hist (7 * b) tr).done k.matches (done-long (7 * b) tr) (done-falling (7 * b) tr)))

-- ---- marked numbers

pub marked-few : (test : ℕ → Bool) (n : ℕ) → length (marked test n) ≤ n
unfolding marked
marked-few test zero = omega arith
marked-few test (suc n) = go (test n) (marked-few test n)
  where
    go : (d : Bool) → length (marked test n) ≤ n → length (marked test n ++ cond d (n ∷ []) []) ≤ suc n
    go true h = omega (arith, length-append (marked test n) (n ∷ []))
    go false h = omega (arith, length-append (marked test n) [])
