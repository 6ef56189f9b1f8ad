-- Laws of the book's run after a crash against what is left whole of the trace (run of specs/Book, whole of Trace). Assumes nothing.
use Prim.Native.Nat.{ℕ, suc, ◌+◌, ◌-◌, ◌/◌, ◌%◌, ◌≤◌, ◌<◌}
use mathlib.Core.Path.{◌≡◌, refl, sym, ap, ◌∙◌}
use mathlib.Core.Bool.{Bool, true, false, cond, and-true, and_comm}
use mathlib.Core.List.{List, [], ◌∷◌, ◌++◌}
use native.Mathlib.Omega.{arith}
use lib.Dec.{leb, ltb}
use borrow.Author.Tests.{leb-true, leb-false, lt-ltb, le-ltb}
use Rattle.model.specs.Book.{Entry, Commit, fate_at, survives, all_survive, run}
use Rattle.model.specs.DemandTwo.{closed_below}
use Rattle.model_laws.proofs.trace.Trace.{Ev, closer_of, closing_from, all_landed, whole}
use Rattle.model_laws.proofs.trace.TraceLaws.{All, Rising}
use Rattle.model_laws.proofs.trace.WholeLaws.{closing_from-all}
use Rattle.model_laws.proofs.trace.WalkLaws.{closing_below}
use Rattle.theorems.proofs.invariant.Invariant.{entry_for, entries_for, Matches, OldEntries, OldCommits, landed_in}
use Rattle.theorems.proofs.invariant.GrowLaws.{survive-append}
use Rattle.theorems.proofs.invariant.OpenLaws.{closed-old}

-- ---- the run

-- the entries of a transaction survive just if its positions persisted
pub survive-landed : (b : ℕ) (tr : List Ev) (fs : List (ℕ → Bool)) (t : List ℕ) → all_survive fs (entries_for b tr t) ≡ all_landed (landed_in b fs) t
unfolding all_survive entries_for entry_for survives all_landed landed_in
survive-landed b tr fs [] = refl
survive-landed b tr fs (p ∷ ps) =
    survive-append fs (entries_for b tr ps) (entry_for b tr p ∷ [])
    ∙ rw (survive-landed b tr fs ps, and-true (fate_at fs (p / 7 - b) (p % 7)))
    (and_comm (all_landed (landed_in b fs) ps) (fate_at fs (p / 7 - b) (p % 7)))

pub run-matches : (b : ℕ) (tr : List Ev) (fs : List (ℕ → Bool)) (cs : List Commit) (ts : List (List ℕ)) → Matches b tr cs ts
    → Matches b tr (run fs cs) (whole (landed_in b fs) ts)
unfolding run whole
run-matches b tr fs [] [] m = tt
run-matches b tr fs [] (t ∷ ts) m = absurd m
run-matches b tr fs (c ∷ cs) [] m = absurd m
run-matches b tr fs (c ∷ cs) (t ∷ ts) m =
    let e : all_survive fs c.entries ≡ all_landed (landed_in b fs) t = ap (all_survive fs) m.0 ∙ survive-landed b tr fs t in
    rw e (go (all_landed (landed_in b fs) t) (run-matches b tr fs cs ts m.2))
  where
    go : (d : Bool) → Matches b tr (run fs cs) (whole (landed_in b fs) ts)
        → Matches b tr (cond d (c ∷ run fs cs) []) (cond d (t ∷ whole (landed_in b fs) ts) [])
    go true h = (m.0, m.1, h)
    go false h = tt

-- commits of earlier eras stay
survive-old : (D : ℕ) (fs : List (ℕ → Bool)) (es : List Entry) → OldEntries D es → all_survive fs es ≡ true
unfolding all_survive survives
survive-old D fs [] h = refl
survive-old D fs (e ∷ es) h = rw (h.0, survives) (survive-old D fs es h.3)

pub run-old : (D : ℕ) (fs : List (ℕ → Bool)) (old new : List Commit) → OldCommits D old → run fs (old ++ new) ≡ old ++ run fs new
unfolding run
run-old D fs [] new h = refl
run-old D fs (c ∷ cs) new h = rw (survive-old D fs c.entries h.1, run-old D fs cs new h.2)

-- ---- the commits that close below c

closed-append : (c : ℕ) (xs ys : List Commit) → closed_below c (xs ++ ys) ≡ closed_below c xs ++ closed_below c ys
unfolding closed_below
closed-append c [] ys = refl
closed-append c (k ∷ xs) ys = go (leb k.ticket c) (closed-append c xs ys)
  where
    go : (b : Bool) → closed_below c (xs ++ ys) ≡ closed_below c xs ++ closed_below c ys
        → cond b (k ∷ closed_below c (xs ++ ys)) (closed_below c (xs ++ ys)) ≡ cond b (k ∷ closed_below c xs) (closed_below c xs) ++ closed_below c ys
    go true h = rw h
    go false h = h

pub closed_below-old : (D c : ℕ) (old new : List Commit) → OldCommits D old → closed_below c (old ++ new) ≡ old ++ closed_below c new
closed_below-old D c old new h = closed-append c old new ∙ rw (closed-old D c old h)

-- a closing position below c, as a ticket
pub ticket-below : (p c : ℕ) → leb (p + 1) c ≡ ltb p c
ticket-below p c = go (leb (p + 1) c) refl
  where
    go : (b : Bool) → leb (p + 1) c ≡ b → b ≡ ltb p c
    go true e = sym (lt-ltb p c (omega (arith, leb-true (p + 1) c e)))
    go false e = sym (le-ltb p c (omega (arith, leb-false (p + 1) c e)))

pub closed_below-matches : (b : ℕ) (tr : List Ev) (c : ℕ) (cs : List Commit) (ts : List (List ℕ)) → Matches b tr cs ts
    → Matches b tr (closed_below c cs) (closing_below c ts)
unfolding closed_below closing_below
closed_below-matches b tr c [] [] m = tt
closed_below-matches b tr c [] (t ∷ ts) m = absurd m
closed_below-matches b tr c (k ∷ cs) [] m = absurd m
closed_below-matches b tr c (k ∷ cs) (t ∷ ts) m =
    let e : leb k.ticket c ≡ ltb (closer_of t) c = ap (λ x. leb x c) m.1 ∙ ticket-below (closer_of t) c in
    rw e (go (ltb (closer_of t) c) (closed_below-matches b tr c cs ts m.2))
  where
    go : (d : Bool) → Matches b tr (closed_below c cs) (closing_below c ts)
        → Matches b tr (cond d (k ∷ closed_below c cs) (closed_below c cs)) (cond d (t ∷ closing_below c ts) (closing_below c ts))
    go true h = (m.0, m.1, h)
    go false h = h

-- ---- what is left whole, where all that closes below c persisted

abbrev pub SafeBelow : (ℕ → Bool) → ℕ → List ℕ → Type 0
SafeBelow landed c t = closer_of t < c → all_landed landed t ≡ true

pub none_below : (c low high : ℕ) (ts : List (List ℕ)) → c ≤ low → Rising low high ts → closing_below c ts ≡ []
unfolding closing_below
none_below c low high [] h r = refl
none_below c low high (t ∷ ts) h r = rw (le-ltb (closer_of t) c (omega arith)) (none_below c (suc (closer_of t)) high ts (omega arith) r.2)

pub whole_split : (landed : ℕ → Bool) (c low high : ℕ) (ts : List (List ℕ)) → Rising low high ts → All (SafeBelow landed c) ts
    → whole landed ts ≡ closing_below c ts ++ whole landed (closing_from c ts)
unfolding whole closing_below closing_from
whole_split landed c low high [] r s = refl
whole_split landed c low high (t ∷ ts) r s = go (leb c (closer_of t)) refl (whole_split landed c (suc (closer_of t)) high ts r.2 s.1)
  where
    go : (b : Bool) → leb c (closer_of t) ≡ b → whole landed ts ≡ closing_below c ts ++ whole landed (closing_from c ts)
        → cond (all_landed landed t) (t ∷ whole landed ts) []
        ≡ cond (ltb (closer_of t) c) (t ∷ closing_below c ts) (closing_below c ts) ++ whole landed (cond b (t ∷ closing_from c ts) (closing_from c ts))
    go true e ih =
        let h : c ≤ closer_of t = leb-true c (closer_of t) e in
        let n : closing_below c ts ≡ [] = none_below c (suc (closer_of t)) high ts (omega arith) r.2 in
        let a : closing_from c ts ≡ ts = closing_from-all c (suc (closer_of t)) high ts (omega arith) r.2 in
        rw (le-ltb (closer_of t) c h, n, a)
    go false e ih =
        let h : closer_of t < c = leb-false c (closer_of t) e in
        rw (lt-ltb (closer_of t) c h, s.0 h) (ap (λ (l : List (List ℕ)). t ∷ l) ih)

pub whole_above : (landed : ℕ → Bool) (c : ℕ) (ts : List (List ℕ)) → All (SafeBelow landed c) ts
    → closing_from c (whole landed ts) ≡ whole landed (closing_from c ts)
unfolding whole closing_from
whole_above landed c [] s = refl
whole_above landed c (t ∷ ts) s = go (leb c (closer_of t)) refl (whole_above landed c ts s.1)
  where
    above : leb c (closer_of t) ≡ true → (d : Bool) → closing_from c (whole landed ts) ≡ whole landed (closing_from c ts)
        → closing_from c (cond d (t ∷ whole landed ts) []) ≡ cond d (t ∷ whole landed (closing_from c ts)) []
    above e true ih = rw (e, ih)
    above e false ih = refl

    go : (b : Bool) → leb c (closer_of t) ≡ b → closing_from c (whole landed ts) ≡ whole landed (closing_from c ts)
        → closing_from c (cond (all_landed landed t) (t ∷ whole landed ts) []) ≡ whole landed (cond b (t ∷ closing_from c ts) (closing_from c ts))
    go true e ih = above e (all_landed landed t) ih
    go false e ih = rw (s.0 (leb-false c (closer_of t) e), e) ih
