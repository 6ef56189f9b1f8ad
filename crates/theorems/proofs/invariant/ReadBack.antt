-- A log that shows what the trace has reads back as the book's commits, entry by entry. Assumes nothing.
use Prim.Native.Nat.{ℕ, ◌*◌}
use mathlib.Core.Path.{◌≡◌, refl}
use mathlib.Core.Bool.{Bool, true, false, cond}
use mathlib.Core.List.{List, [], ◌∷◌, ◌++◌}
use native.Mathlib.Omega.{arith}
use lib.Dec.{leb}
use borrow.Author.Tests.{le-ltb}
use Rattle.model.specs.Tag.{home_of}
use Rattle.model.specs.declared.Tag.{Tag}
use Rattle.model.specs.Layout.{block_at}
use Rattle.model.specs.Book.{Entry, Commit}
use Rattle.model.specs.DemandTwo.{contents, each_contents, held_entries, untrimmed}
use Rattle.model_laws.proofs.trace.Trace.{Ev, home_on, block_on, closer_of, closing_from}
use Rattle.model_laws.proofs.trace.TraceLaws.{All}
use Rattle.theorems.proofs.invariant.Invariant.{entry_for, entries_for, Matches, OldCommits}
use Rattle.theorems.proofs.invariant.BookReplay.{ticket-above}

-- a log shows, at a position, the home and the block that the trace has there
abbrev pub SeenIn : (ℕ → Tag) → List ℕ → ℕ → ℕ → List Ev → ℕ → Type 0
SeenIn tags log G b tr p = (home_of (tags p) ≡ home_on (7 * b) tr p) × (block_at log G p ≡ block_on (7 * b) tr p)

held-append : (xs ys : List Entry) → held_entries (xs ++ ys) ≡ held_entries xs ++ held_entries ys
unfolding held_entries
held-append [] ys = refl
held-append (e ∷ xs) ys = rw (held-append xs ys)

contents-held : (tags : ℕ → Tag) (log : List ℕ) (G b : ℕ) (tr : List Ev) (t : List ℕ) → All (SeenIn tags log G b tr) t
    → contents tags log G t ≡ held_entries (entries_for b tr t)
unfolding contents held_entries entries_for entry_for
contents-held tags log G b tr [] a = refl
contents-held tags log G b tr (p ∷ ps) a =
    rw (contents-held tags log G b tr ps a.1, a.0.0, a.0.1, held-append (entries_for b tr ps) (entry_for b tr p ∷ []))

pub untrimmed-old : (D c : ℕ) (old new : List Commit) → OldCommits D old → untrimmed c (old ++ new) ≡ untrimmed c new
unfolding untrimmed
untrimmed-old D c [] new h = refl
untrimmed-old D c (k ∷ ks) new h = rw (h.0, le-ltb c 0 (omega arith)) (untrimmed-old D c ks new h.2)

pub untrimmed-matches : (tags : ℕ → Tag) (log : List ℕ) (G b : ℕ) (tr : List Ev) (c : ℕ) (cs : List Commit) (ts : List (List ℕ)) → Matches b tr cs ts
    → All (All (SeenIn tags log G b tr)) (closing_from c ts) → each_contents tags log G (closing_from c ts) ≡ untrimmed c cs
unfolding untrimmed closing_from each_contents
untrimmed-matches tags log G b tr c [] [] m a = refl
untrimmed-matches tags log G b tr c [] (t ∷ ts) m a = absurd m
untrimmed-matches tags log G b tr c (k ∷ cs) [] m a = absurd m
untrimmed-matches tags log G b tr c (k ∷ cs) (t ∷ ts) m a =
    rw (m.0, m.1, ticket-above (closer_of t) c) (go (leb c (closer_of t)) a (untrimmed-matches tags log G b tr c cs ts m.2))
  where
    go : (d : Bool) → All (All (SeenIn tags log G b tr)) (cond d (t ∷ closing_from c ts) (closing_from c ts))
        → (All (All (SeenIn tags log G b tr)) (closing_from c ts) → each_contents tags log G (closing_from c ts) ≡ untrimmed c cs)
        → each_contents tags log G (cond d (t ∷ closing_from c ts) (closing_from c ts))
        ≡ cond d (held_entries (entries_for b tr t) ∷ untrimmed c cs) (untrimmed c cs)
    go true a ih = rw (contents-held tags log G b tr t a.0, ih a.1)
    go false a ih = ih a
