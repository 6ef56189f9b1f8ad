-- Laws of the trace with one event more, and of the book read against it. The new event stands at position base + length tr.
-- Assumes nothing.
use Prim.Native.Nat.{ℕ, suc, ◌+◌, ◌-◌, ◌*◌, ◌/◌, ◌%◌, ◌≤◌, ◌<◌}
use mathlib.Core.Path.{◌≡◌, refl, sym, ap, ◌∙◌}
use mathlib.Core.Bool.{Bool, true, false, cond, ◌&&◌, false≢true, and-false}
use mathlib.Core.List.{List, [], ◌∷◌, ◌++◌, append_assoc}
use native.Mathlib.Omega.{arith}
use lib.Dec.{eqb, leb}
use lib.ListN.{length}
use borrow.Author.Tests.{eq-eqb, ne_eqb, eqb-true, eqb-false, leb-true, leb-false, lt-leb}
use Rattle.model.specs.Layout.{group_block, turn_of, with_top_bit}
use Rattle.model.specs.Book.{Entry, Commit, row, fate_at, survives, all_survive, run}
use Rattle.model.specs.DemandTwo.{closed_below}
use Rattle.model_laws.proofs.trace.Trace.{Ev, mine, set_open, advance, hist, block_on, closer_of, oldest_of}
use Rattle.model_laws.proofs.trace.TraceLaws.{at_here, All, all_map, Falling, first_of-inside, mine-holds, home_on-older, block_on-older, home_on-here, block_on-here, open-falling, done-inside, open-inside}
use Rattle.theorems.proofs.invariant.Invariant.{word_of, word_at, used_at, SoundAt, Sound, Holds, HoldsAt, entry_for, entries_for, Matches, Commits}

-- ---- words and uses by position

at_other : {A : Type 0} (p q : ℕ) (a b : A) → (p ≡ q → ⊥) → cond (eqb p q) a b ≡ b
at_other p q a b h = rw (ne_eqb p q h)

module _ (base : ℕ) (e : Ev) (tr : List Ev) where
  pub word-other : (p : ℕ) → (p ≡ base + length tr → ⊥) → word_at base (e ∷ tr) p ≡ word_at base tr p
  unfolding word_at
  word-other p h = at_other p (base + length tr) (word_of (base + length tr) e (mine (hist base tr) e) e.used e.final) (word_at base tr p) h

  pub used-other : (p : ℕ) → (p ≡ base + length tr → ⊥) → used_at base (e ∷ tr) p ≡ used_at base tr p
  unfolding used_at
  used-other p h = at_other p (base + length tr) e.used (used_at base tr p) h

  pub word-older : (p : ℕ) → p < base + length tr → word_at base (e ∷ tr) p ≡ word_at base tr p
  word-older p h = word-other p (λ q. omega arith)

  pub used-older : (p : ℕ) → p < base + length tr → used_at base (e ∷ tr) p ≡ used_at base tr p
  used-older p h = used-other p (λ q. omega arith)

  pub word-here : word_at base (e ∷ tr) (base + length tr) ≡ word_of (base + length tr) e (mine (hist base tr) e) e.used e.final
  unfolding word_at
  word-here = at_here (base + length tr) (word_of (base + length tr) e (mine (hist base tr) e) e.used e.final) (word_at base tr (base + length tr))

  pub word-used : e.used ≡ true → word_at base (e ∷ tr) (base + length tr) ≡ word_of (base + length tr) e (mine (hist base tr) e) true e.final
  word-used u = word-here ∙ ap (λ (t : Bool). word_of (base + length tr) e (mine (hist base tr) e) t e.final) u

  pub used-here : used_at base (e ∷ tr) (base + length tr) ≡ e.used
  unfolding used_at
  used-here = at_here (base + length tr) e.used (used_at base tr (base + length tr))

pub word-beyond : (base : ℕ) (tr : List Ev) (p : ℕ) → base + length tr ≤ p → word_at base tr p ≡ 0
unfolding word_at
word-beyond base [] p h = refl
word-beyond base (e ∷ tr) p h = word-other base e tr p (λ q. omega arith) ∙ word-beyond base tr p (omega arith)

pub used-beyond : (base : ℕ) (tr : List Ev) (p : ℕ) → base + length tr ≤ p → used_at base tr p ≡ false
unfolding used_at
used-beyond base [] p h = refl
used-beyond base (e ∷ tr) p h = used-other base e tr p (λ q. omega arith) ∙ used-beyond base tr p (omega arith)

pub word-before : (base : ℕ) (tr : List Ev) (p : ℕ) → p < base → word_at base tr p ≡ 0
unfolding word_at
word-before base [] p h = refl
word-before base (e ∷ tr) p h = word-other base e tr p (λ q. omega arith) ∙ word-before base tr p h

pub used-before : (base : ℕ) (tr : List Ev) (p : ℕ) → p < base → used_at base tr p ≡ false
unfolding used_at
used-before base [] p h = refl
used-before base (e ∷ tr) p h = used-other base e tr p (λ q. omega arith) ∙ used-before base tr p h

-- a position in use lies in the trace
pub used-inside : (base : ℕ) (tr : List Ev) (p : ℕ) → used_at base tr p ≡ true → (base ≤ p) × (p < base + length tr)
used-inside base tr p u = (low (leb base p) refl, high (leb (base + length tr) p) refl)
  where
    low : (t : Bool) → leb base p ≡ t → base ≤ p
    low true q = omega (arith, leb-true base p q)
    low false q = absurd (false≢true (sym (used-before base tr p (leb-false base p q)) ∙ u))

    high : (t : Bool) → leb (base + length tr) p ≡ t → p < base + length tr
    high true q = absurd (false≢true (sym (used-beyond base tr p (leb-true (base + length tr) p q)) ∙ u))
    high false q = leb-false (base + length tr) p q

-- nothing in use: the words and uses stay as they are, at every position
module _ (base : ℕ) (e : Ev) (tr : List Ev) (gap : e.used ≡ false) where
  pub word_gap : (p : ℕ) → word_at base (e ∷ tr) p ≡ word_at base tr p
  unfolding word_of
  word_gap p = go (eqb p (base + length tr)) refl
    where
      go : (t : Bool) → eqb p (base + length tr) ≡ t → word_at base (e ∷ tr) p ≡ word_at base tr p
      go true q =
          rw (eqb-true p (base + length tr) q, word-here base e tr, gap, word-beyond base tr (base + length tr) (omega arith))
      go false q = word-other base e tr p (eqb-false p (base + length tr) q)

  pub used-gap : (p : ℕ) → used_at base (e ∷ tr) p ≡ used_at base tr p
  used-gap p = go (eqb p (base + length tr)) refl
    where
      go : (t : Bool) → eqb p (base + length tr) ≡ t → used_at base (e ∷ tr) p ≡ used_at base tr p
      go true q =
          rw (eqb-true p (base + length tr) q, used-here base e tr, gap, used-beyond base tr (base + length tr) (omega arith))
      go false q = used-other base e tr p (eqb-false p (base + length tr) q)

-- ---- groups

pub holds-older : (G base : ℕ) (e : Ev) (tr : List Ev) (bytes : List ℕ) (n : ℕ) → 7 * n + 7 ≤ base + length tr
    → Holds G base tr bytes n → Holds G base (e ∷ tr) bytes n
holds-older G base e tr bytes n l h =
    record {
      size = h.size;
      mark = h.mark;
      number = h.number;
      words = λ k i. h.words k i ∙ sym (word-older base e tr (7 * n + k) (omega arith));
      turns = h.turns;
      blocks =
          λ k i u.
          rw (block_on-older base e tr (7 * n + k) (omega arith)) (h.blocks k i (sym (used-older base e tr (7 * n + k) (omega arith)) ∙ u));
    }

pub holds_at-older : (G base : ℕ) (e : Ev) (tr : List Ev) (bytes : List ℕ) (n k : ℕ) → 7 * n + k < base + length tr
    → HoldsAt G base tr bytes n k → HoldsAt G base (e ∷ tr) bytes n k
holds_at-older G base e tr bytes n k l h =
    record {
      mark = h.mark;
      number = h.number;
      word = h.word ∙ sym (word-older base e tr (7 * n + k) l);
      turn = h.turn;
      block = λ u. rw (block_on-older base e tr (7 * n + k) l) (h.block (sym (used-older base e tr (7 * n + k) l) ∙ u));
    }

-- a group that is held, entry by entry
pub holds_at : (G base : ℕ) (tr : List Ev) (bytes : List ℕ) (n k : ℕ) → k < 7 → Holds G base tr bytes n → HoldsAt G base tr bytes n k
holds_at G base tr bytes n k i h =
    record { mark = h.mark; number = h.number; word = h.words k i; turn = h.turns k i; block = h.blocks k i }

pub holds-gap : (G base : ℕ) (e : Ev) (tr : List Ev) (bytes : List ℕ) (n : ℕ) → e.used ≡ false
    → Holds G base tr bytes n → Holds G base (e ∷ tr) bytes n
holds-gap G base e tr bytes n gap h =
    record {
      size = h.size;
      mark = h.mark;
      number = h.number;
      words = λ k i. h.words k i ∙ sym (word_gap base e tr gap (7 * n + k));
      turns = h.turns;
      blocks = λ k i u. filled k i (sym (used-gap base e tr gap (7 * n + k)) ∙ u);
    }
  where
    filled : (k : ℕ) → k < 7 → used_at base tr (7 * n + k) ≡ true → group_block bytes k ≡ with_top_bit (block_on base (e ∷ tr) (7 * n + k)) (turn_of G n)
    filled k i u = rw (block_on-older base e tr (7 * n + k) (used-inside base tr (7 * n + k) u).1) (h.blocks k i u)

-- ---- the history

module _ (base : ℕ) (e : Ev) (tr : List Ev) where
  pub hist-gap : e.used ≡ false → hist base (e ∷ tr) ≡ hist base tr
  unfolding hist advance
  hist-gap u = rw u

  pub gap-done : e.used ≡ false → (hist base (e ∷ tr)).done ≡ (hist base tr).done
  gap-done u = rw (hist-gap u)

  pub gap-open : (x : ℕ) → e.used ≡ false → (hist base (e ∷ tr)).open_transaction x ≡ (hist base tr).open_transaction x
  gap-open x u = rw (hist-gap u)

  -- an entry that does not close its transaction
  pub open_done : e.final ≡ false → (hist base (e ∷ tr)).done ≡ (hist base tr).done
  unfolding hist advance
  open_done f = go e.used
    where
      go : (u : Bool) → (advance (base + length tr) e (hist base tr) u e.final).done ≡ (hist base tr).done
      go true = rw f
      go false = refl

  pub open-mine : e.used ≡ true → e.final ≡ false → (hist base (e ∷ tr)).open_transaction e.writer ≡ (base + length tr) ∷ mine (hist base tr) e
  unfolding hist advance set_open
  open-mine u f = rw (u, f, eq-eqb e.writer e.writer refl)

  -- one that does
  pub close-done : e.used ≡ true → e.final ≡ true
      → (hist base (e ∷ tr)).done ≡ (hist base tr).done ++ (((base + length tr) ∷ mine (hist base tr) e) ∷ [])
  unfolding hist advance
  close-done u f = rw (u, f)

  pub close-mine : e.used ≡ true → e.final ≡ true → (hist base (e ∷ tr)).open_transaction e.writer ≡ []
  unfolding hist advance set_open
  close-mine u f = rw (u, f, eq-eqb e.writer e.writer refl)

  -- whatever the event is, the other writers' transactions stay
  pub open-other : (x : ℕ) → (e.writer ≡ x → ⊥) → (hist base (e ∷ tr)).open_transaction x ≡ (hist base tr).open_transaction x
  unfolding hist advance set_open
  open-other x n = go e.used e.final
    where
      go : (u f : Bool) → (advance (base + length tr) e (hist base tr) u f).open_transaction x ≡ (hist base tr).open_transaction x
      go false f = refl
      go true true = rw (ne_eqb e.writer x n)
      go true false = rw (ne_eqb e.writer x n)

-- ---- the positions of transactions lie below the new event's

pub done_below : (base : ℕ) (tr : List Ev) → All (All (λ p. p < base + length tr)) (hist base tr).done
done_below base tr =
    all_map (All (λ p. (base ≤ p) × (p < base + length tr))) (All (λ p. p < base + length tr))
    (all_map (λ p. (base ≤ p) × (p < base + length tr)) (λ p. p < base + length tr) (λ p h. h.1)) (hist base tr).done (done-inside base tr)

pub open-below : (base : ℕ) (tr : List Ev) (x : ℕ) → All (λ p. p < base + length tr) ((hist base tr).open_transaction x)
open-below base tr x =
    all_map (λ p. (base ≤ p) × (p < base + length tr)) (λ p. p < base + length tr) (λ p h. h.1) ((hist base tr).open_transaction x) (open-inside base tr x)

pub mine-below : (base : ℕ) (e : Ev) (tr : List Ev) → All (λ p. p < base + length tr) (mine (hist base tr) e)
mine-below base e tr = mine-holds (All (λ p. p < base + length tr)) (hist base tr) e tt (open-below base tr e.writer)

-- the first position of the transaction that the new event belongs to
pub oldest-upto : (base : ℕ) (e : Ev) (tr : List Ev)
    → (base ≤ oldest_of ((base + length tr) ∷ mine (hist base tr) e))
    × (oldest_of ((base + length tr) ∷ mine (hist base tr) e) ≤ base + length tr)
unfolding oldest_of
oldest-upto base e tr =
    first_of-inside base (suc (base + length tr)) (base + length tr) (mine (hist base tr) e)
    (omega arith, omega arith, mine-holds (Falling base (base + length tr)) (hist base tr) e tt (open-falling base tr e.writer))

-- ---- the book's entries

entry-older : (b : ℕ) (e : Ev) (tr : List Ev) (p : ℕ) → p < 7 * b + length tr → entry_for b (e ∷ tr) p ≡ entry_for b tr p
unfolding entry_for
entry-older b e tr p h = rw (home_on-older (7 * b) e tr p h, block_on-older (7 * b) e tr p h)

pub entries-older : (b : ℕ) (e : Ev) (tr : List Ev) (ps : List ℕ) → All (λ p. p < 7 * b + length tr) ps → entries_for b (e ∷ tr) ps ≡ entries_for b tr ps
unfolding entries_for
entries-older b e tr [] h = refl
entries-older b e tr (p ∷ ps) h = rw (entries-older b e tr ps h.1, entry-older b e tr p h.0)

-- a transaction whose newest entry is the new event
pub entries-here : (b : ℕ) (e : Ev) (tr : List Ev) (ps : List ℕ) → All (λ p. p < 7 * b + length tr) ps
    → entries_for b (e ∷ tr) ((7 * b + length tr) ∷ ps)
    ≡ entries_for b tr ps ++ (record { home = e.home; block = e.block; landing = row ((7 * b + length tr) / 7 - b) ((7 * b + length tr) % 7) } ∷ [])
unfolding entries_for entry_for
entries-here b e tr ps h = rw (entries-older b e tr ps h, home_on-here (7 * b) e tr, block_on-here (7 * b) e tr)

pub matches-older : (b : ℕ) (e : Ev) (tr : List Ev) (cs : List Commit) (ts : List (List ℕ)) → All (All (λ p. p < 7 * b + length tr)) ts
    → Matches b tr cs ts → Matches b (e ∷ tr) cs ts
matches-older b e tr [] [] h m = tt
matches-older b e tr [] (t ∷ ts) h m = m
matches-older b e tr (c ∷ cs) [] h m = m
matches-older b e tr (c ∷ cs) (t ∷ ts) h m = (m.0 ∙ sym (entries-older b e tr t h.0), m.1, matches-older b e tr cs ts h.1 m.2)

pub matches-snoc : (b : ℕ) (tr : List Ev) (cs : List Commit) (ts : List (List ℕ)) (c : Commit) (t : List ℕ) → c.entries ≡ entries_for b tr t
    → c.ticket ≡ closer_of t + 1 → Matches b tr cs ts → Matches b tr (cs ++ (c ∷ [])) (ts ++ (t ∷ []))
matches-snoc b tr [] [] c t es k m = (es, k, tt)
matches-snoc b tr [] (u ∷ ts) c t es k m = absurd m
matches-snoc b tr (d ∷ cs) [] c t es k m = absurd m
matches-snoc b tr (d ∷ cs) (u ∷ ts) c t es k m = (m.0, m.1, matches-snoc b tr cs ts c t es k m.2)

-- ---- the book's commits

module _ (D b : ℕ) (e : Ev) (tr : List Ev) (old cs : List Commit) where
  commits-same : (hist (7 * b) (e ∷ tr)).done ≡ (hist (7 * b) tr).done → Commits D b tr old cs → Commits D b (e ∷ tr) old cs
  commits-same q known =
      record {
        new = known.new;
        split = known.split;
        past = known.past;
        matches = rw q (matches-older b e tr known.new (hist (7 * b) tr).done (done_below (7 * b) tr) known.matches);
      }

  pub commits-gap : e.used ≡ false → Commits D b tr old cs → Commits D b (e ∷ tr) old cs
  commits-gap u known = commits-same (gap-done (7 * b) e tr u) known

  pub commits-open : e.final ≡ false → Commits D b tr old cs → Commits D b (e ∷ tr) old cs
  commits-open f known = commits-same (open_done (7 * b) e tr f) known

  pub commits-close : (c : Commit) → e.used ≡ true → e.final ≡ true
      → c.entries ≡ entries_for b (e ∷ tr) ((7 * b + length tr) ∷ mine (hist (7 * b) tr) e) → c.ticket ≡ 7 * b + length tr + 1
      → Commits D b tr old cs → Commits D b (e ∷ tr) old (cs ++ (c ∷ []))
  unfolding closer_of
  commits-close c u f es k known =
      record {
        new = known.new ++ (c ∷ []);
        split = rw (known.split, append_assoc);
        past = known.past;
        matches =
            rw (close-done (7 * b) e tr u f)
            (matches-snoc b (e ∷ tr) known.new (hist (7 * b) tr).done c ((7 * b + length tr) ∷ mine (hist (7 * b) tr) e) es k
            (matches-older b e tr known.new (hist (7 * b) tr).done (done_below (7 * b) tr) known.matches));
      }

-- ---- the run, and the commits below a bound

pub survive-append : (fs : List (ℕ → Bool)) (xs ys : List Entry) → all_survive fs (xs ++ ys) ≡ (all_survive fs xs && all_survive fs ys)
unfolding all_survive
survive-append fs [] ys = refl
survive-append fs (x ∷ xs) ys = go (survives fs x.landing) (survive-append fs xs ys)
  where
    go : (t : Bool) → all_survive fs (xs ++ ys) ≡ (all_survive fs xs && all_survive fs ys)
        → (t && all_survive fs (xs ++ ys)) ≡ ((t && all_survive fs xs) && all_survive fs ys)
    go true q = q
    go false q = refl

-- the newest of a transaction's entries has not persisted
pub survive-newest : (fs : List (ℕ → Bool)) (b : ℕ) (tr : List Ev) (p : ℕ) (ps : List ℕ) → fate_at fs (p / 7 - b) (p % 7) ≡ false
    → all_survive fs (entries_for b tr (p ∷ ps)) ≡ false
unfolding entries_for entry_for all_survive survives
survive-newest fs b tr p ps h = survive-append fs (entries_for b tr ps) (entry_for b tr p ∷ []) ∙ rw h (and-false (all_survive fs (entries_for b tr ps)))

pub run-snoc : (fs : List (ℕ → Bool)) (cs : List Commit) (c : Commit) → all_survive fs c.entries ≡ false → run fs (cs ++ (c ∷ [])) ≡ run fs cs
unfolding run
run-snoc fs [] c h = rw h
run-snoc fs (d ∷ cs) c h = rw (run-snoc fs cs c h)

pub closed-snoc : (bound : ℕ) (cs : List Commit) (c : Commit) → bound < c.ticket → closed_below bound (cs ++ (c ∷ [])) ≡ closed_below bound cs
unfolding closed_below
closed-snoc bound [] c h = rw (lt-leb c.ticket bound h)
closed-snoc bound (d ∷ cs) c h = rw (closed-snoc bound cs c h)

-- ---- every tag fits

pub sound-grow : (base D : ℕ) (e : Ev) (tr : List Ev) → (e.used ≡ true → SoundAt D (base + length tr) e (mine (hist base tr) e)) → Sound base D tr
    → Sound base D (e ∷ tr)
sound-grow base D e tr h s = (h, s)

pub sound-gap : (base D : ℕ) (e : Ev) (tr : List Ev) → e.used ≡ false → Sound base D tr → Sound base D (e ∷ tr)
sound-gap base D e tr u s = (λ q. absurd (false≢true (sym u ∙ q)), s)
