-- Logging a writer's held block: the event, its tag and the book's entry.
use mathlib.Core.Path.{◌≡◌, refl, sym, ◌∙◌}
use mathlib.Core.Logic.{inl, inr}
use mathlib.Core.Bool.{Bool, true, false, cond}
use mathlib.Core.List.{List, [], ◌∷◌, ◌++◌}
use mathlib.Core.Option.{Option, none, some}
use Prim.Native.Nat.{ℕ, ◌+◌, ◌-◌, ◌*◌, ◌≤◌}
use native.Mathlib.Omega.{arith}
use lib.ListN.{length}
use lib.Dec.{eqb, leb}
use borrow.Author.Tests.{eq-eqb, ne_eqb, le-leb, lt-leb, leb-true, leb-false}
use Rattle.model.specs.State.{has_logged, first_for, count_for}
use Rattle.model.specs.declared.State.{State}
use Rattle.model.specs.declared.Writer.{Writer}
use Rattle.model.specs.Effects.{link_from}
use Rattle.model.specs.Book.{Task, opened, Book, submit, grown, filled_up}
use Rattle.model_laws.proofs.trace.Trace.{Ev, Hist, mine, first_of, closer_of, oldest_of, LinkOk}
use Rattle.model_laws.proofs.trace.TraceLaws.{Rising}
use Rattle.model_laws.proofs.trace.LinkLaws.{last_from, Below, below_last}
use Rattle.theorems.proofs.invariant.Invariant.{entries_for, TaskOk, LastOk, last_closer}

pub filled-tasks : (k : Book) → (filled_up k).tasks ≡ k.tasks
unfolding filled_up submit grown
filled-tasks k = go (eqb k.filled 6)
  where
    go : (t : Bool) → (cond t (submit k) (grown k)).tasks ≡ k.tasks
    go true = refl
    go false = refl

pub filled-commits : (k : Book) → (filled_up k).commits ≡ k.commits
unfolding filled_up submit grown
filled-commits k = go (eqb k.filled 6)
  where
    go : (t : Bool) → (cond t (submit k) (grown k)).commits ≡ k.commits
    go true = refl
    go false = refl

-- the event that logs a held block
unfoldable pub event : ℕ → Writer → List ℕ → Bool → ℕ → Ev
event v r held final link =
    record { used = true; writer = v; home = r.home; block = held; fresh = eqb r.mode 2; final = final; link = link }

-- the positions that its transaction has so far
unfoldable pub so_far : Writer → List ℕ → List ℕ
so_far r ps = cond (eqb r.mode 2) [] ps

pub record Logging (b : ℕ) (tr : List Ev) (r : Writer) (held ps : List ℕ) (t : Task) (p : ℕ) : Type 0 where
  pub task : t ≡ opened (entries_for b tr (so_far r ps)) (some (record { home = r.home; block = held }))
  pub first : first_of p (so_far r ps) ≡ first_for r p
  pub count : length (so_far r ps) ≡ count_for r

first_any : (p q : ℕ) (qs : List ℕ) → first_of p (q ∷ qs) ≡ oldest_of (q ∷ qs)
unfolding first_of oldest_of
first_any p q qs = refl

pub logging-task : (b : ℕ) (tr : List Ev) (r : Writer) (held ps : List ℕ) (t : Task) (p : ℕ) → 2 ≤ r.mode → TaskOk b tr r held ps t
    → Logging b tr r held ps t p
unfolding so_far first_for count_for has_logged
logging-task b tr r held ps t p m (inl h) = absurd (omega arith)
logging-task b tr r held ps t p m (inr (inl h)) = absurd (omega arith)
logging-task b tr r held ps t p m (inr (inr (inl h))) =
    let e : eqb r.mode 2 ≡ true = eq-eqb r.mode 2 h.0 in
    let f : leb 3 r.mode ≡ false = lt-leb 3 r.mode (omega arith) in
    record { task = rw e (unfold entries_for in h.1); first = rw (e, f) (unfold first_of in refl); count = rw (e, f) }
logging-task b tr r held ps t p m (inr (inr (inr h))) =
    let e : eqb r.mode 2 ≡ false = ne_eqb r.mode 2 (λ z. omega arith) in
    let f : leb 3 r.mode ≡ true = le-leb 3 r.mode (omega arith) in
    record { task = rw e h.1; first = rw (e, f) (go ps h.4 ∙ sym h.2); count = rw (e, f) (sym h.3) }
  where
    go : (qs : List ℕ) → 1 ≤ length qs → first_of p qs ≡ oldest_of qs
    go [] l = absurd (omega arith)
    go (q ∷ qs) l = first_any p q qs

pub mine-event : (h : Hist) (v : ℕ) (r : Writer) (held : List ℕ) (final : Bool) (link : ℕ) → mine h (event v r held final link) ≡ so_far r (h.open_transaction v)
unfolding mine event so_far
mine-event h v r held final link = refl

-- the last closing entry of the trace
last_none : (ts : List (List ℕ)) → last_from none ts ≡ none → last_closer ts ≡ 0
unfolding last_from last_closer
last_none [] e = refl
last_none (t ∷ ts) e = absurd (never ts t e)
  where
    never : (ts : List (List ℕ)) (t : List ℕ) → last_from (some (closer_of t)) ts ≡ none → ⊥
    never [] t e = let z : ◌≡◌ {A = ℕ} 0 1 = cc in omega arith
    never (u ∷ ts) t e = never ts u e

last_some : (ts : List (List ℕ)) (t : List ℕ) (q : ℕ) → last_from (some (closer_of t)) ts ≡ some q → last_closer (t ∷ ts) ≡ q + 1
unfolding last_from last_closer
last_some [] t q e = let z : closer_of t ≡ q = cc in rw z
last_some (u ∷ ts) t q e = last_some ts u q e

pub last-is : (ts : List (List ℕ)) (q : ℕ) → last_from none ts ≡ some q → last_closer ts ≡ q + 1
unfolding last_from
last-is [] q e = let z : ◌≡◌ {A = ℕ} 0 1 = cc in absurd (omega arith)
last-is (t ∷ ts) q e = last_some ts t q e

pub last-closes : (ts : List (List ℕ)) (t : List ℕ) → last_closer (ts ++ (t ∷ [])) ≡ closer_of t + 1
unfolding last_closer
last-closes [] t = refl
last-closes (u ∷ []) t = refl
last-closes (u ∷ x ∷ ts) t = last-closes (x ∷ ts) t

-- the link of a commit logged at p
pub link-ok : (p : ℕ) (st : State) (ts : List (List ℕ)) (low high : ℕ) → Rising low high ts → high ≤ p → LastOk st.start st.last (last_closer ts)
    → LinkOk (7 * st.start) (last_from none ts) p (link_from p st)
unfolding link_from
link-ok p st ts low high r l o =
    go (last_from none ts) (leb st.last (7 * st.start)) refl refl (below_last low high none ts tt r) o
  where
    go : (prev : Option ℕ) (t : Bool) → last_from none ts ≡ prev → leb st.last (7 * st.start) ≡ t → Below high prev
        → LastOk st.start st.last (last_closer ts) → LinkOk (7 * st.start) prev p (cond t 0 (p + 1 - st.last))
    go none true e t b k = inl refl
    go none false e t b (inl k) = absurd (omega (arith, leb-false st.last (7 * st.start) t, k ∙ last_none ts e))
    go none false e t b (inr k) = absurd (omega (arith, leb-false st.last (7 * st.start) t, k.0))
    go (some q) true e t b (inl k) =
        let f : st.last ≡ q + 1 = k ∙ last-is ts q e in
        ((λ c. absurd (omega (arith, leb-true st.last (7 * st.start) t))), (λ c. inl refl))
    go (some q) false e t b (inl k) =
        let f : st.last ≡ q + 1 = k ∙ last-is ts q e in
        ((λ c. omega arith), (λ c. absurd (omega (arith, leb-false st.last (7 * st.start) t))))
    go (some q) true e t b (inr k) =
        let f = last-is ts q e in
        ((λ c. absurd (omega arith)), (λ c. inl refl))
    go (some q) false e t b (inr k) = absurd (omega (arith, leb-false st.last (7 * st.start) t, k.0))
