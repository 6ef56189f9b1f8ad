-- Laws of the links of a history, of Apart and Linked of Trace. Assumes nothing.
use Prim.Native.Nat.{ℕ, suc, ◌+◌, ◌≤◌, ◌<◌}
use mathlib.Core.Path.{◌≡◌, refl, sym, ap, ◌∙◌}
use mathlib.Core.Logic.{◌⊎◌, inl, inr}
use mathlib.Core.Bool.{Bool, true, false, ◌||◌, false≢true, or-true}
use mathlib.Core.List.{List, [], ◌∷◌, ◌++◌}
use mathlib.Core.Option.{Option, none, some}
use native.Mathlib.Omega.{arith}
use lib.Dec.{eqb, leb, ltb}
use borrow.Author.Tests.{leb-true, leb-false, eq-eqb, ne_eqb, lt-ltb, le-ltb}
use Rattle.model.specs.declared.Tag.{Tag}
use Rattle.model.specs.Commit.{linked}
use Rattle.model_laws.proofs.trace.Trace.{link_in, closer_of, oldest_of, Apart, LinkOk, Linked}
use Rattle.model_laws.proofs.trace.TraceLaws.{All, Rising}
use Rattle.model_laws.proofs.trace.WholeLaws.{every_landed}

-- ---- the last commit

unfoldable pub last_from : Option ℕ → List (List ℕ) → Option ℕ
last_from prev [] = prev
last_from prev (t ∷ ts) = last_from (some (closer_of t)) ts

pub last_snoc : (prev : Option ℕ) (ts : List (List ℕ)) (t : List ℕ) → last_from prev (ts ++ (t ∷ [])) ≡ some (closer_of t)
unfolding last_from
last_snoc prev [] t = refl
last_snoc prev (u ∷ ts) t = last_snoc (some (closer_of u)) ts t

last_some : (q : ℕ) (ts : List (List ℕ)) → last_from (some q) ts ≡ none → ⊥
unfolding last_from
last_some q [] e = let z : ◌≡◌ {A = ℕ} 0 1 = cc in omega arith
last_some q (t ∷ ts) e = last_some (closer_of t) ts e

last_none : (landed : ℕ → Bool) (ts : List (List ℕ)) → last_from none ts ≡ none → every_landed landed ts ≡ true
unfolding last_from every_landed
last_none landed [] e = refl
last_none landed (t ∷ ts) e = absurd (last_some (closer_of t) ts e)

abbrev pub Below : ℕ → Option ℕ → Type 0
Below p none = Unit {0}
Below p (some q) = q < p

pub below_suc : (p : ℕ) (o : Option ℕ) → Below p o → Below (suc p) o
below_suc p none h = tt
below_suc p (some q) h = omega arith

pub below-ne : (p : ℕ) (o : Option ℕ) → Below p o → o ≡ some p → ⊥
below-ne p none h e = let z : ◌≡◌ {A = ℕ} 0 1 = cc in omega arith
below-ne p (some q) h e = let z : q ≡ p = cc in omega arith

pub below_last : (low high : ℕ) (prev : Option ℕ) (ts : List (List ℕ)) → Below high prev → Rising low high ts → Below high (last_from prev ts)
unfolding last_from
below_last low high prev [] b r = b
below_last low high prev (t ∷ ts) b r = below_last (suc (closer_of t)) high (some (closer_of t)) ts r.1 r.2

-- the last commit, and the last one at or above c
abbrev pub Prior : ℕ → Option ℕ → Option ℕ → Type 0
Prior c none o = o ≡ none
Prior c (some q) o = (c ≤ q → o ≡ some q) × (q < c → o ≡ none)

pub prior-low : (c : ℕ) (o : Option ℕ) → Below c o → Prior c o none
prior-low c none b = refl
prior-low c (some q) b = (λ h. absurd (omega arith), λ h. refl)

reaches : (c p link : ℕ) → (link ≡ 0) ⊎ (p < c + link) → (eqb link 0 || ltb p (c + link)) ≡ true
reaches c p link (inl e) = rw (eq-eqb link 0 e)
reaches c p link (inr h) = rw (lt-ltb p (c + link) h) (or-true (eqb link 0))

-- a link leads to the last commit at or above c
pub link_on : (c p link : ℕ) (prev o : Option ℕ) → LinkOk c prev p link → Prior c prev o → linked c o p link ≡ true
unfolding linked
link_on c p link none o k a = rw (a, linked) (reaches c p link k)
link_on c p link (some q) o k a = go (leb c q) refl
  where
    go : (b : Bool) → leb c q ≡ b → linked c o p link ≡ true
    go true e = let h : c ≤ q = leb-true c q e in rw (a.0 h, linked) (eq-eqb p (q + link) (k.0 h))
    go false e = let h : q < c = leb-false c q e in rw (a.1 h, linked) (reaches c p link (k.1 h))

-- and to no other
link-off : (c p link q : ℕ) (o : Option ℕ) → c ≤ q → q < p → p ≡ q + link → (o ≡ some q → ⊥) → linked c o p link ≡ false
unfolding linked
link-off c p link q none h b e d = rw (ne_eqb link 0 (λ z. omega arith)) (le-ltb p (c + link) (omega arith))
link-off c p link q (some r) h b e d = ne_eqb p (r + link) (λ z. let y : r ≡ q = omega arith in d (ap {B = Option ℕ} some y))

pub link_lost : (landed : ℕ → Bool) (c p link : ℕ) (prev o : Option ℕ) (ts : List (List ℕ)) → LinkOk c prev p link → Prior c prev (last_from none ts)
    → every_landed landed ts ≡ false → Below p (last_from none ts) → (o ≡ last_from none ts → ⊥) → linked c o p link ≡ false
link_lost landed c p link none o ts k a n b d = absurd (false≢true (sym n ∙ last_none landed ts a))
link_lost landed c p link (some q) o ts k a n b d = go (leb c q) refl
  where
    go : (t : Bool) → leb c q ≡ t → linked c o p link ≡ false
    go true e =
        let h : c ≤ q = leb-true c q e in
        let l : q < p = rw (a.0 h) at b in
        link-off c p link q o h l (k.0 h) (λ z. d (z ∙ sym (a.0 h)))
    go false e = absurd (false≢true (sym n ∙ last_none landed ts (a.1 (leb-false c q e))))

pub linked-snoc : (c : ℕ) (log : ℕ → Tag) (prev : Option ℕ) (ts : List (List ℕ)) (t : List ℕ) → Linked c log prev (ts ++ (t ∷ []))
    → Linked c log prev ts × (c ≤ closer_of t → LinkOk c (last_from prev ts) (closer_of t) (link_in (log (closer_of t))))
unfolding last_from
linked-snoc c log prev [] t l = (tt, l.0)
linked-snoc c log prev (u ∷ ts) t l = let r = linked-snoc c log (some (closer_of u)) ts t l.1 in ((l.0, r.0), r.1)

pub apart_snoc : (c : ℕ) (ts : List (List ℕ)) (t : List ℕ) → Apart c (ts ++ (t ∷ [])) → Apart c ts × ((closer_of t < c) ⊎ (c ≤ oldest_of t))
apart_snoc c [] t a = (tt, a.0)
apart_snoc c (u ∷ ts) t a = let r = apart_snoc c ts t a.1 in ((a.0, r.0), r.1)

-- ---- a history grows, and the log that is read of it starts later

pub apart_more : (c : ℕ) (ts : List (List ℕ)) (t : List ℕ) → Apart c ts → (closer_of t < c) ⊎ (c ≤ oldest_of t) → Apart c (ts ++ (t ∷ []))
apart_more c [] t a x = (x, tt)
apart_more c (u ∷ ts) t a x = (a.0, apart_more c ts t a.1 x)

pub linked-more : (c : ℕ) (log : ℕ → Tag) (prev : Option ℕ) (ts : List (List ℕ)) (t : List ℕ) → Linked c log prev ts
    → (c ≤ closer_of t → LinkOk c (last_from prev ts) (closer_of t) (link_in (log (closer_of t)))) → Linked c log prev (ts ++ (t ∷ []))
unfolding last_from
linked-more c log prev [] t l k = (k, tt)
linked-more c log prev (u ∷ ts) t l k = (l.0, linked-more c log (some (closer_of u)) ts t l.1 k)

-- only the tags of closing entries matter
pub linked-ext : (c : ℕ) (log log' : ℕ → Tag) (prev : Option ℕ) (ts : List (List ℕ)) → All (λ t. log (closer_of t) ≡ log' (closer_of t)) ts
    → Linked c log prev ts → Linked c log' prev ts
linked-ext c log log' prev [] h l = tt
linked-ext c log log' prev (t ∷ ts) h l = (rw h.0 at l.0, linked-ext c log log' (some (closer_of t)) ts h.1 l.1)

or_later : (c c' p link : ℕ) → c ≤ c' → (link ≡ 0) ⊎ (p < c + link) → (link ≡ 0) ⊎ (p < c' + link)
or_later c c' p link h (inl e) = inl e
or_later c c' p link h (inr l) = inr (omega arith)

link_ok-later : (c c' p link : ℕ) (prev : Option ℕ) → c ≤ c' → LinkOk c prev p link → LinkOk c' prev p link
link_ok-later c c' p link none h k = or_later c c' p link h k
link_ok-later c c' p link (some q) h k = (λ l. k.0 (omega arith), λ l. go (leb c q) refl l)
  where
    go : (b : Bool) → leb c q ≡ b → q < c' → (link ≡ 0) ⊎ (p < c' + link)
    go true e l = inr (omega (arith, k.0 (leb-true c q e)))
    go false e l = or_later c c' p link h (k.1 (leb-false c q e))

pub linked-later : (c c' : ℕ) (log : ℕ → Tag) (prev : Option ℕ) (ts : List (List ℕ)) → c ≤ c' → Linked c log prev ts → Linked c' log prev ts
linked-later c c' log prev [] h l = tt
linked-later c c' log prev (t ∷ ts) h l = (
  λ z. link_ok-later c c' (closer_of t) (link_in (log (closer_of t))) prev h (l.0 (omega arith)),
  linked-later c c' log (some (closer_of t)) ts h l.1,
)
