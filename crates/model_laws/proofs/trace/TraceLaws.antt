-- Laws of the ghost history of Trace: where the positions of its transactions lie, what the tags at them say, what is left whole of it.
-- Assumes nothing.
use Prim.Native.Nat.{ℕ, suc, ◌+◌, ◌≤◌, ◌<◌}
use mathlib.Core.Path.{◌≡◌, refl, sym, ◌∙◌, subst}
use mathlib.Core.Bool.{Bool, true, false, cond, ◌&&◌, false≢true}
use mathlib.Core.List.{List, [], ◌∷◌, ◌++◌, Memᴰ}
use native.Mathlib.Omega.{arith}
use lib.Dec.{eqb, leb}
use lib.ListN.{length}
use borrow.Author.Tests.{eqb-true, eq-eqb, ne_eqb}
use Rattle.model.specs.Tag.{says, present, home_of}
use Rattle.model.specs.declared.Tag.{Tag}
use Rattle.model.specs.declared.Tag.TheVariants.{Nothing, Closing}
use Rattle.model_laws.proofs.trace.Trace.{Ev, Hist, mine, set_open, advance, hist, first_of, tag_of, tag_at, home_on, block_on, first_in, link_in, surviving, closer_of, oldest_of}

-- ---- lists

abbrev pub All : {A : Type 0} → (A → Type 0) → List A → Type 0
All P [] = Unit {0}
All P (x ∷ xs) = P x × All P xs

pub all-mem : {A : Type 0} (P : A → Type 0) {a : A} {l : List A} → All P l → Memᴰ a l → P a
all-mem P h (Memᴰ.head e) = subst P (sym e) h.0
all-mem P h (Memᴰ.tail m) = all-mem P h.1 m

pub all_map : {A : Type 0} (P Q : A → Type 0) → ((a : A) → P a → Q a) → (l : List A) → All P l → All Q l
all_map P Q f [] h = tt
all_map P Q f (x ∷ xs) h = (f x h.0, all_map P Q f xs h.1)

pub all_snoc : {A : Type 0} (P : A → Type 0) (l : List A) (a : A) → All P l → P a → All P (l ++ (a ∷ []))
all_snoc P [] a h p = (p, tt)
all_snoc P (x ∷ xs) a h p = (h.0, all_snoc P xs a h.1 p)

-- positions that fall strictly, from low on and below high
abbrev pub Falling : ℕ → ℕ → List ℕ → Type 0
Falling low high [] = Unit {0}
Falling low high (p ∷ ps) = (low ≤ p) × (p < high) × Falling low p ps

pub falling-more : (low high high' : ℕ) (ps : List ℕ) → high ≤ high' → Falling low high ps → Falling low high' ps
falling-more low high high' [] h f = tt
falling-more low high high' (p ∷ ps) h f = (f.0, omega arith, f.2)

pub falling_inside : (low high : ℕ) (ps : List ℕ) → Falling low high ps → All (λ p. (low ≤ p) × (p < high)) ps
falling_inside low high [] f = tt
falling_inside low high (p ∷ ps) f = ((f.0, f.1), falling_inside low high ps (falling-more low p high ps (omega arith) f.2))

-- the first of a transaction's positions lies among them
pub first_of-inside : (low high p : ℕ) (ps : List ℕ) → Falling low high (p ∷ ps) → (low ≤ first_of p ps) × (first_of p ps ≤ p)
unfolding first_of
first_of-inside low high p [] f = (f.0, omega arith)
first_of-inside low high p (q ∷ qs) f = let g = first_of-inside low p q qs f.2 in (g.0, omega arith)

abbrev pub Long : List ℕ → Type 0
Long [] = ⊥
Long (p ∷ ps) = Unit {0}

-- transactions whose closing entries rise strictly, from low on and below high
abbrev pub Rising : ℕ → ℕ → List (List ℕ) → Type 0
Rising low high [] = Unit {0}
Rising low high (t ∷ ts) = (low ≤ closer_of t) × (closer_of t < high) × Rising (suc (closer_of t)) high ts

rising-more : (low high : ℕ) (ts : List (List ℕ)) → Rising low high ts → Rising low (suc high) ts
rising-more low high [] r = tt
rising-more low high (t ∷ ts) r = (r.0, omega arith, rising-more (suc (closer_of t)) high ts r.2)

rising_snoc : (low high : ℕ) (ts : List (List ℕ)) (ps : List ℕ) → low ≤ high → Rising low high ts → Rising low (suc high) (ts ++ ((high ∷ ps) ∷ []))
unfolding closer_of
rising_snoc low high [] ps h r = (omega arith, omega arith, tt)
rising_snoc low high (t ∷ ts) ps h r = (r.0, omega arith, rising_snoc (suc (closer_of t)) high ts ps (omega arith) r.2)

-- ---- what stands at a position

at-older : {A : Type 0} (p q : ℕ) (a b : A) → p < q → cond (eqb p q) a b ≡ b
at-older p q a b h = rw (ne_eqb p q (λ e. omega arith))

at-newer : {A : Type 0} (p q : ℕ) (a b : A) → q < p → cond (eqb p q) a b ≡ b
at-newer p q a b h = rw (ne_eqb p q (λ e. omega arith))

pub at_here : {A : Type 0} (p : ℕ) (a b : A) → cond (eqb p p) a b ≡ a
at_here p a b = rw (eq-eqb p p refl)

pub tag_at-older : (base : ℕ) (e : Ev) (tr : List Ev) (p : ℕ) → p < base + length tr → tag_at base (e ∷ tr) p ≡ tag_at base tr p
unfolding tag_at
tag_at-older base e tr p h =
    at-older p (base + length tr) (tag_of (base + length tr) e (mine (hist base tr) e) e.used e.final) (tag_at base tr p) h

pub home_on-older : (base : ℕ) (e : Ev) (tr : List Ev) (p : ℕ) → p < base + length tr → home_on base (e ∷ tr) p ≡ home_on base tr p
unfolding home_on
home_on-older base e tr p h = at-older p (base + length tr) e.home (home_on base tr p) h

pub block_on-older : (base : ℕ) (e : Ev) (tr : List Ev) (p : ℕ) → p < base + length tr → block_on base (e ∷ tr) p ≡ block_on base tr p
unfolding block_on
block_on-older base e tr p h = at-older p (base + length tr) e.block (block_on base tr p) h

pub tag_at-here : (base : ℕ) (e : Ev) (tr : List Ev)
    → tag_at base (e ∷ tr) (base + length tr) ≡ tag_of (base + length tr) e (mine (hist base tr) e) e.used e.final
unfolding tag_at
tag_at-here base e tr =
    at_here (base + length tr) (tag_of (base + length tr) e (mine (hist base tr) e) e.used e.final) (tag_at base tr (base + length tr))

pub home_on-here : (base : ℕ) (e : Ev) (tr : List Ev) → home_on base (e ∷ tr) (base + length tr) ≡ e.home
unfolding home_on
home_on-here base e tr = at_here (base + length tr) e.home (home_on base tr (base + length tr))

pub block_on-here : (base : ℕ) (e : Ev) (tr : List Ev) → block_on base (e ∷ tr) (base + length tr) ≡ e.block
unfolding block_on
block_on-here base e tr = at_here (base + length tr) e.block (block_on base tr (base + length tr))

pub tag_at-before : (base : ℕ) (tr : List Ev) (p : ℕ) → p < base → tag_at base tr p ≡ Nothing
unfolding tag_at
tag_at-before base [] p h = refl
tag_at-before base (e ∷ tr) p h = tag_at-older base e tr p (omega arith) ∙ tag_at-before base tr p h

pub tag_at-beyond : (base : ℕ) (tr : List Ev) (p : ℕ) → base + length tr ≤ p → tag_at base tr p ≡ Nothing
unfolding tag_at
tag_at-beyond base [] p h = refl
tag_at-beyond base (e ∷ tr) p h =
    at-newer p (base + length tr) (tag_of (base + length tr) e (mine (hist base tr) e) e.used e.final) (tag_at base tr p) (omega arith)
    ∙ tag_at-beyond base tr p (omega arith)

pub surviving-nothing : (landed : ℕ → Bool) (c : ℕ) (log : ℕ → Tag) (p : ℕ) → log p ≡ Nothing → surviving landed c log p ≡ Nothing
unfolding surviving
surviving-nothing landed c log p e = rw e (go (landed p && leb c (first_in Nothing)))
  where
    go : (b : Bool) → says b Nothing ≡ Nothing
    go true = unfold says in refl
    go false = unfold says in refl

-- a log that holds what the trace logged
abbrev pub Logs : (ℕ → Tag) → ℕ → List Ev → Type 0
Logs log base [] = Unit {0}
Logs log base (e ∷ tr) = (log (base + length tr) ≡ tag_of (base + length tr) e (mine (hist base tr) e) e.used e.final) × Logs log base tr

pub logs : (log : ℕ → Tag) (base : ℕ) (tr : List Ev) → ((p : ℕ) → p < base + length tr → log p ≡ tag_at base tr p) → Logs log base tr
logs log base [] h = tt
logs log base (e ∷ tr) h =
    (h (base + length tr) (omega arith) ∙ tag_at-here base e tr, logs log base tr (λ p l. h p (omega arith) ∙ tag_at-older base e tr p l))

pub logs-own : (base : ℕ) (tr : List Ev) → Logs (tag_at base tr) base tr
logs-own base tr = logs (tag_at base tr) base tr (λ p h. refl)

-- ---- what holds of every transaction of a trace, open or committed

set_open-holds : (P : List ℕ → Type 0) (o : ℕ → List ℕ) (w : ℕ) (ps : List ℕ) (x : ℕ) → P ps → P (o x) → P (set_open o w ps x)
unfolding set_open
set_open-holds P o w ps x h k = go (eqb w x)
  where
    go : (b : Bool) → P (cond b ps (o x))
    go true = h
    go false = k

pub mine-holds : (P : List ℕ → Type 0) (h : Hist) (e : Ev) → P [] → P (h.open_transaction e.writer) → P (mine h e)
unfolding mine
mine-holds P h e n k = go e.fresh
  where
    go : (b : Bool) → P (cond b [] (h.open_transaction e.writer))
    go true = n
    go false = k

-- I n ps: it holds of ps where n positions have been logged
module _ (base : ℕ) (log : ℕ → Tag) (I : ℕ → List ℕ → Type 0) (nil : (n : ℕ) → I n []) (more : (n : ℕ) (ps : List ℕ) → I n ps → I (suc n) ps)
    (grow : (n : ℕ) (e : Ev) (ps : List ℕ) (b : Bool) → log (base + n) ≡ tag_of (base + n) e ps true b → I n ps → I (suc n) ((base + n) ∷ ps)) where
  abbrev Both : ℕ → Hist → Type 0
  Both n h = ((x : ℕ) → I n (h.open_transaction x)) × All (I n) h.done

  both-step : (n : ℕ) (h : Hist) (e : Ev) (u f : Bool) → log (base + n) ≡ tag_of (base + n) e (mine h e) u f → Both n h
      → Both (suc n) (advance (base + n) e h u f)
  unfolding advance
  both-step n h e false f l g = (λ x. more n (h.open_transaction x) (g.0 x), all_map (I n) (I (suc n)) (more n) h.done g.1)
  both-step n h e true true l g =
      let t : I (suc n) ((base + n) ∷ mine h e) = grow n e (mine h e) true l (mine-holds (I n) h e (nil n) (g.0 e.writer)) in (
        λ x. set_open-holds (I (suc n)) h.open_transaction e.writer [] x (nil (suc n)) (more n (h.open_transaction x) (g.0 x)),
        all_snoc (I (suc n)) h.done ((base + n) ∷ mine h e) (all_map (I n) (I (suc n)) (more n) h.done g.1) t,
      )
  both-step n h e true false l g =
      let t : I (suc n) ((base + n) ∷ mine h e) = grow n e (mine h e) false l (mine-holds (I n) h e (nil n) (g.0 e.writer)) in (
        λ x. set_open-holds (I (suc n)) h.open_transaction e.writer ((base + n) ∷ mine h e) x t (more n (h.open_transaction x) (g.0 x)),
        all_map (I n) (I (suc n)) (more n) h.done g.1,
      )

  both : (tr : List Ev) → Logs log base tr → Both (length tr) (hist base tr)
  unfolding hist
  both [] l = (λ x. nil 0, tt)
  both (e ∷ tr) l = both-step (length tr) (hist base tr) e e.used e.final l.0 (both tr l.1)

-- ---- where the positions of a trace's transactions lie

falling-both : (base : ℕ) (tr : List Ev)
    → ((x : ℕ) → Falling base (base + length tr) ((hist base tr).open_transaction x)) × All (Falling base (base + length tr)) (hist base tr).done
falling-both base tr =
    both base (tag_at base tr) (λ n. Falling base (base + n)) (λ n. tt) (λ n ps f. falling-more base (base + n) (base + suc n) ps (omega arith) f)
    (λ n e ps b l f. (omega arith, omega arith, f)) tr (logs-own base tr)

pub open-falling : (base : ℕ) (tr : List Ev) (x : ℕ) → Falling base (base + length tr) ((hist base tr).open_transaction x)
open-falling base tr x = (falling-both base tr).0 x

pub done-falling : (base : ℕ) (tr : List Ev) → All (Falling base (base + length tr)) (hist base tr).done
done-falling base tr = (falling-both base tr).1

pub done-inside : (base : ℕ) (tr : List Ev) → All (All (λ p. (base ≤ p) × (p < base + length tr))) (hist base tr).done
done-inside base tr =
    all_map (Falling base (base + length tr)) (All (λ p. (base ≤ p) × (p < base + length tr))) (falling_inside base (base + length tr))
    (hist base tr).done (done-falling base tr)

pub open-inside : (base : ℕ) (tr : List Ev) (x : ℕ) → All (λ p. (base ≤ p) × (p < base + length tr)) ((hist base tr).open_transaction x)
open-inside base tr x = falling_inside base (base + length tr) ((hist base tr).open_transaction x) (open-falling base tr x)

long-step : (p : ℕ) (h : Hist) (e : Ev) (u f : Bool) → All Long h.done → All Long (advance p e h u f).done
unfolding advance
long-step p h e false f l = l
long-step p h e true true l = all_snoc Long h.done (p ∷ mine h e) l tt
long-step p h e true false l = l

pub done-long : (base : ℕ) (tr : List Ev) → All Long (hist base tr).done
unfolding hist
done-long base [] = tt
done-long base (e ∷ tr) = long-step (base + length tr) (hist base tr) e e.used e.final (done-long base tr)

rising_step : (base p : ℕ) (h : Hist) (e : Ev) (u f : Bool) → base ≤ p → Rising base p h.done → Rising base (suc p) (advance p e h u f).done
unfolding advance
rising_step base p h e false f b r = rising-more base p h.done r
rising_step base p h e true true b r = rising_snoc base p h.done (mine h e) b r
rising_step base p h e true false b r = rising-more base p h.done r

pub done-rising : (base : ℕ) (tr : List Ev) → Rising base (base + length tr) (hist base tr).done
unfolding hist
done-rising base [] = tt
done-rising base (e ∷ tr) =
    let q : base + suc (length tr) ≡ suc (base + length tr) = omega arith in
    rw q (rising_step base (base + length tr) (hist base tr) e e.used e.final (omega arith) (done-rising base tr))

-- ---- what the tags of a trace say

-- every position of t is in use, and its tag names the first of t
abbrev pub Names : (ℕ → Tag) → ℕ → ℕ → Type 0
Names log f p = (present (log p) ≡ true) × (first_in (log p) ≡ f)

abbrev pub Named : (ℕ → Tag) → List ℕ → Type 0
Named log t = All (Names log (oldest_of t)) t

names-tag_of : (log : ℕ → Tag) (p : ℕ) (e : Ev) (ps : List ℕ) (b : Bool) → log p ≡ tag_of p e ps true b → Names log (first_of p ps) p
unfolding tag_of present first_in
names-tag_of log p e ps true l = (rw l, rw l)
names-tag_of log p e ps false l = (rw l, rw l)

named-cons : (log : ℕ → Tag) (p : ℕ) (ps : List ℕ) → Names log (first_of p ps) p → Named log ps → Named log (p ∷ ps)
unfolding oldest_of first_of
named-cons log p [] l n = (l, tt)
named-cons log p (q ∷ qs) l n = (l, n)

named-both : (log : ℕ → Tag) (base : ℕ) (tr : List Ev) → Logs log base tr
    → ((x : ℕ) → Named log ((hist base tr).open_transaction x)) × All (Named log) (hist base tr).done
named-both log base tr l =
    both base log (λ n. Named log) (λ n. tt) (λ n ps h. h) (λ n e ps b q h. named-cons log (base + n) ps (names-tag_of log (base + n) e ps b q) h) tr l

pub open-named : (base : ℕ) (tr : List Ev) (x : ℕ) → Named (tag_at base tr) ((hist base tr).open_transaction x)
open-named base tr x = (named-both (tag_at base tr) base tr (logs-own base tr)).0 x

pub done-named : (base : ℕ) (tr : List Ev) → All (Named (tag_at base tr)) (hist base tr).done
done-named base tr = (named-both (tag_at base tr) base tr (logs-own base tr)).1

-- the tag at which a transaction closes
abbrev pub Closes : (ℕ → Tag) → List ℕ → Type 0
Closes log t = log (closer_of t) ≡ Closing (home_of (log (closer_of t))) (oldest_of t) (link_in (log (closer_of t))) (length t)

closes-step : (log : ℕ → Tag) (p : ℕ) (h : Hist) (e : Ev) (u f : Bool) → log p ≡ tag_of p e (mine h e) u f → All (Closes log) h.done
    → All (Closes log) (advance p e h u f).done
unfolding advance tag_of closer_of oldest_of home_of link_in
closes-step log p h e false f l g = g
closes-step log p h e true false l g = g
closes-step log p h e true true l g = all_snoc (Closes log) h.done (p ∷ mine h e) g (rw l)

closes : (log : ℕ → Tag) (base : ℕ) (tr : List Ev) → Logs log base tr → All (Closes log) (hist base tr).done
unfolding hist
closes log base [] l = tt
closes log base (e ∷ tr) l = closes-step log (base + length tr) (hist base tr) e e.used e.final l.0 (closes log base tr l.1)

pub done-closes : (base : ℕ) (tr : List Ev) → All (Closes (tag_at base tr)) (hist base tr).done
done-closes base tr = closes (tag_at base tr) base tr (logs-own base tr)

home-tag_of : (p : ℕ) (e : Ev) (ps : List ℕ) (u f : Bool) → present (tag_of p e ps u f) ≡ true → home_of (tag_of p e ps u f) ≡ e.home
unfolding tag_of present home_of
home-tag_of p e ps false f h = absurd (false≢true h)
home-tag_of p e ps true true h = refl
home-tag_of p e ps true false h = refl

pub tag_at-home : (base : ℕ) (tr : List Ev) (p : ℕ) → present (tag_at base tr p) ≡ true → home_of (tag_at base tr p) ≡ home_on base tr p
unfolding tag_at home_on home_of
tag_at-home base [] p h = refl
tag_at-home base (e ∷ tr) p h = go (eqb p (base + length tr)) h (tag_at-home base tr p)
  where
    here : Tag
    here = tag_of (base + length tr) e (mine (hist base tr) e) e.used e.final

    go : (b : Bool) → present (cond b here (tag_at base tr p)) ≡ true
        → (present (tag_at base tr p) ≡ true → home_of (tag_at base tr p) ≡ home_on base tr p)
        → home_of (cond b here (tag_at base tr p)) ≡ cond b e.home (home_on base tr p)
    go true h ih = home-tag_of (base + length tr) e (mine (hist base tr) e) e.used e.final h
    go false h ih = ih h

-- the first position that a tag names is not past its own, nor before the trace
abbrev Back : ℕ → ℕ → Tag → Type 0
Back base p t = (first_in t ≤ p) × (present t ≡ true → base ≤ first_in t)

back-tag_of : (base p : ℕ) (e : Ev) (ps : List ℕ) (u f : Bool) → base ≤ p → Falling base p ps → Back base p (tag_of p e ps u f)
unfolding tag_of first_in present
back-tag_of base p e ps false f b l = (omega arith, λ h. absurd (false≢true h))
back-tag_of base p e ps true true b l = let g = first_of-inside base (suc p) p ps (b, omega arith, l) in (g.1, λ h. g.0)
back-tag_of base p e ps true false b l = let g = first_of-inside base (suc p) p ps (b, omega arith, l) in (g.1, λ h. g.0)

back_at : (base : ℕ) (tr : List Ev) (p : ℕ) → Back base p (tag_at base tr p)
unfolding tag_at first_in present
back_at base [] p = (omega arith, λ h. absurd (false≢true h))
back_at base (e ∷ tr) p = go (eqb p (base + length tr)) refl (back_at base tr p)
  where
    here : Tag
    here = tag_of (base + length tr) e (mine (hist base tr) e) e.used e.final

    lies : Falling base (base + length tr) (mine (hist base tr) e)
    lies = mine-holds (Falling base (base + length tr)) (hist base tr) e tt (open-falling base tr e.writer)

    go : (b : Bool) → eqb p (base + length tr) ≡ b → Back base p (tag_at base tr p) → Back base p (cond b here (tag_at base tr p))
    go true q ih =
        let z : p ≡ base + length tr = eqb-true p (base + length tr) q in
        rw z (back-tag_of base (base + length tr) e (mine (hist base tr) e) e.used e.final (omega arith) lies)
    go false q ih = ih

pub tag_at-back : (base : ℕ) (tr : List Ev) (p : ℕ) → first_in (tag_at base tr p) ≤ p
tag_at-back base tr p = (back_at base tr p).0

pub tag_at-from : (base : ℕ) (tr : List Ev) (p : ℕ) → present (tag_at base tr p) ≡ true → base ≤ first_in (tag_at base tr p)
tag_at-from base tr p h = (back_at base tr p).1 h

-- ---- the same for one transaction and one position

pub done_first : (base : ℕ) (tr : List Ev) (t : List ℕ) (p : ℕ) → Memᴰ t (hist base tr).done → Memᴰ p t
    → first_in (tag_at base tr p) ≡ oldest_of t
done_first base tr t p m k = (all-mem (Names (tag_at base tr) (oldest_of t)) (all-mem (Named (tag_at base tr)) (done-named base tr) m) k).1

pub open-first : (base : ℕ) (tr : List Ev) (x p : ℕ) → Memᴰ p ((hist base tr).open_transaction x)
    → first_in (tag_at base tr p) ≡ oldest_of ((hist base tr).open_transaction x)
open-first base tr x p k = (all-mem (Names (tag_at base tr) (oldest_of ((hist base tr).open_transaction x))) (open-named base tr x) k).1

pub done-home : (base : ℕ) (tr : List Ev) (t : List ℕ) (p : ℕ) → Memᴰ t (hist base tr).done → Memᴰ p t
    → home_of (tag_at base tr p) ≡ home_on base tr p
done-home base tr t p m k =
    tag_at-home base tr p (all-mem (Names (tag_at base tr) (oldest_of t)) (all-mem (Named (tag_at base tr)) (done-named base tr) m) k).0

pub open-home : (base : ℕ) (tr : List Ev) (x p : ℕ) → Memᴰ p ((hist base tr).open_transaction x) → home_of (tag_at base tr p) ≡ home_on base tr p
open-home base tr x p k = tag_at-home base tr p (all-mem (Names (tag_at base tr) (oldest_of ((hist base tr).open_transaction x))) (open-named base tr x) k).0

pub done-position : (base : ℕ) (tr : List Ev) (t : List ℕ) (p : ℕ) → Memᴰ t (hist base tr).done → Memᴰ p t
    → (base ≤ p) × (p < base + length tr)
done-position base tr t p m k =
    all-mem (λ q. (base ≤ q) × (q < base + length tr)) (all-mem (All (λ q. (base ≤ q) × (q < base + length tr))) (done-inside base tr) m) k

pub open-position : (base : ℕ) (tr : List Ev) (x p : ℕ) → Memᴰ p ((hist base tr).open_transaction x) → (base ≤ p) × (p < base + length tr)
open-position base tr x p k = all-mem (λ q. (base ≤ q) × (q < base + length tr)) (open-inside base tr x) k
