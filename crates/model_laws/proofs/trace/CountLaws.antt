-- What the walk counts of a transaction in what persisted of a trace's log: just its entries that persisted. Assumes nothing.
use Prim.Native.Nat.{ℕ, zero, suc, ◌+◌, ◌-◌, ◌≤◌, ◌<◌}
use mathlib.Core.Path.{◌≡◌, refl, sym, ap, ◌∙◌}
use mathlib.Core.Logic.{◌⊎◌, inl, inr}
use mathlib.Core.Bool.{Bool, true, false, cond, ◌&&◌, false≢true, and-false}
use mathlib.Core.List.{List, [], ◌∷◌}
use native.Mathlib.Omega.{arith}
use lib.Dec.{eqb, leb, eqb-suc-suc}
use lib.ListN.{length}
use borrow.Author.Tests.{eqb-true, eqb-false, leb-true, leb-false, eq-eqb, ne_eqb, le-leb, lt-leb}
use Rattle.model.specs.Tag.{says, belongs}
use Rattle.model.specs.declared.Tag.{Tag}
use Rattle.model.specs.declared.Tag.TheVariants.{Nothing, Entry, Closing}
use Rattle.model.specs.Commit.{add_if, members, complete, Span, entries, each_entries}
use Rattle.model_laws.proofs.trace.Trace.{Ev, Hist, mine, set_open, advance, hist, first_of, tag_of, first_in, surviving, closer_of, oldest_of, closing_from, all_landed, whole, Apart}
use Rattle.model_laws.proofs.trace.TraceLaws.{All, all_snoc, Long, Falling, falling-more, first_of-inside, done-long, done-falling, open-falling, mine-holds, Logs}

-- ---- the entries of a transaction that persisted

unfoldable pub pick : (ℕ → Bool) → List ℕ → List ℕ
pick landed [] = []
pick landed (p ∷ ps) = add_if (landed p) p (pick landed ps)

pick-le : (landed : ℕ → Bool) (ps : List ℕ) → length (pick landed ps) ≤ length ps
unfolding pick add_if
pick-le landed [] = omega arith
pick-le landed (p ∷ ps) = go (landed p) (pick-le landed ps)
  where
    go : (b : Bool) → length (pick landed ps) ≤ length ps → length (add_if b p (pick landed ps)) ≤ suc (length ps)
    go true h = omega arith
    go false h = omega arith

-- a transaction's count is met just if all its entries persisted
pub pick-count : (landed : ℕ → Bool) (ps : List ℕ) → eqb (length (pick landed ps)) (length ps) ≡ all_landed landed ps
unfolding pick add_if all_landed
pick-count landed [] = refl
pick-count landed (p ∷ ps) = go (landed p) (pick-count landed ps) (pick-le landed ps)
  where
    go : (b : Bool) → eqb (length (pick landed ps)) (length ps) ≡ all_landed landed ps → length (pick landed ps) ≤ length ps
        → eqb (length (add_if b p (pick landed ps))) (suc (length ps)) ≡ (b && all_landed landed ps)
    go true ih h = eqb-suc-suc (length (pick landed ps)) (length ps) ∙ ih
    go false ih h = ne_eqb (length (pick landed ps)) (suc (length ps)) (λ e. omega arith)

pub pick_all : (landed : ℕ → Bool) (ps : List ℕ) → all_landed landed ps ≡ true → pick landed ps ≡ ps
unfolding pick add_if all_landed
pick_all landed [] a = refl
pick_all landed (p ∷ ps) a = go (landed p) a (pick_all landed ps)
  where
    go : (b : Bool) → (b && all_landed landed ps) ≡ true → (all_landed landed ps ≡ true → pick landed ps ≡ ps) → add_if b p (pick landed ps) ≡ p ∷ ps
    go true a ih = ap {B = List ℕ} (λ l. p ∷ l) (ih a)
    go false a ih = absurd (false≢true a)

-- ---- the entries that the walk counts

belongs-says : (c f : ℕ) (b : Bool) (t : Tag) → c ≤ f → belongs f (says (b && leb c (first_in t)) t) ≡ (b && belongs f t)
unfolding belongs says first_in
belongs-says c f false t h = refl
belongs-says c f true Nothing h = go (leb c 0)
  where
    go : (b : Bool) → belongs f (says b Nothing) ≡ false
    go true = refl
    go false = refl
belongs-says c f true (Entry a g) h = go (leb c g) refl
  where
    go : (b : Bool) → leb c g ≡ b → belongs f (says b (Entry a g)) ≡ eqb f g
    go true e = refl
    go false e = sym (ne_eqb f g (λ q. omega (arith, leb-false c g e)))
belongs-says c f true (Closing a g l k) h = go (leb c g) refl
  where
    go : (b : Bool) → leb c g ≡ b → belongs f (says b (Closing a g l k)) ≡ eqb f g
    go true e = refl
    go false e = sym (ne_eqb f g (λ q. omega (arith, leb-false c g e)))

belongs-used : (f p : ℕ) (e : Ev) (ps : List ℕ) (b : Bool) → belongs f (tag_of p e ps true b) ≡ eqb f (first_of p ps)
unfolding belongs tag_of
belongs-used f p e ps true = refl
belongs-used f p e ps false = refl

pub members-high : (log : ℕ → Tag) (f c n : ℕ) → c + n ≤ f → members log f c n ≡ []
unfolding members add_if
members-high log f c zero h = refl
members-high log f c (suc n) h = rw (lt-leb f (c + n) (omega arith)) (members-high log f c n (omega arith))

pub members-skip : (log : ℕ → Tag) (f c n : ℕ) → belongs f (log (c + n)) ≡ false → members log f c (suc n) ≡ members log f c n
unfolding members add_if
members-skip log f c n e = rw (e, and-false)

pub members-take : (log : ℕ → Tag) (f c n : ℕ) → f ≤ c + n → members log f c (suc n) ≡ add_if (belongs f (log (c + n))) (c + n) (members log f c n)
unfolding members
members-take log f c n h = rw (le-leb f (c + n) h)

-- where they lie, and what their tags say
pub members-falling : (log : ℕ → Tag) (f c n : ℕ) → Falling c (c + n) (members log f c n)
unfolding members add_if
members-falling log f c zero = tt
members-falling log f c (suc n) = go (leb f (c + n) && belongs f (log (c + n))) (members-falling log f c n)
  where
    go : (b : Bool) → Falling c (c + n) (members log f c n) → Falling c (c + suc n) (add_if b (c + n) (members log f c n))
    go true h = (omega arith, omega arith, h)
    go false h = falling-more c (c + n) (c + suc n) (members log f c n) (omega arith) h

pub members-belong : (log : ℕ → Tag) (f c n : ℕ) → All (λ p. belongs f (log p) ≡ true) (members log f c n)
unfolding members add_if
members-belong log f c zero = tt
members-belong log f c (suc n) = go (leb f (c + n)) (belongs f (log (c + n))) refl (members-belong log f c n)
  where
    go : (a b : Bool) → belongs f (log (c + n)) ≡ b → All (λ p. belongs f (log p) ≡ true) (members log f c n)
        → All (λ p. belongs f (log p) ≡ true) (add_if (a && b) (c + n) (members log f c n))
    go true true e h = (e, h)
    go true false e h = h
    go false b e h = h

-- the writer that logged at a position
unfoldable pub writer_on : ℕ → List Ev → ℕ → ℕ
writer_on base [] p = 0
writer_on base (e ∷ tr) p = cond (eqb p (base + length tr)) e.writer (writer_on base tr p)

abbrev pub Writers : (ℕ → ℕ) → ℕ → List Ev → Type 0
Writers who base [] = Unit {0}
Writers who base (e ∷ tr) = (who (base + length tr) ≡ e.writer) × Writers who base tr

pub writers : (who : ℕ → ℕ) (base : ℕ) (tr : List Ev) → ((p : ℕ) → p < base + length tr → who p ≡ writer_on base tr p) → Writers who base tr
unfolding writer_on
writers who base [] h = tt
writers who base (e ∷ tr) h = (
  h (base + length tr) (omega arith) ∙ rw (eq-eqb (base + length tr) (base + length tr) refl),
  writers who base tr (λ p l. h p (omega arith) ∙ rw (ne_eqb p (base + length tr) (λ q. omega arith))),
)

set_open-whose : (P : ℕ → List ℕ → Type 0) (o : ℕ → List ℕ) (w : ℕ) (ps : List ℕ) (x : ℕ) → P w ps → ((w ≡ x → ⊥) → P x (o x)) → P x (set_open o w ps x)
unfolding set_open
set_open-whose P o w ps x h k = go (eqb w x) refl
  where
    go : (b : Bool) → eqb w x ≡ b → P x (cond b ps (o x))
    go true e = rw (eqb-true w x e) at h
    go false e = k (eqb-false w x e)

-- the first position of an open transaction was logged by its writer
abbrev Owned : (ℕ → ℕ) → ℕ → List ℕ → Type 0
Owned who x [] = Unit {0}
Owned who x (q ∷ qs) = who (first_of q qs) ≡ x

owned-cons : (who : ℕ → ℕ) (x p : ℕ) (ps : List ℕ) → who p ≡ x → Owned who x ps → Owned who x (p ∷ ps)
unfolding first_of
owned-cons who x p [] e o = e
owned-cons who x p (q ∷ qs) e o = o

owned-step : (who : ℕ → ℕ) (p : ℕ) (h : Hist) (e : Ev) (u f : Bool) → who p ≡ e.writer → ((x : ℕ) → Owned who x (h.open_transaction x)) → (x : ℕ)
    → Owned who x ((advance p e h u f).open_transaction x)
unfolding advance
owned-step who p h e false f q o x = o x
owned-step who p h e true true q o x = set_open-whose (Owned who) h.open_transaction e.writer [] x tt (λ d. o x)
owned-step who p h e true false q o x =
    set_open-whose (Owned who) h.open_transaction e.writer (p ∷ mine h e) x
    (owned-cons who e.writer p (mine h e) q (mine-holds (Owned who e.writer) h e tt (o e.writer))) (λ d. o x)

owned : (who : ℕ → ℕ) (base : ℕ) (tr : List Ev) → Writers who base tr → (x : ℕ) → Owned who x ((hist base tr).open_transaction x)
unfolding hist
owned who base [] w x = tt
owned who base (e ∷ tr) w x = owned-step who (base + length tr) (hist base tr) e e.used e.final w.0 (owned who base tr w.1) x

module _ (landed : ℕ → Bool) (c : ℕ) (log : ℕ → Tag) where
  abbrev pub kept : ℕ → Tag
  kept = surviving landed c log

  -- of a transaction that begins at or above c, those that persisted are found
  abbrev pub Counted : ℕ → List ℕ → Type 0
  Counted n [] = Unit {0}
  Counted n (q ∷ qs) = c ≤ first_of q qs → members kept (first_of q qs) c n ≡ pick landed (q ∷ qs)

  belongs-there : (f p : ℕ) → c ≤ f → belongs f (kept p) ≡ (landed p && belongs f (log p))
  unfolding surviving
  belongs-there f p h = belongs-says c f (landed p) (log p) h

  counted-before : (n : ℕ) (ps : List ℕ) → Counted n ps → c ≤ first_of (c + n) ps → members kept (first_of (c + n) ps) c n ≡ pick landed ps
  unfolding first_of pick
  counted-before n [] k h = members-high kept (c + n) c n (omega arith)
  counted-before n (q ∷ qs) k h = k h

  pub counted-mine : (n : ℕ) (e : Ev) (ps : List ℕ) (b : Bool) → log (c + n) ≡ tag_of (c + n) e ps true b → first_of (c + n) ps ≤ c + n → Counted n ps
      → Counted (suc n) ((c + n) ∷ ps)
  unfolding pick
  counted-mine n e ps b l u k h =
      members-take kept (first_of (c + n) ps) c n u
      ∙ rw (
        belongs-there (first_of (c + n) ps) (c + n) h,
        l,
        belongs-used (first_of (c + n) ps) (c + n) e ps b,
        eq-eqb (first_of (c + n) ps) (first_of (c + n) ps) refl,
        counted-before n ps k h,
      ) (go (landed (c + n)))
    where
      go : (d : Bool) → add_if (d && true) (c + n) (pick landed ps) ≡ add_if d (c + n) (pick landed ps)
      go true = refl
      go false = refl

  -- a position that another transaction, or none, logged changes nothing
  abbrev Foreign : ℕ → List ℕ → Type 0
  Foreign n [] = Unit {0}
  Foreign n (q ∷ qs) = belongs (first_of q qs) (log (c + n)) ≡ false

  counted-other : (n : ℕ) (ps : List ℕ) → Foreign n ps → Counted n ps → Counted (suc n) ps
  counted-other n [] d k = tt
  counted-other n (q ∷ qs) d k = λ h. members-skip kept (first_of q qs) c n (belongs-there (first_of q qs) (c + n) h ∙ rw (d, and-false)) ∙ k h

  foreign-unused : (n : ℕ) (ps : List ℕ) → log (c + n) ≡ Nothing → Foreign n ps
  unfolding belongs
  foreign-unused n [] l = tt
  foreign-unused n (q ∷ qs) l = rw l

  foreign-used : (who : ℕ → ℕ) (n : ℕ) (e : Ev) (ps qs : List ℕ) (x : ℕ) (b : Bool) → log (c + n) ≡ tag_of (c + n) e ps true b
      → Owned who e.writer ((c + n) ∷ ps) → (e.writer ≡ x → ⊥) → Owned who x qs → Foreign n qs
  foreign-used who n e ps [] x b l o d k = tt
  foreign-used who n e ps (q ∷ qs) x b l o d k =
      rw (l, belongs-used (first_of q qs) (c + n) e ps b) (ne_eqb (first_of q qs) (first_of (c + n) ps) (λ z. d (sym o ∙ ap who (sym z) ∙ k)))

  counted_step : (who : ℕ → ℕ) (n : ℕ) (h : Hist) (e : Ev) (u f : Bool) → log (c + n) ≡ tag_of (c + n) e (mine h e) u f → who (c + n) ≡ e.writer
      → first_of (c + n) (mine h e) ≤ c + n → ((x : ℕ) → Owned who x (h.open_transaction x)) → ((x : ℕ) → Counted n (h.open_transaction x))
      → (x : ℕ) → Counted (suc n) ((advance (c + n) e h u f).open_transaction x)
  unfolding advance tag_of
  counted_step who n h e false f l q b o k x = counted-other n (h.open_transaction x) (foreign-unused n (h.open_transaction x) l) (k x)
  counted_step who n h e true true l q b o k x =
      let own : Owned who e.writer ((c + n) ∷ mine h e) = owned-cons who e.writer (c + n) (mine h e) q
      (mine-holds (Owned who e.writer) h e tt (o e.writer)) in
      set_open-whose (λ y. Counted (suc n)) h.open_transaction e.writer [] x tt
      (λ d. counted-other n (h.open_transaction x) (foreign-used who n e (mine h e) (h.open_transaction x) x true l own d (o x)) (k x))
  counted_step who n h e true false l q b o k x =
      let own : Owned who e.writer ((c + n) ∷ mine h e) = owned-cons who e.writer (c + n) (mine h e) q
      (mine-holds (Owned who e.writer) h e tt (o e.writer)) in
      set_open-whose (λ y. Counted (suc n)) h.open_transaction e.writer ((c + n) ∷ mine h e) x
      (counted-mine n e (mine h e) false l b (mine-holds (Counted n) h e tt (k e.writer)))
      (λ d. counted-other n (h.open_transaction x) (foreign-used who n e (mine h e) (h.open_transaction x) x false l own d (o x)) (k x))

  -- the count that a closing entry finds, where it persisted itself
  pub counted-closing : (n : ℕ) (ps : List ℕ) → Counted (suc n) ((c + n) ∷ ps) → c ≤ first_of (c + n) ps → landed (c + n) ≡ true
      → complete kept c n (first_of (c + n) ps) (suc (length ps)) ≡ all_landed landed ps
  unfolding complete pick add_if
  counted-closing n ps k h l = rw (k h, l, eqb-suc-suc) (pick-count landed ps)

  counted-low : (low n : ℕ) (ps : List ℕ) → Falling low c ps → Counted n ps
  counted-low low n [] f = tt
  counted-low low n (q ∷ qs) f = λ h. let g = first_of-inside low c q qs f in absurd (omega arith)

-- ---- the entries of a committed transaction

unfoldable pub span_of : List ℕ → Span
span_of t = record { first = oldest_of t; closing = closer_of t }

unfoldable pub spans_of : List (List ℕ) → List Span
spans_of [] = []
spans_of (t ∷ ts) = span_of t ∷ spans_of ts

module _ (landed : ℕ → Bool) (c : ℕ) (log : ℕ → Tag) where
  -- a transaction committed at or above c is found by its closing entry
  abbrev pub Found : List ℕ → Type 0
  Found t = c ≤ oldest_of t → entries (kept landed c log) c (span_of t) ≡ pick landed t

  found-step : (n : ℕ) (h : Hist) (e : Ev) (u f : Bool) → log (c + n) ≡ tag_of (c + n) e (mine h e) u f → first_of (c + n) (mine h e) ≤ c + n
      → Counted landed c log n (mine h e) → All Found h.done → All Found (advance (c + n) e h u f).done
  unfolding advance entries span_of oldest_of closer_of
  found-step n h e false f l b k g = g
  found-step n h e true false l b k g = g
  found-step n h e true true l b k g =
      all_snoc Found h.done ((c + n) ∷ mine h e) g
      (λ z. let q : suc (c + n) - c ≡ suc n = omega arith in rw q (counted-mine landed c log n e (mine h e) true l b k z))

  found_below : (low : ℕ) (t : List ℕ) → Long t → Falling low c t → Found t
  unfolding oldest_of
  found_below low [] l f = absurd l
  found_below low (p ∷ ps) l f = λ z. let g = first_of-inside low c p ps f in absurd (omega arith)

  found-low : (low : ℕ) (ts : List (List ℕ)) → All Long ts → All (Falling low c) ts → All Found ts
  found-low low [] l f = tt
  found-low low (t ∷ ts) l f = (found_below low t l.0 f.0, found-low low ts l.1 f.1)

  -- what is found of the transactions that the walk takes
  pub each-found : (ts : List (List ℕ)) → All Found ts → Apart c ts
      → each_entries (kept landed c log) c (spans_of (whole landed (closing_from c ts))) ≡ whole landed (closing_from c ts)
  unfolding closing_from each_entries spans_of whole
  each-found [] g x = refl
  each-found (t ∷ ts) g x = above (leb c (closer_of t)) refl (each-found ts g.1 x.1)
    where
      ih-type : Type 0
      ih-type = each_entries (kept landed c log) c (spans_of (whole landed (closing_from c ts))) ≡ whole landed (closing_from c ts)

      taken : c ≤ oldest_of t → (b : Bool) → all_landed landed t ≡ b → ih-type
          → each_entries (kept landed c log) c (spans_of (cond b (t ∷ whole landed (closing_from c ts)) []))
          ≡ cond b (t ∷ whole landed (closing_from c ts)) []
      taken h true a ih = rw (g.0 h, pick_all landed t a, ih)
      taken h false a ih = refl

      begins : c ≤ closer_of t → (closer_of t < c) ⊎ (c ≤ oldest_of t) → c ≤ oldest_of t
      begins h (inl z) = omega arith
      begins h (inr z) = z

      above : (b : Bool) → leb c (closer_of t) ≡ b → ih-type
          → each_entries (kept landed c log) c (spans_of (whole landed (cond b (t ∷ closing_from c ts) (closing_from c ts))))
          ≡ whole landed (cond b (t ∷ closing_from c ts) (closing_from c ts))
      above true e ih = taken (begins (leb-true c (closer_of t) e) x.0) (all_landed landed t) refl ih
      above false e ih = ih

module _ (landed : ℕ → Bool) (c : ℕ) (log : ℕ → Tag) (who : ℕ → ℕ) (base : ℕ) (from : base ≤ c) where
  mine-falls : (tr : List Ev) (e : Ev) → Falling base (base + length tr) (mine (hist base tr) e)
  mine-falls tr e = mine-holds (Falling base (base + length tr)) (hist base tr) e tt (open-falling base tr e.writer)

  pub mine-first : (tr : List Ev) (e : Ev) (n : ℕ) → c + n ≡ base + length tr → first_of (c + n) (mine (hist base tr) e) ≤ c + n
  mine-first tr e n q =
      let f : Falling base (c + n) (mine (hist base tr) e) = rw (← q) at (mine-falls tr e) in
      (first_of-inside base (suc (c + n)) (c + n) (mine (hist base tr) e) (omega arith, omega arith, f)).1

  counted : (tr : List Ev) (n : ℕ) → c + n ≡ base + length tr → Logs log base tr → Writers who base tr → (x : ℕ)
      → Counted landed c log n ((hist base tr).open_transaction x)
  unfolding hist
  counted tr zero q l v x =
      counted-low landed c log base 0 ((hist base tr).open_transaction x)
      (falling-more base (base + length tr) c ((hist base tr).open_transaction x) (omega arith) (open-falling base tr x))
  counted [] (suc n) q l v x = absurd (omega arith)
  counted (e ∷ tr) (suc n) q l v x =
      let q' : c + n ≡ base + length tr = omega arith in
      rw (← q') (counted_step landed c log who n (hist base tr) e e.used e.final (rw (← q') at l.0) (rw (← q') at v.0)
      (mine-first tr e n q') (owned who base tr v.1) (counted tr n q' l.1 v.1) x)

  pub counted-now : (tr : List Ev) (e : Ev) (n : ℕ) → c + n ≡ base + length tr → Logs log base tr → Writers who base tr
      → Counted landed c log n (mine (hist base tr) e)
  counted-now tr e n q l v = mine-holds (Counted landed c log n) (hist base tr) e tt (counted tr n q l v e.writer)

  pub found : (tr : List Ev) (n : ℕ) → c + n ≡ base + length tr → Logs log base tr → Writers who base tr
      → All (Found landed c log) (hist base tr).done
  unfolding hist
  found tr zero q l v =
      let z : base + length tr ≡ c = omega arith in
      let f : All (Falling base c) (hist base tr).done = rw z at (done-falling base tr) in
      found-low landed c log base (hist base tr).done (done-long base tr) f
  found [] (suc n) q l v = absurd (omega arith)
  found (e ∷ tr) (suc n) q l v =
      let q' : c + n ≡ base + length tr = omega arith in
      rw (← q') (found-step landed c log n (hist base tr) e e.used e.final (rw (← q') at l.0) (mine-first tr e n q')
      (counted-now tr e n q' l.1 v.1) (found tr n q' l.1 v.1))
