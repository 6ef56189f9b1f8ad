-- Laws of the commit rule of specs/Commit, for any log: what the walk reads, where the spans that it finds lie, how it goes on. Assumes nothing.
use Prim.Native.Nat.{ℕ, zero, suc, ◌+◌, ◌-◌, ◌≤◌, ◌<◌}
use mathlib.Core.Path.{◌≡◌, refl, sym, ap, ◌∙◌}
use mathlib.Core.Logic.{◌⊎◌, inl, inr}
use mathlib.Core.Bool.{Bool, true, false, cond, ◌&&◌}
use mathlib.Core.List.Memᴰ
use mathlib.Core.List.{List, [], ◌∷◌, ◌++◌, Memᴰ}
use native.Mathlib.Nat.{zero-add, suc-add}
use native.Mathlib.Omega.{arith}
use lib.Dec.{eqb, leb, ltb}
use borrow.Author.Tests.{lt-ltb, le-ltb, le-leb, eq-eqb}
use Rattle.model.specs.Tag.{says, belongs, read_fields, read_tag}
use Rattle.model.specs.declared.Tag.{Tag}
use Rattle.model.specs.declared.Tag.TheVariants.{Nothing, Entry, Closing}
use Rattle.model.specs.Commit.{add_if, members, complete, linked, Span, Walk, started, decided_closing, visit, walk, committed, entries, each_entries, transactions}
use Rattle.model_laws.proofs.trace.Trace.{first_in, surviving, closer_of}

-- ---- what the walk reads

-- two logs agree on the n positions from c on
abbrev pub Agree : (ℕ → Tag) → (ℕ → Tag) → ℕ → ℕ → Type 0
Agree log log' c n = (q : ℕ) → c ≤ q → q < c + n → log q ≡ log' q

pub members-local : (log log' : ℕ → Tag) (f c n : ℕ) → Agree log log' c n → members log f c n ≡ members log' f c n
unfolding members
members-local log log' f c zero a = refl
members-local log log' f c (suc n) a = rw (a (c + n) (omega arith) (omega arith), members-local log log' f c n (λ q l u. a q l (omega arith)))

visit-local : (log log' : ℕ → Tag) (c n : ℕ) (t : Tag) (w : Walk) → Agree log log' c (suc n) → visit log c n t w ≡ visit log' c n t w
unfolding visit complete
visit-local log log' c n Nothing w a = refl
visit-local log log' c n (Entry h f) w a = refl
visit-local log log' c n (Closing h f l k) w a = rw (members-local log log' f c (suc n) a)

pub walk-local : (log log' : ℕ → Tag) (c n : ℕ) → Agree log log' c n → walk log c n ≡ walk log' c n
unfolding walk
walk-local log log' c zero a = refl
walk-local log log' c (suc n) a =
    visit-local log log' c n (log (c + n)) (walk log c n) a
    ∙ rw (a (c + n) (omega arith) (omega arith), walk-local log log' c n (λ q l u. a q l (omega arith)))

pub committed-local : (log log' : ℕ → Tag) (c n : ℕ) → Agree log log' c n → committed log c n ≡ committed log' c n
unfolding committed
committed-local log log' c n a = ap (λ w. w.spans) (walk-local log log' c n a)

pub entries-local : (log log' : ℕ → Tag) (c n : ℕ) (s : Span) → s.closing < c + n → Agree log log' c n → entries log c s ≡ entries log' c s
unfolding entries
entries-local log log' c n s h a = members-local log log' s.first c (suc s.closing - c) (λ q l u. a q l (omega arith))

-- ---- where the spans lie

-- closing entries that rise strictly, from low on and below high
abbrev pub SpansRise : ℕ → ℕ → List Span → Type 0
SpansRise low high [] = Unit {0}
SpansRise low high (s ∷ ss) = (low ≤ s.closing) × (s.closing < high) × SpansRise (suc s.closing) high ss

spans_rise-more : (low high : ℕ) (ss : List Span) → SpansRise low high ss → SpansRise low (suc high) ss
spans_rise-more low high [] r = tt
spans_rise-more low high (s ∷ ss) r = (r.0, omega arith, spans_rise-more (suc s.closing) high ss r.2)

spans_rise-snoc : (low high : ℕ) (ss : List Span) (s : Span) → low ≤ high → s.closing ≡ high → SpansRise low high ss
    → SpansRise low (suc high) (ss ++ (s ∷ []))
spans_rise-snoc low high [] s h e r = (omega arith, omega arith, tt)
spans_rise-snoc low high (u ∷ ss) s h e r = (r.0, omega arith, spans_rise-snoc (suc u.closing) high ss s (omega arith) e r.2)

judged-rise : (b : Bool) (low high : ℕ) (s : Span) (w : Walk) → low ≤ high → s.closing ≡ high → SpansRise low high w.spans
    → SpansRise low (suc high) (decided_closing b s w).spans
unfolding decided_closing
judged-rise true low high s w h e r = spans_rise-snoc low high w.spans s h e r
judged-rise false low high s w h e r = spans_rise-more low high w.spans r

visit-rise : (log : ℕ → Tag) (c n : ℕ) (t : Tag) (w : Walk) → SpansRise c (c + n) w.spans → SpansRise c (suc (c + n)) (visit log c n t w).spans
unfolding visit
visit-rise log c n Nothing w r = spans_rise-more c (c + n) w.spans r
visit-rise log c n (Entry h f) w r = spans_rise-more c (c + n) w.spans r
visit-rise log c n (Closing h f l k) w r =
    judged-rise (w.going && linked c w.last (c + n) l && complete log c n f k) c (c + n)
    (record { first = f; closing = c + n }) w (omega arith) refl r

-- every span found closes among the positions read, and their closing entries rise
pub committed-rise : (log : ℕ → Tag) (c n : ℕ) → SpansRise c (c + n) (committed log c n)
unfolding committed walk started
committed-rise log c zero = tt
committed-rise log c (suc n) =
    let e : c + suc n ≡ suc (c + n) = omega arith in
    rw e (visit-rise log c n (log (c + n)) (walk log c n) (committed-rise log c n))

-- so each of them does
pub spans-inside : (low high : ℕ) (s : Span) (ss : List Span) → SpansRise low high ss → Memᴰ s ss → (low ≤ s.closing) × (s.closing < high)
spans-inside low high s [] r m = absurd (Memᴰ.not-nil m)
spans-inside low high s (u ∷ ss) r m = go (Memᴰ.cases_cons m) (spans-inside (suc u.closing) high s ss r.2)
  where
    go : (s ≡ u) ⊎ Memᴰ s ss → (Memᴰ s ss → (suc u.closing ≤ s.closing) × (s.closing < high))
        → (low ≤ s.closing) × (s.closing < high)
    go (inl e) ih = rw e (r.0, r.1)
    go (inr k) ih = let h = ih k in (omega arith, h.1)

each_local : (log log' : ℕ → Tag) (c n low : ℕ) (ss : List Span) → SpansRise low (c + n) ss → Agree log log' c n
    → each_entries log c ss ≡ each_entries log' c ss
unfolding each_entries
each_local log log' c n low [] r a = refl
each_local log log' c n low (s ∷ ss) r a = rw (entries-local log log' c n s r.1 a, each_local log log' c n (suc s.closing) ss r.2 a)

pub transactions-local : (log log' : ℕ → Tag) (c n : ℕ) → Agree log log' c n → transactions log c n ≡ transactions log' c n
unfolding transactions
transactions-local log log' c n a = each_local log log' c n c (committed log c n) (committed-rise log c n) a ∙ rw (committed-local log log' c n a)

-- ---- past the last position in use nothing changes

-- where nothing stands at the k positions from c + n on
pub walk-quiet : (log : ℕ → Tag) (c n k : ℕ) → ((i : ℕ) → n ≤ i → i < k + n → log (c + i) ≡ Nothing) → walk log c (k + n) ≡ walk log c n
unfolding walk visit
walk-quiet log c n zero h = ap (walk log c) (zero-add n)
walk-quiet log c n (suc k) h =
    ap (walk log c) (suc-add k n) ∙ rw (h (k + n) (omega arith) (omega arith)) (walk-quiet log c n k (λ i l u. h i l (omega arith)))

pub committed-quiet : (log : ℕ → Tag) (c n k : ℕ) → ((i : ℕ) → n ≤ i → i < k + n → log (c + i) ≡ Nothing) → committed log c (k + n) ≡ committed log c n
unfolding committed
committed-quiet log c n k h = ap (λ w. w.spans) (walk-quiet log c n k h)

pub transactions-quiet : (log : ℕ → Tag) (c n k : ℕ) → ((i : ℕ) → n ≤ i → i < k + n → log (c + i) ≡ Nothing)
    → transactions log c (k + n) ≡ transactions log c n
unfolding transactions
transactions-quiet log c n k h = ap (each_entries log c) (committed-quiet log c n k h)

-- and where nothing stands at any
pub committed-beyond : (log : ℕ → Tag) (c n k : ℕ) → ((i : ℕ) → n ≤ i → log (c + i) ≡ Nothing) → committed log c (k + n) ≡ committed log c n
committed-beyond log c n k h = committed-quiet log c n k (λ i l u. h i l)

pub transactions-beyond : (log : ℕ → Tag) (c n k : ℕ) → ((i : ℕ) → n ≤ i → log (c + i) ≡ Nothing) → transactions log c (k + n) ≡ transactions log c n
transactions-beyond log c n k h = transactions-quiet log c n k (λ i l u. h i l)

-- ---- the walk over fewer positions

unfoldable pub spans_below : ℕ → List Span → List Span
spans_below b [] = []
spans_below b (s ∷ ss) = cond (ltb s.closing b) (s ∷ spans_below b ss) (spans_below b ss)

-- of transactions, each named by its closing entry
unfoldable pub closing_below : ℕ → List (List ℕ) → List (List ℕ)
closing_below b [] = []
closing_below b (t ∷ ts) = cond (ltb (closer_of t) b) (t ∷ closing_below b ts) (closing_below b ts)

spans_below-all : (low b : ℕ) (ss : List Span) → SpansRise low b ss → spans_below b ss ≡ ss
unfolding spans_below
spans_below-all low b [] r = refl
spans_below-all low b (s ∷ ss) r = rw (lt-ltb s.closing b r.1, spans_below-all (suc s.closing) b ss r.2)

spans_below-snoc : (b : ℕ) (ss : List Span) (s : Span) → b ≤ s.closing → spans_below b (ss ++ (s ∷ [])) ≡ spans_below b ss
unfolding spans_below
spans_below-snoc b [] s h = rw (le-ltb s.closing b h, spans_below)
spans_below-snoc b (u ∷ ss) s h = rw (spans_below-snoc b ss s h)

judged-below : (b : ℕ) (t : Bool) (s : Span) (w : Walk) → b ≤ s.closing → spans_below b (decided_closing t s w).spans ≡ spans_below b w.spans
unfolding decided_closing
judged-below b true s w h = spans_below-snoc b w.spans s h
judged-below b false s w h = refl

visit-below : (b : ℕ) (log : ℕ → Tag) (c n : ℕ) (t : Tag) (w : Walk) → b ≤ c + n → spans_below b (visit log c n t w).spans ≡ spans_below b w.spans
unfolding visit
visit-below b log c n Nothing w h = refl
visit-below b log c n (Entry a f) w h = refl
visit-below b log c n (Closing a f l k) w h =
    judged-below b (w.going && linked c w.last (c + n) l && complete log c n f k) (record { first = f; closing = c + n }) w h

upto-more : (log : ℕ → Tag) (c m k : ℕ) → committed log c m ≡ spans_below (c + m) (committed log c (k + m))
unfolding committed walk
upto-more log c m zero = rw zero-add (sym (spans_below-all c (c + m) (committed log c m) (committed-rise log c m)))
upto-more log c m (suc k) =
    rw suc-add (upto-more log c m k ∙ sym (visit-below (c + m) log c (k + m) (log (c + (k + m))) (walk log c (k + m)) (omega arith)))

pub committed-upto : (log : ℕ → Tag) (c m n : ℕ) → m ≤ n → committed log c m ≡ spans_below (c + m) (committed log c n)
committed-upto log c m n h = let e : (n - m) + m ≡ n = omega arith in rw e at (upto-more log c m (n - m))

-- ---- a span's entries: the newest is the closing one

-- no tag names a first position past its own
abbrev pub Backed : (ℕ → Tag) → Type 0
Backed log = (p : ℕ) → first_in (log p) ≤ p

-- a tag read from a word names none
says_back : (b : Bool) (t : Tag) (p : ℕ) → first_in t ≤ p → first_in (says b t) ≤ p
unfolding says first_in
says_back true t p h = h
says_back false t p h = omega arith

read_fields-back : (used closing above upper home back link count position base homes : ℕ)
    → first_in (read_fields used closing above upper home back link count position base homes) ≤ position
unfolding read_fields
read_fields-back used closing above upper home back link count position base homes =
    says_back (eqb used 1) _ position
    (says_back (eqb above 0) _ position
    (says_back (leb (home + 1) homes) _ position
    (says_back (leb (base + back) position) _ position (go (eqb closing 0)))))
  where
    first : ℕ
    first = position - back

    go : (b : Bool) → first_in (cond b (says (eqb upper 0) (Entry home first)) (says (leb 1 count) (Closing home first link count))) ≤ position
    go true = unfold first_in in says_back (eqb upper 0) (Entry home first) position (omega arith)
    go false = unfold first_in in says_back (leb 1 count) (Closing home first link count) position (omega arith)

pub read_tag-back : (word position base homes : ℕ) → first_in (read_tag word position base homes) ≤ position
unfolding read_tag
read_tag-back word position base homes = read_fields-back _ _ _ _ _ _ _ _ position base homes

pub surviving-back : (landed : ℕ → Bool) (c : ℕ) (log : ℕ → Tag) → Backed log → Backed (surviving landed c log)
unfolding surviving
surviving-back landed c log h = λ p. says_back (landed p && leb c (first_in (log p))) (log p) p (h p)

abbrev pub Headed : (ℕ → Tag) → ℕ → List Span → Type 0
Headed log c [] = Unit {0}
Headed log c (s ∷ ss) = (entries log c s ≡ s.closing ∷ members log s.first c (s.closing - c)) × Headed log c ss

headed-snoc : (log : ℕ → Tag) (c : ℕ) (ss : List Span) (s : Span) → Headed log c ss
    → entries log c s ≡ s.closing ∷ members log s.first c (s.closing - c) → Headed log c (ss ++ (s ∷ []))
headed-snoc log c [] s h e = (e, tt)
headed-snoc log c (u ∷ ss) s h e = (h.0, headed-snoc log c ss s h.1 e)

judged-headed : (log : ℕ → Tag) (c : ℕ) (b : Bool) (s : Span) (w : Walk) → Headed log c w.spans
    → entries log c s ≡ s.closing ∷ members log s.first c (s.closing - c) → Headed log c (decided_closing b s w).spans
unfolding decided_closing
judged-headed log c true s w h e = headed-snoc log c w.spans s h e
judged-headed log c false s w h e = h

-- the entries of a transaction whose closing entry stands at c + n
entries-closing : (log : ℕ → Tag) (c n h f l k : ℕ) → f ≤ c + n → log (c + n) ≡ Closing h f l k
    → entries log c (record { first = f; closing = c + n }) ≡ (c + n) ∷ members log f c (c + n - c)
unfolding entries members belongs add_if
entries-closing log c n h f l k b e =
    let e₁ : suc (c + n) - c ≡ suc n = omega arith in
    let e₂ : c + n - c ≡ n = omega arith in
    rw (e₁, e₂, e, le-leb f (c + n) b, eq-eqb f f refl)

visit-headed : (log : ℕ → Tag) (c n : ℕ) (t : Tag) (w : Walk) → log (c + n) ≡ t → first_in t ≤ c + n → Headed log c w.spans
    → Headed log c (visit log c n t w).spans
unfolding visit first_in
visit-headed log c n Nothing w e b h = h
visit-headed log c n (Entry a f) w e b h = h
visit-headed log c n (Closing a f l k) w e b h =
    judged-headed log c (w.going && linked c w.last (c + n) l && complete log c n f k)
    (record { first = f; closing = c + n }) w h (entries-closing log c n a f l k b e)

pub committed-headed : (log : ℕ → Tag) (c n : ℕ) → Backed log → Headed log c (committed log c n)
unfolding committed walk started
committed-headed log c zero b = tt
committed-headed log c (suc n) b = visit-headed log c n (log (c + n)) (walk log c n) refl (b (c + n)) (committed-headed log c n b)

each_below : (log : ℕ → Tag) (c b : ℕ) (ss : List Span) → Headed log c ss
    → each_entries log c (spans_below b ss) ≡ closing_below b (each_entries log c ss)
unfolding each_entries spans_below closing_below
each_below log c b [] h = refl
each_below log c b (s ∷ ss) h = rw closer (go (ltb s.closing b) (each_below log c b ss h.1))
  where
    closer : closer_of (entries log c s) ≡ s.closing
    closer = unfold closer_of in rw h.0

    go : (t : Bool) → each_entries log c (spans_below b ss) ≡ closing_below b (each_entries log c ss)
        → each_entries log c (cond t (s ∷ spans_below b ss) (spans_below b ss))
        ≡ cond t (entries log c s ∷ closing_below b (each_entries log c ss)) (closing_below b (each_entries log c ss))
    go true e = rw e
    go false e = e

pub transactions-upto : (log : ℕ → Tag) (c m n : ℕ) → m ≤ n → Backed log → transactions log c m ≡ closing_below (c + m) (transactions log c n)
unfolding transactions
transactions-upto log c m n h b = rw (committed-upto log c m n h) (each_below log c (c + m) (committed log c n) (committed-headed log c n b))
