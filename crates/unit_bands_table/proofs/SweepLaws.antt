-- What the judging code computes is what the definitions say. Assumes nothing.
use mathlib.Core.Path.{◌≡◌, refl, ◌∙◌}
use mathlib.Core.Bool.{Bool, true, false}
use mathlib.Core.List.{List, [], ◌∷◌}
use Prim.Native.Nat.{ℕ, ◌+◌, ◌≤◌, ◌<◌, min, max}
use native.Mathlib.Omega.{arith}
use borrow.Author.Tests.{eqb-true, leb-true, leb-false, le-leb, lt-leb}
use lib.Dec.{eqb, leb}
use lib.ListN.{length, get_or}
use Rattle.unit_bands_table.specs.Rows.{Row, band, holds, count, place, lookup}
use Rattle.unit_bands_table.specs.Judge.{depths, all_fit, doubled}
use Rattle.unit_bands_table.specs.Sweep.{rising, common, shared, twice}
use Rattle.unit_bands_table.proofs.RowLaws.{both_left, both_right, fit-ordered, all_first, all_rest}
use Rattle.unit_bands_table.proofs.CountLaws.{holds-above, holds-below, holds-in, holds-low, holds-high, count-nil, count-in, count-out, count-more, count_at, place-holds}
use Rattle.unit_bands_table.proofs.LowestLaws.{doubled-is}

-- ---- rows that rise without a gap

rising-from : (next : ℕ) (r : Row) (rs : List Row) → rising next (r ∷ rs) ≡ true → r.from ≡ next
unfolding rising
rising-from next r rs e = eqb-true r.from next (both_left (eqb r.from next) _ e)

rising-next : (next : ℕ) (r : Row) (rs : List Row) → rising next (r ∷ rs) ≡ true → rising (r.to + 1) rs ≡ true
unfolding rising
rising-next next r rs e = both_right (eqb r.from next) _ e

rising-end : (next : ℕ) → rising next [] ≡ true → next ≡ 10000
unfolding rising depths
rising-end next e = eqb-true next 10000 e

-- a millimetre below the beginning lies in no row
pub rising-below : (mm next : ℕ) (rs : List Row) → rising next rs ≡ true → all_fit rs ≡ true → mm < next → count mm rs ≡ 0
rising-below mm next [] e f h = count-nil mm
rising-below mm next (r ∷ rs) e f h =
    let q = rising-from next r rs e in
    let o = fit-ordered r (all_first r rs f) in
    count-out mm r rs (holds-low mm r (omega arith))
    ∙ rising-below mm (r.to + 1) rs (rising-next next r rs e) (all_rest r rs f) (omega arith)

-- one from there on lies in one
pub rising-one : (mm next : ℕ) (rs : List Row) → rising next rs ≡ true → all_fit rs ≡ true → next ≤ mm → mm < 10000 → count mm rs ≡ 1
rising-one mm next [] e f h l = let q = rising-end next e in absurd (omega arith)
rising-one mm next (r ∷ rs) e f h l = go (leb mm r.to) refl (rising-one mm (r.to + 1) rs (rising-next next r rs e) (all_rest r rs f))
  where
    go : (t : Bool) → leb mm r.to ≡ t → (r.to + 1 ≤ mm → mm < 10000 → count mm rs ≡ 1) → count mm (r ∷ rs) ≡ 1
    go true t rec =
        let q = rising-from next r rs e in
        let b = leb-true mm r.to t in
        let z = rising-below mm (r.to + 1) rs (rising-next next r rs e) (all_rest r rs f) (omega arith) in
        omega (arith, count-in mm r rs (holds-in mm r (omega arith) b))
    go false t rec =
        let q = rising-from next r rs e in
        let b = leb-false mm r.to t in
        count-out mm r rs (holds-high mm r (omega arith) b) ∙ rec (omega arith) l

-- ---- a walk from row to row

-- the millimetres from one on to the end of the row found for it are covered
pub walk : (rs : List Row) (mm : ℕ) → place mm rs < length rs → (k : ℕ) → mm ≤ k → k ≤ (lookup mm rs).to → 1 ≤ count k rs
unfolding lookup
walk rs mm h k a b =
    let e = place-holds mm rs h in
    let l = holds-above mm (get_or rs (place mm rs) (band 0 0 0)) e in
    count_at k rs (place mm rs) h (holds-in k (get_or rs (place mm rs) (band 0 0 0)) (omega arith) b)

-- ---- two rows that meet

pub common-meet : (f t g u : ℕ) → max f g ≤ min t u → common f t g u ≡ max f g
unfolding common
common-meet f t g u h = rw (le-leb (max f g) (min t u) h)

pub common-apart : (f t g u : ℕ) → min t u < max f g → common f t g u ≡ 10000
unfolding common depths
common-apart f t g u h = rw (lt-leb (max f g) (min t u) h)

pub shared-nil : (f t : ℕ) → shared f t [] ≡ 10000
unfolding shared depths
shared-nil f t = refl

pub shared-cons : (f t : ℕ) (s : Row) (ss : List Row) → shared f t (s ∷ ss) ≡ min (common f t s.from s.to) (shared f t ss)
unfolding shared
shared-cons f t s ss = refl

pub twice-nil : twice [] ≡ 10000
unfolding twice depths
twice-nil = refl

pub twice-cons : (r : Row) (rs : List Row) → twice (r ∷ rs) ≡ min (shared r.from r.to rs) (twice rs)
unfolding twice
twice-cons r rs = refl

pub shared-high : (f t : ℕ) (ss : List Row) → shared f t ss ≤ 10000
shared-high f t [] = omega (arith, shared-nil f t)
shared-high f t (s ∷ ss) = omega (arith, shared-cons f t s ss, shared-high f t ss)

pub twice-high : (rs : List Row) → twice rs ≤ 10000
twice-high [] = omega (arith, twice-nil)
twice-high (r ∷ rs) = omega (arith, twice-cons r rs, twice-high rs)

-- below it, a millimetre of the row lies in no other
shared-below : (mm f t : ℕ) (ss : List Row) → mm < shared f t ss → f ≤ mm → mm ≤ t → count mm ss ≡ 0
shared-below mm f t [] h a b = count-nil mm
shared-below mm f t (s ∷ ss) h a b = go (holds mm s) refl (shared-below mm f t ss (omega (arith, shared-cons f t s ss)) a b)
  where
    go : (x : Bool) → holds mm s ≡ x → count mm ss ≡ 0 → count mm (s ∷ ss) ≡ 0
    go true e rec =
        let l = holds-above mm s e in
        let u = holds-below mm s e in
        let m : max f s.from ≤ min t s.to = omega arith in
        absurd (omega (arith, shared-cons f t s ss, common-meet f t s.from s.to m))
    go false e rec = count-out mm s ss e ∙ rec

pub record Met (f t : ℕ) (ss : List Row) (mm : ℕ) : Type 0 where
  pub above : f ≤ mm
  pub below : mm ≤ t
  pub other : 1 ≤ count mm ss

shared-here : (f t : ℕ) (ss : List Row) → shared f t ss < 10000 → Met f t ss (shared f t ss)
shared-here f t [] h = absurd (omega (arith, shared-nil f t))
shared-here f t (s ∷ ss) h = go (leb (max f s.from) (min t s.to)) refl (shared-here f t ss)
  where
    later : shared f t (s ∷ ss) ≡ shared f t ss → (shared f t ss < 10000 → Met f t ss (shared f t ss)) → Met f t (s ∷ ss) (shared f t (s ∷ ss))
    later e rec =
        let m = rec (omega arith) in
        rw e (record { above = m.above; below = m.below; other = omega (arith, m.other, count-more (shared f t ss) s ss) })

    here : shared f t (s ∷ ss) ≡ max f s.from → max f s.from ≤ min t s.to → Met f t (s ∷ ss) (shared f t (s ∷ ss))
    here e m =
        rw e
        (record {
          above = omega arith;
          below = omega arith;
          other = omega (arith, count-in (max f s.from) s ss (holds-in (max f s.from) s (omega arith) (omega arith)));
        })

    less : max f s.from ≤ min t s.to → (x : Bool) → leb (max f s.from) (shared f t ss) ≡ x
        → (shared f t ss < 10000 → Met f t ss (shared f t ss)) → Met f t (s ∷ ss) (shared f t (s ∷ ss))
    less m true e rec =
        let l = leb-true (max f s.from) (shared f t ss) e in
        here (omega (arith, shared-cons f t s ss, common-meet f t s.from s.to m)) m
    less m false e rec =
        let l = leb-false (max f s.from) (shared f t ss) e in
        later (omega (arith, shared-cons f t s ss, common-meet f t s.from s.to m)) rec

    go : (x : Bool) → leb (max f s.from) (min t s.to) ≡ x → (shared f t ss < 10000 → Met f t ss (shared f t ss)) → Met f t (s ∷ ss) (shared f t (s ∷ ss))
    go true e rec = less (leb-true (max f s.from) (min t s.to) e) (leb (max f s.from) (shared f t ss)) refl rec
    go false e rec =
        let l = leb-false (max f s.from) (min t s.to) e in
        later (omega (arith, shared-cons f t s ss, common-apart f t s.from s.to l, shared-high f t ss)) rec

twice-below : (mm : ℕ) (rs : List Row) → mm < twice rs → count mm rs ≤ 1
twice-below mm [] h = omega (arith, count-nil mm)
twice-below mm (r ∷ rs) h = go (holds mm r) refl (twice-below mm rs (omega (arith, twice-cons r rs)))
  where
    go : (x : Bool) → holds mm r ≡ x → count mm rs ≤ 1 → count mm (r ∷ rs) ≤ 1
    go true e rec =
        omega (arith, count-in mm r rs e, shared-below mm r.from r.to rs (omega (arith, twice-cons r rs)) (holds-above mm r e) (holds-below mm r e))
    go false e rec = omega (arith, count-out mm r rs e)

twice-here : (rs : List Row) → twice rs < 10000 → 2 ≤ count (twice rs) rs
twice-here [] h = absurd (omega (arith, twice-nil))
twice-here (r ∷ rs) h = go (leb (shared r.from r.to rs) (twice rs)) refl (twice-here rs)
  where
    first : twice (r ∷ rs) ≡ shared r.from r.to rs → 2 ≤ count (twice (r ∷ rs)) (r ∷ rs)
    first e =
        let m = shared-here r.from r.to rs (omega arith) in
        rw e (omega (arith, m.other, count-in (shared r.from r.to rs) r rs (holds-in (shared r.from r.to rs) r m.above m.below)))

    later : twice (r ∷ rs) ≡ twice rs → 2 ≤ count (twice rs) rs → 2 ≤ count (twice (r ∷ rs)) (r ∷ rs)
    later e k = rw e (omega (arith, count-more (twice rs) r rs))

    go : (x : Bool) → leb (shared r.from r.to rs) (twice rs) ≡ x → (twice rs < 10000 → 2 ≤ count (twice rs) rs) → 2 ≤ count (twice (r ∷ rs)) (r ∷ rs)
    go true e rec =
        let l = leb-true (shared r.from r.to rs) (twice rs) e in
        first (omega (arith, twice-cons r rs))
    go false e rec =
        let l = leb-false (shared r.from r.to rs) (twice rs) e in
        later (omega (arith, twice-cons r rs)) (rec (omega (arith, twice-cons r rs)))

pub doubled-twice : (rs : List Row) → doubled rs ≡ twice rs
doubled-twice rs = doubled-is rs (twice rs) (twice-high rs) (λ j h. twice-below j rs h) (twice-here rs)
