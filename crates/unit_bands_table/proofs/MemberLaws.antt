-- The rows that a millimetre lies in, by index and by number. Assumes nothing.
use mathlib.Core.Path.{◌≡◌, refl}
use mathlib.Core.Bool.{Bool, true, false}
use mathlib.Core.List.{List, [], ◌∷◌}
use Prim.Native.Nat.{ℕ, zero, suc, ◌≤◌, ◌<◌}
use native.Mathlib.Omega.{arith}
use borrow.Author.Tests.{eqb-true, eqb-false, leb-true, leb-false}
use lib.Dec.{eqb, leb}
use lib.ListN.{length}
use Rattle.unit_bands_table.specs.Rows.{Row, holds, count, place, lookup}
use Rattle.unit_bands_table.specs.Guarantees.{row_of, In, InSome, InTwo, InOne}
use Rattle.unit_bands_table.proofs.CountLaws.{holds-above, holds-below, holds-in, count-nil, count-in, count-out, count-more, count_at, place-holds, place-some}

-- ---- one index

pub in-holds : {rs : List Row} {mm i : ℕ} → In rs mm i → holds mm (row_of rs i) ≡ true
in-holds {rs} {mm} {i} h = holds-in mm (row_of rs i) h.above h.below

pub holds_row : (rs : List Row) (mm i : ℕ) → i < length rs → holds mm (row_of rs i) ≡ true → In rs mm i
holds_row rs mm i h e = record { inside = h; above = holds-above mm (row_of rs i) e; below = holds-below mm (row_of rs i) e }

pub in-later : {r : Row} {rs : List Row} {mm i : ℕ} → In rs mm i → In (r ∷ rs) mm (suc i)
in-later h = record { inside = omega (arith, h.inside); above = h.above; below = h.below }

-- ---- in some

pub in_place : (rs : List Row) (mm : ℕ) → 1 ≤ count mm rs → In rs mm (place mm rs)
unfolding lookup
in_place rs mm h = let l = place-some mm rs h in holds_row rs mm (place mm rs) l (place-holds mm rs l)

pub counted-some : (rs : List Row) (mm : ℕ) → 1 ≤ count mm rs → InSome rs mm
counted-some rs mm h = record { at = place mm rs; here = in_place rs mm h }

pub some-counted : (rs : List Row) (mm : ℕ) → InSome rs mm → 1 ≤ count mm rs
some-counted rs mm h = count_at mm rs h.at h.here.inside (in-holds h.here)

-- ---- in two

two-later : {r : Row} {rs : List Row} {mm : ℕ} → InTwo rs mm → InTwo (r ∷ rs) mm
two-later h =
    record { first = suc h.first; second = suc h.second; apart = omega (arith, h.apart); in_first = in-later h.in_first; in_second = in-later h.in_second }

pub counted-two : (rs : List Row) (mm : ℕ) → 2 ≤ count mm rs → InTwo rs mm
counted-two [] mm h = absurd (omega (arith, count-nil mm))
counted-two (r ∷ rs) mm h = go (holds mm r) refl (counted-two rs mm)
  where
    go : (t : Bool) → holds mm r ≡ t → (2 ≤ count mm rs → InTwo rs mm) → InTwo (r ∷ rs) mm
    go true e rec =
        record {
          first = 0;
          second = suc (place mm rs);
          apart = omega arith;
          in_first = holds_row (r ∷ rs) mm 0 (omega arith) e;
          in_second = in-later (in_place rs mm (omega (arith, count-in mm r rs e)));
        }
    go false e rec = two-later (rec (omega (arith, count-out mm r rs e)))

count-both : (rs : List Row) (mm i j : ℕ) → i < j → j < length rs → holds mm (row_of rs i) ≡ true → holds mm (row_of rs j) ≡ true → 2 ≤ count mm rs
count-both [] mm i j l h a b = absurd (omega arith)
count-both (r ∷ rs) mm i zero l h a b = absurd (omega arith)
count-both (r ∷ rs) mm zero (suc j) l h a b = omega (arith, count-in mm r rs a, count_at mm rs j (omega arith) b)
count-both (r ∷ rs) mm (suc i) (suc j) l h a b = omega (arith, count-more mm r rs, count-both rs mm i j (omega arith) (omega arith) a b)

pub two-counted : (rs : List Row) (mm : ℕ) → InTwo rs mm → 2 ≤ count mm rs
two-counted rs mm h = count-both rs mm h.first h.second h.apart h.in_second.inside (in-holds h.in_first) (in-holds h.in_second)

-- ---- in one

pub only_one : (rs : List Row) (mm i j : ℕ) → count mm rs ≤ 1 → In rs mm i → In rs mm j → i ≡ j
only_one rs mm i j h a b = go (eqb i j) refl
  where
    apart : (x y : ℕ) → x < y → In rs mm x → In rs mm y → ⊥
    apart x y l p q = omega (arith, two-counted rs mm (record { first = x; second = y; apart = l; in_first = p; in_second = q }))

    side : (i ≡ j → ⊥) → (t : Bool) → leb i j ≡ t → ⊥
    side d true e = let l = leb-true i j e in apart i j (omega arith) a b
    side d false e = apart j i (leb-false i j e) b a

    go : (t : Bool) → eqb i j ≡ t → i ≡ j
    go true e = eqb-true i j e
    go false e = absurd (side (eqb-false i j e) (leb i j) refl)

pub counted-one : (rs : List Row) (mm : ℕ) → count mm rs ≡ 1 → InOne rs mm
counted-one rs mm h =
    let p = in_place rs mm (omega arith) in
    record { at = place mm rs; here = p; only = λ i q. only_one rs mm i (place mm rs) (omega arith) q p }

pub one-counted : (rs : List Row) (mm : ℕ) → InOne rs mm → count mm rs ≤ 1
one-counted rs mm h = go (leb (count mm rs) 1) refl
  where
    never : 2 ≤ count mm rs → ⊥
    never c = let t = counted-two rs mm c in omega (arith, t.apart, h.only t.first t.in_first, h.only t.second t.in_second)

    go : (t : Bool) → leb (count mm rs) 1 ≡ t → count mm rs ≤ 1
    go true e = leb-true (count mm rs) 1 e
    go false e = absurd (never (leb-false (count mm rs) 1 e))
