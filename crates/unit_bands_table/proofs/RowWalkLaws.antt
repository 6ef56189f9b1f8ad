-- Rows that follow one another in any order: the row that begins at a millimetre, and the walk from row to row. Assumes nothing.
use mathlib.Core.Path.{◌≡◌, refl, sym, ap, ◌∙◌}
use mathlib.Core.Bool.{Bool, true, false}
use mathlib.Core.List.{List, [], ◌∷◌}
use Prim.Native.Nat.{ℕ, zero, suc, ◌+◌, ◌-◌, ◌*◌, ◌%◌, ◌≤◌, ◌<◌}
use native.Mathlib.Omega.{arith}
use borrow.Author.Tests.{eqb-true, eqb-false, eq-eqb, ne_eqb, leb-true, leb-false, ltb-true, ltb-false}
use lib.Dec.{eqb, leb, ltb}
use lib.ListN.{length}
use Rattle.unit_bands_table.specs.Rows.{Row, rows, count, place}
use Rattle.unit_bands_table.specs.Judge.{all_fit, sound, uncovered, judgement}
use Rattle.unit_bands_table.specs.Sweep.{rest, row_at, starting, width}
use Rattle.unit_bands_table.specs.Guarantees.{row_of, In}
use Rattle.unit_bands_table.proofs.RowLaws.{rest-row, rest_end, rest_all, number_at, row_from, row-to, rows_whole, row-of, fit-ordered, all-at, sound-whole, sound-fit}
use Rattle.unit_bands_table.proofs.CountLaws.{holds-in, count_at}
use Rattle.unit_bands_table.proofs.LowestLaws.{uncovered-passed}
use Rattle.unit_bands_table.proofs.MemberLaws.{in_place, only_one}
use Rattle.unit_bands_table.proofs.WidthLaws.{width-single}
use Rattle.unit_bands_table.proofs.LoopLaws.{Covered, walk-done}
use Rattle.unit_bands_table.proofs.JudgeLaws.{refuses, judged-gap, accepts-covered}

-- ---- the first row that begins at a millimetre

starting-nil : (mm : ℕ) → starting mm [] ≡ 0
unfolding starting
starting-nil mm = refl

starting-in : (mm : ℕ) (r : Row) (rs : List Row) → r.from ≡ mm → starting mm (r ∷ rs) ≡ 0
unfolding starting
starting-in mm r rs e = rw (eq-eqb r.from mm e)

starting-out : (mm : ℕ) (r : Row) (rs : List Row) → (r.from ≡ mm → ⊥) → starting mm (r ∷ rs) ≡ suc (starting mm rs)
unfolding starting
starting-out mm r rs n = rw (ne_eqb r.from mm n) (omega arith)

starting-from : (mm : ℕ) (rs : List Row) → starting mm rs < length rs → (row_of rs (starting mm rs)).from ≡ mm
starting-from mm [] h = absurd (omega arith)
starting-from mm (r ∷ rs) h = go (eqb r.from mm) refl (starting-from mm rs)
  where
    go : (t : Bool) → eqb r.from mm ≡ t → (starting mm rs < length rs → (row_of rs (starting mm rs)).from ≡ mm)
        → (row_of (r ∷ rs) (starting mm (r ∷ rs))).from ≡ mm
    go true e rec = let q = eqb-true r.from mm e in rw (starting-in mm r rs q) q
    go false e rec = let q = starting-out mm r rs (eqb-false r.from mm e) in rw q (rec (omega arith))

starting-none : (mm : ℕ) (rs : List Row) → length rs ≤ starting mm rs → (i : ℕ) → i < length rs → (row_of rs i).from ≡ mm → ⊥
starting-none mm [] h i l e = omega arith
starting-none mm (r ∷ rs) h zero l e = omega (arith, starting-in mm r rs e)
starting-none mm (r ∷ rs) h (suc i) l e = go (eqb r.from mm) refl (λ g. starting-none mm rs g i (omega arith) e)
  where
    go : (t : Bool) → eqb r.from mm ≡ t → (length rs ≤ starting mm rs → ⊥) → ⊥
    go true q rec = omega (arith, starting-in mm r rs (eqb-true r.from mm q))
    go false q rec = rec (omega (arith, starting-out mm r rs (eqb-false r.from mm q)))

-- ---- the loop that looks for it

module _ (mm : ℕ) (s : List ℕ) (at : ℕ) (h : at + 5 ≤ length s) {from : ℕ} (a : from ≡ number_at s at) where
  pub starting-here : from ≡ mm → starting mm (rest s at) ≡ 0
  starting-here e = rw (rest-row s at h) (starting-in mm (row_at s at) (rest s (at + 5)) (row_from s at ∙ sym a ∙ e))

  pub starting-later : (from ≡ mm → ⊥) → starting mm (rest s at) ≡ suc (starting mm (rest s (at + 5)))
  starting-later n = rw (rest-row s at h) (starting-out mm (row_at s at) (rest s (at + 5)) (λ e. n (a ∙ sym (row_from s at) ∙ e)))

pub starting-ended : (mm : ℕ) (s : List ℕ) (at : ℕ) → length s ≤ at → starting mm (rest s at) ≡ 0
starting-ended mm s at h = rw (rest_end s at h) (starting-nil mm)

pub starting-all : (mm : ℕ) (s : List ℕ) → starting mm (rest s 0) ≡ starting mm (rows s)
starting-all mm s = ap (starting mm) (rest_all s)

-- ---- the walk from row to row

-- a row that holds a millimetre and began before it shares the one before with another row
abbrev pub Parted : List Row → ℕ → Type 0
Parted rs next = (j k : ℕ) → k + 1 ≡ next → In rs next j → (row_of rs j).from ≤ k → 2 ≤ count k rs

pub parted-none : (rs : List Row) → Parted rs 0
parted-none rs j k e h l = absurd (omega arith)

module _ (s : List ℕ) (next : ℕ) (w : length s % 5 ≡ 0) {at : ℕ} (p : at ≡ 5 * starting next (rows s)) (h : at < length s) where
  pub chain-room : at + 5 ≤ length s
  chain-room = omega (arith, rows_whole s w)

  inside : starting next (rows s) < length (rows s)
  inside = omega (arith, rows_whole s w)

  begins : (row_of (rows s) (starting next (rows s))).from ≡ next
  begins = starting-from next (rows s) inside

  module _ (f : all_fit (rows s) ≡ true) {to : ℕ} (b : to ≡ number_at s (at + 2)) where
    ends : (row_of (rows s) (starting next (rows s))).to ≡ to
    ends =
        ap (λ (r : Row). r.to) (row-of s (starting next (rows s)) (omega (arith, rows_whole s w)))
        ∙ row-to s (5 * starting next (rows s))
        ∙ ap (λ i. number_at s (i + 2)) (sym p)
        ∙ sym b

    pub chain-further : next ≤ to
    chain-further =
        omega (arith, begins, ends, fit-ordered (row_of (rows s) (starting next (rows s))) (all-at (rows s) (starting next (rows s)) f inside))

    pub chain-covered : Covered (rows s) next → Covered (rows s) (to + 1)
    chain-covered v k l = go (leb next k) refl
      where
        go : (t : Bool) → leb next k ≡ t → 1 ≤ count k (rows s)
        go true e =
            let a = leb-true next k e in
            count_at k (rows s) (starting next (rows s)) inside
            (holds-in k (row_of (rows s) (starting next (rows s))) (omega (arith, begins)) (omega (arith, ends)))
        go false e = v k (leb-false next k e)

    pub chain-parted : Parted (rows s) (to + 1)
    chain-parted j k q g l = go (leb (count k (rows s)) 1) refl
      where
        here : In (rows s) k (starting next (rows s))
        here = record { inside = inside; above = omega (arith, begins, chain-further); below = omega (arith, ends) }

        also : In (rows s) k j
        also = record { inside = g.inside; above = l; below = omega (arith, g.below) }

        apart : starting next (rows s) ≡ j → ⊥
        apart e = omega (arith, ap (λ i. (row_of (rows s) i).to) e, ends, g.below)

        go : (t : Bool) → leb (count k (rows s)) 1 ≡ t → 2 ≤ count k (rows s)
        go true e = absurd (apart (only_one (rows s) k (starting next (rows s)) j (leb-true (count k (rows s)) 1 e) here also))
        go false e = leb-false (count k (rows s)) 1 e

module _ (s : List ℕ) (next : ℕ) (e : sound s ≡ true) (w : width (rows s) ≡ 10000) where
  -- no row begins where one ended
  pub chain-broken : Parted (rows s) next → next < 10000 → {at : ℕ} → at ≡ 5 * starting next (rows s) → length s ≤ at → false ≡ eqb (judgement s).code 0
  chain-broken v l {at} p h = go (ltb (uncovered (rows s)) 10000) refl
    where
      never : 10000 ≤ uncovered (rows s) → ⊥
      never c =
          let g = in_place (rows s) next (uncovered-passed (rows s) next (omega arith)) in
          let d = starting-none next (rows s) (omega (arith, rows_whole s (sound-whole s e))) (place next (rows s)) g.inside in
          let a = g.above in
          let k : next - 1 + 1 ≡ next = omega arith in
          omega (
            arith,
            v (place next (rows s)) (next - 1) k g (omega arith),
            width-single (rows s) (sound-fit s e) (λ i m. uncovered-passed (rows s) i (omega arith)) w (next - 1) (omega arith),
          )

      go : (t : Bool) → ltb (uncovered (rows s)) 10000 ≡ t → false ≡ eqb (judgement s).code 0
      go true q = refuses s (judged-gap s e refl (ltb-true (uncovered (rows s)) 10000 q)) (λ z. omega arith)
      go false q = absurd (never (ltb-false (uncovered (rows s)) 10000 q))

  -- the greatest depth is reached
  pub chain-whole : Covered (rows s) next → 10000 ≤ next → true ≡ eqb (judgement s).code 0
  chain-whole v h = sym (eq-eqb 10000 10000 refl) ∙ accepts-covered s e refl w (walk-done s next v h)
