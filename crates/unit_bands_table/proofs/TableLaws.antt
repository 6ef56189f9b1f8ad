-- Laws of what the home blocks hold: a table or none. Assumes nothing.
use mathlib.Core.Path.{◌≡◌, refl, sym, ap, ◌∙◌}
use mathlib.Core.Bool.{Bool, true, false}
use mathlib.Core.List.{List}
use Prim.Native.Nat.{ℕ, ◌+◌, ◌-◌, ◌*◌, ◌%◌, ◌≤◌, ◌<◌}
use native.Mathlib.Omega.{arith}
use borrow.Author.Tests.{eqb-true, eqb-false, leb-true, le-leb, lt-leb, eq-eqb, ne_eqb}
use lib.Dec.{eqb, leb}
use lib.ListN.{length, take, drop, get_or, length-take}
use Rattle.unit_bands_table.specs.Rows.{Row, rows, lookup}
use Rattle.unit_bands_table.specs.Judge.{judgement}
use Rattle.unit_bands_table.specs.Packed.{held, acceptable, table_rows, unpack, Lookup, answered, found, look_up}
use Rattle.unit_bands_table.proofs.RowLaws.{both_left, both_right, sound-some, sound-whole}
use Rattle.unit_bands_table.proofs.JudgeLaws.{accepted-sound}

-- the part of the blocks that the code reads
pub part_held : (packed : List ℕ) {n : ℕ} → n ≡ get_or packed 0 0 → take (1 + 5 * n - 1) (drop 1 packed) ≡ held packed
unfolding held
part_held packed {n} e =
    let q : 1 + 5 * n - 1 ≡ 5 * n = omega arith in
    rw (q, e)

module _ (packed : List ℕ) where
  table_none : acceptable packed ≡ false → table_rows packed ≡ 0
  unfolding table_rows
  table_none e = rw e

  pub table-some : acceptable packed ≡ true → table_rows packed ≡ get_or packed 0 0
  unfolding table_rows
  table-some e = rw e

  pub unacceptable-long : 32 < get_or packed 0 0 → acceptable packed ≡ false
  unfolding acceptable
  unacceptable-long h = rw (lt-leb (get_or packed 0 0) 32 h)

  pub unacceptable-rows : get_or packed 0 0 ≤ 32 → ((judgement (held packed)).code ≡ 0 → ⊥) → acceptable packed ≡ false
  unfolding acceptable
  unacceptable-rows h n = rw (le-leb (get_or packed 0 0) 32 h) (ne_eqb (judgement (held packed)).code 0 n)

  pub acceptable-rows : get_or packed 0 0 ≤ 32 → (judgement (held packed)).code ≡ 0 → acceptable packed ≡ true
  unfolding acceptable
  acceptable-rows h e = rw (le-leb (get_or packed 0 0) 32 h) (eq-eqb (judgement (held packed)).code 0 e)

  pub acceptable-few : acceptable packed ≡ true → get_or packed 0 0 ≤ 32
  unfolding acceptable
  acceptable-few e = leb-true (get_or packed 0 0) 32 (both_left (leb (get_or packed 0 0) 32) _ e)

  pub acceptable-judged : acceptable packed ≡ true → (judgement (held packed)).code ≡ 0
  unfolding acceptable
  acceptable-judged e = eqb-true (judgement (held packed)).code 0 (both_right (leb (get_or packed 0 0) 32) _ e)

  held-short : length (held packed) ≤ 5 * get_or packed 0 0
  unfolding held
  held-short = omega (arith, length-take (5 * get_or packed 0 0) (drop 1 packed))

  acceptable-some : acceptable packed ≡ true → 1 ≤ get_or packed 0 0
  acceptable-some e = omega (arith, held-short, sound-some (held packed) (accepted-sound (held packed) (acceptable-judged e)))

  -- ---- what the code finds

  pub table-long : {n : ℕ} → n ≡ get_or packed 0 0 → 32 < n → 0 ≡ table_rows packed
  table-long e h = sym (table_none (unacceptable-long (omega arith)))

  module _ {n : ℕ} {t : Bool} (e : n ≡ get_or packed 0 0) (h : n ≤ 32) (v : t ≡ eqb (judgement (take (1 + 5 * n - 1) (drop 1 packed))).code 0) where
    test-held : t ≡ eqb (judgement (held packed)).code 0
    test-held = v ∙ ap (λ (s : List ℕ). eqb (judgement s).code 0) (part_held packed e)

    pub table-refused : t ≡ false → 0 ≡ table_rows packed
    table-refused f = sym (table_none (unacceptable-rows (omega arith) (eqb-false (judgement (held packed)).code 0 (sym test-held ∙ f))))

    pub table_taken : t ≡ true → n ≡ table_rows packed
    table_taken f = e ∙ sym (table-some (acceptable-rows (omega arith) (eqb-true (judgement (held packed)).code 0 (sym test-held ∙ f))))

  -- ---- lookups

  pub lookup-none : (mm : ℕ) → acceptable packed ≡ false → look_up packed mm ≡ answered 11 0 0 0
  unfolding look_up unpack found
  lookup-none mm e = rw e

  pub lookup-some : (mm : ℕ) → acceptable packed ≡ true → look_up packed mm ≡ record { code = 0; row = lookup mm (rows (held packed)) }
  unfolding look_up unpack found
  lookup-some mm e = rw e

  table-zero : table_rows packed ≡ 0 → acceptable packed ≡ false
  table-zero z = go (acceptable packed) refl
    where
      go : (t : Bool) → acceptable packed ≡ t → acceptable packed ≡ false
      go true e = absurd (omega (arith, table-some e, acceptable-some e))
      go false e = e

  table-rows : (table_rows packed ≡ 0 → ⊥) → acceptable packed ≡ true
  table-rows z = go (acceptable packed) refl
    where
      go : (t : Bool) → acceptable packed ≡ t → acceptable packed ≡ true
      go true e = e
      go false e = absurd (z (table_none e))

  module _ (mm : ℕ) {n : ℕ} (e : n ≡ table_rows packed) where
    pub looked-none : n ≡ 0 → answered 11 0 0 0 ≡ look_up packed mm
    looked-none z = sym (lookup-none mm (table-zero (sym e ∙ z)))

    module _ (z : (n ≡ 0 → ⊥)) where
      looked-table : acceptable packed ≡ true
      looked-table = table-rows (λ t. z (e ∙ t))

      pub looked-number : n ≡ get_or packed 0 0
      looked-number = e ∙ table-some looked-table

      pub looked-few : n ≤ 32
      looked-few = omega (arith, acceptable-few looked-table, looked-number)

      pub looked-whole : length (take (1 + 5 * n - 1) (drop 1 packed)) % 5 ≡ 0
      looked-whole = rw (part_held packed looked-number) (sound-whole (held packed) (accepted-sound (held packed) (acceptable-judged looked-table)))

      pub looked-row : {r : Row} → r ≡ lookup mm (rows (take (1 + 5 * n - 1) (drop 1 packed))) → ◌≡◌ {A = Lookup} (record { code = 0; row = r }) (look_up packed mm)
      looked-row {r} q =
          let p : r ≡ lookup mm (rows (held packed)) = q ∙ ap (λ (s : List ℕ). lookup mm (rows s)) (part_held packed looked-number) in
          rw p (sym (lookup-some mm looked-table))
