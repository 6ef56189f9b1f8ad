-- A writer's record by its bit in the word of the modes, as it is read and compared. Assumes nothing.
use mathlib.Core.Path.{◌≡◌, sym, ap, ◌∙◌}
use mathlib.Core.Bool.{Bool, true, false, false≢true}
use mathlib.Core.Logic.{◌≢◌}
use mathlib.Core.List.{List}
use Prim.Native.Nat.{ℕ, ◌+◌, ◌*◌, ◌/◌, ◌%◌, ◌^◌, ◌≤◌, ◌<◌}
use native.Mathlib.Omega.{arith}
use lib.Dec.{ltb}
use lib.ListN.{get_or}
use lib.Bits.{bit_and, and_le_r}
use lib.Count.{count_trailing_zeros}
use Rattle.model.specs.Bytes.{number}
use Rattle.model.specs.State.{state_of, writer_of, writer_in_order, writers_in_order}
use Rattle.base_bitmap.specs.Marks.{bit}
use Rattle.base_bitmap.proofs.WordLaws.{lowest-lt, lowest_set}
use Rattle.base_state.specs.Order.{Live}
use Rattle.base_order.proofs.OrderTests.{writer-refused, holding-held, record-refused, writers-stop, logged-far, logged-by}
use Rattle.base_order.proofs.ModeLaws.{high, top, mode-high, mode-most, mode-over, mode-second, modes-small, mode-odd, home_at, first-at, less-at, Visited, visited-none, visited-all}

-- ---- what is told of all records

abbrev Records : Bool → List ℕ → Type 0
Records r s = (r ≡ true → (w : ℕ) → w < 8 → true ≡ writer_in_order (state_of s) (writer_of s w)) × (r ≡ false → false ≡ writers_in_order s (state_of s) 8)

module _ (s : List ℕ) where
  pub records-yes : ((w : ℕ) → w < 8 → true ≡ writer_in_order (state_of s) (writer_of s w)) → Records true s
  records-yes h = (λ _. h, λ t. absurd (false≢true (sym t)))

  pub records-no : (w : ℕ) → w < 8 → false ≡ writer_in_order (state_of s) (writer_of s w) → Records false s
  records-no w l h = (λ t. absurd (false≢true t), λ _. writers-stop s (state_of s) w 8 l (record-refused s (state_of s) w h))

  module _ (word : ℕ) (b : (i : ℕ) → get_or s i 0 < 256) (e : word ≡ number 8 s 104) where
    pub none_left : bit_and word high ≡ 0 → Records true s
    none_left z = records-yes (visited-all s (state_of s) (visited-none s (state_of s) 0 word b e (sym z)))

    -- a mode that there is not
    pub none-such : bit_and word top ≢ 0 → Records false s
    none-such n =
        let x = bit_and (number 8 s 104) top in
        let f : bit_and word top ≡ x = ap (λ (y : ℕ). bit_and y top) e in
        let p : 0 < x = omega (arith, n, f) in
        let small : x < 2 ^ 64 = omega (arith, and_le_r (number 8 s 104) top) in
        let t = count_trailing_zeros 64 x in
        let l = lowest-lt x p small in
        records-no (t / 8) (omega (arith, l)) (writer-refused (state_of s) (writer_of s (t / 8)) (λ o. omega (arith, o.mode, mode-over s b t l (lowest_set x p small))))

    pub word_small : bit_and word top ≡ 0 → 2 * word < 2 ^ 64
    word_small z = rw e (modes-small s b (ap (λ (y : ℕ). bit_and y top) (sym e) ∙ z))

    -- what a visited bit tells
    pub visited-bit : (left t : ℕ) → bit_and word top ≡ 0 → Visited s (state_of s) left → t < 64 → bit left t ≡ true
        → (t % 8 ≡ 1) × (2 ≤ (writer_of s (t / 8)).mode) × ((writer_of s (t / 8)).mode ≤ 3)
    visited-bit left t z v l set =
        let m = mode-most s b (ap (λ (y : ℕ). bit_and y top) (sym e) ∙ z) (t / 8) (omega arith) in
        (mode-second s b t l (v.among t set) m, mode-high s b t l (v.among t set), m)

-- ---- one record

module _ (s : List ℕ) (t homes n : ℕ) (e : t % 8 ≡ 1) (m : 2 ≤ (writer_of s (t / 8)).mode) (ed : homes ≡ (state_of s).homes) (en : n ≡ number 8 s (3 * t + 125)) where
  pub home-far : homes ≤ n → false ≡ writer_in_order (state_of s) (writer_of s (t / 8))
  home-far h = writer-refused (state_of s) (writer_of s (t / 8)) (λ o. let f = o.home m in omega (arith, f, en, ed, home_at s t e))

  module _ (h : n < homes) (u : (writer_of s (t / 8)).mode ≤ 3) (l : t < 64) (b : (i : ℕ) → get_or s i 0 < 256) (twice : ℕ) (ew : twice ≡ 2 * number 8 s 104) where
    near : (writer_of s (t / 8)).home < (state_of s).homes
    near = omega (arith, en, ed, home_at s t e)

    lowest-bit : twice / 2 ^ t % 2 ≡ (writer_of s (t / 8)).mode % 2
    lowest-bit = ap (λ (y : ℕ). y / 2 ^ t % 2) ew ∙ mode-odd s b t l e

    pub nothing-logged : twice / 2 ^ t % 2 ≡ 0 → true ≡ writer_in_order (state_of s) (writer_of s (t / 8))
    nothing-logged z =
        let o : (writer_of s (t / 8)).mode % 2 ≡ 0 = sym lowest-bit ∙ z in
        holding-held (state_of s) (writer_of s (t / 8)) (omega (arith, o, m, u)) near

    module _ (low all since first : ℕ) (k : twice / 2 ^ t % 2 ≢ 0) (v : Live (state_of s) low all) (ef : first ≡ number 8 s (3 * t + 125 + 8))
        (d : (since + first) % 2 ^ 64 ≡ low + all) (bs : since < 2 ^ 64) (bf : first < 2 ^ 64) where
      logs : (writer_of s (t / 8)).mode ≡ 3
      logs =
          let o : (writer_of s (t / 8)).mode % 2 ≢ 0 = λ q. k (lowest-bit ∙ q) in
          omega (arith, o, m, u)

      same : first ≡ (writer_of s (t / 8)).first
      same = ef ∙ first-at s t e

      pub first-far : all < since → false ≡ writer_in_order (state_of s) (writer_of s (t / 8))
      first-far q = logged-far (state_of s) (writer_of s (t / 8)) low all since v logs near (rw (← same) d) bs (rw (← same) bf) q

      pub entries_fit : since ≤ all → (less : ℕ) → less ≡ number 8 s (3 * t + 125 + 16) → less < 2 ^ 64
          → ltb less since ≡ writer_in_order (state_of s) (writer_of s (t / 8))
      entries_fit q less el bl =
          logged-by (state_of s) (writer_of s (t / 8)) low all since v logs near (rw (← same) d) bs (rw (← same) bf) less q (rw el (less-at s t e)) bl
