-- Laws of a word's kind: the masks that find it read its used, closing and zero bits, and its home; and what each kind says. Assumes nothing.
use mathlib.Core.Path.{◌≡◌, refl, sym, ap, ◌∙◌}
use mathlib.Core.Bool.{Bool, true, false, not, cond, ◌&&◌, false≢true}
use Prim.Native.Nat.{ℕ, ◌+◌, ◌-◌, ◌*◌, ◌/◌, ◌%◌, ◌^◌, ◌≤◌, ◌<◌}
use native.Mathlib.Decide.{ℕ_discrete, dec_lt}
use native.Mathlib.Omega.{arith}
use borrow.Author.Tests.{eq-eqb, ne_eqb, le-leb, lt-leb, lt-ltb, le-ltb, leb-false}
use lib.Bits.{bit_and, and_le_l, and_zero_r, and_shr, and_mod}
use lib.Dec.{eqb, leb, ltb}
use Rattle.model.specs.Tag.{tag_word, entry_word, field, home_field, says, read_fields, read_tag}
use Rattle.model.specs.declared.Tag.{Tag}
use Rattle.model.specs.declared.Tag.TheVariants.{Nothing, Entry, Closing}
use Rattle.model_laws.proofs.bytes.TagLaws.{field_lt}
use Rattle.base_codec.proofs.PlainLaws.{and-field}
use Rattle.base_codec.proofs.ReadLaws.{says_nothing, no-home, before-start}

-- ---- what a mask leaves of a word

-- a field that a mask clears
cleared : (d m k j : ℕ) → m / 2 ^ k % 2 ^ j ≡ 0 → field (bit_and d m) k j ≡ 0
unfolding field
cleared d m k j e =
    ap (λ (x : ℕ). x % 2 ^ j) (and_shr d m k) ∙ and_mod (d / 2 ^ k) (m / 2 ^ k) j ∙ ap (λ (x : ℕ). bit_and (d / 2 ^ k % 2 ^ j) x) e
    ∙ and_zero_r (d / 2 ^ k % 2 ^ j)

-- a word by its used bit, its closing bit, the bits of a plain entry that must be zero, and those between
by_kind : (v : ℕ) → v < 2 ^ 64
    → v ≡ field v 0 1 + 2 * field v 1 1 + 2 ^ 2 * field v 2 25 + 2 ^ 27 * field v 27 26 + 2 ^ 53 * field v 53 5 + 2 ^ 58 * field v 58 6
unfolding field
by_kind v h =
    let e0 : v / 2 ^ 0 ≡ v / 2 ^ 0 % 2 ^ 1 + 2 ^ 1 * (v / 2 ^ 1) = omega arith in
    let e1 : v / 2 ^ 1 ≡ v / 2 ^ 1 % 2 ^ 1 + 2 ^ 1 * (v / 2 ^ 2) = omega arith in
    let e2 : v / 2 ^ 2 ≡ v / 2 ^ 2 % 2 ^ 25 + 2 ^ 25 * (v / 2 ^ 27) = omega arith in
    let e3 : v / 2 ^ 27 ≡ v / 2 ^ 27 % 2 ^ 26 + 2 ^ 26 * (v / 2 ^ 53) = omega arith in
    let e4 : v / 2 ^ 53 ≡ v / 2 ^ 53 % 2 ^ 5 + 2 ^ 5 * (v / 2 ^ 58) = omega arith in
    let e5 : v / 2 ^ 58 ≡ v / 2 ^ 58 % 2 ^ 6 = omega arith in
    omega arith

-- a word by its used bit, its home's bits, and those between
by_home : (v : ℕ) → v < 2 ^ 64
    → v ≡ field v 0 1 + 2 * field v 1 1 + 2 ^ 2 * field v 2 12 + 2 ^ 14 * field v 14 39 + 2 ^ 53 * field v 53 4 + 2 ^ 57 * field v 57 7
unfolding field
by_home v h =
    let e0 : v / 2 ^ 0 ≡ v / 2 ^ 0 % 2 ^ 1 + 2 ^ 1 * (v / 2 ^ 1) = omega arith in
    let e1 : v / 2 ^ 1 ≡ v / 2 ^ 1 % 2 ^ 1 + 2 ^ 1 * (v / 2 ^ 2) = omega arith in
    let e2 : v / 2 ^ 2 ≡ v / 2 ^ 2 % 2 ^ 12 + 2 ^ 12 * (v / 2 ^ 14) = omega arith in
    let e3 : v / 2 ^ 14 ≡ v / 2 ^ 14 % 2 ^ 39 + 2 ^ 39 * (v / 2 ^ 53) = omega arith in
    let e4 : v / 2 ^ 53 ≡ v / 2 ^ 53 % 2 ^ 4 + 2 ^ 4 * (v / 2 ^ 57) = omega arith in
    let e5 : v / 2 ^ 57 ≡ v / 2 ^ 57 % 2 ^ 7 = omega arith in
    omega arith

-- what a mask leaves of a word that takes its used and closing bits and its zero bits, of the latter all or those of both kinds alone
module _ (w m : ℕ) (fits : w < 2 ^ 64) (used : m / 2 ^ 0 % 2 ^ 1 ≡ 2 ^ 1 - 1) (closing : m / 2 ^ 1 % 2 ^ 1 ≡ 2 ^ 1 - 1) (low : m / 2 ^ 2 % 2 ^ 25 ≡ 0)
    (high : m / 2 ^ 53 % 2 ^ 5 ≡ 0) (above : m / 2 ^ 58 % 2 ^ 6 ≡ 2 ^ 6 - 1) where
  kind-left : bit_and w m ≡ field w 0 1 + 2 * field w 1 1 + 2 ^ 27 * field (bit_and w m) 27 26 + 2 ^ 58 * field w 58 6
  kind-left =
      omega (
        arith,
        by_kind (bit_and w m) (omega (arith, and_le_l w m)),
        and-field w m 0 1 used,
        and-field w m 1 1 closing,
        cleared w m 2 25 low,
        cleared w m 53 5 high,
        and-field w m 58 6 above,
      )

  plain-left : m / 2 ^ 27 % 2 ^ 26 ≡ 2 ^ 26 - 1 → bit_and w m ≡ field w 0 1 + 2 * field w 1 1 + 2 ^ 27 * field w 27 26 + 2 ^ 58 * field w 58 6
  plain-left upper = omega (arith, kind-left, and-field w m 27 26 upper)

  closing-left : m / 2 ^ 27 % 2 ^ 26 ≡ 0 → bit_and w m ≡ field w 0 1 + 2 * field w 1 1 + 2 ^ 58 * field w 58 6
  closing-left upper = omega (arith, kind-left, cleared w m 27 26 upper)

-- and of one that takes its used bit and its home
module _ (w m : ℕ) (fits : w < 2 ^ 64) (used : m / 2 ^ 0 % 2 ^ 1 ≡ 2 ^ 1 - 1) (closing : m / 2 ^ 1 % 2 ^ 1 ≡ 0) (low : m / 2 ^ 2 % 2 ^ 12 ≡ 2 ^ 12 - 1)
    (between : m / 2 ^ 14 % 2 ^ 39 ≡ 0) (high : m / 2 ^ 53 % 2 ^ 4 ≡ 2 ^ 4 - 1) (above : m / 2 ^ 57 % 2 ^ 7 ≡ 0) where
  home-left : bit_and w m ≡ field w 0 1 + 2 ^ 2 * field w 2 12 + 2 ^ 53 * field w 53 4
  home-left =
      omega (
        arith,
        by_home (bit_and w m) (omega (arith, and_le_l w m)),
        and-field w m 0 1 used,
        cleared w m 1 1 closing,
        and-field w m 2 12 low,
        cleared w m 14 39 between,
        and-field w m 53 4 high,
        cleared w m 57 7 above,
      )

-- ---- the tests

plain-same : (v used closing upper above : ℕ) → used < 2 → closing < 2 → v ≡ used + 2 * closing + 2 ^ 27 * upper + 2 ^ 58 * above
    → eqb v 1 ≡ (eqb used 1 && eqb above 0 && eqb closing 0 && eqb upper 0)
plain-same v used closing upper above h k e = go (ℕ_discrete used 1) (ℕ_discrete above 0) (ℕ_discrete closing 0) (ℕ_discrete upper 0)
  where
    go : Dec (used ≡ 1) → Dec (above ≡ 0) → Dec (closing ≡ 0) → Dec (upper ≡ 0) → eqb v 1 ≡ (eqb used 1 && eqb above 0 && eqb closing 0 && eqb upper 0)
    go (no a) b c d = rw (ne_eqb used 1 a, ne_eqb v 1 (λ z. a (omega arith)))
    go (yes a) (no b) c d = rw (eq-eqb used 1 a, ne_eqb above 0 b, ne_eqb v 1 (λ z. b (omega arith)))
    go (yes a) (yes b) (no c) d = rw (eq-eqb used 1 a, eq-eqb above 0 b, ne_eqb closing 0 c, ne_eqb v 1 (λ z. c (omega arith)))
    go (yes a) (yes b) (yes c) (no d) = rw (eq-eqb used 1 a, eq-eqb above 0 b, eq-eqb closing 0 c, ne_eqb upper 0 d, ne_eqb v 1 (λ z. d (omega arith)))
    go (yes a) (yes b) (yes c) (yes d) = rw (eq-eqb used 1 a, eq-eqb above 0 b, eq-eqb closing 0 c, eq-eqb upper 0 d, eq-eqb v 1 (omega arith))

closing_same : (v used closing above : ℕ) → used < 2 → closing < 2 → v ≡ used + 2 * closing + 2 ^ 58 * above
    → eqb v 3 ≡ (eqb used 1 && eqb above 0 && eqb closing 1)
closing_same v used closing above h k e = go (ℕ_discrete used 1) (ℕ_discrete above 0) (ℕ_discrete closing 1)
  where
    go : Dec (used ≡ 1) → Dec (above ≡ 0) → Dec (closing ≡ 1) → eqb v 3 ≡ (eqb used 1 && eqb above 0 && eqb closing 1)
    go (no a) b c = rw (ne_eqb used 1 a, ne_eqb v 3 (λ z. a (omega arith)))
    go (yes a) (no b) c = rw (eq-eqb used 1 a, ne_eqb above 0 b, ne_eqb v 3 (λ z. b (omega arith)))
    go (yes a) (yes b) (no c) = rw (eq-eqb used 1 a, eq-eqb above 0 b, ne_eqb closing 1 c, ne_eqb v 3 (λ z. c (omega arith)))
    go (yes a) (yes b) (yes c) = rw (eq-eqb used 1 a, eq-eqb above 0 b, eq-eqb closing 1 c, eq-eqb v 3 (omega arith))

home_same : (v above low high homes : ℕ) → low < 2 ^ 12 → v ≡ 1 + 2 ^ 2 * low + 2 ^ 53 * high
    → above ≡ 1 + 2 ^ 2 * (homes % 2 ^ 12) + 2 ^ 53 * (homes / 2 ^ 12) → ltb v above ≡ leb (low + 2 ^ 12 * high + 1) homes
home_same v above low high homes h e f = go (dec_lt v above)
  where
    go : Dec (v < above) → ltb v above ≡ leb (low + 2 ^ 12 * high + 1) homes
    go (yes l) = lt-ltb v above l ∙ sym (le-leb (low + 2 ^ 12 * high + 1) homes (omega arith))
    go (no l) = le-ltb v above (omega arith) ∙ sym (lt-leb (low + 2 ^ 12 * high + 1) homes (omega arith))

module _ (w m : ℕ) (fits : w < 2 ^ 64) (used : m / 2 ^ 0 % 2 ^ 1 ≡ 2 ^ 1 - 1) (closing : m / 2 ^ 1 % 2 ^ 1 ≡ 2 ^ 1 - 1) (low : m / 2 ^ 2 % 2 ^ 25 ≡ 0)
    (high : m / 2 ^ 53 % 2 ^ 5 ≡ 0) (above : m / 2 ^ 58 % 2 ^ 6 ≡ 2 ^ 6 - 1) where
  pub plain-bits : m / 2 ^ 27 % 2 ^ 26 ≡ 2 ^ 26 - 1
      → eqb (bit_and w m) 1 ≡ (eqb (field w 0 1) 1 && eqb (field w 58 6) 0 && eqb (field w 1 1) 0 && eqb (field w 27 26) 0)
  plain-bits upper =
      plain-same _ (field w 0 1) (field w 1 1) (field w 27 26) (field w 58 6) (field_lt w 0 1) (field_lt w 1 1)
      (plain-left w m fits used closing low high above upper)

  pub closing-bits : m / 2 ^ 27 % 2 ^ 26 ≡ 0 → eqb (bit_and w m) 3 ≡ (eqb (field w 0 1) 1 && eqb (field w 58 6) 0 && eqb (field w 1 1) 1)
  closing-bits upper =
      closing_same _ (field w 0 1) (field w 1 1) (field w 58 6) (field_lt w 0 1) (field_lt w 1 1)
      (closing-left w m fits used closing low high above upper)

module _ (w m : ℕ) (fits : w < 2 ^ 64) (used : m / 2 ^ 0 % 2 ^ 1 ≡ 2 ^ 1 - 1) (closing : m / 2 ^ 1 % 2 ^ 1 ≡ 0) (low : m / 2 ^ 2 % 2 ^ 12 ≡ 2 ^ 12 - 1)
    (between : m / 2 ^ 14 % 2 ^ 39 ≡ 0) (high : m / 2 ^ 53 % 2 ^ 4 ≡ 2 ^ 4 - 1) (above : m / 2 ^ 57 % 2 ^ 7 ≡ 0) where
  pub home_below : (next homes : ℕ) → next ≡ entry_word homes 0 → field w 0 1 ≡ 1 → ltb (bit_and w m) next ≡ leb (home_field w + 1) homes
  unfolding entry_word tag_word
  home_below next homes e u =
      home_same _ next (field w 2 12) (field w 53 4) homes (field_lt w 2 12) (omega (arith, home-left w m fits used closing low between high above, u))
      (e ∙ omega arith)

-- ---- what each kind says

-- by the outcomes of a tag's tests: used, no bit above, home, start, open, no upper bit, a count
module _ (used above home started : Bool) (e c : Tag) where
  plain-tests : (open' upper : Bool) → (used && above && open' && upper) ≡ true
      → says used (says above (says home (says started (cond open' (says upper e) c)))) ≡ says home (says started e)
  unfolding says
  plain-tests o u h = go used above o u h
    where
      go : (a b o u : Bool) → (a && b && o && u) ≡ true → says a (says b (says home (says started (cond o (says u e) c)))) ≡ says home (says started e)
      go true true true true h = refl
      go true true true false h = absurd (false≢true h)
      go true true false u h = absurd (false≢true h)
      go true false o u h = absurd (false≢true h)
      go false b o u h = absurd (false≢true h)

  closing-tests : (open' closing : Bool) → open' ≡ not closing → (used && above && closing) ≡ true
      → says used (says above (says home (says started (cond open' e c)))) ≡ says home (says started c)
  unfolding says
  closing-tests o k z h = go used above o k z h
    where
      go : (a b o k : Bool) → o ≡ not k → (a && b && k) ≡ true → says a (says b (says home (says started (cond o e c)))) ≡ says home (says started c)
      go true true false true z h = refl
      go true true true true z h = absurd (false≢true (sym z))
      go true true o false z h = absurd (false≢true h)
      go true false o k z h = absurd (false≢true h)
      go false b o k z h = absurd (false≢true h)

  neither-tests : (open' upper closing : Bool) → open' ≡ not closing → (used && above && open' && upper) ≡ false → (used && above && closing) ≡ false
      → says used (says above (says home (says started (cond open' (says upper e) c)))) ≡ Nothing
  unfolding says
  neither-tests o u k z p q = go used above o u k z p q
    where
      go : (a b o u k : Bool) → o ≡ not k → (a && b && o && u) ≡ false → (a && b && k) ≡ false
          → says a (says b (says home (says started (cond o (says u e) c)))) ≡ Nothing
      go true true true true k z p q = absurd (false≢true (sym p))
      go true true true false k z p q = simp says_nothing
      go true true false u true z p q = absurd (false≢true (sym q))
      go true true false u false z p q = absurd (false≢true z)
      go true false o u k z p q = refl
      go false b o u k z p q = refl

open-closing : (n : ℕ) → n < 2 → eqb n 0 ≡ not (eqb n 1)
open-closing n h = go (ℕ_discrete n 0)
  where
    go : Dec (n ≡ 0) → eqb n 0 ≡ not (eqb n 1)
    go (yes e) = rw e
    go (no e) = let f : n ≡ 1 = omega arith in rw f

module _ (w position base homes : ℕ) where
  -- a word of no kind
  pub neither-kind : (eqb (field w 0 1) 1 && eqb (field w 58 6) 0 && eqb (field w 1 1) 0 && eqb (field w 27 26) 0) ≡ false
      → (eqb (field w 0 1) 1 && eqb (field w 58 6) 0 && eqb (field w 1 1) 1) ≡ false → read_tag w position base homes ≡ Nothing
  unfolding read_tag read_fields
  neither-kind p q = neither-tests _ _ _ _ _ _ _ _ _ (open-closing (field w 1 1) (field_lt w 1 1)) p q

  -- one of either kind, whose home there is not, or that would begin before the start
  pub no-such-home : leb (home_field w + 1) homes ≡ false → read_tag w position base homes ≡ Nothing
  unfolding read_tag
  no-such-home e = no-home _ _ _ _ (home_field w) _ _ _ _ _ homes (omega (arith, leb-false (home_field w + 1) homes e))

  pub begun-before : position < base + field w 14 13 → read_tag w position base homes ≡ Nothing
  unfolding read_tag
  begun-before h = before-start _ _ _ _ _ (field w 14 13) _ _ position base _ h

  module _ (known : leb (home_field w + 1) homes ≡ true) (started : base + field w 14 13 ≤ position) where
    pub plain-said : (eqb (field w 0 1) 1 && eqb (field w 58 6) 0 && eqb (field w 1 1) 0 && eqb (field w 27 26) 0) ≡ true
        → read_tag w position base homes ≡ Entry (home_field w) (position - field w 14 13)
    unfolding read_tag read_fields says
    plain-said k =
        plain-tests (eqb (field w 0 1) 1) (eqb (field w 58 6) 0) (leb (home_field w + 1) homes) (leb (base + field w 14 13) position)
        (Entry (home_field w) (position - field w 14 13))
        (says (leb 1 (field w 40 13)) (Closing (home_field w) (position - field w 14 13) (field w 27 13) (field w 40 13)))
        (eqb (field w 1 1) 0) (eqb (field w 27 26) 0) k
        ∙ rw (known, le-leb (base + field w 14 13) position started)

    module _ (k : (eqb (field w 0 1) 1 && eqb (field w 58 6) 0 && eqb (field w 1 1) 1) ≡ true) where
      by_count : read_tag w position base homes
          ≡ says (leb 1 (field w 40 13)) (Closing (home_field w) (position - field w 14 13) (field w 27 13) (field w 40 13))
      unfolding read_tag read_fields says
      by_count =
          closing-tests (eqb (field w 0 1) 1) (eqb (field w 58 6) 0) (leb (home_field w + 1) homes) (leb (base + field w 14 13) position)
          (says (eqb (field w 27 26) 0) (Entry (home_field w) (position - field w 14 13)))
          (says (leb 1 (field w 40 13)) (Closing (home_field w) (position - field w 14 13) (field w 27 13) (field w 40 13)))
          (eqb (field w 1 1) 0) (eqb (field w 1 1) 1) (open-closing (field w 1 1) (field_lt w 1 1)) k
          ∙ rw (known, le-leb (base + field w 14 13) position started)

      pub closing-said : (field w 40 13 ≡ 0 → ⊥)
          → read_tag w position base homes ≡ Closing (home_field w) (position - field w 14 13) (field w 27 13) (field w 40 13)
      unfolding says
      closing-said n = by_count ∙ rw (le-leb 1 (field w 40 13) (some (field w 40 13) n))
        where
          some : (n : ℕ) → (n ≡ 0 → ⊥) → 1 ≤ n
          some n z = omega arith

      pub closing-empty : field w 40 13 ≡ 0 → read_tag w position base homes ≡ Nothing
      unfolding says
      closing-empty n = by_count ∙ rw (lt-leb 1 (field w 40 13) (omega (arith, n)))
