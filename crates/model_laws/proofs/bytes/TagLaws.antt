-- Laws of the definitions of specs/Tag: what was packed into a word is read from it, and what a tag that was read says of its word. A law takes
-- its variables in the order in which its left side first names them, then its premises. Assumes nothing.
use mathlib.Core.Path.{◌≡◌, refl, sym, ap, ◌∙◌}
use mathlib.Core.Bool.{Bool, true, false, cond, false≢true}
use Prim.Native.Nat.{ℕ, ◌+◌, ◌-◌, ◌*◌, ◌/◌, ◌%◌, ◌^◌, ◌≤◌, ◌<◌}
use native.Mathlib.Nat.{mod-lt, add-mul-div_left, add-mul-mod_self_right}
use native.Mathlib.Omega.{arith}
use native.Mathlib.Decide.{ℕ_discrete}
use borrow.Author.Tests.{le-leb, lt-leb, leb-true, ne_eqb}
use lib.Dec.{eqb, leb}
use lib.Pow.{high, low, pow_pos}
use Rattle.model.specs.Tag.{tag_word, entry_word, closing_word, with_displaced, field, displaced, home_field, says, read_fields, read_tag, read_small_tag, present}
use Rattle.model.specs.declared.Tag.{Tag}
use Rattle.model.specs.declared.Tag.TheVariants.{Nothing, Entry, Closing}

-- ---- fields of a word

pub field_lt : (w low width : ℕ) → field w low width < 2 ^ width
unfolding field
field_lt w low width = mod-lt (w / 2 ^ low) (pow_pos width)

-- a field f of j bits that stands above k bits, which make l, and below q
pub field_of : (j k q f l : ℕ) {w : ℕ} → w ≡ (q * 2 ^ j + f) * 2 ^ k + l → f < 2 ^ j → l < 2 ^ k → field w k j ≡ f
unfolding field
field_of j k q f l {w} e hf hl = ap (λ (x : ℕ). x / 2 ^ k % 2 ^ j) e ∙ ap (λ (x : ℕ). x % 2 ^ j) (high (q * 2 ^ j + f) k hl) ∙ low q j hf

module _ (closing home back link count : ℕ) (hk : closing < 2) (hh : home < 2 ^ 16) (hb : back < 2 ^ 13) (hl : link < 2 ^ 13) (hn : count < 2 ^ 13) where
  pub word_fits : tag_word closing home back link count < 2 ^ 57
  unfolding tag_word
  word_fits = omega arith

  -- the packed word's fields
  pub read_word : (position base homes : ℕ)
      → read_tag (tag_word closing home back link count) position base homes
      ≡ read_fields 1 closing 0 (count * 2 ^ 13 + link) home back link count position base homes
  unfolding tag_word read_tag
  read_word position base homes =
      let w : ℕ = tag_word closing home back link count in
      let low : ℕ = home % 2 ^ 12 in
      let high : ℕ = home / 2 ^ 12 in
      let small : low < 2 ^ 12 = omega arith in
      let few : high < 2 ^ 4 = omega arith in
      let whole : low + 2 ^ 12 * high ≡ home = omega arith in
      let l3 : ℕ = 1 + 2 * closing + 4 * low + 2 ^ 14 * back in
      let l5 : ℕ = l3 + 2 ^ 27 * link + 2 ^ 40 * count in
      let e0 : field w 0 1 ≡ 1 =
      field_of 1 0 (closing + 2 * low + 2 ^ 13 * back + 2 ^ 26 * link + 2 ^ 39 * count + 2 ^ 52 * high) 1 0 (omega arith) (omega arith) (omega arith) in
      let e1 : field w 1 1 ≡ closing =
      field_of 1 1 (low + 2 ^ 12 * back + 2 ^ 25 * link + 2 ^ 38 * count + 2 ^ 51 * high) closing 1 (omega arith) (omega arith) (omega arith) in
      let e2 : field w 58 6 ≡ 0 = field_of 6 58 0 0 w (omega arith) (omega arith) (omega arith) in
      let e3 : field w 27 26 ≡ count * 2 ^ 13 + link = field_of 26 27 high (count * 2 ^ 13 + link) l3 (omega arith) (omega arith) (omega arith) in
      let e4 : field w 2 12 ≡ low =
      field_of 12 2 (back + 2 ^ 13 * link + 2 ^ 26 * count + 2 ^ 39 * high) low (1 + 2 * closing) (omega arith) (omega arith) (omega arith) in
      let e5 : field w 14 13 ≡ back =
      field_of 13 14 (link + 2 ^ 13 * count + 2 ^ 26 * high) back (1 + 2 * closing + 4 * low) (omega arith) (omega arith) (omega arith) in
      let e6 : field w 27 13 ≡ link = field_of 13 27 (count + 2 ^ 13 * high) link l3 (omega arith) (omega arith) (omega arith) in
      let e7 : field w 40 13 ≡ count = field_of 13 40 high count (l3 + 2 ^ 27 * link) (omega arith) (omega arith) (omega arith) in
      let e8 : field w 53 4 ≡ high = field_of 4 53 0 high l5 (omega arith) (omega arith) (omega arith) in
      rw (e0, e1, e2, e3, e4, e5, e6, e7, e8, whole)

pub entry-fits : (home back : ℕ) → home < 2 ^ 16 → back < 2 ^ 13 → entry_word home back < 2 ^ 57
unfolding entry_word
entry-fits home back hh hb = word_fits 0 home back 0 0 (omega arith) hh hb (omega arith) (omega arith)

pub closing-fits : (home back link count : ℕ) → home < 2 ^ 16 → back < 2 ^ 13 → link < 2 ^ 13 → count < 2 ^ 13
    → closing_word home back link count < 2 ^ 57
unfolding closing_word
closing-fits home back link count hh hb hl hn = word_fits 1 home back link count (omega arith) hh hb hl hn

-- ---- there and back

pub read-entry : (home back position base homes : ℕ) → home < 2 ^ 16 → back < 2 ^ 13 → home < homes → base + back ≤ position
    → read_tag (entry_word home back) position base homes ≡ Entry home (position - back)
unfolding entry_word read_fields says
read-entry home back position base homes hh hb hd hp =
    read_word 0 home back 0 0 (omega arith) hh hb (omega arith) (omega arith) position base homes
    ∙ simp (le-leb (home + 1) homes (omega arith), le-leb (base + back) position hp)

pub read-closing : (home back link count position base homes : ℕ) → home < 2 ^ 16 → back < 2 ^ 13 → link < 2 ^ 13 → count < 2 ^ 13 → 1 ≤ count
    → home < homes → base + back ≤ position
    → read_tag (closing_word home back link count) position base homes ≡ Closing home (position - back) link count
unfolding closing_word read_fields says
read-closing home back link count position base homes hh hb hl hn h1 hd hp =
    read_word 1 home back link count (omega arith) hh hb hl hn position base homes
    ∙ simp (le-leb (home + 1) homes (omega arith), le-leb (base + back) position hp, le-leb 1 count h1)

pub read-zero : (position base homes : ℕ) → read_tag 0 position base homes ≡ Nothing
unfolding read_tag read_fields field says
read-zero position base homes = refl

-- ---- the displaced bit

-- the fields below it stay
below : (j k c word bit : ℕ) → 2 ^ 57 * bit ≡ 2 ^ k * (c * 2 ^ j) → field (with_displaced word bit) k j ≡ field word k j
unfolding field with_displaced
below j k c word bit e =
    rw (e, add-mul-div_left word (c * 2 ^ j) (pow_pos k)) (add-mul-mod_self_right (word / 2 ^ k) c (2 ^ j))

module _ (word bit : ℕ) (hw : word < 2 ^ 57) (hb : bit < 2) where
  displaced-small : with_displaced word bit < 2 ^ 58
  unfolding with_displaced
  displaced-small = omega arith

  pub displaced-fits : with_displaced word bit < 2 ^ 64
  unfolding with_displaced
  displaced-fits = omega arith

  pub displaced-back : displaced (with_displaced word bit) ≡ bit
  unfolding with_displaced displaced
  displaced-back = field_of 1 57 0 bit word (omega arith) hb hw

  -- bits 58 to 63 stay zero
  pub read-displaced : (position base homes : ℕ) → read_tag (with_displaced word bit) position base homes ≡ read_tag word position base homes
  unfolding read_tag
  read-displaced position base homes =
      let e2 : field (with_displaced word bit) 58 6 ≡ field word 58 6 = zero_bits ∙ sym zero_word in
      rw (
        below 1 0 (2 ^ 56 * bit) word bit (omega arith),
        below 1 1 (2 ^ 55 * bit) word bit (omega arith),
        e2,
        below 26 27 (2 ^ 4 * bit) word bit (omega arith),
        below 12 2 (2 ^ 43 * bit) word bit (omega arith),
        below 4 53 bit word bit (omega arith),
        below 13 14 (2 ^ 30 * bit) word bit (omega arith),
        below 13 27 (2 ^ 17 * bit) word bit (omega arith),
        below 13 40 (2 ^ 4 * bit) word bit (omega arith),
      )
    where
      zero_word : field word 58 6 ≡ 0
      zero_word = field_of 6 58 0 0 word (omega arith) (omega arith) (omega arith)

      zero_bits : field (with_displaced word bit) 58 6 ≡ 0
      zero_bits = field_of 6 58 0 0 (with_displaced word bit) (omega arith) (omega arith) displaced-small

-- the paper's second trial: home 5, two back, no link, three entries
pub trial-word : closing_word 5 2 0 3 ≡ 3298534916119
unfolding closing_word tag_word
trial-word = refl

-- ---- logs of smaller stations

-- bits 53 to 63 are the home's four, the displaced bit, and above them the zero bits
parts : (q : ℕ) → q % 2 ^ 11 ≡ q % 2 ^ 4 + 2 ^ 4 * (q / 2 ^ 4 % 2 ^ 1) + 2 ^ 5 * (q / 2 ^ 5 % 2 ^ 6)
parts q = omega arith

above-parts : (w : ℕ) → field w 53 11 ≡ field w 53 4 + 2 ^ 4 * displaced w + 2 ^ 5 * field w 58 6
unfolding field displaced
above-parts w =
    let e : w / 2 ^ 57 ≡ w / 2 ^ 53 / 2 ^ 4 = omega arith in
    let f : w / 2 ^ 58 ≡ w / 2 ^ 53 / 2 ^ 5 = omega arith in
    rw (e, f) (parts (w / 2 ^ 53))

-- the fields of a word with some of the four bits set, which the reader of 12 bits took for zero bits: its home is none of 4,096
read-high : (used closing above upper home back link count position base homes : ℕ) → homes ≤ home
    → read_fields used closing above upper home back link count position base homes ≡ Nothing
unfolding read_fields says
read-high used closing above upper home back link count position base homes h =
    rw (lt-leb (home + 1) homes (omega arith)) (both (eqb used 1) (eqb above 0))
  where
    both : (b c : Bool) → says b (says c Nothing) ≡ Nothing
    both true true = refl
    both true false = refl
    both false c = refl

read_above : (used closing above upper home back link count position base homes : ℕ) → (above ≡ 0 → ⊥)
    → read_fields used closing above upper home back link count position base homes ≡ Nothing
unfolding read_fields says
read_above used closing above upper home back link count position base homes h = rw (ne_eqb above 0 h) (both (eqb used 1))
  where
    both : (b : Bool) → says b Nothing ≡ Nothing
    both true = refl
    both false = refl

-- "Logs of smaller stations read as they did": on every word that a station wrote before blocks had turns [S-16]
pub read_small : (word position base homes : ℕ) → homes ≤ 4096 → displaced word ≡ 0
    → read_tag word position base homes ≡ read_small_tag word position base homes
unfolding read_tag read_small_tag
read_small word position base homes few none = go (ℕ_discrete (field word 53 4) 0) (ℕ_discrete (field word 58 6) 0)
  where
    go : Dec (field word 53 4 ≡ 0) → Dec (field word 58 6 ≡ 0)
        → read_fields (field word 0 1) (field word 1 1) (field word 58 6) (field word 27 26) (field word 2 12 + 2 ^ 12 * field word 53 4) (field word 14 13)
        (field word 27 13) (field word 40 13) position base homes
        ≡ read_fields (field word 0 1) (field word 1 1) (field word 53 11) (field word 27 26) (field word 2 12) (field word 14 13) (field word 27 13)
        (field word 40 13) position base homes
    go (yes a) b =
        let e : field word 53 11 ≡ 2 ^ 5 * field word 58 6 = omega (arith, above-parts word) in
        let h : field word 2 12 + 2 ^ 12 * field word 53 4 ≡ field word 2 12 = omega arith in
        rw (e, h) (same b)
      where
        same : Dec (field word 58 6 ≡ 0)
            → read_fields (field word 0 1) (field word 1 1) (field word 58 6) (field word 27 26) (field word 2 12) (field word 14 13)
            (field word 27 13) (field word 40 13) position base homes
            ≡ read_fields (field word 0 1) (field word 1 1) (2 ^ 5 * field word 58 6) (field word 27 26) (field word 2 12) (field word 14 13) (field word 27 13)
            (field word 40 13) position base homes
        same (yes z) = rw z
        same (no z) = read_above _ _ _ _ _ _ _ _ _ _ _ z ∙ sym (read_above _ _ _ _ _ _ _ _ _ _ _ (λ k. z (omega arith)))
    go (no a) b =
        read-high _ _ _ _ _ _ _ _ _ _ _ (omega arith) ∙ sym (read_above _ _ _ _ _ _ _ _ _ _ _ (λ k. a (omega (arith, above-parts word))))

-- ---- what a tag that was read says

-- a tag that says something has passed its test
passed : (b : Bool) (t u : Tag) → present u ≡ true → says b t ≡ u → (b ≡ true) × (t ≡ u)
unfolding says present
passed true t u k e = (refl, e)
passed false t u k e = absurd (false≢true (ap present e ∙ k))

-- the tests that a tag has passed, and the choice that made it
record Passed (home back position base homes : ℕ) (choice t : Tag) : Type 0 where
  known : home < homes
  started : base + back ≤ position
  made : choice ≡ t

tests : (used closing above upper home back link count position base homes : ℕ) (t : Tag) → present t ≡ true
    → read_fields used closing above upper home back link count position base homes ≡ t
    → Passed home back position base homes
    (cond (eqb closing 0) (says (eqb upper 0) (Entry home (position - back))) (says (leb 1 count) (Closing home (position - back) link count))) t
unfolding read_fields
tests used closing above upper home back link count position base homes t k e =
    let p1 = passed _ _ t k e in
    let p2 = passed _ _ t k p1.1 in
    let p3 = passed _ _ t k p2.1 in
    let p4 = passed _ _ t k p3.1 in
    record {
      known = omega (arith, leb-true (home + 1) homes p3.0);
      started = leb-true (base + back) position p4.0;
      made = p4.1;
    }

entry-made : (b c d : Bool) (x y l n h f : ℕ) → cond b (says c (Entry x y)) (says d (Closing x y l n)) ≡ Entry h f → (h ≡ x) × (f ≡ y)
unfolding present
entry-made true c d x y l n h f e = let q = passed c _ (Entry h f) refl e in (cc q.1, cc q.1)
entry-made false c d x y l n h f e =
    let q = passed d _ (Entry h f) refl e in
    let z : ◌≡◌ {A = ℕ} 0 1 = cc q.1 in
    absurd (omega arith)

closing-made : (b c d : Bool) (x y l n h f m k : ℕ) → cond b (says c (Entry x y)) (says d (Closing x y l n)) ≡ Closing h f m k
    → (d ≡ true) × (h ≡ x) × (f ≡ y) × (m ≡ l) × (k ≡ n)
unfolding present
closing-made true c d x y l n h f m k e =
    let q = passed c _ (Closing h f m k) refl e in
    let z : ◌≡◌ {A = ℕ} 0 1 = cc q.1 in
    absurd (omega arith)
closing-made false c d x y l n h f m k e =
    let q = passed d _ (Closing h f m k) refl e in
    (q.0, cc q.1, cc q.1, cc q.1, cc q.1)

record EntrySaid (home back position base homes h f : ℕ) : Type 0 where
  known : home < homes
  started : base + back ≤ position
  is_same_home : h ≡ home
  first : f ≡ position - back

entry-said : (used closing above upper home back link count position base homes h f : ℕ)
    → read_fields used closing above upper home back link count position base homes ≡ Entry h f → EntrySaid home back position base homes h f
unfolding present
entry-said used closing above upper home back link count position base homes h f e =
    let t = tests used closing above upper home back link count position base homes (Entry h f) refl e in
    let m = entry-made (eqb closing 0) (eqb upper 0) (leb 1 count) home (position - back) link count h f t.made in
    record { known = t.known; started = t.started; is_same_home = m.0; first = m.1 }

record ClosingSaid (home back link count position base homes h f l c : ℕ) : Type 0 where
  known : home < homes
  started : base + back ≤ position
  counted : 1 ≤ count
  is_same_home : h ≡ home
  first : f ≡ position - back
  same_link : l ≡ link
  same_count : c ≡ count

closing-said : (used closing above upper home back link count position base homes h f l c : ℕ)
    → read_fields used closing above upper home back link count position base homes ≡ Closing h f l c
    → ClosingSaid home back link count position base homes h f l c
unfolding present
closing-said used closing above upper home back link count position base homes h f l c e =
    let t = tests used closing above upper home back link count position base homes (Closing h f l c) refl e in
    let m = closing-made (eqb closing 0) (eqb upper 0) (leb 1 count) home (position - back) link count h f l c t.made in
    record {
      known = t.known;
      started = t.started;
      counted = leb-true 1 count m.0;
      is_same_home = m.1;
      first = m.2;
      same_link = m.3;
      same_count = m.4;
    }

-- an entry that was read
module _ (w position base homes h f : ℕ) (e : read_tag w position base homes ≡ Entry h f) where
  said-by-entry : EntrySaid (home_field w) (field w 14 13) position base homes h f
  unfolding read_tag
  said-by-entry =
      entry-said (field w 0 1) (field w 1 1) (field w 58 6) (field w 27 26) (home_field w) (field w 14 13) (field w 27 13) (field w 40 13)
      position base homes h f e

  pub entry-fields : (h ≡ home_field w) × (f + field w 14 13 ≡ position)
  entry-fields = let s = said-by-entry in (s.is_same_home, omega arith)

  pub entry_known : (h < homes) × (base ≤ f) × (f ≤ position)
  entry_known = let s = said-by-entry in (omega arith, omega arith, omega arith)

-- a closing entry that was read
module _ (w position base homes h f l c : ℕ) (e : read_tag w position base homes ≡ Closing h f l c) where
  said-by-closing : ClosingSaid (home_field w) (field w 14 13) (field w 27 13) (field w 40 13) position base homes h f l c
  unfolding read_tag
  said-by-closing =
      closing-said (field w 0 1) (field w 1 1) (field w 58 6) (field w 27 26) (home_field w) (field w 14 13) (field w 27 13) (field w 40 13)
      position base homes h f l c e

  pub closing-fields : (h ≡ home_field w) × (f + field w 14 13 ≡ position) × (l ≡ field w 27 13) × (c ≡ field w 40 13)
  closing-fields = let s = said-by-closing in (s.is_same_home, omega arith, s.same_link, s.same_count)

  pub closing-known : (h < homes) × (base ≤ f) × (f ≤ position) × (1 ≤ c)
  closing-known = let s = said-by-closing in (omega arith, omega arith, omega arith, omega arith)
