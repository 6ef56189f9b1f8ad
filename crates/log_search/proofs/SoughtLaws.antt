-- Laws of a group's tags compared with what the tag of an entry for a home has, and of a search that goes back through the groups. Assumes nothing.
use mathlib.Core.Path.{◌≡◌, refl, sym, ap, ◌∙◌}
use mathlib.Core.Bool.{Bool, true, false, cond, ◌&&◌}
use mathlib.Core.List.{List}
use mathlib.Core.Logic.{◌≢◌}
use Prim.Native.Nat.{ℕ, zero, suc, ◌+◌, ◌-◌, ◌*◌, ◌/◌, ◌%◌, ◌^◌, ◌≤◌, ◌<◌}
use native.Mathlib.Decide.{ℕ_discrete, dec_lt}
use native.Mathlib.Omega.{arith}
use borrow.Author.Tests.{eq-eqb, ne_eqb}
use lib.Bits.{bit_and, and_le_l, and_zero_r, and_shr, and_mod}
use lib.Dec.{eqb, leb}
use lib.ListN.{take, drop}
use Rattle.model.specs.Bytes.{part, number}
use Rattle.model.specs.Tag.{tag_word, entry_word, field, home_field, read_tag, belongs, home_of}
use Rattle.model.specs.Layout.{group_tag, tag_offset, group_valid, top_bit, turn_of, word_there, entry_within, entry_at}
use Rattle.model.specs.declared.Tag.{Tag}
use Rattle.model.specs.declared.Tag.TheVariants.{Nothing, Entry, Closing}
use Rattle.model_laws.proofs.bytes.TagLaws.{field_lt, read-zero, entry-fields, closing-fields}
use Rattle.base_codec.proofs.PlainLaws.{and-field}
use Rattle.log_scan.specs.Members.{taking}
use Rattle.log_scan.specs.Scan.{over}
use Rattle.log_scan.proofs.GroupLaws.{word-other, word_fits}
use Rattle.log_scan.proofs.PassLaws.{hole-nothing, valid-tag, log-turn}
use Rattle.log_scan.proofs.MemberPass.{taking-other, taking-quiet, taking-entry, taking-closing}
use Rattle.log_search.specs.Own.{note_at, noted}
use Rattle.log_search.specs.Sought.{sought_bits, Other}
use Rattle.log_search.proofs.OwnLaws.{note-other}

-- ---- the bits

pub bits_of : (home back : ℕ) → entry_word home back - 1 ≡ sought_bits home back
unfolding entry_word tag_word sought_bits
bits_of home back = omega arith

pub positive : (home back : ℕ) {word : ℕ} → word ≡ entry_word home back → 1 ≤ word
unfolding entry_word tag_word
positive home back e = omega (arith, e)

pub bits-first : (bits home back : ℕ) → bits ≡ sought_bits home back → bits ≡ sought_bits home (back + 0)
bits-first bits home back e = let z : back + 0 ≡ back = omega arith in rw z e

pub bits-next : (bits home back k : ℕ) → bits ≡ sought_bits home back → bits + 0x4000 * k ≡ sought_bits home (back + k)
unfolding sought_bits
bits-next bits home back k e = omega (arith, e)

-- a field that a mask clears
cleared : (d m k j : ℕ) → m / 2 ^ k % 2 ^ j ≡ 0 → field (bit_and d m) k j ≡ 0
unfolding field
cleared d m k j e =
    ap (λ (x : ℕ). x % 2 ^ j) (and_shr d m k) ∙ and_mod (d / 2 ^ k) (m / 2 ^ k) j ∙ ap (λ (x : ℕ). bit_and (d / 2 ^ k % 2 ^ j) x) e
    ∙ and_zero_r (d / 2 ^ k % 2 ^ j)

-- a word by its home's bits, its distance back, and those between
by-sought : (v : ℕ) → v < 2 ^ 64
    → v ≡ field v 0 2 + 2 ^ 2 * field v 2 12 + 2 ^ 14 * field v 14 13 + 2 ^ 27 * field v 27 26 + 2 ^ 53 * field v 53 4 + 2 ^ 57 * field v 57 7
unfolding field
by-sought v h =
    let e0 : v / 2 ^ 0 ≡ v / 2 ^ 0 % 2 ^ 2 + 2 ^ 2 * (v / 2 ^ 2) = omega arith in
    let e1 : v / 2 ^ 2 ≡ v / 2 ^ 2 % 2 ^ 12 + 2 ^ 12 * (v / 2 ^ 14) = omega arith in
    let e2 : v / 2 ^ 14 ≡ v / 2 ^ 14 % 2 ^ 13 + 2 ^ 13 * (v / 2 ^ 27) = omega arith in
    let e3 : v / 2 ^ 27 ≡ v / 2 ^ 27 % 2 ^ 26 + 2 ^ 26 * (v / 2 ^ 53) = omega arith in
    let e4 : v / 2 ^ 53 ≡ v / 2 ^ 53 % 2 ^ 4 + 2 ^ 4 * (v / 2 ^ 57) = omega arith in
    let e5 : v / 2 ^ 57 ≡ v / 2 ^ 57 % 2 ^ 7 = omega arith in
    omega arith

abbrev sought_mask : ℕ
sought_mask = 0x1e0_0000_07ff_fffc

sought-left : (w : ℕ) → w < 2 ^ 64 → bit_and w sought_mask ≡ 2 ^ 2 * field w 2 12 + 2 ^ 14 * field w 14 13 + 2 ^ 53 * field w 53 4
sought-left w h =
    omega (
      arith,
      by-sought (bit_and w sought_mask) (omega (arith, and_le_l w sought_mask)),
      cleared w sought_mask 0 2 refl,
      and-field w sought_mask 2 12 refl,
      and-field w sought_mask 14 13 refl,
      cleared w sought_mask 27 26 refl,
      and-field w sought_mask 53 4 refl,
      cleared w sought_mask 57 7 refl,
    )

apart : (group : List ℕ) (k bits word : ℕ) → word ≡ number 8 group (8 + 8 * k) → word < 2 ^ 64 → bit_and word 0x1e0_0000_07ff_fffc ≢ bits
    → (home back : ℕ) → bits ≡ sought_bits home back → home_field (group_tag group k) ≡ home → field (group_tag group k) 14 13 ≢ back
unfolding group_tag tag_offset sought_bits
apart group k bits word e l n home back b h f =
    let low = field_lt word 2 12 in
    let g : home_field word ≡ home = rw e h in
    let d : field word 14 13 ≡ back = rw e f in
    n (sought-left word l ∙ omega (arith, b, g, d, low))

pub bits-other : (group : List ℕ) (k bits word : ℕ) → word ≡ number 8 group (8 + 8 * k) → word < 2 ^ 64 → bit_and word 0x1e0_0000_07ff_fffc ≢ bits
    → (home back : ℕ) → bits ≡ sought_bits home back → Other group k home back
bits-other group k bits word e l n home back b = record { apart = apart group k bits word e l n home back b }

-- what holds of each number below n, and of n
pub one_more : (P : ℕ → Type 0) (n : ℕ) → ((k : ℕ) → k < n → P k) → P n → (k : ℕ) → k < n + 1 → P k
one_more P n below here k l = go (dec_lt k n)
  where
    go : Dec (k < n) → P k
    go (yes d) = below k d
    go (no d) = let e : k ≡ n = omega arith in rw e here

pub none_yet : (P : ℕ → Type 0) (k : ℕ) → k < 0 → P k
none_yet P k l = absurd (omega arith)

-- ---- a group without such a tag

module _ (group : List ℕ) (groups homes start n first home : ℕ) (from : first ≤ 7 * n) (o : (k : ℕ) → k < 7 → Other group k home (7 * n - first + k)) where
  by-tag : (k s : ℕ) → k < 7 → (t : Tag) → read_tag (number 8 group (8 + 8 * k)) (7 * n + k) (7 * start) homes ≡ t
      → taking first (note_at home) (7 * n + k) t s ≡ s
  unfolding belongs group_tag tag_offset
  by-tag k s h Nothing e = taking-quiet first (note_at home) (7 * n + k) s
  by-tag k s h (Entry g f) e = go (ℕ_discrete first f)
    where
      go : Dec (first ≡ f) → taking first (note_at home) (7 * n + k) (Entry g f) s ≡ s
      go (no z) = taking-other first (note_at home) (7 * n + k) (Entry g f) s (ne_eqb first f z)
      go (yes z) =
          let q = entry-fields (number 8 group (8 + 8 * k)) (7 * n + k) (7 * start) homes g f e in
          taking-entry first (note_at home) (7 * n + k) g f (Entry g f) s refl z (omega arith)
          ∙ sym (note-other home (7 * n + k) g s (λ y. (o k h).apart (sym q.0 ∙ y) (omega (arith, q.1))))
  by-tag k s h (Closing g f link count) e = go (ℕ_discrete first f)
    where
      go : Dec (first ≡ f) → taking first (note_at home) (7 * n + k) (Closing g f link count) s ≡ s
      go (no z) = taking-other first (note_at home) (7 * n + k) (Closing g f link count) s (ne_eqb first f z)
      go (yes z) =
          let q = closing-fields (number 8 group (8 + 8 * k)) (7 * n + k) (7 * start) homes g f link count e in
          taking-closing first (note_at home) (7 * n + k) g f link count (Closing g f link count) s refl z (omega arith)
          ∙ sym (note-other home (7 * n + k) g s (λ y. (o k h).apart (sym q.0 ∙ y) (omega (arith, q.1))))

  by_turn : (k s : ℕ) → k < 7 → Dec (top_bit (part group (64 + 64 * k) 64) ≡ turn_of groups n)
      → taking first (note_at home) (7 * n + k) (read_tag (word_there group (turn_of groups n) k) (7 * n + k) (7 * start) homes) s ≡ s
  by_turn k s h (no z) = rw (← word-other group (turn_of groups n) k z, read-zero) (taking-quiet first (note_at home) (7 * n + k) s)
  by_turn k s h (yes z) =
      rw (← word_fits group (turn_of groups n) k z)
      (by-tag k s h (read_tag (number 8 group (8 + 8 * k)) (7 * n + k) (7 * start) homes) refl)

  quiet : (k s : ℕ) → k < 7 → taking first (note_at home) (7 * n + k) (entry_within group groups homes start (7 * n + k)) s ≡ s
  quiet k s h = go (group_valid group groups start n) refl
    where
      go : (b : Bool) → group_valid group groups start n ≡ b → taking first (note_at home) (7 * n + k) (entry_within group groups homes start (7 * n + k)) s ≡ s
      go false v = rw (hole-nothing group groups homes start n v k h) (taking-quiet first (note_at home) (7 * n + k) s)
      go true v =
          rw (valid-tag group groups homes start n v k h)
          (by_turn k s h (ℕ_discrete (top_bit (part group (64 + 64 * k) 64)) (turn_of groups n)))

  none-upto : (m s : ℕ) → m ≤ 7 → noted (entry_within group groups homes start) home first (7 * n) m s ≡ s
  unfolding over
  none-upto zero s h = refl
  none-upto (suc m) s h = quiet m _ (omega arith) ∙ none-upto m s (omega arith)

  pub none-noted : 0 ≡ noted (entry_within group groups homes start) home first (7 * n) 7 0
  none-noted = sym (none-upto 7 0 (omega arith))

-- ---- back through the groups

-- what a stretch has for a home does not depend on what came before it, unless it has nothing
noted-from : (tags : ℕ → Tag) (home first base n x : ℕ)
    → noted tags home first base n x ≡ cond (eqb (noted tags home first base n 0) 0) x (noted tags home first base n 0)
unfolding over taking note_at
noted-from tags home first base zero x = refl
noted-from tags home first base (suc n) x = step (tags (base + n)) _ _ (noted-from tags home first base n x)
  where
    step : (t : Tag) (y r : ℕ) → y ≡ cond (eqb r 0) x r
        → taking first (note_at home) (base + n) t y
        ≡ cond (eqb (taking first (note_at home) (base + n) t r) 0) x (taking first (note_at home) (base + n) t r)
    step t y r e = go (leb first (base + n) && belongs first t) (eqb (home_of t) home)
      where
        go : (b c : Bool)
            → cond b (cond c (base + n + 1) y) y
            ≡ cond (eqb (cond b (cond c (base + n + 1) r) r) 0) x (cond b (cond c (base + n + 1) r) r)
        go true true = rw (ne_eqb (base + n + 1) 0 (λ z. omega (arith, z)))
        go true false = e
        go false c = e

pub back-turn : (log : List ℕ) (groups homes start n slot from first home m found j : ℕ) → m ≤ 7 → start ≤ n → slot ≡ n % groups → from ≡ 64 + 512 * slot
    → j ≡ 7 * n + m - 7 * start
    → found ≡ noted (entry_within (take (from + 512 - from) (drop from log)) groups homes start) home first (7 * n) m 0
    → noted (entry_at log groups homes start) home first (7 * start) j 0
    ≡ cond (eqb found 0) (noted (entry_at log groups homes start) home first (7 * start) (7 * n - 7 * start) 0) found
back-turn log groups homes start n slot from first home m found j l s r b i e =
    let below : ℕ = noted (entry_at log groups homes start) home first (7 * start) (7 * n - 7 * start) 0 in
    sym (log-turn (taking first (note_at home)) log groups homes start (7 * start) (7 * n - 7 * start) m n slot from j below
    (noted (entry_within (take (from + 512 - from) (drop from log)) groups homes start) home first (7 * n) m below) 0 l (omega arith) r b (omega arith) refl refl)
    ∙ rw e (noted-from (entry_within (take (from + 512 - from) (drop from log)) groups homes start) home first (7 * n) m below)

module _ (all below newest : ℕ) (e : all ≡ cond (eqb newest 0) below newest) where
  pub found_here : newest ≢ 0 → newest ≡ all
  found_here n = sym (e ∙ rw (ne_eqb newest 0 n))

  pub found_below : newest ≡ 0 → all ≡ below
  found_below z = e ∙ rw (eq-eqb newest 0 z)

  pub found_nowhere : below ≡ 0 → newest ≡ all
  found_nowhere z = sym (e ∙ go (ℕ_discrete newest 0))
    where
      go : Dec (newest ≡ 0) → cond (eqb newest 0) below newest ≡ newest
      go (yes q) = rw (eq-eqb newest 0 q) (z ∙ sym q)
      go (no q) = rw (ne_eqb newest 0 q)
