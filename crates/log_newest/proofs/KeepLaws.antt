-- Laws of a commit's pass over its transaction's entries. Assumes nothing.
use mathlib.Core.Path.{◌≡◌, refl, sym, ap, ◌∙◌}
use mathlib.Core.Bool.{Bool, true, false, ◌&&◌}
use mathlib.Core.List.{List}
use mathlib.Core.Logic.{◌≢◌}
use Prim.Native.Nat.{ℕ, ◌+◌, ◌-◌, ◌*◌, ◌/◌, ◌%◌, ◌^◌, ◌≤◌, ◌<◌}
use native.Mathlib.Decide.{ℕ_discrete}
use native.Mathlib.Omega.{arith}
use borrow.Author.Tests.{lt-ltb}
use lib.Bits.{bit_xor, xor_self, xor_shr, xor_add_and, and_le_l, and_le_r}
use lib.Dec.{eqb}
use lib.ListN.{take, drop}
use Rattle.model.specs.Bytes.{part, number, same}
use Rattle.model.specs.Tag.{entry_word, with_displaced, displaced, home_field, field, read_tag, belongs}
use Rattle.model.specs.Layout.{group_mark, group_at, group_valid, top_bit, word_there, entry_within, entry_at}
use Rattle.model.specs.Commit.{entries}
use Rattle.model.specs.Newest.{keep, keep_entry, keep_entries}
use Rattle.model.specs.declared.Tag.{Tag}
use Rattle.model.specs.declared.Tag.TheVariants.{Nothing, Entry, Closing}
use Rattle.model_laws.proofs.bytes.TagLaws.{field_lt, entry-fits, read-entry, read-zero, read-displaced, entry_known, closing-known, entry-fields, closing-fields}
use Rattle.model_laws.proofs.rule.MemberLaws.{entries_at}
use Rattle.log_scan.specs.Members.{taking}
use Rattle.log_scan.proofs.GroupLaws.{word-other, word_fits, valid-range, part-group}
use Rattle.log_scan.proofs.PassLaws.{group-hole, log-turn}
use Rattle.log_scan.proofs.MemberPass.{taking-back, taking-other, taking-quiet, taking-entry, taking-closing, over-before, over-members}
use Rattle.log_newest.specs.Keeping.{keep_at, kept_over, taken_to, PlainFor}

-- ---- one position

module _ (word position base homes : ℕ) (t : Tag) (r : t ≡ read_tag word position base homes) where
  pub entry-low : (h f : ℕ) → t ≡ Entry h f → h < homes
  entry-low h f d = (entry_known word position base homes h f (sym r ∙ d)).0

  pub closing-low : (h f link count : ℕ) → t ≡ Closing h f link count → h < homes
  closing-low h f link count d = (closing-known word position base homes h f link count (sym r ∙ d)).0

module _ (word position base homes first : ℕ) (newest : List ℕ) where
  pub kept-other : (back : ℕ) → back ≡ field word 14 13 → back ≢ position - first → newest ≡ taking first keep_at position (read_tag word position base homes) newest
  kept-other back e n = sym (taking-other first keep_at position _ newest (taking-back word position base homes first (λ z. n (e ∙ z))))

  module _ (back : ℕ) (e : back ≡ field word 14 13) (b : back ≡ position - first) (l : first ≤ position) (t : Tag) (r : t ≡ read_tag word position base homes) where
    pub kept-nothing : t ≡ Nothing → newest ≡ taking first keep_at position (read_tag word position base homes) newest
    unfolding belongs
    kept-nothing d = sym (taking-other first keep_at position (read_tag word position base homes) newest (ap (belongs first) (sym r ∙ d)))

    pub kept_entry : (h f : ℕ) (after : List ℕ) → t ≡ Entry h f → after ≡ keep newest h position
        → after ≡ taking first keep_at position (read_tag word position base homes) newest
    kept_entry h f after d q =
        let s = entry-fields word position base homes h f (sym r ∙ d) in
        q ∙ sym (taking-entry first keep_at position h f _ newest (sym r ∙ d) (omega (arith, s.1)) l)

    pub kept-closing : (h f link count : ℕ) (after : List ℕ) → t ≡ Closing h f link count → after ≡ keep newest h position
        → after ≡ taking first keep_at position (read_tag word position base homes) newest
    kept-closing h f link count after d q =
        let s = closing-fields word position base homes h f link count (sym r ∙ d) in
        q ∙ sym (taking-closing first keep_at position h f link count _ newest (sym r ∙ d) (omega (arith, s.1)) l)

-- ---- a plain word

displaced-lt : (word : ℕ) → displaced word < 2
unfolding displaced
displaced-lt word = omega (arith, field_lt word 57 1)

home-lt : (word : ℕ) → home_field word < 2 ^ 16
home-lt word = omega (arith, field_lt word 2 12, field_lt word 53 4)

-- the sign of a byte once the turn is added to its top bit
module _ (b turn : ℕ) (h : turn < 2) where
  turned : bit_xor b (128 * turn) / 2 ^ 7 ≡ bit_xor (b / 2 ^ 7) turn
  turned = let e : 128 * turn / 2 ^ 7 ≡ turn = omega arith in xor_shr b (128 * turn) 7 ∙ ap (bit_xor (b / 2 ^ 7)) e

  pub turn-other : 128 ≤ bit_xor b (128 * turn) → b / 2 ^ 7 ≢ turn
  turn-other l e =
      let z : bit_xor (b / 2 ^ 7) turn ≡ 0 = ap (λ (x : ℕ). bit_xor x turn) e ∙ xor_self turn in
      omega (arith, turned, z, l)

  pub turn-same : bit_xor b (128 * turn) < 128 → b / 2 ^ 7 ≡ turn
  turn-same l =
      let z : bit_xor (b / 2 ^ 7) turn ≡ 0 = omega (arith, turned, l) in
      omega (arith, z, xor_add_and (b / 2 ^ 7) turn, and_le_l (b / 2 ^ 7) turn, and_le_r (b / 2 ^ 7) turn)

-- that of tag k of a group
module _ (group : List ℕ) (turn k word plain position base homes first : ℕ) (newest : List ℕ) (w : word ≡ number 8 group (8 + 8 * k))
    (f : PlainFor plain first base position) where
  -- its block has another turn
  pub turn-passed : (bit : ℕ) → bit ≡ top_bit (part group (64 + 64 * k) 64) → bit ≢ turn
      → newest ≡ taking first keep_at position (read_tag (word_there group turn k) position base homes) newest
  turn-passed bit e n =
      rw (← word-other group turn k (λ z. n (e ∙ z)), read-zero) (sym (taking-quiet first keep_at position newest))

  -- its distance back is another, whatever its block's turn
  pub plain-passed : ((back : ℕ) → plain ≡ entry_word 0 back → back < 2 ^ 13 → field word 14 13 ≢ back)
      → newest ≡ taking first keep_at position (read_tag (word_there group turn k) position base homes) newest
  plain-passed law = go (ℕ_discrete (top_bit (part group (64 + 64 * k) 64)) turn)
    where
      go : Dec (top_bit (part group (64 + 64 * k) 64) ≡ turn) → newest ≡ taking first keep_at position (read_tag (word_there group turn k) position base homes) newest
      go (no z) = turn-passed (top_bit (part group (64 + 64 * k) 64)) refl z
      go (yes z) =
          let n = f.near in
          rw (← word_fits group turn k z, ← w) (kept-other word position base homes first newest _ refl (law (position - first) f.word (omega arith)))

  -- its home is known
  pub home-kept : (bit home : ℕ) (after : List ℕ) → bit ≡ top_bit (part group (64 + 64 * k) 64) → bit ≡ turn → home < 2 ^ 16 → home < homes
      → ((back : ℕ) → plain ≡ entry_word 0 back → back < 2 ^ 13 → word ≡ with_displaced (entry_word home back) (displaced word))
      → after ≡ keep newest home position → after ≡ taking first keep_at position (read_tag (word_there group turn k) position base homes) newest
  home-kept bit home after e z h l shape q =
      let n = f.near in
      let g = f.from in
      let s = f.start in
      let back : ℕ = position - first in
      let t : back < 2 ^ 13 = omega arith in
      let r : read_tag word position base homes ≡ Entry home (position - back) =
      ap (λ (v : ℕ). read_tag v position base homes) (shape back f.word t)
      ∙ read-displaced (entry_word home back) (displaced word) (entry-fits home back h t) (displaced-lt word) position base homes
      ∙ read-entry home back position base homes h t l (omega arith) in
      rw (← word_fits group turn k (sym e ∙ z), ← w) (q ∙ sym (taking-entry first keep_at position home (position - back) _ newest r (omega arith) g))

  pub plain-kept : (bit home : ℕ) (after : List ℕ) → bit ≡ top_bit (part group (64 + 64 * k) 64) → bit ≡ turn → homes ≤ 65535 → home < homes
      → ((back : ℕ) → plain ≡ entry_word 0 back → back < 2 ^ 13 → word ≡ with_displaced (entry_word (home_field word) back) (displaced word))
      → ((h back b : ℕ) → h < 2 ^ 16 → back < 2 ^ 13 → b < 2 → plain ≡ entry_word 0 back → word ≡ with_displaced (entry_word h back) b → home ≡ h)
      → after ≡ keep newest home position → after ≡ taking first keep_at position (read_tag (word_there group turn k) position base homes) newest
  plain-kept bit home after e z m l shape law q =
      home-kept bit home after e z (omega arith) l
      (λ back p t.
      let x = shape back p t in
      let y : home ≡ home_field word = law (home_field word) back (displaced word) (home-lt word) t (displaced-lt word) p x in
      x ∙ ap (λ (v : ℕ). with_displaced (entry_word v back) (displaced word)) (sym y))
      q

-- after a word that was left
pub kept-after : (first position : ℕ) (t : Tag) (newest middle after : List ℕ) → after ≡ taking first keep_at position t middle → middle ≡ newest
    → after ≡ taking first keep_at position t newest
kept-after first position t newest middle after q e = q ∙ ap (taking first keep_at position t) e

-- ---- a group

-- one of the log's range is valid by its head
pub head-valid : (group : List ℕ) (groups start n : ℕ) (b : Bool) → groups ≤ 1024 → start ≤ 2 ^ 47 → start ≤ n → n < start + groups
    → b ≡ (same (part group 0 2) group_mark && eqb (number 6 group 2) (n % 2 ^ 48)) → b ≡ true → group_valid group groups start n ≡ true
head-valid group groups start n b g s l h e t =
    sym (valid-range group groups start n (omega arith) (sym e ∙ t) l) ∙ lt-ltb n (start + groups) h

-- one that says nothing, from one tag on to another
pub hole-between : (group : List ℕ) (groups homes start n done m first : ℕ) (newest before : List ℕ) → group_valid group groups start n ≡ false → done ≤ 7 → m ≤ 7
    → newest ≡ kept_over (entry_within group groups homes start) first (7 * n) done before → newest ≡ kept_over (entry_within group groups homes start) first (7 * n) m before
hole-between group groups homes start n done m first newest before v d l e =
    e ∙ sym (group-hole (taking first keep_at) (taking-quiet first keep_at) group groups homes start n done before v d)
    ∙ group-hole (taking first keep_at) (taking-quiet first keep_at) group groups homes start n m before v l

-- the log's part from byte `from` on as the group with number n
module _ (log : List ℕ) (groups homes start first n slot from : ℕ) (newest after before : List ℕ) (r : slot ≡ n % groups) (b : from ≡ 64 + 512 * slot) where
  abbrev slice : List ℕ
  slice = take (from + 512 - from) (drop from log)

  here : slice ≡ group_at log (n % groups)
  here = part-group log slot from b ∙ ap (group_at log) r

  -- up to its tag `done`
  pub part-taken : (done : ℕ) → after ≡ kept_over (entry_within (take (from + 512 - from) (drop from log)) groups homes start) first (7 * n) done newest
      → newest ≡ kept_over (entry_at log groups homes start) first (7 * start) (7 * n - 7 * start) before
      → after ≡ taken_to log groups homes start first n done before
  part-taken done e q = e ∙ rw (here, q)

  -- the first m of its tags
  pub group-taken : (m j : ℕ) → m ≤ 7 → start ≤ n → j ≡ 7 * n + m - 7 * start
      → after ≡ kept_over (entry_within (take (from + 512 - from) (drop from log)) groups homes start) first (7 * n) m newest
      → newest ≡ kept_over (entry_at log groups homes start) first (7 * start) (7 * n - 7 * start) before
      → after ≡ kept_over (entry_at log groups homes start) first (7 * start) j before
  group-taken m j l s f e q =
      log-turn (taking first keep_at) log groups homes start (7 * start) (7 * n - 7 * start) m n slot from j newest after before l (omega arith) r b (omega arith) q e

-- the rest of it
pub rest-taken : (log : List ℕ) (groups homes start first n slot from done m : ℕ) (newest after before : List ℕ) → slot ≡ n % groups → from ≡ 64 + 512 * slot → m ≤ 7
    → start ≤ n
    → ((b : List ℕ) → newest ≡ kept_over (entry_within (take (from + 512 - from) (drop from log)) groups homes start) first (7 * n) done b
    → after ≡ kept_over (entry_within (take (from + 512 - from) (drop from log)) groups homes start) first (7 * n) m b)
    → newest ≡ taken_to log groups homes start first n done before
    → after ≡ kept_over (entry_at log groups homes start) first (7 * start) (7 * n + m - 7 * start) before
rest-taken log groups homes start first n slot from done m newest after before r b l s law e =
    let middle : List ℕ = kept_over (entry_at log groups homes start) first (7 * start) (7 * n - 7 * start) before in
    group-taken log groups homes start first n slot from middle after before r b m (7 * n + m - 7 * start) l s refl (law middle (e ∙ rw (here log groups homes start first n slot from middle after before r b))) refl

-- where the pass begins, and where it ends before a group
pub taken_start : (log : List ℕ) (groups homes start first n done : ℕ) (newest : List ℕ) → 7 * n ≤ first → done ≡ first - 7 * n
    → newest ≡ taken_to log groups homes start first n done newest
taken_start log groups homes start first n done newest h e =
    over-before first keep_at (entry_at log groups homes start) (7 * start) (7 * n - 7 * start) newest (omega arith)
    ∙ over-before first keep_at (entry_within (group_at log (n % groups)) groups homes start) (7 * n) done _ (omega arith)

pub taken-end : (log : List ℕ) (groups homes start first n done : ℕ) (newest after : List ℕ) → done ≡ 0 → after ≡ taken_to log groups homes start first n done newest
    → after ≡ kept_over (entry_at log groups homes start) first (7 * start) (7 * n - 7 * start) newest
taken-end log groups homes start first n done newest after z e =
    e ∙ sym (over-before first keep_at (entry_within (group_at log (n % groups)) groups homes start) (7 * n) done _ (omega arith))

-- after a group comes the next
pub taken_next : (tags : ℕ → Tag) (first start n : ℕ) (newest after : List ℕ) → after ≡ kept_over tags first (7 * start) (7 * n + 7 - 7 * start) newest
    → after ≡ kept_over tags first (7 * start) (7 * (n + 1) - 7 * start) newest
taken_next tags first start n newest after e = let q : 7 * (n + 1) - 7 * start ≡ 7 * n + 7 - 7 * start = omega arith in rw q e

-- ---- all of them

pub kept-all : (tags : ℕ → Tag) (base first closing n : ℕ) (newest after : List ℕ) → base ≤ closing → n ≡ closing + 1 - base
    → after ≡ kept_over tags first base n newest
    → after ≡ keep_entries tags (entries tags base (record { first = first; closing = closing })) newest
unfolding keep_entries keep_entry
kept-all tags base first closing n newest after h e q =
    q ∙ over-members first keep_at tags base n newest ∙ rw (entries_at tags base first closing, e)
