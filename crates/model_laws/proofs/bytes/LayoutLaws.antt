-- Laws of the definitions of specs/Layout: the header, the groups and the entries in them, positions, the homes.
-- A law takes its variables in the order in which its left side first names them, then its premises. Assumes nothing.
use mathlib.Core.Path.{◌≡◌, refl, sym, ap, ◌∙◌}
use mathlib.Core.Bool.{Bool, true, false, ◌&&◌, and-eq-true_iff}
use mathlib.Core.List.{List, [], ◌∷◌, ◌++◌, append_assoc}
use Prim.Native.Nat.{ℕ, zero, suc, ◌+◌, ◌-◌, ◌*◌, ◌/◌, ◌%◌, ◌^◌, ◌≤◌, ◌<◌}
use native.Mathlib.Nat.{mod-lt, div-add-mod, mul-le-mul_left, mul-suc, zero-add}
use native.Mathlib.Omega.{arith}
use borrow.Author.Tests.{eq-eqb, le-leb, eqb-true, leb-true, leb-false, ltb-true}
use lib.Dec.{eqb, leb, ltb}
use lib.ListN.{length, drop, replicate, get_or, length-append}
use lib.Seq.{take_at, drop-append-add, get_or-take, get_or-drop, ext_get_or}
use Rattle.model.specs.Bytes.{part, puts, zeros, bytes, value, number, put_number, same}
use Rattle.model.specs.Tag.{with_displaced, field, displaced}
use Rattle.model.specs.Layout.{group_count, home_count, log_length_right, data_length_right, header_mark, header, header_start, header_right, group_mark, group_offset, group_at, group_number, tag_offset, group_tag, block_offset, group_block, group_valid, turn_of, top_bit, with_top_bit, turn_blocks, blank_group, put_blank, put_entry, slot_of, index_of, block_of, home_at, put_home}
use Rattle.model_laws.proofs.bytes.ByteLaws.{length-puts, length-zeros, length-bytes, length_part, length-put_number, part-puts, part_same, part-below, part-above, part-inside, part-whole, part-within, number-same-part, number-below, number-inside, value-bytes, number_same, same_refl}
use Rattle.model_laws.proofs.bytes.TurnLaws.{byte-number, top_bit-lt, length-with_top_bit, turn-back, turn_of-lt}
use Rattle.model_laws.proofs.bytes.TagLaws.{displaced-fits, displaced-back}

-- ---- tests joined

pub three : (a b c : Bool) → (a && b && c) ≡ true → (a ≡ true) × (b ≡ true) × (c ≡ true)
three true b c h = let p = (and-eq-true_iff b c).0 h in (refl, p.0, p.1)
three false b c h = (h, cc, cc)

-- ---- parts and numbers of lists that are joined, and of zeros

pub part-front : (a r : List ℕ) (n : ℕ) → length a ≡ n → part (a ++ r) 0 n ≡ a
unfolding part
part-front a r n h = take_at a r n h

pub part-of-front : (a r : List ℕ) (n o m : ℕ) → length a ≡ n → o + m ≤ n → part a o m ≡ part (a ++ r) o m
part-of-front a r n o m e h =
    ap (λ (x : List ℕ). part x o m) (sym (part-front a r n e)) ∙ part-within (a ++ r) 0 n o m h ∙ ap (λ (i : ℕ). part (a ++ r) i m) (zero-add o)

pub part-after : (a r : List ℕ) (m o n : ℕ) → length a ≡ m → part (a ++ r) (m + o) n ≡ part r o n
unfolding part
part-after a r m o n e = rw (← e, drop-append-add)

pub number-front : (k v : ℕ) (r : List ℕ) → v < 256 ^ k → number k (bytes k v ++ r) 0 ≡ v
unfolding number
number-front k v r h = value-bytes k v r h

pub number-after : (k : ℕ) (a r : List ℕ) (m o : ℕ) → length a ≡ m → number k (a ++ r) (m + o) ≡ number k r o
unfolding number
number-after k a r m o e = rw (← e, drop-append-add)

drop-zeros : (o n : ℕ) → drop {A = ℕ} o (replicate n 0) ≡ replicate (n - o) 0
drop-zeros zero n = let e : n - 0 ≡ n = omega arith in rw e
drop-zeros (suc o) zero = let e : 0 - suc o ≡ 0 = omega arith in rw e
drop-zeros (suc o) (suc n) = let e : suc n - suc o ≡ n - o = omega arith in rw e (drop-zeros o n)

value-zeros : (k n : ℕ) → value k (replicate n 0) ≡ 0
unfolding value
value-zeros zero n = refl
value-zeros (suc k) zero = refl
value-zeros (suc k) (suc n) = omega (arith, value-zeros k n)

pub number-zeros : (k n o : ℕ) → number k (zeros n) o ≡ 0
unfolding number zeros
number-zeros k n o = rw drop-zeros (value-zeros k (n - o))

-- zeros at the front of a list
pub number-zeros-front : (k n : ℕ) (r : List ℕ) (o : ℕ) → o + k ≤ n → number k (zeros n ++ r) o ≡ 0
number-zeros-front k n r o h =
    number-same-part k (zeros n ++ r) o (zeros n) o (sym (part-of-front (zeros n) r n o k (length-zeros n) h)) ∙ number-zeros k n o

-- ---- a part apart from what was written

pub part_apart : (d : List ℕ) (at : ℕ) (s : List ℕ) (a n : ℕ) → (a < at + length s → at < a + n → ⊥) → part (puts d at s) a n ≡ part d a n
part_apart d at s a n h = go (leb (a + n) at) refl
  where
    go : (b : Bool) → leb (a + n) at ≡ b → part (puts d at s) a n ≡ part d a n
    go true e = part-below d at s a n (leb-true (a + n) at e)
    go false e = part-above d at s a n (over (leb (at + length s) a) refl)
      where
        over : (c : Bool) → leb (at + length s) a ≡ c → at + length s ≤ a
        over true f = leb-true (at + length s) a f
        over false f = absurd (h (leb-false (at + length s) a f) (leb-false (a + n) at e))

pub number-apart : (k : ℕ) (d : List ℕ) (at : ℕ) (s : List ℕ) (i : ℕ) → (i < at + length s → at < i + k → ⊥) → number k (puts d at s) i ≡ number k d i
number-apart k d at s i h = number-same-part k (puts d at s) i d i (part_apart d at s i k h)

pub part-written : (d : List ℕ) (at : ℕ) (s : List ℕ) (n : ℕ) → length s ≡ n → at + n ≤ length d → part (puts d at s) at n ≡ s
part-written d at s n e h = ap (λ (m : ℕ). part (puts d at s) at m) (sym e) ∙ part_same d at s (rw e h)

-- ---- lengths

pub length-header : (start groups homes : ℕ) → length (header start groups homes) ≡ 64
unfolding header
length-header start groups homes = simp (length-append, length-bytes, length-zeros)

pub length-turn_blocks : (k turn : ℕ) → length (turn_blocks k turn) ≡ 64 * k
unfolding turn_blocks
length-turn_blocks zero turn = refl
length-turn_blocks (suc k) turn = simp (length-append, length-zeros) (omega (arith, length-turn_blocks k turn))

pub length-blank_group : (groups n : ℕ) → length (blank_group groups n) ≡ 512
unfolding blank_group
length-blank_group groups n = simp (length-append, length-bytes, length-zeros, length-turn_blocks)

pub length-put_blank : (log : List ℕ) (groups slot n : ℕ) → length (put_blank log groups slot n) ≡ length log
unfolding put_blank
length-put_blank log groups slot n = length-puts log (group_offset slot) (blank_group groups n)

pub length-put_entry : (log : List ℕ) (slot turn k word : ℕ) (block : List ℕ) → length (put_entry log slot turn k word block) ≡ length log
unfolding put_entry
length-put_entry log slot turn k word block = rw (length-puts, length-put_number)

pub length-put_home : (area : List ℕ) (home : ℕ) (block : List ℕ) → length (put_home area home block) ≡ length area
unfolding put_home
length-put_home area home block = length-puts area (64 * home) block

pub length-group_at : (log : List ℕ) (slot : ℕ) → group_offset slot + 512 ≤ length log → length (group_at log slot) ≡ 512
unfolding group_at
length-group_at log slot h = length_part log (group_offset slot) 512 h

pub group-fits : (slot : ℕ) (log : List ℕ) (groups : ℕ) → slot < groups → length log ≡ 64 + 512 * groups → group_offset slot + 512 ≤ length log
unfolding group_offset
group-fits slot log groups h e = omega arith

pub slot_lt : (groups p : ℕ) → 0 < groups → slot_of groups p < groups
unfolding slot_of
slot_lt groups p h = mod-lt (p / 7) h

pub index-lt : (p : ℕ) → index_of p < 7
unfolding index_of
index-lt p = omega arith

-- ---- the header there and back

header-start-in : (start groups homes : ℕ) → start < 256 ^ 6 → number 6 (header start groups homes) 2 ≡ start
unfolding header
header-start-in start groups homes h = number-after 6 header_mark _ 2 0 refl ∙ number-front 6 start _ h

header-groups-in : (start groups homes : ℕ) → groups < 65536 → number 2 (header start groups homes) 8 ≡ groups
unfolding header
header-groups-in start groups homes h =
    number-after 2 header_mark _ 2 6 refl ∙ number-after 2 (bytes 6 start) _ 6 0 (length-bytes 6 start) ∙ number-front 2 groups _ h

header-homes-in : (start groups homes : ℕ) → homes < 65536 → number 2 (header start groups homes) 10 ≡ homes
unfolding header
header-homes-in start groups homes h =
    number-after 2 header_mark _ 2 8 refl ∙ number-after 2 (bytes 6 start) _ 6 2 (length-bytes 6 start)
    ∙ number-after 2 (bytes 2 groups) _ 2 0 (length-bytes 2 groups) ∙ number-front 2 homes _ h

header-zeros-in : (start groups homes : ℕ) → part (header start groups homes) 12 52 ≡ zeros 52
unfolding header
header-zeros-in start groups homes =
    part-after header_mark _ 2 10 52 refl ∙ part-after (bytes 6 start) _ 6 4 52 (length-bytes 6 start)
    ∙ part-after (bytes 2 groups) _ 2 2 52 (length-bytes 2 groups) ∙ part-after (bytes 2 homes) _ 2 0 52 (length-bytes 2 homes)
    ∙ part-whole (zeros 52) 52 (rw length-zeros (omega arith))

header-mark-in : (start groups homes : ℕ) → part (header start groups homes) 0 2 ≡ header_mark
unfolding header
header-mark-in start groups homes = part-front header_mark _ 2 refl

module _ (log : List ℕ) (start groups homes : ℕ) where
  in-header : (k o : ℕ) → o + k ≤ 64 → 64 ≤ length log → number k (puts log 0 (header start groups homes)) (0 + o) ≡ number k (header start groups homes) o
  in-header k o h l =
      let e : length (header start groups homes) ≡ 64 = length-header start groups homes in
      number-inside k log 0 (header start groups homes) o (omega arith) (omega arith)

  in-header-part : (o n : ℕ) → o + n ≤ 64 → 64 ≤ length log → part (puts log 0 (header start groups homes)) (0 + o) n ≡ part (header start groups homes) o n
  in-header-part o n h l =
      let e : length (header start groups homes) ≡ 64 = length-header start groups homes in
      part-inside log 0 (header start groups homes) o n (omega arith) (omega arith)

  pub header-start : start < 256 ^ 6 → 64 ≤ length log → header_start (puts log 0 (header start groups homes)) ≡ start
  unfolding header_start
  header-start h l = in-header 6 2 (omega arith) l ∙ header-start-in start groups homes h

  pub header-right : groups < 65536 → homes < 65536 → 64 ≤ length log
      → header_right (puts log 0 (header start groups homes)) groups homes ≡ true
  unfolding header_right
  header-right g d l =
      let p : part (puts log 0 (header start groups homes)) 0 2 ≡ header_mark = in-header-part 0 2 (omega arith) l ∙ header-mark-in start groups homes in
      let q : number 2 (puts log 0 (header start groups homes)) 8 ≡ groups = in-header 2 8 (omega arith) l ∙ header-groups-in start groups homes g in
      let r : number 2 (puts log 0 (header start groups homes)) 10 ≡ homes = in-header 2 10 (omega arith) l ∙ header-homes-in start groups homes d in
      let z : part (puts log 0 (header start groups homes)) 12 52 ≡ zeros 52 = in-header-part 12 52 (omega arith) l ∙ header-zeros-in start groups homes in
      rw (p, q, r, z, same_refl header_mark, same_refl (zeros 52), eq-eqb groups groups refl, eq-eqb homes homes refl)

-- ---- a write at a group leaves the header, and a header write leaves the groups

-- the header is what the first 64 bytes are
module _ (log log' : List ℕ) where
  pub header-start-same : ((a n : ℕ) → a + n ≤ 64 → part log a n ≡ part log' a n) → header_start log ≡ header_start log'
  unfolding header_start
  header-start-same f = number-same-part 6 log 2 log' 2 (f 2 6 (omega arith))

  pub header-right-same : (groups homes : ℕ) → ((a n : ℕ) → a + n ≤ 64 → part log a n ≡ part log' a n)
      → header_right log groups homes ≡ header_right log' groups homes
  unfolding header_right
  header-right-same groups homes f =
      rw (
        f 0 2 (omega arith),
        number-same-part 2 log 8 log' 8 (f 8 2 (omega arith)),
        number-same-part 2 log 10 log' 10 (f 10 2 (omega arith)),
        f 12 52 (omega arith),
      )

pub header-start-past : (log : List ℕ) (at : ℕ) (bs : List ℕ) → 64 ≤ at → header_start (puts log at bs) ≡ header_start log
unfolding header_start
header-start-past log at bs h = number-below 6 log at bs 2 (omega arith)

pub header-right-past : (log : List ℕ) (at : ℕ) (bs : List ℕ) (groups homes : ℕ) → 64 ≤ at
    → header_right (puts log at bs) groups homes ≡ header_right log groups homes
unfolding header_right
header-right-past log at bs groups homes h =
    let p : part (puts log at bs) 0 2 ≡ part log 0 2 = part-below log at bs 0 2 (omega arith) in
    let q : number 2 (puts log at bs) 8 ≡ number 2 log 8 = number-below 2 log at bs 8 (omega arith) in
    let r : number 2 (puts log at bs) 10 ≡ number 2 log 10 = number-below 2 log at bs 10 (omega arith) in
    let z : part (puts log at bs) 12 52 ≡ part log 12 52 = part-below log at bs 12 52 (omega arith) in
    rw (p, q, r, z)

pub header-start-group : (log : List ℕ) (slot o : ℕ) (bs : List ℕ) → header_start (puts log (group_offset slot + o) bs) ≡ header_start log
unfolding group_offset
header-start-group log slot o bs = header-start-past log (group_offset slot + o) bs (omega arith)

pub header-right-group : (log : List ℕ) (slot o : ℕ) (bs : List ℕ) (groups homes : ℕ)
    → header_right (puts log (group_offset slot + o) bs) groups homes ≡ header_right log groups homes
unfolding group_offset
header-right-group log slot o bs groups homes = header-right-past log (group_offset slot + o) bs groups homes (omega arith)

pub header-start-blank : (log : List ℕ) (groups slot n : ℕ) → header_start (put_blank log groups slot n) ≡ header_start log
unfolding put_blank group_offset
header-start-blank log groups slot n = header-start-past log (group_offset slot) (blank_group groups n) (omega arith)

pub header-right-blank : (log : List ℕ) (G slot n groups homes : ℕ)
    → header_right (put_blank log G slot n) groups homes ≡ header_right log groups homes
unfolding put_blank group_offset
header-right-blank log G slot n groups homes = header-right-past log (group_offset slot) (blank_group G n) groups homes (omega arith)

pub header-start-entry : (log : List ℕ) (slot turn k word : ℕ) (block : List ℕ)
    → header_start (put_entry log slot turn k word block) ≡ header_start log
unfolding put_entry put_number
header-start-entry log slot turn k word block = header-start-group _ slot (block_offset k) _ ∙ header-start-group log slot (tag_offset k) _

pub header-right-entry : (log : List ℕ) (slot turn k word : ℕ) (block : List ℕ) (groups homes : ℕ)
    → header_right (put_entry log slot turn k word block) groups homes ≡ header_right log groups homes
unfolding put_entry put_number
header-right-entry log slot turn k word block groups homes =
    header-right-group _ slot (block_offset k) _ groups homes ∙ header-right-group log slot (tag_offset k) _ groups homes

pub group-header : (log h : List ℕ) (slot : ℕ) → length h ≤ 64 → group_at (puts log 0 h) slot ≡ group_at log slot
unfolding group_at group_offset
group-header log h slot l = part-above log 0 h (group_offset slot) 512 (omega arith)

-- ---- groups written and others

pub group-same : (log : List ℕ) (slot : ℕ) (bs : List ℕ) → length bs ≡ 512 → group_offset slot + 512 ≤ length log
    → group_at (puts log (group_offset slot) bs) slot ≡ bs
unfolding group_at
group-same log slot bs e h = part-written log (group_offset slot) bs 512 e h

-- what is written at an offset of another group
pub group-apart : (log : List ℕ) (other o : ℕ) (bs : List ℕ) (slot : ℕ) → (slot ≡ other → ⊥) → o + length bs ≤ 512
    → group_at (puts log (group_offset other + o) bs) slot ≡ group_at log slot
unfolding group_at group_offset
group-apart log other o bs slot h l = part_apart log (group_offset other + o) bs (group_offset slot) 512 (omega arith)

pub group-other : (log : List ℕ) (other : ℕ) (bs : List ℕ) (slot : ℕ) → (slot ≡ other → ⊥) → length bs ≤ 512
    → group_at (puts log (group_offset other) bs) slot ≡ group_at log slot
unfolding group_at group_offset
group-other log other bs slot h l = part_apart log (group_offset other) bs (group_offset slot) 512 (omega arith)

pub blank-same : (log : List ℕ) (groups slot n : ℕ) → group_offset slot + 512 ≤ length log
    → group_at (put_blank log groups slot n) slot ≡ blank_group groups n
unfolding put_blank
blank-same log groups slot n h = group-same log slot (blank_group groups n) (length-blank_group groups n) h

pub blank-other : (log : List ℕ) (groups other n slot : ℕ) → (slot ≡ other → ⊥) → group_at (put_blank log groups other n) slot ≡ group_at log slot
unfolding put_blank
blank-other log groups other n slot h = group-other log other (blank_group groups n) slot h (rw length-blank_group (omega arith))

-- a group with an entry's tag and block at index k
unfoldable pub enter_in : List ℕ → ℕ → ℕ → List ℕ → List ℕ
enter_in group k word block = puts (put_number 8 group (tag_offset k) word) (block_offset k) block

pub length-enter_in : (group : List ℕ) (k word : ℕ) (block : List ℕ) → length (enter_in group k word block) ≡ length group
unfolding enter_in
length-enter_in group k word block = rw (length-puts, length-put_number)

-- what is entered is the word with the displaced bit, and the block with the turn
pub entry-same : (log : List ℕ) (slot turn k word : ℕ) (block : List ℕ)
    → group_at (put_entry log slot turn k word block) slot
    ≡ enter_in (group_at log slot) k (with_displaced word (top_bit block)) (with_top_bit block turn)
unfolding group_at put_entry put_number enter_in
entry-same log slot turn k word block = rw (part-puts, part-puts)

pub entry_other : (log : List ℕ) (other turn k word : ℕ) (block : List ℕ) (slot : ℕ) → (slot ≡ other → ⊥) → k < 7 → length block ≡ 64
    → group_at (put_entry log other turn k word block) slot ≡ group_at log slot
unfolding put_entry put_number tag_offset block_offset
entry_other log other turn k word block slot h l e =
    group-apart _ other (block_offset k) (with_top_bit block turn) slot h (omega (arith, length-with_top_bit block turn))
    ∙ group-apart log other (tag_offset k) (bytes 8 _) slot h (omega (arith, length-bytes 8 (with_displaced word (top_bit block))))

-- ---- inside a group

pub enter-number : (group : List ℕ) (k word : ℕ) (block : List ℕ) → group_number (enter_in group k word block) ≡ group_number group
unfolding group_number enter_in put_number tag_offset block_offset
enter-number group k word block =
    number-below 6 _ (block_offset k) block 2 (omega arith) ∙ number-below 6 group (tag_offset k) (bytes 8 word) 2 (omega arith)

pub enter-mark : (group : List ℕ) (k word : ℕ) (block : List ℕ) → part (enter_in group k word block) 0 2 ≡ part group 0 2
unfolding enter_in put_number tag_offset block_offset
enter-mark group k word block =
    part-below _ (block_offset k) block 0 2 (omega arith) ∙ part-below group (tag_offset k) (bytes 8 word) 0 2 (omega arith)

pub enter-valid : (group : List ℕ) (k word : ℕ) (block : List ℕ) (groups start n : ℕ)
    → group_valid (enter_in group k word block) groups start n ≡ group_valid group groups start n
unfolding group_valid
enter-valid group k word block groups start n = rw (enter-mark, enter-number)

pub enter-tag-same : (group : List ℕ) (k word : ℕ) (block : List ℕ) → length group ≡ 512 → k < 7 → word < 256 ^ 8
    → group_tag (enter_in group k word block) k ≡ word
unfolding group_tag enter_in tag_offset block_offset
enter-tag-same group k word block l h w =
    number-below 8 (put_number 8 group (tag_offset k) word) (block_offset k) block (tag_offset k) (omega arith)
    ∙ number_same 8 group (tag_offset k) word (omega arith) w

pub enter-tag-other : (group : List ℕ) (k word : ℕ) (block : List ℕ) (j : ℕ) → j < 7 → (j ≡ k → ⊥)
    → group_tag (enter_in group k word block) j ≡ group_tag group j
unfolding group_tag enter_in put_number tag_offset block_offset
enter-tag-other group k word block j h n =
    number-below 8 _ (block_offset k) block (tag_offset j) (omega arith)
    ∙ number-apart 8 group (tag_offset k) (bytes 8 word) (tag_offset j) (omega (arith, length-bytes 8 word))

pub enter-block-same : (group : List ℕ) (k word : ℕ) (block : List ℕ) → length group ≡ 512 → k < 7 → length block ≡ 64
    → group_block (enter_in group k word block) k ≡ block
unfolding group_block enter_in block_offset
enter-block-same group k word block l h e =
    part-written (put_number 8 group (tag_offset k) word) (block_offset k) block 64 e (rw length-put_number (omega arith))

pub enter-block-other : (group : List ℕ) (k word : ℕ) (block : List ℕ) (j : ℕ) → k < 7 → length block ≡ 64 → (j ≡ k → ⊥)
    → group_block (enter_in group k word block) j ≡ group_block group j
unfolding group_block enter_in put_number tag_offset block_offset
enter-block-other group k word block j h e n =
    part_apart _ (block_offset k) block (block_offset j) 64 (omega arith)
    ∙ part-above group (tag_offset k) (bytes 8 word) (block_offset j) 64 (omega (arith, length-bytes 8 word))

-- the block that an entry gives
pub length-block_of : (group : List ℕ) (k : ℕ) → length group ≡ 512 → k < 7 → length (block_of group k) ≡ 64
unfolding block_of group_block block_offset
length-block_of group k l h = length-with_top_bit _ (displaced (group_tag group k)) ∙ length_part group (64 + 64 * k) 64 (omega arith)

-- an entry's block with the displaced bit back: what was entered
pub enter-back : (group : List ℕ) (k word : ℕ) (block : List ℕ) (turn : ℕ) → length group ≡ 512 → k < 7 → length block ≡ 64 → turn < 2 → word < 2 ^ 57
    → block_of (enter_in group k (with_displaced word (top_bit block)) (with_top_bit block turn)) k ≡ block
unfolding block_of
enter-back group k word block turn l h e t w =
    let f : with_displaced word (top_bit block) < 2 ^ 64 = displaced-fits word (top_bit block) w (top_bit-lt block) in
    rw (
      enter-block-same group k (with_displaced word (top_bit block)) (with_top_bit block turn) l h (length-with_top_bit block turn ∙ e),
      enter-tag-same group k (with_displaced word (top_bit block)) (with_top_bit block turn) l h (omega arith),
      displaced-back word (top_bit block) w (top_bit-lt block),
    )
    (turn-back block turn e t)

-- ---- blank groups, and what a valid one says

-- a data block of zeros but for a turn bit
unfoldable pub turn_block : ℕ → List ℕ
turn_block turn = zeros 63 ++ ((2 ^ 7 * turn) ∷ [])

length-turn_block : (turn : ℕ) → length (turn_block turn) ≡ 64
unfolding turn_block
length-turn_block turn = simp (length-append, length-zeros)

turn_block-turn : (turn : ℕ) → turn < 2 → top_bit (turn_block turn) ≡ turn
unfolding turn_block top_bit field
turn_block-turn turn h = rw (number-after 1 (zeros 63) ((2 ^ 7 * turn) ∷ []) 63 0 (length-zeros 63), byte-number) (omega arith)

turn_blocks-more : (k turn : ℕ) → turn_blocks (suc k) turn ≡ turn_block turn ++ turn_blocks k turn
unfolding turn_blocks turn_block
turn_blocks-more k turn = sym (append_assoc (zeros 63) ((2 ^ 7 * turn) ∷ []) (turn_blocks k turn))

pub part-turn_blocks : (m turn k : ℕ) → k < m → part (turn_blocks m turn) (64 * k) 64 ≡ turn_block turn
part-turn_blocks zero turn k h = absurd (omega arith)
part-turn_blocks (suc m) turn zero h = rw turn_blocks-more (part-front (turn_block turn) (turn_blocks m turn) 64 (length-turn_block turn))
part-turn_blocks (suc m) turn (suc k) h =
    let e : 64 * suc k ≡ 64 + 64 * k = omega arith in
    rw (turn_blocks-more, e) (part-after (turn_block turn) (turn_blocks m turn) 64 (64 * k) 64 (length-turn_block turn) ∙ part-turn_blocks m turn k (omega arith))

-- the turn of data block k of a group that ends in seven such blocks
pub turn_blocks-turn : (front : List ℕ) (turn k : ℕ) → length front ≡ 64 → turn < 2 → k < 7
    → top_bit (group_block (front ++ turn_blocks 7 turn) k) ≡ turn
unfolding group_block block_offset
turn_blocks-turn front turn k l h i = rw (part-after front (turn_blocks 7 turn) 64 (64 * k) 64 l, part-turn_blocks) (turn_block-turn turn h)

-- a blank group's metadata, and its data blocks
blank-front : ℕ → List ℕ
blank-front n = group_mark ++ (bytes 6 n ++ zeros 56)

blank-parts : (groups n : ℕ) → blank_group groups n ≡ blank-front n ++ turn_blocks 7 (turn_of groups n)
unfolding blank_group blank-front
blank-parts groups n = simp append_assoc

length-blank-front : (n : ℕ) → length (blank-front n) ≡ 64
unfolding blank-front
length-blank-front n = simp (length-append, length-bytes, length-zeros)

pub blank_turn : (groups n k : ℕ) → k < 7 → top_bit (group_block (blank_group groups n) k) ≡ turn_of groups n
blank_turn groups n k h = rw blank-parts (turn_blocks-turn (blank-front n) (turn_of groups n) k (length-blank-front n) (turn_of-lt groups n) h)

pub blank-number : (groups n : ℕ) → n < 256 ^ 6 → group_number (blank_group groups n) ≡ n
unfolding group_number blank_group
blank-number groups n h = number-after 6 group_mark _ 2 0 refl ∙ number-front 6 n _ h

pub blank-tag : (groups n k : ℕ) → k < 7 → group_tag (blank_group groups n) k ≡ 0
unfolding group_tag blank_group tag_offset
blank-tag groups n k h =
    let e : 8 + 8 * k ≡ 2 + (6 + 8 * k) = omega arith in
    rw e
    (number-after 8 group_mark _ 2 (6 + 8 * k) refl ∙ number-after 8 (bytes 6 n) _ 6 (8 * k) (length-bytes 6 n)
    ∙ number-zeros-front 8 56 (turn_blocks 7 (turn_of groups n)) (8 * k) (omega arith))

pub blank-mark : (groups n : ℕ) → part (blank_group groups n) 0 2 ≡ group_mark
unfolding blank_group
blank-mark groups n = part-front group_mark _ 2 refl

pub blank-valid : (G n groups start : ℕ) → n < 256 ^ 6 → group_valid (blank_group G n) groups start n ≡ (leb start n && ltb n (start + groups))
unfolding group_valid
blank-valid G n groups start h = rw (blank-mark, blank-number, same_refl group_mark, eq-eqb n n refl)

pub valid-number : (group : List ℕ) (groups start n : ℕ) → group_valid group groups start n ≡ true
    → (group_number group ≡ n) × (start ≤ n) × (n < start + groups)
unfolding group_valid
valid-number group groups start n h =
    let p = three (same (part group 0 2) group_mark && eqb (group_number group) n) (leb start n) (ltb n (start + groups)) h in
    let q = (and-eq-true_iff (same (part group 0 2) group_mark) (eqb (group_number group) n)).0 p.0 in
    (eqb-true (group_number group) n q.1, leb-true start n p.1, ltb-true n (start + groups) p.2)

-- a ring slot has one number in the range
pub ring : (start groups n m : ℕ) → start ≤ n → n < start + groups → start ≤ m → m < start + groups → n % groups ≡ m % groups → n ≡ m
ring start groups n m a b c d e =
    let p : n / groups < m / groups → ⊥ = less n m a d e in
    let q : m / groups < n / groups → ⊥ = less m n c b (sym e) in
    let r : n / groups ≡ m / groups = omega arith in
    let s : groups * (n / groups) ≡ groups * (m / groups) = rw r in
    omega (arith, div-add-mod n groups, div-add-mod m groups)
  where
    less : (x y : ℕ) → start ≤ x → y < start + groups → x % groups ≡ y % groups → x / groups < y / groups → ⊥
    less x y f g r l =
        omega (arith, div-add-mod x groups, div-add-mod y groups, mul-le-mul_left groups l, mul-suc groups (x / groups))

-- ---- positions

pub position-group : (n k : ℕ) → k < 7 → (7 * n + k) / 7 ≡ n
position-group n k h = omega arith

pub position-rest : (n k : ℕ) → k < 7 → (7 * n + k) % 7 ≡ k
position-rest n k h = omega arith

pub position-slot : (groups n k : ℕ) → k < 7 → slot_of groups (7 * n + k) ≡ n % groups
unfolding slot_of
position-slot groups n k h = rw position-group

pub position-index : (n k : ℕ) → k < 7 → index_of (7 * n + k) ≡ k
unfolding index_of
position-index n k h = position-rest n k h

pub position-split : (p : ℕ) → p ≡ 7 * (p / 7) + p % 7
position-split p = omega arith

-- ---- homes

pub home_same : (area : List ℕ) (h : ℕ) (b : List ℕ) → length b ≡ 64 → 64 * h + 64 ≤ length area → home_at (put_home area h b) h ≡ b
unfolding home_at put_home
home_same area h b e l = part-written area (64 * h) b 64 e l

pub home-other : (area : List ℕ) (j : ℕ) (b : List ℕ) (h : ℕ) → (h ≡ j → ⊥) → length b ≤ 64 → home_at (put_home area j b) h ≡ home_at area h
unfolding home_at put_home
home-other area j b h n l = part_apart area (64 * j) b (64 * h) 64 (omega arith)

get_d-home : (a : List ℕ) (i : ℕ) → get_or (home_at a (i / 64)) (i % 64) 0 ≡ get_or a i 0
unfolding home_at part
get_d-home a i =
    let h : i % 64 < 64 = omega arith in
    let e : 64 * (i / 64) + i % 64 ≡ i = omega arith in
    rw (get_or-take, get_or-drop, e)

-- areas are equal by their homes
pub area-ext : (a b : List ℕ) (n : ℕ) → length a ≡ 64 * n → length b ≡ 64 * n → ((h : ℕ) → h < n → home_at a h ≡ home_at b h) → a ≡ b
area-ext a b n p q f =
    ext_get_or 0 a b (omega arith) (λ i l. sym (get_d-home a i) ∙ ap (λ (x : List ℕ). get_or x (i % 64) 0) (f (i / 64) (omega arith)) ∙ get_d-home b i)

-- ---- lengths of the areas

pub log-length : (n : ℕ) → log_length_right n ≡ true → (n ≡ 64 + 512 * group_count n) × (4 ≤ group_count n) × (group_count n ≤ 1024)
unfolding log_length_right
log-length n h =
    let p = three (eqb n (64 + 512 * group_count n)) (leb 4 (group_count n)) (leb (group_count n) 1024) h in
    (eqb-true n _ p.0, leb-true 4 _ p.1, leb-true _ 1024 p.2)

pub data-length : (n : ℕ) → data_length_right n ≡ true → (n ≡ 64 * home_count n) × (1 ≤ home_count n) × (home_count n ≤ 65535)
unfolding data_length_right
data-length n h =
    let p = three (eqb n (64 * home_count n)) (leb 1 (home_count n)) (leb (home_count n) 65535) h in
    (eqb-true n _ p.0, leb-true 1 _ p.1, leb-true _ 65535 p.2)

pub groups-in : (g : ℕ) → group_count (64 + 512 * g) ≡ g
unfolding group_count
groups-in g = omega arith

pub homes_in : (d : ℕ) → home_count (64 * d) ≡ d
unfolding home_count
homes_in d = omega arith

pub log-length-right : (g : ℕ) → 4 ≤ g → g ≤ 1024 → (group_count (64 + 512 * g) ≡ g) × (log_length_right (64 + 512 * g) ≡ true)
unfolding log_length_right
log-length-right g h l = (groups-in g, rw (groups-in, eq-eqb (64 + 512 * g) (64 + 512 * g) refl, le-leb 4 g h, le-leb g 1024 l))

pub data-length-right : (d : ℕ) → 1 ≤ d → d ≤ 65535 → (home_count (64 * d) ≡ d) × (data_length_right (64 * d) ≡ true)
unfolding data_length_right
data-length-right d h l = (homes_in d, rw (homes_in, eq-eqb (64 * d) (64 * d) refl, le-leb 1 d h, le-leb d 65535 l))
