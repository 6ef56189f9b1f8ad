-- What logging an event does to the log copy, and what the log then says at each position. Assumes nothing.
use Prim.Native.Nat.{ℕ, suc, ◌+◌, ◌-◌, ◌*◌, ◌%◌, ◌^◌, ◌≤◌, ◌<◌}
use mathlib.Core.Path.{◌≡◌, refl, sym, ◌∙◌}
use mathlib.Core.Logic.{inl, inr}
use mathlib.Core.Bool.{Bool, true, false, cond, false≢true}
use mathlib.Core.List.{List, [], ◌∷◌}
use native.Mathlib.Nat.{mod-lt}
use native.Mathlib.Omega.{arith}
use lib.Dec.{eqb, leb}
use lib.ListN.{length}
use borrow.Author.Tests.{eq-eqb, ne_eqb, eqb-true, eqb-false, leb-true, leb-false, le-leb, lt-leb, lt-ltb}
use Rattle.model.specs.Tag.{entry_word, closing_word, with_displaced, displaced, says, read_fields, read_tag, present}
use Rattle.model.specs.Layout.{group_mark, group_at, group_tag, group_block, group_valid, turn_of, top_bit, with_top_bit, blank_group, put_blank, word_there, entry_within, entry_at, block_of, block_at}
use Rattle.model.specs.declared.State.{State}
use Rattle.model.specs.Effects.{entered}
use Rattle.model.specs.declared.Tag.{Tag}
use Rattle.model.specs.declared.Tag.TheVariants.{Nothing, Entry, Closing}
use Rattle.model_laws.proofs.bytes.ByteLaws.{same_refl}
use Rattle.model_laws.proofs.bytes.TagLaws.{read_word, entry-fits, closing-fits, displaced-fits, displaced-back, read-displaced, read-entry, read-closing, read-zero}
use Rattle.model_laws.proofs.bytes.TurnLaws.{top_bit-lt, length-with_top_bit, top_bit-with, turn-back, turn_of-lt}
use Rattle.model_laws.proofs.bytes.LayoutLaws.{group-fits, blank-same, blank-other, enter_in, length-enter_in, entry-same, entry_other, enter-number, enter-mark, enter-tag-same, enter-tag-other, enter-block-same, enter-block-other, length-blank_group, blank-number, blank-tag, blank_turn, blank-mark, ring, position-group, position-slot, position-index}
use Rattle.model_laws.proofs.trace.Trace.{Ev, mine, hist, first_of, tag_of, tag_at, block_on, first_in}
use Rattle.model_laws.proofs.trace.TraceLaws.{Falling, first_of-inside, mine-holds, open-falling, block_on-older, block_on-here}
use Rattle.theorems.proofs.invariant.Invariant.{Sizes, plain_of, word_of, word_at, used_at, SoundAt, Sound, Holds, HoldsAt, NotAt}
use Rattle.theorems.proofs.invariant.GrowLaws.{word-other, used-other, word-used, used-inside, word-beyond, used-beyond, holds-older}

-- ---- the word of an event

pub plain_of-fits : (D p : ℕ) (e : Ev) (ps : List ℕ) (f : Bool) → D ≤ 65535 → SoundAt D p e ps → plain_of p e ps f < 2 ^ 57
unfolding plain_of
plain_of-fits D p e ps true d s =
    closing-fits e.home (p - first_of p ps) e.link (suc (length ps)) (omega arith) s.back s.link s.count
plain_of-fits D p e ps false d s = entry-fits e.home (p - first_of p ps) (omega arith) s.back

-- ---- one event more in a group

pub holds-blank : (G base : ℕ) (tr : List Ev) (n : ℕ) → n < 256 ^ 6 → base + length tr ≤ 7 * n → Holds G base tr (blank_group G n) n
holds-blank G base tr n l h =
    record {
      size = length-blank_group G n;
      mark = rw blank-mark (same_refl group_mark);
      number = blank-number G n l;
      words = λ k i. blank-tag G n k i ∙ sym (word-beyond base tr (7 * n + k) (omega arith));
      turns = λ k i. blank_turn G n k i;
      blocks = λ k i u. absurd (false≢true (sym (used-beyond base tr (7 * n + k) (omega arith)) ∙ u));
    }

module _ (G base : ℕ) (e : Ev) (tr : List Ev) (group : List ℕ) (n k word : ℕ) (i : k < 7) (here : 7 * n + k ≡ base + length tr)
    (named : word_at base (e ∷ tr) (base + length tr) ≡ word) (fits : word < 256 ^ 8) (block : length e.block ≡ 64) (h : Holds G base tr group n) where
  -- the group with the event's word, and its block with the group's turn
  abbrev entry : List ℕ
  entry = enter_in group k word (with_top_bit e.block (turn_of G n))

  turned-size : length (with_top_bit e.block (turn_of G n)) ≡ 64
  turned-size = length-with_top_bit e.block (turn_of G n) ∙ block

  enter-words : (j : ℕ) → j < 7 → group_tag entry j ≡ word_at base (e ∷ tr) (7 * n + j)
  enter-words j l = go (eqb j k) refl
    where
      go : (t : Bool) → eqb j k ≡ t → group_tag entry j ≡ word_at base (e ∷ tr) (7 * n + j)
      go true q = rw (eqb-true j k q, here, named) (enter-tag-same group k word (with_top_bit e.block (turn_of G n)) h.size i fits)
      go false q =
          enter-tag-other group k word (with_top_bit e.block (turn_of G n)) j l (eqb-false j k q) ∙ h.words j l
          ∙ sym (word-other base e tr (7 * n + j) (λ z. eqb-false j k q (omega arith)))

  enter-turns : (j : ℕ) → j < 7 → top_bit (group_block entry j) ≡ turn_of G n
  enter-turns j l = go (eqb j k) refl
    where
      go : (t : Bool) → eqb j k ≡ t → top_bit (group_block entry j) ≡ turn_of G n
      go true q =
          rw (eqb-true j k q, enter-block-same group k word (with_top_bit e.block (turn_of G n)) h.size i turned-size)
          (top_bit-with e.block (turn_of G n) block (turn_of-lt G n))
      go false q =
          rw (enter-block-other group k word (with_top_bit e.block (turn_of G n)) j i turned-size (eqb-false j k q)) (h.turns j l)

  enter-blocks : (j : ℕ) → j < 7 → used_at base (e ∷ tr) (7 * n + j) ≡ true
      → group_block entry j ≡ with_top_bit (block_on base (e ∷ tr) (7 * n + j)) (turn_of G n)
  enter-blocks j l u = go (eqb j k) refl
    where
      go : (t : Bool) → eqb j k ≡ t → group_block entry j ≡ with_top_bit (block_on base (e ∷ tr) (7 * n + j)) (turn_of G n)
      go true q =
          rw (eqb-true j k q, here, block_on-here base e tr)
          (enter-block-same group k word (with_top_bit e.block (turn_of G n)) h.size i turned-size)
      go false q =
          let v : used_at base tr (7 * n + j) ≡ true = sym (used-other base e tr (7 * n + j) (λ z. eqb-false j k q (omega arith))) ∙ u in
          rw (block_on-older base e tr (7 * n + j) (used-inside base tr (7 * n + j) v).1)
          (enter-block-other group k word (with_top_bit e.block (turn_of G n)) j i turned-size (eqb-false j k q) ∙ h.blocks j l v)

  pub holds-enter : Holds G base (e ∷ tr) entry n
  holds-enter =
      record {
        size = length-enter_in group k word (with_top_bit e.block (turn_of G n)) ∙ h.size;
        mark = rw enter-mark h.mark;
        number = enter-number group k word (with_top_bit e.block (turn_of G n)) ∙ h.number;
        words = enter-words;
        turns = enter-turns;
        blocks = enter-blocks;
      }

-- ---- the log copy with one event more

pub entered-other : (st : State) (other : ℕ) (log : List ℕ) (word : ℕ) (block : List ℕ) (slot : ℕ) → (slot ≡ other → ⊥) → st.filled ≤ 6 → length block ≡ 64
    → group_at (entered st other log word block) slot ≡ group_at log slot
unfolding entered
entered-other st other log word block slot h f l = entry_other _ other _ st.filled word block slot h (omega arith) l ∙ go (eqb st.filled 0)
  where
    go : (t : Bool) → group_at (cond t (put_blank log st.groups other st.next) log) slot ≡ group_at log slot
    go true = blank-other log st.groups other st.next slot h
    go false = refl

module _ (G D b : ℕ) (e : Ev) (tr : List Ev) (st : State) (log : List ℕ) where
  pub log-groups : Sizes G D → length log ≡ 64 + 512 * G → st.groups ≡ G → st.start ≤ 2 ^ 47 → st.start ≤ st.next → st.next < st.start + G → st.filled ≤ 6
      → 7 * st.next + st.filled ≡ 7 * b + length tr → e.used ≡ true → SoundAt D (7 * b + length tr) e (mine (hist (7 * b) tr) e)
      → ((n : ℕ) → st.start ≤ n → 7 * n < 7 * b + length tr → Holds G (7 * b) tr (group_at log (n % G)) n)
      → (n : ℕ) → st.start ≤ n → 7 * n < 7 * b + length (e ∷ tr)
      → Holds G (7 * b) (e ∷ tr)
      (group_at (entered st (st.next % G) log (plain_of (7 * b + length tr) e (mine (hist (7 * b) tr) e) e.final) e.block) (n % G)) n
  unfolding entered word_of
  log-groups sizes size ring-size most low high few at used sound groups n from below = go (eqb n st.next) refl
    where
      plain : ℕ
      plain = plain_of (7 * b + length tr) e (mine (hist (7 * b) tr) e) e.final

      fits : with_displaced plain (top_bit e.block) < 2 ^ 64
      fits =
          displaced-fits plain (top_bit e.block) (plain_of-fits D (7 * b + length tr) e (mine (hist (7 * b) tr) e) e.final sizes.homes sound)
          (top_bit-lt e.block)

      -- the group that is filled, before the entry
      ready : (t : Bool) → eqb st.filled 0 ≡ t
          → Holds G (7 * b) tr (group_at (cond t (put_blank log G (st.next % G) st.next) log) (st.next % G)) st.next
      ready true q =
          let z : st.filled ≡ 0 = eqb-true st.filled 0 q in
          let s : st.next % G < G = mod-lt st.next (omega arith) in
          rw (blank-same log G (st.next % G) st.next (group-fits (st.next % G) log G s size))
          (holds-blank G (7 * b) tr st.next (omega arith) (omega arith))
      ready false q = let z : st.filled ≡ 0 → ⊥ = eqb-false st.filled 0 q in groups st.next low (omega arith)

      go : (t : Bool) → eqb n st.next ≡ t → Holds G (7 * b) (e ∷ tr) (group_at (entered st (st.next % G) log plain e.block) (n % G)) n
      go true q =
          rw (eqb-true n st.next q, ring-size, entry-same)
          (holds-enter G (7 * b) e tr _ st.next st.filled (with_displaced plain (top_bit e.block)) (omega arith) at (word-used (7 * b) e tr used)
          (omega (arith, fits)) sound.block (ready (eqb st.filled 0) refl))
      go false q =
          let d : n ≡ st.next → ⊥ = eqb-false n st.next q in
          let apart : n % G ≡ st.next % G → ⊥ = λ z. d (ring st.start G n st.next from (omega arith) low high z) in
          rw (entered-other st (st.next % G) log plain e.block (n % G) apart few sound.block)
          (holds-older G (7 * b) e tr (group_at log (n % G)) n (omega arith) (groups n from (omega arith)))

-- ---- reading a logged word back

pub used-present : (base : ℕ) (tr : List Ev) (p : ℕ) → used_at base tr p ≡ present (tag_at base tr p)
unfolding used_at tag_at present tag_of
used-present base [] p = refl
used-present base (e ∷ tr) p = go (eqb p (base + length tr)) (used-present base tr p)
  where
    present-of : (u f : Bool) → u ≡ present (tag_of (base + length tr) e (mine (hist base tr) e) u f)
    present-of false f = refl
    present-of true true = refl
    present-of true false = refl

    go : (t : Bool) → used_at base tr p ≡ present (tag_at base tr p)
        → cond t e.used (used_at base tr p)
        ≡ present (cond t (tag_of (base + length tr) e (mine (hist base tr) e) e.used e.final) (tag_at base tr p))
    go true ih = present-of e.used e.final
    go false ih = ih

says_nothing : (t : Bool) → says t Nothing ≡ Nothing
unfolding says
says_nothing true = refl
says_nothing false = refl

-- a word whose first entry lies before the start
early-entry : (home back position base homes : ℕ) → home < 2 ^ 16 → back < 2 ^ 13 → position < base + back
    → read_tag (entry_word home back) position base homes ≡ Nothing
unfolding entry_word read_fields says
early-entry home back position base homes hh hb hp =
    read_word 0 home back 0 0 (omega arith) hh hb (omega arith) (omega arith) position base homes
    ∙ rw (lt-leb (base + back) position hp) (says_nothing (leb (home + 1) homes))

early-closing : (home back link count position base homes : ℕ) → home < 2 ^ 16 → back < 2 ^ 13 → link < 2 ^ 13 → count < 2 ^ 13
    → position < base + back → read_tag (closing_word home back link count) position base homes ≡ Nothing
unfolding closing_word read_fields says
early-closing home back link count position base homes hh hb hl hn hp =
    read_word 1 home back link count (omega arith) hh hb hl hn position base homes
    ∙ rw (lt-leb (base + back) position hp) (says_nothing (leb (home + 1) homes))

plain-read : (D p c : ℕ) (e : Ev) (ps : List ℕ) (f : Bool) → D ≤ 65535 → SoundAt D p e ps → first_of p ps ≤ p
    → read_tag (plain_of p e ps f) p c D ≡ says (leb c (first_in (tag_of p e ps true f))) (tag_of p e ps true f)
unfolding plain_of tag_of first_in says
plain-read D p c e ps true d a l = go (leb c (first_of p ps)) refl
  where
    go : (t : Bool) → leb c (first_of p ps) ≡ t
        → read_tag (closing_word e.home (p - first_of p ps) e.link (suc (length ps))) p c D
        ≡ says t (Closing e.home (first_of p ps) e.link (suc (length ps)))
    go true q =
        let z : p - (p - first_of p ps) ≡ first_of p ps = omega arith in
        let i : c ≤ first_of p ps = leb-true c (first_of p ps) q in
        rw z at
        (read-closing e.home (p - first_of p ps) e.link (suc (length ps)) p c D (omega arith) a.back a.link a.count (omega arith)
        a.home (omega arith))
    go false q =
        let i : first_of p ps < c = leb-false c (first_of p ps) q in
        early-closing e.home (p - first_of p ps) e.link (suc (length ps)) p c D (omega arith) a.back a.link a.count (omega arith)
plain-read D p c e ps false d a l = go (leb c (first_of p ps)) refl
  where
    go : (t : Bool) → leb c (first_of p ps) ≡ t → read_tag (entry_word e.home (p - first_of p ps)) p c D ≡ says t (Entry e.home (first_of p ps))
    go true q =
        let z : p - (p - first_of p ps) ≡ first_of p ps = omega arith in
        let i : c ≤ first_of p ps = leb-true c (first_of p ps) q in
        rw z at (read-entry e.home (p - first_of p ps) p c D (omega arith) a.back a.home (omega arith))
    go false q =
        let i : first_of p ps < c = leb-false c (first_of p ps) q in
        early-entry e.home (p - first_of p ps) p c D (omega arith) a.back (omega arith)

-- the displaced bit changes nothing of what a word reads as
read_of : (D p c : ℕ) (e : Ev) (ps : List ℕ) (u f : Bool) → D ≤ 65535 → (u ≡ true → SoundAt D p e ps) → first_of p ps ≤ p
    → read_tag (word_of p e ps u f) p c D ≡ says (leb c (first_in (tag_of p e ps u f))) (tag_of p e ps u f)
unfolding word_of
read_of D p c e ps false f d s l = unfold tag_of first_in in (read-zero p c D ∙ sym (says_nothing (leb c 0)))
read_of D p c e ps true f d s l =
    read-displaced (plain_of p e ps f) (top_bit e.block) (plain_of-fits D p e ps f d (s refl)) (top_bit-lt e.block) p c D
    ∙ plain-read D p c e ps f d (s refl) l

-- at a log that starts at position c
pub tag_read : (base D : ℕ) (tr : List Ev) (p c : ℕ) → D ≤ 65535 → Sound base D tr
    → read_tag (word_at base tr p) p c D ≡ says (leb c (first_in (tag_at base tr p))) (tag_at base tr p)
unfolding word_at tag_at first_in
tag_read base D [] p c d s = read-zero p c D ∙ sym (says_nothing (leb c 0))
tag_read base D (e ∷ tr) p c d s = go (eqb p (base + length tr)) refl (tag_read base D tr p c d s.1)
  where
    word : ℕ
    word = word_of (base + length tr) e (mine (hist base tr) e) e.used e.final

    tag : Tag
    tag = tag_of (base + length tr) e (mine (hist base tr) e) e.used e.final

    first : first_of (base + length tr) (mine (hist base tr) e) ≤ base + length tr
    first =
        (first_of-inside base (suc (base + length tr)) (base + length tr) (mine (hist base tr) e)
        (omega arith, omega arith, mine-holds (Falling base (base + length tr)) (hist base tr) e tt (open-falling base tr e.writer))).1

    go : (t : Bool) → eqb p (base + length tr) ≡ t
        → read_tag (word_at base tr p) p c D ≡ says (leb c (first_in (tag_at base tr p))) (tag_at base tr p)
        → read_tag (cond t word (word_at base tr p)) p c D ≡ says (leb c (first_in (cond t tag (tag_at base tr p)))) (cond t tag (tag_at base tr p))
    go true q ih = rw (eqb-true p (base + length tr) q) (read_of D (base + length tr) c e (mine (hist base tr) e) e.used e.final d s.0 first)
    go false q ih = ih

-- the displaced bit of a word, and the size of its block
block_size : (base D : ℕ) (tr : List Ev) (p : ℕ) → Sound base D tr → used_at base tr p ≡ true → length (block_on base tr p) ≡ 64
unfolding used_at block_on
block_size base D [] p s u = absurd (false≢true u)
block_size base D (e ∷ tr) p s u = go (eqb p (base + length tr)) u (block_size base D tr p s.1)
  where
    go : (t : Bool) → cond t e.used (used_at base tr p) ≡ true → (used_at base tr p ≡ true → length (block_on base tr p) ≡ 64)
        → length (cond t e.block (block_on base tr p)) ≡ 64
    go true v ih = (s.0 v).block
    go false v ih = ih v

displaced-at : (base D : ℕ) (tr : List Ev) (p : ℕ) → D ≤ 65535 → Sound base D tr → used_at base tr p ≡ true
    → displaced (word_at base tr p) ≡ top_bit (block_on base tr p)
unfolding used_at block_on word_at word_of
displaced-at base D [] p d s u = absurd (false≢true u)
displaced-at base D (e ∷ tr) p d s u = go (eqb p (base + length tr)) u (displaced-at base D tr p d s.1)
  where
    q : ℕ
    q = base + length tr

    ps : List ℕ
    ps = mine (hist base tr) e

    here : (t : Bool) → e.used ≡ t → t ≡ true → displaced (word_of q e ps t e.final) ≡ top_bit e.block
    here true v w = displaced-back (plain_of q e ps e.final) (top_bit e.block) (plain_of-fits D q e ps e.final d (s.0 v)) (top_bit-lt e.block)
    here false v w = absurd (false≢true w)

    go : (t : Bool) → cond t e.used (used_at base tr p) ≡ true → (used_at base tr p ≡ true → displaced (word_at base tr p) ≡ top_bit (block_on base tr p))
        → displaced (cond t (word_of q e ps e.used e.final) (word_at base tr p)) ≡ top_bit (cond t e.block (block_on base tr p))
    go true v ih = here e.used refl v
    go false v ih = ih v

-- ---- what a log says at a position of a group that it holds

module _ (log : List ℕ) (G D s n k : ℕ) where
  entry_in : k < 7 → entry_at log G D s (7 * n + k)
      ≡ cond (group_valid (group_at log (n % G)) G s n) (read_tag (word_there (group_at log (n % G)) (turn_of G n) k) (7 * n + k) (7 * s) D) Nothing
  unfolding entry_at entry_within
  entry_in i = rw (position-slot G n k i, position-group n k i, position-index n k i)

  pub entry-of-holds : (b : ℕ) (tr : List Ev) → D ≤ 65535 → Sound (7 * b) D tr → s ≤ n → n < s + G → k < 7
      → HoldsAt G (7 * b) tr (group_at log (n % G)) n k
      → entry_at log G D s (7 * n + k) ≡ says (leb (7 * s) (first_in (tag_at (7 * b) tr (7 * n + k)))) (tag_at (7 * b) tr (7 * n + k))
  unfolding group_valid word_there
  entry-of-holds b tr d sound low high i h =
      entry_in i
      ∙ rw (h.mark, h.number, eq-eqb n n refl, le-leb s n low, lt-ltb n (s + G) high, h.turn, eq-eqb (turn_of G n) (turn_of G n) refl, h.word)
      (tag_read (7 * b) D tr (7 * n + k) (7 * s) d sound)

  pub entry-of-absent : k < 7 → NotAt G (group_at log (n % G)) n k → entry_at log G D s (7 * n + k) ≡ Nothing
  unfolding group_valid word_there
  entry-of-absent i (inl h) = entry_in i ∙ rw h
  entry-of-absent i (inr h) =
      entry_in i ∙ rw (ne_eqb (top_bit (group_block (group_at log (n % G)) k)) (turn_of G n) h, read-zero (7 * n + k) (7 * s) D) (both (group_valid (group_at log (n % G)) G s n))
    where
      both : (t : Bool) → cond t Nothing Nothing ≡ Nothing
      both true = refl
      both false = refl

-- the displaced bit is back in the block that an entry gives
pub block-of-holds : (log : List ℕ) (G D n k b : ℕ) (tr : List Ev) → D ≤ 65535 → Sound (7 * b) D tr → k < 7 → used_at (7 * b) tr (7 * n + k) ≡ true
    → HoldsAt G (7 * b) tr (group_at log (n % G)) n k → block_at log G (7 * n + k) ≡ block_on (7 * b) tr (7 * n + k)
unfolding block_at block_of
block-of-holds log G D n k b tr d sound i u h =
    rw (position-slot G n k i, position-index n k i, h.block u, h.word, displaced-at (7 * b) D tr (7 * n + k) d sound u)
    (turn-back (block_on (7 * b) tr (7 * n + k)) (turn_of G n) (block_size (7 * b) D tr (7 * n + k) sound u) (turn_of-lt G n))
