-- Laws of the eleven numbers of the state strip but the writers' (specs/State). Those of set_start are length-set_start, state-set_start, writer-set_start,
-- held-set_start and spare-set_start, and so for the others; length-laws, state-laws and so on are sets of them for simp. Assumes nothing.
use mathlib.Core.Path.{◌≡◌, sym, ◌∙◌}
use mathlib.Core.Logic.{◌⊎◌, inl, inr}
use mathlib.Core.List.{List}
use Prim.Native.Nat.{ℕ, ◌+◌, ◌-◌, ◌^◌, ◌≤◌, ◌<◌}
use native.Mathlib.Omega.{arith}
use borrow.Author.Tests.{leb-true}
use lib.ListN.{length, get_or}
use Rattle.model.specs.Bytes.{part, number, put_number}
use Rattle.model.specs.declared.State.{State}
use Rattle.model.specs.State.{state_of, set_groups, set_homes, set_start, set_next, set_filled, set_settled, set_fenced, set_durable, set_last, set_round, set_cursor, mode_offset, writer_offset, writer_of, held_offset, held_of}
use Rattle.model_laws.proofs.bytes.ByteLaws.{length-put_number, number_same, number-put-below, number-put-above, number-same-part, number-part, number_more, number-none, number_lt, part-put-above}

-- ---- a number of eight bytes, written and read

-- read eight bytes away or more
pub number-put-apart : (s : List ℕ) (o v i : ℕ) → (i + 8 ≤ o) ⊎ (o + 8 ≤ i) → number 8 (put_number 8 s o v) i ≡ number 8 s i
number-put-apart s o v i (inl h) = number-put-below 8 8 s o v i h
number-put-apart s o v i (inr h) = number-put-above 8 8 s o v i h

-- read back; 2 ^ 64 is 256 ^ 8
pub number-back : (s : List ℕ) (o v : ℕ) → length s ≡ 1024 → o + 8 ≤ 1024 → v < 2 ^ 64 → number 8 (put_number 8 s o v) o ≡ v
number-back s o v l h g = number_same 8 s o v (omega arith) g

-- at offsets that are numerals: leb-true compares them
ruleset at-numerals = (number-put-apart, number-back, inl, inr, leb-true)

-- ---- strips that agree in a part

number-agree : (s t : List ℕ) (at n i : ℕ) → part s at n ≡ part t at n → at ≤ i → i + 8 ≤ at + n → number 8 s i ≡ number 8 t i
number-agree s t at n i e h k =
    let q : at + (i - at) ≡ i = omega arith in
    let f : number 8 (part s at n) (i - at) ≡ number 8 (part t at n) (i - at) = rw e in
    rw q at (sym (number-part 8 s at n (i - at) (omega arith)) ∙ f ∙ number-part 8 t at n (i - at) (omega arith))

pub state-agree : (s t : List ℕ) → part s 0 72 ≡ part t 0 72 → part s 88 16 ≡ part t 88 16 → state_of s ≡ state_of t
unfolding state_of
state-agree s t e e' =
    let f : (i : ℕ) → i + 8 ≤ 72 → number 8 s i ≡ number 8 t i = λ i h. number-agree s t 0 72 i e (omega arith) (omega arith) in
    let round : number 8 s 88 ≡ number 8 t 88 = number-agree s t 88 16 88 e' (omega arith) (omega arith) in
    let cursor : number 8 s 96 ≡ number 8 t 96 = number-agree s t 88 16 96 e' (omega arith) (omega arith) in
    rw (round, cursor) (simp (f, leb-true))

pub writer-agree : (s t : List ℕ) (w : ℕ) → part s (mode_offset w) 1 ≡ part t (mode_offset w) 1 → part s (writer_offset w) 24 ≡ part t (writer_offset w) 24
    → writer_of s w ≡ writer_of t w
unfolding writer_of
writer-agree s t w m e =
    let o = writer_offset w in
    let f : (i : ℕ) → (o ≤ i) × (i + 8 ≤ o + 24) → number 8 s i ≡ number 8 t i = λ i h. number-agree s t o 24 i e h.0 h.1 in
    let g : number 1 s (mode_offset w) ≡ number 1 t (mode_offset w) = number-same-part 1 s (mode_offset w) t (mode_offset w) m in
    rw (g, f o (omega arith), f (o + 8) (omega arith), f (o + 16) (omega arith))

byte-number : (s : List ℕ) (i : ℕ) → number 1 s i ≡ get_or s i 0
byte-number s i = number_more 0 s i ∙ rw number-none (omega arith)

pub byte-agree : (s t : List ℕ) (i : ℕ) → part s i 1 ≡ part t i 1 → get_or s i 0 ≡ get_or t i 0
byte-agree s t i e = sym (byte-number s i) ∙ number-same-part 1 s i t i e ∙ byte-number t i

-- ---- a number written among them: what else the strip holds stays

-- the bytes that no field has, and those of the list's positions (ListedLaws)
abbrev pub Spare : ℕ → Type 0
Spare i = ((112 ≤ i) × (i < 128)) ⊎ (832 ≤ i)

module _ (s : List ℕ) (o v : ℕ) (h : o + 8 ≤ 104) where
  part-put : (a n : ℕ) → 104 ≤ a → part (put_number 8 s o v) a n ≡ part s a n
  part-put a n k = part-put-above 8 s o v a n (omega arith)

  writer-put : (w : ℕ) → writer_of (put_number 8 s o v) w ≡ writer_of s w
  unfolding mode_offset writer_offset
  writer-put w = writer-agree (put_number 8 s o v) s w (part-put (mode_offset w) 1 (omega arith)) (part-put (writer_offset w) 24 (omega arith))

  held-put : (w : ℕ) → held_of (put_number 8 s o v) w ≡ held_of s w
  unfolding held_of held_offset
  held-put w = part-put (held_offset w) 64 (omega arith)

  spare-put : (i : ℕ) → Spare i → get_or (put_number 8 s o v) i 0 ≡ get_or s i 0
  spare-put i (inl k) = byte-agree (put_number 8 s o v) s i (part-put i 1 (omega arith))
  spare-put i (inr k) = byte-agree (put_number 8 s o v) s i (part-put i 1 (omega arith))

-- ---- lengths

module _ (s : List ℕ) (v : ℕ) where
  pub length-set_groups : length (set_groups s v) ≡ length s
  unfolding set_groups
  length-set_groups = length-put_number 8 s 0 v

  pub length-set_homes : length (set_homes s v) ≡ length s
  unfolding set_homes
  length-set_homes = length-put_number 8 s 8 v

  pub length-set_start : length (set_start s v) ≡ length s
  unfolding set_start
  length-set_start = length-put_number 8 s 16 v

  pub length-set_next : length (set_next s v) ≡ length s
  unfolding set_next
  length-set_next = length-put_number 8 s 24 v

  pub length-set_filled : length (set_filled s v) ≡ length s
  unfolding set_filled
  length-set_filled = length-put_number 8 s 32 v

  pub length-set_settled : length (set_settled s v) ≡ length s
  unfolding set_settled
  length-set_settled = length-put_number 8 s 40 v

  pub length-set_fenced : length (set_fenced s v) ≡ length s
  unfolding set_fenced
  length-set_fenced = length-put_number 8 s 48 v

  pub length-set_durable : length (set_durable s v) ≡ length s
  unfolding set_durable
  length-set_durable = length-put_number 8 s 56 v

  pub length-set_last : length (set_last s v) ≡ length s
  unfolding set_last
  length-set_last = length-put_number 8 s 64 v

  pub length-set_round : length (set_round s v) ≡ length s
  unfolding set_round
  length-set_round = length-put_number 8 s 88 v

  pub length-set_cursor : length (set_cursor s v) ≡ length s
  unfolding set_cursor
  length-set_cursor = length-put_number 8 s 96 v

pub ruleset length-laws =
    (length-set_groups, length-set_homes, length-set_start, length-set_next, length-set_filled, length-set_settled, length-set_fenced, length-set_durable, length-set_last, length-set_round, length-set_cursor)

-- ---- the numbers read after each setter: those of the state before, one replaced

abbrev numbers : ℕ → ℕ → ℕ → ℕ → ℕ → ℕ → ℕ → ℕ → ℕ → ℕ → ℕ → State
numbers a b c d e f g h i j k =
    record { groups = a; homes = b; start = c; next = d; filled = e; settled = f; fenced = g; durable = h; last = i; round = j; cursor = k }

module _ (s : State) (v : ℕ) where
  abbrev pub with_groups : State
  with_groups = numbers v s.homes s.start s.next s.filled s.settled s.fenced s.durable s.last s.round s.cursor

  abbrev pub with_homes : State
  with_homes = numbers s.groups v s.start s.next s.filled s.settled s.fenced s.durable s.last s.round s.cursor

  abbrev pub with_start : State
  with_start = numbers s.groups s.homes v s.next s.filled s.settled s.fenced s.durable s.last s.round s.cursor

  abbrev pub with_next : State
  with_next = numbers s.groups s.homes s.start v s.filled s.settled s.fenced s.durable s.last s.round s.cursor

  abbrev pub with_filled : State
  with_filled = numbers s.groups s.homes s.start s.next v s.settled s.fenced s.durable s.last s.round s.cursor

  abbrev pub with_settled : State
  with_settled = numbers s.groups s.homes s.start s.next s.filled v s.fenced s.durable s.last s.round s.cursor

  abbrev pub with_fenced : State
  with_fenced = numbers s.groups s.homes s.start s.next s.filled s.settled v s.durable s.last s.round s.cursor

  abbrev pub with_durable : State
  with_durable = numbers s.groups s.homes s.start s.next s.filled s.settled s.fenced v s.last s.round s.cursor

  abbrev pub with_last : State
  with_last = numbers s.groups s.homes s.start s.next s.filled s.settled s.fenced s.durable v s.round s.cursor

  abbrev pub with_round : State
  with_round = numbers s.groups s.homes s.start s.next s.filled s.settled s.fenced s.durable s.last v s.cursor

  abbrev pub with_cursor : State
  with_cursor = numbers s.groups s.homes s.start s.next s.filled s.settled s.fenced s.durable s.last s.round v

module _ (s : List ℕ) (v : ℕ) (h : length s ≡ 1024) (g : v < 2 ^ 64) where
  pub state-set_groups : state_of (set_groups s v) ≡ with_groups (state_of s) v
  unfolding state_of set_groups
  state-set_groups = simp at-numerals

  pub state-set_homes : state_of (set_homes s v) ≡ with_homes (state_of s) v
  unfolding state_of set_homes
  state-set_homes = simp at-numerals

  pub state-set_start : state_of (set_start s v) ≡ with_start (state_of s) v
  unfolding state_of set_start
  state-set_start = simp at-numerals

  pub state-set_next : state_of (set_next s v) ≡ with_next (state_of s) v
  unfolding state_of set_next
  state-set_next = simp at-numerals

  pub state-set_filled : state_of (set_filled s v) ≡ with_filled (state_of s) v
  unfolding state_of set_filled
  state-set_filled = simp at-numerals

  pub state-set_settled : state_of (set_settled s v) ≡ with_settled (state_of s) v
  unfolding state_of set_settled
  state-set_settled = simp at-numerals

  pub state-set_fenced : state_of (set_fenced s v) ≡ with_fenced (state_of s) v
  unfolding state_of set_fenced
  state-set_fenced = simp at-numerals

  pub state-set_durable : state_of (set_durable s v) ≡ with_durable (state_of s) v
  unfolding state_of set_durable
  state-set_durable = simp at-numerals

  pub state-set_last : state_of (set_last s v) ≡ with_last (state_of s) v
  unfolding state_of set_last
  state-set_last = simp at-numerals

  pub state-set_round : state_of (set_round s v) ≡ with_round (state_of s) v
  unfolding state_of set_round
  state-set_round = simp at-numerals

  pub state-set_cursor : state_of (set_cursor s v) ≡ with_cursor (state_of s) v
  unfolding state_of set_cursor
  state-set_cursor = simp at-numerals

pub ruleset state-laws =
    (state-set_groups, state-set_homes, state-set_start, state-set_next, state-set_filled, state-set_settled, state-set_fenced, state-set_durable, state-set_last, state-set_round, state-set_cursor)

-- ---- writers, held blocks and spare bytes stay

module _ (s : List ℕ) (v : ℕ) where
  pub writer-set_groups : (w : ℕ) → writer_of (set_groups s v) w ≡ writer_of s w
  unfolding set_groups
  writer-set_groups = writer-put s 0 v (omega arith)

  pub writer-set_homes : (w : ℕ) → writer_of (set_homes s v) w ≡ writer_of s w
  unfolding set_homes
  writer-set_homes = writer-put s 8 v (omega arith)

  pub writer-set_start : (w : ℕ) → writer_of (set_start s v) w ≡ writer_of s w
  unfolding set_start
  writer-set_start = writer-put s 16 v (omega arith)

  pub writer-set_next : (w : ℕ) → writer_of (set_next s v) w ≡ writer_of s w
  unfolding set_next
  writer-set_next = writer-put s 24 v (omega arith)

  pub writer-set_filled : (w : ℕ) → writer_of (set_filled s v) w ≡ writer_of s w
  unfolding set_filled
  writer-set_filled = writer-put s 32 v (omega arith)

  pub writer-set_settled : (w : ℕ) → writer_of (set_settled s v) w ≡ writer_of s w
  unfolding set_settled
  writer-set_settled = writer-put s 40 v (omega arith)

  pub writer-set_fenced : (w : ℕ) → writer_of (set_fenced s v) w ≡ writer_of s w
  unfolding set_fenced
  writer-set_fenced = writer-put s 48 v (omega arith)

  pub writer-set_durable : (w : ℕ) → writer_of (set_durable s v) w ≡ writer_of s w
  unfolding set_durable
  writer-set_durable = writer-put s 56 v (omega arith)

  pub writer-set_last : (w : ℕ) → writer_of (set_last s v) w ≡ writer_of s w
  unfolding set_last
  writer-set_last = writer-put s 64 v (omega arith)

  pub writer-set_round : (w : ℕ) → writer_of (set_round s v) w ≡ writer_of s w
  unfolding set_round
  writer-set_round = writer-put s 88 v (omega arith)

  pub writer-set_cursor : (w : ℕ) → writer_of (set_cursor s v) w ≡ writer_of s w
  unfolding set_cursor
  writer-set_cursor = writer-put s 96 v (omega arith)

  pub held-set_groups : (w : ℕ) → held_of (set_groups s v) w ≡ held_of s w
  unfolding set_groups
  held-set_groups = held-put s 0 v (omega arith)

  pub held-set_homes : (w : ℕ) → held_of (set_homes s v) w ≡ held_of s w
  unfolding set_homes
  held-set_homes = held-put s 8 v (omega arith)

  pub held-set_start : (w : ℕ) → held_of (set_start s v) w ≡ held_of s w
  unfolding set_start
  held-set_start = held-put s 16 v (omega arith)

  pub held-set_next : (w : ℕ) → held_of (set_next s v) w ≡ held_of s w
  unfolding set_next
  held-set_next = held-put s 24 v (omega arith)

  pub held-set_filled : (w : ℕ) → held_of (set_filled s v) w ≡ held_of s w
  unfolding set_filled
  held-set_filled = held-put s 32 v (omega arith)

  pub held-set_settled : (w : ℕ) → held_of (set_settled s v) w ≡ held_of s w
  unfolding set_settled
  held-set_settled = held-put s 40 v (omega arith)

  pub held-set_fenced : (w : ℕ) → held_of (set_fenced s v) w ≡ held_of s w
  unfolding set_fenced
  held-set_fenced = held-put s 48 v (omega arith)

  pub held-set_durable : (w : ℕ) → held_of (set_durable s v) w ≡ held_of s w
  unfolding set_durable
  held-set_durable = held-put s 56 v (omega arith)

  pub held-set_last : (w : ℕ) → held_of (set_last s v) w ≡ held_of s w
  unfolding set_last
  held-set_last = held-put s 64 v (omega arith)

  pub held-set_round : (w : ℕ) → held_of (set_round s v) w ≡ held_of s w
  unfolding set_round
  held-set_round = held-put s 88 v (omega arith)

  pub held-set_cursor : (w : ℕ) → held_of (set_cursor s v) w ≡ held_of s w
  unfolding set_cursor
  held-set_cursor = held-put s 96 v (omega arith)

  pub spare-set_groups : (i : ℕ) → Spare i → get_or (set_groups s v) i 0 ≡ get_or s i 0
  unfolding set_groups
  spare-set_groups = spare-put s 0 v (omega arith)

  pub spare-set_homes : (i : ℕ) → Spare i → get_or (set_homes s v) i 0 ≡ get_or s i 0
  unfolding set_homes
  spare-set_homes = spare-put s 8 v (omega arith)

  pub spare-set_start : (i : ℕ) → Spare i → get_or (set_start s v) i 0 ≡ get_or s i 0
  unfolding set_start
  spare-set_start = spare-put s 16 v (omega arith)

  pub spare-set_next : (i : ℕ) → Spare i → get_or (set_next s v) i 0 ≡ get_or s i 0
  unfolding set_next
  spare-set_next = spare-put s 24 v (omega arith)

  pub spare-set_filled : (i : ℕ) → Spare i → get_or (set_filled s v) i 0 ≡ get_or s i 0
  unfolding set_filled
  spare-set_filled = spare-put s 32 v (omega arith)

  pub spare-set_settled : (i : ℕ) → Spare i → get_or (set_settled s v) i 0 ≡ get_or s i 0
  unfolding set_settled
  spare-set_settled = spare-put s 40 v (omega arith)

  pub spare-set_fenced : (i : ℕ) → Spare i → get_or (set_fenced s v) i 0 ≡ get_or s i 0
  unfolding set_fenced
  spare-set_fenced = spare-put s 48 v (omega arith)

  pub spare-set_durable : (i : ℕ) → Spare i → get_or (set_durable s v) i 0 ≡ get_or s i 0
  unfolding set_durable
  spare-set_durable = spare-put s 56 v (omega arith)

  pub spare-set_last : (i : ℕ) → Spare i → get_or (set_last s v) i 0 ≡ get_or s i 0
  unfolding set_last
  spare-set_last = spare-put s 64 v (omega arith)

  pub spare-set_round : (i : ℕ) → Spare i → get_or (set_round s v) i 0 ≡ get_or s i 0
  unfolding set_round
  spare-set_round = spare-put s 88 v (omega arith)

  pub spare-set_cursor : (i : ℕ) → Spare i → get_or (set_cursor s v) i 0 ≡ get_or s i 0
  unfolding set_cursor
  spare-set_cursor = spare-put s 96 v (omega arith)

pub ruleset writer-laws =
    (writer-set_groups, writer-set_homes, writer-set_start, writer-set_next, writer-set_filled, writer-set_settled, writer-set_fenced, writer-set_durable, writer-set_last, writer-set_round, writer-set_cursor)

pub ruleset held-laws =
    (held-set_groups, held-set_homes, held-set_start, held-set_next, held-set_filled, held-set_settled, held-set_fenced, held-set_durable, held-set_last, held-set_round, held-set_cursor)

pub ruleset spare-laws =
    (spare-set_groups, spare-set_homes, spare-set_start, spare-set_next, spare-set_filled, spare-set_settled, spare-set_fenced, spare-set_durable, spare-set_last, spare-set_round, spare-set_cursor)

-- ---- of bytes, each number is below 2 ^ 64

pub record StateFits (s : State) : Type 0 where
  pub groups : s.groups < 2 ^ 64
  pub homes : s.homes < 2 ^ 64
  pub start : s.start < 2 ^ 64
  pub next : s.next < 2 ^ 64
  pub filled : s.filled < 2 ^ 64
  pub settled : s.settled < 2 ^ 64
  pub fenced : s.fenced < 2 ^ 64
  pub durable : s.durable < 2 ^ 64
  pub last : s.last < 2 ^ 64
  pub round : s.round < 2 ^ 64
  pub cursor : s.cursor < 2 ^ 64

pub state-fits : (s : List ℕ) → ((i : ℕ) → get_or s i 0 < 256) → StateFits (state_of s)
unfolding state_of
state-fits s h =
    let f : (i : ℕ) → number 8 s i < 2 ^ 64 = λ i. number_lt 8 s i h in
    record {
      groups = f 0;
      homes = f 8;
      start = f 16;
      next = f 24;
      filled = f 32;
      settled = f 40;
      fenced = f 48;
      durable = f 56;
      last = f 64;
      round = f 88;
      cursor = f 96;
    }
