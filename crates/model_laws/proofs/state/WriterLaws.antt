-- Laws of the writers' records and held blocks in the state strip (specs/State), named as those of StateLaws. Assumes nothing.
use mathlib.Core.Path.{◌≡◌, ◌∙◌}
use mathlib.Core.Logic.{◌⊎◌, inl, inr, ⊎_map, ◌≢◌}
use mathlib.Core.List.{List}
use Prim.Native.Nat.{ℕ, ◌+◌, ◌-◌, ◌*◌, ◌^◌, ◌≤◌, ◌<◌}
use native.Mathlib.Decide.{dec_lt}
use native.Mathlib.Nat.{mod-lt}
use lib.Dec.{lit<}
use native.Mathlib.Omega.{arith}
use lib.ListN.{length, get_or}
use Rattle.model.specs.Bytes.{part, number, put_number}
use Rattle.model.specs.declared.Writer.{Writer}
use Rattle.model.specs.State.{state_of, mode_offset, writer_offset, less_one, one_more_than, writer_of, set_writer, held_offset, held_of, set_held, idle, begun, holding, logging}
use Rattle.model_laws.proofs.bytes.ByteLaws.{length-puts, length-put_number, number_same, number-put-below, number_lt, part_same, part-below, part-above, part-put-below, part-put-above}
use Rattle.model_laws.proofs.state.StateLaws.{number-back, Spare, state-agree, writer-agree, byte-agree}

-- ---- each number of a writer's record is below 2 ^ 64, and the mode a byte

pub record WriterFits (r : Writer) : Type 0 where
  pub mode : r.mode < 2 ^ 8
  pub home : r.home < 2 ^ 64
  pub first : r.first < 2 ^ 64
  pub count : r.count < 2 ^ 64

one-more-lt : (n : ℕ) → one_more_than n < 2 ^ 64
unfolding one_more_than
one-more-lt n = mod-lt (n + 1) (lit< tt)

less-one-lt : (n : ℕ) → less_one n < 2 ^ 64
unfolding less_one
less-one-lt n = mod-lt (n + (2 ^ 64 - 1)) (lit< tt)

-- a count kept less one reads back
pub count-back : (n : ℕ) → n < 2 ^ 64 → one_more_than (less_one n) ≡ n
unfolding one_more_than less_one
count-back n h = omega arith

pub writer-fits : (s : List ℕ) (w : ℕ) → ((i : ℕ) → get_or s i 0 < 256) → WriterFits (writer_of s w)
unfolding writer_of
writer-fits s w h =
    let f : (i : ℕ) → number 8 s i < 2 ^ 64 = λ i. number_lt 8 s i h in
    let o = writer_offset w in
    record { mode = number_lt 1 s (mode_offset w) h; home = f o; first = f (o + 8); count = one-more-lt _ }

pub fits-idle : WriterFits idle
unfolding idle
fits-idle = omega arith

pub fits-begun : WriterFits begun
unfolding begun
fits-begun = omega arith

pub fits-holding : (home : ℕ) → home < 2 ^ 64 → WriterFits (holding home)
unfolding holding
fits-holding home h = omega arith

pub fits-logging : (home first count : ℕ) → home < 2 ^ 64 → first < 2 ^ 64 → count < 2 ^ 64 → WriterFits (logging home first count)
unfolding logging
fits-logging home first count h f c = omega arith

-- ---- lengths

pub length-set_writer : (s : List ℕ) (w : ℕ) (r : Writer) → length (set_writer s w r) ≡ length s
unfolding set_writer
length-set_writer s w r = simp length-put_number

pub length-set_held : (s : List ℕ) (w : ℕ) (block : List ℕ) → length (set_held s w block) ≡ length s
unfolding set_held
length-set_held s w block = length-puts s (held_offset w) block

-- ---- a part that lies apart from what is written stays

part-mode : (s : List ℕ) (w m a n : ℕ) → (a + n ≤ mode_offset w) ⊎ (mode_offset w + 1 ≤ a) → part (put_number 1 s (mode_offset w) m) a n ≡ part s a n
part-mode s w m a n (inl h) = part-put-below 1 s (mode_offset w) m a n h
part-mode s w m a n (inr h) = part-put-above 1 s (mode_offset w) m a n h

pub part-set_writer : (s : List ℕ) (w : ℕ) (r : Writer) (a n : ℕ) → (a + n ≤ mode_offset w) ⊎ (mode_offset w + 1 ≤ a)
    → (a + n ≤ writer_offset w) ⊎ (writer_offset w + 24 ≤ a) → part (set_writer s w r) a n ≡ part s a n
unfolding set_writer
part-set_writer s w r a n m (inl h) =
    part-put-below 8 _ (writer_offset w + 16) _ a n (omega arith) ∙ part-put-below 8 _ (writer_offset w + 8) _ a n (omega arith)
    ∙ part-put-below 8 _ (writer_offset w) _ a n (omega arith) ∙ part-mode s w r.mode a n m
part-set_writer s w r a n m (inr h) =
    part-put-above 8 _ (writer_offset w + 16) _ a n (omega arith) ∙ part-put-above 8 _ (writer_offset w + 8) _ a n (omega arith)
    ∙ part-put-above 8 _ (writer_offset w) _ a n (omega arith) ∙ part-mode s w r.mode a n m

pub part-set_held : (s : List ℕ) (w : ℕ) (block : List ℕ) (a n : ℕ) → length block ≡ 64
    → (a + n ≤ held_offset w) ⊎ (held_offset w + 64 ≤ a) → part (set_held s w block) a n ≡ part s a n
unfolding set_held
part-set_held s w block a n l (inl h) = part-below s (held_offset w) block a n h
part-set_held s w block a n l (inr h) = part-above s (held_offset w) block a n (omega arith)

-- ---- where the writers' parts of the strip lie

-- the parts of different writers lie apart
others : (v w : ℕ) → v ≢ w → (writer_offset v + 24 ≤ writer_offset w) ⊎ (writer_offset w + 24 ≤ writer_offset v)
unfolding writer_offset
others v w n = go (dec_lt v w)
  where
    go : Dec (v < w) → (128 + 24 * v + 24 ≤ 128 + 24 * w) ⊎ (128 + 24 * w + 24 ≤ 128 + 24 * v)
    go (yes h) = inl (omega arith)
    go (no h) = inr (omega (arith, n))

held-others : (v w : ℕ) → v ≢ w → (held_offset v + 64 ≤ held_offset w) ⊎ (held_offset w + 64 ≤ held_offset v)
unfolding held_offset
held-others v w n = go (dec_lt v w)
  where
    go : Dec (v < w) → (320 + 64 * v + 64 ≤ 320 + 64 * w) ⊎ (320 + 64 * w + 64 ≤ 320 + 64 * v)
    go (yes h) = inl (omega arith)
    go (no h) = inr (omega (arith, n))

-- a writer's record and the held blocks lie apart
record-before : (v w : ℕ) → v < 8 → writer_offset v + 24 ≤ held_offset w
unfolding writer_offset held_offset
record-before v w h = omega arith

-- modes of different writers, and a mode and a writer's part, lie apart
mode-others : (v w : ℕ) → v ≢ w → (mode_offset v + 1 ≤ mode_offset w) ⊎ (mode_offset w + 1 ≤ mode_offset v)
unfolding mode_offset
mode-others v w n = go (dec_lt v w)
  where
    go : Dec (v < w) → (104 + v + 1 ≤ 104 + w) ⊎ (104 + w + 1 ≤ 104 + v)
    go (yes h) = inl (omega arith)
    go (no h) = inr (omega (arith, n))

mode-before : (v w : ℕ) → v < 8 → mode_offset v + 1 ≤ writer_offset w
unfolding mode_offset writer_offset
mode-before v w h = omega arith

mode-before-held : (v w : ℕ) → v < 8 → mode_offset v + 1 ≤ held_offset w
unfolding mode_offset held_offset
mode-before-held v w h = omega arith

-- a spare byte lies after the modes, and before the writers or after the last of them
spare-after : (w i : ℕ) → w < 8 → Spare i → mode_offset w + 1 ≤ i
unfolding mode_offset
spare-after w i h (inl k) = omega arith
spare-after w i h (inr k) = omega arith

spare-apart : (w i : ℕ) → w < 8 → Spare i → (i + 1 ≤ writer_offset w) ⊎ (held_offset w + 64 ≤ i)
unfolding writer_offset held_offset
spare-apart w i h (inl k) = inl (omega arith)
spare-apart w i h (inr k) = inr (omega arith)

-- ---- after set_writer

module _ (s : List ℕ) (w : ℕ) (r : Writer) where
  pub state-set_writer : state_of (set_writer s w r) ≡ state_of s
  unfolding mode_offset writer_offset
  state-set_writer =
      state-agree (set_writer s w r) s (part-set_writer s w r 0 72 (inl (omega arith)) (inl (omega arith)))
      (part-set_writer s w r 88 16 (inl (omega arith)) (inl (omega arith)))

  pub writer-set_writer : length s ≡ 1024 → w < 8 → WriterFits r → writer_of (set_writer s w r) w ≡ r
  unfolding writer_of set_writer mode_offset writer_offset
  writer-set_writer l h f =
      let o = writer_offset w in
      let m = mode_offset w in
      let below : (d : List ℕ) (at v i : ℕ) → i + 8 ≤ at → number 8 (put_number 8 d at v) i ≡ number 8 d i = number-put-below 8 8 in
      let mode : number 1 (set_writer s w r) m ≡ r.mode =
      number-put-below 1 8 _ (o + 16) _ m (omega arith) ∙ number-put-below 1 8 _ (o + 8) _ m (omega arith)
      ∙ number-put-below 1 8 _ o _ m (omega arith) ∙ number_same 1 s m _ (omega arith) f.mode in
      let home : number 8 (set_writer s w r) o ≡ r.home =
      below _ (o + 16) _ o (omega arith) ∙ below _ (o + 8) _ o (omega arith)
      ∙ number-back _ o _ (simp length-put_number l) (omega arith) f.home in
      let first : number 8 (set_writer s w r) (o + 8) ≡ r.first =
      below _ (o + 16) _ (o + 8) (omega arith) ∙ number-back _ (o + 8) _ (simp length-put_number l) (omega arith) f.first in
      let less : number 8 (set_writer s w r) (o + 16) ≡ less_one r.count =
      number-back _ (o + 16) _ (simp length-put_number l) (omega arith) (less-one-lt r.count) in
      rw (mode, home, first, less, count-back r.count f.count)

  pub writer-set_writer-other : (v : ℕ) → w < 8 → v < 8 → v ≢ w → writer_of (set_writer s w r) v ≡ writer_of s v
  writer-set_writer-other v h k n =
      writer-agree (set_writer s w r) s v (part-set_writer s w r (mode_offset v) 1 (mode-others v w n) (inl (mode-before v w k)))
      (part-set_writer s w r (writer_offset v) 24 (inr (mode-before w v h)) (others v w n))

  pub held-set_writer : (v : ℕ) → w < 8 → held_of (set_writer s w r) v ≡ held_of s v
  unfolding held_of
  held-set_writer v h =
      part-set_writer s w r (held_offset v) 64 (inr (mode-before-held w v h)) (inr (record-before w v h))

  pub spare-set_writer : (i : ℕ) → w < 8 → Spare i → get_or (set_writer s w r) i 0 ≡ get_or s i 0
  spare-set_writer i h k =
      byte-agree (set_writer s w r) s i
      (part-set_writer s w r i 1 (inr (spare-after w i h k)) (⊎_map (λ h. h) (λ g. omega (arith, record-before w w h)) (spare-apart w i h k)))

-- ---- after set_held

module _ (s : List ℕ) (w : ℕ) (block : List ℕ) where
  pub state-set_held : length block ≡ 64 → state_of (set_held s w block) ≡ state_of s
  unfolding held_offset
  state-set_held l = state-agree (set_held s w block) s (part-set_held s w block 0 72 l (inl (omega arith))) (part-set_held s w block 88 16 l (inl (omega arith)))

  pub writer-set_held : (v : ℕ) → v < 8 → length block ≡ 64 → writer_of (set_held s w block) v ≡ writer_of s v
  writer-set_held v k l =
      writer-agree (set_held s w block) s v (part-set_held s w block (mode_offset v) 1 l (inl (mode-before-held v w k)))
      (part-set_held s w block (writer_offset v) 24 l (inl (record-before v w k)))

  pub held-set_held : length s ≡ 1024 → w < 8 → length block ≡ 64 → held_of (set_held s w block) w ≡ block
  unfolding held_of set_held held_offset
  held-set_held m h l = rw l at (part_same s (held_offset w) block (omega arith))

  pub held-set_held-other : (v : ℕ) → v ≢ w → length block ≡ 64 → held_of (set_held s w block) v ≡ held_of s v
  unfolding held_of
  held-set_held-other v n l = part-set_held s w block (held_offset v) 64 l (held-others v w n)

  pub spare-set_held : (i : ℕ) → w < 8 → length block ≡ 64 → Spare i → get_or (set_held s w block) i 0 ≡ get_or s i 0
  spare-set_held i h l k =
      byte-agree (set_held s w block) s i (part-set_held s w block i 1 l (⊎_map (λ g. omega (arith, record-before w w h)) (λ h. h) (spare-apart w i h k)))
