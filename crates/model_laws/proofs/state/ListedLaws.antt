-- Laws of the positions of the list's homes in the state strip (specs/State, specs/Newest), named as those of StateLaws. They lie behind all other
-- fields, so neither touches the other. Assumes nothing.
use mathlib.Core.Path.{◌≡◌, refl, ◌∙◌}
use mathlib.Core.Logic.{inr}
use mathlib.Core.Bool.{Bool, true, false, cond}
use mathlib.Core.List.{List}
use Prim.Native.Nat.{ℕ, ◌+◌, ◌*◌, ◌≤◌, ◌<◌}
use native.Mathlib.Omega.{arith}
use lib.Dec.{leb}
use lib.ListN.{length, replicate, length-replicate}
use borrow.Author.Tests.{le-leb}
use Rattle.model.specs.Bytes.{part, number, put_number}
use Rattle.model.specs.declared.Writer.{Writer}
use Rattle.model.specs.State.{state_of, set_start, set_next, set_filled, set_settled, set_fenced, set_durable, set_last, set_round, set_cursor, mode_offset, writer_offset, writer_of, set_writer, held_offset, held_of, set_held, promise_offset, promise_of, set_promise, list_home, listed_of, set_listed}
use Rattle.model.specs.Newest.{no_position, kept_for, carry_listed}
use Rattle.model_laws.proofs.bytes.ByteLaws.{length-puts, length_part, part-below, number-same-part, number-put-above, number-part, number-inside}
use Rattle.model_laws.proofs.state.StateLaws.{state-agree, writer-agree}
use Rattle.model_laws.proofs.state.WriterLaws.{part-set_writer, part-set_held}
use Rattle.model_laws.proofs.state.NewestLaws.{number-ones}

-- ---- the positions after the other setters

listed-put : (s : List ℕ) (o v : ℕ) → o + 8 ≤ 896 → (i : ℕ) → listed_of (put_number 8 s o v) i ≡ listed_of s i
unfolding listed_of
listed-put s o v h i = number-put-above 8 8 s o v (896 + 8 * i) (omega arith)

module _ (s : List ℕ) (v : ℕ) where
  pub listed-set_start : (i : ℕ) → listed_of (set_start s v) i ≡ listed_of s i
  unfolding set_start
  listed-set_start = listed-put s 16 v (omega arith)

  pub listed-set_next : (i : ℕ) → listed_of (set_next s v) i ≡ listed_of s i
  unfolding set_next
  listed-set_next = listed-put s 24 v (omega arith)

  pub listed-set_filled : (i : ℕ) → listed_of (set_filled s v) i ≡ listed_of s i
  unfolding set_filled
  listed-set_filled = listed-put s 32 v (omega arith)

  pub listed-set_settled : (i : ℕ) → listed_of (set_settled s v) i ≡ listed_of s i
  unfolding set_settled
  listed-set_settled = listed-put s 40 v (omega arith)

  pub listed-set_fenced : (i : ℕ) → listed_of (set_fenced s v) i ≡ listed_of s i
  unfolding set_fenced
  listed-set_fenced = listed-put s 48 v (omega arith)

  pub listed-set_durable : (i : ℕ) → listed_of (set_durable s v) i ≡ listed_of s i
  unfolding set_durable
  listed-set_durable = listed-put s 56 v (omega arith)

  pub listed-set_last : (i : ℕ) → listed_of (set_last s v) i ≡ listed_of s i
  unfolding set_last
  listed-set_last = listed-put s 64 v (omega arith)

  pub listed-set_round : (i : ℕ) → listed_of (set_round s v) i ≡ listed_of s i
  unfolding set_round
  listed-set_round = listed-put s 88 v (omega arith)

  pub listed-set_cursor : (i : ℕ) → listed_of (set_cursor s v) i ≡ listed_of s i
  unfolding set_cursor
  listed-set_cursor = listed-put s 96 v (omega arith)

pub listed-set_writer : (s : List ℕ) (w : ℕ) (r : Writer) (i : ℕ) → w < 8 → listed_of (set_writer s w r) i ≡ listed_of s i
unfolding listed_of mode_offset writer_offset
listed-set_writer s w r i l =
    number-same-part 8 (set_writer s w r) (896 + 8 * i) s (896 + 8 * i) (part-set_writer s w r (896 + 8 * i) 8 (inr (omega arith)) (inr (omega arith)))

pub listed-set_held : (s : List ℕ) (w : ℕ) (block : List ℕ) (i : ℕ) → length block ≡ 64 → w < 8 → listed_of (set_held s w block) i ≡ listed_of s i
unfolding listed_of held_offset
listed-set_held s w block i h l =
    number-same-part 8 (set_held s w block) (896 + 8 * i) s (896 + 8 * i) (part-set_held s w block (896 + 8 * i) 8 h (inr (omega arith)))

pub listed-set_promise : (s : List ℕ) (w n i : ℕ) → w < 8 → listed_of (set_promise s w n) i ≡ listed_of s i
unfolding listed_of set_promise promise_offset
listed-set_promise s w n i l = number-put-above 8 2 s (72 + 2 * w) n (896 + 8 * i) (omega arith)

-- ---- after set_listed

module _ (s positions : List ℕ) where
  pub length-set_listed : length (set_listed s positions) ≡ length s
  unfolding set_listed
  length-set_listed = length-puts s 896 positions

  part-set_listed : (a n : ℕ) → a + n ≤ 896 → part (set_listed s positions) a n ≡ part s a n
  unfolding set_listed
  part-set_listed a n h = part-below s 896 positions a n h

  pub state-set_listed : state_of (set_listed s positions) ≡ state_of s
  state-set_listed = state-agree (set_listed s positions) s (part-set_listed 0 72 (omega arith)) (part-set_listed 88 16 (omega arith))

  pub writer-set_listed : (w : ℕ) → w < 8 → writer_of (set_listed s positions) w ≡ writer_of s w
  unfolding mode_offset writer_offset
  writer-set_listed w l = writer-agree (set_listed s positions) s w (part-set_listed (mode_offset w) 1 (omega arith)) (part-set_listed (writer_offset w) 24 (omega arith))

  pub held-set_listed : (w : ℕ) → w < 8 → held_of (set_listed s positions) w ≡ held_of s w
  unfolding held_of held_offset
  held-set_listed w l = part-set_listed (held_offset w) 64 (omega arith)

  pub promise-set_listed : (w : ℕ) → w < 8 → promise_of (set_listed s positions) w ≡ promise_of s w
  unfolding promise_of promise_offset
  promise-set_listed w l = number-same-part 2 (set_listed s positions) (72 + 2 * w) s (72 + 2 * w) (part-set_listed (72 + 2 * w) 2 (omega arith))

  pub listed-set_listed : (i : ℕ) → length s ≡ 1024 → length positions ≡ 32 → i < 4 → listed_of (set_listed s positions) i ≡ number 8 positions (8 * i)
  unfolding listed_of set_listed
  listed-set_listed i l m k = number-inside 8 s 896 positions (8 * i) (omega arith) (omega arith)

-- all ones
pub listed-ones : (s : List ℕ) (i : ℕ) → length s ≡ 1024 → i < 4 → listed_of (set_listed s (replicate 32 255)) i ≡ no_position
listed-ones s i l k = listed-set_listed s (replicate 32 255) i l (length-replicate {A = ℕ} 32 255) k ∙ number-ones 32 (8 * i) (omega arith)

-- ---- after carry_listed

module _ (homes : ℕ) (newest s : List ℕ) where
  -- it is set_listed, or nothing
  carried : (P : List ℕ → Type 0) → P s → ((positions : List ℕ) → P (set_listed s positions)) → P (carry_listed homes newest s)
  unfolding carry_listed
  carried P stays f = go (leb (list_home + 4) homes)
    where
      go : (d : Bool) → P (cond d (set_listed s (part newest (8 * list_home) 32)) s)
      go true = f (part newest (8 * list_home) 32)
      go false = stays

  pub length-carry : length (carry_listed homes newest s) ≡ length s
  length-carry = carried (λ t. length t ≡ length s) refl (length-set_listed s)

  pub state-carry : state_of (carry_listed homes newest s) ≡ state_of s
  state-carry = carried (λ t. state_of t ≡ state_of s) refl (state-set_listed s)

  pub writer-carry : (w : ℕ) → w < 8 → writer_of (carry_listed homes newest s) w ≡ writer_of s w
  writer-carry w l = carried (λ t. writer_of t w ≡ writer_of s w) refl (λ ps. writer-set_listed s ps w l)

  pub held-carry : (w : ℕ) → w < 8 → held_of (carry_listed homes newest s) w ≡ held_of s w
  held-carry w l = carried (λ t. held_of t w ≡ held_of s w) refl (λ ps. held-set_listed s ps w l)

  pub promise-carry : (w : ℕ) → w < 8 → promise_of (carry_listed homes newest s) w ≡ promise_of s w
  promise-carry w l = carried (λ t. promise_of t w ≡ promise_of s w) refl (λ ps. promise-set_listed s ps w l)

  -- where there is room for a list, what is kept for its homes
  pub listed-carry : (i : ℕ) → list_home + 4 ≤ homes → length newest ≡ 8 * homes → length s ≡ 1024 → i < 4
      → listed_of (carry_listed homes newest s) i ≡ kept_for newest (list_home + i)
  unfolding carry_listed kept_for
  listed-carry i h n l k =
      let e : 8 * list_home + 8 * i ≡ 8 * (list_home + i) = omega arith in
      rw (le-leb (list_home + 4) homes h)
      (listed-set_listed s (part newest (8 * list_home) 32) i l (length_part newest (8 * list_home) 32 (omega arith)) k
      ∙ number-part 8 newest (8 * list_home) 32 (8 * i) (omega arith) ∙ rw e)
