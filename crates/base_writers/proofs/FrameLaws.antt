-- What a change of one writer's record leaves as it was (specs/Frame), and that it may come before or after a change of the strip's numbers.
-- Assumes nothing.
use mathlib.Core.Path.{◌≡◌, refl, ap, ◌∙◌}
use mathlib.Core.Logic.{◌⊎◌, inl, inr, ⊎_map, ◌≢◌}
use mathlib.Core.List.{List, [], ◌∷◌}
use Prim.Native.Nat.{ℕ, zero, suc, ◌+◌, ◌*◌, ◌<◌, ◌≤◌}
use native.Mathlib.Decide.{dec_lt}
use native.Mathlib.Omega.{arith}
use lib.ListN.{length}
use Rattle.model.specs.Bytes.{puts, bytes, put_number}
use Rattle.model.specs.declared.Writer.{Writer}
use Rattle.model.specs.State.{set_next, set_filled, mode_offset, writer_offset, less_one, set_writer}
use Rattle.model_laws.proofs.bytes.ByteLaws.{puts-nil, length-bytes}
use Rattle.model_laws.proofs.state.StateLaws.{byte-agree}
use Rattle.model_laws.proofs.state.WriterLaws.{length-set_writer, part-set_writer, state-set_writer, writer-set_writer-other, held-set_writer}
use Rattle.base_writers.specs.Frame.{SameElsewhere}

-- ---- the frame

apart : (i m : ℕ) → i ≢ m → (i + 1 ≤ m) ⊎ (m + 1 ≤ i)
apart i m n = go (dec_lt i m)
  where
    go : Dec (i < m) → (i + 1 ≤ m) ⊎ (m + 1 ≤ i)
    go (yes h) = inl (omega arith)
    go (no h) = inr (omega (arith, n))

pub elsewhere : (s : List ℕ) (w : ℕ) (r : Writer) → w < 8 → SameElsewhere w s (set_writer s w r)
elsewhere s w r l =
    record {
      size = length-set_writer s w r;
      numbers = state-set_writer s w r;
      writer = λ v h n. writer-set_writer-other s w r v l h n;
      held = λ v. held-set_writer s w r v l;
      byte = λ i n h. byte-agree (set_writer s w r) s i (part-set_writer s w r i 1 (apart i (mode_offset w) n) (⊎_map (λ k. omega arith) (λ k. k) h));
    }

-- ---- two writes that lie apart may change places

pub puts-apart : (d : List ℕ) (a : ℕ) (x : List ℕ) (b : ℕ) (y : List ℕ) → a + length x ≤ b → puts (puts d b y) a x ≡ puts (puts d a x) b y
unfolding puts
puts-apart [] a x b y h = refl
puts-apart (z ∷ d) (suc a) x (suc b) y h = ap (λ (r : List ℕ). z ∷ r) (puts-apart d a x b y (omega arith))
puts-apart (z ∷ d) (suc a) x zero y h = absurd (omega arith)
puts-apart (z ∷ d) zero [] b y h = puts-nil (puts (z ∷ d) b y) 0
puts-apart (z ∷ d) zero (u ∷ x) (suc b) y h = ap (λ (r : List ℕ). u ∷ r) (puts-apart d zero x b y (omega arith))
puts-apart (z ∷ d) zero (u ∷ x) zero y h = absurd (omega arith)

number-first : (n : ℕ) (d : List ℕ) (a u b v : ℕ) → a + 8 ≤ b → put_number 8 (put_number n d b v) a u ≡ put_number n (put_number 8 d a u) b v
unfolding put_number
number-first n d a u b v h = puts-apart d a (bytes 8 u) b (bytes n v) (rw (length-bytes 8 u) h)

-- a number that lies below the writers and their modes
below-writers : (s : List ℕ) (w : ℕ) (r : Writer) (a u : ℕ) → a + 8 ≤ 104 → put_number 8 (set_writer s w r) a u ≡ set_writer (put_number 8 s a u) w r
unfolding set_writer mode_offset writer_offset
below-writers s w r a u h =
    number-first 8 _ a u (128 + 24 * w + 16) _ (omega arith)
    ∙ ap (λ (d : List ℕ). put_number 8 d (128 + 24 * w + 16) (less_one r.count))
    (number-first 8 _ a u (128 + 24 * w + 8) _ (omega arith)
    ∙ ap (λ (d : List ℕ). put_number 8 d (128 + 24 * w + 8) r.first)
    (number-first 8 _ a u (128 + 24 * w) _ (omega arith)
    ∙ ap (λ (d : List ℕ). put_number 8 d (128 + 24 * w) r.home) (number-first 1 s a u (104 + w) _ (omega arith))))

module _ (s : List ℕ) (w : ℕ) (r : Writer) (v : ℕ) where
  pub set_next-writer : set_next (set_writer s w r) v ≡ set_writer (set_next s v) w r
  unfolding set_next
  set_next-writer = below-writers s w r 24 v (omega arith)

  pub set_filled-writer : set_filled (set_writer s w r) v ≡ set_writer (set_filled s v) w r
  unfolding set_filled
  set_filled-writer = below-writers s w r 32 v (omega arith)
