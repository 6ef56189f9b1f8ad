-- Laws of the promises in the state strip (specs/State), named as those of StateLaws, and of their sum. Assumes nothing.
use mathlib.Core.Path.{◌≡◌, refl, sym}
use mathlib.Core.Logic.{inl, inr, ◌≢◌}
use mathlib.Core.List.{List}
use Prim.Native.Nat.{ℕ, zero, suc, ◌+◌, ◌*◌, ◌^◌, ◌≤◌, ◌<◌}
use native.Mathlib.Decide.{dec_lt, ℕ_discrete}
use native.Mathlib.Omega.{arith}
use lib.ListN.{length, get_or}
use Rattle.model.specs.Bytes.{zeros, put_number}
use Rattle.model.specs.declared.Writer.{Writer}
use Rattle.model.specs.State.{state_of, set_groups, set_homes, set_start, set_next, set_filled, set_settled, set_fenced, set_durable, set_last, set_round, set_cursor, mode_offset, writer_offset, writer_of, set_writer, held_offset, held_of, set_held, promise_offset, promise_of, set_promise, promised}
use Rattle.model_laws.proofs.bytes.ByteLaws.{length-put_number, number_same, number-put-below, number-put-above, number-same-part, number_lt, part-put-below, part-put-above}
use Rattle.model_laws.proofs.bytes.LayoutLaws.{number-zeros}
use Rattle.model_laws.proofs.state.StateLaws.{Spare, state-agree, writer-agree, byte-agree}
use Rattle.model_laws.proofs.state.WriterLaws.{part-set_writer, part-set_held}

-- ---- the promises after the other setters

-- a number written below them
promise-put : (s : List ℕ) (o v : ℕ) → o + 8 ≤ 72 → (x : ℕ) → promise_of (put_number 8 s o v) x ≡ promise_of s x
unfolding promise_of promise_offset
promise-put s o v h x = number-put-above 2 8 s o v (72 + 2 * x) (omega arith)

-- one written above them
promise-below : (s : List ℕ) (o v : ℕ) → 88 ≤ o → (x : ℕ) → x < 8 → promise_of (put_number 8 s o v) x ≡ promise_of s x
unfolding promise_of promise_offset
promise-below s o v h x l = number-put-below 2 8 s o v (72 + 2 * x) (omega arith)

module _ (s : List ℕ) (v : ℕ) where
  pub promise-set_groups : (x : ℕ) → promise_of (set_groups s v) x ≡ promise_of s x
  unfolding set_groups
  promise-set_groups = promise-put s 0 v (omega arith)

  pub promise-set_homes : (x : ℕ) → promise_of (set_homes s v) x ≡ promise_of s x
  unfolding set_homes
  promise-set_homes = promise-put s 8 v (omega arith)

  pub promise-set_start : (x : ℕ) → promise_of (set_start s v) x ≡ promise_of s x
  unfolding set_start
  promise-set_start = promise-put s 16 v (omega arith)

  pub promise-set_next : (x : ℕ) → promise_of (set_next s v) x ≡ promise_of s x
  unfolding set_next
  promise-set_next = promise-put s 24 v (omega arith)

  pub promise-set_filled : (x : ℕ) → promise_of (set_filled s v) x ≡ promise_of s x
  unfolding set_filled
  promise-set_filled = promise-put s 32 v (omega arith)

  pub promise-set_settled : (x : ℕ) → promise_of (set_settled s v) x ≡ promise_of s x
  unfolding set_settled
  promise-set_settled = promise-put s 40 v (omega arith)

  pub promise-set_fenced : (x : ℕ) → promise_of (set_fenced s v) x ≡ promise_of s x
  unfolding set_fenced
  promise-set_fenced = promise-put s 48 v (omega arith)

  pub promise-set_durable : (x : ℕ) → promise_of (set_durable s v) x ≡ promise_of s x
  unfolding set_durable
  promise-set_durable = promise-put s 56 v (omega arith)

  pub promise-set_last : (x : ℕ) → promise_of (set_last s v) x ≡ promise_of s x
  unfolding set_last
  promise-set_last = promise-put s 64 v (omega arith)

  pub promise-set_round : (x : ℕ) → x < 8 → promise_of (set_round s v) x ≡ promise_of s x
  unfolding set_round
  promise-set_round = promise-below s 88 v (omega arith)

  pub promise-set_cursor : (x : ℕ) → x < 8 → promise_of (set_cursor s v) x ≡ promise_of s x
  unfolding set_cursor
  promise-set_cursor = promise-below s 96 v (omega arith)

pub ruleset promise-laws =
    (promise-set_groups, promise-set_homes, promise-set_start, promise-set_next, promise-set_filled, promise-set_settled, promise-set_fenced, promise-set_durable, promise-set_last)

pub promise-set_writer : (s : List ℕ) (w : ℕ) (r : Writer) (x : ℕ) → x < 8 → promise_of (set_writer s w r) x ≡ promise_of s x
unfolding promise_of promise_offset mode_offset writer_offset
promise-set_writer s w r x l =
    number-same-part 2 (set_writer s w r) (72 + 2 * x) s (72 + 2 * x)
    (part-set_writer s w r (72 + 2 * x) 2 (inl (omega arith)) (inl (omega arith)))

pub promise-set_held : (s : List ℕ) (w : ℕ) (block : List ℕ) (x : ℕ) → length block ≡ 64 → x < 8 → promise_of (set_held s w block) x ≡ promise_of s x
unfolding promise_of promise_offset held_offset
promise-set_held s w block x h l =
    number-same-part 2 (set_held s w block) (72 + 2 * x) s (72 + 2 * x) (part-set_held s w block (72 + 2 * x) 2 h (inl (omega arith)))

-- ---- after set_promise

module _ (s : List ℕ) (w n : ℕ) where
  pub length-set_promise : length (set_promise s w n) ≡ length s
  unfolding set_promise
  length-set_promise = length-put_number 2 s (promise_offset w) n

  pub state-set_promise : w < 8 → state_of (set_promise s w n) ≡ state_of s
  unfolding set_promise promise_offset
  state-set_promise l =
      state-agree (set_promise s w n) s (part-put-below 2 s (72 + 2 * w) n 0 72 (omega arith)) (part-put-above 2 s (72 + 2 * w) n 88 16 (omega arith))

  pub writer-set_promise : (v : ℕ) → w < 8 → writer_of (set_promise s w n) v ≡ writer_of s v
  unfolding set_promise promise_offset mode_offset writer_offset
  writer-set_promise v l =
      writer-agree (set_promise s w n) s v (part-put-above 2 s (72 + 2 * w) n (mode_offset v) 1 (omega arith))
      (part-put-above 2 s (72 + 2 * w) n (writer_offset v) 24 (omega arith))

  pub held-set_promise : (v : ℕ) → w < 8 → held_of (set_promise s w n) v ≡ held_of s v
  unfolding set_promise promise_offset held_of held_offset
  held-set_promise v l = part-put-above 2 s (72 + 2 * w) n (held_offset v) 64 (omega arith)

  pub spare-set_promise : (i : ℕ) → w < 8 → Spare i → get_or (set_promise s w n) i 0 ≡ get_or s i 0
  unfolding set_promise promise_offset
  spare-set_promise i l (inl h) = byte-agree (set_promise s w n) s i (part-put-above 2 s (72 + 2 * w) n i 1 (omega arith))
  spare-set_promise i l (inr h) = byte-agree (set_promise s w n) s i (part-put-above 2 s (72 + 2 * w) n i 1 (omega arith))

  pub promise-set_promise : length s ≡ 1024 → w < 8 → n < 2 ^ 16 → promise_of (set_promise s w n) w ≡ n
  unfolding set_promise promise_of promise_offset
  promise-set_promise h l f = number_same 2 s (72 + 2 * w) n (omega arith) f

  pub promise-set_promise-other : (v : ℕ) → v ≢ w → promise_of (set_promise s w n) v ≡ promise_of s v
  unfolding set_promise promise_of promise_offset
  promise-set_promise-other v d = go (dec_lt v w)
    where
      go : Dec (v < w) → promise_of (set_promise s w n) v ≡ promise_of s v
      go (yes h) = number-put-below 2 2 s (72 + 2 * w) n (72 + 2 * v) (omega arith)
      go (no h) = number-put-above 2 2 s (72 + 2 * w) n (72 + 2 * v) (omega (arith, d))

-- ---- of bytes, each promise is below 2 ^ 16

pub promise-fits : (s : List ℕ) (w : ℕ) → ((i : ℕ) → get_or s i 0 < 256) → promise_of s w < 2 ^ 16
unfolding promise_of
promise-fits s w h = number_lt 2 s (promise_offset w) h

pub promise-zeros : (n w : ℕ) → promise_of (zeros n) w ≡ 0
unfolding promise_of
promise-zeros n w = number-zeros 2 n (promise_offset w)

-- ---- the sum

pub promised-agree : (s t : List ℕ) (n : ℕ) → ((x : ℕ) → x < n → promise_of t x ≡ promise_of s x) → promised t n ≡ promised s n
unfolding promised
promised-agree s t zero f = refl
promised-agree s t (suc n) f = rw (promised-agree s t n (λ x l. f x (omega arith)), f n (omega arith))

-- where one writer's promise differs
pub promised-change : (s t : List ℕ) (v n : ℕ) → v < n → ((x : ℕ) → x < n → x ≢ v → promise_of t x ≡ promise_of s x)
    → promised t n + promise_of s v ≡ promised s n + promise_of t v
unfolding promised
promised-change s t v zero l f = absurd (omega arith)
promised-change s t v (suc n) l f = go (ℕ_discrete v n) (λ h. promised-change s t v n h (λ x k. f x (omega arith)))
  where
    go : Dec (v ≡ n) → (v < n → promised t n + promise_of s v ≡ promised s n + promise_of t v)
        → promised t (suc n) + promise_of s v ≡ promised s (suc n) + promise_of t v
    go (yes e) below =
        let k : promised t n ≡ promised s n = promised-agree s t n (λ x h. f x (omega arith) (λ q. omega arith)) in
        rw (e, k) (omega arith)
    go (no e) below =
        let k = below (omega arith) in
        let m = f n (omega arith) (λ q. e (sym q)) in
        omega (arith, k, m)

-- one writer's promise is part of it
pub promise-most : (s : List ℕ) (v n : ℕ) → v < n → promise_of s v ≤ promised s n
unfolding promised
promise-most s v zero l = absurd (omega arith)
promise-most s v (suc n) l = go (ℕ_discrete v n) (promise-most s v n)
  where
    go : Dec (v ≡ n) → (v < n → promise_of s v ≤ promised s n) → promise_of s v ≤ promised s (suc n)
    go (yes e) below = rw e (omega arith)
    go (no e) below = omega (arith, below (omega arith))

pub promised-none : (s : List ℕ) (n : ℕ) → ((x : ℕ) → x < n → promise_of s x ≡ 0) → promised s n ≡ 0
unfolding promised
promised-none s zero f = refl
promised-none s (suc n) f = rw (promised-none s n (λ x l. f x (omega arith)), f n (omega arith))
