-- The loop over the stores of a transact. Assumes nothing.
use mathlib.Core.Path.{◌≡◌, refl, sym, ap, ◌∙◌}
use mathlib.Core.Bool.{true, false}
use mathlib.Core.Logic.{◌≢◌, ⊎_elim}
use mathlib.Core.List.{List}
use Prim.Native.Nat.{ℕ, zero, suc, ◌+◌, ◌*◌, ◌-◌, ◌≤◌, ◌<◌}
use native.Mathlib.Omega.{arith}
use lib.ListN.{length, take, drop}
use Rattle.model.specs.Bytes.{part}
use Rattle.model.specs.Batch.{batch_bytes}
use Rattle.model.specs.declared.Writer.{Writer}
use Rattle.model.specs.State.{state_of, next_position, writer_of, set_writer, set_held, begun, holding, holds}
use Rattle.model.specs.Effects.{Given}
use Rattle.model_laws.proofs.bytes.ByteLaws.{length_part, length-puts}
use Rattle.model_laws.proofs.state.WriterLaws.{writer-set_writer, fits-begun}
use Rattle.call_ask.specs.Lent.{lent_all}
use Rattle.call_store.specs.Logs.{MayLog, Fits, StoredOther}
use Rattle.acts.specs.Many.{stored_first}
use Rattle.call_many.specs.Steps.{Several, BatchRoom, Under}
use Rattle.acts.proofs.StoredLaws.{stored}
use Rattle.call_many.proofs.StoredLaws.{may-log, stored-reached, stored-first}

-- ---- a part of the lent blocks

pub lent-part : (x : List ℕ) (at to : ℕ) → to ≡ at + 64 → take (to - at) (drop at x) ≡ part x at 64
unfolding part
lent-part x at to e = let k : to - at ≡ 64 = omega arith in rw k

-- ---- the first block

pub first-size : (x : List ℕ) → 64 ≤ length x → length (take (64 - 0) (drop 0 x)) ≡ 64
first-size x h = ap length (lent-part x 0 64 refl) ∙ length_part x 0 64 h

pub begun-holds : (s s₁ : List ℕ) (w : ℕ) (r : Writer) → length s ≡ 1024 → w < 8 → s₁ ≡ set_writer s w begun → r ≡ writer_of s₁ w → holds r ≡ false
unfolding holds begun
begun-holds s s₁ w r h l e er = let k : r ≡ begun = er ∙ rw e (writer-set_writer s w begun h l fits-begun) in rw k

-- ---- each further one

module _ (g : Given) (x : List ℕ) (w home n m : ℕ) (s l b : List ℕ) where
  -- what the i-th store of the loop asks for
  pub under-requires : (i to : ℕ) → Under g x w home n i m s l b → 1 ≤ i → i < n → to ≡ 64 * i + 64
      → MayLog l s b (state_of s) w × Fits (state_of s) (writer_of s w) (next_position (state_of s)) × (length (take (to - 64 * i) (drop (64 * i) x)) ≡ 64)
      × (holds (writer_of s w) ≡ true) × ((writer_of s w).home ≢ home + i)
  under-requires zero to u lo hi e = absurd (omega arith)
  under-requires (suc j) to u lo hi e =
      let c = u.chain in
      let q = u.reached in
      let h = stored g n c j (omega arith) in
      let room : BatchRoom g.state b n = λ k. omega (arith, u.room k, ap length q.batch, length-puts g.batch 0 (batch_bytes (stored_first g (suc j)).records)) in
      let k = may-log g n c (stored_first g (suc j)) j h (omega arith) b room in
      let size : length x ≡ 64 * n = ap length (sym u.block) ∙ c.blocks in
      rw (q.state, q.log, lent-part x (64 * suc j) to e, ← u.writer, ← u.home)
      (k.0, k.1, length_part x (64 * suc j) 64 (omega arith), h.holding, λ z. omega (arith, h.home))

  pub under_next : (i k to : ℕ) (s' l' b' : List ℕ) → Under g x w home n i m s l b → 1 ≤ i → i < n → to ≡ 64 * i + 64
      → StoredOther k s' l' b' s l b (take (to - 64 * i) (drop (64 * i) x)) (state_of s) (writer_of s w) w (home + i)
      → Under g x w home n (i + 1) (m + k) s' l' b'
  under_next zero k to s' l' b' u lo hi e d = absurd (omega arith)
  under_next (suc j) k to s' l' b' u lo hi e d =
      let d' = rw (lent-part x (64 * suc j) to e, ← u.writer, ← u.home, ← u.block) at d in
      let a : suc j + 1 ≡ suc (suc j) = omega arith in
      record {
        block = u.block;
        writer = u.writer;
        home = u.home;
        chain = u.chain;
        room = u.room;
        reached = rw a (stored-reached g n u.chain j m k s l b s' l' b' hi u.reached d');
      }

  -- the batch holds one group at most
  pub under-size : (i : ℕ) → Under g x w home n i m s l b → 1 ≤ i → i ≤ n → m ≤ 516
  unfolding batch_bytes
  under-size zero u lo hi = absurd (omega arith)
  under-size (suc j) u lo hi =
      let h = stored g n u.chain j (omega arith) in
      ⊎_elim (λ z. omega (arith, u.reached.size, ap (λ y. length (batch_bytes y)) z.2)) (λ z. omega (arith, u.reached.size)) h.moved

  pub under_all : (i : ℕ) → Under g x w home n i m s l b → i ≡ n → Under g x w home n n m s l b
  under_all i u e = rw e at u

-- ---- all of it

pub under_first : (l a s p x b s' : List ℕ) (w home n : ℕ) → Several l s x w home n → BatchRoom s b n
    → s' ≡ set_held (set_writer (set_writer s w begun) w (holding home)) w (part x 0 64) → Under (lent_all l a s p x b w home) x w home n 1 0 s' l b
under_first l a s p x b s' w home n c room e =
    let k : home + 0 ≡ home = omega arith in
    record {
      block = refl;
      writer = refl;
      home = refl;
      chain = c;
      room = room;
      reached = stored-first (lent_all l a s p x b w home) n c s' (e ∙ rw k);
    }
