-- What logging needs of strip and log copy: where a transaction's first position and count stand, how long a link, a held block and the log are, and
-- when a batch is long enough; and the numbers of the strip after it.
use mathlib.Core.Path.{◌≡◌, refl, ◌∙◌}
use mathlib.Core.Logic.{◌⊎◌, inl, inr, ⊎_elim}
use mathlib.Core.Bool.{Bool, true, false, cond}
use mathlib.Core.List.{List, [], ◌∷◌}
use Prim.Native.Nat.{ℕ, ◌+◌, ◌-◌, ◌*◌, ◌%◌, ◌^◌, ◌≤◌, ◌<◌}
use native.Mathlib.Omega.{arith}
use lib.ListN.{length}
use lib.Dec.{eqb, leb}
use borrow.Author.Tests.{leb-true, leb-false, eqb-true, eqb-false}
use Rattle.model.specs.Batch.{GW}
use Rattle.model.specs.Layout.{group_at, put_blank}
use Rattle.model.specs.declared.State.{State}
use Rattle.model.specs.declared.Writer.{Writer}
use Rattle.model.specs.State.{state_of, set_next, set_filled, next_position, writer_of, held_of, promise_of, has_logged, first_for, count_for}
use Rattle.model.specs.Effects.{Given, link_from, entered, submitted, logged}
use Rattle.model.specs.Questions.{batch_fits}
use Rattle.model_laws.proofs.bytes.ByteLaws.{length_part}
use Rattle.model_laws.proofs.bytes.LayoutLaws.{length-put_blank, length-put_entry}
use Rattle.model_laws.proofs.state.StateLaws.{state-set_next, state-set_filled, length-set_next, length-set_filled, writer-set_next, writer-set_filled, held-set_next, held-set_filled}
use Rattle.model_laws.proofs.state.PromiseLaws.{promise-set_next, promise-set_filled}
use Rattle.model_laws.proofs.state.OrderLaws.{WriterInOrder}

-- where a transaction's first position and count stand
pub record Bounds (st : State) (r : Writer) (p : ℕ) : Type 0 where
  pub low : 7 * st.start ≤ first_for r p
  pub upto : first_for r p ≤ p
  pub many : first_for r p + count_for r ≤ p

pub bounds : (st : State) (r : Writer) → WriterInOrder st r → 7 * st.start ≤ next_position st → Bounds st r (next_position st)
unfolding first_for count_for has_logged
bounds st r o s = go (leb 3 r.mode) refl
  where
    p : ℕ
    p = next_position st

    go : (t : Bool) → leb 3 r.mode ≡ t → Bounds st r p
    go true e = let k = o.logged (leb-true 3 r.mode e) in record { low = rw e k.0; upto = rw e (omega arith); many = rw e k.3 }
    go false e = record { low = rw e s; upto = rw e (omega arith); many = rw e (omega arith) }

pub held-size : (s : List ℕ) (v : ℕ) → length s ≡ 1024 → v < 8 → length (held_of s v) ≡ 64
unfolding held_of
held-size s v h l = length_part s _ 64 (unfold Rattle.model.specs.State.held_offset in omega arith)

pub link-small : (G : ℕ) (st : State) → G ≤ 1024 → next_position st < 7 * (st.start + G)
    → st.last ≤ next_position st → link_from (next_position st) st < 2 ^ 13
unfolding link_from
link-small G st g l h = go (leb st.last (7 * st.start)) refl
  where
    go : (t : Bool) → leb st.last (7 * st.start) ≡ t → cond t 0 (next_position st + 1 - st.last) < 2 ^ 13
    go true e = omega arith
    go false e = omega (arith, leb-false st.last (7 * st.start) e)

pub length-entered : (st : State) (slot : ℕ) (log : List ℕ) (word : ℕ) (block : List ℕ) → length (entered st slot log word block) ≡ length log
unfolding entered
length-entered st slot log word block = length-put_entry _ slot _ st.filled word block ∙ go (eqb st.filled 0)
  where
    go : (t : Bool) → length (cond t (put_blank log st.groups slot st.next) log) ≡ length log
    go true = length-put_blank log st.groups slot st.next
    go false = refl

pub fits : (g : Given) (size : ℕ) → batch_fits g size ≡ true → size ≤ length g.batch
unfolding batch_fits
fits g size h = leb-true size (length g.batch) h

-- the numbers of the strip once an entry is logged
pub record Advance (st st' : State) (final : ℕ) : Type 0 where
  pub groups : st'.groups ≡ st.groups
  pub homes : st'.homes ≡ st.homes
  pub start : st'.start ≡ st.start
  pub settled : st'.settled ≡ st.settled
  pub fenced : st'.fenced ≡ st.fenced
  pub durable : st'.durable ≡ st.durable
  pub last : st'.last ≡ final
  pub round : st'.round ≡ st.round
  pub cursor : st'.cursor ≡ st.cursor
  pub moved : ((st.filled < 6) × (st'.next ≡ st.next) × (st'.filled ≡ st.filled + 1)) ⊎ ((st.filled ≡ 6) × (st'.next ≡ st.next + 1) × (st'.filled ≡ 0))

pub advance-position : (st st' : State) (last : ℕ) → Advance st st' last → next_position st' ≡ next_position st + 1
unfolding next_position
advance-position st st' last a = ⊎_elim (λ h. omega arith) (λ h. omega arith) a.moved

pub logged-numbers : (s log : List ℕ) (word : ℕ) (block : List ℕ) → length s ≡ 1024 → (state_of s).filled ≤ 6 → (state_of s).next < 2 ^ 62
    → Advance (state_of s) (state_of (logged s log word block).state) (state_of s).last
unfolding logged submitted
logged-numbers s log word block h f n = go (eqb (state_of s).filled 6) refl
  where
    go : (t : Bool) → eqb (state_of s).filled 6 ≡ t
        → Advance (state_of s) (state_of (submitted t s (state_of s) ((state_of s).next % (state_of s).groups) (entered (state_of s) ((state_of s).next % (state_of s).groups) log word block)).state) (state_of s).last
    go true e =
        let q = eqb-true (state_of s).filled 6 e in
        rw (state-set_filled (set_next s ((state_of s).next + 1)) 0 (length-set_next s ((state_of s).next + 1) ∙ h) (omega arith), state-set_next s ((state_of s).next + 1) h (omega arith))
        (record { groups = refl; homes = refl; start = refl; settled = refl; fenced = refl; durable = refl; last = refl; round = refl; cursor = refl; moved = inr (q, refl, refl) })
    go false e =
        let q = eqb-false (state_of s).filled 6 e in
        rw (state-set_filled s ((state_of s).filled + 1) h (omega arith))
        (record { groups = refl; homes = refl; start = refl; settled = refl; fenced = refl; durable = refl; last = refl; round = refl; cursor = refl; moved = inl (omega arith, refl, refl) })

pub logged-length : (s log : List ℕ) (word : ℕ) (block : List ℕ) → length (logged s log word block).state ≡ length s
unfolding logged submitted
logged-length s log word block = go (eqb (state_of s).filled 6)
  where
    go : (t : Bool)
        → length (submitted t s (state_of s) ((state_of s).next % (state_of s).groups) (entered (state_of s) ((state_of s).next % (state_of s).groups) log word block)).state
        ≡ length s
    go true = length-set_filled (set_next s ((state_of s).next + 1)) 0 ∙ length-set_next s ((state_of s).next + 1)
    go false = length-set_filled s ((state_of s).filled + 1)

-- a strip that logging left: the writers' records, blocks and promises as they were
pub record SameWriters (s t : List ℕ) : Type 0 where
  pub size : length t ≡ 1024
  pub writer : (x : ℕ) → writer_of t x ≡ writer_of s x
  pub held : (x : ℕ) → held_of t x ≡ held_of s x
  pub promise : (x : ℕ) → promise_of t x ≡ promise_of s x

pub logged-writers : (s log : List ℕ) (word : ℕ) (block : List ℕ) → length s ≡ 1024 → SameWriters s (logged s log word block).state
unfolding logged submitted
logged-writers s log word block h = go (eqb (state_of s).filled 6)
  where
    go : (t : Bool) → SameWriters s (submitted t s (state_of s) ((state_of s).next % (state_of s).groups) (entered (state_of s) ((state_of s).next % (state_of s).groups) log word block)).state
    go true = record {
      size = length-set_filled (set_next s ((state_of s).next + 1)) 0 ∙ length-set_next s ((state_of s).next + 1) ∙ h;
      writer = λ x. writer-set_filled (set_next s ((state_of s).next + 1)) 0 x ∙ writer-set_next s ((state_of s).next + 1) x;
      held = λ x. held-set_filled (set_next s ((state_of s).next + 1)) 0 x ∙ held-set_next s ((state_of s).next + 1) x;
      promise = λ x. promise-set_filled (set_next s ((state_of s).next + 1)) 0 x ∙ promise-set_next s ((state_of s).next + 1) x;
    }
    go false = record {
      size = length-set_filled s ((state_of s).filled + 1) ∙ h;
      writer = λ x. writer-set_filled s ((state_of s).filled + 1) x;
      held = λ x. held-set_filled s ((state_of s).filled + 1) x;
      promise = λ x. promise-set_filled s ((state_of s).filled + 1) x;
    }

pub logged-log : (s log : List ℕ) (word : ℕ) (block : List ℕ)
    → (logged s log word block).log ≡ entered (state_of s) ((state_of s).next % (state_of s).groups) log word block
unfolding logged submitted
logged-log s log word block = go (eqb (state_of s).filled 6)
  where
    go : (t : Bool) → (submitted t s (state_of s) ((state_of s).next % (state_of s).groups) (entered (state_of s) ((state_of s).next % (state_of s).groups) log word block)).log ≡ entered (state_of s) ((state_of s).next % (state_of s).groups) log word block
    go true = refl
    go false = refl

pub logged-records : (s log : List ℕ) (word : ℕ) (block : List ℕ)
    → (logged s log word block).records
    ≡ cond (eqb (state_of s).filled 6) (GW ((state_of s).next % (state_of s).groups) (group_at (logged s log word block).log ((state_of s).next % (state_of s).groups)) ∷ []) []
unfolding logged submitted
logged-records s log word block = go (eqb (state_of s).filled 6)
  where
    go : (t : Bool) → (submitted t s (state_of s) ((state_of s).next % (state_of s).groups) (entered (state_of s) ((state_of s).next % (state_of s).groups) log word block)).records
        ≡ cond t (GW ((state_of s).next % (state_of s).groups) (group_at (submitted t s (state_of s) ((state_of s).next % (state_of s).groups) (entered (state_of s) ((state_of s).next % (state_of s).groups) log word block)).log ((state_of s).next % (state_of s).groups)) ∷ []) []
    go true = refl
    go false = refl
