-- Transact as a whole: which effect it has, how many bytes it writes, and its ticket. Assumes nothing.
use mathlib.Core.Path.{◌≡◌, refl, ap, ◌∙◌, subst}
use mathlib.Core.Bool.{Bool, true, false, cond}
use mathlib.Core.List.{[], ◌++◌}
use mathlib.Core.Logic.{⊎_elim}
use Prim.Native.Nat.{ℕ, zero, suc, ◌+◌, ◌-◌, ◌*◌, ◌/◌, ◌≤◌}
use native.Mathlib.Omega.{arith}
use borrow.Author.Tests.{leb-true, leb-false, le-leb, lt-leb}
use lib.Dec.{leb}
use lib.ListN.{length}
use Rattle.model.specs.Batch.{batch_bytes}
use Rattle.model.specs.declared.Writer.{Writer}
use Rattle.model.specs.State.{state_of, next_position, writer_of, held_of, first_for, count_for}
use Rattle.model.specs.Tag.{closing_word}
use Rattle.model.specs.Effects.{Given, Effect, Logged, logged, link_from, log_closing, commit_held, commit_effect}
use Rattle.model.specs.Calls.{size_of}
use Rattle.acts.specs.Many.{blocks_lent, lent_on, and_then, stored_first, transact_effect}
use Rattle.acts.specs.Steps.{Several, Moved, Stored}
use Rattle.acts.proofs.StoredLaws.{held-commit, position, moves, moved_more, stored}

-- ---- the commit behind the stores

module _ (g : Given) (n : ℕ) (c : Several g.log g.state g.block g.writer g.home n) (e : Effect) (j : ℕ) (h : Stored g j e) (l : suc j ≡ n) where
  abbrev r : Writer
  r = writer_of e.state g.writer

  abbrev p : ℕ
  p = next_position (state_of e.state)

  abbrev final : Given
  final = lent_on g e 0 []

  pub held-effect : commit_effect final ≡ commit_held final r p
  unfolding lent_on
  held-effect = held-commit final h.holding

  abbrev word : ℕ
  word = closing_word r.home (p - first_for r p) (link_from p (state_of e.state)) (count_for r + 1)

  abbrev lo : Logged
  lo = logged e.state e.log word (held_of e.state g.writer)

  pub closed : Moved (state_of g.state) n (state_of lo.state) (e.records ++ lo.records)
  closed = subst (λ k. Moved (state_of g.state) k (state_of lo.state) (e.records ++ lo.records)) l (moved_more g n c e j h (omega arith) word (held_of e.state g.writer))

  pub few : (state_of lo.state).filled ≤ 6
  few = ⊎_elim (λ m. omega (arith, h.filled)) (λ m. omega arith) (moves g n c e j h (omega arith) word (held_of e.state g.writer)).moved

  size-held : size_of (and_then g e (commit_held final r p)) ≡ cond (leb 7 ((state_of g.state).filled + n)) 516 0
  unfolding size_of and_then commit_held log_closing lent_on batch_bytes
  size-held =
      ⊎_elim
      (λ m. rw (m.2, lt-leb 7 ((state_of g.state).filled + n) (omega (arith, m.1, few))))
      (λ m. rw (le-leb 7 ((state_of g.state).filled + n) (omega (arith, m.1))) m.2)
      closed

  figure-held : (and_then g e (commit_held final r p)).figure ≡ next_position (state_of g.state) + n
  unfolding and_then commit_held
  figure-held = omega (arith, position g n c e j h (omega arith), l)

-- the whole call
module _ (g : Given) (c : Several g.log g.state g.block g.writer g.home (length g.block / 64)) where
  pub last-store : (n : ℕ) → n ≡ length g.block / 64
      → Several g.log g.state g.block g.writer g.home n → (j : ℕ) × ((suc j ≡ n) × Stored g j (stored_first g n))
  last-store zero e k = absurd (omega (arith, k.least))
  last-store (suc j) e k = (j, (refl, stored g (suc j) k j (omega arith)))

  abbrev n : ℕ
  n = length g.block / 64

  abbrev e : Effect
  e = stored_first g (length g.block / 64)

  pub effect_is : transact_effect g
      ≡ and_then g (stored_first g (length g.block / 64))
      (commit_held (lent_on g (stored_first g (length g.block / 64)) 0 []) (writer_of (stored_first g (length g.block / 64)).state g.writer)
      (next_position (state_of (stored_first g (length g.block / 64)).state)))
  unfolding transact_effect blocks_lent
  effect_is = let k = last-store n refl c in ap (and_then g e) (held-effect g n c e k.0 k.1.1 k.1.0)

  pub size_is : size_of (transact_effect g) ≡ cond (leb 7 ((state_of g.state).filled + length g.block / 64)) 516 0
  size_is = let k = last-store n refl c in ap size_of effect_is ∙ size-held g n c e k.0 k.1.1 k.1.0

  -- "the batch needs 516 × ((filled + n) ÷ 7) bytes", and the figure is the position of the closing entry + 1
  pub bytes-are : size_of (transact_effect g) ≡ 516 * (((state_of g.state).filled + length g.block / 64) / 7)
  bytes-are = size_is ∙ go (leb 7 ((state_of g.state).filled + n)) refl
    where
      go : (d : Bool) → leb 7 ((state_of g.state).filled + length g.block / 64) ≡ d
          → cond d 516 0 ≡ 516 * (((state_of g.state).filled + length g.block / 64) / 7)
      go true q = omega (arith, leb-true 7 ((state_of g.state).filled + length g.block / 64) q, c.filled, c.most)
      go false q = omega (arith, leb-false 7 ((state_of g.state).filled + length g.block / 64) q)

  pub ticket_is : (transact_effect g).figure ≡ next_position (state_of g.state) + length g.block / 64
  ticket_is = let k = last-store n refl c in ap (λ (x : Effect). x.figure) effect_is ∙ figure-held g n c e k.0 k.1.1 k.1.0
