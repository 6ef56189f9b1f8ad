-- What some stores in a row leave: entry after entry is logged, and the last block is held. Assumes nothing.
use mathlib.Core.Path.{◌≡◌, refl, sym, ap, ◌∙◌, subst}
use mathlib.Core.Bool.{Bool, true, false, cond}
use mathlib.Core.Logic.{◌⊎◌, inl, inr, ⊎_elim, ◌≢◌}
use mathlib.Core.List.{List, [], ◌∷◌, ◌++◌, append-nil}
use Prim.Native.Nat.{ℕ, zero, suc, ◌+◌, ◌-◌, ◌*◌, ◌%◌, ◌≤◌, ◌<◌}
use native.Mathlib.Nat.{mod-lt}
use native.Mathlib.Omega.{arith}
use lib.Dec.{eqb}
use lib.ListN.{length, length-append}
use borrow.Author.Tests.{eq-eqb, ne_eqb}
use Rattle.model.specs.Bytes.{part}
use Rattle.model.specs.Layout.{group_at}
use Rattle.model.specs.Batch.{Record, GW, batch_bytes}
use Rattle.model.specs.declared.Writer.{Writer}
use Rattle.model.specs.State.{state_of, next_position, writer_of, set_writer, held_of, set_held, set_promise, promise_left, begun, holding, logging, holds, has_logged, first_for, count_for}
use Rattle.model.specs.Tag.{entry_word}
use Rattle.model.specs.Effects.{Given, Effect, Logged, logged, new_state, begin_effect, log_held, store_first, store_other, store_effect, commit_held, commit_effect}
use Rattle.model_laws.proofs.bytes.ByteLaws.{length_part}
use Rattle.model_laws.proofs.bytes.LayoutLaws.{length-group_at, group-fits}
use Rattle.model_laws.proofs.state.BatchLaws.{batch-append, batch-one, length-GW}
use Rattle.model_laws.proofs.state.WriterLaws.{length-set_writer, length-set_held, state-set_writer, state-set_held, writer-set_writer, writer-set_held, fits-begun, fits-holding, fits-logging}
use Rattle.model_laws.proofs.state.PromiseLaws.{length-set_promise, state-set_promise, writer-set_promise}
use Rattle.model_laws.proofs.state.LoggingLaws.{Advance, SameWriters, length-entered, logged-numbers, logged-writers, logged-log, logged-records}
use Rattle.acts.specs.Many.{lent_on, and_then, stored_first}
use Rattle.acts.specs.Steps.{Several, Moved, Stored}

-- ---- which effect a store or a commit has, by the writer's record

first_store : (g : Given) → holds (writer_of g.state g.writer) ≡ false → store_effect g ≡ store_first g
unfolding store_effect
first_store g h = rw h

other-store : (g : Given) → holds (writer_of g.state g.writer) ≡ true → (writer_of g.state g.writer).home ≢ g.home
    → store_effect g ≡ store_other g (writer_of g.state g.writer) (next_position (state_of g.state))
unfolding store_effect
other-store g h m = rw (h, ne_eqb (writer_of g.state g.writer).home g.home m)

pub held-commit : (g : Given) → holds (writer_of g.state g.writer) ≡ true
    → commit_effect g ≡ commit_held g (writer_of g.state g.writer) (next_position (state_of g.state))
unfolding commit_effect
held-commit g h = rw h

-- ---- an entry's records

-- logging hands a group on only where six places are filled
pub records-none : (s log : List ℕ) (word : ℕ) (block : List ℕ) → (state_of s).filled ≢ 6 → (logged s log word block).records ≡ []
records-none s log word block h = logged-records s log word block ∙ rw (ne_eqb (state_of s).filled 6 h)

-- an entry writes a group's record where it fills the group, else none
entry-bytes : (s log : List ℕ) (word : ℕ) (block : List ℕ) (G : ℕ) → (state_of s).groups ≡ G → 4 ≤ G → length log ≡ 64 + 512 * G
    → length (batch_bytes (logged s log word block).records) ≡ cond (eqb (state_of s).filled 6) 516 0
entry-bytes s log word block G e low size =
    ap (λ (x : List Record). length (batch_bytes x)) (logged-records s log word block) ∙ go (eqb (state_of s).filled 6)
  where
    after : List ℕ
    after = (logged s log word block).log

    below : (state_of s).next % (state_of s).groups < G
    below = rw e (mod-lt (state_of s).next {m = G} (omega arith))

    long : length after ≡ 64 + 512 * G
    long = ap length (logged-log s log word block) ∙ length-entered _ _ _ _ _ ∙ size

    go : (d : Bool)
        → length (batch_bytes (cond d (GW ((state_of s).next % (state_of s).groups) (group_at after ((state_of s).next % (state_of s).groups)) ∷ []) []))
        ≡ cond d 516 0
    go true =
        ap length (batch-one _) ∙ length-GW _ _ (length-group_at after ((state_of s).next % (state_of s).groups) (group-fits ((state_of s).next % (state_of s).groups) after G below long))
    go false = unfold batch_bytes in refl

pub sizes-more : (rs qs : List Record) → length (batch_bytes rs) + length (batch_bytes qs) ≡ length (batch_bytes (rs ++ qs))
sizes-more rs qs = sym (ap length (batch-append rs qs) ∙ length-append (batch_bytes rs) (batch_bytes qs))

-- the parts of the writer's record
holding-is : (home p : ℕ) → (holds (holding home) ≡ true) × ((holding home).home ≡ home) × (first_for (holding home) p ≡ p) × (count_for (holding home) ≡ 0)
unfolding holds holding first_for count_for has_logged
holding-is home p = (refl, refl, refl, refl)

logging-is : (home first count p : ℕ)
    → (holds (logging home first count) ≡ true) × ((logging home first count).home ≡ home) × (first_for (logging home first count) p ≡ first)
    × (count_for (logging home first count) ≡ count)
unfolding holds logging first_for count_for has_logged
logging-is home first count p = (refl, refl, refl, refl)

not-held : holds begun ≡ false
unfolding holds begun
not-held = refl

module _ (g : Given) (n : ℕ) (c : Several g.log g.state g.block g.writer g.home n) where
  block_size : (k : ℕ) → k < n → length (part g.block (64 * k) 64) ≡ 64
  block_size k l = length_part g.block (64 * k) 64 (omega (arith, c.blocks))

  -- ---- the first store

  abbrev s₁ : List ℕ
  s₁ = set_writer g.state g.writer begun

  abbrev s₂ : List ℕ
  s₂ = set_writer (set_writer g.state g.writer begun) g.writer (holding (g.home + 0))

  abbrev s₃ : List ℕ
  s₃ = set_held (set_writer (set_writer g.state g.writer begun) g.writer (holding (g.home + 0))) g.writer (part g.block (64 * 0) 64)

  size₁ : length s₁ ≡ 1024
  size₁ = length-set_writer g.state g.writer begun ∙ c.state_fits

  pub first-effect : store_effect (lent_on g (begin_effect g) (g.home + 0) (part g.block (64 * 0) 64))
      ≡ store_first (lent_on g (begin_effect g) (g.home + 0) (part g.block (64 * 0) 64))
  unfolding lent_on begin_effect new_state
  first-effect =
      first_store (lent_on g (begin_effect g) (g.home + 0) (part g.block (64 * 0) 64))
      (ap holds (writer-set_writer g.state g.writer begun c.state_fits c.writer fits-begun) ∙ not-held)

  first-numbers : state_of s₃ ≡ state_of g.state
  first-numbers =
      state-set_held s₂ g.writer _ (block_size 0 (omega (arith, c.least))) ∙ state-set_writer s₁ g.writer (holding (g.home + 0))
      ∙ state-set_writer g.state g.writer begun

  first-writer : writer_of s₃ g.writer ≡ holding (g.home + 0)
  first-writer =
      writer-set_held s₂ g.writer _ g.writer c.writer (block_size 0 (omega (arith, c.least)))
      ∙ writer-set_writer s₁ g.writer (holding (g.home + 0)) size₁ c.writer (fits-holding (g.home + 0) (omega (arith, c.homes)))

  stored_one : Stored g 0 (and_then g (begin_effect g) (store_first (lent_on g (begin_effect g) (g.home + 0) (part g.block (64 * 0) 64))))
  unfolding and_then lent_on begin_effect store_first new_state
  stored_one =
      let k = holding-is (g.home + 0) (next_position (state_of g.state)) in
      record {
        state_fits = length-set_held s₂ g.writer _ ∙ length-set_writer s₁ g.writer _ ∙ size₁;
        log = refl;
        newest = refl;
        area = refl;
        groups = rw first-numbers;
        homes = rw first-numbers;
        start = rw first-numbers;
        last = rw first-numbers;
        holding = rw first-writer k.0;
        home = rw first-writer k.1;
        first = rw (first-writer, first-numbers) k.2;
        count = rw first-writer k.3;
        filled = rw first-numbers c.filled;
        moved = inl (rw first-numbers, rw first-numbers (omega arith), refl);
      }

  -- ---- where an entry may be logged

  module _ (e : Effect) (j : ℕ) (h : Stored g j e) (l : j < n) where
    pub position : next_position (state_of e.state) ≡ next_position (state_of g.state) + j
    unfolding next_position
    position = ⊎_elim (λ m. omega arith) (λ m. omega arith) h.moved

    pub next_low : (state_of e.state).next < (state_of e.state).start + (state_of e.state).groups
    unfolding next_position
    next_low = omega (arith, position, c.room, h.start, h.groups)

    -- six places are filled only where no group is submitted yet
    pub fills : (state_of e.state).filled ≡ 6 → ((state_of g.state).filled + j ≡ 6) × (e.records ≡ [])
    fills f = ⊎_elim (λ m. (omega arith, m.2)) (λ m. absurd (omega (arith, c.filled, c.most))) h.moved

    -- the records of one entry more: together they are one group or none
    module _ (word : ℕ) (block : List ℕ) where
      abbrev lo : Logged
      lo = logged e.state e.log word block

      pub moves : Advance (state_of e.state) (state_of (logged e.state e.log word block).state) (state_of e.state).last
      unfolding next_position
      moves = logged-numbers e.state e.log word block h.state_fits h.filled (omega (arith, next_low, h.start, h.groups, c.high, c.few))

      size-more : length (batch_bytes (logged e.state e.log word block).records) ≡ cond (eqb (state_of e.state).filled 6) 516 0
      size-more =
          entry-bytes e.state e.log word block (state_of e.state).groups refl (omega (arith, h.groups, c.some)) (omega (arith, h.log, h.groups, c.log))

      log-more : length (logged e.state e.log word block).log ≡ length g.log
      log-more = ap length (logged-log e.state e.log word block) ∙ length-entered _ _ _ _ _ ∙ h.log

      pub moved_more : Moved (state_of g.state) (suc j) (state_of lo.state) (e.records ++ lo.records)
      moved_more = go h.moved moves.moved
        where
          go : Moved (state_of g.state) j (state_of e.state) e.records
              → (((state_of e.state).filled < 6) × ((state_of lo.state).next ≡ (state_of e.state).next) × ((state_of lo.state).filled ≡ (state_of e.state).filled + 1))
              ⊎ (((state_of e.state).filled ≡ 6) × ((state_of lo.state).next ≡ (state_of e.state).next + 1) × ((state_of lo.state).filled ≡ 0))
              → Moved (state_of g.state) (suc j) (state_of lo.state) (e.records ++ lo.records)
          go (inl m) (inl a) = inl (omega arith, omega arith, rw m.2 (records-none e.state e.log word block (λ z. omega arith)))
          go (inl m) (inr a) = inr (omega arith, omega arith, rw m.2 (size-more ∙ rw (eq-eqb (state_of e.state).filled 6 a.0)))
          go (inr m) (inl a) =
              inr (omega arith, omega arith, rw (records-none e.state e.log word block (λ z. omega arith), append-nil) m.2)
          go (inr m) (inr a) = absurd (omega (arith, c.filled, c.most))

  -- ---- one store more

  module _ (e : Effect) (j : ℕ) (h : Stored g j e) (l : suc j < n) where
    abbrev r : Writer
    r = writer_of e.state g.writer

    abbrev p : ℕ
    p = next_position (state_of e.state)

    abbrev block : List ℕ
    block = part g.block (64 * suc j) 64

    abbrev next : Given
    next = lent_on g e (g.home + suc j) (part g.block (64 * suc j) 64)

    abbrev en : Logged
    en =
        logged e.state e.log (entry_word (writer_of e.state g.writer).home (p - first_for (writer_of e.state g.writer) p))
        (held_of e.state g.writer)

    pub next-effect : store_effect next ≡ store_other next r p
    unfolding lent_on
    next-effect = other-store next h.holding (λ z. omega (arith, h.home))

    keeps : SameWriters e.state en.state
    keeps = logged-writers e.state e.log _ _ h.state_fits

    abbrev t₁ : List ℕ
    t₁ = set_writer en.state g.writer (logging (g.home + suc j) (first_for r p) (count_for r + 1))

    abbrev t₂ : List ℕ
    t₂ = set_held t₁ g.writer block

    abbrev t₃ : List ℕ
    t₃ = set_promise t₂ g.writer (promise_left e.state g.writer)

    size-t₁ : length t₁ ≡ 1024
    size-t₁ = length-set_writer en.state g.writer _ ∙ keeps.size

    next-numbers : state_of t₃ ≡ state_of en.state
    next-numbers =
        state-set_promise t₂ g.writer _ c.writer ∙ state-set_held t₁ g.writer block (block_size (suc j) l)
        ∙ state-set_writer en.state g.writer _

    next-writer : writer_of t₃ g.writer ≡ logging (g.home + suc j) (next_position (state_of g.state)) (j + 1)
    next-writer =
        writer-set_promise t₂ g.writer _ g.writer c.writer ∙ writer-set_held t₁ g.writer block g.writer c.writer (block_size (suc j) l)
        ∙ writer-set_writer en.state g.writer _ keeps.size c.writer
        (fits-logging _ _ _ (omega (arith, c.homes)) (omega (arith, h.first, c.room, c.high, c.few)) (omega (arith, h.count, c.most)))
        ∙ rw (h.first, h.count)

    stored_more : Stored g (suc j) (and_then g e (store_other next r p))
    unfolding and_then lent_on store_other log_held
    stored_more =
        let a = moves e j h (omega arith) (entry_word r.home (p - first_for r p)) (held_of e.state g.writer) in
        let k = logging-is (g.home + suc j) (next_position (state_of g.state)) (j + 1) (next_position (state_of t₃)) in
        record {
          state_fits = length-set_promise t₂ g.writer _ ∙ length-set_held t₁ g.writer _ ∙ size-t₁;
          log = log-more e j h (omega arith) _ _;
          newest = h.newest;
          area = h.area;
          groups = rw next-numbers (a.groups ∙ h.groups);
          homes = rw next-numbers (a.homes ∙ h.homes);
          start = rw next-numbers (a.start ∙ h.start);
          last = rw next-numbers (a.last ∙ h.last);
          holding = rw next-writer k.0;
          home = rw next-writer k.1;
          first = rw next-writer k.2;
          count = rw next-writer (k.3 ∙ omega arith);
          filled = rw next-numbers (⊎_elim (λ m. omega arith) (λ m. omega arith) a.moved);
          moved = rw next-numbers (moved_more e j h (omega arith) _ _);
        }

  -- ---- all of them

  pub stored : (j : ℕ) → j < n → Stored g j (stored_first g (suc j))
  unfolding stored_first
  stored zero l = subst (Stored g 0) (sym (ap (and_then g (begin_effect g)) first-effect)) stored_one
  stored (suc j) l =
      let h = stored j (omega arith) in
      let e : Effect = stored_first g (suc j) in
      subst (Stored g (suc j)) (sym (ap (and_then g e) (next-effect e j h l))) (stored_more e j h l)
