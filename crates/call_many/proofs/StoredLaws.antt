-- What some stores in a row leave of the lent slices: the strip, the log copy and the batch. Assumes nothing.
use mathlib.Core.Path.{◌≡◌, refl, sym, ap, ◌∙◌, subst}
use mathlib.Core.Logic.{inl, inr, ⊎_elim}
use mathlib.Core.List.{List, [], ◌++◌, append-nil}
use Prim.Native.Nat.{ℕ, suc, ◌+◌, ◌-◌, ◌*◌, ◌<◌}
use native.Mathlib.Omega.{arith}
use lib.ListN.{length}
use Rattle.model.specs.Bytes.{part, puts}
use Rattle.model.specs.Batch.{batch_bytes}
use Rattle.model.specs.declared.Writer.{Writer}
use Rattle.model.specs.State.{state_of, next_position, writer_of, set_writer, held_of, set_held, begun, holding, first_for}
use Rattle.model.specs.Tag.{entry_word}
use Rattle.model.specs.Effects.{Given, Effect, Logged, logged, new_state, begin_effect, log_held, store_first, store_other, store_effect}
use Rattle.model_laws.proofs.bytes.ByteLaws.{puts-nil}
use Rattle.model_laws.proofs.state.LoggingLaws.{link-small}
use Rattle.call_store.specs.Logs.{MayLog, Fits, StoredOther, logged_entry}
use Rattle.acts.specs.Many.{lent_on, and_then, stored_first}
use Rattle.acts.proofs.StoredLaws.{records-none, sizes-more, first-effect, position, next_low, fills, next-effect, stored}
use Rattle.call_many.specs.Steps.{Several, BatchRoom, Moved, Stored, Reached}

stored_next : (g : Given) (k : ℕ)
    → stored_first g (suc k)
    ≡ and_then g (stored_first g k) (store_effect (lent_on g (stored_first g k) (g.home + k) (part g.block (64 * k) 64)))
unfolding stored_first
stored_next g k = refl

module _ (g : Given) (n : ℕ) (c : Several g.log g.state g.block g.writer g.home n) where
  -- ---- where an entry may be logged

  module _ (e : Effect) (j : ℕ) (h : Stored g j e) (l : j < n) where
    pub may-log : (b : List ℕ) → BatchRoom g.state b n
        → MayLog e.log e.state b (state_of e.state) g.writer
        × Fits (state_of e.state) (writer_of e.state g.writer) (next_position (state_of e.state))
    may-log b room =
        let base : next_position (state_of g.state) ≡ 7 * (state_of g.state).next + (state_of g.state).filled = unfold next_position in refl in (
          record {
            state = refl;
            state_fits = h.state_fits;
            writer = c.writer;
            some = omega (arith, h.groups, c.some);
            few = omega (arith, h.groups, c.few);
            homes = omega (arith, h.homes, c.known);
            log = omega (arith, h.log, h.groups, c.log);
            high = omega (arith, h.start, c.high);
            low = ⊎_elim (λ m. omega (arith, h.start, c.low)) (λ m. omega (arith, h.start, c.low)) h.moved;
            room = next_low g n c e j h l;
            filled = h.filled;
            batch = λ f. let k = fills g n c e j h l f in room (omega arith);
          },
          record {
            home = omega (arith, h.home, c.homes);
            from = omega (arith, h.start, h.first, base, c.low);
            upto = omega (arith, h.first, position g n c e j h l);
            near = omega (arith, h.first, position g n c e j h l, c.most);
            many = omega (arith, h.count, c.most);
            high = omega (arith, position g n c e j h l, c.room, c.high, c.few);
            before = omega (arith, h.last, position g n c e j h l, c.last);
            link =
                link-small (state_of e.state).groups (state_of e.state) (omega (arith, h.groups, c.few)) (omega (arith, position g n c e j h l, c.room, h.start, h.groups))
                (omega (arith, h.last, position g n c e j h l, c.last));
          },
        )

    module _ (word : ℕ) (block : List ℕ) where
      abbrev lo : Logged
      lo = logged e.state e.log word block

      -- the batch's bytes, written one after the other at its first byte
      pub bytes-more : (b₀ b b' : List ℕ) → b ≡ puts b₀ 0 (batch_bytes e.records) → b' ≡ puts b 0 (batch_bytes lo.records)
          → b' ≡ puts b₀ 0 (batch_bytes (e.records ++ lo.records))
      unfolding batch_bytes
      bytes-more b₀ b b' p q = go h.moved
        where
          go : Moved (state_of g.state) j (state_of e.state) e.records
              → b' ≡ puts b₀ 0 (batch_bytes (e.records ++ lo.records))
          go (inl m) = q ∙ rw m.2 (ap (λ x. puts x 0 (batch_bytes lo.records)) (p ∙ rw m.2 (puts-nil b₀ 0)))
          go (inr m) =
              let z : lo.records ≡ [] = records-none e.state e.log word block (λ y. omega (arith, c.filled, c.most)) in
              q ∙ rw (z, append-nil) (puts-nil b 0 ∙ p)

  -- ---- one store more

  module _ (e : Effect) (j : ℕ) (h : Stored g j e) (l : suc j < n) where
    abbrev r : Writer
    r = writer_of e.state g.writer

    abbrev p : ℕ
    p = next_position (state_of e.state)

    abbrev block : List ℕ
    block = part g.block (64 * suc j) 64

    abbrev next : Given
    next = lent_on g e (g.home + suc j) (part g.block (64 * suc j) 64)

    abbrev en : Logged
    en =
        logged e.state e.log (entry_word (writer_of e.state g.writer).home (p - first_for (writer_of e.state g.writer) p))
        (held_of e.state g.writer)

    -- the slices, where they stood as e leaves them
    reached-more : (m k : ℕ) (b s' l' b' : List ℕ) → m ≡ length (batch_bytes e.records) → b ≡ puts g.batch 0 (batch_bytes e.records)
        → StoredOther k s' l' b' e.state e.log b block (state_of e.state) r g.writer (g.home + suc j)
        → Reached (m + k) s' l' b' g.batch (and_then g e (store_other next r p))
    unfolding and_then lent_on store_other log_held logged_entry
    reached-more m k b s' l' b' em eb d =
        record {
          size = rw (em, d.size) (sizes-more e.records en.records);
          state = d.state;
          log = d.log;
          batch = bytes-more e j h (omega arith) _ _ g.batch b b' eb d.batch;
        }

  -- ---- all of them

  first-is : stored_first g 1 ≡ and_then g (begin_effect g) (store_effect (lent_on g (begin_effect g) (g.home + 0) (part g.block (64 * 0) 64)))
  unfolding stored_first
  first-is = refl

  pub stored-reached : (j m k : ℕ) (s l b s' l' b' : List ℕ) → suc j < n → Reached m s l b g.batch (stored_first g (suc j))
      → StoredOther k s' l' b' s l b (part g.block (64 * suc j) 64) (state_of s) (writer_of s g.writer) g.writer (g.home + suc j)
      → Reached (m + k) s' l' b' g.batch (stored_first g (suc (suc j)))
  stored-reached j m k s l b s' l' b' lt q d =
      let h = stored g n c j (omega arith) in
      let e : Effect = stored_first g (suc j) in
      subst (Reached (m + k) s' l' b' g.batch) (sym (stored_next g (suc j) ∙ ap (and_then g e) (next-effect g n c e j h lt)))
      (reached-more e j h lt m k b s' l' b' q.size q.batch (rw (q.state, q.log) at d))

  first-reached : (s' : List ℕ) → s' ≡ set_held (set_writer (set_writer g.state g.writer begun) g.writer (holding (g.home + 0))) g.writer (part g.block (64 * 0) 64)
      → Reached 0 s' g.log g.batch g.batch (and_then g (begin_effect g) (store_first (lent_on g (begin_effect g) (g.home + 0) (part g.block (64 * 0) 64))))
  unfolding and_then lent_on begin_effect store_first new_state batch_bytes
  first-reached s' e = record { size = refl; state = e; log = refl; batch = sym (puts-nil g.batch 0) }

  pub stored-first : (s' : List ℕ) → s' ≡ set_held (set_writer (set_writer g.state g.writer begun) g.writer (holding (g.home + 0))) g.writer (part g.block (64 * 0) 64) → Reached 0 s' g.log g.batch g.batch (stored_first g 1)
  stored-first s' e =
      subst (Reached 0 s' g.log g.batch g.batch) (sym (first-is ∙ ap (and_then g (begin_effect g)) (first-effect g n c))) (first-reached s' e)
