-- What the closing entry leaves, and the stretch of the log that a commit looks at. Assumes nothing.
use mathlib.Core.Path.{◌≡◌, refl, sym, ap, ◌∙◌, subst}
use mathlib.Core.Bool.{Bool, true, false, not}
use mathlib.Core.List.{List, []}
use Prim.Native.Nat.{ℕ, ◌+◌, ◌-◌, ◌*◌}
use native.Mathlib.Omega.{arith}
use lib.ListN.{length}
use borrow.Author.Tests.{not-true}
use Rattle.model.specs.Layout.{entry_at}
use Rattle.model.specs.Commit.{entries}
use Rattle.model.specs.Newest.{keep_entries}
use Rattle.model.specs.declared.State.{State}
use Rattle.model.specs.declared.Writer.{Writer}
use Rattle.model.specs.State.{state_of, set_last, next_position, writer_of, set_writer, held_of, set_promise, idle, has_logged, first_for, count_for}
use Rattle.model.specs.Tag.{closing_word}
use Rattle.model.specs.Effects.{logged, link_from}
use Rattle.model.specs.Rights.{keep_list}
use Rattle.model_laws.proofs.state.StateLaws.{with_last, state-set_last}
use Rattle.model_laws.proofs.state.WriterLaws.{state-set_writer}
use Rattle.model_laws.proofs.state.PromiseLaws.{state-set_promise}
use Rattle.model_laws.proofs.state.LoggingLaws.{Advance, advance-position, logged-numbers, logged-length}
use Rattle.call_ask.specs.Lent.{lent_all}
use Rattle.call_rights.specs.Listed.{Left}
use Rattle.log_scan.specs.Members.{Stretch}
use Rattle.call_store.specs.Logs.{MayLog, Fits, Wrote}
use Rattle.call_commit.specs.Closings.{logged_closing, Closed, Committed, kept_under}

module _ (l s b : List ℕ) (st : State) (r : Writer) (w : ℕ) where
  pub committed : (p word n : ℕ) (s₁ s₂ s' l' b' : List ℕ) → p ≡ next_position st
      → word ≡ closing_word r.home (p - first_for r p) (link_from p st) (count_for r + 1) → Wrote n s₁ l' b' b (logged s l word (held_of s w))
      → s₂ ≡ set_last s₁ (p + 1) → s' ≡ set_writer s₂ w idle → Closed n s' l' b' s l b st r w
  unfolding logged_closing
  committed p word n s₁ s₂ s' l' b' ep ew h h₂ hs =
      let q : word ≡ closing_word r.home (next_position st - first_for r (next_position st)) (link_from (next_position st) st) (count_for r + 1) = ew ∙ rw ep in
      let k = rw q at h in
      record { size = k.size; state = hs ∙ rw (h₂, k.state, ep); log = k.log; batch = k.batch }

  -- and the newest positions, with the list's part of the strip
  pub committed-back : (n : ℕ) (s₁ s₂ s' l' b' p p' a : List ℕ) → Closed n s₁ l' b' s l b st r w → s₂ ≡ set_promise s₁ w 0 → p' ≡ kept_under l' st r p
      → s' ≡ keep_list (lent_all l' a s₂ p' [] [] 0 0) → Committed n s' p' l' b' s p l b a st r w
  committed-back n s₁ s₂ s' l' b' p p' a h e k q =
      record { size = h.size; state = q ∙ rw (e, h.state); newest = k; log = h.log; batch = h.batch }

  -- the numbers of the strip after the closing entry
  numbers_after : (n : ℕ) (s₁ s₂ l' b' : List ℕ) → MayLog l s b st w → Fits st r (next_position st) → Closed n s₁ l' b' s l b st r w → s₂ ≡ set_promise s₁ w 0
      → Advance st (state_of s₂) (next_position st + 1)
  unfolding logged_closing
  numbers_after n s₁ s₂ l' b' m f h e =
      let word : ℕ = closing_word r.home (next_position st - first_for r (next_position st)) (link_from (next_position st) st) (count_for r + 1) in
      let t : List ℕ = (logged s l word (held_of s w)).state in
      let x₁ : st.filled ≡ (state_of s).filled = ap (λ (x : State). x.filled) m.state in
      let x₂ : st.next ≡ (state_of s).next = ap (λ (x : State). x.next) m.state in
      let a : Advance st (state_of t) (state_of s).last =
      subst (λ (x : State). Advance x (state_of t) (state_of s).last) (sym m.state)
      (logged-numbers s l word (held_of s w) m.state_fits (omega (arith, m.filled, x₁)) (omega (arith, m.room, m.high, m.few, x₂))) in
      let size : length t ≡ 1024 = logged-length s l word (held_of s w) ∙ m.state_fits in
      let q : state_of s₂ ≡ with_last (state_of t) (next_position st + 1) =
      ap state_of e ∙ state-set_promise s₁ w 0 m.writer ∙ ap state_of h.state ∙ state-set_writer _ w idle
      ∙ state-set_last t (next_position st + 1) size (omega (arith, f.high)) in
      rw q
      (record {
        groups = a.groups;
        homes = a.homes;
        start = a.start;
        settled = a.settled;
        fenced = a.fenced;
        durable = a.durable;
        round = a.round;
        cursor = a.cursor;
        last = refl;
        moved = a.moved;
      })

  -- what is left for the list's part of the strip
  pub left_after : (n : ℕ) (s₁ s₂ l' b' p a : List ℕ) → MayLog l s b st w → Fits st r (next_position st) → Closed n s₁ l' b' s l b st r w → s₂ ≡ set_promise s₁ w 0
      → length l' ≡ length l → length s₂ ≡ 1024 → length p ≡ 8 * st.homes → length a ≡ 64 * st.homes → Left l' a s₂ p
  left_after n s₁ s₂ l' b' p a m f h e el es ep ea =
      let v : Advance st (state_of s₂) (next_position st + 1) = numbers_after n s₁ s₂ l' b' m f h e in
      let k = advance-position st (state_of s₂) (next_position st + 1) v in
      let q : next_position st ≡ 7 * st.next + st.filled = unfold next_position in refl in
      record {
        search =
            record {
              long = omega (arith, el, m.log, v.groups);
              least = omega (arith, m.some, v.groups);
              most = omega (arith, m.few, v.groups);
              homes-most = omega (arith, m.homes, v.homes);
              low = omega (arith, m.high, v.start);
              next = unfold next_position in refl;
              first = omega (arith, k, q, m.low, v.start);
              within = omega (arith, k, q, m.room, m.filled, v.start, v.groups);
            };
        state_fits = es;
        long = omega (arith, ea, v.homes);
        kept = omega (arith, ep, v.homes);
      }

  -- the stretch of the log from the transaction's first position to the closing one
  pub stretch : (l' : List ℕ) → MayLog l s b st w → Fits st r (next_position st) → length l' ≡ length l
      → Stretch l' st.groups st.start (first_for r (next_position st)) (next_position st + 1)
  stretch l' m f e =
      let q : next_position st ≡ 7 * st.next + st.filled = unfold next_position in refl in
      record {
        long = e ∙ m.log;
        some = omega (arith, m.some);
        most = m.few;
        low = m.high;
        from = f.from;
        upto = omega (arith, f.upto);
        within = omega (arith, q, m.room, m.filled);
      }

-- the newest positions, from what the pass was handed
module _ (log : List ℕ) (st : State) (r : Writer) (f p : ℕ) (ep : p ≡ next_position st) (ef : f ≡ first_for r p) where
  pub stretch-at : Stretch log st.groups st.start (first_for r (next_position st)) (next_position st + 1) → Stretch log st.groups st.start f (p + 1)
  stretch-at h = rw (ef, ep) h

  pub kept_by : (newest after : List ℕ)
      → after
      ≡ keep_entries (entry_at log st.groups st.homes st.start)
      (entries (entry_at log st.groups st.homes st.start) (7 * st.start) (record { first = f; closing = p }))
      newest
      → after ≡ kept_under log st r newest
  unfolding kept_under
  kept_by newest after e = e ∙ rw (ef, ep)

-- where nothing was logged before, one position
module _ (log : List ℕ) (st : State) (r : Writer) (t : Bool) (et : t ≡ has_logged r) (n : not t ≡ true) where
  unlogged : has_logged r ≡ false
  unlogged = sym et ∙ not-true t n

  pub stretch-one : Stretch log st.groups st.start (first_for r (next_position st)) (next_position st + 1)
      → Stretch log st.groups st.start (7 * st.next + st.filled) (7 * st.next + st.filled + 1)
  unfolding first_for next_position
  stretch-one h = rw unlogged at h

  pub kept-one : (newest after : List ℕ)
      → after
      ≡ keep_entries (entry_at log st.groups st.homes st.start)
      (entries (entry_at log st.groups st.homes st.start) (7 * st.start) (record { first = 7 * st.next + st.filled; closing = 7 * st.next + st.filled }))
      newest
      → after ≡ kept_under log st r newest
  unfolding kept_under first_for next_position
  kept-one newest after e = rw unlogged e

-- by the numbers and the record that stand in the strip, there and back
module _ (l s b p a : List ℕ) (st : State) (r : Writer) (w : ℕ) (es : st ≡ state_of s) (er : r ≡ writer_of s w) where
  pub closing_at : MayLog l s b (state_of s) w × Fits (state_of s) (writer_of s w) (next_position (state_of s)) × (length p ≡ 8 * (state_of s).homes) × (length a ≡ 64 * (state_of s).homes)
      → MayLog l s b st w × Fits st r (next_position st) × (length p ≡ 8 * st.homes) × (length a ≡ 64 * st.homes)
  closing_at h = rw (es, er) h

  pub closing-own : MayLog l s b st w × Fits st r (next_position st) × (length p ≡ 8 * st.homes) × (length a ≡ 64 * st.homes)
      → MayLog l s b (state_of s) w × Fits (state_of s) (writer_of s w) (next_position (state_of s)) × (length p ≡ 8 * (state_of s).homes) × (length a ≡ 64 * (state_of s).homes)
  closing-own h = rw (es, er) at h

  pub committed-at : (n : ℕ) (s' p' l' b' : List ℕ) → Committed n s' p' l' b' s p l b a st r w
      → Committed n s' p' l' b' s p l b a (state_of s) (writer_of s w) w
  committed-at n s' p' l' b' d = rw (es, er) at d

  pub committed-own : (n : ℕ) (s' p' l' b' : List ℕ) → Committed n s' p' l' b' s p l b a (state_of s) (writer_of s w) w
      → Committed n s' p' l' b' s p l b a st r w
  committed-own n s' p' l' b' d = rw (es, er) d
