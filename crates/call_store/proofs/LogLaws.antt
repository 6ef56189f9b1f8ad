-- An entry logged: whether it may be, and what it leaves. Assumes nothing.
use mathlib.Core.Path.{◌≡◌, refl, sym, ap, ◌∙◌}
use mathlib.Core.Bool.{Bool, true, false, cond, not}
use mathlib.Core.List.{List, [], ◌∷◌}
use mathlib.Core.Logic.{◌≢◌}
use Prim.Native.Nat.{ℕ, ◌+◌, ◌-◌, ◌*◌, ◌%◌, ◌^◌, ◌≤◌, ◌<◌}
use native.Mathlib.Omega.{arith}
use lib.Dec.{eqb, leb}
use lib.ListN.{length, take, drop}
use borrow.Author.Tests.{le-leb, lt-leb, leb-false, not-true, not-false, eq-eqb, ne_eqb}
use Rattle.model.specs.Bytes.{part, puts}
use Rattle.model.specs.Layout.{group_at}
use Rattle.model.specs.Batch.{GW, record_bytes, batch_bytes}
use Rattle.model.specs.declared.State.{State}
use Rattle.model.specs.declared.Writer.{Writer}
use Rattle.model.specs.State.{state_of, set_next, set_filled, next_position, writer_of, set_writer, held_offset, held_of, set_held, set_promise, promise_left, holding, logging, holds, has_logged, first_for, count_for}
use Rattle.model.specs.Tag.{entry_word}
use Rattle.model.specs.Effects.{entered, submitted, logged, link_from}
use Rattle.model.specs.Questions.{ask}
use Rattle.model_laws.proofs.bytes.ByteLaws.{puts-nil}
use Rattle.model_laws.proofs.state.QuestionLaws.{ask-yes, ask-no}
use Rattle.model_laws.proofs.state.BatchLaws.{length-GW, batch-one}
use Rattle.base_writers.specs.Held.{held_for}
use Rattle.base_writers.specs.Frame.{SameElsewhere}
use Rattle.base_writers.proofs.HeldLaws.{held_first, held-other}
use Rattle.base_writers.proofs.FrameLaws.{elsewhere, set_next-writer, set_filled-writer}
use Rattle.call_store.specs.Logs.{MayLog, Fits, Wrote, logged_entry, HeldNext, StoredOther}
use Rattle.call_store.proofs.CallLaws.{length-slot}
use Rattle.model_laws.proofs.state.LoggingLaws.{length-entered}

-- ---- room in the log and in the batch

pub log-full : (b has : Bool) (v : ℕ) → b ≡ has → not b ≡ true → 8 ≡ ask has 8 v
log-full b has v e h = sym (ask-no has 8 v (sym e ∙ not-true b h))

pub log-room : (b has : Bool) (v r : ℕ) → b ≡ has → not b ≡ false → r ≡ v → r ≡ ask has 8 v
log-room b has v r e h k = k ∙ sym (ask-yes has 8 v (sym e ∙ not-false b h))

pub batch-any : (f len : ℕ) → f ≢ 6 → 0 ≡ ask (leb (cond (eqb f 6) 516 0) len) 9 0
batch-any f len h = rw (ne_eqb f 6 h) (sym (ask-yes (leb 0 len) 9 0 (le-leb 0 len (omega arith))))

pub batch-short : (f len : ℕ) → f ≡ 6 → len < 516 → 9 ≡ ask (leb (cond (eqb f 6) 516 0) len) 9 0
batch-short f len h l = rw (eq-eqb f 6 h) (sym (ask-no (leb 516 len) 9 0 (lt-leb 516 len l)))

pub batch-full : (f len : ℕ) → f ≡ 6 → 516 ≤ len → 0 ≡ ask (leb (cond (eqb f 6) 516 0) len) 9 0
batch-full f len h l = rw (eq-eqb f 6 h) (sym (ask-yes (leb 516 len) 9 0 (le-leb 516 len l)))

-- ---- the link

pub link-none : (p : ℕ) (st : State) → st.last ≤ 7 * st.start → 0 ≡ link_from p st
unfolding link_from
link-none p st h = rw (le-leb st.last (7 * st.start) h)

pub link-some : (p : ℕ) (st : State) → 7 * st.start < st.last → p + 1 - st.last ≡ link_from p st
unfolding link_from
link-some p st h = rw (lt-leb st.last (7 * st.start) h)

-- ---- what logging leaves

pub held-lent : (s : List ℕ) (w at : ℕ) → at ≡ 320 + 64 * w → take (at + 64 - at) (drop at s) ≡ held_of s w
unfolding held_of part held_offset
held-lent s w at e = let h : at + 64 - at ≡ 64 = omega arith in rw (h, e)

logged-as : (s l : List ℕ) (word : ℕ) (x : List ℕ) (st : State) (t : Bool) → st ≡ state_of s → eqb st.filled 6 ≡ t
    → logged s l word x ≡ submitted t s st (st.next % st.groups) (entered st (st.next % st.groups) l word x)
unfolding logged
logged-as s l word x st t es et = let e : eqb (state_of s).filled 6 ≡ t = rw es at et in rw (es, e)

submitted-part : (s : List ℕ) (st : State) (slot : ℕ) (l : List ℕ)
    → submitted false s st slot l ≡ record { state = set_filled s (st.filled + 1); log = l; records = [] }
unfolding submitted
submitted-part s st slot l = refl

submitted-full : (s : List ℕ) (st : State) (slot : ℕ) (l : List ℕ)
    → submitted true s st slot l ≡ record { state = set_filled (set_next s (st.next + 1)) 0; log = l; records = GW slot (group_at l slot) ∷ [] }
unfolding submitted
submitted-full s st slot l = refl

module _ (l s b : List ℕ) (st : State) (w : ℕ) (m : MayLog l s b st w) (word : ℕ) (x : List ℕ) (xh : x ≡ held_of s w) (slot : ℕ)
    (es : slot ≡ st.next % st.groups) where
  pub kept : (s' l' : List ℕ) → st.filled ≢ 6 → l' ≡ entered st slot l word x → s' ≡ set_filled s (st.filled + 1)
      → Wrote 0 s' l' b b (logged s l word (held_of s w))
  unfolding batch_bytes
  kept s' l' f hl hs =
      rw (logged-as s l word (held_of s w) st false m.state (ne_eqb st.filled 6 f), submitted-part)
      (record { size = refl; state = hs; log = hl ∙ rw (xh, es); batch = sym (puts-nil b 0) })

  pub handed : (n : ℕ) (s₁ s' l' b' : List ℕ) → st.filled ≡ 6 → l' ≡ entered st slot l word x
      → s₁ ≡ set_next s (st.next + 1) → s' ≡ set_filled s₁ 0 → n ≡ 0 + 516
      → b' ≡ puts b 0 (record_bytes (GW slot (group_at l' slot)))
      → Wrote n s' l' b' b (logged s l word (held_of s w))
  handed n s₁ s' l' b' f hl' h₁ hs hn hb' =
      let hl : l' ≡ entered st (st.next % st.groups) l word x = hl' ∙ rw es in
      let hb : b' ≡ puts b 0 (record_bytes (GW (st.next % st.groups) (group_at l' (st.next % st.groups)))) = hb' ∙ rw es in
      let le : length l' ≡ length l = ap length hl ∙ length-entered st (st.next % st.groups) l word x in
      let lg = length-slot l' st.next st.groups (omega (arith, m.some)) (omega (arith, m.log)) in
      let e : l' ≡ entered st (st.next % st.groups) l word (held_of s w) = hl ∙ rw xh in
      rw (logged-as s l word (held_of s w) st true m.state (eq-eqb st.filled 6 f), submitted-full, ← e)
      (record { size = hn ∙ sym (ap length (batch-one _) ∙ length-GW _ _ lg); state = hs ∙ rw h₁; log = refl; batch = hb ∙ rw batch-one })

-- how many bytes the batch holds once an entry is logged
pub logged-size : (s l : List ℕ) (word : ℕ) (x : List ℕ) (st : State) → st ≡ state_of s → 1 ≤ st.groups → 64 + 512 * st.groups ≤ length l
    → length (batch_bytes (logged s l word x).records) ≡ cond (eqb st.filled 6) 516 0
logged-size s l word x st es h k = go (eqb st.filled 6) refl
  where
    l' : List ℕ
    l' = entered st (st.next % st.groups) l word x

    le : length l' ≡ length l
    le = length-entered st (st.next % st.groups) l word x

    go : (t : Bool) → eqb st.filled 6 ≡ t → length (batch_bytes (logged s l word x).records) ≡ cond t 516 0
    go true e =
        rw (logged-as s l word x st true es e, submitted-full)
        (ap length (batch-one _) ∙ length-GW _ _ (length-slot l' st.next st.groups h (omega (arith, le))))
    go false e = rw (logged-as s l word x st false es e, submitted-part) (unfold batch_bytes in refl)

-- ---- a change of a writer's record before its held block is logged

submitted-record : (t : Bool) (s : List ℕ) (st : State) (slot : ℕ) (l : List ℕ) (w : ℕ) (r : Writer)
    → submitted t (set_writer s w r) st slot l
    ≡ record { state = set_writer (submitted t s st slot l).state w r; log = (submitted t s st slot l).log; records = (submitted t s st slot l).records }
unfolding submitted
submitted-record true s st slot l w r = rw (set_next-writer, set_filled-writer)
submitted-record false s st slot l w r = rw set_filled-writer

-- the numbers and the block that are logged stay, and logging leaves the record
record-first : (s l : List ℕ) (word w : ℕ) (r : Writer) → w < 8
    → logged (set_writer s w r) l word (held_of (set_writer s w r) w)
    ≡ record {
      state = set_writer (logged s l word (held_of s w)).state w r;
      log = (logged s l word (held_of s w)).log;
      records = (logged s l word (held_of s w)).records;
    }
unfolding logged
record-first s l word w r h =
    let same : SameElsewhere w s (set_writer s w r) = elsewhere s w r h in
    rw (same.held w, same.numbers) (submitted-record (eqb (state_of s).filled 6) s (state_of s) _ _ w r)

-- the entry may still be logged
-- of the numbers that stand in the strip
pub may_read : (l s b : List ℕ) (st : State) (w : ℕ) → st ≡ state_of s → MayLog l s b (state_of s) w → MayLog l s b st w
may_read l s b st w e m = rw e m

pub may-own : (l s b : List ℕ) (st : State) (w : ℕ) → MayLog l s b st w → MayLog l s b (state_of s) w
may-own l s b st w m = rw (← m.state) m

pub may-after : (l s s₁ b : List ℕ) (st : State) (w : ℕ) (r : Writer) → MayLog l s b st w → s₁ ≡ set_writer s w r → MayLog l s₁ b st w
may-after l s s₁ b st w r m e =
    let same : SameElsewhere w s (set_writer s w r) = elsewhere s w r m.writer in
    record {
      state = m.state ∙ sym (ap state_of e ∙ same.numbers);
      state_fits = ap length e ∙ same.size ∙ m.state_fits;
      writer = m.writer;
      some = m.some;
      few = m.few;
      log = m.log;
      high = m.high;
      low = m.low;
      room = m.room;
      homes = m.homes;
      filled = m.filled;
      batch = m.batch;
    }

-- ---- a store that logs

module _ (l s b : List ℕ) (st : State) (r : Writer) (w : ℕ) where
  pub stored : (x : List ℕ) (home p word n : ℕ) (s₁ s₂ s' l' b' : List ℕ) → w < 8 → p ≡ next_position st → word ≡ entry_word r.home (p - first_for r p)
      → holds r ≡ true → r.home ≢ home → s₁ ≡ set_writer s w (held_for r home p)
      → Wrote n s₂ l' b' b (logged s₁ l word (held_of s₁ w)) → s' ≡ set_held s₂ w x → HeldNext n s' l' b' s l b x st r w home
  unfolding logged_entry
  stored x home p word n s₁ s₂ s' l' b' hw ep ew ho hn h₁ h hs =
      let q : word ≡ entry_word r.home (next_position st - first_for r (next_position st)) = ew ∙ rw ep in
      let e : s₁ ≡ set_writer s w (logging home (first_for r (next_position st)) (count_for r + 1)) =
      h₁ ∙ rw (held-other r home p ho hn, ep) in
      let k = rw (e, record-first s l word w (logging home (first_for r (next_position st)) (count_for r + 1)) hw, q) at h in
      record { size = k.size; state = hs ∙ rw k.state; log = k.log; batch = k.batch }

  -- and the promise
  pub stored-used : (x : List ℕ) (home n k : ℕ) (s₁ s' l' b' : List ℕ) → k ≡ promise_left s w → HeldNext n s₁ l' b' s l b x st r w home
      → s' ≡ set_promise s₁ w k → StoredOther n s' l' b' s l b x st r w home
  stored-used x home n k s₁ s' l' b' ek h e = record { size = h.size; state = e ∙ rw (h.state, ek); log = h.log; batch = h.batch }

-- a store that logs nothing
pub none-logged : (r : Writer) → holds r ≡ false → count_for r + 1 < 2 ^ 64
unfolding holds count_for has_logged
none-logged r h = let e : leb 3 r.mode ≡ false = lt-leb 3 r.mode (omega (arith, leb-false 2 r.mode h)) in rw e (omega arith)

pub stored-first : (s s₁ s' x : List ℕ) (r : Writer) (w home : ℕ) → holds r ≡ false → s₁ ≡ set_writer s w (held_for r home 0) → s' ≡ set_held s₁ w x
    → s' ≡ set_held (set_writer s w (holding home)) w x
stored-first s s₁ s' x r w home h h₁ hs = hs ∙ rw (h₁, held_first r home 0 h)

pub at_position : (st : State) (r : Writer) (p q : ℕ) → p ≡ q → Fits st r q → Fits st r p
at_position st r p q e f = rw e f

-- ---- by the numbers and the record that stand in the strip, there and back

pub next-at : (l s b x : List ℕ) (st : State) (r : Writer) (w home : ℕ) → st ≡ state_of s → r ≡ writer_of s w
    → MayLog l s b (state_of s) w × Fits (state_of s) (writer_of s w) (next_position (state_of s)) × (length x ≡ 64) × (holds (writer_of s w) ≡ true)
    × ((writer_of s w).home ≢ home)
    → MayLog l s b st w × Fits st r (next_position st) × (length x ≡ 64) × (holds r ≡ true) × (r.home ≢ home)
next-at l s b x st r w home es er h = rw (es, er) h

pub stored_at : (k : ℕ) (s' l' b' s l b x : List ℕ) (st : State) (r : Writer) (w home : ℕ) → st ≡ state_of s → r ≡ writer_of s w
    → StoredOther k s' l' b' s l b x st r w home → StoredOther k s' l' b' s l b x (state_of s) (writer_of s w) w home
stored_at k s' l' b' s l b x st r w home es er d = rw (es, er) at d

pub next-own : (l s b x : List ℕ) (st : State) (r : Writer) (w home : ℕ) → st ≡ state_of s → r ≡ writer_of s w
    → MayLog l s b st w × Fits st r (next_position st) × (length x ≡ 64) × (holds r ≡ true) × (r.home ≢ home)
    → MayLog l s b (state_of s) w × Fits (state_of s) (writer_of s w) (next_position (state_of s)) × (length x ≡ 64) × (holds (writer_of s w) ≡ true)
    × ((writer_of s w).home ≢ home)
next-own l s b x st r w home es er h = rw (es, er) at h

pub stored-own : (k : ℕ) (s' l' b' s l b x : List ℕ) (st : State) (r : Writer) (w home : ℕ) → st ≡ state_of s → r ≡ writer_of s w
    → StoredOther k s' l' b' s l b x (state_of s) (writer_of s w) w home → StoredOther k s' l' b' s l b x st r w home
stored-own k s' l' b' s l b x st r w home es er d = rw (es, er) d
