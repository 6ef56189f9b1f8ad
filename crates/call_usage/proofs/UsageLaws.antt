-- What the numbers of a strip in order allow, and how usage ends. Assumes nothing.
use mathlib.Core.Path.{◌≡◌, refl, sym, ◌∙◌}
use mathlib.Core.Bool.{Bool, true, false, cond}
use mathlib.Core.List.{List, []}
use mathlib.Core.Logic.{◌≢◌}
use Prim.Native.Nat.{ℕ, zero, suc, ◌+◌, ◌-◌, ◌*◌, ◌^◌, ◌≤◌, ◌<◌}
use native.Mathlib.Numerals.{add-one}
use native.Mathlib.Omega.{arith}
use borrow.Author.Tests.{leb-true, eq-eqb, ne_eqb, lt-ltb, le-ltb}
use lib.ListN.{length}
use Rattle.model.specs.Layout.{entry_at}
use Rattle.model.specs.Commit.{transactions}
use Rattle.model.specs.State.{state_of, next_position, places, promised, writer_of, has_logged, count_for}
use Rattle.model.specs.Effects.{Given, tags_of, live_tags, live_base}
use Rattle.model.specs.Questions.{ask_state}
use Rattle.model.specs.declared.Usage.{Usage}
use Rattle.model.specs.declared.Holder.{Holder}
use Rattle.abstract_store.specs.Usage.{no_holder, holds_lower, holder_of, entries_in, committed_entries, open_entries, usage_of, usage_refused, usage_if, usage_call}
use Rattle.model.specs.declared.State.{State}
use Rattle.model.specs.declared.Writer.{Writer}
use Rattle.model_laws.proofs.state.OrderLaws.{next-within}
use Rattle.call_ask.specs.Lent.{lent}
use Rattle.call_ask.proofs.AnswerLaws.{Usable}
use Rattle.call_usage.specs.Sums.{CountsFit}

-- ---- the numbers of a strip in order

pub record Numbers (log : List ℕ) (st : State) : Type 0 where
  pub long : length log ≡ 64 + 512 * st.groups
  pub least : 4 ≤ st.groups
  pub most : st.groups ≤ 1024
  pub homes-most : st.homes ≤ 65535
  pub low : st.start ≤ 2 ^ 47
  pub next : 7 * st.next + st.filled ≡ next_position st
  pub first : 7 * st.start ≤ next_position st
  pub within : next_position st ≤ 7 * (st.start + st.groups)
  pub free-most : places st ≤ 7 * st.groups

pub numbers : (log area state : List ℕ) (st : State) → Usable log area state → st ≡ state_of state → Numbers log st
unfolding next_position places
numbers log area state st u e =
    let o = u.order in
    rw e
    (record {
      long = omega arith;
      least = omega arith;
      most = omega arith;
      homes-most = omega arith;
      low = o.start-most;
      next = refl;
      first = omega arith;
      within = rw o.groups-same (next-within state _ _ o);
      free-most = omega arith;
    })

pub counts-fit : (log area state : List ℕ) → Usable log area state → CountsFit state
unfolding count_for
counts-fit log area state u w l = go (has_logged (writer_of state w)) refl
  where
    go : (d : Bool) → has_logged (writer_of state w) ≡ d → cond d (writer_of state w).count 0 ≤ 7168
    go true e =
        let k = (u.order.writers w l).logged (leb-true 3 (writer_of state w).mode (unfold has_logged in e)) in
        let n = next-within state _ _ u.order in
        omega (arith, k, n, u.groups-most, u.order.groups-same)
    go false e = omega arith

-- ---- open transactions

pub open_none : (s : List ℕ) → 0 ≡ open_entries s 0
unfolding open_entries
open_none s = refl

pub open_more : (s : List ℕ) (w sum n : ℕ) → sum ≡ open_entries s w → n ≡ count_for (writer_of s w) → sum + n ≡ open_entries s (w + 1)
unfolding open_entries
open_more s w sum n e q = rw (add-one w, e, q)

-- a writer's record t, which is r, against the holder h of the writers before it
module _ (t r : Writer) (e : t ≡ r) (w : ℕ) (h : Holder) where
  abbrev new : Writer → Holder
  new x = record { writer = w; first = x.first }

  pub lower-none : has_logged t ≡ false → h ≡ cond (holds_lower r h) (new r) h
  unfolding holds_lower
  lower-none d = rw (← e, d)

  pub lower-not : has_logged t ≡ true → h.writer ≢ 8 → h.first ≤ t.first → h ≡ cond (holds_lower r h) (new r) h
  unfolding holds_lower
  lower-not d n l = rw (← e, d, ne_eqb h.writer 8 n, le-ltb t.first h.first l)

  pub lower-first : has_logged t ≡ true → h.writer ≡ 8 → new t ≡ cond (holds_lower r h) (new r) h
  unfolding holds_lower
  lower-first d n = rw (← e, d, eq-eqb h.writer 8 n)

  pub lower-less : has_logged t ≡ true → h.writer ≢ 8 → t.first < h.first → new t ≡ cond (holds_lower r h) (new r) h
  unfolding holds_lower
  lower-less d n l = rw (← e, d, ne_eqb h.writer 8 n, lt-ltb t.first h.first l)

pub holder-none : (s : List ℕ) → ◌≡◌ {A = Holder} (record { writer = 8; first = 0 }) (holder_of s 0)
unfolding holder_of no_holder
holder-none s = refl

pub holder-more : (s : List ℕ) (w : ℕ) (h r : Holder) → h ≡ holder_of s w
    → r ≡ cond (holds_lower (writer_of s w) h) (record { writer = w; first = (writer_of s w).first }) h → r ≡ holder_of s (w + 1)
unfolding holder_of
holder-more s w h r e q = q ∙ rw (add-one w, e)

-- ---- what the call tells

committed-is : (log area state : List ℕ) (st : State) (n r : ℕ) → Usable log area state → st ≡ state_of state → n ≡ next_position st - 7 * st.start
    → r ≡ entries_in (transactions (entry_at log st.groups st.homes st.start) (7 * st.start) n)
    → r ≡ committed_entries (lent log area state [] [] 0 0)
unfolding committed_entries live_tags tags_of live_base
committed-is log area state st n r u e k q =
    let o = u.order in q ∙ rw (k, e, o.groups-same, o.homes_same)

pub live-is : (log area state : List ℕ) (st : State) (n r o : ℕ) → Usable log area state → st ≡ state_of state → n ≡ next_position st - 7 * st.start
    → r ≡ entries_in (transactions (entry_at log st.groups st.homes st.start) (7 * st.start) n) → o ≡ open_entries state 8
    → r + o ≡ committed_entries (lent log area state [] [] 0 0) + open_entries state 8
live-is log area state st n r o u e k q d = rw (committed-is log area state st n r u e k q, d)

pub usage-refused : (g : Given) (code : ℕ) (r : Usage) → code ≡ ask_state g 0 → code ≢ 0 → r ≡ usage_refused code → r ≡ usage_call g
unfolding usage_call usage_if
usage-refused g zero r e n q = absurd (n refl)
usage-refused g (suc k) r e n q = rw (← e) q

pub usage-done : (g : Given) (code : ℕ) (r : Usage) → code ≡ ask_state g 0 → code ≡ 0 → r ≡ usage_of g → r ≡ usage_call g
unfolding usage_call usage_if
usage-done g code r e n q = let z : ask_state g 0 ≡ 0 = sym e ∙ n in rw z q

pub usage-told : (log area state : List ℕ) (st : State) (used left gone sure : ℕ) (h : Holder) → Usable log area state → st ≡ state_of state
    → used ≡ committed_entries (lent log area state [] [] 0 0) + open_entries state 8 → left ≡ places st → gone ≡ 7 * st.groups - left - used
    → sure ≡ promised state 8 → h ≡ holder_of state 8
    → ◌≡◌ {A = Usage} (record { code = 0; live = used; dead = gone; free = left; promised = sure; holder = h.writer; first = h.first })
    (usage_of (lent log area state [] [] 0 0))
unfolding usage_of
usage-told log area state st used left gone sure h u e a b c d i =
    let o = u.order in rw (c, a, b, d, i, e, o.groups-same)
