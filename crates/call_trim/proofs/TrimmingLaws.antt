-- Laws for trim: the start that it moves to, what it writes, and how it ends. Assumes nothing.
use mathlib.Core.Path.{◌≡◌, refl, sym, ap, ◌∙◌}
use mathlib.Core.Bool.{true}
use mathlib.Core.List.{List, [], ◌∷◌, append-nil}
use Prim.Native.Nat.{ℕ, ◌+◌, ◌-◌, ◌*◌, ◌/◌, ◌^◌, ◌≤◌, ◌<◌}
use native.Mathlib.Omega.{arith}
use lib.Dec.{leb}
use lib.ListN.{length, length-append}
use borrow.Author.Tests.{le-leb, lt-leb, eq-eqb, ne_eqb}
use Rattle.model.specs.Bytes.{puts}
use Rattle.model.specs.Layout.{max_start, header, entry_at}
use Rattle.model.specs.Commit.{committed}
use Rattle.model.specs.State.{state_of, next_position, set_start, set_fenced, set_last}
use Rattle.model.specs.Newest.{forget, carry_listed}
use Rattle.model.specs.Batch.{KW, FN, record_bytes, batch_bytes}
use Rattle.model.specs.Effects.{Given, groups, homes, new_state, tags_of, live_tags, live_base, none_open_before, may_start, largest, trim_start, trim_to, trim_effect}
use Rattle.model.specs.Questions.{start_fits, batch_fits, ask_newest, trim_answer}
use Rattle.model.specs.Calls.{size_of, outcome, trim_call}
use Rattle.model.specs.declared.State.{State}
use Rattle.model_laws.proofs.state.BatchLaws.{length-KW, length-FN}
use Rattle.model_laws.proofs.bytes.ByteLaws.{puts-append}
use Rattle.model_laws.proofs.rule.Closings.{closings, end_of}
use Rattle.model_laws.proofs.rule.ClosingLaws.{committed-closings, committed-most}
use Rattle.model_laws.proofs.bytes.LayoutLaws.{length-header}
use Rattle.model_laws.proofs.state.OrderLaws.{InOrder, next-within}
use Rattle.model_laws.proofs.state.QuestionLaws.{ask-yes, ask-no}
use Rattle.call_ask.specs.Lent.{lent_all, leaves_everything, lent}
use Rattle.call_ask.proofs.AnswerLaws.{Usable, refused-by, done-by, state-by}
use Rattle.call_ask.proofs.NewestAnswers.{newest-refuses, newest-passes}
use Rattle.log_scan.specs.Walk.{Walkable}
use Rattle.log_limits.specs.Limits.{Highest}
use Rattle.log_limits.proofs.WriterLaws.{open-from}
use Rattle.log_limits.proofs.SpanLaws.{lowered_none, lowered-end}
use Rattle.log_limits.proofs.LimitLaws.{trim-none, trim-is}
use Rattle.call_trim.specs.Moved.{kept_last, moved_state}

-- ---- the numbers of a strip in order

pub record Numbers (log : List ℕ) (st : State) : Type 0 where
  pub long : length log ≡ 64 + 512 * st.groups
  pub least : 4 ≤ st.groups
  pub most : st.groups ≤ 1024
  pub homes-most : st.homes ≤ 65535
  pub low : st.start ≤ 2 ^ 47
  pub next : 7 * st.next + st.filled ≡ next_position st
  pub next-most : st.next ≤ st.start + st.groups
  pub first : 7 * st.start ≤ next_position st
  pub within : next_position st ≤ 7 * (st.start + st.groups)
  pub settled : 7 * st.start ≤ st.settled
  pub settled-most : st.settled ≤ 7 * (st.start + st.groups)

pub numbers : (log area state : List ℕ) (st : State) → Usable log area state → st ≡ state_of state → Numbers log st
unfolding next_position
numbers log area state st u e =
    let o = u.order in
    rw e
    (record {
      long = omega arith;
      least = omega arith;
      most = omega arith;
      homes-most = omega arith;
      low = o.start-most;
      next = refl;
      next-most = o.next-most;
      first = omega arith;
      within = rw o.groups-same (next-within state _ _ o);
      settled = o.start-settled;
      settled-most = omega arith;
    })

pub order-own : (log area state : List ℕ) (st : State) → Usable log area state → st ≡ state_of state → InOrder state st.groups st.homes
order-own log area state st u e = let o = u.order in rw (e, o.groups-same, o.homes_same) o

-- ---- the start

-- it does not depend on the batch
pub start-only : (l a s p b t : List ℕ) (w h : ℕ) → trim_start (lent_all l a s p b t w h) ≡ trim_start (lent l a s [] [] 0 0)
unfolding trim_start live_tags tags_of live_base
start-only l a s p b t w h = refl

module _ (log : List ℕ) (st : State) where
  pub walkable : (n end : ℕ) → Numbers log st → n ≡ next_position st - 7 * st.start
      → end ≡ end_of (committed (entry_at log st.groups st.homes st.start) (7 * st.start) n) → Walkable log st.groups st.start end
  walkable n end m g e =
      let w = committed-most (entry_at log st.groups st.homes st.start) (7 * st.start) n in
      record { long = m.long; some = omega arith; most = m.most; low = m.low; within = omega arith }

pub start-found : (log area state : List ℕ) (st : State) (n end x : ℕ) → Usable log area state → st ≡ state_of state → n ≡ next_position st - 7 * st.start
    → end ≡ end_of (committed (entry_at log st.groups st.homes st.start) (7 * st.start) n)
    → x ≡ largest (may_start state (closings (entry_at log st.groups st.homes st.start) (7 * st.start) (end - 7 * st.start))) st.start
    (st.settled / 7 - st.start)
    → x ≡ trim_start (lent log area state [] [] 0 0)
unfolding trim_start live_tags tags_of live_base
start-found log area state st n end x u es g e h =
    let o = u.order in
    let c = committed-closings (entry_at log st.groups st.homes st.start) (7 * st.start) n in
    rw (← o.groups-same, ← o.homes_same, ← es, ← g, c, ← e) h

-- the highest start that no open transaction lies across is one of the log's groups or the next
pub limit-within : (log area state : List ℕ) (st : State) (x : ℕ) → Usable log area state → st ≡ state_of state
    → Highest (λ t. none_open_before (7 * t) state 8) (st.settled / 7) x → (st.start ≤ x) × (x ≤ st.start + st.groups)
limit-within log area state st x u es h =
    let m = numbers log area state st u es in (
      open-from state st.groups st.homes st.start (st.settled / 7) x (order-own log area state st u es) (ap (λ (s : State). s.start) (sym es))
          (omega (arith, m.settled)) h,
      omega (arith, h.most, m.settled-most),
    )

-- open transactions leave no start but the log's own
pub start-kept : (log area state : List ℕ) (st : State) (x : ℕ) → st ≡ state_of state → Highest (λ t. none_open_before (7 * t) state 8) (st.settled / 7) x
    → x ≡ st.start → x ≡ trim_start (lent log area state [] [] 0 0)
unfolding trim_start
start-kept log area state st x es h e = rw (← es) (e ∙ trim-none state _ st.start (st.settled / 7) (rw e at h))

-- no entry lies past the highest start that open transactions leave
pub start-past : (log area state : List ℕ) (st : State) (x : ℕ) → Usable log area state → st ≡ state_of state
    → Highest (λ t. none_open_before (7 * t) state 8) (st.settled / 7) x → next_position st ≤ 7 * x → x ≡ trim_start (lent log area state [] [] 0 0)
start-past log area state st x u es h k =
    let m = numbers log area state st u es in
    let w = limit-within log area state st x u es h in
    let n : ℕ = next_position st - 7 * st.start in
    let end : ℕ = end_of (committed (entry_at log st.groups st.homes st.start) (7 * st.start) n) in
    let l : end ≤ 7 * x = omega (arith, committed-most (entry_at log st.groups st.homes st.start) (7 * st.start) n, m.first) in
    start-found log area state st n end x u es refl refl
    (trim-is state _ st.start (st.settled / 7) x x w.0 (omega (arith, m.settled)) h
    (lowered-end (entry_at log st.groups st.homes st.start) (7 * st.start) end end x x (omega (arith, w.0)) l
    (lowered_none (entry_at log st.groups st.homes st.start) (7 * st.start) end end end x (omega arith))))

-- ---- what is written

pub last_none : (last start : ℕ) → last ≤ 7 * start → 0 ≡ kept_last last start
unfolding kept_last
last_none last start h = rw (le-leb last (7 * start) h)

pub last-kept : (last start : ℕ) → 7 * start < last → last ≡ kept_last last start
unfolding kept_last
last-kept last start h = rw (lt-leb last (7 * start) h)

pub state-moved : (s s₁ s₂ s₃ : List ℕ) (st : State) (start f l : ℕ) → s₁ ≡ set_start s start → s₂ ≡ set_fenced s₁ f → f ≡ 7 * st.next
    → l ≡ kept_last st.last start → s₃ ≡ set_last s₂ l → s₃ ≡ moved_state s st start
unfolding moved_state
state-moved s s₁ s₂ s₃ st start f l a b c d e = e ∙ rw (b, a, c, d)

pub header-fenced : (d d₁ d₂ : List ℕ) (at start groups homes : ℕ) → at ≡ 0 + 66 → d₁ ≡ puts d 0 (record_bytes (KW (header start groups homes)))
    → d₂ ≡ puts d₁ at (record_bytes FN) → d₂ ≡ puts d 0 (batch_bytes (KW (header start groups homes) ∷ FN ∷ []))
unfolding batch_bytes
header-fenced d d₁ d₂ at start groups homes a e f =
    let l : length (record_bytes (KW (header start groups homes))) ≡ 66 = length-KW (header start groups homes) (length-header start groups homes) in
    f ∙ rw (e, a, puts-append d 0 (record_bytes (KW (header start groups homes))), l, append-nil)

-- ---- how a trim ends

module _ (g : Given) where
  pub trim-refused : (x code figure size : ℕ) → x ≡ ask_newest g 0 → (x ≡ 0 → ⊥) → code ≡ x → figure ≡ 0 → size ≡ 0
      → leaves_everything code figure size g.log g.area g.state g.newest g.block g.batch ≡ trim_call g
  unfolding trim_call trim_answer
  trim-refused x code figure size e n h f s =
      refused-by g _ _ code figure size (h ∙ newest-refuses g x _ e n) (λ z. n (sym h ∙ z)) f s

  pub start-refused : (start code figure size : ℕ) → ask_newest g 0 ≡ 0 → start ≡ trim_start g → 2 ^ 47 < start → code ≡ 10 → figure ≡ 0 → size ≡ 0
      → leaves_everything code figure size g.log g.area g.state g.newest g.block g.batch ≡ trim_call g
  unfolding trim_call trim_answer start_fits
  start-refused start code figure size a e l h f s =
      refused-by g _ _ code figure size
      (h ∙ sym (newest-passes g _ a ∙ ask-no (leb (trim_start g) max_start) 10 _ (lt-leb (trim_start g) max_start (omega arith)))) (omega arith) f s

  -- the start stays
  still : (start : ℕ) → start ≡ (state_of g.state).start → trim_effect g start ≡ new_state g g.state 0
  unfolding trim_effect
  still start e = rw (eq-eqb start (state_of g.state).start e)

  pub not-moved : (start code figure size : ℕ) → ask_newest g 0 ≡ 0 → start ≡ trim_start g → start ≤ 2 ^ 47 → start ≡ (state_of g.state).start → code ≡ 0
      → figure ≡ 0 → size ≡ 0 → leaves_everything code figure size g.log g.area g.state g.newest g.block g.batch ≡ trim_call g
  unfolding trim_call trim_answer start_fits batch_fits size_of new_state batch_bytes
  not-moved start code figure size a e l m h f s =
      rw (← e, still start m)
      (state-by g g.state _ 0 code figure size g.state
      (newest-passes g _ a ∙ ask-yes (leb start max_start) 10 _ (le-leb start max_start l)
      ∙ ask-yes (leb 0 (length g.batch)) 9 0 (le-leb 0 (length g.batch) (omega arith)))
      h f s refl)

  -- the start moves
  moved : (start : ℕ) → (start ≡ (state_of g.state).start → ⊥) → trim_effect g start ≡ trim_to g (state_of g.state) start
  unfolding trim_effect
  moved start n = rw (ne_eqb start (state_of g.state).start n)

  moved-size : (start : ℕ) → size_of (trim_to g (state_of g.state) start) ≡ 68
  unfolding size_of trim_to batch_bytes
  moved-size start =
      let l : length (record_bytes (KW (header start (groups g) (homes g)))) ≡ 66 =
      length-KW (header start (groups g) (homes g)) (length-header start (groups g) (homes g)) in
      rw (length-append, length-append, l, length-FN)

  moved_ends : (start v code figure size : ℕ) (log state newest batch : List ℕ) → v ≡ 0 → code ≡ 0 → figure ≡ 0 → size ≡ 68
      → log ≡ puts g.log 0 (header start (groups g) (homes g)) → state ≡ carry_listed (homes g) newest (moved_state g.state (state_of g.state) start)
      → newest ≡ forget g.newest (7 * start) (homes g)
      → batch ≡ puts g.batch 0 (batch_bytes (KW (header start (groups g) (homes g)) ∷ FN ∷ []))
      → leaves_everything code figure size log g.area state newest g.block batch ≡ outcome g v (trim_to g (state_of g.state) start)
  unfolding trim_to moved_state kept_last size_of
  moved_ends start v code figure size log state newest batch z h f s p q k t =
      done-by g (trim_to g (state_of g.state) start) v code figure size log g.area state newest g.block batch z h f (s ∙ sym (moved-size start)) p refl
      (q ∙ ap (λ (x : List ℕ). carry_listed (homes g) x (moved_state g.state (state_of g.state) start)) k) k refl t

  pub batch-refused : (start code figure size : ℕ) → ask_newest g 0 ≡ 0 → start ≡ trim_start g → start ≤ 2 ^ 47 → (start ≡ (state_of g.state).start → ⊥)
      → length g.batch < 68 → code ≡ 9 → figure ≡ 0 → size ≡ 0
      → leaves_everything code figure size g.log g.area g.state g.newest g.block g.batch ≡ trim_call g
  unfolding trim_call trim_answer start_fits batch_fits
  batch-refused start code figure size a e l n b h f s =
      rw (← e, moved start n)
      (refused-by g _ _ code figure size
      (h
      ∙ sym (newest-passes g _ a ∙ ask-yes (leb start max_start) 10 _ (le-leb start max_start l)
      ∙ ask-no (leb (size_of (trim_to g (state_of g.state) start)) (length g.batch)) 9 0 (rw (moved-size start) (lt-leb 68 (length g.batch) b))))
      (omega arith) f s)

  pub start-moved : (st : State) (start code figure size : ℕ) (log state newest batch : List ℕ) → Usable g.log g.area g.state → ask_newest g 0 ≡ 0
      → st ≡ state_of g.state → start ≡ trim_start g → start ≤ 2 ^ 47 → (start ≡ st.start → ⊥) → 68 ≤ length g.batch → code ≡ 0
      → figure ≡ 0 → size ≡ 68 → log ≡ puts g.log 0 (header start st.groups st.homes) → state ≡ carry_listed st.homes newest (moved_state g.state st start)
      → newest ≡ forget g.newest (7 * start) st.homes
      → batch ≡ puts g.batch 0 (batch_bytes (KW (header start st.groups st.homes) ∷ FN ∷ []))
      → leaves_everything code figure size log g.area state newest g.block batch ≡ trim_call g
  unfolding trim_call trim_answer start_fits batch_fits
  start-moved st start code figure size log state newest batch u a es e l n b h f s p q k t =
      let o = u.order in
      let eg : st.groups ≡ groups g = ap (λ (x : State). x.groups) es ∙ o.groups-same in
      let ed : st.homes ≡ homes g = ap (λ (x : State). x.homes) es ∙ o.homes_same in
      let z : leb (size_of (trim_to g (state_of g.state) start)) (length g.batch) ≡ true = rw (moved-size start) (le-leb 68 (length g.batch) b) in
      let y = ask-yes (leb (size_of (trim_to g (state_of g.state) start)) (length g.batch)) 9 0 z in
      rw (← e, moved start (λ z. n (z ∙ sym (ap (λ (x : State). x.start) es))))
      (moved_ends start _ code figure size log state newest batch
      (newest-passes g _ a ∙ ask-yes (leb start max_start) 10 _ (le-leb start max_start l) ∙ y)
      h f s (rw (eg, ed) at p) ((rw es at q) ∙ ap (λ (x : ℕ). carry_listed x newest (moved_state g.state (state_of g.state) start)) o.homes_same) (rw ed at k) (rw (eg, ed) at t))
