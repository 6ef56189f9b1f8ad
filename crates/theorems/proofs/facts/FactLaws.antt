-- The facts of specs/Facts, for every history: between two fences no block is written twice, and rows are submitted with their group writes.
-- Assumes nothing.
use Prim.Native.Nat.{ℕ, ◌+◌, ◌-◌, ◌*◌, ◌%◌, ◌≤◌, ◌<◌}
use native.Mathlib.Nat.{mod-lt}
use mathlib.Core.Path.{◌≡◌, refl, sym, ap, ◌∙◌, subst}
use mathlib.Core.Logic.{◌⊎◌, inl, inr}
use mathlib.Core.Bool.{Bool, true, false, cond, not, false≢true}
use mathlib.Core.List.{List, [], ◌∷◌, ◌++◌, append-nil, append_assoc}
use native.Mathlib.Omega.{arith}
use native.Mathlib.Decide.{dec_lt}
use lib.Dec.{eqb, leb}
use lib.ListN.{length}
use borrow.Author.Tests.{eqb-true, eqb-false, leb-true, leb-false}
use Rattle.model.specs.Layout.{group_count, group_at, header}
use Rattle.model.specs.Batch.{Record, GW, KW, FN}
use lib.Seq.{take_all}
use Rattle.model.specs.State.{state_of, next_position, writer_of, holds}
use Rattle.model.specs.Effects.{Given, Effect, groups, homes, new_state, marked, touched, blank_writes, home_writes, open_effect, open_start, abort_effect, logged, log_held, log_closing, store_first, store_again, store_other, store_effect, commit_held, commit_effect, flush_none, flush_part, flush_effect, settle_effect, trim_start, trim_to, trim_effect, step_round_effect}
use Rattle.model.specs.Questions.{open_answer, store_answer, commit_answer, flush_answer, settle_answer, trim_answer, step_round_answer}
use Rattle.model.specs.Calls.{outcome, size_of, open_call, store_call, commit_call, flush_call, settle_call, trim_call, step_round_call}
use Rattle.model.specs.DemandTwo.{group_writes}
use Rattle.model.specs.Facts.{slot_written, header_written, written_once, FormatOnce, PendingOnce, RowsWritten, home_written}
use Rattle.model.specs.History.{change, service, change_ends, service_ends, Call, opening, store, commit, flush, confirm, settle, trim, Event, call, crash, World, unopened, empty_store, lent, loaded, ends, is_opening, after_crash, step, after as along, Allowed, AllAllowed, step_round}
use Rattle.model_laws.proofs.bytes.LayoutLaws.{length-group_at, group-fits, ring}
use Rattle.model_laws.proofs.state.BatchLaws.{AllFormed, formed-append}
use Rattle.model_laws.proofs.state.QuestionLaws.{and-true, open-ready, store-ready, commit-ready, flush-ready, settle-ready, step-round-ready, trim-ready}
use Rattle.theorems.proofs.steps.Rows.{ends-row}
use Rattle.theorems.proofs.steps.Footprint.{writes, Touch, records-open, records-store, records-commit, records-flush, records-settle, records-step, records-trim, Spares, frame}
use Rattle.theorems.proofs.steps.LogRuns.{logged-records, logged-log}
use Rattle.theorems.proofs.steps.CallRuns.{no_bytes, by_answer}
use Rattle.theorems.proofs.steps.OpenKeeps.{open-formed}
use Rattle.theorems.proofs.steps.SettleRuns.{settle-formed}
use Rattle.theorems.proofs.steps.RoundRuns.{lent_out, lent-within, is_due, remaining, brought_up, stepped, step-effect, step-fresh, step-now, next_cursor, cursor-upto, step-round-formed}
use Rattle.model_laws.proofs.trace.HomeLaws.{In}
use Rattle.theorems.proofs.steps.TrimRuns.{trim-formed}
use Rattle.theorems.proofs.steps.FormatRuns.{from-format}
use Rattle.theorems.proofs.steps.Beginning.{format-closed}
use Rattle.theorems.proofs.demands.DemandThree.{keeps}
use Rattle.theorems.proofs.demands.Yields.{rows-pending}
use Rattle.theorems.proofs.facts.OnceLaws.{once-fence, once-end, once_more, once-append, avoids-submits, slot-homes, once-marked, once-blanks, once-formatted, Avoids, avoids-mixed, avoids-homes, once-group, slot-group, home-group, slot-header, home-header, home-homes}
use Rattle.theorems.proofs.invariant.Invariant.{Sizes, Closed, Running, Invariant}
use Rattle.model_laws.proofs.state.LoggingLaws.{fits, length-entered}

abbrev pub Once : World → Type 0
Once w = written_once w.pending ≡ true

-- what a call hands on of the group in hand: nothing, or all of it, where the ring has room
pub record Group (G : ℕ) (w : World) (X : List Record) : Type 0 where
  pub bytes : List ℕ
  pub record_is : X ≡ GW ((state_of w.state).next % G) bytes ∷ []
  pub size : length bytes ≡ 512
  pub room : (state_of w.state).next < (state_of w.state).start + G

abbrev pub Handed : ℕ → World → List Record → Type 0
Handed G w X = (X ≡ []) ⊎ Group G w X

none-formed : (X : List Record) → X ≡ [] → AllFormed X
none-formed X e = rw e tt

module _ (G D : ℕ) (z : Sizes G D) (w : World) (r : Running G D w) where
  -- ---- the groups pending since the last fence, and what a call adds to them

  abbrev tail : List Record
  tail = r.submitted.tail

  once-tail : Once w → written_once tail ≡ true
  once-tail h =
      let s = r.submitted in
      (and-true (written_once s.fenced) (written_once tail)
      (sym (once-fence s.fenced tail) ∙ ap written_once (sym (append_assoc s.fenced (FN ∷ []) tail)) ∙ ap written_once (sym s.split) ∙ h)).1

  -- records that write neither the slot of a group submitted since the last fence nor a home that the round has done since
  avoids-tail : (S : List Record)
      → ((n : ℕ) → r.submitted.group ≤ n → n < r.submitted.group + r.submitted.count → slot_written (n % G) S ≡ false)
      → ((h : ℕ) → In h r.submitted.done → home_written h S ≡ false) → Avoids tail S
  avoids-tail S f g =
      let s = r.submitted in
      avoids-mixed tail S s.mixed (rw s.groups_of (avoids-submits G s.group s.content s.count S f))
      (rw s.homes_of (avoids-homes w.area s.done S g))

  added : (X : List Record) → Once w → written_once (tail ++ X) ≡ true → written_once (w.pending ++ X) ≡ true
  added X h k = once_more w.pending r.submitted.fenced tail X r.submitted.split h k

  once-none : Once w → written_once (tail ++ []) ≡ true
  once-none h = rw (append-nil tail) (once-tail h)

  -- a group
  once-handed : Once w → (X : List Record) → Handed G w X → written_once (tail ++ X) ≡ true
  once-handed h X (inl e) = rw e (once-none h)
  once-handed h X (inr k) =
      let o = r.copies.order in
      let s = r.submitted in
      rw k.record_is
      (once-append tail (GW ((state_of w.state).next % G) k.bytes ∷ []) (once-tail h) (once-group ((state_of w.state).next % G) k.bytes)
      (avoids-tail (GW ((state_of w.state).next % G) k.bytes ∷ [])
      (λ n i j.
      let apart : (state_of w.state).next % G ≡ n % G → ⊥ =
      λ e.
      let q : (state_of w.state).next ≡ n =
      ring s.group G (state_of w.state).next n (omega (arith, s.next))
      (omega (arith, s.at_fence, k.room, o.start-settled, o.settled-fenced)) i (omega (arith, s.next, s.at_fence, k.room, o.start-settled, o.settled-fenced)) e in
      omega (arith, s.next) in
      slot-group (n % G) ((state_of w.state).next % G) k.bytes apart)
      (λ x i. home-group x ((state_of w.state).next % G) k.bytes)))

  -- and a fence
  once-fenced : (X : List Record) → written_once (tail ++ X) ≡ true → written_once (tail ++ (X ++ (FN ∷ []))) ≡ true
  once-fenced X h = rw (← append_assoc tail X (FN ∷ [])) (once-end (tail ++ X) h)

  once-homes : Once w → (area : List ℕ) (test : ℕ → Bool) (n : ℕ) → ((h : ℕ) → In h r.submitted.done → In h (marked test n) → ⊥)
      → written_once (tail ++ home_writes area (marked test n)) ≡ true
  once-homes h area test n f =
      once-append tail (home_writes area (marked test n)) (once-tail h) (once-marked area test n)
      (avoids-tail (home_writes area (marked test n)) (λ m l i. slot-homes (m % G) area (marked test n)) (λ x i. home-homes x area (marked test n) (f x i)))

  once-header : Once w → (head : List ℕ) → written_once (tail ++ (KW head ∷ [])) ≡ true
  once-header h head =
      once-append tail (KW head ∷ []) (once-tail h) (unfold written_once header_written in refl)
      (avoids-tail (KW head ∷ []) (λ m l i. slot-header (m % G) head) (λ x i. home-header x head))

  -- ---- what each call adds

  slot-below : (state_of w.state).next % G < G
  slot-below = mod-lt (state_of w.state).next {m = G} (omega (arith, z.low))

  group-handed : (log : List ℕ) (X : List Record) → length log ≡ 64 + 512 * G → 1 ≤ (state_of w.state).filled
      → X ≡ GW ((state_of w.state).next % G) (group_at log ((state_of w.state).next % G)) ∷ [] → Group G w X
  group-handed log X l f e =
      let o = r.copies.order in
      record {
        bytes = group_at log ((state_of w.state).next % G);
        record_is = e;
        size = length-group_at log ((state_of w.state).next % G) (group-fits ((state_of w.state).next % G) log G slot-below l);
        room = go (dec_lt (state_of w.state).next ((state_of w.state).start + (state_of w.state).groups));
      }
    where
      go : Dec ((state_of w.state).next < (state_of w.state).start + (state_of w.state).groups) → (state_of w.state).next < (state_of w.state).start + G
      go (yes h) = omega (arith, r.copies.order.groups-same)
      go (no h) =
          let n : (state_of w.state).filled ≡ 0 = r.copies.order.filled_none (omega (arith, r.copies.order.next-most)) in
          absurd (omega arith)

  handed-formed : (X : List Record) → Handed G w X → AllFormed X
  handed-formed X (inl e) = rw e tt
  handed-formed X (inr k) = rw k.record_is ((omega (arith, slot-below, z.high), k.size), tt)

  logged-handed : (word : ℕ) (block : List ℕ) → Handed G w (logged w.state w.log word block).records
  logged-handed word block =
      rw (logged-records w.state w.log word block, r.copies.order.groups-same) (go (eqb (state_of w.state).filled 6) refl)
    where
      slot : ℕ
      slot = (state_of w.state).next % G

      size : length (logged w.state w.log word block).log ≡ 64 + 512 * G
      size =
          ap length (logged-log w.state w.log word block)
          ∙ length-entered (state_of w.state) ((state_of w.state).next % (state_of w.state).groups) w.log word block ∙ r.copies.log_size

      go : (d : Bool) → eqb (state_of w.state).filled 6 ≡ d
          → Handed G w (cond d (GW slot (group_at (logged w.state w.log word block).log slot) ∷ []) [])
      go true e = inr (group-handed (logged w.state w.log word block).log _ size (omega (arith, eqb-true (state_of w.state).filled 6 e)) refl)
      go false e = inl refl

  store-handed : (v home : ℕ) (block batch : List ℕ) → Handed G w (store_effect (lent w block batch v home)).records
  unfolding store_effect lent
  store-handed v home block batch = go (holds (writer_of w.state v)) (eqb (writer_of w.state v).home home)
    where
      g : Given
      g = lent w block batch v home

      go : (d e : Bool)
          → Handed G w (cond d (cond e (store_again g) (store_other g (writer_of w.state v) (next_position (state_of w.state)))) (store_first g)).records
      go true true = inl (unfold store_again new_state in refl)
      go true false = (unfold store_other log_held in logged-handed _ _)
      go false e = inl (unfold store_first new_state in refl)

  commit-handed : (v : ℕ) (batch : List ℕ) → Handed G w (commit_effect (lent w [] batch v 0)).records
  unfolding commit_effect lent
  commit-handed v batch = go (holds (writer_of w.state v))
    where
      g : Given
      g = lent w [] batch v 0

      go : (d : Bool) → Handed G w (cond d (commit_held g (writer_of w.state v) (next_position (state_of w.state))) (abort_effect g)).records
      go true = (unfold commit_held log_closing in logged-handed _ _)
      go false = inl (unfold abort_effect new_state in refl)

  -- a flush hands on what there is, and a fence follows
  flush-handed : (batch : List ℕ) → (X : List Record) × ((flush_effect (lent w [] batch 0 0)).records ≡ X ++ (FN ∷ [])) × Handed G w X
  unfolding flush_effect flush_none flush_part lent
  flush-handed batch = go (eqb (state_of w.state).filled 0) refl
    where
      g : Given
      g = lent w [] batch 0 0

      go : (d : Bool) → eqb (state_of w.state).filled 0 ≡ d
          → (X : List Record) × ((cond d (flush_none g (state_of w.state)) (flush_part g (state_of w.state))).records ≡ X ++ (FN ∷ [])) × Handed G w X
      go true e = ([], refl, inl refl)
      go false e =
          let q : (state_of w.state).groups ≡ G = r.copies.order.groups-same in
          let n : (state_of w.state).filled ≡ 0 → ⊥ = eqb-false (state_of w.state).filled 0 e in (
            GW ((state_of w.state).next % G) (group_at w.log ((state_of w.state).next % G)) ∷ [],
            rw q,
            inr (group-handed w.log _ r.copies.log_size (omega arith) refl),
          )

  -- ---- each call keeps it

  module _ (h : Once w) where
    -- a call that writes nothing
    quiet : (c : Call) (g : Given) (a : ℕ) (e : Effect) → ends w c ≡ outcome g a e → e.records ≡ [] → Once (step w (call c))
    quiet c g a e q n =
        by_answer Once w c g a e q h
        (λ o. record { formed = none-formed e.records n; fit = no_bytes g e n; next = rw n (rw (append-nil w.pending) h) })

    store-once : (v home : ℕ) (block batch : List ℕ) → Once (step w (call (store v home block batch)))
    unfolding ends change_ends store_call
    store-once v home block batch =
        let g : Given = lent w block batch v home in
        let e : Effect = store_effect g in
        let k : Handed G w (store_effect g).records = store-handed v home block batch in
        by_answer Once w (store v home block batch) g (store_answer g (size_of e)) e refl h
        (λ a. record {
          formed = handed-formed e.records k;
          fit = fits g (size_of e) (store-ready g (size_of e) a).batch;
          next = added e.records h (once-handed h e.records k);
        })

    commit-once : (v : ℕ) (batch : List ℕ) → Once (step w (call (commit v batch)))
    unfolding ends change_ends commit_call
    commit-once v batch =
        let g : Given = lent w [] batch v 0 in
        let e : Effect = commit_effect g in
        let k : Handed G w (commit_effect g).records = commit-handed v batch in
        by_answer Once w (commit v batch) g (commit_answer g (size_of e)) e refl h
        (λ a. record {
          formed = handed-formed e.records k;
          fit = fits g (size_of e) (commit-ready g (size_of e) a).batch;
          next = added e.records h (once-handed h e.records k);
        })

    flush-once : (batch : List ℕ) → Once (step w (call (flush batch)))
    unfolding ends change_ends flush_call
    flush-once batch =
        let g : Given = lent w [] batch 0 0 in
        let e : Effect = flush_effect g in
        let k = flush-handed batch in
        by_answer Once w (flush batch) g (flush_answer g (size_of e)) e refl h
        (λ a. record {
          formed = rw k.1 (formed-append k.0 (FN ∷ []) (handed-formed k.0 k.2) (tt, tt));
          fit = fits g (size_of e) (flush-ready g (size_of e) a).2;
          next = added e.records h (rw k.1 (once-fenced k.0 (once-handed h k.0 k.2)));
        })

    settle-once : (batch : List ℕ) → Once (step w (call (settle batch)))
    unfolding ends service_ends settle_call
    settle-once batch =
        let g : Given = lent w [] batch 0 0 in
        let e : Effect = settle_effect g in
        by_answer Once w (settle batch) g (settle_answer g (size_of e)) e refl h
        (λ a. record {
          formed = settle-formed G D z w r batch;
          fit = fits g (size_of e) (settle-ready g (size_of e) a).2;
          next = added e.records h (settle-adds g (lent_out w batch (settle-ready g (size_of e) a).1));
        })
      where
        settle-adds : (g : Given) → (state_of w.state).round ≡ 0 → written_once (tail ++ (settle_effect g).records) ≡ true
        settle-adds g none =
            (unfold settle_effect touched in
            once-fenced _ (once-homes h _ _ (homes g) (λ x i j. omega (arith, (r.submitted.behind x i).1))))

    step-round-once : (k : ℕ) (batch : List ℕ) → Once (step w (call (step_round k batch)))
    unfolding ends service_ends step_round_call
    step-round-once k batch =
        let g : Given = lent w [] batch 0 0 in
        let e : Effect = step_round_effect g k in
        by_answer Once w (step_round k batch) g (step_round_answer g k (size_of e)) e refl h
        (λ a. let q = step-round-ready g k (size_of e) a in
        let under : 1 ≤ (state_of w.state).round = lent-within w batch q.1 in
        record {
          formed = step-round-formed G D z w r under k batch q.2;
          fit = fits g (size_of e) q.3;
          next = added e.records h (rw (step-effect G D z w r under k batch) (adds under q.2 (leb (length (remaining G D z w r under)) k) refl));
        })
      where
        adds : (under : 1 ≤ (state_of w.state).round) → 1 ≤ k → (d : Bool) → leb (length (remaining G D z w r under)) k ≡ d
            → written_once (tail ++ (stepped G D z w r under k d).records) ≡ true
        adds under one true e =
            rw (take_all k (remaining G D z w r under) (leb-true (length (remaining G D z w r under)) k e))
            (once-fenced _ (once-homes h _ (is_due G D z w r under) D (step-fresh G D z w r under D (omega arith))))
        adds under one false e =
            let many : k < length (remaining G D z w r under) = leb-false (length (remaining G D z w r under)) k e in
            let n : ℕ = next_cursor G D z w r under k one many in
            rw (
              step-now G D z w r under k one many,
              append-nil (home_writes (brought_up G D z w r under (marked (is_due G D z w r under) n)) (marked (is_due G D z w r under) n)),
            )
            (once-homes h _ (is_due G D z w r under) n (step-fresh G D z w r under n (cursor-upto G D z w r under k one many)))

    trim-once : (batch : List ℕ) → Once (step w (call (trim batch)))
    unfolding ends service_ends trim_call
    trim-once batch =
        let g : Given = lent w [] batch 0 0 in
        let s : ℕ = trim_start g in
        let e : Effect = trim_effect g s in
        by_answer Once w (trim batch) g (trim_answer g s (size_of e)) e refl h
        (λ a. record {
          formed = trim-formed w batch s;
          fit = fits g (size_of e) (trim-ready g s (size_of e) a).2;
          next = added e.records h (trim-adds g s);
        })
      where
        trim-adds : (g : Given) (s : ℕ) → written_once (tail ++ (trim_effect g s).records) ≡ true
        trim-adds g s = (unfold trim_effect in go (eqb s (state_of g.state).start))
          where
            go : (d : Bool) → written_once (tail ++ (cond d (new_state g g.state 0) (trim_to g (state_of g.state) s)).records) ≡ true
            go true = (unfold new_state in once-none h)
            go false = (unfold trim_to in once-fenced (KW (header s (groups g) (homes g)) ∷ []) (once-header h (header s (groups g) (homes g))))

    pub call-once : (c : Call) → is_opening c ≡ false → Once (step w (call c))
    unfolding is_opening
    call-once c o = go c o (frame writes c)
      where
        go : (c : Call) → is_opening c ≡ false → Touch writes c ⊎ Spares writes c → Once (step w (call c))
        go c o (inl (records-open state newest batch)) = absurd (false≢true (sym o))
        go c o (inl (records-store v home block batch)) = store-once v home block batch
        go c o (inl (records-commit v batch)) = commit-once v batch
        go c o (inl (records-flush batch)) = flush-once batch
        go c o (inl (records-settle batch)) = settle-once batch
        go c o (inl (records-step k batch)) = step-round-once k batch
        go c o (inl (records-trim batch)) = trim-once batch
        go c o (inr f) = quiet c _ _ _ (ends-row w c) (f w)

-- ---- openings

module _ (G D : ℕ) (z : Sizes G D) (w : World) (c : Closed G D w) (state newest batch : List ℕ) where
  abbrev g : Given
  g = loaded w state newest batch

  open-adds : written_once (open_effect g).records ≡ true
  unfolding open_effect touched
  open-adds =
      once-fence (home_writes _ (marked _ (homes g))) _
      ∙ rw (once-marked _ _ (homes g)) after-homes
    where
      after-homes : written_once (KW (header (open_start g) (groups g) (homes g)) ∷ FN ∷ (blank_writes (groups g) (open_start g) (groups g) ++ (FN ∷ []))) ≡ true
      after-homes = unfold written_once header_written in once-end (blank_writes (groups g) (open_start g) (groups g)) (once-blanks (groups g) (open_start g) (groups g))

  pub opening-once : Once w → Once (step w (call (opening state newest batch)))
  unfolding ends open_call
  opening-once h =
      by_answer Once w (opening state newest batch) g (open_answer g (open_start g) (size_of (open_effect g))) (open_effect g) refl h
      (λ a. record {
        formed = open-formed G D z w c state newest batch;
        fit = fits g (size_of (open_effect g)) (open-ready g (open_start g) (size_of (open_effect g)) a).3;
        next = subst (λ (P : List Record). written_once (P ++ (open_effect g).records) ≡ true) (sym c.pending) open-adds;
      })

-- ---- every history

module _ (G D : ℕ) (z : Sizes G D) where
  closed-once : (w : World) → Closed G D w → Once w → (c : Call) → is_opening c ≡ true → Once (step w (call c))
  unfolding is_opening
  closed-once w k h (opening state newest batch) e = opening-once G D z w k state newest batch h
  closed-once w k h confirm e = absurd (false≢true e)
  closed-once w k h (change c) e = absurd (false≢true e)
  closed-once w k h (service c) e = absurd (false≢true e)

  pub once-keeps : (w : World) → Invariant G D w → Once w → (e : Event) → Allowed w e → Once (step w e)
  once-keeps w (inl k) h (call c) a = closed-once w k h c (a ∙ ap not k.ready)
  once-keeps w (inr r) h (call c) a = call-once G D z w r h c (a ∙ ap not r.ready)
  once-keeps w i h (crash passed chosen) a = (unfold step after_crash written_once in refl)

  -- what holds at every moment of a history
  pub along-history : (P : World → Type 0) → ((w : World) → Invariant G D w → P w → (e : Event) → Allowed w e → P (step w e))
      → (es : List Event) (w : World) → Invariant G D w → P w → AllAllowed w es → Invariant G D (along w es) × P (along w es)
  unfolding along
  along-history P f [] w i p a = (i, p)
  along-history P f (e ∷ es) w i p a = along-history P f es (step w e) (keeps G D z w i e a.0).0 (f w i p e a.0) a.1

  pub rows_written : (w : World) → Invariant G D w → w.book.rows ≡ group_writes w.pending - group_count (length w.memory.log)
  rows_written w (inl k) = rw (k.rows, k.pending) (unfold group_writes in omega arith)
  rows_written w (inr r) = rows-pending G D z w r

pub format-once : FormatOnce
format-once groups homes = once-formatted groups homes

pub pending-once : PendingOnce
pending-once =
    from-format (λ w es. Once (along w es))
    (λ G D z es a.
    (along-history G D z Once (once-keeps G D z) es (empty_store G D) (inl (format-closed G D z))
    (unfold empty_store unopened written_once in refl) a).1)

pub rows-with-writes : RowsWritten
rows-with-writes =
    from-format (λ w es. (along w es).book.rows ≡ group_writes (along w es).pending - group_count (length (along w es).memory.log))
    (λ G D z es a.
    rows_written G D z (along (empty_store G D) es)
    (along-history G D z (λ w. Unit {0}) (λ w i p e b. tt) es (empty_store G D) (inl (format-closed G D z)) tt a).0)
