-- Rights keep what a writer may not read from it where the histories have units' calls. Assumes nothing.
use Prim.Native.Nat.{ℕ, zero, suc, ◌*◌}
use mathlib.Core.Path.{◌≡◌, refl, sym, ap, ◌∙◌, subst}
use mathlib.Core.Bool.{Bool, true, false, cond}
use mathlib.Core.List.{List, [], ◌∷◌, ◌++◌}
use native.Mathlib.Omega.{arith}
use lib.Dec.{eqb, leb}
use Rattle.model.specs.Bytes.{zeros}
use Rattle.model.specs.Calls.{Outcome}
use Rattle.model.specs.History.{World, after_format, lent}
use Rattle.acts.specs.Units.{transacts, transact_ends, fetch_ends, revise_ends, acted, AllActsAllowed, expand_all}
use Rattle.abstract_store.specs.Store.{Store, new_store, Reply, reply_of}
use Rattle.theorems.specs.Isolation.{Each, both, more, Denied, DeniedThroughout, followed}
use Rattle.theorems.specs.IsolatedActs.{BlocksAlike, ActAlike, transacted, revised, followed_acts}
use Rattle.theorems.proofs.isolation.AlikeBook.{each_append}
use Rattle.theorems.proofs.isolation.AlikeReplies.{ListShown, list-shows}
use Rattle.theorems.proofs.isolation.AlikeActs.{transact-same, fetch-same, fetch-block, revise-same, revise-block}
use Rattle.theorems.proofs.isolation.IsolatedActsHold.{acts-split, denied-now, denied-acts, Beside, acts-next, same-throughout, beside-there}
use Rattle.unit_events.specs.Homes.{table_home, table_homes, pump_home, alarm_home, alarm_homes}
use Rattle.unit_events.specs.Folded as unit
use Rattle.unit_events.specs.Folded.{offers, read_for, event_answer, storing}
use Rattle.unit_shared.specs.Unit.{untouched, fetched}
use Rattle.unit_shared.specs.Moments.{lent_in}
use Rattle.unit_shared.specs.Replies.{told_by}
use Rattle.unit_bands_table.specs.Judge.{judgement}
use Rattle.unit_bands_table.specs.Stored as table
use Rattle.unit_bands.specs.Calls.{set_call, found_within, look_up_call}
use Rattle.unit_hours_book.specs.Guarantees as hours
use Rattle.unit_hours_book.specs.Stored as pumps
use Rattle.unit_hours.specs.Calls.{event_call as pump_call, hours_in, hours_call, services_call}
use Rattle.unit_alarms_list.specs.Guarantees as alarms
use Rattle.unit_alarms_list.specs.Stored as panel
use Rattle.unit_alarms.specs.Calls.{gravest_in, gravest_call}
use Rattle.unit_alarms.specs.Claims.{event_call as alarm_call}
use Rattle.unit_alarms.specs.Histories.{in_range}
use Rattle.unit_joint.specs.Joint.{Step, acts, sets_table, pump_event, alarm_event, acts_of, stepped, acts_all, told_in}
use Rattle.unit_joint.specs.Isolated.{Own, StepAlike, own, others, StepsAlike, ReadsSame, UnitsToldSame, UnitsIsolated}
use Rattle.unit_joint.proofs.UnitCalls.{call, transact-told, event-same, pump-known, pump-unknown, alarm-known, alarm-unknown, table-known, table-unknown}

code_same : (o p : Outcome) → reply_of o ≡ reply_of p → o.code ≡ p.code
unfolding reply_of
code_same o p e = ap (λ (x : Reply). x.code) e

same_blocks : (hidden : ℕ → Bool) (home : ℕ) (xs ys : List ℕ) → xs ≡ ys → BlocksAlike hidden home xs ys
same_blocks hidden home xs ys e = record { size = rw e; shown = λ k l h. rw e }

module _ (hidden : ℕ → Bool) {w v : World} {s t : Store} (b : Beside hidden w v s t) (writer : ℕ) (d : Denied writer hidden s) where
  shows : ListShown hidden
  shows = list-shows hidden writer s d

  -- ---- a transaction of the writer, the same in both

  same-transact : (home : ℕ) (xs ys batch : List ℕ) → xs ≡ ys
      → reply_of (transact_ends w writer home xs batch) ≡ reply_of (transact_ends v writer home ys batch)
  same-transact home xs ys batch e =
      transact-same hidden shows b.left b.right b.left-ready b.right-ready b.alike writer home xs ys batch (same_blocks hidden home xs ys e)

  -- ---- its events

  module _ {E : Type 0} (home n : ℕ) (judge : List ℕ → E → ℕ) (apply : List ℕ → E → List ℕ) (e : E) (batch : List ℕ) where
    read-code : (read_for home n judge apply w writer).code ≡ (read_for home n judge apply v writer).code
    unfolding read_for
    read-code =
        code_same (revise_ends w writer home (zeros (64 * n))) (revise_ends v writer home (zeros (64 * n)))
        (revise-same hidden shows b.left b.right b.left-ready b.right-ready b.alike writer home (zeros (64 * n)))

    read-block : (read_for home n judge apply w writer).block ≡ (read_for home n judge apply v writer).block
    unfolding read_for
    read-block = revise-block hidden shows b.left b.right b.left-ready b.right-ready b.alike writer d home (zeros (64 * n))

    asked-same : event_answer home n judge apply w writer e ≡ event_answer home n judge apply v writer e
    unfolding event_answer
    asked-same = rw (read-code, read-block)

    stored_same : apply (read_for home n judge apply w writer).block e ≡ apply (read_for home n judge apply v writer).block e
    stored_same = ap (λ (x : List ℕ). apply x e) read-block

    event-alike : Each (ActAlike hidden) (unit.acts_of home n judge apply w (offers writer e batch)) (unit.acts_of home n judge apply v (offers writer e batch))
    unfolding unit.acts_of storing
    event-alike = more revised (go (eqb (event_answer home n judge apply w writer e) 0) (eqb (event_answer home n judge apply v writer e) 0) (ap (λ (k : ℕ). eqb k 0) asked-same))
      where
        go : (p q : Bool) → p ≡ q
            → Each (ActAlike hidden) (cond p (transacts writer home (apply (read_for home n judge apply w writer).block e) batch ∷ []) [])
            (cond q (transacts writer home (apply (read_for home n judge apply v writer).block e) batch ∷ []) [])
        go true true z =
            more (transacted (same_blocks hidden home (apply (read_for home n judge apply w writer).block e) (apply (read_for home n judge apply v writer).block e) stored_same)) both
        go true false z = absurd (let y : ◌≡◌ {A = ℕ} 0 1 = cc in omega arith)
        go false true z = absurd (let y : ◌≡◌ {A = ℕ} 0 1 = cc in omega arith)
        go false false z = both

    event-told : told_by (call home n judge apply w writer e batch) ≡ told_by (call home n judge apply v writer e batch)
    event-told =
        event-same home n judge apply w v writer e batch asked-same
        (same-transact home (apply (read_for home n judge apply w writer).block e) (apply (read_for home n judge apply v writer).block e) batch stored_same)

  -- ---- its calls that only read

  fetch-code : (home n : ℕ) (batch : List ℕ) → (fetched (lent_in w batch) writer home n).code ≡ (fetched (lent_in v batch) writer home n).code
  unfolding fetched fetch_ends lent
  fetch-code home n batch =
      code_same (fetch_ends w writer home (zeros (64 * n))) (fetch_ends v writer home (zeros (64 * n)))
      (fetch-same hidden shows b.left b.right b.left-ready b.right-ready b.alike writer home (zeros (64 * n)))

  fetched-block : (home n : ℕ) (batch : List ℕ) → (fetched (lent_in w batch) writer home n).block ≡ (fetched (lent_in v batch) writer home n).block
  unfolding fetched fetch_ends lent
  fetched-block home n batch =
      fetch-block hidden shows b.left b.right b.left-ready b.right-ready b.alike writer d home (zeros (64 * n))

  hours-same : (pump : ℕ) (batch : List ℕ) → hours_call (lent_in w batch) writer pump ≡ hours_call (lent_in v batch) writer pump
  unfolding hours_call hours_in
  hours-same pump batch = rw (fetch-code (pump_home pump) 1 batch, fetched-block (pump_home pump) 1 batch)

  services-same : (pump interval : ℕ) (batch : List ℕ) → services_call (lent_in w batch) writer pump interval ≡ services_call (lent_in v batch) writer pump interval
  unfolding services_call
  services-same pump interval batch = rw (hours-same pump batch)

  lookups-same : (mm : ℕ) (batch : List ℕ) → look_up_call (lent_in w batch) writer mm ≡ look_up_call (lent_in v batch) writer mm
  unfolding look_up_call found_within
  lookups-same mm batch = rw (fetch-code table_home table_homes batch, fetched-block table_home table_homes batch)

  gravest-same : (batch : List ℕ) → gravest_call (lent_in w batch) writer ≡ gravest_call (lent_in v batch) writer
  unfolding gravest_call gravest_in
  gravest-same batch = rw (fetch-code alarm_home 1 batch, fetched-block alarm_home 1 batch)

  reads_same : ReadsSame writer w v
  reads_same = record { hours = hours-same; services = services-same; lookups = lookups-same; gravests = gravest-same }

-- ---- a step of the writer, the same in both

refusals-told : (w v : World) (batch : List ℕ) (code figure : ℕ) → told_by (untouched (lent_in w batch) code figure) ≡ told_by (untouched (lent_in v batch) code figure)
unfolding told_by untouched
refusals-told w v batch code figure = refl

module _ (hidden : ℕ → Bool) {w v : World} {s t : Store} (b : Beside hidden w v s t) (writer : ℕ) (d : Denied writer hidden s) where
  own-denied : (x : ℕ) → x ≡ writer → Denied x hidden s
  own-denied x e = subst (λ (n : ℕ). Denied n hidden s) (sym e) d

  own-alike : (a : Step) → Own writer a → Each (ActAlike hidden) (acts_of w a) (acts_of v a)
  unfolding acts_of
  own-alike (acts a) o = absurd o
  own-alike (sets_table x rows batch) o =
      unfold unit.acts_of storing in
      more (transacted (same_blocks hidden table_home (table.stored (zeros (64 * table_homes)) rows) (table.stored (zeros (64 * table_homes)) rows) refl)) both
  own-alike (pump_event x pump e batch) o = event-alike hidden b x (own-denied x o) (pump_home pump) 1 pumps.judged hours.held_with e batch
  own-alike (alarm_event x e batch) o = event-alike hidden b x (own-denied x o) alarm_home alarm_homes panel.judged alarms.held_with e batch

  own-told : (a : Step) → Own writer a → told_in w a ≡ told_in v a
  unfolding told_in
  own-told (acts a) o = absurd o
  own-told (sets_table x rows batch) o = go (judgement rows).code refl
    where
      blocks : List ℕ
      blocks = table.stored (zeros (64 * table_homes)) rows

      go : (k : ℕ) → (judgement rows).code ≡ k → told_by (set_call (lent_in w batch) x rows) ≡ told_by (set_call (lent_in v batch) x rows)
      go zero h =
          ap told_by (table-known w x rows batch h) ∙ transact-told w x table_home blocks batch
          ∙ same-transact hidden b x (own-denied x o) table_home blocks blocks batch refl ∙ sym (ap told_by (table-known v x rows batch h) ∙ transact-told v x table_home blocks batch)
      go (suc k) h =
          ap told_by (table-unknown w x rows batch k h) ∙ refusals-told w v batch (suc k) (judgement rows).millimetre
          ∙ sym (ap told_by (table-unknown v x rows batch k h))
  own-told (pump_event x pump e batch) o = go (leb pump 7) refl
    where
      go : (k : Bool) → leb pump 7 ≡ k → told_by (pump_call (lent_in w batch) x pump e) ≡ told_by (pump_call (lent_in v batch) x pump e)
      go true h =
          ap told_by (pump-known w x pump e batch h) ∙ event-told hidden b x (own-denied x o) (pump_home pump) 1 pumps.judged hours.held_with e batch
          ∙ sym (ap told_by (pump-known v x pump e batch h))
      go false h = ap told_by (pump-unknown w x pump e batch h) ∙ refusals-told w v batch 14 0 ∙ sym (ap told_by (pump-unknown v x pump e batch h))
  own-told (alarm_event x e batch) o = go (in_range e) refl
    where
      go : (k : Bool) → in_range e ≡ k → told_by (alarm_call (lent_in w batch) x e) ≡ told_by (alarm_call (lent_in v batch) x e)
      go true h =
          ap told_by (alarm-known w x e batch h) ∙ event-told hidden b x (own-denied x o) alarm_home alarm_homes panel.judged alarms.held_with e batch
          ∙ sym (ap told_by (alarm-known v x e batch h))
      go false h = ap told_by (alarm-unknown w x e batch h) ∙ refusals-told w v batch 24 0 ∙ sym (ap told_by (alarm-unknown v x e batch h))

  step-acts : {a c : Step} → StepAlike hidden writer w v a c → Each (ActAlike hidden) (acts_of w a) (acts_of v c)
  step-acts (own {s = a} o) = own-alike a o
  step-acts (others n k) = k

  step-told : {a c : Step} → StepAlike hidden writer w v a c → Own writer a → told_in w a ≡ told_in v c
  step-told (own {s = a} o) q = own-told a o
  step-told (others n k) q = absurd (n q)

-- ---- every step

steps-told : (hidden : ℕ → Bool) (writer : ℕ) (ss ts : List Step) (w v : World) (s t : Store) → Beside hidden w v s t → AllActsAllowed w (acts_all w ss)
    → AllActsAllowed v (acts_all v ts) → StepsAlike hidden writer w v ss ts → DeniedThroughout writer hidden s w (expand_all w (acts_all w ss))
    → Each (ActAlike hidden) (acts_all w ss) (acts_all v ts) × UnitsToldSame writer w v ss ts
unfolding acts_all stepped
steps-told hidden writer [] [] w v s t b ok ok' k d = (both, reads_same hidden b writer (denied-now writer hidden s w (expand_all w []) d))
steps-told hidden writer [] (c ∷ ts) w v s t b ok ok' k d = absurd k
steps-told hidden writer (a ∷ ss) [] w v s t b ok ok' k d = absurd k
steps-told hidden writer (a ∷ ss) (c ∷ ts) w v s t b ok ok' k d =
    let now : Denied writer hidden s = denied-now writer hidden s w (expand_all w (acts_of w a ++ acts_all (stepped w a) ss)) d in
    let same : Each (ActAlike hidden) (acts_of w a) (acts_of v c) = step-acts hidden b writer now k.0 in
    let p = acts-split (acts_of w a) (acts_all (stepped w a) ss) w ok in
    let p' = acts-split (acts_of v c) (acts_all (stepped v c) ts) v ok' in
    let next = acts-next hidden (list-shows hidden writer s now) (acts_of w a) (acts_of v c) w v s t p.0 p'.0 same b in
    let then = denied-acts writer hidden (acts_of w a) (acts_all (stepped w a) ss) w s b.left p.0 d in
    let rest = steps-told hidden writer ss ts (stepped w a) (stepped v c) (followed s w (expand_all w (acts_of w a))) (followed t v (expand_all v (acts_of v c)))
    next p.1 p'.1 k.1 then in
    (each_append same rest.0, (reads_same hidden b writer now, step-told hidden b writer now k.0, rest.1))

pub units-isolated : UnitsIsolated
units-isolated G D f g before other ss ts writer hidden ok ok' ready k ks d =
    let w : World = acted (after_format f) before in
    let v : World = acted (after_format g) other in
    let s : Store = followed_acts (new_store G D) (after_format f) before in
    let t : Store = followed_acts (new_store G D) (after_format g) other in
    let p = acts-split before (acts_all w ss) (after_format f) ok in
    let p' = acts-split other (acts_all v ts) (after_format g) ok' in
    let shows : ListShown hidden = list-shows hidden writer s (denied-now writer hidden s w (expand_all w (acts_all w ss)) d) in
    let b = beside-there G D f g before other hidden shows p.0 p'.0 ready k in
    let m = steps-told hidden writer ss ts w v s t b p.1 p'.1 ks d in (
      same-throughout hidden writer (acts_all w ss) (acts_all v ts) w v s t b.left b.right p.1 p'.1 b.left-ready b.right-ready b.alike m.0 d,
      m.1,
    )
