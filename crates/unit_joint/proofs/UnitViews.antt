-- A joint history as the table, each pump and the alarms see it. Assumes nothing.
use Prim.Native.Nat.{ℕ, ◌+◌, ◌*◌, ◌/◌, ◌≤◌, ◌<◌}
use mathlib.Core.Path.{◌≡◌, refl, sym, ap}
use mathlib.Core.Logic.{inl, inr}
use mathlib.Core.Bool.{Bool, true, false, cond}
use mathlib.Core.List.{List}
use mathlib.Core.Option.{none, some}
use native.Mathlib.Decide.{dec_lt}
use native.Mathlib.Omega.{arith}
use lib.Dec.{eqb}
use lib.ListN.{length}
use borrow.Author.Tests.{eqb-true, eqb-false}
use Rattle.model.specs.Bytes.{zeros}
use Rattle.model.specs.History.{World}
use Rattle.acts.specs.Units.{Act, act, acted, Apart}
use Rattle.unit_events.specs.Homes.{table_home, table_homes, pump_home, alarm_home, alarm_homes}
use Rattle.unit_events.specs.Folded as unit
use Rattle.unit_events.specs.Folded.{offers, sets, first, read_for, event_answer, Anyhow}
use Rattle.unit_bands_table.specs.Stored as table
use Rattle.unit_bands_table.proofs.StoredHolds as table-laws
use Rattle.unit_hours_book.specs.Events.{Event as PumpEvent}
use Rattle.unit_hours_book.specs.Guarantees as hours
use Rattle.unit_hours_book.specs.Stored as pumps
use Rattle.unit_hours_book.proofs.StoredHolds as pump-laws
use Rattle.unit_alarms_list.specs.Guarantees as alarms
use Rattle.unit_alarms_list.specs.Stored as panel
use Rattle.unit_joint.specs.Joint.{acts, sets_table, pump_event, alarm_event, acts_of, stepped, table_set, pump_done, alarm_done, note_of, of_table, of_pump, of_alarms}
use Rattle.unit_joint.proofs.UnitCalls.{asks, home_of, blocks_of}
use Rattle.unit_joint.proofs.Views.{StepsViewed, ViewedStep, own-step, act-step, other_step}

first-zero : (a b : ℕ) → first a b ≡ 0 → b ≡ 0
unfolding first
first-zero a b e = go (eqb a 0) refl e
  where
    go : (d : Bool) → eqb a 0 ≡ d → cond d b a ≡ 0 → b ≡ 0
    go true q z = z
    go false q z = absurd (eqb-false a 0 q z)

-- ---- the homes that a unit's call stores

table-many : (w : World) (v : ℕ) (rows batch : List ℕ) → table.Accepted rows → length (blocks_of w (sets_table v rows batch)) / 64 ≡ 3
unfolding blocks_of
table-many w v rows batch a =
    let l : length (table.stored (zeros (64 * table_homes)) rows) ≡ 64 * 3 = table-laws.filling (zeros (64 * table_homes)) rows (unfold table.judged in a) in
    omega (arith, l)

pump-many : (w : World) (v p : ℕ) (e : PumpEvent) (batch : List ℕ) → asks w (pump_event v p e batch) ≡ 0 → length (blocks_of w (pump_event v p e batch)) / 64 ≡ 1
unfolding blocks_of asks event_answer
pump-many w v p e batch z =
    let b : List ℕ = (read_for (pump_home p) 1 pumps.judged hours.held_with w v).block in
    let l : length (hours.held_with b e) ≡ 64 * 1 = pump-laws.filling p b e (first-zero (read_for (pump_home p) 1 pumps.judged hours.held_with w v).code (pumps.judged b e) z) in
    omega (arith, l)

table_below : (home n : ℕ) (w : World) (v : ℕ) (rows batch : List ℕ) → table.Accepted rows → table_home + table_homes ≤ home
    → Apart home n (home_of (sets_table v rows batch)) (length (blocks_of w (sets_table v rows batch)) / 64)
unfolding home_of
table_below home n w v rows batch a l = inl (omega (arith, table-many w v rows batch a))

pump-below : (home n : ℕ) (w : World) (v p : ℕ) (e : PumpEvent) (batch : List ℕ) → asks w (pump_event v p e batch) ≡ 0 → pump_home p + 1 ≤ home
    → Apart home n (home_of (pump_event v p e batch)) (length (blocks_of w (pump_event v p e batch)) / 64)
unfolding home_of
pump-below home n w v p e batch z l = inl (omega (arith, pump-many w v p e batch z))

one-act : (w : World) (a : Act) → stepped w (acts a) ≡ act w a
unfolding stepped acts_of acted
one-act w a = refl

-- ---- the table

anyhow : (rows : List ℕ) → table.Accepted rows → Anyhow table_home table_homes table.judged table.stored rows
unfolding table.judged table.stored
anyhow rows a b = (a, refl)

pub table-view : StepsViewed table_home table_homes table.judged table.stored table.Accepted of_table
table-view w ns (acts a) m ok f =
    act-step table_home table_homes table.judged table.stored table.Accepted of_table w ns (acts a) a (one-act w a) (unfold note_of of_table in refl) ok f.from_table
table-view w ns (sets_table v rows batch) m ok f =
    own-step table_home table_homes table.judged table.stored table.Accepted of_table w ns (sets_table v rows batch) (sets v rows batch) (unfold acts_of in refl)
    (unfold unit.note_of note_of of_table in refl) ok (f, anyhow rows f)
table-view w ns (pump_event v p e batch) m ok f =
    other_step table_home table_homes table.judged table.stored table.Accepted of_table w ns (pump_event v p e batch) (pump_done p e) (unfold note_of in refl)
    (unfold note_of of_table in refl) ok m (λ z. unfold home_of in inr (omega arith))
table-view w ns (alarm_event v e batch) m ok f =
    other_step table_home table_homes table.judged table.stored table.Accepted of_table w ns (alarm_event v e batch) (alarm_done e) (unfold note_of in refl)
    (unfold note_of of_table in refl) ok m (λ z. unfold home_of in inr (omega arith))

-- ---- a pump

two-pumps : (p q k : ℕ) → k ≡ 1 → (q ≡ p → ⊥) → Apart (pump_home p) 1 (pump_home q) k
two-pumps p q k e n = go (dec_lt q p)
  where
    go : Dec (q < p) → Apart (pump_home p) 1 (pump_home q) k
    go (yes l) = inl (omega arith)
    go (no l) = inr (omega (arith, n))

not-this : (p q : ℕ) (e : PumpEvent) → eqb q p ≡ false → of_pump p (some (pump_done q e)) ≡ none
unfolding of_pump
not-this p q e n = ap (λ (b : Bool). cond b (some e) none) n

this-one : (p q : ℕ) (e : PumpEvent) → eqb q p ≡ true → some e ≡ of_pump p (some (pump_done q e))
unfolding of_pump
this-one p q e n = sym (ap (λ (b : Bool). cond b (some e) none) n)

pub pump-view : (p : ℕ) → p ≤ 7 → StepsViewed (pump_home p) 1 pumps.judged hours.held_with hours.Timed (of_pump p)
pump-view p l w ns (acts a) m ok f =
    act-step (pump_home p) 1 pumps.judged hours.held_with hours.Timed (of_pump p) w ns (acts a) a (one-act w a) (unfold note_of of_pump in refl) ok (f.from_pumps p l)
pump-view p l w ns (sets_table v rows batch) m ok f =
    other_step (pump_home p) 1 pumps.judged hours.held_with hours.Timed (of_pump p) w ns (sets_table v rows batch) (table_set rows) (unfold note_of in refl)
    (unfold note_of of_pump in refl) ok m
    (λ z. table_below (pump_home p) 1 w v rows batch f (omega arith))
pump-view p l w ns (pump_event v q e batch) m ok f = go (eqb q p) refl
  where
    go : (b : Bool) → eqb q p ≡ b → ViewedStep (pump_home p) 1 pumps.judged hours.held_with hours.Timed (of_pump p) w ns (pump_event v q e batch)
    go true t =
        own-step (pump_home p) 1 pumps.judged hours.held_with hours.Timed (of_pump p) w ns (pump_event v q e batch) (offers v e batch)
        (unfold acts_of in ap (λ (x : ℕ). unit.acts_of (pump_home x) 1 pumps.judged hours.held_with w (offers v e batch)) (sym (eqb-true q p t)))
        (unfold unit.note_of note_of in this-one p q e t) ok f.1
    go false t =
        other_step (pump_home p) 1 pumps.judged hours.held_with hours.Timed (of_pump p) w ns (pump_event v q e batch) (pump_done q e) (unfold note_of in refl)
        (unfold note_of in not-this p q e t) ok m
        (λ z. unfold home_of in two-pumps p q (length (blocks_of w (pump_event v q e batch)) / 64) (pump-many w v q e batch z) (eqb-false q p t))
pump-view p l w ns (alarm_event v e batch) m ok f =
    other_step (pump_home p) 1 pumps.judged hours.held_with hours.Timed (of_pump p) w ns (alarm_event v e batch) (alarm_done e) (unfold note_of in refl)
    (unfold note_of of_pump in refl) ok m (λ z. unfold home_of in inr (omega arith))

-- ---- the alarms

pub alarms-view : StepsViewed alarm_home alarm_homes panel.judged alarms.held_with alarms.Typed of_alarms
alarms-view w ns (acts a) m ok f =
    act-step alarm_home alarm_homes panel.judged alarms.held_with alarms.Typed of_alarms w ns (acts a) a (one-act w a) (unfold note_of of_alarms in refl) ok f.from_alarms
alarms-view w ns (sets_table v rows batch) m ok f =
    other_step alarm_home alarm_homes panel.judged alarms.held_with alarms.Typed of_alarms w ns (sets_table v rows batch) (table_set rows) (unfold note_of in refl)
    (unfold note_of of_alarms in refl) ok m
    (λ z. table_below alarm_home alarm_homes w v rows batch f (omega arith))
alarms-view w ns (pump_event v q e batch) m ok f =
    other_step alarm_home alarm_homes panel.judged alarms.held_with alarms.Typed of_alarms w ns (pump_event v q e batch) (pump_done q e) (unfold note_of in refl)
    (unfold note_of of_alarms in refl) ok m
    (λ z. let b : q ≤ 7 = f.0 in pump-below alarm_home alarm_homes w v q e batch z (omega arith))
alarms-view w ns (alarm_event v e batch) m ok f =
    own-step alarm_home alarm_homes panel.judged alarms.held_with alarms.Typed of_alarms w ns (alarm_event v e batch) (offers v e batch) (unfold acts_of in refl)
    (unfold unit.note_of note_of of_alarms in refl) ok f
