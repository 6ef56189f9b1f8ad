-- Rights keep what a writer may not read from it where the histories have units' calls: "with the same calls of the store itself". Bytes of a pump's home decide
-- whether another writer's event is done or refused, so two histories are alike only if the others' events make the same calls of the store. Of the writer's own
-- calls that is not asked: it follows.
use Rattle.std.specs.Prelude.{ℕ, ◌≡◌, Bool, true, List, [], ◌∷◌, ◌++◌}
use Rattle.model.specs.History.{World, Formatting, after_format}
use Rattle.acts.specs.Units.{Act, acted, AllActsAllowed, expand_all}
use Rattle.abstract_store.specs.Store.{new_store}
use Rattle.theorems.specs.Isolation.{Each, DeniedThroughout}
use Rattle.theorems.specs.IsolatedActs.{ActAlike, BeforeAlike, followed_acts, SameThroughout}
use Rattle.unit_shared.specs.Moments.{lent_in}
use Rattle.unit_bands.specs.Calls.{look_up_call}
use Rattle.unit_hours.specs.Calls.{hours_call, services_call}
use Rattle.unit_alarms.specs.Calls.{gravest_call}
use Rattle.unit_joint.specs.Joint.{Step, acts, sets_table, pump_event, alarm_event, acts_of, stepped, acts_all, told_in}

-- a unit's call that the writer makes
abbrev pub Own : ℕ → Step → Type 0
Own writer (acts a) = ⊥
Own writer (sets_table x rows batch) = x ≡ writer
Own writer (pump_event x pump e batch) = x ≡ writer
Own writer (alarm_event x e batch) = x ≡ writer

module _ (hidden : ℕ → Bool) (writer : ℕ) where
  -- the writer's own call of a unit, the same in both; or steps that make the same calls of the store but for bytes in hidden homes
  pub data StepAlike (w v : World) : Step → Step → Type 0 where
    own : {s : Step} → Own writer s → StepAlike w v s s
    others : {s t : Step} → (Own writer s → ⊥) → Each (ActAlike hidden) (acts_of w s) (acts_of v t) → StepAlike w v s t

  abbrev pub StepsAlike : World → World → List Step → List Step → Type 0
  StepsAlike w v [] [] = Unit {0}
  StepsAlike w v [] (t ∷ ts) = ⊥
  StepsAlike w v (s ∷ ss) [] = ⊥
  StepsAlike w v (s ∷ ss) (t ∷ ts) = StepAlike w v s t × StepsAlike (stepped w s) (stepped v t) ss ts

-- what the units' calls that only read tell the writer at two moments
pub record ReadsSame (writer : ℕ) (w v : World) : Type 0 where
  pub hours : (pump : ℕ) (batch : List ℕ) → hours_call (lent_in w batch) writer pump ≡ hours_call (lent_in v batch) writer pump
  pub services : (pump interval : ℕ) (batch : List ℕ) → services_call (lent_in w batch) writer pump interval ≡ services_call (lent_in v batch) writer pump interval
  pub lookups : (mm : ℕ) (batch : List ℕ) → look_up_call (lent_in w batch) writer mm ≡ look_up_call (lent_in v batch) writer mm
  pub gravests : (batch : List ℕ) → gravest_call (lent_in w batch) writer ≡ gravest_call (lent_in v batch) writer

-- At every moment those calls tell the writer the same, and so does every unit's call that the writer makes: number, figure and bytes of records. "A pump's or
-- alarm's event needs both rights" is part of it.
abbrev pub UnitsToldSame : ℕ → World → World → List Step → List Step → Type 0
UnitsToldSame writer w v [] ts = ReadsSame writer w v
UnitsToldSame writer w v (s ∷ ss) [] = Unit {0}
UnitsToldSame writer w v (s ∷ ss) (t ∷ ts) =
    ReadsSame writer w v × (Own writer s → told_in w s ≡ told_in v t) × UnitsToldSame writer (stepped w s) (stepped v t) ss ts

-- from the format on: the same acts, cuts among them, then acts alike, then steps alike [S-61]
abbrev pub UnitsIsolated : Type 0
UnitsIsolated =
    (groups homes : ℕ) (f g : Formatting groups homes) (before other : List Act) (ss ts : List Step) (writer : ℕ) (hidden : ℕ → Bool) →
    let w : World = acted (after_format f) before in
    let v : World = acted (after_format g) other in
    AllActsAllowed (after_format f) (before ++ acts_all w ss) → AllActsAllowed (after_format g) (other ++ acts_all v ts) → w.ready ≡ true →
    BeforeAlike hidden before other → StepsAlike hidden writer w v ss ts →
    DeniedThroughout writer hidden (followed_acts (new_store groups homes) (after_format f) before) w (expand_all w (acts_all w ss)) →
    SameThroughout writer w v (acts_all w ss) (acts_all v ts) × UnitsToldSame writer w v ss ts
