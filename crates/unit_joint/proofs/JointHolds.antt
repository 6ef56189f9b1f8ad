-- All units in one history: each by what it sees of it. Assumes nothing.
use Prim.Native.Nat.{ℕ, ◌+◌, ◌≤◌}
use mathlib.Core.Path.{◌≡◌, refl, sym, ap, ◌∙◌, subst}
use mathlib.Core.Bool.{true}
use mathlib.Core.List.{List, [], ◌∷◌, map}
use mathlib.Core.Option.{Option}
use Rattle.model.specs.History.{World, Formatting, after_format}
use Rattle.abstract_store.specs.Store.{Store}
use Rattle.acts.specs.Units.{acted, AllActsAllowed}
use Rattle.theorems.specs.ActsAnswer.{store_after}
use Rattle.theorems.proofs.many.ActsAnswerHolds.{acts-answer}
use Rattle.unit_events.specs.Homes.{table_home, table_homes, pump_home, alarm_home, alarm_homes}
use Rattle.unit_events.specs.Folded as unit
use Rattle.unit_events.specs.Folded.{noted, offers, sets}
use Rattle.unit_events.proofs.FoldedHolds.{acted-append, allowed-append}
use Rattle.unit_shared.specs.Replies.{Answered}
use Rattle.unit_shared.proofs.RepliesHold.{step-allowed}
use Rattle.unit_bands_table.specs.Stored as table
use Rattle.unit_bands.specs.Histories.{TableAt}
use Rattle.unit_bands.specs.Answers.{TableAnswers}
use Rattle.unit_bands.proofs.TableHolds.{table_kept}
use Rattle.unit_bands.proofs.AnswersHold as table-answers
use Rattle.unit_hours_book.specs.Events.{Event as PumpEvent}
use Rattle.unit_hours_book.specs.Guarantees as hours
use Rattle.unit_hours_book.specs.Stored as pumps
use Rattle.unit_hours.specs.Histories.{BookAt}
use Rattle.unit_hours.specs.Answers.{PumpAnswers}
use Rattle.unit_hours.proofs.BookHolds.{book-kept}
use Rattle.unit_hours.proofs.AnswersHold.{known-with}
use Rattle.unit_alarms_list.specs.Events.{Event as AlarmEvent}
use Rattle.unit_alarms_list.specs.Guarantees as alarms
use Rattle.unit_alarms_list.specs.Stored as panel
use Rattle.unit_alarms.specs.Histories.{AlarmsAt}
use Rattle.unit_alarms.specs.Answers.{AlarmAnswers}
use Rattle.unit_alarms.proofs.AlarmsHold.{alarms-kept}
use Rattle.unit_alarms.proofs.AnswersHold as alarm-answers
use Rattle.unit_joint.specs.Joint.{Step, acts, sets_table, pump_event, alarm_event, acts_of, stepped, ran, acts_all, Done, notes_from, notes, of_table, of_pump, of_alarms, StepAllowed, JointAllowed, JointFits}
use Rattle.unit_joint.specs.Kept.{JointKept}
use Rattle.unit_joint.proofs.NotesKept.{all_go, starts}
use Rattle.unit_joint.proofs.Views.{Viewed, all-viewed}
use Rattle.unit_joint.proofs.UnitViews.{table-view, pump-view, alarms-view}

-- ---- steps are acts

acts-allowed : (w : World) (s : Step) → StepAllowed w s → AllActsAllowed w (acts_of w s)
unfolding acts_of
acts-allowed w (acts a) ok = (ok, tt)
acts-allowed w (sets_table v rows batch) ok = step-allowed table_home table_homes table.judged table.stored w (sets v rows batch) ok
acts-allowed w (pump_event v pump e batch) ok = step-allowed (pump_home pump) 1 pumps.judged hours.held_with w (offers v e batch) ok
acts-allowed w (alarm_event v e batch) ok = step-allowed alarm_home alarm_homes panel.judged alarms.held_with w (offers v e batch) ok

steps-are : (ss : List Step) (w : World) → JointAllowed w ss → AllActsAllowed w (acts_all w ss) × (acted w (acts_all w ss) ≡ ran w ss)
unfolding acts_all ran stepped
steps-are [] w ok = (tt, (unfold acted in refl))
steps-are (s ∷ ss) w ok =
    let k = steps-are ss (stepped w s) ok.1 in
    (allowed-append (acts_of w s) (acts_all (stepped w s) ss) w (acts-allowed w s ok.0) k.0, acted-append (acts_of w s) (acts_all (stepped w s) ss) w ∙ k.1)

module _ (groups homes : ℕ) (f : Formatting groups homes) (ss : List Step) (ok : JointAllowed (after_format f) ss) (fit : JointFits (after_format f) ss)
    (ready : (ran (after_format f) ss).ready ≡ true) where
  abbrev w₀ : World
  w₀ = after_format f

  abbrev w : World
  w = ran w₀ ss

  abbrev ns : List (Option Done)
  ns = notes_from w₀ [] ss

  abbrev s : Store
  s = store_after f (acts_all w₀ ss)

  answered : Answered w s
  answered =
      let k = steps-are ss w₀ ok in
      let a = acts-answer groups homes f (acts_all w₀ ss) k.0 in
      subst (λ (u : World). u.ready ≡ true → Answered u s) k.1 a.many ready

  still-ready : (u : World) → u ≡ w → u.ready ≡ true
  still-ready u e = ap (λ (x : World). x.ready) e ∙ ready

  answered-in : (u : World) → u ≡ w → Answered u s
  answered-in u e = subst (λ (x : World). Answered x s) (sym e) answered

  table-there : table_home + table_homes ≤ homes → TableAt w (noted (map of_table ns)) × TableAnswers w s (noted (map of_table ns))
  table-there d =
      let v : Viewed table_home table_homes table.judged table.stored table.Accepted of_table w₀ w [] ns =
      all-viewed table_home table_homes table.judged table.stored table.Accepted of_table table-view ss w₀ [] (starts f) ok fit in
      let k = table_kept groups homes d f v.steps v.allowed v.spared (still-ready _ v.world) in
      let a = table-answers.kept-with groups homes d f v.steps v.allowed v.spared (still-ready _ v.world) s (answered-in _ v.world) in
      subst (λ (u : World). TableAt u (noted (map of_table ns)) × TableAnswers u s (noted (map of_table ns))) v.world
      (subst (λ (ms : List (Option (List ℕ))). TableAt (unit.ran table_home table_homes table.judged table.stored w₀ v.steps) (noted ms)
      × TableAnswers (unit.ran table_home table_homes table.judged table.stored w₀ v.steps) s (noted ms)) v.notes (unfold unit.notes in (k, a)))

  pump-there : (p : ℕ) → p ≤ 7 → pump_home p + 1 ≤ homes → BookAt p w (noted (map (of_pump p) ns)) × PumpAnswers w s (noted (map (of_pump p) ns)) p
  pump-there p l d =
      let v : Viewed (pump_home p) 1 pumps.judged hours.held_with hours.Timed (of_pump p) w₀ w [] ns =
      all-viewed (pump_home p) 1 pumps.judged hours.held_with hours.Timed (of_pump p) (pump-view p l) ss w₀ [] (starts f) ok fit in
      let k = book-kept p l groups homes d f v.steps v.allowed v.spared (still-ready _ v.world) in
      let a = known-with p l groups homes d f v.steps v.allowed v.spared (still-ready _ v.world) s (answered-in _ v.world) in
      subst (λ (u : World). BookAt p u (noted (map (of_pump p) ns)) × PumpAnswers u s (noted (map (of_pump p) ns)) p) v.world
      (subst (λ (ms : List (Option PumpEvent)). BookAt p (unit.ran (pump_home p) 1 pumps.judged hours.held_with w₀ v.steps) (noted ms)
      × PumpAnswers (unit.ran (pump_home p) 1 pumps.judged hours.held_with w₀ v.steps) s (noted ms) p) v.notes (unfold unit.notes in (k, a)))

  alarms-there : alarm_home + alarm_homes ≤ homes → AlarmsAt w (noted (map of_alarms ns)) × AlarmAnswers w s (noted (map of_alarms ns))
  alarms-there d =
      let v : Viewed alarm_home alarm_homes panel.judged alarms.held_with alarms.Typed of_alarms w₀ w [] ns =
      all-viewed alarm_home alarm_homes panel.judged alarms.held_with alarms.Typed of_alarms alarms-view ss w₀ [] (starts f) ok fit in
      let k = alarms-kept groups homes d f v.steps v.allowed v.spared (still-ready _ v.world) in
      let a = alarm-answers.kept-with groups homes d f v.steps v.allowed v.spared (still-ready _ v.world) s (answered-in _ v.world) in
      subst (λ (u : World). AlarmsAt u (noted (map of_alarms ns)) × AlarmAnswers u s (noted (map of_alarms ns))) v.world
      (subst (λ (ms : List (Option AlarmEvent)). AlarmsAt (unit.ran alarm_home alarm_homes panel.judged alarms.held_with w₀ v.steps) (noted ms)
      × AlarmAnswers (unit.ran alarm_home alarm_homes panel.judged alarms.held_with w₀ v.steps) s (noted ms)) v.notes (unfold unit.notes in (k, a)))

pub joint-kept : JointKept
unfolding notes
joint-kept groups homes f ss ok fit ready =
    record {
      many = (all_go ss (after_format f) [] (starts f) ok).many;
      table = table-there groups homes f ss ok fit ready;
      pump = pump-there groups homes f ss ok fit ready;
      alarms = alarms-there groups homes f ss ok fit ready;
    }
