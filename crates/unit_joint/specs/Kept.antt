-- All units in one history: each tells and answers by its own of the one list of commits, as if it were alone.
use Rattle.std.specs.Prelude.{ℕ, ◌+◌, ◌≤◌, ◌≡◌, true, List, map, length}
use Rattle.std.proofs.Math.Option.{Option}
use Rattle.model.specs.History.{World, Formatting, after_format}
use Rattle.abstract_store.specs.Store.{Store}
use Rattle.theorems.specs.ActsAnswer.{store_after}
use Rattle.unit_events.specs.Homes.{table_home, table_homes, pump_home, alarm_home, alarm_homes}
use Rattle.unit_events.specs.Folded.{noted}
use Rattle.unit_bands.specs.Histories.{TableAt}
use Rattle.unit_bands.specs.Answers.{TableAnswers}
use Rattle.unit_hours.specs.Histories.{BookAt}
use Rattle.unit_hours.specs.Answers.{PumpAnswers}
use Rattle.unit_alarms.specs.Histories.{AlarmsAt}
use Rattle.unit_alarms.specs.Answers.{AlarmAnswers}
use Rattle.unit_joint.specs.Joint.{Step, ran, acts_all, Done, notes, of_table, of_pump, of_alarms, JointAllowed, JointFits}

-- At one moment, all at once, with the abstract store beside it: each unit whose homes are there.
pub record JointAt (homes : ℕ) (w : World) (s : Store) (ns : List (Option Done)) : Type 0 where
  pub many : length ns ≡ length w.book.commits
  pub table : table_home + table_homes ≤ homes → TableAt w (noted (map of_table ns)) × TableAnswers w s (noted (map of_table ns))
  pub pump : (p : ℕ) → p ≤ 7 → pump_home p + 1 ≤ homes → BookAt p w (noted (map (of_pump p) ns)) × PumpAnswers w s (noted (map (of_pump p) ns)) p
  pub alarms : alarm_home + alarm_homes ≤ homes → AlarmsAt w (noted (map of_alarms ns)) × AlarmAnswers w s (noted (map of_alarms ns))

-- [S-87]
abbrev pub JointKept : Type 0
JointKept =
    (groups homes : ℕ) (f : Formatting groups homes) (ss : List Step) → JointAllowed (after_format f) ss → JointFits (after_format f) ss →
    (ran (after_format f) ss).ready ≡ true →
    JointAt homes (ran (after_format f) ss) (store_after f (acts_all (after_format f) ss)) (notes (after_format f) ss)
