-- The history of specs/Example meets the premises of `JointKept`, `DoneIsLast` and `ConfirmedStays`, which therefore say something of it; the list at its end, and
-- the ticket that the confirm just reaches, by computation.
use Prim.Native.Nat.{ℕ, suc, ◌/◌, ◌≤◌}
use mathlib.Core.Path.{◌≡◌, refl, subst}
use mathlib.Core.Logic.{inl}
use mathlib.Core.Bool.{Bool, true}
use mathlib.Core.List.{List, [], ◌∷◌, ◌++◌}
use mathlib.Core.Option.{some}
use native.Mathlib.Omega.{arith}
use lib.ListN.{length, take, length-replicate}
use Rattle.model.specs.Calls.{format_call}
use Rattle.model.specs.Crash.{fences}
use Rattle.model.specs.History.{confirm, World, Formatting, after_format, empty_store, ends}
use Rattle.model.proofs.examples.Computing.{all-definitions}
use Rattle.theorems.specs.ActsAnswer.{store_after}
use Rattle.theorems.proofs.steps.FormatRuns.{after-format}
use Rattle.unit_bands_table.specs.Stored as table
use Rattle.unit_hours_book.specs.Events.{start_at}
use Rattle.unit_hours_book.specs.Guarantees as hours
use Rattle.unit_alarms_list.specs.Guarantees as alarms
use Rattle.unit_joint.specs.Joint.{Step, stepped, ran, acts_all, pump_done, note_of, notes, JointAllowed, JointFits, IsDone, ticket_of, NoCuts, confirms}
use Rattle.unit_joint.specs.Kept.{JointAt}
use Rattle.unit_joint.specs.Example.{blank, blank_copies, opens, one_band, all_homes, two_writers, before, starts, between, busy, cuts, afterwards, later, history, kept, ticket}
use Rattle.unit_joint.proofs.NotesKept.{done-is-last, confirmed-stays}
use Rattle.unit_joint.proofs.JointHolds.{joint-kept}
use Rattle.unit_joint.proofs.UnitsComputing.{unit-definitions}

-- a name that unfolds every definition below
unfoldable computed : Bool
unfolding unit-definitions blank blank_copies opens one_band all_homes two_writers before starts between busy cuts afterwards kept
computed = true

format-done : (format_call blank_copies).code ≡ 0
unfolding computed
format-done = refl

pub format : Formatting 4 30
unfolding blank blank_copies all-definitions
format =
    record {
      memory = blank;
      given = blank_copies;
      log_size = length-replicate {A = ℕ} 2112 0;
      area_size = length-replicate {A = ℕ} 1920 0;
      log_copy = length-replicate {A = ℕ} 2112 0;
      area_copy = length-replicate {A = ℕ} 1920 0;
      done = format-done;
    }

-- the list at its end
pub kept_there : notes (empty_store 4 30) history ≡ kept
unfolding computed
kept_there = refl

-- the premises, up to the cut, of the cut, and after it
abbrev front : List Step
front = before ++ (starts ∷ (between ++ (confirms ∷ busy)))

met-front : JointAllowed (empty_store 4 30) front
unfolding computed
met-front = (refl, (refl, (refl, (refl, (refl, (refl, (refl, (refl, (refl, (refl, (refl, (refl, (refl, (refl, (refl, tt)))))))))))))))

abbrev at_cut : World
at_cut = ran (empty_store 4 30) front

passed-there : at_cut.passed ≡ 4
unfolding computed
passed-there = refl

fences-there : fences at_cut.pending ≡ 4
unfolding computed
fences-there = refl

met-after : JointAllowed (stepped at_cut cuts) afterwards
unfolding computed
met-after = (refl, (refl, (refl, tt)))

met-cut : JointAllowed at_cut (cuts ∷ afterwards)
unfolding cuts
met-cut = ((omega (arith, passed-there), omega (arith, fences-there)), met-after)

allowed-join : (ss ts : List Step) (w : World) → JointAllowed w ss → JointAllowed (ran w ss) ts → JointAllowed w (ss ++ ts)
unfolding ran
allowed-join [] ts w a b = b
allowed-join (s ∷ ss) ts w a b = (a.0, allowed-join ss ts (stepped w s) a.1 b)

same-list : front ++ (cuts ∷ afterwards) ≡ history
unfolding before between busy
same-list = refl

met : JointAllowed (empty_store 4 30) history
met = subst (JointAllowed (empty_store 4 30)) same-list (allowed-join front (cuts ∷ afterwards) (empty_store 4 30) met-front met-cut)

ready-there : (ran (empty_store 4 30) history).ready ≡ true
unfolding computed
ready-there = refl

band-accepted : table.Accepted one_band
unfolding computed
band-accepted = refl

-- homes 8 and 9, which hold the list, are apart from all units' homes
two-homes : length (two_writers ++ two_writers) / 64 ≡ 2
unfolding computed
two-homes = refl

fits : JointFits (after_format format) history
unfolding before starts between busy cuts afterwards opens hours.second_of alarms.Typed
fits = (record { from_table = λ z. tt; from_pumps = λ p l z. tt; from_alarms = λ z. tt }, (record { from_table = λ z. tt; from_pumps = λ p l z. tt; from_alarms = λ z. tt }, (band-accepted, ((omega arith, omega arith), (record { from_table = λ z. inl (omega (arith, two-homes)); from_pumps = λ p l z. inl (omega (arith, two-homes)); from_alarms = λ z. inl (omega (arith, two-homes)) }, ((omega arith, omega arith), ((omega arith, omega arith), ((omega arith, omega arith), ((omega arith, omega arith), (record { from_table = λ z. tt; from_pumps = λ p l z. tt; from_alarms = λ z. tt }, (record { from_table = λ z. tt; from_pumps = λ p l z. tt; from_alarms = λ z. tt }, (record { from_table = λ z. tt; from_pumps = λ p l z. tt; from_alarms = λ z. tt }, (record { from_table = λ z. tt; from_pumps = λ p l z. tt; from_alarms = λ z. tt }, ((omega arith, omega arith), ((omega arith, omega arith), (record { from_table = λ z. tt; from_pumps = λ p l z. tt; from_alarms = λ z. tt }, (record { from_table = λ z. tt; from_pumps = λ p l z. tt; from_alarms = λ z. tt }, ((omega arith, omega arith), (omega arith, tt)))))))))))))))))))

-- pump 0's start is done, and its ticket is the confirm's figure
done-there : IsDone (ran (empty_store 4 30) before) starts
unfolding computed
done-there = refl

ticket-there : ticket_of (ran (empty_store 4 30) before) starts ≡ ticket
unfolding computed
ticket-there = refl

calm : NoCuts between
unfolding between
calm = (tt, (tt, tt))

confirm-there : (ends (ran (stepped (ran (empty_store 4 30) before) starts) between) confirm).code ≡ 0
unfolding computed
confirm-there = refl

pub figure-there : (ends (ran (stepped (ran (empty_store 4 30) before) starts) between) confirm).figure ≡ ticket
unfolding computed
figure-there = refl

reached : ticket_of (ran (empty_store 4 30) before) starts ≤ (ends (ran (stepped (ran (empty_store 4 30) before) starts) between) confirm).figure
reached = omega (arith, ticket-there, figure-there)

starts-noted : note_of starts ≡ some (pump_done 0 (start_at 10))
unfolding note_of starts
starts-noted = refl

met-first : JointAllowed (empty_store 4 30) (before ++ (starts ∷ []))
unfolding computed
met-first = (refl, (refl, (refl, (refl, (refl, (refl, (refl, (refl, tt))))))))

-- the theorems say this of it: once it is done, the start is the last of the list
pub start-last : notes (after_format format) (before ++ (starts ∷ [])) ≡ notes (after_format format) before ++ (some (pump_done 0 (start_at 10)) ∷ [])
start-last =
    done-is-last 4 30 format before starts (pump_done 0 (start_at 10)) (rw (after-format format) met-first) starts-noted (rw (after-format format) done-there)

-- once it is confirmed, it is there to stay
pub start-stays : take (suc (length (notes (after_format format) before))) (notes (after_format format) history)
    ≡ notes (after_format format) before ++ (some (pump_done 0 (start_at 10)) ∷ [])
start-stays =
    confirmed-stays 4 30 format before starts between later (pump_done 0 (start_at 10)) (rw (after-format format) met) starts-noted
    (rw (after-format format) done-there) calm (rw (after-format format) confirm-there) (rw (after-format format) reached)

-- and every unit tells and answers by its own of the list
pub joint-there : JointAt 30 (ran (after_format format) history) (store_after format (acts_all (after_format format) history)) (notes (after_format format) history)
joint-there = joint-kept 4 30 format history (rw (after-format format) met) fits (rw (after-format format) ready-there)
