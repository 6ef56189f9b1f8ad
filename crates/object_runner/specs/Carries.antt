-- Demand 3 for the proved runner. DemandRunner speaks of `motions`; here it is the runner's own actions that are carried out, batch by batch.
use Rattle.std.specs.Prelude.{ℕ, ◌≤◌, ◌≡◌, Bool, cond, ◌&&◌, List, [], ◌∷◌, ◌++◌, eqb, length, take}
use Rattle.model.specs.Calls.{Outcome, format_call}
use Rattle.model.specs.Crash.{Memory, fences}
use Rattle.model.specs.DemandThree.{Crashed, Holds}
use Rattle.model.specs.History.{Call, call, World, Formatting, format_records, after_format, ends, step, is_opening, is_confirm, Allowed}
use Rattle.object.specs.Medium.{Grain, loses}
use Rattle.object.specs.Alike.{torn, tears}
use Rattle.object.specs.Order.{Motion, motions, moved, Completed}
use Rattle.object.specs.Runner.{Doing, calls, cuts}
use Rattle.object_runner.specs.Next.{cursor}
use Rattle.object_runner.specs.Moves.{Hands}
use Rattle.object_runner.specs.Always.{batch_of, next_of}

-- the number that the runner keeps from batch to batch; an opening sets it to the next group
unfoldable pub headed_for : Call → Outcome → ℕ → ℕ
headed_for c o headed = cond (is_opening c) (next_of o) headed

-- a done confirm comes when all actions handed out so far have been carried out: no later cut comes before them
unfoldable pub least_after : Call → Outcome → List Motion → ℕ → ℕ
least_after c o handed least = cond (is_confirm c && eqb o.code 0) (length handed) least

-- Power goes after `many` of the actions handed out since the last cut, and of the words, or blocks, written since the last completed fence any have landed.
abbrev pub left_under : Grain → Memory → List Motion → ℕ → (ℕ → Bool) → Memory
left_under l m handed many chosen = (loses l chosen (moved (record { lasting = m; written = [] }) (take many handed))).lasting

-- At each call the runner hands out some actions for its batch, refuses none and is then done; together with those handed out before they are the motions of
-- the records since the last cut. At each cut what DemandRunner says, of memory as these actions leave it.
module _ (l : Grain) (groups homes : ℕ) where
  abbrev pub AllCarried : World → ℕ → List Motion → ℕ → List Doing → Type 0
  AllCarried w headed handed least [] = Unit {0}
  AllCarried w headed handed least (calls c ∷ ds) =
      Allowed w (call c) →
      let o : Outcome = ends w c in
      Holds w (call c)
      × (actions : List Motion)
      × (on : ℕ)
      × Hands l groups homes (next_of o) (batch_of o) o.log (cursor 0 (headed_for c o headed) 0) actions on
      × (handed ++ actions ≡ motions l [] (step w (call c)).pending)
      × AllCarried (step w (call c)) on (handed ++ actions) (least_after c o handed least) ds
  AllCarried w headed handed least (cuts many chosen ∷ ds) =
      least ≤ many →
      (passed : ℕ)
      × (c : ℕ → Bool)
      × (passed ≤ fences w.pending)
      × Completed l w many passed
      × Crashed w passed c
      × AllCarried (tears w (torn passed c (left_under l w.memory handed many chosen))) 0 [] 0 ds

-- [S-57, S-85]
abbrev pub RunnerCarries : Type 0
RunnerCarries =
    (l : Grain) (groups homes : ℕ) (f : Formatting groups homes) (ds : List Doing) → AllCarried l groups homes (after_format f) 0 [] 0 ds

-- The actions of a format's batch are its motions too, which FormatCutRunner speaks of; no first word is due, whatever group is told as the next. [S-85]
abbrev pub RunnerFormats : Type 0
RunnerFormats =
    (l : Grain) (groups homes : ℕ) (f : Formatting groups homes) (next : ℕ) (log : List ℕ) →
    Hands l groups homes next (batch_of (format_call f.given)) log (cursor 0 next 0) (motions l [] (format_records f)) next
