-- Settling in small steps: what a round keeps, as statements over all histories.
use Rattle.std.specs.Prelude.{ℕ, ◌+◌, ◌*◌, ◌≤◌, ◌<◌, ◌≡◌, ◌⊎◌, Bool, true, false, List, [], ◌∷◌, length}
use Rattle.model.specs.Layout.{home_at}
use Rattle.model.specs.State.{state_of, fixed_in}
use Rattle.model.specs.Effects.{round_homes}
use Rattle.model.specs.Calls.{Outcome}
use Rattle.model.specs.Book.{homes_after}
use Rattle.model.specs.DemandTwo.{closed_below, SettledHomes}
use Rattle.model.specs.History.{Service, settles, round_begins, round_steps, trims, reads, Call, opening, confirm, change, service, Event, call, crash, World, lent, ends, feed, step, Always}
use Rattle.abstract_store.specs.Store.{Store, to_step, after_done}

-- the homes that the next step of the round under way finds
unfoldable pub homes_left : World → List ℕ
homes_left w = round_homes (lent w [] [] 0 0)

unfoldable pub homes_left_by : Outcome → List ℕ
homes_left_by o = round_homes (record { state = o.state; newest = []; log = o.log; area = o.area; block = []; batch = []; writer = 0; home = 0 })

-- A step that leaves homes: "settled" stays, and so do F and the round; k homes fewer remain. So a round ends with the step that finds at most k.
pub record Moved (w : World) (k : ℕ) (o : Outcome) : Type 0 where
  pub settled : (state_of o.state).settled ≡ (state_of w.state).settled
  pub fenced : (state_of o.state).fenced ≡ (state_of w.state).fenced
  pub round : (state_of o.state).round ≡ (state_of w.state).round
  pub cursor : (state_of w.state).cursor < (state_of o.state).cursor
  pub many : k < length (homes_left w)
  pub fewer : length (homes_left_by o) + k ≡ length (homes_left w)

-- "the last step, the one after which no home remains (the first if none is touched), writes FN and only then raises the settled position to the
-- F fixed": the data copy is then what the commits below it say, as one settle at the round's beginning would have left it.
pub record Ended (w : World) (k : ℕ) (o : Outcome) : Type 0 where
  pub few : length (homes_left w) ≤ k
  pub settled : (state_of o.state).settled ≡ fixed_in (state_of w.state)
  pub fenced : (state_of o.state).fenced ≡ 7 * (state_of w.state).next
  pub round : (state_of o.state).round ≡ 0
  pub copied : (h : ℕ) → h < w.homes
      → home_at o.area h
      ≡ home_at (homes_after w.homes (closed_below (fixed_in (state_of w.state)) w.book.commits)) h

-- what a done call does to settled position and round: only an opening, a settle without a round and a round's last step raise the settled position
abbrev pub ServiceRaises : World → Service → Outcome → Type 0
ServiceRaises w (settles batch) o = (state_of w.state).round ≡ 0
ServiceRaises w round_begins o = ((state_of w.state).round ≡ 0) × ((state_of o.state).settled ≡ (state_of w.state).settled)
ServiceRaises w (round_steps k batch) o = Moved w k o ⊎ Ended w k o
ServiceRaises w (trims batch) o = Unit {0}
ServiceRaises w (reads writer home block) o = Unit {0}

abbrev pub Raises : World → Call → Outcome → Type 0
Raises w (opening state newest batch) o = (state_of o.state).round ≡ 0
Raises w confirm o = Unit {0}
Raises w (change c) o = Unit {0}
Raises w (service c) o = ServiceRaises w c o

abbrev pub RaisesAt : World → Event → Type 0
RaisesAt w (call c) = (ends w c).code ≡ 0 → Raises w c (ends w c)
RaisesAt w (crash passed chosen) = Unit {0}

-- Between two steps no call moves the round or makes more homes remain: with `fewer` above, a round whose first step finds n homes ends after at most
-- n ÷ k steps, rounded up, at least 1. And none changes what the commits below the fixed F say: the copy in `Ended` is what one settle at the round's
-- beginning would have left.
unfoldable pub may_come : Call → Bool
may_come (opening state newest batch) = false
may_come confirm = true
may_come (change c) = true
may_come (service (settles batch)) = true
may_come (service round_begins) = false
may_come (service (round_steps homes batch)) = false
may_come (service (trims batch)) = true
may_come (service (reads writer home block)) = true

abbrev pub StaysAt : World → Event → Type 0
StaysAt w (call c) =
    (ends w c).code ≡ 0
    → may_come c ≡ true
    → 1 ≤ (state_of w.state).round
    → ((state_of (step w (call c)).state).round ≡ (state_of w.state).round)
    × ((state_of (step w (call c)).state).cursor ≡ (state_of w.state).cursor)
    × (length (homes_left (step w (call c))) ≤ length (homes_left w))
    × (homes_after w.homes (closed_below (fixed_in (state_of w.state)) (step w (call c)).book.commits)
    ≡ homes_after w.homes (closed_below (fixed_in (state_of w.state)) w.book.commits))
StaysAt w (crash passed chosen) = Unit {0}

-- at every moment the data copy, home by home, is what the commits below the fixed F say for a home below the cursor, and below the settled position
-- for every other
abbrev pub RoundsThroughout : World → List Event → Type 0
RoundsThroughout w [] = w.ready ≡ true → SettledHomes w.homes w.area (state_of w.state) w.book.commits
RoundsThroughout w (e ∷ es) =
    (w.ready ≡ true → SettledHomes w.homes w.area (state_of w.state) w.book.commits) × RaisesAt w e × StaysAt w e × RoundsThroughout (step w e) es

abbrev pub RoundsKept : Type 0
RoundsKept = Always RoundsThroughout

-- the same of the abstract store, whose replies all histories' answers are; a ticket lies above the fixed F
abbrev pub TicketAbove : Store → Call → ℕ → Type 0
TicketAbove s (opening state newest batch) figure = Unit {0}
TicketAbove s confirm figure = Unit {0}
TicketAbove s (change c) figure = ((feed s.book (change c) figure).commits ≡ s.book.commits) ⊎ (s.round ≤ figure)
TicketAbove s (service c) figure = Unit {0}

abbrev pub StepsShrink : Type 0
StepsShrink =
    (s : Store) (c : Call) (figure : ℕ) →
    1 ≤ s.round →
    may_come c ≡ true →
    TicketAbove s c figure →
    length (to_step (after_done s c figure)) ≤ length (to_step s)
