-- What the definitions promise, read off the request and not off their text: the list of a pump's done events says everything.
use Rattle.std.specs.Prelude.{ℕ, ◌+◌, ◌-◌, ◌*◌, ◌^◌, ◌≤◌, ◌<◌, ◌≡◌, Bool, true, false, not, ◌&&◌, cond, List, [], ◌∷◌, ◌++◌, ltb, length, get_or}
use Rattle.model.specs.Bytes.{zeros}
use Rattle.unit_events.specs.Offered.{held_after, joined, done, Accepted}
use Rattle.unit_hours_book.specs.Pump.{Pump, pump_of, block_of, Fits}
use Rattle.unit_hours_book.specs.Events.{Event, start_at, stop_at, applied}
use Rattle.unit_hours_book.specs.Services.{due}

-- ---- what a list of a pump's events says, the oldest first

unfoldable pub second_of : Event → ℕ
second_of (start_at s) = s
second_of (stop_at s) = s

unfoldable pub is_start : Event → Bool
is_start (start_at s) = true
is_start (stop_at s) = false

-- the number of starts
unfoldable pub starts : List Event → ℕ
starts [] = 0
starts (e ∷ es) = cond (is_start e) 1 0 + starts es

-- "stop less start, over finished runs": a run is finished if a stop follows its start
unfoldable pub run : Event → List Event → ℕ
run (start_at a) [] = 0
run (start_at a) (start_at b ∷ es) = 0
run (start_at a) (stop_at b ∷ es) = b - a
run (stop_at a) es = 0

unfoldable pub total : List Event → ℕ
total [] = 0
total (e ∷ es) = run e es + total es

-- whether the last event is a start, and its second; what holds before the first event is given
unfoldable pub runs_from : Bool → List Event → Bool
runs_from b [] = b
runs_from b (e ∷ es) = runs_from (is_start e) es

unfoldable pub last_from : ℕ → List Event → ℕ
last_from s [] = s
last_from s (e ∷ es) = last_from (second_of e) es

abbrev pub runs : List Event → Bool
runs es = runs_from false es

abbrev pub last_second : List Event → ℕ
last_second es = last_from 0 es

-- "15 start while running or stop while idle; 16 a second before the pump's last event, or a total or start count past 32 bits"
unfoldable pub wrong_turn : Event → Bool → Bool
wrong_turn e running = cond (is_start e) running (not running)

unfoldable pub within : List Event → Bool
within es = ltb (starts es) (2 ^ 32) && ltb (total es) (2 ^ 32)

unfoldable pub answer_by : List Event → Event → ℕ
answer_by es e = cond (wrong_turn e (runs es)) 15 (cond (ltb (second_of e) (last_second es)) 16 (cond (within (es ++ (e ∷ []))) 0 16))

-- ---- blocks

-- what a pump's block holds after an event
unfoldable pub held_with : List ℕ → Event → List ℕ
held_with block e = (applied block e).block

pub record Says (es : List Event) (p : Pump) : Type 0 where
  pub starts : p.starts ≡ starts es
  pub total : p.total ≡ total es
  pub last : p.last ≡ last_second es
  pub running : p.running ≡ runs es

-- a block that holds what a list says; its total is never above its last second
pub record Represents (ds : List Event) (block : List ℕ) : Type 0 where
  pub says : Says ds (pump_of block)
  pub fits : Fits (pump_of block)
  pub below : total ds ≤ last_second ds

-- one event: a block that holds what a list says answers as the list does, and holds what the list says then
pub record Grown (ds : List Event) (block : List ℕ) (e : Event) : Type 0 where
  pub code : (applied block e).code ≡ answer_by ds e
  pub kept : Represents (joined answer_by ds e) (held_with block e)

-- a second of 32 bits
abbrev pub Timed : Event → Type 0
Timed e = second_of e < 2 ^ 32

-- for all events that a pump is offered, done or refused: its home, zeros at first, holds what the done ones say, and every next answer is theirs;
-- of an accepted list all are done
pub record Booked (es : List Event) : Type 0 where
  pub kept : Represents (done answer_by es) (held_after held_with (zeros 64) es)
  pub answers : (e : Event) → (applied (held_after held_with (zeros 64) es) e).code ≡ answer_by (done answer_by es) e
  pub accepted : Accepted answer_by es → done answer_by es ≡ es

-- "services × interval + left over is the total, and left over is below the interval", and no other two numbers are so
pub record Serviced (total interval : ℕ) : Type 0 where
  pub sum : (due total interval).services * interval + (due total interval).left ≡ total
  pub below : (due total interval).left < interval
  pub only : (q r : ℕ) → q * interval + r ≡ total → r < interval → (q ≡ (due total interval).services) × (r ≡ (due total interval).left)

-- every block of bytes reads as a record whose numbers fit, and a record is read back from its block
pub record Readable : Type 0 where
  pub every : (block : List ℕ) → ((i : ℕ) → get_or block i 0 < 256) → Fits (pump_of block)
  pub back : (p : Pump) → Fits p → pump_of (block_of p) ≡ p
  pub size : (p : Pump) → length (block_of p) ≡ 64
