-- What the definitions promise, read off the request and not off their text.
use Rattle.std.specs.Prelude.{ℕ, ◌^◌, ◌≤◌, ◌<◌, ◌≡◌, Bool, false, ◌||◌, cond, eqb, length, get_or}
use mathlib.Core.List.{List, [], ◌∷◌, ◌++◌, Memᴰ}
use Rattle.std.proofs.Math.Option.{none, some}
use Rattle.model.specs.Bytes.{part, zeros}
use Rattle.unit_events.specs.Offered.{held_after, done, Accepted}
use Rattle.unit_alarms_list.specs.Alarm.{Alarm, alarm, InRange}
use Rattle.unit_alarms_list.specs.OpenAlarms.{gravest, told, alarms_of, gravest_kept, packed}
use Rattle.unit_alarms_list.specs.Events.{Event, arrival, clearing, answer, applied}

-- ---- the gravest of a list

-- "the lowest class, then the earliest second, then the lowest identity"
pub data Before (a b : Alarm) : Type 0 where
  by_class : a.class < b.class → Before a b
  by_second : a.class ≡ b.class → a.second < b.second → Before a b
  by_identity : a.class ≡ b.class → a.second ≡ b.second → a.identity < b.identity → Before a b

-- the gravest is in the list, and none goes before it; none exactly if the list is empty, and then told as three zeros
pub record Gravest (xs : List Alarm) : Type 0 where
  pub member : (a : Alarm) → gravest xs ≡ some a → Memᴰ a xs
  pub first : (a b : Alarm) → gravest xs ≡ some a → Memᴰ b xs → Before b a → ⊥
  pub empty : xs ≡ [] → gravest xs ≡ none
  pub full : gravest xs ≡ none → xs ≡ []
  pub zeros : xs ≡ [] → told (gravest xs) ≡ alarm 0 0 0
  pub known : ((a : Alarm) → Memᴰ a xs → 1 ≤ a.class) → told (gravest xs) ≡ alarm 0 0 0 → xs ≡ []

-- ---- answers

-- an alarm of that identity is in the list
pub record Has (xs : List Alarm) (i : ℕ) : Type 0 where
  pub which : Alarm
  pub member : Memᴰ which xs
  pub same : which.identity ≡ i

abbrev pub Known : ℕ → Type 0
Known class = (1 ≤ class) × (class ≤ 9)

-- "24 class out of range, an arrival already open or a clearing not open; 25 48 open already, at an arrival", in this order
pub data Says (xs : List Alarm) : Event → ℕ → Type 0 where
  out_of_range : {a : Alarm} → (Known a.class → ⊥) → Says xs (arrival a) 24
  already : {a : Alarm} → Known a.class → Has xs a.identity → Says xs (arrival a) 24
  without_room : {a : Alarm} → Known a.class → (Has xs a.identity → ⊥) → 48 ≤ length xs → Says xs (arrival a) 25
  arrives : {a : Alarm} → Known a.class → (Has xs a.identity → ⊥) → length xs < 48 → Says xs (arrival a) 0
  is_absent : {i : ℕ} → (Has xs i → ⊥) → Says xs (clearing i) 24
  clears : {i : ℕ} → Has xs i → Says xs (clearing i) 0

-- ---- the arrivals not cleared after

unfoldable pub cleared_in : ℕ → List Event → Bool
cleared_in i [] = false
cleared_in i (arrival a ∷ es) = cleared_in i es
cleared_in i (clearing j ∷ es) = eqb i j || cleared_in i es

-- of a list of events, the oldest first, the arrivals that no later one clears
unfoldable pub open_by : List Event → List Alarm
open_by [] = []
open_by (arrival a ∷ es) = cond (cleared_in a.identity es) (open_by es) (a ∷ open_by es)
open_by (clearing i ∷ es) = open_by es

-- what such a list answers
unfoldable pub answer_by : List Event → Event → ℕ
answer_by ds e = answer (open_by ds) e

-- ---- bytes

abbrev pub AllInRange : List Alarm → Type 0
AllInRange xs = (a : Alarm) → Memᴰ a xs → InRange a

pub data Distinct : List Alarm → Type 0 where
  nothing : Distinct []
  more : {a : Alarm} {xs : List Alarm} → (Has xs a.identity → ⊥) → Distinct xs → Distinct (a ∷ xs)

-- six blocks that hold what a list of events says
pub record Represents (ds : List Event) (bs : List ℕ) : Type 0 where
  pub list : alarms_of bs ≡ open_by ds
  pub kept : gravest_kept bs ≡ told (gravest (open_by ds))
  pub few : length (open_by ds) ≤ 48
  pub distinct : Distinct (open_by ds)
  pub ranges : AllInRange (open_by ds)
  pub classes : (a : Alarm) → Memᴰ a (open_by ds) → Known a.class

-- identities of 16 bits and seconds of 32
unfoldable pub Typed : Event → Type 0
Typed (arrival a) = (a.identity < 2 ^ 16) × (a.second < 2 ^ 32)
Typed (clearing i) = i < 2 ^ 16

-- one event: blocks that hold what a list says answer as it does, and hold what it says then
pub record Grown (ds : List Event) (bs output : List ℕ) (e : Event) : Type 0 where
  pub says : Says (open_by ds) e (applied bs output e).code
  pub code : (applied bs output e).code ≡ answer_by ds e
  pub kept : (applied bs output e).code ≡ 0 → Represents (ds ++ (e ∷ [])) (applied bs output e).output
  pub untouched : ((applied bs output e).code ≡ 0 → ⊥) → (applied bs output e).output ≡ output

-- what the homes hold after an event
unfoldable pub held_with : List ℕ → Event → List ℕ
held_with bs e = (applied bs bs e).output

-- for all events that are offered, done or refused: the homes, zeros at first, hold the arrivals not cleared after and their gravest; of an accepted
-- list all are done
pub record Booked (es : List Event) : Type 0 where
  pub kept : Represents (done answer_by es) (held_after held_with (zeros 384) es)
  pub answers : (e : Event) (output : List ℕ) → Says (open_by (done answer_by es)) e (applied (held_after held_with (zeros 384) es) output e).code
  pub accepted : Accepted answer_by es → done answer_by es ≡ es

-- list and gravest are read back as stored, the gravest from the first block alone; all bytes read as a list of at most 48 in range
pub record Readable : Type 0 where
  pub list : (xs : List Alarm) → AllInRange xs → length xs ≤ 48 → alarms_of (packed xs) ≡ xs
  pub kept : (xs : List Alarm) → AllInRange xs → gravest_kept (packed xs) ≡ told (gravest xs)
  pub block : (bs : List ℕ) → gravest_kept (part bs 0 64) ≡ gravest_kept bs
  pub size : (xs : List Alarm) → length (packed xs) ≡ 384
  pub few : (bs : List ℕ) → length (alarms_of bs) ≤ 48
  pub every : (bs : List ℕ) → ((i : ℕ) → get_or bs i 0 < 256) → AllInRange (alarms_of bs)
