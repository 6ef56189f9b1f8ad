-- Question 2 as plain facts: the group numbers and the places filled are in order, so no position passes 64 bits, and then the other numbers.
use Rattle.std.specs.Prelude.{◌≡◌, ℕ, ◌+◌, ◌-◌, ◌*◌, ◌^◌, ◌≤◌, Bool, ◌&&◌, ◌||◌, eqb, leb, ltb}
use Rattle.model.specs.declared.State.{State}
use Rattle.model.specs.State.{next_position}

pub record GroupsInOrder (st : State) : Type 0 where
  pub groups-most : st.groups ≤ 1024
  pub start-most : st.start ≤ 2 ^ 47
  pub start-next : st.start ≤ st.next
  pub next-most : st.next ≤ st.start + st.groups
  pub filled-most : st.filled ≤ 6
  pub filled_none : st.next ≡ st.start + st.groups → st.filled ≡ 0

-- and the numbers of groups and homes are those of the areas
pub record Agrees (st : State) (groups homes : ℕ) : Type 0 where
  pub groups-same : st.groups ≡ groups
  pub homes_same : st.homes ≡ homes
  pub in_order : GroupsInOrder st

-- the positions of the log: the lowest one, and how many there are up to the next one
pub record Live (st : State) (low all : ℕ) : Type 0 where
  pub in_order : GroupsInOrder st
  pub lowest : low ≡ 7 * st.start
  pub every : all ≡ 7 * (st.next - st.start) + st.filled

-- the other numbers but the round
pub record BoundsInOrder (st : State) : Type 0 where
  pub start-settled : 7 * st.start ≤ st.settled
  pub settled-fenced : st.settled ≤ st.fenced
  pub fenced-next : st.fenced ≤ 7 * st.next
  pub durable-fenced : st.durable ≤ st.fenced
  pub last-closing : st.last ≤ next_position st

-- a round: none, or the fixed F from the settled position to F
unfoldable pub round_in_order : State → Bool
round_in_order s = eqb s.round 0 || ltb s.settled s.round && leb s.round (s.fenced + 1)
