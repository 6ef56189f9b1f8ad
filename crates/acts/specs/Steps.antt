-- Where a writer that begins, stores home blocks in a row and commits them stands after some of the stores.
use Rattle.std.specs.Prelude.{ℕ, ◌+◌, ◌*◌, ◌^◌, ◌≤◌, ◌<◌, ◌≡◌, true, ◌⊎◌, List, [], length}
use Rattle.model.specs.Batch.{Record, batch_bytes}
use Rattle.model.specs.declared.State.{State}
use Rattle.model.specs.State.{state_of, next_position, writer_of, holds, first_for, count_for}
use Rattle.model.specs.Effects.{Given, Effect}

-- the log copy, the strip and the lent blocks of a transact of n blocks that questions 1, 2, 4, 5 and 8 let through
pub record Several (l s x : List ℕ) (w home n : ℕ) : Type 0 where
  pub state_fits : length s ≡ 1024
  pub writer : w < 8
  pub some : 4 ≤ (state_of s).groups
  pub few : (state_of s).groups ≤ 1024
  pub known : (state_of s).homes ≤ 65535
  pub log : length l ≡ 64 + 512 * (state_of s).groups
  pub high : (state_of s).start ≤ 2 ^ 47
  pub low : (state_of s).start ≤ (state_of s).next
  pub filled : (state_of s).filled ≤ 6
  pub last : (state_of s).last ≤ next_position (state_of s)
  pub homes : home + n ≤ 2 ^ 16
  pub blocks : length x ≡ 64 * n
  pub least : 1 ≤ n
  pub most : n ≤ 7
  pub room : next_position (state_of s) + n ≤ 7 * ((state_of s).start + (state_of s).groups)

-- the next position after j entries and the records so far: no group is submitted, or one, since a group has seven places
abbrev pub Moved : State → ℕ → State → List Record → Type 0
Moved st j st' records =
    ((st'.next ≡ st.next) × (st'.filled ≡ st.filled + j) × (records ≡ []))
    ⊎ ((st'.next ≡ st.next + 1) × (st'.filled + 7 ≡ st.filled + j) × (length (batch_bytes records) ≡ 516))

-- what j + 1 stores leave: j entries are logged and the last block is held
pub record Stored (g : Given) (j : ℕ) (e : Effect) : Type 0 where
  pub state_fits : length e.state ≡ 1024
  pub log : length e.log ≡ length g.log
  pub newest : e.newest ≡ g.newest
  pub area : e.area ≡ g.area
  pub groups : (state_of e.state).groups ≡ (state_of g.state).groups
  pub homes : (state_of e.state).homes ≡ (state_of g.state).homes
  pub start : (state_of e.state).start ≡ (state_of g.state).start
  pub last : (state_of e.state).last ≡ (state_of g.state).last
  pub holding : holds (writer_of e.state g.writer) ≡ true
  pub home : (writer_of e.state g.writer).home ≡ g.home + j
  pub first : first_for (writer_of e.state g.writer) (next_position (state_of e.state)) ≡ next_position (state_of g.state)
  pub count : count_for (writer_of e.state g.writer) ≡ j
  pub filled : (state_of e.state).filled ≤ 6
  pub moved : Moved (state_of g.state) j (state_of e.state) e.records
