-- The list of rights over the numbers of the strip, block by block, with its homes' positions kept in a list of bytes from an index on.
use Rattle.std.specs.Prelude.{◌≡◌, Bool, cond, not, ◌||◌, List, [], ◌++◌, ℕ, zero, suc, ◌+◌, ◌*◌, ◌^◌, ◌≤◌, ◌<◌, eqb, length}
use Rattle.model.specs.Bytes.{part, number}
use Rattle.model.specs.Rights.{is_list, signed_list, in_ranges}
use Rattle.model.specs.State.{state_of}
use Rattle.model.specs.declared.State.{State}
use Rattle.log_shown.specs.There.{shown_with, entry_from, Searchable}

-- block i of it, and the first n
unfoldable pub block_by : List ℕ → List ℕ → State → List ℕ → ℕ → ℕ → List ℕ
block_by log area st kept from i = shown_with log area st (8 + i) (number 8 kept (from + 8 * i))

unfoldable pub blocks_by : List ℕ → List ℕ → State → List ℕ → ℕ → ℕ → List ℕ
blocks_by log area st kept from zero = []
blocks_by log area st kept from (suc n) = blocks_by log area st kept from n ++ block_by log area st kept from n

-- block i, by its place in the log, 0 for the data copy
unfoldable pub block_from : List ℕ → List ℕ → ℕ → ℕ → List ℕ
block_from log area place i = cond (eqb place 0) (part area (64 * (8 + i)) 64) (entry_from log place)

-- no list, or a home lies in one of the four ranges from a byte on
unfoldable pub opens : ℕ → List ℕ → ℕ → ℕ → Bool
opens homes list at home = not (is_list homes list) || in_ranges list at home 4

-- the same by the list's sign, where it says something
unfoldable pub opens_by : ℕ → ℕ → List ℕ → ℕ → ℕ → Bool
opens_by sign homes list at home = not (signed_list sign homes list) || in_ranges list at home 4

-- copies and positions in which the list can be looked up, where D is large enough for it
pub record Listed (log area : List ℕ) (st : State) (kept : List ℕ) (from : ℕ) : Type 0 where
  pub search : Searchable log st
  pub long : length area ≡ 64 * st.homes
  pub holds : 12 ≤ st.homes → from + 32 ≤ length kept
  pub low : from < 2 ^ 32

-- what a commit has left, from which the list's part of the state strip is kept
pub record Left (log area state newest : List ℕ) : Type 0 where
  pub search : Searchable log (state_of state)
  pub state_fits : length state ≡ 1024
  pub long : length area ≡ 64 * (state_of state).homes
  pub kept : length newest ≡ 8 * (state_of state).homes
