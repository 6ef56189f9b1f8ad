-- "A writer's own record is changed at its place, the other seven untouched."
use Rattle.std.specs.Prelude.{ℕ, ◌+◌, ◌<◌, ◌≤◌, ◌≡◌, ◌⊎◌, ◌≢◌, List, length, get_or}
use Rattle.model.specs.State.{state_of, mode_offset, writer_offset, writer_of, held_of}

-- a strip t that differs from a strip s in the mode of one writer and the 24 bytes of its record at most
pub record SameElsewhere (w : ℕ) (s t : List ℕ) : Type 0 where
  pub size : length t ≡ length s
  pub numbers : state_of t ≡ state_of s
  pub writer : (v : ℕ) → v < 8 → v ≢ w → writer_of t v ≡ writer_of s v
  pub held : (v : ℕ) → held_of t v ≡ held_of s v
  pub byte : (i : ℕ) → i ≢ mode_offset w → (i < writer_offset w) ⊎ (writer_offset w + 24 ≤ i) → get_or t i 0 ≡ get_or s i 0
