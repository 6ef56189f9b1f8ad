-- What must hold of the lent slices where a writer begins, stores home blocks in a row and commits them, and where they stand after some of the stores.
use Rattle.std.specs.Prelude.{ℕ, ◌+◌, ◌≤◌, ◌≡◌, List, length}
use Rattle.model.specs.Bytes.{puts}
use Rattle.model.specs.Batch.{batch_bytes}
use Rattle.model.specs.State.{state_of}
use Rattle.model.specs.Effects.{Given, Effect}
use Rattle.acts.specs.Many.{stored_first}
pub use Rattle.acts.specs.Steps.{Several, Moved, Stored}

-- a batch with room for the group that its entries may fill
abbrev pub BatchRoom : List ℕ → List ℕ → ℕ → Type 0
BatchRoom s b n = 7 ≤ (state_of s).filled + n → 516 ≤ length b

-- the strip, the log copy and the batch stand as an effect leaves them, and this many bytes are written
pub record Reached (n : ℕ) (s l b b₀ : List ℕ) (e : Effect) : Type 0 where
  pub size : n ≡ length (batch_bytes e.records)
  pub state : s ≡ e.state
  pub log : l ≡ e.log
  pub batch : b ≡ puts b₀ 0 (batch_bytes e.records)

-- the lent slices while a call that was lent g transacts n blocks and has stored i of them
pub record Under (g : Given) (x : List ℕ) (w h n i size : ℕ) (s l b : List ℕ) : Type 0 where
  pub block : g.block ≡ x
  pub writer : g.writer ≡ w
  pub home : g.home ≡ h
  pub chain : Several g.log g.state g.block g.writer g.home n
  pub room : BatchRoom g.state g.batch n
  pub reached : Reached size s l b g.batch (stored_first g i)
