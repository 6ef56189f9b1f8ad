-- What must hold where a held block is logged, and what logging it leaves in the slices of a call.
use Rattle.std.specs.Prelude.{ℕ, ◌+◌, ◌-◌, ◌*◌, ◌^◌, ◌≤◌, ◌<◌, ◌≡◌, List, length}
use Rattle.model.specs.Bytes.{puts}
use Rattle.model.specs.Batch.{batch_bytes}
use Rattle.model.specs.State.{state_of, next_position, set_writer, held_of, set_held, set_promise, promise_left, logging, first_for, count_for}
use Rattle.model.specs.declared.State.{State}
use Rattle.model.specs.declared.Writer.{Writer}
use Rattle.model.specs.Tag.{entry_word}
use Rattle.model.specs.Effects.{Logged, logged, link_from}

-- an entry may be logged: there is room in the log and in the batch
pub record MayLog (l s b : List ℕ) (st : State) (w : ℕ) : Type 0 where
  pub state : st ≡ state_of s
  pub state_fits : length s ≡ 1024
  pub writer : w < 8
  pub some : 4 ≤ st.groups
  pub few : st.groups ≤ 1024
  pub homes : st.homes ≤ 65535
  pub log : length l ≡ 64 + 512 * st.groups
  pub high : st.start ≤ 2 ^ 47
  pub low : st.start ≤ st.next
  pub room : st.next < st.start + st.groups
  pub filled : st.filled ≤ 6
  pub batch : st.filled ≡ 6 → 516 ≤ length b

-- the fields of a held block's tag fit
pub record Fits (st : State) (r : Writer) (position : ℕ) : Type 0 where
  pub home : r.home < 2 ^ 16
  pub from : 7 * st.start ≤ first_for r position
  pub upto : first_for r position ≤ position
  pub near : position < first_for r position + 2 ^ 13
  pub many : count_for r + 1 < 2 ^ 13
  pub high : position + 1 < 2 ^ 63
  pub before : st.last ≤ position + 1
  pub link : link_from position st < 2 ^ 13

-- the strip, the log and the batch once an entry is logged, and the size of what the batch holds
pub record Wrote (n : ℕ) (s l b : List ℕ) (b₀ : List ℕ) (e : Logged) : Type 0 where
  pub size : n ≡ length (batch_bytes e.records)
  pub state : s ≡ e.state
  pub log : l ≡ e.log
  pub batch : b ≡ puts b₀ 0 (batch_bytes e.records)

-- a held block logged as an entry that does not close
unfoldable pub logged_entry : List ℕ → List ℕ → State → Writer → ℕ → Logged
logged_entry s log st r w =
    logged s log (entry_word r.home (next_position st - first_for r (next_position st))) (held_of s w)

-- a store that logs the held block: the entry and the next block, and with the promise that it uses up
pub record HeldNext (n : ℕ) (s l b : List ℕ) (s₀ l₀ b₀ x : List ℕ) (st : State) (r : Writer) (w home : ℕ) : Type 0 where
  pub size : n ≡ length (batch_bytes (logged_entry s₀ l₀ st r w).records)
  pub state : s ≡ set_held (set_writer (logged_entry s₀ l₀ st r w).state w (logging home (first_for r (next_position st)) (count_for r + 1))) w x
  pub log : l ≡ (logged_entry s₀ l₀ st r w).log
  pub batch : b ≡ puts b₀ 0 (batch_bytes (logged_entry s₀ l₀ st r w).records)

pub record StoredOther (n : ℕ) (s l b : List ℕ) (s₀ l₀ b₀ x : List ℕ) (st : State) (r : Writer) (w home : ℕ) : Type 0 where
  pub size : n ≡ length (batch_bytes (logged_entry s₀ l₀ st r w).records)
  pub state : s
      ≡ set_promise (set_held (set_writer (logged_entry s₀ l₀ st r w).state w (logging home (first_for r (next_position st)) (count_for r + 1))) w x) w
      (promise_left s₀ w)
  pub log : l ≡ (logged_entry s₀ l₀ st r w).log
  pub batch : b ≡ puts b₀ 0 (batch_bytes (logged_entry s₀ l₀ st r w).records)
