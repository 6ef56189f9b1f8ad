-- What a commit leaves in the slices of a call.
use Rattle.std.specs.Prelude.{ℕ, ◌+◌, ◌-◌, ◌*◌, ◌≡◌, List, [], length}
use Rattle.model.specs.Bytes.{puts}
use Rattle.model.specs.Batch.{batch_bytes}
use Rattle.model.specs.State.{set_last, next_position, set_writer, held_of, set_promise, idle, first_for, count_for}
use Rattle.model.specs.declared.State.{State}
use Rattle.model.specs.declared.Writer.{Writer}
use Rattle.model.specs.Tag.{closing_word}
use Rattle.model.specs.Layout.{entry_at}
use Rattle.model.specs.Commit.{entries}
use Rattle.model.specs.Newest.{keep_entries}
use Rattle.model.specs.Rights.{keep_list}
use Rattle.model.specs.Effects.{Logged, logged, link_from}
use Rattle.model.specs.declared.Tag.{Tag}
use Rattle.call_ask.specs.Lent.{lent_all}

-- a held block logged as a closing entry
unfoldable pub logged_closing : List ℕ → List ℕ → State → Writer → ℕ → Logged
logged_closing s log st r w =
    logged s log
    (closing_word r.home (next_position st - first_for r (next_position st)) (link_from (next_position st) st) (count_for r + 1))
    (held_of s w)

-- a commit that logs the held block: the closing entry, and with the promise given back, the newest positions kept, and with them the list's part of the strip
pub record Closed (n : ℕ) (s l b : List ℕ) (s₀ l₀ b₀ : List ℕ) (st : State) (r : Writer) (w : ℕ) : Type 0 where
  pub size : n ≡ length (batch_bytes (logged_closing s₀ l₀ st r w).records)
  pub state : s ≡ set_writer (set_last (logged_closing s₀ l₀ st r w).state (next_position st + 1)) w idle
  pub log : l ≡ (logged_closing s₀ l₀ st r w).log
  pub batch : b ≡ puts b₀ 0 (batch_bytes (logged_closing s₀ l₀ st r w).records)

-- the newest positions with those of the transaction that closes at the next position
unfoldable pub kept_under : List ℕ → State → Writer → List ℕ → List ℕ
kept_under log st r newest =
    let tags : ℕ → Tag = entry_at log st.groups st.homes st.start in
    keep_entries tags (entries tags (7 * st.start) (record { first = first_for r (next_position st); closing = next_position st })) newest

pub record Committed (n : ℕ) (s p l b : List ℕ) (s₀ p₀ l₀ b₀ a : List ℕ) (st : State) (r : Writer) (w : ℕ) : Type 0 where
  pub size : n ≡ length (batch_bytes (logged_closing s₀ l₀ st r w).records)
  pub state : s
      ≡ keep_list
      (lent_all l a (set_promise (set_writer (set_last (logged_closing s₀ l₀ st r w).state (next_position st + 1)) w idle) w 0) p [] [] 0 0)
  pub newest : p ≡ kept_under l st r p₀
  pub log : l ≡ (logged_closing s₀ l₀ st r w).log
  pub batch : b ≡ puts b₀ 0 (batch_bytes (logged_closing s₀ l₀ st r w).records)
