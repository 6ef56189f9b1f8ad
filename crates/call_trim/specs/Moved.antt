-- The strip of a log whose start has moved.
use Rattle.std.specs.Prelude.{ℕ, ◌*◌, cond, List, leb}
use Rattle.model.specs.State.{set_start, set_fenced, set_last}
use Rattle.model.specs.declared.State.{State}

-- "a last closing before it becomes none"
unfoldable pub kept_last : ℕ → ℕ → ℕ
kept_last last start = cond (leb last (7 * start)) 0 last

-- "Each FN sets the fenced position F to 7 × (number of the next group not handed on)."
unfoldable pub moved_state : List ℕ → State → ℕ → List ℕ
moved_state s st start = set_last (set_fenced (set_start s start) (7 * st.next)) (kept_last st.last start)
