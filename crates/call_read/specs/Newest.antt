-- What read looks for, over the numbers of the strip: the entry for a home that it shows.
use Rattle.std.specs.Prelude.{cond, List, ℕ, ◌-◌, ◌*◌}
use Rattle.std.proofs.Math.Option.{Option, none, some}
use Rattle.model.specs.Commit.{members, newest_in, or_else}
use Rattle.model.specs.Newest.{kept_for}
use Rattle.model.specs.State.{next_position, has_logged}
use Rattle.model.specs.declared.State.{State}
use Rattle.model.specs.declared.Writer.{Writer}
use Rattle.log_shown.specs.There.{tags_by, there_by}

-- the newest entry for a home in a writer's open transaction
unfoldable pub own_entry : List ℕ → State → Writer → ℕ → Option ℕ
own_entry log st r home =
    let own : Option ℕ = newest_in (tags_by log st) home (members (tags_by log st) r.first (7 * st.start) (next_position st - 7 * st.start)) in
    cond (has_logged r) own none

-- the entry at the position kept for the home, if one for that home is there
unfoldable pub entry_kept : List ℕ → List ℕ → State → ℕ → Option ℕ
entry_kept log newest st home = let p : ℕ = kept_for newest home in cond (there_by log st home p) (some p) none

-- the one that a writer sees
unfoldable pub seen_entry : List ℕ → List ℕ → State → Writer → ℕ → Option ℕ
seen_entry log newest st r home = or_else (own_entry log st r home) (entry_kept log newest st home)
