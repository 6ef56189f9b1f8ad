-- What a store does to a writer's record ("the writer holds one block. The same home again replaces it; another home first logs the held one").
use Rattle.std.specs.Prelude.{ℕ, ◌+◌, cond, eqb}
use Rattle.model.specs.declared.Writer.{Writer}
use Rattle.model.specs.State.{holding, logging, holds, first_for, count_for}

-- the record of a writer that comes to hold a block for `home`; one that it holds for another home is logged at `position`
unfoldable pub held_for : Writer → ℕ → ℕ → Writer
held_for r home position =
    let other : Writer = logging home (first_for r position) (count_for r + 1) in
    let held : Writer = cond (eqb r.home home) r other in
    cond (holds r) held (holding home)
