-- Whatever is asked, a write that the runner answers lies in its area, its bytes lie where they are said to lie, and the cursor that it answers may be asked.
use Rattle.std.specs.Prelude.{ℕ, ◌+◌, ◌*◌, ◌≤◌, ◌≡◌, cond, List, eqb, length}
use Rattle.object_runner.specs.declared.Cursor.{Cursor}
use Rattle.object_runner.specs.declared.Action.{Action}
use Rattle.object_runner.specs.Next.{writing, refused, log_area, from_batch, next_action}

unfoldable pub area_size : ℕ → ℕ → ℕ → ℕ
area_size groups homes area = cond (eqb area log_area) (64 + 512 * groups) (64 * homes)

-- the log copy is as long as the log
unfoldable pub source_size : ℕ → ℕ → ℕ → ℕ
source_size groups batch source = cond (eqb source from_batch) batch (64 + 512 * groups)

pub record Fits (groups homes next batch : ℕ) (a : Action) : Type 0 where
  pub area : a.kind ≡ writing → (a.area ≤ 1) × (a.offset + a.size ≤ area_size groups homes a.area)
  pub source : a.kind ≡ writing → (a.source ≤ 1) × (a.from + a.size ≤ source_size groups batch a.source)
  pub cursor : (a.kind ≡ refused → ⊥) → (a.at ≤ batch) × (a.headed ≤ next) × (a.stage ≤ 2)

-- [S-85]
abbrev pub Inside : Type 0
Inside =
    (landing groups homes next : ℕ) (batch : List ℕ) (c : Cursor) → Fits groups homes next (length batch) (next_action landing groups homes next batch c)
