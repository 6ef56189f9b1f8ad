-- What the chains give, home by home: the entry whose transaction closes last, and of that transaction the last entry.
use Rattle.std.specs.Prelude.{ℕ, zero, suc, ◌+◌, ◌-◌, cond, eqb, ltb}
use Rattle.std.proofs.Math.Option.{Option, none, some}
use Rattle.model.specs.declared.Tag.{Tag}
use Rattle.model.specs.declared.Tag.TheVariants.{Nothing, Entry, Closing}

-- a closing entry that does not lie before offset i
unfoldable pub from : ℕ → ℕ → ℕ
from i m = cond (ltb i m) m 0

pub record Best : Type 0 where
  pub closer : ℕ
  pub entry : ℕ

unfoldable pub nothing : Best
nothing = record { closer = 0; entry = 0 }

unfoldable pub better : ℕ → ℕ → Best → Best
better m code r = cond (ltb r.closer m) (record { closer = m; entry = code }) r

-- the entry at offset i, where c gives the last closing entry by the first position
unfoldable pub taken : (ℕ → ℕ) → ℕ → ℕ → Tag → Best → Best
taken c home i Nothing r = r
taken c home i (Entry h f) r = cond (eqb h home) (better (from i (c f)) (i + 1) r) r
taken c home i (Closing h f link count) r = cond (eqb h home) (better (from i (c f)) (i + 1) r) r

-- the best of m offsets from i on
unfoldable pub best : (ℕ → ℕ) → (ℕ → Tag) → ℕ → ℕ → ℕ → ℕ → Best
best c tags base home i zero = nothing
best c tags base home i (suc m) = taken c home i (tags (base + i)) (best c tags base home (suc i) m)

-- a position as one past its offset from a base, 0 for none
unfoldable pub offset_code : ℕ → Option ℕ → ℕ
offset_code base none = 0
offset_code base (some p) = p - base + 1
