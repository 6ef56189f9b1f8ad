-- The pass over the entries of a writer's open transaction that looks for the newest one for a home.
use Rattle.std.specs.Prelude.{ℕ, ◌+◌, cond, eqb}
use Rattle.model.specs.declared.Tag.{Tag}
use Rattle.log_scan.specs.Members.{taking}
use Rattle.log_scan.specs.Scan.{over}

-- an entry for a home at a position: if the home is the one looked for, its position + 1 is the newest
unfoldable pub note_at : ℕ → ℕ → ℕ → ℕ → ℕ
note_at home p written newest = cond (eqb written home) (p + 1) newest

-- the pass over the m positions from `position` on, for the transaction with first position f
abbrev pub noted : (ℕ → Tag) → ℕ → ℕ → ℕ → ℕ → ℕ → ℕ
noted tags home f position m newest = over (taking f (note_at home)) tags position m newest
