-- The last closing entry of each transaction, by its first position.
use Rattle.std.specs.Prelude.{ℕ, zero, suc, ◌+◌, Bool, false, cond, eqb}
use Rattle.model.specs.declared.Tag.{Tag}
use Rattle.model.specs.declared.Tag.TheVariants.{Nothing, Entry, Closing}

-- whether a tag closes the transaction with first position f
unfoldable pub closes : ℕ → Tag → Bool
closes f Nothing = false
closes f (Entry h g) = false
closes f (Closing h g link count) = eqb f g

-- among the first n offsets the last closing entry of the transaction with first position f
unfoldable pub closer : (ℕ → Tag) → ℕ → ℕ → ℕ → ℕ
closer tags base zero f = 0
closer tags base (suc n) f = cond (closes f (tags (base + n))) (n + 1) (closer tags base n f)
