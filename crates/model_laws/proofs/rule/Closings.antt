-- The commit rule for code that looks at the log twice: the committed transactions are those of all closing entries up to the last one committed.
use Prim.Native.Nat.{ℕ, zero, suc, ◌+◌}
use mathlib.Core.List.{List, [], ◌∷◌, ◌++◌}
use Rattle.model.specs.Commit.{Span}
use Rattle.model.specs.declared.Tag.{Tag}
use Rattle.model.specs.declared.Tag.TheVariants.{Nothing, Entry, Closing}

-- the transaction that a tag at a position closes, if it closes one
unfoldable pub span_at : Tag → ℕ → List Span
span_at Nothing p = []
span_at (Entry h f) p = []
span_at (Closing h f link count) p = record { first = f; closing = p } ∷ []

-- those of all closing entries among the n positions from base on
unfoldable pub closings : (ℕ → Tag) → ℕ → ℕ → List Span
closings log base zero = []
closings log base (suc n) = closings log base n ++ span_at (log (base + n)) (base + n)

-- one past the last closing entry, or 0 for none
unfoldable pub end_of : List Span → ℕ
end_of [] = 0
end_of (s ∷ []) = s.closing + 1
end_of (s ∷ t ∷ ss) = end_of (t ∷ ss)
