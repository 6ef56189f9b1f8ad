-- Homes that lie within an area.
use Rattle.std.specs.Prelude.{ℕ, ◌+◌, ◌*◌, ◌≤◌, List, [], ◌∷◌, length}

-- each of some homes has its 64 bytes in the area
abbrev pub Within : List ℕ → List ℕ → Type 0
Within area [] = Unit {0}
Within area (h ∷ hs) = (64 * h + 64 ≤ length area) × Within area hs
