-- "For a given service interval it gives whole services due and seconds left over"
use Rattle.std.specs.Prelude.{ℕ, ◌/◌, ◌%◌}
pub use Rattle.unit_hours_book.specs.declared.Due.{Due}

-- [S-67]
unfoldable pub due : ℕ → ℕ → Due
due total interval = record { services = total / interval; left = total % interval }
