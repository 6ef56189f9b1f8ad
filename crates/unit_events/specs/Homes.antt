-- Which homes belong to which request: "homes of this and later requests don't overlap". Every unit takes its homes from here, and docs/HOMES.md shows them.
use Rattle.std.specs.Prelude.{ℕ, ◌+◌, ◌≤◌, ◌<◌, List, [], ◌∷◌}
use Rattle.model.specs.State.{list_home}
use Rattle.acts.specs.Units.{Apart}

-- homes in a row: the first, and how many
pub record Range : Type 0 where
  pub first : ℕ
  pub many : ℕ

-- request h: the list of rights, "in four homes of its own in a row, 8 or above"
abbrev pub list_homes : ℕ
list_homes = 4

-- request a: the table of depth bands
abbrev pub table_home : ℕ
table_home = 12

abbrev pub table_homes : ℕ
table_homes = 3

-- request c: the pumps' books, "in one home block each"
abbrev pub pumps_home : ℕ
pumps_home = 16

abbrev pub pumps_homes : ℕ
pumps_homes = 8

abbrev pub pump_home : ℕ → ℕ
pump_home pump = pumps_home + pump

-- request m: the open alarms and the gravest
abbrev pub alarm_home : ℕ
alarm_home = 24

abbrev pub alarm_homes : ℕ
alarm_homes = 6

-- [S-64]
abbrev pub owned : List Range
owned =
    record { first = list_home; many = list_homes } ∷ record { first = table_home; many = table_homes } ∷ record { first = pumps_home; many = pumps_homes }
    ∷ record { first = alarm_home; many = alarm_homes } ∷ []

-- every two of some ranges are apart
abbrev pub ApartFrom : Range → List Range → Type 0
ApartFrom r [] = Unit {0}
ApartFrom r (s ∷ more) = Apart r.first r.many s.first s.many × ApartFrom r more

abbrev pub AllApart : List Range → Type 0
AllApart [] = Unit {0}
AllApart (r ∷ more) = ApartFrom r more × AllApart more

-- The four ranges are apart, homes 0 to 7 are in none of them, and each of pumps 0 to 7 has a home in the pumps' range. [S-64]
pub record HomesApart : Type 0 where
  pub apart : AllApart owned
  pub above : (8 ≤ list_home) × (8 ≤ table_home) × (8 ≤ pumps_home) × (8 ≤ alarm_home)
  pub pumps : (pump : ℕ) → pump ≤ 7 → (pumps_home ≤ pump_home pump) × (pump_home pump < pumps_home + pumps_homes)
