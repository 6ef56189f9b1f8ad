-- The tests of an area's length, one that fails, or the last where the others hold. Assumes nothing.
use mathlib.Core.Path.{◌≡◌}
use mathlib.Core.Bool.{false, and-true, and-false}
use Prim.Native.Nat.{ℕ, ◌+◌, ◌*◌, ◌≤◌, ◌<◌}
use borrow.Author.Tests.{le-leb, lt-leb}
use lib.Dec.{eqb}
use Rattle.model.specs.Layout.{group_count, home_count, log_length_right, data_length_right}

-- a log area of n bytes has g groups
module _ (n g : ℕ) (e : g ≡ group_count n) where
  pub groups-few : g < 4 → false ≡ log_length_right n
  unfolding log_length_right
  groups-few h = rw (← e) (simp (lt-leb 4 g h, and-false))

  pub groups-many : 1024 < g → false ≡ log_length_right n
  unfolding log_length_right
  groups-many h = rw (← e) (simp (lt-leb g 1024 h, and-false))

  pub groups-whole : 4 ≤ g → g ≤ 1024 → eqb n (64 + 512 * g) ≡ log_length_right n
  unfolding log_length_right
  groups-whole h l = rw (← e) (simp (le-leb 4 g h, le-leb g 1024 l, and-true))

-- a data area of n bytes has d homes
module _ (n d : ℕ) (e : d ≡ home_count n) where
  pub homes-few : d < 1 → false ≡ data_length_right n
  unfolding data_length_right
  homes-few h = rw (← e) (simp (lt-leb 1 d h, and-false))

  pub homes-many : 65535 < d → false ≡ data_length_right n
  unfolding data_length_right
  homes-many h = rw (← e) (simp (lt-leb d 65535 h, and-false))

  pub homes-whole : 1 ≤ d → d ≤ 65535 → eqb n (64 * d) ≡ data_length_right n
  unfolding data_length_right
  homes-whole h l = rw (← e) (simp (le-leb 1 d h, le-leb d 65535 l, and-true))
