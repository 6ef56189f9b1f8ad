-- Inflow of a pit from two depth ranges and a range of pumped volume, all volumes in cm² × mm.
use Rattle.std.specs.Prelude.{ℕ, Bool, ◌&&◌, cond, leb, ℤ, pos, ◌+ℤ◌, ◌-ℤ◌, ◌*ℤ◌}

-- "give least and most inflow: area × change of depth + pumped. Inflow may be negative."
unfoldable pub inflow : ℕ → ℕ → ℕ → ℕ → ℤ
inflow area before after pumped = pos area *ℤ (pos after -ℤ pos before) +ℤ pos pumped

-- "Given the depth range at two moments (mm, 16 bits), the pit's area (cm², up to 1,000,000) and the range of pumped volume (32 bits)"
pub record Given : Type 0 where
  pub area : ℕ
  pub low_before : ℕ
  pub high_before : ℕ
  pub low_after : ℕ
  pub high_after : ℕ
  pub low_pumped : ℕ
  pub high_pumped : ℕ

abbrev pub given : ℕ → ℕ → ℕ → ℕ → ℕ → ℕ → ℕ → Given
given area low_before high_before low_after high_after low_pumped high_pumped =
    record { area = area; low_before = low_before; high_before = high_before; low_after = low_after; high_after = high_after; low_pumped = low_pumped; high_pumped = high_pumped }

-- the least: from the highest depth before to the lowest after; the most: the other way round [S-72]
unfoldable pub least : Given → ℤ
least g = inflow g.area g.high_before g.low_after g.low_pumped

unfoldable pub most : Given → ℤ
most g = inflow g.area g.low_before g.high_after g.high_pumped

-- "23 a range with low above high, or area 0 or above its limit"
unfoldable pub accepted : Given → Bool
accepted g =
    leb 1 g.area && (leb g.area 1000000
    && (leb g.low_before g.high_before && (leb g.low_after g.high_after && leb g.low_pumped g.high_pumped)))

-- the answer and both volumes; zeros in a refusal
pub record Outcome : Type 0 where
  pub code : ℕ
  pub least : ℤ
  pub most : ℤ

abbrev pub gives : ℕ → ℤ → ℤ → Outcome
gives code low high = record { code = code; least = low; most = high }

unfoldable pub refused : Outcome
refused = gives 23 (pos 0) (pos 0)

-- [S-72]
unfoldable pub bound_inflow : Given → Outcome
bound_inflow g = cond (accepted g) (gives 0 (least g) (most g)) refused
