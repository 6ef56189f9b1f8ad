-- What the definitions promise, read off the request and not off their text.
use Rattle.std.specs.Prelude.{ℕ, ◌%◌, ◌≤◌, ◌<◌, ◌≡◌, List, length, get_or, replicate}
use Rattle.std.proofs.Math.Option.{none, some}
use Rattle.unit_bands_table.specs.Rows.{Row, band, rows, lookup}
use Rattle.unit_bands_table.specs.Judge.{Verdict, verdict, judgement}
use Rattle.unit_bands_table.specs.Packed.{answered, pack, unpack, look_up}

-- the row of an index
abbrev pub row_of : List Row → ℕ → Row
row_of rs i = get_or rs i (band 0 0 0)

-- a millimetre lies in the row of an index: "from, to (inclusive millimetres)"
pub record In (rs : List Row) (mm i : ℕ) : Type 0 where
  pub inside : i < length rs
  pub above : (row_of rs i).from ≤ mm
  pub below : mm ≤ (row_of rs i).to

pub record InSome (rs : List Row) (mm : ℕ) : Type 0 where
  pub at : ℕ
  pub here : In rs mm at

pub record InTwo (rs : List Row) (mm : ℕ) : Type 0 where
  pub first : ℕ
  pub second : ℕ
  pub apart : first < second
  pub in_first : In rs mm first
  pub in_second : In rs mm second

-- "in exactly one row"
pub record InOne (rs : List Row) (mm : ℕ) : Type 0 where
  pub at : ℕ
  pub here : In rs mm at
  pub only : (i : ℕ) → In rs mm i → i ≡ at

-- what is asked of a strip and its rows one by one
pub record Fit (r : Row) : Type 0 where
  pub order : r.from ≤ r.to
  pub shallow : r.to ≤ 9999
  pub few : r.pumps ≤ 4

pub record Sound (bytes : List ℕ) : Type 0 where
  pub whole : length bytes % 5 ≡ 0
  pub present : 1 ≤ length (rows bytes)
  pub few : length (rows bytes) ≤ 32
  pub each : (i : ℕ) → i < length (rows bytes) → Fit (row_of (rows bytes) i)

-- the answers, each with what it means; "12 and 13 also give the lowest such millimetre"
pub data Judged (bytes : List ℕ) : Verdict → Type 0 where
  accepted : Sound bytes → ((mm : ℕ) → mm ≤ 9999 → InOne (rows bytes) mm) → Judged bytes (verdict 0 0)
  unsound : (Sound bytes → ⊥) → Judged bytes (verdict 11 0)
  gap : {mm : ℕ} → Sound bytes → mm ≤ 9999 → (InSome (rows bytes) mm → ⊥) → ((k : ℕ) → k < mm → InSome (rows bytes) k) → Judged bytes (verdict 12 mm)
  double : {mm : ℕ} → Sound bytes → ((k : ℕ) → k ≤ 9999 → InSome (rows bytes) k) → mm ≤ 9999 → InTwo (rows bytes) mm
      → ((k : ℕ) → k < mm → InTwo (rows bytes) k → ⊥) → Judged bytes (verdict 13 mm)

-- "a lookup gives that row": the one row that holds the millimetre
pub record RowTold (rs : List Row) (mm : ℕ) : Type 0 where
  pub one : InOne rs mm
  pub row : lookup mm rs ≡ row_of rs one.at

-- for strips of any contents and length [S-65]
pub record Guarantee (bytes : List ℕ) : Type 0 where
  pub judged : Judged bytes (judgement bytes)
  pub taken : Sound bytes → ((mm : ℕ) → mm ≤ 9999 → InOne (rows bytes) mm) → judgement bytes ≡ verdict 0 0
  pub told : (judgement bytes).code ≡ 0 → (mm : ℕ) → mm ≤ 9999 → RowTold (rows bytes) mm
  pub room : (judgement bytes).code ≡ 0 → length (pack bytes) ≡ 192
  pub kept : (judgement bytes).code ≡ 0 → unpack (pack bytes) ≡ some bytes
  pub found : (judgement bytes).code ≡ 0 → (mm : ℕ) → look_up (pack bytes) mm ≡ record { code = 0; row = lookup mm (rows bytes) }

-- homes that nothing was stored to hold "no acceptable table"
pub record Blank : Type 0 where
  pub empty : unpack (replicate 192 0) ≡ none
  pub refused : (mm : ℕ) → look_up (replicate 192 0) mm ≡ answered 11 0 0 0
