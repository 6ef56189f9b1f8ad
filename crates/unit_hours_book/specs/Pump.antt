-- A pump's record and its home block.
use Rattle.std.specs.Prelude.{ℕ, ◌^◌, ◌<◌, Bool, false, not, cond, List, eqb}
use Rattle.model.specs.Bytes.{zeros, number, put_number}
pub use Rattle.unit_hours_book.specs.declared.Pump.{Pump}

abbrev pub pump : ℕ → ℕ → ℕ → Bool → Pump
pump starts total last running = record { starts = starts; total = total; last = last; running = running }

-- a pump before its first event
unfoldable pub unused : Pump
unused = pump 0 0 0 false

-- "keeps, and gives, starts and total run seconds .. in one home block each": starts, total and the last event's second, four bytes each, and whether the
-- pump runs. Every block reads as a record: a pump runs unless byte 12 is 0, and the bytes behind are not looked at.
unfoldable pub pump_of : List ℕ → Pump
pump_of block = pump (number 4 block 0) (number 4 block 4) (number 4 block 8) (not (eqb (number 1 block 12) 0))

unfoldable pub flag : Bool → ℕ
flag running = cond running 1 0

-- the block of a record, zeros behind
unfoldable pub block_of : Pump → List ℕ
block_of p =
    put_number 1 (put_number 4 (put_number 4 (put_number 4 (zeros 64) 0 p.starts) 4 p.total) 8 p.last) 12 (flag p.running)

-- every number has 32 bits
pub record Fits (p : Pump) : Type 0 where
  pub starts : p.starts < 2 ^ 32
  pub total : p.total < 2 ^ 32
  pub last : p.last < 2 ^ 32
