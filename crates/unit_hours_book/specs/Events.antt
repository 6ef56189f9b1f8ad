-- What a start and a stop answer, and what they make of a pump's record and block.
use Rattle.std.specs.Prelude.{ℕ, ◌+◌, ◌-◌, ◌^◌, true, false, cond, List, eqb, ltb}
use Rattle.unit_hours_book.specs.Pump.{Pump, pump, pump_of, block_of}

-- "it takes start and stop with a second count (32 bits)"
pub data Event : Type 0 where
  start_at : ℕ → Event
  stop_at : ℕ → Event

-- "16 a second before the pump's last event, or a total or start count past 32 bits"; equal seconds are fine
unfoldable pub late : Pump → ℕ → ℕ → ℕ
late p second figure = cond (ltb second p.last) 16 (cond (ltb figure (2 ^ 32)) 0 16)

-- the total with a run that ends now: while a pump runs, its last event is the start
unfoldable pub total_at : Pump → ℕ → ℕ
total_at p second = p.total + (second - p.last)

-- "15 start while running or stop while idle", before 16 [S-68]
unfoldable pub answer : Pump → Event → ℕ
answer p (start_at second) = cond p.running 15 (late p second (p.starts + 1))
answer p (stop_at second) = cond p.running (late p second (total_at p second)) 15

-- "starts and total run seconds (stop less start, over finished runs)" [S-67]
unfoldable pub after : Pump → Event → Pump
after p (start_at second) = pump (p.starts + 1) p.total second true
after p (stop_at second) = pump p.starts (total_at p second) second false

-- the answer, and what the block holds then; a refusal leaves it as it was
pub record Outcome : Type 0 where
  pub code : ℕ
  pub block : List ℕ

abbrev pub leaves : ℕ → List ℕ → Outcome
leaves code block = record { code = code; block = block }

unfoldable pub settled : ℕ → List ℕ → Pump → Outcome
settled code block p = leaves code (cond (eqb code 0) (block_of p) block)

unfoldable pub applied : List ℕ → Event → Outcome
applied block e = settled (answer (pump_of block) e) block (after (pump_of block) e)
