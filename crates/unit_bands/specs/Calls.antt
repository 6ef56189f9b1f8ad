-- The calls on the table of depth bands: "They want to enter which pumps run at which depth."
use Rattle.std.specs.Prelude.{ℕ, cond, List, eqb, ltb}
use Rattle.model.specs.Calls.{Outcome}
use Rattle.unit_events.specs.Homes.{table_home, table_homes}
use Rattle.unit_shared.specs.Unit.{Lent, UnitOutcome, untouched, fetched, transacted}
use Rattle.unit_bands_table.specs.Judge.{Verdict, depths, judgement}
use Rattle.unit_bands_table.specs.Packed.{Lookup, answered, pack, look_up}

-- "An accepted table goes into its home blocks as one transaction"; "12 and 13 also give the lowest such millimetre, unlike 01's refusals; for a table,
-- before the store's own questions"
unfoldable pub accepted : Lent → ℕ → List ℕ → Verdict → UnitOutcome
accepted l writer rows v = cond (eqb v.code 0) (transacted l writer table_home (pack rows)) (untouched l v.code v.millimetre)

unfoldable pub set_call : Lent → ℕ → List ℕ → UnitOutcome
set_call l writer rows = accepted l writer rows (judgement rows)

-- "A lookup above 9,999 answers 11 before the store's questions; one while its homes hold no acceptable table answers 11 after them."
unfoldable pub found_within : ℕ → Outcome → Lookup
found_within mm o = cond (eqb o.code 0) (look_up o.block mm) (answered o.code 0 0 0)

-- [S-66]
unfoldable pub look_up_call : Lent → ℕ → ℕ → Lookup
look_up_call l writer mm = cond (ltb mm depths) (found_within mm (fetched l writer table_home table_homes)) (answered 11 0 0 0)
