-- `unit_hours_book::read` meets its contract. Assumes nothing.
use native.Mathlib.Omega.{arith}
use Rattle.unit_hours_book.specs.Pump.{pump_of}
use borrow.Author.Rules.{rules}
use Rattle.unit_hours_book.proofs.read.Statement.{statement}
use Rattle.unit_hours_book.proofs.read.Tie as tie

number-requires : tie.Need-number-starts-requires
number-requires c κs = search rules

number-requires-2 : tie.Need-number-total-requires
number-requires-2 c κs = search rules

number-requires-3 : tie.Need-number-last-requires
number-requires-3 c κs = search rules

number-requires-4 : tie.Need-number-running-requires
number-requires-4 c κs = search rules

returns : tie.Need-returns
unfolding pump_of
returns c =
    let n1 = c.number-starts.ensures in
    let n2 = c.number-total.ensures in
    let n3 = c.number-last.ensures in
    let n4 = c.number-running.ensures in
    (rw (n1.0, n2.0, n3.0, n4.0), record { starts = omega (arith, n1.1); total = omega (arith, n2.1); last = omega (arith, n3.1) })

pub read_spec : {M : Type 1} → statement M
read_spec =
    tie.close
    (tie.spec number-requires number-requires-2 number-requires-3 number-requires-4 returns)
