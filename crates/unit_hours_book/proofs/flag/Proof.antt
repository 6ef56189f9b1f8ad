-- `unit_hours_book::flag` meets its contract. Assumes nothing.
use mathlib.Core.Path.{sym}
use Rattle.unit_hours_book.specs.Pump.{flag}
use Rattle.unit_hours_book.proofs.flag.Statement.{statement}
use Rattle.unit_hours_book.proofs.flag.Tie as tie

returns : tie.Need-returns-then-running
unfolding flag
returns c = sym (rw c.if-running.true)

returns-2 : tie.Need-returns-else-running
unfolding flag
returns-2 c = sym (rw c.if-running.false)

pub flag_spec : {M : Type 1} → statement M
flag_spec = tie.close (tie.spec returns returns-2)
