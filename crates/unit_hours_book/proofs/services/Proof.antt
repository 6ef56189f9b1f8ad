-- `unit_hours_book::services` meets its contract. Assumes nothing.
use mathlib.Core.Path.{refl}
use Rattle.unit_hours_book.specs.Services.{due}
use borrow.Author.Rules.{rules}
use Rattle.unit_hours_book.proofs.services.Statement.{statement}
use Rattle.unit_hours_book.proofs.services.Tie as tie

div-t3 : tie.Need-nonzero_div-result
div-t3 c = search rules

rem-t4 : tie.Need-nonzero_rem-result
rem-t4 c = search rules

returns : tie.Need-returns
unfolding due
returns c = refl

pub services_spec : {M : Type 1} → statement M
services_spec = tie.close (tie.spec div-t3 rem-t4 returns)
