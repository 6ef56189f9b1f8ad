-- `call_rights::of_list` meets its contract. Assumes nothing.
use native.Mathlib.Omega.{arith}
use Rattle.call_rights.proofs.RightsLaws.{list-before, list-within}
use Rattle.call_rights.proofs.ranges.of_list.Statement.{statement}
use Rattle.call_rights.proofs.ranges.of_list.Tie as tie

returns : tie.Need-returns-then-home-lt8
returns c = list-before _ c.if-home-lt8.true

returns-2 : tie.Need-returns
returns-2 c = list-within _ (omega (arith, c.if-home-lt8.false))

pub of_list_spec : {M : Type 1} → statement M
of_list_spec = tie.close (tie.spec returns returns-2)
