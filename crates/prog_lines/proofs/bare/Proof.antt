-- `bare` meets its contract. Assumes nothing.
use Rattle.prog_lines.proofs.LineLaws.{bare-flush, bare-settle, bare-trim, bare-other}
use Rattle.prog_lines.proofs.bare.Statement.{statement}
use Rattle.prog_lines.proofs.bare.Tie as tie

returns : tie.Need-returns-in-102
returns c = bare-flush _ c.in-102.is

returns-2 : tie.Need-returns-in-119
returns-2 c = bare-settle _ c.in-119.is

returns-3 : tie.Need-returns-in-116
returns-3 c = bare-trim _ c.in-116.is

returns-4 : tie.Need-returns-in_default
returns-4 c = bare-other _ c.in_default.in_default-own.rest.0.0.1 c.in_default.in_default-own.rest.0.1 c.in_default.in_default-own.rest.1

pub bare_spec : {M : Type 1} → statement M
bare_spec = tie.close (tie.spec returns returns-2 returns-3 returns-4)
