-- `log_replay::word_end` meets its contract. Assumes nothing.
use native.Mathlib.Omega.{arith}
use Rattle.log_replay.proofs.stepping.word_end.Statement.{statement}
use Rattle.log_replay.proofs.stepping.word_end.Tie as tie

mul-end : tie.Need-overflow_mul-end
mul-end c = omega (arith, c.requires)

add-end : tie.Need-overflow_add-end
add-end c = omega (arith, c.requires)

returns : tie.Need-returns-then-end-homes
returns c = (omega arith, omega (arith, c.if-end-homes.true), omega arith)

returns-2 : tie.Need-returns-else-end-homes
returns-2 c = (omega (arith, c.requires), omega arith, omega (arith, c.if-end-homes.false))

pub word_end_spec : {M : Type 1} → statement M
word_end_spec = tie.close (tie.spec mul-end add-end returns returns-2)
