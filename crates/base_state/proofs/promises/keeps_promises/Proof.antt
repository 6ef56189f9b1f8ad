-- `base_state::keeps_promises` meets its contract. Assumes nothing.
use borrow.Author.Rules.{rules}
use native.Mathlib.Omega.{arith}
use Rattle.base_state.proofs.PromiseSums.{part-fits, keeps-none, keeps-part}
use Rattle.base_state.proofs.promises.keeps_promises.Statement.{statement}
use Rattle.base_state.proofs.promises.keeps_promises.Tie as tie

returns : tie.Need-returns-then-st-eq0
returns c = keeps-none _ _ c.requires.2 c.if-st-eq0.true

promised-requires : tie.Need-promised-requires
promised-requires c κs = search rules

add-result : tie.Need-overflow_add-result
add-result c = search rules

mul-result : tie.Need-overflow_mul-result
mul-result c = search rules

add-result-2 : tie.Need-overflow_add-result-2
add-result-2 c = search rules

mul-result-2 : tie.Need-overflow_mul-result-2
mul-result-2 c = search rules

sub-result : tie.Need-overflow_sub-result
sub-result c = omega (arith, part-fits _ c.requires.1 c.if-st-eq0.false)

returns-2 : tie.Need-returns
returns-2 c = keeps-part _ _ _ c.requires.2 c.if-st-eq0.false c.promised.ensures

pub keeps_promises_spec : {M : Type 1} → statement M
keeps_promises_spec = tie.close (tie.spec returns promised-requires add-result mul-result add-result-2 mul-result-2 sub-result returns-2)
