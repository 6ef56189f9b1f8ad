-- `base_state::none_promised` meets its contract. Assumes nothing.
use mathlib.Core.Path.{sym, ◌∙◌}
use mathlib.Core.Bool.{false≢true}
use borrow.Author.Rules.{rules}
use borrow.Author.Tests.{eqb-true}
use Rattle.base_state.proofs.PromiseSums.{both_zero}
use Rattle.base_state.proofs.promises.none_promised.Statement.{statement}
use Rattle.base_state.proofs.promises.none_promised.Tie as tie

number-requires : tie.Need-number-requires
number-requires c κs = search rules

returns : tie.Need-returns-then-number-ne0
returns c t = absurd (false≢true t)

number-requires-2 : tie.Need-number-requires-2
number-requires-2 c κs = search rules

returns-2 : tie.Need-returns
returns-2 c t = both_zero _ (sym c.number.ensures.0 ∙ c.if-number-ne0.false) (sym c.number-2.ensures.0 ∙ eqb-true _ 0 t)

pub none_promised_spec : {M : Type 1} → statement M
none_promised_spec = tie.close (tie.spec number-requires returns number-requires-2 returns-2)
