-- `base_state::promised` meets its contract. Assumes nothing.
use mathlib.Core.Path.{sym}
use borrow.Author.Rules.{rules}
use Rattle.base_state.proofs.PromiseSums.{sum-zero}
use Rattle.base_state.proofs.promises.promised.Statement.{statement}
use Rattle.base_state.proofs.promises.promised.Tie as tie

none-promised-requires : tie.Need-none_promised-requires
none-promised-requires c κs = search rules

returns : tie.Need-returns-then-none_promised
returns c = sym (sum-zero _ 8 (c.none_promised.ensures c.if-none_promised.true))

promised-each-requires : tie.Need-promised_each-requires
promised-each-requires c κs = search rules

returns-2 : tie.Need-returns
returns-2 c = c.promised_each.ensures

pub promised_spec : {M : Type 1} → statement M
promised_spec = tie.close (tie.spec none-promised-requires returns promised-each-requires returns-2)
