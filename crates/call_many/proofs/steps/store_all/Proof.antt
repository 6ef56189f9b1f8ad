-- `call_many::store_all` meets its contract. Assumes nothing.
use mathlib.Core.List.{[]}
use native.Mathlib.Omega.{arith}
use Rattle.call_ask.specs.Lent.{lent_all}
use Rattle.call_many.proofs.StepLaws.{under_first}
use borrow.Author.Rules.{rules}
use Rattle.call_many.proofs.steps.store_all.Statement.{statement}
use Rattle.call_many.proofs.steps.store_all.Tie as tie

hold-first-requires : tie.Need-hold_first-requires
hold-first-requires c κs =
    let p = c.requires.0 in (p.state_fits, p.writer, omega (arith, p.blocks, p.least))

store-rest-requires : tie.Need-store_rest-requires
store-rest-requires c κs =
    (lent_all _ [] _ [] _ _ _ _, under_first _ [] _ [] _ _ _ _ _ _ c.requires.0 c.requires.1 c.hold_first.ensures)

same_length : tie.Need-shape_of-log
same_length c = search rules

same-length-2 : tie.Need-shape_of-state
same-length-2 c = search rules

same-length-3 : tie.Need-shape_of-batch
same-length-3 c = search rules

returns : tie.Need-returns
returns c =
    λ a p. (c.store_rest.ensures _ (under_first _ a _ p _ _ _ _ _ _ c.requires.0 c.requires.1 c.hold_first.ensures)).reached

pub store_all_spec : {M : Type 1} → statement M
store_all_spec = tie.close (tie.spec hold-first-requires store-rest-requires same_length same-length-2 same-length-3 returns)
