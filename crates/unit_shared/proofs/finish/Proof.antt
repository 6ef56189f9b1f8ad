-- `unit_shared::finish` meets its contract: refused by the answer, or stored. Assumes nothing.
use Rattle.unit_shared.proofs.UnitLaws.{not-stored, is-stored}
use borrow.Author.Rules.{rules}
use Rattle.unit_shared.proofs.finish.Statement.{statement}
use Rattle.unit_shared.proofs.finish.Tie as tie

refused-requires : tie.Need-refused-requires
refused-requires c κs = search rules

returns : tie.Need-returns-then-code-ne0
returns c =
    let d = c.refused.ensures in
    not-stored _ _ _ _ _ c.if-code-ne0.true d.0 d.1 d.2

kagutin-transact-requires : tie.Need-kagutin_transact-requires
kagutin-transact-requires c κs = search rules

same_length : tie.Need-shape_of-log
same_length c = search rules

same-length-2 : tie.Need-shape_of-state
same-length-2 c = search rules

same-length-3 : tie.Need-shape_of-newest
same-length-3 c = search rules

same-length-4 : tie.Need-shape_of-batch
same-length-4 c = search rules

returns-2 : tie.Need-returns
returns-2 c =
    is-stored _ _ _ _ _ c.if-code-ne0.false c.kagutin_transact.ensures

pub finish_spec : {M : Type 1} → statement M
finish_spec =
    tie.close
    (tie.spec
    refused-requires
    returns
    kagutin-transact-requires
    same_length
    same-length-2
    same-length-3
    same-length-4
    returns-2)
