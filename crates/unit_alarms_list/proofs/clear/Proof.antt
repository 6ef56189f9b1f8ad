-- `unit_alarms_list::clear` meets its contract. Assumes nothing.
use Rattle.unit_alarms_list.proofs.EventLaws.{refused-clearing, done-clearing}
use borrow.Author.Rules.{rules}
use Rattle.unit_alarms_list.proofs.clear.Statement.{statement}
use Rattle.unit_alarms_list.proofs.clear.Tie as tie

open-count-requires : tie.Need-open_count-n-requires
open-count-requires c κs = search rules

find-requires : tie.Need-find-i-requires
find-requires c κs = search rules

returns : tie.Need-returns-then-i-n
returns c =
    let a = c.args in
    refused-clearing _ _ a.identity c.open_count-n.ensures.0 c.find-i.ensures c.if-i-n.true

without-one-requires : tie.Need-without_one-requires
without-one-requires c κs = search rules

same_length : tie.Need-shape_of-output
same_length c = search rules

returns-2 : tie.Need-returns
returns-2 c =
    let a = c.args in
    done-clearing _ _ a.identity c.open_count-n.ensures.0 c.find-i.ensures c.if-i-n.false c.without_one.ensures

pub clear_spec : {M : Type 1} → statement M
clear_spec =
    tie.close
    (tie.spec open-count-requires find-requires returns without-one-requires same_length returns-2)
