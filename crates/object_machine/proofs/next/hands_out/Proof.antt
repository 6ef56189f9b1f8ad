-- `object_machine::next::hands_out` meets its contract. Assumes nothing.
use borrow.Author.Tests.{lt-leb}
use Rattle.object_machine.proofs.TurnLaws.{hands-out-is}
use Rattle.object_machine.specs.Next.{hands_out_now}
use borrow.Author.Rules.{rules}
use Rattle.object_machine.proofs.next.hands_out.Statement.{statement}
use Rattle.object_machine.proofs.next.hands_out.Tie as tie

fails-requires : tie.Need-fails-requires
fails-requires c κs = search rules

returns : tie.Need-returns-then-c-batch
unfolding hands_out_now
returns c = rw (lt-leb _ _ c.if-c-batch.true) c.fails.ensures

log-groups-requires : tie.Need-log_groups-groups-requires
log-groups-requires c κs = search rules

data-homes-requires : tie.Need-data_homes-homes-requires
data-homes-requires c κs = search rules

next-requires : tie.Need-next-next-requires
next-requires c κs = search rules

sub-kagutin-next-action : tie.Need-slice_bounds-kagutin_next_action-count
sub-kagutin-next-action c = search rules

part-kagutin-next-action-start : tie.Need-slice_bounds-kagutin_next_action-start
part-kagutin-next-action-start c = search rules

part-kagutin-next-action-end : tie.Need-slice_bounds-kagutin_next_action-end
part-kagutin-next-action-end c = search rules

kagutin-next-action-requires : tie.Need-kagutin_next_action-a-requires
kagutin-next-action-requires c κs = search rules

handed-requires : tie.Need-handed-requires
handed-requires c κs = search rules

returns-2 : tie.Need-returns
returns-2 c = hands-out-is _ _ _ _ _ _ _ c.if-c-batch.false c.log_groups-groups.ensures c.data_homes-homes.ensures c.next-next.ensures.0 c.kagutin_next_action-a.ensures c.handed.ensures

pub hands_out_spec : {M : Type 1} → statement M
hands_out_spec = tie.close (tie.spec fails-requires returns log-groups-requires data-homes-requires next-requires sub-kagutin-next-action part-kagutin-next-action-start part-kagutin-next-action-end kagutin-next-action-requires handed-requires returns-2)
