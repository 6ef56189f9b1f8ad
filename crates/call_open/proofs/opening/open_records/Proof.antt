-- `call_open::open_records` meets its contract: its records stand one after the other. Assumes nothing.
use Rattle.call_open.proofs.OpenLaws.{emptied-written}
use borrow.Author.Rules.{rules}
use Rattle.call_open.proofs.opening.open_records.Statement.{statement}
use Rattle.call_open.proofs.opening.open_records.Tie as tie

fence-requires : tie.Need-fence-next-requires
fence-requires c κs = search rules

header-write-requires : tie.Need-header_write-next-requires
header-write-requires c κs = search rules

fence-requires-2 : tie.Need-fence-next-requires-2
fence-requires-2 c κs = search rules

all-groups-requires : tie.Need-all_groups-next-requires
all-groups-requires c κs = search rules

fence-requires-3 : tie.Need-fence-requires
fence-requires-3 c κs = search rules

same_length : tie.Need-shape_of-batch
same_length c = search rules

returns : tie.Need-returns
returns c =
    emptied-written _ _ _ _ _ _ _ _ _ _ _ _ _ _ c.fence-next.ensures.0 c.fence-next.ensures.1 c.header_write-next.ensures.0
    c.header_write-next.ensures.1 c.fence-next-2.ensures.0 c.fence-next-2.ensures.1 c.all_groups-next.ensures.0
    c.all_groups-next.ensures.1 c.fence.ensures.1

pub open_records_spec : {M : Type 1} → statement M
open_records_spec =
    tie.close
    (tie.spec
    fence-requires
    header-write-requires
    fence-requires-2
    all-groups-requires
    fence-requires-3
    same_length
    returns)
