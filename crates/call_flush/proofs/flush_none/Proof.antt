-- `call_flush::flush_none` meets its contract. Assumes nothing.
use Rattle.call_flush.proofs.FlushLaws.{none_written}
use borrow.Author.Rules.{rules}
use Rattle.call_flush.proofs.flush_none.Statement.{statement}
use Rattle.call_flush.proofs.flush_none.Tie as tie

fence-requires : tie.Need-fence-requires
fence-requires c κs = search rules

mul-set-fenced : tie.Need-overflow_mul-st
mul-set-fenced c = search rules

set-fenced-requires : tie.Need-set_fenced-requires
set-fenced-requires c κs = search rules

same_length : tie.Need-shape_of-state
same_length c = search rules

same-length-2 : tie.Need-shape_of-batch
same-length-2 c = search rules

returns : tie.Need-returns
returns c =
    (c.set_fenced.ensures, none_written _ _ c.fence.ensures.1)

pub flush_none_spec : {M : Type 1} → statement M
flush_none_spec =
    tie.close
    (tie.spec fence-requires mul-set-fenced set-fenced-requires same_length same-length-2 returns)
