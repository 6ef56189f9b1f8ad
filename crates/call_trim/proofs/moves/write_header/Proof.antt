-- `call_trim::write_header` meets its contract. Assumes nothing.
use borrow.Author.Rules.{rules}
use Rattle.call_trim.proofs.TrimmingLaws.{header-fenced}
use Rattle.call_trim.proofs.moves.write_header.Statement.{statement}
use Rattle.call_trim.proofs.moves.write_header.Tie as tie

header-write-requires : tie.Need-header_write-at-requires
header-write-requires c κs = search rules

fence-requires : tie.Need-fence-requires
fence-requires c κs = search rules

same_length : tie.Need-shape_of-batch
same_length c = search rules

returns : tie.Need-returns
returns c =
    let w = c.header_write-at in
    header-fenced _ _ _ _ _ _ _ w.ensures.0 w.ensures.1 c.fence.ensures.1

pub write_header_spec : {M : Type 1} → statement M
write_header_spec = tie.close (tie.spec header-write-requires fence-requires same_length returns)
