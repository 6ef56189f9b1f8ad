-- `base_codec::tag_link` meets its contract. Assumes nothing.
use lib.Bits.{and_mask}
use Rattle.model.specs.Tag.{field}
use Rattle.base_codec.proofs.kinds.tag_link.Statement.{statement}
use Rattle.base_codec.proofs.kinds.tag_link.Tie as tie

returns : tie.Need-returns
unfolding field
returns c = and_mask _ 13

pub tag_link_spec : {M : Type 1} → statement M
tag_link_spec = tie.close (tie.spec returns)
