-- `base_codec::tag_back` meets its contract. Assumes nothing.
use lib.Bits.{and_mask}
use Rattle.model.specs.Tag.{field}
use Rattle.base_codec.proofs.tags.tag_back.Statement.{statement}
use Rattle.base_codec.proofs.tags.tag_back.Tie as tie

returns : tie.Need-returns
unfolding field
returns c = and_mask _ 13

pub tag_back_spec : {M : Type 1} → statement M
tag_back_spec = tie.close (tie.spec returns)
