-- `base_codec::put_byte` meets its contract. Assumes nothing.
use borrow.Author.Rules.{rules}
use Rattle.base_codec.proofs.JoinLaws.{put_one}
use Rattle.base_codec.proofs.numbers.put_byte.Statement.{statement}
use Rattle.base_codec.proofs.numbers.put_byte.Tie as tie

cast-s : tie.Need-overflow_cast-s
cast-s c = search rules

slice-write-s : tie.Need-bounds-s-at
slice-write-s c = search rules

same_length : tie.Need-shape_of-s
same_length c = search rules

returns : tie.Need-returns
returns c = put_one _ _ _

pub put_byte_spec : {M : Type 1} → statement M
put_byte_spec = tie.close (tie.spec cast-s slice-write-s same_length returns)
