-- `base_codec::displaced` meets its contract. Assumes nothing.
use Prim.Native.Nat.{◌/◌, ◌^◌}
use lib.Bits.{and_mask, mask_lt}
use Rattle.model.specs.Tag.{field, displaced}
use Rattle.base_codec.proofs.tags.displaced.Statement.{statement}
use Rattle.base_codec.proofs.tags.displaced.Tie as tie

returns : tie.Need-returns
unfolding displaced field
returns c = let w = c.args.word / 2 ^ 57 in (and_mask w 1, mask_lt w 1)

pub displaced_spec : {M : Type 1} → statement M
displaced_spec = tie.close (tie.spec returns)
