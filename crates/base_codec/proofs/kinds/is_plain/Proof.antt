-- `base_codec::is_plain` meets its contract: the mask has the bits of each field, or none. Assumes nothing.
use mathlib.Core.Path.{refl}
use native.Mathlib.Omega.{arith}
use Rattle.base_codec.proofs.KindLaws.{plain-bits}
use Rattle.base_codec.proofs.kinds.is_plain.Statement.{statement}
use Rattle.base_codec.proofs.kinds.is_plain.Tie as tie

returns : tie.Need-returns
returns c = plain-bits _ _ (omega arith) refl refl refl refl refl refl

pub is_plain_spec : {M : Type 1} → statement M
is_plain_spec = tie.close (tie.spec returns)
