-- `base_codec::is_closing` meets its contract: the mask has the bits of each field, or none. Assumes nothing.
use mathlib.Core.Path.{refl}
use native.Mathlib.Omega.{arith}
use Rattle.base_codec.proofs.KindLaws.{closing-bits}
use Rattle.base_codec.proofs.kinds.is_closing.Statement.{statement}
use Rattle.base_codec.proofs.kinds.is_closing.Tie as tie

returns : tie.Need-returns
returns c = closing-bits _ _ (omega arith) refl refl refl refl refl refl

pub is_closing_spec : {M : Type 1} → statement M
is_closing_spec = tie.close (tie.spec returns)
