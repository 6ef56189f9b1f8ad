-- `base_codec::has_home` meets its contract: the mask has the bits of each field, or none. Assumes nothing.
use mathlib.Core.Path.{refl}
use native.Mathlib.Omega.{arith}
use Rattle.base_codec.proofs.KindLaws.{home_below}
use Rattle.base_codec.proofs.kinds.has_home.Statement.{statement}
use Rattle.base_codec.proofs.kinds.has_home.Tie as tie

returns : tie.Need-returns
returns c homes e u = home_below _ _ (omega arith) refl refl refl refl refl refl _ homes e u

pub has_home_spec : {M : Type 1} → statement M
has_home_spec = tie.close (tie.spec returns)
