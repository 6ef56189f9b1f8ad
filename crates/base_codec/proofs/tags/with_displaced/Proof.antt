-- `base_codec::with_displaced` meets its contract: the bit is set above the bits that stand already. Assumes nothing.
use native.Mathlib.Omega.{arith}
use Rattle.model.specs.Tag.{with_displaced}
use Rattle.base_codec.proofs.WordLaws.{field-or}
use Rattle.base_codec.proofs.tags.with_displaced.Statement.{statement}
use Rattle.base_codec.proofs.tags.with_displaced.Tie as tie

returns : tie.Need-returns
unfolding with_displaced
returns c = let a = c.args in omega (arith, field-or 1 57 a.bit a.word (omega arith) (omega arith) (omega arith))

pub with_displaced_spec : {M : Type 1} → statement M
with_displaced_spec = tie.close (tie.spec returns)
