-- `base_codec::fits_plain` meets its contract. Assumes nothing.
use native.Mathlib.Omega.{arith}
use borrow.Author.Tests.{eqb-true}
use Rattle.base_codec.proofs.PlainLaws.{plain-shape}
use Rattle.base_codec.proofs.plain.fits_plain.Statement.{statement}
use Rattle.base_codec.proofs.plain.fits_plain.Tie as tie

returns : tie.Need-returns
returns c t back e h = plain-shape _ back e h _ (omega arith) (eqb-true _ 0 t)

pub fits_plain_spec : {M : Type 1} → statement M
fits_plain_spec = tie.close (tie.spec returns)
