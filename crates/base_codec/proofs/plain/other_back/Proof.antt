-- `base_codec::other_back` meets its contract. Assumes nothing.
use mathlib.Core.Path.{sym, ◌∙◌}
use borrow.Author.Tests.{not-true, eq-eqb}
use mathlib.Core.Bool.{false≢true}
use Rattle.base_codec.proofs.PlainLaws.{back-same}
use Rattle.base_codec.proofs.plain.other_back.Statement.{statement}
use Rattle.base_codec.proofs.plain.other_back.Tie as tie

returns : tie.Need-returns
returns c t back e h s = false≢true (sym (not-true _ t) ∙ eq-eqb _ 0 (back-same _ back e h _ s))

pub other_back_spec : {M : Type 1} → statement M
other_back_spec = tie.close (tie.spec returns)
