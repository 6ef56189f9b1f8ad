-- `object_runner::records::due` meets its contract. Assumes nothing.
use mathlib.Core.Path.{refl}
use Rattle.object_runner.proofs.NextLaws.{due-words, due-blocks}
use Rattle.object_runner.proofs.records.due.Statement.{statement}
use Rattle.object_runner.proofs.records.due.Tie as tie

returns : tie.Need-returns-then-words
returns c = due-words _ _ _ _ c.if-words.true refl

returns-2 : tie.Need-returns
returns-2 c = due-blocks _ _ _ c.if-words.false

pub due_spec : {M : Type 1} → statement M
due_spec = tie.close (tie.spec returns returns-2)
