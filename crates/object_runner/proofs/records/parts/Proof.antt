-- `object_runner::records::parts` meets its contract. Assumes nothing.
use mathlib.Core.Path.{refl}
use Rattle.object_runner.proofs.NextLaws.{parts-words, parts-blocks}
use borrow.Author.Rules.{rules}
use Rattle.object_runner.proofs.records.parts.Statement.{statement}
use Rattle.object_runner.proofs.records.parts.Tie as tie

add-all-zero : tie.Need-overflow_add-at
add-all-zero c = search rules

all-zero-requires : tie.Need-all_zero-requires
all-zero-requires c κs = search rules

returns : tie.Need-returns-then-words
returns c = parts-words _ _ _ _ _ c.if-words.true c.all_zero.ensures refl

returns-2 : tie.Need-returns
returns-2 c = let a = c.args in parts-blocks a.batch.now a.at _ c.if-words.false

pub parts_spec : {M : Type 1} → statement M
parts_spec = tie.close (tie.spec add-all-zero all-zero-requires returns returns-2)
