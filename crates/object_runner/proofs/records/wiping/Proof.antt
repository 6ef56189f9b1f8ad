-- `object_runner::records::wiping` meets its contract. Assumes nothing.
use Rattle.object_runner.proofs.NextLaws.{wiping-words, wiping-blocks}
use borrow.Author.Rules.{rules}
use Rattle.object_runner.proofs.records.wiping.Statement.{statement}
use Rattle.object_runner.proofs.records.wiping.Tie as tie

add-all-zero : tie.Need-overflow_add-at
add-all-zero c = search rules

all-zero-requires : tie.Need-all_zero-requires
all-zero-requires c κs = search rules

returns : tie.Need-returns-then-words
returns c = wiping-words _ _ _ _ c.if-words.true c.all_zero.ensures

returns-2 : tie.Need-returns
returns-2 c = let a = c.args in wiping-blocks a.batch.now a.at _ c.if-words.false

pub wiping_spec : {M : Type 1} → statement M
wiping_spec = tie.close (tie.spec add-all-zero all-zero-requires returns returns-2)
