-- `object_runner::records::whole_header` meets its contract. Assumes nothing.
use Rattle.object_runner.proofs.NextLaws.{header-whole}
use borrow.Author.Rules.{rules}
use Rattle.object_runner.proofs.records.whole_header.Statement.{statement}
use Rattle.object_runner.proofs.records.whole_header.Tie as tie

add-write : tie.Need-overflow_add-past
add-write c = search rules

add-write-2 : tie.Need-overflow_add-c
add-write-2 c = search rules

write-requires : tie.Need-write-requires
write-requires c κs = search rules

returns : tie.Need-returns
returns c = header-whole _ _ c.write.ensures

pub whole_header_spec : {M : Type 1} → statement M
whole_header_spec = tie.close (tie.spec add-write add-write-2 write-requires returns)
