-- `log_shown::is_entry_for` meets its contract. Assumes nothing.
use native.Mathlib.Omega.{arith}
use Rattle.log_shown.proofs.PlainLaws.{plain-test}
use borrow.Author.Rules.{rules}
use Rattle.log_shown.proofs.tags.is_entry_for.Statement.{statement}
use Rattle.log_shown.proofs.tags.is_entry_for.Tie as tie

mul-result : tie.Need-overflow_mul-result
mul-result c = search rules

add-result : tie.Need-overflow_add-result
add-result c = search rules

returns : tie.Need-returns-then-word-after
returns c base homes k = plain-test _ _ _ base homes (omega (arith, c.if-word-after.true)) c.requires.0 k

fields-for-requires : tie.Need-fields_for-requires
fields-for-requires c κs = search rules

returns-2 : tie.Need-returns
returns-2 c = search rules

pub is_entry_for_spec : {M : Type 1} → statement M
is_entry_for_spec =
    tie.close (tie.spec mul-result add-result returns fields-for-requires returns-2)
