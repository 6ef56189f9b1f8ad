-- `call_rights::zero_block` meets its contract. Assumes nothing.
use borrow.Author.Rules.{rules}
use native.Mathlib.Omega.{arith}
use Rattle.call_rights.proofs.PlaceLaws.{zero-words}
use Rattle.call_rights.proofs.zeros.zero_block.Statement.{statement}
use Rattle.call_rights.proofs.zeros.zero_block.Tie as tie

or-words-requires : tie.Need-or_words-front-requires
or-words-requires c κs = search rules

add-or-words : tie.Need-overflow_add-at
add-or-words c = search rules

or-words-requires-2 : tie.Need-or_words-back-requires
or-words-requires-2 c κs = search rules

returns : tie.Need-returns
returns c = zero-words _ _ c.or_words-front.result c.or_words-back.result (omega arith) c.or_words-front.ensures c.or_words-back.ensures

pub zero_block_spec : {M : Type 1} → statement M
zero_block_spec = tie.close (tie.spec or-words-requires add-or-words or-words-requires-2 returns)
