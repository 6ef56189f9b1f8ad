-- `call_rights::same_at` meets its contract. Assumes nothing.
use borrow.Author.Rules.{rules}
use Rattle.call_rights.proofs.KeepLaws.{position-same}
use Rattle.call_rights.proofs.keep.same_at.Statement.{statement}
use Rattle.call_rights.proofs.keep.same_at.Tie as tie

mul-number : tie.Need-overflow_mul-i
mul-number c = search rules

add-number : tie.Need-overflow_add-i
add-number c = search rules

number-requires : tie.Need-number-requires
number-requires c κs = search rules

mul-number-2 : tie.Need-overflow_mul-i-2
mul-number-2 c = search rules

add-number-2 : tie.Need-overflow_add-i-2
add-number-2 c = search rules

number-requires-2 : tie.Need-number-requires-2
number-requires-2 c κs = search rules

returns : tie.Need-returns
returns c = position-same _ _ _ _ _ c.number.ensures.0 c.number-2.ensures.0

pub same_at_spec : {M : Type 1} → statement M
same_at_spec =
    tie.close
    (tie.spec
    mul-number
    add-number
    number-requires
    mul-number-2
    add-number-2
    number-requires-2
    returns)
