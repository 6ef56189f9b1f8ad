-- `call_rights::or_words` meets its contract. Assumes nothing.
use borrow.Author.Rules.{rules}
use Rattle.call_rights.proofs.PlaceLaws.{four-words}
use Rattle.call_rights.proofs.zeros.or_words.Statement.{statement}
use Rattle.call_rights.proofs.zeros.or_words.Tie as tie

number-requires : tie.Need-number-a-requires
number-requires c κs = search rules

add-number : tie.Need-overflow_add-at
add-number c = search rules

number-requires-2 : tie.Need-number-b-requires
number-requires-2 c κs = search rules

add-number-2 : tie.Need-overflow_add-at-2
add-number-2 c = search rules

number-requires-3 : tie.Need-number-c-requires
number-requires-3 c κs = search rules

add-number-3 : tie.Need-overflow_add-at-3
add-number-3 c = search rules

number-requires-4 : tie.Need-number-d-requires
number-requires-4 c κs = search rules

returns : tie.Need-returns
returns c = four-words _ _ _ _ _ _ _ _ c.number-a.ensures.0 c.number-b.ensures.0 c.number-c.ensures.0 c.number-d.ensures.0

pub or_words_spec : {M : Type 1} → statement M
or_words_spec =
    tie.close
    (tie.spec
    number-requires
    add-number
    number-requires-2
    add-number-2
    number-requires-3
    add-number-3
    number-requires-4
    returns)
