-- `call_rights::place` meets its contract. Assumes nothing.
use mathlib.Core.Path.{◌∙◌}
use borrow.Author.Rules.{rules}
use Rattle.call_rights.proofs.list.place.Statement.{statement}
use Rattle.call_rights.proofs.list.place.Tie as tie

mul-number : tie.Need-overflow_mul-i
mul-number c = search rules

add-number : tie.Need-overflow_add-from
add-number c = search rules

number-requires : tie.Need-number-position-requires
number-requires c κs = search rules

add-place : tie.Need-overflow_add-i
add-place c = search rules

place-requires : tie.Need-place-requires
place-requires c κs = search rules

returns : tie.Need-returns
returns c = c.place.ensures ∙ rw c.number-position.ensures.0

pub place_spec : {M : Type 1} → statement M
place_spec =
    tie.close
    (tie.spec mul-number add-number number-requires add-place place-requires returns)
