-- `log_shown::displaced_at` meets its contract. Assumes nothing.
use borrow.Author.Rules.{rules}
use mathlib.Core.Path.{◌∙◌}
use Rattle.log_shown.specs.There.{tag_from}
use Rattle.log_shown.proofs.displaced_at.Statement.{statement}
use Rattle.log_shown.proofs.displaced_at.Tie as tie

sub-from : tie.Need-overflow_sub-from
sub-from c = search rules

mul-number : tie.Need-overflow_mul-from
mul-number c = search rules

add-number : tie.Need-overflow_add-from
add-number c = search rules

add-number-2 : tie.Need-overflow_add-from-2
add-number-2 c = search rules

number-requires : tie.Need-number-requires
number-requires c κs = search rules

displaced-requires : tie.Need-displaced-requires
displaced-requires c κs = search rules

returns : tie.Need-returns
unfolding tag_from
returns c = (c.displaced.ensures.0 ∙ rw c.number.ensures.0, c.displaced.ensures.1)

pub displaced_at_spec : {M : Type 1} → statement M
displaced_at_spec =
    tie.close
    (tie.spec
    sub-from
    mul-number
    add-number
    add-number-2
    number-requires
    displaced-requires
    returns)
