-- `call_rights::none_kept` meets its contract. Assumes nothing.
use borrow.Author.Rules.{rules}
use mathlib.Core.Path.{sym, ◌∙◌}
use borrow.Author.Tests.{eqb-true}
use mathlib.Core.Bool.{false≢true}
use Rattle.call_rights.proofs.PlaceLaws.{four-kept}
use Rattle.call_rights.proofs.list.none_kept.Statement.{statement}
use Rattle.call_rights.proofs.list.none_kept.Tie as tie

number-requires : tie.Need-number-requires
number-requires c κs = search rules

returns : tie.Need-returns-then-number
returns c e i h = absurd (false≢true e)

add-number : tie.Need-overflow_add-from
add-number c = search rules

number-requires-2 : tie.Need-number-requires-2
number-requires-2 c κs = search rules

returns-2 : tie.Need-returns-then-number-2
returns-2 c e i h = absurd (false≢true e)

add-number-2 : tie.Need-overflow_add-from-2
add-number-2 c = search rules

number-requires-3 : tie.Need-number-requires-3
number-requires-3 c κs = search rules

returns-3 : tie.Need-returns-then-number-3
returns-3 c e i h = absurd (false≢true e)

add-number-3 : tie.Need-overflow_add-from-3
add-number-3 c = search rules

number-requires-4 : tie.Need-number-requires-4
number-requires-4 c κs = search rules

returns-4 : tie.Need-returns
returns-4 c e i h =
    four-kept _ _ _ (sym c.number.ensures.0 ∙ c.if-number.false) (sym c.number-2.ensures.0 ∙ c.if-number-2.false)
    (sym c.number-3.ensures.0 ∙ c.if-number-3.false) (sym c.number-4.ensures.0 ∙ eqb-true _ _ e) i h

pub none_kept_spec : {M : Type 1} → statement M
none_kept_spec =
    tie.close
    (tie.spec
    number-requires
    returns
    add-number
    number-requires-2
    returns-2
    add-number-2
    number-requires-3
    returns-3
    add-number-3
    number-requires-4
    returns-4)
