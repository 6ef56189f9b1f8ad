-- `log_shown::place_by` meets its contract. Assumes nothing.
use native.Mathlib.Omega.{arith}
use mathlib.Core.Path.{refl, ◌∙◌}
use Rattle.log_shown.proofs.ThereLaws.{place-before, place-past, place-there, place_none, place-some, ring-index}
use borrow.Author.Rules.{rules}
use Rattle.log_shown.proofs.place_by.Statement.{statement}
use Rattle.log_shown.proofs.place_by.Tie as tie

mul-base : tie.Need-overflow_mul-base
mul-base c = search rules

returns : tie.Need-returns-then-position-base
returns c = place-before _ _ _ _ c.if-position-base.true

next-position-requires : tie.Need-next_position-requires
next-position-requires c κs = search rules

returns-2 : tie.Need-returns-then-position-next_position
returns-2 c = place-past _ _ _ _ _ c.next_position.ensures (omega (arith, c.if-position-next_position.true))

ring-place-requires : tie.Need-ring_place-at-requires
ring-place-requires c κs = search rules

entry-there-requires : tie.Need-entry_there-requires
entry-there-requires c κs = search rules

returns-3 : tie.Need-returns-then-not-entry_there
returns-3 c = place_none _ _ _ _ _ (place-there _ _ _ _ _ _ _ c.next_position.ensures refl (omega (arith, c.if-position-base.false)) (omega (arith, c.if-position-next_position.false)) c.entry_there.ensures) (c.if-not-entry_there.true)

mul-result : tie.Need-overflow_mul-result
mul-result c = search rules

add-result : tie.Need-overflow_add-result
add-result c = search rules

mul-result-2 : tie.Need-overflow_mul-result-2
mul-result-2 c = search rules

add-result-2 : tie.Need-overflow_add-result-2
add-result-2 c = search rules

add-result-3 : tie.Need-overflow_add-result-3
add-result-3 c = search rules

returns-4 : tie.Need-returns
returns-4 c = ring-index _ _ _ _ _ refl (omega (arith, c.if-position-base.false)) c.ring_place-at.ensures ∙ place-some _ _ _ _ _ (place-there _ _ _ _ _ _ _ c.next_position.ensures refl (omega (arith, c.if-position-base.false)) (omega (arith, c.if-position-next_position.false)) c.entry_there.ensures) (c.if-not-entry_there.false)

pub place_by_spec : {M : Type 1} → statement M
place_by_spec =
    tie.close
    (tie.spec
    mul-base
    returns
    next-position-requires
    returns-2
    ring-place-requires
    entry-there-requires
    returns-3
    mul-result
    add-result
    mul-result-2
    add-result-2
    add-result-3
    returns-4)
