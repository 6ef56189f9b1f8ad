-- `call_rights::may_read` meets its contract. Assumes nothing.
use borrow.Author.Rules.{rules}
use mathlib.Core.Path.{refl, sym, ◌∙◌}
use native.Mathlib.Omega.{arith}
use Rattle.call_rights.proofs.RightsLaws.{listed-newest, read-listed, read_small, read-open, sign-open, sign-listed}
use Rattle.call_rights.proofs.may_read.Statement.{statement}
use Rattle.call_rights.proofs.may_read.Tie as tie

of-list-requires : tie.Need-of_list-requires
of-list-requires c κs = search rules

returns : tie.Need-returns-then-of_list
returns c = let p = c.requires in read-listed _ _ _ _ p.0 refl _ _ _ _ c.of_list.ensures c.if-of_list.true

returns-2 : tie.Need-returns-then-area-lt768
returns-2 c = let p = c.requires in read_small _ _ _ _ p.0 refl _ _ _ _ c.of_list.ensures c.if-of_list.false (omega (arith, c.if-area-lt768.true))

mul_at : tie.Need-overflow_mul-at
mul_at c = search rules

add_at : tie.Need-overflow_add-at
add_at c = search rules

list-sign-requires : tie.Need-list_sign-sign-requires
list-sign-requires c κs = c.requires.0.state-length

returns-3 : tie.Need-returns-then-sign-eq1
returns-3 c =
    let p = c.requires in
    read-open _ _ _ _ p.0 refl _ _ _ _ _ c.of_list.ensures c.if-of_list.false
    (sign-open _ _ _ _ _ (listed-newest _ _ _ _ p.0 refl _ p.2) (omega (arith, p.0.area-length, p.0.order.homes_same, c.if-area-lt768.false)) _ _ _
    (sym c.list_sign-sign.ensures ∙ c.if-sign-eq1.true))

open-listed-requires : tie.Need-open_listed-requires
open-listed-requires c κs = let p = c.requires in (listed-newest _ _ _ _ p.0 refl _ p.2, p.0.state-length, omega (arith, p.0.area-length, p.0.order.homes_same, c.if-area-lt768.false), omega (arith, p.1), omega (arith, p.1))

returns-4 : tie.Need-returns-then-sign-eq2
returns-4 c =
    let p = c.requires in
    read-open _ _ _ _ p.0 refl _ _ _ _ _ c.of_list.ensures c.if-of_list.false
    (sign-listed _ _ _ _ _ (listed-newest _ _ _ _ p.0 refl _ p.2) (omega (arith, p.0.area-length, p.0.order.homes_same, c.if-area-lt768.false)) _ _ _ _
    (sym c.list_sign-sign.ensures ∙ c.if-sign-eq2.true) c.open_listed.ensures)

open-unsigned-requires : tie.Need-open_unsigned-requires
open-unsigned-requires c κs =
    let p = c.requires in
    (listed-newest _ _ _ _ p.0 refl _ p.2, p.0.state-length, omega (arith, p.0.area-length, p.0.order.homes_same, c.if-area-lt768.false), omega (arith, p.1), omega (arith, p.1), λ e. c.if-sign-eq1.false (c.list_sign-sign.ensures ∙ e), λ e. c.if-sign-eq2.false (c.list_sign-sign.ensures ∙ e))

returns-5 : tie.Need-returns
returns-5 c = let p = c.requires in read-open _ _ _ _ p.0 refl _ _ _ _ _ c.of_list.ensures c.if-of_list.false c.open_unsigned.ensures

pub may_read_spec : {M : Type 1} → statement M
may_read_spec =
    tie.close
    (tie.spec
    of-list-requires
    returns
    returns-2
    mul_at
    add_at
    list-sign-requires
    returns-3
    open-listed-requires
    returns-4
    open-unsigned-requires
    returns-5)
