-- `log_shown::fields_for` meets its contract. Assumes nothing.
use native.Mathlib.Omega.{arith}
use Rattle.log_shown.proofs.PlainLaws.{far-back, closing-key, closing-displaced, plain-key, plain-displaced, other_key}
use borrow.Author.Rules.{rules}
use Rattle.log_shown.proofs.tags.fields_for.Statement.{statement}
use Rattle.log_shown.proofs.tags.fields_for.Tie as tie

returns : tie.Need-returns-then-word-after
returns c base homes k = far-back _ _ _ base homes (omega arith) c.requires k (omega (arith, c.if-word-after.true))

mul-key : tie.Need-overflow_mul-key
mul-key c = search rules

add-key : tie.Need-overflow_add-key
add-key c = search rules

mul-plain : tie.Need-overflow_mul-plain
mul-plain c = search rules

add-plain : tie.Need-overflow_add-plain
add-plain c = search rules

add-if2 : tie.Need-overflow_add-plain-2
add-if2 c = search rules

returns-2 : tie.Need-returns-then-key-plain
returns-2 c base homes k = closing-key _ _ _ base homes (omega arith) c.requires k (omega (arith, c.if-word-after.false)) c.if-key-plain.true

add-if3 : tie.Need-overflow_add-plain-3
add-if3 c = search rules

returns-3 : tie.Need-returns-then-key-plain-2
returns-3 c base homes k = closing-displaced _ _ _ base homes (omega arith) c.requires k (omega (arith, c.if-word-after.false)) c.if-key-plain-2.true

returns-4 : tie.Need-returns-then-key-plain-3
returns-4 c base homes k = plain-key _ _ _ base homes (omega arith) c.requires k (omega (arith, c.if-word-after.false)) c.if-key-plain-3.true

add-if5 : tie.Need-overflow_add-plain-4
add-if5 c = search rules

returns-5 : tie.Need-returns-then-key-plain-4
returns-5 c base homes k = other_key _ _ _ base homes (omega arith) c.requires k (omega (arith, c.if-word-after.false)) c.if-key-plain.false c.if-key-plain-2.false c.if-key-plain-3.false c.if-key-plain-4.true

returns-6 : tie.Need-returns
returns-6 c base homes k = plain-displaced _ _ _ base homes (omega arith) c.requires k (omega (arith, c.if-word-after.false)) c.if-key-plain-4.false

pub fields_for_spec : {M : Type 1} → statement M
fields_for_spec =
    tie.close
    (tie.spec
    returns
    mul-key
    add-key
    mul-plain
    add-plain
    add-if2
    returns-2
    add-if3
    returns-3
    returns-4
    add-if5
    returns-5
    returns-6)
