-- `log_limits::writer_limit` meets its contract. Assumes nothing.
use native.Mathlib.Omega.{arith}
use borrow.Author.Rules.{rules}
use Rattle.log_limits.proofs.WriterLaws.{writer-none, writer-low, writer-high}
use Rattle.log_limits.proofs.writers.writer_limit.Statement.{statement}
use Rattle.log_limits.proofs.writers.writer_limit.Tie as tie

add-byte : tie.Need-overflow_add-w
add-byte c = search rules

byte-requires : tie.Need-byte-requires
byte-requires c κs = search rules

returns : tie.Need-returns-then-byte-lt3
returns c = writer-none _ _ _ _ c.byte.ensures.0 (omega (arith, c.if-byte-lt3.true))

mul_at : tie.Need-overflow_mul-at
mul_at c = search rules

add_at : tie.Need-overflow_add-at
add_at c = search rules

add-number : tie.Need-overflow_add-at-2
add-number c = search rules

number-requires : tie.Need-number-group-requires
number-requires c κs = search rules

returns-2 : tie.Need-returns-then-group-limit
returns-2 c =
    writer-low _ _ _ _ _ c.byte.ensures.0 (omega (arith, c.if-byte-lt3.false)) c.number-group.ensures.0 c.if-group-limit.true

returns-3 : tie.Need-returns
returns-3 c =
    writer-high _ _ _ _ _ c.byte.ensures.0 (omega (arith, c.if-byte-lt3.false)) c.number-group.ensures.0 c.if-group-limit.false

pub writer_limit_spec : {M : Type 1} → statement M
writer_limit_spec =
    tie.close
    (tie.spec
    add-byte
    byte-requires
    returns
    mul_at
    add_at
    add-number
    number-requires
    returns-2
    returns-3)
