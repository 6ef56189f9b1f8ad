-- `log_scan::word_there` meets its contract. Assumes nothing.
use mathlib.Core.Path.{sym, ◌∙◌}
use Rattle.log_scan.proofs.GroupLaws.{word-other, word_fits}
use borrow.Author.Rules.{rules}
use Rattle.log_scan.proofs.groups.word_there.Statement.{statement}
use Rattle.log_scan.proofs.groups.word_there.Tie as tie

mul-top-bit : tie.Need-overflow_mul-k
mul-top-bit c = search rules

add-top-bit : tie.Need-overflow_add-k
add-top-bit c = search rules

top-bit-requires : tie.Need-top_bit-requires
top-bit-requires c κs = search rules

returns : tie.Need-returns-then-top_bit-turn
returns c = word-other _ _ _ (λ e. c.if-top_bit-turn.true (c.top_bit.ensures.0 ∙ e))

mul-number : tie.Need-overflow_mul-k-2
mul-number c = search rules

add-number : tie.Need-overflow_add-k-2
add-number c = search rules

number-requires : tie.Need-number-requires
number-requires c κs = search rules

returns-2 : tie.Need-returns
returns-2 c = c.number.ensures.0 ∙ word_fits _ _ _ (sym c.top_bit.ensures.0 ∙ c.if-top_bit-turn.false)

pub word_there_spec : {M : Type 1} → statement M
word_there_spec =
    tie.close
    (tie.spec
    mul-top-bit
    add-top-bit
    top-bit-requires
    returns
    mul-number
    add-number
    number-requires
    returns-2)
