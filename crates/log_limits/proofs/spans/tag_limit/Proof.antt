-- `log_limits::tag_limit` meets its contract. Assumes nothing.
use mathlib.Core.Path.{sym, ap, ◌∙◌, subst}
use Prim.Native.Nat.{ℕ, ◌-◌, ◌/◌, ◌≤◌}
use lib.Bits.{bit_and}
use borrow.Author.Rules.{rules}
use Rattle.model.specs.Tag.{field}
use Rattle.log_limits.proofs.OpenLaws.{open-quiet, far-quiet, span-read}
use Rattle.log_limits.proofs.spans.tag_limit.Statement.{statement}
use Rattle.log_limits.proofs.spans.tag_limit.Tie as tie

mul-number : tie.Need-overflow_mul-k
mul-number c = search rules

add-number : tie.Need-overflow_add-k
add-number c = search rules

number-requires : tie.Need-number-word-requires
number-requires c κs = search rules

returns : tie.Need-returns-then-word-eq0
returns c = open-quiet _ _ _ _ _ _ _ (ap (λ (x : ℕ). bit_and x 2) (sym c.number-word.ensures.0) ∙ c.if-word-eq0.true)

begins-after-requires : tie.Need-begins_after-requires
begins-after-requires c κs = search rules

returns-2 : tie.Need-returns-then-begins_after
returns-2 c =
    let a = c.args in
    far-quiet _ _ _ _ _ _ _
    (subst (λ (x : ℕ). a.limit ≤ (a.position - field x 14 13) / 7) c.number-word.ensures.0
    (c.begins_after.ensures c.if-begins_after.true))

word-there-requires : tie.Need-word_there-requires
word-there-requires c κs = search rules

word-limit-requires : tie.Need-word_limit-requires
word-limit-requires c κs = search rules

returns-3 : tie.Need-returns
returns-3 c = span-read _ _ _ _ _ _ _ c.word_limit.ensures c.word_there.ensures

pub tag_limit_spec : {M : Type 1} → statement M
tag_limit_spec =
    tie.close (tie.spec mul-number add-number number-requires returns begins-after-requires returns-2 word-there-requires word-limit-requires returns-3)
