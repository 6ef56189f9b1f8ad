-- The value read so far and what is left spell the whole (proofs/TextLaws.antt), until a byte that is no digit or a number that is too large.
use Rattle.std.proofs.Common.{rules, ◌∙◌, sym}
use Rattle.prog_lines.proofs.TextLaws.{decimal-none, decimal-begins, decimal-stops, decimal-ends, decimal-on, decimal-whole}
use Rattle.prog_lines.proofs.text.number.Goals as goal

pub returns-then-is_empty-clause-none : goal.returns-then-is_empty-clause-none
returns-then-is_empty-clause-none c = λ _. decimal-none c.args.text.now (search rules)

pub loop-b-init : goal.loop-b-init
loop-b-init c = (decimal-begins c.args.text.now (search rules), search rules)

pub returns-in_err-value-clause-none : goal.returns-in_err-value-clause-none
returns-in_err-value-clause-none c =
    let l = c.loop-b in
    let h = decimal-stops c.args.text.now l.b-index l.value (search rules) (search rules) in
    λ _. sym l.invariant.0 ∙ h

pub returns-then-value-gt65535-clause-none : goal.returns-then-value-gt65535-clause-none
returns-then-value-gt65535-clause-none c =
    let l = c.loop-b in
    let h = decimal-ends c.args.text.now l.b-index l.value (search rules) c.in_ok-value.field-0 (search rules) (search rules) (search rules) in
    λ _. sym l.invariant.0 ∙ h

pub loop-b-preserved : goal.loop-b-preserved
loop-b-preserved c =
    let l = c.loop-b in
    (sym (decimal-on c.args.text.now l.b-index l.value (search rules) c.in_ok-value.field-0 (search rules) (search rules) (search rules)) ∙ l.invariant.0, search rules)

pub returns-clause-value : goal.returns-clause-value
returns-clause-value c =
    let l = c.loop-b in
    (sym (decimal-whole c.args.text.now l.b-index l.value (search rules)) ∙ l.invariant.0, l.invariant.1)
