-- `unit_hours_book::stop` meets its contract. Assumes nothing.
use mathlib.Core.Path.{sym, ap, ◌∙◌}
use native.Mathlib.Omega.{arith}
use borrow.Author.Tests.{not-true, not-false}
use Rattle.unit_hours_book.specs.Pump.{block_of}
use Rattle.unit_hours_book.specs.Events.{late}
use Rattle.unit_hours_book.proofs.EventLaws.{refusal, completion, stop-running, stop-idle, after_stop}
use borrow.Author.Rules.{rules}
use Rattle.unit_hours_book.proofs.stop.Statement.{statement}
use Rattle.unit_hours_book.proofs.stop.Tie as tie

read-requires : tie.Need-read-p-requires
read-requires c κs = search rules

same_length : tie.Need-shape_of-block-then-not-p
same_length c = search rules

returns : tie.Need-returns-then-not-p
returns c = refusal _ _ c.read-p.ensures.0 (stop-idle _ _ (not-true _ c.if-not-p.true)) (λ z. omega arith)

total-at-requires : tie.Need-total_at-total-requires
total-at-requires c κs = search rules

late-requires : tie.Need-late-code-requires
late-requires c κs = search rules

same-length-2 : tie.Need-shape_of-block-then-code-ne0
same-length-2 c = search rules

returns-2 : tie.Need-returns-then-code-ne0
returns-2 c =
    let r = c.read-p in
    let i = c.if-not-p.false in
    let t = c.total_at-total.ensures in
    refusal _ _ r.ensures.0 (c.late-code.ensures ∙ ap (late _ _) t ∙ sym (stop-running _ _ (not-false _ i))) c.if-code-ne0.true

write-requires : tie.Need-write-requires
write-requires c κs = search rules

same-length-3 : tie.Need-shape_of-block
same-length-3 c = search rules

returns-3 : tie.Need-returns
returns-3 c =
    let r = c.read-p in
    let i = c.if-not-p.false in
    let t = c.total_at-total.ensures in
    completion _ _ r.ensures.0 (c.late-code.ensures ∙ ap (late _ _) t ∙ sym (stop-running _ _ (not-false _ i))) c.if-code-ne0.false
    (c.write.ensures ∙ ap block_of (after_stop _ _ t))

pub stop_spec : {M : Type 1} → statement M
stop_spec =
    tie.close
    (tie.spec
    read-requires
    same_length
    returns
    total-at-requires
    late-requires
    same-length-2
    returns-2
    write-requires
    same-length-3
    returns-3)
