-- `unit_hours_book::start` meets its contract. Assumes nothing.
use mathlib.Core.Path.{sym, ap, ◌∙◌}
use native.Mathlib.Omega.{arith}
use Rattle.unit_hours_book.specs.Pump.{block_of}
use Rattle.unit_hours_book.proofs.EventLaws.{refusal, completion, start-running, start-idle, after-start}
use borrow.Author.Rules.{rules}
use Rattle.unit_hours_book.proofs.start.Statement.{statement}
use Rattle.unit_hours_book.proofs.start.Tie as tie

read-requires : tie.Need-read-p-requires
read-requires c κs = search rules

same_length : tie.Need-shape_of-block-then-p
same_length c = search rules

returns : tie.Need-returns-then-p
returns c = refusal _ _ c.read-p.ensures.0 (start-running _ _ c.if-p.true) (λ z. omega arith)

add-late : tie.Need-overflow_add-p
add-late c = search rules

late-requires : tie.Need-late-code-requires
late-requires c κs = search rules

same-length-2 : tie.Need-shape_of-block-then-code-ne0
same-length-2 c = search rules

returns-2 : tie.Need-returns-then-code-ne0
returns-2 c =
    let r = c.read-p in
    let i = c.if-p.false in
    refusal _ _ r.ensures.0 (c.late-code.ensures ∙ sym (start-idle _ _ i)) c.if-code-ne0.true

add-t9 : tie.Need-overflow_add-p-2
add-t9 c = search rules

write-requires : tie.Need-write-requires
write-requires c κs = search rules

same-length-3 : tie.Need-shape_of-block
same-length-3 c = search rules

returns-3 : tie.Need-returns
returns-3 c =
    let r = c.read-p in
    let i = c.if-p.false in
    completion _ _ r.ensures.0 (c.late-code.ensures ∙ sym (start-idle _ _ i)) c.if-code-ne0.false (c.write.ensures ∙ ap block_of (after-start _ _))

pub start_spec : {M : Type 1} → statement M
start_spec =
    tie.close
    (tie.spec
    read-requires
    same_length
    returns
    add-late
    late-requires
    same-length-2
    returns-2
    add-t9
    write-requires
    same-length-3
    returns-3)
