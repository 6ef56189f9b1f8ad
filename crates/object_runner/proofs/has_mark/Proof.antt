-- `object_runner::has_mark` meets its contract. Assumes nothing.
use mathlib.Core.Path.{sym}
use native.Mathlib.Omega.{arith}
use Rattle.base_codec.proofs.MarkLaws.{mark-first, mark-second, mark-both}
use borrow.Author.Rules.{rules}
use Rattle.object_runner.proofs.has_mark.Statement.{statement}
use Rattle.object_runner.proofs.has_mark.Tie as tie

shared-slice-read-if1 : tie.Need-bounds-s-at
shared-slice-read-if1 c = search rules

shared-slice-read-if1-2 : tie.Need-bounds-mark-0
shared-slice-read-if1-2 c = search rules

returns : tie.Need-returns-then-s-at
returns c = sym (mark-first _ _ _ (omega arith) c.if-s-at.true)

add-if2 : tie.Need-overflow_add-at
add-if2 c = search rules

shared-slice-read-if2 : tie.Need-bounds-s-at-2
shared-slice-read-if2 c = search rules

shared-slice-read-if2-2 : tie.Need-bounds-mark-1
shared-slice-read-if2-2 c = search rules

returns-2 : tie.Need-returns-then-s-at-2
returns-2 c = sym (mark-second _ _ _ (omega arith) c.if-s-at-2.true)

returns-3 : tie.Need-returns
returns-3 c = sym (mark-both _ _ _ (omega arith) (omega arith) c.if-s-at.false c.if-s-at-2.false)

pub has_mark_spec : {M : Type 1} → statement M
has_mark_spec =
    tie.close
    (tie.spec
    shared-slice-read-if1
    shared-slice-read-if1-2
    returns
    add-if2
    shared-slice-read-if2
    shared-slice-read-if2-2
    returns-2
    returns-3)
