-- `object_runner::records::due_action` meets its contract. Assumes nothing.
use native.Mathlib.Nat.{mod-lt}
use native.Mathlib.Omega.{arith}
use Rattle.object_runner.proofs.NextLaws.{due-fence, due-word}
use borrow.Author.Rules.{rules}
use Rattle.object_runner.proofs.records.due_action.Statement.{statement}
use Rattle.object_runner.proofs.records.due_action.Tie as tie

bare-requires : tie.Need-bare-requires
bare-requires c κs = search rules

returns : tie.Need-returns-then-c-eq0
returns c = due-fence _ _ _ c.if-c-eq0.true c.bare.ensures

rem-offset : tie.Need-nonzero_rem-offset
rem-offset c = search rules

mul-offset : tie.Need-overflow_mul-offset
mul-offset c = omega (arith, c.requires.1, mod-lt c.args.c.headed c.requires.0)

add-offset : tie.Need-overflow_add-offset
add-offset c = omega (arith, c.requires.1, mod-lt c.args.c.headed c.requires.0)

add-t7 : tie.Need-overflow_add-more
add-t7 c = search rules

write-requires : tie.Need-write-requires
write-requires c κs = search rules

returns-2 : tie.Need-returns
returns-2 c = due-word _ _ _ c.if-c-eq0.false c.write.ensures

pub due_action_spec : {M : Type 1} → statement M
due_action_spec =
    tie.close
    (tie.spec
    bare-requires
    returns
    rem-offset
    mul-offset
    add-offset
    add-t7
    write-requires
    returns-2)
