-- `object_runner::records::wipe_action` meets its contract. Assumes nothing.
use Rattle.object_runner.proofs.NextLaws.{wipe-first, wipe-fence, wipe-rest}
use borrow.Author.Rules.{rules}
use Rattle.object_runner.proofs.records.wipe_action.Statement.{statement}
use Rattle.object_runner.proofs.records.wipe_action.Tie as tie

add-write : tie.Need-overflow_add-c
add-write c = search rules

write-requires : tie.Need-write-requires
write-requires c κs = search rules

returns : tie.Need-returns-then-c-eq0
returns c = wipe-first _ _ c.if-c-eq0.true c.write.ensures

bare-requires : tie.Need-bare-requires
bare-requires c κs = search rules

returns-2 : tie.Need-returns-then-c-eq1
returns-2 c = wipe-fence _ _ c.if-c-eq0.false c.if-c-eq1.true c.bare.ensures

whole-header-requires : tie.Need-whole_header-requires
whole-header-requires c κs = search rules

returns-3 : tie.Need-returns
returns-3 c = wipe-rest _ _ c.if-c-eq0.false c.if-c-eq1.false c.whole_header.ensures

pub wipe_action_spec : {M : Type 1} → statement M
wipe_action_spec =
    tie.close
    (tie.spec
    add-write
    write-requires
    returns
    bare-requires
    returns-2
    whole-header-requires
    returns-3)
