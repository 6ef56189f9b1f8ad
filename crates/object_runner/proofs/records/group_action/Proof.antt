-- `object_runner::records::group_action` meets its contract. Assumes nothing.
use Rattle.object_runner.proofs.NextLaws.{group-short, group-high, group-parted, group-whole}
use borrow.Author.Rules.{rules}
use Rattle.object_runner.proofs.records.group_action.Statement.{statement}
use Rattle.object_runner.proofs.records.group_action.Tie as tie

sub-if1 : tie.Need-overflow_sub-batch
sub-if1 c = search rules

bare-requires : tie.Need-bare-requires
bare-requires c κs = search rules

returns : tie.Need-returns-then-batch-at-lt516
returns c = group-short _ _ _ _ _ c.if-batch-at-lt516.true c.bare.ensures

add-number : tie.Need-overflow_add-at
add-number c = search rules

number-requires : tie.Need-number-slot-requires
number-requires c κs = search rules

bare-requires-2 : tie.Need-bare-requires-then-slot-groups
bare-requires-2 c κs = search rules

returns-2 : tie.Need-returns-then-slot-groups
returns-2 c = group-high _ _ _ _ _ _ c.if-batch-at-lt516.false c.number-slot.ensures.0 c.if-slot-groups.true c.bare-then-slot-groups.ensures

mul-offset : tie.Need-overflow_mul-offset
mul-offset c = search rules

add-offset : tie.Need-overflow_add-offset
add-offset c = search rules

add-from : tie.Need-overflow_add-from
add-from c = search rules

add-t13 : tie.Need-overflow_add-past
add-t13 c = search rules

parts-requires : tie.Need-parts-requires
parts-requires c κs = search rules

add-write : tie.Need-overflow_add-offset-then-parts
add-write c = search rules

add-write-2 : tie.Need-overflow_add-from-then-parts
add-write-2 c = search rules

write-requires : tie.Need-write-requires
write-requires c κs = search rules

returns-3 : tie.Need-returns-then-parts
returns-3 c =
    group-parted _ _ _ _ _ _ c.if-batch-at-lt516.false c.number-slot.ensures.0 c.if-slot-groups.false _ c.parts.ensures c.if-parts.true c.write.ensures

write-requires-2 : tie.Need-write-requires-2
write-requires-2 c κs = search rules

returns-4 : tie.Need-returns
returns-4 c =
    group-whole _ _ _ _ _ _ c.if-batch-at-lt516.false c.number-slot.ensures.0 c.if-slot-groups.false _ c.parts.ensures c.if-parts.false c.write-2.ensures

pub group_action_spec : {M : Type 1} → statement M
group_action_spec =
    tie.close
    (tie.spec
    sub-if1
    bare-requires
    returns
    add-number
    number-requires
    bare-requires-2
    returns-2
    mul-offset
    add-offset
    add-from
    add-t13
    parts-requires
    add-write
    add-write-2
    write-requires
    returns-3
    write-requires-2
    returns-4)
