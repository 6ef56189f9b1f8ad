-- `object_runner::records::home_action` meets its contract. Assumes nothing.
use Rattle.object_runner.proofs.NextLaws.{home-short, home-high, home-done}
use borrow.Author.Rules.{rules}
use Rattle.object_runner.proofs.records.home_action.Statement.{statement}
use Rattle.object_runner.proofs.records.home_action.Tie as tie

sub-if1 : tie.Need-overflow_sub-batch
sub-if1 c = search rules

bare-requires : tie.Need-bare-requires
bare-requires c κs = search rules

returns : tie.Need-returns-then-batch-at-lt68
returns c = home-short _ _ _ _ c.if-batch-at-lt68.true c.bare.ensures

add-number : tie.Need-overflow_add-at
add-number c = search rules

number-requires : tie.Need-number-home-requires
number-requires c κs = search rules

bare-requires-2 : tie.Need-bare-requires-then-home-homes
bare-requires-2 c κs = search rules

returns-2 : tie.Need-returns-then-home-homes
returns-2 c = home-high _ _ _ _ _ c.if-batch-at-lt68.false c.number-home.ensures.0 c.if-home-homes.true c.bare-then-home-homes.ensures

add-write : tie.Need-overflow_add-past
add-write c = search rules

mul-write : tie.Need-overflow_mul-home
mul-write c = search rules

add-write-2 : tie.Need-overflow_add-c
add-write-2 c = search rules

write-requires : tie.Need-write-requires
write-requires c κs = search rules

returns-3 : tie.Need-returns
returns-3 c =
    home-done _ _ _ _ _ c.if-batch-at-lt68.false c.number-home.ensures.0 c.if-home-homes.false c.write.ensures

pub home_action_spec : {M : Type 1} → statement M
home_action_spec =
    tie.close
    (tie.spec
    sub-if1
    bare-requires
    returns
    add-number
    number-requires
    bare-requires-2
    returns-2
    add-write
    mul-write
    add-write-2
    write-requires
    returns-3)
