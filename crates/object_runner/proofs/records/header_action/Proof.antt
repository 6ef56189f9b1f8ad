-- `object_runner::records::header_action` meets its contract. Assumes nothing.
use Rattle.object_runner.proofs.NextLaws.{header-short, header-wiped, header-kept}
use borrow.Author.Rules.{rules}
use Rattle.object_runner.proofs.records.header_action.Statement.{statement}
use Rattle.object_runner.proofs.records.header_action.Tie as tie

sub-if1 : tie.Need-overflow_sub-batch
sub-if1 c = search rules

bare-requires : tie.Need-bare-requires
bare-requires c κs = search rules

returns : tie.Need-returns-then-batch-at-lt66
returns c = header-short _ _ _ _ c.if-batch-at-lt66.true c.bare.ensures

wiping-requires : tie.Need-wiping-requires
wiping-requires c κs = search rules

wipe-action-requires : tie.Need-wipe_action-requires
wipe-action-requires c κs = search rules

returns-2 : tie.Need-returns-then-wiping
returns-2 c = header-wiped _ _ _ _ c.if-batch-at-lt66.false _ c.wiping.ensures c.if-wiping.true c.wipe_action.ensures

whole-header-requires : tie.Need-whole_header-requires
whole-header-requires c κs = search rules

returns-3 : tie.Need-returns
returns-3 c = header-kept _ _ _ _ c.if-batch-at-lt66.false _ c.wiping.ensures c.if-wiping.false c.whole_header.ensures

pub header_action_spec : {M : Type 1} → statement M
header_action_spec =
    tie.close
    (tie.spec
    sub-if1
    bare-requires
    returns
    wiping-requires
    wipe-action-requires
    returns-2
    whole-header-requires
    returns-3)
