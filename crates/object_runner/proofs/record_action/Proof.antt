-- `object_runner::record_action` meets its contract. Assumes nothing.
use mathlib.Core.Bool.{true}
use Rattle.object_runner.proofs.NextLaws.{by-group, by_home, by-header, by-fence, by-none}
use borrow.Author.Rules.{rules}
use Rattle.object_runner.proofs.record_action.Statement.{statement}
use Rattle.object_runner.proofs.record_action.Tie as tie

has-mark-requires : tie.Need-has_mark-requires
has-mark-requires c κs = search rules

group-action-requires : tie.Need-group_action-requires
group-action-requires c κs = search rules

returns : tie.Need-returns-then-has_mark
returns c = by-group _ _ _ _ _ _ _ _ true true true (c.has_mark.ensures, c.if-has_mark.true) c.group_action.ensures

has-mark-requires-2 : tie.Need-has_mark-requires-2
has-mark-requires-2 c κs = search rules

home-action-requires : tie.Need-home_action-requires
home-action-requires c κs = search rules

returns-2 : tie.Need-returns-then-has_mark-2
returns-2 c =
    by_home _ _ _ _ _ _ _ _ _ true true (c.has_mark.ensures, c.if-has_mark.false) (c.has_mark-2.ensures, c.if-has_mark-2.true) c.home_action.ensures

has-mark-requires-3 : tie.Need-has_mark-requires-3
has-mark-requires-3 c κs = search rules

header-action-requires : tie.Need-header_action-requires
header-action-requires c κs = search rules

returns-3 : tie.Need-returns-then-has_mark-3
returns-3 c =
    by-header _ _ _ _ _ _ _ _ _ _ true (c.has_mark.ensures, c.if-has_mark.false) (c.has_mark-2.ensures, c.if-has_mark-2.false)
    (c.has_mark-3.ensures, c.if-has_mark-3.true) c.header_action.ensures

has-mark-requires-4 : tie.Need-has_mark-requires-4
has-mark-requires-4 c κs = search rules

fence-action-requires : tie.Need-fence_action-requires
fence-action-requires c κs = search rules

returns-4 : tie.Need-returns-then-has_mark-4
returns-4 c =
    by-fence _ _ _ _ _ _ _ _ _ _ _ (c.has_mark.ensures, c.if-has_mark.false) (c.has_mark-2.ensures, c.if-has_mark-2.false) (c.has_mark-3.ensures, c.if-has_mark-3.false)
    (c.has_mark-4.ensures, c.if-has_mark-4.true) c.fence_action.ensures

bare-requires : tie.Need-bare-requires
bare-requires c κs = search rules

returns-5 : tie.Need-returns
returns-5 c =
    by-none _ _ _ _ _ _ _ _ _ _ _ (c.has_mark.ensures, c.if-has_mark.false) (c.has_mark-2.ensures, c.if-has_mark-2.false) (c.has_mark-3.ensures, c.if-has_mark-3.false)
    (c.has_mark-4.ensures, c.if-has_mark-4.false) c.bare.ensures

pub record_action_spec : {M : Type 1} → statement M
record_action_spec =
    tie.close
    (tie.spec has-mark-requires group-action-requires returns has-mark-requires-2 home-action-requires returns-2 has-mark-requires-3 header-action-requires returns-3 has-mark-requires-4 fence-action-requires returns-4 bare-requires returns-5)
