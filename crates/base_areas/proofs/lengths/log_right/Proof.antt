-- `base_areas::log_right` meets its contract: each return follows the tests that led to it. Assumes nothing.
use borrow.Author.Rules.{rules}
use Rattle.base_areas.proofs.LengthLaws.{groups-few, groups-many, groups-whole}
use Rattle.base_areas.proofs.lengths.log_right.Statement.{statement}
use Rattle.base_areas.proofs.lengths.log_right.Tie as tie

log-groups-requires : tie.Need-log_groups-groups-requires
log-groups-requires c κs = search rules

returns : tie.Need-returns-then-groups-lt4
returns c = groups-few _ _ c.log_groups-groups.ensures c.if-groups-lt4.true

returns-2 : tie.Need-returns-then-groups-gt-MAX_GROUPS
returns-2 c = groups-many _ _ c.log_groups-groups.ensures c.if-groups-gt-MAX_GROUPS.true

mul-result : tie.Need-overflow_mul-result
mul-result c = search rules

add-result : tie.Need-overflow_add-result
add-result c = search rules

returns-3 : tie.Need-returns
returns-3 c = groups-whole _ _ c.log_groups-groups.ensures c.if-groups-lt4.false c.if-groups-gt-MAX_GROUPS.false

pub log_right_spec : {M : Type 1} → statement M
log_right_spec =
    tie.close (tie.spec log-groups-requires returns returns-2 mul-result add-result returns-3)
