-- `base_areas::data_right` meets its contract: each return follows the tests that led to it. Assumes nothing.
use borrow.Author.Rules.{rules}
use Rattle.base_areas.proofs.LengthLaws.{homes-few, homes-many, homes-whole}
use Rattle.base_areas.proofs.lengths.data_right.Statement.{statement}
use Rattle.base_areas.proofs.lengths.data_right.Tie as tie

data-homes-requires : tie.Need-data_homes-homes-requires
data-homes-requires c κs = search rules

returns : tie.Need-returns-then-homes-lt1
returns c = homes-few _ _ c.data_homes-homes.ensures c.if-homes-lt1.true

returns-2 : tie.Need-returns-then-homes-gt65535
returns-2 c = homes-many _ _ c.data_homes-homes.ensures c.if-homes-gt65535.true

mul-result : tie.Need-overflow_mul-result
mul-result c = search rules

returns-3 : tie.Need-returns
returns-3 c = homes-whole _ _ c.data_homes-homes.ensures c.if-homes-lt1.false c.if-homes-gt65535.false

pub data_right_spec : {M : Type 1} → statement M
data_right_spec = tie.close (tie.spec data-homes-requires returns returns-2 mul-result returns-3)
