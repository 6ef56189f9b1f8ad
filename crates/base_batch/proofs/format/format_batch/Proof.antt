-- `base_batch::format_batch` meets its contract: its records stand one after the other. Assumes nothing.
use mathlib.Core.Path.{◌∙◌}
use borrow.Author.Rules.{rules}
use native.Mathlib.Omega.{arith}
use Rattle.base_batch.proofs.FormatLaws.{length-formatted, formatted-written}
use Rattle.base_batch.proofs.format.format_batch.Statement.{statement}
use Rattle.base_batch.proofs.format.format_batch.Tie as tie

zero-header-write-requires : tie.Need-zero_header_write-at-requires
zero-header-write-requires c κs = search rules

fence-requires : tie.Need-fence-at-requires
fence-requires c κs = search rules

all-groups-requires : tie.Need-all_groups-at-requires
all-groups-requires c κs = search rules

all-homes-requires : tie.Need-all_homes-at-requires
all-homes-requires c κs = search rules

fence-requires-2 : tie.Need-fence-at-requires-2
fence-requires-2 c κs = search rules

header-write-requires : tie.Need-header_write-at-requires
header-write-requires c κs = search rules

fence-requires-3 : tie.Need-fence-requires
fence-requires-3 c κs = search rules

same_length : tie.Need-shape_of-batch
same_length c = search rules

returns : tie.Need-returns
returns c =
    let a = c.args in (
      (omega (arith, length-formatted a.groups a.homes), omega arith),
      c.fence.ensures.1
          ∙ rw (c.header_write-at.ensures.1, c.fence-at-2.ensures.1, c.all_homes-at.ensures.1, c.all_groups-at.ensures.1, c.fence-at.ensures.1, c.zero_header_write-at.ensures.1)
          (formatted-written _ _ _ _ _ _ _ _ _ c.zero_header_write-at.ensures.0 c.fence-at.ensures.0 c.all_groups-at.ensures.0
          c.all_homes-at.ensures.0 c.fence-at-2.ensures.0 c.header_write-at.ensures.0),
    )

pub format_batch_spec : {M : Type 1} → statement M
format_batch_spec =
    tie.close
    (tie.spec
    zero-header-write-requires
    fence-requires
    all-groups-requires
    all-homes-requires
    fence-requires-2
    header-write-requires
    fence-requires-3
    same_length
    returns)
