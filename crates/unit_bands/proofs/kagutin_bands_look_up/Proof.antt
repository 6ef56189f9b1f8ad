-- `kagutin_bands_look_up` meets its contract. Assumes nothing.
use mathlib.Core.Path.{refl}
use Rattle.model.specs.Bytes.{zeros}
use Rattle.unit_bands_table.specs.Judge.{depths}
use Rattle.unit_bands.proofs.CallLaws.{look-deep, look-unread, look-read}
use borrow.Author.Rules.{rules}
use Rattle.unit_bands.proofs.kagutin_bands_look_up.Statement.{statement}
use Rattle.unit_bands.proofs.kagutin_bands_look_up.Tie as tie

refused-requires : tie.Need-refused-requires
refused-requires c κs = search rules

returns : tie.Need-returns-then-mm-ge-DEPTHS
unfolding depths
returns c = look-deep _ _ _ c.if-mm-ge-DEPTHS.true c.refused.ensures

slice-aggregate-kagutin-fetch : tie.Need-slice_bounds-kagutin_fetch-end
slice-aggregate-kagutin-fetch c = search rules

kagutin-fetch-requires : tie.Need-kagutin_fetch-read-requires
kagutin-fetch-requires c κs = search rules

refused-requires-2 : tie.Need-refused-requires-then-read-ne0
refused-requires-2 c κs = search rules

returns-2 : tie.Need-returns-then-read-ne0
unfolding zeros depths
returns-2 c =
    look-unread _ _ _ c.if-mm-ge-DEPTHS.false _ _ _ _ _ refl c.kagutin_fetch-read.ensures c.if-read-ne0.true c.refused-then-read-ne0.ensures

slice-aggregate-look-up : tie.Need-slice_bounds-look_up-end
slice-aggregate-look-up c = search rules

look-up-requires : tie.Need-look_up-found-requires
look-up-requires c κs = search rules

returns-3 : tie.Need-returns
unfolding zeros depths
returns-3 c =
    look-read _ _ _ c.if-mm-ge-DEPTHS.false _ _ _ _ _ refl c.kagutin_fetch-read.ensures c.if-read-ne0.false c.look_up-found.ensures

pub kagutin_bands_look_up_spec : {M : Type 1} → statement M
kagutin_bands_look_up_spec =
    tie.close
    (tie.spec
    refused-requires
    returns
    slice-aggregate-kagutin-fetch
    kagutin-fetch-requires
    refused-requires-2
    returns-2
    slice-aggregate-look-up
    look-up-requires
    returns-3)
