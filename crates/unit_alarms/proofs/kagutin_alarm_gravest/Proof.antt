-- `kagutin_alarm_gravest` meets its contract. Assumes nothing.
use mathlib.Core.Path.{refl}
use Rattle.model.specs.Bytes.{zeros}
use Rattle.unit_alarms.proofs.CallLaws.{gravest-unread, gravest-read}
use borrow.Author.Rules.{rules}
use Rattle.unit_alarms.proofs.kagutin_alarm_gravest.Statement.{statement}
use Rattle.unit_alarms.proofs.kagutin_alarm_gravest.Tie as tie

slice-aggregate-kagutin-fetch : tie.Need-slice_bounds-kagutin_fetch-end
slice-aggregate-kagutin-fetch c = search rules

kagutin-fetch-requires : tie.Need-kagutin_fetch-read-requires
kagutin-fetch-requires c κs = search rules

returns : tie.Need-returns-then-read-ne0
unfolding zeros
returns c = gravest-unread _ _ _ _ _ _ _ refl c.kagutin_fetch-read.ensures c.if-read-ne0.true

slice-aggregate-gravest : tie.Need-slice_bounds-gravest-end
slice-aggregate-gravest c = search rules

gravest-requires : tie.Need-gravest-a-requires
gravest-requires c κs = search rules

returns-2 : tie.Need-returns
unfolding zeros
returns-2 c =
    gravest-read _ _ _ _ _ _ _ refl c.kagutin_fetch-read.ensures c.if-read-ne0.false c.gravest-a.ensures

pub kagutin_alarm_gravest_spec : {M : Type 1} → statement M
kagutin_alarm_gravest_spec =
    tie.close
    (tie.spec
    slice-aggregate-kagutin-fetch
    kagutin-fetch-requires
    returns
    slice-aggregate-gravest
    gravest-requires
    returns-2)
