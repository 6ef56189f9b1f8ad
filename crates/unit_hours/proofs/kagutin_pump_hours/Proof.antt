-- `kagutin_pump_hours` meets its contract. Assumes nothing.
use mathlib.Core.Path.{refl}
use native.Mathlib.Omega.{arith}
use Rattle.model.specs.Bytes.{zeros}
use Rattle.unit_hours.proofs.CallLaws.{hours-unknown, hours-unread, hours-read}
use borrow.Author.Rules.{rules}
use Rattle.unit_hours.proofs.kagutin_pump_hours.Statement.{statement}
use Rattle.unit_hours.proofs.kagutin_pump_hours.Tie as tie

no-hours-requires : tie.Need-no_hours-requires
no-hours-requires c κs = search rules

returns : tie.Need-returns-then-pump-gt-LAST_PUMP
returns c = hours-unknown _ _ _ c.if-pump-gt-LAST_PUMP.true c.no_hours.ensures

slice-aggregate-kagutin-fetch : tie.Need-slice_bounds-kagutin_fetch-end
slice-aggregate-kagutin-fetch c = search rules

add-kagutin-fetch : tie.Need-overflow_add-pump
add-kagutin-fetch c = search rules

kagutin-fetch-requires : tie.Need-kagutin_fetch-read-requires
kagutin-fetch-requires c κs = search rules

no-hours-requires-2 : tie.Need-no_hours-requires-then-read-ne0
no-hours-requires-2 c κs = search rules

returns-2 : tie.Need-returns-then-read-ne0
unfolding zeros
returns-2 c =
    hours-unread _ _ _ (omega (arith, c.if-pump-gt-LAST_PUMP.false)) _ _ _ _ _ refl c.kagutin_fetch-read.ensures c.if-read-ne0.true
    c.no_hours-then-read-ne0.ensures

slice-aggregate-read : tie.Need-slice_bounds-read-end
slice-aggregate-read c = search rules

read-requires : tie.Need-read-p-requires
read-requires c κs = search rules

returns-3 : tie.Need-returns
unfolding zeros
returns-3 c =
    hours-read _ _ _ (omega (arith, c.if-pump-gt-LAST_PUMP.false)) _ _ _ _ _ refl c.kagutin_fetch-read.ensures c.if-read-ne0.false c.read-p.ensures.0

pub kagutin_pump_hours_spec : {M : Type 1} → statement M
kagutin_pump_hours_spec =
    tie.close
    (tie.spec
    no-hours-requires
    returns
    slice-aggregate-kagutin-fetch
    add-kagutin-fetch
    kagutin-fetch-requires
    no-hours-requires-2
    returns-2
    slice-aggregate-read
    read-requires
    returns-3)
