-- `kagutin_pump_services` meets its contract: the interval, and the hours. Assumes nothing.
use native.Mathlib.Omega.{arith}
use Rattle.unit_hours.proofs.CallLaws.{services-none, services-unread, services-read}
use borrow.Author.Rules.{rules}
use Rattle.unit_hours.proofs.kagutin_pump_services.Statement.{statement}
use Rattle.unit_hours.proofs.kagutin_pump_services.Tie as tie

no-services-requires : tie.Need-no_services-requires
no-services-requires c κs = search rules

returns : tie.Need-returns-then-interval-eq0
returns c = services-none _ _ _ _ c.if-interval-eq0.true c.no_services.ensures

kagutin-pump-hours-requires : tie.Need-kagutin_pump_hours-hours-requires
kagutin-pump-hours-requires c κs = search rules

no-services-requires-2 : tie.Need-no_services-requires-then-hours-ne0
no-services-requires-2 c κs = search rules

returns-2 : tie.Need-returns-then-hours-ne0
returns-2 c =
    services-unread _ _ _ _ (omega (arith, c.if-interval-eq0.false)) _ c.kagutin_pump_hours-hours.ensures c.if-hours-ne0.true c.no_services-then-hours-ne0.ensures

services-requires : tie.Need-services-d-requires
services-requires c κs = search rules

returns-3 : tie.Need-returns
returns-3 c =
    services-read _ _ _ _ (omega (arith, c.if-interval-eq0.false)) _ c.kagutin_pump_hours-hours.ensures c.if-hours-ne0.false c.services-d.ensures

pub kagutin_pump_services_spec : {M : Type 1} → statement M
kagutin_pump_services_spec =
    tie.close
    (tie.spec
    no-services-requires
    returns
    kagutin-pump-hours-requires
    no-services-requires-2
    returns-2
    services-requires
    returns-3)
