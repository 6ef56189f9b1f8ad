-- The homes of the requests are apart. Assumes nothing.
use mathlib.Core.Logic.{inr}
use native.Mathlib.Omega.{arith}
use Rattle.unit_events.specs.Homes.{HomesApart}

pub homes-apart : HomesApart
homes-apart =
    record {
      apart = ((inr (omega arith), (inr (omega arith), (inr (omega arith), tt))), ((inr (omega arith), (inr (omega arith), tt)), ((inr (omega arith), tt), (tt, tt))));
      above = (omega arith, omega arith, omega arith, omega arith);
      pumps = λ pump l. (omega arith, omega arith);
    }
