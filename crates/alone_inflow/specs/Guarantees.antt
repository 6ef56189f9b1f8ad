-- What the definitions promise, read off the request and not off their text.
use Rattle.std.specs.Prelude.{ℕ, ◌^◌, ◌≤◌, ◌<◌, ◌≡◌, pos, negsuc, ◌≤ℤ◌}
use Rattle.std.specs.Int.Signed.{mag}
use Rattle.alone_inflow.specs.Inflow.{inflow, Given, given, bound_inflow}

-- what is asked of all that is given
pub record Asked (g : Given) : Type 0 where
  pub some : 0 < g.area
  pub limited : g.area ≤ 1000000
  pub before : g.low_before ≤ g.high_before
  pub after : g.low_after ≤ g.high_after
  pub pumped : g.low_pumped ≤ g.high_pumped

-- "every choice of whole values inside the ranges"
pub record Choice (g : Given) (before after pumped : ℕ) : Type 0 where
  pub low_before : g.low_before ≤ before
  pub high_before : before ≤ g.high_before
  pub low_after : g.low_after ≤ after
  pub high_after : after ≤ g.high_after
  pub low_pumped : g.low_pumped ≤ pumped
  pub high_pumped : pumped ≤ g.high_pumped

-- "lies between the two, and both ends are reached": by the named choices
pub record Done (g : Given) : Type 0 where
  pub code : (bound_inflow g).code ≡ 0
  pub below : (before after pumped : ℕ) → Choice g before after pumped → (bound_inflow g).least ≤ℤ inflow g.area before after pumped
  pub above : (before after pumped : ℕ) → Choice g before after pumped → inflow g.area before after pumped ≤ℤ (bound_inflow g).most
  pub least_choice : Choice g g.high_before g.low_after g.low_pumped
  pub least_reached : inflow g.area g.high_before g.low_after g.low_pumped ≡ (bound_inflow g).least
  pub most_choice : Choice g g.low_before g.high_after g.high_pumped
  pub most_reached : inflow g.area g.low_before g.high_after g.high_pumped ≡ (bound_inflow g).most

pub record Refused (g : Given) : Type 0 where
  pub code : (bound_inflow g).code ≡ 23
  pub least : (bound_inflow g).least ≡ pos 0
  pub most : (bound_inflow g).most ≡ pos 0

-- depths of 16 bits and volumes of 32
pub record Typed (g : Given) : Type 0 where
  pub before : g.high_before < 2 ^ 16
  pub after : g.high_after < 2 ^ 16
  pub pumped : g.high_pumped < 2 ^ 32

-- for all numbers: done if what is asked holds, else 23; the results fit 64 bits in two's complement [S-72]
pub record Guarantee (g : Given) : Type 0 where
  pub done : Asked g → Done g
  pub refused : (Asked g → ⊥) → Refused g
  pub fits : Asked g → Typed g → (mag (bound_inflow g).least < 2 ^ 63) × (mag (bound_inflow g).most < 2 ^ 63)

-- the widest ranges: area 1,000,000, depths 0 and 65,535, pumped 0 and 2^32 − 1
pub record Extremes : Type 0 where
  pub least : (bound_inflow (given 1000000 0 65535 0 65535 0 4294967295)).least ≡ negsuc 65534999999
  pub most : (bound_inflow (given 1000000 0 65535 0 65535 0 4294967295)).most ≡ pos 69829967295
