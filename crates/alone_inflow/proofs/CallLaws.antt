-- The call's outcome, question by question. Assumes nothing.
use mathlib.Core.Path.{◌≡◌}
use Prim.Native.Nat.{ℕ, ◌≤◌, ◌<◌}
use borrow.Author.Tests.{le-leb, lt-leb}
use lib.IntN.{ℤ, pos}
use Rattle.alone_inflow.specs.Inflow.{inflow, Given, least, most, accepted, gives, refused, bound_inflow}

pub refusal : {code : ℕ} {low high : ℤ} → (code ≡ 23) × (low ≡ pos 0) × (high ≡ pos 0) → gives code low high ≡ refused
unfolding refused
refusal h = rw (h.0, h.1, h.2)

module _ (g : Given) where
  pub refused_none : g.area < 1 → bound_inflow g ≡ refused
  unfolding bound_inflow accepted
  refused_none h = rw (lt-leb 1 g.area h)

  module _ (some : 1 ≤ g.area) where
    pub refused-large : 1000000 < g.area → bound_inflow g ≡ refused
    unfolding bound_inflow accepted
    refused-large h = rw (le-leb 1 g.area some, lt-leb g.area 1000000 h)

    module _ (limited : g.area ≤ 1000000) where
      pub refused-before : g.high_before < g.low_before → bound_inflow g ≡ refused
      unfolding bound_inflow accepted
      refused-before h = rw (le-leb 1 g.area some, le-leb g.area 1000000 limited, lt-leb g.low_before g.high_before h)

      module _ (before : g.low_before ≤ g.high_before) where
        pub refused-after : g.high_after < g.low_after → bound_inflow g ≡ refused
        unfolding bound_inflow accepted
        refused-after h =
            rw (le-leb 1 g.area some, le-leb g.area 1000000 limited, le-leb g.low_before g.high_before before, lt-leb g.low_after g.high_after h)

        module _ (after : g.low_after ≤ g.high_after) where
          pub refused-pumped : g.high_pumped < g.low_pumped → bound_inflow g ≡ refused
          unfolding bound_inflow accepted
          refused-pumped h =
              rw (
                le-leb 1 g.area some,
                le-leb g.area 1000000 limited,
                le-leb g.low_before g.high_before before,
                le-leb g.low_after g.high_after after,
                lt-leb g.low_pumped g.high_pumped h,
              )

          pub done-inflow : g.low_pumped ≤ g.high_pumped → bound_inflow g ≡ gives 0 (least g) (most g)
          unfolding bound_inflow accepted
          done-inflow h =
              rw (
                le-leb 1 g.area some,
                le-leb g.area 1000000 limited,
                le-leb g.low_before g.high_before before,
                le-leb g.low_after g.high_after after,
                le-leb g.low_pumped g.high_pumped h,
              )

pub completion : (g : Given) {low high : ℤ} → low ≡ inflow g.area g.high_before g.low_after g.low_pumped → high ≡ inflow g.area g.low_before g.high_after g.high_pumped
    → bound_inflow g ≡ gives 0 (least g) (most g) → gives 0 low high ≡ bound_inflow g
unfolding least most
completion g e f d = rw (e, f, d)
