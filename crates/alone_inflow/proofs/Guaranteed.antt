-- What the definitions promise, for all numbers.
use mathlib.Core.Path.{◌≡◌, refl, sym, ap}
use mathlib.Core.Bool.{Bool, true, false}
use Prim.Native.Nat.{◌^◌, ◌≤◌, ◌<◌}
use native.Mathlib.Omega.{arith}
use borrow.Author.Tests.{leb-true, leb-false}
use lib.Dec.{leb}
use lib.Signed.{mag}
use Rattle.alone_inflow.specs.Inflow.{inflow, Given, least, most, accepted, Outcome, gives, refused, bound_inflow}
use Rattle.alone_inflow.specs.Guarantees.{Asked, Done, Refused, Typed, Guarantee, Extremes}
use Rattle.alone_inflow.proofs.InflowLaws.{inflow-mono, inflow-fits}
use Rattle.alone_inflow.proofs.CallLaws.{refused_none, refused-large, refused-before, refused-after, refused-pumped, done-inflow}

module _ (g : Given) where
  asked-gives : Asked g → bound_inflow g ≡ gives 0 (least g) (most g)
  asked-gives a = done-inflow g a.some a.limited a.before a.after a.pumped

  least-is : Asked g → (bound_inflow g).least ≡ inflow g.area g.high_before g.low_after g.low_pumped
  unfolding least
  least-is a = ap (λ (o : Outcome). o.least) (asked-gives a)

  most-is : Asked g → (bound_inflow g).most ≡ inflow g.area g.low_before g.high_after g.high_pumped
  unfolding most
  most-is a = ap (λ (o : Outcome). o.most) (asked-gives a)

  asked-done : Asked g → Done g
  asked-done a =
      let b = a.before in
      let f = a.after in
      let p = a.pumped in
      record {
        code = ap (λ (o : Outcome). o.code) (asked-gives a);
        below = λ before after pumped c. rw (least-is a) (inflow-mono g.area g.high_before g.low_after g.low_pumped before after pumped c.high_before c.low_after c.low_pumped);
        above = λ before after pumped c. rw (most-is a) (inflow-mono g.area before after pumped g.low_before g.high_after g.high_pumped c.low_before c.high_after c.high_pumped);
        least_choice = record { low_before = b; high_before = omega arith; low_after = omega arith; high_after = f; low_pumped = omega arith; high_pumped = p };
        least_reached = sym (least-is a);
        most_choice = record { low_before = omega arith; high_before = b; low_after = f; high_after = omega arith; low_pumped = p; high_pumped = omega arith };
        most_reached = sym (most-is a);
      }

  asked-fits : Asked g → Typed g → (mag (bound_inflow g).least < 2 ^ 63) × (mag (bound_inflow g).most < 2 ^ 63)
  asked-fits a t =
      let b = a.before in
      let f = a.after in
      let p = a.pumped in (
        rw (least-is a) (inflow-fits g.area g.high_before g.low_after g.low_pumped a.limited t.before (omega arith) (omega arith)),
        rw (most-is a) (inflow-fits g.area g.low_before g.high_after g.high_pumped a.limited (omega arith) t.after t.pumped),
      )

  asked-refused : (Asked g → ⊥) → bound_inflow g ≡ refused
  asked-refused n = one (leb 1 g.area) refl
    where
      five : 1 ≤ g.area → g.area ≤ 1000000 → g.low_before ≤ g.high_before → g.low_after ≤ g.high_after → (t : Bool) → leb g.low_pumped g.high_pumped ≡ t → bound_inflow g ≡ refused
      five a b c d true e = absurd (n (record { some = a; limited = b; before = c; after = d; pumped = leb-true g.low_pumped g.high_pumped e }))
      five a b c d false e = refused-pumped g a b c d (leb-false g.low_pumped g.high_pumped e)

      four : 1 ≤ g.area → g.area ≤ 1000000 → g.low_before ≤ g.high_before → (t : Bool) → leb g.low_after g.high_after ≡ t → bound_inflow g ≡ refused
      four a b c true e = five a b c (leb-true g.low_after g.high_after e) (leb g.low_pumped g.high_pumped) refl
      four a b c false e = refused-after g a b c (leb-false g.low_after g.high_after e)

      three : 1 ≤ g.area → g.area ≤ 1000000 → (t : Bool) → leb g.low_before g.high_before ≡ t → bound_inflow g ≡ refused
      three a b true e = four a b (leb-true g.low_before g.high_before e) (leb g.low_after g.high_after) refl
      three a b false e = refused-before g a b (leb-false g.low_before g.high_before e)

      two : 1 ≤ g.area → (t : Bool) → leb g.area 1000000 ≡ t → bound_inflow g ≡ refused
      two a true e = three a (leb-true g.area 1000000 e) (leb g.low_before g.high_before) refl
      two a false e = refused-large g a (leb-false g.area 1000000 e)

      one : (t : Bool) → leb 1 g.area ≡ t → bound_inflow g ≡ refused
      one true e = two (leb-true 1 g.area e) (leb g.area 1000000) refl
      one false e = refused_none g (leb-false 1 g.area e)

  refused-fields : bound_inflow g ≡ refused → Refused g
  unfolding refused
  refused-fields e = record { code = ap (λ (o : Outcome). o.code) e; least = ap (λ (o : Outcome). o.least) e; most = ap (λ (o : Outcome). o.most) e }

  pub promised : Guarantee g
  promised = record { done = asked-done; refused = λ n. refused-fields (asked-refused n); fits = asked-fits }

pub extremes : Extremes
unfolding bound_inflow accepted least most inflow
extremes = record { least = refl; most = refl }
