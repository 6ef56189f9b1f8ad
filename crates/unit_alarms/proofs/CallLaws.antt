-- The calls on alarms, question by question. Assumes nothing.
use mathlib.Core.Path.{◌≡◌, ap, ◌∙◌}
use mathlib.Core.Bool.{Bool, true, false}
use mathlib.Core.List.{List, []}
use mathlib.Core.Logic.{◌≢◌}
use Prim.Native.Nat.{ℕ, ◌*◌}
use borrow.Author.Tests.{ne_eqb}
use Rattle.model.specs.Bytes.{zeros}
use Rattle.call_ask.specs.Lent.{lent_all}
use Rattle.acts.specs.Many.{fetch_call}
use Rattle.unit_events.specs.Homes.{alarm_home}
use Rattle.unit_shared.specs.Unit.{Lent, UnitOutcome, leaves, as_judged, fetched, event}
use Rattle.unit_shared.proofs.UnitLaws.{refusal, read_as, fetching}
use Rattle.unit_alarms_list.specs.Alarm.{class_known}
use Rattle.unit_alarms_list.specs.declared.Alarm.{Alarm}
use Rattle.unit_alarms_list.specs.OpenAlarms.{gravest_kept}
use Rattle.unit_alarms_list.specs.Events.{Event, arrival, clearing, applied, leaves as output_left}
use Rattle.unit_alarms.specs.Calls.{judge, arrive_call, clear_call, tells, alarm_tells, gravest_in, gravest_call}

-- what the blocks answer an event, and the new blocks in a buffer of zeros
pub judging : (e : Event) (blocks given : List ℕ) {answer : ℕ} {next : List ℕ} → given ≡ zeros 384 → output_left answer next ≡ applied blocks given e
    → as_judged answer next ≡ judge e blocks
unfolding judge
judging e blocks given z q = ap (λ o. as_judged o.code o.output) (q ∙ ap (λ b. applied blocks b e) z)

module _ (l : Lent) (writer : ℕ) where
  -- ---- events

  module _ (a : Alarm) (b : Bool) (k : b ≡ class_known a.class) where
    pub arrival-unknown : b ≡ false → {c f s : ℕ} → c ≡ 24 → f ≡ 0 → s ≡ 0
        → leaves c f s l.log l.area l.state l.newest l.batch ≡ arrive_call l writer a
    unfolding arrive_call
    arrival-unknown n ec ef es = rw (← k, n) (refusal l 24 0 ec ef es)

    pub arrival-known : b ≡ true → {x : UnitOutcome} → x ≡ event l writer alarm_home 6 (judge (arrival a)) → x ≡ arrive_call l writer a
    unfolding arrive_call
    arrival-known n q = rw (← k, n) q

  pub any-clearing : (identity : ℕ) {x : UnitOutcome} → x ≡ event l writer alarm_home 6 (judge (clearing identity)) → x ≡ clear_call l writer identity
  unfolding clear_call
  any-clearing identity q = q

  -- ---- the gravest, from what the fetch gives

  module _
      (code figure size : ℕ)
      (given blocks : List ℕ)
      (z : given ≡ zeros (64 * 1))
      (e : read_as l code figure size blocks ≡ fetch_call (lent_all l.log l.area l.state l.newest given [] writer alarm_home))
    where
      fetch : read_as l code figure size blocks ≡ fetched l writer alarm_home 1
      fetch = fetching l writer alarm_home 1 code figure size given blocks z e

      pub gravest-unread : code ≢ 0 → tells code 0 0 0 ≡ gravest_call l writer
      unfolding gravest_call gravest_in
      gravest-unread n = rw (← fetch, ne_eqb code 0 n)

      pub gravest-read : code ≡ 0 → {a : Alarm} → a ≡ gravest_kept blocks → tells 0 a.identity a.class a.second ≡ gravest_call l writer
      unfolding gravest_call gravest_in alarm_tells
      gravest-read n q = rw (← fetch, n, q)
