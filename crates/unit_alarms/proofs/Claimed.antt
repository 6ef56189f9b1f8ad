-- What the request promises of histories. Assumes nothing.
use Prim.Native.Nat.{ℕ}
use mathlib.Core.Path.{◌≡◌, refl, sym, ap, ◌∙◌}
use mathlib.Core.Bool.{Bool, true, false}
use mathlib.Core.List.{List, [], ◌∷◌, ◌++◌}
use mathlib.Core.Logic.{◌≢◌}
use native.Mathlib.Omega.{arith}
use lib.ListN.{length}
use Rattle.model.specs.Bytes.{zeros}
use Rattle.unit_events.specs.Homes.{alarm_home}
use Rattle.unit_shared.specs.Unit.{Lent, untouched, fetched, revised, transacted, event}
use Rattle.unit_shared.specs.Shown.{Shown}
use Rattle.unit_shared.proofs.ShownLaws.{event-refuses, event-stores}
use Rattle.unit_alarms_list.specs.Alarm.{class_known}
use Rattle.unit_alarms_list.specs.declared.Alarm.{Alarm}
use Rattle.unit_alarms_list.specs.OpenAlarms.{gravest, told, alarms_of}
use Rattle.unit_alarms_list.specs.Events.{Event, arrival, clearing, answer, after, settled, applied}
use Rattle.unit_alarms_list.specs.Guarantees.{open_by, answer_by, Typed, Says, Represents}
use Rattle.unit_alarms_list.proofs.Guaranteed.{says, grown, kept-none, readable}
use Rattle.unit_alarms.specs.Calls.{judge, arrive_call, clear_call, alarm_tells, gravest_in, gravest_call}
use Rattle.unit_alarms.specs.Claims.{Recording, event_call, Claim, FirstShown, Claimed}

answers : (es : List Event) (blocks : List ℕ) (e : Event) → Represents es blocks → Typed e → (judge e blocks).code ≡ answer_by es e
unfolding judge
answers es blocks e k t = (grown k e (zeros 384) t).code

grows : (es : List Event) (blocks : List ℕ) (e : Event) → Represents es blocks → Typed e → (judge e blocks).code ≡ 0
    → Represents (es ++ (e ∷ [])) (judge e blocks).blocks
unfolding judge
grows es blocks e k t z = (grown k e (zeros 384) t).kept z

size : (blocks : List ℕ) (e : Event) → (judge e blocks).code ≡ 0 → length (judge e blocks).blocks ≡ 384
unfolding judge applied settled
size blocks e z = rw z (readable.size (after (alarms_of blocks) e))

pub recording : Recording
recording = record { none = kept-none; answers = answers; grows = grows; size = size }

-- a class out of range is answered before the store's questions, and by every list alike
unranged : (l : Lent) (writer : ℕ) (es : List Event) (a : Alarm) → class_known a.class ≡ false
    → (answer_by es (arrival a) ≡ 24) × (arrive_call l writer a ≡ untouched l 24 0)
unfolding answer_by answer arrive_call
unranged l writer es a e = (rw e, rw e)

module _ (l : Lent) (writer : ℕ) (es : List Event) (blocks : List ℕ) (k : Represents es blocks) (s : Shown l writer alarm_home 6 blocks) (f : FirstShown l writer blocks) where
  gravest-by : (fetched l writer alarm_home 1).code ≡ 0 → gravest_call l writer ≡ alarm_tells (told (gravest (open_by es)))
  unfolding gravest_call gravest_in
  gravest-by z = rw (z, f z, readable.block blocks, k.kept)

  -- any other event's call is that of all units
  ranged : (e : Event) → answer_by es e ≢ 24 → event_call l writer e ≡ event l writer alarm_home 6 (judge e)
  unfolding event_call clear_call arrive_call
  ranged (arrival a) n = go (class_known a.class) refl
    where
      go : (b : Bool) → class_known a.class ≡ b → event_call l writer (arrival a) ≡ event l writer alarm_home 6 (judge (arrival a))
      go true e = rw e
      go false e = absurd (n (unranged l writer es a e).0)
  ranged (clearing i) n = refl

  refused-by : (e : Event) → Typed e → (revised l writer alarm_home 6).code ≡ 0 → answer_by es e ≢ 0 → event_call l writer e ≡ untouched l (answer_by es e) 0
  unfolding event_call clear_call arrive_call
  refused-by (arrival a) t z h = go (class_known a.class) refl
    where
      go : (c : Bool) → class_known a.class ≡ c → event_call l writer (arrival a) ≡ untouched l (answer_by es (arrival a)) 0
      go true e =
          rw e (event-refuses l writer alarm_home 6 (judge (arrival a)) blocks s z (answer_by es (arrival a)) (answers es blocks (arrival a) k t) h)
      go false e = let u = unranged l writer es a e in u.1 ∙ ap (λ (c : ℕ). untouched l c 0) (sym u.0)
  refused-by (clearing i) t z h =
      event-refuses l writer alarm_home 6 (judge (clearing i)) blocks s z (answer_by es (clearing i)) (answers es blocks (clearing i) k t) h

  stored-by : (e : Event) → Typed e → (revised l writer alarm_home 6).code ≡ 0 → answer_by es e ≡ 0
      → event_call l writer e ≡ transacted l writer alarm_home (judge e blocks).blocks
  stored-by e t z h = ranged e (λ q. apart (sym h ∙ q)) ∙ event-stores l writer alarm_home 6 (judge e) blocks s z (answers es blocks e k t ∙ h)
    where
      apart : ◌≡◌ {A = ℕ} 0 24 → ⊥
      apart q = omega arith

  says-by : (e : Event) → Says (open_by es) e (answer_by es e)
  unfolding answer_by
  says-by e = says (open_by es) e

  pub claim : Claim l writer es blocks
  claim = record { tells = gravest-by; says = says-by; refused = refused-by; stored = stored-by }

pub claimed : Claimed
claimed = claim
