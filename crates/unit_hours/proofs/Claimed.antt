-- What the request promises of histories. Assumes nothing.
use Prim.Native.Nat.{ℕ, ◌≤◌, ◌<◌}
use mathlib.Core.Path.{◌≡◌, sym, ◌∙◌}
use mathlib.Core.List.{List, [], ◌∷◌, ◌++◌}
use native.Mathlib.Omega.{arith}
use borrow.Author.Tests.{le-leb}
use lib.ListN.{length}
use Rattle.unit_events.specs.Homes.{pump_home}
use Rattle.unit_shared.specs.Unit.{Lent, fetched}
use Rattle.unit_shared.specs.Shown.{Shown}
use Rattle.unit_shared.proofs.ShownLaws.{event-refuses, event-stores}
use Rattle.unit_events.specs.Offered.{joined}
use Rattle.unit_hours_book.specs.Pump.{pump_of}
use Rattle.unit_hours_book.specs.Events.{Event, after, settled, applied}
use Rattle.unit_hours_book.specs.Services.{due}
use Rattle.unit_hours_book.specs.Guarantees.{starts, total, answer_by, held_with, Timed, Represents}
use Rattle.unit_hours_book.proofs.Guaranteed.{grown, kept-none, readable}
use Rattle.unit_hours.specs.Calls.{known, judge, hours_told, pump_tells, due_tells, hours_in, hours_call, services_of, services_call}
use Rattle.unit_hours.specs.Claims.{Recording, Claim, Claimed}
use Rattle.unit_hours.proofs.CallLaws.{event-known}

answers : (es : List Event) (block : List ℕ) (e : Event) → Represents es block → Timed e → (judge e block).code ≡ answer_by es e
unfolding judge
answers es block e k t = (grown k e t).code

grows : (es : List Event) (block : List ℕ) (e : Event) → Represents es block → Timed e → (judge e block).code ≡ 0 → Represents (es ++ (e ∷ [])) (judge e block).blocks
unfolding judge joined held_with
grows es block e k t z =
    let a : answer_by es e ≡ 0 = sym (answers es block e k t) ∙ z in
    rw a at (grown k e t).kept

size : (block : List ℕ) (e : Event) → (judge e block).code ≡ 0 → length (judge e block).blocks ≡ 64
unfolding judge applied settled
size block e z = rw z (readable.size (after (pump_of block) e))

pub recording : Recording
recording = record { none = kept-none; answers = answers; grows = grows; size = size }

module _ (l : Lent) (writer pump : ℕ) (p : pump ≤ 7) (es : List Event) (block : List ℕ) (k : Represents es block) (s : Shown l writer (pump_home pump) 1 block) where
  hours-by : (fetched l writer (pump_home pump) 1).code ≡ 0 → hours_call l writer pump ≡ hours_told 0 (starts es) (total es)
  unfolding hours_call hours_in known pump_tells
  hours-by z = rw (le-leb pump 7 p, z, s.fetched z, k.says.starts, k.says.total)

  services-by : (interval : ℕ) → 0 < interval → (fetched l writer (pump_home pump) 1).code ≡ 0
      → services_call l writer pump interval ≡ due_tells (due (total es) interval)
  unfolding services_call services_of
  services-by interval i z = rw (le-leb 1 interval (omega arith), hours-by z)

  pub claim : Claim l writer pump es block
  claim =
      record {
        hours = hours-by;
        services = services-by;
        refused = λ e t z h. sym (event-known l writer pump e p (sym (event-refuses l writer (pump_home pump) 1 (judge e) block s z (answer_by es e) (answers es block e k t) h)));
        stored = λ e t z h. sym (event-known l writer pump e p (sym (event-stores l writer (pump_home pump) 1 (judge e) block s z (answers es block e k t ∙ h))));
      }

pub claimed : Claimed
claimed = claim
