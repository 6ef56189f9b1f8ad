-- What the machine keeps to, whatever is asked: its definitions held to what the object promises.
use Rattle.std.specs.Prelude.{ℕ, ◌≤◌, ◌<◌, ◌≡◌, true, List, ◌≢◌, length}
use Rattle.model.specs.declared.State.{State}
use Rattle.model.specs.declared.Holder.{Holder}
use Rattle.object_machine.specs.Control.{Control, known, control_of}
use Rattle.object_machine.specs.Moves.{done, refuses}
use Rattle.object_machine.specs.Next.{Lent, goes, asked, ask_call}

-- After a failure every operation but an opening answers 65 with the driver's error, and the control block stays as it is. [S-88]
abbrev pub FailedStays : Type 0
FailedStays =
    (s : List ℕ) (stage writer home n : ℕ) → length s ≡ 256 → known (control_of s) ≡ true → (control_of s).stage ≡ 0 → (control_of s).condition ≡ 3
    → stage ≢ 19 → ask_call s stage writer home n ≡ asked (done 65 (control_of s).error) s

-- While records of a batch are left no operation is over, unless the batch cannot be read: 65. [S-88]
abbrev pub NothingLeft : Type 0
NothingLeft = (l : Lent) (c : Control) → c.at < c.size → (goes l c 0).moved.turn.kind ≡ 0 → (goes l c 0).moved.turn.code ≡ 65

-- Room is made at most once in an operation: the next refusal of its own call ends it. [S-88]
abbrev pub RoomOnce : Type 0
RoomOnce =
    (c : Control) (code groups : ℕ) (st : State) (h : Holder) → c.stage ≤ 5 → c.tried ≡ 1
    → ((refuses c code groups st h).turn.kind ≡ 0) × ((refuses c code groups st h).turn.code ≡ code)
