-- Events over the homes of a unit of the store. An event's call reads the homes for its writer, judges the event by the blocks read and, where they
-- answer 0, stores what the event makes of them, all homes in one transaction. "events .. asks the store's questions once, in 01's order, for all of it"
use Rattle.std.specs.Prelude.{ℕ, ◌+◌, ◌*◌, ◌/◌, ◌≤◌, ◌≡◌, true, cond, List, [], ◌∷◌, ◌++◌, eqb, length, take}
use Rattle.std.proofs.Math.Option.{Option, none, some}
use Rattle.model.specs.Bytes.{part, zeros}
use Rattle.model.specs.Calls.{Outcome}
use Rattle.model.specs.Book.{homes_after}
use Rattle.model.specs.History.{Event, call, crash, World, Formatting, after_format, ends}
use Rattle.acts.specs.Units.{Act, plain, transacts, fetches, revises, transact_ends, fetch_ends, revise_ends, acted, ActAllowed, relabel, Apart, SparedByEvent}
use Rattle.unit_events.specs.Offered.{held_after, Accepted}

-- an act of the history, an event that a writer offers to the unit, with its batch buffer, or one that is done whatever the blocks hold and reads
-- nothing ("a table stores only")
pub data Step (E : Type 0) : Type 0 where
  acts : Act → Step E
  offers : (writer : ℕ) (event : E) (batch : List ℕ) → Step E
  sets : (writer : ℕ) (event : E) (batch : List ℕ) → Step E

-- a call that is done, and every crash
abbrev pub Happens : World → Event → Type 0
Happens w (call c) = (ends w c).code ≡ 0
Happens w (crash passed chosen) = Unit {0}

-- the first refusal of two
unfoldable pub first : ℕ → ℕ → ℕ
first a b = cond (eqb a 0) b a

-- the events that a list of notes has, the oldest first
unfoldable pub noted : {E : Type 0} → List (Option E) → List E
noted [] = []
noted (none ∷ ns) = noted ns
noted (some e ∷ ns) = e ∷ noted ns

abbrev pub AllFit : {E : Type 0} → (E → Type 0) → List E → Type 0
AllFit Fit [] = Unit {0}
AllFit Fit (e ∷ es) = Fit e × AllFit Fit es

unfoldable pub note_of : {E : Type 0} → Step E → Option E
note_of (acts a) = none
note_of (offers writer e batch) = some e
note_of (sets writer e batch) = some e

-- a unit of n homes from `home` on, what its blocks answer to an event, and what an event that is done makes of them
module _ {E : Type 0} (home n : ℕ) (judge : List ℕ → E → ℕ) (apply : List ℕ → E → List ℕ) where
  -- the read, its refusal or the blocks' answer, and the acts that an event's call stands for
  unfoldable pub read_for : World → ℕ → Outcome
  read_for w writer = revise_ends w writer home (zeros (64 * n))

  unfoldable pub event_answer : World → ℕ → E → ℕ
  event_answer w writer e = first (read_for w writer).code (judge (read_for w writer).block e)

  unfoldable pub storing : ℕ → List ℕ → E → List ℕ → List Act
  storing writer blocks e batch = transacts writer home (apply blocks e) batch ∷ []

  unfoldable pub acts_of : World → Step E → List Act
  acts_of w (acts a) = a ∷ []
  acts_of w (offers writer e batch) =
      revises writer home (zeros (64 * n)) ∷ cond (eqb (event_answer w writer e) 0) (storing writer (read_for w writer).block e batch) []
  acts_of w (sets writer e batch) = storing writer (zeros (64 * n)) e batch

  -- what the call answers: the read's refusal, the blocks' answer, the transaction's refusal
  unfoldable pub answered : World → ℕ → E → List ℕ → ℕ
  answered w writer e batch = first (event_answer w writer e) (transact_ends w writer home (apply (read_for w writer).block e) batch).code

  unfoldable pub stepped : World → Step E → World
  stepped w s = acted w (acts_of w s)

  unfoldable pub ran : World → List (Step E) → World
  ran w [] = w
  ran w (s ∷ ss) = ran (stepped w s) ss

  -- beside the book's list of commits, which of them is an event's: "its commit carries the event as a label"
  unfoldable pub notes_from : World → List (Option E) → List (Step E) → List (Option E)
  notes_from w ns [] = ns
  notes_from w ns (s ∷ ss) = notes_from (stepped w s) (relabel (stepped w s) ns (note_of s)) ss

  unfoldable pub notes : World → List (Step E) → List (Option E)
  notes w ss = notes_from w [] ss

  -- The premises: demand 3's; "Nobody else stores there", of the stores and transacts that are done: a refused one may name any home; every event meets
  -- what its C type says, and one that reads nothing is done by all blocks.
  abbrev pub StepAllowed : World → Step E → Type 0
  StepAllowed w (acts a) = ActAllowed w a
  StepAllowed w (offers writer e batch) = w.ready ≡ true
  StepAllowed w (sets writer e batch) = w.ready ≡ true

  abbrev pub AllStepsAllowed : World → List (Step E) → Type 0
  AllStepsAllowed w [] = Unit {0}
  AllStepsAllowed w (s ∷ ss) = StepAllowed w s × AllStepsAllowed (stepped w s) ss

  abbrev pub SparedByAct : World → Act → Type 0
  SparedByAct w (plain e) = Happens w e → SparedByEvent home n e
  SparedByAct w (transacts writer h blocks batch) = (transact_ends w writer h blocks batch).code ≡ 0 → Apart home n h (length blocks / 64)
  SparedByAct w (fetches writer h blocks) = Unit {0}
  SparedByAct w (revises writer h blocks) = Unit {0}

  abbrev pub Anyhow : E → Type 0
  Anyhow e = (b : List ℕ) → (judge b e ≡ 0) × (apply b e ≡ apply (zeros (64 * n)) e)

  abbrev pub SparedByStep : (E → Type 0) → World → Step E → Type 0
  SparedByStep Fit w (acts a) = SparedByAct w a
  SparedByStep Fit w (offers writer e batch) = Fit e
  SparedByStep Fit w (sets writer e batch) = Fit e × Anyhow e

  abbrev pub SparedBySteps : (E → Type 0) → World → List (Step E) → Type 0
  SparedBySteps Fit w [] = Unit {0}
  SparedBySteps Fit w (s ∷ ss) = SparedByStep Fit w s × SparedBySteps Fit (stepped w s) ss

  -- each event of a list is done by the blocks that the ones before it left
  abbrev pub JudgedFrom : List ℕ → List E → Type 0
  JudgedFrom b [] = Unit {0}
  JudgedFrom b (e ∷ es) = (judge b e ≡ 0) × JudgedFrom (apply b e) es

  -- For every front of the book's list, its events are a list of done ones, and the homes hold what these made of zeros; a done fetch gives what the
  -- events of the whole list made of them, a done fetch of some homes their part of it; and the next event is judged by what they made.
  pub record Folded (Fit : E → Type 0) (w : World) (ns : List (Option E)) : Type 0 where
    pub many : length ns ≡ length w.book.commits
    pub fit : (k : ℕ) → AllFit Fit (noted (take k ns))
    pub judged : (k : ℕ) → JudgedFrom (zeros (64 * n)) (noted (take k ns))
    pub held :
        (k : ℕ) → part (homes_after w.homes (take k w.book.commits)) (64 * home) (64 * n) ≡ held_after apply (zeros (64 * n)) (noted (take k ns))
    pub fetched :
        (writer : ℕ) (blocks : List ℕ) →
        w.ready ≡ true →
        length blocks ≡ 64 * n →
        (fetch_ends w writer home blocks).code ≡ 0 →
        (fetch_ends w writer home blocks).block ≡ held_after apply (zeros (64 * n)) (noted ns)
    pub partly :
        (writer from m : ℕ) (blocks : List ℕ) →
        w.ready ≡ true →
        from + m ≤ n →
        length blocks ≡ 64 * m →
        (fetch_ends w writer (home + from) blocks).code ≡ 0 →
        (fetch_ends w writer (home + from) blocks).block ≡ part (held_after apply (zeros (64 * n)) (noted ns)) (64 * from) (64 * m)
    pub read : (writer : ℕ) → w.ready ≡ true → (read_for w writer).code ≡ 0 → (read_for w writer).block ≡ held_after apply (zeros (64 * n)) (noted ns)

  -- what a done event makes of the blocks fills the homes
  abbrev pub Filling : Type 0
  Filling = (b : List ℕ) (e : E) → judge b e ≡ 0 → length (apply b e) ≡ 64 * n

  -- at the end of every history from a done format on, and so at every moment of it
  abbrev pub EventsFolded : (E → Type 0) → Type 0
  EventsFolded Fit =
      1 ≤ n → Filling → (groups homes : ℕ) → home + n ≤ homes → (f : Formatting groups homes) (ss : List (Step E)) →
      AllStepsAllowed (after_format f) ss → SparedBySteps Fit (after_format f) ss → Folded Fit (ran (after_format f) ss) (notes (after_format f) ss)

  -- Where the blocks that hold what a list of done events says (`Represents`) answer as the list does and hold, after one more, what the longer list says: for
  -- every front of the book's list its events are an accepted list, and the homes hold what it says; a done fetch gives what the whole list says, and
  -- the list answers the next event, before the transaction does.
  pub record Recorded (Fit : E → Type 0) (answer : List E → E → ℕ) (Represents : List E → List ℕ → Type 0) (w : World) (ns : List (Option E)) : Type 0 where
    pub many : length ns ≡ length w.book.commits
    pub accepted : (k : ℕ) → Accepted answer (noted (take k ns))
    pub kept : (k : ℕ) → Represents (noted (take k ns)) (part (homes_after w.homes (take k w.book.commits)) (64 * home) (64 * n))
    pub fetched :
        (writer : ℕ) (blocks : List ℕ) →
        w.ready ≡ true →
        length blocks ≡ 64 * n →
        (fetch_ends w writer home blocks).code ≡ 0 →
        Represents (noted ns) (fetch_ends w writer home blocks).block
    pub partly :
        (writer from m : ℕ) (blocks : List ℕ) →
        w.ready ≡ true →
        from + m ≤ n →
        length blocks ≡ 64 * m →
        (fetch_ends w writer (home + from) blocks).code ≡ 0 →
        (b : List ℕ) × Represents (noted ns) b × ((fetch_ends w writer (home + from) blocks).block ≡ part b (64 * from) (64 * m))
    pub answers :
        (writer : ℕ) (e : E) (batch : List ℕ) →
        w.ready ≡ true →
        (read_for w writer).code ≡ 0 →
        Fit e →
        answered w writer e batch ≡ first (answer (noted ns) e) (transact_ends w writer home (apply (read_for w writer).block e) batch).code

  abbrev pub Growing : (E → Type 0) → (List E → E → ℕ) → (List E → List ℕ → Type 0) → Type 0
  Growing Fit answer Represents =
      (ds : List E) (b : List ℕ) (e : E) → Represents ds b → Fit e → (judge b e ≡ answer ds e) × (judge b e ≡ 0 → Represents (ds ++ (e ∷ [])) (apply b e))

  abbrev pub AlwaysRecorded : (E → Type 0) → (List E → E → ℕ) → (List E → List ℕ → Type 0) → Type 0
  AlwaysRecorded Fit answer Represents =
      (groups homes : ℕ) → home + n ≤ homes → (f : Formatting groups homes) (ss : List (Step E)) → AllStepsAllowed (after_format f) ss →
      SparedBySteps Fit (after_format f) ss → Recorded Fit answer Represents (ran (after_format f) ss) (notes (after_format f) ss)

  abbrev pub EventsRecorded : (E → Type 0) → (List E → E → ℕ) → (List E → List ℕ → Type 0) → Type 0
  EventsRecorded Fit answer Represents = 1 ≤ n → Filling → Represents [] (zeros (64 * n)) → Growing Fit answer Represents → AlwaysRecorded Fit answer Represents
