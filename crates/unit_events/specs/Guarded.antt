-- A list of rights that keeps a unit's homes for the writers of the unit: under it nobody else's store or transact is done there, so that the premise on
-- other stores (`SparedBySteps`) holds by itself.
use Rattle.std.specs.Prelude.{ℕ, ◌+◌, ◌/◌, ◌≤◌, ◌<◌, ◌≡◌, ◌⊎◌, Bool, true, false, List, [], ◌∷◌, length}
use Rattle.model.specs.Rights.{may_store}
use Rattle.model.specs.History.{Change, begins, reserves, aborts, stores, commits, flushes, Call, opening, confirm, change, service, call, crash, World, Formatting, after_format}
use Rattle.acts.specs.Units.{Act, plain, transacts, fetches, revises, Apart}
use Rattle.unit_events.specs.Promises.{list_in}
use Rattle.unit_events.specs.Folded.{Step, acts, offers, sets, stepped, AllStepsAllowed, SparedByAct, SparedByStep, SparedBySteps}

-- the list that counts gives n homes from `home` on to none but the unit's own writers
abbrev pub KeepsFor : (ℕ → Bool) → ℕ → ℕ → World → Type 0
KeepsFor own home n w = (writer x : ℕ) → own writer ≡ false → home ≤ x → x < home + n → may_store w.homes (list_in w) writer x ≡ false

-- The unit's own writers store there by its calls only: what else they store lies apart. Nothing is asked of other writers.
abbrev pub OwnApartChange : (ℕ → Bool) → ℕ → ℕ → Change → Type 0
OwnApartChange own home n (begins writer) = Unit {0}
OwnApartChange own home n (reserves writer places) = Unit {0}
OwnApartChange own home n (aborts writer) = Unit {0}
OwnApartChange own home n (stores writer h block batch) = own writer ≡ true → Apart home n h 1
OwnApartChange own home n (commits writer batch) = Unit {0}
OwnApartChange own home n (flushes batch) = Unit {0}

abbrev pub OwnApartCall : (ℕ → Bool) → ℕ → ℕ → Call → Type 0
OwnApartCall own home n (opening state newest batch) = Unit {0}
OwnApartCall own home n confirm = Unit {0}
OwnApartCall own home n (change c) = OwnApartChange own home n c
OwnApartCall own home n (service c) = Unit {0}

abbrev pub OwnApart : (ℕ → Bool) → ℕ → ℕ → Act → Type 0
OwnApart own home n (plain (call c)) = OwnApartCall own home n c
OwnApart own home n (plain (crash passed chosen)) = Unit {0}
OwnApart own home n (transacts writer h blocks batch) = own writer ≡ true → Apart home n h (length blocks / 64)
OwnApart own home n (fetches writer h blocks) = Unit {0}
OwnApart own home n (revises writer h blocks) = Unit {0}

module _ {E : Type 0} (home n : ℕ) (judge : List ℕ → E → ℕ) (apply : List ℕ → E → List ℕ) (own : ℕ → Bool) where
  -- an act while such a list counts, or one before it does that spares the homes; and the unit's events
  abbrev pub GuardedStep : (E → Type 0) → World → Step E → Type 0
  GuardedStep Fit w (acts a) = (KeepsFor own home n w × OwnApart own home n a) ⊎ SparedByAct home n judge apply w a
  GuardedStep Fit w (offers writer e batch) = SparedByStep home n judge apply Fit w (offers writer e batch)
  GuardedStep Fit w (sets writer e batch) = SparedByStep home n judge apply Fit w (sets writer e batch)

  abbrev pub GuardedSteps : (E → Type 0) → World → List (Step E) → Type 0
  GuardedSteps Fit w [] = Unit {0}
  GuardedSteps Fit w (s ∷ ss) = GuardedStep Fit w s × GuardedSteps Fit (stepped home n judge apply w s) ss

  abbrev pub ListSpares : (E → Type 0) → Type 0
  ListSpares Fit =
      1 ≤ n → (groups homes : ℕ) (f : Formatting groups homes) (ss : List (Step E)) → AllStepsAllowed home n judge apply (after_format f) ss →
      GuardedSteps Fit (after_format f) ss → SparedBySteps home n judge apply Fit (after_format f) ss
