-- A history written down line by line: each call with the number, figure and batch length that it answers, and crashes between them.
use Rattle.std.specs.Prelude.{ℕ, Bool, List, [], ◌∷◌}
use Rattle.model.specs.History.{Call, Event, call, crash}

pub data Line : Type 0 where
  line : Call → (code figure size : ℕ) → Line
  cut : (passed : ℕ) (chosen : ℕ → Bool) → Line

-- a call that is done, with no figure and no batch; with a figure and a batch's length; one that is refused with a number
unfoldable pub does : Call → Line
does c = line c 0 0 0

unfoldable pub gives : Call → ℕ → ℕ → Line
gives c figure size = line c 0 figure size

unfoldable pub refuses : Call → ℕ → Line
refuses c code = line c code 0 0

unfoldable pub events_of : List Line → List Event
events_of [] = []
events_of (line c code figure size ∷ ls) = call c ∷ events_of ls
events_of (cut passed chosen ∷ ls) = crash passed chosen ∷ events_of ls

unfoldable pub answers_of : List Line → List ℕ
answers_of [] = []
answers_of (line c code figure size ∷ ls) = code ∷ figure ∷ size ∷ answers_of ls
answers_of (cut passed chosen ∷ ls) = answers_of ls
