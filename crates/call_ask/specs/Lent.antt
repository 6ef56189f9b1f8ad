-- What a call is lent and what it leaves, from the contents of its slices.
use Rattle.std.specs.Prelude.{ℕ, List, []}
use Rattle.model.specs.Effects.{Given}
use Rattle.model.specs.Calls.{Outcome}

-- a call that is lent the newest positions
abbrev pub lent_all : List ℕ → List ℕ → List ℕ → List ℕ → List ℕ → List ℕ → ℕ → ℕ → Given
lent_all log area state newest block batch writer home =
    record { state = state; newest = newest; log = log; area = area; block = block; batch = batch; writer = writer; home = home }

abbrev pub leaves_everything : ℕ → ℕ → ℕ → List ℕ → List ℕ → List ℕ → List ℕ → List ℕ → List ℕ → Outcome
leaves_everything code figure size log area state newest block batch =
    record { code = code; figure = figure; size = size; state = state; newest = newest; log = log; area = area; block = block; batch = batch }

-- one that is not
abbrev pub lent : List ℕ → List ℕ → List ℕ → List ℕ → List ℕ → ℕ → ℕ → Given
lent log area state block batch writer home = lent_all log area state [] block batch writer home

abbrev pub leaves : ℕ → ℕ → ℕ → List ℕ → List ℕ → List ℕ → List ℕ → List ℕ → Outcome
leaves code figure size log area state block batch = leaves_everything code figure size log area state [] block batch
