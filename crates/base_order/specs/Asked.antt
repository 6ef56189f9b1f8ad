-- What the promises ask of the places left. A promise to an idle writer asks for more places than any log has, so that one sum tells whether there is one.
use Rattle.std.specs.Prelude.{cond, List, ℕ, zero, suc, ◌+◌}
use Rattle.model.specs.State.{writer_of, promise_of, promise_in_order}

unfoldable pub asked : List ℕ → ℕ → ℕ
asked s w = cond (promise_in_order (writer_of s w) (promise_of s w)) (promise_of s w) 7169

-- of the first n writers
unfoldable pub asked_all : List ℕ → ℕ → ℕ
asked_all s zero = 0
asked_all s (suc n) = asked_all s n + asked s n
