-- The questions that a call which names a writer puts first, with the rest of its questions.
use Rattle.std.specs.Prelude.{ℕ}
use Rattle.model.specs.Effects.{Given}
use Rattle.model.specs.Questions.{ask, ask_state, writer_known}

unfoldable pub ask_writer : Given → ℕ → ℕ
ask_writer g next = ask_state g (ask (writer_known g) 4 next)
