-- The questions that open puts before the last one, and the last as `next`; the records that it writes after those of the homes.
use Rattle.std.specs.Prelude.{ℕ, ◌&&◌, List, [], ◌∷◌, ◌++◌}
use Rattle.model.specs.Layout.{header}
use Rattle.model.specs.Batch.{Record, KW, FN}
use Rattle.model.specs.Effects.{Given, blank_writes, open_start}
use Rattle.model.specs.Questions.{ask, areas_right, state_right, header_fits, start_fits, newest_right}

unfoldable pub ask_open : Given → ℕ → ℕ
ask_open g next = ask (areas_right g && state_right g && newest_right g) 1 (ask (header_fits g) 3 (ask (start_fits (open_start g)) 10 next))

-- the log is emptied from a start on
abbrev pub emptied : ℕ → ℕ → ℕ → List Record
emptied start groups homes = FN ∷ KW (header start groups homes) ∷ FN ∷ (blank_writes groups start groups ++ (FN ∷ []))
