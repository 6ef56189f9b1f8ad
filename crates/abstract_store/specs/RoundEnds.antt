-- A round from its beginning to its end, as statements over all histories: how many steps it takes, and that it leaves the data copy which one settle in
-- place of its beginning would have left.
use Rattle.std.specs.Prelude.{ℕ, ◌+◌, ◌≤◌, ◌<◌, ◌≡◌, ◌⊎◌, Bool, true, false, cond, ◌&&◌, ◌||◌, List, [], ◌∷◌, ◌++◌, eqb, length}
use Rattle.model.specs.Layout.{home_at}
use Rattle.model.specs.State.{state_of}
use Rattle.model.specs.History.{settles, round_begins, round_steps, trims, reads, Call, opening, confirm, change, service, settle, begin_round, step_round, Event, call, World, Formatting, after_format, ends, step, after, AllAllowed}
use Rattle.model.specs.History.{calls}
use Rattle.abstract_store.specs.Rounds.{homes_left, may_come}

-- a step of k homes
unfoldable pub is_step : ℕ → Call → Bool
is_step k (opening state newest batch) = false
is_step k confirm = false
is_step k (change c) = false
is_step k (service (settles batch)) = false
is_step k (service round_begins) = false
is_step k (service (round_steps homes batch)) = eqb homes k
is_step k (service (trims batch)) = false
is_step k (service (reads writer home block)) = false

-- steps of k homes and whatever may come between them, done or refused
abbrev pub AllCome : ℕ → List Call → Type 0
AllCome k [] = Unit {0}
AllCome k (c ∷ cs) = (may_come c || is_step k c ≡ true) × AllCome k cs

-- k homes for each done step
unfoldable pub stepped : ℕ → World → List Call → ℕ
stepped k w [] = 0
stepped k w (c ∷ cs) = cond (is_step k c && eqb (ends w c).code 0) k 0 + stepped k (step w (call c)) cs

-- a round is under way all the time
abbrev pub UnderWay : World → List Call → Type 0
UnderWay w [] = 1 ≤ (state_of w.state).round
UnderWay w (c ∷ cs) = (1 ≤ (state_of w.state).round) × UnderWay (step w (call c)) cs

-- A round that was begun in the world v. `few`: while it is under way the done steps, k homes each, come to fewer homes than it touches; so with n of
-- them it is over after n ÷ k steps, rounded up, at least 1. `copies`: its last step leaves, home by home, the data copy of a settle in place of the
-- beginning, whatever came between.
pub record RoundGoes (v : World) (k : ℕ) (cs : List Call) : Type 0 where
  pub few : UnderWay (step v (call begin_round)) cs
      → (stepped k (step v (call begin_round)) cs ≡ 0) ⊎ (stepped k (step v (call begin_round)) cs < length (homes_left (step v (call begin_round))))
  pub copies : UnderWay (step v (call begin_round)) cs → (batch other : List ℕ) (h : ℕ)
      → (ends (after (step v (call begin_round)) (calls cs)) (step_round k batch)).code ≡ 0
      → (state_of (ends (after (step v (call begin_round)) (calls cs)) (step_round k batch)).state).round ≡ 0
      → (ends v (settle other)).code ≡ 0 → h < v.homes
      → home_at (ends (after (step v (call begin_round)) (calls cs)) (step_round k batch)).area h ≡ home_at (ends v (settle other)).area h

-- [S-42]
abbrev pub RoundsEnd : Type 0
RoundsEnd =
    (groups homes : ℕ) (f : Formatting groups homes) (before : List Event) (k : ℕ) (cs : List Call) →
    AllAllowed (after_format f) (before ++ (call begin_round ∷ calls cs)) →
    (ends (after (after_format f) before) begin_round).code ≡ 0 → AllCome k cs → RoundGoes (after (after_format f) before) k cs
