-- "A refused call changes none and gives one of ten numbers", field by field, for everything that a call can be lent. Later requests' numbers "join
-- demand 1's ten": 17 to 21.
use Rattle.std.specs.Prelude.{ℕ, Bool, true, ◌&&◌, ◌||◌, leb, ◌≡◌, ◌⊎◌, List, [], ◌∷◌}
use Rattle.model.specs.Effects.{Given}
use Rattle.model.specs.Calls.{Outcome, format_call, open_call, begin_call, reserve_call, abort_call, store_call, commit_call, flush_call, confirm_call, settle_call, begin_round_call, step_round_call, trim_call, read_call}

-- the numbers that refuse
unfoldable pub refuses : ℕ → Bool
refuses k = (leb 1 k && leb k 10) || (leb 17 k && leb k 21)

-- "A refusal returns its number, no other figure but zero, no train bytes, and all lent memory untouched."
pub record Untouched (g : Given) (o : Outcome) : Type 0 where
  pub number : refuses o.code ≡ true
  pub figure : o.figure ≡ 0
  pub size : o.size ≡ 0
  pub state : o.state ≡ g.state
  pub newest : o.newest ≡ g.newest
  pub log : o.log ≡ g.log
  pub area : o.area ≡ g.area
  pub block : o.block ≡ g.block
  pub batch : o.batch ≡ g.batch

abbrev pub DoneOrUntouched : (Given → Outcome) → Type 0
DoneOrUntouched c = (g : Given) → ((c g).code ≡ 0) ⊎ Untouched g (c g)

abbrev pub EachDoneOrUntouched : List (Given → Outcome) → Type 0
EachDoneOrUntouched [] = Unit {0}
EachDoneOrUntouched (c ∷ cs) = DoneOrUntouched c × EachDoneOrUntouched cs

abbrev pub every_call : ℕ → List (Given → Outcome)
every_call n =
    format_call ∷ open_call ∷ begin_call ∷ (λ g. reserve_call g n) ∷ abort_call ∷ store_call ∷ commit_call ∷ flush_call ∷ confirm_call ∷ settle_call ∷ begin_round_call ∷ (λ g. step_round_call g n) ∷ trim_call ∷ read_call ∷ []

-- [S-8]
abbrev pub Refusals : Type 0
Refusals = (n : ℕ) → EachDoneOrUntouched (every_call n)
