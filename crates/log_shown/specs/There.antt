-- What a home shows where a position is kept for it, over the numbers of the strip.
use Rattle.std.specs.Prelude.{◌≡◌, Bool, cond, ◌&&◌, List, ℕ, ◌+◌, ◌-◌, ◌*◌, ◌/◌, ◌%◌, ◌^◌, ◌≤◌, ◌<◌, eqb, leb, ltb, length}
use Rattle.model.specs.Bytes.{part, number}
use Rattle.model.specs.Tag.{present, home_of, displaced}
use Rattle.model.specs.Layout.{entry_at, block_at, home_at, with_top_bit, turn_of}
use Rattle.model.specs.State.{next_position}
use Rattle.model.specs.declared.State.{State}
use Rattle.model.specs.declared.Tag.{Tag}
use Rattle.log_shown.specs.declared.ring.RingPlace.{RingPlace}

-- what the log copy says at a position, in a store whose strip has the numbers `st`
abbrev pub tags_by : List ℕ → State → ℕ → Tag
tags_by log st = entry_at log st.groups st.homes st.start

-- an entry for a home at the position kept for it, if that lies in the log
unfoldable pub there_by : List ℕ → State → ℕ → ℕ → Bool
there_by log st home p =
    leb (7 * st.start) p && ltb p (next_position st) && present (tags_by log st p) && eqb (home_of (tags_by log st p)) home

-- the block that the home shows
unfoldable pub shown_with : List ℕ → List ℕ → State → ℕ → ℕ → List ℕ
shown_with log area st home p = cond (there_by log st home p) (block_at log st.groups p) (home_at area home)

-- where the block of a position lies in the log, and that of the entry for a home at the position kept for it, 0 for none
unfoldable pub place_of : ℕ → ℕ → ℕ
place_of groups p = 64 + 512 * (p / 7 % groups) + (64 + 64 * (p % 7))

unfoldable pub place_by : List ℕ → State → ℕ → ℕ → ℕ
place_by log st home p = cond (there_by log st home p) (place_of st.groups p) 0

-- where the tag of the block at an index lies, and the block that the two give
unfoldable pub tag_from : ℕ → ℕ
tag_from at = 64 + (at - 64) / 512 * 512 + (at - 64) % 512 / 8

unfoldable pub entry_from : List ℕ → ℕ → List ℕ
entry_from log at = with_top_bit (part log at 64) (displaced (number 8 log (tag_from at)))

-- a log copy and the numbers of a strip in order
pub record Searchable (log : List ℕ) (st : State) : Type 0 where
  pub long : length log ≡ 64 + 512 * st.groups
  pub least : 4 ≤ st.groups
  pub most : st.groups ≤ 1024
  pub homes-most : st.homes ≤ 65535
  pub low : st.start ≤ 2 ^ 47
  pub next : 7 * st.next + st.filled ≡ next_position st
  pub first : 7 * st.start ≤ next_position st
  pub within : next_position st ≤ 7 * (st.start + st.groups)

-- where a position lies in the ring
pub record RingPlaced (groups p : ℕ) (at : RingPlace) : Type 0 where
  pub number : at.number ≡ p / 7
  pub same : at.slot ≡ p / 7 % groups
  pub low : at.slot < groups
  pub turn : at.turn ≡ turn_of groups (p / 7)
  pub bit : at.turn < 2
  pub index : at.k ≡ p % 7
