-- What a call is lent, and what it sees there.
use Rattle.std.specs.Prelude.{ℕ, ◌*◌, Bool, ◌&&◌, List, eqb, leb, ltb, length}
use Rattle.std.proofs.Math.Option.{Option, none, some}
use Rattle.model.specs.Tag.{home_of, present}
use Rattle.model.specs.Layout.{group_count, home_count, entry_at, block_at}
use Rattle.model.specs.State.{state_of, next_position}
use Rattle.model.specs.declared.Tag.{Tag}

-- what a call is lent: state strip, newest positions, log copy, data copy, block and batch buffer, and its two numbers. What a call is not lent is
-- empty or 0.
pub record Given : Type 0 where
  pub state : List ℕ
  pub newest : List ℕ
  pub log : List ℕ
  pub area : List ℕ
  pub block : List ℕ
  pub batch : List ℕ
  pub writer : ℕ
  pub home : ℕ

abbrev pub groups : Given → ℕ
groups g = group_count (length g.log)

abbrev pub homes : Given → ℕ
homes g = home_count (length g.area)

-- what a log says at a position, and the position where it starts, by the strip's start
unfoldable pub tags_of : Given → List ℕ → ℕ → Tag
tags_of g log = entry_at log (groups g) (homes g) (state_of g.state).start

unfoldable pub live_base : Given → ℕ
live_base g = 7 * (state_of g.state).start

-- what the calls other than open see in the log copy: they take the start from the strip
unfoldable pub live_tags : Given → ℕ → Tag
live_tags g = tags_of g g.log

-- the block at a position, or another
unfoldable pub block_or : Given → Option ℕ → List ℕ → List ℕ
block_or g none other = other
block_or g (some p) other = block_at g.log (groups g) p

-- "Over a strip that disagrees with the log, a read shows the block at the kept position if an entry for that home is there, else the data copy." Like
-- every call it looks only at positions from the start to below the next one.
unfoldable pub is_there : Given → ℕ → Bool
is_there g p =
    leb (live_base g) p && ltb p (next_position (state_of g.state)) && present (live_tags g p) && eqb (home_of (live_tags g p)) g.home
