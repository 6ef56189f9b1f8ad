-- The newest positions: a lent strip with, for each home, the position of its newest committed entry, in eight bytes. "none is all ones."
use Rattle.std.specs.Prelude.{ℕ, zero, suc, ◌+◌, ◌-◌, ◌*◌, ◌^◌, cond, List, leb, ltb, replicate}
use Rattle.std.proofs.Math.Option.{Option, none, some}
use Rattle.model.specs.Bytes.{part, number, put_number}
use Rattle.model.specs.Tag.{home_of}
use Rattle.model.specs.Commit.{write_all}
use Rattle.model.specs.State.{list_home, set_listed}
use Rattle.model.specs.declared.Tag.{Tag}

abbrev pub no_position : ℕ
no_position = 2 ^ 64 - 1

-- the number that is kept for a position or none
unfoldable pub kept_as : Option ℕ → ℕ
kept_as none = no_position
kept_as (some p) = p

-- what is kept for a home, and the strip with another position kept for it
unfoldable pub kept_for : List ℕ → ℕ → ℕ
kept_for newest home = number 8 newest (8 * home)

unfoldable pub keep : List ℕ → ℕ → ℕ → List ℕ
keep newest home position = put_number 8 newest (8 * home) position

-- "opening all": none is kept for any home
unfoldable pub nothing_kept : ℕ → List ℕ
nothing_kept homes = replicate (8 * homes) 255

-- "Commit puts in, for each home its transaction wrote, the last entry's position". The positions are a transaction's entries, newest first, as the log
-- has them; the oldest goes in first, so that "the later position wins".
unfoldable pub keep_entry : (ℕ → Tag) → ℕ → List ℕ → List ℕ
keep_entry tags p newest = keep newest (home_of (tags p)) p

-- [S-36]
unfoldable pub keep_entries : (ℕ → Tag) → List ℕ → List ℕ → List ℕ
keep_entries tags ps newest = write_all (keep_entry tags) ps newest

-- "trim makes those before the new start none": of the first n homes [S-36]
unfoldable pub forget : List ℕ → ℕ → ℕ → List ℕ
forget newest bound zero = newest
forget newest bound (suc n) =
    let before : List ℕ = forget newest bound n in cond (ltb (kept_for newest n) bound) (keep before n no_position) before

-- the state strip with the positions of the list's four homes as they are kept here; where D is too small for a list it has none of them
unfoldable pub carry_listed : ℕ → List ℕ → List ℕ → List ℕ
carry_listed homes newest s = cond (leb (list_home + 4) homes) (set_listed s (part newest (8 * list_home) 32)) s
