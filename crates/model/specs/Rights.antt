-- Who may touch what: the list of rights, where it lies and what it says.
-- "A list lies in four homes of its own in a row, 8 or above, that all may read and only writer 0 may store to: for each writer, rising, four home
-- ranges it may store to, then four it may read, each first home and number of homes, 16 bits; all zeros, or D too small for it, is no list. While no
-- list is committed every other home is open to all."
use Rattle.std.specs.Prelude.{ℕ, zero, suc, ◌+◌, ◌*◌, ◌≡◌, Bool, true, false, cond, not, ◌&&◌, ◌||◌, List, [], ◌++◌, eqb, leb, ltb}
use Rattle.std.proofs.Math.Option.{none, some}
use Rattle.model.specs.Bytes.{part, zeros, number, same}
use Rattle.model.specs.Layout.{home_at}
use Rattle.model.specs.State.{list_home, listed_of, set_list_sign}
use Rattle.model.specs.Newest.{kept_for, carry_listed}
use Rattle.model.specs.Given.{Given, homes, is_there, block_or}

-- Which list counts: "A changed list counts from its commit; a call lent g's strip finds it by that." Each of the four homes shows its newest
-- committed block, never a writer's own.

-- the same lent, for another home
unfoldable pub for_home : Given → ℕ → Given
for_home g home =
    record {
      state = g.state;
      newest = g.newest;
      log = g.log;
      area = g.area;
      block = g.block;
      batch = g.batch;
      writer = g.writer;
      home = home;
    }

-- what the call's home shows where a position is kept for it: the entry's block if one for that home is there, else the data copy's
unfoldable pub shown_at : Given → ℕ → List ℕ
shown_at g p = block_or g (cond (is_there g p) (some p) none) (home_at g.area g.home)

-- the first n blocks of the list, by the position kept for each
unfoldable pub list_by : Given → (ℕ → ℕ) → ℕ → List ℕ
list_by g kept zero = []
list_by g kept (suc n) = list_by g kept n ++ shown_at (for_home g (list_home + n)) (kept n)

-- store finds it by the four positions in the state strip, a call that is lent the newest positions by those
unfoldable pub store_list : Given → List ℕ
store_list g = list_by g (listed_of g.state) 4

unfoldable pub read_list : Given → List ℕ
read_list g = list_by g (λ i. kept_for g.newest (list_home + i)) 4

-- Commit keeps the four positions in the state strip, and where they have changed the sign of the list as it is then. Opening sets the sign too.

-- whether the state strip has, for the first n homes of the list, what the newest positions have
unfoldable pub same_listed : Given → ℕ → Bool
same_listed g zero = true
same_listed g (suc n) = same_listed g n && eqb (listed_of g.state n) (kept_for g.newest (list_home + n))

-- given what a commit has left, but for the state strip's part of the list
unfoldable pub list_moved : Given → Bool
list_moved g = leb (list_home + 4) (homes g) && not (same_listed g 4)

unfoldable pub sign_for : List ℕ → ℕ
sign_for list = cond (same list (zeros 256)) 1 2

-- an opening leaves the whole list in the data copy
unfoldable pub open_sign : ℕ → List ℕ → ℕ
open_sign homes area = cond (leb (list_home + 4) homes) (sign_for (part area (64 * list_home) 256)) 0

unfoldable pub sign_if : Bool → List ℕ → List ℕ → List ℕ
sign_if moved list s = cond moved (set_list_sign s (sign_for list)) s

unfoldable pub keep_list : Given → List ℕ
keep_list g = sign_if (list_moved g) (read_list g) (carry_listed (homes g) g.newest g.state)

-- What it says

-- the list's own homes
unfoldable pub of_list : ℕ → Bool
of_list home = leb list_home home && ltb home (list_home + 4)

-- [S-58]
unfoldable pub is_list : ℕ → List ℕ → Bool
is_list homes list = leb (list_home + 4) homes && not (same list (zeros 256))

-- "each first home and number of homes, 16 bits": whether a home lies in the range at a byte, and in one of the n ranges from there on
unfoldable pub in_range : List ℕ → ℕ → ℕ → Bool
in_range list at home = leb (number 2 list at) home && ltb home (number 2 list at + number 2 list (at + 2))

-- [S-58]
unfoldable pub in_ranges : List ℕ → ℕ → ℕ → ℕ → Bool
in_ranges list at home zero = false
in_ranges list at home (suc n) = in_ranges list at home n || in_range list (at + 4 * n) home

-- [S-59]
unfoldable pub may_store : ℕ → List ℕ → ℕ → ℕ → Bool
may_store homes list writer home =
    cond (of_list home) (eqb writer 0) (not (is_list homes list) || in_ranges list (32 * writer) home 4)

-- [S-59]
unfoldable pub may_read : ℕ → List ℕ → ℕ → ℕ → Bool
may_read homes list writer home = of_list home || (not (is_list homes list) || in_ranges list (32 * writer + 16) home 4)

-- The same by the sign, where it says something: "a store and a read cost at most 150 instructions more than without rights, whatever the log holds".

unfoldable pub signed_list : ℕ → ℕ → List ℕ → Bool
signed_list sign homes list =
    leb (list_home + 4) homes && cond (eqb sign 1) false (cond (eqb sign 2) true (not (same list (zeros 256))))

unfoldable pub right_to_store : ℕ → ℕ → List ℕ → ℕ → ℕ → Bool
right_to_store sign homes list writer home =
    cond (of_list home) (eqb writer 0) (not (signed_list sign homes list) || in_ranges list (32 * writer) home 4)

unfoldable pub right_to_read : ℕ → ℕ → List ℕ → ℕ → ℕ → Bool
right_to_read sign homes list writer home =
    of_list home || (not (signed_list sign homes list) || in_ranges list (32 * writer + 16) home 4)

-- a sign that says nothing false of a list: then both agree
pub record Faithful (sign : ℕ) (list : List ℕ) : Type 0 where
  pub empty : sign ≡ 1 → same list (zeros 256) ≡ true
  pub given : sign ≡ 2 → same list (zeros 256) ≡ false
