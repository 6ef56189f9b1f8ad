-- Rows of the longer tables, by computation: with them every edit of this crate is refused by a table here. Rows count from 0.
use mathlib.Core.Path.{◌≡◌, refl}
use mathlib.Core.Bool.{true}
use mathlib.Core.List.{[], ◌∷◌}
use Rattle.model.specs.examples.Trials.{stored, turns, trials, all_match, rows_at}
use Rattle.model.specs.examples.Tears.{opens, alone, both, reads_to, reads_thus, two_commits, commits_two, tears_to, metadata_without_block, blocks_without_metadata, entries_landed}
use Rattle.model.specs.examples.Guarded.{again, closed_again, moment, moments}
use Rattle.model.specs.examples.Orders.{number_of, each_among, records_of, mixed, by_settle, by_round, by_opening, is_in_order, two_groups, numbers_of, kept_for_home, around_trim, records, rows}
use Rattle.model.specs.examples.Lists as lists
use Rattle.model.specs.examples.Lists.{reopened, brought}
use Rattle.model.proofs.examples.Computing.{all-definitions}

-- trials 4 and 5, the turn bits
pub some-trials : all_match (rows_at (4 ∷ 5 ∷ 12 ∷ []) trials) ≡ true
unfolding all-definitions all_match rows_at stored turns trials
some-trials = refl

-- a torn group over blanking
pub torn-over-blanking : commits_two ≡ true
unfolding all-definitions opens alone both reads_to reads_thus two_commits commits_two tears_to metadata_without_block blocks_without_metadata entries_landed
torn-over-blanking = refl

-- before a list and under it; withdrawn and committed again
pub some-moments : all_match (rows_at (1 ∷ 2 ∷ 6 ∷ 7 ∷ []) moments) ≡ true
unfolding all-definitions all_match rows_at again closed_again moment moments
some-moments = refl

-- around a trim; the records of a settle, of a round's steps and of an opening
pub some-orders : all_match (rows_at (0 ∷ 3 ∷ []) rows) ≡ true
unfolding all-definitions all_match rows_at number_of each_among records_of mixed by_settle by_round by_opening is_in_order two_groups numbers_of kept_for_home around_trim records rows
some-orders = refl

-- a list that an opening brings back
pub list-brought : all_match (rows_at (2 ∷ []) lists.rows) ≡ true
unfolding all-definitions all_match rows_at reopened brought lists.rows
list-brought = refl
