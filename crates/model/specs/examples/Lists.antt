-- All four ranges of all eight writers of a list of rights; a list that an opening brings back from the log.
use Rattle.std.specs.Prelude.{ℕ, zero, suc, ◌+◌, ◌*◌, Bool, true, false, not, ◌&&◌, List, [], ◌∷◌, ◌++◌, drop}
use Rattle.model.specs.Bytes.{part, zeros}
use Rattle.model.specs.Rights.{may_store, may_read}
use Rattle.model.specs.History.{Call, begin, store, commit, flush, World, crash, step}
use Rattle.model.specs.examples.Trials.{room, goes, Trial}
use Rattle.model.specs.examples.Guarded.{sixteens, first_list, calls_of, numbers_of, runs, asks_read, writes, seen, reopening, unguarded, below_first}

-- four ranges of n homes from a first home on, ten apart; a list whose writer w may store to homes 100 × w + 20, 30, 40, 50 and the one after each, and read
-- homes 100 × w + 65, 75, 85 and 95 alone
unfoldable pub four_from : ℕ → ℕ → List ℕ
four_from home n = sixteens (home ∷ n ∷ (home + 10) ∷ n ∷ (home + 20) ∷ n ∷ (home + 30) ∷ n ∷ [])

unfoldable pub writers_up_to : ℕ → List ℕ
writers_up_to zero = []
writers_up_to (suc w) = writers_up_to w ++ (four_from (100 * w + 20) 2 ++ four_from (100 * w + 65) 1)

-- a range's homes and those at its two ends, for its writer and, of its first home, for another
unfoldable pub stores_in : List ℕ → ℕ → ℕ → Bool
stores_in list w h =
    not (may_store 1000 list w (100 * w + (h + 19))) && may_store 1000 list w (100 * w + (h + 20)) && may_store 1000 list w (100 * w + (h + 21))
    && not (may_store 1000 list w (100 * w + (h + 22))) && not (may_store 1000 list w (100 * suc w + (h + 20))) && not (may_read 1000 list w (100 * w + (h + 20)))

unfoldable pub reads_in : List ℕ → ℕ → ℕ → Bool
reads_in list w h =
    not (may_read 1000 list w (100 * w + (h + 64))) && may_read 1000 list w (100 * w + (h + 65)) && not (may_read 1000 list w (100 * w + (h + 66)))
    && not (may_read 1000 list w (100 * suc w + (h + 65))) && not (may_store 1000 list w (100 * w + (h + 65)))

unfoldable pub both_in : List ℕ → ℕ → ℕ → Bool
both_in list w h = stores_in list w h && reads_in list w h

-- of the first n writers
unfoldable pub all_ranges : List ℕ → ℕ → Bool
all_ranges list zero = true
all_ranges list (suc w) = all_ranges list w && both_in list w 0 && both_in list w 10 && both_in list w 20 && both_in list w 30

-- The same by calls (G 4, D 13): writer w may store to home w, by its fourth range, and read home w + 1 modulo 8, by its fourth. The list's four blocks
-- are committed together; then writers 3 and 7 store and read.
unfoldable pub last : ℕ → List ℕ
last home = sixteens (0 ∷ 0 ∷ 0 ∷ 0 ∷ 0 ∷ 0 ∷ home ∷ 1 ∷ [])

unfoldable pub fourth : List ℕ
fourth =
    last 0 ++ (last 1 ++ (last 1 ++ (last 2 ++ (last 2 ++ (last 3 ++ (last 3 ++ (last 4 ++ (last 4 ++ (last 5 ++ (last 5 ++ (last 6 ++ (last 6 ++ (last 7 ++ (last 7 ++ last 0))))))))))))))

unfoldable pub laid_down : World
laid_down =
    goes unguarded
    (begin 0 ∷ store 0 8 (part fourth 0 64) room ∷ store 0 9 (part fourth 64 64) room ∷ store 0 10 (part fourth 128 64) room ∷ store 0 11 (part fourth 192 64) room
    ∷ commit 0 room ∷ flush room ∷ [])

unfoldable pub by_fourth : List Call
by_fourth =
    begin 3 ∷ writes 3 3 ∷ writes 3 4 ∷ asks_read 3 4 ∷ asks_read 3 3 ∷ begin 7 ∷ writes 7 7 ∷ writes 7 0 ∷ asks_read 7 0 ∷ asks_read 7 7 ∷ asks_read 5 6 ∷ asks_read 5 5 ∷ asks_read 6 7
    ∷ asks_read 6 6 ∷ asks_read 4 5 ∷ asks_read 4 4 ∷ []

-- an opening after a cut: of a list that no home in lasting memory holds yet, and of zeros over one that it brought back
unfoldable pub reopened : World → World
reopened w = step (step w (crash 4 (λ i. false))) reopening

unfoldable pub brought : World
brought = reopened (goes unguarded (begin 0 ∷ store 0 8 first_list room ∷ commit 0 room ∷ flush room ∷ []))

unfoldable pub taken_back : World
taken_back = reopened (goes brought (begin 0 ∷ store 0 8 (zeros 64) room ∷ commit 0 room ∷ flush room ∷ []))

unfoldable pub rows : List Trial
rows =
    record { yields = (runs laid_down by_fourth).numbers; paper = 0 ∷ 0 ∷ 19 ∷ 0 ∷ 20 ∷ 0 ∷ 0 ∷ 19 ∷ 0 ∷ 20 ∷ 0 ∷ 20 ∷ 0 ∷ 20 ∷ 0 ∷ 20 ∷ [] }
    ∷ record { yields = (runs (reopened laid_down) by_fourth).numbers; paper = 0 ∷ 0 ∷ 19 ∷ 0 ∷ 20 ∷ 0 ∷ 0 ∷ 19 ∷ 0 ∷ 20 ∷ 0 ∷ 20 ∷ 0 ∷ 20 ∷ 0 ∷ 20 ∷ [] }
    ∷ record { yields = drop 2 (seen brought (runs brought (calls_of below_first)).numbers); paper = 2 ∷ numbers_of below_first }
    ∷ record { yields = drop 2 (seen taken_back (runs taken_back (calls_of below_first)).numbers); paper = 1 ∷ 7 ∷ 7 ∷ 0 ∷ 0 ∷ 0 ∷ [] } ∷ []
