-- Crashes ("cuts"): which writes persist ("land"), and the memory they leave.
-- "Each write (GW, HW, KW) lands whole or not at all, and stays. Take the trains since the last cut, or format, in call order. Any number of their
-- fences, from the first on, have passed, at least all before a done confirm. All writes before the last passed fence have landed, any choice of
-- those up to the next, none beyond. What has not landed never will, and no later fence waits for it." "Demand 3 must hold with each 64-byte block
-- landing or not by itself, blanking included: an entry has landed when its tag's block and its data block both have."
use Rattle.std.specs.Prelude.{ℕ, zero, suc, ◌+◌, ◌*◌, ◌%◌, Bool, true, false, cond, ◌&&◌, List, [], ◌∷◌, ◌++◌, take, drop}
use Rattle.model.specs.Bytes.{puts}
use Rattle.model.specs.Layout.{group_offset}
use Rattle.model.specs.Batch.{Record, GW, HW, KW, FN}

-- the lasting memory: both areas
pub record Memory : Type 0 where
  pub log : List ℕ
  pub area : List ℕ

-- a piece of a record that persists whole or not at all, a block of 64 bytes: where its bytes go
pub data Piece : Type 0 where
  to_log : (offset : ℕ) (content : List ℕ) → Piece
  to_area : (offset : ℕ) (content : List ℕ) → Piece

-- n blocks that lie one behind the other in the log area
unfoldable pub blocks : ℕ → List ℕ → ℕ → List Piece
blocks offset content zero = []
blocks offset content (suc n) = to_log offset (take 64 content) ∷ blocks (offset + 64) (drop 64 content) n

-- a group is its metadata and its seven data blocks [S-52]
unfoldable pub pieces : Record → List Piece
pieces (GW slot group) = blocks (group_offset slot) group 8
pieces (HW home block) = to_area (64 * home) block ∷ []
pieces (KW header) = to_log 0 header ∷ []
pieces FN = []

unfoldable pub write : Piece → Memory → Memory
write (to_log offset content) m = record { log = puts m.log offset content; area = m.area }
write (to_area offset content) m = record { log = m.log; area = puts m.area offset content }

-- all pieces of a record, and those of them that a choice has; the choice goes by the piece's number in its stretch
unfoldable pub write_each : List Piece → Memory → Memory
write_each [] m = m
write_each (p ∷ ps) m = write_each ps (write p m)

unfoldable pub write_if : Bool → Piece → Memory → Memory
write_if true p m = write p m
write_if false p m = m

unfoldable pub write_chosen : (ℕ → Bool) → ℕ → List Piece → Memory → Memory
write_chosen chosen i [] m = m
write_chosen chosen i (p ∷ ps) m = write_chosen chosen (i + 1) ps (write_if (chosen i) p m)

unfoldable pub many : List Piece → ℕ
many [] = 0
many (p ∷ ps) = many ps + 1

-- whether a record is a fence, and the fences left to pass after it
unfoldable pub is_fence : Record → Bool
is_fence (GW slot group) = false
is_fence (HW home block) = false
is_fence (KW header) = false
is_fence FN = true

unfoldable pub fences : List Record → ℕ
fences [] = 0
fences (r ∷ rs) = cond (is_fence r) 1 0 + fences rs

-- the stretch after the last passed fence: a choice of its pieces, up to the next fence; the next piece has number i
unfoldable pub persist_chosen : (ℕ → Bool) → ℕ → List Record → Memory → Memory
persist_chosen chosen i [] m = m
persist_chosen chosen i (r ∷ rs) m =
    let on : Memory = persist_chosen chosen (i + many (pieces r)) rs (write_chosen chosen i (pieces r) m) in
    cond (is_fence r) m on

-- the memory after `passed` fences of the records, and a choice of what comes before the next [S-52]
unfoldable pub persist : ℕ → (ℕ → Bool) → List Record → Memory → Memory
persist passed chosen [] m = m
persist zero chosen (r ∷ rs) m = persist_chosen chosen 0 (r ∷ rs) m
persist (suc n) chosen (r ∷ rs) m = persist (cond (is_fence r) n (suc n)) chosen rs (write_each (pieces r) m)

-- Which entries of each submitted group persisted, by the number of the group write: what the book is fed at a crash. `fate` says which pieces of the
-- record did: "an entry has landed when its tag's block and its data block both have", piece 0 and piece k + 1 (k from 0 to 6).
unfoldable pub group_fate : Record → (ℕ → Bool) → List (ℕ → Bool)
group_fate (GW slot group) fate = (λ k. fate 0 && fate (k % 7 + 1)) ∷ []
group_fate (HW home block) fate = []
group_fate (KW header) fate = []
group_fate FN fate = []

unfoldable pub fates_chosen : (ℕ → Bool) → ℕ → List Record → List (ℕ → Bool)
fates_chosen chosen i [] = []
fates_chosen chosen i (r ∷ rs) =
    let on : List (ℕ → Bool) = fates_chosen chosen (i + many (pieces r)) rs in
    cond (is_fence r) [] (group_fate r (λ j. chosen (i + j)) ++ on)

unfoldable pub fates : ℕ → (ℕ → Bool) → List Record → List (ℕ → Bool)
fates passed chosen [] = []
fates zero chosen (r ∷ rs) = fates_chosen chosen 0 (r ∷ rs)
fates (suc n) chosen (r ∷ rs) = group_fate r (λ j. true) ++ fates (cond (is_fence r) n (suc n)) chosen rs
