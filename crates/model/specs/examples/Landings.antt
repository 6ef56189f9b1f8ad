-- Which writes persist at a crash, and which entries the book is told have, by a table over three stretches of records: "All writes before the last
-- passed fence have landed, any choice of those up to the next, none beyond."
use Rattle.std.specs.Prelude.{ℕ, zero, suc, Bool, true, false, cond, not, List, [], ◌∷◌, ◌++◌, eqb, take, drop, get_or, replicate}
use Rattle.model.specs.Bytes.{zeros, same}
use Rattle.model.specs.Batch.{Record, GW, HW, KW, FN}
use Rattle.model.specs.Crash.{Memory, persist, fates}
use Rattle.model.specs.examples.Trials.{fill, Trial}

-- a log of one group and an area of two homes; in each stretch a home, the header and the group are written, piece 0, piece 1 and pieces 2 to 9
unfoldable pub before : Memory
before = record { log = zeros 576; area = zeros 128 }

unfoldable pub stretch : ℕ → ℕ → List Record
stretch home byte = HW home (fill byte) ∷ KW (fill byte) ∷ GW 0 (replicate 512 byte) ∷ []

unfoldable pub written : List Record
written = stretch 0 1 ++ (FN ∷ (stretch 1 2 ++ (FN ∷ stretch 0 3)))

-- of each of n blocks the byte that it is filled with, 999 if there is more than one
unfoldable pub filled_of : ℕ → List ℕ → List ℕ
filled_of zero xs = []
filled_of (suc n) xs = let b : ℕ = get_or xs 0 0 in cond (same (take 64 xs) (fill b)) b 999 ∷ filled_of n (drop 64 xs)

-- of each group write the entries that persisted, 1 to an entry
unfoldable pub bit : Bool → ℕ
bit true = 1
bit false = 0

unfoldable pub seven_of : (ℕ → Bool) → List ℕ
seven_of f = bit (f 0) ∷ bit (f 1) ∷ bit (f 2) ∷ bit (f 3) ∷ bit (f 4) ∷ bit (f 5) ∷ bit (f 6) ∷ []

unfoldable pub entries_of : List (ℕ → Bool) → List ℕ
entries_of [] = []
entries_of (f ∷ fs) = seven_of f ++ entries_of fs

-- both homes, header, metadata and data blocks, after some fences and a choice; then the entries
unfoldable pub leaves : ℕ → (ℕ → Bool) → List ℕ
leaves passed chosen =
    let m : Memory = persist passed chosen written before in
    filled_of 2 m.area ++ (filled_of 9 m.log ++ entries_of (fates passed chosen written))

unfoldable pub every : ℕ → Bool
every i = true

unfoldable pub none : ℕ → Bool
none i = false

unfoldable pub all_but : ℕ → ℕ → Bool
all_but n i = not (eqb i n)

unfoldable pub only : ℕ → ℕ → Bool
only n i = eqb i n

-- no entry of a group, and all seven
unfoldable pub zero7 : List ℕ
zero7 = zeros 7

unfoldable pub all7 : List ℕ
all7 = replicate 7 1

-- the first stretch: none, all and none beyond; a home, the header, the metadata, a data block lost; one block alone, which is no entry without its metadata
unfoldable pub first_stretch : List Trial
first_stretch =
    record { yields = leaves 0 none; paper = zeros 18 }
    ∷ record { yields = leaves 0 every; paper = 1 ∷ 0 ∷ 1 ∷ 1 ∷ 1 ∷ 1 ∷ 1 ∷ 1 ∷ 1 ∷ 1 ∷ 1 ∷ all7 }
    ∷ record { yields = leaves 0 (all_but 0); paper = 0 ∷ 0 ∷ 1 ∷ 1 ∷ 1 ∷ 1 ∷ 1 ∷ 1 ∷ 1 ∷ 1 ∷ 1 ∷ all7 }
    ∷ record { yields = leaves 0 (all_but 1); paper = 1 ∷ 0 ∷ 0 ∷ 1 ∷ 1 ∷ 1 ∷ 1 ∷ 1 ∷ 1 ∷ 1 ∷ 1 ∷ all7 }
    ∷ record { yields = leaves 0 (all_but 2); paper = 1 ∷ 0 ∷ 1 ∷ 0 ∷ 1 ∷ 1 ∷ 1 ∷ 1 ∷ 1 ∷ 1 ∷ 1 ∷ zero7 }
    ∷ record { yields = leaves 0 (all_but 5); paper = 1 ∷ 0 ∷ 1 ∷ 1 ∷ 1 ∷ 1 ∷ 0 ∷ 1 ∷ 1 ∷ 1 ∷ 1 ∷ 1 ∷ 1 ∷ 0 ∷ 1 ∷ 1 ∷ 1 ∷ 1 ∷ [] }
    ∷ record { yields = leaves 0 (only 9); paper = 0 ∷ 0 ∷ 0 ∷ 0 ∷ 0 ∷ 0 ∷ 0 ∷ 0 ∷ 0 ∷ 0 ∷ 1 ∷ zero7 } ∷ []

-- the first fence passed: what lies before it is there, whatever the choice
unfoldable pub second_stretch : List Trial
second_stretch =
    record { yields = leaves 1 none; paper = 1 ∷ 0 ∷ 1 ∷ 1 ∷ 1 ∷ 1 ∷ 1 ∷ 1 ∷ 1 ∷ 1 ∷ 1 ∷ (all7 ++ zero7) }
    ∷ record { yields = leaves 1 every; paper = 1 ∷ 2 ∷ 2 ∷ 2 ∷ 2 ∷ 2 ∷ 2 ∷ 2 ∷ 2 ∷ 2 ∷ 2 ∷ (all7 ++ all7) }
    ∷ record { yields = leaves 1 (all_but 0); paper = 1 ∷ 0 ∷ 2 ∷ 2 ∷ 2 ∷ 2 ∷ 2 ∷ 2 ∷ 2 ∷ 2 ∷ 2 ∷ (all7 ++ all7) }
    ∷ record { yields = leaves 1 (only 1); paper = 1 ∷ 0 ∷ 2 ∷ 1 ∷ 1 ∷ 1 ∷ 1 ∷ 1 ∷ 1 ∷ 1 ∷ 1 ∷ (all7 ++ zero7) }
    ∷ record { yields = leaves 1 (all_but 9); paper = 1 ∷ 2 ∷ 2 ∷ 2 ∷ 2 ∷ 2 ∷ 2 ∷ 2 ∷ 2 ∷ 2 ∷ 1 ∷ (all7 ++ (1 ∷ 1 ∷ 1 ∷ 1 ∷ 1 ∷ 1 ∷ 0 ∷ [])) } ∷ []

-- both passed: the third stretch, which no fence ends
unfoldable pub third_stretch : List Trial
third_stretch =
    record { yields = leaves 2 none; paper = 1 ∷ 2 ∷ 2 ∷ 2 ∷ 2 ∷ 2 ∷ 2 ∷ 2 ∷ 2 ∷ 2 ∷ 2 ∷ (all7 ++ (all7 ++ zero7)) }
    ∷ record { yields = leaves 2 every; paper = 3 ∷ 2 ∷ 3 ∷ 3 ∷ 3 ∷ 3 ∷ 3 ∷ 3 ∷ 3 ∷ 3 ∷ 3 ∷ (all7 ++ (all7 ++ all7)) }
    ∷ record { yields = leaves 2 (only 0); paper = 3 ∷ 2 ∷ 2 ∷ 2 ∷ 2 ∷ 2 ∷ 2 ∷ 2 ∷ 2 ∷ 2 ∷ 2 ∷ (all7 ++ (all7 ++ zero7)) } ∷ []

unfoldable pub table : List Trial
table = first_stretch ++ (second_stretch ++ third_stretch)
