-- Answers worked out by the definitions alone, row by row: from, to and pumps.
use mathlib.Core.Path.{◌≡◌, refl}
use mathlib.Core.List.{[], ◌∷◌}
use Rattle.unit_bands_table.specs.Rows.{row, rows, holds, count}
use Rattle.unit_bands_table.specs.Judge.{verdict, depths, fit, all_fit, sound, lowest, uncovered, doubled, overlaps, coverage, judgement}

-- 300 to 9,999 and 0 to 299
parted : judgement (44 ∷ 1 ∷ 15 ∷ 39 ∷ 1 ∷ 0 ∷ 0 ∷ 43 ∷ 1 ∷ 0 ∷ []) ≡ verdict 0 0
unfolding judgement sound all_fit fit rows row coverage overlaps uncovered doubled lowest depths count holds
parted = refl

-- 300 to 9,999 and 0 to 298
bare : judgement (44 ∷ 1 ∷ 15 ∷ 39 ∷ 1 ∷ 0 ∷ 0 ∷ 42 ∷ 1 ∷ 0 ∷ []) ≡ verdict 12 299
unfolding judgement sound all_fit fit rows row coverage overlaps uncovered doubled lowest depths count holds
bare = refl

-- 300 to 9,999 and 0 to 300
shared : judgement (44 ∷ 1 ∷ 15 ∷ 39 ∷ 1 ∷ 0 ∷ 0 ∷ 44 ∷ 1 ∷ 0 ∷ []) ≡ verdict 13 300
unfolding judgement sound all_fit fit rows row coverage overlaps uncovered doubled lowest depths count holds
shared = refl

-- 0 to 300 and 300 to 9,998: both, so 12
both : judgement (0 ∷ 0 ∷ 44 ∷ 1 ∷ 0 ∷ 44 ∷ 1 ∷ 14 ∷ 39 ∷ 1 ∷ []) ≡ verdict 12 9999
unfolding judgement sound all_fit fit rows row coverage overlaps uncovered doubled lowest depths count holds
both = refl

-- 0 to 10,000, and five pumps
deep : judgement (0 ∷ 0 ∷ 16 ∷ 39 ∷ 0 ∷ []) ≡ verdict 11 0
unfolding judgement sound all_fit fit rows row depths
deep = refl

pumped : judgement (0 ∷ 0 ∷ 15 ∷ 39 ∷ 5 ∷ []) ≡ verdict 11 0
unfolding judgement sound all_fit fit rows row depths
pumped = refl
