-- `prog_codec::blocks` meets its contract: each check is what the calls ensure, computed. Assumes nothing.
use borrow.Author.Rules.{rules}
use mathlib.Core.Path.{ap, ◌∙◌}
use mathlib.Core.List.{List, [], ◌∷◌}
use Prim.Native.Nat.{ℕ}
use lib.Dec.{eqb}
use lib.ListN.{get_or}
use Rattle.model.specs.Bytes.{part, puts, zeros, same}
use Rattle.prog_codec.proofs.blocks.Statement.{statement}
use Rattle.prog_codec.proofs.blocks.Tie as tie

slice-aggregate-clear : tie.Need-slice_bounds-clear-end
slice-aggregate-clear c = search rules

clear-requires : tie.Need-clear-requires
clear-requires c κs = search rules

slice-aggregate-all-zero : tie.Need-slice_bounds-all_zero-end
slice-aggregate-all-zero c = search rules

all-zero-requires : tie.Need-all_zero-requires
all-zero-requires c κs = search rules

expect-requires : tie.Need-expect-requires
unfolding puts part same zeros
expect-requires c κs =
    c.all_zero.ensures ∙ ap (λ (l : List ℕ). same (part l 4 8) (zeros 8)) c.clear.ensures

slice-aggregate-copy : tie.Need-slice_bounds-copy-end
slice-aggregate-copy c = search rules

copy-requires : tie.Need-copy-requires
copy-requires c κs = search rules

array-read-expect : tie.Need-bounds-b-15
array-read-expect c = search rules

expect-requires-2 : tie.Need-expect-requires-2
unfolding puts zeros
expect-requires-2 c κs =
    ap (λ (l : List ℕ). eqb (get_or l 15 0) 98)
    (c.copy.ensures
    ∙ ap (λ (l : List ℕ). puts l 14 (97 ∷ 98 ∷ [])) c.clear.ensures)

returns : tie.Need-returns
returns c = search rules

pub blocks_spec : {M : Type 1} → statement M
blocks_spec =
    tie.close
    (tie.spec slice-aggregate-clear clear-requires slice-aggregate-all-zero all-zero-requires expect-requires slice-aggregate-copy copy-requires array-read-expect expect-requires-2 returns)
