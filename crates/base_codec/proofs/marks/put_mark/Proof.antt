-- `base_codec::put_mark` meets its contract. Assumes nothing.
use borrow.Author.Rules.{rules}
use native.Mathlib.Omega.{arith}
use lib.ListN.{length-set}
use Rattle.base_codec.proofs.MarkLaws.{mark-put}
use Rattle.base_codec.proofs.marks.put_mark.Statement.{statement}
use Rattle.base_codec.proofs.marks.put_mark.Tie as tie

shared-slice-read-dst : tie.Need-bounds-mark-0
shared-slice-read-dst c = search rules

slice-write-dst : tie.Need-bounds-dst-at
slice-write-dst c = search rules

shared-slice-read-dst-2 : tie.Need-bounds-mark-1
shared-slice-read-dst-2 c = search rules

add-dst : tie.Need-overflow_add-dst
add-dst c = search rules

slice-write-dst-2 : tie.Need-bounds-dst-at-2
slice-write-dst-2 c = simp length-set (omega arith)

same_length : tie.Need-shape_of-dst
same_length c = search rules

returns : tie.Need-returns
returns c = mark-put _ _ _ (omega arith)

pub put_mark_spec : {M : Type 1} → statement M
put_mark_spec =
    tie.close
    (tie.spec
    shared-slice-read-dst
    slice-write-dst
    shared-slice-read-dst-2
    add-dst
    slice-write-dst-2
    same_length
    returns)
