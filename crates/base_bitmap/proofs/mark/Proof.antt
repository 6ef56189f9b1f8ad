-- `base_bitmap::mark` meets its contract. Assumes nothing.
use borrow.Author.Rules.{rules}
use lib.Bits.{mask_lt}
use Rattle.base_bitmap.proofs.MapLaws.{mark_set, mark-each}
use Rattle.base_bitmap.proofs.mark.Statement.{statement}
use Rattle.base_bitmap.proofs.mark.Tie as tie

shl-ws : tie.Need-overflow_shl-ws
shl-ws c = mask_lt c.args.i 6

mul-ws : tie.Need-offset_bounds-ws-i
mul-ws c = search rules

slice-read-ws : tie.Need-bounds-ws-i
slice-read-ws c = search rules

slice-write-ws : tie.Need-bounds-ws-i-2
slice-write-ws c = search rules

same_length : tie.Need-shape_of-ws
same_length c = search rules

returns : tie.Need-returns
returns c =
    let a = c.args in
    let e = mark_set a.ws.now a.i in
    (e, λ j. rw e (mark-each a.ws.now a.i c.requires j))

pub mark_spec : {M : Type 1} → statement M
mark_spec = tie.close (tie.spec shl-ws mul-ws slice-read-ws slice-write-ws same_length returns)
