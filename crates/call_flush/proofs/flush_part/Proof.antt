-- `call_flush::flush_part` meets its contract. Assumes nothing.
use mathlib.Core.Path.{◌∙◌}
use native.Mathlib.Omega.{arith}
use Rattle.call_store.proofs.CallLaws.{slot-fits, length-slot}
use Rattle.call_flush.proofs.FlushLaws.{part-written}
use borrow.Author.Rules.{rules}
use Rattle.call_flush.proofs.flush_part.Statement.{statement}
use Rattle.call_flush.proofs.flush_part.Tie as tie

first-slot-requires : tie.Need-first_slot-slot-requires
first-slot-requires c κs = search rules

group-write-requires : tie.Need-group_write-at-requires
group-write-requires c κs =
    let a = c.args in
    omega (arith, slot-fits a.st.next a.st.groups _ c.requires.2 c.requires.3, c.first_slot-slot.ensures.same)

fence-requires : tie.Need-fence-requires
fence-requires c κs = search rules

add-next : tie.Need-overflow_add-next
add-next c = search rules

set-next-requires : tie.Need-set_next-requires
set-next-requires c κs = search rules

set-filled-requires : tie.Need-set_filled-requires
set-filled-requires c κs = search rules

mul-set-fenced : tie.Need-overflow_mul-next
mul-set-fenced c = search rules

set-fenced-requires : tie.Need-set_fenced-requires
set-fenced-requires c κs = search rules

same_length : tie.Need-shape_of-state
same_length c = search rules

same-length-2 : tie.Need-shape_of-batch
same-length-2 c = search rules

returns : tie.Need-returns
returns c =
    let e = c.first_slot-slot.ensures.same in
    let p = c.requires in (
      c.set_fenced.ensures ∙ rw (c.set_filled.ensures, c.set_next.ensures),
      part-written _ _ _ _ _ _ (length-slot _ _ _ p.2 p.3) (c.group_write-at.ensures.1 ∙ rw e) c.group_write-at.ensures.0
          c.fence.ensures.1,
    )

pub flush_part_spec : {M : Type 1} → statement M
flush_part_spec =
    tie.close
    (tie.spec
    first-slot-requires
    group-write-requires
    fence-requires
    add-next
    set-next-requires
    set-filled-requires
    mul-set-fenced
    set-fenced-requires
    same_length
    same-length-2
    returns)
