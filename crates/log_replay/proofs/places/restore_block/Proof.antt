-- `log_replay::restore_block` meets its contract. Assumes nothing.
use native.Mathlib.Nat.{mod-lt}
use native.Mathlib.Omega.{arith}
use borrow.Author.Rules.{rules}
use Rattle.log_replay.proofs.PlaceLaws.{offset-slot, copied}
use Rattle.log_replay.proofs.places.restore_block.Statement.{statement}
use Rattle.log_replay.proofs.places.restore_block.Tie as tie

slot-after-requires : tie.Need-slot_after-place-requires
slot-after-requires c κs =
    let a = c.args in
    let m = mod-lt a.start {m = a.groups} (omega arith) in
    (omega (arith, m), omega arith, omega arith)

mul-copy-entry : tie.Need-overflow_mul-home
mul-copy-entry c = search rules

copy-entry-requires : tie.Need-copy_entry-requires
copy-entry-requires c κs = search rules

same_length : tie.Need-shape_of-area
same_length c = search rules

returns : tie.Need-returns
returns c =
    copied _ _ _ _ _ _ _ _ c.copy_entry.ensures (offset-slot _ _ _ _ _ c.requires.5 c.slot_after-place.ensures.0)

pub restore_block_spec : {M : Type 1} → statement M
restore_block_spec = tie.close (tie.spec slot-after-requires mul-copy-entry copy-entry-requires same_length returns)
