-- `log_replay::word_from` meets its contract: the part of the log is the group of the offset. Assumes nothing.
use mathlib.Core.Path.{refl, ◌∙◌}
use native.Mathlib.Nat.{mod-lt}
use native.Mathlib.Omega.{arith}
use Rattle.log_replay.proofs.PlaceLaws.{offset-slot, entry_read, word_read}
use borrow.Author.Rules.{rules}
use Rattle.log_replay.proofs.places.word_from.Statement.{statement}
use Rattle.log_replay.proofs.places.word_from.Tie as tie

slot-after-requires : tie.Need-slot_after-requires
slot-after-requires c κs =
    let a = c.args in
    let m = mod-lt a.start {m = a.groups} (omega arith) in
    (omega (arith, m), omega arith, omega arith)

mul-from : tie.Need-overflow_mul-from
mul-from c = search rules

add-from : tie.Need-overflow_add-from
add-from c = search rules

add-group : tie.Need-overflow_add-group
add-group c = search rules

sub-group : tie.Need-slice_bounds-group-count
sub-group c = search rules

part-group-start : tie.Need-slice_bounds-group-start
part-group-start c = search rules

part-group-end : tie.Need-slice_bounds-group-end
part-group-end c = search rules

mul-number : tie.Need-overflow_mul-offset
mul-number c = search rules

add-number : tie.Need-overflow_add-offset
add-number c = search rules

number-requires : tie.Need-number-requires
number-requires c κs = search rules

returns : tie.Need-returns
returns c homes h =
    word_read _ _ _ _ _ _ c.number.ensures.0
    ∙ entry_read _ _ homes _ _ _ _ (offset-slot _ _ _ _ _ c.requires.5 c.slot_after.ensures.0) refl h

pub word_from_spec : {M : Type 1} → statement M
word_from_spec =
    tie.close
    (tie.spec
    slot-after-requires
    mul-from
    add-from
    add-group
    sub-group
    part-group-start
    part-group-end
    mul-number
    add-number
    number-requires
    returns)
