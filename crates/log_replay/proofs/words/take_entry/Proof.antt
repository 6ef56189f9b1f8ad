-- `log_replay::take_entry` meets its contract. Assumes nothing.
use native.Mathlib.Omega.{arith}
use borrow.Author.Rules.{rules}
use Rattle.log_replay.proofs.NewestLaws.{taken-now, taken_not}
use Rattle.log_replay.proofs.words.take_entry.Statement.{statement}
use Rattle.log_replay.proofs.words.take_entry.Tie as tie

mul-closer : tie.Need-offset_bounds-last-first
mul-closer c = search rules

shared-slice-read-closer : tie.Need-bounds-last-first
shared-slice-read-closer c = search rules

cast-if1 : tie.Need-overflow_cast-closer
cast-if1 c = omega (arith, c.shared_slice_known-2-1.given c.args.first)

add-offer : tie.Need-overflow_add-offset
add-offer c = search rules

cast-offer : tie.Need-overflow_cast-offset
cast-offer c = search rules

offer-requires : tie.Need-offer-requires
offer-requires c κs = search rules

same_length : tie.Need-shape_of-closers
same_length c = search rules

same-length-2 : tie.Need-shape_of-table
same-length-2 c = search rules

same-length-3 : tie.Need-shape_of-map
same-length-3 c = search rules

returns : tie.Need-returns-then-closer-offset
returns c = taken-now _ _ _ _ _ _ c.if-closer-offset.true c.offer.ensures

returns-2 : tie.Need-returns-else-closer-offset
returns-2 c = taken_not _ _ _ _ _ c.if-closer-offset.false

pub take_entry_spec : {M : Type 1} → statement M
take_entry_spec =
    tie.close
    (tie.spec
    mul-closer
    shared-slice-read-closer
    cast-if1
    add-offer
    cast-offer
    offer-requires
    same_length
    same-length-2
    same-length-3
    returns
    returns-2)
