-- `log_shown::ring_place` meets its contract. Assumes nothing.
use Rattle.log_shown.proofs.ThereLaws.{ring-placed}
use borrow.Author.Rules.{rules}
use Rattle.log_shown.proofs.ring.ring_place.Statement.{statement}
use Rattle.log_shown.proofs.ring.ring_place.Tie as tie

sevenths-requires : tie.Need-sevenths-ahead-requires
sevenths-requires c κs = search rules

add-number : tie.Need-overflow_add-number
add-number c = search rules

first-slot-requires : tie.Need-first_slot-at-requires
first-slot-requires c κs = search rules

mul-t6 : tie.Need-overflow_mul-result
mul-t6 c = search rules

sub-t7 : tie.Need-overflow_sub-result
sub-t7 c = search rules

returns : tie.Need-returns
returns c = ring-placed _ _ _ _ _ c.sevenths-ahead.ensures c.first_slot-at.ensures

pub ring_place_spec : {M : Type 1} → statement M
ring_place_spec =
    tie.close (tie.spec sevenths-requires add-number first-slot-requires mul-t6 sub-t7 returns)
