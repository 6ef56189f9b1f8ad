-- `base_state::places` meets its contract. Assumes nothing.
use borrow.Author.Rules.{rules}
use native.Mathlib.Omega.{arith}
use Rattle.model.specs.State.{places}
use Rattle.base_state.proofs.PromiseSums.{position-most}
use Rattle.base_state.proofs.promises.places.Statement.{statement}
use Rattle.base_state.proofs.promises.places.Tie as tie

add-result : tie.Need-overflow_add-result
add-result c = search rules

mul-result : tie.Need-overflow_mul-result
mul-result c = search rules

next-position-requires : tie.Need-next_position-requires
next-position-requires c κs = search rules

sub-result : tie.Need-overflow_sub-result
sub-result c = omega (arith, c.next_position.ensures, position-most _ c.requires)

returns : tie.Need-returns
unfolding places
returns c = rw c.next_position.ensures

pub places_spec : {M : Type 1} → statement M
places_spec = tie.close (tie.spec add-result mul-result next-position-requires sub-result returns)
