-- `base_state::free_places` meets its contract. Assumes nothing.
use borrow.Author.Rules.{rules}
use native.Mathlib.Omega.{arith}
use Rattle.base_state.proofs.PromiseSums.{free-none, free-some}
use Rattle.base_state.proofs.promises.free_places.Statement.{statement}
use Rattle.base_state.proofs.promises.free_places.Tie as tie

places-requires : tie.Need-places-all-requires
places-requires c κs = search rules

promised-requires : tie.Need-promised-taken-requires
promised-requires c κs = search rules

returns : tie.Need-returns-then-all-taken
returns c = free-none _ _ _ _ c.requires.2 c.places-all.ensures c.promised-taken.ensures (omega arith)

returns-2 : tie.Need-returns
returns-2 c = free-some _ _ _ _ c.requires.2 c.places-all.ensures c.promised-taken.ensures

pub free_places_spec : {M : Type 1} → statement M
free_places_spec = tie.close (tie.spec places-requires promised-requires returns returns-2)
