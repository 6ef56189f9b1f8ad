-- `base_areas::data_homes` meets its contract. Assumes nothing.
use mathlib.Core.Path.{refl}
use Rattle.model.specs.Layout.{home_count}
use Rattle.base_areas.proofs.lengths.data_homes.Statement.{statement}
use Rattle.base_areas.proofs.lengths.data_homes.Tie as tie

returns : tie.Need-returns
unfolding home_count
returns c = refl

pub data_homes_spec : {M : Type 1} → statement M
data_homes_spec = tie.close (tie.spec returns)
