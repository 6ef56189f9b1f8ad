-- The block that a read shows.
use Rattle.std.specs.Prelude.{List, ℕ}
use Rattle.model.specs.Effects.{Given, own_else, shown}

abbrev pub read_block : Given → List ℕ
read_block g = own_else g (shown g)
