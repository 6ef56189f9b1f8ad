-- The ring slot and the turn that a pass over the log's groups keeps.
use Rattle.std.specs.Prelude.{◌≡◌, ℕ, ◌%◌, ◌<◌}
use Rattle.model.specs.Layout.{turn_of}
use Rattle.log_scan.specs.declared.slots.RingSlot.{RingSlot}

-- "at each group that the walk visits the kept slot is the group's number mod G", and the kept turn is its turn, for the group with number n [S-20]
pub record SlotOf (groups n : ℕ) (at : RingSlot) : Type 0 where
  pub same : at.slot ≡ n % groups
  pub low : at.slot < groups
  pub turn : at.turn ≡ turn_of groups n
  pub bit : at.turn < 2
