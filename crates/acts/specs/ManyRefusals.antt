-- A refused call on several homes leaves everything that it was lent as it was, field by field, and its number is one of those that refuse.
use Rattle.std.specs.Prelude.{[], ◌∷◌}
use Rattle.model.specs.Refusals.{EachDoneOrUntouched}
use Rattle.acts.specs.Many.{fetch_call, revise_call, transact_call}

-- [S-8]
abbrev pub ManyRefusals : Type 0
ManyRefusals = EachDoneOrUntouched (fetch_call ∷ revise_call ∷ transact_call ∷ [])
