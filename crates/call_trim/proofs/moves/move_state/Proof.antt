-- `call_trim::move_strip` meets its contract. Assumes nothing.
use mathlib.Core.Path.{refl}
use borrow.Author.Rules.{rules}
use Rattle.call_trim.proofs.TrimmingLaws.{state-moved}
use Rattle.call_trim.proofs.moves.move_state.Statement.{statement}
use Rattle.call_trim.proofs.moves.move_state.Tie as tie

set-start-requires : tie.Need-set_start-requires
set-start-requires c κs = search rules

mul-set-fenced : tie.Need-overflow_mul-st
mul-set-fenced c = search rules

set-fenced-requires : tie.Need-set_fenced-requires
set-fenced-requires c κs = search rules

kept-last-requires : tie.Need-kept_last-last-requires
kept-last-requires c κs = search rules

set-last-requires : tie.Need-set_last-requires
set-last-requires c κs = search rules

same_length : tie.Need-shape_of-state
same_length c = search rules

returns : tie.Need-returns
returns c =
    state-moved _ _ _ _ _ _ _ _ c.set_start.ensures c.set_fenced.ensures refl c.kept_last-last.ensures
    c.set_last.ensures

pub move_state_spec : {M : Type 1} → statement M
move_state_spec =
    tie.close
    (tie.spec
    set-start-requires
    mul-set-fenced
    set-fenced-requires
    kept-last-requires
    set-last-requires
    same_length
    returns)
