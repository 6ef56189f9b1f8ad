-- `call_settle::settle_state` meets its contract. Assumes nothing.
use mathlib.Core.Path.{◌∙◌}
use borrow.Author.Rules.{rules}
use Rattle.call_settle.proofs.settling.settle_state.Statement.{statement}
use Rattle.call_settle.proofs.settling.settle_state.Tie as tie

mul_next : tie.Need-overflow_mul-next
mul_next c = search rules

set-settled-requires : tie.Need-set_settled-requires
set-settled-requires c κs = search rules

set-fenced-requires : tie.Need-set_fenced-requires
set-fenced-requires c κs = search rules

same_length : tie.Need-shape_of-state
same_length c = search rules

returns : tie.Need-returns
returns c =
    c.set_fenced.ensures ∙ rw c.set_settled.ensures

pub settle_state_spec : {M : Type 1} → statement M
settle_state_spec =
    tie.close
    (tie.spec mul_next set-settled-requires set-fenced-requires same_length returns)
