-- `call_settle::end_round` meets its contract. Assumes nothing.
use mathlib.Core.Path.{◌∙◌}
use Rattle.model.specs.State.{fixed_in}
use Rattle.model.specs.Effects.{round_ended}
use borrow.Author.Rules.{rules}
use Rattle.call_settle.proofs.rounds.end_round.Statement.{statement}
use Rattle.call_settle.proofs.rounds.end_round.Tie as tie

mul_next : tie.Need-overflow_mul-next
mul_next c = search rules

sub-set-settled : tie.Need-overflow_sub-st
sub-set-settled c = search rules

set-settled-requires : tie.Need-set_settled-requires
set-settled-requires c κs = search rules

set-fenced-requires : tie.Need-set_fenced-requires
set-fenced-requires c κs = search rules

set-round-requires : tie.Need-set_round-requires
set-round-requires c κs = search rules

set-cursor-requires : tie.Need-set_cursor-requires
set-cursor-requires c κs = search rules

same_length : tie.Need-shape_of-state
same_length c = search rules

returns : tie.Need-returns
unfolding round_ended fixed_in
returns c =
    c.set_cursor.ensures ∙ rw (c.set_round.ensures, c.set_fenced.ensures, c.set_settled.ensures)

pub end_round_spec : {M : Type 1} → statement M
end_round_spec =
    tie.close
    (tie.spec
    mul_next
    sub-set-settled
    set-settled-requires
    set-fenced-requires
    set-round-requires
    set-cursor-requires
    same_length
    returns)
