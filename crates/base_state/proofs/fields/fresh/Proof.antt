-- `base_state::fresh` meets its contract. Assumes nothing.
use borrow.Author.Rules.{rules}
use Rattle.model.specs.State.{fresh_state}
use Rattle.base_state.proofs.fields.fresh.Statement.{statement}
use Rattle.base_state.proofs.fields.fresh.Tie as tie

fresh-numbers-requires : tie.Need-fresh_numbers-requires
fresh-numbers-requires c κs = search rules

set-listed-requires : tie.Need-set_listed-requires
set-listed-requires c κs = search rules

set-list-sign-requires : tie.Need-set_list_sign-requires
set-list-sign-requires c κs = search rules

same_length : tie.Need-shape_of-s
same_length c = search rules

returns : tie.Need-returns
unfolding fresh_state
returns c =
    rw (c.set_list_sign.ensures, c.set_listed.ensures, c.fresh_numbers.ensures)

pub fresh_spec : {M : Type 1} → statement M
fresh_spec =
    tie.close
    (tie.spec fresh-numbers-requires set-listed-requires set-list-sign-requires same_length returns)
