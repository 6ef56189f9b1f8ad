-- `base_state::fresh_numbers` meets its contract. Assumes nothing.
use borrow.Author.Rules.{rules}
use Rattle.model.specs.State.{fresh_numbers}
use Rattle.base_state.proofs.fields.fresh_numbers.Statement.{statement}
use Rattle.base_state.proofs.fields.fresh_numbers.Tie as tie

clear-requires : tie.Need-clear-requires
clear-requires c κs = search rules

set-groups-requires : tie.Need-set_groups-requires
set-groups-requires c κs = search rules

set-homes-requires : tie.Need-set_homes-requires
set-homes-requires c κs = search rules

set-start-requires : tie.Need-set_start-requires
set-start-requires c κs = search rules

set-next-requires : tie.Need-set_next-requires
set-next-requires c κs = search rules

mul-position : tie.Need-overflow_mul-position
mul-position c = search rules

set-settled-requires : tie.Need-set_settled-requires
set-settled-requires c κs = search rules

set-fenced-requires : tie.Need-set_fenced-requires
set-fenced-requires c κs = search rules

set-durable-requires : tie.Need-set_durable-requires
set-durable-requires c κs = search rules

same_length : tie.Need-shape_of-s
same_length c = search rules

returns : tie.Need-returns
unfolding fresh_numbers
returns c =
    rw (
      c.set_durable.ensures,
      c.set_fenced.ensures,
      c.set_settled.ensures,
      c.set_next.ensures,
      c.set_start.ensures,
      c.set_homes.ensures,
      c.set_groups.ensures,
      c.clear.ensures,
    )

pub fresh_numbers_spec : {M : Type 1} → statement M
fresh_numbers_spec =
    tie.close
    (tie.spec
    clear-requires
    set-groups-requires
    set-homes-requires
    set-start-requires
    set-next-requires
    mul-position
    set-settled-requires
    set-fenced-requires
    set-durable-requires
    same_length
    returns)
