-- `base_state::state` meets its contract. Assumes nothing.
use borrow.Author.Rules.{rules}
use Rattle.model.specs.State.{state_of}
use Rattle.base_state.proofs.fields.state.Statement.{statement}
use Rattle.base_state.proofs.fields.state.Tie as tie

number-requires : tie.Need-number-groups-requires
number-requires c κs = search rules

number-requires-2 : tie.Need-number-homes-requires
number-requires-2 c κs = search rules

number-requires-3 : tie.Need-number-start-requires
number-requires-3 c κs = search rules

number-requires-4 : tie.Need-number-next-requires
number-requires-4 c κs = search rules

number-requires-5 : tie.Need-number-filled-requires
number-requires-5 c κs = search rules

number-requires-6 : tie.Need-number-settled-requires
number-requires-6 c κs = search rules

number-requires-7 : tie.Need-number-fenced-requires
number-requires-7 c κs = search rules

number-requires-8 : tie.Need-number-durable-requires
number-requires-8 c κs = search rules

number-requires-9 : tie.Need-number-last-requires
number-requires-9 c κs = search rules

number-requires-10 : tie.Need-number-round-requires
number-requires-10 c κs = search rules

number-requires-11 : tie.Need-number-cursor-requires
number-requires-11 c κs = search rules

returns : tie.Need-returns
unfolding state_of
returns c =
    rw (
      c.number-groups.ensures.0,
      c.number-homes.ensures.0,
      c.number-start.ensures.0,
      c.number-next.ensures.0,
      c.number-filled.ensures.0,
      c.number-settled.ensures.0,
      c.number-fenced.ensures.0,
      c.number-durable.ensures.0,
      c.number-last.ensures.0,
      c.number-round.ensures.0,
      c.number-cursor.ensures.0,
    )

pub state_spec : {M : Type 1} → statement M
state_spec =
    tie.close
    (tie.spec
    number-requires
    number-requires-2
    number-requires-3
    number-requires-4
    number-requires-5
    number-requires-6
    number-requires-7
    number-requires-8
    number-requires-9
    number-requires-10
    number-requires-11
    returns)
