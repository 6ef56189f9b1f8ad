-- `object_machine::fields::read_control` meets its contract. Assumes nothing.
use native.Mathlib.Omega.{arith}
use Rattle.object_machine.specs.Control.{control_of}
use borrow.Author.Rules.{rules}
use Rattle.object_machine.proofs.fields.read_control.Statement.{statement}
use Rattle.object_machine.proofs.fields.read_control.Tie as tie

number-requires : tie.Need-number-condition-requires
number-requires c κs = search rules

number-requires-2 : tie.Need-number-error-requires
number-requires-2 c κs = search rules

number-requires-3 : tie.Need-number-stage-requires
number-requires-3 c κs = search rules

number-requires-4 : tie.Need-number-op-requires
number-requires-4 c κs = search rules

number-requires-5 : tie.Need-number-writer-requires
number-requires-5 c κs = search rules

number-requires-6 : tie.Need-number-home-requires
number-requires-6 c κs = search rules

number-requires-7 : tie.Need-number-number-requires
number-requires-7 c κs = search rules

number-requires-8 : tie.Need-number-tried-requires
number-requires-8 c κs = search rules

number-requires-9 : tie.Need-number-from-requires
number-requires-9 c κs = search rules

number-requires-10 : tie.Need-number-figure-requires
number-requires-10 c κs = search rules

number-requires-11 : tie.Need-number-size-requires
number-requires-11 c κs = search rules

number-requires-12 : tie.Need-number-at-requires
number-requires-12 c κs = search rules

number-requires-13 : tie.Need-number-headed-requires
number-requires-13 c κs = search rules

number-requires-14 : tie.Need-number-step-requires
number-requires-14 c κs = search rules

number-requires-15 : tie.Need-number-landing-requires
number-requires-15 c κs = (omega arith, omega (arith, c.requires))

number-requires-16 : tie.Need-number-room-requires
number-requires-16 c κs = (omega arith, omega (arith, c.requires))

number-requires-17 : tie.Need-number-lists-requires
number-requires-17 c κs = (omega arith, omega (arith, c.requires))

returns : tie.Need-returns
unfolding control_of
returns c = rw (c.number-condition.ensures.0, c.number-error.ensures.0, c.number-stage.ensures.0, c.number-op.ensures.0, c.number-writer.ensures.0, c.number-home.ensures.0, c.number-number.ensures.0, c.number-tried.ensures.0, c.number-from.ensures.0, c.number-figure.ensures.0, c.number-size.ensures.0, c.number-at.ensures.0, c.number-headed.ensures.0, c.number-step.ensures.0, c.number-landing.ensures.0, c.number-room.ensures.0, c.number-lists.ensures.0)

pub read_control_spec : {M : Type 1} → statement M
read_control_spec = tie.close (tie.spec number-requires number-requires-2 number-requires-3 number-requires-4 number-requires-5 number-requires-6 number-requires-7 number-requires-8 number-requires-9 number-requires-10 number-requires-11 number-requires-12 number-requires-13 number-requires-14 number-requires-15 number-requires-16 number-requires-17 returns)
