-- `object_machine::fields::set_middle` meets its contract. Assumes nothing.
use Rattle.object_machine.specs.Control.{middle_fields, put_numbers}
use borrow.Author.Rules.{rules}
use Rattle.object_machine.proofs.fields.set_middle.Statement.{statement}
use Rattle.object_machine.proofs.fields.set_middle.Tie as tie

put-number-requires : tie.Need-put_number-requires
put-number-requires c κs = search rules

put-number-requires-2 : tie.Need-put_number-requires-2
put-number-requires-2 c κs = search rules

put-number-requires-3 : tie.Need-put_number-requires-3
put-number-requires-3 c κs = search rules

put-number-requires-4 : tie.Need-put_number-requires-4
put-number-requires-4 c κs = search rules

put-number-requires-5 : tie.Need-put_number-requires-5
put-number-requires-5 c κs = search rules

put-number-requires-6 : tie.Need-put_number-requires-6
put-number-requires-6 c κs = search rules

same_length : tie.Need-shape_of-s
same_length c = search rules

returns : tie.Need-returns
unfolding put_numbers middle_fields
returns c = rw (c.put_number-6.ensures, c.put_number-5.ensures, c.put_number-4.ensures, c.put_number-3.ensures, c.put_number-2.ensures, c.put_number.ensures)

pub set_middle_spec : {M : Type 1} → statement M
set_middle_spec = tie.close (tie.spec put-number-requires put-number-requires-2 put-number-requires-3 put-number-requires-4 put-number-requires-5 put-number-requires-6 same_length returns)
