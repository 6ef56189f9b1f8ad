-- `unit_hours_book::total_at` meets its contract. Assumes nothing.
use mathlib.Core.Path.{refl}
use borrow.Author.Rules.{rules}
use Rattle.unit_hours_book.specs.Events.{total_at}
use Rattle.unit_hours_book.proofs.EventLaws.{total-before}
use Rattle.unit_hours_book.proofs.total_at.Statement.{statement}
use Rattle.unit_hours_book.proofs.total_at.Tie as tie

sub-result : tie.Need-overflow_sub-result
sub-result c = search rules

add-result : tie.Need-overflow_add-result
add-result c = search rules

returns : tie.Need-returns-then-p-second
unfolding total_at
returns c = refl

returns-2 : tie.Need-returns
returns-2 c = total-before _ _ c.if-p-second.false

pub total_at_spec : {M : Type 1} → statement M
total_at_spec = tie.close (tie.spec sub-result add-result returns returns-2)
