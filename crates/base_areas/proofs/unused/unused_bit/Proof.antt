-- `base_areas::unused_bit` meets its contract. Assumes nothing.
use native.Mathlib.Omega.{arith}
use Rattle.base_areas.proofs.UnusedLaws.{bit-before, bit-from}
use borrow.Author.Rules.{rules}
use Rattle.base_areas.proofs.unused.unused_bit.Statement.{statement}
use Rattle.base_areas.proofs.unused.unused_bit.Tie as tie

sub-result : tie.Need-overflow_sub-result
sub-result c = search rules

returns : tie.Need-returns-then-slot-first
returns c =
    let a = c.args in
    (omega arith, λ groups start h f t. bit-before a.slot a.first a.turn groups start h f t c.if-slot-first.true)

returns-2 : tie.Need-returns-else-slot-first
returns-2 c =
    let a = c.args in
    (omega arith, λ groups start h f t. bit-from a.slot a.first a.turn groups start h f t c.if-slot-first.false)

pub unused_bit_spec : {M : Type 1} → statement M
unused_bit_spec = tie.close (tie.spec sub-result returns returns-2)
