-- `unit_hours_book::late` meets its contract. Assumes nothing.
use Rattle.unit_hours_book.proofs.EventLaws.{late-before, late-fits, late-past}
use Rattle.unit_hours_book.proofs.late.Statement.{statement}
use Rattle.unit_hours_book.proofs.late.Tie as tie

returns : tie.Need-returns-then-second-p
returns c = late-before _ _ _ c.if-second-p.true

returns-2 : tie.Need-returns-then-figure-lt4294967296
returns-2 c = late-fits _ _ _ c.if-second-p.false c.if-figure-lt4294967296.true

returns-3 : tie.Need-returns-else-figure-lt4294967296
returns-3 c = late-past _ _ _ c.if-second-p.false c.if-figure-lt4294967296.false

pub late_spec : {M : Type 1} → statement M
late_spec = tie.close (tie.spec returns returns-2 returns-3)
