-- `object_runner::asked` meets its contract. Assumes nothing.
use Rattle.object_runner.proofs.AskedLaws.{asked-landing, asked-none, asked-many, asked-beyond, asked-headed, asked-stage}
use Rattle.object_runner.proofs.asked.Statement.{statement}
use Rattle.object_runner.proofs.asked.Tie as tie

returns : tie.Need-returns-then-landing-gt1
returns c = asked-landing _ _ _ _ _ c.if-landing-gt1.true

returns-2 : tie.Need-returns-then-groups-lt1
returns-2 c = asked-none _ _ _ _ _ c.if-landing-gt1.false c.if-groups-lt1.true

returns-3 : tie.Need-returns-then-groups-gt1024
returns-3 c = asked-many _ _ _ _ _ c.if-landing-gt1.false c.if-groups-lt1.false c.if-groups-gt1024.true

returns-4 : tie.Need-returns-then-c-size
returns-4 c =
    asked-beyond _ _ _ _ _ c.if-landing-gt1.false c.if-groups-lt1.false c.if-groups-gt1024.false c.if-c-size.true

returns-5 : tie.Need-returns-then-c-next
returns-5 c =
    asked-headed _ _ _ _ _ c.if-landing-gt1.false c.if-groups-lt1.false c.if-groups-gt1024.false c.if-c-size.false c.if-c-next.true

returns-6 : tie.Need-returns
returns-6 c =
    asked-stage _ _ _ _ _ c.if-landing-gt1.false c.if-groups-lt1.false c.if-groups-gt1024.false c.if-c-size.false c.if-c-next.false

pub asked_spec : {M : Type 1} → statement M
asked_spec = tie.close (tie.spec returns returns-2 returns-3 returns-4 returns-5 returns-6)
