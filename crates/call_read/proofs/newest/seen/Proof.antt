-- `call_read::seen` meets its contract. Assumes nothing.
use mathlib.Core.Path.{◌∙◌}
use native.Mathlib.Omega.{arith}
use Rattle.call_read.proofs.ReadLaws.{seen-own, seen-kept}
use Rattle.call_read.proofs.newest.seen.Statement.{statement}
use Rattle.call_read.proofs.newest.seen.Tie as tie

own-entry-requires : tie.Need-own_entry-own-requires
own-entry-requires c κs = let p = c.requires in (p.0, p.4, omega (arith, p.0.homes-most, p.5))

returns : tie.Need-returns-then-own-ne0
returns c = seen-own _ _ _ _ _ _ c.own_entry-own.ensures c.if-own-ne0.true

kept-entry-requires : tie.Need-kept_entry-requires
kept-entry-requires c κs = let p = c.requires in (rw (← p.1) p.0, p.2, rw (← p.1) p.3, rw (← p.1) p.5)

returns-2 : tie.Need-returns
returns-2 c = let p = c.requires in seen-kept _ _ _ _ _ _ c.own_entry-own.ensures _ c.if-own-ne0.false (c.kept_entry.ensures ∙ rw p.1)

pub seen_spec : {M : Type 1} → statement M
seen_spec =
    tie.close
    (tie.spec
    own-entry-requires
    returns
    kept-entry-requires
    returns-2)
