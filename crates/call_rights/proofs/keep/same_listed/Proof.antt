-- `call_rights::same_listed` meets its contract. Assumes nothing.
use borrow.Author.Rules.{rules}
use Rattle.call_rights.proofs.KeepLaws.{stop-first, stop-second, stop-third, all_same}
use Rattle.call_rights.proofs.keep.same_listed.Statement.{statement}
use Rattle.call_rights.proofs.keep.same_listed.Tie as tie

same-at-requires : tie.Need-same_at-requires
same-at-requires c κs = search rules

returns : tie.Need-returns-then-not-same_at
returns c = stop-first _ _ _ c.same_at.ensures (c.if-not-same_at.true)

same-at-requires-2 : tie.Need-same_at-requires-2
same-at-requires-2 c κs = search rules

returns-2 : tie.Need-returns-then-not-same_at-2
returns-2 c = stop-second _ _ _ _ c.same_at.ensures (c.if-not-same_at.false) c.same_at-2.ensures (c.if-not-same_at-2.true)

same-at-requires-3 : tie.Need-same_at-requires-3
same-at-requires-3 c κs = search rules

returns-3 : tie.Need-returns-then-not-same_at-3
returns-3 c = stop-third _ _ _ _ _ c.same_at.ensures (c.if-not-same_at.false) c.same_at-2.ensures (c.if-not-same_at-2.false) c.same_at-3.ensures (c.if-not-same_at-3.true)

same-at-requires-4 : tie.Need-same_at-requires-4
same-at-requires-4 c κs = search rules

returns-4 : tie.Need-returns
returns-4 c = all_same _ _ _ _ _ _ c.same_at.ensures (c.if-not-same_at.false) c.same_at-2.ensures (c.if-not-same_at-2.false) c.same_at-3.ensures (c.if-not-same_at-3.false) c.same_at-4.ensures

pub same_listed_spec : {M : Type 1} → statement M
same_listed_spec =
    tie.close
    (tie.spec
    same-at-requires
    returns
    same-at-requires-2
    returns-2
    same-at-requires-3
    returns-3
    same-at-requires-4
    returns-4)
