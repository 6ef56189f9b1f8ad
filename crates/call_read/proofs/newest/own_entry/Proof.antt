-- `call_read::own_entry` meets its contract. Assumes nothing.
use borrow.Author.Rules.{rules}
use native.Mathlib.Omega.{arith}
use Rattle.call_read.proofs.ReadLaws.{own-none, own-some, own-stretch}
use Rattle.call_read.proofs.newest.own_entry.Statement.{statement}
use Rattle.call_read.proofs.newest.own_entry.Tie as tie

has-logged-requires : tie.Need-has_logged-requires
has-logged-requires c κs = search rules

returns : tie.Need-returns-then-not-has_logged
returns c = own-none _ _ _ _ _ c.has_logged.ensures (c.if-not-has_logged.true)

next-position-requires : tie.Need-next_position-end-requires
next-position-requires c κs = let s = c.requires.0 in omega (arith, s.next, s.within, s.low, s.most)

newest-own-requires : tie.Need-newest_own-requires
newest-own-requires c κs =
    let p = c.requires in
    (own-stretch _ _ _ _ _ p.0 p.1 c.has_logged.ensures (c.if-not-has_logged.false) c.next_position-end.ensures, p.2)

returns-2 : tie.Need-returns
returns-2 c =
    own-some _ _ _ _ _ _ _ c.has_logged.ensures (c.if-not-has_logged.false) c.next_position-end.ensures c.newest_own.ensures

pub own_entry_spec : {M : Type 1} → statement M
own_entry_spec =
    tie.close
    (tie.spec
    has-logged-requires
    returns
    next-position-requires
    newest-own-requires
    returns-2)
