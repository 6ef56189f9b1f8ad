-- `call_read::kept_entry` meets its contract. Assumes nothing.
use borrow.Author.Rules.{rules}
use Rattle.call_read.proofs.ReadLaws.{kept-none, kept-some, kept_low, place-hole, place-entry}
use mathlib.Core.Path.{refl}
use native.Mathlib.Omega.{arith}
use Rattle.call_read.proofs.newest.kept_entry.Statement.{statement}
use Rattle.call_read.proofs.newest.kept_entry.Tie as tie

kept-requires : tie.Need-kept-position-requires
kept-requires c κs = omega (arith, c.requires.2, c.requires.3)

place-requires : tie.Need-place-requires
place-requires c κs = search rules

returns : tie.Need-returns-then-place-eq0
returns c = kept-none _ _ _ _ _ _ c.kept-position.ensures (place-hole _ _ _ _ _ c.place.ensures c.if-place-eq0.true) refl

add-result : tie.Need-overflow_add-result
add-result c = omega (arith, kept_low _ _ _ _ _ _ c.kept-position.ensures (place-entry _ _ _ _ _ c.place.ensures c.if-place-eq0.false) c.requires.0 refl)

returns-2 : tie.Need-returns
returns-2 c = kept-some _ _ _ _ _ _ c.kept-position.ensures (place-entry _ _ _ _ _ c.place.ensures c.if-place-eq0.false) refl

pub kept_entry_spec : {M : Type 1} → statement M
kept_entry_spec = tie.close (tie.spec kept-requires place-requires returns add-result returns-2)
