-- `call_rights::all_zeros` meets its contract. Assumes nothing.
use borrow.Author.Rules.{rules}
use mathlib.Core.Path.{sym, ◌∙◌}
use native.Mathlib.Omega.{arith}
use Rattle.call_rights.proofs.PlaceLaws.{fits, zero-by}
use Rattle.call_rights.proofs.RightsLaws.{zeros-stop}
use Rattle.call_rights.proofs.list.all_zeros.Statement.{statement}
use Rattle.call_rights.proofs.list.all_zeros.Tie as tie

place-requires : tie.Need-place-found-requires
place-requires c κs = let p = c.requires in (p.0.search, p.1, p.0.holds p.2, p.0.low, omega arith, p.2)

is-zero-requires : tie.Need-is_zero-requires
is-zero-requires c κs = let p = c.requires in (omega (arith, p.0.long, p.2), omega arith, fits _ _ _ _ _ c.place-found.ensures p.0.search)

returns : tie.Need-returns-then-not-is_zero
returns c = let p = c.requires in zeros-stop _ _ _ _ _ p.0 p.2 0 _ (omega arith) (zero-by _ _ _ _ _ _ _ c.place-found.ensures _ c.is_zero.ensures) (c.if-not-is_zero.true)

no-list-requires : tie.Need-no_list-requires
no-list-requires c κs = let p = c.requires in (p.0, p.1, p.2, sym (zero-by _ _ _ _ _ _ _ c.place-found.ensures _ c.is_zero.ensures) ∙ c.if-not-is_zero.false)

returns-2 : tie.Need-returns
returns-2 c = search rules

pub all_zeros_spec : {M : Type 1} → statement M
all_zeros_spec = tie.close (tie.spec place-requires is-zero-requires returns no-list-requires returns-2)
