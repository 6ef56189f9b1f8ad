-- `call_open::open_sign` meets its contract. Assumes nothing.
use mathlib.Core.Path.{sym, ◌∙◌}
use borrow.Author.Rules.{rules}
use Rattle.call_open.proofs.OpenLaws.{sign_small, sign-told}
use Rattle.call_open.proofs.opening.open_sign.Statement.{statement}
use Rattle.call_open.proofs.opening.open_sign.Tie as tie

returns : tie.Need-returns-then-homes-lt12
returns c = sign_small _ _ c.if-homes-lt12.true

all-zero-requires : tie.Need-all_zero-requires
all-zero-requires c κs = search rules

returns-2 : tie.Need-returns-then-all_zero
returns-2 c = sign-told _ _ _ c.if-homes-lt12.false (sym c.if-all_zero.true ∙ c.all_zero.ensures)

returns-3 : tie.Need-returns
returns-3 c = sign-told _ _ _ c.if-homes-lt12.false (sym c.if-all_zero.false ∙ c.all_zero.ensures)

pub open_sign_spec : {M : Type 1} → statement M
open_sign_spec = tie.close (tie.spec returns all-zero-requires returns-2 returns-3)
