-- `log_shown::place` meets its contract. Assumes nothing.
use mathlib.Core.Path.{◌∙◌}
use borrow.Author.Rules.{rules}
use Rattle.log_shown.proofs.place.Statement.{statement}
use Rattle.log_shown.proofs.place.Tie as tie

state-requires : tie.Need-state-st-requires
state-requires c κs = search rules

place-by-requires : tie.Need-place_by-requires
place-by-requires c κs = let p = c.requires in rw c.state-st.ensures (p.0, p.2)

returns : tie.Need-returns
returns c = c.place_by.ensures ∙ rw c.state-st.ensures

pub place_spec : {M : Type 1} → statement M
place_spec = tie.close (tie.spec state-requires place-by-requires returns)
