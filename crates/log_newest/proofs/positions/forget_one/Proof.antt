-- `log_newest::forget_one` meets its contract. Assumes nothing.
use borrow.Author.Rules.{rules}
use native.Mathlib.Omega.{arith}
use Rattle.log_newest.proofs.PositionLaws.{forgotten, remembered}
use Rattle.log_newest.proofs.positions.forget_one.Statement.{statement}
use Rattle.log_newest.proofs.positions.forget_one.Tie as tie

kept-requires : tie.Need-kept-requires
kept-requires c κs = search rules

same_length : tie.Need-shape_of-newest-then-kept-bound
same_length c = search rules

returns : tie.Need-returns-then-kept-bound
returns c = remembered _ _ _ _ c.kept.ensures (omega (arith, c.if-kept-bound.true))

keep-requires : tie.Need-keep-requires
keep-requires c κs = search rules

same-length-2 : tie.Need-shape_of-newest
same-length-2 c = search rules

returns-2 : tie.Need-returns
returns-2 c =
    forgotten _ _ _ _ _ c.kept.ensures (omega (arith, c.if-kept-bound.false)) c.keep.ensures

pub forget_one_spec : {M : Type 1} → statement M
forget_one_spec =
    tie.close (tie.spec kept-requires same_length returns keep-requires same-length-2 returns-2)
