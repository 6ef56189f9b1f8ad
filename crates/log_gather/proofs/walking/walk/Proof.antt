-- `log_gather::walk` meets its contract. Assumes nothing.
use native.Mathlib.Omega.{arith}
use Rattle.log_gather.proofs.WalkLaws.{cells-beyond, walk-found}
use borrow.Author.Rules.{rules}
use Rattle.log_gather.proofs.walking.walk.Statement.{statement}
use Rattle.log_gather.proofs.walking.walk.Tie as tie

pass-requires : tie.Need-pass-progress-requires
pass-requires c κs = let p = c.requires in (p.0, omega arith, p.2, p.3, p.4, p.5, p.6)

drop-counts-requires : tie.Need-drop_counts-requires
drop-counts-requires c κs =
    let p = c.requires in
    let s = c.pass-progress in (
      omega (arith, s.auto, p.5, p.6.long),
      cells-beyond _ _ _ _ _ _ _ p.3 p.2 p.5 p.6.long s.ensures c.if-progress-ne2.true,
    )

same_length : tie.Need-shape_of-last-then-progress-ne2
same_length c = search rules

same-length-2 : tie.Need-shape_of-heads-then-progress-ne2
same-length-2 c = search rules

same-length-3 : tie.Need-shape_of-links-then-progress-ne2
same-length-3 c = search rules

returns : tie.Need-returns-then-progress-ne2
returns c =
    let p = c.requires in
    let s = c.pass-progress in
    λ h. walk-found _ _ _ _ _ _ _ p.3 p.2 p.5 p.6.long s.ensures h _ c.drop_counts.ensures
    (omega (arith, c.drop_counts.auto, s.auto))

same-length-4 : tie.Need-shape_of-last-else-progress-ne2
same-length-4 c = search rules

same-length-5 : tie.Need-shape_of-heads-else-progress-ne2
same-length-5 c = search rules

same-length-6 : tie.Need-shape_of-links-else-progress-ne2
same-length-6 c = search rules

returns-2 : tie.Need-returns-else-progress-ne2
returns-2 c = λ h. absurd (h c.if-progress-ne2.false)

pub walk_spec : {M : Type 1} → statement M
walk_spec =
    tie.close
    (tie.spec
    pass-requires
    drop-counts-requires
    same_length
    same-length-2
    same-length-3
    returns
    same-length-4
    same-length-5
    same-length-6
    returns-2)
