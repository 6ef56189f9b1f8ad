-- `log_gather::walk_twice` meets its contract. Assumes nothing.
use native.Mathlib.Omega.{arith}
use Rattle.model.specs.Bytes.{zeros}
use Rattle.log_gather.proofs.ChainLaws.{emptied}
use Rattle.log_gather.proofs.EndLaws.{end-walkable}
use borrow.Author.Rules.{rules}
use Rattle.log_gather.proofs.twice.walk_twice.Statement.{statement}
use Rattle.log_gather.proofs.twice.walk_twice.Tie as tie

clear-requires : tie.Need-clear-requires
clear-requires c κs = search rules

walk-with-requires : tie.Need-walk_with-found-requires
unfolding zeros
walk-with-requires c κs =
    let p = c.requires in
    let k = c.clear in
    (p.0, p.1, p.2, p.6.few, p.3, p.4, omega (arith, p.5, k.auto), k.ensures)

clear-requires-2 : tie.Need-clear-requires-2
clear-requires-2 c κs = search rules

clear-requires-3 : tie.Need-clear-requires-3
clear-requires-3 c κs = search rules

clear-requires-4 : tie.Need-clear-requires-4
clear-requires-4 c κs = search rules

gather-requires : tie.Need-gather-requires
gather-requires c κs =
    let p = c.requires in
    let w = c.walk_with-found in
    let k = c.clear in (
      end-walkable _ _ _ _ _ _ p.0 (omega arith) p.2 p.3 p.4 w.ensures.0,
      p.6.few,
      emptied _ _ _ _ c.clear-2.ensures c.clear-3.ensures c.clear-4.ensures (omega (arith, p.5, k.auto, w.auto, c.clear-2.auto)) (omega (arith, p.6.words, c.clear-3.auto))
          (omega (arith, p.6.each, k.auto, w.auto, c.clear-2.auto, c.clear-4.auto)),
    )

same_length : tie.Need-shape_of-last
same_length c = search rules

same-length-2 : tie.Need-shape_of-heads
same-length-2 c = search rules

same-length-3 : tie.Need-shape_of-links
same-length-3 c = search rules

returns : tie.Need-returns
returns c = let w = c.walk_with-found.ensures in (w.0, w.1, c.gather.ensures)

pub walk_twice_spec : {M : Type 1} → statement M
walk_twice_spec =
    tie.close
    (tie.spec
    clear-requires
    walk-with-requires
    clear-requires-2
    clear-requires-3
    clear-requires-4
    gather-requires
    same_length
    same-length-2
    same-length-3
    returns)
