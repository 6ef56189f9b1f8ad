-- `log_replay::count_part` meets its contract. Assumes nothing.
use mathlib.Core.Path.{refl, sym, ap}
use native.Mathlib.Omega.{arith}
use lib.ListN.{length}
use Rattle.log_replay.proofs.RestoreLaws.{empty-word}
use Rattle.log_replay.proofs.StepLaws.{part_none}
use Rattle.log_replay.proofs.stepping.count_part.Statement.{statement}
use Rattle.log_replay.proofs.stepping.count_part.Tie as tie

mul-if1 : tie.Need-offset_bounds-heads-w
mul-if1 c = omega (arith, c.requires.chained.room.words, c.requires.word)

shared-slice-read-if1 : tie.Need-bounds-heads-w
shared-slice-read-if1 c = omega (arith, c.requires.chained.room.words, c.requires.word)

returns : tie.Need-returns-then-heads-w-eq0
returns c =
    let p = c.requires in
    let a = c.args in
    sym (ap length (part_none _ _ _ _ _ p.walkable a.w (empty-word _ _ _ _ _ p.walkable _ _ _ p.chained _ p.word c.if-heads-w-eq0.true) a.from a.upto p.low p.rises p.high))

slice-aggregate-newest-in : tie.Need-slice_bounds-newest_in-end
slice-aggregate-newest-in c = refl

newest-in-requires : tie.Need-newest_in-requires
newest-in-requires c κs = let p = c.requires in (p.walkable, p.chained, p.word, p.at, refl)

slice-aggregate-codes-left : tie.Need-slice_bounds-codes_left-end
slice-aggregate-codes-left c = sym c.newest_in.ensures.each

codes-left-requires : tie.Need-codes_left-requires
codes-left-requires c κs = let p = c.requires in (c.newest_in.ensures.each, p.word, p.low, p.rises, p.high)

returns-2 : tie.Need-returns
returns-2 c = c.codes_left.ensures _ _ _ _ _ _ c.requires.walkable c.newest_in.ensures

pub count_part_spec : {M : Type 1} → statement M
count_part_spec =
    tie.close
    (tie.spec
    mul-if1
    shared-slice-read-if1
    returns
    slice-aggregate-newest-in
    newest-in-requires
    slice-aggregate-codes-left
    codes-left-requires
    returns-2)
