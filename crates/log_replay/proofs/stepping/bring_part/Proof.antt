-- `log_replay::bring_part` meets its contract. Assumes nothing.
use mathlib.Core.Path.{◌≡◌, sym, ap}
use Prim.Native.Nat.{◌-◌, ◌*◌}
use native.Mathlib.Omega.{arith}
use borrow.Author.Rules.{rules}
use lib.ListN.{length}
use Rattle.log_replay.specs.Words.{touches}
use Rattle.log_replay.proofs.RestoreLaws.{empty-word}
use Rattle.log_replay.proofs.StepLaws.{span_none, part_none, none-stepped}
use Rattle.log_replay.proofs.stepping.bring_part.Statement.{statement}
use Rattle.log_replay.proofs.stepping.bring_part.Tie as tie

mul-if1 : tie.Need-offset_bounds-heads-w
mul-if1 c = omega (arith, c.requires.0.chained.room.words, c.requires.0.word)

shared-slice-read-if1 : tie.Need-bounds-heads-w
shared-slice-read-if1 c = omega (arith, c.requires.0.chained.room.words, c.requires.0.word)

returns : tie.Need-returns-then-heads-w-eq0
returns c =
    let q = c.requires in
    let p = q.0 in
    let a = c.args in
    let e = part_none _ _ _ _ _ p.walkable a.w (empty-word _ _ _ _ _ p.walkable _ _ _ p.chained _ p.word c.if-heads-w-eq0.true) a.from a.upto p.low p.rises p.high in
    let n = none-stepped _ _ _ _ _ p.walkable _ e a.done a.area.now a.batch.now (68 * a.done) in
    let z : a.upto - a.upto ≡ 0 = omega arith in (
      record {
        rises = p.rises;
        within = omega arith;
        counted = n.0;
        most = omega (arith, q.4);
        full = λ k. absurd (omega (arith, k));
        last_done = λ k. absurd (omega (arith, k));
        copied = n.1;
        written = n.2;
      },
      sym (rw z (ap length (span_none (touches a.log.now a.groups a.homes a.start a.end) a.upto))),
    )

bring-part-of-requires : tie.Need-bring_part_of-requires
bring-part-of-requires c κs = let p = c.requires in (p.0, p.1, p.2, p.3, p.4, p.5, p.6)

same_length : tie.Need-shape_of-area
same_length c = search rules

same-length-2 : tie.Need-shape_of-batch
same-length-2 c = search rules

returns-2 : tie.Need-returns
returns-2 c = c.bring_part_of.ensures

pub bring_part_spec : {M : Type 1} → statement M
bring_part_spec =
    tie.close
    (tie.spec
    mul-if1
    shared-slice-read-if1
    returns
    bring-part-of-requires
    same_length
    same-length-2
    returns-2)
