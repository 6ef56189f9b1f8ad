-- One turn writes one line.
use Rattle.std.proofs.Common.{arith, refl, ap, length, ◌∙◌}
use Rattle.alone_gauges.proofs.MergeLaws.{acceptable-short, place-front, left-all, left-none}
use Rattle.alone_gauges.proofs.LoopLaws.{write-length, write-room, write-more, write-all}
use Rattle.alone_gauges.proofs.merge.write_lines.Goals as goal

pub loop-i-init : goal.loop-i-init
loop-i-init c =
    let a = c.args in
    let short = acceptable-short _ c.requires.0 in
    let other = acceptable-short _ c.requires.1 in
    record {
      first_place = place-front _ c.requires.0;
      second_place = place-front _ c.requires.1;
      rows = refl;
      short = omega arith;
      bytes = refl;
      room = omega (arith, ap length (left-all a.tolerance a.first.now a.second.now));
      size = refl;
    }

pub loop-i-preserved : goal.loop-i-preserved
loop-i-preserved c =
    let l = c.loop-i.invariant in
    let s = c.next_line-next.ensures in
    let w = c.put_line.ensures in
    record {
      first_place = s.first_place;
      second_place = s.second_place;
      rows = l.rows;
      short = l.short;
      bytes = write-more _ _ _ w s.next l.bytes;
      room = write-room _ _ _ w s.next l.room;
      size = write-length _ _ _ w ∙ l.size;
    }

pub returns : goal.returns
returns c =
    let l = c.loop-i.invariant in
    let a = c.args in
    let n = left-none a.tolerance a.first.now a.second.now c.loop-i.i c.loop-i.j
    (omega (arith, l.first_place.inside, l.second_place.inside)) (omega (arith, l.first_place.inside, l.second_place.inside)) in
    write-all _ _ l.bytes n (left-all a.tolerance a.first.now a.second.now) c.requires.2
