-- One turn counts one line, and is one row or two further.
use Rattle.std.proofs.Common.{arith, refl}
use Rattle.alone_gauges.specs.Kind.{kind_number}
use Rattle.alone_gauges.proofs.MergeLaws.{acceptable-short, place-front, left-all, left-none}
use Rattle.alone_gauges.proofs.OutputLaws.{hit-le}
use Rattle.alone_gauges.proofs.LoopLaws.{count-more, count-all}
use Rattle.alone_gauges.proofs.merge.tally.Goals as goal

pub loop-i-init : goal.loop-i-init
loop-i-init c =
    let short = acceptable-short _ c.requires.0 in
    let other = acceptable-short _ c.requires.1 in
    let none = c.of_none-counts.ensures in
    record {
      first_place = place-front _ c.requires.0;
      second_place = place-front _ c.requires.1;
      rows = refl;
      short = omega arith;
      code = none.0;
      agreeing = omega arith;
      differing = omega arith;
      only_first = omega arith;
      only_second = omega arith;
      agreeing_few = omega arith;
      differing_few = omega arith;
      only_first_few = omega arith;
      only_second_few = omega arith;
    }

pub loop-i-preserved : goal.loop-i-preserved
loop-i-preserved c =
    let l = c.loop-i.invariant in
    let s = c.next_line-next.ensures in
    let n = c.with_line-counts.ensures in
    let k = kind_number c.next_line-next.result.kind in
    record {
      first_place = s.first_place;
      second_place = s.second_place;
      rows = l.rows;
      short = l.short;
      code = omega arith;
      agreeing = rw n.agreeing (count-more 1 _ l.agreeing s.next refl);
      differing = rw n.differing (count-more 2 _ l.differing s.next refl);
      only_first = rw n.only_first (count-more 3 _ l.only_first s.next refl);
      only_second = rw n.only_second (count-more 4 _ l.only_second s.next refl);
      agreeing_few = omega (arith, hit-le k 1);
      differing_few = omega (arith, hit-le k 2);
      only_first_few = omega (arith, hit-le k 3);
      only_second_few = omega (arith, hit-le k 4);
    }

pub returns-clause-counted : goal.returns-clause-counted
returns-clause-counted c =
    let l = c.loop-i.invariant in
    let a = c.args in
    let n = left-none a.tolerance a.first.now a.second.now c.loop-i.i c.loop-i.j
    (omega (arith, l.first_place.inside, l.second_place.inside)) (omega (arith, l.first_place.inside, l.second_place.inside)) in
    let t = left-all a.tolerance a.first.now a.second.now in
    record { ones = count-all 1 l.agreeing n t; twos = count-all 2 l.differing n t; threes = count-all 3 l.only_first n t; fours = count-all 4 l.only_second n t }
