-- `unit_alarms_list::arrive` meets its contract. Assumes nothing.
use mathlib.Core.Path.{sym, ◌∙◌}
use native.Mathlib.Omega.{arith}
use Rattle.unit_alarms_list.specs.Alarm.{alarm}
use Rattle.unit_alarms_list.proofs.EventLaws.{class-most, refused-class, refused-open, refused-room, done-arrival}
use borrow.Author.Rules.{rules}
use Rattle.unit_alarms_list.proofs.arrive.Statement.{statement}
use Rattle.unit_alarms_list.proofs.arrive.Tie as tie

class-known-requires : tie.Need-class_known-requires
class-known-requires c κs = search rules

returns : tie.Need-returns-then-not-class_known
returns c =
    let a = c.args in
    refused-class _ _ (alarm a.identity a.class a.second) c.class_known.ensures (c.if-not-class_known.true)

open-count-requires : tie.Need-open_count-n-requires
open-count-requires c κs = search rules

find-requires : tie.Need-find-requires
find-requires c κs = search rules

returns-2 : tie.Need-returns-then-find-n
returns-2 c =
    let a = c.args in
    refused-open _ _ (alarm a.identity a.class a.second) c.open_count-n.ensures.0 c.find.ensures
    c.class_known.ensures (c.if-not-class_known.false) c.if-find-n.true

returns-3 : tie.Need-returns-then-n-ge48
returns-3 c =
    let a = c.args in
    refused-room _ _ (alarm a.identity a.class a.second) c.open_count-n.ensures.0 c.find.ensures
    c.class_known.ensures (c.if-not-class_known.false) c.if-find-n.false c.if-n-ge48.true

with-one-requires : tie.Need-with_one-requires
with-one-requires c κs =
    let m = class-most c.args.class (sym c.class_known.ensures ∙ c.if-not-class_known.false) in
    (c.requires.1, c.requires.0, c.if-n-ge48.false, record { identity = omega arith; class = omega (arith, m.1); second = omega arith })

same_length : tie.Need-shape_of-output
same_length c = search rules

returns-4 : tie.Need-returns
returns-4 c =
    let a = c.args in
    done-arrival _ _ (alarm a.identity a.class a.second) c.open_count-n.ensures.0 c.find.ensures
    c.class_known.ensures (c.if-not-class_known.false) c.if-find-n.false c.if-n-ge48.false
    c.with_one.ensures

pub arrive_spec : {M : Type 1} → statement M
arrive_spec =
    tie.close
    (tie.spec
    class-known-requires
    returns
    open-count-requires
    find-requires
    returns-2
    returns-3
    with-one-requires
    same_length
    returns-4)
