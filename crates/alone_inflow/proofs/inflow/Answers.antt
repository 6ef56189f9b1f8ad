-- The difference of two volumes is the inflow.
use Rattle.std.proofs.Common.{arith, ◌+◌, ◌*◌, sym, ◌∙◌}
use Rattle.alone_inflow.proofs.IntegerLaws.{difference-is}
use Rattle.alone_inflow.proofs.InflowLaws.{inflow-difference, volume}
use Rattle.alone_inflow.proofs.inflow.Goals as goal

pub returns : goal.returns
returns c =
    let a = c.args in
    let gained = volume a.area a.after c.requires (omega arith) in
    let held = volume a.area a.before c.requires (omega arith) in
    rw (c.from.ensures, c.from-2.ensures, c.from-3.ensures)
    (difference-is (a.area * a.after + a.pumped) (a.area * a.before) (omega arith) (omega arith)
    ∙ sym (inflow-difference a.area a.before a.after a.pumped))
