-- `call_trim::new_start` meets its contract. Assumes nothing.
use mathlib.Core.Path.{ap}
use Prim.Native.Nat.{◌*◌, ◌-◌}
use native.Mathlib.Omega.{arith}
use borrow.Author.Rules.{rules}
use Rattle.log_limits.proofs.LimitLaws.{trim-is}
use Rattle.call_trim.proofs.TrimmingLaws.{numbers, walkable, limit-within, start-found, start-kept, start-past}
use Rattle.call_trim.proofs.start.new_start.Statement.{statement}
use Rattle.call_trim.proofs.start.new_start.Tie as tie

open-limit-requires : tie.Need-open_limit-limit-requires
open-limit-requires c κs = search rules

returns : tie.Need-returns-then-limit-st
returns c = start-kept _ _ _ _ _ c.requires.1 c.open_limit-limit.ensures c.if-limit-st.true

next-position-requires : tie.Need-next_position-next-requires
next-position-requires c κs =
    let p = c.requires in
    omega (arith, numbers _ _ _ _ p.0 p.1)

mul-if2 : tie.Need-overflow_mul-limit
mul-if2 c = search rules

returns-2 : tie.Need-returns-then-next-limit
returns-2 c =
    let p = c.requires in
    start-past _ _ _ _ _ p.0 p.1 c.open_limit-limit.ensures (omega (arith, c.if-next-limit.true, c.next_position-next.ensures))

mul-n : tie.Need-overflow_mul-n
mul-n c =
    let p = c.requires in
    omega (arith, numbers _ _ _ _ p.0 p.1)

sub-n : tie.Need-overflow_sub-n
sub-n c =
    let p = c.requires in
    omega (arith, numbers _ _ _ _ p.0 p.1)

committed-end-requires : tie.Need-committed_end-end-requires
committed-end-requires c κs =
    let p = c.requires in
    omega (arith, numbers _ _ _ _ p.0 p.1)

closed-limit-requires : tie.Need-closed_limit-requires
closed-limit-requires c κs =
    let p = c.requires in
    let w = limit-within _ _ _ _ _ p.0 p.1 c.open_limit-limit.ensures in
    let n = c.next_position-next.ensures in (
      walkable _ _ _ _ (numbers _ _ _ _ p.0 p.1) (ap (λ x. x - 7 * c.args.st.start) n) c.committed_end-end.ensures,
      w.0,
      w.1,
    )

returns-3 : tie.Need-returns
returns-3 c =
    let p = c.requires in
    let m = numbers _ _ _ _ p.0 p.1 in
    let n = c.next_position-next.ensures in
    start-found _ _ _ _ _ _ _ p.0 p.1 (ap (λ x. x - 7 * c.args.st.start) n) c.committed_end-end.ensures
    (trim-is _ _ _ _ _ _ c.closed_limit.ensures.0 (omega (arith, m.settled)) c.open_limit-limit.ensures c.closed_limit.ensures.1)

pub new_start_spec : {M : Type 1} → statement M
new_start_spec =
    tie.close
    (tie.spec
    open-limit-requires
    returns
    next-position-requires
    mul-if2
    returns-2
    mul-n
    sub-n
    committed-end-requires
    closed-limit-requires
    returns-3)
