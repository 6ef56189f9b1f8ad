-- `call_usage::live_entries` meets its contract. Assumes nothing.
use mathlib.Core.Path.{ap}
use Prim.Native.Nat.{◌-◌, ◌*◌}
use native.Mathlib.Omega.{arith}
use Rattle.call_usage.proofs.UsageLaws.{numbers, counts-fit, live-is}
use Rattle.call_usage.proofs.live_entries.Statement.{statement}
use Rattle.call_usage.proofs.live_entries.Tie as tie

next-position-requires : tie.Need-next_position-requires
next-position-requires c κs = let p = c.requires in omega (arith, numbers _ _ _ _ p.0 p.1)

mul-n : tie.Need-overflow_mul-n
mul-n c = let p = c.requires in omega (arith, numbers _ _ _ _ p.0 p.1)

sub-n : tie.Need-overflow_sub-n
sub-n c =
    let p = c.requires in omega (arith, numbers _ _ _ _ p.0 p.1, c.next_position.ensures)

committed-entries-requires : tie.Need-committed_entries-committed-requires
committed-entries-requires c κs =
    let p = c.requires in omega (arith, numbers _ _ _ _ p.0 p.1, c.next_position.ensures)

open-entries-requires : tie.Need-open_entries-requires
open-entries-requires c κs =
    let p = c.requires in (p.0.state-length, counts-fit _ _ _ p.0)

add-result : tie.Need-overflow_add-result
add-result c = omega (arith, c.open_entries.ensures.1, c.committed_entries-committed.ensures.1)

returns : tie.Need-returns
returns c =
    let n = c.next_position.ensures in
    live-is _ _ _ _ _ _ _ c.requires.0 c.requires.1 (ap (λ x. x - 7 * c.args.st.start) n) c.committed_entries-committed.ensures.0 c.open_entries.ensures.0

pub live_entries_spec : {M : Type 1} → statement M
live_entries_spec =
    tie.close
    (tie.spec
    next-position-requires
    mul-n
    sub-n
    committed-entries-requires
    open-entries-requires
    add-result
    returns)
