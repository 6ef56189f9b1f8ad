-- `call_usage::committed_entries` meets its contract. Assumes nothing.
use native.Mathlib.Omega.{arith}
use Rattle.call_usage.proofs.SumLaws.{walkable, committed-sum}
use borrow.Author.Rules.{rules}
use Rattle.call_usage.proofs.entries.committed_entries.Statement.{statement}
use Rattle.call_usage.proofs.entries.committed_entries.Tie as tie

committed-end-requires : tie.Need-committed_end-end-requires
committed-end-requires c κs = search rules

closed-entries-requires : tie.Need-closed_entries-requires
closed-entries-requires c κs = walkable _ _ _ _ _ _ c.requires c.committed_end-end.ensures

returns : tie.Need-returns
returns c =
    let w = c.committed_end-end.ensures in
    let k = walkable _ _ _ _ _ _ c.requires w in
    (committed-sum _ _ _ _ _ w c.closed_entries.ensures.0, omega (arith, c.closed_entries.ensures.1, k.within, k.most))

pub committed_entries_spec : {M : Type 1} → statement M
committed_entries_spec = tie.close (tie.spec committed-end-requires closed-entries-requires returns)
