-- `call_commit::commit_held` meets its contract. Assumes nothing.
use borrow.Author.Rules.{rules}
use Rattle.call_commit.proofs.ClosingLaws.{stretch, left_after, committed-back}
use native.Mathlib.Omega.{arith}
use Rattle.call_commit.proofs.commit_held.Statement.{statement}
use Rattle.call_commit.proofs.commit_held.Tie as tie

close-held-requires : tie.Need-close_held-size-requires
close-held-requires c κs = search rules

set-promise-requires : tie.Need-set_promise-requires
set-promise-requires c κs = search rules

keep-newest-requires : tie.Need-keep_newest-requires
keep-newest-requires c κs =
    let p = c.requires in
    (stretch _ _ _ _ _ _ _ p.0 p.1 (omega (arith, c.close_held-size.auto)), p.0.homes, p.2, p.0.filled)

keep-list-requires : tie.Need-keep_list-requires
keep-list-requires c κs =
    let p = c.requires in
    left_after _ _ _ _ _ _ _ _ _ _ _ _ _ p.0 p.1 c.close_held-size.ensures c.set_promise.ensures
    (omega (arith, c.close_held-size.auto)) (omega (arith, p.0.state_fits, c.close_held-size.auto, c.set_promise.auto))
    (omega (arith, p.2, c.keep_newest.auto)) p.3

same_length : tie.Need-shape_of-log
same_length c = search rules

same-length-2 : tie.Need-shape_of-state
same-length-2 c = search rules

same-length-3 : tie.Need-shape_of-newest
same-length-3 c = search rules

same-length-4 : tie.Need-shape_of-batch
same-length-4 c = search rules

returns : tie.Need-returns
returns c =
    committed-back _ _ _ _ _ _ _ _ _ _ _ _ _ _ _ c.close_held-size.ensures c.set_promise.ensures c.keep_newest.ensures
    c.keep_list.ensures

pub commit_held_spec : {M : Type 1} → statement M
commit_held_spec =
    tie.close
    (tie.spec
    close-held-requires
    set-promise-requires
    keep-newest-requires
    keep-list-requires
    same_length
    same-length-2
    same-length-3
    same-length-4
    returns)
