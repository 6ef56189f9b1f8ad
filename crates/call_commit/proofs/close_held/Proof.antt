-- `call_commit::close_held` meets its contract. Assumes nothing.
use Rattle.call_store.proofs.LogLaws.{may-own, at_position}
use Rattle.call_commit.proofs.ClosingLaws.{committed}
use borrow.Author.Rules.{rules}
use Rattle.call_commit.proofs.close_held.Statement.{statement}
use Rattle.call_commit.proofs.close_held.Tie as tie

next-position-requires : tie.Need-next_position-position-requires
next-position-requires c κs = search rules

closing-word-requires : tie.Need-closing_word-word-requires
closing-word-requires c κs = at_position _ _ _ _ c.next_position-position.ensures c.requires.1

log-entry-requires : tie.Need-log_entry-size-requires
log-entry-requires c κs =
    (may-own _ _ _ _ _ c.requires.0, c.closing_word-word.ensures.1)

add-set-last : tie.Need-overflow_add-position
add-set-last c = search rules

set-last-requires : tie.Need-set_last-requires
set-last-requires c κs = search rules

abort-requires : tie.Need-abort-requires
abort-requires c κs = search rules

same_length : tie.Need-shape_of-log
same_length c = search rules

same-length-2 : tie.Need-shape_of-state
same-length-2 c = search rules

same-length-3 : tie.Need-shape_of-batch
same-length-3 c = search rules

returns : tie.Need-returns
returns c =
    committed _ _ _ _ _ _ _ _ _ _ _ _ _ _ c.next_position-position.ensures c.closing_word-word.ensures.0 c.log_entry-size.ensures
    c.set_last.ensures c.abort.ensures

pub close_held_spec : {M : Type 1} → statement M
close_held_spec =
    tie.close
    (tie.spec
    next-position-requires
    closing-word-requires
    log-entry-requires
    add-set-last
    set-last-requires
    abort-requires
    same_length
    same-length-2
    same-length-3
    returns)
