-- `log_search::note` meets its contract. Assumes nothing.
use borrow.Author.Rules.{rules}
use Rattle.log_search.proofs.OwnLaws.{note-other, note-this}
use Rattle.log_search.proofs.own.note.Statement.{statement}
use Rattle.log_search.proofs.own.note.Tie as tie

returns : tie.Need-returns-then-written-home
returns c = note-other _ _ _ _ c.if-written-home.true

add-result : tie.Need-overflow_add-result
add-result c = search rules

returns-2 : tie.Need-returns
returns-2 c = note-this _ _ _ _ c.if-written-home.false

pub note_spec : {M : Type 1} → statement M
note_spec = tie.close (tie.spec returns add-result returns-2)
