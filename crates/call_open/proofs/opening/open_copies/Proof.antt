-- `call_open::open_copies` meets its contract. Assumes nothing.
use mathlib.Core.Path.{◌∙◌}
use borrow.Author.Rules.{rules}
use Rattle.call_open.proofs.opening.open_copies.Statement.{statement}
use Rattle.call_open.proofs.opening.open_copies.Tie as tie

put-empty-log-requires : tie.Need-put_empty_log-requires
put-empty-log-requires c κs = search rules

open-sign-requires : tie.Need-open_sign-requires
open-sign-requires c κs = search rules

fresh-requires : tie.Need-fresh-requires
fresh-requires c κs = search rules

keep-nothing-requires : tie.Need-keep_nothing-requires
keep-nothing-requires c κs = search rules

same_length : tie.Need-shape_of-log
same_length c = search rules

same-length-2 : tie.Need-shape_of-state
same-length-2 c = search rules

same-length-3 : tie.Need-shape_of-newest
same-length-3 c = search rules

returns : tie.Need-returns
returns c = (
  c.put_empty_log.ensures,
  c.fresh.ensures ∙ rw c.open_sign.ensures,
  c.keep_nothing.ensures,
)

pub open_copies_spec : {M : Type 1} → statement M
open_copies_spec =
    tie.close
    (tie.spec
    put-empty-log-requires
    open-sign-requires
    fresh-requires
    keep-nothing-requires
    same_length
    same-length-2
    same-length-3
    returns)
