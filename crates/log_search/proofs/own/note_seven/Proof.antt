-- `log_search::note_seven` meets its contract. Assumes nothing.
use native.Mathlib.Omega.{arith}
use Rattle.log_search.proofs.SoughtLaws.{none-noted}
use borrow.Author.Rules.{rules}
use Rattle.log_search.proofs.own.note_seven.Statement.{statement}
use Rattle.log_search.proofs.own.note_seven.Tie as tie

mul-position : tie.Need-overflow_mul-position
mul-position c = search rules

sought-bits-requires : tie.Need-sought_bits-requires
sought-bits-requires c κs = search rules

none-sought-requires : tie.Need-none_sought-requires
none-sought-requires c κs = search rules

returns : tie.Need-returns-then-none_sought
returns c =
    let p = c.requires in
    none-noted _ _ _ _ _ _ _ c.if-first-position.true (c.none_sought.ensures c.if-none_sought.true _ _ c.sought_bits.ensures.0 p.7 (omega arith))

note-group-requires : tie.Need-note_group-requires
note-group-requires c κs = search rules

returns-2 : tie.Need-returns
returns-2 c = search rules

pub note_seven_spec : {M : Type 1} → statement M
note_seven_spec =
    tie.close
    (tie.spec
    mul-position
    sought-bits-requires
    none-sought-requires
    returns
    note-group-requires
    returns-2)
