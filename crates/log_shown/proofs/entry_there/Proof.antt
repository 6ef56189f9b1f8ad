-- `log_shown::entry_there` meets its contract. Assumes nothing.
use native.Mathlib.Omega.{arith}
use mathlib.Core.Path.{refl}
use Rattle.log_shown.proofs.ThereLaws.{there-none, there-word, head-valid}
use borrow.Author.Rules.{rules}
use Rattle.log_shown.proofs.entry_there.Statement.{statement}
use Rattle.log_shown.proofs.entry_there.Tie as tie

mul-from : tie.Need-overflow_mul-from
mul-from c = search rules

add-from : tie.Need-overflow_add-from
add-from c = search rules

add-group : tie.Need-overflow_add-group
add-group c = search rules

sub-group : tie.Need-slice_bounds-group-count
sub-group c = search rules

part-group-start : tie.Need-slice_bounds-group-start
part-group-start c = search rules

part-group-end : tie.Need-slice_bounds-group-end
part-group-end c = search rules

has-group-head-requires : tie.Need-has_group_head-requires
has-group-head-requires c κs = search rules

returns : tie.Need-returns-then-not-has_group_head
returns c = let q = c.requires.3 in there-none _ c.args.st _ _ _ _ q refl (head-valid _ _ _ _ _ _ c.requires.0 (omega arith) c.requires.1 q.number c.has_group_head.ensures) _ (c.if-not-has_group_head.true)

word-there-requires : tie.Need-word_there-word-requires
word-there-requires c κs = search rules

is-entry-for-requires : tie.Need-is_entry_for-requires
is-entry-for-requires c κs = search rules

returns-2 : tie.Need-returns
returns-2 c = let q = c.requires.3 in there-word _ c.args.st _ _ _ _ q refl (head-valid _ _ _ _ _ _ c.requires.0 (omega arith) c.requires.1 q.number c.has_group_head.ensures) _ _ _ (c.if-not-has_group_head.false) c.word_there-word.ensures (c.is_entry_for.ensures _ _ c.requires.2)

pub entry_there_spec : {M : Type 1} → statement M
entry_there_spec =
    tie.close
    (tie.spec
    mul-from
    add-from
    add-group
    sub-group
    part-group-start
    part-group-end
    has-group-head-requires
    returns
    word-there-requires
    is-entry-for-requires
    returns-2)
