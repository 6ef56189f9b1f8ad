-- `call_store::hold_next` meets its contract. Assumes nothing.
use mathlib.Core.Path.{ap, ◌∙◌}
use native.Mathlib.Omega.{arith}
use lib.Seq.{take_all}
use Rattle.model.specs.State.{set_held}
use Rattle.call_store.proofs.LogLaws.{may-own, may-after, stored, at_position}
use borrow.Author.Rules.{rules}
use Rattle.call_store.proofs.stores.hold_next.Statement.{statement}
use Rattle.call_store.proofs.stores.hold_next.Tie as tie

next-position-requires : tie.Need-next_position-position-requires
next-position-requires c κs = search rules

store-word-requires : tie.Need-store_word-word-requires
store-word-requires c κs = at_position _ _ _ _ c.next_position-position.ensures c.requires.1

hold-requires : tie.Need-hold-requires
hold-requires c κs =
    let p = c.requires in
    (p.0.state_fits, p.0.writer, omega (arith, p.1.many))

log-entry-requires : tie.Need-log_entry-size-requires
log-entry-requires c κs =
    (may-own _ _ _ _ _ (may-after _ _ _ _ _ _ _ c.requires.0 c.hold.ensures), c.store_word-word.ensures.1)

sub-set-held : tie.Need-slice_bounds-set_held-count
sub-set-held c = search rules

part-set-held-start : tie.Need-slice_bounds-set_held-start
part-set-held-start c = search rules

part-set-held-end : tie.Need-slice_bounds-set_held-end
part-set-held-end c = search rules

set-held-requires : tie.Need-set_held-requires
set-held-requires c κs = search rules

same_length : tie.Need-shape_of-log
same_length c = search rules

same-length-2 : tie.Need-shape_of-state
same-length-2 c = search rules

same-length-3 : tie.Need-shape_of-batch
same-length-3 c = search rules

returns : tie.Need-returns
returns c =
    let p = c.requires in
    stored _ _ _ _ _ _ _ _ _ _ _ _ _ _ _ _ p.0.writer c.next_position-position.ensures c.store_word-word.ensures.0 p.3 p.4 c.hold.ensures
    c.log_entry-size.ensures (c.set_held.ensures ∙ ap (set_held _ _) (take_all 64 _ (omega arith)))

pub hold_next_spec : {M : Type 1} → statement M
hold_next_spec =
    tie.close
    (tie.spec
    next-position-requires
    store-word-requires
    hold-requires
    log-entry-requires
    sub-set-held
    part-set-held-start
    part-set-held-end
    set-held-requires
    same_length
    same-length-2
    same-length-3
    returns)
