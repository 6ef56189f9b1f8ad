-- `call_store::log_entry` meets its contract. Assumes nothing.
use mathlib.Core.Path.{refl, ap, ◌∙◌}
use native.Mathlib.Omega.{arith}
use lib.ListN.{length}
use Rattle.call_store.proofs.CallLaws.{slot-fits}
use Rattle.call_store.proofs.LogLaws.{may_read, held-lent, kept, handed}
use borrow.Author.Rules.{rules}
use Rattle.call_store.proofs.entry.log_entry.Statement.{statement}
use Rattle.call_store.proofs.entry.log_entry.Tie as tie
use Rattle.model_laws.proofs.state.LoggingLaws.{held-size, length-entered}

state-requires : tie.Need-state-st-requires
state-requires c κs = search rules

first-slot-requires : tie.Need-first_slot-at-requires
first-slot-requires c κs =
    let m = may_read _ _ _ _ _ c.state-st.ensures c.requires.0 in
    omega (arith, m.some)

mul-held : tie.Need-overflow_mul-held
mul-held c = search rules

add-held : tie.Need-overflow_add-held
add-held c = search rules

add-enter : tie.Need-overflow_add-held-2
add-enter c = search rules

sub-enter : tie.Need-slice_bounds-enter-count
sub-enter c = search rules

part-enter-start : tie.Need-slice_bounds-enter-start
part-enter-start c = search rules

part-enter-end : tie.Need-slice_bounds-enter-end
part-enter-end c = search rules

enter-requires : tie.Need-enter-requires
enter-requires c κs =
    let k = c.first_slot-at.ensures in
    let m = may_read _ _ _ _ _ c.state-st.ensures c.requires.0 in
    let a = c.args in
    let st = c.state-st.result in
    let f = slot-fits st.next st.groups (length a.log.now) (omega (arith, m.some)) (omega (arith, m.log)) in
    (omega (arith, f, k.same), k.turn, k.bit, omega (arith, m.filled), c.requires.1, ap length (held-lent a.state.now a.w _ refl) ∙ held-size a.state.now a.w m.state_fits m.writer)

add-set-filled : tie.Need-overflow_add-st
add-set-filled c =
    let m = may_read _ _ _ _ _ c.state-st.ensures c.requires.0 in
    omega (arith, m.filled)

set-filled-requires : tie.Need-set_filled-requires
set-filled-requires c κs =
    let m = may_read _ _ _ _ _ c.state-st.ensures c.requires.0 in
    omega (arith, m.state_fits)

same_length : tie.Need-shape_of-log-then-st-ne6
same_length c = search rules

same-length-2 : tie.Need-shape_of-state-then-st-ne6
same-length-2 c = search rules

returns : tie.Need-returns-then-st-ne6
returns c =
    let k = c.first_slot-at.ensures in
    let m = may_read _ _ _ _ _ c.state-st.ensures c.requires.0 in
    kept _ _ _ _ _ m _ _ (held-lent _ _ _ refl) _ k.same _ _ c.if-st-ne6.true c.enter.ensures c.set_filled.ensures

add-set-next : tie.Need-overflow_add-st-2
add-set-next c =
    let m = may_read _ _ _ _ _ c.state-st.ensures c.requires.0 in
    omega (arith, m.room, m.high, m.few)

set-next-requires : tie.Need-set_next-requires
set-next-requires c κs =
    let m = may_read _ _ _ _ _ c.state-st.ensures c.requires.0 in
    omega (arith, m.state_fits)

set-filled-requires-2 : tie.Need-set_filled-requires-2
set-filled-requires-2 c κs =
    let m = may_read _ _ _ _ _ c.state-st.ensures c.requires.0 in
    omega (arith, c.set_next.auto, m.state_fits)

group-write-requires : tie.Need-group_write-requires
group-write-requires c κs =
    let k = c.first_slot-at.ensures in
    let m = may_read _ _ _ _ _ c.state-st.ensures c.requires.0 in
    let a = c.args in
    let st = c.state-st.result in
    let f = slot-fits st.next st.groups (length a.log.now) (omega (arith, m.some)) (omega (arith, m.log)) in
    let g = m.batch (omega (arith, c.if-st-ne6.false)) in
    let e = ap length c.enter.ensures ∙ length-entered _ _ _ _ _ in
    (omega (arith, g), omega (arith, e, f, k.same))

same-length-3 : tie.Need-shape_of-log
same-length-3 c = search rules

same-length-4 : tie.Need-shape_of-state
same-length-4 c = search rules

same-length-5 : tie.Need-shape_of-batch
same-length-5 c = search rules

returns-2 : tie.Need-returns
returns-2 c =
    let k = c.first_slot-at.ensures in
    let m = may_read _ _ _ _ _ c.state-st.ensures c.requires.0 in
    handed _ _ _ _ _ m _ _ (held-lent _ _ _ refl) _ k.same _ _ _ _ _ (omega (arith, c.if-st-ne6.false)) c.enter.ensures
    c.set_next.ensures c.set_filled-2.ensures c.group_write.ensures.0 c.group_write.ensures.1

pub log_entry_spec : {M : Type 1} → statement M
log_entry_spec =
    tie.close
    (tie.spec
    state-requires
    first-slot-requires
    mul-held
    add-held
    add-enter
    sub-enter
    part-enter-start
    part-enter-end
    enter-requires
    add-set-filled
    set-filled-requires
    same_length
    same-length-2
    returns
    add-set-next
    set-next-requires
    set-filled-requires-2
    group-write-requires
    same-length-3
    same-length-4
    same-length-5
    returns-2)
