-- `call_store::log_answer` meets its contract. Assumes nothing.
use mathlib.Core.Bool.{not}
use mathlib.Core.Path.{sym, ap}
use native.Mathlib.Omega.{arith}
use Rattle.call_store.proofs.LogLaws.{log-full, log-room, batch-any, batch-short, batch-full}
use borrow.Author.Rules.{rules}
use Rattle.call_store.proofs.entry.log_answer.Statement.{statement}
use Rattle.call_store.proofs.entry.log_answer.Tie as tie

state-requires : tie.Need-state-st-requires
state-requires c κs = search rules

room-for-requires : tie.Need-room_for-requires
room-for-requires c κs = (omega arith, omega arith, rw c.state-st.ensures c.requires.2, c.state-st.ensures)

returns : tie.Need-returns-then-not-room_for
returns c = log-full _ _ _ c.room_for.ensures (ap not c.if-not-room_for.true)

returns-2 : tie.Need-returns-then-st-ne6
returns-2 c =
    let e = ap (λ h. h.filled) (sym c.state-st.ensures) in
    log-room _ _ _ 0 c.room_for.ensures (ap not c.if-not-room_for.false) (rw e (batch-any _ _ c.if-st-ne6.true))

returns-3 : tie.Need-returns-then-batch-lt516
returns-3 c =
    let e = ap (λ h. h.filled) (sym c.state-st.ensures) in
    log-room _ _ _ 9 c.room_for.ensures (ap not c.if-not-room_for.false) (rw e (batch-short _ _ c.if-st-ne6.false c.if-batch-lt516.true))

returns-4 : tie.Need-returns
returns-4 c =
    let e = ap (λ h. h.filled) (sym c.state-st.ensures) in
    log-room _ _ _ 0 c.room_for.ensures (ap not c.if-not-room_for.false) (rw e (batch-full _ _ c.if-st-ne6.false (omega arith)))

pub log_answer_spec : {M : Type 1} → statement M
log_answer_spec =
    tie.close (tie.spec state-requires room-for-requires returns returns-2 returns-3 returns-4)
