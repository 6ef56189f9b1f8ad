-- `call_flush::flush_answer` meets its contract. Assumes nothing.
use mathlib.Core.Bool.{not}
use mathlib.Core.Path.{ap}
use native.Mathlib.Omega.{arith}
use Rattle.call_flush.proofs.FlushLaws.{refuses, state-fits-asked, grouped, broken, short, passes}
use borrow.Author.Rules.{rules}
use Rattle.call_flush.proofs.flush_answer.Statement.{statement}
use Rattle.call_flush.proofs.flush_answer.Tie as tie

state-answer-requires : tie.Need-state_answer-asked-requires
state-answer-requires c κs = search rules

returns : tie.Need-returns-then-asked-ne0
returns c = refuses _ _ _ _ _ c.state_answer-asked.ensures c.if-asked-ne0.true

state-requires : tie.Need-state-st-requires
state-requires c κs = let a = c.args in state-fits-asked a.log.now a.area.now a.state.now a.batch.now _ c.state_answer-asked.ensures c.if-asked-ne0.false

keeps-promises-requires : tie.Need-keeps_promises-requires
keeps-promises-requires c κs =
    let a = c.args in
    let e = c.state_answer-asked.ensures in
    let z = c.if-asked-ne0.false in (
      state-fits-asked a.log.now a.area.now a.state.now a.batch.now _ e z,
      grouped a.log.now a.area.now a.state.now a.batch.now _ _ e z c.state-st.ensures,
      c.state-st.ensures,
    )

returns-2 : tie.Need-returns-then-not-keeps_promises
returns-2 c = broken _ _ _ _ _ _ c.state_answer-asked.ensures c.if-asked-ne0.false c.keeps_promises.ensures (ap not c.if-not-keeps_promises.true)

flush-size-requires : tie.Need-flush_size-requires
flush-size-requires c κs = search rules

returns-3 : tie.Need-returns-then-batch-flush_size
returns-3 c =
    short _ _ _ _ _ _ _ _ c.state_answer-asked.ensures c.if-asked-ne0.false c.state-st.ensures c.flush_size.ensures
    c.keeps_promises.ensures (ap not c.if-not-keeps_promises.false) c.if-batch-flush_size.true

returns-4 : tie.Need-returns
returns-4 c =
    passes _ _ _ _ _ _ _ _ c.state_answer-asked.ensures c.if-asked-ne0.false c.state-st.ensures c.flush_size.ensures
    c.keeps_promises.ensures (ap not c.if-not-keeps_promises.false) (omega arith)

pub flush_answer_spec : {M : Type 1} → statement M
flush_answer_spec =
    tie.close
    (tie.spec state-answer-requires returns state-requires keeps-promises-requires returns-2 flush-size-requires returns-3 returns-4)
