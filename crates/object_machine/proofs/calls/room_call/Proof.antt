-- `object_machine::calls::room_call` meets its contract. Assumes nothing.
use borrow.Author.Tests.{eq-eqb, ne_eqb}
use Rattle.model.specs.Calls.{refused}
use Rattle.object_machine.specs.Calls.{beside_all, beside_batch, beside_state, nothing, room_call, round_begins, round_steps, settles, trims}
use borrow.Author.Rules.{rules}
use Rattle.object_machine.proofs.calls.room_call.Statement.{statement}
use Rattle.object_machine.proofs.calls.room_call.Tie as tie

kagutin-settle-requires : tie.Need-kagutin_settle-requires
kagutin-settle-requires c κs = search rules

same_length : tie.Need-shape_of-log-then-k-eq7
same_length c = search rules

same-length-2 : tie.Need-shape_of-area-then-k-eq7
same-length-2 c = search rules

same-length-3 : tie.Need-shape_of-state-then-k-eq7
same-length-3 c = search rules

same-length-4 : tie.Need-shape_of-batch-then-k-eq7
same-length-4 c = search rules

returns : tie.Need-returns-then-k-eq7
unfolding room_call settles beside_batch
returns c = rw (eq-eqb _ 7 c.if-k-eq7.true, ← c.kagutin_settle.ensures)

kagutin-begin-round-requires : tie.Need-kagutin_begin_round-requires
kagutin-begin-round-requires c κs = search rules

same-length-5 : tie.Need-shape_of-log-then-k-eq8
same-length-5 c = search rules

same-length-6 : tie.Need-shape_of-area-then-k-eq8
same-length-6 c = search rules

same-length-7 : tie.Need-shape_of-state-then-k-eq8
same-length-7 c = search rules

returns-2 : tie.Need-returns-then-k-eq8
unfolding room_call round_begins beside_state
returns-2 c = rw (ne_eqb _ 7 c.if-k-eq7.false, eq-eqb _ 8 c.if-k-eq8.true, ← c.kagutin_begin_round.ensures)

kagutin-step-round-requires : tie.Need-kagutin_step_round-requires
kagutin-step-round-requires c κs = search rules

same-length-8 : tie.Need-shape_of-log-then-k-eq9
same-length-8 c = search rules

same-length-9 : tie.Need-shape_of-area-then-k-eq9
same-length-9 c = search rules

same-length-10 : tie.Need-shape_of-state-then-k-eq9
same-length-10 c = search rules

same-length-11 : tie.Need-shape_of-batch-then-k-eq9
same-length-11 c = search rules

returns-3 : tie.Need-returns-then-k-eq9
unfolding room_call round_steps beside_batch
returns-3 c = rw (ne_eqb _ 7 c.if-k-eq7.false, ne_eqb _ 8 c.if-k-eq8.false, eq-eqb _ 9 c.if-k-eq9.true, ← c.kagutin_step_round.ensures)

kagutin-step-round-requires-2 : tie.Need-kagutin_step_round-requires-then-k-eq10
kagutin-step-round-requires-2 c κs = search rules

same-length-12 : tie.Need-shape_of-log-then-k-eq10
same-length-12 c = search rules

same-length-13 : tie.Need-shape_of-area-then-k-eq10
same-length-13 c = search rules

same-length-14 : tie.Need-shape_of-state-then-k-eq10
same-length-14 c = search rules

same-length-15 : tie.Need-shape_of-batch-then-k-eq10
same-length-15 c = search rules

returns-4 : tie.Need-returns-then-k-eq10
unfolding room_call round_steps beside_batch
returns-4 c = rw (ne_eqb _ 7 c.if-k-eq7.false, ne_eqb _ 8 c.if-k-eq8.false, ne_eqb _ 9 c.if-k-eq9.false, eq-eqb _ 10 c.if-k-eq10.true, ← c.kagutin_step_round-then-k-eq10.ensures)

kagutin-trim-requires : tie.Need-kagutin_trim-requires
kagutin-trim-requires c κs = search rules

same-length-16 : tie.Need-shape_of-log-then-k-eq11
same-length-16 c = search rules

same-length-17 : tie.Need-shape_of-area-then-k-eq11
same-length-17 c = search rules

same-length-18 : tie.Need-shape_of-state-then-k-eq11
same-length-18 c = search rules

same-length-19 : tie.Need-shape_of-newest-then-k-eq11
same-length-19 c = search rules

same-length-20 : tie.Need-shape_of-batch-then-k-eq11
same-length-20 c = search rules

returns-5 : tie.Need-returns-then-k-eq11
unfolding room_call trims beside_all
returns-5 c = rw (ne_eqb _ 7 c.if-k-eq7.false, ne_eqb _ 8 c.if-k-eq8.false, ne_eqb _ 9 c.if-k-eq9.false, ne_eqb _ 10 c.if-k-eq10.false, eq-eqb _ 11 c.if-k-eq11.true, ← c.kagutin_trim.ensures)

refused-requires : tie.Need-refused-requires
refused-requires c κs = search rules

returns-6 : tie.Need-returns
unfolding room_call nothing refused
returns-6 c = rw (ne_eqb _ 7 c.if-k-eq7.false, ne_eqb _ 8 c.if-k-eq8.false, ne_eqb _ 9 c.if-k-eq9.false, ne_eqb _ 10 c.if-k-eq10.false, ne_eqb _ 11 c.if-k-eq11.false, c.refused.ensures.0, c.refused.ensures.1, c.refused.ensures.2)

pub room_call_spec : {M : Type 1} → statement M
room_call_spec = tie.close (tie.spec kagutin-settle-requires same_length same-length-2 same-length-3 same-length-4 returns kagutin-begin-round-requires same-length-5 same-length-6 same-length-7 returns-2 kagutin-step-round-requires same-length-8 same-length-9 same-length-10 same-length-11 returns-3 kagutin-step-round-requires-2 same-length-12 same-length-13 same-length-14 same-length-15 returns-4 kagutin-trim-requires same-length-16 same-length-17 same-length-18 same-length-19 same-length-20 returns-5 refused-requires returns-6)
