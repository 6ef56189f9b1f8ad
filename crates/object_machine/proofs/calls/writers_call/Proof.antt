-- `object_machine::calls::writers_call` meets its contract. Assumes nothing.
use borrow.Author.Tests.{eq-eqb, ne_eqb}
use Rattle.model.specs.Calls.{refused}
use Rattle.object_machine.specs.Calls.{beside_all, beside_batch, beside_state, commits, confirms, flushes, opens, reserves, stores, writers_call}
use borrow.Author.Rules.{rules}
use Rattle.object_machine.proofs.calls.writers_call.Statement.{statement}
use Rattle.object_machine.proofs.calls.writers_call.Tie as tie

kagutin-open-requires : tie.Need-kagutin_open-requires
kagutin-open-requires c κs = search rules

same_length : tie.Need-shape_of-log-then-k-eq1
same_length c = search rules

same-length-2 : tie.Need-shape_of-area-then-k-eq1
same-length-2 c = search rules

same-length-3 : tie.Need-shape_of-state-then-k-eq1
same-length-3 c = search rules

same-length-4 : tie.Need-shape_of-newest-then-k-eq1
same-length-4 c = search rules

same-length-5 : tie.Need-shape_of-batch-then-k-eq1
same-length-5 c = search rules

returns : tie.Need-returns-then-k-eq1
unfolding writers_call opens beside_all
returns c = rw (eq-eqb _ 1 c.if-k-eq1.true, ← c.kagutin_open.ensures)

kagutin-reserve-requires : tie.Need-kagutin_reserve-requires
kagutin-reserve-requires c κs = search rules

same-length-6 : tie.Need-shape_of-log-then-k-eq2
same-length-6 c = search rules

same-length-7 : tie.Need-shape_of-area-then-k-eq2
same-length-7 c = search rules

same-length-8 : tie.Need-shape_of-state-then-k-eq2
same-length-8 c = search rules

returns-2 : tie.Need-returns-then-k-eq2
unfolding writers_call reserves beside_state
returns-2 c = rw (ne_eqb _ 1 c.if-k-eq1.false, eq-eqb _ 2 c.if-k-eq2.true, ← c.kagutin_reserve.ensures)

kagutin-store-requires : tie.Need-kagutin_store-requires
kagutin-store-requires c κs = search rules

same-length-9 : tie.Need-shape_of-log-then-k-eq3
same-length-9 c = search rules

same-length-10 : tie.Need-shape_of-area-then-k-eq3
same-length-10 c = search rules

same-length-11 : tie.Need-shape_of-state-then-k-eq3
same-length-11 c = search rules

same-length-12 : tie.Need-shape_of-batch-then-k-eq3
same-length-12 c = search rules

returns-3 : tie.Need-returns-then-k-eq3
unfolding writers_call stores beside_batch
returns-3 c = rw (ne_eqb _ 1 c.if-k-eq1.false, ne_eqb _ 2 c.if-k-eq2.false, eq-eqb _ 3 c.if-k-eq3.true, ← c.kagutin_store.ensures)

kagutin-commit-requires : tie.Need-kagutin_commit-requires
kagutin-commit-requires c κs = search rules

same-length-13 : tie.Need-shape_of-log-then-k-eq4
same-length-13 c = search rules

same-length-14 : tie.Need-shape_of-area-then-k-eq4
same-length-14 c = search rules

same-length-15 : tie.Need-shape_of-state-then-k-eq4
same-length-15 c = search rules

same-length-16 : tie.Need-shape_of-newest-then-k-eq4
same-length-16 c = search rules

same-length-17 : tie.Need-shape_of-batch-then-k-eq4
same-length-17 c = search rules

returns-4 : tie.Need-returns-then-k-eq4
unfolding writers_call commits beside_all
returns-4 c = rw (ne_eqb _ 1 c.if-k-eq1.false, ne_eqb _ 2 c.if-k-eq2.false, ne_eqb _ 3 c.if-k-eq3.false, eq-eqb _ 4 c.if-k-eq4.true, ← c.kagutin_commit.ensures)

kagutin-flush-requires : tie.Need-kagutin_flush-requires
kagutin-flush-requires c κs = search rules

same-length-18 : tie.Need-shape_of-log-then-k-eq5
same-length-18 c = search rules

same-length-19 : tie.Need-shape_of-area-then-k-eq5
same-length-19 c = search rules

same-length-20 : tie.Need-shape_of-state-then-k-eq5
same-length-20 c = search rules

same-length-21 : tie.Need-shape_of-batch-then-k-eq5
same-length-21 c = search rules

returns-5 : tie.Need-returns-then-k-eq5
unfolding writers_call flushes beside_batch
returns-5 c = rw (ne_eqb _ 1 c.if-k-eq1.false, ne_eqb _ 2 c.if-k-eq2.false, ne_eqb _ 3 c.if-k-eq3.false, ne_eqb _ 4 c.if-k-eq4.false, eq-eqb _ 5 c.if-k-eq5.true, ← c.kagutin_flush.ensures)

kagutin-confirm-requires : tie.Need-kagutin_confirm-requires
kagutin-confirm-requires c κs = search rules

same-length-22 : tie.Need-shape_of-log-then-k-eq6
same-length-22 c = search rules

same-length-23 : tie.Need-shape_of-area-then-k-eq6
same-length-23 c = search rules

same-length-24 : tie.Need-shape_of-state-then-k-eq6
same-length-24 c = search rules

returns-6 : tie.Need-returns-then-k-eq6
unfolding writers_call confirms beside_state
returns-6 c = rw (ne_eqb _ 1 c.if-k-eq1.false, ne_eqb _ 2 c.if-k-eq2.false, ne_eqb _ 3 c.if-k-eq3.false, ne_eqb _ 4 c.if-k-eq4.false, ne_eqb _ 5 c.if-k-eq5.false, eq-eqb _ 6 c.if-k-eq6.true, ← c.kagutin_confirm.ensures)

refused-requires : tie.Need-refused-requires
refused-requires c κs = search rules

returns-7 : tie.Need-returns
unfolding writers_call refused
returns-7 c = rw (ne_eqb _ 1 c.if-k-eq1.false, ne_eqb _ 2 c.if-k-eq2.false, ne_eqb _ 3 c.if-k-eq3.false, ne_eqb _ 4 c.if-k-eq4.false, ne_eqb _ 5 c.if-k-eq5.false, ne_eqb _ 6 c.if-k-eq6.false, c.refused.ensures.0, c.refused.ensures.1, c.refused.ensures.2)

pub writers_call_spec : {M : Type 1} → statement M
writers_call_spec = tie.close (tie.spec kagutin-open-requires same_length same-length-2 same-length-3 same-length-4 same-length-5 returns kagutin-reserve-requires same-length-6 same-length-7 same-length-8 returns-2 kagutin-store-requires same-length-9 same-length-10 same-length-11 same-length-12 returns-3 kagutin-commit-requires same-length-13 same-length-14 same-length-15 same-length-16 same-length-17 returns-4 kagutin-flush-requires same-length-18 same-length-19 same-length-20 same-length-21 returns-5 kagutin-confirm-requires same-length-22 same-length-23 same-length-24 returns-6 refused-requires returns-7)
