-- `call_store::store` meets its contract. Assumes nothing.
use mathlib.Core.Bool.{not}
use mathlib.Core.Path.{refl, ap}
use Rattle.call_store.proofs.LogLaws.{next-own, stored-own}
use Rattle.call_store.proofs.StoreLaws.{known, others, ends-refused, firsts, ends-first, ends-again, ends-other}
use borrow.Author.Rules.{rules}
use Rattle.call_store.proofs.stores.store.Statement.{statement}
use Rattle.call_store.proofs.stores.store.Tie as tie

store-answer-requires : tie.Need-store_answer-code-requires
store-answer-requires c κs = search rules

refused-requires : tie.Need-refused-requires
refused-requires c κs = search rules

same_length : tie.Need-shape_of-log-then-code-ne0
same_length c = search rules

same-length-2 : tie.Need-shape_of-state-then-code-ne0
same-length-2 c = search rules

same-length-3 : tie.Need-shape_of-batch-then-code-ne0
same-length-3 c = search rules

returns : tie.Need-returns-then-code-ne0
returns c = ends-refused _ _ _ _ _ _ _ _ c.store_answer-code.ensures _ _ _ c.if-code-ne0.true c.refused.ensures

writer-requires : tie.Need-writer-r-requires
writer-requires c κs = let k = known _ _ _ _ _ _ _ _ c.store_answer-code.ensures c.if-code-ne0.false in (k.0, k.1)

holds-requires : tie.Need-holds-requires
holds-requires c κs = search rules

store-first-requires : tie.Need-store_first-requires
store-first-requires c κs =
    firsts _ _ _ _ _ _ _ _ c.store_answer-code.ensures c.if-code-ne0.false _ _ c.holds.ensures (ap not c.if-not-holds.true)

done-requires : tie.Need-done-requires
done-requires c κs = search rules

same-length-4 : tie.Need-shape_of-log-then-not-holds
same-length-4 c = search rules

same-length-5 : tie.Need-shape_of-state-then-not-holds
same-length-5 c = search rules

same-length-6 : tie.Need-shape_of-batch-then-not-holds
same-length-6 c = search rules

returns-2 : tie.Need-returns-then-not-holds
returns-2 c =
    ends-first _ _ _ _ _ _ _ _ c.store_answer-code.ensures c.if-code-ne0.false _ _ _ _ _ _ c.writer-r.ensures c.holds.ensures
    (ap not c.if-not-holds.true) c.store_first.ensures c.done.ensures

set-held-requires : tie.Need-set_held-requires
set-held-requires c κs =
    let k = known _ _ _ _ _ _ _ _ c.store_answer-code.ensures c.if-code-ne0.false in (k.0, k.1, k.2)

done-requires-2 : tie.Need-done-requires-then-r-home
done-requires-2 c κs = search rules

same-length-7 : tie.Need-shape_of-log-then-r-home
same-length-7 c = search rules

same-length-8 : tie.Need-shape_of-state-then-r-home
same-length-8 c = search rules

same-length-9 : tie.Need-shape_of-batch-then-r-home
same-length-9 c = search rules

returns-3 : tie.Need-returns-then-r-home
returns-3 c =
    ends-again _ _ _ _ _ _ _ _ c.store_answer-code.ensures c.if-code-ne0.false _ _ _ _ _ _ c.writer-r.ensures c.holds.ensures
    (ap not c.if-not-holds.false) c.if-r-home.true c.set_held.ensures c.done-then-r-home.ensures

store-next-requires : tie.Need-store_next-size-requires
store-next-requires c κs =
    next-own _ _ _ c.args.block.now _ _ _ _ refl c.writer-r.ensures
    (others _ _ _ _ _ _ _ _ c.store_answer-code.ensures c.if-code-ne0.false _ _ _ c.writer-r.ensures c.holds.ensures
    (ap not c.if-not-holds.false) c.if-r-home.false refl)

done-requires-3 : tie.Need-done-requires-2
done-requires-3 c κs = search rules

same-length-10 : tie.Need-shape_of-log
same-length-10 c = search rules

same-length-11 : tie.Need-shape_of-state
same-length-11 c = search rules

same-length-12 : tie.Need-shape_of-batch
same-length-12 c = search rules

returns-4 : tie.Need-returns
returns-4 c =
    ends-other _ _ _ _ _ _ _ _ c.store_answer-code.ensures c.if-code-ne0.false _ _ _ _ _ _ _ _ _ _ c.writer-r.ensures
    c.holds.ensures (ap not c.if-not-holds.false) c.if-r-home.false refl
    (stored-own _ _ _ _ _ _ _ _ _ _ _ _ refl c.writer-r.ensures c.store_next-size.ensures) c.done-2.ensures

pub store_spec : {M : Type 1} → statement M
store_spec =
    tie.close
    (tie.spec
    store-answer-requires
    refused-requires
    same_length
    same-length-2
    same-length-3
    returns
    writer-requires
    holds-requires
    store-first-requires
    done-requires
    same-length-4
    same-length-5
    same-length-6
    returns-2
    set-held-requires
    done-requires-2
    same-length-7
    same-length-8
    same-length-9
    returns-3
    store-next-requires
    done-requires-3
    same-length-10
    same-length-11
    same-length-12
    returns-4)
