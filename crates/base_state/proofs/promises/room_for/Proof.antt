-- `base_state::room_for` meets its contract. Assumes nothing.
use borrow.Author.Rules.{rules}
use Rattle.base_state.proofs.PromiseSums.{room-clear, room-own, room-free}
use Rattle.base_state.proofs.promises.room_for.Statement.{statement}
use Rattle.base_state.proofs.promises.room_for.Tie as tie

none-promised-requires : tie.Need-none_promised-requires
none-promised-requires c κs = search rules

add-result : tie.Need-overflow_add-result
add-result c = search rules

returns : tie.Need-returns-then-none_promised
returns c =
    let p = c.requires in
    room-clear _ _ _ p.3 p.2 p.1 (c.none_promised.ensures c.if-none_promised.true)

promise-requires : tie.Need-promise-requires
promise-requires c κs = search rules

returns-2 : tie.Need-returns-then-promise-ne0
returns-2 c = room-own _ _ _ c.promise.ensures.0 c.if-promise-ne0.true

promised-each-requires : tie.Need-promised_each-requires
promised-each-requires c κs = search rules

places-requires : tie.Need-places-requires
places-requires c κs = search rules

returns-3 : tie.Need-returns
returns-3 c =
    room-free _ _ _ _ _ _ c.requires.3 c.promise.ensures.0 c.if-promise-ne0.false
    c.promised_each.ensures c.places.ensures

pub room_for_spec : {M : Type 1} → statement M
room_for_spec =
    tie.close
    (tie.spec
    none-promised-requires
    add-result
    returns
    promise-requires
    returns-2
    promised-each-requires
    places-requires
    returns-3)
