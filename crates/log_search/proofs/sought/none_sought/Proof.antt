-- `log_search::none_sought` meets its contract. Assumes nothing.
use mathlib.Core.Bool.{false≢true}
use Prim.Native.Nat.{ℕ, ◌+◌}
use native.Mathlib.Omega.{arith}
use Rattle.log_search.specs.Sought.{Other}
use Rattle.log_search.proofs.SoughtLaws.{bits-first, bits-next, one_more, none_yet}
use borrow.Author.Rules.{rules}
use Rattle.log_search.proofs.sought.none_sought.Statement.{statement}
use Rattle.log_search.proofs.sought.none_sought.Tie as tie

other-at-requires : tie.Need-other_at-requires
other-at-requires c κs = search rules

returns : tie.Need-returns-then-not-other_at
returns c t = absurd (false≢true t)

add-other-at : tie.Need-overflow_add-bits
add-other-at c = search rules

other-at-requires-2 : tie.Need-other_at-requires-2
other-at-requires-2 c κs = search rules

returns-2 : tie.Need-returns-then-not-other_at-2
returns-2 c t = absurd (false≢true t)

add-other-at-2 : tie.Need-overflow_add-bits-2
add-other-at-2 c = search rules

other-at-requires-3 : tie.Need-other_at-requires-3
other-at-requires-3 c κs = search rules

returns-3 : tie.Need-returns-then-not-other_at-3
returns-3 c t = absurd (false≢true t)

add-other-at-3 : tie.Need-overflow_add-bits-3
add-other-at-3 c = search rules

other-at-requires-4 : tie.Need-other_at-requires-4
other-at-requires-4 c κs = search rules

returns-4 : tie.Need-returns-then-not-other_at-4
returns-4 c t = absurd (false≢true t)

add-other-at-4 : tie.Need-overflow_add-bits-4
add-other-at-4 c = search rules

other-at-requires-5 : tie.Need-other_at-requires-5
other-at-requires-5 c κs = search rules

returns-5 : tie.Need-returns-then-not-other_at-5
returns-5 c t = absurd (false≢true t)

add-other-at-5 : tie.Need-overflow_add-bits-5
add-other-at-5 c = search rules

other-at-requires-6 : tie.Need-other_at-requires-6
other-at-requires-6 c κs = search rules

returns-6 : tie.Need-returns-then-not-other_at-6
returns-6 c t = absurd (false≢true t)

add-other-at-6 : tie.Need-overflow_add-bits-6
add-other-at-6 c = search rules

other-at-requires-7 : tie.Need-other_at-requires-7
other-at-requires-7 c κs = search rules

returns-7 : tie.Need-returns
returns-7 c t home back e h b =
    let a = c.args in
    let P : ℕ → Type 0 = λ k. Other a.group.now k home (back + k) in
    let o0 : P 0 = c.other_at.ensures (c.if-not-other_at.false) home (back + 0) (bits-first _ home back e) h (omega arith) in
    let o1 : P 1 = c.other_at-2.ensures (c.if-not-other_at-2.false) home (back + 1) (bits-next _ home back 1 e) h (omega arith) in
    let o2 : P 2 = c.other_at-3.ensures (c.if-not-other_at-3.false) home (back + 2) (bits-next _ home back 2 e) h (omega arith) in
    let o3 : P 3 = c.other_at-4.ensures (c.if-not-other_at-4.false) home (back + 3) (bits-next _ home back 3 e) h (omega arith) in
    let o4 : P 4 = c.other_at-5.ensures (c.if-not-other_at-5.false) home (back + 4) (bits-next _ home back 4 e) h (omega arith) in
    let o5 : P 5 = c.other_at-6.ensures (c.if-not-other_at-6.false) home (back + 5) (bits-next _ home back 5 e) h (omega arith) in
    let o6 : P 6 = c.other_at-7.ensures (t) home (back + 6) (bits-next _ home back 6 e) h (omega arith) in
    one_more P 6 (one_more P 5 (one_more P 4 (one_more P 3 (one_more P 2 (one_more P 1 (one_more P 0 (none_yet P) o0) o1) o2) o3) o4) o5) o6

pub none_sought_spec : {M : Type 1} → statement M
none_sought_spec =
    tie.close
    (tie.spec
    other-at-requires
    returns
    add-other-at
    other-at-requires-2
    returns-2
    add-other-at-2
    other-at-requires-3
    returns-3
    add-other-at-3
    other-at-requires-4
    returns-4
    add-other-at-4
    other-at-requires-5
    returns-5
    add-other-at-5
    other-at-requires-6
    returns-6
    add-other-at-6
    other-at-requires-7
    returns-7)
