-- `base_codec::number` meets its contract: each width in use is put together from its parts. Assumes nothing.
use mathlib.Core.Path.{◌≡◌}
use borrow.Author.Rules.{rules}
use native.Mathlib.Omega.{arith}
use Rattle.base_codec.proofs.JoinLaws.{joined}
use Rattle.base_codec.proofs.numbers.number.Statement.{statement}
use Rattle.base_codec.proofs.numbers.number.Tie as tie

four-bytes-requires : tie.Need-four_bytes-requires
four-bytes-requires c κs = search rules

add-four-bytes : tie.Need-overflow_add-at
add-four-bytes c = search rules

four-bytes-requires-2 : tie.Need-four_bytes-requires-then-k-eq8
four-bytes-requires-2 c κs = search rules

returns : tie.Need-returns-then-k-eq8
returns c =
    let a = c.args in
    let e : a.k ≡ 8 = omega arith in
    rw e (joined 4 4 a.s.now a.at _ _ c.four_bytes.ensures c.four_bytes-then-k-eq8.ensures (omega arith))

four-bytes-requires-3 : tie.Need-four_bytes-requires-then-k-eq6
four-bytes-requires-3 c κs = search rules

add-two-bytes : tie.Need-overflow_add-at-then-k-eq6
add-two-bytes c = search rules

two-bytes-requires : tie.Need-two_bytes-requires
two-bytes-requires c κs = search rules

returns-2 : tie.Need-returns-then-k-eq6
returns-2 c =
    let a = c.args in
    let e : a.k ≡ 6 = omega arith in
    rw e (joined 4 2 a.s.now a.at _ _ c.four_bytes-then-k-eq6.ensures c.two_bytes.ensures (omega arith))

two-bytes-requires-2 : tie.Need-two_bytes-requires-then-k-eq2
two-bytes-requires-2 c κs = search rules

returns-3 : tie.Need-returns-then-k-eq2
returns-3 c =
    let a = c.args in
    let e : a.k ≡ 2 = omega arith in
    rw e c.two_bytes-then-k-eq2.ensures

each-byte-requires : tie.Need-each_byte-requires
each-byte-requires c κs = search rules

returns-4 : tie.Need-returns
returns-4 c = search rules

pub number_spec : {M : Type 1} → statement M
number_spec =
    tie.close
    (tie.spec
    four-bytes-requires
    add-four-bytes
    four-bytes-requires-2
    returns
    four-bytes-requires-3
    add-two-bytes
    two-bytes-requires
    returns-2
    two-bytes-requires-2
    returns-3
    each-byte-requires
    returns-4)
