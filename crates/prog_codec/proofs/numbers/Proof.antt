-- `prog_codec::numbers` meets its contract: each check is what the calls ensure, computed. Assumes nothing.
use borrow.Author.Rules.{rules}
use mathlib.Core.Path.{ap, ◌∙◌}
use mathlib.Core.List.{List}
use Prim.Native.Nat.{ℕ}
use borrow.Author.Tests.{eq-eqb}
use lib.Dec.{eqb}
use lib.ListN.{get_or}
use Rattle.model.specs.Bytes.{puts, bytes, value, number, put_number}
use Rattle.prog_codec.proofs.numbers.Statement.{statement}
use Rattle.prog_codec.proofs.numbers.Tie as tie

slice-aggregate-put-number : tie.Need-slice_bounds-put_number-end
slice-aggregate-put-number c = search rules

put-number-requires : tie.Need-put_number-requires
put-number-requires c κs = search rules

array-read-expect : tie.Need-bounds-b-2
array-read-expect c = search rules

expect-requires : tie.Need-expect-requires
unfolding put_number puts bytes
expect-requires c κs = ap (λ (l : List ℕ). eqb (get_or l 2 0) 1) c.put_number.ensures

array-read-expect-2 : tie.Need-bounds-b-7
array-read-expect-2 c = search rules

expect-requires-2 : tie.Need-expect-requires-2
unfolding put_number puts bytes
expect-requires-2 c κs = ap (λ (l : List ℕ). eqb (get_or l 7 0) 6) c.put_number.ensures

slice-aggregate-number : tie.Need-slice_bounds-number-end
slice-aggregate-number c = search rules

number-requires : tie.Need-number-requires
number-requires c κs = search rules

expect-requires-3 : tie.Need-expect-requires-3
unfolding put_number puts bytes number value
expect-requires-3 c κs =
    eq-eqb c.number.result 0x0605_0403_0201
    (c.number.ensures.0 ∙ ap (λ (l : List ℕ). number 6 l 2) c.put_number.ensures)

returns : tie.Need-returns
returns c = search rules

pub numbers_spec : {M : Type 1} → statement M
numbers_spec =
    tie.close
    (tie.spec
    slice-aggregate-put-number
    put-number-requires
    array-read-expect
    expect-requires
    array-read-expect-2
    expect-requires-2
    slice-aggregate-number
    number-requires
    expect-requires-3
    returns)
