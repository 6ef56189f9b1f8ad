-- `call_open::open_answer` meets its contract: each test is a question. Assumes nothing.
use native.Mathlib.Omega.{arith}
use Rattle.call_open.proofs.OpenLaws.{lengths, open-lengths-no, open-newest-no, open-header-no, open-start-no, open-next-no, open-allowed}
use borrow.Author.Rules.{rules}
use Rattle.call_open.proofs.opening.open_answer.Statement.{statement}
use Rattle.call_open.proofs.opening.open_answer.Tie as tie

lengths-right-requires : tie.Need-lengths_right-requires
lengths-right-requires c κs = search rules

returns : tie.Need-returns-then-not-lengths_right
returns c = open-lengths-no _ _ _ _ _ c.lengths_right.ensures c.if-not-lengths_right.true

measure-requires : tie.Need-measure-shape-requires
measure-requires c κs =
    omega (arith, lengths c.args.log.now c.args.area.now c.args.state.now c.args.newest.now _ c.lengths_right.ensures c.if-not-lengths_right.false)

mul-if2 : tie.Need-overflow_mul-shape
mul-if2 c =
    omega (arith, lengths c.args.log.now c.args.area.now c.args.state.now c.args.newest.now _ c.lengths_right.ensures c.if-not-lengths_right.false, c.measure-shape.ensures)

returns-2 : tie.Need-returns-then-newest-shape
returns-2 c = open-newest-no _ _ _ _ _ c.measure-shape.ensures.1 c.if-newest-shape.true

header-right-requires : tie.Need-header_right-requires
header-right-requires c κs =
    omega (arith, lengths c.args.log.now c.args.area.now c.args.state.now c.args.newest.now _ c.lengths_right.ensures c.if-not-lengths_right.false)

returns-3 : tie.Need-returns-then-not-header_right
returns-3 c =
    open-header-no _ _ _ _ _ _ _ _ _ c.lengths_right.ensures c.if-not-lengths_right.false c.measure-shape.ensures c.if-newest-shape.false c.header_right.ensures c.if-not-header_right.true

returns-4 : tie.Need-returns-then-shape-gt-MAX_START
returns-4 c =
    open-start-no _ _ _ _ _ _ _ _ _ c.lengths_right.ensures c.if-not-lengths_right.false c.measure-shape.ensures c.if-newest-shape.false c.header_right.ensures c.if-not-header_right.false (omega (arith, c.if-shape-gt-MAX_START.true))

add-if5 : tie.Need-overflow_add-shape
add-if5 c =
    omega (arith, lengths c.args.log.now c.args.area.now c.args.state.now c.args.newest.now _ c.lengths_right.ensures c.if-not-lengths_right.false, c.measure-shape.ensures, c.if-shape-gt-MAX_START.false)

returns-5 : tie.Need-returns-then-shape-gt-MAX_START-2
returns-5 c =
    open-next-no _ _ _ _ _ _ _ _ _ c.lengths_right.ensures c.if-not-lengths_right.false c.measure-shape.ensures c.if-newest-shape.false c.header_right.ensures c.if-not-header_right.false (omega (arith, c.if-shape-gt-MAX_START.false)) (omega (arith, c.if-shape-gt-MAX_START-2.true))

returns-6 : tie.Need-returns
returns-6 c =
    open-allowed _ _ _ _ _ _ _ _ _ c.lengths_right.ensures c.if-not-lengths_right.false c.measure-shape.ensures c.if-newest-shape.false c.header_right.ensures c.if-not-header_right.false (omega (arith, c.if-shape-gt-MAX_START.false)) (omega (arith, c.if-shape-gt-MAX_START-2.false))

pub open_answer_spec : {M : Type 1} → statement M
open_answer_spec =
    tie.close
    (tie.spec
    lengths-right-requires
    returns
    measure-requires
    mul-if2
    returns-2
    header-right-requires
    returns-3
    returns-4
    add-if5
    returns-5
    returns-6)
