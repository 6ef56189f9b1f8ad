-- `call_rights::in_last` meets its contract. Assumes nothing.
use mathlib.Core.Path.{refl, sym, ◌∙◌}
use Prim.Native.Nat.{ℕ, ◌+◌, ◌<◌}
use native.Mathlib.Omega.{arith}
use borrow.Author.Tests.{lt-ltb}
use lib.ListN.{get_or}
use Rattle.model.specs.Bytes.{number}
use Rattle.log_shown.specs.There.{entry_from}
use Rattle.call_rights.proofs.EntryLaws.{entry-number, last-number}
use Rattle.call_rights.proofs.RightsLaws.{range-before, range-within}
use borrow.Author.Rules.{rules}
use Rattle.call_rights.proofs.ranges.in_last.Statement.{statement}
use Rattle.call_rights.proofs.ranges.in_last.Tie as tie

add-number : tie.Need-overflow_add-place
add-number c = search rules

number-requires : tie.Need-number-first-requires
number-requires c κs = search rules

returns : tie.Need-returns-then-home-first
returns c =
    range-before _ _ _ _
    (c.number-first.ensures.0 ∙ sym (entry-number c.args.log.now c.args.place _ refl (omega arith) 2 60 (omega arith)))
    c.if-home-first.true

add-number-2 : tie.Need-overflow_add-place-2
add-number-2 c = search rules

number-requires-2 : tie.Need-number-n-requires
number-requires-2 c κs = search rules

add-if2 : tie.Need-overflow_add-first
add-if2 c = search rules

returns-2 : tie.Need-returns-then-home-first-2
returns-2 c =
    let byte : (i : ℕ) → get_or c.args.log.now i 0 < 256 = λ i. omega (arith, c.shared_slice_known-1.given i) in
    let m = last-number c.args.log.now c.args.place _ refl (omega arith) byte in
    sym (lt-ltb c.args.home (c.number-first.result + number 2 (entry_from c.args.log.now c.args.place) 62) (omega (arith, c.if-home-first-2.true, m, c.number-n.ensures.0)))
    ∙ range-within _ _ _ _
    (c.number-first.ensures.0 ∙ sym (entry-number c.args.log.now c.args.place _ refl (omega arith) 2 60 (omega arith)))
    (number 2 (entry_from c.args.log.now c.args.place) 62)
    refl
    (omega (arith, c.if-home-first.false))

displaced-at-requires : tie.Need-displaced_at-bit-requires
displaced-at-requires c κs = search rules

mul-result : tie.Need-overflow_mul-result
mul-result c = search rules

add-result : tie.Need-overflow_add-result
add-result c = search rules

add-result-2 : tie.Need-overflow_add-result-2
add-result-2 c = search rules

returns-3 : tie.Need-returns
returns-3 c =
    let d = c.displaced_at-bit.ensures.0 in
    let byte : (i : ℕ) → get_or c.args.log.now i 0 < 256 = λ i. omega (arith, c.shared_slice_known-1.given i) in
    range-within _ _ _ _
    (c.number-first.ensures.0 ∙ sym (entry-number c.args.log.now c.args.place _ d (omega arith) 2 60 (omega arith)))
    _
    (rw c.number-n.ensures.0 (sym (last-number c.args.log.now c.args.place _ d (omega arith) byte)))
    (omega (arith, c.if-home-first.false))

pub in_last_spec : {M : Type 1} → statement M
in_last_spec =
    tie.close
    (tie.spec
    add-number
    number-requires
    returns
    add-number-2
    number-requires-2
    add-if2
    returns-2
    displaced-at-requires
    mul-result
    add-result
    add-result-2
    returns-3)
