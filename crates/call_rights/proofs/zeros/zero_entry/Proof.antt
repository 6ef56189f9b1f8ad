-- `call_rights::zero_entry` meets its contract. Assumes nothing.
use mathlib.Core.Path.{refl}
use Prim.Native.Nat.{ℕ, ◌<◌}
use native.Mathlib.Omega.{arith}
use lib.ListN.{get_or}
use Rattle.call_rights.proofs.EntryLaws.{not-zero, zero-last}
use borrow.Author.Rules.{rules}
use Rattle.call_rights.proofs.zeros.zero_entry.Statement.{statement}
use Rattle.call_rights.proofs.zeros.zero_entry.Tie as tie

or-words-requires : tie.Need-or_words-front-requires
or-words-requires c κs = search rules

add-or-words : tie.Need-overflow_add-place
add-or-words c = search rules

or-words-requires-2 : tie.Need-or_words-back-requires
or-words-requires-2 c κs = search rules

returns : tie.Need-returns-then-front-back-ne0
returns c =
    let byte : (i : ℕ) → get_or c.args.log.now i 0 < 256 = λ i. omega (arith, c.shared_slice_known-1.given i) in
    not-zero c.args.log.now c.args.place _ refl (omega arith) byte c.or_words-front.result c.or_words-back.result
    c.or_words-front.ensures c.or_words-back.ensures c.if-front-back-ne0.true

add-number : tie.Need-overflow_add-place-2
add-number c = search rules

number-requires : tie.Need-number-last-requires
number-requires c κs = search rules

displaced-at-requires : tie.Need-displaced_at-bit-requires
displaced-at-requires c κs = search rules

returns-2 : tie.Need-returns
returns-2 c =
    let d = c.displaced_at-bit.ensures in
    let byte : (i : ℕ) → get_or c.args.log.now i 0 < 256 = λ i. omega (arith, c.shared_slice_known-1.given i) in
    zero-last c.args.log.now c.args.place _ d.0 (omega arith) byte c.or_words-front.result c.or_words-back.result
    c.or_words-front.ensures c.or_words-back.ensures _ c.if-front-back-ne0.false d.1
    (omega (arith, c.number-last.ensures.1)) c.number-last.ensures.0

pub zero_entry_spec : {M : Type 1} → statement M
zero_entry_spec =
    tie.close
    (tie.spec
    or-words-requires
    add-or-words
    or-words-requires-2
    returns
    add-number
    number-requires
    displaced-at-requires
    returns-2)
