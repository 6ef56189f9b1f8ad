-- `base_codec::entry_word` meets its contract: each field is set above the bits that stand already. Assumes nothing.
use mathlib.Core.Path.{◌≡◌}
use Prim.Native.Nat.{◌/◌, ◌%◌, ◌^◌}
use native.Mathlib.Omega.{arith}
use lib.Bits.{bit_and, and_mask, mask_lt}
use Rattle.model.specs.Tag.{tag_word, entry_word}
use Rattle.base_codec.proofs.WordLaws.{field-or, then-field}
use Rattle.base_codec.proofs.tags.entry_word.Statement.{statement}
use Rattle.base_codec.proofs.tags.entry_word.Tie as tie

returns : tie.Need-returns
unfolding entry_word tag_word
returns c =
    let a = c.args in
    let m : bit_and a.home 0xfff ≡ a.home % 2 ^ 12 = and_mask a.home 12 in
    let e1 = field-or 12 2 (bit_and a.home 0xfff) 1 (mask_lt a.home 12) (omega arith) (omega arith) in
    let e2 = then-field 13 14 a.back e1 (omega arith) (omega (arith, mask_lt a.home 12)) (omega arith) in
    let e3 = then-field 4 53 (a.home / 2 ^ 12) e2 (omega arith) (omega (arith, mask_lt a.home 12)) (omega arith) in
    omega (arith, e3, m)

pub entry_word_spec : {M : Type 1} → statement M
entry_word_spec = tie.close (tie.spec returns)
