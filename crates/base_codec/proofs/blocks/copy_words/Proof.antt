-- `base_codec::copy_words` meets its contract. Assumes nothing.
use mathlib.Core.Path.{◌∙◌}
use Prim.Native.Nat.{ℕ, ◌<◌}
use borrow.Author.Rules.{rules}
use native.Mathlib.Omega.{arith}
use lib.ListN.{get_or}
use Rattle.base_codec.proofs.CopyLaws.{words-put}
use Rattle.base_codec.proofs.blocks.copy_words.Statement.{statement}
use Rattle.base_codec.proofs.blocks.copy_words.Tie as tie

number-requires : tie.Need-number-low-requires
number-requires c κs = search rules

add-number : tie.Need-overflow_add-from
add-number c = search rules

number-requires-2 : tie.Need-number-high-requires
number-requires-2 c κs = search rules

put-number-requires : tie.Need-put_number-requires
put-number-requires c κs = search rules

add-put-number : tie.Need-overflow_add-at
add-put-number c = search rules

put-number-requires-2 : tie.Need-put_number-requires-2
put-number-requires-2 c κs = search rules

same_length : tie.Need-shape_of-dst
same_length c = search rules

returns : tie.Need-returns
returns c =
    let byte : (k : ℕ) → get_or c.args.src.now k 0 < 256 = λ k. omega (arith, c.shared_slice_known-1.given k) in
    c.put_number-2.ensures
    ∙ rw (c.put_number.ensures, c.number-high.ensures.0, c.number-low.ensures.0) (words-put _ _ _ _ (omega arith) byte)

pub copy_words_spec : {M : Type 1} → statement M
copy_words_spec =
    tie.close
    (tie.spec
    number-requires
    add-number
    number-requires-2
    put-number-requires
    add-put-number
    put-number-requires-2
    same_length
    returns)
