-- `log_newest::other_turn` meets its contract. Assumes nothing.
use mathlib.Core.Path.{sym, ◌∙◌}
use borrow.Author.Rules.{rules}
use borrow.Author.Tests.{leb-true, leb-false}
use Prim.Native.Nat.{◌+◌}
use native.Mathlib.Omega.{arith}
use Rattle.base_codec.proofs.TopBitLaws.{top_read}
use Rattle.log_newest.proofs.KeepLaws.{turn-other, turn-same}
use Rattle.log_newest.proofs.words.other_turn.Statement.{statement}
use Rattle.log_newest.proofs.words.other_turn.Tie as tie

add-result : tie.Need-overflow_add-result
add-result c = search rules

shared-slice-read-result : tie.Need-bounds-s-at
shared-slice-read-result c = search rules

cast-result : tie.Need-overflow_cast-result
cast-result c = search rules

mul-result : tie.Need-overflow_mul-result
mul-result c = search rules

returns : tie.Need-returns
returns c =
    let a = c.args in
    let k = top_read a.s.now a.at (omega (arith, c.shared_slice_known-1.given (a.at + 63))) in
    (λ t e. turn-other _ a.turn (omega arith) (leb-true 128 _ t) (k.0 ∙ e), λ t. sym k.0 ∙ turn-same _ a.turn (omega arith) (leb-false 128 _ t))

pub other_turn_spec : {M : Type 1} → statement M
other_turn_spec =
    tie.close (tie.spec add-result shared-slice-read-result cast-result mul-result returns)
