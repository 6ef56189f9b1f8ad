-- `log_newest::near_home` meets its contract. Assumes nothing.
use mathlib.Core.Path.{refl, ap, ◌∙◌}
use Prim.Native.Nat.{ℕ}
use native.Mathlib.Omega.{arith}
use lib.Bits.{bit_xor, and_le_l, xor_lt}
use Rattle.model.specs.Tag.{entry_word, with_displaced, displaced}
use Rattle.log_newest.proofs.NearLaws.{near_word, turned-fits, turned-small}
use Rattle.log_newest.proofs.near.near_home.Statement.{statement}
use Rattle.log_newest.proofs.near.near_home.Tie as tie

add-result : tie.Need-overflow_add-result
add-result c =
    let a = c.args in
    record {
      fits =
          turned-fits _
          (omega (arith, and_le_l (bit_xor a.word a.plain) 0xfdff_ffff_ffff_ffff, xor_lt 64 a.word a.plain (omega arith) (omega arith)));
    }

returns : tie.Need-returns
returns c l back e h =
    let a = c.args in
    let t = turned-small _ _ refl l in
    near_word a.word a.plain back (omega arith) e h _ refl t.0 t.1
    ∙ ap (λ (v : ℕ). with_displaced (entry_word v back) (displaced a.word)) t.2

pub near_home_spec : {M : Type 1} → statement M
near_home_spec = tie.close (tie.spec add-result returns)
