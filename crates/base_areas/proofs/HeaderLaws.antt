-- The log's header, written piece by piece and tested field by field. Assumes nothing.
use mathlib.Core.Path.{◌≡◌, sym, ◌∙◌}
use mathlib.Core.Bool.{true, false}
use mathlib.Core.List.{List}
use Prim.Native.Nat.{ℕ, ◌+◌}
use native.Mathlib.Omega.{arith}
use borrow.Author.Tests.{eq-eqb, ne_eqb}
use Rattle.model.specs.Bytes.{part, puts, zeros, number, put_number, same}
use Rattle.model.specs.Layout.{header_mark, header, header_right}
use Rattle.model_laws.proofs.bytes.ByteLaws.{puts-append}
use Rattle.base_areas.proofs.PieceLaws.{number-then}

pub header-written : (d : List ℕ) (at start groups homes : ℕ)
    → puts (put_number 2 (put_number 2 (put_number 6 (puts d at header_mark) (at + 2) start) (at + 8) groups) (at + 10) homes) (at + 12) (zeros 52)
    ≡ puts d at (header start groups homes)
unfolding header
header-written d at start groups homes =
    number-then 2 _ (at + 10) homes (zeros 52) (at + 12) (omega arith)
    ∙ number-then 2 _ (at + 8) groups _ (at + 10) (omega arith)
    ∙ number-then 6 _ (at + 2) start _ (at + 8) (omega arith)
    ∙ sym (puts-append d at header_mark _)

-- the tests of a header, one that fails, or the last where the others hold
module _ (log : List ℕ) (groups homes : ℕ) where
  pub mark-wrong : same (part log 0 2) header_mark ≡ false → header_right log groups homes ≡ false
  unfolding header_right
  mark-wrong m = rw m

  pub groups-wrong : same (part log 0 2) header_mark ≡ true → (number 2 log 8 ≡ groups → ⊥) → header_right log groups homes ≡ false
  unfolding header_right
  groups-wrong m g = rw (m, ne_eqb (number 2 log 8) groups g)

  pub homes-wrong : same (part log 0 2) header_mark ≡ true → number 2 log 8 ≡ groups → (number 2 log 10 ≡ homes → ⊥)
      → header_right log groups homes ≡ false
  unfolding header_right
  homes-wrong m g h = rw (m, eq-eqb (number 2 log 8) groups g, ne_eqb (number 2 log 10) homes h)

  pub zeros-decide : same (part log 0 2) header_mark ≡ true → number 2 log 8 ≡ groups → number 2 log 10 ≡ homes
      → header_right log groups homes ≡ same (part log 12 52) (zeros 52)
  unfolding header_right
  zeros-decide m g h = rw (m, eq-eqb (number 2 log 8) groups g, eq-eqb (number 2 log 10) homes h)
