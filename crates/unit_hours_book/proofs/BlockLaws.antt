-- A pump's record is read back from its block. Assumes nothing.
use mathlib.Core.Path.{◌≡◌, refl, sym, ◌∙◌}
use mathlib.Core.Bool.{Bool, true, false, not}
use mathlib.Core.List.{List}
use Prim.Native.Nat.{ℕ, ◌^◌, ◌<◌}
use native.Mathlib.Omega.{arith}
use lib.Dec.{eqb}
use lib.ListN.{length, get_or}
use Rattle.model.specs.Bytes.{puts, zeros, value, number, put_number}
use Rattle.model_laws.proofs.bytes.ByteLaws.{puts_whole, length-zeros, length-put_number, number_same, number-put-below, number_lt}
use Rattle.unit_hours_book.specs.Pump.{Pump, unused, pump_of, flag, block_of, Fits}

-- the block field by field
module _ (p : Pump) where
  first : List ℕ
  first = put_number 4 (zeros 64) 0 p.starts

  second : List ℕ
  second = put_number 4 first 4 p.total

  third : List ℕ
  third = put_number 4 second 8 p.last

  fourth : List ℕ
  fourth = put_number 1 third 12 (flag p.running)

  first-size : length first ≡ 64
  unfolding first
  first-size = length-put_number 4 (zeros 64) 0 p.starts ∙ length-zeros 64

  second-size : length second ≡ 64
  unfolding second
  second-size = length-put_number 4 first 4 p.total ∙ first-size

  third-size : length third ≡ 64
  unfolding third
  third-size = length-put_number 4 second 8 p.last ∙ second-size

  block-is : block_of p ≡ fourth
  unfolding block_of first second third fourth
  block-is = refl

  pub length-block : length (block_of p) ≡ 64
  unfolding fourth
  length-block = rw block-is (length-put_number 1 third 12 (flag p.running) ∙ third-size)

  flag_small : (b : Bool) → flag b < 256 ^ 1
  unfolding flag
  flag_small true = omega arith
  flag_small false = omega arith

  flag-back : (b : Bool) → not (eqb (flag b) 0) ≡ b
  unfolding flag
  flag-back true = refl
  flag-back false = refl

  module _ (fits : Fits p) where
    read-starts : number 4 fourth 0 ≡ p.starts
    unfolding first second third fourth
    read-starts =
        number-put-below 4 1 third 12 (flag p.running) 0 (omega arith)
        ∙ number-put-below 4 4 second 8 p.last 0 (omega arith)
        ∙ number-put-below 4 4 first 4 p.total 0 (omega arith)
        ∙ number_same 4 (zeros 64) 0 p.starts (omega (arith, length-zeros 64)) (omega (arith, fits.starts))

    read-total : number 4 fourth 4 ≡ p.total
    unfolding second third fourth
    read-total =
        number-put-below 4 1 third 12 (flag p.running) 4 (omega arith)
        ∙ number-put-below 4 4 second 8 p.last 4 (omega arith)
        ∙ number_same 4 first 4 p.total (omega (arith, first-size)) (omega (arith, fits.total))

    read-last : number 4 fourth 8 ≡ p.last
    unfolding third fourth
    read-last =
        number-put-below 4 1 third 12 (flag p.running) 8 (omega arith)
        ∙ number_same 4 second 8 p.last (omega (arith, second-size)) (omega (arith, fits.last))

    read-running : number 1 fourth 12 ≡ flag p.running
    unfolding fourth
    read-running = number_same 1 third 12 (flag p.running) (omega (arith, third-size)) (flag_small p.running)

    pub read_back : pump_of (block_of p) ≡ p
    unfolding pump_of
    read_back = rw (block-is, read-starts, read-total, read-last, read-running, flag-back p.running)

-- format's zeros are a pump before its first event
pub read-zeros : pump_of (zeros 64) ≡ unused
unfolding pump_of zeros number unused value
read-zeros = refl

pub read_fits : (block : List ℕ) → ((i : ℕ) → get_or block i 0 < 256) → Fits (pump_of block)
unfolding pump_of
read_fits block h =
    record {
      starts = omega (arith, number_lt 4 block 0 h);
      total = omega (arith, number_lt 4 block 4 h);
      last = omega (arith, number_lt 4 block 8 h);
    }

pub cleared : (block : List ℕ) → length block ≡ 64 → puts block 0 (zeros 64) ≡ zeros 64
cleared block h = puts_whole block (zeros 64) (h ∙ sym (length-zeros 64))
