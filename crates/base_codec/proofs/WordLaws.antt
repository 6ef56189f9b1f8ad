-- Laws of words that are put together by `|` and `<<`. Assumes nothing.
use mathlib.Core.Path.{◌≡◌, ap, ◌∙◌}
use Prim.Native.Nat.{ℕ, ◌+◌, ◌*◌, ◌%◌, ◌^◌, ◌≤◌, ◌<◌}
use lib.Bits.{bit_or, or_shifted_r}
use lib.Pow.{shl_exact}

-- a field f of j bits, shifted by k into a 64-bit word whose k lower bits are l
pub field-or : (j k f l : ℕ) → f < 2 ^ j → l < 2 ^ k → j + k ≤ 64 → bit_or l ((f * 2 ^ k) % 2 ^ 64) ≡ f * 2 ^ k + l
field-or j k f l hf hl h = ap (λ (x : ℕ). bit_or l x) (shl_exact j k 64 hf h) ∙ or_shifted_r f k l hl

-- the same, where what stands below is a word x that was shown to be l
pub then-field : (j k f : ℕ) {x l : ℕ} → x ≡ l → f < 2 ^ j → l < 2 ^ k → j + k ≤ 64 → bit_or x ((f * 2 ^ k) % 2 ^ 64) ≡ f * 2 ^ k + l
then-field j k f {x} {l} e hf hl h = ap (λ (y : ℕ). bit_or y ((f * 2 ^ k) % 2 ^ 64)) e ∙ field-or j k f l hf hl h
