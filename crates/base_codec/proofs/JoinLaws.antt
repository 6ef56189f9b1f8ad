-- A number of n + m bytes by the number of its first n bytes and that of the next m: read, by `|` and `<<`, and written. Assumes nothing.
use mathlib.Core.Path.{◌≡◌, refl, sym, ap, ◌∙◌}
use mathlib.Core.List.{List, ◌++◌}
use Prim.Native.Nat.{ℕ, zero, suc, ◌+◌, ◌*◌, ◌/◌, ◌%◌, ◌^◌, ◌≤◌, ◌<◌}
use native.Mathlib.Nat.{pow-suc, mul_comm, mul_assoc, zero-add, suc-add, div-one, div-div-eq-div-mul}
use native.Mathlib.Omega.{arith}
use lib.Arith.{digits_lt}
use lib.Bits.{bit_or}
use lib.ListN.{get_or, set}
use lib.Pow.{pow-add}
use Rattle.model.specs.Bytes.{bytes, number, put_number}
use Rattle.model_laws.proofs.bytes.ByteLaws.{puts-nil, puts-cons, puts-append, length-bytes, number-none, number_more}
use Rattle.base_codec.proofs.WordLaws.{field-or}

bytes_bits : (n : ℕ) → 256 ^ n ≡ 2 ^ (8 * n)
bytes_bits zero = refl
bytes_bits (suc n) = pow-suc 256 n ∙ ap (λ (x : ℕ). x * 256) (bytes_bits n) ∙ sym (pow-add 2 (8 * n) 8) ∙ ap (λ (x : ℕ). 2 ^ x) (omega arith)

pub number-join : (n m : ℕ) (s : List ℕ) (at : ℕ) → number (n + m) s at ≡ number n s at + 256 ^ n * number m s (at + n)
number-join zero m s at =
    let e : zero + m ≡ m = omega arith in
    let f : at + zero ≡ at = omega arith in
    rw (e, f, number-none) (omega arith)
number-join (suc n) m s at =
    let e : suc n + m ≡ n + m + 1 = omega arith in
    let f : suc n ≡ n + 1 = omega arith in
    let g : at + suc n ≡ at + 1 + n = omega arith in
    let p : 256 * (256 ^ n * number m s (at + 1 + n)) ≡ 256 ^ suc n * number m s (at + 1 + n) =
    sym (mul_assoc 256 (256 ^ n) (number m s (at + 1 + n))) ∙ ap (λ (x : ℕ). x * number m s (at + 1 + n)) (mul_comm 256 (256 ^ n) ∙ sym (pow-suc 256 n)) in
    rw (e, g, number_more (n + m), ← p, f, number_more n, number-join n m s (at + 1)) (omega arith)

pub number-one : (s : List ℕ) (at : ℕ) → number 1 s at ≡ get_or s at 0
number-one s at = omega (arith, number_more 0 s at, number-none s (at + 1))

pub joined : (n m : ℕ) (s : List ℕ) (at x y : ℕ) → (x ≡ number n s at) × (x < 256 ^ n) → (y ≡ number m s (at + n)) × (y < 256 ^ m) → m + n ≤ 8
    → (bit_or x ((y * 2 ^ (8 * n)) % 2 ^ 64) ≡ number (n + m) s at) × (bit_or x ((y * 2 ^ (8 * n)) % 2 ^ 64) < 256 ^ (n + m))
joined n m s at x y p q h =
    let hx : x < 2 ^ (8 * n) = rw bytes_bits at p.1 in
    let hy : y < 2 ^ (8 * m) = rw bytes_bits at q.1 in
    let e : bit_or x ((y * 2 ^ (8 * n)) % 2 ^ 64) ≡ y * 256 ^ n + x = rw (bytes_bits n) (field-or (8 * m) (8 * n) y x hy hx (omega arith)) in
    rw e (
      rw (number-join n m s at, ← p.0, ← q.0, mul_comm y (256 ^ n)) (omega arith),
      rw (pow-add 256 n m, mul_comm (256 ^ n) (256 ^ m)) (digits_lt q.1 p.1),
    )

-- ---- written

bytes-join : (n m v : ℕ) → bytes (n + m) v ≡ bytes n v ++ bytes m (v / 256 ^ n)
unfolding bytes
bytes-join zero m v = rw (zero-add, div-one)
bytes-join (suc n) m v =
    let e : v / 256 / 256 ^ n ≡ v / 256 ^ suc n = div-div-eq-div-mul v 256 (256 ^ n) ∙ ap (λ (x : ℕ). v / x) (mul_comm 256 (256 ^ n) ∙ sym (pow-suc 256 n)) in
    rw (suc-add, bytes-join n m (v / 256), e)

pub put-joined : (n m : ℕ) (d : List ℕ) (at v : ℕ) → put_number m (put_number n d at v) (at + n) (v / 256 ^ n) ≡ put_number (n + m) d at v
unfolding put_number
put-joined n m d at v = rw (bytes-join, puts-append, length-bytes)

pub put_one : (d : List ℕ) (at v : ℕ) → set d at (v % 256) ≡ put_number 1 d at v
unfolding put_number bytes
put_one d at v = rw (← puts-cons, puts-nil)

pub put_two : (d : List ℕ) (at v : ℕ) → set (set d at (v % 256)) (at + 1) (v / 256 % 256) ≡ put_number 2 d at v
unfolding put_number bytes
put_two d at v = rw (← puts-cons, ← puts-cons, puts-nil)
