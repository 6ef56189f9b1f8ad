-- A control block that is written reads back as it was, whatever stood in it. Assumes nothing.
use Prim.Native.Nat.{ℕ, zero, suc, ◌+◌, ◌*◌, ◌^◌, ◌≤◌, ◌<◌}
use mathlib.Core.Path.{◌≡◌, refl, ◌∙◌}
use mathlib.Core.List.{List, [], ◌∷◌}
use native.Mathlib.Omega.{arith}
use lib.ListN.{length, get_or}
use Rattle.model.specs.Bytes.{number, put_number}
use Rattle.model_laws.proofs.bytes.ByteLaws.{number_same, number-put-below, length-put_number}
use Rattle.object_machine.specs.Control.{Control, control_of, put_numbers, first_fields, middle_fields, last_fields, put_control, FieldsFit, ControlKept}

put-length : (s : List ℕ) (at : ℕ) (vs : List ℕ) → length (put_numbers s at vs) ≡ length s
unfolding put_numbers
put-length s at [] = refl
put-length s at (v ∷ vs) = put-length (put_number 8 s at v) (at + 8) vs ∙ length-put_number 8 s at v

-- numbers below those that are written stay
below : (s : List ℕ) (at : ℕ) (vs : List ℕ) (i : ℕ) → i + 8 ≤ at → number 8 (put_numbers s at vs) i ≡ number 8 s i
unfolding put_numbers
below s at [] i h = refl
below s at (v ∷ vs) i h = below (put_number 8 s at v) (at + 8) vs i (omega arith) ∙ number-put-below 8 8 s at v i h

-- each that is written is read
written : (s : List ℕ) (at : ℕ) (vs : List ℕ) (k : ℕ) → k < length vs → at + 8 * length vs ≤ length s → ((i : ℕ) → get_or vs i 0 < 256 ^ 8)
    → number 8 (put_numbers s at vs) (at + 8 * k) ≡ get_or vs k 0
unfolding put_numbers
written s at [] k h room fits = absurd (omega arith)
written s at (v ∷ vs) zero h room fits =
    let e : at + 8 * 0 ≡ at = omega arith in
    rw e (below (put_number 8 s at v) (at + 8) vs at (omega arith) ∙ number_same 8 s at v (omega arith) (fits 0))
written s at (v ∷ vs) (suc k) h room fits =
    let e : at + 8 * suc k ≡ at + 8 + 8 * k = omega arith in
    rw e (written (put_number 8 s at v) (at + 8) vs k (omega arith) (rw (length-put_number 8 s at v) (omega arith)) (λ i. fits (suc i)))

module _ (s : List ℕ) (c : Control) (size : length s ≡ 256) (fits : FieldsFit c) where
  abbrev one : List ℕ
  one = put_numbers s 0 (first_fields c)

  abbrev two : List ℕ
  two = put_numbers one 48 (middle_fields c)

  in-first : (k : ℕ) → k < 6 → number 8 (put_control s c) (0 + 8 * k) ≡ get_or (first_fields c) k 0
  unfolding put_control first_fields
  in-first k h =
      below two 96 (last_fields c) (0 + 8 * k) (omega arith)
      ∙ below one 48 (middle_fields c) (0 + 8 * k) (omega arith)
      ∙ written s 0 (first_fields c) k h (omega arith) fits.first

  in-middle : (k : ℕ) → k < 6 → number 8 (put_control s c) (48 + 8 * k) ≡ get_or (middle_fields c) k 0
  unfolding put_control middle_fields
  in-middle k h =
      below two 96 (last_fields c) (48 + 8 * k) (omega arith)
      ∙ written one 48 (middle_fields c) k h (rw (put-length s 0 (first_fields c)) (omega arith)) fits.middle

  in-last : (k : ℕ) → k < 5 → number 8 (put_control s c) (96 + 8 * k) ≡ get_or (last_fields c) k 0
  unfolding put_control last_fields
  in-last k h =
      written two 96 (last_fields c) k h (rw (put-length one 48 (middle_fields c), put-length s 0 (first_fields c)) (omega arith)) fits.last

  kept : control_of (put_control s c) ≡ c
  unfolding control_of first_fields middle_fields last_fields
  kept =
      rw (
        in-first 0 (omega arith),
        in-first 1 (omega arith),
        in-first 2 (omega arith),
        in-first 3 (omega arith),
        in-first 4 (omega arith),
        in-first 5 (omega arith),
        in-middle 0 (omega arith),
        in-middle 1 (omega arith),
        in-middle 2 (omega arith),
        in-middle 3 (omega arith),
        in-middle 4 (omega arith),
        in-middle 5 (omega arith),
        in-last 0 (omega arith),
        in-last 1 (omega arith),
        in-last 2 (omega arith),
        in-last 3 (omega arith),
        in-last 4 (omega arith),
      )

pub control-kept : ControlKept
control-kept s c size fits = kept s c size fits
