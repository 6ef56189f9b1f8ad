-- An alarm's bytes: read from a word, written, and read back. Assumes nothing.
use mathlib.Core.Path.{◌≡◌, sym, ap, ◌∙◌}
use mathlib.Core.List.{List, ◌++◌}
use Prim.Native.Nat.{ℕ, ◌+◌, ◌*◌, ◌/◌, ◌%◌, ◌≤◌, ◌<◌}
use native.Mathlib.Nat.{add-mul-div_right, div-eq_of_lt}
use native.Mathlib.Omega.{arith}
use lib.ListN.{length, drop, get_or, length-append}
use lib.Seq.{take-add, drop-drop}
use Rattle.model.specs.Bytes.{part, puts, number, put_number}
use Rattle.model_laws.proofs.bytes.ByteLaws.{puts-append, length-bytes, length-put_number, number_lt, number-below, number-above, number_same, number-put-below}
use Rattle.base_codec.proofs.JoinLaws.{number-join}
use Rattle.base_codec.proofs.CopyLaws.{read-bytes}
use Rattle.unit_alarms_list.specs.Alarm.{Alarm, alarm, alarm_at, alarm_bytes, InRange}

pub length-alarm : (a : Alarm) → length (alarm_bytes a) ≡ 7
unfolding alarm_bytes
length-alarm a = simp (length-append, length-bytes)

-- a run of bytes by its first n and the rest
pub part-add : (s : List ℕ) (at n m : ℕ) → part s at (n + m) ≡ part s at n ++ part s (at + n) m
unfolding part
part-add s at n m = rw (take-add n m (drop at s), drop-drop)

-- ---- read

-- the fields of a word of eight bytes
below-div : (l r m : ℕ) → l < m → (l + r * m) / m ≡ r
below-div l r m h = add-mul-div_right l r (omega arith) ∙ omega (arith, div-eq_of_lt h)

split : (w a b c d : ℕ) → w ≡ a + 65536 * (b + 256 * (c + 4294967296 * d)) → a < 65536 → b < 256 → c < 4294967296
    → alarm (w % 65536) (w / 65536 % 256) (w / 16777216 % 4294967296) ≡ alarm a b c
split w a b c d e h k l =
    let r = c + 4294967296 * d in
    let f : w ≡ a + (b + 256 * r) * 65536 = omega arith in
    let g : w ≡ a + 65536 * b + r * 16777216 = omega arith in
    let x : w % 65536 ≡ a = omega arith in
    let y : w / 65536 ≡ b + 256 * r = ap (λ (n : ℕ). n / 65536) f ∙ below-div a (b + 256 * r) 65536 h in
    let z : w / 16777216 ≡ r = ap (λ (n : ℕ). n / 16777216) g ∙ below-div (a + 65536 * b) r 16777216 (omega arith) in
    let p : (b + 256 * r) % 256 ≡ b = omega arith in
    let q : r % 4294967296 ≡ c = omega arith in
    rw (x, y, z, p, q)

module _ (s : List ℕ) (at : ℕ) (b : (i : ℕ) → get_or s i 0 < 256) where
  pub at-range : InRange (alarm_at s at)
  unfolding alarm_at
  at-range = record { identity = number_lt 2 s at b; class = number_lt 1 s (at + 2) b; second = number_lt 4 s (at + 3) b }

  word : number 8 s at ≡ number 2 s at + 65536 * (number 1 s (at + 2) + 256 * (number 4 s (at + 3) + 4294967296 * number 1 s (at + 7)))
  word =
      let p : at + 2 + 1 ≡ at + 3 = omega arith in
      let q : at + 3 + 4 ≡ at + 7 = omega arith in
      let e = number-join 2 6 s at in
      let f : number 6 s (at + 2) ≡ number 1 s (at + 2) + 256 * number 5 s (at + 3) = rw (← p) (number-join 1 5 s (at + 2)) in
      let g : number 5 s (at + 3) ≡ number 4 s (at + 3) + 4294967296 * number 1 s (at + 7) = rw (← q) (number-join 4 1 s (at + 3)) in
      omega arith

  pub word-alarm : {w : ℕ} → w ≡ number 8 s at → alarm (w % 65536) (w / 65536 % 256) (w / 16777216 % 4294967296) ≡ alarm_at s at
  unfolding alarm_at
  word-alarm {w} h = split w (number 2 s at) (number 1 s (at + 2)) (number 4 s (at + 3)) (number 1 s (at + 7)) (h ∙ word) (number_lt 2 s at b) (number_lt 1 s (at + 2) b) (number_lt 4 s (at + 3) b)

  -- the bytes of an alarm that was read
  pub read-alarm : at + 7 ≤ length s → alarm_bytes (alarm_at s at) ≡ part s at 7
  unfolding alarm_bytes alarm_at
  read-alarm h =
      let e : at + 2 + 1 ≡ at + 3 = omega arith in
      let f : part s (at + 2) 5 ≡ part s (at + 2) 1 ++ part s (at + 3) 4 = rw (← e) (part-add s (at + 2) 1 4) in
      rw (
        read-bytes 2 s at b (omega arith),
        read-bytes 1 s (at + 2) b (omega arith),
        read-bytes 4 s (at + 3) b (omega arith),
        part-add s at 2 5,
        f,
      )

-- ---- written

-- by its fields
pub put-fields : (d : List ℕ) (at : ℕ) (a : Alarm)
    → put_number 4 (put_number 1 (put_number 2 d at a.identity) (at + 2) a.class) (at + 3) a.second ≡ puts d at (alarm_bytes a)
unfolding put_number alarm_bytes
put-fields d at a =
    let e : at + 2 + 1 ≡ at + 3 = omega arith in
    sym (rw (puts-append, length-bytes, puts-append, length-bytes, e))

pub alarm-below : (d : List ℕ) (i : ℕ) (s : List ℕ) (at : ℕ) → at + 7 ≤ i → alarm_at (puts d i s) at ≡ alarm_at d at
unfolding alarm_at
alarm-below d i s at h =
    rw (number-below 2 d i s at (omega arith), number-below 1 d i s (at + 2) (omega arith), number-below 4 d i s (at + 3) (omega arith))

pub alarm-above : (d : List ℕ) (i : ℕ) (s : List ℕ) (at : ℕ) → i + length s ≤ at → alarm_at (puts d i s) at ≡ alarm_at d at
unfolding alarm_at
alarm-above d i s at h =
    rw (number-above 2 d i s at h, number-above 1 d i s (at + 2) (omega arith), number-above 4 d i s (at + 3) (omega arith))

pub alarm-same : (d : List ℕ) (at : ℕ) (a : Alarm) → InRange a → at + 7 ≤ length d → alarm_at (puts d at (alarm_bytes a)) at ≡ a
unfolding alarm_at
alarm-same d at a r h =
    let d1 = put_number 2 d at a.identity in
    let d2 = put_number 1 d1 (at + 2) a.class in
    let l1 : length d1 ≡ length d = length-put_number 2 d at a.identity in
    let l2 : length d2 ≡ length d = length-put_number 1 d1 (at + 2) a.class ∙ l1 in
    let x : number 2 (put_number 4 d2 (at + 3) a.second) at ≡ a.identity =
    number-put-below 2 4 d2 (at + 3) a.second at (omega arith) ∙ number-put-below 2 1 d1 (at + 2) a.class at (omega arith)
    ∙ number_same 2 d at a.identity (omega arith) r.identity in
    let y : number 1 (put_number 4 d2 (at + 3) a.second) (at + 2) ≡ a.class =
    number-put-below 1 4 d2 (at + 3) a.second (at + 2) (omega arith) ∙ number_same 1 d1 (at + 2) a.class (omega arith) r.class in
    let z : number 4 (put_number 4 d2 (at + 3) a.second) (at + 3) ≡ a.second = number_same 4 d2 (at + 3) a.second (omega arith) r.second in
    rw (← put-fields d at a, x, y, z)
