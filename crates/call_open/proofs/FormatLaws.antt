-- Format: its questions, what it leaves in the copies, and how the call ends. Assumes nothing.
use mathlib.Core.Path.{◌≡◌, refl, sym, ap, ◌∙◌}
use mathlib.Core.Bool.{Bool, true, false, ◌&&◌}
use mathlib.Core.Logic.{◌≢◌}
use mathlib.Core.List.{List, []}
use Prim.Native.Nat.{ℕ, ◌+◌, ◌*◌, ◌≤◌, ◌<◌}
use native.Mathlib.Omega.{arith}
use lib.ListN.{length}
use borrow.Author.Tests.{le-leb, lt-leb}
use Rattle.model.specs.Bytes.{puts, zeros}
use Rattle.model.specs.Layout.{group_count, home_count, log_length_right, data_length_right, empty_log}
use Rattle.model.specs.Batch.{batch_bytes}
use Rattle.model.specs.Effects.{Given, format_effect, formatted}
use Rattle.model.specs.Questions.{areas_right, batch_fits, format_answer}
use Rattle.model.specs.Calls.{size_of, format_call}
use Rattle.model_laws.proofs.bytes.ByteLaws.{puts_whole, length-zeros}
use Rattle.model_laws.proofs.state.QuestionLaws.{ask-yes, ask-no, ask-passed}
use Rattle.model_laws.proofs.state.OrderLaws.{tests}
use Rattle.base_batch.proofs.FormatLaws.{length-formatted}
use Rattle.call_ask.specs.Lent.{lent, leaves}
use Rattle.call_ask.proofs.AnswerLaws.{refused-by, done-by}

-- ---- the questions

and-no-left : (a b : Bool) → a ≡ false → (a && b) ≡ false
and-no-left true b e = cc
and-no-left false b e = refl

and-no-right : (a b : Bool) → b ≡ false → (a && b) ≡ false
and-no-right true b e = e
and-no-right false b e = refl

and_yes : (a b : Bool) → a ≡ true → b ≡ true → (a && b) ≡ true
and_yes true b e f = f
and_yes false b e f = cc

module _ (log area batch : List ℕ) where
  abbrev asked : Given
  asked = lent log area [] [] batch 0 0

  pub format-size : size_of (format_effect asked) ≡ 138 + 516 * group_count (length log) + 68 * home_count (length area)
  unfolding size_of format_effect
  format-size = length-formatted (group_count (length log)) (home_count (length area))

  pub format-log-wrong : log_length_right (length log) ≡ false → 1 ≡ format_answer asked (size_of (format_effect asked))
  unfolding format_answer areas_right
  format-log-wrong e = sym (ask-no _ 1 _ (and-no-left (log_length_right (length log)) (data_length_right (length area)) e))

  pub format-area-wrong : data_length_right (length area) ≡ false → 1 ≡ format_answer asked (size_of (format_effect asked))
  unfolding format_answer areas_right
  format-area-wrong e = sym (ask-no _ 1 _ (and-no-right (log_length_right (length log)) (data_length_right (length area)) e))

  module _ (l : log_length_right (length log) ≡ true) (a : data_length_right (length area) ≡ true) where
    pub format-batch-short : length batch < 138 + 516 * group_count (length log) + 68 * home_count (length area)
        → 9 ≡ format_answer asked (size_of (format_effect asked))
    unfolding format_answer areas_right batch_fits
    format-batch-short h =
        sym (ask-yes _ 1 _ (and_yes _ _ l a) ∙ ask-no _ 9 0 (lt-leb (size_of (format_effect asked)) (length batch) (omega (arith, format-size))))

    pub format-allowed : 138 + 516 * group_count (length log) + 68 * home_count (length area) ≤ length batch
        → 0 ≡ format_answer asked (size_of (format_effect asked))
    unfolding format_answer areas_right batch_fits
    format-allowed h =
        sym (ask-yes _ 1 _ (and_yes _ _ l a) ∙ ask-yes _ 9 0 (le-leb (size_of (format_effect asked)) (length batch) (omega (arith, format-size))))

-- how many groups and homes there are at most where the lengths are right
pub groups-most : (n : ℕ) → log_length_right n ≡ true → group_count n ≤ 1024
unfolding log_length_right
groups-most n h = let f = simp tests at h in omega arith

pub homes-most : (n : ℕ) → data_length_right n ≡ true → home_count n ≤ 65535
unfolding data_length_right
homes-most n h = let f = simp tests at h in omega arith

-- what an answer of 0 says
pub record Formattable (log area batch : List ℕ) : Type 0 where
  pub log-length : length log ≡ 64 + 512 * group_count (length log)
  pub groups-least : 4 ≤ group_count (length log)
  pub groups-most : group_count (length log) ≤ 1024
  pub area-length : length area ≡ 64 * home_count (length area)
  pub homes-most : home_count (length area) ≤ 65535
  pub batch-length : 138 + 516 * group_count (length log) + 68 * home_count (length area) ≤ length batch

pub formattable : (log area batch : List ℕ) (v : ℕ) → v ≡ format_answer (asked log area batch) (size_of (format_effect (asked log area batch)))
    → v ≡ 0 → Formattable log area batch
unfolding format_answer areas_right batch_fits log_length_right data_length_right
formattable log area batch v e z =
    let a = ask-passed _ 0 _ (sym e ∙ z) in
    let b = ask-passed _ 8 0 a.1 in
    let f = simp tests at a.0 in
    let k = simp tests at b.0 in
    let s = format-size log area batch in
    record {
      log-length = omega arith;
      groups-least = omega arith;
      groups-most = omega arith;
      area-length = omega arith;
      homes-most = omega arith;
      batch-length = omega arith;
    }

-- ---- the data copy

pub area-formatted : (area : List ℕ) → puts area 0 (zeros (length area)) ≡ zeros (length area)
area-formatted area = puts_whole area (zeros (length area)) (sym (length-zeros (length area)))

-- ---- how the call ends

pub format-refused : (log area batch : List ℕ) (v code figure size : ℕ)
    → v ≡ format_answer (asked log area batch) (size_of (format_effect (asked log area batch))) → v ≢ 0
    → (code ≡ v) × (figure ≡ 0) × (size ≡ 0)
    → leaves code figure size log area [] [] batch ≡ format_call (asked log area batch)
unfolding format_call
format-refused log area batch v code figure size e h r =
    refused-by (asked log area batch) (format_effect (asked log area batch)) _ code figure size (r.0 ∙ e) (λ z. h (sym r.0 ∙ z)) r.1 r.2

pub format-done : (log area batch : List ℕ) (v code figure size n groups homes : ℕ) (l a b : List ℕ)
    → v ≡ format_answer (asked log area batch) (size_of (format_effect (asked log area batch))) → v ≡ 0
    → (code ≡ 0) × (figure ≡ 0) × (size ≡ n) → groups ≡ group_count (length log) → homes ≡ home_count (length area)
    → l ≡ empty_log 0 groups homes → a ≡ zeros (length area) → n ≡ length (batch_bytes (formatted groups homes))
    → b ≡ puts batch 0 (batch_bytes (formatted groups homes))
    → leaves code figure size l a [] [] b ≡ format_call (asked log area batch)
unfolding format_call format_effect
format-done log area batch v code figure size n groups homes l a b e z r g h el ea en eb =
    let k : Formattable log area batch = formattable log area batch v e z in
    done-by (asked log area batch) (format_effect (asked log area batch)) _ code figure size l a [] [] [] b (sym e ∙ z) r.0 r.1
    (r.2 ∙ en ∙ rw (g, h)) (el ∙ rw (g, h)) (ea ∙ ap zeros k.area-length) refl refl refl (eb ∙ rw (g, h))
