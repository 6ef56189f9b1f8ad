-- What each way out of the merge's step shows, and where it begins and ends. Assumes nothing.
use mathlib.Core.Path.{◌≡◌, refl, sym, ap₂, ◌∙◌, subst}
use mathlib.Core.Bool.{Bool, true, false, cond}
use mathlib.Core.List.{List, [], ◌∷◌}
use Prim.Native.Nat.{ℕ, ◌+◌, ◌*◌, ◌%◌, ◌≤◌, ◌<◌}
use native.Mathlib.Omega.{arith}
use borrow.Author.Tests.{eqb-true, leb-true, lt-leb}
use lib.Dec.{eqb, leb}
use lib.ListN.{length, get_or}
use Rattle.alone_gauges.specs.Readings.{Reading, reading, readings, rising, acceptable}
use Rattle.alone_gauges.specs.Report.{line, difference, kind_of, report}
use Rattle.alone_gauges.specs.Merge.{rest, Place, left, Stepped}
use Rattle.alone_gauges.proofs.ReadingLaws.{both_left, both_right, row_at, rest-row, rest_end, rest_all, rising-nil, rising-next, rising-cons, rising_step, rising-lower}
use Rattle.alone_gauges.proofs.ReportLaws.{report-first, report-second, report-both, report-end}

abbrev pub number_at : List ℕ → ℕ → ℕ
number_at s at = get_or s at 0 + 256 * get_or s (at + 1) 0

row-minute : (s : List ℕ) (at : ℕ) → (row_at s at).minute ≡ number_at s at
unfolding row_at reading
row-minute s at = refl

row-level : (s : List ℕ) (at : ℕ) → (row_at s at).level ≡ number_at s (at + 2)
unfolding row_at reading
row-level s at = let e : at + 2 + 1 ≡ at + 3 = omega arith in rw e

-- ---- places

-- a row stands at a place that is not the end
pub row_fits : {s : List ℕ} {at : ℕ} → Place s at → at < length s → at + 4 ≤ length s
row_fits p h = omega (arith, p.whole, p.aligned)

strict-row : {s : List ℕ} {at : ℕ} → Place s at → at < length s → rising 0 (row_at s at ∷ rest s (at + 4)) ≡ true
strict-row {s} {at} p h = subst (λ (rs : List Reading). rising 0 rs ≡ true) (rest-row s at (row_fits p h)) p.strict

place-next : {s : List ℕ} {at : ℕ} → Place s at → at < length s → Place s (at + 4)
place-next {s} {at} p h =
    let a = p.aligned in
    record {
      inside = row_fits p h;
      whole = p.whole;
      aligned = omega arith;
      strict = rising-lower ((row_at s at).minute + 1) 0 (rest s (at + 4)) (omega arith) (rising-next 0 (row_at s at) (rest s (at + 4)) (strict-row p h));
    }

-- an acceptable strip, from the front
pub place-front : (s : List ℕ) → acceptable s ≡ true → Place s 0
unfolding acceptable
place-front s e =
    record {
      inside = omega arith;
      whole = eqb-true (length s % 4) 0 (both_left (eqb (length s % 4) 0) _ e);
      aligned = refl;
      strict = rw (rest_all s) (both_right (leb (length s) (4 * 1440)) _ (both_right (eqb (length s % 4) 0) _ e));
    }

pub acceptable-short : (s : List ℕ) → acceptable s ≡ true → length s ≤ 5760
unfolding acceptable
acceptable-short s e = leb-true (length s) 5760 (both_left (leb (length s) (4 * 1440)) _ (both_right (eqb (length s % 4) 0) _ e))

-- ---- the other list's rows are all later

pub later : {s : List ℕ} {at : ℕ} → Place s at → at < length s → (m : ℕ) → m < number_at s at → rising (m + 1) (rest s at) ≡ true
later {s} {at} p h m l =
    rw (rest-row s at (row_fits p h))
    (rising-cons (m + 1) (row_at s at) (rest s (at + 4)) (omega (arith, row-minute s at)) (rising-next 0 (row_at s at) (rest s (at + 4)) (strict-row p h)))

pub ended : (s : List ℕ) (at : ℕ) → length s ≤ at → (m : ℕ) → rising (m + 1) (rest s at) ≡ true
ended s at h m = rw (rest_end s at h) (rising-nil (m + 1))

-- ---- one line

kind-small : (tolerance a b : ℕ) → kind_of tolerance a b < 256
unfolding kind_of
kind-small tolerance a b = go (leb (difference a b) tolerance)
  where
    go : (t : Bool) → cond t 1 2 < 256
    go true = omega arith
    go false = omega arith

module _ (tolerance : ℕ) {first second : List ℕ} {i j : ℕ} (p : Place first i) (q : Place second j) where
  pub step-first : i < length first → (m : ℕ) → m ≡ number_at first i → m < 65536 → rising (m + 1) (rest second j) ≡ true
      → Stepped tolerance first second i j m 3 (i + 4) j
  unfolding left
  step-first h m e b r =
      let x = row_at first i in
      let f : x.minute ≡ m = row-minute first i ∙ sym e in
      let n : report tolerance (x ∷ rest first (i + 4)) (rest second j) ≡ line x.minute 3 ∷ report tolerance (rest first (i + 4)) (rest second j) =
      report-first tolerance x (rest first (i + 4)) (rest second j) (strict-row p h) (rw f r) (omega arith) in
      record {
        next = rw (rest-row first i (row_fits p h)) (n ∙ rw f);
        first_place = place-next p h;
        second_place = q;
        further = omega arith;
        small = omega arith;
      }

  pub step-second : j < length second → (m : ℕ) → m ≡ number_at second j → m < 65536 → rising (m + 1) (rest first i) ≡ true
      → Stepped tolerance first second i j m 4 i (j + 4)
  unfolding left
  step-second h m e b r =
      let y = row_at second j in
      let f : y.minute ≡ m = row-minute second j ∙ sym e in
      let n : report tolerance (rest first i) (y ∷ rest second (j + 4)) ≡ line y.minute 4 ∷ report tolerance (rest first i) (rest second (j + 4)) =
      report-second tolerance (rest first i) y (rest second (j + 4)) (strict-row q h) (rw f r) (omega arith) in
      record {
        next = rw (rest-row second j (row_fits q h)) (n ∙ rw f);
        first_place = p;
        second_place = place-next q h;
        further = omega arith;
        small = omega arith;
      }

  pub step_both : i < length first → j < length second → (m k : ℕ) → m ≡ number_at first i → m ≡ number_at second j → m < 65536
      → k ≡ kind_of tolerance (number_at first (i + 2)) (number_at second (j + 2))
      → Stepped tolerance first second i j m k (i + 4) (j + 4)
  unfolding left
  step_both h l m k e f b g =
      let x = row_at first i in
      let y = row_at second j in
      let u : x.minute ≡ m = row-minute first i ∙ sym e in
      let v : y.minute ≡ m = row-minute second j ∙ sym f in
      let w : kind_of tolerance x.level y.level ≡ k = ap₂ (kind_of tolerance) (row-level first i) (row-level second j) ∙ sym g in
      let n : report tolerance (x ∷ rest first (i + 4)) (y ∷ rest second (j + 4))
      ≡ line x.minute (kind_of tolerance x.level y.level) ∷ report tolerance (rest first (i + 4)) (rest second (j + 4)) =
      report-both tolerance x (rest first (i + 4)) y (rest second (j + 4)) (strict-row p h) (strict-row q l) (v ∙ sym u) (omega arith) in
      record {
        next = rw (rest-row first i (row_fits p h), rest-row second j (row_fits q l)) (n ∙ rw (u, w));
        first_place = place-next p h;
        second_place = place-next q l;
        further = omega arith;
        small = omega (arith, kind-small tolerance (number_at first (i + 2)) (number_at second (j + 2)));
      }

-- ---- the whole report, and none left

pub left-all : (tolerance : ℕ) (first second : List ℕ) → left tolerance first second 0 0 ≡ report tolerance (readings first) (readings second)
unfolding left
left-all tolerance first second = rw (rest_all first, rest_all second)

pub left-none : (tolerance : ℕ) (first second : List ℕ) (i j : ℕ) → length first ≤ i → length second ≤ j → left tolerance first second i j ≡ []
unfolding left
left-none tolerance first second i j h l = rw (rest_end first i h, rest_end second j l) (report-end tolerance)

-- ---- rows asked one by one whether they rise

pub rising-over : (s : List ℕ) (at lowest m : ℕ) → at + 4 ≤ length s → m ≡ number_at s at → lowest ≤ m → rising lowest (rest s at) ≡ rising (m + 1) (rest s (at + 4))
rising-over s at lowest m h e l =
    let f : (row_at s at).minute ≡ m = row-minute s at ∙ sym e in
    rw (rest-row s at h) (rising_step lowest (row_at s at) (rest s (at + 4)) (omega arith) ∙ rw f)

pub rising-under : (s : List ℕ) (at lowest m : ℕ) → at + 4 ≤ length s → m ≡ number_at s at → m < lowest → rising lowest (rest s at) ≡ false
unfolding rising
rising-under s at lowest m h e l =
    let f : (row_at s at).minute ≡ m = row-minute s at ∙ sym e in
    rw (rest-row s at h, f, lt-leb lowest m l)

pub rising-ended : (s : List ℕ) (at lowest : ℕ) → length s ≤ at → rising lowest (rest s at) ≡ true
rising-ended s at lowest h = rw (rest_end s at h) (rising-nil lowest)
