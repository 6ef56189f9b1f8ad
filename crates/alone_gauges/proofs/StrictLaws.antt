-- Strips that are acceptable are those that the request asks for: whole rows, at most 1,440, minutes that rise strictly. Assumes nothing.
use mathlib.Core.Path.{◌≡◌, refl, sym, ◌∙◌}
use mathlib.Core.Bool.{Bool, true, false}
use mathlib.Core.List.{List, [], ◌∷◌, ◌++◌}
use Prim.Native.Nat.{ℕ, zero, suc, ◌+◌, ◌*◌, ◌%◌, ◌≤◌, ◌<◌, suc-le-suc}
use native.Mathlib.Nat.{le_of_suc-le-suc}
use native.Mathlib.Omega.{arith}
use borrow.Author.Tests.{eqb-true, eqb-false}
use lib.Dec.{eqb}
use lib.ListN.{length, get_or, length-append, get_or-append}
use lib.Seq.{get_or-append_seam}
use Rattle.alone_gauges.specs.Readings.{Reading, readings, rising, acceptable}
use Rattle.alone_gauges.specs.Guarantees.{Rises, minutes_of, Sound}
use Rattle.alone_gauges.proofs.ReadingLaws.{rising-nil, rising-low, rising-next, rising-cons, acceptable-rest}
use Rattle.alone_gauges.proofs.MergeLaws.{place-front, acceptable-short}

-- ---- minutes that rise, asked one by one and by index

-- each minute is at least the lowest
low-at : (lowest : ℕ) (rs : List Reading) → rising lowest rs ≡ true → (j : ℕ) → j < length (minutes_of rs) → lowest ≤ get_or (minutes_of rs) j 0
low-at lowest [] e j h = absurd (omega arith)
low-at lowest (r ∷ rs) e zero h = rising-low lowest r rs e
low-at lowest (r ∷ rs) e (suc j) h =
    let l = rising-low lowest r rs e in
    let n = low-at (r.minute + 1) rs (rising-next lowest r rs e) j (le_of_suc-le-suc h) in
    omega arith

pub rising-rises : (lowest : ℕ) (rs : List Reading) → rising lowest rs ≡ true → Rises (minutes_of rs)
rising-rises lowest [] e i j l h = absurd (omega arith)
rising-rises lowest (r ∷ rs) e i zero l h = absurd (omega arith)
rising-rises lowest (r ∷ rs) e zero (suc j) l h =
    let n = low-at (r.minute + 1) rs (rising-next lowest r rs e) j (le_of_suc-le-suc h) in
    omega arith
rising-rises lowest (r ∷ rs) e (suc i) (suc j) l h =
    rising-rises (r.minute + 1) rs (rising-next lowest r rs e) i j (le_of_suc-le-suc l) (le_of_suc-le-suc h)

pub rises-rising : (lowest : ℕ) (rs : List Reading) → Rises (minutes_of rs) → (0 < length (minutes_of rs) → lowest ≤ get_or (minutes_of rs) 0 0) → rising lowest rs ≡ true
rises-rising lowest [] s l = rising-nil lowest
rises-rising lowest (r ∷ rs) s l =
    rising-cons lowest r rs (l (omega arith))
    (rises-rising (r.minute + 1) rs (λ i j a b. s (suc i) (suc j) (suc-le-suc a) (suc-le-suc b)) (λ h. let n = s 0 1 (omega arith) (suc-le-suc h) in omega arith))

-- ---- rows

pub rows_whole : (s : List ℕ) → length s % 4 ≡ 0 → length s ≡ 4 * length (readings s)
unfolding readings
rows_whole [] h = refl
rows_whole (a ∷ []) h = absurd (omega arith)
rows_whole (a ∷ b ∷ []) h = absurd (omega arith)
rows_whole (a ∷ b ∷ c ∷ []) h = absurd (omega arith)
rows_whole (a ∷ b ∷ c ∷ d ∷ s) h = omega (arith, rows_whole s (omega arith))

pub sound-acceptable : (s : List ℕ) → Sound s → acceptable s ≡ true
sound-acceptable s h =
    acceptable-rest s h.whole (omega (arith, rows_whole s h.whole, h.short))
    ∙ rises-rising 0 (readings s) h.strict (λ l. omega arith)

pub acceptable-sound : (s : List ℕ) → acceptable s ≡ true → Sound s
acceptable-sound s e =
    let p = place-front s e in
    record {
      whole = p.whole;
      short = omega (arith, rows_whole s p.whole, acceptable-short s e);
      strict = rising-rises 0 (readings s) (sym (acceptable-rest s p.whole (acceptable-short s e)) ∙ e);
    }

-- ---- one more at the end

abbrev pub Below : ℕ → List ℕ → Type 0
Below n ms = (j : ℕ) → j < length ms → get_or ms j 0 < n

pub below-snoc : (n : ℕ) (ms : List ℕ) → Below n ms → Below (suc n) (ms ++ (n ∷ []))
below-snoc n ms b j h = go (eqb j (length ms)) refl
  where
    go : (t : Bool) → eqb j (length ms) ≡ t → get_or (ms ++ (n ∷ [])) j 0 < suc n
    go true e = rw (eqb-true j (length ms) e, get_or-append_seam ms n [] 0) (omega arith)
    go false e =
        let d = eqb-false j (length ms) e in
        let l : j < length ms = omega (arith, length-append ms (n ∷ [])) in
        let k = b j l in
        rw (get_or-append ms (n ∷ []) 0 j l) (omega arith)

pub rises-snoc : (n : ℕ) (ms : List ℕ) → Rises ms → Below n ms → Rises (ms ++ (n ∷ []))
rises-snoc n ms s b i j l h = go (eqb j (length ms)) refl
  where
    go : (t : Bool) → eqb j (length ms) ≡ t → get_or (ms ++ (n ∷ [])) i 0 < get_or (ms ++ (n ∷ [])) j 0
    go true e =
        let q = eqb-true j (length ms) e in
        let k : i < length ms = omega arith in
        rw (q, get_or-append_seam ms n [] 0, get_or-append ms (n ∷ []) 0 i k) (b i k)
    go false e =
        let d = eqb-false j (length ms) e in
        let k : j < length ms = omega (arith, length-append ms (n ∷ [])) in
        let o : i < length ms = omega arith in
        rw (get_or-append ms (n ∷ []) 0 j k, get_or-append ms (n ∷ []) 0 i o) (s i j l k)
