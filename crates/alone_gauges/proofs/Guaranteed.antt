-- What the definitions promise, for bytes of any contents and length.
use mathlib.Core.Path.{◌≡◌, refl, ap, ◌∙◌}
use mathlib.Core.Bool.{Bool, true, false}
use mathlib.Core.List.Memᴰ
use mathlib.Core.List.{List, [], ◌∷◌, ◌++◌}
use mathlib.Core.Logic.{⊎_elim}
use Prim.Native.Nat.{ℕ, zero, suc, ◌+◌, ◌-◌, ◌*◌, ◌≤◌, ◌<◌}
use native.Mathlib.Omega.{arith}
use borrow.Author.Tests.{leb-true, leb-false, ltb-true, ltb-false}
use lib.Dec.{leb, ltb}
use lib.ListN.{length, take, drop, get_or, length-append, length-drop, get_or-append}
use lib.Seq.{take_at, drop_at, get_or-append-add}
use Rattle.alone_gauges.specs.Readings.{Reading, reading, readings, rising, acceptable}
use Rattle.alone_gauges.specs.Report.{Line, report, encode}
use Rattle.alone_gauges.specs.Compare.{Outcome, written, done, refused, compare_gauges}
use Rattle.alone_gauges.specs.Guarantees.{Bytes, Has, Right, agreeing, differing, only_first, only_second, minutes_of, different, Reported, Asked, Done, Refused, Guarantee}
use Rattle.alone_gauges.proofs.OutputLaws.{length-encode}
use Rattle.alone_gauges.proofs.CountLaws.{report-total}
use Rattle.alone_gauges.proofs.CallLaws.{refused-first, refused-second, refused-room, done-report}
use Rattle.alone_gauges.proofs.StrictLaws.{Below, sound-acceptable, acceptable-sound, rises-rising}
use Rattle.alone_gauges.proofs.MemberLaws.{report-right, report-all, first-told, second-told, report-rises}
use Rattle.alone_gauges.proofs.DifferentLaws.{report-different}

-- ---- minutes of bytes are 16 bits

small-minutes : (s : List ℕ) → Bytes s → Below 65536 (minutes_of (readings s))
unfolding readings reading
small-minutes [] b j h = absurd (omega arith)
small-minutes (x ∷ []) b j h = absurd (omega arith)
small-minutes (x ∷ y ∷ []) b j h = absurd (omega arith)
small-minutes (x ∷ y ∷ z ∷ []) b j h = absurd (omega arith)
small-minutes (x ∷ y ∷ z ∷ w ∷ s) b zero h = omega (arith, b 0, b 1)
small-minutes (x ∷ y ∷ z ∷ w ∷ s) b (suc j) h = small-minutes s (λ i. b (suc (suc (suc (suc i))))) j (omega arith)

below-append : (n : ℕ) (ks ls : List ℕ) → Below n ks → Below n ls → Below n (ks ++ ls)
below-append n ks ls a b j h = go (ltb j (length ks)) refl
  where
    go : (t : Bool) → ltb j (length ks) ≡ t → get_or (ks ++ ls) j 0 < n
    go true e = let l = ltb-true j (length ks) e in rw (get_or-append ks ls 0 j l) (a j l)
    go false e =
        let l = ltb-false j (length ks) e in
        let q : j ≡ length ks + (j - length ks) = omega arith in
        rw (q, get_or-append-add ks ls (j - length ks) 0) (b (j - length ks) (omega (arith, length-append ks ls)))

has-below : (n m a : ℕ) (rs : List Reading) → Below n (minutes_of rs) → Has rs m a → m < n
has-below n m a [] b h = absurd (Memᴰ.not-nil h)
has-below n m a (r ∷ rs) b h =
    ⊎_elim (λ q. let k = b 0 (omega arith) in omega (arith, ap (λ (x : Reading). x.minute) q))
    (λ t. has-below n m a rs (λ j l. b (suc j) (omega arith)) t) (Memᴰ.cases_cons h)

right-below : (n tolerance m k : ℕ) (xs ys : List Reading) → Below n (minutes_of xs) → Below n (minutes_of ys) → Right tolerance xs ys m k → m < n
right-below n tolerance m k xs ys bx by (agreeing {a} hx hy d) = has-below n m a xs bx hx
right-below n tolerance m k xs ys bx by (differing {a} hx hy d) = has-below n m a xs bx hx
right-below n tolerance m k xs ys bx by (only_first {a} hx ly) = has-below n m a xs bx hx
right-below n tolerance m k xs ys bx by (only_second {b} lx hy) = has-below n m b ys by hy

-- ---- the report

module _ (tolerance : ℕ) (xs ys : List Reading) (bx : Below 65536 (minutes_of xs)) (by : Below 65536 (minutes_of ys)) where
  lines-different : length (report tolerance xs ys) ≡ different (minutes_of xs ++ minutes_of ys)
  lines-different = report-different tolerance xs ys (below-append 65536 (minutes_of xs) (minutes_of ys) bx by)

  reported-holds : rising 0 xs ≡ true → rising 0 ys ≡ true → Reported tolerance xs ys (report tolerance xs ys)
  reported-holds ex ey =
      record {
        every_first = λ m a h. first-told tolerance xs ys ex ey m a (has-below 65536 m a xs bx h) h;
        every_second = λ m b h. second-told tolerance xs ys ex ey m b (has-below 65536 m b ys by h) h;
        rises = report-rises tolerance xs ys;
        right = report-right tolerance xs ys ex ey;
        all = λ m k r. report-all tolerance xs ys ex ey m k (right-below 65536 tolerance m k xs ys bx by r) r;
        sum = report-total tolerance xs ys ∙ lines-different;
      }

-- ---- the call

refused-fields : (first second output : List ℕ) (tolerance : ℕ) → compare_gauges first second output tolerance ≡ refused output → Refused first second output tolerance
unfolding refused
refused-fields first second output tolerance e =
    record {
      code = ap (λ (o : Outcome). o.code) e;
      agreeing = ap (λ (o : Outcome). o.agreeing) e;
      differing = ap (λ (o : Outcome). o.differing) e;
      only_first = ap (λ (o : Outcome). o.only_first) e;
      only_second = ap (λ (o : Outcome). o.only_second) e;
      untouched = ap (λ (o : Outcome). o.output) e;
    }

done-fields : (first second output : List ℕ) (tolerance : ℕ) (lines : List Line) → 3 * length lines ≤ length output
    → compare_gauges first second output tolerance ≡ done lines output → Reported tolerance (readings first) (readings second) lines
    → ((compare_gauges first second output tolerance).code ≡ 0) × Done first second output tolerance lines
unfolding done written
done-fields first second output tolerance lines h e r = (
  ap (λ (o : Outcome). o.code) e,
  record {
    reported = r;
    agreeing = ap (λ (o : Outcome). o.agreeing) e;
    differing = ap (λ (o : Outcome). o.differing) e;
    only_first = ap (λ (o : Outcome). o.only_first) e;
    only_second = ap (λ (o : Outcome). o.only_second) e;
    size =
        ap (λ (o : Outcome). length o.output) e ∙ length-append (encode lines) (drop (3 * length lines) output)
        ∙ omega (arith, length-encode lines, length-drop (3 * length lines) output);
    front = ap (λ (o : Outcome). take (3 * length lines) o.output) e ∙ take_at (encode lines) _ (3 * length lines) (length-encode lines);
    rest = ap (λ (o : Outcome). drop (3 * length lines) o.output) e ∙ drop_at (encode lines) _ (3 * length lines) (length-encode lines);
  },
)

module _ (first second output : List ℕ) (tolerance : ℕ) (fb : Bytes first) (sb : Bytes second) where
  count : length (report tolerance (readings first) (readings second)) ≡ different (minutes_of (readings first) ++ minutes_of (readings second))
  count = lines-different tolerance (readings first) (readings second) (small-minutes first fb) (small-minutes second sb)

  asked-done : Asked first second output
      → ((compare_gauges first second output tolerance).code ≡ 0) × Done first second output tolerance (report tolerance (readings first) (readings second))
  asked-done a =
      done-fields first second output tolerance (report tolerance (readings first) (readings second)) (omega (arith, count, a.room))
      (done-report first second output tolerance (sound-acceptable first a.first_sound) (sound-acceptable second a.second_sound) (omega (arith, count, a.room)))
      (reported-holds tolerance (readings first) (readings second) (small-minutes first fb) (small-minutes second sb)
      (rises-rising 0 (readings first) a.first_sound.strict (λ l. omega arith)) (rises-rising 0 (readings second) a.second_sound.strict (λ l. omega arith)))

  asked-refused : (Asked first second output → ⊥) → compare_gauges first second output tolerance ≡ refused output
  asked-refused n = one (acceptable first) refl
    where
      three : acceptable first ≡ true → acceptable second ≡ true → (t : Bool)
          → leb (3 * length (report tolerance (readings first) (readings second))) (length output) ≡ t → compare_gauges first second output tolerance ≡ refused output
      three p q true e =
          let l = leb-true _ (length output) e in
          absurd (n (record { first_sound = acceptable-sound first p; second_sound = acceptable-sound second q; room = omega (arith, count) }))
      three p q false e = refused-room first second output tolerance p q (leb-false _ (length output) e)

      two : acceptable first ≡ true → (t : Bool) → acceptable second ≡ t → compare_gauges first second output tolerance ≡ refused output
      two p true e = three p e (leb (3 * length (report tolerance (readings first) (readings second))) (length output)) refl
      two p false e = refused-second first second output tolerance p e

      one : (t : Bool) → acceptable first ≡ t → compare_gauges first second output tolerance ≡ refused output
      one true e = two e (acceptable second) refl
      one false e = refused-first first second output tolerance e

  pub promised : Guarantee first second output tolerance
  promised = record { done = asked-done; refused = λ n. refused-fields first second output tolerance (asked-refused n) }
