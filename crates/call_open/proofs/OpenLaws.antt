-- Open: its questions, the records after those of the homes, and how the call ends. Assumes nothing.
use mathlib.Core.Path.{◌≡◌, refl, sym, ap, ◌∙◌}
use mathlib.Core.Bool.{Bool, true, false, cond, ◌&&◌, and-false}
use mathlib.Core.Logic.{◌≢◌}
use mathlib.Core.List.{List, [], append-nil}
use Prim.Native.Nat.{ℕ, ◌+◌, ◌*◌, ◌^◌, ◌≤◌, ◌<◌}
use native.Mathlib.Omega.{arith}
use lib.Dec.{eqb, leb}
use lib.ListN.{length, length-append}
use borrow.Author.Tests.{le-leb, lt-leb}
use Rattle.model.specs.Bytes.{part, puts, zeros, same}
use Rattle.model.specs.Layout.{group_count, home_count, log_length_right, data_length_right, header, header_start, header_right, empty_log, entry_at}
use Rattle.model.specs.Batch.{FN, KW, record_bytes, batch_bytes}
use Rattle.model.specs.Newest.{nothing_kept}
use Rattle.model.specs.Rights.{sign_for, open_sign}
use Rattle.model.specs.State.{list_home, fresh_state}
use Rattle.model.specs.Effects.{Given, blank_writes, touched, replayed, home_writes, open_tags, open_start, open_effect}
use Rattle.model.specs.Questions.{ask, areas_right, state_right, header_fits, start_fits, batch_fits, open_answer, newest_right}
use Rattle.model.specs.Calls.{size_of, open_call}
use Rattle.model_laws.proofs.bytes.LayoutLaws.{length-header}
use Rattle.model_laws.proofs.state.BatchLaws.{batch-append, length-FN, length-KW}
use Rattle.model_laws.proofs.state.QuestionLaws.{ask-yes, ask-no, ask-passed, and-true}
use Rattle.model_laws.proofs.state.OrderLaws.{tests}
use Rattle.base_batch.proofs.RecordLaws.{records-then-one, one-then-records}
use Rattle.base_batch.proofs.FormatLaws.{length-groups}
use Rattle.log_scan.specs.Walk.{closed_below}
use Rattle.call_ask.specs.Lent.{lent_all, leaves_everything}
use Rattle.call_ask.proofs.AnswerLaws.{refused-by, done-by}
use Rattle.call_open.specs.Opens.{ask_open, emptied}
use Rattle.call_ask.proofs.NewestAnswers.{newest-length, newest-other, right-length}
use Rattle.log_tables.specs.Plans.{Searchable, Planned}
use Rattle.log_tables.proofs.PlanLaws.{plan-size, plan-area, plan-batch}

-- ---- the questions

regroup : (x y z : Bool) → (x && (y && z)) ≡ ((x && y) && z)
regroup true y z = refl
regroup false y z = refl

-- what right lengths give
pub record Lengths (log area state : List ℕ) : Type 0 where
  pub log-length : length log ≡ 64 + 512 * group_count (length log)
  pub groups-least : 4 ≤ group_count (length log)
  pub groups-most : group_count (length log) ≤ 1024
  pub area-length : length area ≡ 64 * home_count (length area)
  pub homes-most : home_count (length area) ≤ 65535
  pub state-length : length state ≡ 1024

module _ (log area state newest : List ℕ) where
  abbrev judged : Given
  judged = lent_all log area state newest [] [] 0 0

  abbrev right_lengths : Bool
  right_lengths = log_length_right (length log) && (data_length_right (length area) && eqb (length state) 1024)

  pub lengths : (r : Bool) → r ≡ right_lengths → r ≡ true → Lengths log area state
  unfolding log_length_right data_length_right
  lengths r e h =
      let f = simp tests at (sym e ∙ h) in
      record {
        log-length = omega arith;
        groups-least = omega arith;
        groups-most = omega arith;
        area-length = omega arith;
        homes-most = omega arith;
        state-length = omega arith;
      }

  same-lengths : right_lengths ≡ (areas_right judged && state_right judged)
  unfolding areas_right state_right
  same-lengths = regroup (log_length_right (length log)) (data_length_right (length area)) (eqb (length state) 1024)

  pub open-lengths-no : (r : Bool) → r ≡ right_lengths → r ≡ false → 1 ≡ ask_open judged 0
  unfolding ask_open
  open-lengths-no r e h =
      let f : (areas_right judged && state_right judged) ≡ false = sym same-lengths ∙ sym e ∙ h in
      sym (ask-no _ 1 _ (rw f))

  pub open-newest-no : (n : ℕ) → n ≡ home_count (length area) → length newest ≢ 8 * n → 1 ≡ ask_open judged 0
  unfolding ask_open
  open-newest-no n e h = sym (ask-no _ 1 _ (rw (newest-other judged n e h, and-false)))

  module _ (r b : Bool) (groups homes start : ℕ) (e : r ≡ right_lengths) (h : r ≡ true)
      (q : (groups ≡ group_count (length log)) × (homes ≡ home_count (length area)) × (start ≡ header_start log) × (start < 2 ^ 48))
      (en : length newest ≡ 8 * homes) (eb : b ≡ header_right log groups homes) where
    lengths-yes : (areas_right judged && state_right judged && newest_right judged) ≡ true
    lengths-yes =
        let f : (areas_right judged && state_right judged) ≡ true = sym same-lengths ∙ sym e ∙ h in
        rw (f, newest-length judged homes q.1 en)

    same-header : b ≡ header_right log (group_count (length log)) (home_count (length area))
    same-header = eb ∙ rw (q.0, q.1)

    pub open-header-no : b ≡ false → 3 ≡ ask_open judged 0
    unfolding ask_open header_fits
    open-header-no k =
        let f : header_right log (group_count (length log)) (home_count (length area)) ≡ false = sym same-header ∙ k in
        sym (ask-yes _ 1 _ lengths-yes ∙ ask-no _ 3 _ (rw f))

    module _ (k : b ≡ true) where
      header-yes : header_right log (group_count (length log)) (home_count (length area)) ≡ true
      header-yes = sym same-header ∙ k

      pub open-start-no : 2 ^ 47 < start → 3 ≡ ask_open judged 0
      unfolding ask_open header_fits
      open-start-no l =
          let f : leb (header_start log) (2 ^ 47) ≡ false = lt-leb (header_start log) (2 ^ 47) (omega arith) in
          sym (ask-yes _ 1 _ lengths-yes ∙ ask-no _ 3 _ (rw (header-yes, f)))

      start-yes : start ≤ 2 ^ 47 → header_fits judged ≡ true
      unfolding header_fits
      start-yes l =
          let f : leb (header_start log) (2 ^ 47) ≡ true = le-leb (header_start log) (2 ^ 47) (omega arith) in
          rw (header-yes, f)

      pub open-next-no : start ≤ 2 ^ 47 → 2 ^ 47 < start + groups → 10 ≡ ask_open judged 0
      unfolding ask_open start_fits open_start
      open-next-no l m =
          sym (ask-yes _ 1 _ lengths-yes ∙ ask-yes _ 3 _ (start-yes l)
          ∙ ask-no _ 10 0 (lt-leb (header_start log + group_count (length log)) (2 ^ 47) (omega arith)))

      pub open-allowed : start ≤ 2 ^ 47 → start + groups ≤ 2 ^ 47 → 0 ≡ ask_open judged 0
      unfolding ask_open start_fits open_start
      open-allowed l m =
          sym (ask-yes _ 1 _ lengths-yes ∙ ask-yes _ 3 _ (start-yes l)
          ∙ ask-yes _ 10 0 (le-leb (header_start log + group_count (length log)) (2 ^ 47) (omega arith)))

-- what an answer of 0 to them gives
pub record Openable (log area state newest : List ℕ) : Type 0 where
  pub log-length : length log ≡ 64 + 512 * group_count (length log)
  pub groups-least : 4 ≤ group_count (length log)
  pub groups-most : group_count (length log) ≤ 1024
  pub area-length : length area ≡ 64 * home_count (length area)
  pub homes-most : home_count (length area) ≤ 65535
  pub state-length : length state ≡ 1024
  pub newest-length : length newest ≡ 8 * home_count (length area)
  pub start-most : header_start log + group_count (length log) ≤ 2 ^ 47

pub openable : (log area state newest : List ℕ) (v : ℕ) → v ≡ ask_open (lent_all log area state newest [] [] 0 0) 0 → v ≡ 0
    → Openable log area state newest
unfolding ask_open start_fits open_start
openable log area state newest v e z =
    let a = ask-passed _ 0 _ (sym e ∙ z) in
    let b = ask-passed _ 2 _ a.1 in
    let c = ask-passed _ 9 0 b.1 in
    let d = and-true (areas_right (lent_all log area state newest [] [] 0 0) && state_right (lent_all log area state newest [] [] 0 0)) _ a.0 in
    let k = lengths log area state newest true (sym (same-lengths log area state newest ∙ d.0)) refl in
    let s = simp tests at c.0 in
    record {
      log-length = k.log-length;
      groups-least = k.groups-least;
      groups-most = k.groups-most;
      area-length = k.area-length;
      homes-most = k.homes-most;
      state-length = k.state-length;
      newest-length = right-length (lent_all log area state newest [] [] 0 0) d.1;
      start-most = omega arith;
    }

pub area-homes : (log area state newest : List ℕ) (homes : ℕ) → Openable log area state newest → homes ≡ home_count (length area) → length area ≡ 64 * homes
area-homes log area state newest homes k e = omega arith

pub newest-homes : (log area state newest : List ℕ) (homes : ℕ) → Openable log area state newest → homes ≡ home_count (length area) → length newest ≡ 8 * homes
newest-homes log area state newest homes k e = omega (arith, k.newest-length)

-- ---- the list's sign

module _ (homes : ℕ) (area : List ℕ) where
  pub sign_small : homes < 12 → 0 ≡ open_sign homes area
  unfolding open_sign
  sign_small h = rw (lt-leb (list_home + 4) homes h)

  pub sign-told : (b : Bool) → 12 ≤ homes → b ≡ same (part area 512 256) (zeros 256) → cond b 1 2 ≡ open_sign homes area
  unfolding open_sign sign_for
  sign-told b h e = rw (le-leb (list_home + 4) homes h, e)

pub open-searchable : (log area state newest : List ℕ) (groups homes start : ℕ) → Openable log area state newest
    → (groups ≡ group_count (length log)) × (homes ≡ home_count (length area)) × (start ≡ header_start log) × (start < 2 ^ 48)
    → Searchable log groups homes start (7 * groups)
open-searchable log area state newest groups homes start k q =
    record {
      long = omega arith;
      least = omega arith;
      most = omega arith;
      homes-most = omega arith;
      low = omega arith;
      within = omega arith;
    }

-- ---- the records after those of the homes

module _ (start groups homes : ℕ) where
  length-header-write : length (record_bytes (KW (header start groups homes))) ≡ 66
  length-header-write = length-KW (header start groups homes) (length-header start groups homes)

  length-emptied : length (batch_bytes (emptied start groups homes)) ≡ 72 + 516 * groups
  unfolding batch_bytes
  length-emptied =
      rw (length-append, length-append, length-append, batch-append, length-append, append-nil, length-FN, length-header-write, length-groups) (omega arith)

  pub emptied-written : (d x y z u w : List ℕ) (at n m k j : ℕ) → n ≡ at + 2 → x ≡ puts d at (record_bytes FN) → m ≡ n + 66
      → y ≡ puts x n (record_bytes (KW (header start groups homes))) → k ≡ m + 2 → z ≡ puts y m (record_bytes FN) → j ≡ k + 516 * groups
      → u ≡ puts z k (batch_bytes (blank_writes groups start groups)) → w ≡ puts u j (record_bytes FN)
      → w ≡ puts d at (batch_bytes (emptied start groups homes))
  emptied-written d x y z u w at n m k j hn hx hm hy hk hz hj hu hw =
      hw ∙ rw (hu, hz, hy, hx)
      (records-then-one _ k (blank_writes groups start groups) j FN (omega (arith, length-groups groups start groups))
      ∙ one-then-records _ m FN k _ (omega (arith, length-FN))
      ∙ one-then-records _ n (KW (header start groups homes)) m _ (omega (arith, length-header-write))
      ∙ one-then-records d at FN n _ (omega (arith, length-FN)))

-- ---- how the call ends

stops : (a b c : Bool) (r v : ℕ) → r ≡ ask a 1 (ask b 3 (ask c 10 0)) → r ≢ 0 → r ≡ ask a 1 (ask b 3 (ask c 10 v))
unfolding ask
stops true true true r v e h = absurd (h e)
stops true true false r v e h = e
stops true false c r v e h = e
stops false b c r v e h = e

passes : (a b c : Bool) (r v : ℕ) → r ≡ ask a 1 (ask b 3 (ask c 10 0)) → r ≡ 0 → ask a 1 (ask b 3 (ask c 10 v)) ≡ v
unfolding ask
passes true true true r v e h = refl
passes true true false r v e h = absurd (omega arith)
passes true false c r v e h = absurd (omega arith)
passes false b c r v e h = absurd (omega arith)

module _ (log area state newest batch : List ℕ) where
  abbrev opening : Given
  opening = lent_all log area state newest [] batch 0 0

  open-stops : (r size : ℕ) → r ≡ ask_open (lent_all log area state newest [] [] 0 0) 0 → r ≢ 0 → r ≡ open_answer opening (open_start opening) size
  unfolding ask_open open_answer areas_right state_right newest_right header_fits open_start
  open-stops r size e h = stops _ _ _ r _ e h

  open-passes : (r size : ℕ) → r ≡ ask_open (lent_all log area state newest [] [] 0 0) 0 → r ≡ 0
      → open_answer opening (open_start opening) size ≡ ask (batch_fits opening size) 9 0
  unfolding ask_open open_answer areas_right state_right newest_right header_fits open_start
  open-passes r size e h = passes _ _ _ r _ e h

  pub open-refused : (v code figure size : ℕ) → v ≡ ask_open (lent_all log area state newest [] [] 0 0) 0 → v ≢ 0
      → (code ≡ v) × (figure ≡ 0) × (size ≡ 0) → leaves_everything code figure size log area state newest [] batch ≡ open_call opening
  unfolding open_call
  open-refused v code figure size e h r =
      refused-by opening (open_effect opening) _ code figure size (r.0 ∙ open-stops v _ e h) (λ z. h (sym r.0 ∙ z)) r.1 r.2

  module _ (v end number count groups homes start : ℕ) (e : v ≡ ask_open (lent_all log area state newest [] [] 0 0) 0) (z : v ≡ 0)
      (q : (groups ≡ group_count (length log)) × (homes ≡ home_count (length area)) × (start ≡ header_start log) × (start < 2 ^ 48))
      (p : Planned log groups homes start (7 * groups) end number count) where
    area-long : length area ≡ 64 * home_count (length area)
    area-long = (openable log area state newest v e z).area-length

    plan-all : Planned log (group_count (length log)) (home_count (length area)) (header_start log) (7 * group_count (length log)) end number count
    plan-all = rw (q.0, q.1, q.2) at p

    open-length : length (batch_bytes (open_effect opening).records) ≡ 68 * count + (72 + 516 * groups)
    unfolding open_effect open_tags
    open-length =
        plan-size log area _ _ _ _ end number count plan-all area-long (emptied (open_start opening) (group_count (length log)) (home_count (length area)))
        ∙ omega (arith, length-emptied (open_start opening) (group_count (length log)) (home_count (length area)))

    open-size : size_of (open_effect opening) ≡ 68 * count + (72 + 516 * groups)
    unfolding size_of
    open-size = open-length

    pub open-short : (code figure size : ℕ) (a b : List ℕ) → length batch < 68 * count + (72 + 516 * groups) → (code ≡ 9) × (figure ≡ 0) × (size ≡ 0)
        → a ≡ area → b ≡ batch → leaves_everything code figure size log a state newest [] b ≡ open_call opening
    unfolding open_call batch_fits
    open-short code figure size a b h r ea eb =
        rw (ea, eb)
        (refused-by opening (open_effect opening) _ code figure size
        (r.0 ∙ sym (open-passes v _ e z ∙ ask-no _ 9 0 (lt-leb (size_of (open_effect opening)) (length batch) (omega (arith, open-size)))))
        (λ y. let w = r.0 in omega arith) r.1 r.2)

    pub open_done : (code figure size at : ℕ) (l a s p' d b : List ℕ) → 68 * count + (72 + 516 * groups) ≤ length batch
        → (code ≡ 0) × (figure ≡ number) × (size ≡ 68 * count + (72 + 516 * groups))
        → a ≡ replayed log groups (entry_at log groups homes start) (closed_below log groups homes start end) area
        → d
        ≡ puts batch 0
        (batch_bytes (home_writes a (touched (entry_at log groups homes start) (closed_below log groups homes start end) homes)))
        → b ≡ puts d at (batch_bytes (emptied (start + groups) groups homes)) → at ≡ 68 * count
        → l ≡ empty_log (start + groups) groups homes → s ≡ fresh_state groups homes (start + groups) (open_sign homes a) → p' ≡ nothing_kept homes
        → leaves_everything code figure size l a s p' [] b ≡ open_call opening
    unfolding open_call batch_fits open_effect open_tags open_start
    open_done code figure size at l a s p' d b h r ea ed eb et el es ep =
        let ra = rw (q.0, q.1, q.2) at ea in
        let rd = rw (q.0, q.1, q.2) at ed in
        let rb = rw (q.0, q.1, q.2) at eb in
        done-by opening (open_effect opening) _ code figure size l a s p' [] b
        (open-passes v _ e z ∙ ask-yes _ 9 0 (le-leb (size_of (open_effect opening)) (length batch) (omega (arith, open-size))))
        r.0 (r.1 ∙ plan-all.numbered) (r.2 ∙ sym open-length) (el ∙ rw (q.0, q.1, q.2))
        (plan-area log area _ _ _ _ end number count plan-all area-long a ra)
        (es ∙ rw (q.0, q.1, q.2) (ap (λ (x : List ℕ). fresh_state (group_count (length log)) (home_count (length area)) (header_start log + group_count (length log)) (open_sign (home_count (length area)) x)) (plan-area log area _ _ _ _ end number count plan-all area-long a ra)))
        (ep ∙ rw q.1) refl
        (plan-batch log area _ _ _ _ end number count plan-all area-long a d b batch at _ ra rd et rb)
