-- What the definitions promise, for all events, lists and bytes.
use mathlib.Core.Path.{◌≡◌, refl, sym, ap, ◌∙◌}
use mathlib.Core.Bool.{Bool, true, false, cond}
use mathlib.Core.List.Memᴰ
use mathlib.Core.List.{List, [], ◌∷◌, ◌++◌, Memᴰ}
use mathlib.Core.Logic.{⊎_elim}
use Prim.Native.Nat.{ℕ, ◌≤◌, ◌<◌}
use native.Mathlib.Omega.{arith}
use borrow.Author.Tests.{eqb-true, eqb-false, ne_eqb, le-leb, ltb-true, ltb-false}
use lib.Dec.{eqb, ltb}
use lib.ListN.{length, length-append}
use Rattle.model.specs.Bytes.{zeros}
use Rattle.unit_events.specs.Offered.{joined, done}
use Rattle.unit_events.proofs.OfferedLaws.{all_done, kept-all}
use Rattle.unit_alarms_list.specs.Alarm.{Alarm, InRange, class_known}
use Rattle.unit_alarms_list.specs.OpenAlarms.{among, gravest, told, alarms_of, gravest_kept, packed}
use Rattle.unit_alarms_list.specs.Events.{Event, arrival, clearing, answer, after, settled, applied}
use Rattle.unit_alarms_list.specs.Guarantees.{Has, Known, Says, out_of_range, already, without_room, arrives, is_absent, clears, open_by, answer_by, AllInRange, Distinct, nothing, Represents, Typed, Grown, held_with, Booked, Readable}
use Rattle.unit_alarms_list.proofs.EventLaws.{class-most}
use Rattle.unit_alarms_list.proofs.HasLaws.{among-has, among_none, without-member, without-short, distinct_without, distinct-join}
use Rattle.unit_alarms_list.proofs.HistoryLaws.{open_after}
use Rattle.unit_alarms_list.proofs.PackLaws.{range-append, range-one}
use Rattle.unit_alarms_list.proofs.BackLaws.{length-packed, kept_back, list_back, kept_block, few-read, range-read, list-zeros, kept-zeros}

-- ---- answers

class-unknown : (class : ℕ) → class_known class ≡ false → Known class → ⊥
unfolding class_known
class-unknown class e k =
    let t = le-leb 1 class k.0 in
    let f = le-leb class 9 k.1 in
    let g = rw (t, f) at e in
    let z : ◌≡◌ {A = ℕ} 0 1 = cc in
    omega arith

pub says : (xs : List Alarm) (e : Event) → Says xs e (answer xs e)
unfolding answer
says xs (arrival a) = go (class_known a.class) (among a.identity xs) (ltb (length xs) 48) refl refl refl
  where
    go : (c m l : Bool) → class_known a.class ≡ c → among a.identity xs ≡ m → ltb (length xs) 48 ≡ l → Says xs (arrival a) (cond c (cond m 24 (cond l 0 25)) 24)
    go true true l p q r = already (class-most a.class p) (among-has a.identity xs q)
    go true false true p q r = arrives (class-most a.class p) (among_none a.identity xs q) (ltb-true (length xs) 48 r)
    go true false false p q r = without_room (class-most a.class p) (among_none a.identity xs q) (ltb-false (length xs) 48 r)
    go false m l p q r = out_of_range (class-unknown a.class p)
says xs (clearing i) = go (among i xs) refl
  where
    go : (m : Bool) → among i xs ≡ m → Says xs (clearing i) (cond m 0 24)
    go true q = clears (among-has i xs q)
    go false q = is_absent (among_none i xs q)

-- what a done arrival has shown
arrival-done : (xs : List Alarm) (a : Alarm) → answer xs (arrival a) ≡ 0 → Known a.class × (Has xs a.identity → ⊥) × (length xs < 48)
unfolding answer
arrival-done xs a = go (class_known a.class) (among a.identity xs) (ltb (length xs) 48) refl refl refl
  where
    go : (c m l : Bool) → class_known a.class ≡ c → among a.identity xs ≡ m → ltb (length xs) 48 ≡ l → ◌≡◌ {A = ℕ} (cond c (cond m 24 (cond l 0 25)) 24) 0
        → Known a.class × (Has xs a.identity → ⊥) × (length xs < 48)
    go true true l p q r z = absurd (omega arith)
    go true false true p q r z = (class-most a.class p, among_none a.identity xs q, ltb-true (length xs) 48 r)
    go true false false p q r z = absurd (omega arith)
    go false m l p q r z = absurd (omega arith)

-- ---- one event

-- a list fit to be kept
record Fit (xs : List Alarm) : Type 0 where
  few : length xs ≤ 48
  distinct : Distinct xs
  ranges : AllInRange xs
  classes : (a : Alarm) → Memᴰ a xs → Known a.class

fit-after : (xs : List Alarm) → Fit xs → (e : Event) → Typed e → answer xs e ≡ 0 → Fit (after xs e)
unfolding after Typed
fit-after xs f (arrival a) t z =
    let d = arrival-done xs a z in
    let k = d.0 in
    let r : InRange a = record { identity = omega (arith, t.0); class = omega (arith, k.1); second = omega (arith, t.1) } in
    record {
      few = omega (arith, length-append xs (a ∷ []), d.2);
      distinct = distinct-join a f.distinct d.1;
      ranges = range-append xs (a ∷ []) f.ranges (range-one a r);
      classes = λ b m. ⊎_elim (λ l. f.classes b l) (λ s. let q : b ≡ a = Memᴰ.eq_of_singleton s in rw q k) (Memᴰ.append_cases xs m);
    }
fit-after xs f (clearing i) t z =
    record {
      few = omega (arith, without-short i xs, f.few);
      distinct = distinct_without i f.distinct;
      ranges = λ b m. f.ranges b (without-member i xs b m);
      classes = λ b m. f.classes b (without-member i xs b m);
    }

kept_of : (ds : List Event) (bs : List ℕ) → alarms_of bs ≡ open_by ds → gravest_kept bs ≡ told (gravest (open_by ds)) → Fit (open_by ds) → Represents ds bs
kept_of ds bs l k f = record { list = l; kept = k; few = f.few; distinct = f.distinct; ranges = f.ranges; classes = f.classes }

fit_of : {ds : List Event} {bs : List ℕ} → Represents ds bs → Fit (open_by ds)
fit_of k = record { few = k.few; distinct = k.distinct; ranges = k.ranges; classes = k.classes }

module _ {ds : List Event} {bs : List ℕ} (k : Represents ds bs) (e : Event) where
  -- the bytes of the list with one more event
  packs : Typed e → answer (open_by ds) e ≡ 0 → Represents (ds ++ (e ∷ [])) (packed (after (open_by ds) e))
  packs t z =
      let f = fit-after (open_by ds) (fit_of k) e t z in
      let o = open_after ds e k.distinct in
      kept_of (ds ++ (e ∷ [])) (packed (after (open_by ds) e)) (list_back (after (open_by ds) e) f.ranges f.few ∙ sym o)
      (kept_back (after (open_by ds) e) f.ranges ∙ ap (λ (xs : List Alarm). told (gravest xs)) (sym o)) (rw o f)

  same_code : (output : List ℕ) → (applied bs output e).code ≡ answer (open_by ds) e
  unfolding applied settled
  same_code output = ap (λ (xs : List Alarm). answer xs e) k.list

  done-output : (output : List ℕ) → answer (open_by ds) e ≡ 0 → (applied bs output e).output ≡ packed (after (open_by ds) e)
  unfolding applied settled
  done-output output z = rw (k.list, z)

  refused-output : (output : List ℕ) → (answer (open_by ds) e ≡ 0 → ⊥) → (applied bs output e).output ≡ output
  unfolding applied settled
  refused-output output n = rw (k.list, ne_eqb (answer (open_by ds) e) 0 n)

  pub grown : (output : List ℕ) → Typed e → Grown ds bs output e
  unfolding answer_by
  grown output t =
      let c = same_code output in
      record {
        says = rw c (says (open_by ds) e);
        code = c;
        kept = λ z. let y = sym c ∙ z in rw (done-output output y) (packs t y);
        untouched = λ n. refused-output output (λ y. n (c ∙ y));
      }

-- ---- all events

joined-kept : {ds : List Event} {bs : List ℕ} (e : Event) → Represents ds bs → Typed e → Represents (joined answer_by ds e) (held_with bs e)
unfolding joined answer_by held_with
joined-kept {ds} {bs} e k t = go (eqb (answer (open_by ds) e) 0) refl
  where
    go : (b : Bool) → eqb (answer (open_by ds) e) 0 ≡ b → Represents (cond b (ds ++ (e ∷ [])) ds) (applied bs bs e).output
    go true q = let z = eqb-true (answer (open_by ds) e) 0 q in rw (done-output k e bs z) (packs k e t z)
    go false q = rw (refused-output k e bs (eqb-false (answer (open_by ds) e) 0 q)) k

pub kept-none : Represents [] (zeros 384)
unfolding open_by gravest told
kept-none =
    kept_of [] (zeros 384) list-zeros kept-zeros
    (record { few = omega arith; distinct = nothing; ranges = λ a m. absurd (Memᴰ.not-nil m); classes = λ a m. absurd (Memᴰ.not-nil m) })

pub booked : (es : List Event) → ((e : Event) → Memᴰ e es → Typed e) → Booked es
booked es t =
    let k = kept-all answer_by Represents Typed held_with (λ ds b e k f. joined-kept e k f) es [] (zeros 384) t kept-none in
    record {
      kept = k;
      answers = λ e output. rw (same_code k e output) (says (open_by (done answer_by es)) e);
      accepted = all_done answer_by [] es;
    }

pub readable : Readable
readable = record { list = list_back; kept = kept_back; block = kept_block; size = length-packed; few = few-read; every = range-read }
