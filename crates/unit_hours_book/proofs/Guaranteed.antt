-- What the definitions promise, for all events, records and blocks.
use mathlib.Core.Path.{◌≡◌, refl, sym, ap, ◌∙◌}
use mathlib.Core.Bool.{Bool, true, false, ◌&&◌, cond}
use mathlib.Core.List.{List, [], ◌∷◌, ◌++◌, Memᴰ}
use Prim.Native.Nat.{ℕ, ◌+◌, ◌-◌, ◌/◌, ◌%◌, ◌^◌, ◌≤◌, ◌<◌}
use native.Mathlib.Nat.{div-add-mod', mod-lt, mul-add-div_right, div-eq_of_lt, mul-add-mod_self_right, mod-eq_of_lt}
use native.Mathlib.Omega.{arith}
use borrow.Author.Tests.{eqb-true, lt-ltb}
use lib.Dec.{eqb, ltb}
use Rattle.model.specs.Bytes.{zeros}
use Rattle.unit_events.specs.Offered.{joined}
use Rattle.unit_events.proofs.OfferedLaws.{all_done, kept-all}
use Rattle.unit_hours_book.specs.Pump.{Pump, unused, pump_of, block_of, Fits}
use Rattle.unit_hours_book.specs.Events.{Event, start_at, stop_at, late, total_at, answer, after, settled, applied}
use Rattle.unit_hours_book.specs.Services.{due}
use Rattle.unit_hours_book.specs.Guarantees.{second_of, is_start, starts, total, runs_from, last_second, last_from, wrong_turn, within, answer_by, held_with, Says, Represents, Timed, Booked, Grown, Serviced, Readable}
use Rattle.unit_hours_book.proofs.BlockLaws.{length-block, read_back, read-zeros, read_fits}
use Rattle.unit_hours_book.proofs.EventLaws.{start-done, stop-done}
use Rattle.unit_hours_book.proofs.ListLaws.{starts-join, runs-join, last-join, total-start, total-stop}

-- ---- one event

and-true : (b : Bool) → (b && true) ≡ b
and-true true = refl
and-true false = refl

-- the record's answer is the list's
module _ {ds : List Event} {p : Pump} (h : Says ds p) (f : Fits p) (s : ℕ) where
  same_start : answer p (start_at s) ≡ answer_by ds (start_at s)
  unfolding answer late answer_by wrong_turn within is_start second_of
  same_start =
      let a : starts (ds ++ (start_at s ∷ [])) ≡ p.starts + 1 = omega (arith, starts-join ds (start_at s), h.starts) in
      let b : total (ds ++ (start_at s ∷ [])) ≡ p.total = omega (arith, total-start ds s, h.total) in
      rw (← h.running, ← h.last, a, b, lt-ltb p.total (2 ^ 32) f.total, and-true (ltb (p.starts + 1) (2 ^ 32)))

  stops : (r : Bool) → p.running ≡ r → answer p (stop_at s) ≡ answer_by ds (stop_at s)
  unfolding answer late total_at answer_by wrong_turn within is_start second_of
  stops true e =
      let q : runs_from false ds ≡ true = sym h.running ∙ e in
      let a : starts (ds ++ (stop_at s ∷ [])) ≡ p.starts = omega (arith, starts-join ds (stop_at s), h.starts) in
      let b : total (ds ++ (stop_at s ∷ [])) ≡ total ds + (s - last_from 0 ds) = total-stop ds s ∙ rw q in
      rw (e, q, a, b, lt-ltb p.starts (2 ^ 32) f.starts, h.last, h.total)
  stops false e = let q : runs_from false ds ≡ false = sym h.running ∙ e in rw (e, q)

same_answer : {ds : List Event} {p : Pump} → Says ds p → Fits p → (e : Event) → answer p e ≡ answer_by ds e
same_answer h f (start_at s) = same_start h f s
same_answer {ds} {p} h f (stop_at s) = stops h f s p.running refl

-- a done event joins the list
pub record Joined (ds : List Event) (p : Pump) (e : Event) : Type 0 where
  pub says : Says (ds ++ (e ∷ [])) (after p e)
  pub fits : Fits (after p e)
  pub below : total (ds ++ (e ∷ [])) ≤ last_second (ds ++ (e ∷ []))

join : {ds : List Event} {p : Pump} → Says ds p → Fits p → total ds ≤ last_second ds → (e : Event) → second_of e < 2 ^ 32 → answer p e ≡ 0 → Joined ds p e
unfolding after total_at is_start second_of
join {ds} {p} h f l (start_at s) t z =
    let d = start-done p s z in
    let a : starts (ds ++ (start_at s ∷ [])) ≡ p.starts + 1 = omega (arith, starts-join ds (start_at s), h.starts) in
    let b : total (ds ++ (start_at s ∷ [])) ≡ p.total = omega (arith, total-start ds s, h.total) in
    let g = last-join 0 ds (start_at s) in
    record {
      says = record { starts = sym a; total = sym b; last = sym g; running = sym (runs-join false ds (start_at s)) };
      fits = record { starts = d.2; total = f.total; last = t };
      below = omega (arith, h.total, h.last, d.1);
    }
join {ds} {p} h f l (stop_at s) t z =
    let d = stop-done p s z in
    let q : runs_from false ds ≡ true = sym h.running ∙ d.0 in
    let a : starts (ds ++ (stop_at s ∷ [])) ≡ p.starts = omega (arith, starts-join ds (stop_at s), h.starts) in
    let b : total (ds ++ (stop_at s ∷ [])) ≡ total ds + (s - last_from 0 ds) = total-stop ds s ∙ rw q in
    let g = last-join 0 ds (stop_at s) in
    record {
      says = record { starts = sym a; total = omega (arith, h.total, h.last, b); last = sym g; running = sym (runs-join false ds (stop_at s)) };
      fits = record { starts = f.starts; total = d.2; last = t };
      below = omega (arith, h.total, h.last, d.1);
    }

pub grown : {ds : List Event} {block : List ℕ} → Represents ds block → (e : Event) → second_of e < 2 ^ 32 → Grown ds block e
unfolding applied settled held_with joined
grown {ds} {block} k e t =
    let s = same_answer k.says k.fits e in
    record { code = s; kept = rw s (go (eqb (answer_by ds e) 0) refl) }
  where
    go : (b : Bool) → eqb (answer_by ds e) 0 ≡ b → Represents (cond b (ds ++ (e ∷ [])) ds) (cond b (block_of (after (pump_of block) e)) block)
    go true q =
        let j = join k.says k.fits k.below e t (same_answer k.says k.fits e ∙ eqb-true (answer_by ds e) 0 q) in
        let r = read_back (after (pump_of block) e) j.fits in
        record { says = rw r j.says; fits = rw r j.fits; below = j.below }
    go false q = k

-- ---- all events

pub kept-none : Represents [] (zeros 64)
unfolding unused starts total runs_from last_from
kept-none =
    let s : Says [] unused = record { starts = refl; total = refl; last = refl; running = refl } in
    let f : Fits unused = record { starts = omega arith; total = omega arith; last = omega arith } in
    record { says = rw read-zeros s; fits = rw read-zeros f; below = omega arith }

pub booked : (es : List Event) → ((e : Event) → Memᴰ e es → Timed e) → Booked es
unfolding applied settled
booked es t =
    let k = kept-all answer_by Represents Timed held_with (λ ds b e k f. (grown k e f).kept) es [] (zeros 64) t kept-none in
    record { kept = k; answers = λ e. same_answer k.says k.fits e; accepted = all_done answer_by [] es }

-- ---- services and blocks

pub serviced : (total interval : ℕ) → 0 < interval → Serviced total interval
unfolding due
serviced total interval h =
    record {
      sum = div-add-mod' total interval;
      below = mod-lt total h;
      only = λ q r e l. (
        sym (ap (λ (n : ℕ). n / interval) (sym e) ∙ mul-add-div_right h q r ∙ omega (arith, div-eq_of_lt l)),
        sym (ap (λ (n : ℕ). n % interval) (sym e) ∙ mul-add-mod_self_right q interval r ∙ mod-eq_of_lt l),
      );
    }

pub readable : Readable
readable = record { every = read_fits; back = read_back; size = length-block }
