-- What the definitions promise, for strips of any contents and length.
use mathlib.Core.Path.{◌≡◌, refl, sym, ap, ◌∙◌}
use mathlib.Core.Bool.{Bool, true, false}
use mathlib.Core.List.{List, [], ◌∷◌}
use mathlib.Core.Option.{some}
use Prim.Native.Nat.{ℕ, zero, suc, ◌-◌, ◌*◌, ◌/◌, ◌%◌, ◌≤◌, ◌<◌}
use native.Mathlib.Omega.{arith}
use borrow.Author.Tests.{ltb-true, ltb-false, le-leb, eq-eqb}
use lib.Dec.{ltb}
use lib.ListN.{length, get_or, replicate}
use lib.Seq.{take_at}
use Rattle.unit_bands_table.specs.Rows.{Row, rows, place, lookup}
use Rattle.unit_bands_table.specs.Judge.{Verdict, verdict, fit, all_fit, sound, uncovered, doubled, coverage, judgement}
use Rattle.unit_bands_table.specs.Packed.{pack, held, acceptable, unpack, look_up, found}
use Rattle.unit_bands_table.specs.Guarantees.{row_of, InSome, InOne, Fit, Sound, Judged, accepted, unsound, gap, double, RowTold, Guarantee, Blank}
use Rattle.unit_bands_table.proofs.RowLaws.{rows_whole, fit-pumps, fit-ordered, fit-shallow, fit-few, all_nil, all_first, all_rest, all_cons, sound-some, sound-short, sound-whole, sound-fit, sized-whole, sound-rest}
use Rattle.unit_bands_table.proofs.LowestLaws.{uncovered-is, uncovered-passed, uncovered-here, doubled-is, doubled-passed, doubled-here}
use Rattle.unit_bands_table.proofs.JudgeLaws.{coverage-gap, coverage-double, coverage-one, judged-unsound, judged-sound, accepted-sound, accepted-short}
use Rattle.unit_bands_table.proofs.PackLaws.{pack-length}
use Rattle.unit_bands_table.proofs.TableLaws.{acceptable-rows, lookup-some}
use Rattle.unit_bands_table.proofs.MemberLaws.{in_place, counted-some, some-counted, counted-two, two-counted, counted-one, one-counted}

-- ---- what is asked of a strip, by index

fit-fields : (r : Row) → fit r ≡ true → Fit r
fit-fields r e = record { order = fit-ordered r e; shallow = omega (arith, fit-shallow r e); few = fit-few r e }

fields_fit : (r : Row) → Fit r → fit r ≡ true
fields_fit r h = fit-pumps r h.order (omega (arith, h.shallow)) ∙ le-leb r.pumps 4 h.few

all-each : (rs : List Row) → all_fit rs ≡ true → (i : ℕ) → i < length rs → Fit (row_of rs i)
all-each [] e i h = absurd (omega arith)
all-each (r ∷ rs) e zero h = fit-fields r (all_first r rs e)
all-each (r ∷ rs) e (suc i) h = all-each rs (all_rest r rs e) i (omega arith)

each_all : (rs : List Row) → ((i : ℕ) → i < length rs → Fit (row_of rs i)) → all_fit rs ≡ true
each_all [] h = all_nil
each_all (r ∷ rs) h = all_cons r rs (fields_fit r (h 0 (omega arith))) ∙ each_all rs (λ i l. h (suc i) (omega arith))

module _ (bytes : List ℕ) where
  sound-asked : sound bytes ≡ true → Sound bytes
  sound-asked e =
      let w = rows_whole bytes (sound-whole bytes e) in
      record {
        whole = sound-whole bytes e;
        present = omega (arith, sound-some bytes e);
        few = omega (arith, sound-short bytes e);
        each = all-each (rows bytes) (sound-fit bytes e);
      }

  asked-sound : Sound bytes → sound bytes ≡ true
  asked-sound h =
      let w = rows_whole bytes h.whole in
      let z = sized-whole bytes (λ z. omega (arith, h.present)) (omega (arith, h.few)) ∙ eq-eqb (length bytes % 5) 0 h.whole in
      sound-rest bytes z ∙ each_all (rows bytes) h.each

  -- ---- the answers

  covered-some : (n : ℕ) → n ≤ uncovered (rows bytes) → (k : ℕ) → k < n → InSome (rows bytes) k
  covered-some n h k l = counted-some (rows bytes) k (uncovered-passed (rows bytes) k (omega arith))

  judged-coverage : Sound bytes → Judged bytes (coverage (rows bytes))
  judged-coverage s = bare (ltb (uncovered (rows bytes)) 10000) refl
    where
      crowded : 10000 ≤ uncovered (rows bytes) → (t : Bool) → ltb (doubled (rows bytes)) 10000 ≡ t → Judged bytes (coverage (rows bytes))
      crowded c true e =
          let l = ltb-true (doubled (rows bytes)) 10000 e in
          rw (coverage-double (rows bytes) c l)
          (double {mm = doubled (rows bytes)} s (λ k h. covered-some 10000 c k (omega arith)) (omega arith) (counted-two (rows bytes) (doubled (rows bytes)) (doubled-here (rows bytes) l))
          (λ k h t. omega (arith, doubled-passed (rows bytes) k h, two-counted (rows bytes) k t)))
      crowded c false e =
          let l = ltb-false (doubled (rows bytes)) 10000 e in
          rw (coverage-one (rows bytes) c l)
          (accepted s
          (λ mm h. counted-one (rows bytes) mm (omega (arith, uncovered-passed (rows bytes) mm (omega arith), doubled-passed (rows bytes) mm (omega arith)))))

      bare : (t : Bool) → ltb (uncovered (rows bytes)) 10000 ≡ t → Judged bytes (coverage (rows bytes))
      bare true e =
          let l = ltb-true (uncovered (rows bytes)) 10000 e in
          rw (coverage-gap (rows bytes) l)
          (gap {mm = uncovered (rows bytes)} s (omega arith) (λ t. omega (arith, uncovered-here (rows bytes) l, some-counted (rows bytes) (uncovered (rows bytes)) t))
          (covered-some (uncovered (rows bytes)) (omega arith)))
      bare false e = crowded (ltb-false (uncovered (rows bytes)) 10000 e) (ltb (doubled (rows bytes)) 10000) refl

  judged-as : Judged bytes (judgement bytes)
  judged-as = go (sound bytes) refl
    where
      go : (t : Bool) → sound bytes ≡ t → Judged bytes (judgement bytes)
      go true e = rw (judged-sound bytes e) (judged-coverage (sound-asked e))
      go false e = rw (judged-unsound bytes e) (unsound (λ s. let z : ◌≡◌ {A = Bool} true false = sym (asked-sound s) ∙ e in let y : ◌≡◌ {A = ℕ} 0 1 = cc in omega arith))

  taken_as : Sound bytes → ((mm : ℕ) → mm ≤ 9999 → InOne (rows bytes) mm) → judgement bytes ≡ verdict 0 0
  taken_as s one =
      let u = uncovered-is (rows bytes) 10000 (omega arith)
      (λ k h. some-counted (rows bytes) k (record { at = (one k (omega arith)).at; here = (one k (omega arith)).here })) (λ h. absurd (omega arith)) in
      let d = doubled-is (rows bytes) 10000 (omega arith) (λ k h. one-counted (rows bytes) k (one k (omega arith))) (λ h. absurd (omega arith)) in
      judged-sound bytes (asked-sound s) ∙ coverage-one (rows bytes) (omega arith) (omega arith)

  -- ---- an accepted table

  module _ (h : (judgement bytes).code ≡ 0) where
    one_of : (v : Verdict) → v.code ≡ 0 → Judged bytes v → (mm : ℕ) → mm ≤ 9999 → InOne (rows bytes) mm
    one_of v e (accepted s one) = one
    one_of v e (unsound n) = absurd (omega arith)
    one_of v e (gap s a b d) = absurd (omega arith)
    one_of v e (double s a b d f) = absurd (omega arith)

    told-as : (mm : ℕ) → mm ≤ 9999 → RowTold (rows bytes) mm
    unfolding lookup
    told-as mm l =
        let o = one_of (judgement bytes) h judged-as mm l in
        let p = in_place (rows bytes) mm (some-counted (rows bytes) mm (record { at = o.at; here = o.here })) in
        record { one = o; row = ap (row_of (rows bytes)) (o.only (place mm (rows bytes)) p) }

    held-pack : held (pack bytes) ≡ bytes
    unfolding held pack
    held-pack = take_at bytes (replicate (191 - length bytes) 0) (5 * (length bytes / 5)) (omega (arith, sound-whole bytes (accepted-sound bytes h)))

    number-few : get_or (pack bytes) 0 0 ≤ 32
    unfolding pack
    number-few = omega (arith, accepted-short bytes h)

    acceptable-pack : acceptable (pack bytes) ≡ true
    acceptable-pack = acceptable-rows (pack bytes) number-few (rw held-pack h)

    kept-as : unpack (pack bytes) ≡ some bytes
    unfolding unpack
    kept-as = rw (acceptable-pack, held-pack)

    found_as : (mm : ℕ) → look_up (pack bytes) mm ≡ record { code = 0; row = lookup mm (rows bytes) }
    found_as mm = lookup-some (pack bytes) mm acceptable-pack ∙ rw held-pack

  pub promised : Guarantee bytes
  promised =
      record {
        judged = judged-as;
        taken = taken_as;
        told = told-as;
        room = λ h. pack-length bytes (accepted-short bytes h);
        kept = kept-as;
        found = found_as;
      }

-- ---- homes that nothing was stored to

pub blank : Blank
unfolding unpack acceptable held judgement sound look_up found
blank = record { empty = refl; refused = λ mm. refl }
