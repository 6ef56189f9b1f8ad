-- The two histories of specs/HiddenUnits are told so, by computation; and they meet the premises of `UnitsIsolated`, which therefore says something of them.
use Prim.Native.Nat.{ℕ, zero, suc, ◌+◌, ◌*◌, ◌/◌, ◌<◌}
use mathlib.Core.Path.{◌≡◌, refl, sym, ◌∙◌}
use mathlib.Core.Bool.{Bool, true, false, not, ◌&&◌, false≢true}
use mathlib.Core.List.{List, [], ◌∷◌, ◌++◌}
use native.Mathlib.Omega.{arith}
use lib.ListN.{length, length-replicate}
use borrow.Author.Tests.{eqb-true}
use Rattle.model.specs.Bytes.{part, zeros}
use Rattle.model.specs.Rights.{may_read}
use Rattle.model.specs.Calls.{format_call}
use Rattle.model.specs.History.{Event, World, Formatting, after_format, empty_store, step}
use Rattle.model.proofs.examples.Computing.{all-definitions}
use Rattle.abstract_store.specs.Store.{Store, new_store, group_of_first, numbered, with_round, list_of, last_after, fenced_after, set_for, promises_after, store_must_log, after_reply, follow, after_service}
use Rattle.abstract_store.specs.Store as abstract-store
use Rattle.acts.specs.Units.{acted, AllActsAllowed, stores_from, chain, expand, expand_all, roomy}
use Rattle.theorems.specs.Isolation.{both, more, equal, followed, Denied, DeniedThroughout}
use Rattle.theorems.specs.IsolatedActs.{BlocksAlike, called, transacted, revised, BeforeAlike, differs, shares, SameThroughout, followed_acts}
use Rattle.theorems.specs.Hidden.{range_of}
use Rattle.theorems.specs.HiddenTogether.{numbers}
use Rattle.theorems.proofs.steps.FormatRuns.{after-format}
use Rattle.unit_joint.specs.Joint.{acts_all}
use Rattle.unit_joint.specs.Isolated.{own, others, StepsAlike, UnitsToldSame}
use Rattle.unit_joint.specs.Example.{one_band}
use Rattle.unit_joint.specs.HiddenUnits.{smaller, unit_rights, started_before, started_again, of_pump_one, started_world, told_steps, told_started, hours_of, hours_after, units_hidden, units_shown}
use Rattle.unit_joint.proofs.UnitsComputing.{unit-definitions}
use Rattle.unit_joint.proofs.IsolatedHolds.{units-isolated}

-- a name that unfolds every definition below
unfoldable computed : Bool
unfolding unit-definitions range_of numbers one_band smaller unit_rights started_before started_again started_world told_steps told_started hours_of hours_after units_hidden units_shown
computed = true

pub units-hidden : units_hidden ≡ true
unfolding computed
units-hidden = refl

pub units-shown : units_shown ≡ true
unfolding computed
units-shown = refl

-- ---- the premises

format-done : (format_call smaller).code ≡ 0
unfolding all-definitions smaller
format-done = refl

pub format : Formatting 4 18
unfolding smaller
format =
    record {
      memory = record { log = zeros 2112; area = zeros 1152 };
      given = smaller;
      log_size = unfold zeros in length-replicate {A = ℕ} 2112 0;
      area_size = unfold zeros in length-replicate {A = ℕ} 1152 0;
      log_copy = unfold zeros in length-replicate {A = ℕ} 2112 0;
      area_copy = unfold zeros in length-replicate {A = ℕ} 1152 0;
      done = format-done;
    }

allowed-one : AllActsAllowed (empty_store 4 18) (started_before 10 ++ acts_all (started_world 10) (started_again 70))
unfolding computed
allowed-one = (refl, (refl, (refl, (refl, (refl, (refl, (refl, (refl, (refl, (refl, (refl, (refl, (refl, (refl, tt))))))))))))))

allowed-other : AllActsAllowed (empty_store 4 18) (started_before 20 ++ acts_all (started_world 20) (started_again 80))
unfolding computed
allowed-other = (refl, (refl, (refl, (refl, (refl, (refl, (refl, (refl, (refl, (refl, (refl, (refl, (refl, (refl, tt))))))))))))))

ready-there : (started_world 10).ready ≡ true
unfolding computed
ready-there = refl

-- a block for home 17 is hidden
one_block : (xs ys : List ℕ) → length xs ≡ 64 → length ys ≡ 64 → BlocksAlike of_pump_one 17 xs ys
unfolding of_pump_one
one_block xs ys e f = record { size = e ∙ sym f; shown = go }
  where
    go : (k : ℕ) → k < length xs / 64 → of_pump_one (17 + k) ≡ false → part xs (64 * k) 64 ≡ part ys (64 * k) 64
    go zero l h = absurd (false≢true (sym h))
    go (suc k) l h = absurd (omega (arith, e))

same_blocks : (home : ℕ) (xs : List ℕ) → BlocksAlike of_pump_one home xs xs
same_blocks home xs = record { size = refl; shown = λ k l e. refl }

before-alike : BeforeAlike of_pump_one (started_before 10) (started_before 20)
unfolding computed
before-alike = shares (differs (more (transacted (one_block _ _ refl refl)) (more (transacted (same_blocks 8 unit_rights)) both)))

not-one : ◌≡◌ {A = ℕ} 2 1 → ⊥
not-one e = omega (arith, e)

steps_alike : StepsAlike of_pump_one 1 (started_world 10) (started_world 20) (started_again 70) (started_again 80)
unfolding computed
steps_alike = (
  own refl,
  (
    others not-one (more revised (more (transacted (one_block _ _ refl refl)) both)),
    (
      own refl,
      (
        own refl,
        (
          others not-one (more revised (more (transacted (one_block _ _ refl refl)) both)),
          (others (λ e. e) (more (called equal) both), (own refl, tt)),
        ),
      ),
    ),
  ),
)

-- writer 1 may at no time read home 17
unfoldable never : Store → World → List Event → Bool
never s w [] = not (may_read s.homes (list_of s) 1 17)
never s w (e ∷ es) = not (may_read s.homes (list_of s) 1 17) && never (follow s w e) (step w e) es

none_first : (a b : Bool) → (not a && b) ≡ true → (a ≡ false) × (b ≡ true)
none_first true b e = absurd (false≢true e)
none_first false b e = (refl, e)

not-true : (a : Bool) → not a ≡ true → a ≡ false
not-true true e = absurd (false≢true e)
not-true false e = refl

denied : (s : Store) → may_read s.homes (list_of s) 1 17 ≡ false → Denied 1 of_pump_one s
unfolding of_pump_one
denied s m home e = rw (eqb-true home 17 e) m

always : (es : List Event) (s : Store) (w : World) → never s w es ≡ true → DeniedThroughout 1 of_pump_one s w es
unfolding never
always [] s w m = denied s (not-true (may_read s.homes (list_of s) 1 17) m)
always (e ∷ es) s w m =
    let k = none_first (may_read s.homes (list_of s) 1 17) (never (follow s w e) (step w e) es) m in
    (denied s k.0, always es (follow s w e) (step w e) k.1)

never-there : never (followed_acts (new_store 4 18) (empty_store 4 18) (started_before 10)) (started_world 10) (expand_all (started_world 10) (acts_all (started_world 10) (started_again 70)))
    ≡ true
unfolding computed roomy stores_from chain expand expand_all new_store group_of_first numbered with_round list_of last_after fenced_after set_for promises_after store_must_log after_reply follow followed after_service abstract-store.after_done never
never-there = refl

-- ---- so writer 1 is told the same

pub units-told : (SameThroughout 1 (acted (after_format format) (started_before 10)) (acted (after_format format) (started_before 20))
    (acts_all (acted (after_format format) (started_before 10)) (started_again 70)) (acts_all (acted (after_format format) (started_before 20)) (started_again 80)))
    × UnitsToldSame 1 (acted (after_format format) (started_before 10)) (acted (after_format format) (started_before 20)) (started_again 70) (started_again 80)
units-told =
    units-isolated 4 18 format format (started_before 10) (started_before 20) (started_again 70) (started_again 80) 1 of_pump_one
    (rw (after-format format) (unfold started_world in allowed-one)) (rw (after-format format) (unfold started_world in allowed-other))
    (rw (after-format format) (unfold started_world in ready-there)) before-alike (rw (after-format format) (unfold started_world in steps_alike))
    (rw (after-format format)
    (unfold started_world in
    (always (expand_all (started_world 10) (acts_all (started_world 10) (started_again 70))) (followed_acts (new_store 4 18) (empty_store 4 18) (started_before 10)) (started_world 10) never-there)))
