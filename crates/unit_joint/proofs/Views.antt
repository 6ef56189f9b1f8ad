-- A joint history as each unit sees it: its own steps, and the others' as the acts that they come to, which spare its homes. Assumes nothing.
use Prim.Native.Nat.{ℕ, zero, suc, ◌/◌}
use mathlib.Core.Path.{◌≡◌, refl, sym, ap, ◌∙◌, subst}
use mathlib.Core.Bool.{Bool, true, false}
use mathlib.Core.List.{List, [], ◌∷◌, ◌++◌, map}
use mathlib.Core.Option.{Option, none, some}
use lib.Dec.{eqb}
use lib.ListN.{length, take}
use lib.Seq.{take_at}
use borrow.Author.Tests.{eqb-true, eqb-false}
use Rattle.model.specs.History.{World}
use Rattle.acts.specs.Units.{Act, act, acted, ActAllowed, relabel, Apart}
use Rattle.unit_events.specs.Folded as unit
use Rattle.unit_events.specs.Folded.{acts as acts_in}
use Rattle.unit_joint.specs.Joint.{Step, stepped, ran, acts_of, Done, note_of, notes_from, StepAllowed, JointAllowed, StepFits, JointFits}
use Rattle.unit_joint.proofs.UnitCalls.{asks, home_of, blocks_of}
use Rattle.unit_joint.proofs.NotesKept.{stores_by, unit-done, unit-refused, Going, step-goes}

module _ {E : Type 0} (home n : ℕ) (judge : List ℕ → E → ℕ) (apply : List ℕ → E → List ℕ) (Fit : E → Type 0) (proj : Option Done → Option E) where
  -- ---- notes, seen by the unit

  map-take : (k : ℕ) (xs : List (Option Done)) → take k (map proj xs) ≡ map proj (take k xs)
  map-take zero xs = refl
  map-take (suc k) [] = refl
  map-take (suc k) (x ∷ xs) = ap (λ ys. proj x ∷ ys) (map-take k xs)

  map_more : (xs : List (Option Done)) (l : Option Done) → map proj (xs ++ (l ∷ [])) ≡ map proj xs ++ (proj l ∷ [])
  map_more [] l = refl
  map_more (x ∷ xs) l = ap (λ ys. proj x ∷ ys) (map_more xs l)

  relabelled : (u : World) (ns : List (Option Done)) (l : Option Done) → relabel u (map proj ns) (proj l) ≡ map proj (relabel u ns l)
  unfolding relabel
  relabelled u ns l = ap (take (length u.book.commits)) (sym (map_more ns l)) ∙ map-take (length u.book.commits) (ns ++ (l ∷ []))

  -- ---- the unit's histories, one behind the other

  ran-more : (xs ys : List (unit.Step E)) (w : World) → unit.ran home n judge apply w (xs ++ ys) ≡ unit.ran home n judge apply (unit.ran home n judge apply w xs) ys
  unfolding unit.ran
  ran-more [] ys w = refl
  ran-more (x ∷ xs) ys w = ran-more xs ys (unit.stepped home n judge apply w x)

  notes-more : (xs ys : List (unit.Step E)) (w : World) (ms : List (Option E))
      → unit.notes_from home n judge apply w ms (xs ++ ys)
      ≡ unit.notes_from home n judge apply (unit.ran home n judge apply w xs) (unit.notes_from home n judge apply w ms xs) ys
  unfolding unit.ran unit.notes_from
  notes-more [] ys w ms = refl
  notes-more (x ∷ xs) ys w ms = notes-more xs ys (unit.stepped home n judge apply w x) _

  allowed-more : (xs ys : List (unit.Step E)) (w : World) → unit.AllStepsAllowed home n judge apply w xs
      → unit.AllStepsAllowed home n judge apply (unit.ran home n judge apply w xs) ys → unit.AllStepsAllowed home n judge apply w (xs ++ ys)
  unfolding unit.ran
  allowed-more [] ys w a b = b
  allowed-more (x ∷ xs) ys w a b = (a.0, allowed-more xs ys (unit.stepped home n judge apply w x) a.1 b)

  spared-more : (xs ys : List (unit.Step E)) (w : World) → unit.SparedBySteps home n judge apply Fit w xs
      → unit.SparedBySteps home n judge apply Fit (unit.ran home n judge apply w xs) ys → unit.SparedBySteps home n judge apply Fit w (xs ++ ys)
  unfolding unit.ran
  spared-more [] ys w a b = b
  spared-more (x ∷ xs) ys w a b = (a.0, spared-more xs ys (unit.stepped home n judge apply w x) a.1 b)

  -- ---- a step, as the unit sees it

  pub record Viewed (w v : World) (ns ms : List (Option Done)) : Type 0 where
    pub steps : List (unit.Step E)
    pub world : unit.ran home n judge apply w steps ≡ v
    pub allowed : unit.AllStepsAllowed home n judge apply w steps
    pub spared : unit.SparedBySteps home n judge apply Fit w steps
    pub notes : unit.notes_from home n judge apply w (map proj ns) steps ≡ map proj ms

  abbrev pub ViewedStep : World → List (Option Done) → Step → Type 0
  ViewedStep w ns s = Viewed w (stepped w s) ns (relabel (stepped w s) ns (note_of s))

  one-ran : (w : World) (x : unit.Step E) → unit.ran home n judge apply w (x ∷ []) ≡ acted w (unit.acts_of home n judge apply w x)
  unfolding unit.ran unit.stepped
  one-ran w x = refl

  one-noted : (w : World) (ms : List (Option E)) (x : unit.Step E)
      → unit.notes_from home n judge apply w ms (x ∷ []) ≡ relabel (acted w (unit.acts_of home n judge apply w x)) ms (unit.note_of x)
  unfolding unit.notes_from unit.stepped
  one-noted w ms x = refl

  one-step : (w : World) (ns : List (Option Done)) (s : Step) (x : unit.Step E) → acted w (unit.acts_of home n judge apply w x) ≡ stepped w s
      → unit.note_of x ≡ proj (note_of s) → unit.StepAllowed home n judge apply w x → unit.SparedByStep home n judge apply Fit w x → ViewedStep w ns s
  one-step w ns s x e l ok f =
      record {
        steps = x ∷ [];
        world = one-ran w x ∙ e;
        allowed = (ok, tt);
        spared = (f, tt);
        notes =
            one-noted w (map proj ns) x ∙ ap (λ (u : World). relabel u (map proj ns) (unit.note_of x)) e
            ∙ ap (relabel (stepped w s) (map proj ns)) l ∙ relabelled (stepped w s) ns (note_of s);
      }

  -- its own
  pub own-step : (w : World) (ns : List (Option Done)) (s : Step) (x : unit.Step E) → unit.acts_of home n judge apply w x ≡ acts_of w s
      → unit.note_of x ≡ proj (note_of s) → unit.StepAllowed home n judge apply w x → unit.SparedByStep home n judge apply Fit w x → ViewedStep w ns s
  own-step w ns s x e l ok f = one-step w ns s x (unfold stepped in ap (acted w) e) l ok f

  act-only : (w : World) (a : Act) → acted w (unit.acts_of home n judge apply w (acts_in a)) ≡ act w a
  unfolding unit.acts_of acted
  act-only w a = refl

  act-noted : (a : Act) → unit.note_of {E = E} (acts_in a) ≡ none
  unfolding unit.note_of
  act-noted a = refl

  none-noted : (w : World) (ms : List (Option E)) → unit.notes_from home n judge apply w ms [] ≡ ms
  unfolding unit.notes_from
  none-noted w ms = refl

  none-ran : (w : World) → unit.ran home n judge apply w [] ≡ w
  unfolding unit.ran
  none-ran w = refl

  -- an act that spares the homes
  pub act-step : (w : World) (ns : List (Option Done)) (s : Step) (a : Act) → stepped w s ≡ act w a → proj (note_of s) ≡ none → ActAllowed w a
      → unit.SparedByAct home n judge apply w a → ViewedStep w ns s
  act-step w ns s a e l ok f = one-step w ns s (acts_in a) (act-only w a ∙ sym e) (act-noted a ∙ sym l) ok f

  -- another unit's call, whose homes are apart
  pub other_step : (w : World) (ns : List (Option Done)) (s : Step) (d : Done) → note_of s ≡ some d → proj (note_of s) ≡ none → w.ready ≡ true
      → length ns ≡ length w.book.commits → (asks w s ≡ 0 → Apart home n (home_of s) (length (blocks_of w s) / 64)) → ViewedStep w ns s
  other_step w ns s d q l ready m apart = go (eqb (asks w s) 0) refl
    where
      go : (b : Bool) → eqb (asks w s) 0 ≡ b → ViewedStep w ns s
      go true e =
          let z : asks w s ≡ 0 = eqb-true (asks w s) 0 e in
          act-step w ns s (stores_by w s) (unit-done w s d q z) l ready (λ y. apart z)
      go false e =
          let u : stepped w s ≡ w = unit-refused w s d q (eqb-false (asks w s) 0 e) in
          let k : relabel (stepped w s) ns (note_of s) ≡ ns =
          ap (λ (x : World). relabel x ns (note_of s)) u ∙ (unfold relabel in take_at ns (note_of s ∷ []) (length w.book.commits) m) in
          record {
            steps = [];
            world = none-ran w ∙ sym u;
            allowed = tt;
            spared = tt;
            notes = none-noted w (map proj ns) ∙ ap (map proj) (sym k);
          }

  -- ---- every step

  abbrev pub StepsViewed : Type 0
  StepsViewed = (w : World) (ns : List (Option Done)) (s : Step) → length ns ≡ length w.book.commits → StepAllowed w s → StepFits w s → ViewedStep w ns s

  pub all-viewed : StepsViewed → (ss : List Step) (w : World) (ns : List (Option Done)) → Going w ns → JointAllowed w ss → JointFits w ss
      → Viewed w (ran w ss) ns (notes_from w ns ss)
  unfolding ran notes_from
  all-viewed view [] w ns g ok f = record { steps = []; world = none-ran w; allowed = tt; spared = tt; notes = none-noted w (map proj ns) }
  all-viewed view (s ∷ ss) w ns g ok f =
      let x = view w ns s g.many ok.0 f.0 in
      let y = all-viewed view ss (stepped w s) (relabel (stepped w s) ns (note_of s)) (step-goes w ns s g ok.0) ok.1 f.1 in
      record {
        steps = x.steps ++ y.steps;
        world = ran-more x.steps y.steps w ∙ ap (λ (u : World). unit.ran home n judge apply u y.steps) x.world ∙ y.world;
        allowed = allowed-more x.steps y.steps w x.allowed (subst (λ (u : World). unit.AllStepsAllowed home n judge apply u y.steps) (sym x.world) y.allowed);
        spared = spared-more x.steps y.steps w x.spared (subst (λ (u : World). unit.SparedBySteps home n judge apply Fit u y.steps) (sym x.world) y.spared);
        notes =
            notes-more x.steps y.steps w (map proj ns)
            ∙ ap (λ (u : World). unit.notes_from home n judge apply u (unit.notes_from home n judge apply w (map proj ns) x.steps) y.steps) x.world
            ∙ ap (λ (ms : List (Option E)). unit.notes_from home n judge apply (stepped w s) ms y.steps) x.notes ∙ y.notes;
      }
