-- What a unit's homes show at a moment of a history: what the events of the book's list made of them. Assumes nothing.
use Prim.Native.Nat.{ℕ, ◌+◌, ◌*◌, ◌≤◌}
use mathlib.Core.Path.{◌≡◌, refl, ap, subst}
use mathlib.Core.Bool.{Bool, true, false, cond}
use mathlib.Core.List.{List}
use mathlib.Core.Option.{Option}
use lib.Dec.{eqb}
use lib.ListN.{length, take}
use lib.Seq.{take-length}
use native.Mathlib.Omega.{arith}
use borrow.Author.Tests.{eqb-true}
use Rattle.model.specs.Bytes.{part, zeros}
use Rattle.model.specs.History.{World, lent}
use Rattle.acts.specs.Units.{fetch_ends, revise_ends}
use Rattle.model_laws.proofs.bytes.ByteLaws.{length-zeros}
use Rattle.unit_events.specs.Offered.{held_after}
use Rattle.unit_events.specs.Folded.{noted, read_for, Folded, Recorded}
use Rattle.unit_shared.specs.Unit.{Lent, UnitOutcome, Judged, untouched, fetched, revised, transacted, stored, after_reading, event}
use Rattle.unit_shared.specs.Shown.{Shown}
use Rattle.unit_shared.specs.Moments.{lent_in}

module _ {E : Type 0} (home n : ℕ) (judge : List ℕ → E → ℕ) (apply : List ℕ → E → List ℕ) (Fit : E → Type 0) (w : World) (ns : List (Option E))
    (f : Folded home n judge apply Fit w ns) where
  abbrev held : List ℕ
  held = held_after apply (zeros (64 * n)) (noted ns)

  pub shown-there : w.ready ≡ true → (writer : ℕ) (batch : List ℕ) → Shown (lent_in w batch) writer home n held
  unfolding fetched revised fetch_ends revise_ends read_for lent
  shown-there ready writer batch =
      record { fetched = λ z. f.fetched writer (zeros (64 * n)) ready (length-zeros (64 * n)) z; revised = λ z. f.read writer ready z }

  -- the first homes of the unit, by themselves
  pub first-there : w.ready ≡ true → (writer m : ℕ) (batch : List ℕ) → m ≤ n
      → (fetched (lent_in w batch) writer (home + 0) m).code ≡ 0 → (fetched (lent_in w batch) writer (home + 0) m).block ≡ part held (64 * 0) (64 * m)
  unfolding fetched fetch_ends lent
  first-there ready writer m batch l z = f.partly writer 0 m (zeros (64 * m)) ready (omega arith) (length-zeros (64 * m)) z

  -- and they hold what the list says
  pub kept_there : (answer : List E → E → ℕ) (Represents : List E → List ℕ → Type 0) → Recorded home n judge apply Fit answer Represents w ns → Represents (noted ns) held
  kept_there answer Represents r =
      subst (λ (es : List E). Represents es (held_after apply (zeros (64 * n)) es)) (ap noted (take-length ns))
      (subst (Represents (noted (take (length ns) ns))) (f.held (length ns)) (r.kept (length ns)))

-- an event looks at the new blocks only where it is done
stored-alike : (l : Lent) (writer home : ℕ) (i j : Judged) → i.code ≡ j.code → (j.code ≡ 0 → i.blocks ≡ j.blocks) → stored l writer home i ≡ stored l writer home j
unfolding stored
stored-alike l writer home i j c b = rw c (go (eqb j.code 0) refl)
  where
    go : (d : Bool) → eqb j.code 0 ≡ d
        → cond d (transacted l writer home i.blocks) (untouched l j.code 0) ≡ cond d (transacted l writer home j.blocks) (untouched l j.code 0)
    go true q = ap (transacted l writer home) (b (eqb-true j.code 0 q))
    go false q = refl

pub event-alike : (l : Lent) (writer home n : ℕ) (i j : List ℕ → Judged) → ((b : List ℕ) → (i b).code ≡ (j b).code)
    → ((b : List ℕ) → (j b).code ≡ 0 → (i b).blocks ≡ (j b).blocks) → event l writer home n i ≡ event l writer home n j
unfolding event after_reading
event-alike l writer home n i j c b =
    ap (λ (x : UnitOutcome). cond (eqb (revised l writer home n).code 0) x (untouched l (revised l writer home n).code 0))
    (stored-alike l writer home (i (revised l writer home n).block) (j (revised l writer home n).block) (c _) (b _))
