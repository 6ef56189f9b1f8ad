-- Events that are offered one after the other. Those done before an event answer it: 0 for done, else it is refused.
use Rattle.std.specs.Prelude.{ℕ, ◌≡◌, cond, List, [], ◌∷◌, ◌++◌, eqb}

-- what is held after events, each applied to what was held before it
unfoldable pub held_after : {E : Type 0} {B : Type 0} → (B → E → B) → B → List E → B
held_after apply b [] = b
held_after apply b (e ∷ es) = held_after apply (apply b e) es

module _ {E : Type 0} (answer : List E → E → ℕ) where
  -- the events done, the oldest first, once one more is offered
  unfoldable pub joined : List E → E → List E
  joined ds e = cond (eqb (answer ds e) 0) (ds ++ (e ∷ [])) ds

  -- of the events offered after `ds`, those that are done, behind `ds`
  unfoldable pub done_from : List E → List E → List E
  done_from ds [] = ds
  done_from ds (e ∷ es) = done_from (joined ds e) es

  abbrev pub done : List E → List E
  done es = done_from [] es

  -- a list whose events are all done
  unfoldable pub AcceptedFrom : List E → List E → Type 0
  AcceptedFrom ds [] = Unit {0}
  AcceptedFrom ds (e ∷ es) = (answer ds e ≡ 0) × AcceptedFrom (ds ++ (e ∷ [])) es

  abbrev pub Accepted : List E → Type 0
  Accepted es = AcceptedFrom [] es
