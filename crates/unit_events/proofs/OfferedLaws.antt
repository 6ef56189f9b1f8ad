-- Which of the offered events are done, and what is held after them. Assumes nothing.
use Prim.Native.Nat.{ℕ}
use mathlib.Core.Path.{◌≡◌, refl, sym, ap, ◌∙◌}
use mathlib.Core.Bool.{Bool, true, false, cond}
use mathlib.Core.List.{List, [], ◌∷◌, ◌++◌, append-nil, append_assoc, Memᴰ}
use borrow.Author.Tests.{eq-eqb, eqb-true}
use lib.Dec.{eqb}
use Rattle.unit_events.specs.Offered.{held_after, joined, done_from, AcceptedFrom, Accepted}

module _ {E : Type 0} (answer : List E → E → ℕ) where
  -- the beginnings of an accepted list are accepted
  pub accepted-front : (ds es fs : List E) → AcceptedFrom answer ds (es ++ fs) → AcceptedFrom answer ds es
  unfolding AcceptedFrom
  accepted-front ds [] fs h = tt
  accepted-front ds (e ∷ es) fs h = (h.0, accepted-front (ds ++ (e ∷ [])) es fs h.1)

  pub accepted-join : (ds es : List E) (e : E) → AcceptedFrom answer ds es → answer (ds ++ es) e ≡ 0 → AcceptedFrom answer ds (es ++ (e ∷ []))
  unfolding AcceptedFrom
  accepted-join ds [] e h z = (ap (λ (xs : List E). answer xs e) (sym (append-nil ds)) ∙ z, tt)
  accepted-join ds (d ∷ es) e h z =
      (h.0, accepted-join (ds ++ (d ∷ [])) es e h.1 (ap (λ (xs : List E). answer xs e) (append_assoc ds (d ∷ []) es) ∙ z))

  -- the done events are an accepted list
  pub done-accepted : (ds es : List E) → Accepted answer ds → Accepted answer (done_from answer ds es)
  unfolding done_from joined
  done-accepted ds [] h = h
  done-accepted ds (e ∷ es) h = go (eqb (answer ds e) 0) refl (λ xs. done-accepted xs es)
    where
      go : (b : Bool) → eqb (answer ds e) 0 ≡ b → ((xs : List E) → Accepted answer xs → Accepted answer (done_from answer xs es))
          → Accepted answer (done_from answer (cond b (ds ++ (e ∷ [])) ds) es)
      go true q rec = rec (ds ++ (e ∷ [])) (accepted-join [] ds e h (eqb-true (answer ds e) 0 q))
      go false q rec = rec ds h

  -- the events of an accepted list are all done
  pub all_done : (ds es : List E) → AcceptedFrom answer ds es → done_from answer ds es ≡ ds ++ es
  unfolding done_from joined AcceptedFrom
  all_done ds [] h = sym (append-nil ds)
  all_done ds (e ∷ es) h = rw (eq-eqb (answer ds e) 0 h.0) (all_done (ds ++ (e ∷ [])) es h.1 ∙ append_assoc ds (e ∷ []) es)

  -- what holds of the done events and what is held, and of one event more, holds of all
  module _ {B : Type 0} (Represents : List E → B → Type 0) (Fit : E → Type 0) (apply : B → E → B)
      (step : (ds : List E) (b : B) (e : E) → Represents ds b → Fit e → Represents (joined answer ds e) (apply b e)) where
    pub kept-all : (es ds : List E) (b : B) → ((e : E) → Memᴰ e es → Fit e) → Represents ds b → Represents (done_from answer ds es) (held_after apply b es)
    unfolding done_from held_after
    kept-all [] ds b f k = k
    kept-all (e ∷ es) ds b f k = kept-all es (joined answer ds e) (apply b e) (λ d m. f d (Memᴰ.tail m)) (step ds b e k (f e (Memᴰ.head refl)))
