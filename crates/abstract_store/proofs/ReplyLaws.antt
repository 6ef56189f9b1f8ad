-- Replies: what an outcome tells, when two are the same. Assumes nothing.
use Prim.Native.Nat.{ℕ, zero, suc}
use mathlib.Core.Path.{◌≡◌, refl, ◌∙◌}
use mathlib.Core.Bool.{Bool, true, false}
use Rattle.model.specs.Effects.{Given, Effect}
use Rattle.model.specs.Questions.{ask}
use Rattle.model.specs.Calls.{refused, done, size_of, outcome}
use Rattle.abstract_store.specs.Store.{told, reply_of}

pub reply-outcome : (g : Given) (a : ℕ) (e : Effect) → reply_of (outcome g a e) ≡ told a e.figure (size_of e)
unfolding outcome done refused told reply_of size_of
reply-outcome g zero e = refl
reply-outcome g (suc k) e = refl

-- two replies are the same if their numbers are and, where that is 0, their figures and sizes
pub told_same : (a b f f' s s' : ℕ) → a ≡ b → (b ≡ 0 → (f ≡ f') × (s ≡ s')) → told a f s ≡ told b f' s'
unfolding told
told_same a zero f f' s s' e h = let k = h refl in rw (e, k.0, k.1)
told_same a (suc b) f f' s s' e h = rw e

pub answers : (g : Given) (a : ℕ) (e : Effect) (b f s : ℕ) → a ≡ b → (b ≡ 0 → (e.figure ≡ f) × (size_of e ≡ s)) → reply_of (outcome g a e) ≡ told b f s
answers g a e b f s q h = reply-outcome g a e ∙ told_same a b e.figure f (size_of e) s q h

-- a question, and what follows if it is answered yes
pub ask-same : (b : Bool) (k x y : ℕ) → (b ≡ true → x ≡ y) → ask b k x ≡ ask b k y
unfolding ask
ask-same true k x y h = h refl
ask-same false k x y h = refl
