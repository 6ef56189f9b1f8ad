-- What a list of events says once one more event has joined it. Assumes nothing.
use mathlib.Core.Path.{◌≡◌, refl}
use mathlib.Core.Bool.{Bool, false, cond}
use mathlib.Core.List.{List, [], ◌∷◌, ◌++◌}
use Prim.Native.Nat.{ℕ, ◌+◌, ◌-◌}
use native.Mathlib.Omega.{arith}
use Rattle.unit_hours_book.specs.Events.{Event, start_at, stop_at}
use Rattle.unit_hours_book.specs.Guarantees.{second_of, is_start, starts, run, total, runs_from, last_from}

pub starts-join : (es : List Event) (e : Event) → starts (es ++ (e ∷ [])) ≡ starts es + cond (is_start e) 1 0
unfolding starts
starts-join [] e = omega arith
starts-join (d ∷ es) e = omega (arith, starts-join es e)

pub runs-join : (b : Bool) (es : List Event) (e : Event) → runs_from b (es ++ (e ∷ [])) ≡ is_start e
unfolding runs_from
runs-join b [] e = refl
runs-join b (d ∷ es) e = runs-join (is_start d) es e

pub last-join : (s : ℕ) (es : List Event) (e : Event) → last_from s (es ++ (e ∷ [])) ≡ second_of e
unfolding last_from
last-join s [] e = refl
last-join s (d ∷ es) e = last-join (second_of d) es e

-- ---- finished runs

run_more : (d f : Event) (fs gs : List Event) → run d (f ∷ fs) ≡ run d (f ∷ gs)
unfolding run
run_more (start_at a) (start_at b) fs gs = refl
run_more (start_at a) (stop_at b) fs gs = refl
run_more (stop_at a) f fs gs = refl

run-start : (d : Event) (s : ℕ) → run d (start_at s ∷ []) ≡ 0
unfolding run
run-start (start_at a) s = refl
run-start (stop_at a) s = refl

run-stop : (d : Event) (s : ℕ) → run d (stop_at s ∷ []) ≡ cond (is_start d) (s - second_of d) 0
unfolding run is_start second_of
run-stop (start_at a) s = refl
run-stop (stop_at a) s = refl

run_none : (d : Event) → run d [] ≡ 0
unfolding run
run_none (start_at a) = refl
run_none (stop_at a) = refl

pub total-start : (es : List Event) (s : ℕ) → total (es ++ (start_at s ∷ [])) ≡ total es
unfolding total
total-start [] s = omega (arith, run_none (start_at s))
total-start (d ∷ []) s = omega (arith, run-start d s, run_none d, run_none (start_at s))
total-start (d ∷ f ∷ fs) s = omega (arith, total-start (f ∷ fs) s, run_more d f (fs ++ (start_at s ∷ [])) fs)

pub total-stop : (es : List Event) (s : ℕ) → total (es ++ (stop_at s ∷ [])) ≡ total es + cond (runs_from false es) (s - last_from 0 es) 0
unfolding total runs_from last_from
total-stop [] s = omega (arith, run_none (stop_at s))
total-stop (d ∷ []) s = omega (arith, run-stop d s, run_none d, run_none (stop_at s))
total-stop (d ∷ f ∷ fs) s = omega (arith, total-stop (f ∷ fs) s, run_more d f (fs ++ (stop_at s ∷ [])) fs)
