-- Up to which position the commits of a home are in the data copy (settled_for), with a round under way and without. Assumes nothing.
use Prim.Native.Nat.{ℕ, ◌-◌, ◌≤◌, ◌<◌}
use mathlib.Core.Path.{◌≡◌, refl}
use mathlib.Core.Bool.{Bool, true, false, cond, ◌&&◌}
use mathlib.Core.List.{List}
use native.Mathlib.Omega.{arith}
use lib.Dec.{leb, ltb}
use borrow.Author.Tests.{leb-true, le-leb, lt-leb, lt-ltb, le-ltb}
use Rattle.model.specs.State.{state_of, under_way, fixed_in}
use Rattle.model.specs.declared.State.{State}
use Rattle.model.specs.Book.{Commit}
use Rattle.model.specs.DemandTwo.{settled_for, SettledHomes}
use Rattle.model.specs.History.{World}
use Rattle.model_laws.proofs.state.OrderLaws.{InOrder}
use Rattle.model_laws.proofs.trace.Trace.{Ev}
use Rattle.theorems.proofs.invariant.Invariant.{HeldHome, Copies}

-- what it is
pub settled-done : (st : State) (h : ℕ) → 1 ≤ st.round → h < st.cursor → settled_for st h ≡ fixed_in st
unfolding settled_for under_way
settled-done st h r l = rw (le-leb 1 st.round r, lt-ltb h st.cursor l)

pub settled-none : (st : State) (h : ℕ) → st.round ≡ 0 → settled_for st h ≡ st.settled
unfolding settled_for under_way
settled-none st h e = rw (lt-leb 1 st.round (omega arith))

pub settled-ahead : (st : State) (h : ℕ) → st.cursor ≤ h → settled_for st h ≡ st.settled
unfolding settled_for under_way
settled-ahead st h l = rw (le-ltb h st.cursor l) (go (leb 1 st.round))
  where
    go : (b : Bool) → cond (b && false) (fixed_in st) st.settled ≡ st.settled
    go true = refl
    go false = refl

-- it looks at three numbers only
pub settled_same : (st st' : State) (h : ℕ) → st'.round ≡ st.round → st'.cursor ≡ st.cursor → st'.settled ≡ st.settled
    → settled_for st' h ≡ settled_for st h
unfolding settled_for under_way fixed_in
settled_same st st' h r c s = rw (r, c, s)

pub settled-homes-same : (D : ℕ) (area : List ℕ) (st st' : State) (commits : List Commit) → st'.round ≡ st.round → st'.cursor ≡ st.cursor
    → st'.settled ≡ st.settled → SettledHomes D area st commits → SettledHomes D area st' commits
settled-homes-same D area st st' commits r c s f h l = rw (settled_same st st' h r c s) (f h l)

-- it is one of two
settled-either : (st : State) (h : ℕ) (P : ℕ → Type 0) → (1 ≤ st.round → P (fixed_in st)) → P st.settled → P (settled_for st h)
unfolding settled_for under_way
settled-either st h P f g = go (leb 1 st.round) refl (ltb h st.cursor)
  where
    go : (b : Bool) → leb 1 st.round ≡ b → (d : Bool) → P (cond (b && d) (fixed_in st) st.settled)
    go true e true = f (leb-true 1 st.round e)
    go true e false = g
    go false e d = g

module _ (s : List ℕ) (G D : ℕ) (o : InOrder s G D) where
  pub settled-least : (h : ℕ) → (state_of s).settled ≤ settled_for (state_of s) h
  unfolding fixed_in
  settled-least h =
      settled-either (state_of s) h (λ x. (state_of s).settled ≤ x) (λ r. let k = o.round-settled r in omega arith) (omega arith)

  pub settled-most : (h : ℕ) → settled_for (state_of s) h ≤ (state_of s).fenced
  unfolding fixed_in
  settled-most h =
      settled-either (state_of s) h (λ x. x ≤ (state_of s).fenced) (λ r. let k = o.round-fenced in omega arith) o.settled-fenced

  pub settled-fixed : (h : ℕ) → 1 ≤ (state_of s).round → settled_for (state_of s) h ≤ fixed_in (state_of s)
  unfolding fixed_in
  settled-fixed h r =
      settled-either (state_of s) h (λ x. x ≤ (state_of s).round - 1) (λ q. omega arith) (let k = o.round-settled r in omega arith)

-- the homes of the data copy
pub copy-held : (G D b : ℕ) (tr : List Ev) (w : World) → Copies G D b tr w → (high h : ℕ) → (state_of w.state).fenced ≤ high → h < D
    → HeldHome D w.book.commits (state_of w.state).settled high w.area h
copy-held G D b tr w c high h u l =
    let o = c.order in
    (settled_for (state_of w.state) h, settled-least w.state G D o h, omega (arith, settled-most w.state G D o h), c.settled_homes h l)
