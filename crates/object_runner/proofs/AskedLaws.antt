-- What may be asked, as plain facts. Assumes nothing.
use Prim.Native.Nat.{ℕ, ◌≤◌, ◌<◌}
use mathlib.Core.Path.{◌≡◌, sym, ◌∙◌}
use mathlib.Core.Bool.{Bool, true, false, not, ◌&&◌, false≢true}
use lib.Dec.{leb}
use borrow.Author.Tests.{le-leb, lt-leb, leb-true}
use Rattle.model_laws.proofs.state.QuestionLaws.{and-true}
use Rattle.object_runner.specs.declared.Cursor.{Cursor}
use Rattle.object_runner.specs.Next.{asked}

module _ (landing groups next size : ℕ) (c : Cursor) where
  pub asked-landing : 1 < landing → false ≡ asked landing groups next size c
  unfolding asked
  asked-landing h = rw (lt-leb landing 1 h)

  module _ (h : landing ≤ 1) where
    pub asked-none : groups < 1 → false ≡ asked landing groups next size c
    unfolding asked
    asked-none g = rw (le-leb landing 1 h, lt-leb 1 groups g)

    module _ (g : 1 ≤ groups) where
      pub asked-many : 1024 < groups → false ≡ asked landing groups next size c
      unfolding asked
      asked-many m = rw (le-leb landing 1 h, le-leb 1 groups g, lt-leb groups 1024 m)

      module _ (m : groups ≤ 1024) where
        pub asked-beyond : size < c.at → false ≡ asked landing groups next size c
        unfolding asked
        asked-beyond l = rw (le-leb landing 1 h, le-leb 1 groups g, le-leb groups 1024 m, lt-leb c.at size l)

        module _ (l : c.at ≤ size) where
          pub asked-headed : next < c.headed → false ≡ asked landing groups next size c
          unfolding asked
          asked-headed n = rw (le-leb landing 1 h, le-leb 1 groups g, le-leb groups 1024 m, le-leb c.at size l, lt-leb c.headed next n)

          pub asked-stage : c.headed ≤ next → leb c.stage 2 ≡ asked landing groups next size c
          unfolding asked
          asked-stage n = rw (le-leb landing 1 h, le-leb 1 groups g, le-leb groups 1024 m, le-leb c.at size l, le-leb c.headed next n)

pub record Asked (landing groups next size : ℕ) (c : Cursor) : Type 0 where
  pub medium : landing ≤ 1
  pub some : 1 ≤ groups
  pub most : groups ≤ 1024
  pub within : c.at ≤ size
  pub low : c.headed ≤ next
  pub step : c.stage ≤ 2

pub asked-true : (landing groups next size : ℕ) (c : Cursor) → asked landing groups next size c ≡ true → Asked landing groups next size c
unfolding asked
asked-true landing groups next size c h =
    let a₅ = and-true (leb landing 1 && leb 1 groups && leb groups 1024 && leb c.at size && leb c.headed next) (leb c.stage 2) h in
    let a₄ = and-true (leb landing 1 && leb 1 groups && leb groups 1024 && leb c.at size) (leb c.headed next) a₅.0 in
    let a₃ = and-true (leb landing 1 && leb 1 groups && leb groups 1024) (leb c.at size) a₄.0 in
    let a₂ = and-true (leb landing 1 && leb 1 groups) (leb groups 1024) a₃.0 in
    let a₁ = and-true (leb landing 1) (leb 1 groups) a₂.0 in
    record {
      medium = leb-true landing 1 a₁.0;
      some = leb-true 1 groups a₁.1;
      most = leb-true groups 1024 a₂.1;
      within = leb-true c.at size a₃.1;
      low = leb-true c.headed next a₄.1;
      step = leb-true c.stage 2 a₅.1;
    }

pub true-asked : (landing groups next size : ℕ) (c : Cursor) → Asked landing groups next size c → asked landing groups next size c ≡ true
true-asked landing groups next size c a =
    sym (asked-stage landing groups next size c a.medium a.some a.most a.within a.low) ∙ le-leb c.stage 2 a.step

-- by the answer to it
pub not-asked : (landing groups next size : ℕ) (c : Cursor) (b : Bool) → b ≡ asked landing groups next size c → not b ≡ true → asked landing groups next size c ≡ false
not-asked landing groups next size c true e h = absurd (false≢true h)
not-asked landing groups next size c false e h = sym e

pub was-asked : (landing groups next size : ℕ) (c : Cursor) (b : Bool) → b ≡ asked landing groups next size c → not b ≡ false → Asked landing groups next size c
was-asked landing groups next size c true e h = asked-true landing groups next size c (sym e)
was-asked landing groups next size c false e h = absurd (false≢true (sym h))
