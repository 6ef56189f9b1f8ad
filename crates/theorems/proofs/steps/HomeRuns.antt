-- A call that writes homes into the data area, with a fence after them: the records since the last crash after it. For settle and the last step of a
-- round. Assumes nothing.
use Prim.Native.Nat.{ℕ, ◌+◌, ◌*◌, ◌≤◌, ◌<◌}
use mathlib.Core.Path.{◌≡◌, refl, sym, ap, ◌∙◌}
use mathlib.Core.Logic.{◌⊎◌, inl, inr}
use mathlib.Core.List.{List, [], ◌∷◌, ◌++◌, append_assoc}
use native.Mathlib.Omega.{arith}
use lib.ListN.{length}
use Rattle.model.specs.Layout.{home_at}
use Rattle.model.specs.State.{state_of}
use Rattle.model.specs.Batch.{FN}
use Rattle.model.specs.Effects.{home_writes}
use Rattle.model.specs.Crash.{Memory}
use Rattle.model.specs.Book.{Commit}
use Rattle.model.specs.History.{World}
use Rattle.model_laws.proofs.bytes.LayoutLaws.{area-ext}
use Rattle.model_laws.proofs.trace.CrashLaws.{write_records, submits, none-homes, group_writes-homes, write-append}
use Rattle.model_laws.proofs.trace.HomeLaws.{In, in-cases, length-homes-wrote, home_at-wrote, home_at-unwritten}
use Rattle.model_laws.proofs.trace.RestoreLaws.{in-or-not}
use Rattle.model_laws.proofs.trace.Trace.{Ev}
use Rattle.theorems.proofs.invariant.Invariant.{Sizes, HeldHome, Copies, Submitted, Commits}
use Rattle.theorems.proofs.invariant.Now.{Now}
use Rattle.theorems.proofs.invariant.NowLate.{now-late-homes, same_start}
use Rattle.theorems.proofs.invariant.NowNext.{now-fenced}
use Rattle.theorems.proofs.steps.FenceRuns.{now_of, fenced_memory, is_in_order, in-order-area, submitted-fence}

-- the records of homes that two areas have alike
pub home_writes-agree : (a b hs : List ℕ) → ((h : ℕ) → In h hs → home_at a h ≡ home_at b h) → home_writes a hs ≡ home_writes b hs
unfolding home_writes
home_writes-agree a b [] f = refl
home_writes-agree a b (h ∷ hs) f = rw (f h (inl refl), home_writes-agree a b hs (λ x i. f x (inr i)))

pub home_writes-append : (a xs ys : List ℕ) → home_writes a (xs ++ ys) ≡ home_writes a xs ++ home_writes a ys
unfolding home_writes
home_writes-append a [] ys = refl
home_writes-append a (x ∷ xs) ys = rw (home_writes-append a xs ys)

-- what the homes' records make of an area from which the new copy differs in these homes only
pub homes-become : (area' hs : List ℕ) (m : Memory) (D : ℕ) → length m.area ≡ 64 * D → length area' ≡ 64 * D → ((h : ℕ) → In h hs → h < D)
    → ((h : ℕ) → h < D → (In h hs → ⊥) → home_at area' h ≡ home_at m.area h) → (write_records (home_writes area' hs) m).area ≡ area'
homes-become area' hs m D l k inside others =
    area-ext (write_records (home_writes area' hs) m).area area' D (length-homes-wrote area' hs m ∙ l) k (λ h i. go h i (in-or-not h hs))
  where
    go : (h : ℕ) → h < D → In h hs ⊎ (In h hs → ⊥) → home_at (write_records (home_writes area' hs) m).area h ≡ home_at area' h
    go h i (inl p) = home_at-wrote area' hs m h D inside l k p
    go h i (inr p) = home_at-unwritten area' hs m h D inside l k p ∙ sym (others h i p)

module _ (G D b : ℕ) (tr : List Ev) (old : List Commit) (w : World) (z : Sizes G D) (k : Commits D b tr old w.book.commits)
    (c : Copies G D b tr w) (s : Submitted G D b tr old w) (area' hs : List ℕ) (size : length area' ≡ 64 * D) (inside : (h : ℕ) → In h hs → h < D)
    (fresh : (h : ℕ) → In h s.done → In h hs → ⊥)
    (others : (h : ℕ) → h < D → (In h hs → ⊥) → home_at area' h ≡ home_at w.area h) where
  -- all homes written since the last fence, as the new copy has them
  pub homes-since : home_writes w.area s.done ++ home_writes area' hs ≡ home_writes area' (s.done ++ hs)
  homes-since =
      rw (
        home_writes-append area' s.done hs,
        home_writes-agree w.area area' s.done (λ h i. sym (others h (s.behind h i).0 (fresh h i))),
      )

  since : is_in_order G D b tr old w s ++ home_writes area' hs ≡ submits G s.group s.content s.count ++ home_writes area' (s.done ++ hs)
  since = append_assoc (submits G s.group s.content s.count) (home_writes w.area s.done) (home_writes area' hs) ∙ rw homes-since

  all-inside : (h : ℕ) → In h (s.done ++ hs) → h < D
  all-inside h i = go (in-cases h s.done hs i)
    where
      go : In h s.done ⊎ In h hs → h < D
      go (inl p) = (s.behind h p).0
      go (inr p) = inside h p

  area-is : (write_records (is_in_order G D b tr old w s ++ home_writes area' hs) (fenced_memory G D b tr old w s)).area ≡ area'
  area-is =
      let e : (write_records (is_in_order G D b tr old w s) (fenced_memory G D b tr old w s)).area ≡ w.area = in-order-area G D b tr old w s in
      rw write-append
      (homes-become area' hs (write_records (is_in_order G D b tr old w s) (fenced_memory G D b tr old w s)) D (ap length e ∙ c.area_size) size inside
      (rw e others))

  pub submitted-homes : (u : World) (settled' : ℕ) → (state_of w.state).settled ≤ settled' → settled' ≤ 7 * s.group
      → ((h : ℕ) → h < D → HeldHome D w.book.commits settled' (7 * s.group) area' h)
      → u.pending ≡ w.pending ++ (home_writes area' hs ++ (FN ∷ [])) → u.memory ≡ w.memory → u.book.commits ≡ w.book.commits → u.area ≡ area'
      → (state_of u.state).start ≡ (state_of w.state).start → (state_of u.state).settled ≡ settled'
      → (state_of u.state).fenced ≡ 7 * (state_of w.state).next → (state_of u.state).next ≡ (state_of w.state).next → Submitted G D b tr old u
  submitted-homes u settled' low high held ep em ec ea es et ef en =
      submitted-fence G D b tr old w s (home_writes area' hs) (none-homes area' hs) u (state_of w.state).start settled' s.content
      (group_writes-homes area' hs) now ep em ec (ea ∙ sym area-is) es et (ef ∙ ap (λ (n : ℕ). 7 * n) (sym s.next)) (en ∙ sym s.next) (omega arith)
      (λ chosen. rw since (now-late-homes N area' (s.done ++ hs) size all-inside held' chosen))
      (λ chosen. rw (since, same_start N area' (s.done ++ hs) size all-inside held' chosen) (omega arith))
    where
      N : Now G D b tr old w.book.commits (state_of w.state).start (state_of w.state).settled s.group s.count s.content
          (fenced_memory G D b tr old w s)
      N = now_of G D b tr old w z k c s

      held' : (h : ℕ) → In h (s.done ++ hs) → HeldHome D w.book.commits (state_of w.state).settled (7 * s.group) area' h
      held' h i = let x = held h (all-inside h i) in (x.0, omega (arith, x.1), x.2, x.3)

      now : Now G D b tr old w.book.commits (state_of w.state).start settled' (s.group + s.count) 0 s.content
          (write_records (is_in_order G D b tr old w s ++ home_writes area' hs) (fenced_memory G D b tr old w s))
      now =
          rw since
          (now-fenced N area' (s.done ++ hs) settled' (omega (arith, c.order.start-settled)) high
          (λ h l. let x = held h l in (x.0, x.1, omega (arith, x.2), (rw since at (ap (λ (a : List ℕ). home_at a h) area-is)) ∙ x.3)))
