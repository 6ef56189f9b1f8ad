-- The stretch after the last fence: memory in which everything up to that fence has persisted, and the groups submitted since.
use Prim.Native.Nat.{ℕ, ◌+◌, ◌*◌, ◌%◌, ◌^◌, ◌≤◌, ◌<◌}
use mathlib.Core.Path.{◌≡◌}
use mathlib.Core.Bool.{true}
use mathlib.Core.List.{List}
use mathlib.Core.Option.{none}
use lib.ListN.{length}
use Rattle.model.specs.Layout.{group_at, header_right, header_start}
use Rattle.model.specs.Crash.{Memory}
use Rattle.model.specs.Book.{Commit}
use Rattle.model_laws.proofs.trace.Trace.{Ev, hist, tag_at, Apart, Linked}
use Rattle.theorems.proofs.invariant.Invariant.{Sizes, Sound, Holds, FoundBelow, Turned, Commits, HeldHome}

-- `start` and `settled` are the strip's; groups below `group` were submitted before the fence, those from it to group + count since
pub record Now (G D b : ℕ) (tr : List Ev) (old commits : List Commit) (start settled group count : ℕ) (content : ℕ → List ℕ) (m : Memory) : Type 0 where
  pub sizes : Sizes G D
  pub sound : Sound (7 * b) D tr
  pub booked : Commits D b tr old commits
  pub from : b ≤ start
  pub most : start ≤ 2 ^ 47
  pub start_settled : 7 * start ≤ settled
  pub settled_group : settled ≤ 7 * group
  pub room : group + count ≤ start + G
  pub logged : 7 * (group + count) ≤ 7 * b + length tr
  pub contents : (n : ℕ) → group ≤ n → n < group + count → Holds G (7 * b) tr (content n) n
  pub log_size : length m.log ≡ 64 + 512 * G
  pub area_size : length m.area ≡ 64 * D
  pub homes : (h : ℕ) → h < D → HeldHome D commits settled (7 * group) m.area h
  pub header : header_right m.log G D ≡ true
  pub head_start : header_start m.log ≡ start
  pub numbers : FoundBelow m.log G group
  pub there : (n : ℕ) → start ≤ n → n < group → Holds G (7 * b) tr (group_at m.log (n % G)) n
  pub turned : (n : ℕ) → group ≤ n → n < start + G → Turned G (group_at m.log (n % G)) n
  pub apart : Apart (7 * start) (hist (7 * b) tr).done
  pub links : Linked (7 * start) (tag_at (7 * b) tr) none (hist (7 * b) tr).done
