-- Laws of a pass over the log that takes one position after the other: it goes by parts, and group by group. Assumes nothing.
use mathlib.Core.Path.{◌≡◌, refl, sym, ap, ◌∙◌}
use mathlib.Core.Bool.{true, false}
use mathlib.Core.List.{List}
use Prim.Native.Nat.{ℕ, zero, suc, ◌+◌, ◌-◌, ◌*◌, ◌%◌, ◌≤◌, ◌<◌}
use native.Mathlib.Nat.{add-zero, add-suc}
use native.Mathlib.Numerals.{add-one}
use native.Mathlib.Omega.{arith}
use lib.ListN.{take, drop}
use Rattle.model.specs.Tag.{read_tag}
use Rattle.model.specs.Layout.{group_at, group_valid, turn_of, index_of, word_there, entry_within, entry_at}
use Rattle.model.specs.declared.Tag.{Tag}
use Rattle.model.specs.declared.Tag.TheVariants.{Nothing}
use Rattle.model_laws.proofs.bytes.LayoutLaws.{position-group, position-rest, position-slot}
use Rattle.log_scan.specs.Scan.{over}
use Rattle.log_scan.proofs.GroupLaws.{part-group}

-- ---- a group's positions

module _ (group : List ℕ) (groups homes start n : ℕ) where
  pub hole-nothing : group_valid group groups start n ≡ false → (k : ℕ) → k < 7 → entry_within group groups homes start (7 * n + k) ≡ Nothing
  unfolding entry_within
  hole-nothing v k h = rw (position-group n k h, v)

  pub valid-tag : group_valid group groups start n ≡ true → (k : ℕ) → k < 7
      → entry_within group groups homes start (7 * n + k) ≡ read_tag (word_there group (turn_of groups n) k) (7 * n + k) (7 * start) homes
  unfolding entry_within index_of
  valid-tag v k h = rw (position-group n k h, position-rest n k h, v)

pub group-tags : (log : List ℕ) (groups homes start n k : ℕ) → k < 7
    → entry_within (group_at log (n % groups)) groups homes start (7 * n + k) ≡ entry_at log groups homes start (7 * n + k)
unfolding entry_at
group-tags log groups homes start n k h = rw (position-slot groups n k h)

module _ {S : Type 0} (step : ℕ → Tag → S → S) where
  -- ---- the pass by parts

  -- one position more
  over-one : (tags : ℕ → Tag) (position m : ℕ) (s : S)
      → over step tags position (m + 1) s ≡ step (position + m) (tags (position + m)) (over step tags position m s)
  unfolding over
  over-one tags position m s = rw (add-one m)

  over-more : (tags : ℕ → Tag) (position i m : ℕ) (s : S)
      → over step tags position (i + m) s ≡ over step tags (position + i) m (over step tags position i s)
  unfolding over
  over-more tags position i zero s = rw (add-zero i)
  over-more tags position i (suc m) s =
      let e : position + (i + m) ≡ position + i + m = omega arith in
      rw (add-suc i m, over-more tags position i m s, e)

  -- it looks at no other position
  over-local : (tags others : ℕ → Tag) (position m : ℕ) (s : S) → ((k : ℕ) → k < m → tags (position + k) ≡ others (position + k))
      → over step tags position m s ≡ over step others position m s
  unfolding over
  over-local tags others position zero s h = refl
  over-local tags others position (suc m) s h =
      rw (h m (omega arith), over-local tags others position m s (λ k l. h k (omega arith)))

  -- positions that say nothing
  over_nothing : ((p : ℕ) (s : S) → step p Nothing s ≡ s) → (tags : ℕ → Tag) (position m : ℕ) (s : S)
      → ((k : ℕ) → k < m → tags (position + k) ≡ Nothing) → over step tags position m s ≡ s
  unfolding over
  over_nothing q tags position zero s h = refl
  over_nothing q tags position (suc m) s h =
      rw (h m (omega arith), q) (over_nothing q tags position m s (λ k l. h k (omega arith)))

  pub over-start : (tags : ℕ → Tag) (position n : ℕ) (s : S) → s ≡ over step tags position (n - n) s
  unfolding over
  over-start tags position n s = let e : n - n ≡ 0 = omega arith in rw e

  -- ---- the pass by groups

  pub group-hole : ((p : ℕ) (s : S) → step p Nothing s ≡ s) → (group : List ℕ) (groups homes start n m : ℕ) (s : S)
      → group_valid group groups start n ≡ false → m ≤ 7 → s ≡ over step (entry_within group groups homes start) (7 * n) m s
  group-hole q group groups homes start n m s v h =
      sym (over_nothing q (entry_within group groups homes start) (7 * n) m s (λ k l. hole-nothing group groups homes start n v k (omega arith)))

  pub group-turn : (group : List ℕ) (groups homes start n turn k position word : ℕ) (s t u : S) → group_valid group groups start n ≡ true
      → turn ≡ turn_of groups n → k < 7 → position ≡ 7 * n + k → word ≡ word_there group turn k → t ≡ step position (read_tag word position (7 * start) homes) s
      → s ≡ over step (entry_within group groups homes start) (7 * n) k u → t ≡ over step (entry_within group groups homes start) (7 * n) (k + 1) u
  group-turn group groups homes start n turn k position word s t u v z h e w p q =
      p ∙ rw (e, w, z, over-one (entry_within group groups homes start) (7 * n) k u, valid-tag group groups homes start n v k h, ← q)

  -- the part of the log from `from` on is its next group
  pub log-turn : (log : List ℕ) (groups homes start p i m n slot from j : ℕ) (s t u : S) → m ≤ 7 → p + i ≡ 7 * n → slot ≡ n % groups
      → from ≡ 64 + 512 * slot → j ≡ i + m → s ≡ over step (entry_at log groups homes start) p i u
      → t ≡ over step (entry_within (take (from + 512 - from) (drop from log)) groups homes start) (7 * n) m s
      → t ≡ over step (entry_at log groups homes start) p j u
  log-turn log groups homes start p i m n slot from j s t u l e f g k h q =
      let a : take (from + 512 - from) (drop from log) ≡ group_at log (n % groups) = part-group log slot from g ∙ ap (group_at log) f in
      let b = over-local (entry_within (group_at log (n % groups)) groups homes start) (entry_at log groups homes start) (7 * n) m s
      (λ k h. group-tags log groups homes start n k (omega arith)) in
      q ∙ rw (a, b, k, over-more (entry_at log groups homes start) p i m u, e, ← h)
