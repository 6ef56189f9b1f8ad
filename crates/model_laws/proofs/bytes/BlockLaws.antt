-- A group as eight blocks of 64 bytes: its metadata, then its data blocks. Mark, number and tags lie in the first; groups are equal by their blocks.
-- A law takes its variables in the order in which its left side first names them, then its premises. Assumes nothing.
use mathlib.Core.Path.{◌≡◌, sym, ap, ◌∙◌}
use mathlib.Core.List.{List}
use Prim.Native.Nat.{ℕ, ◌+◌, ◌*◌, ◌<◌}
use native.Mathlib.Omega.{arith}
use lib.ListN.{length}
use Rattle.model.specs.Bytes.{part}
use Rattle.model.specs.Layout.{group_offset, group_at, group_number, tag_offset, group_tag, block_offset, group_block, home_at}
use Rattle.model_laws.proofs.bytes.ByteLaws.{part-within, number-part}
use Rattle.model_laws.proofs.bytes.LayoutLaws.{area-ext}

-- block j of a group: 0 is the metadata, k + 1 data block k
unfoldable pub block_in : List ℕ → ℕ → List ℕ
block_in group j = part group (64 * j) 64

pub block-data : (group : List ℕ) (k : ℕ) → group_block group k ≡ block_in group (k + 1)
unfolding group_block block_offset block_in
block-data group k = let e : 64 + 64 * k ≡ 64 * (k + 1) = omega arith in rw e

-- what the metadata alone says
meta-mark : (group : List ℕ) → part group 0 2 ≡ part (block_in group 0) 0 2
unfolding block_in
meta-mark group = sym (part-within group 0 64 0 2 (omega arith))

meta-number : (group : List ℕ) → group_number group ≡ group_number (block_in group 0)
unfolding block_in group_number
meta-number group = sym (number-part 6 group 0 64 2 (omega arith))

meta-tag : (group : List ℕ) (k : ℕ) → k < 7 → group_tag group k ≡ group_tag (block_in group 0) k
unfolding block_in group_tag tag_offset
meta-tag group k h =
    let e : 0 + (8 + 8 * k) ≡ 8 + 8 * k = omega arith in
    sym (rw e at (number-part 8 group 0 64 (8 + 8 * k) (omega arith)))

module _ (g h : List ℕ) (e : block_in g 0 ≡ block_in h 0) where
  pub same-mark : part g 0 2 ≡ part h 0 2
  same-mark = meta-mark g ∙ ap (λ (x : List ℕ). part x 0 2) e ∙ sym (meta-mark h)

  pub same_number : group_number g ≡ group_number h
  same_number = meta-number g ∙ ap group_number e ∙ sym (meta-number h)

  pub same_tag : (k : ℕ) → k < 7 → group_tag g k ≡ group_tag h k
  same_tag k i = meta-tag g k i ∙ ap (λ (x : List ℕ). group_tag x k) e ∙ sym (meta-tag h k i)

pub same-data : (g h : List ℕ) (k : ℕ) → block_in g (k + 1) ≡ block_in h (k + 1) → group_block g k ≡ group_block h k
same-data g h k e = block-data g k ∙ e ∙ sym (block-data h k)

-- groups are equal by their blocks
pub group-ext : (g h : List ℕ) → length g ≡ 512 → length h ≡ 512 → ((j : ℕ) → j < 8 → block_in g j ≡ block_in h j) → g ≡ h
unfolding block_in
group-ext g h p q f = area-ext g h 8 p q (λ j l. unfold home_at in f j l)

-- a block of the group in a ring slot, in the log
pub block-slot : (log : List ℕ) (slot j : ℕ) → j < 8 → block_in (group_at log slot) j ≡ part log (group_offset slot + 64 * j) 64
unfolding block_in group_at
block-slot log slot j h = part-within log (group_offset slot) 512 (64 * j) 64 (omega arith)
