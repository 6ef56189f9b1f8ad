-- A blank group written piece by piece, an entry's tag and block, and the two one after the other. Assumes nothing.
use mathlib.Core.Path.{◌≡◌, sym, ◌∙◌}
use mathlib.Core.List.{List, ◌++◌}
use Prim.Native.Nat.{ℕ, ◌+◌, ◌*◌, ◌<◌}
use native.Mathlib.Omega.{arith}
use borrow.Author.Tests.{eq-eqb, ne_eqb}
use lib.ListN.{length}
use Rattle.model.specs.Bytes.{part, puts, zeros, number, put_number}
use Rattle.model.specs.Tag.{with_displaced, displaced}
use Rattle.model.specs.Layout.{group_mark, group_offset, group_at, tag_offset, group_tag, block_offset, group_block, turn_of, top_bit, with_top_bit, turn_blocks, blank_group, put_blank, put_entry, block_of}
use Rattle.model.specs.declared.State.{State}
use Rattle.model.specs.Effects.{entered}
use Rattle.model_laws.proofs.bytes.ByteLaws.{puts-append, length-zeros, part-within, part-whole, number-part}
use Rattle.base_areas.proofs.PieceLaws.{number-then}

pub blank-written : (log : List ℕ) (slot n turn groups : ℕ) → turn ≡ turn_of groups n
    → puts (puts (put_number 6 (puts log (64 + 512 * slot) group_mark) (64 + 512 * slot + 2) n) (64 + 512 * slot + 8) (zeros 56)) (64 + 512 * slot + 64)
    (turn_blocks 7 turn)
    ≡ put_blank log groups slot n
unfolding put_blank group_offset blank_group
blank-written log slot n turn groups e =
    let at : ℕ = 64 + 512 * slot in
    let f : at + 64 ≡ at + 8 + length (zeros 56) = omega (arith, length-zeros 56) in
    rw (f, ← puts-append, e) (number-then 6 _ (at + 2) n (zeros 56 ++ turn_blocks 7 (turn_of groups n)) (at + 8) (omega arith) ∙ sym (puts-append log at group_mark _))

pub entry-written : (log : List ℕ) (slot turn k word whole : ℕ) (block : List ℕ) → length block ≡ 64 → whole ≡ with_displaced word (top_bit (part block 0 64))
    → puts (put_number 8 log (64 + 512 * slot + (8 + 8 * k)) whole) (64 + 512 * slot + (64 + 64 * k)) (with_top_bit (part block 0 64) turn)
    ≡ put_entry log slot turn k word block
unfolding put_entry group_offset tag_offset block_offset
entry-written log slot turn k word whole block l e = rw (e, part-whole block 64 (omega arith))

-- the entry goes into the log as it stands, or into one with a blank group first
module _ (st : State) (slot turn : ℕ) (log : List ℕ) (word : ℕ) (block : List ℕ) (t : turn ≡ turn_of st.groups st.next) where
  pub entered-first : st.filled ≡ 0
      → put_entry (put_blank log st.groups slot st.next) slot turn st.filled word block ≡ entered st slot log word block
  unfolding entered
  entered-first e = rw (eq-eqb st.filled 0 e, t)

  pub entered-later : (st.filled ≡ 0 → ⊥) → put_entry log slot turn st.filled word block ≡ entered st slot log word block
  unfolding entered
  entered-later e = rw (ne_eqb st.filled 0 e, t)

-- the block of an entry, by its place in the log
pub entry-block : (log : List ℕ) (slot k bit : ℕ) → k < 7 → bit ≡ displaced (number 8 log (64 + 512 * slot + (8 + 8 * k)))
    → with_top_bit (part log (64 + 512 * slot + (64 + 64 * k)) 64) bit ≡ block_of (group_at log slot) k
unfolding block_of group_block group_tag group_at group_offset tag_offset block_offset
entry-block log slot k bit h e =
    rw (e, part-within log (64 + 512 * slot) 512 (64 + 64 * k) 64 (omega arith), number-part 8 log (64 + 512 * slot) 512 (8 + 8 * k) (omega arith))
