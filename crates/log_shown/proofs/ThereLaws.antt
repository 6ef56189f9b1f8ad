-- Laws of what a home shows: the entry at its kept position, layer by layer, and the block. Assumes nothing.
use mathlib.Core.Path.{◌≡◌, refl, sym, ap, ◌∙◌}
use mathlib.Core.Bool.{Bool, true, false, cond, ◌&&◌, and-false, false≢true}
use mathlib.Core.List.{List}
use mathlib.Core.Option.{none, some}
use Prim.Native.Nat.{ℕ, ◌+◌, ◌-◌, ◌*◌, ◌/◌, ◌%◌, ◌^◌, ◌≤◌, ◌<◌}
use native.Mathlib.Nat.{mod-lt}
use native.Mathlib.Omega.{arith}
use lib.Dec.{leb, ltb, eqb}
use lib.ListN.{length, take, drop}
use borrow.Author.Tests.{ltb-true, lt-ltb, le-ltb, le-leb, lt-leb}
use Rattle.model.specs.Bytes.{part, puts, number, same}
use Rattle.model.specs.Layout.{group_at, slot_of, index_of, block_of, block_at, home_at, word_there, group_mark, group_valid, entry_within, entry_at}
use Rattle.model.specs.Tag.{present, home_of, read_tag}
use Rattle.model.specs.State.{state_of, next_position}
use Rattle.model.specs.declared.State.{State}
use Rattle.model.specs.declared.Tag.TheVariants.{Nothing}
use Rattle.model.specs.Effects.{Given, groups, homes, tags_of, live_tags, live_base, block_or, is_there}
use Rattle.model.specs.Rights.{shown_at}
use Rattle.model_laws.proofs.bytes.ByteLaws.{puts_whole}
use Rattle.model_laws.proofs.trace.ReplayLaws.{length-block_at}
use Rattle.model_laws.proofs.state.OrderLaws.{next-within}
use Rattle.call_ask.proofs.AnswerLaws.{Usable}
use Rattle.log_scan.specs.declared.slots.RingSlot.{RingSlot}
use Rattle.log_scan.specs.Slots.{SlotOf}
use Rattle.base_areas.proofs.GroupLaws.{entry-block}
use Rattle.log_scan.proofs.GroupLaws.{part-group, valid-other, valid-range}
use Rattle.log_shown.specs.declared.ring.RingPlace.{RingPlace}
use Rattle.log_shown.specs.There.{tags_by, there_by, shown_with, place_of, place_by, tag_from, entry_from, Searchable, RingPlaced}

-- ---- what a usable store gives the search

pub searchable : (log area state : List ℕ) (st : State) → Usable log area state → st ≡ state_of state → Searchable log st
unfolding next_position
searchable log area state st u e =
    let o = u.order in
    rw e
    (record {
      long = omega arith;
      least = omega arith;
      most = omega arith;
      homes-most = omega arith;
      low = o.start-most;
      next = refl;
      first = omega arith;
      within = rw o.groups-same (next-within state _ _ o);
    })

-- ---- the entry at a position

-- its ring place, counted from the log's start
pub ring-placed : (groups start after ahead : ℕ) (at : RingSlot) → ahead ≡ after / 7 → SlotOf groups (start + ahead) at
    → RingPlaced groups (7 * start + after) (record { number = start + ahead; slot = at.slot; turn = at.turn; k = after - 7 * ahead })
ring-placed groups start after ahead at f q =
    let n : start + ahead ≡ (7 * start + after) / 7 = omega arith in
    record {
      number = n;
      same = q.same ∙ rw n;
      low = q.low;
      turn = q.turn ∙ rw n;
      bit = q.bit;
      index = omega arith;
    }

-- what stands there, by the part of the log that is its group
module _ (log : List ℕ) (st : State) (p : ℕ) (at : RingPlace) (from : ℕ) (v : Bool) (q : RingPlaced st.groups p at) (f : from ≡ 64 + 512 * at.slot)
    (e : v ≡ group_valid (take (from + 512 - from) (drop from log)) st.groups st.start (p / 7)) where
  there-tag : tags_by log st p ≡ cond v (read_tag (word_there (take (from + 512 - from) (drop from log)) at.turn at.k) p (7 * st.start) st.homes) Nothing
  unfolding entry_at entry_within slot_of index_of
  there-tag =
      let a : take (from + 512 - from) (drop from log) ≡ group_at log (p / 7 % st.groups) = part-group log at.slot from f ∙ ap (group_at log) q.same in
      rw (e, a, q.turn, q.index)

  pub there-none : (home : ℕ) → v ≡ false → false ≡ (present (tags_by log st p) && eqb (home_of (tags_by log st p)) home)
  unfolding present
  there-none home h = let t : tags_by log st p ≡ Nothing = there-tag ∙ rw h in rw t

  pub there-word : (r : Bool) (word home : ℕ) → v ≡ true → word ≡ word_there (take (from + 512 - from) (drop from log)) at.turn at.k
      → r ≡ (present (read_tag word p (7 * st.start) st.homes) && eqb (home_of (read_tag word p (7 * st.start) st.homes)) home)
      → r ≡ (present (tags_by log st p) && eqb (home_of (tags_by log st p)) home)
  there-word r word home h w g =
      let t : tags_by log st p ≡ read_tag word p (7 * st.start) st.homes = there-tag ∙ rw (h, w) in
      g ∙ rw t

-- ---- the entry at the kept position

module _ (log : List ℕ) (st : State) (home p : ℕ) where
  pub kept-before : p < 7 * st.start → false ≡ there_by log st home p
  unfolding there_by
  kept-before h = rw (lt-leb (7 * st.start) p h)

  pub kept-past : (n : ℕ) → n ≡ next_position st → n ≤ p → false ≡ there_by log st home p
  unfolding there_by
  kept-past n f h = let k : ltb p (next_position st) ≡ false = le-ltb p (next_position st) (omega arith) in simp (k, and-false)

  pub kept-within : (n : ℕ) (x : Bool) → n ≡ next_position st → 7 * st.start ≤ p → p < n
      → x ≡ (present (tags_by log st p) && eqb (home_of (tags_by log st p)) home) → x ≡ there_by log st home p
  unfolding there_by
  kept-within n x f h k q = q ∙ rw (le-leb (7 * st.start) p h, lt-ltb p (next_position st) (omega arith))

  -- a kept position with an entry lies below the next one
  pub there-below : there_by log st home p ≡ true → p < next_position st
  unfolding there_by
  there-below e =
      ltb-true p (next_position st)
      (second (leb (7 * st.start) p) (ltb p (next_position st)) (present (tags_by log st p)) (eqb (home_of (tags_by log st p)) home) e)
    where
      second : (a b c d : Bool) → (a && b && c && d) ≡ true → b ≡ true
      second true true c d e = refl
      second true false c d e = e
      second false b c d e = absurd (false≢true e)

-- ---- the group's head: its number is in range

pub head-valid : (group log : List ℕ) (st : State) (p n : ℕ) (v : Bool) → Searchable log st → 7 * st.start ≤ p → p < next_position st → n ≡ p / 7
    → v ≡ (same (part group 0 2) group_mark && eqb (number 6 group (0 + 2)) (n % 2 ^ 48)) → v ≡ group_valid group st.groups st.start (p / 7)
head-valid group log st p n v s h k i e = go v (e ∙ rw i)
  where
    go : (v : Bool) → v ≡ (same (part group 0 2) group_mark && eqb (number 6 group (0 + 2)) (p / 7 % 2 ^ 48)) → v ≡ group_valid group st.groups st.start (p / 7)
    go true e =
        sym (lt-ltb (p / 7) (st.start + st.groups) (omega (arith, s.within)))
        ∙ valid-range group st.groups st.start (p / 7) (omega (arith, s.low, s.most)) (sym e) (omega arith)
    go false e = valid-other group st.groups st.start (p / 7) (omega (arith, s.low, s.most)) (sym e)

-- ---- the block's place

-- where a position is kept that does not lie in the log
module _ (log : List ℕ) (st : State) (home p : ℕ) where
  pub place-before : p < 7 * st.start → 0 ≡ place_by log st home p
  unfolding place_by
  place-before h = rw (← kept-before log st home p h)

  pub place-past : (n : ℕ) → n ≡ next_position st → n ≤ p → 0 ≡ place_by log st home p
  unfolding place_by
  place-past n f h = rw (← kept-past log st home p n f h)

  pub place-there : (n after : ℕ) (x : Bool) → n ≡ next_position st → after ≡ p - 7 * st.start → 7 * st.start ≤ p → p < n
      → x ≡ (present (tags_by log st (7 * st.start + after)) && eqb (home_of (tags_by log st (7 * st.start + after))) home) → x ≡ there_by log st home p
  place-there n after x f e h k q = let s : 7 * st.start + after ≡ p = omega arith in kept-within log st home p n x f h k (rw s at q)

-- the place by the ring place
pub ring-index : (groups start p after : ℕ) (at : RingPlace) → after ≡ p - 7 * start → 7 * start ≤ p → RingPlaced groups (7 * start + after) at
    → 64 + 512 * at.slot + (64 + 64 * at.k) ≡ 64 + 512 * (p / 7 % groups) + (64 + 64 * (p % 7))
ring-index groups start p after at e h q = let s : 7 * start + after ≡ p = omega arith in rw (q.same, q.index, s)

entry-from : (log : List ℕ) (groups p at : ℕ) → at ≡ 64 + 512 * (p / 7 % groups) + (64 + 64 * (p % 7)) → entry_from log at ≡ block_at log groups p
unfolding entry_from tag_from block_at slot_of index_of
entry-from log groups p at e =
    let t : 64 + (at - 64) / 512 * 512 + (at - 64) % 512 / 8 ≡ 64 + 512 * (p / 7 % groups) + (8 + 8 * (p % 7)) = omega arith in
    rw (t, e) (entry-block log (p / 7 % groups) (p % 7) _ (omega arith) refl)

module _ (log : List ℕ) (st : State) (home p : ℕ) (b : Bool) (e : b ≡ there_by log st home p) where
  pub place_none : b ≡ false → 0 ≡ place_by log st home p
  unfolding place_by
  place_none f = rw (← e, f)

  pub place-some : b ≡ true → 64 + 512 * (p / 7 % st.groups) + (64 + 64 * (p % 7)) ≡ place_by log st home p
  unfolding place_by place_of
  place-some f = rw (← e, f)

-- what a place says of the block that is shown
module _ (log area : List ℕ) (st : State) (home p at : ℕ) (e : at ≡ place_by log st home p) where
  pub shown-home : at ≡ 0 → shown_with log area st home p ≡ home_at area home
  unfolding place_by place_of shown_with
  shown-home z = go (there_by log st home p) e
    where
      go : (b : Bool) → at ≡ cond b (64 + 512 * (p / 7 % st.groups) + (64 + 64 * (p % 7))) 0
          → cond b (block_at log st.groups p) (home_at area home) ≡ home_at area home
      go true f = absurd (omega arith)
      go false f = refl

  pub place-fits : Searchable log st → (at ≡ 0 → ⊥) → (128 ≤ at) × (at + 64 ≤ length log)
  unfolding place_by place_of
  place-fits s z = go (there_by log st home p) e
    where
      go : (b : Bool) → at ≡ cond b (64 + 512 * (p / 7 % st.groups) + (64 + 64 * (p % 7))) 0 → (128 ≤ at) × (at + 64 ≤ length log)
      go true f =
          let l : p / 7 % st.groups < st.groups = mod-lt (p / 7) (omega (arith, s.least)) in
          (omega arith, omega (arith, l, s.long))
      go false f = absurd (z f)

  pub shown-at : (at ≡ 0 → ⊥) → shown_with log area st home p ≡ entry_from log at
  unfolding place_by place_of shown_with
  shown-at z = go (there_by log st home p) e
    where
      go : (b : Bool) → at ≡ cond b (64 + 512 * (p / 7 % st.groups) + (64 + 64 * (p % 7))) 0
          → cond b (block_at log st.groups p) (home_at area home) ≡ entry_from log at
      go true f = sym (entry-from log st.groups p at f)
      go false f = absurd (z f)

-- ---- the block

pub entry-copied : (block log : List ℕ) (groups p : ℕ) → length block ≡ 64 → length log ≡ 64 + 512 * groups → 0 < groups
    → puts block 0 (block_of (group_at log (p / 7 % groups)) (p % 7)) ≡ block_at log groups p
unfolding block_at slot_of index_of
entry-copied block log groups p e l h =
    puts_whole block (block_of (group_at log (p / 7 % groups)) (p % 7)) (omega (arith, length-block_at log groups p h l))

-- ---- the same by what a call is lent

module _ (g : Given) (st : State) (es : st ≡ state_of g.state) (eg : (state_of g.state).groups ≡ groups g) (eh : (state_of g.state).homes ≡ homes g) where
  tags-same : (p : ℕ) → live_tags g p ≡ tags_by g.log st p
  unfolding live_tags tags_of
  tags-same p = rw (es, eg, eh)

  pub there-same : (p : ℕ) → is_there g p ≡ there_by g.log st g.home p
  unfolding is_there there_by live_base
  there-same p = rw (tags-same, ← es)

  pub shown-same : (p : ℕ) → shown_at g p ≡ shown_with g.log g.area st g.home p
  unfolding shown_at shown_with block_or
  shown-same p =
      let q : groups g ≡ st.groups = sym eg ∙ ap (λ (s : State). s.groups) (sym es) in
      rw (there-same p) (go (there_by g.log st g.home p) q)
    where
      go : (b : Bool) → groups g ≡ st.groups
          → block_or g (cond b (some p) none) (home_at g.area g.home) ≡ cond b (block_at g.log st.groups p) (home_at g.area g.home)
      go true q = ap (λ (n : ℕ). block_at g.log n p) q
      go false q = refl
