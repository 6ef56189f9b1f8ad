-- Laws of a stretch of group writes, of which a choice of blocks persists: what the memory then holds, and the fates of the entries.
-- A law takes its variables in the order in which its left side first names them, then its premises. Assumes nothing.
use mathlib.Core.Path.{◌≡◌, refl, sym, ap, ◌∙◌}
use mathlib.Core.Logic.{◌⊎◌, inl, inr}
use mathlib.Core.Bool.{Bool, true, false, cond, ◌&&◌}
use mathlib.Core.List.{List, [], ◌∷◌, ◌++◌}
use Prim.Native.Nat.{ℕ, zero, suc, ◌+◌, ◌-◌, ◌*◌, ◌%◌, ◌≤◌, ◌<◌}
use native.Mathlib.Nat.{mod-lt}
use native.Mathlib.Omega.{arith}
use borrow.Author.Tests.{eqb-true, eqb-false}
use lib.Dec.{eqb}
use lib.ListN.{length, take, drop, take-append-drop, length-append, length-take, length-drop}
use lib.Seq.{drop-drop}
use Rattle.model.specs.Bytes.{part, puts}
use Rattle.model.specs.Layout.{header_start, header_right, group_offset, group_at}
use Rattle.model.specs.Batch.{GW}
use Rattle.model.specs.Crash.{Memory, to_log, blocks, pieces, write, write_each, write_if, write_chosen, is_fence, persist_chosen, group_fate, fates_chosen}
use Rattle.model.specs.Book.{fate_at}
use Rattle.model_laws.proofs.bytes.ByteLaws.{length-puts, puts-nil, puts-append}
use Rattle.model_laws.proofs.bytes.LayoutLaws.{part_apart, part-written, header-start-same, header-right-same, group-fits, ring}
use Rattle.model_laws.proofs.bytes.BlockLaws.{block_in, block-slot}
use Rattle.model_laws.proofs.trace.CrashLaws.{write_records, submits, none-submits, piece_count-submits, chosen-append, fate-append, chosen-all, fate_at-short, fate_at-left, fate_at-right, if-log-area, if-log, either}

-- ---- ring slots

-- a slot belongs to one of k consecutive groups, or to none
slot-search : (G n₀ k slot : ℕ)
    → ((n : ℕ) × (n₀ ≤ n) × (n < n₀ + k) × (slot ≡ n % G)) ⊎ ((n : ℕ) → n₀ ≤ n → n < n₀ + k → slot ≡ n % G → ⊥)
slot-search G n₀ zero slot = inr (λ n a b e. omega arith)
slot-search G n₀ (suc k) slot = go (eqb slot ((n₀ + k) % G)) refl (slot-search G n₀ k slot)
  where
    last : (n : ℕ) → (slot ≡ (n₀ + k) % G → ⊥) → slot ≡ n % G → n ≡ n₀ + k → ⊥
    last n f e q = f (e ∙ rw q)

    go : (d : Bool) → eqb slot ((n₀ + k) % G) ≡ d
        → ((n : ℕ) × (n₀ ≤ n) × (n < n₀ + k) × (slot ≡ n % G)) ⊎ ((n : ℕ) → n₀ ≤ n → n < n₀ + k → slot ≡ n % G → ⊥)
        → ((n : ℕ) × (n₀ ≤ n) × (n < n₀ + suc k) × (slot ≡ n % G)) ⊎ ((n : ℕ) → n₀ ≤ n → n < n₀ + suc k → slot ≡ n % G → ⊥)
    go true t o = inl (n₀ + k, omega arith, omega arith, eqb-true slot ((n₀ + k) % G) t)
    go false t (inl x) = inl (x.0, x.1, omega arith, x.3)
    go false t (inr f) =
        inr (λ n a b e. let d : n ≡ n₀ + k → ⊥ = last n (eqb-false slot ((n₀ + k) % G) t) e in f n a (omega arith) e)

-- ---- blocks that lie one behind the other

short : (content : List ℕ) → length (take 64 content) ≤ 64
short content = simp length-take (omega arith)

-- one block that may be written
may-apart : (b : Bool) (at : ℕ) (bs : List ℕ) (m : Memory) (a n : ℕ) → (a < at + length bs → at < a + n → ⊥)
    → part (write_if b (to_log at bs) m).log a n ≡ part m.log a n
may-apart b at bs m a n h = rw if-log (either (λ l. part l a n ≡ part m.log a n) b _ _ (part_apart m.log at bs a n h) refl)

may_here : (b : Bool) (at : ℕ) (bs : List ℕ) (m : Memory) → length bs ≡ 64 → at + 64 ≤ length m.log
    → part (write_if b (to_log at bs) m).log at 64 ≡ cond b bs (part m.log at 64)
unfolding write_if write
may_here true at bs m e h = part-written m.log at bs 64 e h
may_here false at bs m e h = refl

may-length : (b : Bool) (at : ℕ) (bs : List ℕ) (m : Memory) → length (write_if b (to_log at bs) m).log ≡ length m.log
may-length b at bs m = rw if-log (either (λ l. length l ≡ length m.log) b _ _ (length-puts m.log at bs) refl)

module _ (chosen : ℕ → Bool) where
  blocks-area : (i at : ℕ) (content : List ℕ) (n : ℕ) (m : Memory) → (write_chosen chosen i (blocks at content n) m).area ≡ m.area
  unfolding write_chosen blocks
  blocks-area i at content zero m = refl
  blocks-area i at content (suc n) m = blocks-area (i + 1) (at + 64) (drop 64 content) n _ ∙ if-log-area (chosen i) at (take 64 content) m

  blocks-length : (i at : ℕ) (content : List ℕ) (n : ℕ) (m : Memory)
      → length (write_chosen chosen i (blocks at content n) m).log ≡ length m.log
  unfolding write_chosen blocks
  blocks-length i at content zero m = refl
  blocks-length i at content (suc n) m = blocks-length (i + 1) (at + 64) (drop 64 content) n _ ∙ may-length (chosen i) at (take 64 content) m

  -- what lies apart from all of them
  blocks-apart : (i at : ℕ) (content : List ℕ) (n : ℕ) (m : Memory) (a k : ℕ) → (a < at + 64 * n → at < a + k → ⊥)
      → part (write_chosen chosen i (blocks at content n) m).log a k ≡ part m.log a k
  unfolding write_chosen blocks
  blocks-apart i at content zero m a k h = refl
  blocks-apart i at content (suc n) m a k h =
      blocks-apart (i + 1) (at + 64) (drop 64 content) n _ a k (λ x y. h (omega arith) (omega arith))
      ∙ may-apart (chosen i) at (take 64 content) m a k (λ x y. h (omega (arith, short content)) y)

  -- each of them
  blocks-here : (i at : ℕ) (content : List ℕ) (n : ℕ) (m : Memory) (j : ℕ) → j < n → length content ≡ 64 * n → at + 64 * n ≤ length m.log
      → part (write_chosen chosen i (blocks at content n) m).log (at + 64 * j) 64
      ≡ cond (chosen (i + j)) (part content (64 * j) 64) (part m.log (at + 64 * j) 64)
  unfolding write_chosen blocks part
  blocks-here i at content zero m j h e l = absurd (omega arith)
  blocks-here i at content (suc n) m zero h e l =
      let z : at + 64 * 0 ≡ at = omega arith in
      let y : i + 0 ≡ i = omega arith in
      rw (z, y)
      (blocks-apart (i + 1) (at + 64) (drop 64 content) n _ at 64 (λ x y. omega arith)
      ∙ may_here (chosen i) at (take 64 content) m (simp length-take (omega arith)) (omega arith))
  blocks-here i at content (suc n) m (suc j) h e l =
      let z : at + 64 * suc j ≡ at + 64 + 64 * j = omega arith in
      let y : i + suc j ≡ i + 1 + j = omega arith in
      let x : 64 * suc j ≡ 64 + 64 * j = omega arith in
      rw (z, y, x)
      (blocks-here (i + 1) (at + 64) (drop 64 content) n _ j (omega arith) (simp length-drop (omega arith)) (rw may-length (omega arith))
      ∙ rw (drop-drop, may-apart (chosen i) at (take 64 content) m (at + 64 + 64 * j) 64 (λ u v. omega (arith, short content))))

-- all of them written are the whole
pub write-blocks : (at : ℕ) (content : List ℕ) (n : ℕ) (m : Memory) → length content ≡ 64 * n
    → write_each (blocks at content n) m ≡ record { log = puts m.log at content; area = m.area }
unfolding write_each blocks write
write-blocks at [] zero m e = ap {B = Memory} (λ (l : List ℕ). record { log = l; area = m.area }) (sym (puts-nil m.log at))
write-blocks at (x ∷ content) zero m e = absurd (omega arith)
write-blocks at content (suc n) m e =
    write-blocks (at + 64) (drop 64 content) n _ (simp length-drop (omega arith))
    ∙ ap {B = Memory} (λ (l : List ℕ). record { log = l; area = m.area }) both
  where
    size : length (take 64 content) ≡ 64
    size = simp length-take (omega arith)

    both : puts (puts m.log at (take 64 content)) (at + 64) (drop 64 content) ≡ puts m.log at content
    both =
        rw size at (sym (puts-append m.log at (take 64 content) (drop 64 content)))
        ∙ ap (puts m.log at) (take-append-drop 64 content)

-- ---- one group

chosen-group : (chosen : ℕ → Bool) (i slot : ℕ) (group : List ℕ) (m : Memory)
    → persist_chosen chosen i (GW slot group ∷ []) m ≡ write_chosen chosen i (blocks (group_offset slot) group 8) m
unfolding persist_chosen is_fence pieces
chosen-group chosen i slot group m = refl

fate-group : (chosen : ℕ → Bool) (i slot : ℕ) (group : List ℕ)
    → fates_chosen chosen i (GW slot group ∷ []) ≡ (λ e. chosen (i + 0) && chosen (i + (e % 7 + 1))) ∷ []
unfolding fates_chosen is_fence group_fate
fate-group chosen i slot group = refl

pub write-group : (slot : ℕ) (group : List ℕ) (m : Memory) → length group ≡ 512
    → write_records (GW slot group ∷ []) m ≡ record { log = puts m.log (group_offset slot) group; area = m.area }
unfolding write_records pieces
write-group slot group m e = write-blocks (group_offset slot) group 8 m e

pub area-group : (slot : ℕ) (group : List ℕ) (m : Memory) → (write_records (GW slot group ∷ []) m).area ≡ m.area
unfolding write_records pieces blocks write_each write
area-group slot group m = refl

module _ (chosen : ℕ → Bool) (i slot : ℕ) (group : List ℕ) (m : Memory) where
  abbrev wrote-group : Memory
  wrote-group = write_chosen chosen i (blocks (group_offset slot) group 8) m

  group-elsewhere : (s : ℕ) → (s ≡ slot → ⊥) → group_at wrote-group.log s ≡ group_at m.log s
  unfolding group_at group_offset
  group-elsewhere s h = blocks-apart chosen i (64 + 512 * slot) group 8 m (64 + 512 * s) 512 (λ x y. h (omega arith))

  group-block : (j : ℕ) → j < 8 → length group ≡ 512 → group_offset slot + 512 ≤ length m.log
      → block_in (group_at wrote-group.log slot) j ≡ cond (chosen (i + j)) (block_in group j) (block_in (group_at m.log slot) j)
  unfolding block_in
  group-block j h e l =
      block-slot wrote-group.log slot j h ∙ blocks-here chosen i (group_offset slot) group 8 m j h e l
      ∙ ap (λ (x : List ℕ). cond (chosen (i + j)) (part group (64 * j) 64) x) (sym (block-slot m.log slot j h))

  -- the header lies apart
  group-front : (a n : ℕ) → a + n ≤ 64 → part wrote-group.log a n ≡ part m.log a n
  unfolding group_offset
  group-front a n h = blocks-apart chosen i (64 + 512 * slot) group 8 m a n (λ x y. omega arith)

-- ---- groups one after the other

module _ (chosen : ℕ → Bool) (i G n₀ : ℕ) (bytes : ℕ → List ℕ) where
  -- the last of them
  fate-more : (k : ℕ)
      → fates_chosen chosen i (submits G n₀ bytes (suc k))
      ≡ fates_chosen chosen i (submits G n₀ bytes k) ++ ((λ e. chosen (i + 8 * k + 0) && chosen (i + 8 * k + (e % 7 + 1))) ∷ [])
  unfolding submits
  fate-more k =
      fate-append chosen i (submits G n₀ bytes k) (GW ((n₀ + k) % G) (bytes (n₀ + k)) ∷ []) (none-submits G n₀ bytes k)
      ∙ rw (fate-group, piece_count-submits)

  length-fates-submits : (k : ℕ) → length (fates_chosen chosen i (submits G n₀ bytes k)) ≡ k
  unfolding submits fates_chosen
  length-fates-submits zero = refl
  length-fates-submits (suc k) = rw (fate-more, length-append) (omega (arith, length-fates-submits k))

  -- "an entry has landed when its tag's block and its data block both have"
  pub fate_at-submits : (k j e : ℕ) → j < k
      → fate_at (fates_chosen chosen i (submits G n₀ bytes k)) j e ≡ (chosen (i + 8 * j + 0) && chosen (i + 8 * j + (e % 7 + 1)))
  unfolding fate_at
  fate_at-submits zero j e h = absurd (omega arith)
  fate_at-submits (suc k) j e h = rw fate-more (go (eqb j k) refl (fate_at-submits k j e))
    where
      both : ℕ → Bool
      both x = chosen (i + 8 * k + 0) && chosen (i + 8 * k + (x % 7 + 1))

      go : (b : Bool) → eqb j k ≡ b
          → (j < k → fate_at (fates_chosen chosen i (submits G n₀ bytes k)) j e ≡ (chosen (i + 8 * j + 0) && chosen (i + 8 * j + (e % 7 + 1))))
          → fate_at (fates_chosen chosen i (submits G n₀ bytes k) ++ (both ∷ [])) j e ≡ (chosen (i + 8 * j + 0) && chosen (i + 8 * j + (e % 7 + 1)))
      go true t f =
          let q : j ≡ k = eqb-true j k t in
          let l : length (fates_chosen chosen i (submits G n₀ bytes k)) ≡ k = length-fates-submits k in
          let z : j - k ≡ 0 = omega arith in
          fate_at-right (fates_chosen chosen i (submits G n₀ bytes k)) (both ∷ []) j e k l (omega arith) ∙ rw (z, q)
      go false t f =
          let l : length (fates_chosen chosen i (submits G n₀ bytes k)) ≡ k = length-fates-submits k in
          let d : j < k = omega (arith, eqb-false j k t) in
          fate_at-left (fates_chosen chosen i (submits G n₀ bytes k)) (both ∷ []) j e (omega arith) ∙ f d

  pub fate_at-submits-past : (k j e : ℕ) → k ≤ j → fate_at (fates_chosen chosen i (submits G n₀ bytes k)) j e ≡ false
  fate_at-submits-past k j e h = fate_at-short (fates_chosen chosen i (submits G n₀ bytes k)) j e (rw length-fates-submits h)

  -- the memory after the last of them
  chosen_more : (k : ℕ) (m : Memory)
      → persist_chosen chosen i (submits G n₀ bytes (suc k)) m
      ≡ wrote-group chosen (i + 8 * k) ((n₀ + k) % G) (bytes (n₀ + k)) (persist_chosen chosen i (submits G n₀ bytes k) m)
  unfolding submits
  chosen_more k m =
      chosen-append chosen i (submits G n₀ bytes k) (GW ((n₀ + k) % G) (bytes (n₀ + k)) ∷ []) m (none-submits G n₀ bytes k)
      ∙ rw (chosen-group, piece_count-submits)

  chosen_none : (m : Memory) → persist_chosen chosen i (submits G n₀ bytes 0) m ≡ m
  unfolding submits persist_chosen
  chosen_none m = refl

  pub area-submits : (k : ℕ) (m : Memory) → (persist_chosen chosen i (submits G n₀ bytes k) m).area ≡ m.area
  area-submits zero m = rw chosen_none
  area-submits (suc k) m = rw chosen_more (blocks-area chosen _ _ _ 8 _ ∙ area-submits k m)

  pub length-submits : (k : ℕ) (m : Memory) → length (persist_chosen chosen i (submits G n₀ bytes k) m).log ≡ length m.log
  length-submits zero m = rw chosen_none
  length-submits (suc k) m = rw chosen_more (blocks-length chosen _ _ _ 8 _ ∙ length-submits k m)

  -- the header stays
  front-submits : (k : ℕ) (m : Memory) (a n : ℕ) → a + n ≤ 64 → part (persist_chosen chosen i (submits G n₀ bytes k) m).log a n ≡ part m.log a n
  front-submits zero m a n h = rw chosen_none
  front-submits (suc k) m a n h = rw chosen_more (group-front chosen _ _ _ _ a n h ∙ front-submits k m a n h)

  pub header_start-submits : (k : ℕ) (m : Memory) → header_start (persist_chosen chosen i (submits G n₀ bytes k) m).log ≡ header_start m.log
  header_start-submits k m = header-start-same _ _ (front-submits k m)

  pub header_right-submits : (k : ℕ) (m : Memory) (g d : ℕ)
      → header_right (persist_chosen chosen i (submits G n₀ bytes k) m).log g d ≡ header_right m.log g d
  header_right-submits k m g d = header-right-same _ _ g d (front-submits k m)

  -- a slot that none of them goes to
  pub group_at-elsewhere : (k : ℕ) (m : Memory) (s : ℕ) → ((n : ℕ) → n₀ ≤ n → n < n₀ + k → s ≡ n % G → ⊥)
      → group_at (persist_chosen chosen i (submits G n₀ bytes k) m).log s ≡ group_at m.log s
  group_at-elsewhere zero m s u = rw chosen_none
  group_at-elsewhere (suc k) m s u =
      rw chosen_more
      (group-elsewhere chosen _ _ _ _ s (u (n₀ + k) (omega arith) (omega arith)) ∙ group_at-elsewhere k m s (λ n a b. u n a (omega arith)))

  -- the slot of one of them, block by block
  pub block_in-submits : (k : ℕ) (m : Memory) (n j : ℕ)
      → 0 < G → k ≤ G → length m.log ≡ 64 + 512 * G
      → ((n : ℕ) → n₀ ≤ n → n < n₀ + k → length (bytes n) ≡ 512)
      → n₀ ≤ n → n < n₀ + k → j < 8
      → block_in (group_at (persist_chosen chosen i (submits G n₀ bytes k) m).log (n % G)) j
      ≡ cond (chosen (i + 8 * (n - n₀) + j)) (block_in (bytes n) j) (block_in (group_at m.log (n % G)) j)
  block_in-submits zero m n j h w e l a b c = absurd (omega arith)
  block_in-submits (suc k) m n j h w e l a b c =
      rw chosen_more
      (go (eqb n (n₀ + k)) refl (λ d. block_in-submits k m n j h (omega arith) e (λ x u v. l x u (omega arith)) a d c))
    where
      M : Memory
      M = persist_chosen chosen i (submits G n₀ bytes k) m

      size : length (bytes (n₀ + k)) ≡ 512
      size = l (n₀ + k) (omega arith) (omega arith)

      go : (b : Bool) → eqb n (n₀ + k) ≡ b
          → (n < n₀ + k → block_in (group_at M.log (n % G)) j ≡ cond (chosen (i + 8 * (n - n₀) + j)) (block_in (bytes n) j) (block_in (group_at m.log (n % G)) j))
          → block_in (group_at (wrote-group chosen (i + 8 * k) ((n₀ + k) % G) (bytes (n₀ + k)) M).log (n % G)) j
          ≡ cond (chosen (i + 8 * (n - n₀) + j)) (block_in (bytes n) j) (block_in (group_at m.log (n % G)) j)
      go true t f =
          let q : n ≡ n₀ + k = eqb-true n (n₀ + k) t in
          let z : n - n₀ ≡ k = omega arith in
          let s : (n₀ + k) % G < G = mod-lt (n₀ + k) h in
          rw (z, q)
          (group-block chosen (i + 8 * k) ((n₀ + k) % G) (bytes (n₀ + k)) M j c size
          (group-fits ((n₀ + k) % G) M.log G s (length-submits k m ∙ e))
          ∙ rw (group_at-elsewhere k m ((n₀ + k) % G)
          (λ x u v r. let y : n₀ + k ≡ x = ring n₀ G (n₀ + k) x (omega arith) (omega arith) u (omega arith) r in omega arith)))
      go false t f =
          let d : n < n₀ + k = omega (arith, eqb-false n (n₀ + k) t) in
          ap (λ (g : List ℕ). block_in g j)
          (group-elsewhere chosen (i + 8 * k) ((n₀ + k) % G) (bytes (n₀ + k)) M (n % G)
          (λ r. let y : n ≡ n₀ + k = ring n₀ G n (n₀ + k) a (omega arith) (omega arith) (omega arith) r in omega arith))
          ∙ f d

  -- the metadata of a slot is what it was, or that of a group that goes there
  pub meta-submits : (k : ℕ) (m : Memory) (slot : ℕ)
      → 0 < G → k ≤ G → length m.log ≡ 64 + 512 * G
      → ((n : ℕ) → n₀ ≤ n → n < n₀ + k → length (bytes n) ≡ 512)
      → (block_in (group_at (persist_chosen chosen i (submits G n₀ bytes k) m).log slot) 0 ≡ block_in (group_at m.log slot) 0)
      ⊎ ((n : ℕ) × (n₀ ≤ n) × (n < n₀ + k) × (block_in (group_at (persist_chosen chosen i (submits G n₀ bytes k) m).log slot) 0 ≡ block_in (bytes n) 0))
  meta-submits k m slot h w e l = go (slot-search G n₀ k slot)
    where
      M : Memory
      M = persist_chosen chosen i (submits G n₀ bytes k) m

      pick : (n : ℕ) → n₀ ≤ n → n < n₀ + k → (d : Bool) → {g : List ℕ} → g ≡ cond d (block_in (bytes n) 0) (block_in (group_at m.log slot) 0)
          → (g ≡ block_in (group_at m.log slot) 0) ⊎ ((n : ℕ) × (n₀ ≤ n) × (n < n₀ + k) × (g ≡ block_in (bytes n) 0))
      pick n x y true e = inr (n, x, y, e)
      pick n x y false e = inl e

      go : ((n : ℕ) × (n₀ ≤ n) × (n < n₀ + k) × (slot ≡ n % G)) ⊎ ((n : ℕ) → n₀ ≤ n → n < n₀ + k → slot ≡ n % G → ⊥)
          → (block_in (group_at M.log slot) 0 ≡ block_in (group_at m.log slot) 0)
          ⊎ ((n : ℕ) × (n₀ ≤ n) × (n < n₀ + k) × (block_in (group_at M.log slot) 0 ≡ block_in (bytes n) 0))
      go (inl x) =
          pick x.0 x.1 x.2 (chosen (i + 8 * (x.0 - n₀) + 0))
          (rw x.3 (block_in-submits k m x.0 0 h w e l x.1 x.2 (omega arith)))
      go (inr f) = inl (ap (λ (g : List ℕ). block_in g 0) (group_at-elsewhere k m slot f))

-- where all of them are written
pub area-wrote : (G n₀ : ℕ) (bytes : ℕ → List ℕ) (k : ℕ) (m : Memory) → (write_records (submits G n₀ bytes k) m).area ≡ m.area
area-wrote G n₀ bytes k m =
    rw (← chosen-all 0 (submits G n₀ bytes k) m (none-submits G n₀ bytes k)) (area-submits (λ x. true) 0 G n₀ bytes k m)
