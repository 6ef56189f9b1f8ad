-- The tables of the pass that walks and chains: what its cells say, and what an entry more makes of them. Assumes nothing.
use mathlib.Core.Path.{◌≡◌, refl, sym, ap, ◌∙◌}
use mathlib.Core.Bool.{Bool, true, false, cond}
use mathlib.Core.List.{List, ◌++◌, append-nil}
use Prim.Native.Nat.{ℕ, zero, suc, ◌+◌, ◌-◌, ◌/◌, ◌≤◌, ◌<◌}
use native.Mathlib.Decide.{ℕ_discrete}
use native.Mathlib.Omega.{arith}
use borrow.Author.Tests.{ne_eqb, eqb-true, lt-ltb, le-ltb, ltb-true}
use lib.Dec.{eqb, ltb}
use lib.ListN.{length, get_or, set, replicate, length-set, length-append}
use lib.Seq.{get_or-set_same, get_or-set_other}
use Rattle.model.specs.declared.Tag.{Tag}
use Rattle.model.specs.declared.Tag.TheVariants.{Nothing, Entry, Closing}
use Rattle.model_laws.proofs.rule.Closings.{span_at, closings}
use Rattle.log_scan.specs.Scan.{Scan, counted}
use Rattle.log_scan.specs.declared.commits.Progress.{Progress}
use Rattle.log_gather.specs.Closers.{closes, closer}
use Rattle.log_gather.specs.Chains.{Chains, chained, Roomy}
use Rattle.log_gather.specs.Walks.{Walk, closed_mark, cell_of, closer_in, stopped, joined}
use Rattle.log_gather.proofs.CloserLaws.{closer-same}

-- ---- cells

pub open-cell : (count last : ℕ) → ltb (cell_of count last) closed_mark ≡ true → (last ≡ 0) × (cell_of count last ≡ count)
unfolding cell_of
open-cell count last h = go (eqb last 0) refl h
  where
    go : (b : Bool) → eqb last 0 ≡ b → ltb (cond b count (closed_mark + last)) closed_mark ≡ true → (last ≡ 0) × (cond b count (closed_mark + last) ≡ count)
    go true e h = (eqb-true last 0 e, refl)
    go false e h = absurd (omega (arith, ltb-true (closed_mark + last) closed_mark h))

pub cell-count : (count : ℕ) → cell_of count 0 ≡ count
unfolding cell_of
cell-count count = refl

cell-closed : (count last : ℕ) → 0 < last → cell_of count last ≡ closed_mark + last
unfolding cell_of
cell-closed count last h = rw (ne_eqb last 0 (λ e. omega arith))

pub closer-cell : (count last : ℕ) → count < closed_mark → closer_in (cell_of count last) ≡ last
unfolding closer_in
closer-cell count last h = go (ℕ_discrete last 0)
  where
    go : Dec (last ≡ 0) → cond (ltb (cell_of count last) closed_mark) 0 (cell_of count last - closed_mark) ≡ last
    go (yes e) = rw (e, cell-count count, lt-ltb count closed_mark h)
    go (no e) =
        rw (cell-closed count last (omega arith), le-ltb (closed_mark + last) closed_mark (omega arith)) (let z : closed_mark + last - closed_mark ≡ last = omega arith in z)

-- ---- no closing entry after the last one committed

module _ (tags : ℕ → Tag) (base f : ℕ) where
  closings-rise : (m n : ℕ) → m ≤ n → length (closings tags base m) ≤ length (closings tags base n)
  unfolding closings
  closings-rise m zero l = let e : m ≡ 0 = omega arith in rw e (omega arith)
  closings-rise m (suc n) l = go (ℕ_discrete m (suc n)) (closings-rise m n)
    where
      go : Dec (m ≡ suc n) → (m ≤ n → length (closings tags base m) ≤ length (closings tags base n))
          → length (closings tags base m) ≤ length (closings tags base n ++ span_at (tags (base + n)) (base + n))
      go (yes e) k = rw e (omega arith)
      go (no e) k = omega (arith, k (omega arith), length-append (closings tags base n) (span_at (tags (base + n)) (base + n)))

  pub closer-still : (m n : ℕ) → m ≤ n → closings tags base m ≡ closings tags base n → closer tags base n f ≡ closer tags base m f
  unfolding closings closes span_at
  closer-still m zero l q = let e : m ≡ 0 = omega arith in rw e
  closer-still m (suc n) l q = go (ℕ_discrete m (suc n)) (closer-still m n)
    where
      go : Dec (m ≡ suc n) → (m ≤ n → closings tags base m ≡ closings tags base n → closer tags base n f ≡ closer tags base m f)
          → closer tags base (suc n) f ≡ closer tags base m f
      go (yes e) k = rw e
      go (no e) k = at (tags (base + n)) refl
        where
          at : (t : Tag) → tags (base + n) ≡ t → closer tags base (suc n) f ≡ closer tags base m f
          at Nothing d = closer-same tags base f n (rw d) ∙ k (omega arith) (q ∙ rw d (append-nil (closings tags base n)))
          at (Entry h g) d = closer-same tags base f n (rw d) ∙ k (omega arith) (q ∙ rw d (append-nil (closings tags base n)))
          at (Closing h g link count) d =
              let a = closings-rise m n (omega arith) in
              let z : length (closings tags base m) ≡ length (closings tags base n) + 1 = ap length q ∙ rw d (length-append (closings tags base n) _) in
              absurd (omega arith)

-- ---- what the tables hold

-- tables g, for `size` positions, after n of them, where s is the pass of the commit rule alone, and c that of the chains alone
pub record Tables (size n : ℕ) (s : Scan) (c : Chains) (g : Walk) : Type 0 where
  pub room : Roomy 0 size g.cells g.heads g.links
  pub cell : (i : ℕ) → i < size → get_or g.cells i 0 ≡ cell_of (get_or s.counts i 0) (get_or c.last i 0)
  pub beyond : (i : ℕ) → n ≤ i → get_or g.cells i 0 ≡ 0
  pub heads : g.heads ≡ c.heads
  pub links : g.links ≡ c.links
  pub going : s.progress.failed ≡ 0
  pub ends : g.progress.end ≡ s.progress.end

-- an entry at offset n, for home h and the transaction whose first entry is at offset i, is taken
pub tables-joined : (size n h i cell : ℕ) (p : Progress) (s u : Scan) (c d : Chains) (g : Walk) → Tables size n s c g → i ≤ n → n < size
    → d.heads ≡ set c.heads (h / 64) (n + 1) → d.links ≡ set c.links n (get_or c.heads (h / 64) 0)
    → cell ≡ cell_of (get_or u.counts i 0) (get_or d.last i 0)
    → ((j : ℕ) → (j ≡ i → ⊥) → (get_or u.counts j 0 ≡ get_or s.counts j 0) × (get_or d.last j 0 ≡ get_or c.last j 0))
    → u.progress.failed ≡ 0 → p.end ≡ u.progress.end → Tables size (suc n) u d (joined h n i cell p g)
unfolding joined
tables-joined size n h i cell p s u c d g t l m a b e o z q =
    record {
      room =
          record {
            few = omega arith;
            lasts = length-set g.cells i cell ∙ t.room.lasts;
            words = length-set g.heads (h / 64) (n + 1) ∙ t.room.words;
            each = length-set g.links n (get_or g.heads (h / 64) 0) ∙ t.room.each;
          };
      cell = λ j k. one j k (ℕ_discrete j i);
      beyond = λ j k. get_or-set_other g.cells i j cell 0 (λ y. omega arith) ∙ t.beyond j (omega arith);
      heads = ap (λ (x : List ℕ). set x (h / 64) (n + 1)) t.heads ∙ sym a;
      links = rw (t.heads, t.links) (sym b);
      going = z;
      ends = q;
    }
  where
    one : (j : ℕ) → j < size → Dec (j ≡ i) → get_or (set g.cells i cell) j 0 ≡ cell_of (get_or u.counts j 0) (get_or d.last j 0)
    one j k (yes y) = rw y (get_or-set_same g.cells i cell 0 (omega (arith, t.room.lasts)) ∙ e)
    one j k (no y) = get_or-set_other g.cells i j cell 0 y ∙ t.cell j k ∙ rw ((o j y).0, (o j y).1)

pub tables-stopped : (size n : ℕ) (s : Scan) (c : Chains) (g : Walk) (p : Progress) → Tables size n s c g → p.end ≡ g.progress.end → Tables size n s c (stopped g p)
unfolding stopped
tables-stopped size n s c g p t e =
    record {
      room = t.room;
      cell = t.cell;
      beyond = t.beyond;
      heads = t.heads;
      links = t.links;
      going = t.going;
      ends = e ∙ t.ends;
    }

pub stopped-progress : (g : Walk) (p : Progress) → (stopped g p).progress ≡ p
unfolding stopped
stopped-progress g p = refl

other-counted : (counts : List ℕ) (i j : ℕ) → (j ≡ i → ⊥) → get_or (counted counts i) j 0 ≡ get_or counts j 0
unfolding counted
other-counted counts i j n = get_or-set_other counts i j (get_or counts i 0 + 1) 0 n

same-counted : (counts : List ℕ) (i : ℕ) → i < length counts → get_or (counted counts i) i 0 ≡ get_or counts i 0 + 1
unfolding counted
same-counted counts i l = get_or-set_same counts i (get_or counts i 0 + 1) 0 l

module _ (size n h i : ℕ) (s : Scan) (c : Chains) (g : Walk) (t : Tables size n s c g) (l : i ≤ n) (m : n < size) (unclosed : ltb (get_or g.cells i 0) closed_mark ≡ true) where
  -- a transaction that is not closed: its cell counts
  pub cell-open : (get_or c.last i 0 ≡ 0) × (get_or g.cells i 0 ≡ get_or s.counts i 0)
  cell-open =
      let x = t.cell i (omega arith) in
      let o = open-cell (get_or s.counts i 0) (get_or c.last i 0) (ap (λ (y : ℕ). ltb y closed_mark) (sym x) ∙ unclosed) in
      (o.0, x ∙ o.1)

  pub entry-tables : length s.counts ≡ size
      → Tables size (suc n) (record { counts = counted s.counts i; progress = s.progress }) (chained h n c)
      (joined h n i (get_or g.cells i 0 + 1) g.progress g)
  unfolding chained
  entry-tables k =
      tables-joined size n h i (get_or g.cells i 0 + 1) g.progress s (record { counts = counted s.counts i; progress = s.progress }) c
      (record { last = c.last; heads = set c.heads (h / 64) (n + 1); links = set c.links n (get_or c.heads (h / 64) 0) }) g t l m refl refl
      (rw (same-counted s.counts i (omega arith), cell-open.0, cell-open.1) (sym (cell-count (get_or s.counts i 0 + 1))))
      (λ j y. (other-counted s.counts i j y, refl)) t.going t.ends

  pub closing-tables : (p : Progress) → p.failed ≡ 0 → length c.last ≡ size
      → Tables size (suc n) (record { counts = counted s.counts i; progress = p })
      (chained h n (record { last = set c.last i (n + 1); heads = c.heads; links = c.links })) (joined h n i (closed_mark + (n + 1)) p g)
  unfolding chained
  closing-tables p z k =
      tables-joined size n h i (closed_mark + (n + 1)) p s (record { counts = counted s.counts i; progress = p }) c
      (record { last = set c.last i (n + 1); heads = set c.heads (h / 64) (n + 1); links = set c.links n (get_or c.heads (h / 64) 0) }) g t l m
      refl refl
      (rw (get_or-set_same c.last i (n + 1) 0 (omega arith)) (sym (cell-closed (get_or (counted s.counts i) i 0) (n + 1) (omega arith))))
      (λ j y. (other-counted s.counts i j y, get_or-set_other c.last i j (n + 1) 0 y)) z refl

pub get_d-zeros : (n i : ℕ) → ◌≡◌ {A = ℕ} (get_or (replicate n 0) i 0) 0
get_d-zeros zero i = refl
get_d-zeros (suc n) zero = refl
get_d-zeros (suc n) (suc i) = get_d-zeros n i
