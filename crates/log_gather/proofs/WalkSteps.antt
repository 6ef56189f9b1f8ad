-- How the pass that walks and chains goes: its numbers stay small, each tag is taken as the definition says, and in the end the counts are dropped.
-- Assumes nothing.
use mathlib.Core.Path.{◌≡◌, refl, sym, ap, ◌∙◌}
use mathlib.Core.Bool.{Bool, true, false, cond, ◌&&◌}
use mathlib.Core.List.{List}
use Prim.Native.Nat.{ℕ, zero, suc, ◌+◌, ◌-◌, ◌/◌, ◌≤◌, ◌<◌}
use native.Mathlib.Decide.{dec_lt, ℕ_discrete}
use native.Mathlib.Omega.{arith}
use borrow.Author.Tests.{eq-eqb, ne_eqb, lt-ltb, le-ltb}
use lib.Dec.{eqb, ltb}
use lib.ListN.{length, get_or, set, replicate}
use lib.Seq.{get_or-set_same, get_or-set_other}
use Rattle.model.specs.Commit.{linked}
use Rattle.model.specs.declared.Tag.{Tag}
use Rattle.model.specs.declared.Tag.TheVariants.{Nothing, Entry, Closing}
use Rattle.model_laws.proofs.rule.ClosingLaws.{last_at}
use Rattle.log_scan.specs.Scan.{decided, taken, over}
use Rattle.log_scan.specs.declared.commits.Progress.{Progress}
use Rattle.log_gather.specs.Chains.{max_words, Empty}
use Rattle.log_gather.specs.Walks.{Walk, closed_mark, closer_in, Dropped, begun, strayed, stopped, joined, join_entry, join_judged, join_closing, join_tag, join}
use Rattle.log_gather.proofs.TableLaws.{stopped-progress}

-- what bounds the numbers of a walk that has come to a position
pub record Small (position : ℕ) (p : Progress) : Type 0 where
  pub end : p.end ≤ position
  pub number : p.number ≤ position

module _ (base position : ℕ) (g : Walk) (k : Small position g.progress) where
  small-more : Small (position + 1) g.progress
  small-more = record { end = omega (arith, k.end); number = omega (arith, k.number) }

  small-strayed : Small (position + 1) (stopped g (strayed g.progress)).progress
  unfolding stopped strayed
  small-strayed = record { end = omega (arith, k.end); number = omega (arith, k.number) }

  small-decided : (link : ℕ) (complete : Bool) → Small (position + 1) (decided base position link complete g.progress)
  unfolding decided taken
  small-decided link complete = go (eqb g.progress.failed 0 && linked base (last_at g.progress.end) position link && complete)
    where
      go : (b : Bool) → Small (position + 1) (taken b position g.progress)
      go true = record { end = omega arith; number = omega (arith, k.number) }
      go false = record { end = omega (arith, k.end); number = omega (arith, k.number) }

  small-tag : (t : Tag) → Small (position + 1) (join_tag base position t g).progress
  unfolding join_tag join_entry join_closing join_judged joined
  small-tag Nothing = small-more
  small-tag (Entry h f) = go (ltb (get_or g.cells (f - base) 0) closed_mark)
    where
      go : (b : Bool)
          → Small (position + 1)
          (cond b (joined h (position - base) (f - base) (get_or g.cells (f - base) 0 + 1) g.progress g) (stopped g (strayed g.progress))).progress
      go true = small-more
      go false = small-strayed
  small-tag (Closing h f link count) = go (ltb (get_or g.cells (f - base) 0) closed_mark)
    where
      p : Progress
      p = decided base position link (eqb (get_or g.cells (f - base) 0 + 1) count) g.progress

      judged : (b : Bool)
          → Small (position + 1) (cond b (joined h (position - base) (f - base) (closed_mark + (position - base + 1)) p g) (stopped g p)).progress
      judged true = small-decided link (eqb (get_or g.cells (f - base) 0 + 1) count)
      judged false = rw (stopped-progress g p) (small-decided link (eqb (get_or g.cells (f - base) 0 + 1) count))

      go : (b : Bool)
          → Small (position + 1) (cond b (join_judged h (position - base) (f - base) p g) (stopped g (strayed g.progress))).progress
      go true = judged (eqb p.failed 0)
      go false = small-strayed

  small-join : (t : Tag) → Small (position + 1) (join base position t g).progress
  unfolding join
  small-join t = go (eqb g.progress.failed 0)
    where
      go : (b : Bool) → Small (position + 1) (cond b (join_tag base position t g) g).progress
      go true = small-tag t
      go false = small-more

small-over : (tags : ℕ → Tag) (base position m : ℕ) (g : Walk) → Small position g.progress → Small (position + m) (over (join base) tags position m g).progress
unfolding over
small-over tags base position zero g k = let e : position + 0 ≡ position = omega arith in rw e k
small-over tags base position (suc m) g k =
    let e : position + suc m ≡ position + m + 1 = omega arith in
    rw e (small-join base (position + m) (over (join base) tags position m g) (small-over tags base position m g k) (tags (position + m)))

pub small-reached : (tags : ℕ → Tag) (base position m here : ℕ) (g d : Walk) → here ≡ position + m → d ≡ over (join base) tags position m g
    → Small position g.progress → Small here d.progress
small-reached tags base position m here g d e f k = rw (e, f) (small-over tags base position m g k)

pub small-begun : (size base : ℕ) → Small base (begun size).progress
unfolding begun
small-begun size base = record { end = omega arith; number = omega arith }

pub join-quiet : (base p : ℕ) (g : Walk) → join base p Nothing g ≡ g
unfolding join join_tag
join-quiet base p g = go (eqb g.progress.failed 0)
  where
    go : (b : Bool) → cond b g g ≡ g
    go true = refl
    go false = refl

-- a pass that has stopped takes no more
pub over-held : (tags : ℕ → Tag) (base position n j : ℕ) (g d : Walk) → d ≡ over (join base) tags position n g → (d.progress.failed ≡ 0 → ⊥)
    → d ≡ over (join base) tags position (n + j) g
unfolding over join
over-held tags base position n zero g d e h = let z : n + 0 ≡ n = omega arith in rw z e
over-held tags base position n (suc j) g d e h =
    let z : n + suc j ≡ suc (n + j) = omega arith in
    rw (z, ← over-held tags base position n j g d e h, ne_eqb d.progress.failed 0 h)

-- a tag t, which says r, is taken into the pass
module _ (base position : ℕ) (g : Walk) (r t : Tag) (e : t ≡ r) where
  module _ (z : g.progress.failed ≡ 0) where
    pub join-nothing : t ≡ Nothing → g ≡ join base position r g
    unfolding join join_tag
    join-nothing d = rw (← e, d, eq-eqb g.progress.failed 0 z)

    pub join-entry : (h f : ℕ) (d : Walk) → t ≡ Entry h f → d ≡ join_entry h (position - base) (f - base) g → d ≡ join base position r g
    unfolding join join_tag
    join-entry h f d q k = rw (← e, q, eq-eqb g.progress.failed 0 z) k

    pub join-closing : (h f link count : ℕ) (d : Walk) → t ≡ Closing h f link count → d ≡ join_closing base position h (f - base) link count g
        → d ≡ join base position r g
    unfolding join join_tag
    join-closing h f link count d q k = rw (← e, q, eq-eqb g.progress.failed 0 z) k

-- an entry, step by step
module _ (h i first : ℕ) (g : Walk) where
  pub entry-strayed : closed_mark ≤ get_or g.cells first 0 → (p : Progress) → p ≡ strayed g.progress
      → ◌≡◌ {A = Walk} (record { cells = g.cells; heads = g.heads; links = g.links; progress = p }) (join_entry h i first g)
  unfolding join_entry stopped
  entry-strayed l p e = rw (le-ltb (get_or g.cells first 0) closed_mark l, e)

  pub entry-joined : get_or g.cells first 0 < closed_mark → (heads links : List ℕ) → heads ≡ set g.heads (h / 64) (i + 1)
      → links ≡ set g.links i (get_or g.heads (h / 64) 0)
      → ◌≡◌ {A = Walk} (record { cells = set g.cells first (get_or g.cells first 0 + 1); heads = heads; links = links; progress = g.progress })
      (join_entry h i first g)
  unfolding join_entry joined
  entry-joined l heads links a b = rw (lt-ltb (get_or g.cells first 0) closed_mark l, a, b)

-- a closing entry, step by step
module _ (base position h first link count : ℕ) (g : Walk) where
  pub closing-strayed : closed_mark ≤ get_or g.cells first 0 → (p : Progress) → p ≡ strayed g.progress
      → ◌≡◌ {A = Walk} (record { cells = g.cells; heads = g.heads; links = g.links; progress = p }) (join_closing base position h first link count g)
  unfolding join_closing stopped
  closing-strayed l p e = rw (le-ltb (get_or g.cells first 0) closed_mark l, e)

  module _ (l : get_or g.cells first 0 < closed_mark) (p : Progress)
      (e : p ≡ decided base position link (eqb (get_or g.cells first 0 + 1) count) g.progress) where
    pub closing-failed : (p.failed ≡ 0 → ⊥)
        → ◌≡◌ {A = Walk} (record { cells = g.cells; heads = g.heads; links = g.links; progress = p }) (join_closing base position h first link count g)
    unfolding join_closing join_judged stopped
    closing-failed z = rw (lt-ltb (get_or g.cells first 0) closed_mark l, ← e, ne_eqb p.failed 0 z)

    pub closing-joined : p.failed ≡ 0 → (heads links : List ℕ) → heads ≡ set g.heads (h / 64) (position - base + 1)
        → links ≡ set g.links (position - base) (get_or g.heads (h / 64) 0)
        → ◌≡◌ {A = Walk} (record { cells = set g.cells first (closed_mark + (position - base + 1)); heads = heads; links = links; progress = p })
        (join_closing base position h first link count g)
    unfolding join_closing join_judged joined
    closing-joined z heads links a b = rw (lt-ltb (get_or g.cells first 0) closed_mark l, ← e, eq-eqb p.failed 0 z, a, b)

-- the pass begins with empty tables
pub none-joined : (tags : ℕ → Tag) (base m groups : ℕ) (cells heads links : List ℕ) → m ≡ 0 → Empty groups cells heads links
    → ◌≡◌ {A = Walk} (record { cells = cells; heads = heads; links = links; progress = record { end = 0; number = 0; failed = 0 } })
    (over (join base) tags base m (begun (length cells)))
unfolding over begun
none-joined tags base m groups cells heads links z e =
    rw z (whole cells heads links (replicate (length cells) 0) (replicate max_words 0) (replicate (length cells) 0) e.lasts e.words e.each)
  where
    whole : (a b c x y z : List ℕ) → a ≡ x → b ≡ y → c ≡ z
        → ◌≡◌ {A = Walk} (record { cells = a; heads = b; links = c; progress = record { end = 0; number = 0; failed = 0 } })
        (record { cells = x; heads = y; links = z; progress = record { end = 0; number = 0; failed = 0 } })
    whole a b c x y z p q r = rw (p, q, r)

-- ---- counts are dropped

pub drop_more : (cells₀ cells : List ℕ) (k v : ℕ) → k < length cells → v ≡ closer_in (get_or cells k 0) → Dropped cells₀ k cells
    → Dropped cells₀ (k + 1) (set cells k v)
drop_more cells₀ cells k v l e d =
    record { done = λ i m. below i m (ℕ_discrete i k); later = λ i m. get_or-set_other cells k i v 0 (λ z. omega arith) ∙ d.later i (omega arith) }
  where
    below : (i : ℕ) → i < k + 1 → Dec (i ≡ k) → get_or (set cells k v) i 0 ≡ closer_in (get_or cells₀ i 0)
    below i m (yes z) = rw z (get_or-set_same cells k v 0 l ∙ e ∙ ap closer_in (d.later k (omega arith)))
    below i m (no z) = get_or-set_other cells k i v 0 z ∙ d.done i (omega arith)

pub drop-next : (cells₀ cells : List ℕ) (k i v : ℕ) → k < length cells → v ≡ closer_in (get_or cells k 0) → i ≡ k → Dropped cells₀ i cells
    → Dropped cells₀ (i + 1) (set cells k v)
drop-next cells₀ cells k i v l q e d = rw (← e) (drop_more cells₀ cells i v (omega arith) (rw e q) d)

pub drop-same : (cells₀ cells : List ℕ) (i j : ℕ) → j ≡ i → Dropped cells₀ i cells → Dropped cells₀ j cells
drop-same cells₀ cells i j e d = rw e d

pub drop_all : (cells₀ cells : List ℕ) (n k : ℕ) → ((i : ℕ) → n ≤ i → get_or cells₀ i 0 ≡ 0) → k ≡ n → Dropped cells₀ k cells
    → (i : ℕ) → get_or cells i 0 ≡ closer_in (get_or cells₀ i 0)
drop_all cells₀ cells n k z e d i = go (dec_lt i k)
  where
    none : closer_in 0 ≡ 0
    none = unfold closer_in in refl

    go : Dec (i < k) → get_or cells i 0 ≡ closer_in (get_or cells₀ i 0)
    go (yes l) = d.done i l
    go (no l) = let q : get_or cells₀ i 0 ≡ 0 = z i (omega arith) in d.later i (omega arith) ∙ q ∙ sym (ap closer_in q ∙ none)

pub closer-counts : (cell : ℕ) → cell < closed_mark → 0 ≡ closer_in cell
unfolding closer_in
closer-counts cell l = rw (lt-ltb cell closed_mark l)

pub closer-closed : (cell : ℕ) → closed_mark ≤ cell → cell - closed_mark ≡ closer_in cell
unfolding closer_in
closer-closed cell l = rw (le-ltb cell closed_mark l)
