-- One pass over the log that applies the commit rule and chains the entries. It keeps one cell for each first position: until a closing entry of that
-- transaction is committed the cell counts its entries, and from then on it holds that closing entry.
use Rattle.std.specs.Prelude.{ℕ, ◌+◌, ◌-◌, ◌*◌, ◌/◌, ◌≤◌, ◌<◌, ◌≡◌, cond, List, eqb, ltb, get_or, set, replicate}
use Rattle.model.specs.Layout.{entry_at}
use Rattle.model.specs.declared.Tag.{Tag}
use Rattle.model.specs.declared.Tag.TheVariants.{Nothing, Entry, Closing}
use Rattle.log_scan.specs.Scan.{decided, over}
use Rattle.log_scan.specs.declared.commits.Progress.{Progress}
use Rattle.log_gather.specs.Chains.{max_words}

-- the cells, the chains, and how far the walk has come
pub record Walk : Type 0 where
  pub cells : List ℕ
  pub heads : List ℕ
  pub links : List ℕ
  pub progress : Progress

-- what a closing entry's offset in a cell is added to; a count is below it
abbrev pub closed_mark : ℕ
closed_mark = 32768

-- the cell of a transaction with `count` entries so far, whose last closing entry is `last`
unfoldable pub cell_of : ℕ → ℕ → ℕ
cell_of count last = cond (eqb last 0) count (closed_mark + last)

-- the closing entry that a cell holds, 0 for none
unfoldable pub closer_in : ℕ → ℕ
closer_in cell = cond (ltb cell closed_mark) 0 (cell - closed_mark)

-- the first k cells hold closing entries only, and the others are as they were
pub record Dropped (before : List ℕ) (k : ℕ) (cells : List ℕ) : Type 0 where
  pub done : (i : ℕ) → i < k → get_or cells i 0 ≡ closer_in (get_or before i 0)
  pub later : (i : ℕ) → k ≤ i → get_or cells i 0 ≡ get_or before i 0

-- empty tables for `size` positions
unfoldable pub begun : ℕ → Walk
begun size =
    record {
      cells = replicate size 0;
      heads = replicate max_words 0;
      links = replicate size 0;
      progress = record { end = 0; number = 0; failed = 0 };
    }

-- an entry that comes after its transaction's closing one: its cell no longer counts, so the pass stops
unfoldable pub strayed : Progress → Progress
strayed p = record { end = p.end; number = p.number; failed = 2 }

unfoldable pub stopped : Walk → Progress → Walk
stopped g p = record { cells = g.cells; heads = g.heads; links = g.links; progress = p }

-- the entry at offset i goes first into its word's chain, and its transaction gets a new cell
unfoldable pub joined : ℕ → ℕ → ℕ → ℕ → Progress → Walk → Walk
joined home i first cell p g =
    record {
      cells = set g.cells first cell;
      heads = set g.heads (home / 64) (i + 1);
      links = set g.links i (get_or g.heads (home / 64) 0);
      progress = p;
    }

unfoldable pub join_entry : ℕ → ℕ → ℕ → Walk → Walk
join_entry home i first g =
    cond (ltb (get_or g.cells first 0) closed_mark) (joined home i first (get_or g.cells first 0 + 1) g.progress g) (stopped g (strayed g.progress))

-- a closing entry that was judged
unfoldable pub join_judged : ℕ → ℕ → ℕ → Progress → Walk → Walk
join_judged home i first p g = cond (eqb p.failed 0) (joined home i first (closed_mark + (i + 1)) p g) (stopped g p)

unfoldable pub join_closing : ℕ → ℕ → ℕ → ℕ → ℕ → ℕ → Walk → Walk
join_closing base position home first link count g =
    cond (ltb (get_or g.cells first 0) closed_mark)
    (join_judged home (position - base) first (decided base position link (eqb (get_or g.cells first 0 + 1) count) g.progress) g)
    (stopped g (strayed g.progress))

unfoldable pub join_tag : ℕ → ℕ → Tag → Walk → Walk
join_tag base position Nothing g = g
join_tag base position (Entry h f) g = join_entry h (position - base) (f - base) g
join_tag base position (Closing h f link count) g = join_closing base position h (f - base) link count g

-- what stands at a position is taken into the pass, unless it has stopped
unfoldable pub join : ℕ → ℕ → Tag → Walk → Walk
join base position t g = cond (eqb g.progress.failed 0) (join_tag base position t g) g

-- the pass over n positions from the start on, in tables for `size`, which ends early only where it has stopped
pub record Passed (log : List ℕ) (groups homes start n size : ℕ) (g : Walk) : Type 0 where
  pub taken : ℕ
  pub most : taken ≤ n
  pub is : g ≡ over (join (7 * start)) (entry_at log groups homes start) (7 * start) taken (begun size)
  pub all : g.progress.failed ≡ 0 → taken ≡ n
