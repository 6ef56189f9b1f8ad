-- The newest committed entries of the homes of one word, found along the word's chain.
use Rattle.std.specs.Prelude.{ℕ, ◌+◌, ◌-◌, ◌*◌, ◌%◌, ◌≤◌, ◌<◌, ◌≡◌, Bool, cond, List, ltb, length, get_or, set, replicate}
use Rattle.model.specs.Layout.{entry_at}
use Rattle.model.specs.Commit.{newest, found}
use Rattle.model.specs.Effects.{marked}
use Rattle.model.specs.declared.Tag.{Tag}
use Rattle.model.specs.declared.Tag.TheVariants.{Nothing, Entry, Closing}
use Rattle.base_bitmap.specs.Marks.{bit, raised, with_mark}
use Rattle.log_scan.specs.Walk.{closed_below}
use Rattle.log_replay.specs.Best.{offset_code}
use Rattle.log_replay.specs.Best.{from}

-- for each home of a word the closing entry of the newest transaction with an entry for it and that entry; and the homes that have one, marked
pub record Word : Type 0 where
  pub closers : List ℕ
  pub table : List ℕ
  pub map : List ℕ

unfoldable pub unseen : Word
unseen = record { closers = replicate 64 0; table = replicate 64 0; map = replicate 1 0 }

pub record Sized (closers table map : List ℕ) : Type 0 where
  pub closing : length closers ≡ 64
  pub each : length table ≡ 64
  pub words : length map ≡ 1

-- an entry for a home is its newest if its transaction closes later than that of the newest so far
unfoldable pub offered : ℕ → ℕ → ℕ → Word → Word
offered k closer code g =
    cond (ltb (get_or g.closers k 0) closer)
    (record { closers = set g.closers k closer; table = set g.table k code; map = with_mark g.map k })
    g

-- the entry at offset i, with its home and the offset of its transaction's first entry, where `last` gives the last closing entries
unfoldable pub taken_in : List ℕ → ℕ → ℕ → ℕ → Word → Word
taken_in last home first i g = offered (home % 64) (from i (get_or last first 0)) (i + 1) g

-- what stands at offset i
unfoldable pub take : List ℕ → ℕ → ℕ → Tag → Word → Word
take last base i Nothing g = g
take last base i (Entry h f) g = taken_in last h (f - base) i g
take last base i (Closing h f link count) g = taken_in last h (f - base) i g

-- whether the transactions of all closing entries below `end` touch a home
abbrev pub touches : List ℕ → ℕ → ℕ → ℕ → ℕ → ℕ → Bool
touches log groups homes start end h = found (newest (entry_at log groups homes start) h (closed_below log groups homes start end))

-- the homes of a word that a test marks, rising
abbrev pub word_homes : (ℕ → Bool) → ℕ → List ℕ
word_homes f w = raised (64 * w) (marked (λ k. f (64 * w + k)) 64)

-- the table and the bits hold the newest entries of the homes of word w
pub record Newest (log : List ℕ) (groups homes start end w : ℕ) (table : List ℕ) (bits : ℕ) : Type 0 where
  pub each : length table ≡ 64
  pub entry : (k : ℕ) → k < 64
      → get_or table k 0 ≡ offset_code (7 * start) (newest (entry_at log groups homes start) (64 * w + k) (closed_below log groups homes start end))
  pub most : (k : ℕ) → k < 64 → get_or table k 0 ≤ 7 * groups
  pub there : (k : ℕ) → k < 64 → bit bits k ≡ touches log groups homes start end (64 * w + k)
