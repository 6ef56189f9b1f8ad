-- One pass over the log from its start on, which notes the last closing entry of each transaction and chains the entries of each word of 64 homes.
-- Offsets count positions from the log's start; what may be missing is 0 for none, else one past its offset.
use Rattle.std.specs.Prelude.{ℕ, zero, suc, ◌+◌, ◌-◌, ◌*◌, ◌/◌, ◌≤◌, ◌<◌, ◌≡◌, Bool, true, false, cond, List, eqb, length, get_or, set, replicate}
use Rattle.model.specs.Layout.{entry_at}
use Rattle.model.specs.declared.Tag.{Tag}
use Rattle.model.specs.declared.Tag.TheVariants.{Nothing, Entry, Closing}
use Rattle.log_gather.specs.Closers.{closer}

-- the most positions, words of homes and homes that there are
abbrev pub max_entries : ℕ
max_entries = 7168

abbrev pub max_words : ℕ
max_words = 1024

abbrev pub max_homes : ℕ
max_homes = 65535

-- the state of the pass: for each first position the last closing entry of its transaction; for each word of homes the last entry for one of them,
-- and for each entry the one before it for the same word
pub record Chains : Type 0 where
  pub last : List ℕ
  pub heads : List ℕ
  pub links : List ℕ

-- empty tables for `size` positions
unfoldable pub fresh : ℕ → Chains
fresh size = record { last = replicate size 0; heads = replicate max_words 0; links = replicate size 0 }

-- the entry at an offset goes first into its word's chain
unfoldable pub chained : ℕ → ℕ → Chains → Chains
chained home i g =
    record { last = g.last; heads = set g.heads (home / 64) (i + 1); links = set g.links i (get_or g.heads (home / 64) 0) }

-- what stands at a position is taken into the pass
unfoldable pub note : ℕ → ℕ → Tag → Chains → Chains
note base position Nothing g = g
note base position (Entry h f) g = chained h (position - base) g
note base position (Closing h f link count) g =
    chained h (position - base) (record { last = set g.last (f - base) (position - base + 1); heads = g.heads; links = g.links })

-- tables with room for `size` positions and all words of homes
pub record Roomy (homes size : ℕ) (last heads links : List ℕ) : Type 0 where
  pub few : homes ≤ max_homes
  pub lasts : length last ≡ size
  pub words : length heads ≡ max_words
  pub each : length links ≡ size

-- empty tables with room for the positions of a log
pub record Empty (groups : ℕ) (last heads links : List ℕ) : Type 0 where
  pub long : 7 * groups ≤ length last
  pub lasts : last ≡ replicate (length last) 0
  pub words : heads ≡ replicate max_words 0
  pub each : links ≡ replicate (length last) 0

-- whether an entry is for a home of a word
unfoldable pub in_word : ℕ → Tag → Bool
in_word w Nothing = false
in_word w (Entry h f) = eqb (h / 64) w
in_word w (Closing h f link count) = eqb (h / 64) w

-- the last of the first n entries that is for a word
unfoldable pub top : (ℕ → Tag) → ℕ → ℕ → ℕ → ℕ
top tags base w zero = 0
top tags base w (suc n) = cond (in_word w (tags (base + n))) (n + 1) (top tags base w n)

-- what the pass holds in tables for `size` positions once it has taken n of them
pub record Holds (size : ℕ) (tags : ℕ → Tag) (base n : ℕ) (g : Chains) : Type 0 where
  pub closing : (f : ℕ) → base ≤ f → f < base + size → get_or g.last (f - base) 0 ≡ closer tags base n f
  pub head : (w : ℕ) → w < max_words → get_or g.heads w 0 ≡ top tags base w n
  pub link : (i : ℕ) → i < n → (w : ℕ) → in_word w (tags (base + i)) ≡ true → get_or g.links i 0 ≡ top tags base w i

-- the tables hold the last closing entries below `end`, and the chains of all entries below a bound that is not before it
pub record Chained (log : List ℕ) (groups homes start end : ℕ) (last heads links : List ℕ) : Type 0 where
  pub room : Roomy homes (length last) last heads links
  pub long : 7 * groups ≤ length last
  pub reach : ℕ
  pub covers : end - 7 * start ≤ reach
  pub inside : reach ≤ 7 * groups
  pub closing : (f : ℕ) → 7 * start ≤ f → f < 7 * start + length last
      → get_or last (f - 7 * start) 0 ≡ closer (entry_at log groups homes start) (7 * start) (end - 7 * start) f
  pub head : (w : ℕ) → w < max_words → get_or heads w 0 ≡ top (entry_at log groups homes start) (7 * start) w reach
  pub link : (i : ℕ) → i < reach → (w : ℕ) → in_word w (entry_at log groups homes start (7 * start + i)) ≡ true
      → get_or links i 0 ≡ top (entry_at log groups homes start) (7 * start) w i
