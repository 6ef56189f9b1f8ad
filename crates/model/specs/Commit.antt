-- The commit rule, over what stands at each position. `log p` is the tag at position p; `base` is the position where the log starts.
use Rattle.std.specs.Prelude.{ℕ, zero, suc, ◌+◌, ◌-◌, Bool, true, false, cond, ◌&&◌, ◌||◌, List, [], ◌∷◌, ◌++◌, eqb, leb, ltb, length}
use Rattle.std.proofs.Math.Option.{Option, none, some}
use Rattle.model.specs.Tag.{belongs, home_of}
use Rattle.model.specs.declared.Tag.{Tag}
use Rattle.model.specs.declared.Tag.TheVariants.{Nothing, Entry, Closing}

unfoldable pub add_if : Bool → ℕ → List ℕ → List ℕ
add_if true p ps = p ∷ ps
add_if false p ps = ps

-- the entries of the transaction with first position f among the n positions from base on, newest first; none lies below f
unfoldable pub members : (ℕ → Tag) → ℕ → ℕ → ℕ → List ℕ
members log f base zero = []
members log f base (suc n) = add_if (leb f (base + n) && belongs f (log (base + n))) (base + n) (members log f base n)

-- "A closing entry is complete if, among positions from its first entry to itself, the entries with that same first position number exactly
-- its count." The closing entry stands at position base + n. [S-17]
unfoldable pub complete : (ℕ → Tag) → ℕ → ℕ → ℕ → ℕ → Bool
complete log base n f count = eqb (length (members log f base (suc n))) count

-- "The lowest is committed if complete and linked to none or to a position before the start. Each next one is committed if complete and linked
-- to the one just committed."
unfoldable pub linked : ℕ → Option ℕ → ℕ → ℕ → Bool
linked base none position link = eqb link 0 || ltb position (base + link)
linked base (some last) position link = eqb position (last + link)

-- a committed transaction: its first position, and that of its closing entry
pub record Span : Type 0 where
  pub first : ℕ
  pub closing : ℕ

-- the walk so far: the committed transactions by rising closing entry, the last closing entry taken, and whether none has failed yet
pub record Walk : Type 0 where
  pub spans : List Span
  pub last : Option ℕ
  pub going : Bool

unfoldable pub started : Walk
started = record { spans = []; last = none; going = true }

-- "The first that fails ends the walk."
unfoldable pub decided_closing : Bool → Span → Walk → Walk
decided_closing true s w = record { spans = w.spans ++ (s ∷ []); last = some s.closing; going = true }
decided_closing false s w = record { spans = w.spans; last = w.last; going = false }

-- what stands at position base + n is taken into the walk
unfoldable pub visit : (ℕ → Tag) → ℕ → ℕ → Tag → Walk → Walk
visit log base n Nothing w = w
visit log base n (Entry h f) w = w
visit log base n (Closing h f link count) w =
    decided_closing (w.going && linked base w.last (base + n) link && complete log base n f count) (record { first = f; closing = base + n }) w

-- "Take present closing entries by rising position." The walk over the n positions from base on. [S-18]
unfoldable pub walk : (ℕ → Tag) → ℕ → ℕ → Walk
walk log base zero = started
walk log base (suc n) = visit log base n (log (base + n)) (walk log base n)

-- "Commit order is the order of closing entries": the committed transactions in that order
unfoldable pub committed : (ℕ → Tag) → ℕ → ℕ → List Span
committed log base n = (walk log base n).spans

-- the positions of a transaction's entries, newest first
unfoldable pub entries : (ℕ → Tag) → ℕ → Span → List ℕ
entries log base s = members log s.first base (suc s.closing - base)

unfoldable pub each_entries : (ℕ → Tag) → ℕ → List Span → List (List ℕ)
each_entries log base [] = []
each_entries log base (s ∷ ss) = entries log base s ∷ each_entries log base ss

-- the committed transactions among the n positions from base on, in commit order, each as its entries' positions
unfoldable pub transactions : (ℕ → Tag) → ℕ → ℕ → List (List ℕ)
transactions log base n = each_entries log base (committed log base n)

-- replay in commit order; "within a transaction the later position wins". `put p m` writes what stands at position p into m.
unfoldable pub write_all : {M : Type 0} → (ℕ → M → M) → List ℕ → M → M
write_all put [] m = m
write_all put (p ∷ ps) m = put p (write_all put ps m)

unfoldable pub replay : {M : Type 0} → (ℕ → M → M) → List (List ℕ) → M → M
replay put [] m = m
replay put (t ∷ ts) m = replay put ts (write_all put t m)

-- the newest of some positions (newest first) whose entry is for a home, or none
unfoldable pub newest_in : (ℕ → Tag) → ℕ → List ℕ → Option ℕ
newest_in log home [] = none
newest_in log home (p ∷ ps) = cond (eqb (home_of (log p)) home) (some p) (newest_in log home ps)

unfoldable pub or_else : Option ℕ → Option ℕ → Option ℕ
or_else (some p) o = some p
or_else none o = o

-- "newest committed by commit order": that of the last transaction that has one [S-19]
unfoldable pub newest : (ℕ → Tag) → ℕ → List (List ℕ) → Option ℕ
newest log home [] = none
newest log home (t ∷ ts) = or_else (newest log home ts) (newest_in log home t)

unfoldable pub found : Option ℕ → Bool
found none = false
found (some p) = true
