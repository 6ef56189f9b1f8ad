-- What has been logged since an opening, position by position: the ghost history that the proofs carry. Nobody has to believe it.
use Prim.Native.Nat.{ℕ, suc, ◌+◌, ◌≤◌, ◌<◌}
use mathlib.Core.Path.{◌≡◌}
use mathlib.Core.Logic.{◌⊎◌}
use mathlib.Core.Bool.{Bool, true, false, cond, ◌&&◌}
use mathlib.Core.List.{List, [], ◌∷◌, ◌++◌}
use mathlib.Core.Option.{Option, none, some}
use lib.Dec.{eqb, leb}
use lib.ListN.{length}
use Rattle.model.specs.Tag.{says}
use Rattle.model.specs.declared.Tag.{Tag}
use Rattle.model.specs.declared.Tag.TheVariants.{Nothing, Entry, Closing}

-- What stands at a position: nothing (a flush passed it over), or an entry of a writer. `fresh`: it is its transaction's first; `final`: it closes
-- its transaction; `link`: the distance that its tag then carries.
pub record Ev : Type 0 where
  pub used : Bool
  pub writer : ℕ
  pub home : ℕ
  pub block : List ℕ
  pub fresh : Bool
  pub final : Bool
  pub link : ℕ

-- A trace has the newest event first. With `base` the position of the oldest, the event at its head stands at base + length of the rest.

-- the positions of each writer's last transaction that has not committed, newest first; those of the committed ones, in commit order
pub record Hist : Type 0 where
  pub open_transaction : ℕ → List ℕ
  pub done : List (List ℕ)

-- the transaction's positions so far, where its next entry is e
unfoldable pub mine : Hist → Ev → List ℕ
mine h e = cond e.fresh [] (h.open_transaction e.writer)

unfoldable pub set_open : (ℕ → List ℕ) → ℕ → List ℕ → ℕ → List ℕ
set_open o w ps x = cond (eqb w x) ps (o x)

unfoldable pub advance : ℕ → Ev → Hist → Bool → Bool → Hist
advance p e h false final = h
advance p e h true true = record { open_transaction = set_open h.open_transaction e.writer []; done = h.done ++ ((p ∷ mine h e) ∷ []) }
advance p e h true false = record { open_transaction = set_open h.open_transaction e.writer (p ∷ mine h e); done = h.done }

unfoldable pub hist : ℕ → List Ev → Hist
hist base [] = record { open_transaction = λ w. []; done = [] }
hist base (e ∷ tr) = advance (base + length tr) e (hist base tr) e.used e.final

-- the position of a transaction's first entry, where its next is at p
unfoldable pub first_of : ℕ → List ℕ → ℕ
first_of p [] = p
first_of p (q ∷ qs) = first_of q qs

-- the tag of event e at position p, after the entries ps of its transaction
unfoldable pub tag_of : ℕ → Ev → List ℕ → Bool → Bool → Tag
tag_of p e ps false final = Nothing
tag_of p e ps true true = Closing e.home (first_of p ps) e.link (suc (length ps))
tag_of p e ps true false = Entry e.home (first_of p ps)

-- the tag logged at a position
unfoldable pub tag_at : ℕ → List Ev → ℕ → Tag
tag_at base [] p = Nothing
tag_at base (e ∷ tr) p =
    cond (eqb p (base + length tr)) (tag_of (base + length tr) e (mine (hist base tr) e) e.used e.final) (tag_at base tr p)

-- the home and the block logged at a position
unfoldable pub home_on : ℕ → List Ev → ℕ → ℕ
home_on base [] p = 0
home_on base (e ∷ tr) p = cond (eqb p (base + length tr)) e.home (home_on base tr p)

unfoldable pub block_on : ℕ → List Ev → ℕ → List ℕ
block_on base [] p = []
block_on base (e ∷ tr) p = cond (eqb p (base + length tr)) e.block (block_on base tr p)

-- the first position that a tag names, and the link that a closing one carries
unfoldable pub first_in : Tag → ℕ
first_in Nothing = 0
first_in (Entry h f) = f
first_in (Closing h f l c) = f

unfoldable pub link_in : Tag → ℕ
link_in Nothing = 0
link_in (Entry h f) = 0
link_in (Closing h f l c) = l

-- what is left of a log: the entries that persisted, and of those the ones whose transaction does not begin before position c
unfoldable pub surviving : (ℕ → Bool) → ℕ → (ℕ → Tag) → ℕ → Tag
surviving landed c log p = says (landed p && leb c (first_in (log p))) (log p)

-- a committed transaction is named by its closing entry, the newest of its positions; the transactions that close at or above c
unfoldable pub closer_of : List ℕ → ℕ
closer_of [] = 0
closer_of (p ∷ ps) = p

unfoldable pub oldest_of : List ℕ → ℕ
oldest_of [] = 0
oldest_of (p ∷ ps) = first_of p ps

unfoldable pub closing_from : ℕ → List (List ℕ) → List (List ℕ)
closing_from c [] = []
closing_from c (t ∷ ts) = cond (leb c (closer_of t)) (t ∷ closing_from c ts) (closing_from c ts)

-- the longest prefix of transactions all of whose entries persisted
unfoldable pub all_landed : (ℕ → Bool) → List ℕ → Bool
all_landed landed [] = true
all_landed landed (p ∷ ps) = landed p && all_landed landed ps

unfoldable pub whole : (ℕ → Bool) → List (List ℕ) → List (List ℕ)
whole landed [] = []
whole landed (t ∷ ts) = cond (all_landed landed t) (t ∷ whole landed ts) []

-- no transaction lies on both sides of c
abbrev pub Apart : ℕ → List (List ℕ) → Type 0
Apart c [] = Unit {0}
Apart c (t ∷ ts) = ((closer_of t < c) ⊎ (c ≤ oldest_of t)) × Apart c ts

-- Links, for a log that starts at c: each closing entry at or above c is linked to the one before it, or, where that one lies below c or there is
-- none, to none or to a position before c. `prev` is the closing entry before the list.
abbrev pub LinkOk : ℕ → Option ℕ → ℕ → ℕ → Type 0
LinkOk c none p link = (link ≡ 0) ⊎ (p < c + link)
LinkOk c (some q) p link = (c ≤ q → p ≡ q + link) × (q < c → (link ≡ 0) ⊎ (p < c + link))

abbrev pub Linked : ℕ → (ℕ → Tag) → Option ℕ → List (List ℕ) → Type 0
Linked c log prev [] = Unit {0}
Linked c log prev (t ∷ ts) = (c ≤ closer_of t → LinkOk c prev (closer_of t) (link_in (log (closer_of t)))) × Linked c log (some (closer_of t)) ts

-- links of the closing entries that persisted, for a log that starts at c
abbrev pub LinkedIf : (ℕ → Bool) → ℕ → (ℕ → Tag) → Option ℕ → List (List ℕ) → Type 0
LinkedIf landed c log prev [] = Unit {0}
LinkedIf landed c log prev (t ∷ ts) =
    (landed (closer_of t) ≡ true → c ≤ closer_of t → LinkOk c prev (closer_of t) (link_in (log (closer_of t))))
    × LinkedIf landed c log (some (closer_of t)) ts
