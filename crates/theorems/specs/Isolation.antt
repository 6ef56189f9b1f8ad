-- Rights keep what a writer may not read from it.
-- "Two histories under demand 3's premises, without a cut, that begin under a committed list, alike but for bytes (stored before or during them) in
-- homes that a writer may at no time in them read, with the same calls of the store itself, homes and lists, give that writer the same answers and
-- blocks. Train bytes and opening belong to the driver and are left out of this."
use Rattle.std.specs.Prelude.{ℕ, ◌≡◌, Bool, true, false, List, [], ◌∷◌, ◌++◌, length}
use Rattle.std.proofs.Math.Option.{none, some}
use Rattle.model.specs.Rights.{may_read}
use Rattle.model.specs.Book.{Entry, Commit, Held, Task, idle, opened}
use Rattle.model.specs.History.{Call, store, read, Event, call, World, Formatting, after_format, ends, step, after, AllAllowed}
use Rattle.abstract_store.specs.Store.{Store, new_store, list_of, reply_of, follow}
use Rattle.model.specs.History.{calls}

-- two lists of one length, element by element
pub data Each {A : Type 0} (Alike : A → A → Type 0) : List A → List A → Type 0 where
  both : Each Alike [] []
  more : {a b : A} {xs ys : List A} → Alike a b → Each Alike xs ys → Each Alike (a ∷ xs) (b ∷ ys)

-- Alike but for bytes in hidden homes

module _ (hidden : ℕ → Bool) where
  pub record EntryAlike (a b : Entry) : Type 0 where
    pub home : a.home ≡ b.home
    pub landing : a.landing ≡ b.landing
    pub block : hidden a.home ≡ false → a.block ≡ b.block

  pub record CommitAlike (a b : Commit) : Type 0 where
    pub entries : Each EntryAlike a.entries b.entries
    pub ticket : a.ticket ≡ b.ticket
    pub owed : a.owed ≡ b.owed

  pub record HeldAlike (a b : Held) : Type 0 where
    pub home : a.home ≡ b.home
    pub block : hidden a.home ≡ false → a.block ≡ b.block

  pub data TaskAlike : Task → Task → Type 0 where
    idles : TaskAlike idle idle
    empties : {xs ys : List Entry} → Each EntryAlike xs ys → TaskAlike (opened xs none) (opened ys none)
    holds : {xs ys : List Entry} {a b : Held} → Each EntryAlike xs ys → HeldAlike a b → TaskAlike (opened xs (some a)) (opened ys (some b))

  -- what the calls so far have come to (Store.antt), with all numbers the same
  pub record StoreAlike (s t : Store) : Type 0 where
    pub groups : s.groups ≡ t.groups
    pub homes : s.homes ≡ t.homes
    pub head : s.head ≡ t.head
    pub start : s.start ≡ t.start
    pub settled : s.settled ≡ t.settled
    pub fenced : s.fenced ≡ t.fenced
    pub durable : s.durable ≡ t.durable
    pub last : s.last ≡ t.last
    pub promises : (w : ℕ) → s.promises w ≡ t.promises w
    pub round : s.round ≡ t.round
    pub cursor : s.cursor ≡ t.cursor
    pub rows : s.book.rows ≡ t.book.rows
    pub filled : s.book.filled ≡ t.book.filled
    pub commits : Each CommitAlike s.book.commits t.book.commits
    pub tasks : (w : ℕ) → TaskAlike (s.book.tasks w) (t.book.tasks w)

  -- the same call, or stores of two blocks for a hidden home
  pub data CallAlike : Call → Call → Type 0 where
    equal : {c : Call} → CallAlike c c
    stored : {writer home : ℕ} {a b batch : List ℕ} → hidden home ≡ true → length a ≡ length b → CallAlike (store writer home a batch) (store writer home b batch)

-- the abstract store after events [S-61]
unfoldable pub followed : Store → World → List Event → Store
followed s w [] = s
followed s w (e ∷ es) = followed (follow s w e) (step w e) es

-- "that a writer may at no time in them read": by the list committed at each moment, that after the last call included [S-61]
abbrev pub Denied : ℕ → (ℕ → Bool) → Store → Type 0
Denied writer hidden s = (home : ℕ) → hidden home ≡ true → may_read s.homes (list_of s) writer home ≡ false

abbrev pub DeniedThroughout : ℕ → (ℕ → Bool) → Store → World → List Event → Type 0
DeniedThroughout writer hidden s w [] = Denied writer hidden s
DeniedThroughout writer hidden s w (e ∷ es) = Denied writer hidden s × DeniedThroughout writer hidden (follow s w e) (step w e) es

-- every call is answered the same, whoever makes it, and the writer's reads give the same blocks
abbrev pub ToldSame : ℕ → World → World → Call → Call → Type 0
ToldSame writer w v c d =
    (reply_of (ends w c) ≡ reply_of (ends v d))
    × ((home : ℕ) (block : List ℕ) → c ≡ read writer home block → (ends w c).block ≡ (ends v d).block)

abbrev pub ToldSameThroughout : ℕ → World → World → List Call → List Call → Type 0
ToldSameThroughout writer w v [] ds = Unit {0}
ToldSameThroughout writer w v (c ∷ cs) [] = Unit {0}
ToldSameThroughout writer w v (c ∷ cs) (d ∷ ds) =
    ToldSame writer w v c d × ToldSameThroughout writer (step w (call c)) (step v (call d)) cs ds

-- What comes before the two histories is any history each, cuts included, that leaves stores alike. No list need be asked for beside: while none is
-- committed, all may read every home, and nothing can be hidden. [S-61]
abbrev pub Isolation : Type 0
Isolation =
    (groups homes : ℕ) (f g : Formatting groups homes) (before other : List Event) (cs ds : List Call) (writer : ℕ) (hidden : ℕ → Bool) →
    AllAllowed (after_format f) (before ++ calls cs) → AllAllowed (after_format g) (other ++ calls ds) →
    (after (after_format f) before).ready ≡ true → (after (after_format g) other).ready ≡ true →
    let s : Store = followed (new_store groups homes) (after_format f) before in
    let t : Store = followed (new_store groups homes) (after_format g) other in
    StoreAlike hidden s t → Each (CallAlike hidden) cs ds → DeniedThroughout writer hidden s (after (after_format f) before) (calls cs) →
    ToldSameThroughout writer (after (after_format f) before) (after (after_format g) other) cs ds
