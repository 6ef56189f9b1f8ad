-- Histories with calls on several homes, and what the homes of a unit hold: those that only transact on all of them stores.
-- "A done set or event is, in the book, its begin, stores and commit"; "Nobody else stores there" is a premise.
use Rattle.std.specs.Prelude.{ℕ, zero, suc, ◌+◌, ◌*◌, ◌/◌, ◌≤◌, ◌≡◌, ◌⊎◌, true, cond, List, [], ◌∷◌, ◌++◌, eqb, length, take}
use Rattle.model.specs.Bytes.{part, zeros}
use Rattle.model.specs.Batch.{read_batch}
use Rattle.model.specs.Calls.{Outcome}
use Rattle.acts.specs.Many.{fetch_call, revise_call, transact_call}
use Rattle.model.specs.Book as book
use Rattle.model.specs.Book.{Book, homes_after, read_by}
use Rattle.model.specs.History.{Change, begins, reserves, aborts, stores, commits, flushes, Call, opening, confirm, change, service, begin, store, commit, Event, call, crash, World, Formatting, after_format, lent, step, after, Allowed, AllAllowed}

-- Acts

-- an event of demand 3's list, or a call on several homes with what the caller chooses
pub data Act : Type 0 where
  plain : Event → Act
  transacts : (writer home : ℕ) (blocks batch : List ℕ) → Act
  fetches : (writer home : ℕ) (blocks : List ℕ) → Act
  revises : (writer home : ℕ) (blocks : List ℕ) → Act

unfoldable pub transact_ends : World → ℕ → ℕ → List ℕ → List ℕ → Outcome
transact_ends w writer home blocks batch = transact_call (lent w blocks batch writer home)

unfoldable pub fetch_ends : World → ℕ → ℕ → List ℕ → Outcome
fetch_ends w writer home blocks = fetch_call (lent w blocks [] writer home)

unfoldable pub revise_ends : World → ℕ → ℕ → List ℕ → Outcome
revise_ends w writer home blocks = revise_call (lent w blocks [] writer home)

-- what the book is fed by a done transact: begin, the first n stores by rising home, commit
unfoldable pub feed_stores : Book → ℕ → ℕ → List ℕ → ℕ → Book
feed_stores b writer home blocks zero = book.begin b writer
feed_stores b writer home blocks (suc n) = book.store (feed_stores b writer home blocks n) writer (home + n) (part blocks (64 * n) 64)

unfoldable pub feed_transact : Book → ℕ → ℕ → List ℕ → ℕ → Book
feed_transact b writer home blocks figure = book.commit (feed_stores b writer home blocks (length blocks / 64)) writer figure

-- the world as such a call left it, with a book
unfoldable pub left_under : World → Outcome → Book → World
left_under w o b =
    record {
      homes = w.homes;
      state = o.state;
      newest = o.newest;
      log = o.log;
      area = o.area;
      memory = w.memory;
      pending = w.pending ++ read_batch (take o.size o.batch);
      passed = w.passed;
      ready = w.ready;
      book = b;
    }

-- a refused call, and one that reads only, does not feed the book
unfoldable pub act : World → Act → World
act w (plain e) = step w e
act w (transacts writer home blocks batch) =
    let o : Outcome = transact_ends w writer home blocks batch in
    left_under w o (cond (eqb o.code 0) (feed_transact w.book writer home blocks o.figure) w.book)
act w (fetches writer home blocks) = left_under w (fetch_ends w writer home blocks) w.book
act w (revises writer home blocks) = left_under w (revise_ends w writer home blocks) w.book

unfoldable pub acted : World → List Act → World
acted w [] = w
acted w (a ∷ more) = acted (act w a) more

-- The premises are demand 3's: a call on several homes is no opening.
abbrev pub ActAllowed : World → Act → Type 0
ActAllowed w (plain e) = Allowed w e
ActAllowed w (transacts writer home blocks batch) = w.ready ≡ true
ActAllowed w (fetches writer home blocks) = w.ready ≡ true
ActAllowed w (revises writer home blocks) = w.ready ≡ true

abbrev pub AllActsAllowed : World → List Act → Type 0
AllActsAllowed w [] = Unit {0}
AllActsAllowed w (a ∷ more) = ActAllowed w a × AllActsAllowed (act w a) more

-- The events that an act stands for: a done transact's begin, stores and commit, none for a refused call or one that reads only. Each is lent a batch
-- with room for a group.
unfoldable pub roomy : List ℕ
roomy = zeros 516

unfoldable pub stores_from : ℕ → ℕ → List ℕ → ℕ → List Event
stores_from writer home blocks zero = call (begin writer) ∷ []
stores_from writer home blocks (suc n) =
    stores_from writer home blocks n ++ (call (store writer (home + n) (part blocks (64 * n) 64) roomy) ∷ [])

unfoldable pub chain : ℕ → ℕ → List ℕ → List Event
chain writer home blocks = stores_from writer home blocks (length blocks / 64) ++ (call (commit writer roomy) ∷ [])

unfoldable pub expand : World → Act → List Event
expand w (plain e) = e ∷ []
expand w (transacts writer home blocks batch) = cond (eqb (transact_ends w writer home blocks batch).code 0) (chain writer home blocks) []
expand w (fetches writer home blocks) = []
expand w (revises writer home blocks) = []

unfoldable pub expand_all : World → List Act → List Event
expand_all w [] = []
expand_all w (a ∷ more) = expand w a ++ expand_all (act w a) more

-- A history of acts leaves the world that the events it stands for leave, and these meet the premises: what holds of every history of events holds of
-- them. [S-62]
abbrev pub ActsExpand : Type 0
ActsExpand =
    (groups homes : ℕ) (f : Formatting groups homes) (acts : List Act) → AllActsAllowed (after_format f) acts →
    AllAllowed (after_format f) (expand_all (after_format f) acts) × (after (after_format f) (expand_all (after_format f) acts) ≡ acted (after_format f) acts)

-- "For whom it reads": its own held or logged block, else the newest committed one, home by home
unfoldable pub reads_from : ℕ → Book → ℕ → ℕ → ℕ → List ℕ
reads_from homes b writer home zero = []
reads_from homes b writer home (suc n) = reads_from homes b writer home n ++ read_by homes b writer (home + n)

pub record ReadTogether (w : World) (writer home : ℕ) (blocks : List ℕ) : Type 0 where
  pub fetched :
      (fetch_ends w writer home blocks).code ≡ 0 → (fetch_ends w writer home blocks).block ≡ reads_from w.homes w.book writer home (length blocks / 64)
  pub revised :
      (revise_ends w writer home blocks).code ≡ 0 → (revise_ends w writer home blocks).block ≡ reads_from w.homes w.book writer home (length blocks / 64)

abbrev pub ActsRead : Type 0
ActsRead =
    (groups homes : ℕ) (f : Formatting groups homes) (acts : List Act) → AllActsAllowed (after_format f) acts →
    (acted (after_format f) acts).ready ≡ true → (writer home : ℕ) (blocks : List ℕ) → ReadTogether (acted (after_format f) acts) writer home blocks

-- Labels: "its commit carries the event as a label". Beside the book's list of commits a list of what each was: the commit that an act adds gets the
-- act's label, and a crash leaves as many labels as commits.
unfoldable pub relabel : {A : Type 0} → World → List A → A → List A
relabel w labels label = take (length w.book.commits) (labels ++ (label ∷ []))

pub data Label : Type 0 where
  other : Label
  unit : (home : ℕ) (blocks : List ℕ) → Label

unfoldable pub label_of : Act → Label
label_of (plain e) = other
label_of (transacts writer home blocks batch) = unit home blocks
label_of (fetches writer home blocks) = other
label_of (revises writer home blocks) = other

unfoldable pub labels_from : World → List Label → List Act → List Label
labels_from w labels [] = labels
labels_from w labels (a ∷ more) = labels_from (act w a) (relabel (act w a) labels (label_of a)) more

unfoldable pub labels : World → List Act → List Label
labels w acts = labels_from w [] acts

-- the blocks of the last unit at a home, or others where there is none [S-63]
unfoldable pub last_unit : ℕ → List ℕ → List Label → List ℕ
last_unit home blocks [] = blocks
last_unit home blocks (other ∷ ls) = last_unit home blocks ls
last_unit home blocks (unit h bs ∷ ls) = last_unit home (cond (eqb h home) bs blocks) ls

-- The premise on n homes from `home` on: no plain store names one of them, and a transact stores to all of them or to none.
abbrev pub Apart : ℕ → ℕ → ℕ → ℕ → Type 0
Apart home n h m = (h + m ≤ home) ⊎ (home + n ≤ h)

abbrev pub SparedByChange : ℕ → ℕ → Change → Type 0
SparedByChange home n (begins writer) = Unit {0}
SparedByChange home n (reserves writer places) = Unit {0}
SparedByChange home n (aborts writer) = Unit {0}
SparedByChange home n (stores writer h block batch) = Apart home n h 1
SparedByChange home n (commits writer batch) = Unit {0}
SparedByChange home n (flushes batch) = Unit {0}

abbrev pub SparedByCall : ℕ → ℕ → Call → Type 0
SparedByCall home n (opening state newest batch) = Unit {0}
SparedByCall home n confirm = Unit {0}
SparedByCall home n (change c) = SparedByChange home n c
SparedByCall home n (service c) = Unit {0}

abbrev pub SparedByEvent : ℕ → ℕ → Event → Type 0
SparedByEvent home n (call c) = SparedByCall home n c
SparedByEvent home n (crash passed chosen) = Unit {0}

abbrev pub Spared : ℕ → ℕ → Act → Type 0
Spared home n (plain e) = SparedByEvent home n e
Spared home n (transacts writer h blocks batch) = ((h ≡ home) × (length blocks ≡ 64 * n)) ⊎ Apart home n h (length blocks / 64)
Spared home n (fetches writer h blocks) = Unit {0}
Spared home n (revises writer h blocks) = Unit {0}

abbrev pub Reserved : ℕ → ℕ → List Act → Type 0
Reserved home n [] = Unit {0}
Reserved home n (a ∷ more) = Spared home n a × Reserved home n more

-- What the unit of n homes from `home` on holds: "for EVERY prefix of L the homes after it encode what its labels say", and a done fetch or revise
-- gives what the last label of the whole list says; a fetch of some of its homes gives their part of it.
pub record UnitKept (home n : ℕ) (w : World) (ls : List Label) : Type 0 where
  pub many : length ls ≡ length w.book.commits
  pub held : (k : ℕ) → part (homes_after w.homes (take k w.book.commits)) (64 * home) (64 * n) ≡ last_unit home (zeros (64 * n)) (take k ls)
  pub fetched :
      (writer : ℕ) (blocks : List ℕ) →
      w.ready ≡ true →
      length blocks ≡ 64 * n →
      (fetch_ends w writer home blocks).code ≡ 0 →
      (fetch_ends w writer home blocks).block ≡ last_unit home (zeros (64 * n)) ls
  pub partly :
      (writer first m : ℕ) (blocks : List ℕ) →
      w.ready ≡ true →
      first + m ≤ n →
      length blocks ≡ 64 * m →
      (fetch_ends w writer (home + first) blocks).code ≡ 0 →
      (fetch_ends w writer (home + first) blocks).block ≡ part (last_unit home (zeros (64 * n)) ls) (64 * first) (64 * m)
  pub revised :
      (writer : ℕ) (blocks : List ℕ) →
      w.ready ≡ true →
      length blocks ≡ 64 * n →
      (revise_ends w writer home blocks).code ≡ 0 →
      (revise_ends w writer home blocks).block ≡ last_unit home (zeros (64 * n)) ls

-- at the end of every history from a done format on, and so at every moment of it [S-63]
abbrev pub UnitsKept : Type 0
UnitsKept =
    (home n groups homes : ℕ) → 1 ≤ n → home + n ≤ homes → (f : Formatting groups homes) (acts : List Act) →
    AllActsAllowed (after_format f) acts → Reserved home n acts → UnitKept home n (acted (after_format f) acts) (labels (after_format f) acts)
