-- What holds at every moment of a history: the invariants of the proof of demand 3. An era begins with a done opening; b is the group at which that
-- opening let the log start, tr the trace of what has been logged since, old the commits of the book that the opening brought back.
use Prim.Native.Nat.{ℕ, suc, ◌+◌, ◌-◌, ◌*◌, ◌/◌, ◌%◌, ◌^◌, ◌≤◌, ◌<◌}
use mathlib.Core.Path.{◌≡◌}
use mathlib.Core.Logic.{◌⊎◌}
use mathlib.Core.Bool.{Bool, true, false, cond, ◌&&◌, ◌||◌}
use mathlib.Core.List.{List, [], ◌∷◌, ◌++◌}
use mathlib.Core.Option.{none, some}
use lib.Dec.{eqb, ltb}
use lib.ListN.{length, drop}
use Rattle.model.specs.Bytes.{part, same}
use Rattle.model.specs.Tag.{entry_word, closing_word, with_displaced}
use Rattle.model.specs.Layout.{group_mark, group_at, group_number, group_tag, group_block, turn_of, top_bit, with_top_bit, header_right, header_start, entry_at, home_at}
use Rattle.model.specs.Commit.{transactions}
use Rattle.model.specs.Batch.{Record, FN}
use Rattle.model.specs.State.{state_of, next_position, writer_of, held_of}
use Rattle.model.specs.declared.Writer.{Writer}
use Rattle.model.specs.Effects.{replayed, home_writes}
use Rattle.model.specs.Crash.{Memory, fences, persist, fates}
use Rattle.model.specs.Book.{row, persisted, Entry, Commit, Task, idle, opened, fate_at, run, homes_after}
use Rattle.model.specs.DemandTwo.{closed_below, SettledHomes, group_writes}
use Rattle.model.specs.History.{World}
use Rattle.model_laws.proofs.state.OrderLaws.{InOrder}
use Rattle.model_laws.proofs.trace.CrashLaws.{write_records, submits}
use Rattle.model_laws.proofs.trace.HomeLaws.{In}
use Rattle.model_laws.proofs.trace.MixLaws.{Mixed, group_part, home_part}
use Rattle.model_laws.proofs.trace.Trace.{Ev, mine, hist, first_of, tag_at, home_on, block_on, closer_of, oldest_of, Apart, Linked, LinkedIf}

pub record Sizes (G D : ℕ) : Type 0 where
  pub low : 4 ≤ G
  pub high : G ≤ 1024
  pub some-home : 1 ≤ D
  pub homes : D ≤ 65535

-- The trace in bytes

-- the word of an event that is an entry, without the bit that its block's turn bit displaces
unfoldable pub plain_of : ℕ → Ev → List ℕ → Bool → ℕ
plain_of p e ps true = closing_word e.home (p - first_of p ps) e.link (suc (length ps))
plain_of p e ps false = entry_word e.home (p - first_of p ps)

-- the word logged at a position, 0 where nothing is; whether something is
unfoldable pub word_of : ℕ → Ev → List ℕ → Bool → Bool → ℕ
word_of p e ps false final = 0
word_of p e ps true final = with_displaced (plain_of p e ps final) (top_bit e.block)

unfoldable pub word_at : ℕ → List Ev → ℕ → ℕ
word_at base [] p = 0
word_at base (e ∷ tr) p =
    cond (eqb p (base + length tr)) (word_of (base + length tr) e (mine (hist base tr) e) e.used e.final) (word_at base tr p)

unfoldable pub used_at : ℕ → List Ev → ℕ → Bool
used_at base [] p = false
used_at base (e ∷ tr) p = cond (eqb p (base + length tr)) e.used (used_at base tr p)

-- the fields of every tag fit their bits
pub record SoundAt (D p : ℕ) (e : Ev) (ps : List ℕ) : Type 0 where
  pub home : e.home < D
  pub block : length e.block ≡ 64
  pub back : p - first_of p ps < 2 ^ 13
  pub link : e.link < 2 ^ 13
  pub count : suc (length ps) < 2 ^ 13

abbrev pub Sound : ℕ → ℕ → List Ev → Type 0
Sound base D [] = Unit {0}
Sound base D (e ∷ tr) = (e.used ≡ true → SoundAt D (base + length tr) e (mine (hist base tr) e)) × Sound base D tr

-- 512 bytes hold group n as the trace has it; every data block has the group's turn, in use or not
pub record Holds (G base : ℕ) (tr : List Ev) (bytes : List ℕ) (n : ℕ) : Type 0 where
  pub size : length bytes ≡ 512
  pub mark : same (part bytes 0 2) group_mark ≡ true
  pub number : group_number bytes ≡ n
  pub words : (k : ℕ) → k < 7 → group_tag bytes k ≡ word_at base tr (7 * n + k)
  pub turns : (k : ℕ) → k < 7 → top_bit (group_block bytes k) ≡ turn_of G n
  pub blocks : (k : ℕ) → k < 7 → used_at base tr (7 * n + k) ≡ true → group_block bytes k ≡ with_top_bit (block_on base tr (7 * n + k)) (turn_of G n)

-- they hold entry k of it
pub record HoldsAt (G base : ℕ) (tr : List Ev) (bytes : List ℕ) (n k : ℕ) : Type 0 where
  pub mark : same (part bytes 0 2) group_mark ≡ true
  pub number : group_number bytes ≡ n
  pub word : group_tag bytes k ≡ word_at base tr (7 * n + k)
  pub turn : top_bit (group_block bytes k) ≡ turn_of G n
  pub block : used_at base tr (7 * n + k) ≡ true → group_block bytes k ≡ with_top_bit (block_on base tr (7 * n + k)) (turn_of G n)

-- they are not group n
abbrev pub NotGroup : List ℕ → ℕ → Type 0
NotGroup bytes n = (same (part bytes 0 2) group_mark && eqb (group_number bytes) n) ≡ false

-- entry k of group n is not there: they are not that group, or the turn of data block k does not fit
abbrev pub NotAt : ℕ → List ℕ → ℕ → ℕ → Type 0
NotAt G bytes n k = NotGroup bytes n ⊎ (top_bit (group_block bytes k) ≡ turn_of G n → ⊥)

-- the data blocks of a slot have the turn that group n does not have
abbrev pub Turned : ℕ → List ℕ → ℕ → Type 0
Turned G bytes n = (k : ℕ) → k < 7 → top_bit (group_block bytes k) ≡ 1 - turn_of G n

-- every group found in a log has a number below a bound
abbrev pub FoundBelow : List ℕ → ℕ → ℕ → Type 0
FoundBelow log G bound =
    (slot : ℕ) → slot < G → same (part (group_at log slot) 0 2) group_mark ≡ true → group_number (group_at log slot) < bound

-- The book against the trace

-- the book's entry for a position, and a transaction's, oldest first
unfoldable pub entry_for : ℕ → List Ev → ℕ → Entry
entry_for b tr p = record { home = home_on (7 * b) tr p; block = block_on (7 * b) tr p; landing = row (p / 7 - b) (p % 7) }

unfoldable pub entries_for : ℕ → List Ev → List ℕ → List Entry
entries_for b tr [] = []
entries_for b tr (p ∷ ps) = entries_for b tr ps ++ (entry_for b tr p ∷ [])

abbrev pub Matches : ℕ → List Ev → List Commit → List (List ℕ) → Type 0
Matches b tr [] [] = Unit {0}
Matches b tr [] (t ∷ ts) = ⊥
Matches b tr (c ∷ cs) [] = ⊥
Matches b tr (c ∷ cs) (t ∷ ts) = (c.entries ≡ entries_for b tr t) × (c.ticket ≡ closer_of t + 1) × Matches b tr cs ts

-- commits of earlier eras: all entries persisted, tickets ended, homes and blocks in range
abbrev pub OldEntries : ℕ → List Entry → Type 0
OldEntries D [] = Unit {0}
OldEntries D (e ∷ es) = (e.landing ≡ persisted) × (e.home < D) × (length e.block ≡ 64) × OldEntries D es

abbrev pub OldCommits : ℕ → List Commit → Type 0
OldCommits D [] = Unit {0}
OldCommits D (c ∷ cs) = (c.ticket ≡ 0) × OldEntries D c.entries × OldCommits D cs

pub record Commits (D b : ℕ) (tr : List Ev) (old commits : List Commit) : Type 0 where
  pub new : List Commit
  pub split : commits ≡ old ++ new
  pub past : OldCommits D old
  pub matches : Matches b tr new (hist (7 * b) tr).done

-- Memory that a crash may leave

-- opening it gives the homes X
pub record Opens (G D : ℕ) (m : Memory) (X : List ℕ) : Type 0 where
  pub log_size : length m.log ≡ 64 + 512 * G
  pub area_size : length m.area ≡ 64 * D
  pub header : header_right m.log G D ≡ true
  pub start : header_start m.log ≤ 2 ^ 47
  pub numbers : FoundBelow m.log G (header_start m.log + G)
  pub restored :
      replayed m.log G (entry_at m.log G D (header_start m.log))
      (transactions (entry_at m.log G D (header_start m.log)) (7 * header_start m.log) (7 * G))
      m.area
      ≡ X

-- whether a commit with a ticket above c has an entry for a home
unfoldable pub has_home : ℕ → List Entry → Bool
has_home h [] = false
has_home h (e ∷ es) = eqb e.home h || has_home h es

unfoldable pub touches_above : ℕ → ℕ → List Commit → Bool
touches_above c h [] = false
touches_above c h (k ∷ ks) = (ltb c k.ticket && has_home h k.entries) || touches_above c h ks

-- a home of a data area holds what the commits below some position wrote, which lies between two others
abbrev pub HeldHome : ℕ → List Commit → ℕ → ℕ → List ℕ → ℕ → Type 0
HeldHome D commits low high area h =
    (bound : ℕ) × (low ≤ bound) × (bound ≤ high) × (home_at area h ≡ home_at (homes_after D (closed_below bound commits)) h)

-- which positions of the era persisted
unfoldable pub landed_in : ℕ → List (ℕ → Bool) → ℕ → Bool
landed_in b fs p = fate_at fs (p / 7 - b) (p % 7)

-- the header of this era has persisted; fs says which entries have
pub record Late (G D b : ℕ) (tr : List Ev) (commits : List Commit) (m : Memory) (fs : List (ℕ → Bool)) : Type 0 where
  pub log_size : length m.log ≡ 64 + 512 * G
  pub area_size : length m.area ≡ 64 * D
  pub header : header_right m.log G D ≡ true
  pub start : header_start m.log ≤ 2 ^ 47
  pub from : b ≤ header_start m.log
  pub numbers : FoundBelow m.log G (header_start m.log + G)
  pub below : (n k : ℕ) → b ≤ n → n < header_start m.log → fate_at fs (n - b) k ≡ true
  pub inside : (r k : ℕ) → fate_at fs r k ≡ true → 7 * r + 7 ≤ length tr
  pub within : (r k : ℕ) → fate_at fs r k ≡ true → b + r < header_start m.log + G
  pub there :
      (n k : ℕ) →
      header_start m.log ≤ n →
      n < header_start m.log + G →
      k < 7 →
      fate_at fs (n - b) k ≡ true →
      HoldsAt G (7 * b) tr (group_at m.log (n % G)) n k
  pub absent :
      (n k : ℕ) →
      header_start m.log ≤ n →
      n < header_start m.log + G →
      k < 7 →
      fate_at fs (n - b) k ≡ false →
      NotAt G (group_at m.log (n % G)) n k
  pub apart : Apart (7 * header_start m.log) (hist (7 * b) tr).done
  pub links : LinkedIf (landed_in b fs) (7 * header_start m.log) (tag_at (7 * b) tr) none (hist (7 * b) tr).done
  pub homes :
      (h : ℕ) →
      h < D →
      (home_at m.area h ≡ home_at (homes_after D (closed_below (7 * header_start m.log) commits)) h)
      ⊎ (touches_above (7 * header_start m.log) h (run fs commits) ≡ true)

-- the header of this era has not persisted: no group of it has, the log is as the last opening found it, and opening gives what that one gave
pub record Early (G D : ℕ) (was : List ℕ) (old : List Commit) (m : Memory) (fs : List (ℕ → Bool)) : Type 0 where
  pub same : m.log ≡ was
  pub opens : Opens G D m (homes_after D old)
  pub nothing : (r k : ℕ) → fate_at fs r k ≡ false

abbrev pub ImageOk : (G D b : ℕ) → List ℕ → List Ev → List Commit → List Commit → Memory → List (ℕ → Bool) → Type 0
ImageOk G D b was tr old commits m fs = Early G D was old m fs ⊎ Late G D b tr commits m fs

-- What the program holds

-- the last closing entry as the strip has it: none, if there is none at or above the start
unfoldable pub last_closer : List (List ℕ) → ℕ
last_closer [] = 0
last_closer (t ∷ []) = closer_of t + 1
last_closer (t ∷ u ∷ ts) = last_closer (u ∷ ts)

abbrev pub LastOk : ℕ → ℕ → ℕ → Type 0
LastOk start last closer = (last ≡ closer) ⊎ ((last ≡ 0) × (closer ≤ 7 * start))

-- a writer's record, its held block and its logged positions, against the book
abbrev pub TaskOk : ℕ → List Ev → Writer → List ℕ → List ℕ → Task → Type 0
TaskOk b tr r held ps task =
    ((r.mode ≡ 0) × (task ≡ idle))
    ⊎ (((r.mode ≡ 1) × (task ≡ opened [] none))
    ⊎ (((r.mode ≡ 2) × (task ≡ opened [] (some (record { home = r.home; block = held }))))
    ⊎ ((r.mode ≡ 3) × (task ≡ opened (entries_for b tr ps) (some (record { home = r.home; block = held })))
    × (r.first ≡ oldest_of ps) × (r.count ≡ length ps) × (1 ≤ length ps))))

pub record Copies (G D b : ℕ) (tr : List Ev) (w : World) : Type 0 where
  pub homes : w.homes ≡ D
  pub state_size : length w.state ≡ 1024
  pub log_size : length w.log ≡ 64 + 512 * G
  pub area_size : length w.area ≡ 64 * D
  pub order : InOrder w.state G D
  pub from : b ≤ (state_of w.state).start
  pub position : next_position (state_of w.state) ≡ 7 * b + length tr
  pub sound : Sound (7 * b) D tr
  pub groups : (n : ℕ) → (state_of w.state).start ≤ n → 7 * n < 7 * b + length tr → Holds G (7 * b) tr (group_at w.log (n % G)) n
  pub apart : Apart (7 * (state_of w.state).start) (hist (7 * b) tr).done
  pub links : Linked (7 * (state_of w.state).start) (tag_at (7 * b) tr) none (hist (7 * b) tr).done
  pub last : LastOk (state_of w.state).start (state_of w.state).last (last_closer (hist (7 * b) tr).done)
  pub tasks : (v : ℕ) → v < 8 → TaskOk b tr (writer_of w.state v) (held_of w.state v) ((hist (7 * b) tr).open_transaction v) (w.book.tasks v)
  pub rows : w.book.rows ≡ (state_of w.state).next - b
  pub filled : w.book.filled ≡ (state_of w.state).filled
  pub settled_homes : SettledHomes D w.area (state_of w.state) w.book.commits

-- the records since the last crash: those up to the last fence, then the groups submitted since and, mixed with them, the homes that the round under
-- way has done since
pub record Submitted (G D b : ℕ) (tr : List Ev) (old : List Commit) (w : World) : Type 0 where
  pub fenced : List Record
  pub group : ℕ
  pub count : ℕ
  pub content : ℕ → List ℕ
  pub tail : List Record
  pub done : List ℕ
  pub split : w.pending ≡ (fenced ++ (FN ∷ [])) ++ tail
  pub mixed : Mixed tail
  pub groups_of : group_part tail ≡ submits G group content count
  pub homes_of : home_part tail ≡ home_writes w.area done
  pub behind : (h : ℕ) → In h done → (h < D) × (1 ≤ (state_of w.state).round) × (h < (state_of w.state).cursor)
  -- all of them written, the data area is the data copy
  pub area : (write_records tail (write_records fenced w.memory)).area ≡ w.area
  pub at_fence : (state_of w.state).fenced ≡ 7 * group
  pub next : group + count ≡ (state_of w.state).next
  pub low : b ≤ group
  pub written : group_writes fenced ≡ group - b + G
  pub contents : (n : ℕ) → group ≤ n → n < group + count → Holds G (7 * b) tr (content n) n
  -- the memory where everything up to the last fence has persisted
  pub log_size : length (write_records fenced w.memory).log ≡ 64 + 512 * G
  pub area_size : length (write_records fenced w.memory).area ≡ 64 * D
  pub homes :
      (h : ℕ) → h < D → HeldHome D w.book.commits (state_of w.state).settled (7 * group) (write_records fenced w.memory).area h
  pub header : header_right (write_records fenced w.memory).log G D ≡ true
  pub start : header_start (write_records fenced w.memory).log ≡ (state_of w.state).start
  pub numbers : FoundBelow (write_records fenced w.memory).log G group
  pub there :
      (n : ℕ) → (state_of w.state).start ≤ n → n < group → Holds G (7 * b) tr (group_at (write_records fenced w.memory).log (n % G)) n
  pub turned : (n : ℕ) → group ≤ n → n < (state_of w.state).start + G → Turned G (group_at (write_records fenced w.memory).log (n % G)) n
  -- every memory that a crash before the last fence may leave
  pub images :
      (passed : ℕ) (chosen : ℕ → Bool) →
      passed < fences (fenced ++ (FN ∷ [])) →
      ImageOk G D b w.memory.log tr old w.book.commits (persist passed chosen (fenced ++ (FN ∷ [])) w.memory)
      (drop G (fates passed chosen (fenced ++ (FN ∷ []))))
  -- none of them has a header from the time to come
  pub bounded :
      (passed : ℕ) (chosen : ℕ → Bool) →
      passed < fences (fenced ++ (FN ∷ [])) →
      header_start (persist passed chosen (fenced ++ (FN ∷ [])) w.memory).log ≤ (state_of w.state).start

-- owed commits of this era: their entries were submitted before a fence that a done confirm declared passed
abbrev pub OwedBelow : ℕ → List Commit → Type 0
OwedBelow bound [] = Unit {0}
OwedBelow bound (c ∷ cs) = (c.owed ≡ true → 1 ≤ c.ticket → c.ticket ≤ bound) × OwedBelow bound cs

pub record Confirmed (G b : ℕ) (w : World) : Type 0 where
  pub before : List Record
  pub after : List Record
  pub split : w.pending ≡ before ++ after
  pub count : fences before ≡ w.passed
  pub ends : (before ≡ []) ⊎ ((r : List Record) × (before ≡ r ++ (FN ∷ [])))
  pub owed : OwedBelow (7 * (b + (group_writes before - G))) w.book.commits
  pub reached : 7 * (b + (group_writes before - G)) ≤ (state_of w.state).fenced

-- between two calls of an era
pub record Running (G D : ℕ) (w : World) : Type 0 where
  pub b : ℕ
  pub tr : List Ev
  pub old : List Commit
  pub ready : w.ready ≡ true
  pub since : b ≡ header_start w.memory.log + G
  pub commits : Commits D b tr old w.book.commits
  pub copies : Copies G D b tr w
  pub submitted : Submitted G D b tr old w
  pub confirmed : Confirmed G b w

-- before an opening is done
pub record Closed (G D : ℕ) (w : World) : Type 0 where
  pub ready : w.ready ≡ false
  pub homes : w.homes ≡ D
  pub pending : w.pending ≡ []
  pub passed : w.passed ≡ 0
  pub rows : w.book.rows ≡ 0
  pub filled : w.book.filled ≡ 0
  pub tasks : (v : ℕ) → w.book.tasks v ≡ idle
  pub past : OldCommits D w.book.commits
  pub opens : Opens G D w.memory (homes_after D w.book.commits)

abbrev pub Invariant : (G D : ℕ) → World → Type 0
Invariant G D w = Closed G D w ⊎ Running G D w
