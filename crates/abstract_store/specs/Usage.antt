-- "Planners want to know why a log fills": a call that tells, from the log copy and the strip, how many of the 7 × G places are live, dead and free, how
-- many of the free ones are promised, and which open transaction holds the log back. Places has what these words mean by the calls since the last done
-- opening; UsageTold says that the call's numbers are those.
use Rattle.std.specs.Prelude.{ℕ, zero, suc, ◌+◌, ◌-◌, ◌*◌, ◌≤◌, ◌<◌, ◌≡◌, Bool, true, false, cond, ◌&&◌, ◌||◌, List, [], ◌∷◌, eqb, ltb, length}
use Rattle.model.specs.Commit.{transactions}
use Rattle.model.specs.declared.Writer.{Writer}
use Rattle.model.specs.State.{state_of, next_position, places, promised, writer_of, has_logged, count_for}
use Rattle.model.specs.Effects.{Given, groups, live_tags, live_base}
use Rattle.model.specs.Questions.{ask_state}
use Rattle.model.specs.History.{Event, World, Formatting, after_format, lent, step, AllAllowed}
use Rattle.abstract_store.specs.Store.{Store, new_store, group_of_first, next_start, promised_to, follow}
use Rattle.abstract_store.specs.Places.{Fate, live, dead, free, many, task_at, enter_event}
pub use Rattle.model.specs.declared.Usage.{Usage}
pub use Rattle.model.specs.declared.Holder.{Holder}

-- the entries of some transactions together
unfoldable pub entries_in : List (List ℕ) → ℕ
entries_in [] = 0
entries_in (t ∷ ts) = length t + entries_in ts

-- those of the committed transactions that the commit rule finds in the log copy
unfoldable pub committed_entries : Given → ℕ
committed_entries g = entries_in (transactions (live_tags g) (live_base g) (next_position (state_of g.state) - live_base g))

-- those that the first n writers have logged in open transactions
unfoldable pub open_entries : List ℕ → ℕ → ℕ
open_entries s zero = 0
open_entries s (suc n) = open_entries s n + count_for (writer_of s n)

-- the writer that holds the log back, and from which position on: of those with logged entries the one whose first lies lowest; 8 and 0 if there is none
unfoldable pub no_holder : Holder
no_holder = record { writer = 8; first = 0 }

unfoldable pub holds_lower : Writer → Holder → Bool
holds_lower r h = has_logged r && (eqb h.writer 8 || ltb r.first h.first)

-- of the first n writers
unfoldable pub holder_of : List ℕ → ℕ → Holder
holder_of s zero = no_holder
holder_of s (suc n) =
    let h : Holder = holder_of s n in cond (holds_lower (writer_of s n) h) (record { writer = n; first = (writer_of s n).first }) h

-- the numbers told: what is neither live nor free is dead
unfoldable pub usage_of : Given → Usage
usage_of g =
    let used : ℕ = committed_entries g + open_entries g.state 8 in
    let left : ℕ = places (state_of g.state) in
    record {
      code = 0;
      live = used;
      dead = 7 * groups g - left - used;
      free = left;
      promised = promised g.state 8;
      holder = (holder_of g.state 8).writer;
      first = (holder_of g.state 8).first;
    }

unfoldable pub usage_refused : ℕ → Usage
usage_refused code = record { code = code; live = 0; dead = 0; free = 0; promised = 0; holder = 0; first = 0 }

unfoldable pub usage_if : ℕ → Given → Usage
usage_if zero g = usage_of g
usage_if (suc k) g = usage_refused (suc k)

-- the call puts questions 1 and 2, and changes nothing [S-45]
unfoldable pub usage_call : Given → Usage
usage_call g = usage_if (ask_state g 0) g

-- what it tells at a moment of a history
abbrev pub told_at : World → Usage
told_at w = usage_call (lent w [] [] 0 0)

-- At every moment after a done opening the call is done and tells the ledger's numbers. If it names no holder, no open transaction has a place; else
-- the holder's has one at the position told, none has one below, and no start that a trim can reach lies above it.
pub record Usages (w : World) (s : Store) (fs : List Fate) : Type 0 where
  pub done : (told_at w).code ≡ 0
  pub live_are : (told_at w).live ≡ many s fs live (7 * s.start) (7 * s.groups)
  pub dead_are : (told_at w).dead ≡ many s fs dead (7 * s.start) (7 * s.groups)
  pub free_are : (told_at w).free ≡ many s fs free (7 * s.start) (7 * s.groups)
  pub promised_are : (told_at w).promised ≡ promised_to s.promises 8
  pub known : (told_at w).holder ≤ 8
  pub nobody : (told_at w).holder ≡ 8 → (writer p : ℕ) → writer < 8 → task_at (group_of_first s) p (s.book.tasks writer) ≡ false
  pub holds : (told_at w).holder < 8 → task_at (group_of_first s) (told_at w).first (s.book.tasks (told_at w).holder) ≡ true
  pub lowest :
      (told_at w).holder < 8 → (writer p : ℕ) → writer < 8 → task_at (group_of_first s) p (s.book.tasks writer) ≡ true → (told_at w).first ≤ p
  pub bounds : (told_at w).holder < 8 → 7 * next_start s ≤ (told_at w).first

abbrev pub UsageThroughout : World → Store → List Fate → List Event → Type 0
UsageThroughout w s fs [] = w.ready ≡ true → Usages w s fs
UsageThroughout w s fs (e ∷ es) =
    (w.ready ≡ true → Usages w s fs) × UsageThroughout (step w e) (follow s w e) (enter_event s w e fs) es

-- [S-45]
abbrev pub UsageTold : Type 0
UsageTold =
    (groups homes : ℕ) (f : Formatting groups homes) (es : List Event) → AllAllowed (after_format f) es →
    UsageThroughout (after_format f) (new_store groups homes) [] es
