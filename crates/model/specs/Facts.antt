-- Facts that the paper states in passing, as statements over all histories.
use Rattle.std.specs.Prelude.{ℕ, ◌-◌, ◌*◌, ◌≡◌, ◌⊎◌, Bool, true, false, not, ◌&&◌, ◌||◌, List, [], ◌∷◌, eqb, length}
use Rattle.model.specs.Layout.{home_count}
use Rattle.model.specs.Batch.{Record, GW, HW, KW, FN}
use Rattle.model.specs.Effects.{Given, formatted}
use Rattle.model.specs.State.{state_bytes}
use Rattle.model.specs.Calls.{Outcome, format_call, open_call, begin_call, reserve_call, abort_call, store_call, flush_call, confirm_call, settle_call, begin_round_call, step_round_call}
use Rattle.model.specs.Crash.{Memory, persist}
use Rattle.model.specs.Layout.{group_count}
use Rattle.model.specs.DemandTwo.{group_writes}
use Rattle.model.specs.History.{World, Formatting, format_records, unopened, loaded, after_format, empty_store, after, Always}

-- "Between two fences no block is written twice."

-- whether the records up to the next fence write a ring slot, a home, the header
unfoldable pub slot_written : ℕ → List Record → Bool
slot_written slot [] = false
slot_written slot (GW s group ∷ rs) = eqb s slot || slot_written slot rs
slot_written slot (HW home block ∷ rs) = slot_written slot rs
slot_written slot (KW header ∷ rs) = slot_written slot rs
slot_written slot (FN ∷ rs) = false

unfoldable pub home_written : ℕ → List Record → Bool
home_written home [] = false
home_written home (GW slot group ∷ rs) = home_written home rs
home_written home (HW h block ∷ rs) = eqb h home || home_written home rs
home_written home (KW header ∷ rs) = home_written home rs
home_written home (FN ∷ rs) = false

unfoldable pub header_written : List Record → Bool
header_written [] = false
header_written (GW slot group ∷ rs) = header_written rs
header_written (HW home block ∷ rs) = header_written rs
header_written (KW header ∷ rs) = true
header_written (FN ∷ rs) = false

-- no record writes what a later one up to the next fence writes too [S-6]
unfoldable pub written_once : List Record → Bool
written_once [] = true
written_once (GW slot group ∷ rs) = not (slot_written slot rs) && written_once rs
written_once (HW home block ∷ rs) = not (home_written home rs) && written_once rs
written_once (KW header ∷ rs) = not (header_written rs) && written_once rs
written_once (FN ∷ rs) = written_once rs

-- of format's batch, and of all batches since the last crash at every moment of a history
abbrev pub FormatOnce : Type 0
FormatOnce = (groups homes : ℕ) → written_once (formatted groups homes) ≡ true

-- [S-6]
abbrev pub PendingOnce : Type 0
PendingOnce = Always (λ w es. written_once (after w es).pending ≡ true)

-- "its entries land with that call's GW": the book's rows submitted since the last crash are as many as the group writes since, but for the opening's
-- G, at every moment of a history; so each call but an opening submits as many rows as it writes groups
abbrev pub RowsWritten : Type 0
RowsWritten = Always (λ w es. let v : World = after w es in v.book.rows ≡ group_writes v.pending - group_count (length v.memory.log))

-- Format: "The copies hold the same." Whatever stood in memory and copies, its train leaves the empty store in both. [S-23]
pub record Emptied (groups homes : ℕ) (f : Formatting groups homes) : Type 0 where
  pub memory : after_format f ≡ empty_store groups homes
  pub log : (format_call f.given).log ≡ (after_format f).memory.log
  pub area : (format_call f.given).area ≡ (after_format f).memory.area

-- [S-23]
abbrev pub FormatEmpties : Type 0
FormatEmpties = (groups homes : ℕ) (f : Formatting groups homes) → Emptied groups homes f

-- "KW of 64 zeros, FN" come first: a cut inside format's train leaves the old memory whole, or one that every opening refuses with 3, or the new
-- empty store; never a mixture that opens.
abbrev pub NeverOpens : Memory → Type 0
NeverOpens m = (state newest batch : List ℕ) → length state ≡ state_bytes → length newest ≡ 8 * home_count (length m.area) → (open_call (loaded (unopened 0 m) state newest batch)).code ≡ 3

-- [S-23]
abbrev pub FormatCut : Type 0
FormatCut =
    (groups homes : ℕ) (f : Formatting groups homes) (passed : ℕ) (chosen : ℕ → Bool) → let m : Memory = persist passed chosen (format_records f) f.memory in
    (m ≡ f.memory) ⊎ (NeverOpens m ⊎ (m ≡ (after_format f).memory))

-- The calls that are not lent the newest positions neither look at them nor change them: with any others lent, all else ends the same.
unfoldable pub lent_with : List ℕ → Given → Given
lent_with newest g =
    record {
      state = g.state;
      newest = newest;
      log = g.log;
      area = g.area;
      block = g.block;
      batch = g.batch;
      writer = g.writer;
      home = g.home;
    }

unfoldable pub left_with : List ℕ → Outcome → Outcome
left_with newest o =
    record {
      code = o.code;
      figure = o.figure;
      size = o.size;
      state = o.state;
      newest = newest;
      log = o.log;
      area = o.area;
      block = o.block;
      batch = o.batch;
    }

abbrev pub AsideIn : (Given → Outcome) → Type 0
AsideIn c = (g : Given) (newest : List ℕ) → c (lent_with newest g) ≡ left_with newest (c g)

abbrev pub EachAside : List (Given → Outcome) → Type 0
EachAside [] = Unit {0}
EachAside (c ∷ cs) = AsideIn c × EachAside cs

abbrev pub Aside : Type 0
Aside =
    (n : ℕ) →
    EachAside
    (format_call ∷ begin_call ∷ (λ g. reserve_call g n) ∷ abort_call ∷ store_call ∷ flush_call ∷ confirm_call ∷ settle_call ∷ begin_round_call ∷ (λ g. step_round_call g n) ∷ [])
