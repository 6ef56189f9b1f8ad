-- Format's train: read off its bytes and landed whole it leaves the empty store; cut anywhere it leaves the old memory, one that no opening takes,
-- or the new store.
use mathlib.Core.Path.{◌≡◌, refl, sym, ap, ◌∙◌}
use mathlib.Core.Logic.{◌⊎◌, inl, inr}
use mathlib.Core.Bool.{Bool, true, false}
use mathlib.Core.List.{List, [], ◌∷◌, ◌++◌, append_assoc}
use Prim.Native.Nat.{ℕ, zero, suc, ◌+◌, ◌*◌, ◌≤◌}
use native.Mathlib.Omega.{arith}
use lib.ListN.{length, take, drop, length-append, replicate-append-replicate}
use borrow.Author.Tests.{eq-eqb}
use Rattle.model.specs.Bytes.{part, puts, zeros, same}
use Rattle.model.specs.Layout.{group_count, home_count, header, header_right, group_offset, unused_slots, empty_log, log_length_right, data_length_right}
use Rattle.model.specs.Batch.{Record, GW, HW, KW, FN}
use Rattle.model.specs.Effects.{Given, blank_writes, zero_homes, formatted, format_effect, open_effect, open_start}
use Rattle.model.specs.Questions.{ask, areas_right, state_right, header_fits, format_answer, open_answer, newest_right}
use Rattle.model.specs.Calls.{Outcome, done, size_of, format_call, open_call}
use Rattle.model.specs.Crash.{Memory, to_log, to_area, blocks, pieces, write, write_each, write_if, write_chosen, many, is_fence, fences, persist_chosen, persist}
use Rattle.model.specs.Facts.{FormatEmpties, NeverOpens, FormatCut}
use Rattle.model.specs.History.{World, Event, Formatting, format_records, landed, unopened, loaded, after_format, empty_store, AllAllowed, Always}
use Rattle.model_laws.proofs.bytes.ByteLaws.{length-puts, length-zeros, puts-append, puts-nil, puts_whole, puts-front, part-below, part-inside}
use Rattle.model_laws.proofs.bytes.EmptyLaws.{length-unused_slots}
use Rattle.model_laws.proofs.bytes.LayoutLaws.{length-header, log-length, data-length, groups-in, homes_in, log-length-right, data-length-right}
use Rattle.model_laws.proofs.state.BatchLaws.{AllFormed, formed-append}
use Rattle.model_laws.proofs.state.QuestionLaws.{and-true, format-ready}
use Rattle.model_laws.proofs.trace.CrashLaws.{write_records, write-append, NoFence, none-append, fences-none, fences-append, chosen-fence, persist-zero, persist-past}
use Rattle.model_laws.proofs.trace.OpeningLaws.{none-blanks, formed-blanks, write-blanks}
use Rattle.theorems.proofs.steps.DoneLaws.{outcome-code, outcome-done, records-read}
use Rattle.theorems.proofs.invariant.Invariant.{Sizes}
use Rattle.model_laws.proofs.state.LoggingLaws.{fits}

-- ---- a done format's records

formed-zeros : (n : ℕ) → n ≤ 65535 → AllFormed (zero_homes n)
unfolding zero_homes
formed-zeros zero h = tt
formed-zeros (suc n) h = formed-append (zero_homes n) _ (formed-zeros n (omega arith)) ((omega arith, length-zeros 64), tt)

formed-format : (G D : ℕ) → Sizes G D → AllFormed (formatted G D)
unfolding formatted
formed-format G D z = (
  simp (length-zeros, length-header),
  (
    tt,
    formed-append (blank_writes G 0 G) _ (formed-blanks G 0 G z.high)
        (formed-append (zero_homes D) _ (formed-zeros D z.homes) (tt, (length-header 0 G D, (tt, tt)))),
  ),
)

-- what an answer of 0 says of the sizes, and how the call ends
module _ {G D : ℕ} (f : Formatting G D) where
  answered : format_answer f.given (size_of (format_effect f.given)) ≡ 0
  answered = sym (outcome-code f.given (format_answer f.given (size_of (format_effect f.given))) (format_effect f.given)) ∙ (unfold format_call in f.done)

  groups-lent : group_count (length f.given.log) ≡ G
  groups-lent = ap group_count f.log_copy ∙ groups-in G

  homes-lent : home_count (length f.given.area) ≡ D
  homes-lent = ap home_count f.area_copy ∙ homes_in D

  pub sizes : Sizes G D
  unfolding areas_right
  sizes =
      let k = and-true (log_length_right (length f.given.log)) (data_length_right (length f.given.area))
      (format-ready f.given (size_of (format_effect f.given)) answered).0 in
      let l = log-length (length f.given.log) k.0 in
      let d = data-length (length f.given.area) k.1 in
      let eg = groups-lent in
      let ed = homes-lent in
      record { low = omega arith; high = omega arith; some-home = omega arith; homes = omega arith }

  ended : format_call f.given ≡ done f.given (format_effect f.given)
  unfolding format_call
  ended = outcome-done f.given (format_answer f.given (size_of (format_effect f.given))) (format_effect f.given) answered

  records-are : (format_effect f.given).records ≡ formatted G D
  unfolding format_effect
  records-are = rw (groups-lent, homes-lent)

  pub format-records : format_records f ≡ formatted G D
  unfolding format_records
  format-records =
      rw ended
      (records-read f.given (format_effect f.given) (rw records-are (formed-format G D sizes))
      (fits f.given (size_of (format_effect f.given)) (format-ready f.given (size_of (format_effect f.given)) answered).1)
      ∙ records-are)

-- ---- landed whole

zeros-on : (xs : List ℕ) (k j : ℕ) → puts (puts xs 0 (zeros k)) k (zeros j) ≡ puts xs 0 (zeros (k + j))
zeros-on xs k j =
    let e : 0 + length (zeros k) ≡ k = omega (arith, length-zeros k) in
    rw e at (sym (puts-append xs 0 (zeros k) (zeros j)))
    ∙ ap (puts xs 0) (unfold zeros in replicate-append-replicate k j 0)

write-zeros : (n : ℕ) (log area : List ℕ)
    → write_records (zero_homes n) (record { log = log; area = area }) ≡ record { log = log; area = puts area 0 (zeros (64 * n)) }
unfolding zero_homes write_records pieces write_each write
write-zeros zero log area =
    let e : puts area 0 (zeros 0) ≡ area = unfold zeros in puts-nil area 0 in
    ap {B = Memory} (λ (a : List ℕ). record { log = log; area = a }) (sym e)
write-zeros (suc n) log area =
    write-append (zero_homes n) _ _
    ∙ rw (write-zeros n log area)
    (let e : 64 * n + 64 ≡ 64 * suc n = omega arith in
    ap {B = Memory} (λ (a : List ℕ). record { log = log; area = a }) (zeros-on area (64 * n) 64 ∙ rw e))

-- the records before the last header: the header's zeros, a fence, unused groups and the homes' zeros
unfoldable pub cleared : ℕ → ℕ → List Record
cleared G D = KW (zeros 64) ∷ FN ∷ (blank_writes G 0 G ++ zero_homes D)

unfoldable ending : ℕ → ℕ → List Record
ending G D = FN ∷ KW (header 0 G D) ∷ FN ∷ []

format-split : (G D : ℕ) → formatted G D ≡ cleared G D ++ ending G D
unfolding formatted cleared ending
format-split G D = rw (append_assoc (blank_writes G 0 G) (zero_homes D))

-- the log as they leave it: unused slots behind a header of zeros
unfoldable pub cleared_log : ℕ → List ℕ
cleared_log G = zeros 64 ++ unused_slots G 0 G

pub length-cleared_log : (G : ℕ) → length (cleared_log G) ≡ 64 + 512 * G
unfolding cleared_log
length-cleared_log G = rw (length-append, length-zeros, length-unused_slots)

pub write-cleared : (G D : ℕ) (m : Memory) → length m.log ≡ 64 + 512 * G → length m.area ≡ 64 * D
    → write_records (cleared G D) m ≡ record { log = cleared_log G; area = zeros (64 * D) }
unfolding cleared write_records pieces write_each write cleared_log
write-cleared G D m l a =
    write-append (blank_writes G 0 G) (zero_homes D) (record { log = puts m.log 0 (zeros 64); area = m.area })
    ∙ rw (write-blanks G 0 G m.log (zeros 64) m.area (length-zeros 64))
    (write-zeros D (puts m.log 0 (cleared_log G)) m.area
    ∙ rw (puts_whole m.log (cleared_log G) (l ∙ sym (length-cleared_log G)), puts_whole m.area (zeros (64 * D)) (a ∙ sym (length-zeros (64 * D)))))

-- the header over it
pub cleared-headed : (G D : ℕ) → puts (cleared_log G) 0 (header 0 G D) ≡ empty_log 0 G D
unfolding cleared_log empty_log
cleared-headed G D = puts-front (zeros 64) (unused_slots G 0 G) (header 0 G D) (length-zeros 64 ∙ sym (length-header 0 G D))

none-zeros : (n : ℕ) → NoFence (zero_homes n)
unfolding zero_homes is_fence
none-zeros zero = tt
none-zeros (suc n) = none-append (zero_homes n) _ (none-zeros n) (refl, tt)

pub none-cleared : (G D : ℕ) → NoFence (blank_writes G 0 G ++ zero_homes D)
none-cleared G D = none-append (blank_writes G 0 G) (zero_homes D) (none-blanks G 0 G) (none-zeros D)

fences-cleared : (G D : ℕ) → fences (cleared G D) ≡ 1
unfolding cleared fences is_fence
fences-cleared G D = omega (arith, fences-none (blank_writes G 0 G ++ zero_homes D) (none-cleared G D))

fences-format : (G D : ℕ) → fences (formatted G D) ≡ 3
fences-format G D =
    let e : fences (ending G D) ≡ 2 = unfold ending fences is_fence in refl in
    ap fences (format-split G D) ∙ fences-append (cleared G D) (ending G D) ∙ omega (arith, fences-cleared G D)

-- the memory of the empty store
unfoldable pub empty_memory : ℕ → ℕ → Memory
empty_memory G D = record { log = empty_log 0 G D; area = zeros (64 * D) }

ended-whole : (G D n : ℕ) (chosen : ℕ → Bool)
    → persist (suc (suc n)) chosen (ending G D) (record { log = cleared_log G; area = zeros (64 * D) }) ≡ empty_memory G D
unfolding empty_memory ending persist is_fence pieces write_each write
ended-whole G D n chosen = ap {B = Memory} (λ (l : List ℕ). record { log = l; area = zeros (64 * D) }) (cleared-headed G D)

-- two or more fences have passed
module _ {G D : ℕ} (f : Formatting G D) where
  past : (n : ℕ) (chosen : ℕ → Bool)
      → persist (suc (suc n)) chosen (format_records f) f.memory
      ≡ persist (suc n) chosen (ending G D) (record { log = cleared_log G; area = zeros (64 * D) })
  past n chosen =
      let e : fences (cleared G D) + suc n ≡ suc (suc n) = omega (arith, fences-cleared G D) in
      rw (format-records f, format-split G D)
      (rw e at (persist-past (cleared G D) n chosen (ending G D) f.memory)
      ∙ rw (write-cleared G D f.memory f.log_size f.area_size))

  all-passed : (n : ℕ) (chosen : ℕ → Bool) → persist (suc (suc (suc n))) chosen (format_records f) f.memory ≡ empty_memory G D
  all-passed n chosen = past (suc n) chosen ∙ ended-whole G D n chosen

  pub after-format : after_format f ≡ empty_store G D
  unfolding after_format empty_store landed
  after-format =
      let e : fences (format_records f) ≡ 3 = ap fences (format-records f) ∙ fences-format G D in
      ap (unopened D) (rw e (all-passed 0 (λ i. true) ∙ (unfold empty_memory in refl)))

-- a claim about every history from the empty store on holds from every format on
pub from-format : (Claim : World → List Event → Type 0)
    → ((G D : ℕ) → Sizes G D → (es : List Event) → AllAllowed (empty_store G D) es → Claim (empty_store G D) es) → Always Claim
from-format Claim h G D f es a = rw (after-format f) (h G D (sizes f) es (rw (after-format f) at a))

-- "The copies hold the same."
module _ {G D : ℕ} (f : Formatting G D) where
  log-copy : (done f.given (format_effect f.given)).log ≡ (empty_store G D).memory.log
  unfolding done format_effect empty_store unopened
  log-copy = rw (groups-lent f, homes-lent f)

  area-copy : (done f.given (format_effect f.given)).area ≡ (empty_store G D).memory.area
  unfolding done format_effect empty_store unopened
  area-copy = rw (homes-lent f)

pub format-empties : FormatEmpties
format-empties G D f =
    record {
      memory = after-format f;
      log = ap (λ (o : Outcome). o.log) (ended f) ∙ log-copy f ∙ sym (ap (λ (w : World). w.memory.log) (after-format f));
      area = ap (λ (o : Outcome). o.area) (ended f) ∙ area-copy f ∙ sym (ap (λ (w : World). w.memory.area) (after-format f));
    }

-- ---- cut inside

-- a memory whose header is not right
pub record Unfit (G D : ℕ) (m : Memory) : Type 0 where
  pub log : length m.log ≡ 64 + 512 * G
  pub area : length m.area ≡ 64 * D
  pub wrong : header_right m.log G D ≡ false

module _ (G D : ℕ) (z : Sizes G D) (m : Memory) (u : Unfit G D m) (state newest batch : List ℕ) (l : length state ≡ 1024)
    (k : length newest ≡ 8 * home_count (length m.area)) where
  lengths : areas_right (loaded (unopened 0 m) state newest batch) ≡ true
  unfolding areas_right loaded unopened
  lengths = rw (u.log, u.area, (log-length-right G z.low z.high).1, (data-length-right D z.some-home z.homes).1)

  state_fits : state_right (loaded (unopened 0 m) state newest batch) ≡ true
  unfolding state_right loaded
  state_fits = eq-eqb (length state) 1024 l

  positions : newest_right (loaded (unopened 0 m) state newest batch) ≡ true
  unfolding newest_right loaded unopened
  positions = eq-eqb (length newest) (8 * home_count (length m.area)) k

  header-no : header_fits (loaded (unopened 0 m) state newest batch) ≡ false
  unfolding header_fits loaded unopened
  header-no = rw (ap group_count u.log ∙ groups-in G, ap home_count u.area ∙ homes_in D, u.wrong)

  refused-three : (start size : ℕ) → open_answer (loaded (unopened 0 m) state newest batch) start size ≡ 3
  unfolding open_answer ask
  refused-three start size = rw (lengths, state_fits, positions, header-no)

pub unfit-closed : (G D : ℕ) → Sizes G D → (m : Memory) → Unfit G D m → NeverOpens m
unfolding open_call
unfit-closed G D z m u state newest batch l k =
    let g : Given = loaded (unopened 0 m) state newest batch in
    outcome-code g (open_answer g (open_start g) (size_of (open_effect g))) (open_effect g)
    ∙ refused-three G D z m u state newest batch l k (open_start g) (size_of (open_effect g))

-- one whose header has no mark
pub record Unmarked (G D : ℕ) (m : Memory) : Type 0 where
  pub log : length m.log ≡ 64 + 512 * G
  pub area : length m.area ≡ 64 * D
  pub mark : part m.log 0 2 ≡ zeros 2

pub unmarked-closed : (G D : ℕ) → Sizes G D → (m : Memory) → Unmarked G D m → NeverOpens m
unmarked-closed G D z m u = unfit-closed G D z m (record { log = u.log; area = u.area; wrong = unfold header_right zeros same in rw u.mark })

-- writes of groups and homes do not touch the header
abbrev pub NoHeader : List Record → Type 0
NoHeader [] = Unit {0}
NoHeader (GW slot group ∷ rs) = NoHeader rs
NoHeader (HW home block ∷ rs) = NoHeader rs
NoHeader (KW header ∷ rs) = ⊥
NoHeader (FN ∷ rs) = NoHeader rs

pub no-header-append : (rs ss : List Record) → NoHeader rs → NoHeader ss → NoHeader (rs ++ ss)
no-header-append [] ss a b = b
no-header-append (GW slot group ∷ rs) ss a b = no-header-append rs ss a b
no-header-append (HW home block ∷ rs) ss a b = no-header-append rs ss a b
no-header-append (KW header ∷ rs) ss a b = absurd a
no-header-append (FN ∷ rs) ss a b = no-header-append rs ss a b

pub no-header-blanks : (G start n : ℕ) → NoHeader (blank_writes G start n)
unfolding blank_writes
no-header-blanks G start zero = tt
no-header-blanks G start (suc n) = no-header-append (blank_writes G start n) _ (no-header-blanks G start n) tt

pub no-header-zeros : (n : ℕ) → NoHeader (zero_homes n)
unfolding zero_homes
no-header-zeros zero = tt
no-header-zeros (suc n) = no-header-append (zero_homes n) _ (no-header-zeros n) tt

module _ (G D : ℕ) where
  pub unmarked-log : (b : Bool) (m : Memory) (at : ℕ) (bs : List ℕ) → 64 ≤ at → Unmarked G D m → Unmarked G D (write_if b (to_log at bs) m)
  unfolding write_if write
  unmarked-log true m at bs h u =
      record { log = length-puts m.log at bs ∙ u.log; area = u.area; mark = part-below m.log at bs 0 2 (omega arith) ∙ u.mark }
  unmarked-log false m at bs h u = u

  pub unmarked-area : (b : Bool) (m : Memory) (at : ℕ) (bs : List ℕ) → Unmarked G D m → Unmarked G D (write_if b (to_area at bs) m)
  unfolding write_if write
  unmarked-area true m at bs u = record { log = u.log; area = length-puts m.area at bs ∙ u.area; mark = u.mark }
  unmarked-area false m at bs u = u

  unmarked-blocks : (chosen : ℕ → Bool) (i at : ℕ) (content : List ℕ) (n : ℕ) (m : Memory) → 64 ≤ at → Unmarked G D m
      → Unmarked G D (write_chosen chosen i (blocks at content n) m)
  unfolding write_chosen blocks
  unmarked-blocks chosen i at content zero m h u = u
  unmarked-blocks chosen i at content (suc n) m h u =
      unmarked-blocks chosen (i + 1) (at + 64) (drop 64 content) n _ (omega arith) (unmarked-log (chosen i) m at (take 64 content) h u)

  unmarked-chosen : (chosen : ℕ → Bool) (i : ℕ) (rs : List Record) (m : Memory) → NoHeader rs → Unmarked G D m
      → Unmarked G D (persist_chosen chosen i rs m)
  unfolding persist_chosen is_fence pieces write_chosen many group_offset
  unmarked-chosen chosen i [] m n u = u
  unmarked-chosen chosen i (GW slot group ∷ rs) m n u =
      unmarked-chosen chosen (i + many (pieces (GW slot group))) rs _ n (unmarked-blocks chosen i (group_offset slot) group 8 m (omega arith) u)
  unmarked-chosen chosen i (HW home block ∷ rs) m n u = unmarked-chosen chosen (i + many (pieces (HW home block))) rs _ n (unmarked-area (chosen i) m (64 * home) block u)
  unmarked-chosen chosen i (KW header ∷ rs) m n u = absurd n
  unmarked-chosen chosen i (FN ∷ rs) m n u = u

  -- the header's zeros have landed
  pub unmarked-first : (m : Memory) → length m.log ≡ 64 + 512 * G → length m.area ≡ 64 * D
      → Unmarked G D (record { log = puts m.log 0 (zeros 64); area = m.area })
  unmarked-first m l a =
      record {
        log = length-puts m.log 0 (zeros 64) ∙ l;
        area = a;
        mark = part-inside m.log 0 (zeros 64) 0 2 (omega (arith, length-zeros 64)) (omega (arith, length-zeros 64)) ∙ front;
      }
    where
      front : part (zeros 64) 0 2 ≡ zeros 2
      front = unfold part zeros in refl

  pub unmarked-cleared : Unmarked G D (record { log = cleared_log G; area = zeros (64 * D) })
  unmarked-cleared =
      record { log = length-cleared_log G; area = length-zeros (64 * D); mark = unfold cleared_log part zeros in refl }

-- what a cut may leave
abbrev Left : {G D : ℕ} → Formatting G D → Memory → Type 0
Left f m = (m ≡ f.memory) ⊎ (NeverOpens m ⊎ (m ≡ (after_format f).memory))

-- by the number of fences that have passed: none, the first, the second, all
module _ {G D : ℕ} (f : Formatting G D) where
  pub new-memory : (after_format f).memory ≡ empty_memory G D
  unfolding empty_store unopened empty_memory
  new-memory = ap (λ (w : World). w.memory) (after-format f)

  first-may : (b : Bool) → Left f (write_if b (to_log 0 (zeros 64)) f.memory)
  unfolding write_if write
  first-may true = inr (inl (unmarked-closed G D (sizes f) _ (unmarked-first G D f.memory f.log_size f.area_size)))
  first-may false = inl refl

  none_passed : (chosen : ℕ → Bool) → Left f (persist 0 chosen (format_records f) f.memory)
  unfolding formatted persist persist_chosen is_fence pieces write_chosen
  none_passed chosen = rw (format-records f) (first-may (chosen 0))

  one-passed : (chosen : ℕ → Bool) → Left f (persist 1 chosen (format_records f) f.memory)
  unfolding cleared ending persist is_fence pieces write_each write
  one-passed chosen =
      let T : List Record = blank_writes G 0 G ++ zero_homes D in
      let m : Memory = record { log = puts f.memory.log 0 (zeros 64); area = f.memory.area } in
      rw (format-records f, format-split G D, persist-zero chosen (T ++ ending G D) m, chosen-fence chosen 0 T (KW (header 0 G D) ∷ FN ∷ []) m (none-cleared G D))
      (inr (inl (unmarked-closed G D (sizes f) _
      (unmarked-chosen G D chosen 0 T m (no-header-append (blank_writes G 0 G) (zero_homes D) (no-header-blanks G 0 G) (no-header-zeros D))
      (unmarked-first G D f.memory f.log_size f.area_size)))))

  last-may : (b : Bool) → Left f (write_if b (to_log 0 (header 0 G D)) (record { log = cleared_log G; area = zeros (64 * D) }))
  unfolding write_if write empty_memory
  last-may true =
      inr (inr (ap {B = Memory} (λ (l : List ℕ). record { log = l; area = zeros (64 * D) }) (cleared-headed G D) ∙ sym new-memory))
  last-may false = inr (inl (unmarked-closed G D (sizes f) _ (unmarked-cleared G D)))

  two-passed : (chosen : ℕ → Bool) → Left f (persist 2 chosen (format_records f) f.memory)
  unfolding ending persist persist_chosen is_fence pieces write_each write_chosen
  two-passed chosen = rw (past f 0 chosen) (last-may (chosen 0))

  cut-leaves : (passed : ℕ) (chosen : ℕ → Bool) → Left f (persist passed chosen (format_records f) f.memory)
  cut-leaves zero chosen = none_passed chosen
  cut-leaves (suc zero) chosen = one-passed chosen
  cut-leaves (suc (suc zero)) chosen = two-passed chosen
  cut-leaves (suc (suc (suc n))) chosen = inr (inr (all-passed f n chosen ∙ sym new-memory))

pub format-cut : FormatCut
format-cut G D f passed chosen = cut-leaves f passed chosen
