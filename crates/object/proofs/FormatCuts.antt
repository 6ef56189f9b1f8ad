-- A format cut after any number of motions, on words and on blocks: the old memory, one that no opening takes, or the new store.
use Prim.Native.Nat.{ℕ, zero, suc, ◌+◌, ◌*◌, ◌≤◌}
use mathlib.Core.Path.{◌≡◌, refl, sym, ap, ◌∙◌, subst}
use mathlib.Core.Logic.{inl, inr}
use mathlib.Core.Bool.{Bool, true, false, ◌&&◌}
use mathlib.Core.List.{List, [], ◌∷◌, ◌++◌, append_assoc}
use native.Mathlib.Omega.{arith}
use lib.ListN.{length, take, drop}
use lib.Dec.{eqb}
use borrow.Author.Tests.{ne_eqb}
use Rattle.model.specs.Bytes.{part, puts, zeros, bytes, number, same}
use Rattle.model.specs.Layout.{header, header_mark, header_right, unused_group, unused_slots, empty_log}
use Rattle.model.specs.Batch.{Record, GW, HW, KW, FN}
use Rattle.model.specs.Effects.{blank_writes, zero_homes, formatted}
use Rattle.model.specs.Crash.{Memory, Piece, to_log, pieces, write, write_each, write_if, write_chosen}
use Rattle.model.specs.History.{Formatting}
use Rattle.model_laws.proofs.bytes.ByteLaws.{length-puts, length-zeros, part-below, part-above, part-inside, number-above}
use Rattle.model_laws.proofs.bytes.LayoutLaws.{length-header, part-of-front, number-zeros-front}
use Rattle.model_laws.proofs.bytes.EmptyLaws.{length-unused_group}
use Rattle.model_laws.proofs.trace.TraceLaws.{All}
use Rattle.model_laws.proofs.trace.CrashLaws.{write_records}
use Rattle.theorems.proofs.steps.FormatRuns.{sizes, format-records, cleared, cleared_log, length-cleared_log, write-cleared, cleared-headed, none-cleared, empty_memory, new-memory, Unfit, unfit-closed, Unmarked, unmarked-closed, NoHeader, no-header-append, no-header-blanks, no-header-zeros, unmarked-first, unmarked-cleared}
use Rattle.object.specs.Medium.{Grain, words, blocks, unit_of, chop_log, chop, chop_all, writes, fences, loses}
use Rattle.object.specs.Order.{Motion, put, wait, parted, wipe, heads_out, motions, moves}
use Rattle.object.specs.Runner.{FormatCutRunner}
use Rattle.object.proofs.WordLaws.{Fits}
use Rattle.object.proofs.ChopLaws.{all_append, bodies, head_of, first_words}
use Rattle.object.proofs.MotionLaws.{puttings, Unwiped, motions-fenced, stretch-writes}
use Rattle.object.proofs.FormatPieces.{puts-own, puts-over, part-of-zeros, Harmless, zero_pieces, harmless-bodies, harmless-zeros, Allowed, medium, Fine, AllFine, fine-cut, fine-unmarked, puts-fine, wait-fine}

-- the last header, in words: mark and start, G and D, and six words of zeros over zeros

header-words : (G D : ℕ) → chop words (to_log 0 (header 0 G D)) ≡ to_log 0 (take 8 (header 0 G D)) ∷ to_log 8 (take 8 (drop 8 (header 0 G D))) ∷ zero_pieces 8 16 6
unfolding chop unit_of chop_log zero_pieces zeros header bytes
header-words G D = refl

header-block : (G D : ℕ) → chop blocks (to_log 0 (header 0 G D)) ≡ to_log 0 (header 0 G D) ∷ []
unfolding chop unit_of chop_log zeros header bytes
header-block G D = refl

abbrev Quiet : Memory → Type 0
Quiet m = (at : ℕ) → 16 ≤ at → at + 8 ≤ 64 → part m.log at 8 ≡ zeros 8

quiet_one : (b : Bool) (at : ℕ) (m : Memory) → part m.log at 8 ≡ zeros 8 → write_if b (to_log at (zeros 8)) m ≡ m
unfolding write_if write
quiet_one true at m e =
    ap {B = Memory} (λ (x : List ℕ). record { log = x; area = m.area })
    (ap (puts m.log at) (sym e) ∙ (unfold part in puts-own m.log at 8))
quiet_one false at m e = refl

quiet-words : (n at : ℕ) (chosen : ℕ → Bool) (i : ℕ) (m : Memory) → Quiet m → 16 ≤ at → at + 8 * n ≤ 64 → write_chosen chosen i (zero_pieces 8 at n) m ≡ m
unfolding write_chosen zero_pieces
quiet-words zero at chosen i m q l h = refl
quiet-words (suc n) at chosen i m q l h =
    ap (write_chosen chosen (i + 1) (zero_pieces 8 (at + 8) n)) (quiet_one (chosen i) at m (q at l (omega arith)))
    ∙ quiet-words n (at + 8) chosen (i + 1) m q (omega arith) (omega arith)

quiet_step : (b : Bool) (at : ℕ) (bs : List ℕ) (m : Memory) → at + length bs ≤ 16 → Quiet m → Quiet (write_if b (to_log at bs) m)
unfolding write_if write
quiet_step true at bs m h q = λ i l u. part-above m.log at bs i 8 (omega arith) ∙ q i l u
quiet_step false at bs m h q = q

-- a header whose second word is zeros says no G
no-groups : (a c d : Bool) → (a && false && c && d) ≡ false
no-groups true c d = refl
no-groups false c d = refl

wrong-header : (log : List ℕ) (G D : ℕ) → number 2 log 8 ≡ 0 → 4 ≤ G → header_right log G D ≡ false
unfolding header_right
wrong-header log G D e l =
    rw (e, ne_eqb 0 G (λ q. omega (arith, l, q))) (no-groups (same (part log 0 2) header_mark) (eqb (number 2 log 10) D) (same (part log 12 52) (zeros 52)))

module _ {G D : ℕ} (f : Formatting G D) where
  abbrev C : Memory
  C = record { log = cleared_log G; area = zeros (64 * D) }

  abbrev A : List ℕ
  A = take 8 (header 0 G D)

  abbrev B : List ℕ
  B = take 8 (drop 8 (header 0 G D))

  size-A : length A ≡ 8
  size-A = unfold header bytes zeros in refl

  size-B : length B ≡ 8
  size-B = unfold header bytes zeros in refl

  quiet-cleared : Quiet C
  unfolding cleared_log
  quiet-cleared at l h =
      sym (part-of-front (zeros 64) (unused_slots G 0 G) 64 at 8 (length-zeros 64) (omega arith)) ∙ part-of-zeros 64 at 8 (omega arith)

  abbrev two : Bool → Bool → Memory
  two b c = write_if c (to_log 8 B) (write_if b (to_log 0 A) C)

  quiet-two : (b c : Bool) → Quiet (two b c)
  quiet-two b c =
      quiet_step c 8 B (write_if b (to_log 0 A) C) (omega (arith, size-B)) (quiet_step b 0 A C (omega (arith, size-A)) quiet-cleared)

  unmarked-past : (b : Bool) (m : Memory) (at : ℕ) (bs : List ℕ) → 2 ≤ at → Unmarked G D m → Unmarked G D (write_if b (to_log at bs) m)
  unfolding write_if write
  unmarked-past true m at bs h u =
      record { log = length-puts m.log at bs ∙ u.log; area = u.area; mark = part-below m.log at bs 0 2 (omega arith) ∙ u.mark }
  unmarked-past false m at bs h u = u

  two-allowed : (b c : Bool) → Allowed f (two b c)
  two-allowed false c =
      inr (inl (unmarked-closed G D (sizes f) _ (unmarked-past c (write_if false (to_log 0 A) C) 8 B (omega arith) (unfold write_if in unmarked-cleared G D))))
  two-allowed true false = inr (inl (unfit-closed G D (sizes f) (two true false) unfit))
    where
      none : number 2 (puts (cleared_log G) 0 A) 8 ≡ 0
      none = number-above 2 (cleared_log G) 0 A 8 (omega (arith, size-A)) ∙ (unfold cleared_log in number-zeros-front 2 64 (unused_slots G 0 G) 8 (omega arith))

      unfit : Unfit G D (two true false)
      unfit =
          unfold write_if write in
          record {
            log = length-puts (cleared_log G) 0 A ∙ length-cleared_log G;
            area = length-zeros (64 * D);
            wrong = wrong-header (puts (cleared_log G) 0 A) G D none (sizes f).low;
          }
  two-allowed true true = inr (inr (new ∙ sym (new-memory f)))
    where
      new : two true true ≡ empty_memory G D
      new = unfold write_if write puts cleared_log empty_memory empty_log header bytes zeros in refl

  new-written : write_each (to_log 0 (header 0 G D) ∷ []) C ≡ empty_memory G D
  unfolding write_each write empty_memory
  new-written = ap {B = Memory} (λ (x : List ℕ). record { log = x; area = zeros (64 * D) }) (cleared-headed G D)

  new-allowed : Allowed f (write_each (to_log 0 (header 0 G D) ∷ []) C)
  new-allowed = inr (inr (new-written ∙ sym (new-memory f)))

  last-fine : (l : Grain) → Fine l f (medium C (to_log 0 (header 0 G D) ∷ []))
  unfolding loses chop_all zero_pieces write write_each
  last-fine words chosen =
      rw (header-words G D)
      (unfold write_chosen in
      subst (Allowed f)
      (sym (quiet-words 6 16 chosen 2 (two (chosen 0) (chosen 1)) (quiet-two (chosen 0) (chosen 1)) (omega arith) (omega arith)))
      (two-allowed (chosen 0) (chosen 1)))
  last-fine blocks chosen = rw (header-block G D) (unfold write_chosen in go (chosen 0))
    where
      go : (b : Bool) → Allowed f (write_if b (to_log 0 (header 0 G D)) C)
      go true = unfold write_if in new-allowed
      go false = unfold write_if in inr (inl (unmarked-closed G D (sizes f) C (unmarked-cleared G D)))

-- the records between the headers

abbrev pub Unparted : Grain → Record → Type 0
Unparted l (GW slot group) = parted l group ≡ false
Unparted l (HW home block) = Unit {0}
Unparted l (KW header) = Unit {0}
Unparted l FN = Unit {0}

no_words : (l : Grain) (T : List Record) → All (Unparted l) T → first_words l T ≡ []
unfolding first_words head_of
no_words l [] p = refl
no_words l (GW slot group ∷ T) p = rw (p.0, no_words l T p.1)
no_words l (HW home block ∷ T) p = no_words l T p.1
no_words l (KW header ∷ T) p = no_words l T p.1
no_words l (FN ∷ T) p = no_words l T p.1

unused-unparted : (l : Grain) (G start slot : ℕ) → parted l (unused_group G start slot) ≡ false
unfolding parted unused_group zeros part same
unused-unparted words G start slot = refl
unused-unparted blocks G start slot = refl

pub unparted-blanks : (l : Grain) (G start n : ℕ) → All (Unparted l) (blank_writes G start n)
unfolding blank_writes
unparted-blanks l G start zero = tt
unparted-blanks l G start (suc n) = all_append (Unparted l) (blank_writes G start n) _ (unparted-blanks l G start n) (unused-unparted l G start n, tt)

pub unparted-zeros : (l : Grain) (n : ℕ) → All (Unparted l) (zero_homes n)
unfolding zero_homes
unparted-zeros l zero = tt
unparted-zeros l (suc n) = all_append (Unparted l) (zero_homes n) _ (unparted-zeros l n) (tt, tt)

unwiped : (l : Grain) (T : List Record) → NoHeader T → All (Unwiped l) T
unwiped l [] n = tt
unwiped l (GW slot group ∷ T) n = (tt, unwiped l T n)
unwiped l (HW home block ∷ T) n = (tt, unwiped l T n)
unwiped l (KW header ∷ T) n = absurd n
unwiped l (FN ∷ T) n = (tt, unwiped l T n)

fits-blanks : (G D n : ℕ) → n ≤ G → All (Fits G D (unused_group G 0) (header 0 G D)) (blank_writes G 0 n)
unfolding blank_writes
fits-blanks G D zero l = tt
fits-blanks G D (suc n) l =
    all_append (Fits G D (unused_group G 0) (header 0 G D)) (blank_writes G 0 n) _ (fits-blanks G D n (omega arith)) ((l, refl, length-unused_group G 0 n), tt)

fits-zeros : (G D n : ℕ) → n ≤ 65535 → All (Fits G D (unused_group G 0) (header 0 G D)) (zero_homes n)
unfolding zero_homes
fits-zeros G D zero l = tt
fits-zeros G D (suc n) l =
    all_append (Fits G D (unused_group G 0) (header 0 G D)) (zero_homes n) _ (fits-zeros G D n (omega arith)) ((omega arith, length-zeros 64), tt)

-- the whole format

-- on words the zeros go out once more
unfoldable again : Grain → List Motion
again words = put (to_log 0 (zeros 64)) ∷ wait ∷ []
again blocks = []

begins : (l : Grain) (rs : List Record)
    → motions l [] (KW (zeros 64) ∷ FN ∷ rs) ≡ put (to_log 0 (zeros (unit_of l))) ∷ wait ∷ (again l ++ motions l [] rs)
unfolding motions wipe heads_out again unit_of zeros part same
begins words rs = refl
begins blocks rs = refl

ends : (l : Grain) (G D : ℕ) → motions l [] (KW (header 0 G D) ∷ FN ∷ []) ≡ put (to_log 0 (header 0 G D)) ∷ wait ∷ []
unfolding motions wipe heads_out header zeros part same
ends words G D = refl
ends blocks G D = refl

first-chopped : (l : Grain) → chop l (to_log 0 (zeros (unit_of l))) ≡ to_log 0 (zeros (unit_of l)) ∷ []
unfolding chop unit_of chop_log zeros
first-chopped words = refl
first-chopped blocks = refl

module _ (l : Grain) {G D : ℕ} (f : Formatting G D) where
  abbrev old : Memory
  old = f.memory

  abbrev wiped : Memory
  wiped = record { log = puts f.memory.log 0 (zeros 64); area = f.memory.area }

  abbrev p₀ : Piece
  p₀ = to_log 0 (zeros (unit_of l))

  unmarked-front : (n : ℕ) → 2 ≤ n → n ≤ 64 → Unmarked G D (write (to_log 0 (zeros n)) old)
  unfolding write
  unmarked-front n h k =
      record {
        log = length-puts f.memory.log 0 (zeros n) ∙ f.log_size;
        area = f.area_size;
        mark =
            part-inside f.memory.log 0 (zeros n) 0 2 (omega (arith, length-zeros n, f.log_size)) (omega (arith, length-zeros n))
            ∙ part-of-zeros n 0 2 (omega arith);
      }

  front : Unmarked G D (write p₀ old)
  front = go l
    where
      go : (k : Grain) → Unmarked G D (write (to_log 0 (zeros (unit_of k))) old)
      go words = unfold unit_of in unmarked-front 8 (omega arith) (omega arith)
      go blocks = unfold unit_of in unmarked-front 64 (omega arith) (omega arith)

  old-fine : Fine l f (medium old [])
  unfolding loses chop_all write_chosen
  old-fine chosen = inl refl

  first_fine : Fine l f (medium old (p₀ ∷ []))
  unfolding loses chop_all
  first_fine chosen = rw (first-chopped l) (unfold write_chosen in go (chosen 0))
    where
      go : (b : Bool) → Allowed f (write_if b p₀ old)
      go true = unfold write_if in inr (inl (unmarked-closed G D (sizes f) _ front))
      go false = unfold write_if in inl refl

  abbrev T : List Record
  T = blank_writes G 0 G ++ zero_homes D

  no_header : NoHeader T
  no_header = no-header-append (blank_writes G 0 G) (zero_homes D) (no-header-blanks G 0 G) (no-header-zeros D)

  fits : All (Fits G D (unused_group G 0) (header 0 G D)) T
  fits =
      all_append (Fits G D (unused_group G 0) (header 0 G D)) (blank_writes G 0 G) (zero_homes D) (fits-blanks G D G (omega arith))
      (fits-zeros G D D (sizes f).homes)

  no-words-wait : first_words l T ≡ []
  no-words-wait = no_words l T (all_append (Unparted l) (blank_writes G 0 G) (zero_homes D) (unparted-blanks l G 0 G) (unparted-zeros l D))

  between : motions l [] (T ++ (FN ∷ KW (header 0 G D) ∷ FN ∷ [])) ≡ puttings (bodies l T) ++ (wait ∷ (put (to_log 0 (header 0 G D)) ∷ wait ∷ []))
  unfolding puttings heads_out
  between =
      motions-fenced l [] T (KW (header 0 G D) ∷ FN ∷ []) (none-cleared G D) (unwiped l T no_header) ∙ rw (no-words-wait, ends l G D) refl

  cleared-from : write_records (cleared G D) old ≡ record { log = cleared_log G; area = zeros (64 * D) }
      → write_records T wiped ≡ record { log = cleared_log G; area = zeros (64 * D) }
  unfolding cleared write_records write_each pieces write
  cleared-from e = e

  written : write_each (bodies l T) wiped ≡ record { log = cleared_log G; area = zeros (64 * D) }
  unfolding write_each
  written =
      ap (λ (x : List Piece). write_each x (write_each (bodies l T) wiped)) (sym no-words-wait)
      ∙ stretch-writes G D (unused_group G 0) (header 0 G D) (length-header 0 G D) l T wiped fits
      ∙ cleared-from (write-cleared G D old f.log_size f.area_size)

  end-fine : AllFine l f (medium (record { log = cleared_log G; area = zeros (64 * D) }) []) (put (to_log 0 (header 0 G D)) ∷ wait ∷ [])
  unfolding moves writes fences
  end-fine = (
    fine-unmarked l f (record { log = cleared_log G; area = zeros (64 * D) }) [] (unmarked-cleared G D) tt,
    (last-fine f l, λ chosen. (unfold loses chop_all write_chosen in new-allowed f)),
  )

  rest-fine : AllFine l f (medium wiped []) (motions l [] (T ++ (FN ∷ KW (header 0 G D) ∷ FN ∷ [])))
  rest-fine =
      let more : List Motion = put (to_log 0 (header 0 G D)) ∷ wait ∷ [] in
      let u : Unmarked G D wiped = unmarked-first G D old f.log_size f.area_size in
      let h : All (Harmless l G D) (bodies l T) = harmless-bodies G D l T no_header in
      let k : AllFine l f (medium (write_each (bodies l T) wiped) []) more = subst (λ (x : Memory). AllFine l f (medium x []) more) (sym written) end-fine in
      rw between (puts-fine l f (bodies l T) wiped [] (wait ∷ more) u tt h (wait-fine l f wiped (bodies l T) more u h k))

  again-fine : (ms : List Motion) → AllFine l f (medium wiped []) ms → AllFine l f (medium (write p₀ old) []) (again l ++ ms)
  unfolding unit_of
  again-fine ms a = go l front a
    where
      go : (k : Grain) → Unmarked G D (write (to_log 0 (zeros (unit_of k))) old) → AllFine l f (medium wiped []) ms
          → AllFine l f (medium (write (to_log 0 (zeros (unit_of k))) old) []) (again k ++ ms)
      go words u a =
          unfold again moves writes in (
            fine-unmarked l f (write (to_log 0 (zeros 8)) old) [] (unfold unit_of in u) tt,
            wait-fine l f (write (to_log 0 (zeros 8)) old) (to_log 0 (zeros 64) ∷ []) ms (unfold unit_of in u) (harmless-zeros l G D, tt)
                (subst (λ (x : Memory). AllFine l f (medium x []) ms) (sym over) a),
          )
        where
          over : write_each (to_log 0 (zeros 64) ∷ []) (write (to_log 0 (zeros 8)) old) ≡ wiped
          over =
              unfold write_each write in
              ap {B = Memory} (λ (x : List ℕ). record { log = x; area = f.memory.area })
              (puts-over f.memory.log (zeros 8) (zeros 64) (omega (arith, length-zeros 8, length-zeros 64)))
      go blocks u a = unfold again unit_of write in a

  format-fine : AllFine l f (medium old []) (motions l [] (formatted G D))
  unfolding formatted
  format-fine =
      rw (← append_assoc (blank_writes G 0 G) (zero_homes D) (FN ∷ KW (header 0 G D) ∷ FN ∷ []), begins l (T ++ (FN ∷ KW (header 0 G D) ∷ FN ∷ [])))
      (unfold moves writes fences write_each in (old-fine, (first_fine, again-fine _ rest-fine)))

pub format-cut-runner : FormatCutRunner
format-cut-runner l G D f many chosen =
    rw (format-records f) (fine-cut l f (motions l [] (formatted G D)) (record { lasting = f.memory; written = [] }) (format-fine l f) many chosen)
