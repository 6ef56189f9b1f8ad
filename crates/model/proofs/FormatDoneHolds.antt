-- When a format is done, and how long its batch is. Assumes nothing.
use Prim.Native.Nat.{ℕ, zero, suc, ◌+◌, ◌*◌, ◌≤◌}
use mathlib.Core.Path.{◌≡◌, refl, sym, ◌∙◌}
use mathlib.Core.Bool.{Bool, true, false, ◌&&◌}
use mathlib.Core.List.{List, [], ◌∷◌, ◌++◌}
use native.Mathlib.Omega.{arith}
use lib.Dec.{eqb, leb}
use lib.ListN.{length, length-append, length-replicate}
use borrow.Author.Tests.{le-leb, lt-leb, leb-true, eqb-true, eq-eqb}
use Rattle.model.specs.Bytes.{zeros, bytes}
use Rattle.model.specs.Layout.{group_count, home_count, log_length_right, data_length_right, header, turn_blocks, unused_group}
use Rattle.model.specs.Batch.{Record, GW, HW, KW, FN, record_bytes, batch_bytes}
use Rattle.model.specs.Effects.{Given, Effect, blank_writes, zero_homes, formatted, format_effect, groups, homes}
use Rattle.model.specs.Questions.{ask, areas_right, batch_fits, format_answer}
use Rattle.model.specs.Calls.{done, refused, size_of, outcome, format_call}
use Rattle.model.specs.FormatDone.{Right, FormatAnswers, FormatDone, FormatWrong}

-- ---- how long the batch is

length-zeros : (n : ℕ) → length (zeros n) ≡ n
unfolding zeros
length-zeros n = length-replicate n 0

length-turns : (k turn : ℕ) → length (turn_blocks k turn) ≡ 64 * k
unfolding turn_blocks
length-turns zero turn = refl
length-turns (suc k) turn = simp (length-append, length-zeros) (omega (arith, length-turns k turn))

length-group : (groups start slot : ℕ) → length (record_bytes (GW slot (unused_group groups start slot))) ≡ 516
unfolding record_bytes bytes unused_group
length-group groups start slot = simp (length-append, length-zeros, length-turns)

length-home : (n : ℕ) → length (record_bytes (HW n (zeros 64))) ≡ 68
unfolding record_bytes bytes
length-home n = simp length-zeros

length-header : (groups homes : ℕ) → length (record_bytes (KW (header 0 groups homes))) ≡ 66
unfolding record_bytes header bytes
length-header groups homes = simp length-zeros

length-first : (r : Record) (rs : List Record) → length (batch_bytes (r ∷ rs)) ≡ length (record_bytes r) + length (batch_bytes rs)
unfolding batch_bytes
length-first r rs = length-append (record_bytes r) (batch_bytes rs)

length_none : length (batch_bytes []) ≡ 0
unfolding batch_bytes
length_none = refl

length-joined : (rs ss : List Record) → length (batch_bytes (rs ++ ss)) ≡ length (batch_bytes rs) + length (batch_bytes ss)
length-joined [] ss = omega (arith, length_none)
length-joined (r ∷ rs) ss = rw (length-first r (rs ++ ss), length-first r rs, length-joined rs ss) (omega arith)

length-groups : (groups start n : ℕ) → length (batch_bytes (blank_writes groups start n)) ≡ 516 * n
unfolding blank_writes
length-groups groups start zero = length_none
length-groups groups start (suc n) =
    rw (length-joined, length-first, length_none, length-groups groups start n, length-group groups start n) (omega arith)

length-homes : (n : ℕ) → length (batch_bytes (zero_homes n)) ≡ 68 * n
unfolding zero_homes
length-homes zero = length_none
length-homes (suc n) = rw (length-joined, length-first, length_none, length-homes n, length-home n) (omega arith)

length-zeroed : length (record_bytes (KW (zeros 64))) ≡ 66
unfolding record_bytes
length-zeroed = omega (arith, length-zeros 64)

length-fence : length (record_bytes FN) ≡ 2
unfolding record_bytes
length-fence = refl

length-formatted : (groups homes : ℕ) → length (batch_bytes (formatted groups homes)) ≡ 138 + 516 * groups + 68 * homes
unfolding formatted
length-formatted groups homes =
    rw (
      length-first (KW (zeros 64)) _,
      length-first FN (blank_writes groups 0 groups ++ _),
      length-joined (blank_writes groups 0 groups) _,
      length-joined (zero_homes homes) _,
      length-first FN (KW (header 0 groups homes) ∷ FN ∷ []),
      length-first (KW (header 0 groups homes)) (FN ∷ []),
      length-first FN [],
      length_none,
      length-fence,
      length-zeroed,
      length-header groups homes,
      length-groups groups 0 groups,
      length-homes homes,
    )
    (omega arith)

-- ---- the two questions

both : (a b : Bool) → a ≡ true → b ≡ true → (a && b) ≡ true
both true b e f = f
both false b e f = cc

left : (a b : Bool) → (a && b) ≡ true → a ≡ true
left true b e = refl
left false b e = e

right : (a b : Bool) → (a && b) ≡ true → b ≡ true
right true b e = e
right false b e = cc

yes : (b : Bool) (k v : ℕ) → b ≡ true → ask b k v ≡ v
unfolding ask
yes true k v e = refl
yes false k v e = cc

no : (b : Bool) (k v : ℕ) → b ≡ false → ask b k v ≡ k
unfolding ask
no true k v e = cc
no false k v e = refl

code_is : (g : Given) (a : ℕ) (e : Effect) → (outcome g a e).code ≡ a
unfolding outcome done refused
code_is g zero e = refl
code_is g (suc k) e = refl

size_is : (g : Given) (a : ℕ) (e : Effect) → a ≡ 0 → (outcome g a e).size ≡ size_of e
unfolding outcome done size_of
size_is g zero e h = refl
size_is g (suc k) e h = absurd (omega arith)

module _ (G D : ℕ) (g : Given) (r : Right G D g) where
  groups-are : groups g ≡ G
  unfolding group_count
  groups-are = omega (arith, r.log)

  homes-are : homes g ≡ D
  unfolding home_count
  homes-are = omega (arith, r.area)

  areas : areas_right g ≡ true
  unfolding areas_right
  areas = both (log_length_right (length g.log)) (data_length_right (length g.area)) log-right area-right
    where
      log-right : log_length_right (length g.log) ≡ true
      log-right = unfold log_length_right in rw (groups-are, eq-eqb (length g.log) (64 + 512 * G) r.log, le-leb 4 G r.least_groups, le-leb G 1024 r.most_groups)

      area-right : data_length_right (length g.area) ≡ true
      area-right = unfold data_length_right in rw (homes-are, eq-eqb (length g.area) (64 * D) r.area, le-leb 1 D r.least_homes, le-leb D 65535 r.most_homes)

  size-of : size_of (format_effect g) ≡ 138 + 516 * G + 68 * D
  unfolding size_of format_effect
  size-of = rw (groups-are, homes-are) (length-formatted G D)

  answers : FormatAnswers G D g
  unfolding format_call format_answer batch_fits
  answers =
      record {
        done =
            λ h.
            code_is g _ _ ∙ yes (areas_right g) 1 _ areas
            ∙ yes (leb (size_of (format_effect g)) (length g.batch)) 9 0 (le-leb (size_of (format_effect g)) (length g.batch) (omega (arith, size-of)));
        size = λ h. size_is g _ _ (sym (code_is g _ _) ∙ h) ∙ size-of;
        short =
            λ h.
            code_is g _ _ ∙ yes (areas_right g) 1 _ areas
            ∙ no (leb (size_of (format_effect g)) (length g.batch)) 9 0 (lt-leb (size_of (format_effect g)) (length g.batch) (omega (arith, size-of)));
      }

pub format-done : FormatDone
format-done G D g r = answers G D g r

-- ---- other lengths

log-right-of : (n : ℕ) → log_length_right n ≡ true → (n ≡ 64 + 512 * group_count n) × (4 ≤ group_count n) × (group_count n ≤ 1024)
unfolding log_length_right
log-right-of n h =
    let f : (eqb n (64 + 512 * group_count n) && leb 4 (group_count n)) ≡ true = left _ (leb (group_count n) 1024) h in
    (eqb-true n (64 + 512 * group_count n) (left _ (leb 4 (group_count n)) f), leb-true 4 (group_count n) (right (eqb n (64 + 512 * group_count n)) _ f), leb-true (group_count n) 1024 (right (eqb n (64 + 512 * group_count n) && leb 4 (group_count n)) _ h))

area-right-of : (n : ℕ) → data_length_right n ≡ true → (n ≡ 64 * home_count n) × (1 ≤ home_count n) × (home_count n ≤ 65535)
unfolding data_length_right
area-right-of n h =
    let f : (eqb n (64 * home_count n) && leb 1 (home_count n)) ≡ true = left _ (leb (home_count n) 65535) h in
    (eqb-true n (64 * home_count n) (left _ (leb 1 (home_count n)) f), leb-true 1 (home_count n) (right (eqb n (64 * home_count n)) _ f), leb-true (home_count n) 65535 (right (eqb n (64 * home_count n) && leb 1 (home_count n)) _ h))

right_of : (g : Given) → areas_right g ≡ true → Right (groups g) (homes g) g
unfolding areas_right
right_of g h =
    let l = log-right-of (length g.log) (left (log_length_right (length g.log)) (data_length_right (length g.area)) h) in
    let a = area-right-of (length g.area) (right (log_length_right (length g.log)) (data_length_right (length g.area)) h) in
    record { least_groups = l.1; most_groups = l.2; least_homes = a.1; most_homes = a.2; log = l.0; area = a.0 }

pub format-wrong : FormatWrong
unfolding format_call format_answer
format-wrong g w = code_is g _ _ ∙ go (areas_right g) refl
  where
    go : (b : Bool) → areas_right g ≡ b → ask (areas_right g) 1 (ask (batch_fits g (size_of (format_effect g))) 9 0) ≡ 1
    go true e = absurd (w (groups g) (homes g) (right_of g e))
    go false e = no (areas_right g) 1 _ e
