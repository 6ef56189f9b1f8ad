-- Laws of the definitions of specs/Crash: which records persist at a crash, by the fences passed and the choice after the last of them, and the
-- fates of the groups. What the memory then holds is in SubmitLaws and HomeLaws.
-- A law takes its variables in the order in which its left side first names them, then its premises. Assumes nothing.
use mathlib.Core.Path.{◌≡◌, refl, ap, ◌∙◌}
use mathlib.Core.Bool.{Bool, true, false, cond}
use mathlib.Core.List.{List, [], ◌∷◌, ◌++◌, append_assoc, append-nil}
use Prim.Native.Nat.{ℕ, zero, suc, ◌+◌, ◌-◌, ◌*◌, ◌%◌, ◌≤◌, ◌<◌}
use native.Mathlib.Nat.{add_assoc, add-zero}
use native.Mathlib.Omega.{arith}
use lib.ListN.{length}
use Rattle.model.specs.Bytes.{puts}
use Rattle.model.specs.Layout.{put_home}
use Rattle.model.specs.Batch.{Record, GW, HW, KW, FN}
use Rattle.model.specs.Effects.{home_writes}
use Rattle.model.specs.Crash.{Memory, Piece, to_log, to_area, blocks, pieces, write, write_each, write_if, write_chosen, many, is_fence, fences, persist_chosen, persist, group_fate, fates_chosen, fates}
use Rattle.model.specs.Book.{fate_at}
use Rattle.model.specs.DemandTwo.{group_writes}
use Rattle.model_laws.proofs.bytes.ByteLaws.{length-puts}

-- ---- what the laws speak of

-- all records written, in order
unfoldable pub write_records : List Record → Memory → Memory
write_records [] m = m
write_records (r ∷ rs) m = write_records rs (write_each (pieces r) m)

-- the fates of n groups that persisted whole
unfoldable pub trues : ℕ → List (ℕ → Bool)
trues zero = []
trues (suc n) = (λ k. true) ∷ trues n

-- no record is a fence
abbrev pub NoFence : List Record → Type 0
NoFence [] = Unit {0}
NoFence (r ∷ rs) = (is_fence r ≡ false) × NoFence rs

-- the writes of the groups from number n₀ on, k of them, in a ring of G
unfoldable pub submits : ℕ → ℕ → (ℕ → List ℕ) → ℕ → List Record
submits G n₀ bytes zero = []
submits G n₀ bytes (suc k) = submits G n₀ bytes k ++ (GW ((n₀ + k) % G) (bytes (n₀ + k)) ∷ [])

-- how many pieces some records have
unfoldable pub piece_count : List Record → ℕ
piece_count [] = 0
piece_count (r ∷ rs) = many (pieces r) + piece_count rs

-- ---- fences and group writes counted

pub fences-append : (R S : List Record) → fences (R ++ S) ≡ fences R + fences S
unfolding fences
fences-append [] S = omega arith
fences-append (r ∷ R) S = rw (fences-append R S, add_assoc)

pub fences-fence : (R : List Record) → fences (R ++ (FN ∷ [])) ≡ fences R + 1
unfolding fences is_fence
fences-fence R = fences-append R (FN ∷ [])

pub group_writes-append : (R S : List Record) → group_writes (R ++ S) ≡ group_writes R + group_writes S
unfolding group_writes
group_writes-append [] S = omega arith
group_writes-append (GW slot group ∷ R) S = omega (arith, group_writes-append R S)
group_writes-append (HW home block ∷ R) S = group_writes-append R S
group_writes-append (KW header ∷ R) S = group_writes-append R S
group_writes-append (FN ∷ R) S = group_writes-append R S

pub group_writes-fence : (R : List Record) → group_writes (R ++ (FN ∷ [])) ≡ group_writes R
unfolding group_writes
group_writes-fence R = group_writes-append R (FN ∷ []) ∙ add-zero (group_writes R)

pub piece_count-append : (R S : List Record) → piece_count (R ++ S) ≡ piece_count R + piece_count S
unfolding piece_count
piece_count-append [] S = omega arith
piece_count-append (r ∷ R) S = rw (piece_count-append R S, add_assoc)

-- ---- no fence

pub fences-none : (R : List Record) → NoFence R → fences R ≡ 0
unfolding fences
fences-none [] f = refl
fences-none (r ∷ R) f = rw f.0 (omega (arith, fences-none R f.1))

pub none-fences : (R : List Record) → fences R ≡ 0 → NoFence R
unfolding fences is_fence
none-fences [] e = tt
none-fences (GW slot group ∷ R) e = (refl, none-fences R (omega arith))
none-fences (HW home block ∷ R) e = (refl, none-fences R (omega arith))
none-fences (KW header ∷ R) e = (refl, none-fences R (omega arith))
none-fences (FN ∷ R) e = absurd (omega arith)

pub none-append : (R S : List Record) → NoFence R → NoFence S → NoFence (R ++ S)
none-append [] S f g = g
none-append (r ∷ R) S f g = (f.0, none-append R S f.1 g)

pub none_left : (R S : List Record) → NoFence (R ++ S) → NoFence R
none_left [] S f = tt
none_left (r ∷ R) S f = (f.0, none_left R S f.1)

pub none_right : (R S : List Record) → NoFence (R ++ S) → NoFence S
none_right [] S f = f
none_right (r ∷ R) S f = none_right R S f.1

pub none-header : (header : List ℕ) → NoFence (KW header ∷ [])
unfolding is_fence
none-header header = (refl, tt)

-- the writes of groups
none-group : (slot : ℕ) (group : List ℕ) → NoFence (GW slot group ∷ [])
unfolding is_fence
none-group slot group = (refl, tt)

pub none-submits : (G n₀ : ℕ) (bytes : ℕ → List ℕ) (k : ℕ) → NoFence (submits G n₀ bytes k)
unfolding submits
none-submits G n₀ bytes zero = tt
none-submits G n₀ bytes (suc k) =
    none-append (submits G n₀ bytes k) (GW ((n₀ + k) % G) (bytes (n₀ + k)) ∷ []) (none-submits G n₀ bytes k) (none-group _ _)

pub fences-submits : (G n₀ : ℕ) (bytes : ℕ → List ℕ) (k : ℕ) → fences (submits G n₀ bytes k) ≡ 0
fences-submits G n₀ bytes k = fences-none (submits G n₀ bytes k) (none-submits G n₀ bytes k)

pub group_writes-submits : (G n₀ : ℕ) (bytes : ℕ → List ℕ) (k : ℕ) → group_writes (submits G n₀ bytes k) ≡ k
unfolding submits group_writes
group_writes-submits G n₀ bytes zero = refl
group_writes-submits G n₀ bytes (suc k) = rw group_writes-append (omega (arith, group_writes-submits G n₀ bytes k))

-- a group has eight pieces
pub piece_count-submits : (G n₀ : ℕ) (bytes : ℕ → List ℕ) (k : ℕ) → piece_count (submits G n₀ bytes k) ≡ 8 * k
unfolding submits piece_count pieces blocks many
piece_count-submits G n₀ bytes zero = refl
piece_count-submits G n₀ bytes (suc k) = rw piece_count-append (omega (arith, piece_count-submits G n₀ bytes k))

-- the writes of homes
pub none-homes : (area hs : List ℕ) → NoFence (home_writes area hs)
unfolding home_writes is_fence
none-homes area [] = tt
none-homes area (h ∷ hs) = (refl, none-homes area hs)

pub fences-homes : (area hs : List ℕ) → fences (home_writes area hs) ≡ 0
fences-homes area hs = fences-none (home_writes area hs) (none-homes area hs)

pub group_writes-homes : (area hs : List ℕ) → group_writes (home_writes area hs) ≡ 0
unfolding home_writes group_writes
group_writes-homes area [] = refl
group_writes-homes area (h ∷ hs) = group_writes-homes area hs

pub piece_count-homes : (area hs : List ℕ) → piece_count (home_writes area hs) ≡ length hs
unfolding home_writes piece_count pieces many
piece_count-homes area [] = refl
piece_count-homes area (h ∷ hs) = omega (arith, piece_count-homes area hs)

-- ---- all records written

pub write-append : (R S : List Record) (m : Memory) → write_records (R ++ S) m ≡ write_records S (write_records R m)
unfolding write_records
write-append [] S m = refl
write-append (r ∷ R) S m = write-append R S (write_each (pieces r) m)

pub write-fence : (R : List Record) (m : Memory) → write_records (R ++ (FN ∷ [])) m ≡ write_records R m
unfolding write_records pieces write_each
write-fence R m = write-append R (FN ∷ []) m

pub write-nil : (m : Memory) → write_records [] m ≡ m
unfolding write_records
write-nil m = refl

pub write-FN : (m : Memory) → write_records (FN ∷ []) m ≡ m
unfolding write_records pieces write_each
write-FN m = refl

length-piece : (p : Piece) (m : Memory) → length (write p m).log ≡ length m.log
unfolding write
length-piece (to_log at bs) m = length-puts m.log at bs
length-piece (to_area at bs) m = refl

length-pieces : (ps : List Piece) (m : Memory) → length (write_each ps m).log ≡ length m.log
unfolding write_each
length-pieces [] m = refl
length-pieces (p ∷ ps) m = length-pieces ps (write p m) ∙ length-piece p m

pub length-write : (R : List Record) (m : Memory) → length (write_records R m).log ≡ length m.log
unfolding write_records
length-write [] m = refl
length-write (r ∷ R) m = length-write R (write_each (pieces r) m) ∙ length-pieces (pieces r) m

-- ---- a fence that has not passed stops everything after it

pub chosen-stop : (chosen : ℕ → Bool) (i : ℕ) (R S : List Record) (m : Memory) → 0 < fences R
    → persist_chosen chosen i (R ++ S) m ≡ persist_chosen chosen i R m
unfolding persist_chosen fences is_fence
chosen-stop chosen i [] S m h = absurd (omega arith)
chosen-stop chosen i (GW slot group ∷ R) S m h = chosen-stop chosen (i + many (pieces (GW slot group))) R S _ (omega arith)
chosen-stop chosen i (HW home block ∷ R) S m h = chosen-stop chosen (i + many (pieces (HW home block))) R S _ (omega arith)
chosen-stop chosen i (KW header ∷ R) S m h = chosen-stop chosen (i + many (pieces (KW header))) R S _ (omega arith)
chosen-stop chosen i (FN ∷ R) S m h = refl

pub persist-stop : (passed : ℕ) (chosen : ℕ → Bool) (R S : List Record) (m : Memory) → passed < fences R
    → persist passed chosen (R ++ S) m ≡ persist passed chosen R m
unfolding persist fences is_fence
persist-stop zero chosen [] S m h = absurd (omega arith)
persist-stop zero chosen (r ∷ R) S m h = chosen-stop chosen 0 (r ∷ R) S m h
persist-stop (suc n) chosen [] S m h = absurd (omega arith)
persist-stop (suc n) chosen (GW slot group ∷ R) S m h = persist-stop (suc n) chosen R S _ (omega arith)
persist-stop (suc n) chosen (HW home block ∷ R) S m h = persist-stop (suc n) chosen R S _ (omega arith)
persist-stop (suc n) chosen (KW header ∷ R) S m h = persist-stop (suc n) chosen R S _ (omega arith)
persist-stop (suc n) chosen (FN ∷ R) S m h = persist-stop n chosen R S _ (omega arith)

pub fate-stop : (chosen : ℕ → Bool) (i : ℕ) (R S : List Record) → 0 < fences R → fates_chosen chosen i (R ++ S) ≡ fates_chosen chosen i R
unfolding fates_chosen fences is_fence group_fate
fate-stop chosen i [] S h = absurd (omega arith)
fate-stop chosen i (GW slot group ∷ R) S h = rw (fate-stop chosen (i + many (pieces (GW slot group))) R S (omega arith))
fate-stop chosen i (HW home block ∷ R) S h = fate-stop chosen (i + many (pieces (HW home block))) R S (omega arith)
fate-stop chosen i (KW header ∷ R) S h = fate-stop chosen (i + many (pieces (KW header))) R S (omega arith)
fate-stop chosen i (FN ∷ R) S h = refl

pub fates-stop : (passed : ℕ) (chosen : ℕ → Bool) (R S : List Record) → passed < fences R
    → fates passed chosen (R ++ S) ≡ fates passed chosen R
unfolding fates fences is_fence group_fate
fates-stop zero chosen [] S h = absurd (omega arith)
fates-stop zero chosen (r ∷ R) S h = fate-stop chosen 0 (r ∷ R) S h
fates-stop (suc n) chosen [] S h = absurd (omega arith)
fates-stop (suc n) chosen (GW slot group ∷ R) S h = rw (fates-stop (suc n) chosen R S (omega arith))
fates-stop (suc n) chosen (HW home block ∷ R) S h = fates-stop (suc n) chosen R S (omega arith)
fates-stop (suc n) chosen (KW header ∷ R) S h = fates-stop (suc n) chosen R S (omega arith)
fates-stop (suc n) chosen (FN ∷ R) S h = fates-stop n chosen R S (omega arith)

-- ---- records before a passed fence are all written

pub persist-zero : (chosen : ℕ → Bool) (T : List Record) (m : Memory) → persist 0 chosen T m ≡ persist_chosen chosen 0 T m
unfolding persist persist_chosen
persist-zero chosen [] m = refl
persist-zero chosen (r ∷ T) m = refl

pub fates-zero : (chosen : ℕ → Bool) (T : List Record) → fates 0 chosen T ≡ fates_chosen chosen 0 T
unfolding fates fates_chosen
fates-zero chosen [] = refl
fates-zero chosen (r ∷ T) = refl

-- one more fence has passed than R has: R is all written, and what follows goes on
past : (passed n : ℕ) (chosen : ℕ → Bool) (R S : List Record) (m : Memory) → passed ≡ fences R + suc n
    → persist passed chosen (R ++ S) m ≡ persist (suc n) chosen S (write_records R m)
unfolding persist fences is_fence write_records
past zero n chosen R S m e = absurd (omega arith)
past (suc p) n chosen [] S m e = let q : p ≡ n = omega arith in rw q
past (suc p) n chosen (GW slot group ∷ R) S m e = past (suc p) n chosen R S _ (omega arith)
past (suc p) n chosen (HW home block ∷ R) S m e = past (suc p) n chosen R S _ (omega arith)
past (suc p) n chosen (KW header ∷ R) S m e = past (suc p) n chosen R S _ (omega arith)
past (suc p) n chosen (FN ∷ R) S m e = past p n chosen R S _ (omega arith)

pub persist-past : (R : List Record) (n : ℕ) (chosen : ℕ → Bool) (S : List Record) (m : Memory)
    → persist (fences R + suc n) chosen (R ++ S) m ≡ persist (suc n) chosen S (write_records R m)
persist-past R n chosen S m = past (fences R + suc n) n chosen R S m refl

-- the fence at the end of R has passed, and n more
pub persist-fenced : (R : List Record) (n : ℕ) (chosen : ℕ → Bool) (S : List Record) (m : Memory)
    → persist (fences (R ++ (FN ∷ [])) + n) chosen ((R ++ (FN ∷ [])) ++ S) m ≡ persist n chosen S (write_records R m)
unfolding persist is_fence pieces write_each
persist-fenced R n chosen S m =
    let e : fences R + 1 + n ≡ fences R + suc n = omega arith in
    rw (append_assoc, fences-fence, e) (persist-past R n chosen (FN ∷ S) m)

-- what persists where the fence at the end of R was the last to pass
pub persist-last : (R : List Record) (chosen : ℕ → Bool) (T : List Record) (m : Memory)
    → persist (fences (R ++ (FN ∷ []))) chosen ((R ++ (FN ∷ [])) ++ T) m ≡ persist_chosen chosen 0 T (write_records R m)
persist-last R chosen T m = rw add-zero at (persist-fenced R 0 chosen T m) ∙ persist-zero chosen T (write_records R m)

fate-past : (passed n : ℕ) (chosen : ℕ → Bool) (R S : List Record) → passed ≡ fences R + suc n
    → fates passed chosen (R ++ S) ≡ trues (group_writes R) ++ fates (suc n) chosen S
unfolding fates fences is_fence group_fate trues group_writes
fate-past zero n chosen R S e = absurd (omega arith)
fate-past (suc p) n chosen [] S e = let q : p ≡ n = omega arith in rw q
fate-past (suc p) n chosen (GW slot group ∷ R) S e = rw (fate-past (suc p) n chosen R S (omega arith))
fate-past (suc p) n chosen (HW home block ∷ R) S e = fate-past (suc p) n chosen R S (omega arith)
fate-past (suc p) n chosen (KW header ∷ R) S e = fate-past (suc p) n chosen R S (omega arith)
fate-past (suc p) n chosen (FN ∷ R) S e = fate-past p n chosen R S (omega arith)

pub fates-past : (R : List Record) (n : ℕ) (chosen : ℕ → Bool) (S : List Record)
    → fates (fences R + suc n) chosen (R ++ S) ≡ trues (group_writes R) ++ fates (suc n) chosen S
fates-past R n chosen S = fate-past (fences R + suc n) n chosen R S refl

pub fates-fenced : (R : List Record) (n : ℕ) (chosen : ℕ → Bool) (S : List Record)
    → fates (fences (R ++ (FN ∷ [])) + n) chosen ((R ++ (FN ∷ [])) ++ S) ≡ trues (group_writes R) ++ fates n chosen S
unfolding fates is_fence group_fate
fates-fenced R n chosen S =
    let e : fences R + 1 + n ≡ fences R + suc n = omega arith in
    rw (append_assoc, fences-fence, e) (fates-past R n chosen (FN ∷ S))

pub fates-last : (R : List Record) (chosen : ℕ → Bool) (T : List Record)
    → fates (fences (R ++ (FN ∷ []))) chosen ((R ++ (FN ∷ [])) ++ T) ≡ trues (group_writes R) ++ fates_chosen chosen 0 T
fates-last R chosen T = rw (← fates-zero chosen T) (rw add-zero at (fates-fenced R 0 chosen T))

-- ---- a stretch with no fence, record by record

chosen-step : (chosen : ℕ → Bool) (i : ℕ) (r : Record) (rs : List Record) (m : Memory) → is_fence r ≡ false
    → persist_chosen chosen i (r ∷ rs) m ≡ persist_chosen chosen (i + many (pieces r)) rs (write_chosen chosen i (pieces r) m)
unfolding persist_chosen
chosen-step chosen i r rs m e = rw e

fate-step : (chosen : ℕ → Bool) (i : ℕ) (r : Record) (rs : List Record) → is_fence r ≡ false
    → fates_chosen chosen i (r ∷ rs) ≡ group_fate r (λ j. chosen (i + j)) ++ fates_chosen chosen (i + many (pieces r)) rs
unfolding fates_chosen
fate-step chosen i r rs e = rw e

pub chosen-nil : (chosen : ℕ → Bool) (i : ℕ) (m : Memory) → persist_chosen chosen i [] m ≡ m
unfolding persist_chosen
chosen-nil chosen i m = refl

pub fate-nil : (chosen : ℕ → Bool) (i : ℕ) → fates_chosen chosen i [] ≡ []
unfolding fates_chosen
fate-nil chosen i = refl

pub chosen-append : (chosen : ℕ → Bool) (i : ℕ) (S X : List Record) (m : Memory) → NoFence S
    → persist_chosen chosen i (S ++ X) m ≡ persist_chosen chosen (i + piece_count S) X (persist_chosen chosen i S m)
unfolding piece_count
chosen-append chosen i [] X m f = rw (chosen-nil, add-zero)
chosen-append chosen i (r ∷ S) X m f =
    chosen-step chosen i r (S ++ X) m f.0
    ∙ chosen-append chosen (i + many (pieces r)) S X (write_chosen chosen i (pieces r) m) f.1
    ∙ rw (chosen-step chosen i r S m f.0, add_assoc)

pub fate-append : (chosen : ℕ → Bool) (i : ℕ) (S X : List Record) → NoFence S
    → fates_chosen chosen i (S ++ X) ≡ fates_chosen chosen i S ++ fates_chosen chosen (i + piece_count S) X
unfolding piece_count
fate-append chosen i [] X f = rw (fate-nil, add-zero)
fate-append chosen i (r ∷ S) X f =
    rw (fate-step chosen i r (S ++ X) f.0, fate-step chosen i r S f.0, fate-append chosen (i + many (pieces r)) S X f.1, append_assoc, add_assoc)

-- it ends at the next fence
pub chosen-fence : (chosen : ℕ → Bool) (i : ℕ) (T S : List Record) (m : Memory) → NoFence T
    → persist_chosen chosen i (T ++ (FN ∷ S)) m ≡ persist_chosen chosen i T m
unfolding persist_chosen is_fence
chosen-fence chosen i T S m f = chosen-append chosen i T (FN ∷ S) m f

pub fate-fence : (chosen : ℕ → Bool) (i : ℕ) (T S : List Record) → NoFence T → fates_chosen chosen i (T ++ (FN ∷ S)) ≡ fates_chosen chosen i T
unfolding fates_chosen is_fence
fate-fence chosen i T S f = fate-append chosen i T (FN ∷ S) f ∙ append-nil (fates_chosen chosen i T)

-- a choice of everything writes all records
chosen-each : (i : ℕ) (ps : List Piece) (m : Memory) → write_chosen (λ k. true) i ps m ≡ write_each ps m
unfolding write_chosen write_each write_if
chosen-each i [] m = refl
chosen-each i (p ∷ ps) m = chosen-each (i + 1) ps (write p m)

pub chosen-all : (i : ℕ) (R : List Record) (m : Memory) → NoFence R → persist_chosen (λ k. true) i R m ≡ write_records R m
unfolding write_records
chosen-all i [] m f = chosen-nil (λ k. true) i m
chosen-all i (r ∷ R) m f =
    chosen-step (λ k. true) i r R m f.0
    ∙ chosen-all (i + many (pieces r)) R (write_chosen (λ k. true) i (pieces r) m) f.1
    ∙ rw (chosen-each i (pieces r) m)

-- ---- fates by number

pub length-trues : (n : ℕ) → length (trues n) ≡ n
unfolding trues
length-trues zero = refl
length-trues (suc n) = ap suc (length-trues n)

pub fate_at-short : (fs : List (ℕ → Bool)) (r k : ℕ) → length fs ≤ r → fate_at fs r k ≡ false
unfolding fate_at
fate_at-short [] r k h = refl
fate_at-short (f ∷ fs) zero k h = absurd (omega arith)
fate_at-short (f ∷ fs) (suc r) k h = fate_at-short fs r k (omega arith)

pub fate_at-left : (fs gs : List (ℕ → Bool)) (r k : ℕ) → r < length fs → fate_at (fs ++ gs) r k ≡ fate_at fs r k
unfolding fate_at
fate_at-left [] gs r k h = absurd (omega arith)
fate_at-left (f ∷ fs) gs zero k h = refl
fate_at-left (f ∷ fs) gs (suc r) k h = fate_at-left fs gs r k (omega arith)

pub fate_at-right : (fs gs : List (ℕ → Bool)) (r k n : ℕ) → length fs ≡ n → n ≤ r → fate_at (fs ++ gs) r k ≡ fate_at gs (r - n) k
unfolding fate_at
fate_at-right [] gs r k n e h = let q : r - n ≡ r = omega arith in rw q
fate_at-right (f ∷ fs) gs zero k n e h = absurd (omega arith)
fate_at-right (f ∷ fs) gs (suc r) k zero e h = absurd (omega arith)
fate_at-right (f ∷ fs) gs (suc r) k (suc n) e h =
    let q : suc r - suc n ≡ r - n = omega arith in rw q (fate_at-right fs gs r k n (omega arith) (omega arith))

pub fate_at-trues : (n : ℕ) (fs : List (ℕ → Bool)) (r k : ℕ) → r < n → fate_at (trues n ++ fs) r k ≡ true
unfolding fate_at trues
fate_at-trues zero fs r k h = absurd (omega arith)
fate_at-trues (suc n) fs zero k h = refl
fate_at-trues (suc n) fs (suc r) k h = fate_at-trues n fs r k (omega arith)

pub fate_at-after : (n : ℕ) (fs : List (ℕ → Bool)) (r k : ℕ) → n ≤ r → fate_at (trues n ++ fs) r k ≡ fate_at fs (r - n) k
fate_at-after n fs r k h = fate_at-right (trues n) fs r k n (length-trues n) h

-- no more fates than group writes
length-fates_chosen : (chosen : ℕ → Bool) (i : ℕ) (R : List Record) → length (fates_chosen chosen i R) ≤ group_writes R
unfolding fates_chosen is_fence group_fate group_writes
length-fates_chosen chosen i [] = omega arith
length-fates_chosen chosen i (GW slot group ∷ R) = omega (arith, length-fates_chosen chosen (i + many (pieces (GW slot group))) R)
length-fates_chosen chosen i (HW home block ∷ R) = length-fates_chosen chosen _ R
length-fates_chosen chosen i (KW header ∷ R) = length-fates_chosen chosen _ R
length-fates_chosen chosen i (FN ∷ R) = omega arith

pub length-fates : (passed : ℕ) (chosen : ℕ → Bool) (R : List Record) → length (fates passed chosen R) ≤ group_writes R
unfolding fates is_fence group_fate group_writes
length-fates passed chosen [] = omega arith
length-fates zero chosen (r ∷ R) = length-fates_chosen chosen 0 (r ∷ R)
length-fates (suc n) chosen (GW slot group ∷ R) = omega (arith, length-fates (suc n) chosen R)
length-fates (suc n) chosen (HW home block ∷ R) = length-fates (suc n) chosen R
length-fates (suc n) chosen (KW header ∷ R) = length-fates (suc n) chosen R
length-fates (suc n) chosen (FN ∷ R) = length-fates n chosen R

pub fate_at-none : (passed : ℕ) (chosen : ℕ → Bool) (R : List Record) (r k : ℕ) → group_writes R ≤ r
    → fate_at (fates passed chosen R) r k ≡ false
fate_at-none passed chosen R r k h =
    let l : length (fates passed chosen R) ≤ group_writes R = length-fates passed chosen R in
    fate_at-short (fates passed chosen R) r k (omega arith)

-- ---- a piece that may be written

pub if-log-area : (b : Bool) (at : ℕ) (bs : List ℕ) (m : Memory) → (write_if b (to_log at bs) m).area ≡ m.area
unfolding write_if write
if-log-area true at bs m = refl
if-log-area false at bs m = refl

pub if-log : (b : Bool) (at : ℕ) (bs : List ℕ) (m : Memory) → (write_if b (to_log at bs) m).log ≡ cond b (puts m.log at bs) m.log
unfolding write_if write
if-log true at bs m = refl
if-log false at bs m = refl

pub if-area-log : (b : Bool) (at : ℕ) (bs : List ℕ) (m : Memory) → (write_if b (to_area at bs) m).log ≡ m.log
unfolding write_if write
if-area-log true at bs m = refl
if-area-log false at bs m = refl

pub if-area : (b : Bool) (h : ℕ) (bs : List ℕ) (m : Memory) → (write_if b (to_area (64 * h) bs) m).area ≡ cond b (put_home m.area h bs) m.area
unfolding write_if write put_home
if-area true h bs m = refl
if-area false h bs m = refl

-- a law of a write that is made, and of one that is not, holds of one that may be made
pub either : (P : List ℕ → Type 0) (b : Bool) (x y : List ℕ) → P x → P y → P (cond b x y)
either P true x y p q = p
either P false x y p q = q
