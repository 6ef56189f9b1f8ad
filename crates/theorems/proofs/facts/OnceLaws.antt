-- Laws of written_once (specs/Facts): fences, records put together, the writes of groups and of homes. Assumes nothing.
use Prim.Native.Nat.{ℕ, zero, suc, ◌+◌, ◌%◌, ◌≤◌, ◌<◌}
use mathlib.Core.Path.{◌≡◌, refl, sym, ap, ◌∙◌}
use mathlib.Core.Logic.{inl, inr}
use mathlib.Core.Bool.{Bool, true, false, cond, not, ◌&&◌, and_assoc}
use mathlib.Core.List.{List, [], ◌∷◌, ◌++◌, append-nil, append_assoc}
use native.Mathlib.Omega.{arith}
use borrow.Author.Tests.{ne_eqb}
use Rattle.model.specs.Layout.{home_at}
use Rattle.model.specs.Batch.{Record, GW, HW, KW, FN}
use Rattle.model.specs.Effects.{marked, home_writes, blank_writes, zero_homes, formatted}
use Rattle.model.specs.Facts.{slot_written, home_written, header_written, written_once}
use Rattle.model_laws.proofs.state.QuestionLaws.{and-true}
use Rattle.model_laws.proofs.trace.HomeLaws.{In, marked-below}
use Rattle.model_laws.proofs.trace.CrashLaws.{submits}
use Rattle.model_laws.proofs.trace.MixLaws.{Mixed, group_part, home_part}

-- ---- a fence

slot-fence : (slot : ℕ) (R S : List Record) → slot_written slot (R ++ (FN ∷ S)) ≡ slot_written slot R
unfolding slot_written
slot-fence slot [] S = refl
slot-fence slot (GW s group ∷ R) S = rw (slot-fence slot R S)
slot-fence slot (HW home block ∷ R) S = slot-fence slot R S
slot-fence slot (KW header ∷ R) S = slot-fence slot R S
slot-fence slot (FN ∷ R) S = refl

home-fence : (home : ℕ) (R S : List Record) → home_written home (R ++ (FN ∷ S)) ≡ home_written home R
unfolding home_written
home-fence home [] S = refl
home-fence home (GW slot group ∷ R) S = home-fence home R S
home-fence home (HW h block ∷ R) S = rw (home-fence home R S)
home-fence home (KW header ∷ R) S = home-fence home R S
home-fence home (FN ∷ R) S = refl

header-fence : (R S : List Record) → header_written (R ++ (FN ∷ S)) ≡ header_written R
unfolding header_written
header-fence [] S = refl
header-fence (GW slot group ∷ R) S = header-fence R S
header-fence (HW home block ∷ R) S = header-fence R S
header-fence (KW header ∷ R) S = refl
header-fence (FN ∷ R) S = refl

pub once-fence : (R S : List Record) → written_once (R ++ (FN ∷ S)) ≡ (written_once R && written_once S)
unfolding written_once
once-fence [] S = refl
once-fence (GW slot group ∷ R) S = rw (slot-fence slot R S, once-fence R S) (sym (and_assoc (not (slot_written slot R)) (written_once R) (written_once S)))
once-fence (HW home block ∷ R) S = rw (home-fence home R S, once-fence R S) (sym (and_assoc (not (home_written home R)) (written_once R) (written_once S)))
once-fence (KW header ∷ R) S = rw (header-fence R S, once-fence R S) (sym (and_assoc (not (header_written R)) (written_once R) (written_once S)))
once-fence (FN ∷ R) S = once-fence R S

-- records that end with a fence
pub once-end : (R : List Record) → written_once R ≡ true → written_once (R ++ (FN ∷ [])) ≡ true
unfolding written_once
once-end R h = once-fence R [] ∙ rw h

-- records since a fence
pub once_more : (P R S X : List Record) → P ≡ (R ++ (FN ∷ [])) ++ S → written_once P ≡ true → written_once (S ++ X) ≡ true
    → written_once (P ++ X) ≡ true
once_more P R S X e h k =
    let a : P ≡ R ++ (FN ∷ S) = e ∙ append_assoc R (FN ∷ []) S in
    let f : written_once R ≡ true = (and-true (written_once R) (written_once S) (sym (once-fence R S) ∙ ap written_once (sym a) ∙ h)).0 in
    rw (a, append_assoc R (FN ∷ S) X) (once-fence R (S ++ X) ∙ rw (f, k))

-- ---- records put together

-- no record of R, where it holds no fence, writes what S writes
abbrev pub Avoids : List Record → List Record → Type 0
Avoids [] S = Unit {0}
Avoids (GW slot group ∷ R) S = (slot_written slot S ≡ false) × Avoids R S
Avoids (HW home block ∷ R) S = (home_written home S ≡ false) × Avoids R S
Avoids (KW header ∷ R) S = (header_written S ≡ false) × Avoids R S
Avoids (FN ∷ R) S = ⊥

slot-append : (slot : ℕ) (R S : List Record) → slot_written slot S ≡ false → slot_written slot (R ++ S) ≡ slot_written slot R
unfolding slot_written
slot-append slot [] S h = h
slot-append slot (GW s group ∷ R) S h = rw (slot-append slot R S h)
slot-append slot (HW home block ∷ R) S h = slot-append slot R S h
slot-append slot (KW header ∷ R) S h = slot-append slot R S h
slot-append slot (FN ∷ R) S h = refl

home-append : (home : ℕ) (R S : List Record) → home_written home S ≡ false → home_written home (R ++ S) ≡ home_written home R
unfolding home_written
home-append home [] S h = h
home-append home (GW slot group ∷ R) S h = home-append home R S h
home-append home (HW g block ∷ R) S h = rw (home-append home R S h)
home-append home (KW header ∷ R) S h = home-append home R S h
home-append home (FN ∷ R) S h = refl

header-append : (R S : List Record) → header_written S ≡ false → header_written (R ++ S) ≡ header_written R
unfolding header_written
header-append [] S h = h
header-append (GW slot group ∷ R) S h = header-append R S h
header-append (HW home block ∷ R) S h = header-append R S h
header-append (KW header ∷ R) S h = refl
header-append (FN ∷ R) S h = refl

pub once-append : (R S : List Record) → written_once R ≡ true → written_once S ≡ true → Avoids R S → written_once (R ++ S) ≡ true
unfolding written_once
once-append [] S h k a = k
once-append (GW slot group ∷ R) S h k a =
    let f = and-true (not (slot_written slot R)) (written_once R) h in rw (slot-append slot R S a.0, f.0, once-append R S f.1 k a.1)
once-append (HW home block ∷ R) S h k a =
    let f = and-true (not (home_written home R)) (written_once R) h in rw (home-append home R S a.0, f.0, once-append R S f.1 k a.1)
once-append (KW header ∷ R) S h k a =
    let f = and-true (not (header_written R)) (written_once R) h in rw (header-append R S a.0, f.0, once-append R S f.1 k a.1)
once-append (FN ∷ R) S h k a = absurd a

avoids-both : (Q R S : List Record) → Avoids Q S → Avoids R S → Avoids (Q ++ R) S
avoids-both [] R S a b = b
avoids-both (GW slot group ∷ Q) R S a b = (a.0, avoids-both Q R S a.1 b)
avoids-both (HW home block ∷ Q) R S a b = (a.0, avoids-both Q R S a.1 b)
avoids-both (KW header ∷ Q) R S a b = (a.0, avoids-both Q R S a.1 b)
avoids-both (FN ∷ Q) R S a b = absurd a

-- a mixture of group writes and home writes
pub avoids-mixed : (R S : List Record) → Mixed R → Avoids (group_part R) S → Avoids (home_part R) S → Avoids R S
unfolding group_part home_part
avoids-mixed [] S m a b = tt
avoids-mixed (GW slot group ∷ R) S m a b = (a.0, avoids-mixed R S m a.1 b)
avoids-mixed (HW home block ∷ R) S m a b = (b.0, avoids-mixed R S m a b.1)
avoids-mixed (KW header ∷ R) S m a b = absurd m
avoids-mixed (FN ∷ R) S m a b = absurd m

-- ---- the writes of groups

pub avoids-submits : (G n₀ : ℕ) (bytes : ℕ → List ℕ) (k : ℕ) (S : List Record)
    → ((n : ℕ) → n₀ ≤ n → n < n₀ + k → slot_written (n % G) S ≡ false) → Avoids (submits G n₀ bytes k) S
unfolding submits
avoids-submits G n₀ bytes zero S f = tt
avoids-submits G n₀ bytes (suc k) S f =
    avoids-both (submits G n₀ bytes k) (GW ((n₀ + k) % G) (bytes (n₀ + k)) ∷ []) S
    (avoids-submits G n₀ bytes k S (λ n l h. f n l (omega arith))) (f (n₀ + k) (omega arith) (omega arith), tt)

pub slot-group : (slot other : ℕ) (group : List ℕ) → (other ≡ slot → ⊥) → slot_written slot (GW other group ∷ []) ≡ false
unfolding slot_written
slot-group slot other group n = rw (ne_eqb other slot n)

pub home-group : (home slot : ℕ) (group : List ℕ) → home_written home (GW slot group ∷ []) ≡ false
unfolding home_written
home-group home slot group = refl

pub slot-header : (slot : ℕ) (header : List ℕ) → slot_written slot (KW header ∷ []) ≡ false
unfolding slot_written
slot-header slot header = refl

pub home-header : (home : ℕ) (header : List ℕ) → home_written home (KW header ∷ []) ≡ false
unfolding home_written
home-header home header = refl

pub once-group : (slot : ℕ) (group : List ℕ) → written_once (GW slot group ∷ []) ≡ true
unfolding written_once slot_written
once-group slot group = refl

-- ---- the writes of homes

pub slot-homes : (slot : ℕ) (area hs : List ℕ) → slot_written slot (home_writes area hs) ≡ false
unfolding slot_written home_writes
slot-homes slot area [] = refl
slot-homes slot area (h ∷ hs) = slot-homes slot area hs

pub home-homes : (home : ℕ) (area hs : List ℕ) → (In home hs → ⊥) → home_written home (home_writes area hs) ≡ false
unfolding home_written home_writes
home-homes home area [] n = refl
home-homes home area (h ∷ hs) n = rw (ne_eqb h home (λ e. n (inl (sym e))), home-homes home area hs (λ i. n (inr i)))

pub avoids-homes : (area hs : List ℕ) (S : List Record) → ((h : ℕ) → In h hs → home_written h S ≡ false) → Avoids (home_writes area hs) S
unfolding home_writes
avoids-homes area [] S f = tt
avoids-homes area (h ∷ hs) S f = (f h (inl refl), avoids-homes area hs S (λ x i. f x (inr i)))

homes-append : (area xs ys : List ℕ) → home_writes area (xs ++ ys) ≡ home_writes area xs ++ home_writes area ys
unfolding home_writes
homes-append area [] ys = refl
homes-append area (x ∷ xs) ys = rw (homes-append area xs ys)

-- of marked homes, rising
pub once-marked : (area : List ℕ) (test : ℕ → Bool) (n : ℕ) → written_once (home_writes area (marked test n)) ≡ true
unfolding marked
once-marked area test zero = (unfold home_writes written_once in refl)
once-marked area test (suc n) = rw (homes-append area (marked test n) (cond (test n) (n ∷ []) [])) (go (test n) (once-marked area test n))
  where
    here : List Record
    here = HW n (home_at area n) ∷ []

    go : (d : Bool) → written_once (home_writes area (marked test n)) ≡ true
        → written_once (home_writes area (marked test n) ++ home_writes area (cond d (n ∷ []) [])) ≡ true
    go true h =
        (unfold home_writes in
        once-append (home_writes area (marked test n)) here h (unfold written_once home_written in refl)
        (avoids-homes area (marked test n) here
        (λ x i. let l : x < n = marked-below test n x i in (unfold home_written in rw (ne_eqb n x (λ e. omega arith))))))
    go false h = (unfold home_writes in rw (append-nil (home_writes area (marked test n))) h)

-- ---- blank slots, and format's batch

avoids-blanks : (G start n : ℕ) (S : List Record) → ((m : ℕ) → m < n → slot_written m S ≡ false) → Avoids (blank_writes G start n) S
unfolding blank_writes
avoids-blanks G start zero S f = tt
avoids-blanks G start (suc n) S f =
    avoids-both (blank_writes G start n) _ S (avoids-blanks G start n S (λ m l. f m (omega arith))) (f n (omega arith), tt)

pub once-blanks : (G start n : ℕ) → written_once (blank_writes G start n) ≡ true
unfolding blank_writes written_once slot_written
once-blanks G start zero = refl
once-blanks G start (suc n) =
    once-append (blank_writes G start n) _ (once-blanks G start n) refl (avoids-blanks G start n _ (λ m l. rw (ne_eqb n m (λ e. omega arith))))

slot-zeros : (slot n : ℕ) → slot_written slot (zero_homes n) ≡ false
unfolding zero_homes slot_written
slot-zeros slot zero = refl
slot-zeros slot (suc n) = slot-append slot (zero_homes n) _ refl ∙ slot-zeros slot n

avoids-zeros : (n : ℕ) (S : List Record) → ((m : ℕ) → m < n → home_written m S ≡ false) → Avoids (zero_homes n) S
unfolding zero_homes
avoids-zeros zero S f = tt
avoids-zeros (suc n) S f = avoids-both (zero_homes n) _ S (avoids-zeros n S (λ m l. f m (omega arith))) (f n (omega arith), tt)

once-zeros : (n : ℕ) → written_once (zero_homes n) ≡ true
unfolding zero_homes written_once home_written
once-zeros zero = refl
once-zeros (suc n) = once-append (zero_homes n) _ (once-zeros n) refl (avoids-zeros n _ (λ m l. rw (ne_eqb n m (λ e. omega arith))))

pub once-formatted : (groups homes : ℕ) → written_once (formatted groups homes) ≡ true
unfolding formatted written_once header_written
once-formatted groups homes =
    rw (← append_assoc (blank_writes groups 0 groups) (zero_homes homes)) (
    once-fence (blank_writes groups 0 groups ++ zero_homes homes) _
    ∙ rw (once-append (blank_writes groups 0 groups) (zero_homes homes) (once-blanks groups 0 groups) (once-zeros homes)
    (avoids-blanks groups 0 groups (zero_homes homes) (λ m l. slot-zeros m homes))))

-- ---- a second write is seen, one after a fence is none

slot_twice : written_once (GW 3 [] ∷ HW 3 [] ∷ GW 3 [] ∷ []) ≡ false
unfolding written_once slot_written
slot_twice = refl

home-twice : written_once (HW 5 [] ∷ KW [] ∷ HW 5 [] ∷ []) ≡ false
unfolding written_once home_written
home-twice = refl

header-twice : written_once (KW [] ∷ GW 0 [] ∷ KW [] ∷ FN ∷ []) ≡ false
unfolding written_once header_written
header-twice = refl

fence-between : written_once (GW 3 [] ∷ HW 5 [] ∷ KW [] ∷ FN ∷ GW 3 [] ∷ HW 5 [] ∷ KW [] ∷ []) ≡ true
unfolding written_once slot_written home_written header_written
fence-between = refl
