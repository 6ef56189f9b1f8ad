-- Laws of a stretch of home writes, of which a choice persists, and of a header write: what the memory then holds.
-- A law takes its variables in the order in which its left side first names them, then its premises. Assumes nothing.
use mathlib.Core.Path.{◌≡◌, refl, ap, ◌∙◌}
use mathlib.Core.Logic.{◌⊎◌, inl, inr, ◌↔◌}
use mathlib.Core.Bool.{Bool, true, false, cond}
use mathlib.Core.List.{List, [], ◌∷◌, ◌++◌}
use Prim.Native.Nat.{ℕ, zero, suc, ◌+◌, ◌*◌, ◌<◌}
use native.Mathlib.Omega.{arith}
use borrow.Author.Tests.{eqb-true, eqb-false}
use lib.Dec.{eqb}
use lib.ListN.{length}
use Rattle.model.specs.Bytes.{puts}
use Rattle.model.specs.Layout.{home_at, put_home}
use Rattle.model.specs.Batch.{HW, KW}
use Rattle.model.specs.Effects.{marked, home_writes}
use Rattle.model.specs.Crash.{Memory, to_area, pieces, write, write_each, write_if, write_chosen, many, is_fence, persist_chosen, group_fate, fates_chosen}
use Rattle.model_laws.proofs.bytes.ByteLaws.{length_part}
use Rattle.model_laws.proofs.bytes.LayoutLaws.{home_same, home-other, length-put_home}
use Rattle.model_laws.proofs.trace.CrashLaws.{write_records, none-homes, chosen-all, if-log-area, if-log, if-area-log, if-area, either}

-- ---- homes in a list

abbrev pub In : ℕ → List ℕ → Type 0
In h [] = ⊥
In h (x ∷ xs) = (h ≡ x) ⊎ In h xs

pub in_left : (h : ℕ) (xs ys : List ℕ) → In h xs → In h (xs ++ ys)
in_left h [] ys p = absurd p
in_left h (x ∷ xs) ys (inl e) = inl e
in_left h (x ∷ xs) ys (inr p) = inr (in_left h xs ys p)

pub in_right : (h : ℕ) (xs ys : List ℕ) → In h ys → In h (xs ++ ys)
in_right h [] ys p = p
in_right h (x ∷ xs) ys p = inr (in_right h xs ys p)

pub in-cases : (h : ℕ) (xs ys : List ℕ) → In h (xs ++ ys) → In h xs ⊎ In h ys
in-cases h [] ys p = inr p
in-cases h (x ∷ xs) ys (inl e) = inl (inl e)
in-cases h (x ∷ xs) ys (inr p) = go (in-cases h xs ys p)
  where
    go : In h xs ⊎ In h ys → ((h ≡ x) ⊎ In h xs) ⊎ In h ys
    go (inl q) = inl (inr q)
    go (inr q) = inr q

-- the marked ones
pub in-marked : (h : ℕ) (test : ℕ → Bool) (n : ℕ) → In h (marked test n) → (h < n) × (test h ≡ true)
unfolding marked
in-marked h test zero p = absurd p
in-marked h test (suc n) p = go (in-cases h (marked test n) (cond (test n) (n ∷ []) []) p) (in-marked h test n)
  where
    last : (b : Bool) → test n ≡ b → In h (cond b (n ∷ []) []) → (h < suc n) × (test h ≡ true)
    last true t (inl e) = (omega arith, ap test e ∙ t)
    last true t (inr q) = absurd q
    last false t q = absurd q

    go : In h (marked test n) ⊎ In h (cond (test n) (n ∷ []) []) → (In h (marked test n) → (h < n) × (test h ≡ true))
        → (h < suc n) × (test h ≡ true)
    go (inl q) f = let r = f q in (omega arith, r.1)
    go (inr q) f = last (test n) refl q

pub marked-in : (h : ℕ) (test : ℕ → Bool) (n : ℕ) → h < n → test h ≡ true → In h (marked test n)
unfolding marked
marked-in h test zero l t = absurd (omega arith)
marked-in h test (suc n) l t = go (eqb h n) refl (λ q. marked-in h test n q t)
  where
    go : (b : Bool) → eqb h n ≡ b → (h < n → In h (marked test n)) → In h (marked test n ++ cond (test n) (n ∷ []) [])
    go true e f =
        let q : h ≡ n = eqb-true h n e in
        let r : test n ≡ true = cc in
        rw r (in_right h (marked test n) (n ∷ []) (inl q))
    go false e f = in_left h (marked test n) _ (f (omega (arith, eqb-false h n e)))

pub marked-iff : (h : ℕ) (test : ℕ → Bool) (n : ℕ) → In h (marked test n) ↔ ((h < n) × (test h ≡ true))
marked-iff h test n = (in-marked h test n, λ p. marked-in h test n p.0 p.1)

pub marked-below : (test : ℕ → Bool) (n h : ℕ) → In h (marked test n) → h < n
marked-below test n h p = (in-marked h test n p).0

-- ---- home writes

length-home : (area : List ℕ) (h D : ℕ) → h < D → length area ≡ 64 * D → length (home_at area h) ≡ 64
unfolding home_at
length-home area h D l e = length_part area (64 * h) 64 (omega arith)

chosen-home : (chosen : ℕ → Bool) (i : ℕ) (area : List ℕ) (x : ℕ) (hs : List ℕ) (m : Memory)
    → persist_chosen chosen i (home_writes area (x ∷ hs)) m
    ≡ persist_chosen chosen (i + 1) (home_writes area hs) (write_if (chosen i) (to_area (64 * x) (home_at area x)) m)
unfolding home_writes persist_chosen is_fence pieces many write_chosen
chosen-home chosen i area x hs m = refl

chosen-homeless : (chosen : ℕ → Bool) (i : ℕ) (area : List ℕ) (m : Memory) → persist_chosen chosen i (home_writes area []) m ≡ m
unfolding home_writes persist_chosen
chosen-homeless chosen i area m = refl

pub fates-homes : (chosen : ℕ → Bool) (i : ℕ) (area hs : List ℕ) → fates_chosen chosen i (home_writes area hs) ≡ []
unfolding home_writes fates_chosen is_fence group_fate
fates-homes chosen i area [] = refl
fates-homes chosen i area (h ∷ hs) = fates-homes chosen (i + many (pieces (HW h (home_at area h)))) area hs

pub log-homes : (chosen : ℕ → Bool) (i : ℕ) (area hs : List ℕ) (m : Memory) → (persist_chosen chosen i (home_writes area hs) m).log ≡ m.log
log-homes chosen i area [] m = rw chosen-homeless
log-homes chosen i area (x ∷ hs) m = rw chosen-home (log-homes chosen (i + 1) area hs _ ∙ if-area-log (chosen i) _ _ m)

length-may : (b : Bool) (x : ℕ) (bs : List ℕ) (m : Memory) → length (write_if b (to_area (64 * x) bs) m).area ≡ length m.area
length-may b x bs m = rw if-area (either (λ a. length a ≡ length m.area) b _ _ (length-put_home m.area x bs) refl)

pub length-homes : (chosen : ℕ → Bool) (i : ℕ) (area hs : List ℕ) (m : Memory)
    → length (persist_chosen chosen i (home_writes area hs) m).area ≡ length m.area
length-homes chosen i area [] m = rw chosen-homeless
length-homes chosen i area (x ∷ hs) m = rw chosen-home (length-homes chosen (i + 1) area hs _ ∙ length-may (chosen i) x (home_at area x) m)

-- one home that may be written
home-may : (b : Bool) (now area : List ℕ) (x h D : ℕ) → x < D → length now ≡ 64 * D → length area ≡ 64 * D
    → (home_at (cond b (put_home now x (home_at area x)) now) h ≡ home_at now h)
    ⊎ ((h ≡ x) × (home_at (cond b (put_home now x (home_at area x)) now) h ≡ home_at area h))
home-may false now area x h D l e a = inl refl
home-may true now area x h D l e a = go (eqb h x) refl
  where
    size : length (home_at area x) ≡ 64
    size = length-home area x D l a

    go : (c : Bool) → eqb h x ≡ c
        → (home_at (put_home now x (home_at area x)) h ≡ home_at now h)
        ⊎ ((h ≡ x) × (home_at (put_home now x (home_at area x)) h ≡ home_at area h))
    go true t =
        let q : h ≡ x = eqb-true h x t in
        inr (q, rw q (home_same now x (home_at area x) size (omega arith)))
    go false t = inl (home-other now x (home_at area x) h (eqb-false h x t) (omega (arith, size)))

pub home_at-homes : (chosen : ℕ → Bool) (i : ℕ) (area hs : List ℕ) (m : Memory) (h D : ℕ)
    → ((x : ℕ) → In x hs → x < D) → length m.area ≡ 64 * D → length area ≡ 64 * D
    → (home_at (persist_chosen chosen i (home_writes area hs) m).area h ≡ home_at m.area h)
    ⊎ (In h hs × (home_at (persist_chosen chosen i (home_writes area hs) m).area h ≡ home_at area h))
home_at-homes chosen i area [] m h D u e a = inl (rw chosen-homeless)
home_at-homes chosen i area (x ∷ hs) m h D u e a =
    rw chosen-home
    (go (home_at-homes chosen (i + 1) area hs (write_if (chosen i) (to_area (64 * x) (home_at area x)) m) h D (λ y p. u y (inr p))
    (length-may (chosen i) x (home_at area x) m ∙ e) a)
    (rw if-area (home-may (chosen i) m.area area x h D (u x (inl refl)) e a)))
  where
    go : {b₁ b' : List ℕ}
        → (b' ≡ b₁) ⊎ (In h hs × (b' ≡ home_at area h))
        → (b₁ ≡ home_at m.area h) ⊎ ((h ≡ x) × (b₁ ≡ home_at area h))
        → (b' ≡ home_at m.area h) ⊎ (((h ≡ x) ⊎ In h hs) × (b' ≡ home_at area h))
    go (inr p) q = inr (inr p.0, p.1)
    go (inl p) (inl q) = inl (p ∙ q)
    go (inl p) (inr q) = inr (inl q.0, p ∙ q.1)

-- the same where all of them are written
module _ (area hs : List ℕ) (m : Memory) where
  homes-wrote : persist_chosen (λ x. true) 0 (home_writes area hs) m ≡ write_records (home_writes area hs) m
  homes-wrote = chosen-all 0 (home_writes area hs) m (none-homes area hs)

  pub log-homes-wrote : (write_records (home_writes area hs) m).log ≡ m.log
  log-homes-wrote = rw (← homes-wrote) (log-homes (λ x. true) 0 area hs m)

  pub length-homes-wrote : length (write_records (home_writes area hs) m).area ≡ length m.area
  length-homes-wrote = rw (← homes-wrote) (length-homes (λ x. true) 0 area hs m)

  pub home_at-unwritten : (h D : ℕ) → ((x : ℕ) → In x hs → x < D) → length m.area ≡ 64 * D → length area ≡ 64 * D → (In h hs → ⊥)
      → home_at (write_records (home_writes area hs) m).area h ≡ home_at m.area h
  home_at-unwritten h D u e a n = rw (← homes-wrote) (go (home_at-homes (λ x. true) 0 area hs m h D u e a))
    where
      go : {b b' c : List ℕ} → (b' ≡ b) ⊎ (In h hs × (b' ≡ c)) → b' ≡ b
      go (inl p) = p
      go (inr p) = absurd (n p.0)

-- the first of them written
with-home : List ℕ → ℕ → Memory → Memory
with-home area x m = record { log = m.log; area = put_home m.area x (home_at area x) }

length-with : (area : List ℕ) (x : ℕ) (m : Memory) → length (with-home area x m).area ≡ length m.area
unfolding with-home
length-with area x m = length-put_home m.area x (home_at area x)

home-wrote : (area : List ℕ) (x : ℕ) (hs : List ℕ) (m : Memory)
    → write_records (home_writes area (x ∷ hs)) m ≡ write_records (home_writes area hs) (with-home area x m)
unfolding write_records home_writes pieces write_each write put_home with-home
home-wrote area x hs m = refl

pub home_at-wrote : (area hs : List ℕ) (m : Memory) (h D : ℕ)
    → ((x : ℕ) → In x hs → x < D) → length m.area ≡ 64 * D → length area ≡ 64 * D → In h hs
    → home_at (write_records (home_writes area hs) m).area h ≡ home_at area h
unfolding with-home
home_at-wrote area [] m h D u e a p = absurd p
home_at-wrote area (x ∷ hs) m h D u e a (inr p) =
    rw home-wrote (home_at-wrote area hs (with-home area x m) h D (λ y q. u y (inr q)) (length-with area x m ∙ e) a p)
home_at-wrote area (x ∷ hs) m h D u e a (inl p) =
    rw home-wrote
    (go (rw homes-wrote at (home_at-homes (λ y. true) 0 area hs (with-home area x m) h D (λ y q. u y (inr q)) (length-with area x m ∙ e) a)))
  where
    now : home_at (with-home area x m).area h ≡ home_at area h
    now =
        let l : x < D = u x (inl refl) in
        rw p (home_same m.area x (home_at area x) (length-home area x D l a) (omega arith))

    go : {b' : List ℕ} → (b' ≡ home_at (with-home area x m).area h) ⊎ (In h hs × (b' ≡ home_at area h)) → b' ≡ home_at area h
    go (inl q) = q ∙ now
    go (inr q) = q.1

-- ---- a header write

pub log-header : (chosen : ℕ → Bool) (i : ℕ) (header : List ℕ) (m : Memory)
    → (persist_chosen chosen i (KW header ∷ []) m).log ≡ cond (chosen i) (puts m.log 0 header) m.log
unfolding persist_chosen is_fence pieces write_chosen
log-header chosen i header m = if-log (chosen i) 0 header m

pub area-header : (chosen : ℕ → Bool) (i : ℕ) (header : List ℕ) (m : Memory) → (persist_chosen chosen i (KW header ∷ []) m).area ≡ m.area
unfolding persist_chosen is_fence pieces write_chosen
area-header chosen i header m = if-log-area (chosen i) 0 header m

pub fates-header : (chosen : ℕ → Bool) (i : ℕ) (header : List ℕ) → fates_chosen chosen i (KW header ∷ []) ≡ []
unfolding fates_chosen is_fence group_fate
fates-header chosen i header = refl

pub log-header-wrote : (header : List ℕ) (m : Memory) → (write_records (KW header ∷ []) m).log ≡ puts m.log 0 header
unfolding write_records pieces write_each write
log-header-wrote header m = refl

pub area-header-wrote : (header : List ℕ) (m : Memory) → (write_records (KW header ∷ []) m).area ≡ m.area
unfolding write_records pieces write_each write
area-header-wrote header m = refl
