-- Stretches in which group writes and home writes are mixed: what a choice of them leaves is what some choice leaves of the group writes followed by
-- the home writes, since the ones go to the log only and the others to the data area only. Assumes nothing.
use mathlib.Core.Path.{◌≡◌, refl, sym, ap, ◌∙◌, fun_ext}
use mathlib.Core.Bool.{Bool, true, false, cond, ◌&&◌}
use mathlib.Core.List.{List, [], ◌∷◌, ◌++◌}
use Prim.Native.Nat.{ℕ, zero, suc, ◌+◌, ◌-◌, ◌*◌, ◌%◌, ◌<◌}
use native.Mathlib.Nat.{mod-lt}
use native.Mathlib.Omega.{arith}
use borrow.Author.Tests.{lt-ltb, le-ltb}
use lib.Dec.{ltb}
use lib.ListN.{drop}
use Rattle.model.specs.Layout.{group_offset}
use Rattle.model.specs.Batch.{Record, GW, HW, KW, FN}
use Rattle.model.specs.Effects.{home_writes}
use Rattle.model.specs.Crash.{Memory, Piece, to_log, to_area, blocks, pieces, write, write_if, write_chosen, many, is_fence, persist_chosen, group_fate, fates_chosen}
use Rattle.model.specs.DemandTwo.{group_writes}
use Rattle.model_laws.proofs.trace.CrashLaws.{write_records, NoFence, piece_count, piece_count-append, none-append, chosen-append, fate-append, chosen-all}

-- ---- what the laws speak of

-- only group writes and home writes
abbrev pub Mixed : List Record → Type 0
Mixed [] = Unit {0}
Mixed (GW slot group ∷ rs) = Mixed rs
Mixed (HW home block ∷ rs) = Mixed rs
Mixed (KW header ∷ rs) = ⊥
Mixed (FN ∷ rs) = ⊥

-- the group writes, and the home writes
unfoldable pub group_part : List Record → List Record
group_part [] = []
group_part (GW slot group ∷ rs) = GW slot group ∷ group_part rs
group_part (HW home block ∷ rs) = group_part rs
group_part (KW header ∷ rs) = group_part rs
group_part (FN ∷ rs) = group_part rs

unfoldable pub home_part : List Record → List Record
home_part [] = []
home_part (GW slot group ∷ rs) = home_part rs
home_part (HW home block ∷ rs) = HW home block ∷ home_part rs
home_part (KW header ∷ rs) = home_part rs
home_part (FN ∷ rs) = home_part rs

pub mixed-append : (R S : List Record) → Mixed R → Mixed S → Mixed (R ++ S)
mixed-append [] S f g = g
mixed-append (GW slot group ∷ R) S f g = mixed-append R S f g
mixed-append (HW home block ∷ R) S f g = mixed-append R S f g
mixed-append (KW header ∷ R) S f g = absurd f
mixed-append (FN ∷ R) S f g = absurd f

pub group_part-append : (R S : List Record) → group_part (R ++ S) ≡ group_part R ++ group_part S
unfolding group_part
group_part-append [] S = refl
group_part-append (GW slot group ∷ R) S = rw (group_part-append R S)
group_part-append (HW home block ∷ R) S = group_part-append R S
group_part-append (KW header ∷ R) S = group_part-append R S
group_part-append (FN ∷ R) S = group_part-append R S

pub home_part-append : (R S : List Record) → home_part (R ++ S) ≡ home_part R ++ home_part S
unfolding home_part
home_part-append [] S = refl
home_part-append (GW slot group ∷ R) S = home_part-append R S
home_part-append (HW home block ∷ R) S = rw (home_part-append R S)
home_part-append (KW header ∷ R) S = home_part-append R S
home_part-append (FN ∷ R) S = home_part-append R S

pub mixed-homes : (area hs : List ℕ) → Mixed (home_writes area hs)
unfolding home_writes
mixed-homes area [] = tt
mixed-homes area (h ∷ hs) = mixed-homes area hs

pub group_part-homes : (area hs : List ℕ) → group_part (home_writes area hs) ≡ []
unfolding home_writes group_part
group_part-homes area [] = refl
group_part-homes area (h ∷ hs) = group_part-homes area hs

pub home_part-homes : (area hs : List ℕ) → home_part (home_writes area hs) ≡ home_writes area hs
unfolding home_writes home_part
home_part-homes area [] = refl
home_part-homes area (h ∷ hs) = rw (home_part-homes area hs)

pub group_writes-part : (R : List Record) → group_writes R ≡ group_writes (group_part R)
unfolding group_writes group_part
group_writes-part [] = refl
group_writes-part (GW slot group ∷ R) = ap suc (group_writes-part R)
group_writes-part (HW home block ∷ R) = group_writes-part R
group_writes-part (KW header ∷ R) = group_writes-part R
group_writes-part (FN ∷ R) = group_writes-part R

pub none-mixed : (R : List Record) → Mixed R → NoFence R
unfolding is_fence
none-mixed [] f = tt
none-mixed (GW slot group ∷ R) f = (refl, none-mixed R f)
none-mixed (HW home block ∷ R) f = (refl, none-mixed R f)
none-mixed (KW header ∷ R) f = absurd f
none-mixed (FN ∷ R) f = absurd f

none-groups : (R : List Record) → NoFence (group_part R)
unfolding group_part is_fence
none-groups [] = tt
none-groups (GW slot group ∷ R) = (refl, none-groups R)
none-groups (HW home block ∷ R) = none-groups R
none-groups (KW header ∷ R) = none-groups R
none-groups (FN ∷ R) = none-groups R

none-part : (R : List Record) → NoFence (home_part R)
unfolding home_part is_fence
none-part [] = tt
none-part (GW slot group ∷ R) = none-part R
none-part (HW home block ∷ R) = (refl, none-part R)
none-part (KW header ∷ R) = none-part R
none-part (FN ∷ R) = none-part R

pub none-sorted : (R : List Record) → NoFence (group_part R ++ home_part R)
none-sorted R = none-append (group_part R) (home_part R) (none-groups R) (none-part R)

piece_count-parts : (R : List Record) → Mixed R → piece_count (group_part R) + piece_count (home_part R) ≡ piece_count R
unfolding piece_count group_part home_part
piece_count-parts [] f = refl
piece_count-parts (GW slot group ∷ R) f = omega (arith, piece_count-parts R f)
piece_count-parts (HW home block ∷ R) f = omega (arith, piece_count-parts R f)
piece_count-parts (KW header ∷ R) f = absurd f
piece_count-parts (FN ∷ R) f = absurd f

-- ---- choices that agree on the pieces of some records

abbrev Agree : (c c' : ℕ → Bool) (i i' n : ℕ) → Type 0
Agree c c' i i' n = (j : ℕ) → j < n → c (i + j) ≡ c' (i' + j)

agree-here : (c c' : ℕ → Bool) (i i' n : ℕ) → Agree c c' i i' n → 0 < n → c i ≡ c' i'
agree-here c c' i i' n f l =
    let a : i + 0 ≡ i = omega arith in
    let b : i' + 0 ≡ i' = omega arith in
    rw (a, b) at (f 0 l)

agree_after : (c c' : ℕ → Bool) (i i' n p : ℕ) → Agree c c' i i' (p + n) → Agree c c' (i + p) (i' + p) n
agree_after c c' i i' n p f j l =
    let a : i + p + j ≡ i + (p + j) = omega arith in
    let b : i' + p + j ≡ i' + (p + j) = omega arith in
    rw (a, b) (f (p + j) (omega arith))

write-agree : (c c' : ℕ → Bool) (i i' : ℕ) (ps : List Piece) (m : Memory) → Agree c c' i i' (many ps) → write_chosen c i ps m ≡ write_chosen c' i' ps m
unfolding write_chosen many
write-agree c c' i i' [] m f = refl
write-agree c c' i i' (p ∷ ps) m f =
    rw (agree-here c c' i i' (many ps + 1) f (omega arith))
    (write-agree c c' (i + 1) (i' + 1) ps (write_if (c' i') p m) (agree_after c c' i i' (many ps) 1 (λ j l. f j (omega arith))))

chosen-agree : (c c' : ℕ → Bool) (i i' : ℕ) (R : List Record) (m : Memory) → Agree c c' i i' (piece_count R) → persist_chosen c i R m ≡ persist_chosen c' i' R m
unfolding persist_chosen piece_count
chosen-agree c c' i i' [] m f = refl
chosen-agree c c' i i' (r ∷ R) m f =
    ap (cond (is_fence r) m)
    (ap (persist_chosen c (i + many (pieces r)) R) (write-agree c c' i i' (pieces r) m (λ j l. f j (omega arith)))
    ∙ chosen-agree c c' (i + many (pieces r)) (i' + many (pieces r)) R (write_chosen c' i' (pieces r) m)
    (agree_after c c' i i' (piece_count R) (many (pieces r)) f))

-- the fate of a group is told by its own pieces
fate-agree : (c c' : ℕ → Bool) (i i' : ℕ) (R : List Record) → Agree c c' i i' (piece_count R) → fates_chosen c i R ≡ fates_chosen c' i' R
unfolding fates_chosen piece_count is_fence group_fate pieces blocks many
fate-agree c c' i i' [] f = refl
fate-agree c c' i i' (GW slot group ∷ R) f =
    rw (fun_ext fates, fate-agree c c' (i + 8) (i' + 8) R (agree_after c c' i i' (piece_count R) 8 f))
  where
    fates : (k : ℕ) → (c (i + 0) && c (i + (k % 7 + 1))) ≡ (c' (i' + 0) && c' (i' + (k % 7 + 1)))
    fates k =
        let l : k % 7 < 7 = mod-lt k (omega arith) in
        rw (f 0 (omega arith), f (k % 7 + 1) (omega arith))
fate-agree c c' i i' (HW home block ∷ R) f = fate-agree c c' (i + 1) (i' + 1) R (agree_after c c' i i' (piece_count R) 1 f)
fate-agree c c' i i' (KW header ∷ R) f = fate-agree c c' (i + 1) (i' + 1) R (agree_after c c' i i' (piece_count R) 1 f)
fate-agree c c' i i' (FN ∷ R) f = refl

-- a choice for the first n pieces, and another from there on
unfoldable joined : ℕ → (ℕ → Bool) → (ℕ → Bool) → ℕ → Bool
joined n c c' j = cond (ltb j n) (c j) (c' (j - n))

joined-below : (n : ℕ) (c c' : ℕ → Bool) (j : ℕ) → j < n → joined n c c' j ≡ c j
unfolding joined
joined-below n c c' j l = rw (lt-ltb j n l)

joined-from : (n : ℕ) (c c' : ℕ → Bool) (i j : ℕ) → i ≡ n + j → joined n c c' i ≡ c' j
unfolding joined
joined-from n c c' i j e =
    let q : i - n ≡ j = omega arith in
    rw (le-ltb i n (omega arith), q)

joined-all : (n : ℕ) (c c' : ℕ → Bool) → ((j : ℕ) → c j ≡ true) → ((j : ℕ) → c' j ≡ true) → (j : ℕ) → joined n c c' j ≡ true
unfolding joined
joined-all n c c' f g j = go (ltb j n)
  where
    go : (b : Bool) → cond b (c j) (c' (j - n)) ≡ true
    go true = f j
    go false = g (j - n)

-- ---- pieces for the log change places with pieces for the data area

abbrev LogOnly : List Piece → Type 0
LogOnly [] = Unit {0}
LogOnly (to_log at bytes ∷ ps) = LogOnly ps
LogOnly (to_area at bytes ∷ ps) = ⊥

blocks-log-only : (offset : ℕ) (content : List ℕ) (n : ℕ) → LogOnly (blocks offset content n)
unfolding blocks
blocks-log-only offset content zero = tt
blocks-log-only offset content (suc n) = blocks-log-only (offset + 64) (drop 64 content) n

group-log-only : (slot : ℕ) (group : List ℕ) → LogOnly (pieces (GW slot group))
unfolding pieces
group-log-only slot group = blocks-log-only (group_offset slot) group 8

swap-one : (b d : Bool) (at : ℕ) (bs : List ℕ) (to : ℕ) (cs : List ℕ) (m : Memory)
    → write_if b (to_log at bs) (write_if d (to_area to cs) m) ≡ write_if d (to_area to cs) (write_if b (to_log at bs) m)
unfolding write_if write
swap-one true true at bs to cs m = refl
swap-one true false at bs to cs m = refl
swap-one false true at bs to cs m = refl
swap-one false false at bs to cs m = refl

swap-pieces : (c : ℕ → Bool) (i : ℕ) (ps : List Piece) (d : Bool) (to : ℕ) (cs : List ℕ) (m : Memory) → LogOnly ps
    → write_chosen c i ps (write_if d (to_area to cs) m) ≡ write_if d (to_area to cs) (write_chosen c i ps m)
unfolding write_chosen
swap-pieces c i [] d to cs m f = refl
swap-pieces c i (to_log at bs ∷ ps) d to cs m f =
    ap (write_chosen c (i + 1) ps) (swap-one (c i) d at bs to cs m) ∙ swap-pieces c (i + 1) ps d to cs (write_if (c i) (to_log at bs) m) f
swap-pieces c i (to_area at bs ∷ ps) d to cs m f = absurd f

swap-groups : (c : ℕ → Bool) (i : ℕ) (R : List Record) (d : Bool) (to : ℕ) (cs : List ℕ) (m : Memory)
    → persist_chosen c i (group_part R) (write_if d (to_area to cs) m) ≡ write_if d (to_area to cs) (persist_chosen c i (group_part R) m)
unfolding persist_chosen group_part is_fence
swap-groups c i [] d to cs m = refl
swap-groups c i (GW slot group ∷ R) d to cs m =
    ap (persist_chosen c (i + many (pieces (GW slot group))) (group_part R)) (swap-pieces c i (pieces (GW slot group)) d to cs m (group-log-only slot group))
    ∙ swap-groups c (i + many (pieces (GW slot group))) R d to cs (write_chosen c i (pieces (GW slot group)) m)
swap-groups c i (HW home block ∷ R) d to cs m = swap-groups c i R d to cs m
swap-groups c i (KW header ∷ R) d to cs m = swap-groups c i R d to cs m
swap-groups c i (FN ∷ R) d to cs m = swap-groups c i R d to cs m

-- ---- sorted

-- a choice for the sorted records with the same memory and the same fates; of everything, if that is what was chosen
pub record Sorted (chosen : ℕ → Bool) (i : ℕ) (R T : List Record) (m : Memory) : Type 0 where
  pub choice : ℕ → Bool
  pub memory : persist_chosen chosen i R m ≡ persist_chosen choice 0 T m
  pub fates : fates_chosen chosen i R ≡ fates_chosen choice 0 T
  pub all : ((j : ℕ) → chosen j ≡ true) → (j : ℕ) → choice j ≡ true

chosen-group : (c : ℕ → Bool) (i slot : ℕ) (group : List ℕ) (R : List Record) (m : Memory)
    → persist_chosen c i (GW slot group ∷ R) m
    ≡ persist_chosen c (i + many (pieces (GW slot group))) R (write_chosen c i (pieces (GW slot group)) m)
unfolding persist_chosen is_fence
chosen-group c i slot group R m = refl

chosen-home : (c : ℕ → Bool) (i home : ℕ) (block : List ℕ) (R : List Record) (m : Memory)
    → persist_chosen c i (HW home block ∷ R) m ≡ persist_chosen c (i + 1) R (write_if (c i) (to_area (64 * home) block) m)
unfolding persist_chosen is_fence pieces many write_chosen
chosen-home c i home block R m = refl

fate-home : (c : ℕ → Bool) (i home : ℕ) (block : List ℕ) (R : List Record) → fates_chosen c i (HW home block ∷ R) ≡ fates_chosen c (i + 1) R
unfolding fates_chosen is_fence pieces many group_fate
fate-home c i home block R = refl

-- a group write in front stays in front
sort-group : (chosen : ℕ → Bool) (i slot : ℕ) (group : List ℕ) (R T : List Record) (m : Memory)
    → Sorted chosen (i + many (pieces (GW slot group))) R T (write_chosen chosen i (pieces (GW slot group)) m)
    → Sorted chosen i (GW slot group ∷ R) (GW slot group ∷ T) m
unfolding piece_count is_fence
sort-group chosen i slot group R T m s =
    record {
      choice = joined p (λ j. chosen (i + j)) s.choice;
      memory =
          chosen-group chosen i slot group R m ∙ s.memory ∙ sym (chosen-group c 0 slot group T m ∙ ap (persist_chosen c (0 + p) T) first ∙ rest);
      fates = fate-one;
      all = λ f. joined-all p (λ j. chosen (i + j)) s.choice (λ j. f (i + j)) (s.all f);
    }
  where
    p : ℕ
    p = many (pieces (GW slot group))

    c : ℕ → Bool
    c = joined p (λ j. chosen (i + j)) s.choice

    first : write_chosen c 0 (pieces (GW slot group)) m ≡ write_chosen chosen i (pieces (GW slot group)) m
    first = write-agree c chosen 0 i (pieces (GW slot group)) m (λ j l. joined-below p (λ x. chosen (i + x)) s.choice (0 + j) (omega arith) ∙ same j)
      where
        same : (j : ℕ) → chosen (i + (0 + j)) ≡ chosen (i + j)
        same j = let q : 0 + j ≡ j = omega arith in rw q

    rest : persist_chosen c (0 + p) T (write_chosen chosen i (pieces (GW slot group)) m)
        ≡ persist_chosen s.choice 0 T (write_chosen chosen i (pieces (GW slot group)) m)
    rest = chosen-agree c s.choice (0 + p) 0 T _ (λ j l. joined-from p (λ x. chosen (i + x)) s.choice (0 + p + j) (0 + j) (omega arith))

    fate-one : fates_chosen chosen i (GW slot group ∷ R) ≡ fates_chosen c 0 (GW slot group ∷ T)
    fate-one =
        fate-append chosen i (GW slot group ∷ []) R (refl, tt)
        ∙ ap (λ (x : List (ℕ → Bool)). x ++ fates_chosen chosen (i + piece_count (GW slot group ∷ [])) R)
        (fate-agree chosen c i 0 (GW slot group ∷ [])
        (λ j l. sym (joined-below p (λ x. chosen (i + x)) s.choice (0 + j) (omega arith) ∙ same j)))
        ∙ ap (λ (x : List (ℕ → Bool)). fates_chosen c 0 (GW slot group ∷ []) ++ x) fate-rest
        ∙ sym (fate-append c 0 (GW slot group ∷ []) T (refl, tt))
      where
        same : (j : ℕ) → chosen (i + (0 + j)) ≡ chosen (i + j)
        same j = let q : 0 + j ≡ j = omega arith in rw q

        fate-rest : fates_chosen chosen (i + (p + 0)) R ≡ fates_chosen c (0 + (p + 0)) T
        fate-rest =
            let q : i + (p + 0) ≡ i + p = omega arith in
            rw q
            (s.fates
            ∙ sym (fate-agree c s.choice (0 + (p + 0)) 0 T
            (λ j l. joined-from p (λ x. chosen (i + x)) s.choice (0 + (p + 0) + j) (0 + j) (omega arith))))

-- a home write in front goes behind the group writes
module _ (chosen : ℕ → Bool) (i home : ℕ) (block : List ℕ) (R : List Record) (m : Memory)
    (s : Sorted chosen (i + 1) R (group_part R ++ home_part R) (write_if (chosen i) (to_area (64 * home) block) m)) where
  abbrev n : ℕ
  n = piece_count (group_part R)

  abbrev later : ℕ → Bool
  later = joined 1 (λ j. chosen i) (λ j. s.choice (piece_count (group_part R) + j))

  abbrev c : ℕ → Bool
  c = joined (piece_count (group_part R)) s.choice later

  at-groups : Agree c s.choice 0 0 n
  at-groups j l = joined-below n s.choice later (0 + j) (omega arith)

  at_home : c (0 + n) ≡ chosen i
  at_home = joined-from n s.choice later (0 + n) 0 (omega arith) ∙ joined-below 1 (λ j. chosen i) (λ j. s.choice (n + j)) 0 (omega arith)

  at_homes : (k : ℕ) → Agree c s.choice (0 + n + 1) (0 + n) k
  at_homes k j l =
      let q : 0 + n + j ≡ n + j = omega arith in
      joined-from n s.choice later (0 + n + 1 + j) (1 + j) (omega arith)
      ∙ joined-from 1 (λ x. chosen i) (λ x. s.choice (n + x)) (1 + j) j refl ∙ rw q

  sort-home : Sorted chosen i (HW home block ∷ R) (group_part R ++ (HW home block ∷ home_part R)) m
  sort-home =
      record {
        choice = c;
        memory =
            chosen-home chosen i home block R m ∙ s.memory
            ∙ chosen-append s.choice 0 (group_part R) (home_part R) _ (none-groups R)
            ∙ ap (persist_chosen s.choice (0 + n) (home_part R)) (swap-groups s.choice 0 R (chosen i) (64 * home) block m)
            ∙ sym
            (chosen-append c 0 (group_part R) (HW home block ∷ home_part R) m (none-groups R)
            ∙ chosen-home c (0 + n) home block (home_part R) (persist_chosen c 0 (group_part R) m)
            ∙ rw (at_home, chosen-agree c s.choice 0 0 (group_part R) m at-groups)
            (chosen-agree c s.choice (0 + n + 1) (0 + n) (home_part R) _ (at_homes (piece_count (home_part R)))));
        fates =
            fate-home chosen i home block R ∙ s.fates
            ∙ fate-append s.choice 0 (group_part R) (home_part R) (none-groups R)
            ∙ sym
            (fate-append c 0 (group_part R) (HW home block ∷ home_part R) (none-groups R)
            ∙ rw (
              fate-agree c s.choice 0 0 (group_part R) at-groups,
              fate-home c (0 + n) home block (home_part R),
              fate-agree c s.choice (0 + n + 1) (0 + n) (home_part R) (at_homes (piece_count (home_part R))),
            ));
        all = λ f.
            joined-all n s.choice later (s.all f) (joined-all 1 (λ j. chosen i) (λ j. s.choice (n + j)) (λ j. f i) (λ j. s.all f (n + j)));
      }

pub sorted : (chosen : ℕ → Bool) (i : ℕ) (R : List Record) (m : Memory) → Mixed R → Sorted chosen i R (group_part R ++ home_part R) m
unfolding group_part home_part
sorted chosen i [] m f =
    record { choice = chosen; memory = (unfold persist_chosen in refl); fates = (unfold fates_chosen in refl); all = λ h. h }
sorted chosen i (GW slot group ∷ R) m f =
    sort-group chosen i slot group R (group_part R ++ home_part R) m (sorted chosen (i + many (pieces (GW slot group))) R _ f)
sorted chosen i (HW home block ∷ R) m f = sort-home chosen i home block R m (sorted chosen (i + 1) R _ f)
sorted chosen i (KW header ∷ R) m f = absurd f
sorted chosen i (FN ∷ R) m f = absurd f

-- and with records behind them that stay where they are
module _ (chosen : ℕ → Bool) (R X : List Record) (m : Memory) (f : Mixed R) where
  abbrev first : Sorted chosen 0 R (group_part R ++ home_part R) m
  first = sorted chosen 0 R m f

  abbrev size : ℕ
  size = piece_count R

  same_size : piece_count (group_part R ++ home_part R) ≡ size
  same_size = piece_count-append (group_part R) (home_part R) ∙ piece_count-parts R f

  abbrev both : ℕ → Bool
  both = joined (piece_count R) first.choice (λ j. chosen (0 + piece_count R + j))

  at_first : Agree both first.choice 0 0 (piece_count (group_part R ++ home_part R))
  at_first j l = joined-below size first.choice (λ x. chosen (0 + size + x)) (0 + j) (omega (arith, same_size))

  at_rest : (k : ℕ) → Agree both chosen (0 + piece_count (group_part R ++ home_part R)) (0 + size) k
  at_rest k j l =
      joined-from size first.choice (λ x. chosen (0 + size + x)) (0 + piece_count (group_part R ++ home_part R) + j) j (omega (arith, same_size))

  pub sorted-then : Sorted chosen 0 (R ++ X) ((group_part R ++ home_part R) ++ X) m
  sorted-then =
      record {
        choice = both;
        memory =
            chosen-append chosen 0 R X m (none-mixed R f) ∙ ap (persist_chosen chosen (0 + size) X) first.memory
            ∙ sym
            (chosen-append both 0 (group_part R ++ home_part R) X m (none-sorted R)
            ∙ ap (persist_chosen both (0 + piece_count (group_part R ++ home_part R)) X) (chosen-agree both first.choice 0 0 (group_part R ++ home_part R) m at_first)
            ∙ chosen-agree both chosen (0 + piece_count (group_part R ++ home_part R)) (0 + size) X _ (at_rest (piece_count X)));
        fates =
            fate-append chosen 0 R X (none-mixed R f)
            ∙ ap (λ (x : List (ℕ → Bool)). x ++ fates_chosen chosen (0 + size) X) first.fates
            ∙ sym
            (fate-append both 0 (group_part R ++ home_part R) X (none-sorted R)
            ∙ rw (
              fate-agree both first.choice 0 0 (group_part R ++ home_part R) at_first,
              fate-agree both chosen (0 + piece_count (group_part R ++ home_part R)) (0 + size) X (at_rest (piece_count X)),
            ));
        all = λ h. joined-all size first.choice (λ j. chosen (0 + size + j)) (first.all h) (λ j. h (0 + size + j));
      }

-- the same where all of them are written
pub sorted-wrote : (R : List Record) (m : Memory) → Mixed R → write_records R m ≡ write_records (group_part R ++ home_part R) m
sorted-wrote R m f =
    let s = sorted (λ x. true) 0 R m f in
    sym (chosen-all 0 R m (none-mixed R f)) ∙ s.memory
    ∙ chosen-agree s.choice (λ x. true) 0 0 (group_part R ++ home_part R) m (λ j l. s.all (λ x. refl) (0 + j))
    ∙ chosen-all 0 (group_part R ++ home_part R) m (none-sorted R)
