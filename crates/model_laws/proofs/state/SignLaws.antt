-- Laws of the list's sign in the state strip (specs/State) and of what commit keeps of the list (specs/Rights). The sign lies where a fifth position of
-- the list would, so the laws of the positions in ListedLaws hold for it. Assumes nothing.
use mathlib.Core.Path.{◌≡◌, refl, sym, ◌∙◌}
use mathlib.Core.Bool.{Bool, true, false, cond, not, ◌&&◌, false≢true}
use mathlib.Core.List.{List, []}
use mathlib.Core.Option.{none, some}
use Prim.Native.Nat.{ℕ, zero, suc, ◌+◌, ◌*◌, ◌^◌, ◌≤◌, ◌<◌}
use native.Mathlib.Omega.{arith}
use lib.Dec.{eqb, leb}
use lib.ListN.{length}
use borrow.Author.Tests.{le-leb, lt-leb, leb-true, eqb-true, eqb-false}
use Rattle.model.specs.Bytes.{part, zeros, same}
use Rattle.model.specs.Layout.{home_at}
use Rattle.model.specs.State.{state_of, fresh_numbers, fresh_state, mode_offset, writer_offset, writer_of, held_offset, held_of, promise_offset, promise_of, list_home, listed_of, set_listed, list_sign, set_list_sign}
use Rattle.model.specs.Newest.{no_position, kept_for, carry_listed}
use Rattle.model.specs.Given.{Given, homes, tags_of, live_base, live_tags, block_or, is_there}
use Rattle.model.specs.Rights.{for_home, shown_at, read_list, is_list, may_store, may_read, list_moved, sign_for, open_sign, sign_if, keep_list, same_listed, signed_list, right_to_store, right_to_read, Faithful}
use Rattle.model_laws.proofs.bytes.ByteLaws.{length-zeros, length-put_number, length_part, part-put-below, number-same-part, number-put-below, number-above}
use Rattle.model_laws.proofs.state.StateLaws.{length-laws, state-agree, writer-agree, number-back}
use Rattle.model_laws.proofs.state.RightLaws.{list-by}
use Rattle.model_laws.proofs.state.ListedLaws.{length-set_listed, listed-ones, length-carry, state-carry, writer-carry, held-carry, promise-carry, listed-carry}

and_left : (a b : Bool) → (a && b) ≡ true → a ≡ true
and_left true b e = refl
and_left false b e = e

and_right : (a b : Bool) → (a && b) ≡ true → b ≡ true
and_right true b e = e
and_right false b e = absurd (false≢true e)

pub sign-listed : (s : List ℕ) → list_sign s ≡ listed_of s 4
unfolding list_sign listed_of
sign-listed s = refl

-- ---- after set_list_sign

module _ (s : List ℕ) (v : ℕ) where
  pub length-set_list_sign : length (set_list_sign s v) ≡ length s
  unfolding set_list_sign
  length-set_list_sign = length-put_number 8 s 928 v

  part-set_list_sign : (a n : ℕ) → a + n ≤ 928 → part (set_list_sign s v) a n ≡ part s a n
  unfolding set_list_sign
  part-set_list_sign a n h = part-put-below 8 s 928 v a n h

  pub state-set_list_sign : state_of (set_list_sign s v) ≡ state_of s
  state-set_list_sign = state-agree (set_list_sign s v) s (part-set_list_sign 0 72 (omega arith)) (part-set_list_sign 88 16 (omega arith))

  pub writer-set_list_sign : (w : ℕ) → w < 8 → writer_of (set_list_sign s v) w ≡ writer_of s w
  unfolding mode_offset writer_offset
  writer-set_list_sign w l = writer-agree (set_list_sign s v) s w (part-set_list_sign (mode_offset w) 1 (omega arith)) (part-set_list_sign (writer_offset w) 24 (omega arith))

  pub held-set_list_sign : (w : ℕ) → w < 8 → held_of (set_list_sign s v) w ≡ held_of s w
  unfolding held_of held_offset
  held-set_list_sign w l = part-set_list_sign (held_offset w) 64 (omega arith)

  pub promise-set_list_sign : (w : ℕ) → w < 8 → promise_of (set_list_sign s v) w ≡ promise_of s w
  unfolding promise_of promise_offset
  promise-set_list_sign w l = number-same-part 2 (set_list_sign s v) (72 + 2 * w) s (72 + 2 * w) (part-set_list_sign (72 + 2 * w) 2 (omega arith))

  pub listed-set_list_sign : (i : ℕ) → i < 4 → listed_of (set_list_sign s v) i ≡ listed_of s i
  unfolding listed_of set_list_sign
  listed-set_list_sign i l = number-put-below 8 8 s 928 v (896 + 8 * i) (omega arith)

  pub sign-set_list_sign : length s ≡ 1024 → v < 2 ^ 64 → list_sign (set_list_sign s v) ≡ v
  unfolding list_sign set_list_sign
  sign-set_list_sign l h = number-back s 928 v l (omega arith) h

-- ---- what commit keeps

module _ (g : Given) where
  carried : List ℕ
  carried = carry_listed (homes g) g.newest g.state

  -- it is set_list_sign after carry_listed, or carry_listed alone
  kept-as : (P : List ℕ → Type 0) → P (carry_listed (homes g) g.newest g.state)
      → ((v : ℕ) → P (set_list_sign (carry_listed (homes g) g.newest g.state) v)) → P (keep_list g)
  unfolding keep_list sign_if
  kept-as P stays f = go (list_moved g)
    where
      go : (d : Bool)
          → P (cond d (set_list_sign (carry_listed (homes g) g.newest g.state) (sign_for (read_list g))) (carry_listed (homes g) g.newest g.state))
      go true = f (sign_for (read_list g))
      go false = stays

  pub length-keep_list : length (keep_list g) ≡ length g.state
  length-keep_list =
      kept-as (λ t. length t ≡ length g.state) (length-carry (homes g) g.newest g.state)
      (λ v. length-set_list_sign _ v ∙ length-carry (homes g) g.newest g.state)

  pub state-keep_list : state_of (keep_list g) ≡ state_of g.state
  state-keep_list =
      kept-as (λ t. state_of t ≡ state_of g.state) (state-carry (homes g) g.newest g.state)
      (λ v. state-set_list_sign _ v ∙ state-carry (homes g) g.newest g.state)

  pub writer-keep_list : (w : ℕ) → w < 8 → writer_of (keep_list g) w ≡ writer_of g.state w
  writer-keep_list w l =
      kept-as (λ t. writer_of t w ≡ writer_of g.state w) (writer-carry (homes g) g.newest g.state w l)
      (λ v. writer-set_list_sign _ v w l ∙ writer-carry (homes g) g.newest g.state w l)

  pub held-keep_list : (w : ℕ) → w < 8 → held_of (keep_list g) w ≡ held_of g.state w
  held-keep_list w l =
      kept-as (λ t. held_of t w ≡ held_of g.state w) (held-carry (homes g) g.newest g.state w l)
      (λ v. held-set_list_sign _ v w l ∙ held-carry (homes g) g.newest g.state w l)

  pub promise-keep_list : (w : ℕ) → w < 8 → promise_of (keep_list g) w ≡ promise_of g.state w
  promise-keep_list w l =
      kept-as (λ t. promise_of t w ≡ promise_of g.state w) (promise-carry (homes g) g.newest g.state w l)
      (λ v. promise-set_list_sign _ v w l ∙ promise-carry (homes g) g.newest g.state w l)

  pub listed-keep_list : (i : ℕ) → list_home + 4 ≤ homes g → length g.newest ≡ 8 * homes g → length g.state ≡ 1024 → i < 4
      → listed_of (keep_list g) i ≡ kept_for g.newest (list_home + i)
  listed-keep_list i h n l k =
      kept-as (λ t. listed_of t i ≡ kept_for g.newest (list_home + i)) (listed-carry (homes g) g.newest g.state i h n l k)
      (λ v. listed-set_list_sign _ v i k ∙ listed-carry (homes g) g.newest g.state i h n l k)

-- ---- the sign after it

-- the four positions leave it
pub sign-carry : (d : ℕ) (newest s : List ℕ) → length newest ≡ 8 * d → list_sign (carry_listed d newest s) ≡ list_sign s
unfolding carry_listed list_sign set_listed
sign-carry d newest s n = go (leb (list_home + 4) d) refl
  where
    go : (b : Bool) → leb (list_home + 4) d ≡ b → list_sign (cond b (set_listed s (part newest (8 * list_home) 32)) s) ≡ list_sign s
    go true e =
        let l : length (part newest (8 * list_home) 32) ≡ 32 = length_part newest (8 * list_home) 32 (omega (arith, leb-true (list_home + 4) d e)) in
        number-above 8 s 896 (part newest (8 * list_home) 32) 928 (omega arith)
    go false e = refl

sign_small : (list : List ℕ) → sign_for list < 2 ^ 64
unfolding sign_for
sign_small list = go (same list (zeros 256))
  where
    go : (d : Bool) → cond d 1 2 < 2 ^ 64
    go true = omega arith
    go false = omega arith

module _ (g : Given) where
  pub sign-stays : list_moved g ≡ false → length g.newest ≡ 8 * homes g → list_sign (keep_list g) ≡ list_sign g.state
  unfolding keep_list sign_if
  sign-stays e n = rw e (sign-carry (homes g) g.newest g.state n)

  pub sign-moves : list_moved g ≡ true → length g.state ≡ 1024 → list_sign (keep_list g) ≡ sign_for (read_list g)
  unfolding keep_list sign_if
  sign-moves e l =
      rw e (sign-set_list_sign _ (sign_for (read_list g)) (length-carry (homes g) g.newest g.state ∙ l) (sign_small (read_list g)))

  same-each : (n i : ℕ) → same_listed g n ≡ true → i < n → listed_of g.state i ≡ kept_for g.newest (list_home + i)
  unfolding same_listed
  same-each zero i e l = absurd (omega arith)
  same-each (suc n) i e l = go (eqb i n) refl (λ k. same-each n i (and_left (same_listed g n) _ e) k)
    where
      go : (d : Bool) → eqb i n ≡ d → (i < n → listed_of g.state i ≡ kept_for g.newest (list_home + i)) → listed_of g.state i ≡ kept_for g.newest (list_home + i)
      go true q f = rw (eqb-true i n q) (eqb-true _ _ (and_right (same_listed g n) _ e))
      go false q f = f (omega (arith, eqb-false i n q))

  -- where no position has changed, the strip has those that the newest positions have
  pub none-moved : list_home + 4 ≤ homes g → list_moved g ≡ false → (i : ℕ) → i < 4 → listed_of g.state i ≡ kept_for g.newest (list_home + i)
  unfolding list_moved
  none-moved h e i k = same-each 4 i (not-false _ (rw (le-leb (list_home + 4) (homes g) h) at e)) k
    where
      not-false : (b : Bool) → not b ≡ false → b ≡ true
      not-false true e = refl
      not-false false e = absurd (false≢true (sym e))

-- the sign that an opening leaves
pub sign-fresh : (groups n start : ℕ) (area : List ℕ) → list_home + 4 ≤ n
    → list_sign (fresh_state groups n start (open_sign n area)) ≡ sign_for (part area (64 * list_home) 256)
unfolding fresh_state fresh_numbers open_sign
sign-fresh groups n start area h =
    rw (le-leb (list_home + 4) n h)
    (sign-set_list_sign _ (sign_for (part area (64 * list_home) 256)) (length-set_listed _ _ ∙ simp (length-laws, length-zeros))
    (sign_small (part area (64 * list_home) 256)))

pub listed-fresh : (groups n start sign i : ℕ) → i < 4 → listed_of (fresh_state groups n start sign) i ≡ no_position
unfolding fresh_state fresh_numbers
listed-fresh groups n start sign i h = listed-set_list_sign _ sign i h ∙ listed-ones _ i (simp (length-laws, length-zeros)) h

-- ---- the list by a strip with the same numbers

module _ (s t newest log area : List ℕ) (e : state_of s ≡ state_of t) where
  abbrev by : List ℕ → Given
  by state = record { state = state; newest = newest; log = log; area = area; block = []; batch = []; writer = 0; home = 0 }

  shown-numbers : (h p : ℕ) → shown_at (for_home (by s) h) p ≡ shown_at (for_home (by t) h) p
  unfolding for_home shown_at is_there live_base live_tags tags_of
  shown-numbers h p = rw e (go (is_there (for_home (by t) h) p))
    where
      go : (d : Bool) → block_or (for_home (by s) h) (cond d (some p) none) (home_at area h) ≡ block_or (for_home (by t) h) (cond d (some p) none) (home_at area h)
      go true = unfold block_or in refl
      go false = unfold block_or in refl

  pub list-numbers : read_list (by s) ≡ read_list (by t)
  unfolding read_list
  list-numbers =
      list-by (by s) (by t) (λ i. kept_for newest (list_home + i)) (λ i. kept_for newest (list_home + i)) 4
      (λ i l. shown-numbers (list_home + i) (kept_for newest (list_home + i)))

-- ---- a faithful sign

pub sign-faithful : (list : List ℕ) → Faithful (sign_for list) list
unfolding sign_for
sign-faithful list = go (same list (zeros 256)) refl
  where
    go : (d : Bool) → same list (zeros 256) ≡ d → Faithful (cond d 1 2) list
    go true e = record { empty = λ h. e; given = λ h. absurd (omega (arith, h)) }
    go false e = record { empty = λ h. absurd (omega (arith, h)); given = λ h. e }

module _ (sign : ℕ) (list : List ℕ) (f : Faithful sign list) (homes writer home : ℕ) where
  list-agrees : signed_list sign homes list ≡ is_list homes list
  unfolding signed_list is_list
  list-agrees = go (eqb sign 1) refl (eqb sign 2) refl
    where
      go : (a : Bool) → eqb sign 1 ≡ a → (b : Bool) → eqb sign 2 ≡ b
          → (leb (list_home + 4) homes && cond a false (cond b true (not (same list (zeros 256))))) ≡ (leb (list_home + 4) homes && not (same list (zeros 256)))
      go true e b q = rw (f.empty (eqb-true sign 1 e))
      go false e true q = rw (f.given (eqb-true sign 2 q))
      go false e false q = refl

  pub store-agrees : right_to_store sign homes list writer home ≡ may_store homes list writer home
  unfolding right_to_store may_store
  store-agrees = rw list-agrees

  pub read-agrees : right_to_read sign homes list writer home ≡ may_read homes list writer home
  unfolding right_to_read may_read
  read-agrees = rw list-agrees

-- ---- where D is too small for a list, none counts

pub store-none : (sign homes : ℕ) (a b : List ℕ) (writer home : ℕ) → homes < list_home + 4 → right_to_store sign homes a writer home ≡ may_store homes b writer home
unfolding right_to_store may_store signed_list is_list
store-none sign homes a b writer home l = rw (lt-leb (list_home + 4) homes l)

pub read_none : (sign homes : ℕ) (a b : List ℕ) (writer home : ℕ) → homes < list_home + 4 → right_to_read sign homes a writer home ≡ may_read homes b writer home
unfolding right_to_read may_read signed_list is_list
read_none sign homes a b writer home l = rw (lt-leb (list_home + 4) homes l)
