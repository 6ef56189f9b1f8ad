-- The right to touch each home of a call. Assumes nothing.
use mathlib.Core.Path.{◌≡◌, refl, sym, ap, ◌∙◌}
use mathlib.Core.Bool.{Bool, true, false, not, ◌&&◌, and-false}
use mathlib.Core.List.{List, []}
use mathlib.Core.Option.{Option, none, some}
use Prim.Native.Nat.{ℕ, zero, suc, ◌+◌, ◌<◌}
use native.Mathlib.Decide.{ℕ_discrete}
use native.Mathlib.Omega.{arith}
use borrow.Author.Tests.{not-true, not-false}
use lib.ListN.{length}
use Rattle.model.specs.Layout.{home_count}
use Rattle.model.specs.State.{list_home, list_sign}
use Rattle.model.specs.Effects.{Given, tags_of, live_tags, live_base, is_there, block_or}
use Rattle.model.specs.Rights.{for_home, shown_at, list_by, read_list, right_to_store, right_to_read}
use Rattle.model.specs.Questions.{read_allowed}
use Rattle.call_ask.specs.Lent.{lent_all}
use Rattle.acts.specs.Many.{all_of}

-- ---- all of some homes

pub all_none : (test : ℕ → Bool) (home : ℕ) → all_of test home 0 ≡ true
unfolding all_of
all_none test home = refl

pub all_more : (test : ℕ → Bool) (home i : ℕ) (r : Bool) → all_of test home i ≡ true → r ≡ test (home + i) → not r ≡ false
    → all_of test home (i + 1) ≡ true
unfolding all_of
all_more test home i r h e k = let q : i + 1 ≡ suc i = omega arith in rw (q, h) (sym e ∙ not-false r k)

all-no : (test : ℕ → Bool) (home i n : ℕ) → i < n → test (home + i) ≡ false → all_of test home n ≡ false
unfolding all_of
all-no test home i zero l h = absurd (omega arith)
all-no test home i (suc n) l h = go (ℕ_discrete i n) (λ k. all-no test home i n k h)
  where
    go : Dec (i ≡ n) → (i < n → all_of test home n ≡ false) → (all_of test home n && test (home + n)) ≡ false
    go (yes e) f = rw (← e, h) (and-false (all_of test home i))
    go (no e) f = rw (f (omega arith))

pub all-refused : (test : ℕ → Bool) (home i n : ℕ) (r : Bool) → i < n → r ≡ test (home + i) → not r ≡ true → false ≡ all_of test home n
all-refused test home i n r l e k = sym (all-no test home i n l (sym e ∙ not-true r k))

pub all_done : (test : ℕ → Bool) (home i n : ℕ) → all_of test home i ≡ true → i ≡ n → true ≡ all_of test home n
all_done test home i n h e = sym h ∙ ap (all_of test home) e

-- ---- the list hangs on the copies, the strip and the newest positions only

pub block_same : (g k : Given) (o : Option ℕ) (other : List ℕ) → g.log ≡ k.log → block_or g o other ≡ block_or k o other
unfolding block_or
block_same g k none other e = refl
block_same g k (some p) other e = rw e

shown-same : (l a s p x b : List ℕ) (w h v i home q : ℕ)
    → shown_at (for_home (lent_all l a s p x b w h) home) q ≡ shown_at (for_home (lent_all l a s p [] [] v i) home) q
unfolding shown_at for_home is_there live_tags live_base tags_of
shown-same l a s p x b w h v i home q = block_same (lent_all l a s p x b w home) (lent_all l a s p [] [] v home) _ _ refl

list_same : (l a s p x b : List ℕ) (w h v i : ℕ) (kept : ℕ → ℕ) (n : ℕ)
    → list_by (lent_all l a s p x b w h) kept n ≡ list_by (lent_all l a s p [] [] v i) kept n
unfolding list_by
list_same l a s p x b w h v i kept zero = refl
list_same l a s p x b w h v i kept (suc n) =
    rw (list_same l a s p x b w h v i kept n, shown-same l a s p x b w h v i (list_home + n) (kept n))

pub read-list-same : (l a s p x b : List ℕ) (w h v i : ℕ) → read_list (lent_all l a s p x b w h) ≡ read_list (lent_all l a s p [] [] v i)
unfolding read_list
read-list-same l a s p x b w h v i = list_same l a s p x b w h v i _ 4

-- ---- the two questions, home by home

abbrev pub store_test : List ℕ → List ℕ → List ℕ → List ℕ → ℕ → ℕ → Bool
store_test l a s p w = right_to_store (list_sign s) (home_count (length a)) (read_list (lent_all l a s p [] [] w 0)) w

abbrev pub read_test : List ℕ → List ℕ → List ℕ → List ℕ → ℕ → ℕ → Bool
read_test l a s p w = right_to_read (list_sign s) (home_count (length a)) (read_list (lent_all l a s p [] [] w 0)) w

pub store-test : (l a s p : List ℕ) (w home : ℕ) (r : Bool) → r ≡ right_to_store (list_sign s) (home_count (length a)) (read_list (lent_all l a s p [] [] w home)) w home
    → r ≡ store_test l a s p w home
store-test l a s p w home r e = e ∙ rw (read-list-same l a s p [] [] w home w 0)

pub read-test : (l a s p : List ℕ) (w home : ℕ) (r : Bool) → r ≡ read_allowed (lent_all l a s p [] [] w home)
    → r ≡ read_test l a s p w home
unfolding read_allowed
read-test l a s p w home r e = e ∙ rw (read-list-same l a s p [] [] w home w 0)
