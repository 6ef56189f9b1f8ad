-- Laws of the list of the numbers that a test marks, rising (the model's `marked`), and of lists raised by a base.
-- A law takes its variables in the order in which its left side first names them, then its premises. Assumes nothing.
use mathlib.Core.Path.{◌≡◌, refl, sym, ap, ◌∙◌}
use mathlib.Core.Bool.{Bool, true, false, cond}
use mathlib.Core.List.{List, [], ◌∷◌, ◌++◌, append-nil, append_assoc}
use Prim.Native.Nat.{ℕ, zero, suc, ◌+◌, ◌-◌, ◌≤◌, ◌<◌}
use native.Mathlib.Omega.{arith}
use lib.ListN.{length, drop, length-append}
use Rattle.model.specs.Effects.{marked}
use Rattle.base_bitmap.specs.Marks.{raised}

-- ---- raised by a base

pub length-raised : (base : ℕ) (ks : List ℕ) → length (raised base ks) ≡ length ks
unfolding raised
length-raised base [] = refl
length-raised base (k ∷ ks) = ap suc (length-raised base ks)

pub raised-nil : (base : ℕ) → raised base [] ≡ []
unfolding raised
raised-nil base = refl

pub raised-cons : (base k : ℕ) (ks : List ℕ) → raised base (k ∷ ks) ≡ (base + k) ∷ raised base ks
unfolding raised
raised-cons base k ks = refl

pub raised-append : (base : ℕ) (ks ls : List ℕ) → raised base (ks ++ ls) ≡ raised base ks ++ raised base ls
unfolding raised
raised-append base [] ls = refl
raised-append base (k ∷ ks) ls = ap {B = List ℕ} (λ r. (base + k) ∷ r) (raised-append base ks ls)

-- ---- what a test marks

-- the one that the next number adds
one : Bool → ℕ → List ℕ
one b n = cond b (n ∷ []) []

pub marked-zero : (f : ℕ → Bool) → marked f 0 ≡ []
unfolding marked
marked-zero f = refl

marked-suc : (f : ℕ → Bool) (n : ℕ) → marked f (suc n) ≡ marked f n ++ one (f n) n
unfolding marked one
marked-suc f n = refl

raised-one : (base : ℕ) (b : Bool) (k : ℕ) → raised base (one b k) ≡ one b (base + k)
unfolding raised one
raised-one base true k = refl
raised-one base false k = refl

length-one : (b : Bool) (n : ℕ) → length (one b n) ≤ 1
unfolding one
length-one true n = omega arith
length-one false n = omega arith

one-false : (n : ℕ) → one false n ≡ []
unfolding one
one-false n = refl

one-true : (n : ℕ) → one true n ≡ n ∷ []
unfolding one
one-true n = refl

pub length_marked : (f : ℕ → Bool) (n : ℕ) → length (marked f n) ≤ n
length_marked f zero = rw marked-zero (omega arith)
length_marked f (suc n) = rw (marked-suc, length-append) (omega (arith, length_marked f n, length-one (f n) n))

-- tests that agree mark the same
pub marked-same : (f : ℕ → Bool) (n : ℕ) (g : ℕ → Bool) → ((j : ℕ) → j < n → f j ≡ g j) → marked f n ≡ marked g n
marked-same f zero g h = rw (marked-zero f, marked-zero g)
marked-same f (suc n) g h = rw (marked-suc f n, marked-suc g n, marked-same f n g (λ j l. h j (omega arith)), h n (omega arith))

-- a test that is false marks none
pub marked-none : (f : ℕ → Bool) (n : ℕ) → ((j : ℕ) → j < n → f j ≡ false) → marked f n ≡ []
marked-none f zero h = marked-zero f
marked-none f (suc n) h = rw (marked-suc f n, marked-none f n (λ j l. h j (omega arith)), h n (omega arith), one-false)

-- the numbers below m, and those from m on
pub marked-add : (f : ℕ → Bool) (m k : ℕ) → marked f (m + k) ≡ marked f m ++ raised m (marked (λ j. f (m + j)) k)
marked-add f m zero =
    let e : m + 0 ≡ m = omega arith in
    rw (e, marked-zero (λ j. f (m + j)), raised-nil, append-nil)
marked-add f m (suc k) =
    let e : m + suc k ≡ suc (m + k) = omega arith in
    rw (e, marked-suc f (m + k), marked-add f m k, marked-suc (λ j. f (m + j)) k, raised-append, raised-one, append_assoc)

pub length-marked-le : (f : ℕ → Bool) (m n : ℕ) → m ≤ n → length (marked f m) ≤ length (marked f n)
length-marked-le f m n l =
    let e : n ≡ m + (n - m) = omega arith in
    rw (e, marked-add f m (n - m), length-append) (omega arith)

-- a test that is false from n on marks no more
pub marked_more : (f : ℕ → Bool) (n k : ℕ) → ((j : ℕ) → n ≤ j → f j ≡ false) → marked f (n + k) ≡ marked f n
marked_more f n k h = rw (marked-add f n k, marked-none (λ j. f (n + j)) k (λ j l. h (n + j) (omega arith)), raised-nil, append-nil)

-- the same for a larger bound
pub marked-up-to : (f : ℕ → Bool) (m n : ℕ) → n ≤ m → ((j : ℕ) → n ≤ j → f j ≡ false) → marked f m ≡ marked f n
marked-up-to f m n l h = let e : m ≡ n + (m - n) = omega arith in ap (marked f) e ∙ marked_more f n (m - n) h

-- ---- the lowest that a test marks, and the rest

-- what a test marks above t
above : (ℕ → Bool) → ℕ → ℕ → List ℕ
above f t k = raised (t + 1) (marked (λ j. f (t + 1 + j)) k)

split : (f : ℕ → Bool) (n t : ℕ) → t < n → ((j : ℕ) → j < t → f j ≡ false) → marked f n ≡ one (f t) t ++ above f t (n - (t + 1))
unfolding above
split f n t l h =
    let e : n ≡ t + 1 + (n - (t + 1)) = omega arith in
    let s : t + 1 ≡ suc t = omega arith in
    let m : marked f (t + 1) ≡ one (f t) t = ap (marked f) s ∙ marked-suc f t ∙ ap {B = List ℕ} (λ r. r ++ one (f t) t) (marked-none f t h) in
    ap (marked f) e ∙ marked-add f (t + 1) (n - (t + 1)) ∙ ap {B = List ℕ} (λ r. r ++ raised (t + 1) (marked (λ j. f (t + 1 + j)) (n - (t + 1)))) m

module _ (f : ℕ → Bool) (n t : ℕ) (inside : t < n) (none : (j : ℕ) → j < t → f j ≡ false) (here : f t ≡ true) where
  first : marked f n ≡ t ∷ above f t (n - (t + 1))
  first = split f n t inside none ∙ rw (here, one-true)

  -- the lowest stands first
  pub marked-lowest : marked f n ≡ t ∷ drop 1 (marked f n)
  marked-lowest = first ∙ ap {B = List ℕ} (λ r. t ∷ drop 1 r) (sym first)

  -- a test that is the same but for the lowest marks the rest
  pub marked-rest : (g : ℕ → Bool) → g t ≡ false → ((j : ℕ) → (j ≡ t → ⊥) → g j ≡ f j) → marked g n ≡ drop 1 (marked f n)
  unfolding above
  marked-rest g gone kept =
      split g n t inside (λ j l. kept j (λ e. omega arith) ∙ none j l)
      ∙ rw (gone, one-false)
      (ap (raised (t + 1)) (marked-same (λ j. g (t + 1 + j)) (n - (t + 1)) (λ j. f (t + 1 + j)) (λ j l. kept (t + 1 + j) (λ e. omega arith)))
      ∙ ap {B = List ℕ} (λ r. drop 1 r) (sym first))
