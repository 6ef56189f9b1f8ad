-- Laws of a round's step: the first k of the homes that a test marks, and homes that get the block of their newest entry. Assumes nothing.
use Prim.Native.Nat.{ℕ, zero, suc, ◌+◌, ◌-◌, ◌*◌, ◌≤◌, ◌<◌}
use mathlib.Core.Path.{◌≡◌, refl, sym, ap, ◌∙◌}
use mathlib.Core.Logic.{◌⊎◌, inl, inr}
use mathlib.Core.Bool.{Bool, true, false, cond}
use mathlib.Core.List.{List, [], ◌∷◌, ◌++◌, append-nil}
use mathlib.Core.Option.{Option, none, some}
use native.Mathlib.Decide.{dec_le, ℕ_discrete}
use native.Mathlib.Omega.{arith}
use lib.ListN.{length, get_or, take, length-append, get_or-append}
use lib.Seq.{take_all, take-append-le, get_or-append_seam}
use Rattle.model.specs.Layout.{block_at, home_at}
use Rattle.model.specs.Commit.{newest}
use Rattle.model.specs.Effects.{marked, restore_home, restored_homes}
use Rattle.model.specs.declared.Tag.{Tag}
use Rattle.model_laws.proofs.bytes.LayoutLaws.{length-put_home, home_same, home-other}
use Rattle.model_laws.proofs.trace.HomeLaws.{In}
use Rattle.model_laws.proofs.trace.ReplayLaws.{block_for}

-- ---- the first k of the marked homes are those below a bound: the k-th and one

pub in-at : (xs : List ℕ) (i : ℕ) → i < length xs → In (get_or xs i 0) xs
in-at [] i l = absurd (omega arith)
in-at (x ∷ xs) zero l = inl refl
in-at (x ∷ xs) (suc i) l = inr (in-at xs i (omega arith))

pub take-marked : (test : ℕ → Bool) (n k : ℕ) → 1 ≤ k → k ≤ length (marked test n)
    → take k (marked test n) ≡ marked test (get_or (marked test n) (k - 1) 0 + 1)
unfolding marked
take-marked test zero k l u = absurd (omega arith)
take-marked test (suc n) k l u = go (dec_le k (length (marked test n))) (test n) refl u (take-marked test n k l)
  where
    go : Dec (k ≤ length (marked test n)) → (d : Bool) → test n ≡ d → k ≤ length (marked test n ++ cond d (n ∷ []) [])
        → (k ≤ length (marked test n) → take k (marked test n) ≡ marked test (get_or (marked test n) (k - 1) 0 + 1))
        → take k (marked test n ++ cond d (n ∷ []) []) ≡ marked test (get_or (marked test n ++ cond d (n ∷ []) []) (k - 1) 0 + 1)
    go (yes h) d e v f =
        take-append-le k (marked test n) (cond d (n ∷ []) []) h ∙ f h
        ∙ ap (λ (x : ℕ). marked test (x + 1)) (sym (get_or-append (marked test n) (cond d (n ∷ []) []) 0 (k - 1) (omega arith)))
    go (no h) true e v f =
        let q : length (marked test n ++ (n ∷ [])) ≡ length (marked test n) + 1 = length-append (marked test n) (n ∷ []) in
        let at : k - 1 ≡ length (marked test n) = omega (arith, q) in
        take_all k (marked test n ++ (n ∷ [])) (omega (arith, q))
        ∙ sym (rw (at, get_or-append_seam (marked test n) n [] 0) (more n e))
      where
        more : (x : ℕ) → test x ≡ true → marked test (x + 1) ≡ marked test x ++ (x ∷ [])
        more x t = let s : x + 1 ≡ suc x = omega arith in rw s (rw t)
    go (no h) false e v f =
        let q : length (marked test n ++ []) ≡ length (marked test n) = ap length (append-nil (marked test n)) in
        absurd (h (omega (arith, q)))

-- ---- whether a home is in a list

pub in-or-not : (h : ℕ) (hs : List ℕ) → In h hs ⊎ (In h hs → ⊥)
in-or-not h [] = inr (λ i. i)
in-or-not h (x ∷ hs) = go (ℕ_discrete h x) (in-or-not h hs)
  where
    rest : (h ≡ x → ⊥) → (In h hs → ⊥) → In h (x ∷ hs) → ⊥
    rest n f (inl e) = n e
    rest n f (inr i) = f i

    go : Dec (h ≡ x) → In h hs ⊎ (In h hs → ⊥) → In h (x ∷ hs) ⊎ (In h (x ∷ hs) → ⊥)
    go (yes e) o = inl (inl e)
    go (no n) (inl i) = inl (inr i)
    go (no n) (inr f) = inr (rest n f)

-- ---- homes restored

module _ (log : List ℕ) (G D : ℕ) (tags : ℕ → Tag) (ts : List (List ℕ)) (sized : (p : ℕ) → length (block_at log G p) ≡ 64) where
  length-one : (x : ℕ) (o : Option ℕ) (A : List ℕ) → length (restore_home log G x o A) ≡ length A
  unfolding restore_home
  length-one x none A = refl
  length-one x (some p) A = length-put_home A x (block_at log G p)

  one-other : (x : ℕ) (o : Option ℕ) (A : List ℕ) (h : ℕ) → (h ≡ x → ⊥) → home_at (restore_home log G x o A) h ≡ home_at A h
  unfolding restore_home
  one-other x none A h n = refl
  one-other x (some p) A h n = home-other A x (block_at log G p) h n (omega (arith, sized p))

  one_same : (x : ℕ) (o : Option ℕ) (A : List ℕ) → x < D → length A ≡ 64 * D → home_at (restore_home log G x o A) x ≡ block_for log G o (home_at A x)
  unfolding restore_home block_for
  one_same x none A l e = refl
  one_same x (some p) A l e = home_same A x (block_at log G p) (sized p) (omega arith)

  pub length-restored : (hs A : List ℕ) → length (restored_homes log G tags ts hs A) ≡ length A
  unfolding restored_homes
  length-restored [] A = refl
  length-restored (x ∷ hs) A = length-restored hs (restore_home log G x (newest tags x ts) A) ∙ length-one x (newest tags x ts) A

  pub restored-other : (hs A : List ℕ) (h : ℕ) → (In h hs → ⊥) → home_at (restored_homes log G tags ts hs A) h ≡ home_at A h
  unfolding restored_homes
  restored-other [] A h n = refl
  restored-other (x ∷ hs) A h n =
      restored-other hs (restore_home log G x (newest tags x ts) A) h (λ i. n (inr i))
      ∙ one-other x (newest tags x ts) A h (λ e. n (inl e))

  again : (o : Option ℕ) (other : List ℕ) → block_for log G o (block_for log G o other) ≡ block_for log G o other
  unfolding block_for
  again none other = refl
  again (some p) other = refl

  pub restored-in : (hs A : List ℕ) (h : ℕ) → In h hs → h < D → length A ≡ 64 * D
      → home_at (restored_homes log G tags ts hs A) h ≡ block_for log G (newest tags h ts) (home_at A h)
  unfolding restored_homes
  restored-in [] A h i l e = absurd i
  restored-in (x ∷ hs) A h i l e = go (in-or-not h hs) (ℕ_discrete h x) i (λ p. restored-in hs B h p l size)
    where
      B : List ℕ
      B = restore_home log G x (newest tags x ts) A

      here : h ≡ x → home_at B h ≡ block_for log G (newest tags h ts) (home_at A h)
      here q = rw q (one_same x (newest tags x ts) A (omega arith) e)

      size : length B ≡ 64 * D
      size = length-one x (newest tags x ts) A ∙ e

      go : In h hs ⊎ (In h hs → ⊥) → Dec (h ≡ x) → In h (x ∷ hs)
          → (In h hs → home_at (restored_homes log G tags ts hs B) h ≡ block_for log G (newest tags h ts) (home_at B h))
          → home_at (restored_homes log G tags ts hs B) h ≡ block_for log G (newest tags h ts) (home_at A h)
      go (inl p) (yes q) j f =
          f p ∙ ap (block_for log G (newest tags h ts)) (here q) ∙ again (newest tags h ts) (home_at A h)
      go (inl p) (no n) j f =
          f p ∙ ap (block_for log G (newest tags h ts)) (one-other x (newest tags x ts) A h n)
      go (inr p) (yes q) j f = restored-other hs B h p ∙ here q
      go (inr p) (no n) (inl q) f = absurd (n q)
      go (inr p) (no n) (inr q) f = absurd (p q)
