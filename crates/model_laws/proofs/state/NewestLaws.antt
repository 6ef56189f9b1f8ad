-- Laws of the newest positions (specs/Newest): their length, and what is kept for a home after one is put in, after a transaction's entries are, after a
-- trim and after an opening. Assumes nothing.
use mathlib.Core.Path.{◌≡◌, refl, ◌∙◌}
use mathlib.Core.Logic.{inl, inr, ◌≢◌}
use mathlib.Core.Bool.{Bool, true, false, cond}
use mathlib.Core.List.{List, [], ◌∷◌}
use mathlib.Core.Option.{Option, none, some}
use Prim.Native.Nat.{ℕ, zero, suc, ◌+◌, ◌-◌, ◌*◌, ◌^◌, ◌≤◌, ◌<◌}
use native.Mathlib.Nat.{pow-suc}
use native.Mathlib.Decide.{dec_lt, ℕ_discrete}
use native.Mathlib.Omega.{arith}
use lib.Dec.{eqb, ltb}
use lib.ListN.{length, drop, replicate, length-replicate}
use borrow.Author.Tests.{eq-eqb, ne_eqb}
use Rattle.model.specs.Bytes.{value, number, put_number}
use Rattle.model.specs.Tag.{home_of}
use Rattle.model.specs.Commit.{write_all, newest_in, or_else}
use Rattle.model.specs.declared.Tag.{Tag}
use Rattle.model.specs.Newest.{no_position, kept_as, kept_for, keep, nothing_kept, keep_entry, keep_entries, forget}
use Rattle.model_laws.proofs.bytes.ByteLaws.{length-put_number, number_same}
use Rattle.model_laws.proofs.state.StateLaws.{number-put-apart}

-- ---- lengths

pub length-keep : (l : List ℕ) (h p : ℕ) → length (keep l h p) ≡ length l
unfolding keep
length-keep l h p = length-put_number 8 l (8 * h) p

pub length-entries : (tags : ℕ → Tag) (ps l : List ℕ) → length (keep_entries tags ps l) ≡ length l
unfolding keep_entries keep_entry write_all
length-entries tags [] l = refl
length-entries tags (p ∷ ps) l = length-keep _ (home_of (tags p)) p ∙ length-entries tags ps l

pub length-forget : (l : List ℕ) (bound n : ℕ) → length (forget l bound n) ≡ length l
unfolding forget
length-forget l bound zero = refl
length-forget l bound (suc n) = go (ltb (kept_for l n) bound) (length-forget l bound n)
  where
    go : (d : Bool) → length (forget l bound n) ≡ length l → length (cond d (keep (forget l bound n) n no_position) (forget l bound n)) ≡ length l
    go true e = length-keep (forget l bound n) n no_position ∙ e
    go false e = e

pub length-nothing : (homes : ℕ) → length (nothing_kept homes) ≡ 8 * homes
unfolding nothing_kept
length-nothing homes = length-replicate (8 * homes) 255

-- ---- one position

pub kept_here : (l : List ℕ) (h p homes : ℕ) → length l ≡ 8 * homes → h < homes → p < 2 ^ 64 → kept_for (keep l h p) h ≡ p
unfolding kept_for keep
kept_here l h p homes e k m = number_same 8 l (8 * h) p (omega arith) m

pub kept_there : (l : List ℕ) (h x p : ℕ) → h ≢ x → kept_for (keep l h p) x ≡ kept_for l x
unfolding kept_for keep
kept_there l h x p n = go (dec_lt h x)
  where
    go : Dec (h < x) → number 8 (put_number 8 l (8 * h) p) (8 * x) ≡ number 8 l (8 * x)
    go (yes k) = number-put-apart l (8 * h) p (8 * x) (inr (omega arith))
    go (no k) = number-put-apart l (8 * h) p (8 * x) (inl (let e : x < h = omega (arith, n) in omega arith))

pub kept_put : (l : List ℕ) (h x p homes : ℕ) → length l ≡ 8 * homes → h < homes → p < 2 ^ 64
    → kept_for (keep l h p) x ≡ cond (eqb h x) p (kept_for l x)
kept_put l h x p homes e k m = go (ℕ_discrete h x)
  where
    go : Dec (h ≡ x) → kept_for (keep l h p) x ≡ cond (eqb h x) p (kept_for l x)
    go (yes q) = rw (eq-eqb h x q, ← q) (kept_here l h p homes e k m)
    go (no q) = rw (ne_eqb h x q) (kept_there l h x p q)

-- ---- a transaction's entries

-- the position of the newest entry for a home, else what was kept
unfoldable pub kept_else : Option ℕ → ℕ → ℕ
kept_else none other = other
kept_else (some p) other = p

pub kept-else : (a b : Option ℕ) → kept_else a (kept_as b) ≡ kept_as (or_else a b)
unfolding kept_else kept_as or_else
kept-else none b = refl
kept-else (some p) b = refl

-- entries that can be kept
abbrev pub Keepable : (ℕ → Tag) → ℕ → List ℕ → Type 0
Keepable tags homes [] = Unit {0}
Keepable tags homes (p ∷ ps) = ((home_of (tags p) < homes) × (p < 2 ^ 64)) × Keepable tags homes ps

pub kept-entries : (tags : ℕ → Tag) (ps l : List ℕ) (x homes : ℕ) → length l ≡ 8 * homes → Keepable tags homes ps
    → kept_for (keep_entries tags ps l) x ≡ kept_else (newest_in tags x ps) (kept_for l x)
unfolding keep_entries keep_entry write_all newest_in kept_else
kept-entries tags [] l x homes e a = refl
kept-entries tags (p ∷ ps) l x homes e a =
    kept_put (keep_entries tags ps l) (home_of (tags p)) x p homes (length-entries tags ps l ∙ e) a.0.0 a.0.1
    ∙ go (eqb (home_of (tags p)) x) (kept-entries tags ps l x homes e a.1)
  where
    go : (d : Bool) → kept_for (keep_entries tags ps l) x ≡ kept_else (newest_in tags x ps) (kept_for l x)
        → cond d p (kept_for (keep_entries tags ps l) x) ≡ kept_else (cond d (some p) (newest_in tags x ps)) (kept_for l x)
    go true q = refl
    go false q = q

-- ---- a trim

pub forget-above : (l : List ℕ) (bound n x : ℕ) → n ≤ x → kept_for (forget l bound n) x ≡ kept_for l x
unfolding forget
forget-above l bound zero x h = refl
forget-above l bound (suc n) x h = go (ltb (kept_for l n) bound) (forget-above l bound n x (omega arith))
  where
    go : (d : Bool) → kept_for (forget l bound n) x ≡ kept_for l x → kept_for (cond d (keep (forget l bound n) n no_position) (forget l bound n)) x ≡ kept_for l x
    go true q = kept_there (forget l bound n) n x no_position (λ e. omega arith) ∙ q
    go false q = q

pub kept-forget : (l : List ℕ) (bound n x homes : ℕ) → length l ≡ 8 * homes → n ≤ homes → x < n
    → kept_for (forget l bound n) x ≡ cond (ltb (kept_for l x) bound) no_position (kept_for l x)
unfolding forget
kept-forget l bound zero x homes e m h = absurd (omega arith)
kept-forget l bound (suc n) x homes e m h =
    go (ℕ_discrete n x) (λ k. kept-forget l bound n x homes e (omega arith) k) (ltb (kept_for l n) bound) refl
  where
    go : Dec (n ≡ x) → (x < n → kept_for (forget l bound n) x ≡ cond (ltb (kept_for l x) bound) no_position (kept_for l x)) → (d : Bool)
        → ltb (kept_for l n) bound ≡ d
        → kept_for (cond d (keep (forget l bound n) n no_position) (forget l bound n)) x ≡ cond (ltb (kept_for l x) bound) no_position (kept_for l x)
    go (yes q) k true f =
        rw (← q, f) (kept_here (forget l bound n) n no_position homes (length-forget l bound n ∙ e) (omega arith) (omega arith))
    go (yes q) k false f = rw (← q, f) (forget-above l bound n n (omega arith))
    go (no q) k true f = kept_there (forget l bound n) n x no_position q ∙ k (omega (arith, q))
    go (no q) k false f = k (omega (arith, q))

-- ---- an opening

drop-replicate : (at n x : ℕ) → drop at (replicate (at + n) x) ≡ replicate n x
drop-replicate zero n x = let e : 0 + n ≡ n = omega arith in rw e
drop-replicate (suc at) n x = let e : suc at + n ≡ suc (at + n) = omega arith in rw e (drop-replicate at n x)

value-ones : (k n : ℕ) → value k (replicate (k + n) 255) + 1 ≡ 256 ^ k
unfolding value
value-ones zero n = refl
value-ones (suc k) n =
    let e : suc k + n ≡ suc (k + n) = omega arith in
    rw (e, pow-suc) (omega (arith, value-ones k n))

-- a number among bytes of all ones
pub number-ones : (n at : ℕ) → at + 8 ≤ n → number 8 (replicate n 255) at ≡ no_position
unfolding number
number-ones n at h =
    let e : n ≡ at + (8 + (n - at - 8)) = omega arith in
    let f : number 8 (replicate (at + (8 + (n - at - 8))) 255) at ≡ no_position =
    rw (drop-replicate at (8 + (n - at - 8)) 255) (omega (arith, value-ones 8 (n - at - 8))) in
    rw (← e) at f

pub kept-nothing : (homes x : ℕ) → x < homes → kept_for (nothing_kept homes) x ≡ no_position
unfolding kept_for nothing_kept
kept-nothing homes x h = number-ones (8 * homes) (8 * x) (omega arith)
