-- Laws of the packed table: its length, its bytes, and how they are written one by one. Assumes nothing.
use mathlib.Core.Path.{◌≡◌, refl, sym, ap, ◌∙◌}
use mathlib.Core.Bool.{Bool, true, false}
use mathlib.Core.List.{List, ◌++◌}
use Prim.Native.Nat.{ℕ, zero, suc, ◌+◌, ◌-◌, ◌/◌, ◌%◌, ◌≤◌, ◌<◌}
use native.Mathlib.Numerals.{add-one}
use native.Mathlib.Omega.{arith}
use borrow.Author.Tests.{ltb-true, ltb-false}
use lib.Dec.{ltb}
use lib.ListN.{length, get_or, take, set, replicate, length-append, length-replicate, get_or-append, get_or-eq_default}
use lib.Seq.{get_or-append-add, take-suc, take-suc-set, take_all}
use Rattle.unit_bands_table.specs.Packed.{pack}

pub pack-length : (s : List ℕ) → length s ≤ 160 → length (pack s) ≡ 192
unfolding pack
pack-length s h =
    let n : length (s ++ replicate (191 - length s) 0) ≡ 191 =
    length-append s (replicate (191 - length s) 0) ∙ omega (arith, length-replicate {A = ℕ} (191 - length s) 0) in
    ap suc n

zeros-at : (n i : ℕ) → ◌≡◌ {A = ℕ} (get_or (replicate n 0) i 0) 0
zeros-at zero i = refl
zeros-at (suc n) zero = refl
zeros-at (suc n) (suc i) = zeros-at n i

behind : (s : List ℕ) (n j : ℕ) → get_or (s ++ replicate n 0) j 0 ≡ get_or s j 0
behind s n j = go (ltb j (length s)) refl
  where
    go : (t : Bool) → ltb j (length s) ≡ t → get_or (s ++ replicate n 0) j 0 ≡ get_or s j 0
    go true e = get_or-append s (replicate n 0) 0 j (ltb-true j (length s) e)
    go false e =
        let l = ltb-false j (length s) e in
        let q : length s + (j - length s) ≡ j = omega arith in
        rw (get_or-eq_default s 0 l, ← q, get_or-append-add s (replicate n 0) (j - length s) 0) (zeros-at n (j - length s))

pub pack-byte : (s : List ℕ) (i : ℕ) → 1 ≤ i → get_or s (i - 1) 0 ≡ get_or (pack s) i 0
unfolding pack
pack-byte s zero h = absurd (omega arith)
pack-byte s (suc j) h = let e : suc j - 1 ≡ j = omega arith in rw e (sym (behind s (191 - length s) j))

pack-number : (s : List ℕ) → length s ≤ 160 → length s / 5 % 256 ≡ get_or (pack s) 0 0
unfolding pack
pack-number s h = omega arith

-- a table of bytes is packed into bytes
pub pack-small : (s : List ℕ) → length s ≤ 160 → ((i : ℕ) → get_or s i 0 < 256) → (i : ℕ) → get_or (pack s) i 0 < 256
pack-small s h b zero = omega (arith, pack-number s h)
pack-small s h b (suc j) = rw (← (pack-byte s (suc j) (omega arith))) (b (suc j - 1))

-- ---- byte by byte

-- the first i bytes stand as they are to stand
abbrev pub Alike : ℕ → List ℕ → List ℕ → Type 0
Alike i packed table = take i packed ≡ take i table

alike-more : (packed table : List ℕ) (i v : ℕ) → i < length packed → i < length table → v ≡ get_or table i 0 → Alike i packed table → Alike (i + 1) (set packed i v) table
alike-more packed table i v h l e a =
    rw (add-one i) (take-suc-set packed i v h ∙ rw (a, e) (sym (take-suc table i 0 l)))

module _ (s : List ℕ) (n : length s ≤ 160) where
  pub pack-first : (packed : List ℕ) → length packed ≡ 192 → Alike 1 (set packed 0 (length s / 5 % 256)) (pack s)
  pack-first packed h =
      alike-more packed (pack s) 0 (length s / 5 % 256) (omega arith) (omega (arith, pack-length s n)) (pack-number s n) refl

  pub pack-more : (packed : List ℕ) (i v : ℕ) → 1 ≤ i → i < 192 → length packed ≡ 192 → v ≡ get_or s (i - 1) 0 → Alike i packed (pack s) → Alike (i + 1) (set packed i v) (pack s)
  pack-more packed i v l h e f a = alike-more packed (pack s) i v (omega arith) (omega (arith, pack-length s n)) (f ∙ pack-byte s i l) a

  pub pack-done : (packed : List ℕ) (i : ℕ) → 192 ≤ i → length packed ≡ 192 → Alike i packed (pack s) → packed ≡ pack s
  pack-done packed i h e a = sym (take_all i packed (omega arith)) ∙ a ∙ take_all i (pack s) (omega (arith, pack-length s n))
