-- Laws of home writes: their bytes and length, one after another, and homes within an area. Assumes nothing.
use mathlib.Core.Path.{◌≡◌, refl, sym, ap, ◌∙◌}
use mathlib.Core.Bool.{Bool, true, false, cond}
use mathlib.Core.List.{List, [], ◌∷◌, ◌++◌}
use Prim.Native.Nat.{ℕ, zero, suc, ◌+◌, ◌*◌, ◌≤◌}
use native.Mathlib.Omega.{arith}
use lib.ListN.{length, drop, length-append}
use Rattle.model.specs.Bytes.{puts}
use Rattle.model.specs.Layout.{home_at}
use Rattle.model.specs.Batch.{Record, HW, record_bytes, batch_bytes}
use Rattle.model.specs.Effects.{marked, home_writes}
use Rattle.model_laws.proofs.bytes.ByteLaws.{length_part, puts-append, puts-nil}
use Rattle.model_laws.proofs.state.BatchLaws.{length-HW, batch-append}
use Rattle.base_bitmap.specs.Marks.{bits_of, raised}
use Rattle.base_bitmap.proofs.MarkedLaws.{raised-nil, raised-cons}
use Rattle.base_bitmap.proofs.WordLaws.{no_bits}
use Rattle.base_batch.specs.Within.{Within}

pub length-home : (area : List ℕ) (h : ℕ) → 64 * h + 64 ≤ length area → length (home_at area h) ≡ 64
unfolding home_at
length-home area h l = length_part area (64 * h) 64 l

-- ---- some home writes

pub writes-append : (area hs ks : List ℕ) → home_writes area (hs ++ ks) ≡ home_writes area hs ++ home_writes area ks
unfolding home_writes
writes-append area [] ks = refl
writes-append area (h ∷ hs) ks = ap {B = List Record} (λ r. HW h (home_at area h) ∷ r) (writes-append area hs ks)

pub bytes-append : (area hs ks : List ℕ)
    → batch_bytes (home_writes area (hs ++ ks)) ≡ batch_bytes (home_writes area hs) ++ batch_bytes (home_writes area ks)
bytes-append area hs ks = rw (writes-append, batch-append)

pub bytes-nil : (area : List ℕ) → batch_bytes (home_writes area []) ≡ []
unfolding home_writes batch_bytes
bytes-nil area = refl

pub bytes-cons : (area : List ℕ) (h : ℕ) (hs : List ℕ)
    → batch_bytes (home_writes area (h ∷ hs)) ≡ record_bytes (HW h (home_at area h)) ++ batch_bytes (home_writes area hs)
unfolding home_writes batch_bytes
bytes-cons area h hs = refl

-- one home's record, and what is left to write after it
pub write-turn : (d : List ℕ) (at : ℕ) (area : List ℕ) (h : ℕ) (hs : List ℕ) → 64 * h + 64 ≤ length area
    → puts (puts d at (record_bytes (HW h (home_at area h)))) (at + 68) (batch_bytes (home_writes area hs)) ≡ puts d at (batch_bytes (home_writes area (h ∷ hs)))
write-turn d at area h hs l =
    let e : length (record_bytes (HW h (home_at area h))) ≡ 68 = length-HW h (home_at area h) (length-home area h l) in
    rw (bytes-cons, puts-append, e)

-- nothing is left
pub write-end : (d : List ℕ) (at : ℕ) (area : List ℕ) → puts d at (batch_bytes (home_writes area [])) ≡ d
write-end d at area = rw (bytes-nil, puts-nil)

-- 68 bytes for each home
pub length-writes : (area hs : List ℕ) → Within area hs → length (batch_bytes (home_writes area hs)) ≡ 68 * length hs
length-writes area [] w = rw bytes-nil
length-writes area (h ∷ hs) w =
    let e : length (record_bytes (HW h (home_at area h))) ≡ 68 = length-HW h (home_at area h) (length-home area h w.0) in
    rw (bytes-cons, length-append) (omega (arith, length-writes area hs w.1))

-- ---- homes within an area

pub within-right : (area hs ks : List ℕ) → Within area (hs ++ ks) → Within area ks
within-right area [] ks w = w
within-right area (h ∷ hs) ks w = within-right area hs ks w.1

pub within-append : (area hs ks : List ℕ) → Within area hs → Within area ks → Within area (hs ++ ks)
within-append area [] ks w v = v
within-append area (h ∷ hs) ks w v = (w.0, within-append area hs ks w.1 v)

pub within-marked : (area : List ℕ) (f : ℕ → Bool) (n : ℕ) → ((h : ℕ) → f h ≡ true → 64 * h + 64 ≤ length area) → Within area (marked f n)
unfolding marked
within-marked area f zero k = tt
within-marked area f (suc n) k = within-append area (marked f n) _ (within-marked area f n k) (go (f n) refl)
  where
    go : (b : Bool) → f n ≡ b → Within area (cond b (n ∷ []) [])
    go true e = (k n e, tt)
    go false e = tt

-- ---- the homes of a word, the lowest first

module _ (area : List ℕ) (base w t : ℕ) (first : bits_of w ≡ t ∷ drop 1 (bits_of w)) (within : Within area (raised base (bits_of w))) where
  homes-first : raised base (bits_of w) ≡ (base + t) ∷ raised base (drop 1 (bits_of w))
  homes-first = ap (raised base) first ∙ raised-cons base t (drop 1 (bits_of w))

  pub first-within : 64 * (base + t) + 64 ≤ length area
  first-within = (rw homes-first at within).0

  -- the rest, where v is the word without its lowest bit
  module _ (v : ℕ) (rest : bits_of v ≡ drop 1 (bits_of w)) where
    pub rest-within : Within area (raised base (bits_of v))
    rest-within = rw rest (rw homes-first at within).1

    pub word-turn : (d : List ℕ) (at : ℕ)
        → puts (puts d at (record_bytes (HW (base + t) (home_at area (base + t))))) (at + 68) (batch_bytes (home_writes area (raised base (bits_of v))))
        ≡ puts d at (batch_bytes (home_writes area (raised base (bits_of w))))
    word-turn d at =
        ap (λ (r : List ℕ). puts (puts d at (record_bytes (HW (base + t) (home_at area (base + t))))) (at + 68) (batch_bytes (home_writes area (raised base r)))) rest
        ∙ write-turn d at area (base + t) (raised base (drop 1 (bits_of w))) first-within
        ∙ ap (λ (r : List ℕ). puts d at (batch_bytes (home_writes area r))) (sym homes-first)

pub word_end : (d : List ℕ) (at : ℕ) (area : List ℕ) (base w : ℕ) → w ≡ 0 → puts d at (batch_bytes (home_writes area (raised base (bits_of w)))) ≡ d
word_end d at area base w e = rw (e, no_bits, raised-nil) (write-end d at area)
