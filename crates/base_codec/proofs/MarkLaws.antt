-- Laws of a mark, two bytes, that is written and compared byte by byte. Assumes nothing.
use mathlib.Core.Path.{◌≡◌, refl, sym, ap, ◌∙◌}
use mathlib.Core.Bool.{true, false, ◌&&◌}
use mathlib.Core.List.{List, [], ◌∷◌}
use Prim.Native.Nat.{ℕ, ◌+◌, ◌*◌, ◌≤◌, ◌<◌}
use native.Mathlib.Decide.{ℕ_discrete}
use native.Mathlib.Omega.{arith}
use borrow.Author.Tests.{eq-eqb, ne_eqb}
use lib.Dec.{eqb}
use lib.ListN.{length, set, get_or}
use Rattle.model.specs.Bytes.{part, puts, value, number, same}
use Rattle.model.specs.Layout.{group_mark}
use Rattle.model_laws.proofs.bytes.ByteLaws.{puts-cons, puts-nil, same_refl, same-ne}
use Rattle.base_codec.proofs.BlockLaws.{part-cons}
use Rattle.base_codec.proofs.JoinLaws.{number-one, number-join}

two : (m : List ℕ) → length m ≡ 2 → m ≡ get_or m 0 0 ∷ get_or m 1 0 ∷ []
two [] e = absurd (omega arith)
two (a ∷ []) e = absurd (omega arith)
two (a ∷ b ∷ []) e = refl
two (a ∷ b ∷ x ∷ m) e = absurd (omega arith)

pub mark-put : (d : List ℕ) (at : ℕ) (m : List ℕ) → length m ≡ 2 → set (set d at (get_or m 0 0)) (at + 1) (get_or m 1 0) ≡ puts d at m
mark-put d at m e =
    let a : ℕ = get_or m 0 0 in
    let b : ℕ = get_or m 1 0 in
    sym (puts-nil (set (set d at a) (at + 1) b) (at + 1 + 1)) ∙ puts-cons (set d at a) (at + 1) b [] ∙ puts-cons d at a (b ∷ [])
    ∙ ap (λ (r : List ℕ). puts d at r) (sym (two m e))

part-two : (s : List ℕ) (at : ℕ) → at + 2 ≤ length s → part s at 2 ≡ get_or s at 0 ∷ get_or s (at + 1) 0 ∷ []
unfolding part
part-two s at h = part-cons s at 1 (omega arith) ∙ ap (λ (r : List ℕ). get_or s at 0 ∷ r) (part-cons s (at + 1) 0 (omega arith))

module _ (s : List ℕ) (at : ℕ) (m : List ℕ) (h : at + 2 ≤ length s) where
  pub mark-first : (get_or s at 0 ≡ get_or m 0 0 → ⊥) → same (part s at 2) m ≡ false
  mark-first n = same-ne (part s at 2) m (λ e. n (ap (λ (r : List ℕ). get_or r 0 0) (sym (part-two s at h) ∙ e)))

  pub mark-second : (get_or s (at + 1) 0 ≡ get_or m 1 0 → ⊥) → same (part s at 2) m ≡ false
  mark-second n = same-ne (part s at 2) m (λ e. n (ap (λ (r : List ℕ). get_or r 1 0) (sym (part-two s at h) ∙ e)))

  pub mark-both : length m ≡ 2 → get_or s at 0 ≡ get_or m 0 0 → get_or s (at + 1) 0 ≡ get_or m 1 0 → same (part s at 2) m ≡ true
  mark-both l p q = rw (part-two s at h, p, q, ← two m l) (same_refl m)

-- mark and number as one word, the mark's bytes lowest
group-mark : number 2 group_mark 0 ≡ 0x4750
unfolding number value
group-mark = refl

module _ (s : List ℕ) (at n : ℕ) (h : at + 8 ≤ length s) (byte : (i : ℕ) → get_or s i 0 < 256) where
  word-parts : number 8 s at ≡ get_or s at 0 + 256 * get_or s (at + 1) 0 + 65536 * number 6 s (at + 2)
  word-parts = omega (arith, number-join 2 6 s at, number-join 1 1 s at, number-one s at, number-one s (at + 1))

  -- the word has another mark
  other-mark : (get_or s at 0 ≡ 0x50 → get_or s (at + 1) 0 ≡ 0x47 → ⊥) → eqb (number 8 s at) (n * 65536 + 0x4750) ≡ false
  other-mark o = ne_eqb (number 8 s at) (n * 65536 + 0x4750) (λ e. o (omega (arith, word-parts, byte at, byte (at + 1), e)) (omega (arith, word-parts, byte at, byte (at + 1), e)))

  pub head-word : eqb (number 8 s at) (n * 65536 + number 2 group_mark 0) ≡ (same (part s at 2) group_mark && eqb (number 6 s (at + 2)) n)
  head-word = rw group-mark (first (ℕ_discrete (get_or s at 0) 0x50) (ℕ_discrete (get_or s (at + 1) 0) 0x47) (ℕ_discrete (number 6 s (at + 2)) n))
    where
      first : Dec (get_or s at 0 ≡ 0x50) → Dec (get_or s (at + 1) 0 ≡ 0x47) → Dec (number 6 s (at + 2) ≡ n)
          → eqb (number 8 s at) (n * 65536 + 0x4750) ≡ (same (part s at 2) group_mark && eqb (number 6 s (at + 2)) n)
      first (no a) b k = rw (mark-first s at group_mark (omega arith) a, other-mark (λ x y. a x))
      first (yes a) (no b) k = rw (mark-second s at group_mark (omega arith) b, other-mark (λ x y. b y))
      first (yes a) (yes b) (no k) =
          rw (mark-both s at group_mark (omega arith) refl a b, ne_eqb (number 6 s (at + 2)) n k)
          (ne_eqb (number 8 s at) (n * 65536 + 0x4750) (λ e. k (omega (arith, word-parts, a, b, e))))
      first (yes a) (yes b) (yes k) =
          rw (mark-both s at group_mark (omega arith) refl a b, eq-eqb (number 6 s (at + 2)) n k)
          (eq-eqb (number 8 s at) (n * 65536 + 0x4750) (omega (arith, word-parts, a, b, k)))
