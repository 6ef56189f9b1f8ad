-- Laws of specs/Text in the steps of the code's loops. Assumes nothing.
use mathlib.Core.Path.{◌≡◌, refl}
use mathlib.Core.List.{List, [], ◌∷◌}
use Prim.Native.Nat.{ℕ, ◌+◌, ◌*◌, ◌≤◌, ◌<◌}
use native.Mathlib.Nat.{add-zero}
use native.Mathlib.Numerals.{add-one}
use native.Mathlib.Omega.{arith}
use borrow.Author.Tests.{le-leb, lt-leb, eq-eqb, ne_eqb}
use lib.ListN.{length, drop, get_or}
use lib.Seq.{drop-cons, drop-length}
use Rattle.prog_lines.specs.Text.{index_of, digit_of, decimal_from, decimal}

-- ---- the first of a byte

module _ (text : List ℕ) (stop i : ℕ) where
  pub index-here : i < length text → get_or text i 0 ≡ stop → i + index_of stop (drop i text) ≡ i
  unfolding index_of
  index-here h e = rw (drop-cons text i 0 h, eq-eqb (get_or text i 0) stop e, add-zero)

  pub index_on : i < length text → (get_or text i 0 ≡ stop → ⊥) → i + index_of stop (drop i text) ≡ i + 1 + index_of stop (drop (i + 1) text)
  unfolding index_of
  index_on h n = rw (drop-cons text i 0 h, ne_eqb (get_or text i 0) stop n, add-one) (omega arith)

  pub index-end : i ≡ length text → i + index_of stop (drop i text) ≡ i
  unfolding index_of
  index-end e = rw (e, drop-length text, add-zero)

-- ---- decimal numbers

pub decimal-none : (text : List ℕ) → length text ≡ 0 → decimal text ≡ 65536
unfolding decimal
decimal-none [] h = refl
decimal-none (b ∷ bs) h = absurd (omega arith)

pub decimal-begins : (text : List ℕ) → (length text ≡ 0 → ⊥) → decimal_from 0 text ≡ decimal text
unfolding decimal
decimal-begins [] h = absurd (h refl)
decimal-begins (b ∷ bs) h = refl

module _ (text : List ℕ) (i v : ℕ) (h : i < length text) where
  pub decimal-stops : 10 ≡ digit_of (get_or text i 0) → decimal_from v (drop i text) ≡ 65536
  unfolding decimal_from
  decimal-stops e = rw (drop-cons text i 0 h, ← e)

  module _ (d : ℕ) (e : d ≡ digit_of (get_or text i 0)) (l : d ≤ 9) where
    pub decimal-ends : 65535 < 10 * v + d → decimal_from v (drop i text) ≡ 65536
    unfolding decimal_from
    decimal-ends m = rw (drop-cons text i 0 h, ← e, le-leb d 9 l, lt-leb (10 * v + d) 65535 m)

    pub decimal-on : 10 * v + d ≤ 65535 → decimal_from v (drop i text) ≡ decimal_from (10 * v + d) (drop (i + 1) text)
    unfolding decimal_from
    decimal-on m = rw (drop-cons text i 0 h, ← e, le-leb d 9 l, le-leb (10 * v + d) 65535 m, add-one)

pub decimal-whole : (text : List ℕ) (i v : ℕ) → i ≡ length text → decimal_from v (drop i text) ≡ v
unfolding decimal_from
decimal-whole text i v e = rw (e, drop-length text)
