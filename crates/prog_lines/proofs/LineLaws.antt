-- Laws of specs/Line, one for each return of the code. Assumes nothing.
use mathlib.Core.Path.{◌≡◌, refl}
use mathlib.Core.List.{List, [], ◌∷◌}
use Prim.Native.Nat.{ℕ, ◌+◌, ◌-◌, ◌≤◌, ◌<◌}
use native.Mathlib.Omega.{arith}
use borrow.Author.Tests.{le-leb, lt-leb, eq-eqb, ne_eqb}
use lib.ListN.{length, take, drop, get_or, length-drop}
use lib.Seq.{take_all, drop-drop}
use Rattle.prog_lines.specs.Text.{index_of, decimal}
use Rattle.prog_lines.specs.Line.{bare_line, writer_line, store_fields, store_line, fields_line, line_of}
use Rattle.prog_lines.specs.declared.Line.TheVariants.{Begin, Store, Commit, Flush, Settle, Trim, Malformed}

-- ---- one letter

pub bare-flush : (letter : ℕ) → letter ≡ 102 → Flush ≡ bare_line letter
unfolding bare_line
bare-flush letter e = rw e

pub bare-settle : (letter : ℕ) → letter ≡ 119 → Settle ≡ bare_line letter
unfolding bare_line
bare-settle letter e = rw e

pub bare-trim : (letter : ℕ) → letter ≡ 116 → Trim ≡ bare_line letter
unfolding bare_line
bare-trim letter e = rw e

pub bare-other : (letter : ℕ) → (letter ≡ 102 → ⊥) → (letter ≡ 119 → ⊥) → (letter ≡ 116 → ⊥) → Malformed ≡ bare_line letter
unfolding bare_line
bare-other letter f w t = rw (ne_eqb letter 102 f, ne_eqb letter 119 w, ne_eqb letter 116 t)

-- ---- a writer

module _ (letter : ℕ) (text : List ℕ) where
  pub writer-none : 65535 < decimal text → Malformed ≡ writer_line letter text
  unfolding writer_line
  writer-none l = rw (lt-leb (decimal text) 65535 l)

  module _ (w : ℕ) (e : w ≡ decimal text) (l : w ≤ 65535) where
    pub writer-begins : letter ≡ 98 → Begin w ≡ writer_line letter text
    unfolding writer_line
    writer-begins q = rw (← e, le-leb w 65535 l, eq-eqb letter 98 q)

    pub writer-commits : (letter ≡ 98 → ⊥) → Commit w ≡ writer_line letter text
    unfolding writer_line
    writer-commits q = rw (← e, le-leb w 65535 l, ne_eqb letter 98 q)

-- ---- writer, home and fill byte

module _ (text : List ℕ) (first : ℕ) (f : first ≡ index_of 32 text) where
  pub store-short : first ≡ length text → Malformed ≡ store_line text
  unfolding store_line
  store-short e = rw (← f, eq-eqb first (length text) e)

  module _ (second : ℕ) (n : first ≡ length text → ⊥) (k : first ≤ length text) (s : second ≡ first + 1 + index_of 32 (drop (first + 1) text)) where
    behind : length (drop (first + 1) text) ≡ length text - (first + 1)
    behind = simp length-drop

    pub store_two : second ≡ length text → Malformed ≡ store_line text
    unfolding store_line
    store_two e = rw (← f, ne_eqb first (length text) n, eq-eqb (index_of 32 (drop (first + 1) text)) (length (drop (first + 1) text)) (omega (arith, behind)))

    module _ (m : second ≡ length text → ⊥) (t : second ≤ length text) where
      fields : store_line text
          ≡ store_fields (decimal (take first text)) (decimal (take (second - (first + 1)) (drop (first + 1) text))) (decimal (take (length text - (second + 1)) (drop (second + 1) text)))
      unfolding store_line
      fields =
          let b : second - (first + 1) ≡ index_of 32 (drop (first + 1) text) = omega arith in
          let d : first + 1 + (index_of 32 (drop (first + 1) text) + 1) ≡ second + 1 = omega arith in
          rw (
            ← f,
            ne_eqb first (length text) n,
            ne_eqb (index_of 32 (drop (first + 1) text)) (length (drop (first + 1) text)) (λ e. m (omega (arith, behind))),
            b,
            drop-drop (index_of 32 (drop (first + 1) text) + 1) (first + 1) text,
            d,
            take_all (length text - (second + 1)) (drop (second + 1) text) (simp length-drop (omega arith)),
          )

      pub store-writer : 65535 < decimal (take first text) → Malformed ≡ store_line text
      unfolding store_fields
      store-writer l = rw (fields, lt-leb (decimal (take first text)) 65535 l)

      module _ (w : ℕ) (ew : w ≡ decimal (take first text)) (lw : w ≤ 65535) where
        pub store-home : 65535 < decimal (take (second - (first + 1)) (drop (first + 1) text)) → Malformed ≡ store_line text
        unfolding store_fields
        store-home l = rw (fields, ← ew, le-leb w 65535 lw, lt-leb (decimal (take (second - (first + 1)) (drop (first + 1) text))) 65535 l)

        module _ (home : ℕ) (eh : home ≡ decimal (take (second - (first + 1)) (drop (first + 1) text))) (lh : home ≤ 65535) where
          pub store_byte : 255 < decimal (take (length text - (second + 1)) (drop (second + 1) text)) → Malformed ≡ store_line text
          unfolding store_fields
          store_byte l = rw (fields, ← ew, le-leb w 65535 lw, ← eh, le-leb home 65535 lh, lt-leb (decimal (take (length text - (second + 1)) (drop (second + 1) text))) 255 l)

          pub store-right : (byte : ℕ) → byte ≡ decimal (take (length text - (second + 1)) (drop (second + 1) text)) → byte ≤ 255 → Store w home byte ≡ store_line text
          unfolding store_fields
          store-right byte eb l = rw (fields, ← ew, le-leb w 65535 lw, ← eh, le-leb home 65535 lh, ← eb, le-leb byte 255 l)

-- ---- a line

pub line-empty : (line : List ℕ) → length line ≡ 0 → Malformed ≡ line_of line
unfolding line_of
line-empty [] e = refl
line-empty (a ∷ line) e = absurd (omega arith)

pub line-bare : (line : List ℕ) → length line ≡ 1 → bare_line (get_or line 0 0) ≡ line_of line
unfolding line_of
line-bare [] e = absurd (omega arith)
line-bare (a ∷ []) e = refl
line-bare (a ∷ b ∷ line) e = absurd (omega arith)

pub line-unspaced : (line : List ℕ) → 2 ≤ length line → (get_or line 1 0 ≡ 32 → ⊥) → Malformed ≡ line_of line
unfolding line_of
line-unspaced [] l n = absurd (omega arith)
line-unspaced (a ∷ []) l n = absurd (omega arith)
line-unspaced (a ∷ b ∷ line) l n = rw (ne_eqb b 32 n)

line-fields : (line : List ℕ) → 2 ≤ length line → get_or line 1 0 ≡ 32 → line_of line ≡ fields_line (get_or line 0 0) (drop 2 line)
unfolding line_of
line-fields [] l e = absurd (omega arith)
line-fields (a ∷ []) l e = absurd (omega arith)
line-fields (a ∷ b ∷ line) l e = rw (eq-eqb b 32 e)

module _ (line : List ℕ) (l : 2 ≤ length line) (e : get_or line 1 0 ≡ 32) where
  pub line-begin : get_or line 0 0 ≡ 98 → writer_line (get_or line 0 0) (drop 2 line) ≡ line_of line
  unfolding fields_line
  line-begin q = rw (line-fields line l e, eq-eqb (get_or line 0 0) 98 q)

  pub line-commit : get_or line 0 0 ≡ 99 → writer_line (get_or line 0 0) (drop 2 line) ≡ line_of line
  unfolding fields_line
  line-commit q =
      let n : get_or line 0 0 ≡ 98 → ⊥ = λ r. omega arith in
      rw (line-fields line l e, ne_eqb (get_or line 0 0) 98 n, eq-eqb (get_or line 0 0) 99 q)

  pub line_store : get_or line 0 0 ≡ 115 → store_line (drop 2 line) ≡ line_of line
  unfolding fields_line
  line_store q =
      let n : get_or line 0 0 ≡ 98 → ⊥ = λ r. omega arith in
      let m : get_or line 0 0 ≡ 99 → ⊥ = λ r. omega arith in
      rw (line-fields line l e, ne_eqb (get_or line 0 0) 98 n, ne_eqb (get_or line 0 0) 99 m, eq-eqb (get_or line 0 0) 115 q)

  pub line_other : (get_or line 0 0 ≡ 98 → ⊥) → (get_or line 0 0 ≡ 99 → ⊥) → (get_or line 0 0 ≡ 115 → ⊥) → Malformed ≡ line_of line
  unfolding fields_line
  line_other n m s =
      rw (line-fields line l e, ne_eqb (get_or line 0 0) 98 n, ne_eqb (get_or line 0 0) 99 m, ne_eqb (get_or line 0 0) 115 s)

pub all-behind : (line : List ℕ) → 2 ≤ length line → take (length line - 2) (drop 2 line) ≡ drop 2 line
all-behind line h = take_all (length line - 2) (drop 2 line) (simp length-drop (omega arith))
