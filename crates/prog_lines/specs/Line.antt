-- What a line of trial 14's script asks for.
-- "Lines: b, s, c with writer (s: also home and fill byte, all decimal), f flush, w settle, t trim. Numbers are at most 65,535, fill bytes at most 255;
-- any other line is malformed and prints "?"." A field stands after exactly one space.
use Rattle.std.specs.Prelude.{ℕ, ◌+◌, cond, ◌||◌, List, [], ◌∷◌, eqb, leb, length, take, drop}
use Rattle.prog_lines.specs.Text.{index_of, decimal}
use Rattle.prog_lines.specs.declared.Line.{Line}
use Rattle.prog_lines.specs.declared.Line.TheVariants.{Begin, Store, Commit, Flush, Settle, Trim, Malformed}

-- one letter and nothing else: f, w, t
unfoldable pub bare_line : ℕ → Line
bare_line letter = cond (eqb letter 102) Flush (cond (eqb letter 119) Settle (cond (eqb letter 116) Trim Malformed))

-- b or c and a writer
unfoldable pub writer_line : ℕ → List ℕ → Line
writer_line letter text =
    let writer : ℕ = decimal text in
    cond (leb writer 65535) (cond (eqb letter 98) (Begin writer) (Commit writer)) Malformed

-- s and writer, home and fill byte
unfoldable pub store_fields : ℕ → ℕ → ℕ → Line
store_fields writer home byte =
    cond (leb writer 65535) (cond (leb home 65535) (cond (leb byte 255) (Store writer home byte) Malformed) Malformed) Malformed

unfoldable pub store_line : List ℕ → Line
store_line text =
    let first : ℕ = index_of 32 text in
    let more : List ℕ = drop (first + 1) text in
    let second : ℕ = index_of 32 more in
    cond (eqb first (length text)) Malformed
    (cond (eqb second (length more)) Malformed
    (store_fields (decimal (take first text)) (decimal (take second more)) (decimal (drop (second + 1) more))))

unfoldable pub fields_line : ℕ → List ℕ → Line
fields_line letter text =
    cond (eqb letter 98 || eqb letter 99) (writer_line letter text) (cond (eqb letter 115) (store_line text) Malformed)

unfoldable pub line_of : List ℕ → Line
line_of [] = Malformed
line_of (letter ∷ []) = bare_line letter
line_of (letter ∷ space ∷ text) = cond (eqb space 32) (fields_line letter text) Malformed
