-- `prog_codec::marks` meets its contract: each check is what the calls ensure, computed. Assumes nothing.
use borrow.Author.Rules.{rules}
use mathlib.Core.Path.{ap, ◌∙◌}
use mathlib.Core.List.{List}
use Prim.Native.Nat.{ℕ}
use Rattle.model.specs.Bytes.{part, puts, zeros, same}
use Rattle.model.specs.Layout.{header_mark}
use Rattle.prog_codec.proofs.marks.Statement.{statement}
use Rattle.prog_codec.proofs.marks.Tie as tie

slice-aggregate-put-header-mark : tie.Need-slice_bounds-put_header_mark-end
slice-aggregate-put-header-mark c = search rules

put-header-mark-requires : tie.Need-put_header_mark-requires
put-header-mark-requires c κs = search rules

slice-aggregate-has-header-mark : tie.Need-slice_bounds-has_header_mark-end
slice-aggregate-has-header-mark c = search rules

has-header-mark-requires : tie.Need-has_header_mark-requires
has-header-mark-requires c κs = search rules

expect-requires : tie.Need-expect-requires
unfolding puts part same
expect-requires c κs =
    c.has_header_mark.ensures ∙ ap (λ (l : List ℕ). same (part l 0 2) header_mark) c.put_header_mark.ensures

slice-aggregate-all-zero : tie.Need-slice_bounds-all_zero-end
slice-aggregate-all-zero c = search rules

all-zero-requires : tie.Need-all_zero-requires
all-zero-requires c κs = search rules

expect-requires-2 : tie.Need-expect-requires-2
unfolding puts part same zeros
expect-requires-2 c κs =
    c.all_zero.ensures
    ∙ ap (λ (l : List ℕ). same (part l 2 14) (zeros 14)) c.put_header_mark.ensures

returns : tie.Need-returns
returns c = search rules

pub marks_spec : {M : Type 1} → statement M
marks_spec =
    tie.close
    (tie.spec
    slice-aggregate-put-header-mark
    put-header-mark-requires
    slice-aggregate-has-header-mark
    has-header-mark-requires
    expect-requires
    slice-aggregate-all-zero
    all-zero-requires
    expect-requires-2
    returns)
