-- `log_replay::count_word` meets its contract. Assumes nothing.
use mathlib.Core.Path.{refl, sym, ap, ◌∙◌}
use native.Mathlib.Omega.{arith}
use lib.ListN.{length}
use Rattle.log_replay.proofs.RestoreLaws.{empty-word, word-length}
use Rattle.log_replay.proofs.words.count_word.Statement.{statement}
use Rattle.log_replay.proofs.words.count_word.Tie as tie

mul-if1 : tie.Need-offset_bounds-heads-w
mul-if1 c = omega (arith, c.requires.1.room.words)

shared-slice-read-if1 : tie.Need-bounds-heads-w
shared-slice-read-if1 c = omega (arith, c.requires.1.room.words)

returns : tie.Need-returns-then-heads-w-eq0
returns c = let p = c.requires in sym (ap length (empty-word _ _ _ _ _ p.0 _ _ _ p.1 _ p.2 c.if-heads-w-eq0.true))

slice-aggregate-newest-in : tie.Need-slice_bounds-newest_in-end
slice-aggregate-newest-in c = refl

newest-in-requires : tie.Need-newest_in-bits-requires
newest-in-requires c κs = let p = c.requires in (p.0, p.1, p.2, p.3, refl)

ones-requires : tie.Need-ones-requires
ones-requires c κs = tt

returns-2 : tie.Need-returns
returns-2 c = c.ones.ensures.0 ∙ word-length _ _ _ _ _ c.requires.0 _ _ _ c.newest_in-bits.ensures

pub count_word_spec : {M : Type 1} → statement M
count_word_spec =
    tie.close
    (tie.spec
    mul-if1
    shared-slice-read-if1
    returns
    slice-aggregate-newest-in
    newest-in-requires
    ones-requires
    returns-2)
