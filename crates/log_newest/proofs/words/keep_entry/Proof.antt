-- `log_newest::keep_entry` meets its contract. Assumes nothing.
use borrow.Author.Rules.{rules}
use native.Mathlib.Omega.{arith}
use Rattle.log_newest.proofs.KeepLaws.{kept-after}
use Rattle.log_newest.proofs.words.keep_entry.Statement.{statement}
use Rattle.log_newest.proofs.words.keep_entry.Tie as tie

sub-entry-word : tie.Need-overflow_sub-position
sub-entry-word c = search rules

entry-word-requires : tie.Need-entry_word-plain-requires
entry-word-requires c κs = search rules

keep-plain-requires : tie.Need-keep_plain-requires
keep-plain-requires c κs = search rules

same_length : tie.Need-shape_of-newest-then-keep_plain
same_length c = search rules

returns : tie.Need-returns-then-keep_plain
returns c =
    c.keep_plain.ensures.1 c.if-keep_plain.true _ _
    (record { word = c.entry_word-plain.ensures; start = omega arith; from = omega arith; near = omega arith })

word-there-requires : tie.Need-word_there-word-requires
word-there-requires c κs = search rules

keep-word-requires : tie.Need-keep_word-requires
keep-word-requires c κs = search rules

same-length-2 : tie.Need-shape_of-newest
same-length-2 c = search rules

returns-2 : tie.Need-returns
returns-2 c =
    kept-after _ _ _ _ _ _ (rw (← c.word_there-word.ensures) c.keep_word.ensures) (c.keep_plain.ensures.0 c.if-keep_plain.false)

pub keep_entry_spec : {M : Type 1} → statement M
keep_entry_spec =
    tie.close
    (tie.spec
    sub-entry-word
    entry-word-requires
    keep-plain-requires
    same_length
    returns
    word-there-requires
    keep-word-requires
    same-length-2
    returns-2)
