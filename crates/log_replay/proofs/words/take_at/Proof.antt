-- `log_replay::take_at` meets its contract: of the word of an entry that is there only its home and its distance back count. Assumes nothing.
use native.Mathlib.Omega.{arith}
use Rattle.log_replay.proofs.NewestLaws.{word-begun, word-taken}
use borrow.Author.Rules.{rules}
use Rattle.log_replay.proofs.words.take_at.Statement.{statement}
use Rattle.log_replay.proofs.words.take_at.Tie as tie

word-from-requires : tie.Need-word_from-word-requires
word-from-requires c κs = search rules

tag-back-requires : tie.Need-tag_back-back-requires
tag-back-requires c κs = search rules

place-in-word-requires : tie.Need-place_in_word-requires
place-in-word-requires c κs = search rules

sub-take-entry : tie.Need-overflow_sub-offset
sub-take-entry c =
    let p = c.requires in
    omega (arith, c.tag_back-back.ensures, word-begun _ _ _ _ _ (c.word_from-word.ensures _ p.6) p.6)

take-entry-requires : tie.Need-take_entry-requires
take-entry-requires c κs = search rules

same_length : tie.Need-shape_of-closers
same_length c = search rules

same-length-2 : tie.Need-shape_of-table
same-length-2 c = search rules

same-length-3 : tie.Need-shape_of-map
same-length-3 c = search rules

returns : tie.Need-returns
returns c =
    let p = c.requires in
    word-taken _ _ _ _ _ (c.word_from-word.ensures _ p.6) p.6 _ _ _ _ _ c.place_in_word.ensures
    c.tag_back-back.ensures c.take_entry.ensures

pub take_at_spec : {M : Type 1} → statement M
take_at_spec =
    tie.close
    (tie.spec
    word-from-requires
    tag-back-requires
    place-in-word-requires
    sub-take-entry
    take-entry-requires
    same_length
    same-length-2
    same-length-3
    returns)
