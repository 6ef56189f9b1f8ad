-- `log_newest::keep_word` meets its contract, case by case of the tag. Assumes nothing.
use borrow.Author.Rules.{rules}
use native.Mathlib.Omega.{arith}
use Rattle.log_newest.proofs.KeepLaws.{kept-other, kept-nothing, kept_entry, kept-closing, entry-low, closing-low}
use Rattle.log_newest.proofs.words.keep_word.Statement.{statement}
use Rattle.log_newest.proofs.words.keep_word.Tie as tie

tag-back-requires : tie.Need-tag_back-requires
tag-back-requires c κs = search rules

sub-if1 : tie.Need-overflow_sub-position
sub-if1 c = search rules

returns : tie.Need-returns-then-tag_back-position
returns c = kept-other _ _ _ _ _ _ _ c.tag_back.ensures c.if-tag_back-position.true

read-tag-requires : tie.Need-read_tag-requires
read-tag-requires c κs = search rules

enum_told : tie.Need-enum_told-1
enum_told c = search rules

enum-known-home : tie.Need-enum_known-home
enum-known-home c = search rules

keep-requires : tie.Need-keep-requires
keep-requires c κs =
    let l = entry-low _ _ _ _ _ c.read_tag.ensures _ _ c.in-Entry.is in
    omega (arith, l)

enum-known-home-2 : tie.Need-enum_known-home-in-Closing-1
enum-known-home-2 c = search rules

keep-requires-2 : tie.Need-keep-requires-in-Closing
keep-requires-2 c κs =
    let l = closing-low _ _ _ _ _ c.read_tag.ensures _ _ _ _ c.in-Closing.is in
    omega (arith, l)

returns-2 : tie.Need-returns-in-Nothing
returns-2 c =
    kept-nothing _ _ _ _ _ _ _ c.tag_back.ensures c.if-tag_back-position.false (omega arith) _ c.read_tag.ensures c.in-Nothing.is

same_length : tie.Need-shape_of-newest-in-Entry
same_length c = search rules

returns-3 : tie.Need-returns-in-Entry
returns-3 c =
    kept_entry _ _ _ _ _ _ _ c.tag_back.ensures c.if-tag_back-position.false (omega arith) _ c.read_tag.ensures _ _ _ c.in-Entry.is
    c.keep.ensures

same-length-2 : tie.Need-shape_of-newest-in-Closing
same-length-2 c = search rules

returns-4 : tie.Need-returns-in-Closing
returns-4 c =
    kept-closing _ _ _ _ _ _ _ c.tag_back.ensures c.if-tag_back-position.false (omega arith) _ c.read_tag.ensures _ _ _ _ _ c.in-Closing.is
    c.keep-in-Closing.ensures

pub keep_word_spec : {M : Type 1} → statement M
keep_word_spec =
    tie.close
    (tie.spec
    tag-back-requires
    sub-if1
    returns
    read-tag-requires
    enum_told
    enum-known-home
    keep-requires
    enum-known-home-2
    keep-requires-2
    returns-2
    same_length
    returns-3
    same-length-2
    returns-4)
