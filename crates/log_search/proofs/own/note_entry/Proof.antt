-- `log_search::note_entry` meets its contract, case by case of the tag. Assumes nothing.
use borrow.Author.Rules.{rules}
use native.Mathlib.Omega.{arith}
use Rattle.log_search.proofs.OwnLaws.{own-other, own-nothing, own-entry, own-closing}
use Rattle.log_search.proofs.own.note_entry.Statement.{statement}
use Rattle.log_search.proofs.own.note_entry.Tie as tie

back-in-requires : tie.Need-back_in-requires
back-in-requires c κs = search rules

sub-if1 : tie.Need-overflow_sub-position
sub-if1 c = search rules

returns : tie.Need-returns-then-back_in-position
returns c = own-other _ _ _ _ _ _ _ _ c.back_in.ensures c.if-back_in-position.true

tag-there-requires : tie.Need-tag_there-requires
tag-there-requires c κs = search rules

enum_told : tie.Need-enum_told-1
enum_told c = search rules

enum-known-written : tie.Need-enum_known-written
enum-known-written c = search rules

note-requires : tie.Need-note-requires
note-requires c κs = search rules

enum-known-written-2 : tie.Need-enum_known-written-in-Closing-1
enum-known-written-2 c = search rules

note-requires-2 : tie.Need-note-requires-in-Closing
note-requires-2 c κs = search rules

returns-2 : tie.Need-returns-in-Nothing
returns-2 c =
    own-nothing _ _ _ _ _ _ _ _ c.back_in.ensures c.if-back_in-position.false (omega arith) _ c.tag_there.ensures c.in-Nothing.is

returns-3 : tie.Need-returns-in-Entry
returns-3 c =
    own-entry _ _ _ _ _ _ _ _ c.back_in.ensures c.if-back_in-position.false (omega arith) _ c.tag_there.ensures _ _ _
    c.in-Entry.is
    c.note.ensures

returns-4 : tie.Need-returns-in-Closing
returns-4 c =
    own-closing _ _ _ _ _ _ _ _ c.back_in.ensures c.if-back_in-position.false (omega arith) _ c.tag_there.ensures _ _ _ _ _
    c.in-Closing.is
    c.note-in-Closing.ensures

pub note_entry_spec : {M : Type 1} → statement M
note_entry_spec =
    tie.close
    (tie.spec
    back-in-requires
    sub-if1
    returns
    tag-there-requires
    enum_told
    enum-known-written
    note-requires
    enum-known-written-2
    note-requires-2
    returns-2
    returns-3
    returns-4)
