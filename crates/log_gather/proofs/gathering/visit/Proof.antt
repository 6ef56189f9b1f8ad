-- `log_gather::visit` meets its contract: each arm is told which tag was read, whose home is one of the homes, and whose first position lies between
-- the start and its own. Assumes nothing.
use mathlib.Core.Path.{refl}
use native.Mathlib.Omega.{arith}
use borrow.Author.Rules.{rules}
use Rattle.log_gather.proofs.ChainLaws.{entry-bounds, closing-bounds, note-nothing, note-entry, note-closing}
use Rattle.log_gather.proofs.gathering.visit.Statement.{statement}
use Rattle.log_gather.proofs.gathering.visit.Tie as tie

sub-offset : tie.Need-overflow_sub-offset
sub-offset c = search rules

read-tag-requires : tie.Need-read_tag-requires
read-tag-requires c κs = search rules

enum_told : tie.Need-enum_told-1
enum_told c = search rules

enum-known-home : tie.Need-enum_known-home
enum-known-home c = search rules

chain-requires : tie.Need-chain-requires
chain-requires c κs =
    let p = c.requires.3 in
    let b = entry-bounds _ _ _ _ _ c.read_tag.ensures _ _ c.in-Entry.is in
    (omega (arith, b, p.few, p.words), omega (arith, p.each), omega arith)

enum-known-home-2 : tie.Need-enum_known-home-in-Closing-1
enum-known-home-2 c = search rules

add-last : tie.Need-overflow_add-last
add-last c = search rules

cast-last : tie.Need-overflow_cast-last
cast-last c = search rules

sub-last : tie.Need-overflow_sub-last
sub-last c = omega (arith, closing-bounds _ _ _ _ _ c.read_tag.ensures _ _ _ _ c.in-Closing.is)

mul-last : tie.Need-offset_bounds-last-first
mul-last c = omega (arith, closing-bounds _ _ _ _ _ c.read_tag.ensures _ _ _ _ c.in-Closing.is)

slice-write-last : tie.Need-bounds-last-first
slice-write-last c = omega (arith, closing-bounds _ _ _ _ _ c.read_tag.ensures _ _ _ _ c.in-Closing.is, c.requires.3.lasts)

chain-requires-2 : tie.Need-chain-requires-in-Closing
chain-requires-2 c κs =
    let p = c.requires.3 in
    let b = closing-bounds _ _ _ _ _ c.read_tag.ensures _ _ _ _ c.in-Closing.is in
    (omega (arith, b, p.few, p.words), omega (arith, p.each), omega arith)

returns : tie.Need-returns-in-Nothing
returns c = note-nothing _ _ _ _ _ c.read_tag.ensures c.in-Nothing.is

same_length : tie.Need-shape_of-heads-in-Entry
same_length c = search rules

same-length-2 : tie.Need-shape_of-links-in-Entry
same-length-2 c = search rules

returns-2 : tie.Need-returns-in-Entry
returns-2 c = note-entry _ _ _ _ _ c.read_tag.ensures _ _ _ _ c.in-Entry.is c.chain.ensures.0 c.chain.ensures.1

same-length-3 : tie.Need-shape_of-last
same-length-3 c = search rules

same-length-4 : tie.Need-shape_of-heads-in-Closing
same-length-4 c = search rules

same-length-5 : tie.Need-shape_of-links-in-Closing
same-length-5 c = search rules

returns-3 : tie.Need-returns-in-Closing
returns-3 c = note-closing _ _ _ _ _ c.read_tag.ensures _ _ _ _ _ _ _ c.in-Closing.is refl c.chain-in-Closing.ensures.0 c.chain-in-Closing.ensures.1

pub visit_spec : {M : Type 1} → statement M
visit_spec =
    tie.close
    (tie.spec
    sub-offset
    read-tag-requires
    enum_told
    enum-known-home
    chain-requires
    enum-known-home-2
    add-last
    cast-last
    sub-last
    mul-last
    slice-write-last
    chain-requires-2
    returns
    same_length
    same-length-2
    returns-2
    same-length-3
    same-length-4
    same-length-5
    returns-3)
