-- `call_usage::word_entries` meets its contract, case by case of the tag. Assumes nothing.
use native.Mathlib.Omega.{arith}
use Rattle.call_usage.proofs.SumLaws.{added-nothing, added-entry, added-closing, count_most}
use borrow.Author.Rules.{rules}
use Rattle.call_usage.proofs.entries.word_entries.Statement.{statement}
use Rattle.call_usage.proofs.entries.word_entries.Tie as tie

read-tag-requires : tie.Need-read_tag-requires
read-tag-requires c κs = search rules

enum_told : tie.Need-enum_told-1
enum_told c = search rules

enum-told-2 : tie.Need-enum_told-in-Entry
enum-told-2 c = search rules

enum-known-count : tie.Need-enum_known-count
enum-known-count c = search rules

add-result : tie.Need-overflow_add-result
add-result c = omega (arith, count_most _ _ _ _ 0 _ c.read_tag.ensures _ _ _ _ c.in-Closing.is)

returns : tie.Need-returns-in-Nothing
returns c = (added-nothing _ _ _ _ _ _ c.read_tag.ensures c.in-Nothing.is, omega arith)

returns-2 : tie.Need-returns-in-Entry
returns-2 c = (added-entry _ _ _ _ _ _ c.read_tag.ensures _ _ c.in-Entry.is, omega arith)

returns-3 : tie.Need-returns-in-Closing
returns-3 c =
    let t = c.read_tag.ensures in
    let d = c.in-Closing.is in
    (added-closing _ _ _ _ _ _ t _ _ _ _ d, omega (arith, count_most _ _ _ _ 0 _ t _ _ _ _ d))

pub word_entries_spec : {M : Type 1} → statement M
word_entries_spec =
    tie.close
    (tie.spec
    read-tag-requires
    enum_told
    enum-told-2
    enum-known-count
    add-result
    returns
    returns-2
    returns-3)
