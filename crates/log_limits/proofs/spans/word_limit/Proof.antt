-- `log_limits::word_limit` meets its contract, case by case of the tag. Assumes nothing.
use borrow.Author.Rules.{rules}
use Rattle.log_limits.proofs.SpanLaws.{span-nothing, span-entry, span-low, span-high}
use Rattle.log_limits.proofs.spans.word_limit.Statement.{statement}
use Rattle.log_limits.proofs.spans.word_limit.Tie as tie

read-tag-requires : tie.Need-read_tag-requires
read-tag-requires c κs = search rules

enum_told : tie.Need-enum_told-1
enum_told c = search rules

enum-told-2 : tie.Need-enum_told-in-Entry
enum-told-2 c = search rules

enum-known-first : tie.Need-enum_known-first
enum-known-first c = search rules

returns : tie.Need-returns-in-Nothing
returns c = span-nothing _ _ _ c.read_tag.ensures c.in-Nothing.is

returns-2 : tie.Need-returns-in-Entry
returns-2 c = span-entry _ _ _ c.read_tag.ensures _ _ c.in-Entry.is

returns-3 : tie.Need-returns-then-group-limit
returns-3 c = span-low _ _ _ c.read_tag.ensures _ _ _ _ c.in-Closing.is c.if-group-limit.true

returns-4 : tie.Need-returns-else-group-limit
returns-4 c = span-high _ _ _ c.read_tag.ensures _ _ _ _ c.in-Closing.is c.if-group-limit.false

pub word_limit_spec : {M : Type 1} → statement M
word_limit_spec =
    tie.close
    (tie.spec
    read-tag-requires
    enum_told
    enum-told-2
    enum-known-first
    returns
    returns-2
    returns-3
    returns-4)
