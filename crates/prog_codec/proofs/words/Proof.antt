-- `prog_codec::words` meets its contract: each word is the definition, computed. Assumes nothing.
use borrow.Author.Rules.{rules}
use borrow.Author.Tests.{eq-eqb}
use Rattle.model.specs.Tag.{tag_word, entry_word, closing_word, with_displaced}
use Rattle.prog_codec.proofs.words.Statement.{statement}
use Rattle.prog_codec.proofs.words.Tie as tie

entry-word-requires : tie.Need-entry_word-requires
entry-word-requires c κs = search rules

expect-requires : tie.Need-expect-requires
unfolding entry_word tag_word
expect-requires c κs = eq-eqb c.entry_word.result 5 c.entry_word.ensures

commit-word-requires : tie.Need-commit_word-requires
commit-word-requires c κs = search rules

expect-requires-2 : tie.Need-expect-requires-2
unfolding closing_word tag_word
expect-requires-2 c κs = eq-eqb c.commit_word.result 2199023271947 c.commit_word.ensures

commit-word-requires-2 : tie.Need-commit_word-requires-2
commit-word-requires-2 c κs = search rules

expect-requires-3 : tie.Need-expect-requires-3
unfolding closing_word tag_word
expect-requires-3 c κs = eq-eqb c.commit_word-2.result 3298534916119 c.commit_word-2.ensures

entry-word-requires-2 : tie.Need-entry_word-requires-2
entry-word-requires-2 c κs = search rules

expect-requires-4 : tie.Need-expect-requires-4
unfolding entry_word tag_word
expect-requires-4 c κs = eq-eqb c.entry_word-2.result 0x01e0_0000_0000_3ff9 c.entry_word-2.ensures

with-displaced-requires : tie.Need-with_displaced-requires
with-displaced-requires c κs = search rules

expect-requires-5 : tie.Need-expect-requires-5
unfolding with_displaced
expect-requires-5 c κs = eq-eqb c.with_displaced.result 0x0200_0000_0000_0005 c.with_displaced.ensures

returns : tie.Need-returns
returns c = search rules

pub words_spec : {M : Type 1} → statement M
words_spec =
    tie.close
    (tie.spec
    entry-word-requires
    expect-requires
    commit-word-requires
    expect-requires-2
    commit-word-requires-2
    expect-requires-3
    entry-word-requires-2
    expect-requires-4
    with-displaced-requires
    expect-requires-5
    returns)
