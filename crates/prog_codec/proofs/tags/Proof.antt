-- `prog_codec::tags` meets its contract: each tag is the definition, computed. Assumes nothing.
use borrow.Author.Rules.{rules}
use mathlib.Core.Path.{ap, ◌∙◌}
use borrow.Author.Tests.{eq-eqb}
use Rattle.model.specs.Tag.{field, says, read_fields, read_tag, home_of}
use Rattle.prog_codec.proofs.tags.Statement.{statement}
use Rattle.prog_codec.proofs.tags.Tie as tie

read-tag-requires : tie.Need-read_tag-requires
read-tag-requires c κs = search rules

home-requires : tie.Need-home-requires
home-requires c κs = search rules

expect-requires : tie.Need-expect-requires
unfolding home_of read_tag read_fields field says
expect-requires c κs = eq-eqb c.home.result 1 (c.home.ensures ∙ ap home_of c.read_tag.ensures)

read-tag-requires-2 : tie.Need-read_tag-requires-2
read-tag-requires-2 c κs = search rules

home-requires-2 : tie.Need-home-requires-2
home-requires-2 c κs = search rules

expect-requires-2 : tie.Need-expect-requires-2
unfolding home_of read_tag read_fields field says
expect-requires-2 c κs = eq-eqb c.home-2.result 2 (c.home-2.ensures ∙ ap home_of c.read_tag-2.ensures)

read-tag-requires-3 : tie.Need-read_tag-requires-3
read-tag-requires-3 c κs = search rules

home-requires-3 : tie.Need-home-requires-3
home-requires-3 c κs = search rules

expect-requires-3 : tie.Need-expect-requires-3
unfolding home_of read_tag read_fields field says
expect-requires-3 c κs = eq-eqb c.home-3.result 5 (c.home-3.ensures ∙ ap home_of c.read_tag-3.ensures)

read-tag-requires-4 : tie.Need-read_tag-requires-4
read-tag-requires-4 c κs = search rules

home-requires-4 : tie.Need-home-requires-4
home-requires-4 c κs = search rules

expect-requires-4 : tie.Need-expect-requires-4
unfolding home_of read_tag read_fields field says
expect-requires-4 c κs = eq-eqb c.home-4.result 0 (c.home-4.ensures ∙ ap home_of c.read_tag-4.ensures)

read-tag-requires-5 : tie.Need-read_tag-requires-5
read-tag-requires-5 c κs = search rules

home-requires-5 : tie.Need-home-requires-5
home-requires-5 c κs = search rules

expect-requires-5 : tie.Need-expect-requires-5
unfolding home_of read_tag read_fields field says
expect-requires-5 c κs = eq-eqb c.home-5.result 65534 (c.home-5.ensures ∙ ap home_of c.read_tag-5.ensures)

read-tag-requires-6 : tie.Need-read_tag-requires-6
read-tag-requires-6 c κs = search rules

home-requires-6 : tie.Need-home-requires-6
home-requires-6 c κs = search rules

expect-requires-6 : tie.Need-expect-requires-6
unfolding home_of read_tag read_fields field says
expect-requires-6 c κs = eq-eqb c.home-6.result 0 (c.home-6.ensures ∙ ap home_of c.read_tag-6.ensures)

read-tag-requires-7 : tie.Need-read_tag-requires-7
read-tag-requires-7 c κs = search rules

home-requires-7 : tie.Need-home-requires-7
home-requires-7 c κs = search rules

expect-requires-7 : tie.Need-expect-requires-7
unfolding home_of read_tag read_fields field says
expect-requires-7 c κs = eq-eqb c.home-7.result 1 (c.home-7.ensures ∙ ap home_of c.read_tag-7.ensures)

read-tag-requires-8 : tie.Need-read_tag-requires-8
read-tag-requires-8 c κs = search rules

home-requires-8 : tie.Need-home-requires-8
home-requires-8 c κs = search rules

expect-requires-8 : tie.Need-expect-requires-8
unfolding home_of read_tag read_fields field says
expect-requires-8 c κs = eq-eqb c.home-8.result 0 (c.home-8.ensures ∙ ap home_of c.read_tag-8.ensures)

returns : tie.Need-returns
returns c = search rules

pub tags_spec : {M : Type 1} → statement M
tags_spec =
    tie.close
    (tie.spec
    read-tag-requires
    home-requires
    expect-requires
    read-tag-requires-2
    home-requires-2
    expect-requires-2
    read-tag-requires-3
    home-requires-3
    expect-requires-3
    read-tag-requires-4
    home-requires-4
    expect-requires-4
    read-tag-requires-5
    home-requires-5
    expect-requires-5
    read-tag-requires-6
    home-requires-6
    expect-requires-6
    read-tag-requires-7
    home-requires-7
    expect-requires-7
    read-tag-requires-8
    home-requires-8
    expect-requires-8
    returns)
