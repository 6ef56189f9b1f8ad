-- `unit_bands_table::judging::accepts` meets its contract. Assumes nothing.
use mathlib.Core.Path.{sym, ◌∙◌}
use borrow.Author.Rules.{rules}
use Rattle.unit_bands_table.proofs.RowLaws.{sized_rows}
use Rattle.unit_bands_table.proofs.JudgeLaws.{accepts-unsized, accepts-tiled, accepts-unsound, accepts-wide}
use Rattle.unit_bands_table.proofs.judging.accepts.Statement.{statement}
use Rattle.unit_bands_table.proofs.judging.accepts.Tie as tie

sized-requires : tie.Need-sized-requires
sized-requires c κs = search rules

returns : tie.Need-returns-then-not-sized
returns c = accepts-unsized _ (sym c.sized.ensures ∙ c.if-not-sized.true)

tiled-requires : tie.Need-tiled-requires
tiled-requires c κs = sized_rows _ (sym c.sized.ensures ∙ c.if-not-sized.false)

returns-2 : tie.Need-returns-then-tiled
returns-2 c =
    let z = sym c.sized.ensures ∙ c.if-not-sized.false in
    accepts-tiled _ z (sym c.tiled.ensures ∙ c.if-tiled.true)

sound-requires : tie.Need-sound-requires
sound-requires c κs = search rules

returns-3 : tie.Need-returns-then-not-sound
returns-3 c = accepts-unsound _ (sym c.sound.ensures ∙ c.if-not-sound.true)

width-requires : tie.Need-width-requires
width-requires c κs = sym c.sound.ensures ∙ c.if-not-sound.false

returns-4 : tie.Need-returns-then-width-ne-DEPTHS
returns-4 c =
    let e = sym c.sound.ensures ∙ c.if-not-sound.false in
    accepts-wide _ e c.width.ensures c.if-width-ne-DEPTHS.true

chained-requires : tie.Need-chained-requires
chained-requires c κs =
    (sym c.sound.ensures ∙ c.if-not-sound.false, sym c.width.ensures ∙ c.if-width-ne-DEPTHS.false)

returns-5 : tie.Need-returns
returns-5 c = search rules

pub accepts_spec : {M : Type 1} → statement M
accepts_spec =
    tie.close
    (tie.spec
    sized-requires
    returns
    tiled-requires
    returns-2
    sound-requires
    returns-3
    width-requires
    returns-4
    chained-requires
    returns-5)
