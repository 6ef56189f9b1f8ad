-- `unit_bands_table::judging::judge` meets its contract. Assumes nothing.
use mathlib.Core.Path.{sym, ◌∙◌}
use borrow.Author.Rules.{rules}
use Rattle.unit_bands_table.proofs.RowLaws.{sound-whole}
use Rattle.unit_bands_table.proofs.JudgeLaws.{judged-unsound, judged-gap, judged-one, judged-double}
use Rattle.unit_bands_table.proofs.judging.judge.Statement.{statement}
use Rattle.unit_bands_table.proofs.judging.judge.Tie as tie

sound-requires : tie.Need-sound-requires
sound-requires c κs = search rules

returns : tie.Need-returns-then-not-sound
returns c = sym (judged-unsound _ (sym c.sound.ensures ∙ c.if-not-sound.true))

uncovered-requires : tie.Need-uncovered-gap-requires
uncovered-requires c κs = sym c.sound.ensures ∙ c.if-not-sound.false

returns-2 : tie.Need-returns-then-gap-lt-DEPTHS
returns-2 c =
    let e = sym c.sound.ensures ∙ c.if-not-sound.false in
    sym (judged-gap _ e c.uncovered-gap.ensures c.if-gap-lt-DEPTHS.true)

width-requires : tie.Need-width-requires
width-requires c κs = sym c.sound.ensures ∙ c.if-not-sound.false

returns-3 : tie.Need-returns-then-width-eq-DEPTHS
returns-3 c =
    let e = sym c.sound.ensures ∙ c.if-not-sound.false in
    sym (judged-one _ e c.uncovered-gap.ensures c.if-gap-lt-DEPTHS.false c.width.ensures c.if-width-eq-DEPTHS.true)

doubled-requires : tie.Need-doubled-requires
doubled-requires c κs = sound-whole _ (sym c.sound.ensures ∙ c.if-not-sound.false)

returns-4 : tie.Need-returns
returns-4 c =
    let e = sym c.sound.ensures ∙ c.if-not-sound.false in
    let w = c.width.ensures in
    sym (judged-double _ e c.uncovered-gap.ensures c.if-gap-lt-DEPTHS.false w c.if-width-eq-DEPTHS.false c.doubled.ensures)

pub judge_spec : {M : Type 1} → statement M
judge_spec =
    tie.close
    (tie.spec
    sound-requires
    returns
    uncovered-requires
    returns-2
    width-requires
    returns-3
    doubled-requires
    returns-4)
