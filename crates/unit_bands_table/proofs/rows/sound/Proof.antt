-- `unit_bands_table::rows::sound` meets its contract. Assumes nothing.
use mathlib.Core.Path.{sym, ◌∙◌}
use borrow.Author.Rules.{rules}
use Rattle.unit_bands_table.proofs.RowLaws.{sized_rows, sound-unsized, sound-rest}
use Rattle.unit_bands_table.proofs.rows.sound.Statement.{statement}
use Rattle.unit_bands_table.proofs.rows.sound.Tie as tie

sized-requires : tie.Need-sized-requires
sized-requires c κs = search rules

returns : tie.Need-returns-then-not-sized
returns c = sym (sound-unsized _ (sym c.sized.ensures ∙ c.if-not-sized.true))

all-fit-requires : tie.Need-all_fit-requires
all-fit-requires c κs = sized_rows _ (sym c.sized.ensures ∙ c.if-not-sized.false)

returns-2 : tie.Need-returns
returns-2 c =
    c.all_fit.ensures ∙ sym (sound-rest _ (sym c.sized.ensures ∙ c.if-not-sized.false))

pub sound_spec : {M : Type 1} → statement M
sound_spec = tie.close (tie.spec sized-requires returns all-fit-requires returns-2)
