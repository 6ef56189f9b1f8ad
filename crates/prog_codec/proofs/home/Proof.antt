-- `prog_codec::home` meets its contract, case by case. Assumes nothing.
use borrow.Author.Rules.{rules}
use Rattle.model.specs.Tag.{home_of}
use Rattle.prog_codec.proofs.home.Statement.{statement}
use Rattle.prog_codec.proofs.home.Tie as tie

enum_told : tie.Need-enum_told-1
enum_told c = search rules

enum-known-t : tie.Need-enum_known-t
enum-known-t c = search rules

enum-known-t-2 : tie.Need-enum_known-t-in-Closing-1
enum-known-t-2 c = search rules

returns : tie.Need-returns-in-Nothing
unfolding home_of
returns c = search rules

returns-2 : tie.Need-returns-in-Entry
unfolding home_of
returns-2 c = search rules

returns-3 : tie.Need-returns-in-Closing
unfolding home_of
returns-3 c = search rules

pub home_spec : {M : Type 1} → statement M
home_spec = tie.close (tie.spec enum_told enum-known-t enum-known-t-2 returns returns-2 returns-3)
