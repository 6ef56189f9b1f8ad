-- The question that stands first answers, in the calls of specs/examples/Precedence, by computation.
use mathlib.Core.Path.{◌≡◌, refl}
use mathlib.Core.Bool.{true}
use Rattle.model.specs.examples.Trials.{all_match}
use Rattle.model.specs.examples.Precedence.{lend, few, new, wrong, beyond, nearly_full, in_round, highest, formats, of_format, of_open, of_begin, of_reserve, of_abort, of_store, of_commit, of_flush, of_settle, of_step, of_trim, listed, of_read, without_newest, rows}
use Rattle.model.proofs.examples.Computing.{all-definitions}

pub first-answers : all_match rows ≡ true
unfolding all-definitions all_match lend few new wrong beyond nearly_full in_round highest formats of_format of_open of_begin of_reserve of_abort of_store of_commit of_flush of_settle of_step of_trim listed of_read without_newest rows
first-answers = refl
