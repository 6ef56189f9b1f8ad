-- `unit_bands_table::judging::common` meets its contract. Assumes nothing.
use mathlib.Core.Path.{sym, ◌∙◌}
use mathlib.Core.Logic.{⊎_elim}
use native.Mathlib.Omega.{arith}
use Rattle.unit_bands_table.proofs.SweepLaws.{common-meet, common-apart}
use Rattle.unit_bands_table.proofs.judging.common.Statement.{statement}
use Rattle.unit_bands_table.proofs.judging.common.Tie as tie

returns : tie.Need-returns-then-low-to
returns c = sym (common-apart _ _ _ _ (⊎_elim (λ w. omega arith) (λ w. omega arith) c.if-from-other_from.branch-raw))

returns-2 : tie.Need-returns-then-low-other_to
returns-2 c = sym (common-apart _ _ _ _ (⊎_elim (λ w. omega arith) (λ w. omega arith) c.if-from-other_from.branch-raw))

returns-3 : tie.Need-returns
returns-3 c =
    ⊎_elim (λ w. omega arith) (λ w. omega arith) c.if-from-other_from.branch-raw
    ∙ sym (common-meet _ _ _ _ (⊎_elim (λ w. omega arith) (λ w. omega arith) c.if-from-other_from.branch-raw))

pub common_spec : {M : Type 1} → statement M
common_spec = tie.close (tie.spec returns returns-2 returns-3)
