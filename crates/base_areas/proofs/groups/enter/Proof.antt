-- `base_areas::enter` meets its contract: the entry goes into the log as it stands, or after a blank group. Assumes nothing.
use mathlib.Core.Path.{ap, ◌∙◌}
use mathlib.Core.Logic.{⊎_elim}
use borrow.Author.Rules.{rules}
use native.Mathlib.Omega.{arith}
use lib.ListN.{length}
use Rattle.base_areas.proofs.GroupLaws.{entered-first, entered-later}
use Rattle.base_areas.proofs.groups.enter.Statement.{statement}
use Rattle.base_areas.proofs.groups.enter.Tie as tie

put-blank-requires : tie.Need-put_blank-requires
put-blank-requires c κs = search rules

put-entry-requires : tie.Need-put_entry-requires
put-entry-requires c κs =
    ⊎_elim (λ w. omega (arith, ap length w.log-is)) (λ w. omega (arith, ap length w.log-is)) c.if-filled-eq0.branch-raw

same_length : tie.Need-shape_of-log
same_length c =
    ⊎_elim (λ w. omega (arith, ap length w.log-is)) (λ w. omega (arith, ap length w.log-is)) c.if-filled-eq0.branch-raw

returns : tie.Need-returns
returns c =
    let t = c.requires.1 in
    c.put_entry.ensures
    ∙ ⊎_elim (λ w. rw (w.log-is, w.put_blank.ensures _ t) (entered-first _ _ _ _ _ _ t w.if-filled-eq0.true)) (λ w. rw w.log-is (entered-later _ _ _ _ _ _ t w.if-filled-eq0.false))
    c.if-filled-eq0.branch-raw

pub enter_spec : {M : Type 1} → statement M
enter_spec = tie.close (tie.spec put-blank-requires put-entry-requires same_length returns)
