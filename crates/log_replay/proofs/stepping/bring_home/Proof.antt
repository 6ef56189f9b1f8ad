-- `log_replay::bring_home` meets its contract. Assumes nothing.
use mathlib.Core.Path.{ap, ◌∙◌}
use native.Mathlib.Omega.{arith}
use lib.ListN.{length}
use Rattle.model_laws.proofs.bytes.ByteLaws.{length-puts}
use Rattle.model_laws.proofs.bytes.LayoutLaws.{length-put_home}
use Rattle.log_replay.proofs.StepLaws.{none-counted, one-counted, none-chosen, one-chosen}
use Rattle.log_replay.proofs.stepping.bring_home.Statement.{statement}
use Rattle.log_replay.proofs.stepping.bring_home.Tie as tie

returns : tie.Need-returns-then-code-eq0
returns c =
    (none-counted _ _ c.if-code-eq0.true, (none-chosen _ _ _ c.if-code-eq0.true, none-chosen _ _ _ c.if-code-eq0.true))

sub-restore-block : tie.Need-overflow_sub-code
sub-restore-block c = omega (arith, c.if-code-eq0.false)

restore-block-requires : tie.Need-restore_block-requires
restore-block-requires c κs =
    let p = c.requires in
    (p.0, p.1, p.2, p.3, omega (arith, p.5, p.2, c.if-code-eq0.false), p.4, p.6)

mul-home-write : tie.Need-overflow_mul-done
mul-home-write c = omega (arith, c.requires.7)

home-write-requires : tie.Need-home_write-requires
home-write-requires c κs =
    let p = c.requires in
    (omega (arith, p.7), omega (arith, p.6, ap length c.restore_block.ensures ∙ length-put_home _ _ _))

add-result : tie.Need-overflow_add-result
add-result c = omega (arith, c.requires.7)

same_length : tie.Need-shape_of-area
same_length c = ap length c.restore_block.ensures ∙ length-put_home _ _ _

same-length-2 : tie.Need-shape_of-batch
same-length-2 c = ap length c.home_write.ensures.1 ∙ length-puts _ _ _

returns-2 : tie.Need-returns
returns-2 c = (
  one-counted _ _ c.if-code-eq0.false,
  (c.restore_block.ensures ∙ one-chosen _ _ _ c.if-code-eq0.false, c.home_write.ensures.1 ∙ one-chosen _ _ _ c.if-code-eq0.false),
)

pub bring_home_spec : {M : Type 1} → statement M
bring_home_spec =
    tie.close
    (tie.spec
    returns
    sub-restore-block
    restore-block-requires
    mul-home-write
    home-write-requires
    add-result
    same_length
    same-length-2
    returns-2)
