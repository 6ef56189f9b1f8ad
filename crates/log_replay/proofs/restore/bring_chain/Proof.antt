-- `log_replay::bring_chain` meets its contract. Assumes nothing.
use mathlib.Core.Path.{refl, sym, ap, ◌∙◌}
use native.Mathlib.Omega.{arith}
use lib.ListN.{length}
use Rattle.log_replay.proofs.RestoreLaws.{length-restored, word-length, word-ready, word-within, word-restored, word-written}
use Rattle.log_replay.proofs.restore.bring_chain.Statement.{statement}
use Rattle.log_replay.proofs.restore.bring_chain.Tie as tie

slice-aggregate-newest-in : tie.Need-slice_bounds-newest_in-end
slice-aggregate-newest-in c = refl

newest-in-requires : tie.Need-newest_in-bits-requires
newest-in-requires c κs = let p = c.requires in (p.0, p.2, p.3, p.4, refl)

slice-aggregate-restore-word : tie.Need-slice_bounds-restore_word-end
slice-aggregate-restore-word c = sym c.newest_in-bits.ensures.each

mul-restore-word : tie.Need-overflow_mul-w
mul-restore-word c = omega arith

restore-word-requires : tie.Need-restore_word-requires
restore-word-requires c κs =
    let p = c.requires in
    (p.0.long, p.0.most, p.0.some, p.0.low, p.4, omega arith, word-ready _ _ _ _ _ p.0 _ _ _ c.newest_in-bits.ensures _ p.5)

mul-emit-word : tie.Need-overflow_mul-w-2
mul-emit-word c = omega arith

emit-word-requires : tie.Need-emit_word-requires
emit-word-requires c κs =
    let p = c.requires in
    let n = c.newest_in-bits.ensures in
    let s = ap length c.restore_word.ensures ∙ length-restored _ _ _ _ _ ∙ p.5 in
    (word-within _ _ _ _ _ p.0 _ _ _ n _ s, (omega (arith, word-length _ _ _ _ _ p.0 _ _ _ n, p.6), omega arith))

same_length : tie.Need-shape_of-area
same_length c = ap length c.restore_word.ensures ∙ length-restored _ _ _ _ _

same-length-2 : tie.Need-shape_of-batch
same-length-2 c = omega arith

returns : tie.Need-returns
returns c =
    let p = c.requires in
    let n = c.newest_in-bits.ensures in (
      omega (arith, c.emit_word.ensures.1, word-length _ _ _ _ _ p.0 _ _ _ n),
      (
        word-restored _ _ _ _ _ p.0 _ _ _ n _ _ c.restore_word.ensures,
        word-written _ _ _ _ _ p.0 _ _ _ n _ _ _ _ c.emit_word.ensures.0,
      ),
    )

pub bring_chain_spec : {M : Type 1} → statement M
bring_chain_spec =
    tie.close
    (tie.spec
    slice-aggregate-newest-in
    newest-in-requires
    slice-aggregate-restore-word
    mul-restore-word
    restore-word-requires
    mul-emit-word
    emit-word-requires
    same_length
    same-length-2
    returns)
