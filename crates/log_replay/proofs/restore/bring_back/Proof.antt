-- `log_replay::bring_back` meets its contract. The loop's invariant: the homes of the first `w` words are brought back, and their records written.
-- Assumes nothing.
use mathlib.Core.Path.{◌≡◌, refl, sym, ap, ◌∙◌}
use Prim.Native.Nat.{ℕ, ◌+◌, ◌-◌, ◌*◌, ◌/◌, ◌≤◌}
use native.Mathlib.Omega.{arith}
use lib.ListN.{length}
use Rattle.model.specs.Bytes.{puts}
use Rattle.model.specs.Batch.{batch_bytes}
use Rattle.model.specs.Effects.{marked, home_writes}
use Rattle.model_laws.proofs.bytes.ByteLaws.{length-puts}
use Rattle.base_bitmap.proofs.MarkedLaws.{marked-zero}
use Rattle.log_replay.specs.Words.{touches}
use Rattle.log_replay.specs.Restore.{restored, newest_at}
use Rattle.log_replay.proofs.RestoreLaws.{length-restored, touched-all, restored-replayed, count-more, count_most, area-start, area-turn, batch-start, batch-turn}
use Rattle.log_replay.proofs.restore.bring_back.Statement.{statement}
use Rattle.log_replay.proofs.restore.bring_back.Tie as tie

abbrev invariant-loop : tie.invariant-loop-w
invariant-loop log area₀ batch₀ last heads links groups homes start end slot words at₀ w₀ area batch at w =
    (area ≡ restored log groups (newest_at log groups homes start end) (marked (touches log groups homes start end) (64 * w)) area₀)
    × (batch ≡ puts batch₀ 0 (batch_bytes (home_writes area (marked (touches log groups homes start end) (64 * w)))))
    × (at ≡ 68 * length (marked (touches log groups homes start end) (64 * w)))
    × (w ≤ (homes + 63) / 64)
    × (length area ≡ 64 * homes)
    × (length batch ≡ length batch₀)

abbrev decreases-loop : tie.decreases-loop-w
decreases-loop log area₀ batch₀ last heads links groups homes start end slot words at₀ w₀ area batch at w = (homes + 63) / 64 - w

first-slot-requires : tie.Need-first_slot-slot-requires invariant-loop decreases-loop
first-slot-requires c κs = omega (arith, c.requires.walkable.some)

add_words : tie.Need-overflow_add-words invariant-loop decreases-loop
add_words c = omega (arith, c.requires.few)

loop-holds : tie.Need-loop-w-init invariant-loop decreases-loop
loop-holds c =
    let p = c.requires in
    let a = c.args in (
      area-start _ _ _ _ _ p.walkable _,
      batch-start _ _ _ _ _ p.walkable _ _,
      sym (ap (λ (k : ℕ). 68 * k) (ap length (marked-zero (touches a.log.now a.groups a.homes a.start a.end)))),
      omega arith,
      p.area-length,
      refl,
    )

bring-word-requires : tie.Need-bring_word-at-requires invariant-loop decreases-loop
bring-word-requires c κs =
    let p = c.requires in
    let l = c.loop-w in
    let m = count_most _ _ _ _ _ p.walkable l.w (omega (arith, c.loop-w-test.true, p.few)) p.few in
    (p.walkable, p.few, p.chained, omega (arith, c.loop-w-test.true, p.few), c.first_slot-slot.ensures.same, l.invariant.4, omega (arith, m, l.invariant.2, l.invariant.5, p.batch-length))

add-w : tie.Need-overflow_add-w invariant-loop decreases-loop
add-w c = omega (arith, c.requires.few, c.loop-w-test.true)

loop-less : tie.Need-loop-w-smaller invariant-loop decreases-loop
loop-less c = omega arith

loop-again : tie.Need-loop-w-preserved invariant-loop decreases-loop
loop-again c =
    let p = c.requires in
    let a = c.args in
    let l = c.loop-w in
    let b = c.bring_word-at in (
      area-turn _ _ _ _ _ p.walkable l.w _ _ _ l.invariant.0 b.ensures.1.0,
      batch-turn _ _ _ _ _ p.walkable l.w _ _ _ _ _ _ l.invariant.4 b.ensures.1.0 l.invariant.1 l.invariant.2 b.ensures.1.1,
      omega (arith, b.ensures.0, l.invariant.2, count-more a.log.now a.groups a.homes a.start a.end p.walkable l.w),
      omega arith,
      ap length b.ensures.1.0 ∙ length-restored _ _ _ _ _ ∙ l.invariant.4,
      ap length b.ensures.1.1 ∙ length-puts _ _ _ ∙ l.invariant.5,
    )

same_length : tie.Need-shape_of-area invariant-loop decreases-loop
same_length c = omega (arith, c.loop-w.invariant.4, c.requires.area-length)

same-length-2 : tie.Need-shape_of-batch invariant-loop decreases-loop
same-length-2 c = c.loop-w.invariant.5

returns : tie.Need-returns invariant-loop decreases-loop
returns c =
    let l = c.loop-w in
    let a = c.args in
    let p = c.requires in
    let e : l.w ≡ (a.homes + 63) / 64 = omega (arith, c.loop-w-test.false, l.invariant.3) in
    let t = touched-all a.log.now a.groups a.homes a.start a.end p.walkable (64 * ((a.homes + 63) / 64)) (omega arith) in
    let i = rw e at l.invariant in (
      i.2 ∙ ap (λ (k : ℕ). 68 * k) (ap length t),
      (i.0 ∙ rw t (restored-replayed _ _ _ _ _ p.walkable _ p.area-length), i.1 ∙ rw t),
    )

pub bring_back_spec : {M : Type 1} → statement M
bring_back_spec =
    tie.close
    (tie.spec
    invariant-loop
    decreases-loop
    first-slot-requires
    add_words
    loop-holds
    bring-word-requires
    add-w
    loop-less
    loop-again
    same_length
    same-length-2
    returns)
