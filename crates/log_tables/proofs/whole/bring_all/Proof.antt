-- `log_tables::bring_all` meets its contract: no more homes are touched than there are, and no more than there can be entries. Assumes nothing.
use mathlib.Core.Path.{refl}
use mathlib.Core.Logic.{⊎_elim}
use Prim.Native.Nat.{◌+◌, ◌*◌, ◌≤◌}
use native.Mathlib.Omega.{arith}
use lib.ListN.{length}
use Rattle.model.specs.Layout.{entry_at}
use Rattle.model.specs.Effects.{touched}
use Rattle.log_scan.specs.Walk.{closed_below}
use Rattle.log_tables.proofs.PlanLaws.{touched-most}
use Rattle.log_tables.proofs.TouchedLaws.{touched-least}
use borrow.Author.Rules.{rules}
use Rattle.log_tables.proofs.whole.bring_all.Statement.{statement}
use Rattle.log_tables.proofs.whole.bring_all.Tie as tie

mul-least : tie.Need-overflow_mul-groups
mul-least c = omega arith

least-requires : tie.Need-least-requires
least-requires c κs = tt

mul-if1 : tie.Need-overflow_mul-least
mul-if1 c = omega (arith, c.least.ensures.0)

add-if1 : tie.Need-overflow_add-least
add-if1 c = omega (arith, c.least.ensures.0)

count-requires : tie.Need-count-requires
count-requires c κs = let p = c.requires in (p.0, p.1, p.4)

mul-size : tie.Need-overflow_mul-size
mul-size c =
    let a = c.args in
    omega (
      arith,
      c.count.ensures,
      touched-most (entry_at a.log.now a.groups a.homes a.start) (closed_below a.log.now a.groups a.homes a.start a.end) a.homes,
      c.requires.1,
    )

add-size : tie.Need-overflow_add-size
add-size c =
    let a = c.args in
    omega (
      arith,
      c.count.ensures,
      touched-most (entry_at a.log.now a.groups a.homes a.start) (closed_below a.log.now a.groups a.homes a.start a.end) a.homes,
      c.requires.1,
      c.requires.3,
    )

returns : tie.Need-returns-then-room-size
returns c = (
  omega (arith, c.count.ensures),
  record {
    copied = λ h. absurd (omega (arith, c.if-room-size.true, h));
    written = λ h. absurd (omega (arith, c.if-room-size.true, h));
    same_area = λ h. refl;
    same-batch = λ h. refl;
  },
)

-- the batch has the records: counted, or by what there can be at most
module _ (c : tie.Joined-room-least) where
  few : length (touched (entry_at c.args.log.now c.args.groups c.args.homes c.args.start) (closed_below c.args.log.now c.args.groups c.args.homes c.args.start c.args.end) c.args.homes) ≤ c.least.result
  few = touched-least _ _ _ _ _ c.least.result c.requires.0 c.least.ensures.2

  fits : 68 * length (touched (entry_at c.args.log.now c.args.groups c.args.homes c.args.start) (closed_below c.args.log.now c.args.groups c.args.homes c.args.start c.args.end) c.args.homes) + c.args.more ≤ length c.args.batch.now
  fits = ⊎_elim (λ w. omega (arith, w.count.ensures, w.if-room-size.false)) (λ w. omega (arith, w.if-room-least.false, few)) c.if-room-least.branch-raw

bring-back-requires : tie.Need-bring_back-size-requires
bring-back-requires c κs =
    let p = c.requires in
    record { walkable = p.0; few = p.1; area-length = p.2; chained = p.4; batch-length = omega (arith, fits c.before.before) }

add-result : tie.Need-overflow_add-result
add-result c =
    let p = c.requires in
    let j = c.before.before.before.before.before.before.before in
    omega (arith, c.bring_back-size.ensures.0, few j, j.least.ensures.0, p.1, p.3)

same_length : tie.Need-shape_of-area
same_length c = search rules

same-length-2 : tie.Need-shape_of-batch
same-length-2 c = search rules

returns-2 : tie.Need-returns
returns-2 c =
    let r = c.bring_back-size.ensures in (
      omega (arith, r.0),
      record {
        copied = λ h. r.1.0;
        written = λ h. r.1.1;
        same_area = λ h. absurd (omega (arith, fits c.before.before.before.before.before.before.before, r.0, h));
        same-batch = λ h. absurd (omega (arith, fits c.before.before.before.before.before.before.before, r.0, h));
      },
    )

pub bring_all_spec : {M : Type 1} → statement M
bring_all_spec =
    tie.close
    (tie.spec
    mul-least
    least-requires
    mul-if1
    add-if1
    count-requires
    mul-size
    add-size
    returns
    bring-back-requires
    add-result
    same_length
    same-length-2
    returns-2)
