-- `log_tables::bring_small` meets its contract. Assumes nothing.
use mathlib.Core.Path.{◌≡◌, refl, ap}
use mathlib.Core.Logic.{⊎_elim}
use Prim.Native.Nat.{ℕ}
use native.Mathlib.Omega.{arith}
use lib.ListN.{length}
use Rattle.log_gather.proofs.ChainLaws.{empty-sized}
use Rattle.log_tables.proofs.PlanLaws.{end-within, TablesFilled, told-by}
use borrow.Author.Rules.{rules}
use Rattle.log_tables.proofs.tables.bring_small.Statement.{statement}
use Rattle.log_tables.proofs.tables.bring_small.Tie as tie

slice-aggregate-walk : tie.Need-slice_bounds-walk-end
slice-aggregate-walk c = search rules

slice-aggregate-walk-2 : tie.Need-slice_bounds-walk-end-2
slice-aggregate-walk-2 c = search rules

slice-aggregate-walk-3 : tie.Need-slice_bounds-walk-end-3
slice-aggregate-walk-3 c = search rules

walk-requires : tie.Need-walk-found-requires
walk-requires c κs =
    let s = c.requires.0 in
    (s.long, s.least, s.most, s.homes-most, s.low, s.within, empty-sized _ 448 (omega (arith, s.most)))

slice-aggregate-walk-twice : tie.Need-slice_bounds-walk_twice-end
slice-aggregate-walk-twice c = search rules

slice-aggregate-walk-twice-2 : tie.Need-slice_bounds-walk_twice-end-then-found-eq2
slice-aggregate-walk-twice-2 c = search rules

slice-aggregate-walk-twice-3 : tie.Need-slice_bounds-walk_twice-end-then-found-eq2-2
slice-aggregate-walk-twice-3 c = search rules

walk-twice-requires : tie.Need-walk_twice-found-requires
walk-twice-requires c κs =
    let s = c.requires.0 in
    let k = c.walk-found.auto in (
      s.long,
      s.least,
      s.most,
      s.low,
      s.within,
      omega (arith, k, s.most),
      record { few = s.homes-most; lasts = refl; words = omega (arith, k); each = omega (arith, k) },
    )

-- one walk has told all, or the second of two
module _ (c : tie.Joined-found-eq2) where
  told : TablesFilled c.args.log.now c.args.groups c.args.homes c.args.start c.args.n c.if-found-eq2.found c.if-found-eq2.last c.if-found-eq2.heads c.if-found-eq2.links
  told =
      ⊎_elim (λ w. told-by _ _ _ _ _ _ _ _ _ _ _ _ _ w.last-is w.heads-is w.links-is w.found-is w.walk_twice-found.ensures)
      (λ w. told-by _ _ _ _ _ _ _ _ _ _ _ _ _ w.last-is w.heads-is w.links-is w.found-is (c.walk-found.ensures w.if-found-eq2.false)) c.if-found-eq2.branch-raw

  sized : (length {A = ℕ} c.if-found-eq2.last ≡ 448) × (length {A = ℕ} c.if-found-eq2.heads ≡ 1024) × (length {A = ℕ} c.if-found-eq2.links ≡ 448)
  sized =
      let k = c.walk-found.auto in
      ⊎_elim
      (λ w. (
        omega (arith, k, w.walk_twice-found.auto, ap (length {A = ℕ}) w.last-is),
        omega (arith, k, w.walk_twice-found.auto, ap (length {A = ℕ}) w.heads-is),
        omega (arith, k, w.walk_twice-found.auto, ap (length {A = ℕ}) w.links-is),
      ))
      (λ w. (
        omega (arith, k, ap (length {A = ℕ}) w.last-is),
        omega (arith, k, ap (length {A = ℕ}) w.heads-is),
        omega (arith, k, ap (length {A = ℕ}) w.links-is),
      ))
      c.if-found-eq2.branch-raw

slice-aggregate-bring-all : tie.Need-slice_bounds-bring_all-end
slice-aggregate-bring-all c = omega (arith, sized c.before.before.before.before)

slice-aggregate-bring-all-2 : tie.Need-slice_bounds-bring_all-end-then-limit-eq0
slice-aggregate-bring-all-2 c = omega (arith, sized c.before.before.before.before.before)

slice-aggregate-bring-all-3 : tie.Need-slice_bounds-bring_all-end-then-limit-eq0-2
slice-aggregate-bring-all-3 c = omega (arith, sized c.before.before.before.before.before.before)

bring-all-requires : tie.Need-bring_all-size-requires
bring-all-requires c κs =
    let p = c.requires in
    let w = told c.before.before.before.before.before.before in
    (end-within _ _ _ _ _ _ p.0 w.0, p.0.homes-most, p.1, p.2, w.2)

same_length : tie.Need-shape_of-area-then-limit-eq0
same_length c = search rules

same-length-2 : tie.Need-shape_of-batch-then-limit-eq0
same-length-2 c = search rules

returns : tie.Need-returns-then-limit-eq0
returns c =
    let w = told c.before.before.before.before.before.before.before.before.before.before.before in
    let r = c.bring_all-size.ensures in
    (record { ends = w.0; numbered = w.1 }, (λ z. (r.0, r.1), λ l. absurd (omega (arith, l, c.if-limit-eq0.true))))

slice-aggregate-bring-some : tie.Need-slice_bounds-bring_some-end
slice-aggregate-bring-some c = omega (arith, sized c.before.before.before.before)

slice-aggregate-bring-some-2 : tie.Need-slice_bounds-bring_some-end-2
slice-aggregate-bring-some-2 c = omega (arith, sized c.before.before.before.before.before)

slice-aggregate-bring-some-3 : tie.Need-slice_bounds-bring_some-end-3
slice-aggregate-bring-some-3 c = omega (arith, sized c.before.before.before.before.before.before)

bring-some-requires : tie.Need-bring_some-made-requires
bring-some-requires c κs =
    let p = c.requires in
    let w = told c.before.before.before.before.before.before in
    (end-within _ _ _ _ _ _ p.0 w.0, p.0.homes-most, p.1, w.2)

same-length-3 : tie.Need-shape_of-area
same-length-3 c = search rules

same-length-4 : tie.Need-shape_of-batch
same-length-4 c = search rules

returns-2 : tie.Need-returns
returns-2 c =
    let w = told c.before.before.before.before.before.before.before.before.before.before.before in
    (record { ends = w.0; numbered = w.1 }, (λ z. absurd (c.if-limit-eq0.false z), λ l. c.bring_some-made.ensures))

pub bring_small_spec : {M : Type 1} → statement M
bring_small_spec =
    tie.close
    (tie.spec
    slice-aggregate-walk
    slice-aggregate-walk-2
    slice-aggregate-walk-3
    walk-requires
    slice-aggregate-walk-twice
    slice-aggregate-walk-twice-2
    slice-aggregate-walk-twice-3
    walk-twice-requires
    slice-aggregate-bring-all
    slice-aggregate-bring-all-2
    slice-aggregate-bring-all-3
    bring-all-requires
    same_length
    same-length-2
    returns
    slice-aggregate-bring-some
    slice-aggregate-bring-some-2
    slice-aggregate-bring-some-3
    bring-some-requires
    same-length-3
    same-length-4
    returns-2)
