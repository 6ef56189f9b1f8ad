-- `log_tables::bring_some` meets its contract. Assumes nothing.
use mathlib.Core.Path.{refl, ap}
use Prim.Native.Nat.{ℕ, ◌+◌, ◌*◌}
use native.Mathlib.Omega.{arith}
use borrow.Author.Tests.{ltb-true}
use borrow.Author.Rules.{rules}
use Rattle.log_tables.proofs.StepPlans.{made-most, made-size, made-limit, made_more, made-copied, made-written, made-moved, seen-exact, seen-least, seen-full, seen_few, all_done, fence-few}
use Rattle.log_tables.proofs.steps.bring_some.Statement.{statement}
use Rattle.log_tables.proofs.steps.bring_some.Tie as tie

least-requires : tie.Need-least-most-requires
least-requires c κs = tt

mul-if1 : tie.Need-overflow_mul-most
mul-if1 c = omega (arith, c.least-most.ensures.1, c.requires.1)

add-if1 : tie.Need-overflow_add-most
add-if1 c = omega (arith, c.least-most.ensures.1, c.requires.1)

bring-from-requires : tie.Need-bring_from-got-requires
bring-from-requires c κs =
    let p = c.requires in
    (p.0, p.1, p.3, p.2, omega (arith, c.if-most-room.true), omega (arith, c.least-most.ensures.1, p.1))

add-seen : tie.Need-overflow_add-seen
add-seen c =
    let b = c.bring_from-got.ensures in
    omega (arith, seen_few _ _ _ _ _ _ _ b.1 c.least-most.ensures b.0.most, c.requires.1)

mul-t30 : tie.Need-overflow_mul-result
mul-t30 c = omega (arith, c.bring_from-got.ensures.0.most, c.least-most.ensures.1, c.requires.1)

fence-size-requires : tie.Need-fence_size-requires
fence-size-requires c κs = tt

add-t32 : tie.Need-overflow_add-result
add-t32 c =
    omega (arith, c.bring_from-got.ensures.0.most, c.least-most.ensures.1, c.requires.1, fence-few (c.bring_from-got.result.done + c.bring_from-got.result.rest) c.args.limit _ c.fence_size.ensures)

same_length : tie.Need-shape_of-area-then-most-room
same_length c = search rules

same-length-2 : tie.Need-shape_of-batch-then-most-room
same-length-2 c = search rules

returns : tie.Need-returns-then-most-room
returns c =
    let p = c.requires.0 in
    let b = c.bring_from-got.ensures in
    let l = c.least-most.ensures in
    let few = fence-few (c.bring_from-got.result.done + c.bring_from-got.result.rest) c.args.limit _ c.fence_size.ensures in
    let x = seen-exact _ _ _ _ _ _ _ b.1 l b.0.most in
    let y = b.1.most in
    let d = seen-least _ _ _ _ _ _ _ b.1 l b.0.most in
    record {
      sized = made-size _ _ _ _ _ p _ _ _ _ x y d _ (ap (λ (z : ℕ). 68 * c.bring_from-got.result.done + z) c.fence_size.ensures);
      left = made_more _ _ _ _ _ p _ _ _ _ x y d _ refl;
      moved = λ h t o. made-moved _ _ _ _ _ p _ _ _ _ x y d _ _ _ _ _ _ _ refl b.0 (seen-full _ _ _ _ _ _ _ b.1 l b.0.most) (ltb-true _ _ t) o;
      copied = λ h. made-copied _ _ _ _ _ p _ _ _ _ x y d _ _ _ _ _ _ _ refl b.0;
      written = λ h. made-written _ _ _ _ _ p _ _ _ _ x y d _ _ _ _ _ _ _ refl b.0;
      same_area = λ h. absurd (omega (arith, h, few, b.0.most, c.if-most-room.true));
      same-batch = λ h. absurd (omega (arith, h, few, b.0.most, c.if-most-room.true));
    }

count-from-requires : tie.Need-count_from-found-requires
count-from-requires c κs = let p = c.requires in (p.0, p.1, p.3)

least-requires-2 : tie.Need-least-done-requires
least-requires-2 c κs = tt

mul-size : tie.Need-overflow_mul-size
mul-size c =
    let n = c.count_from-found.ensures in
    let p = c.requires in
    omega (arith, made-most _ _ _ _ _ p.0 _ _ _ _ n.0 n.1 c.least-done.ensures, c.least-done.ensures.0, p.1)

fence-size-requires-2 : tie.Need-fence_size-requires-2
fence-size-requires-2 c κs = tt

add-size : tie.Need-overflow_add-size
add-size c =
    let n = c.count_from-found.ensures in
    let p = c.requires in
    let l = c.least-done.ensures in
    omega (arith, made-most _ _ _ _ _ p.0 _ _ _ _ n.0 n.1 l, l.0, p.1, fence-few c.count_from-found.result c.args.limit _ c.fence_size-2.ensures)

returns-2 : tie.Need-returns-then-room-size
returns-2 c =
    let n = c.count_from-found.ensures in
    let l = c.least-done.ensures in
    let p = c.requires.0 in
    record {
      sized = made-size _ _ _ _ _ p _ _ _ _ n.0 n.1 l _ (ap (λ (x : ℕ). 68 * c.least-done.result + x) c.fence_size-2.ensures);
      left = made_more _ _ _ _ _ p _ _ _ _ n.0 n.1 l _ refl;
      moved = λ h. absurd (omega (arith, h, c.if-room-size.true));
      copied = λ h. absurd (omega (arith, h, c.if-room-size.true));
      written = λ h. absurd (omega (arith, h, c.if-room-size.true));
      same_area = λ h. refl;
      same-batch = λ h. refl;
    }

bring-from-requires-2 : tie.Need-bring_from-got-requires-2
bring-from-requires-2 c κs =
    let p = c.requires in
    let n = c.count_from-found.ensures in
    let l = c.least-done.ensures in
    (p.0, p.1, p.3, p.2, omega (arith, c.if-room-size.false), omega (arith, made-most _ _ _ _ _ p.0 _ _ _ _ n.0 n.1 l, l.0, p.1))

same-length-3 : tie.Need-shape_of-area
same-length-3 c = search rules

same-length-4 : tie.Need-shape_of-batch
same-length-4 c = search rules

returns-3 : tie.Need-returns
returns-3 c =
    let n = c.count_from-found.ensures in
    let l = c.least-done.ensures in
    let p = c.requires.0 in
    let b = c.bring_from-got-2.ensures in
    let e = all_done _ _ _ _ _ _ b.1 b.0.most (made-limit _ _ _ _ _ p _ _ _ _ n.0 n.1 l) in
    record {
      sized = made-size _ _ _ _ _ p _ _ _ _ n.0 n.1 l _ (ap (λ (x : ℕ). 68 * c.least-done.result + x) c.fence_size-2.ensures);
      left = made_more _ _ _ _ _ p _ _ _ _ n.0 n.1 l _ refl;
      moved = λ h t o. made-moved _ _ _ _ _ p _ _ _ _ n.0 n.1 l _ _ _ _ _ _ _ e b.0 (λ q. refl) (ltb-true _ _ t) o;
      copied = λ h. made-copied _ _ _ _ _ p _ _ _ _ n.0 n.1 l _ _ _ _ _ _ _ e b.0;
      written = λ h. made-written _ _ _ _ _ p _ _ _ _ n.0 n.1 l _ _ _ _ _ _ _ e b.0;
      same_area = λ h. absurd (omega (arith, h, c.if-room-size.false));
      same-batch = λ h. absurd (omega (arith, h, c.if-room-size.false));
    }

pub bring_some_spec : {M : Type 1} → statement M
bring_some_spec =
    tie.close
    (tie.spec
    least-requires
    mul-if1
    add-if1
    bring-from-requires
    add-seen
    mul-t30
    fence-size-requires
    add-t32
    same_length
    same-length-2
    returns
    count-from-requires
    least-requires-2
    mul-size
    fence-size-requires-2
    add-size
    returns-2
    bring-from-requires-2
    same-length-3
    same-length-4
    returns-3)
