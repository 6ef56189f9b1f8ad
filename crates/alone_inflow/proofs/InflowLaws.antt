-- The inflow as a difference of two volumes, its bounds and its order. Assumes nothing.
use mathlib.Core.Path.{◌≡◌, refl, ap}
use mathlib.Core.Bool.{Bool, true, false}
use Prim.Native.Nat.{ℕ, suc, ◌+◌, ◌-◌, ◌*◌, ◌^◌, ◌≤◌, ◌<◌}
use native.Mathlib.Nat.{mul-le-mul, mul-le-mul_left}
use native.Mathlib.Omega.{arith}
use borrow.Author.Tests.{ltb-true, ltb-false}
use lib.Dec.{ltb}
use lib.IntN.{pos, sub_ℕ, ◌+ℤ◌, ◌-ℤ◌, ◌*ℤ◌}
use lib.Signed.{mag, ◌≤ℤ◌}
use Rattle.alone_inflow.specs.Inflow.{inflow}
use Rattle.alone_inflow.proofs.IntegerLaws.{sub-ge, sub-lt, minus, neg-plus, sub-shift, sub-mono, mag-sub}

-- ---- area × after + pumped, less area × before

rose : (area before d pumped : ℕ) → pos area *ℤ (pos (before + d) -ℤ pos before) +ℤ pos pumped ≡ sub_ℕ (area * (before + d) + pumped) (area * before)
rose area before d pumped =
    let e : before + d - before ≡ d = omega arith in
    let n : area * d + pumped ≡ area * (before + d) + pumped - area * before = omega arith in
    rw (minus (before + d) before, sub-ge (before + d) before (omega arith), e, sub-ge (area * (before + d) + pumped) (area * before) (omega arith)) (ap pos n)

fell : (area after d pumped : ℕ) → pos area *ℤ (pos after -ℤ pos (after + suc d)) +ℤ pos pumped ≡ sub_ℕ (area * after + pumped) (area * (after + suc d))
fell area after d pumped =
    let e : after + suc d - suc after ≡ d = omega arith in
    let n : area * (after + suc d) ≡ area * after + area * suc d = omega arith in
    rw (minus after (after + suc d), sub-lt after (after + suc d) (omega arith), e, n, sub-shift (area * after) pumped (area * suc d)) (neg-plus (area * suc d) pumped)

pub inflow-difference : (area before after pumped : ℕ) → inflow area before after pumped ≡ sub_ℕ (area * after + pumped) (area * before)
unfolding inflow
inflow-difference area before after pumped = go (ltb after before) refl
  where
    go : (t : Bool) → ltb after before ≡ t → pos area *ℤ (pos after -ℤ pos before) +ℤ pos pumped ≡ sub_ℕ (area * after + pumped) (area * before)
    go true e =
        let l = ltb-true after before e in
        let q : before ≡ after + suc (before - suc after) = omega arith in
        rw q (fell area after (before - suc after) pumped)
    go false e =
        let l = ltb-false after before e in
        let q : after ≡ before + (after - before) = omega arith in
        rw q (rose area before (after - before) pumped)

-- ---- a lower depth before, a higher one after and more pumped make more

pub inflow-mono : (area before after pumped before' after' pumped' : ℕ) → before' ≤ before → after ≤ after' → pumped ≤ pumped'
    → inflow area before after pumped ≤ℤ inflow area before' after' pumped'
inflow-mono area before after pumped before' after' pumped' h k l =
    rw (inflow-difference area before after pumped, inflow-difference area before' after' pumped')
    (sub-mono (area * after + pumped) (area * before) (area * after' + pumped') (area * before')
    (omega (arith, mul-le-mul_left area k)) (mul-le-mul_left area h))

-- ---- volumes are far below 2^63

pub volume : (area depth : ℕ) → area ≤ 1000000 → depth < 2 ^ 16 → area * depth ≤ 65535000000
volume area depth h l = let k : depth ≤ 65535 = omega arith in mul-le-mul h k

pub inflow-fits : (area before after pumped : ℕ) → area ≤ 1000000 → before < 2 ^ 16 → after < 2 ^ 16 → pumped < 2 ^ 32 → mag (inflow area before after pumped) < 2 ^ 63
inflow-fits area before after pumped h b a p =
    rw (inflow-difference area before after pumped)
    (mag-sub (2 ^ 63) (area * after + pumped) (area * before) (omega (arith, volume area after h a)) (omega (arith, volume area before h b)))
