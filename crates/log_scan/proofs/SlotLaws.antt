-- The ring slot and the turn that a pass keeps are its group's, from the first group on, up and down. Assumes nothing.
use mathlib.Core.Path.{◌≡◌, refl, sym, ap, ◌∙◌}
use Prim.Native.Nat.{ℕ, ◌+◌, ◌-◌, ◌*◌, ◌/◌, ◌%◌, ◌<◌}
use native.Mathlib.Decide.{ℕ_discrete}
use native.Mathlib.Nat.{mod_self, mod-lt, mod-eq_of_lt, mod-add-mod, div-add-mod, div-eq_of_lt, mul-add-div, mul-suc}
use native.Mathlib.Omega.{arith}
use Rattle.model.specs.Layout.{turn_of}
use Rattle.model_laws.proofs.bytes.TurnLaws.{turn_of-lt}
use Rattle.log_scan.specs.declared.slots.RingSlot.{RingSlot}
use Rattle.log_scan.specs.Slots.{SlotOf}

pub slot-first : (n groups : ℕ) → 0 < groups → SlotOf groups n (record { slot = n % groups; turn = n / groups % 2 })
unfolding turn_of
slot-first n groups h = record { same = refl; low = mod-lt n h; turn = refl; bit = omega arith }

-- ---- turns

quotient-of : (groups q s : ℕ) → s < groups → (groups * q + s) / groups ≡ q
quotient-of groups q s h = mul-add-div {m = groups} (omega arith) q s ∙ omega (arith, div-eq_of_lt {n = s} {m = groups} h)

turn-wraps : (n groups : ℕ) → 0 < groups → n % groups + 1 ≡ groups → turn_of groups (n + 1) ≡ 1 - turn_of groups n
unfolding turn_of
turn-wraps n groups h e =
    let f : n + 1 ≡ groups * (n / groups + 1) + 0 = omega (arith, div-add-mod n groups, mul-suc groups (n / groups)) in
    let q : (n + 1) / groups ≡ n / groups + 1 = ap (λ (x : ℕ). x / groups) f ∙ quotient-of groups (n / groups + 1) 0 h in
    rw q (omega arith)

turn-stays : (n groups : ℕ) → n % groups + 1 < groups → turn_of groups (n + 1) ≡ turn_of groups n
unfolding turn_of
turn-stays n groups h =
    let f : n + 1 ≡ groups * (n / groups) + (n % groups + 1) = omega (arith, div-add-mod n groups) in
    let q : (n + 1) / groups ≡ n / groups = ap (λ (x : ℕ). x / groups) f ∙ quotient-of groups (n / groups) (n % groups + 1) h in
    rw q

-- those of the group before
turn-before : (n groups : ℕ) → 0 < groups → 0 < n → (n - 1) % groups + 1 ≡ groups → turn_of groups (n - 1) ≡ 1 - turn_of groups n
turn-before n groups h p e =
    let z : n - 1 + 1 ≡ n = omega arith in
    omega (arith, rw z at (turn-wraps (n - 1) groups h e), turn_of-lt groups (n - 1))

turn-same : (n groups : ℕ) → 0 < n → (n - 1) % groups + 1 < groups → turn_of groups (n - 1) ≡ turn_of groups n
turn-same n groups p h =
    let z : n - 1 + 1 ≡ n = omega arith in
    sym (rw z at (turn-stays (n - 1) groups h))

-- ---- up

slot-more : (n groups slot r : ℕ) → slot ≡ n % groups → r ≡ (slot + 1) % groups → r ≡ (n + 1) % groups
slot-more n groups slot r e f = f ∙ rw (e, mod-add-mod)

pub slot-wraps : (at : RingSlot) (groups n : ℕ) → at.slot + 1 ≡ groups → SlotOf groups n at → SlotOf groups (n + 1) (record { slot = 0; turn = 1 - at.turn })
slot-wraps at groups n e k =
    record {
      same = slot-more n groups at.slot 0 k.same (rw e (sym (mod_self groups)));
      low = omega arith;
      turn = omega (arith, turn-wraps n groups (omega arith) (omega (arith, k.same)), k.turn);
      bit = omega arith;
    }

pub slot_next : (at : RingSlot) (groups n : ℕ) → at.slot < groups → (at.slot + 1 ≡ groups → ⊥) → SlotOf groups n at
    → SlotOf groups (n + 1) (record { slot = at.slot + 1; turn = at.turn })
slot_next at groups n h e k =
    record {
      same = slot-more n groups at.slot (at.slot + 1) k.same (sym (mod-eq_of_lt (omega arith)));
      low = omega arith;
      turn = omega (arith, turn-stays n groups (omega (arith, k.same)), k.turn);
      bit = k.bit;
    }

-- ---- down

-- the slot r before that of group n is that of the group before
slot-less : (n groups slot r : ℕ) → 0 < n → slot ≡ n % groups → r < groups → (r + 1) % groups ≡ slot → r ≡ (n - 1) % groups
slot-less n groups slot r p e l f = go (ℕ_discrete (r + 1) groups) (ℕ_discrete ((n - 1) % groups + 1) groups)
  where
    q : (n - 1) % groups < groups
    q = mod-lt (n - 1) (omega arith)

    same : (r + 1) % groups ≡ ((n - 1) % groups + 1) % groups
    same = let z : n - 1 + 1 ≡ n = omega arith in f ∙ e ∙ sym (rw (mod-add-mod, z))

    go : Dec (r + 1 ≡ groups) → Dec ((n - 1) % groups + 1 ≡ groups) → r ≡ (n - 1) % groups
    go (yes a) (yes b) = omega arith
    go (yes a) (no b) =
        let x : (r + 1) % groups ≡ 0 = rw a (mod_self groups) in
        let y : ((n - 1) % groups + 1) % groups ≡ (n - 1) % groups + 1 = mod-eq_of_lt (omega (arith, q)) in
        absurd (omega (arith, same))
    go (no a) (yes b) =
        let x : (r + 1) % groups ≡ r + 1 = mod-eq_of_lt (omega arith) in
        let y : ((n - 1) % groups + 1) % groups ≡ 0 = rw b (mod_self groups) in
        absurd (omega (arith, same))
    go (no a) (no b) =
        let x : (r + 1) % groups ≡ r + 1 = mod-eq_of_lt (omega arith) in
        let y : ((n - 1) % groups + 1) % groups ≡ (n - 1) % groups + 1 = mod-eq_of_lt (omega (arith, q)) in
        omega (arith, same)

pub slot-last : (at : RingSlot) (groups n : ℕ) → at.slot ≡ 0 → 0 < groups → 0 < n → SlotOf groups n at
    → SlotOf groups (n - 1) (record { slot = groups - 1; turn = 1 - at.turn })
slot-last at groups n e h p k =
    let z : groups - 1 + 1 ≡ groups = omega arith in
    let s : groups - 1 ≡ (n - 1) % groups = slot-less n groups at.slot (groups - 1) p k.same (omega arith) (rw (z, e) (mod_self groups)) in
    record { same = s; low = omega arith; turn = omega (arith, turn-before n groups h p (omega arith), k.turn); bit = omega arith }

pub slot-before : (at : RingSlot) (groups n : ℕ) → (at.slot ≡ 0 → ⊥) → at.slot < groups → 0 < n → SlotOf groups n at
    → SlotOf groups (n - 1) (record { slot = at.slot - 1; turn = at.turn })
slot-before at groups n e h p k =
    let z : at.slot - 1 + 1 ≡ at.slot = omega arith in
    let s : at.slot - 1 ≡ (n - 1) % groups = slot-less n groups at.slot (at.slot - 1) p k.same (omega arith) (rw z (mod-eq_of_lt h)) in
    record { same = s; low = omega arith; turn = omega (arith, turn-same n groups p (omega arith), k.turn); bit = k.bit }
