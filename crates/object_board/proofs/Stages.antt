-- The stages that an operation goes through.
use Prim.Native.Nat.{ℕ, zero, suc, ◌≤◌}
use mathlib.Core.Path.{◌≡◌, refl, sym, ap, ◌∙◌}
use mathlib.Core.Bool.{Bool, true, false, cond, ◌&&◌, ◌||◌, false≢true}
use native.Mathlib.Omega.{arith}
use lib.Dec.{eqb, leb}
use lib.ListN.{get_or}
use borrow.Author.Tests.{le-leb, lt-leb, ne_eqb}
use Rattle.model.specs.State.{under_way}
use Rattle.model.specs.declared.State.{State}
use Rattle.object_machine.specs.declared.Control.{Control}
use Rattle.object_machine.specs.Moves.{call_at, call_in_round, guarded, settled, at_stage, chosen, after}

-- a sync's, and those of reserve, store, commit and maintain
unfoldable pub sync_stage : ℕ → Bool
sync_stage n = leb 5 n && leb n 12 || eqb n 23 || eqb n 24

unfoldable pub other_stage : ℕ → Bool
other_stage n = leb 2 n && leb n 4 || leb 7 n && leb n 18 || leb 22 n && leb n 25

unfoldable pub is_other : ℕ → Bool
is_other op = leb 2 op && leb op 4 || eqb op 13 || eqb op 16

pub sync-after : (n : ℕ) → sync_stage n ≡ true → n ≤ 18 → (n ≡ 6 → ⊥)
    → (sync_stage (get_or after n 0) ≡ true) × (get_or after n 0 ≡ 22 → ⊥) × (get_or after n 0 ≡ 6 → n ≡ 5)
unfolding sync_stage after
sync-after zero h l x = absurd (false≢true h)
sync-after (suc zero) h l x = absurd (false≢true h)
sync-after (suc (suc zero)) h l x = absurd (false≢true h)
sync-after (suc (suc (suc zero))) h l x = absurd (false≢true h)
sync-after (suc (suc (suc (suc zero)))) h l x = absurd (false≢true h)
sync-after (suc (suc (suc (suc (suc zero))))) h l x = (refl, (λ q. omega (arith, q)), λ q. refl)
sync-after (suc (suc (suc (suc (suc (suc zero)))))) h l x = absurd (x refl)
sync-after (suc (suc (suc (suc (suc (suc (suc zero))))))) h l x = (refl, (λ q. omega (arith, q)), λ q. absurd (omega (arith, q)))
sync-after (suc (suc (suc (suc (suc (suc (suc (suc zero)))))))) h l x = (refl, (λ q. omega (arith, q)), λ q. absurd (omega (arith, q)))
sync-after (suc (suc (suc (suc (suc (suc (suc (suc (suc zero))))))))) h l x = (refl, (λ q. omega (arith, q)), λ q. absurd (omega (arith, q)))
sync-after (suc (suc (suc (suc (suc (suc (suc (suc (suc (suc zero)))))))))) h l x = (refl, (λ q. omega (arith, q)), λ q. absurd (omega (arith, q)))
sync-after (suc (suc (suc (suc (suc (suc (suc (suc (suc (suc (suc zero))))))))))) h l x = (refl, (λ q. omega (arith, q)), λ q. absurd (omega (arith, q)))
sync-after (suc (suc (suc (suc (suc (suc (suc (suc (suc (suc (suc (suc zero)))))))))))) h l x = (refl, (λ q. omega (arith, q)), λ q. absurd (omega (arith, q)))
sync-after (suc (suc (suc (suc (suc (suc (suc (suc (suc (suc (suc (suc (suc zero))))))))))))) h l x = absurd (false≢true h)
sync-after (suc (suc (suc (suc (suc (suc (suc (suc (suc (suc (suc (suc (suc (suc zero)))))))))))))) h l x = absurd (false≢true h)
sync-after (suc (suc (suc (suc (suc (suc (suc (suc (suc (suc (suc (suc (suc (suc (suc zero))))))))))))))) h l x = absurd (false≢true h)
sync-after (suc (suc (suc (suc (suc (suc (suc (suc (suc (suc (suc (suc (suc (suc (suc (suc zero)))))))))))))))) h l x = absurd (false≢true h)
sync-after (suc (suc (suc (suc (suc (suc (suc (suc (suc (suc (suc (suc (suc (suc (suc (suc (suc zero))))))))))))))))) h l x = absurd (false≢true h)
sync-after (suc (suc (suc (suc (suc (suc (suc (suc (suc (suc (suc (suc (suc (suc (suc (suc (suc (suc zero)))))))))))))))))) h l x = absurd (false≢true h)
sync-after (suc (suc (suc (suc (suc (suc (suc (suc (suc (suc (suc (suc (suc (suc (suc (suc (suc (suc (suc n))))))))))))))))))) h l x = absurd (omega arith)

pub other_after : (n : ℕ) → other_stage n ≡ true → n ≤ 18 → other_stage (get_or after n 0) ≡ true
unfolding other_stage after
other_after zero h l = absurd (false≢true h)
other_after (suc zero) h l = absurd (false≢true h)
other_after (suc (suc zero)) h l = refl
other_after (suc (suc (suc zero))) h l = refl
other_after (suc (suc (suc (suc zero)))) h l = refl
other_after (suc (suc (suc (suc (suc zero))))) h l = absurd (false≢true h)
other_after (suc (suc (suc (suc (suc (suc zero)))))) h l = absurd (false≢true h)
other_after (suc (suc (suc (suc (suc (suc (suc zero))))))) h l = refl
other_after (suc (suc (suc (suc (suc (suc (suc (suc zero)))))))) h l = refl
other_after (suc (suc (suc (suc (suc (suc (suc (suc (suc zero))))))))) h l = refl
other_after (suc (suc (suc (suc (suc (suc (suc (suc (suc (suc zero)))))))))) h l = refl
other_after (suc (suc (suc (suc (suc (suc (suc (suc (suc (suc (suc zero))))))))))) h l = refl
other_after (suc (suc (suc (suc (suc (suc (suc (suc (suc (suc (suc (suc zero)))))))))))) h l = refl
other_after (suc (suc (suc (suc (suc (suc (suc (suc (suc (suc (suc (suc (suc zero))))))))))))) h l = refl
other_after (suc (suc (suc (suc (suc (suc (suc (suc (suc (suc (suc (suc (suc (suc zero)))))))))))))) h l = refl
other_after (suc (suc (suc (suc (suc (suc (suc (suc (suc (suc (suc (suc (suc (suc (suc zero))))))))))))))) h l = refl
other_after (suc (suc (suc (suc (suc (suc (suc (suc (suc (suc (suc (suc (suc (suc (suc (suc zero)))))))))))))))) h l = refl
other_after (suc (suc (suc (suc (suc (suc (suc (suc (suc (suc (suc (suc (suc (suc (suc (suc (suc zero))))))))))))))))) h l = refl
other_after (suc (suc (suc (suc (suc (suc (suc (suc (suc (suc (suc (suc (suc (suc (suc (suc (suc (suc zero)))))))))))))))))) h l = refl
other_after (suc (suc (suc (suc (suc (suc (suc (suc (suc (suc (suc (suc (suc (suc (suc (suc (suc (suc (suc n))))))))))))))))))) h l = absurd (omega arith)

in-round : (n : ℕ) → (n ≡ 1 → ⊥) → get_or call_in_round n 0 ≡ 1 → ⊥
unfolding call_in_round
in-round zero x h = omega (arith, h)
in-round (suc zero) x h = x refl
in-round (suc (suc zero)) x h = omega (arith, h)
in-round (suc (suc (suc zero))) x h = omega (arith, h)
in-round (suc (suc (suc (suc zero)))) x h = omega (arith, h)
in-round (suc (suc (suc (suc (suc zero))))) x h = omega (arith, h)
in-round (suc (suc (suc (suc (suc (suc zero)))))) x h = omega (arith, h)
in-round (suc (suc (suc (suc (suc (suc (suc zero))))))) x h = omega (arith, h)
in-round (suc (suc (suc (suc (suc (suc (suc (suc zero)))))))) x h = omega (arith, h)
in-round (suc (suc (suc (suc (suc (suc (suc (suc (suc zero))))))))) x h = omega (arith, h)
in-round (suc (suc (suc (suc (suc (suc (suc (suc (suc (suc zero)))))))))) x h = omega (arith, h)
in-round (suc (suc (suc (suc (suc (suc (suc (suc (suc (suc (suc zero))))))))))) x h = omega (arith, h)
in-round (suc (suc (suc (suc (suc (suc (suc (suc (suc (suc (suc (suc zero)))))))))))) x h = omega (arith, h)
in-round (suc (suc (suc (suc (suc (suc (suc (suc (suc (suc (suc (suc (suc zero))))))))))))) x h = omega (arith, h)
in-round (suc (suc (suc (suc (suc (suc (suc (suc (suc (suc (suc (suc (suc (suc zero)))))))))))))) x h = omega (arith, h)
in-round (suc (suc (suc (suc (suc (suc (suc (suc (suc (suc (suc (suc (suc (suc (suc zero))))))))))))))) x h = omega (arith, h)
in-round (suc (suc (suc (suc (suc (suc (suc (suc (suc (suc (suc (suc (suc (suc (suc (suc zero)))))))))))))))) x h = omega (arith, h)
in-round (suc (suc (suc (suc (suc (suc (suc (suc (suc (suc (suc (suc (suc (suc (suc (suc (suc zero))))))))))))))))) x h = omega (arith, h)
in-round (suc (suc (suc (suc (suc (suc (suc (suc (suc (suc (suc (suc (suc (suc (suc (suc (suc (suc zero)))))))))))))))))) x h = omega (arith, h)
in-round (suc (suc (suc (suc (suc (suc (suc (suc (suc (suc (suc (suc (suc (suc (suc (suc (suc (suc (suc n))))))))))))))))))) x h = omega (arith, h)

no-round : (n : ℕ) → (n ≡ 1 → ⊥) → get_or call_at n 0 ≡ 1 → ⊥
unfolding call_at
no-round zero x h = omega (arith, h)
no-round (suc zero) x h = x refl
no-round (suc (suc zero)) x h = omega (arith, h)
no-round (suc (suc (suc zero))) x h = omega (arith, h)
no-round (suc (suc (suc (suc zero)))) x h = omega (arith, h)
no-round (suc (suc (suc (suc (suc zero))))) x h = omega (arith, h)
no-round (suc (suc (suc (suc (suc (suc zero)))))) x h = omega (arith, h)
no-round (suc (suc (suc (suc (suc (suc (suc zero))))))) x h = omega (arith, h)
no-round (suc (suc (suc (suc (suc (suc (suc (suc zero)))))))) x h = omega (arith, h)
no-round (suc (suc (suc (suc (suc (suc (suc (suc (suc zero))))))))) x h = omega (arith, h)
no-round (suc (suc (suc (suc (suc (suc (suc (suc (suc (suc zero)))))))))) x h = omega (arith, h)
no-round (suc (suc (suc (suc (suc (suc (suc (suc (suc (suc (suc zero))))))))))) x h = omega (arith, h)
no-round (suc (suc (suc (suc (suc (suc (suc (suc (suc (suc (suc (suc zero)))))))))))) x h = omega (arith, h)
no-round (suc (suc (suc (suc (suc (suc (suc (suc (suc (suc (suc (suc (suc zero))))))))))))) x h = omega (arith, h)
no-round (suc (suc (suc (suc (suc (suc (suc (suc (suc (suc (suc (suc (suc (suc zero)))))))))))))) x h = omega (arith, h)
no-round (suc (suc (suc (suc (suc (suc (suc (suc (suc (suc (suc (suc (suc (suc (suc zero))))))))))))))) x h = omega (arith, h)
no-round (suc (suc (suc (suc (suc (suc (suc (suc (suc (suc (suc (suc (suc (suc (suc (suc zero)))))))))))))))) x h = omega (arith, h)
no-round (suc (suc (suc (suc (suc (suc (suc (suc (suc (suc (suc (suc (suc (suc (suc (suc (suc zero))))))))))))))))) x h = omega (arith, h)
no-round (suc (suc (suc (suc (suc (suc (suc (suc (suc (suc (suc (suc (suc (suc (suc (suc (suc (suc zero)))))))))))))))))) x h = omega (arith, h)
no-round (suc (suc (suc (suc (suc (suc (suc (suc (suc (suc (suc (suc (suc (suc (suc (suc (suc (suc (suc n))))))))))))))))))) x h = omega (arith, h)

-- an opening's call is made at its own stage alone
pub not-opening : (c : Control) (st : State) (homes : ℕ) → (c.stage ≡ 1 → ⊥) → chosen c st homes ≡ 1 → ⊥
unfolding chosen at_stage
not-opening c st homes x = go (leb c.stage 18) (eqb c.stage 3 && guarded c homes) (eqb c.stage 16 && settled st) (under_way st)
  where
    go : (a b d e : Bool) → cond a (cond b 12 (cond d 0 (cond e (get_or call_in_round c.stage 0) (get_or call_at c.stage 0)))) 0 ≡ 1 → ⊥
    go true true d e h = omega (arith, h)
    go true false true e h = omega (arith, h)
    go true false false true h = in-round c.stage x h
    go true false false false h = no-round c.stage x h
    go false b d e h = omega (arith, h)

-- stages without a call
pub no_call : (c : Control) (st : State) (homes : ℕ) → 19 ≤ c.stage → chosen c st homes ≡ 0
unfolding chosen
no_call c st homes l = rw (lt-leb c.stage 18 (omega arith))

same-both : (d : Bool) (n : ℕ) → cond d n n ≡ n
same-both true n = refl
same-both false n = refl

pub opening-call : (c : Control) (st : State) (homes : ℕ) → c.stage ≡ 1 → chosen c st homes ≡ 1
unfolding chosen at_stage call_at call_in_round
opening-call c st homes e = rw e (same-both (under_way st) 1)

pub flush-call : (c : Control) (st : State) (homes : ℕ) → c.stage ≡ 5 → chosen c st homes ≡ 5
unfolding chosen at_stage call_at call_in_round
flush-call c st homes e = rw e (same-both (under_way st) 5)

pub confirm-call : (c : Control) (st : State) (homes : ℕ) → c.stage ≡ 6 → chosen c st homes ≡ 6
unfolding chosen at_stage call_at call_in_round
confirm-call c st homes e = rw e (same-both (under_way st) 6)

-- numbers told apart
pub sync-not : (n : ℕ) → sync_stage n ≡ true → (n ≡ 0 → ⊥) × (n ≡ 1 → ⊥) × (n ≡ 19 → ⊥) × (n ≡ 20 → ⊥) × (n ≡ 21 → ⊥) × (n ≡ 22 → ⊥) × (n ≡ 25 → ⊥)
unfolding sync_stage
sync-not n h = (
  (λ q. false≢true (ap sync_stage (sym q) ∙ h)),
  (λ q. false≢true (ap sync_stage (sym q) ∙ h)),
  (λ q. false≢true (ap sync_stage (sym q) ∙ h)),
  (λ q. false≢true (ap sync_stage (sym q) ∙ h)),
  (λ q. false≢true (ap sync_stage (sym q) ∙ h)),
  (λ q. false≢true (ap sync_stage (sym q) ∙ h)),
  (λ q. false≢true (ap sync_stage (sym q) ∙ h)),
)

pub other-not : (n : ℕ) → other_stage n ≡ true → (n ≡ 0 → ⊥) × (n ≡ 1 → ⊥) × (n ≡ 6 → ⊥) × (n ≡ 19 → ⊥) × (n ≡ 20 → ⊥) × (n ≡ 21 → ⊥)
unfolding other_stage
other-not n h = (
  (λ q. false≢true (ap other_stage (sym q) ∙ h)),
  (λ q. false≢true (ap other_stage (sym q) ∙ h)),
  (λ q. false≢true (ap other_stage (sym q) ∙ h)),
  (λ q. false≢true (ap other_stage (sym q) ∙ h)),
  (λ q. false≢true (ap other_stage (sym q) ∙ h)),
  (λ q. false≢true (ap other_stage (sym q) ∙ h)),
)

beyond : (n : ℕ) → 17 ≤ n → is_other n ≡ false
unfolding is_other
beyond n l = rw (le-leb 2 n (omega arith), lt-leb n 4 (omega arith), ne_eqb n 13 (λ q. omega (arith, q)), ne_eqb n 16 (λ q. omega (arith, q)))

pub other-op : (n : ℕ) → is_other n ≡ true → (other_stage n ≡ true) × (n ≡ 5 → ⊥) × (n ≡ 19 → ⊥)
unfolding is_other other_stage
other-op zero h = absurd (false≢true h)
other-op (suc zero) h = absurd (false≢true h)
other-op (suc (suc zero)) h = (refl, (λ q. omega (arith, q)), λ q. omega (arith, q))
other-op (suc (suc (suc zero))) h = (refl, (λ q. omega (arith, q)), λ q. omega (arith, q))
other-op (suc (suc (suc (suc zero)))) h = (refl, (λ q. omega (arith, q)), λ q. omega (arith, q))
other-op (suc (suc (suc (suc (suc zero))))) h = absurd (false≢true h)
other-op (suc (suc (suc (suc (suc (suc zero)))))) h = absurd (false≢true h)
other-op (suc (suc (suc (suc (suc (suc (suc zero))))))) h = absurd (false≢true h)
other-op (suc (suc (suc (suc (suc (suc (suc (suc zero)))))))) h = absurd (false≢true h)
other-op (suc (suc (suc (suc (suc (suc (suc (suc (suc zero))))))))) h = absurd (false≢true h)
other-op (suc (suc (suc (suc (suc (suc (suc (suc (suc (suc zero)))))))))) h = absurd (false≢true h)
other-op (suc (suc (suc (suc (suc (suc (suc (suc (suc (suc (suc zero))))))))))) h = absurd (false≢true h)
other-op (suc (suc (suc (suc (suc (suc (suc (suc (suc (suc (suc (suc zero)))))))))))) h = absurd (false≢true h)
other-op (suc (suc (suc (suc (suc (suc (suc (suc (suc (suc (suc (suc (suc zero))))))))))))) h = (refl, (λ q. omega (arith, q)), λ q. omega (arith, q))
other-op (suc (suc (suc (suc (suc (suc (suc (suc (suc (suc (suc (suc (suc (suc zero)))))))))))))) h = absurd (false≢true h)
other-op (suc (suc (suc (suc (suc (suc (suc (suc (suc (suc (suc (suc (suc (suc (suc zero))))))))))))))) h = absurd (false≢true h)
other-op (suc (suc (suc (suc (suc (suc (suc (suc (suc (suc (suc (suc (suc (suc (suc (suc zero)))))))))))))))) h = (refl, (λ q. omega (arith, q)), λ q. omega (arith, q))
other-op (suc (suc (suc (suc (suc (suc (suc (suc (suc (suc (suc (suc (suc (suc (suc (suc (suc n))))))))))))))))) h = absurd (false≢true (sym (beyond (suc (suc (suc (suc (suc (suc (suc (suc (suc (suc (suc (suc (suc (suc (suc (suc (suc n))))))))))))))))) (omega arith)) ∙ h))
