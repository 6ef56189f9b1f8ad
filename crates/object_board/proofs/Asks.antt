-- Operations asked for, and those that are done at once.
use Prim.Native.Nat.{ℕ, zero, suc, ◌≤◌}
use mathlib.Core.Path.{◌≡◌, refl, sym, ap, ◌∙◌}
use mathlib.Core.Logic.{◌⊎◌, inl, inr}
use mathlib.Core.Bool.{Bool, true, false, cond, false≢true}
use mathlib.Core.List.{List, []}
use native.Mathlib.Omega.{arith}
use lib.Dec.{eqb}
use borrow.Author.Tests.{eqb-true, eqb-false, ne_eqb, le-leb, lt-leb}
use Rattle.theorems.proofs.invariant.Invariant.{Sizes}
use Rattle.object.specs.Medium.{Grain, Medium}
use Rattle.object.specs.Order.{Motion, moved}
use Rattle.object_machine.specs.declared.Control.{Control}
use Rattle.object_machine.specs.Control.{known, with_ask}
use Rattle.object_machine.specs.Moves.{done}
use Rattle.object_machine.specs.Next.{shut, refusal, ask_answer, condition_for}
use Rattle.object_board.specs.Board.{Board, asks, is_over, taken, refused_to, ask_for, with_medium, happens, is_operation, Shut}
use Rattle.object_board.proofs.Along.{all-out, Stayed, stayed}
use Rattle.object_board.proofs.Stages.{sync_stage, other_stage, is_other, other-not, other-op}
use Rattle.object_board.proofs.Follows.{due_of, ahead_of, Kind, other, sync, Follows, quiet-follows}
use Rattle.object_board.proofs.Calling.{quiet_pass}
use Rattle.object_board.proofs.Good.{asked, Good, behind, loaded, follows, under, kept, under-like}
use Rattle.object_board.proofs.Happens.{told-good}

no-op : (n : ℕ) → 20 ≤ n → is_operation n ≡ false
unfolding is_operation
no-op n l = rw (ne_eqb n 19 (λ q. omega (arith, q)), le-leb 2 n (omega arith), lt-leb n 5 (omega arith), ne_eqb n 13 (λ q. omega (arith, q)), ne_eqb n 16 (λ q. omega (arith, q)))

op-cases : (n : ℕ) → is_operation n ≡ true → (n ≡ 19) ⊎ ((is_other n ≡ true) ⊎ (n ≡ 5))
unfolding is_operation is_other
op-cases zero h = absurd (false≢true h)
op-cases (suc zero) h = absurd (false≢true h)
op-cases (suc (suc zero)) h = inr (inl refl)
op-cases (suc (suc (suc zero))) h = inr (inl refl)
op-cases (suc (suc (suc (suc zero)))) h = inr (inl refl)
op-cases (suc (suc (suc (suc (suc zero))))) h = inr (inr refl)
op-cases (suc (suc (suc (suc (suc (suc zero)))))) h = absurd (false≢true h)
op-cases (suc (suc (suc (suc (suc (suc (suc zero))))))) h = absurd (false≢true h)
op-cases (suc (suc (suc (suc (suc (suc (suc (suc zero)))))))) h = absurd (false≢true h)
op-cases (suc (suc (suc (suc (suc (suc (suc (suc (suc zero))))))))) h = absurd (false≢true h)
op-cases (suc (suc (suc (suc (suc (suc (suc (suc (suc (suc zero)))))))))) h = absurd (false≢true h)
op-cases (suc (suc (suc (suc (suc (suc (suc (suc (suc (suc (suc zero))))))))))) h = absurd (false≢true h)
op-cases (suc (suc (suc (suc (suc (suc (suc (suc (suc (suc (suc (suc zero)))))))))))) h = absurd (false≢true h)
op-cases (suc (suc (suc (suc (suc (suc (suc (suc (suc (suc (suc (suc (suc zero))))))))))))) h = inr (inl refl)
op-cases (suc (suc (suc (suc (suc (suc (suc (suc (suc (suc (suc (suc (suc (suc zero)))))))))))))) h = absurd (false≢true h)
op-cases (suc (suc (suc (suc (suc (suc (suc (suc (suc (suc (suc (suc (suc (suc (suc zero))))))))))))))) h = absurd (false≢true h)
op-cases (suc (suc (suc (suc (suc (suc (suc (suc (suc (suc (suc (suc (suc (suc (suc (suc zero)))))))))))))))) h = inr (inl refl)
op-cases (suc (suc (suc (suc (suc (suc (suc (suc (suc (suc (suc (suc (suc (suc (suc (suc (suc zero))))))))))))))))) h = absurd (false≢true h)
op-cases (suc (suc (suc (suc (suc (suc (suc (suc (suc (suc (suc (suc (suc (suc (suc (suc (suc (suc zero)))))))))))))))))) h = absurd (false≢true h)
op-cases (suc (suc (suc (suc (suc (suc (suc (suc (suc (suc (suc (suc (suc (suc (suc (suc (suc (suc (suc zero))))))))))))))))))) h = inl refl
op-cases (suc (suc (suc (suc (suc (suc (suc (suc (suc (suc (suc (suc (suc (suc (suc (suc (suc (suc (suc (suc n)))))))))))))))))))) h = absurd (false≢true (sym (no-op (suc (suc (suc (suc (suc (suc (suc (suc (suc (suc (suc (suc (suc (suc (suc (suc (suc (suc (suc (suc n)))))))))))))))))))) (omega arith)) ∙ h))

pub shut_open : (c : Control) → shut c ≡ 0 → c.condition ≡ 2
unfolding shut
shut_open c = go (eqb c.condition 2) refl (eqb c.condition 1)
  where
    go : (a : Bool) → eqb c.condition 2 ≡ a → (b : Bool) → ◌≡◌ {A = ℕ} (cond a 0 (cond b 64 65)) 0 → c.condition ≡ 2
    go true e b h = eqb-true c.condition 2 e
    go false e true h = absurd (omega (arith, h))
    go false e false h = absurd (omega (arith, h))

ask-zero : (c : Control) (stage : ℕ) → ask_answer c stage ≡ 0 → (c.stage ≡ 0) × ((stage ≡ 19) ⊎ (c.condition ≡ 2))
unfolding ask_answer
ask-zero c stage = go (known c) (eqb c.stage 0) refl (eqb stage 19) refl
  where
    go : (a b : Bool) → eqb c.stage 0 ≡ b → (d : Bool) → eqb stage 19 ≡ d → cond a (cond b (cond d 0 (shut c)) 66) 67 ≡ 0
        → (c.stage ≡ 0) × ((stage ≡ 19) ⊎ (c.condition ≡ 2))
    go true true e true f h = (eqb-true c.stage 0 e, inl (eqb-true stage 19 f))
    go true true e false f h = (eqb-true c.stage 0 e, inr (shut_open c h))
    go true false e d f h = absurd (omega (arith, h))
    go false b e d f h = absurd (omega (arith, h))

-- after a failure

pub refusal_is : (c : Control) → c.condition ≡ 3 → refusal c (shut c) ≡ done 65 c.error
unfolding refusal shut
refusal_is c e = rw e

pub shut-failed : (c : Control) → c.condition ≡ 3 → shut c ≡ 65
unfolding shut
shut-failed c e = rw e

ask-failed : (c : Control) (stage : ℕ) → c.condition ≡ 3 → c.stage ≡ 0 → (stage ≡ 19 → ⊥) → ask_answer c stage ≡ 65
unfolding ask_answer known shut
ask-failed c stage e f n = rw (e, f, ne_eqb stage 19 n)

refusal-failed : (c : Control) → refusal c 65 ≡ done 65 c.error
unfolding refusal
refusal-failed c = refl

condition-open : (stage : ℕ) → stage ≡ 19 → condition_for stage ≡ 1
unfolding condition_for
condition-open stage e = rw e

condition-ready : (stage : ℕ) → (stage ≡ 19 → ⊥) → condition_for stage ≡ 2
unfolding condition_for
condition-ready stage n = rw (ne_eqb stage 19 n)

ask-fields : (c : Control) (condition stage writer home number : ℕ)
    → let d : Control = with_ask c condition stage writer home number in
    (d.condition ≡ condition) × (d.stage ≡ stage) × (d.op ≡ stage) × (d.size ≡ 0) × (d.at ≡ 0) × (d.step ≡ 0) × (d.headed ≡ c.headed) × (d.landing ≡ c.landing)
unfolding with_ask
ask-fields c condition stage writer home number = (refl, refl, refl, refl, refl, refl, refl, refl)

over_none : (b : Board) → is_over b.turn ≡ true → due_of b ≡ []
unfolding is_over due_of
over_none b e = let q : b.turn.kind ≡ 0 = eqb-true b.turn.kind 0 e in rw q

five-sync : (n : ℕ) → n ≡ 5 → sync_stage n ≡ true
unfolding sync_stage
five-sync n e = rw e

none_moves : (m : Medium) (ms : List Motion) → ms ≡ [] → moved m ms ≡ m
unfolding moved
none_moves m ms e = rw e

module _ (l : Grain) (G D : ℕ) (z : Sizes G D) (b : Board) (good : Good l G D z b) (stage writer home number : ℕ) (block : List ℕ) (op : is_operation stage ≡ true) where
  abbrev c : Control
  c = b.control

  abbrev d : Control
  d = with_ask b.control (condition_for stage) stage writer home number

  abbrev b' : Board
  b' = taken b (with_ask b.control (condition_for stage) stage writer home number) block

  f : (d.condition ≡ condition_for stage) × (d.stage ≡ stage) × (d.op ≡ stage) × (d.size ≡ 0) × (d.at ≡ 0) × (d.step ≡ 0) × (d.headed ≡ c.headed) × (d.landing ≡ c.landing)
  f = ask-fields c (condition_for stage) stage writer home number

  -- an opening
  asks-open : stage ≡ 19 → Good l G D z b'
  unfolding taken
  asks-open e =
      let s = kept l G D z b good in
      behind
      (record {
        under = under-like l G D z b b' refl refl refl (under l G D z b good);
        kept =
            record {
              sized = record { state = s.sized.state; newest = s.sized.newest; log = s.sized.log; area = s.sized.area; room = s.sized.room };
              landing = f.7 ∙ s.landing;
            };
        shut = inl (f.0 ∙ condition-open stage e);
        left = λ h. (f.0 ∙ condition-open stage e, omega (arith, f.3, f.4));
        waiting = asked (f.1 ∙ e) (f.2 ∙ e) refl;
      })

  -- another operation of an open store
  module _ (k : Follows l G D z b) (rest : c.stage ≡ 0) (n : stage ≡ 19 → ⊥) where
    none-due : due_of b ≡ []
    none-due = over_none b (go (is_over b.turn) refl)
      where
        go : (i : Bool) → is_over b.turn ≡ i → is_over b.turn ≡ true
        go true e = e
        go false e = absurd (k.live e rest)

    same-homes : b'.homes ≡ (ahead_of b).homes
    unfolding with_medium taken
    same-homes = refl

    same-medium : b'.medium ≡ (ahead_of b).medium
    unfolding with_medium taken
    same-medium = sym (none_moves b.medium (due_of b) none-due)

    same-landing : b'.control.landing ≡ (ahead_of b).control.landing
    unfolding with_medium taken
    same-landing = f.7

    on : Stayed l G D z (ahead_of b) b' k.along (all-out l G D z (ahead_of b) k.along (k.idle rest)) same-homes same-medium same-landing
    unfolding with_medium taken
    on =
        stayed l G D z (ahead_of b) b' k.along (all-out l G D z (ahead_of b) k.along (k.idle rest)) same-homes same-medium same-landing refl refl refl refl refl refl
        (inr (record { size = f.3; at = f.4; headed = f.6; step = f.5 }, refl))

    kind-is : (stage ≡ 19) ⊎ ((is_other stage ≡ true) ⊎ (stage ≡ 5)) → Kind d
    kind-is (inl e) = absurd (n e)
    kind-is (inr (inl e)) = other (ap other_stage f.1 ∙ (other-op stage e).0) (ap is_other f.2 ∙ e) (f.0 ∙ condition-ready stage n)
    kind-is (inr (inr e)) = sync (five-sync d.stage (f.1 ∙ e)) (f.2 ∙ e) (f.0 ∙ condition-ready stage n)

    nots : (stage ≡ 19) ⊎ ((is_other stage ≡ true) ⊎ (stage ≡ 5)) → (stage ≡ 6 → ⊥) × (stage ≡ 21 → ⊥) × (stage ≡ 0 → ⊥)
    nots (inl e) = absurd (n e)
    nots (inr (inl e)) = let y = other-not stage (other-op stage e).0 in (y.2, y.5, y.0)
    nots (inr (inr e)) = ((λ q. omega (arith, q, e)), (λ q. omega (arith, q, e)), λ q. omega (arith, q, e))

    asks-other : Good l G D z b'
    unfolding taken
    asks-other =
        let y = nots (op-cases stage op) in
        follows
        (quiet-follows l G D z b' on.along (quiet_pass b' refl)
        (record {
          kind = kind-is (op-cases stage op);
          fenced = λ q. absurd (y.0 (sym f.1 ∙ q));
          area = λ q. absurd (y.1 (sym f.1 ∙ q));
        })
        (λ q. on.none)
        (λ p q. y.2 (sym f.1 ∙ q)))

  takes : ask_answer c stage ≡ 0 → Good l G D z b'
  takes e = go (ask-zero c stage e) (eqb stage 19) refl good
    where
      go : (c.stage ≡ 0) × ((stage ≡ 19) ⊎ (c.condition ≡ 2)) → (i : Bool) → eqb stage 19 ≡ i → Good l G D z b → Good l G D z b'
      go x true i g = asks-open (eqb-true stage 19 i)
      go (r, inl h) false i g = absurd (eqb-false stage 19 i h)
      go (r, inr h) false i (behind k) = absurd (not-two k.shut h)
        where
          not-two : (c.condition ≡ 1) ⊎ (c.condition ≡ 3) → c.condition ≡ 2 → ⊥
          not-two (inl p) q = omega (arith, p, q)
          not-two (inr p) q = omega (arith, p, q)
      go (r, inr h) false i (loaded k) = absurd (omega (arith, h, k.condition))
      go (r, inr h) false i (follows k) = asks-other k r (eqb-false stage 19 i)

  pub asks-good : (n : ℕ) → Good l G D z (happens l b (asks stage writer home number block) n)
  unfolding happens ask_for
  asks-good n = go (eqb (ask_answer c stage) 0) refl
    where
      go : (i : Bool) → eqb (ask_answer c stage) 0 ≡ i → Good l G D z (cond i b' (refused_to b (refusal c (ask_answer c stage))))
      go true e = takes (eqb-true (ask_answer c stage) 0 e)
      go false e = told-good l G D z b (refusal c (ask_answer c stage)) good

  pub asks-right : (n : ℕ) → c.stage ≡ 0 → (stage ≡ 19 → ⊥) → Shut b (happens l b (asks stage writer home number block) n).told
  unfolding happens ask_for
  asks-right n r s h =
      let q = ask-failed c stage h r s in
      rw q (unfold refused_to in refusal-failed c)
