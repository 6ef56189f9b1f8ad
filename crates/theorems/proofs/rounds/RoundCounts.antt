-- A step that leaves homes leaves k fewer. Assumes nothing.
use Prim.Native.Nat.{ℕ, zero, suc, ◌+◌, ◌≤◌, ◌<◌}
use mathlib.Core.Path.{◌≡◌, refl, sym, ap, ◌∙◌}
use mathlib.Core.Bool.{Bool, true, false, cond, ◌&&◌}
use mathlib.Core.List.{List, [], ◌∷◌}
use native.Mathlib.Decide.{dec_le}
use native.Mathlib.Omega.{arith}
use lib.Dec.{leb}
use lib.ListN.{length, length-append}
use lib.Seq.{length-take-le}
use borrow.Author.Tests.{leb-true, le-leb, lt-leb}
use Rattle.model.specs.Commit.{newest, found}
use Rattle.model.specs.State.{state_of, fixed_in}
use Rattle.model.specs.Effects.{homes, marked, touched_from, live_tags, live_base, round_transactions, round_homes, tags_of}
use Rattle.model.specs.History.{World, lent}
use Rattle.model_laws.proofs.state.StateLaws.{with_cursor}
use Rattle.theorems.proofs.invariant.Invariant.{Sizes, Running}
use Rattle.theorems.proofs.invariant.LiveLog.{tags_in, lent-homes, lent-tags}
use Rattle.theorems.proofs.steps.RoundRuns.{ts, round_is, is_due, remaining, next_cursor, cursor-from, cursor-upto, step-now}
use Rattle.theorems.proofs.store.StoreLaws.{marked-same}

marked-none : (test : ℕ → Bool) (n : ℕ) → ((h : ℕ) → h < n → test h ≡ false) → marked test n ≡ []
unfolding marked
marked-none test zero e = refl
marked-none test (suc n) e = rw (marked-none test n (λ h l. e h (omega arith)), e n (omega arith))

marked-count : (test : ℕ → Bool) (n c : ℕ) → c ≤ n → length (marked test n) ≡ length (marked test c) + length (marked (λ h. leb c h && test h) n)
unfolding marked
marked-count test zero zero l = refl
marked-count test zero (suc c) l = absurd (omega arith)
marked-count test (suc n) c l = go (dec_le c n) (marked-count test n c)
  where
    go : Dec (c ≤ n) → (c ≤ n → length (marked test n) ≡ length (marked test c) + length (marked (λ h. leb c h && test h) n))
        → length (marked test (suc n)) ≡ length (marked test c) + length (marked (λ h. leb c h && test h) (suc n))
    go (yes h) f =
        let i = f h in
        rw (le-leb c n h, length-append (marked test n) (cond (test n) (n ∷ []) []), length-append (marked (λ h. leb c h && test h) n) (cond (test n) (n ∷ []) [])) (omega (arith, i))
    go (no h) f =
        let e : c ≡ suc n = omega arith in
        rw (marked-none (λ x. leb c x && test x) (suc n) (λ x k. rw (lt-leb c x (omega arith)))) (rw e (omega arith))

module _ (G D : ℕ) (z : Sizes G D) (w : World) (r : Running G D w) (under : 1 ≤ (state_of w.state).round) where
  homes-lent : (s a : List ℕ) (n : ℕ) → state_of s ≡ with_cursor (state_of w.state) n → length a ≡ length w.area
      → round_homes (record { state = s; newest = []; log = w.log; area = a; block = []; batch = []; writer = 0; home = 0 })
      ≡ touched_from (live_tags (lent w [] [] 0 0)) (round_transactions (lent w [] [] 0 0)) n (homes (lent w [] [] 0 0))
  unfolding round_homes round_transactions live_tags tags_of live_base fixed_in lent
  homes-lent s a n e l = rw (e, l)

  homes_at : (s a : List ℕ) (n : ℕ) → state_of s ≡ with_cursor (state_of w.state) n → length a ≡ length w.area
      → round_homes (record { state = s; newest = []; log = w.log; area = a; block = []; batch = []; writer = 0; home = 0 })
      ≡ marked (λ h. leb n h && found (newest (tags_in G D w) h (ts G D z w r under))) D
  homes_at s a n e l =
      homes-lent s a n e l
      ∙ (unfold touched_from in
      rw (round_is G D z w r under [], lent-tags G D r.b r.tr w z r.copies [] [] 0 0, lent-homes G D r.b r.tr w z r.copies [] [] 0 0))

  pub homes-fewer : (k : ℕ) (one : 1 ≤ k) (many : k < length (remaining G D z w r under)) (s a : List ℕ)
      → state_of s ≡ with_cursor (state_of w.state) (next_cursor G D z w r under k one many) → length a ≡ length w.area
      → length (round_homes (record { state = s; newest = []; log = w.log; area = a; block = []; batch = []; writer = 0; home = 0 })) + k
      ≡ length (remaining G D z w r under)
  homes-fewer k one many s a e l =
      let n : ℕ = next_cursor G D z w r under k one many in
      let due : ℕ → Bool = is_due G D z w r under in
      let x = marked-count due D n (cursor-upto G D z w r under k one many) in
      let y : length (marked due n) ≡ k =
      ap length (sym (step-now G D z w r under k one many)) ∙ length-take-le k (remaining G D z w r under) (omega arith) in
      rw (homes_at s a n e l ∙ marked-same _ (λ h. leb n h && due h) D (λ h. after h (leb n h) refl)) (omega (arith, x, y))
    where
      after : (h : ℕ) (d : Bool) → leb (next_cursor G D z w r under k one many) h ≡ d
          → leb (next_cursor G D z w r under k one many) h && found (newest (tags_in G D w) h (ts G D z w r under))
          ≡ leb (next_cursor G D z w r under k one many) h && is_due G D z w r under h
      after h true q =
          rw (q, le-leb (state_of w.state).cursor h (omega (arith, leb-true _ h q, cursor-from G D z w r under k one many)))
      after h false q = rw q
