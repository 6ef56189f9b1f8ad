-- The questions of the calls on several homes. Assumes nothing.
use mathlib.Core.Path.{◌≡◌, refl, sym, ◌∙◌}
use mathlib.Core.Bool.{Bool, true, false, cond, not, ◌&&◌, and-false}
use mathlib.Core.List.{List, []}
use mathlib.Core.Logic.{◌≢◌}
use Prim.Native.Nat.{ℕ, ◌+◌, ◌-◌, ◌*◌, ◌/◌, ◌%◌, ◌≤◌, ◌<◌}
use native.Mathlib.Omega.{arith}
use lib.Dec.{eqb, leb, ltb}
use lib.ListN.{length}
use borrow.Author.Tests.{eqb-true, eq-eqb, ne_eqb, leb-true, leb-false, le-leb, lt-leb, ltb-true, lt-ltb, le-ltb, not-true, not-false}
use Rattle.model.specs.Layout.{home_count}
use Rattle.model.specs.State.{free_places}
use Rattle.model.specs.Effects.{Given}
use Rattle.model.specs.Questions.{ask, areas_right, state_right, newest_right, state_in_order, writer_known, ask_newest, may_promise}
use Rattle.model_laws.proofs.state.QuestionLaws.{ask-yes, ask-no, ask-passed, and-true}
use Rattle.call_ask.specs.Lent.{lent_all}
use Rattle.call_ask.proofs.AnswerLaws.{Usable}
use Rattle.call_ask.proofs.NewestAnswers.{newest-refuses, newest-passes, newest-usable, newest-only}
use Rattle.acts.specs.Many.{blocks_lent, blocks_right, homes_known, ask_homes}

-- ---- tests

pub blocks-split : (len : ℕ) → len % 64 ≢ 0 → false ≡ (eqb len (64 * (len / 64)) && leb 1 (len / 64) && leb (len / 64) 7)
blocks-split len h = rw (ne_eqb len (64 * (len / 64)) (λ z. h (omega arith)))

pub blocks-few : (len : ℕ) → len < 64 → false ≡ (eqb len (64 * (len / 64)) && leb 1 (len / 64) && leb (len / 64) 7)
blocks-few len h = rw (lt-leb 1 (len / 64) (omega arith), and-false (eqb len (64 * (len / 64))))

pub blocks-many : (len : ℕ) → len % 64 ≡ 0 → 64 ≤ len → leb len 448 ≡ (eqb len (64 * (len / 64)) && leb 1 (len / 64) && leb (len / 64) 7)
blocks-many len e h = rw (eq-eqb len (64 * (len / 64)) (omega arith), le-leb 1 (len / 64) (omega arith)) (go (leb len 448) refl)
  where
    go : (t : Bool) → leb len 448 ≡ t → t ≡ leb (len / 64) 7
    go true q = sym (le-leb (len / 64) 7 (omega (arith, leb-true len 448 q)))
    go false q = sym (lt-leb (len / 64) 7 (omega (arith, leb-false len 448 q)))

pub homes-past : (home n homes : ℕ) → homes < home → false ≡ leb (home + n) homes
homes-past home n homes h = sym (lt-leb (home + n) homes (omega arith))

pub homes-left : (home n homes : ℕ) → home ≤ homes → leb n (homes - home) ≡ leb (home + n) homes
homes-left home n homes h = go (leb n (homes - home)) refl
  where
    go : (t : Bool) → leb n (homes - home) ≡ t → t ≡ leb (home + n) homes
    go true q = sym (le-leb (home + n) homes (omega (arith, leb-true n (homes - home) q)))
    go false q = sym (lt-leb (home + n) homes (omega (arith, leb-false n (homes - home) q)))

-- ---- questions 1, 2, 4 and 5

four-refuse : (a b c d : Bool) (r v : ℕ) → r ≡ ask a 1 (ask b 2 (ask c 4 (ask d 5 0))) → r ≢ 0 → r ≡ ask a 1 (ask b 2 (ask c 4 (ask d 5 v)))
unfolding ask
four-refuse true true true true r v e n = absurd (n e)
four-refuse true true true false r v e n = e
four-refuse true true false d r v e n = e
four-refuse true false c d r v e n = e
four-refuse false b c d r v e n = e

and-true-right : (b : Bool) → (b && true) ≡ b
and-true-right true = refl
and-true-right false = refl

pub record HomesLent (g : Given) : Type 0 where
  pub usable : Usable g.log g.area g.state
  pub newest : length g.newest ≡ 8 * home_count (length g.area)
  pub blocks : length g.block ≡ 64 * (length g.block / 64)
  pub least : 1 ≤ length g.block / 64
  pub most : length g.block / 64 ≤ 7
  pub writer : g.writer < 8
  pub homes : g.home + length g.block / 64 ≤ home_count (length g.area)

module _ (g : Given) where
  pub homes-refuse : (r v : ℕ) → r ≡ ask_homes g 0 → r ≢ 0 → r ≡ ask_homes g v
  unfolding ask_homes
  homes-refuse r v e n = four-refuse _ _ _ _ r v e n

  pub homes-pass : (v : ℕ) → ask_homes g 0 ≡ 0 → ask_homes g v ≡ v
  unfolding ask_homes
  homes-pass v e =
      let p = ask-passed _ 0 _ e in
      let q = ask-passed (state_in_order g) 1 _ p.1 in
      let r = ask-passed (writer_known g) 3 _ q.1 in
      let s = ask-passed (homes_known g) 4 _ r.1 in
      ask-yes _ 1 _ p.0 ∙ ask-yes _ 2 _ q.0 ∙ ask-yes _ 4 _ r.0 ∙ ask-yes _ 5 _ s.0

  pub homes-first : (v : ℕ) → ask_homes g v ≡ 0 → (ask_homes g 0 ≡ 0) × (v ≡ 0)
  unfolding ask_homes
  homes-first v e =
      let p = ask-passed _ 0 _ e in
      let q = ask-passed (state_in_order g) 1 _ p.1 in
      let r = ask-passed (writer_known g) 3 _ q.1 in
      let s = ask-passed (homes_known g) 4 _ r.1 in
      (ask-yes _ 1 _ p.0 ∙ ask-yes _ 2 _ q.0 ∙ ask-yes _ 4 _ r.0 ∙ ask-yes _ 5 _ s.0, s.1)

  -- where the blocks are right it asks what a call lent the newest positions asks
  homes-newest : (v : ℕ) → blocks_right g ≡ true → ask_homes g v ≡ ask_newest g (ask (writer_known g) 4 (ask (homes_known g) 5 v))
  unfolding ask_homes ask_newest
  homes-newest v e = rw (e, and-true-right)

  pub homes-lent : ask_homes g 0 ≡ 0 → HomesLent g
  unfolding ask_homes ask_newest blocks_right blocks_lent writer_known homes_known
  homes-lent e =
      let p = ask-passed _ 0 _ e in
      let q = ask-passed (state_in_order g) 1 _ p.1 in
      let r = ask-passed (ltb g.writer 8) 3 _ q.1 in
      let s = ask-passed (leb (g.home + length g.block / 64) (home_count (length g.area))) 4 _ r.1 in
      let t = and-true (areas_right g && state_right g && newest_right g) _ p.0 in
      let u = newest-usable g (ask-yes _ 1 _ t.0 ∙ ask-yes _ 2 _ q.0) in
      let x = and-true (eqb (length g.block) (64 * (length g.block / 64)) && leb 1 (length g.block / 64)) _ t.1 in
      let y = and-true (eqb (length g.block) (64 * (length g.block / 64))) _ x.0 in
      record {
        usable = u.0;
        newest = u.1;
        blocks = eqb-true _ _ y.0;
        least = leb-true 1 _ y.1;
        most = leb-true _ 7 x.1;
        writer = ltb-true g.writer 8 r.0;
        homes = leb-true _ _ s.0;
      }

-- ---- the answer of the first four, question by question

module _ (l a s p x : List ℕ) (v h : ℕ) where
  module _ (t : Bool) (et : t ≡ (eqb (length x) (64 * (length x / 64)) && leb 1 (length x / 64) && leb (length x / 64) 7)) where
    pub blocks-no : not t ≡ true → 1 ≡ ask_homes (lent_all l a s p x [] v h) 0
    unfolding ask_homes blocks_right blocks_lent
    blocks-no k = sym (ask-no _ 1 _ (rw (← et, not-true t k) (and-false (areas_right (lent_all l a s p x [] v h) && state_right (lent_all l a s p x [] v h) && newest_right (lent_all l a s p x [] v h)))))

    module _ (yes : not t ≡ false) (r₀ : ℕ) (e₀ : r₀ ≡ ask_newest (lent_all l a s p [] [] 0 0) 0) where
      blocks-yes : blocks_right (lent_all l a s p x [] v h) ≡ true
      unfolding blocks_right blocks_lent
      blocks-yes = sym et ∙ not-false t yes

      pub first-no : r₀ ≢ 0 → r₀ ≡ ask_homes (lent_all l a s p x [] v h) 0
      first-no n =
          newest-refuses (lent_all l a s p x [] v h) r₀ _ (e₀ ∙ sym (newest-only l a s p x [] v h 0)) n
          ∙ sym (homes-newest (lent_all l a s p x [] v h) 0 blocks-yes)

      module _ (z₀ : r₀ ≡ 0) where
        rest : ask_homes (lent_all l a s p x [] v h) 0
            ≡ ask (writer_known (lent_all l a s p x [] v h)) 4 (ask (homes_known (lent_all l a s p x [] v h)) 5 0)
        rest =
            homes-newest (lent_all l a s p x [] v h) 0 blocks-yes
            ∙ newest-passes (lent_all l a s p x [] v h) _ (newest-only l a s p x [] v h 0 ∙ sym e₀ ∙ z₀)

        pub writer-no : 8 ≤ v → 4 ≡ ask_homes (lent_all l a s p x [] v h) 0
        unfolding writer_known
        writer-no k = sym (rest ∙ ask-no (ltb v 8) 4 _ (le-ltb v 8 k))

        module _ (n : ℕ) (o : Bool) (k : v < 8) (en : n ≡ home_count (length a)) (eo : o ≡ leb (h + length x / 64) n) where
          pub homes-no : not o ≡ true → 5 ≡ ask_homes (lent_all l a s p x [] v h) 0
          unfolding writer_known homes_known blocks_lent
          homes-no q = sym (rest ∙ ask-yes (ltb v 8) 4 _ (lt-ltb v 8 k) ∙ ask-no _ 5 0 (rw (← en, ← eo) (not-true o q)))

          pub homes-yes : not o ≡ false → 0 ≡ ask_homes (lent_all l a s p x [] v h) 0
          unfolding writer_known homes_known blocks_lent
          homes-yes q = sym (rest ∙ ask-yes (ltb v 8) 4 _ (lt-ltb v 8 k) ∙ ask-yes _ 5 0 (rw (← en, ← eo) (not-false o q)))

-- ---- questions 8 and 10

module _ (s : List ℕ) (n filled len : ℕ) (r : Bool) (least : 1 ≤ n) (e : r ≡ may_promise s n) where
  free : (t : Bool) → r ≡ t → leb n (free_places s) ≡ t
  unfolding may_promise
  free t q = sym (rw (le-leb 1 n least) at e) ∙ q

  pub room-no : not r ≡ true → 8 ≡ ask (leb n (free_places s)) 8 (ask (leb (cond (leb 7 (filled + n)) 516 0) len) 9 0)
  room-no k = sym (ask-no _ 8 _ (free false (not-true r k)))

  pub room-part : not r ≡ false → filled + n < 7 → 0 ≡ ask (leb n (free_places s)) 8 (ask (leb (cond (leb 7 (filled + n)) 516 0) len) 9 0)
  room-part k l =
      sym (ask-yes _ 8 _ (free true (not-false r k)) ∙ rw (lt-leb 7 (filled + n) l) (ask-yes (leb 0 len) 9 0 (le-leb 0 len (omega arith))))

  pub room-short : not r ≡ false → 7 ≤ filled + n → len < 516
      → 9 ≡ ask (leb n (free_places s)) 8 (ask (leb (cond (leb 7 (filled + n)) 516 0) len) 9 0)
  room-short k l h =
      sym (ask-yes _ 8 _ (free true (not-false r k)) ∙ rw (le-leb 7 (filled + n) l) (ask-no (leb 516 len) 9 0 (lt-leb 516 len h)))

  pub room-full : not r ≡ false → 7 ≤ filled + n → 516 ≤ len
      → 0 ≡ ask (leb n (free_places s)) 8 (ask (leb (cond (leb 7 (filled + n)) 516 0) len) 9 0)
  room-full k l h =
      sym (ask-yes _ 8 _ (free true (not-false r k)) ∙ rw (le-leb 7 (filled + n) l) (ask-yes (leb 516 len) 9 0 (le-leb 516 len h)))
