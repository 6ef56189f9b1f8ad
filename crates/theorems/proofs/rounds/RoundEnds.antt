-- A round takes at most as many steps as its homes need, and ends in the data copy of one settle at its beginning. From what holds of every event of a
-- history (RoundsKept, Demand2).
use Prim.Native.Nat.{ℕ, zero, suc, ◌+◌, ◌-◌, ◌≤◌, ◌<◌}
use mathlib.Core.Path.{◌≡◌, refl, sym, ap, ◌∙◌, subst}
use mathlib.Core.Logic.{◌⊎◌, inl, inr}
use mathlib.Core.Bool.{Bool, true, false, cond, not, ◌&&◌, ◌||◌, false≢true}
use mathlib.Core.List.{List, [], ◌∷◌, ◌++◌}
use native.Mathlib.Omega.{arith}
use lib.Dec.{eqb}
use lib.ListN.{length}
use borrow.Author.Tests.{eqb-true, ne_eqb}
use Rattle.model.specs.Layout.{home_at}
use Rattle.model.specs.State.{state_of, fixed_in}
use Rattle.model.specs.declared.State.{State}
use Rattle.model.specs.Effects.{round_homes, round_transactions, live_tags, tags_of, live_base}
use Rattle.model.specs.Book.{Book, homes_after}
use Rattle.model.specs.DemandTwo.{closed_below, LiveThroughout}
use Rattle.model.specs.History.{Service, settles, round_begins, round_steps, trims, reads, Call, opening, confirm, change, service, settle, begin_round, step_round, Event, call, World, after_format, lent, ends, feed, is_opening, after_done, after_refused, after_call, step, after, AllAllowed}
use Rattle.model.specs.History.{calls}
use Rattle.abstract_store.specs.Rounds.{homes_left, homes_left_by, Moved, Ended, may_come, RaisesAt, StaysAt, RoundsThroughout}
use Rattle.abstract_store.specs.RoundEnds.{is_step, AllCome, stepped, UnderWay, RoundGoes, RoundsEnd}
use Rattle.theorems.proofs.steps.RefusalLaws.{step-refused}
use Rattle.theorems.proofs.demands.DemandTwo.{demand2}
use Rattle.theorems.proofs.rounds.RoundsHold.{rounds-kept}

-- Histories in two parts

after-append : (w : World) (xs ys : List Event) → after w (xs ++ ys) ≡ after (after w xs) ys
unfolding after
after-append w [] ys = refl
after-append w (e ∷ xs) ys = after-append (step w e) xs ys

allowed-first : (w : World) (xs ys : List Event) → AllAllowed w (xs ++ ys) → AllAllowed w xs
allowed-first w [] ys a = tt
allowed-first w (e ∷ xs) ys a = (a.0, allowed-first (step w e) xs ys a.1)

allowed-rest : (w : World) (xs ys : List Event) → AllAllowed w (xs ++ ys) → AllAllowed (after w xs) ys
unfolding after
allowed-rest w [] ys a = a
allowed-rest w (e ∷ xs) ys a = allowed-rest (step w e) xs ys a.1

allowed-both : (w : World) (xs ys : List Event) → AllAllowed w xs → AllAllowed (after w xs) ys → AllAllowed w (xs ++ ys)
unfolding after
allowed-both w [] ys a b = b
allowed-both w (e ∷ xs) ys a b = (a.0, allowed-both (step w e) xs ys a.1 b)

rounds-rest : (w : World) (xs ys : List Event) → RoundsThroughout w (xs ++ ys) → RoundsThroughout (after w xs) ys
unfolding after
rounds-rest w [] ys r = r
rounds-rest w (e ∷ xs) ys r = rounds-rest (step w e) xs ys r.3

live-rest : (w : World) (xs ys : List Event) → LiveThroughout w (xs ++ ys) → LiveThroughout (after w xs) ys
unfolding after
live-rest w [] ys r = r
live-rest w (e ∷ xs) ys r = live-rest (step w e) xs ys r.2

-- Every call leaves an open store open, and D as it is

ready-step : (w : World) (c : Call) → w.ready ≡ true → (step w (call c)).ready ≡ true
unfolding step after_call after_done after_refused
ready-step w c h = go (ends w c).code
  where
    go : (n : ℕ) → (after_call w c (ends w c) n).ready ≡ true
    go zero = refl
    go (suc n) = h

homes-step : (w : World) (c : Call) → (step w (call c)).homes ≡ w.homes
unfolding step after_call after_done after_refused
homes-step w c = go (ends w c).code
  where
    go : (n : ℕ) → (after_call w c (ends w c) n).homes ≡ w.homes
    go zero = refl
    go (suc n) = refl

done-step : (w : World) (c : Call) → (ends w c).code ≡ 0 → step w (call c) ≡ after_done w c (ends w c)
unfolding step after_call
done-step w c h = ap (after_call w c (ends w c)) h

ready-calls : (w : World) (cs : List Call) → w.ready ≡ true → (after w (calls cs)).ready ≡ true
unfolding after calls
ready-calls w [] h = h
ready-calls w (c ∷ cs) h = ready-calls (step w (call c)) cs (ready-step w c h)

-- One call of a round under way that does not end it

abbrev fixed : World → ℕ
fixed w = fixed_in (state_of w.state)

pub record One (w : World) (k : ℕ) (c : Call) (d : ℕ) : Type 0 where
  pub round : (state_of (step w (call c)).state).round ≡ (state_of w.state).round
  pub left : length (homes_left (step w (call c))) + d ≤ length (homes_left w)
  pub some : (d ≡ 0) ⊎ (1 ≤ length (homes_left (step w (call c))))
  pub same : homes_after w.homes (closed_below (fixed w) (step w (call c)).book.commits) ≡ homes_after w.homes (closed_below (fixed w) w.book.commits)

-- a call that leaves the world as it is
one_none : (w : World) (k : ℕ) (c : Call) → step w (call c) ≡ w → One w k c 0
one_none w k c e =
    record {
      round = ap (λ (v : World). (state_of v.state).round) e;
      left = omega (arith, ap (λ (v : World). length (homes_left v)) e);
      some = inl refl;
      same = ap (λ (v : World). homes_after w.homes (closed_below (fixed w) v.book.commits)) e;
    }

-- what a done call leaves of the strip, of the homes that remain and, where the book does not hear of it, of the book
state-done : (w : World) (c : Call) → (ends w c).code ≡ 0 → (step w (call c)).state ≡ (ends w c).state
unfolding after_done
state-done w c h = ap (λ (v : World). v.state) (done-step w c h)

left-done : (w : World) (c : Call) → (ends w c).code ≡ 0 → homes_left (step w (call c)) ≡ homes_left_by (ends w c)
unfolding homes_left homes_left_by after_done lent round_homes round_transactions live_tags tags_of live_base
left-done w c h = ap homes_left (done-step w c h)

book-done : (w : World) (c : Service) → (ends w (service c)).code ≡ 0 → (step w (call (service c))).book ≡ w.book
unfolding after_done feed
book-done w c h = ap (λ (v : World). v.book) (done-step w (service c) h)

one-step : (w : World) (k : ℕ) (batch : List ℕ) → (ends w (step_round k batch)).code ≡ 0 → Moved w k (ends w (step_round k batch))
    → One w k (step_round k batch) k
one-step w k batch h m =
    let e : length (homes_left (step w (call (step_round k batch)))) ≡ length (homes_left_by (ends w (step_round k batch))) =
    ap length (left-done w (step_round k batch) h) in
    record {
      round = ap (λ (s : List ℕ). (state_of s).round) (state-done w (step_round k batch) h) ∙ m.round;
      left = omega (arith, e, m.fewer);
      some = inr (omega (arith, e, m.fewer, m.many));
      same = ap (λ (b : Book). homes_after w.homes (closed_below (fixed w) b.commits)) (book-done w (round_steps k batch) h);
    }

stepping : (w : World) (k : ℕ) (c : Call) → is_step k c ≡ true → (ends w c).code ≡ 0 → RaisesAt w (call c)
    → 1 ≤ (state_of (step w (call c)).state).round → One w k c k
unfolding is_step
stepping w k (opening state newest batch) i h a u = absurd (false≢true i)
stepping w k confirm i h a u = absurd (false≢true i)
stepping w k (change c) i h a u = absurd (false≢true i)
stepping w k (service (settles batch)) i h a u = absurd (false≢true i)
stepping w k (service round_begins) i h a u = absurd (false≢true i)
stepping w k (service (round_steps homes batch)) i h a u = rest homes (eqb-true homes k i) h (a h) u
  where
    rest : (n : ℕ) → n ≡ k → (ends w (step_round n batch)).code ≡ 0
        → Moved w n (ends w (step_round n batch)) ⊎ Ended w n (ends w (step_round n batch))
        → 1 ≤ (state_of (step w (call (step_round n batch))).state).round → One w k (step_round n batch) k
    rest n e h (inl m) u = subst (λ (x : ℕ). One w x (step_round n batch) x) e (one-step w n batch h m)
    rest n e h (inr d) u =
        absurd (omega (arith, u, ap (λ (s : List ℕ). (state_of s).round) (state-done w (step_round n batch) h), d.round))
stepping w k (service (trims batch)) i h a u = absurd (false≢true i)
stepping w k (service (reads writer home block)) i h a u = absurd (false≢true i)

one : (w : World) (k : ℕ) (c : Call) → RaisesAt w (call c) → StaysAt w (call c) → may_come c || is_step k c ≡ true
    → 1 ≤ (state_of w.state).round → 1 ≤ (state_of (step w (call c)).state).round
    → One w k c (cond (is_step k c && eqb (ends w c).code 0) k 0)
one w k c a s m u v = go (ends w c).code refl
  where
    may : (b : Bool) → b || false ≡ true → b ≡ true
    may true x = refl
    may false x = x

    refusing : (b : Bool) (n : ℕ) → (ends w c).code ≡ suc n → One w k c (cond (b && eqb (suc n) 0) k 0)
    refusing true n h = rw (ne_eqb (suc n) 0 (λ z. omega arith)) (one_none w k c (step-refused w c n h))
    refusing false n h = one_none w k c (step-refused w c n h)

    doing : (b : Bool) → is_step k c ≡ b → may_come c || b ≡ true → (ends w c).code ≡ 0 → One w k c (cond (b && eqb 0 0) k 0)
    doing true i x h = stepping w k c i h a v
    doing false i x h =
        let t = s h (may (may_come c) x) u in record { round = t.0; left = omega (arith, t.2); some = inl refl; same = t.3 }

    go : (n : ℕ) → (ends w c).code ≡ n → One w k c (cond (is_step k c && eqb n 0) k 0)
    go zero h = doing (is_step k c) refl m h
    go (suc n) h = refusing (is_step k c) n h

-- All of them

pub record Way (w : World) (k : ℕ) (cs : List Call) : Type 0 where
  pub round : (state_of (after w (calls cs)).state).round ≡ (state_of w.state).round
  pub few : (stepped k w cs ≡ 0) ⊎ (stepped k w cs < length (homes_left w))
  pub same : homes_after w.homes (closed_below (fixed w) (after w (calls cs)).book.commits) ≡ homes_after w.homes (closed_below (fixed w) w.book.commits)
  pub homes : (after w (calls cs)).homes ≡ w.homes

under_first : (w : World) (cs : List Call) → UnderWay w cs → 1 ≤ (state_of w.state).round
under_first w [] u = u
under_first w (c ∷ cs) u = u.0

under_last : (w : World) (cs : List Call) → UnderWay w cs → 1 ≤ (state_of (after w (calls cs)).state).round
unfolding after calls
under_last w [] u = u
under_last w (c ∷ cs) u = under_last (step w (call c)) cs u.1

fixed_same : (s t : State) → s.round ≡ t.round → fixed_in s ≡ fixed_in t
unfolding fixed_in
fixed_same s t e = ap (λ (n : ℕ). n - 1) e

way : (w : World) (k : ℕ) (cs : List Call) → RoundsThroughout w (calls cs) → AllCome k cs → UnderWay w cs → Way w k cs
unfolding after calls stepped
way w k [] r m u = record { round = refl; few = inl refl; same = refl; homes = refl }
way w k (c ∷ cs) r m u =
    let o = one w k c r.1 r.2 m.0 u.0 (under_first (step w (call c)) cs u.1) in
    let i = way (step w (call c)) k cs r.3 m.1 u.1 in
    let f : fixed (step w (call c)) ≡ fixed w = fixed_same _ _ o.round in
    let d : (step w (call c)).homes ≡ w.homes = homes-step w c in
    record {
      round = i.round ∙ o.round;
      few = join i.few o.some o.left;
      same = subst (λ (n : ℕ). homes_after n (closed_below (fixed w) (after (step w (call c)) (calls cs)).book.commits) ≡ homes_after n (closed_below (fixed w) (step w (call c)).book.commits)) d
          (subst (λ (n : ℕ). homes_after (step w (call c)).homes (closed_below n (after (step w (call c)) (calls cs)).book.commits) ≡ homes_after (step w (call c)).homes (closed_below n (step w (call c)).book.commits)) f i.same)
          ∙ o.same;
      homes = i.homes ∙ d;
    }
  where
    join : {d t l n : ℕ} → (t ≡ 0) ⊎ (t < l) → (d ≡ 0) ⊎ (1 ≤ l) → l + d ≤ n → (d + t ≡ 0) ⊎ (d + t < n)
    join (inl a) (inl b) h = inl (omega arith)
    join (inl a) (inr b) h = inr (omega arith)
    join (inr a) b h = inr (omega arith)

-- The theorem, from what holds of every history that goes on from the world before the round

module _ (v : World) (k : ℕ) (cs : List Call) (b : (ends v begin_round).code ≡ 0)
    (rounds : (es : List Event) → AllAllowed v es → RoundsThroughout v es) (live : (es : List Event) → AllAllowed v es → LiveThroughout v es)
    (a : AllAllowed v (call begin_round ∷ calls cs)) (m : AllCome k cs) where
  abbrev w : World
  w = step v (call begin_round)

  ready : v.ready ≡ true
  unfolding is_opening
  ready = go v.ready a.0
    where
      go : (b : Bool) → false ≡ not b → b ≡ true
      go true e = refl
      go false e = absurd (false≢true e)

  asked : (u : World) (c : Service) → u.ready ≡ true → is_opening (service c) ≡ not u.ready
  unfolding is_opening
  asked u c h = rw h

  walked : UnderWay w cs → Way w k cs
  walked u = way w k cs (rounds (call begin_round ∷ calls cs) a).3 m u

  -- the F that it fixed, and its book: those of its beginning
  fixed-there : fixed w ≡ (state_of v.state).fenced
  fixed-there =
      ap (λ (s : List ℕ). fixed_in (state_of s)) (state-done v begin_round b)
      ∙ (live (call begin_round ∷ []) (a.0, tt)).1 b

  book-there : w.book ≡ v.book
  book-there = book-done v round_begins b

  -- what a settle in its place leaves
  whole : (other : List ℕ) → (ends v (settle other)).code ≡ 0
      → (ends v (settle other)).area ≡ homes_after v.homes (closed_below (state_of v.state).fenced v.book.commits)
  whole other h = (live (call (settle other) ∷ []) (asked v (settles other) ready, tt)).1 h

  -- what the last step leaves
  last : (u : UnderWay w cs) (batch : List ℕ) → (ends (after w (calls cs)) (step_round k batch)).code ≡ 0
      → (state_of (ends (after w (calls cs)) (step_round k batch)).state).round ≡ 0
      → Ended (after w (calls cs)) k (ends (after w (calls cs)) (step_round k batch))
  unfolding after
  last u batch h e = ended (rest.1 h)
    where
      z : World
      z = after w (calls cs)

      allowed : AllAllowed v ((call begin_round ∷ calls cs) ++ (call (step_round k batch) ∷ []))
      allowed = allowed-both v (call begin_round ∷ calls cs) (call (step_round k batch) ∷ []) a (asked z (round_steps k batch) (ready-calls w cs (ready-step v begin_round ready)), tt)

      rest : RoundsThroughout z (call (step_round k batch) ∷ [])
      rest = rounds-rest v (call begin_round ∷ calls cs) (call (step_round k batch) ∷ []) (rounds ((call begin_round ∷ calls cs) ++ (call (step_round k batch) ∷ [])) allowed)

      ended : Moved z k (ends z (step_round k batch)) ⊎ Ended z k (ends z (step_round k batch)) → Ended z k (ends z (step_round k batch))
      ended (inl x) = absurd (omega (arith, x.round, under_last w cs u, e))
      ended (inr x) = x

  copied : (u : UnderWay w cs) (batch : List ℕ) (h : ℕ) → (ends (after w (calls cs)) (step_round k batch)).code ≡ 0
      → (state_of (ends (after w (calls cs)) (step_round k batch)).state).round ≡ 0 → h < v.homes
      → home_at (ends (after w (calls cs)) (step_round k batch)).area h
      ≡ home_at (homes_after v.homes (closed_below (state_of v.state).fenced v.book.commits)) h
  copied u batch h d e l =
      let x = walked u in
      let homes : (after w (calls cs)).homes ≡ v.homes = x.homes ∙ homes-step v begin_round in
      let f : fixed (after w (calls cs)) ≡ fixed w = fixed_same _ _ x.round in
      (last u batch d e).copied h (subst (λ (n : ℕ). h < n) (sym homes) l)
      ∙ ap (λ (a : List ℕ). home_at a h)
      (ap (λ (n : ℕ). homes_after n (closed_below (fixed (after w (calls cs))) (after w (calls cs)).book.commits)) x.homes
      ∙ ap (λ (n : ℕ). homes_after w.homes (closed_below n (after w (calls cs)).book.commits)) f
      ∙ x.same
      ∙ ap (λ (n : ℕ). homes_after n (closed_below (fixed w) w.book.commits)) (homes-step v begin_round)
      ∙ ap (λ (n : ℕ). homes_after v.homes (closed_below n w.book.commits)) fixed-there
      ∙ ap (λ (b : Book). homes_after v.homes (closed_below (state_of v.state).fenced b.commits)) book-there)

  pub goes : RoundGoes v k cs
  goes =
      record {
        few = λ u. (walked u).few;
        copies = λ u batch other h d e s l. copied u batch h d e l ∙ ap (λ (x : List ℕ). home_at x h) (sym (whole other s));
      }

pub rounds-end : RoundsEnd
rounds-end groups homes f before k cs a b m =
    let o : World = after_format f in
    let first = allowed-first o before (call begin_round ∷ calls cs) a in
    goes (after o before) k cs b
    (λ es x. rounds-rest o before es (rounds-kept groups homes f (before ++ es) (allowed-both o before es first x)))
    (λ es x. live-rest o before es (demand2 groups homes f (before ++ es) (allowed-both o before es first x)))
    (allowed-rest o before (call begin_round ∷ calls cs) a) m
