-- What a done trim yields in the book's terms: the largest start at which no transaction of the book lies on both sides. Assumes nothing.
use Prim.Native.Nat.{ℕ, zero, suc, ◌+◌, ◌-◌, ◌*◌, ◌/◌, ◌%◌, ◌^◌, ◌≤◌, ◌<◌}
use mathlib.Core.Path.{◌≡◌, refl, sym, ap, ◌∙◌}
use mathlib.Core.Logic.{◌⊎◌, inl, inr}
use mathlib.Core.Bool.{Bool, true, false, cond, not, ◌&&◌, ◌||◌, and-true as and_yes, or-false, false≢true}
use mathlib.Core.List.{List, [], ◌∷◌, ◌++◌}
use native.Mathlib.Omega.{arith}
use native.Mathlib.Decide.{dec_lt}
use lib.Dec.{eqb, leb, ltb}
use lib.ListN.{length}
use borrow.Author.Tests.{eqb-true, leb-true, leb-false, le-leb, lt-leb, ltb-false, lt-ltb, le-ltb, not-true}
use Rattle.model.specs.State.{state_of, set_start, set_fenced, set_last, next_position, writer_of, held_of}
use Rattle.model.specs.declared.State.{State}
use Rattle.model.specs.declared.Writer.{Writer}
use Rattle.model.specs.Effects.{Given, new_state, trim_start, trim_to, trim_effect}
use Rattle.model.specs.Questions.{trim_answer, start_fits}
use Rattle.model.specs.Calls.{Outcome, done, size_of, trim_call}
use Rattle.model.specs.Book.{Entry, Commit, Task}
use Rattle.model.specs.DemandTwo.{first_row_group, lands_before, some_before, across, any_across, open_before, any_open_before, may_start_at, Trimmed}
use Rattle.model.specs.History.{trim, World, lent, ends, service_ends}
use Rattle.model_laws.proofs.state.StateLaws.{state-set_start, length-set_start, state-set_fenced, length-set_fenced, state-set_last}
use Rattle.model_laws.proofs.state.ListedLaws.{state-carry}
use Rattle.model_laws.proofs.state.QuestionLaws.{and-true, trim-ready}
use Rattle.model_laws.proofs.trace.Trace.{Ev, hist, first_of, closer_of, oldest_of, Apart}
use Rattle.model_laws.proofs.trace.TraceLaws.{All, Falling, Long, first_of-inside, open-falling, done-falling, done-long}
use Rattle.theorems.proofs.steps.DoneLaws.{outcome-code}
use Rattle.theorems.proofs.steps.TrimRuns.{MayMove, trim-may, trim-most}
use Rattle.theorems.proofs.demands.Yields.{ends-done, groups-are}
use Rattle.theorems.proofs.invariant.Invariant.{Sizes, entry_for, entries_for, Matches, OldCommits, TaskOk, Running}

-- ---- the entries of a transaction before a position

before-append : (b q : ℕ) (xs ys : List Entry) → some_before b q (xs ++ ys) ≡ (some_before b q xs || some_before b q ys)
unfolding some_before
before-append b q [] ys = refl
before-append b q (e ∷ xs) ys = go (lands_before b q e.landing) (before-append b q xs ys)
  where
    go : (d : Bool) → some_before b q (xs ++ ys) ≡ (some_before b q xs || some_before b q ys)
        → (d || some_before b q (xs ++ ys)) ≡ ((d || some_before b q xs) || some_before b q ys)
    go true h = refl
    go false h = h

before-cons : (b q : ℕ) (tr : List Ev) (p : ℕ) (ps : List ℕ) → 7 * b ≤ p
    → some_before b q (entries_for b tr (p ∷ ps)) ≡ (some_before b q (entries_for b tr ps) || ltb p q)
unfolding entries_for entry_for some_before lands_before
before-cons b q tr p ps l =
    let e : 7 * (b + (p / 7 - b)) + p % 7 ≡ p = omega arith in
    before-append b q (entries_for b tr ps) (entry_for b tr p ∷ []) ∙ rw (e, or-false (ltb p q))

-- some entry lies before a position just if the oldest does
pub before-oldest : (b q : ℕ) (tr : List Ev) (high : ℕ) (t : List ℕ) → Long t → Falling (7 * b) high t
    → some_before b q (entries_for b tr t) ≡ ltb (oldest_of t) q
unfolding oldest_of first_of
before-oldest b q tr high [] l f = absurd l
before-oldest b q tr high (p ∷ []) l f = before-cons b q tr p [] f.0 ∙ (unfold entries_for some_before in refl)
before-oldest b q tr high (p ∷ q₁ ∷ ps) l f =
    before-cons b q tr p (q₁ ∷ ps) f.0 ∙ rw (before-oldest b q tr p (q₁ ∷ ps) tt f.2) (go (dec_lt p q))
  where
    go : Dec (p < q) → (ltb (first_of q₁ ps) q || ltb p q) ≡ ltb (first_of q₁ ps) q
    go (yes h) = let i = first_of-inside (7 * b) p q₁ ps f.2 in rw (lt-ltb (first_of q₁ ps) q (omega arith))
    go (no h) = rw (le-ltb p q (omega arith)) (or-false (ltb (first_of q₁ ps) q))

-- ---- commits that lie on both sides of a position

across-of : (b q : ℕ) (tr : List Ev) (high : ℕ) (c : Commit) (t : List ℕ) → c.entries ≡ entries_for b tr t → c.ticket ≡ closer_of t + 1 → Long t
    → Falling (7 * b) high t → across b q c ≡ (leb q (closer_of t) && ltb (oldest_of t) q)
unfolding across
across-of b q tr high c t e k l f =
    let i : c.ticket - 1 ≡ closer_of t = omega arith in
    rw (e, i, le-leb 1 c.ticket (omega arith), and_yes (leb q (closer_of t)), before-oldest b q tr high t l f)

apart-and : (q a c : ℕ) → (c < q) ⊎ (q ≤ a) → (leb q c && ltb a q) ≡ false
apart-and q a c (inl h) = rw (lt-leb q c h)
apart-and q a c (inr h) = rw (le-ltb a q h) (go (leb q c))
  where
    go : (d : Bool) → (d && false) ≡ false
    go true = refl
    go false = refl

and-apart : (q a c : ℕ) → (leb q c && ltb a q) ≡ false → (c < q) ⊎ (q ≤ a)
and-apart q a c h = go (leb q c) refl h
  where
    go : (d : Bool) → leb q c ≡ d → (d && ltb a q) ≡ false → (c < q) ⊎ (q ≤ a)
    go true e k = inr (ltb-false a q k)
    go false e k = inl (leb-false q c e)

or-none : (a b : Bool) → (a || b) ≡ false → (a ≡ false) × (b ≡ false)
or-none true b h = absurd (false≢true (sym h))
or-none false b h = (refl, h)

apart_none : (b q : ℕ) (tr : List Ev) (high : ℕ) (cs : List Commit) (ts : List (List ℕ)) → Matches b tr cs ts → All Long ts
    → All (Falling (7 * b) high) ts → Apart q ts → any_across b q cs ≡ false
unfolding any_across
apart_none b q tr high [] ts m l f a = refl
apart_none b q tr high (c ∷ cs) [] m l f a = absurd m
apart_none b q tr high (c ∷ cs) (t ∷ ts) m l f a =
    rw (
      across-of b q tr high c t m.0 m.1 l.0 f.0,
      apart-and q (oldest_of t) (closer_of t) a.0,
      apart_none b q tr high cs ts m.2 l.1 f.1 a.1,
    )

none_apart : (b q : ℕ) (tr : List Ev) (high : ℕ) (cs : List Commit) (ts : List (List ℕ)) → Matches b tr cs ts → All Long ts
    → All (Falling (7 * b) high) ts → any_across b q cs ≡ false → Apart q ts
unfolding any_across
none_apart b q tr high [] [] m l f h = tt
none_apart b q tr high [] (t ∷ ts) m l f h = absurd m
none_apart b q tr high (c ∷ cs) [] m l f h = tt
none_apart b q tr high (c ∷ cs) (t ∷ ts) m l f h =
    let k = or-none (across b q c) (any_across b q cs) h in (
      and-apart q (oldest_of t) (closer_of t) (sym (across-of b q tr high c t m.0 m.1 l.0 f.0) ∙ k.0),
      none_apart b q tr high cs ts m.2 l.1 f.1 k.1,
    )

across-old : (D b q : ℕ) (old new : List Commit) → OldCommits D old → any_across b q (old ++ new) ≡ any_across b q new
unfolding any_across across
across-old D b q [] new o = refl
across-old D b q (c ∷ cs) new o = rw (lt-leb 1 c.ticket (omega (arith, o.0))) (go (leb q (c.ticket - 1)) (across-old D b q cs new o.2))
  where
    go : (d : Bool) → any_across b q (cs ++ new) ≡ any_across b q new
        → ((d && false && some_before b q c.entries) || any_across b q (cs ++ new)) ≡ any_across b q new
    go true h = h
    go false h = h

-- ---- open writers

open_none : (b q : ℕ) (tasks : ℕ → Task) (n : ℕ) → ((x : ℕ) → x < n → open_before b q (tasks x) ≡ false) → any_open_before b q tasks n ≡ false
unfolding any_open_before
open_none b q tasks zero f = refl
open_none b q tasks (suc n) f = rw (f n (omega arith)) (open_none b q tasks n (λ x l. f x (omega arith)))

pub none_open : (b q : ℕ) (tasks : ℕ → Task) (n : ℕ) → any_open_before b q tasks n ≡ false → (x : ℕ) → x < n → open_before b q (tasks x) ≡ false
unfolding any_open_before
none_open b q tasks zero h x l = absurd (omega arith)
none_open b q tasks (suc n) h x l =
    let k = or-none (open_before b q (tasks n)) (any_open_before b q tasks n) h in go (dec_lt x n) (none_open b q tasks n k.1 x) k.0
  where
    go : Dec (x < n) → (x < n → open_before b q (tasks x) ≡ false) → open_before b q (tasks n) ≡ false → open_before b q (tasks x) ≡ false
    go (yes i) f g = f i
    go (no i) f g = let e : x ≡ n = omega arith in rw e g

long : (ps : List ℕ) → 1 ≤ length ps → Long ps
long [] h = absurd (omega arith)
long (p ∷ ps) h = tt

module _ (b q : ℕ) (tr : List Ev) (r : Writer) (held : List ℕ) (high : ℕ) (ps : List ℕ) (f : Falling (7 * b) high ps) (task : Task) where
  task-from : TaskOk b tr r held ps task → open_before b q task ≡ false → 3 ≤ r.mode → q ≤ r.first
  unfolding open_before
  task-from (inl h) e m = absurd (omega arith)
  task-from (inr (inl h)) e m = absurd (omega arith)
  task-from (inr (inr (inl h))) e m = absurd (omega arith)
  task-from (inr (inr (inr h))) e m =
      let k : ltb (oldest_of ps) q ≡ false = sym (before-oldest b q tr high ps (long ps h.4) f) ∙ (rw h.1 at e) in
      omega (arith, ltb-false (oldest_of ps) q k, h.2)

  from-task : TaskOk b tr r held ps task → (3 ≤ r.mode → q ≤ r.first) → open_before b q task ≡ false
  unfolding open_before some_before
  from-task (inl h) g = rw h.1
  from-task (inr (inl h)) g = rw h.1
  from-task (inr (inr (inl h))) g = rw h.1
  from-task (inr (inr (inr h))) g =
      let k : q ≤ r.first = g (omega (arith, h.0)) in
      rw (h.1, before-oldest b q tr high ps (long ps h.4) f) (le-ltb (oldest_of ps) q (omega (arith, h.2)))

-- ---- in an era

module _ (G D : ℕ) (z : Sizes G D) (w : World) (r : Running G D w) where
  -- the group of the book's row 0
  pub first_group : first_row_group w ≡ r.b
  unfolding first_row_group
  first_group = rw (groups-are G D z w r) (sym r.since)

  across-are : (q : ℕ) → any_across r.b q w.book.commits ≡ any_across r.b q r.commits.new
  across-are q = ap (any_across r.b q) r.commits.split ∙ across-old D r.b q r.old r.commits.new r.commits.past

  -- the log may start at s, by the book, just if it may by the trace
  pub may_free : (s : ℕ) → MayMove G D w r s → may_start_at w s ≡ true
  unfolding may_start_at
  may_free s t =
      rw (
        first_group,
        across-are (7 * s),
        apart_none r.b (7 * s) r.tr (7 * r.b + length r.tr) r.commits.new (hist (7 * r.b) r.tr).done r.commits.matches
            (done-long (7 * r.b) r.tr) (done-falling (7 * r.b) r.tr) t.apart,
        open_none r.b (7 * s) w.book.tasks 8
            (λ x l. from-task r.b (7 * s) r.tr (writer_of w.state x) (held_of w.state x) (7 * r.b + length r.tr)
            ((hist (7 * r.b) r.tr).open_transaction x) (open-falling (7 * r.b) r.tr x) (w.book.tasks x) (r.copies.tasks x l) (t.opens x l)),
      )

  pub free-may : (s : ℕ) → (state_of w.state).start ≤ s → 7 * s ≤ (state_of w.state).settled → may_start_at w s ≡ true → MayMove G D w r s
  unfolding may_start_at
  free-may s l u h =
      let k = and-true (not (any_across r.b (7 * s) w.book.commits)) (not (any_open_before r.b (7 * s) w.book.tasks 8)) (rw first_group at h) in
      record {
        from = l;
        upto = u;
        apart =
            none_apart r.b (7 * s) r.tr (7 * r.b + length r.tr) r.commits.new (hist (7 * r.b) r.tr).done r.commits.matches
            (done-long (7 * r.b) r.tr) (done-falling (7 * r.b) r.tr) (sym (across-are (7 * s)) ∙ not-true _ k.0);
        opens = λ x i m.
            task-from r.b (7 * s) r.tr (writer_of w.state x) (held_of w.state x) (7 * r.b + length r.tr)
            ((hist (7 * r.b) r.tr).open_transaction x) (open-falling (7 * r.b) r.tr x) (w.book.tasks x) (r.copies.tasks x i)
            (none_open r.b (7 * s) w.book.tasks 8 (not-true _ k.1) x i) m;
      }

  -- the start that a trim finds
  pub trimmed : (batch : List ℕ) → Trimmed w (trim_start (lent w [] batch 0 0))
  trimmed batch =
      let t = trim-may G D z w r batch in
      record {
        reached = may_free (trim_start (lent w [] batch 0 0)) t;
        settled = t.upto;
        furthest = λ s u h. go s u h (dec_lt s (state_of w.state).start) t.from;
      }
    where
      go : (s : ℕ) → 7 * s ≤ (state_of w.state).settled → may_start_at w s ≡ true → Dec (s < (state_of w.state).start)
          → (state_of w.state).start ≤ trim_start (lent w [] batch 0 0) → s ≤ trim_start (lent w [] batch 0 0)
      go s u h (yes l) f = omega arith
      go s u h (no l) f = trim-most G D z w r batch s (free-may s (omega arith) u h)

  -- the start in the strip that a trim leaves
  start-after : (batch : List ℕ) (s : ℕ) → s ≤ 2 ^ 47 → (state_of (trim_effect (lent w [] batch 0 0) s).state).start ≡ s
  unfolding trim_effect new_state trim_to lent
  start-after batch s most = go (eqb s (state_of w.state).start) refl
    where
      st : State
      st = state_of w.state

      small : 7 * st.next + 6 < 2 ^ 64
      small = let o = r.copies.order in omega (arith, o.next-most, o.start-most, o.groups-same, z.high)

      last : ℕ
      last = cond (leb st.last (7 * s)) 0 st.last

      state-last : st.last < 2 ^ 64
      state-last =
          let q : next_position st ≡ 7 * st.next + st.filled = unfold next_position in refl in
          omega (arith, small, r.copies.order.filled-most, r.copies.order.last-closing)

      either : (d : Bool) → cond d 0 st.last < 2 ^ 64
      either true = omega arith
      either false = state-last

      size : length (set_fenced (set_start w.state s) (7 * st.next)) ≡ 1024
      size = length-set_fenced (set_start w.state s) (7 * st.next) ∙ length-set_start w.state s ∙ r.copies.state_size

      moved : (state_of (set_last (set_fenced (set_start w.state s) (7 * st.next)) last)).start ≡ s
      moved =
          rw (
            state-set_last (set_fenced (set_start w.state s) (7 * st.next)) last size (either (leb st.last (7 * s))),
            state-set_fenced (set_start w.state s) (7 * st.next) (length-set_start w.state s ∙ r.copies.state_size) (omega (arith, small)),
            state-set_start w.state s r.copies.state_size (omega arith),
          )

      go : (d : Bool) → eqb s st.start ≡ d
          → (state_of (cond d (new_state (lent w [] batch 0 0) w.state 0) (trim_to (lent w [] batch 0 0) (state_of w.state) s)).state).start ≡ s
      go true e = sym (eqb-true s st.start e)
      go false e = ap (λ (x : State). x.start) (state-carry _ _ _) ∙ moved

  start-most : (s : ℕ) → start_fits s ≡ true → s ≤ 2 ^ 47
  unfolding start_fits
  start-most s h = leb-true s (2 ^ 47) h

  -- the start that a done trim leaves
  pub trim-leaves : (batch : List ℕ) → (ends w (trim batch)).code ≡ 0
      → ((state_of (ends w (trim batch)).state).start ≡ trim_start (lent w [] batch 0 0)) × (trim_start (lent w [] batch 0 0) ≤ 2 ^ 47)
  unfolding ends service_ends trim_call
  trim-leaves batch h =
      let g : Given = lent w [] batch 0 0 in
      let s : ℕ = trim_start g in
      let a : trim_answer g s (size_of (trim_effect g s)) ≡ 0 = sym (outcome-code g (trim_answer g s (size_of (trim_effect g s))) (trim_effect g s)) ∙ h in
      let k = trim-ready g s (size_of (trim_effect g s)) a in
      let most : s ≤ 2 ^ 47 = start-most s k.1 in
      let d : (done g (trim_effect g s)).state ≡ (trim_effect g s).state = unfold done in refl in (
        ap (λ (o : Outcome). (state_of o.state).start)
            (ends-done (trim_call g) g (trim_answer g s (size_of (trim_effect g s))) (trim_effect g s) refl h)
            ∙ ap (λ (x : List ℕ). (state_of x).start) d ∙ start-after batch s most,
        most,
      )

  pub trim-yields : (batch : List ℕ) → (ends w (trim batch)).code ≡ 0 → Trimmed w (state_of (ends w (trim batch)).state).start
  trim-yields batch h = rw (trim-leaves batch h).0 (trimmed batch)
