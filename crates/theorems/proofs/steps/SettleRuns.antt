-- Settle: the homes of the commits that close below the last fence go into the data area, and a fence follows. Assumes nothing.
use Prim.Native.Nat.{ℕ, suc, ◌+◌, ◌-◌, ◌*◌, ◌≤◌, ◌<◌}
use mathlib.Core.Path.{◌≡◌, refl, sym, ap, ◌∙◌}
use mathlib.Core.Logic.{◌⊎◌, inl, inr}
use mathlib.Core.Bool.{Bool, true, false, cond, false≢true}
use mathlib.Core.List.{List, [], ◌∷◌, ◌++◌}
use native.Mathlib.Omega.{arith}
use lib.Dec.{leb, ltb}
use lib.ListN.{length}
use borrow.Author.Tests.{leb-true, leb-false, lt-ltb, le-ltb}
use Rattle.model.specs.Bytes.{zeros}
use Rattle.model.specs.Layout.{home_at}
use Rattle.model.specs.Commit.{transactions, replay, newest, found}
use Rattle.model.specs.State.{state_of, set_settled, set_fenced, next_position, promise_of, writer_of, held_of}
use Rattle.model.specs.declared.State.{State}
use Rattle.model.specs.Effects.{Given, groups, homes, Effect, restore, replayed, touched, home_writes, live_tags, live_base, settle_effect}
use Rattle.model.specs.Batch.{FN}
use Rattle.model.specs.Book.{Commit, write_commits, homes_after}
use Rattle.model.specs.DemandTwo.{closed_below, settled_for}
use Rattle.model.specs.History.{World, lent, feed, is_confirm, settle, feed_change}
use Rattle.model.specs.declared.Tag.{Tag}
use Rattle.model_laws.proofs.bytes.ByteLaws.{length_part}
use Rattle.model_laws.proofs.state.BatchLaws.{AllFormed, formed-append}
use Rattle.model_laws.proofs.state.PromiseLaws.{promise-set_settled, promise-set_fenced}
use Rattle.model_laws.proofs.state.StateLaws.{with_settled, with_fenced, length-set_settled, length-set_fenced, state-set_settled, state-set_fenced, writer-set_settled, writer-set_fenced, held-set_settled, held-set_fenced}
use Rattle.model_laws.proofs.trace.HomeLaws.{In, in-marked, marked-in, marked-below}
use Rattle.model_laws.proofs.trace.Trace.{Ev, hist, home_on, closer_of, closing_from}
use Rattle.model_laws.proofs.trace.TraceLaws.{Rising, done-rising}
use Rattle.model_laws.proofs.trace.WholeLaws.{closing_from-all}
use Rattle.model_laws.proofs.trace.WalkLaws.{closing_below}
use Rattle.theorems.proofs.invariant.RunLaws.{none_below, closed_below-old, closed_below-matches}
use Rattle.theorems.proofs.invariant.BookReplay.{place, write_commits-append, replay-append, commits-replay, replay-ext, restore-place, hits_any, Fits, replay-area, touches-hits, touches-old}
use Rattle.theorems.proofs.invariant.TouchLaws.{commits-fit, length-homes_after, touches-more, touches-lower, homes_after-untouched}
use Rattle.theorems.proofs.invariant.Invariant.{Sizes, Commits, Copies, Submitted, Running, touches_above}
use Rattle.theorems.proofs.invariant.SettledLaws.{settled-none, settled-least, settled-most}
use Rattle.theorems.proofs.steps.DoneLaws.{after}
use Rattle.theorems.proofs.steps.HomeRuns.{submitted-homes}
use Rattle.theorems.proofs.steps.LogSubmits.{confirmed-more}
use Rattle.theorems.proofs.steps.NumberRuns.{Renumbered, copies-renumber}
use Rattle.theorems.proofs.invariant.LiveLog.{tags_in, base_of, end_of, kept_in, Shown, all-each, live-upto, upto-shown, found-hits, lent-groups, lent-homes, lent-tags}

-- ---- transactions that close below a position, before and from another on

pub below_split : (c F low high : ℕ) (ts : List (List ℕ)) → c ≤ F → Rising low high ts
    → closing_below F ts ≡ closing_below c ts ++ closing_below F (closing_from c ts)
unfolding closing_below closing_from
below_split c F low high [] l r = refl
below_split c F low high (t ∷ ts) l r = go (leb c (closer_of t)) refl (below_split c F (suc (closer_of t)) high ts l r.2)
  where
    go : (d : Bool) → leb c (closer_of t) ≡ d → closing_below F ts ≡ closing_below c ts ++ closing_below F (closing_from c ts)
        → cond (ltb (closer_of t) F) (t ∷ closing_below F ts) (closing_below F ts)
        ≡ cond (ltb (closer_of t) c) (t ∷ closing_below c ts) (closing_below c ts) ++ closing_below F (cond d (t ∷ closing_from c ts) (closing_from c ts))
    go true e ih =
        let h : c ≤ closer_of t = leb-true c (closer_of t) e in
        let n : closing_below c ts ≡ [] = none_below c (suc (closer_of t)) high ts (omega arith) r.2 in
        let a : closing_from c ts ≡ ts = closing_from-all c (suc (closer_of t)) high ts (omega arith) r.2 in
        rw (le-ltb (closer_of t) c h, n, a)
    go false e ih =
        let h : closer_of t < c = leb-false c (closer_of t) e in
        rw (lt-ltb (closer_of t) c h, lt-ltb (closer_of t) F (omega arith)) (ap (λ (x : List (List ℕ)). t ∷ x) ih)

pub below-from : (c F : ℕ) (ts : List (List ℕ)) → closing_from c (closing_below F ts) ≡ closing_below F (closing_from c ts)
unfolding closing_below closing_from
below-from c F [] = refl
below-from c F (t ∷ ts) = go (leb c (closer_of t)) (ltb (closer_of t) F) refl refl (below-from c F ts)
  where
    go : (d f : Bool) → leb c (closer_of t) ≡ d → ltb (closer_of t) F ≡ f → closing_from c (closing_below F ts) ≡ closing_below F (closing_from c ts)
        → closing_from c (cond f (t ∷ closing_below F ts) (closing_below F ts)) ≡ closing_below F (cond d (t ∷ closing_from c ts) (closing_from c ts))
    go true true p q ih = rw (p, q, ih)
    go true false p q ih = rw (q, ih)
    go false true p q ih = rw (p, ih)
    go false false p q ih = ih

-- the homes that the kept transactions below a position are for
abbrev pub due_in : ℕ → ℕ → ℕ → List Ev → World → ℕ → List ℕ
due_in G D b tr w F = touched (tags_in G D w) (closing_below F (kept_in b tr w)) D

-- ---- the book's homes and the log copy

module _ (G D b : ℕ) (tr : List Ev) (old : List Commit) (w : World) (z : Sizes G D) (k : Commits D b tr old w.book.commits)
    (c : Copies G D b tr w) where
  book-below : (F : ℕ)
      → homes_after D (closed_below F w.book.commits)
      ≡ replay (place b tr) (closing_below F (hist (7 * b) tr).done) (write_commits old (zeros (64 * D)))
  unfolding homes_after
  book-below F =
      rw (k.split, closed_below-old D F old k.new k.past, write_commits-append old (closed_below F k.new) (zeros (64 * D)))
      (commits-replay b tr (closed_below F k.new) (closing_below F (hist (7 * b) tr).done) (write_commits old (zeros (64 * D)))
      (closed_below-matches b tr F k.new (hist (7 * b) tr).done k.matches))

  pub book-upto : (F : ℕ) → base_of w ≤ F
      → homes_after D (closed_below F w.book.commits)
      ≡ replay (place b tr) (closing_below F (kept_in b tr w)) (homes_after D (closed_below (base_of w) w.book.commits))
  book-upto F l =
      rw (
        book-below F,
        book-below (base_of w),
        below_split (base_of w) F (7 * b) (7 * b + length tr) (hist (7 * b) tr).done l (done-rising (7 * b) tr),
      )
      (replay-append (place b tr) (closing_below (base_of w) (hist (7 * b) tr).done) (closing_below F (kept_in b tr w)) (write_commits old (zeros (64 * D))))

  -- the homes that commits above the start touch
  pub touches-upto : (F h : ℕ)
      → touches_above (base_of w) h (closed_below F w.book.commits) ≡ hits_any (home_on (7 * b) tr) h (closing_below F (kept_in b tr w))
  touches-upto F h =
      rw (
        k.split,
        closed_below-old D F old k.new k.past,
        touches-old D (base_of w) h old (closed_below F k.new) k.past,
        ← below-from (base_of w) F (hist (7 * b) tr).done,
      )
      (touches-hits b tr (base_of w) h (closed_below F k.new) (closing_below F (hist (7 * b) tr).done)
      (closed_below-matches b tr F k.new (hist (7 * b) tr).done k.matches))

  pub touches-found : (F h : ℕ)
      → touches_above (base_of w) h (closed_below F w.book.commits) ≡ found (newest (tags_in G D w) h (closing_below F (kept_in b tr w)))
  touches-found F h =
      touches-upto F h ∙ sym (found-hits G D b tr w z c h (closing_below F (kept_in b tr w)) (upto-shown G D b tr w z c F))

  -- those homes are the ones that are due
  pub due_below : (F h : ℕ) → In h (due_in G D b tr w F) → h < D
  unfolding touched
  due_below F h i = marked-below (λ x. found (newest (tags_in G D w) x (closing_below F (kept_in b tr w)))) D h i

  pub due-touched : (F h : ℕ) → In h (due_in G D b tr w F) → touches_above (base_of w) h (closed_below F w.book.commits) ≡ true
  unfolding touched
  due-touched F h i = touches-found F h ∙ (in-marked h (λ x. found (newest (tags_in G D w) x (closing_below F (kept_in b tr w)))) D i).1

  pub touched-due : (F h : ℕ) → h < D → touches_above (base_of w) h (closed_below F w.book.commits) ≡ true → In h (due_in G D b tr w F)
  unfolding touched
  touched-due F h l t =
      marked-in h (λ x. found (newest (tags_in G D w) x (closing_below F (kept_in b tr w)))) D l (sym (touches-found F h) ∙ t)

  -- ---- what a settle leaves in the data copy

  home-agrees : (F h : ℕ) → h < D → settled_for (state_of w.state) h ≤ F
      → (home_at w.area h ≡ home_at (homes_after D (closed_below (base_of w) w.book.commits)) h)
      ⊎ (hits_any (home_on (7 * b) tr) h (closing_below F (kept_in b tr w)) ≡ true)
  home-agrees F h i l = go (touches_above (base_of w) h (closed_below (settled_for (state_of w.state) h) w.book.commits)) refl
    where
      go : (d : Bool) → touches_above (base_of w) h (closed_below (settled_for (state_of w.state) h) w.book.commits) ≡ d
          → (home_at w.area h ≡ home_at (homes_after D (closed_below (base_of w) w.book.commits)) h)
          ⊎ (hits_any (home_on (7 * b) tr) h (closing_below F (kept_in b tr w)) ≡ true)
      go true t = inr (sym (touches-upto F h) ∙ touches-more (base_of w) h (settled_for (state_of w.state) h) F w.book.commits l t)
      go false t =
          inl
          (c.settled_homes h i
          ∙ sym (homes_after-untouched D h (base_of w) (settled_for (state_of w.state) h)
          (omega (arith, c.order.start-settled, settled-least w.state G D c.order h)) w.book.commits
          (commits-fit D b tr old w.book.commits c.sound k) t))

  pub settle-replay : (F : ℕ) → (state_of w.state).settled ≤ F → ((h : ℕ) → settled_for (state_of w.state) h ≤ F)
      → replayed w.log G (tags_in G D w) (closing_below F (kept_in b tr w)) w.area ≡ homes_after D (closed_below F w.book.commits)
  unfolding replayed
  settle-replay F l u =
      replay-ext (restore w.log G (tags_in G D w)) (place b tr) (closing_below F (kept_in b tr w)) w.area
      (all-each (Shown G D b tr w) (λ p. (a : List ℕ) → restore w.log G (tags_in G D w) p a ≡ place b tr p a)
      (λ p s. restore-place w.log G (tags_in G D w) b tr p s.home s.block) (closing_below F (kept_in b tr w)) (upto-shown G D b tr w z c F))
      ∙ replay-area D b tr (closing_below F (kept_in b tr w)) w.area (homes_after D (closed_below (base_of w) w.book.commits))
      (all-each (Shown G D b tr w) (Fits D b tr) (λ p s. s.fits) (closing_below F (kept_in b tr w)) (upto-shown G D b tr w z c F)) c.area_size
      (length-homes_after D (closed_below (base_of w) w.book.commits)) (λ h i. home-agrees F h i (u h))
      ∙ sym (book-upto F (omega (arith, c.order.start-settled)))

  pub settle-area : (F : ℕ) → (state_of w.state).settled ≤ F → ((h : ℕ) → settled_for (state_of w.state) h ≤ F) → F ≤ end_of w
      → replayed w.log G (tags_in G D w) (transactions (tags_in G D w) (base_of w) (F - base_of w)) w.area
      ≡ homes_after D (closed_below F w.book.commits)
  settle-area F l u h = rw (live-upto G D b tr w z c F (omega (arith, c.order.start-settled)) h) (settle-replay F l u)

  -- a home that no commit from the start on touches
  pub settle-untouched : (F h : ℕ) → h < D → settled_for (state_of w.state) h ≤ F
      → touches_above (base_of w) h (closed_below F w.book.commits) ≡ false
      → home_at w.area h ≡ home_at (homes_after D (closed_below F w.book.commits)) h
  settle-untouched F h i l n = c.settled_homes h i ∙ go (touches_above (settled_for (state_of w.state) h) h (closed_below F w.book.commits)) refl
    where
      go : (d : Bool) → touches_above (settled_for (state_of w.state) h) h (closed_below F w.book.commits) ≡ d
          → home_at (homes_after D (closed_below (settled_for (state_of w.state) h) w.book.commits)) h
          ≡ home_at (homes_after D (closed_below F w.book.commits)) h
      go true t =
          absurd
          (false≢true
          (sym n
          ∙ touches-lower (settled_for (state_of w.state) h) (base_of w) h (closed_below F w.book.commits)
          (omega (arith, c.order.start-settled, settled-least w.state G D c.order h)) t))
      go false t =
          homes_after-untouched D h (settled_for (state_of w.state) h) F l w.book.commits (commits-fit D b tr old w.book.commits c.sound k) t

-- ---- the effect

-- in other words
settle-at : (g : Given) (n d : ℕ) (tags : ℕ → Tag) (ts : List (List ℕ)) (area : List ℕ) → groups g ≡ n → homes g ≡ d → live_tags g ≡ tags
    → transactions tags (live_base g) ((state_of g.state).fenced - live_base g) ≡ ts → replayed g.log n tags ts g.area ≡ area
    → settle_effect g
    ≡ record {
      figure = 0;
      state = set_fenced (set_settled g.state (state_of g.state).fenced) (7 * (state_of g.state).next);
      newest = g.newest;
      log = g.log;
      area = area;
      block = g.block;
      records = home_writes area (touched tags ts d) ++ (FN ∷ []);
    }
unfolding settle_effect
settle-at g n d tags ts area en ed et es ea = rw (en, ed, et, es, ea)

-- a settle's home writes are well formed
pub formed-homes : (area hs : List ℕ) (D : ℕ) → D ≤ 65535 → length area ≡ 64 * D → ((h : ℕ) → In h hs → h < D) → AllFormed (home_writes area hs)
unfolding home_writes home_at
formed-homes area [] D d l u = tt
formed-homes area (h ∷ hs) D d l u =
    let i : h < D = u h (inl refl) in
    ((omega arith, length_part area (64 * h) 64 (omega arith)), formed-homes area hs D d l (λ x p. u x (inr p)))

module _ (G D : ℕ) (z : Sizes G D) (w : World) (r : Running G D w) where
  abbrev st : State
  st = state_of w.state

  abbrev c : Copies G D r.b r.tr w
  c = r.copies

  abbrev s : Submitted G D r.b r.tr r.old w
  s = r.submitted

  -- the data copy that it leaves, and the homes that it writes
  abbrev pub new_area : List ℕ
  new_area = homes_after D (closed_below (state_of w.state).fenced w.book.commits)

  abbrev pub due : List ℕ
  due = due_in G D r.b r.tr w (state_of w.state).fenced

  abbrev pub new_state : List ℕ
  new_state = set_fenced (set_settled w.state (state_of w.state).fenced) (7 * (state_of w.state).next)

  abbrev pub effect : Effect
  effect =
      record {
        figure = 0;
        state = new_state;
        newest = w.newest;
        log = w.log;
        area = new_area;
        block = [];
        records = home_writes new_area due ++ (FN ∷ []);
      }

  fenced-inside : st.fenced ≤ end_of w
  unfolding next_position
  fenced-inside = omega (arith, c.order.fenced-next)

  pub settle-effect : (batch : List ℕ) → settle_effect (lent w [] batch 0 0) ≡ effect
  unfolding lent live_base
  settle-effect batch =
      settle-at (lent w [] batch 0 0) G D (tags_in G D w) (closing_below st.fenced (kept_in r.b r.tr w)) new_area
      (lent-groups G D r.b r.tr w z c [] batch 0 0) (lent-homes G D r.b r.tr w z c [] batch 0 0)
      (lent-tags G D r.b r.tr w z c [] batch 0 0)
      (live-upto G D r.b r.tr w z c st.fenced (omega (arith, c.order.start-settled, c.order.settled-fenced)) fenced-inside)
      (settle-replay G D r.b r.tr r.old w z r.commits c st.fenced c.order.settled-fenced
      (settled-most w.state G D c.order))

  pub numbers : state_of new_state ≡ with_fenced (with_settled st st.fenced) (7 * st.next)
  numbers =
      let o = c.order in
      state-set_fenced (set_settled w.state st.fenced) (7 * st.next) (length-set_settled w.state st.fenced ∙ c.state_size)
      (omega (arith, o.next-most, o.start-most, o.groups-same))
      ∙ ap (λ (x : State). with_fenced x (7 * st.next))
      (state-set_settled w.state st.fenced c.state_size (omega (arith, o.fenced-next, o.next-most, o.start-most, o.groups-same)))

  renumbered : st.round ≡ 0 → Renumbered st (with_fenced (with_settled st st.fenced) (7 * st.next))
  renumbered none =
      let o = c.order in
      record {
        groups = refl;
        homes = refl;
        next = refl;
        filled = refl;
        start = omega arith;
        most = o.start-most;
        upto = o.start-next;
        low = omega (arith, o.start-settled, o.settled-fenced);
        settled = o.fenced-next;
        fenced = omega arith;
        durable = omega (arith, o.durable-fenced, o.fenced-next);
        round-settled = λ h. absurd (omega arith);
        round-fenced = omega arith;
      }

  size : length new_state ≡ 1024
  size =
      length-set_fenced (set_settled w.state st.fenced) (7 * st.next) ∙ length-set_settled w.state st.fenced ∙ c.state_size

  writers : (x : ℕ) → writer_of new_state x ≡ writer_of w.state x
  writers x = writer-set_fenced (set_settled w.state st.fenced) (7 * st.next) x ∙ writer-set_settled w.state st.fenced x

  held : (x : ℕ) → held_of new_state x ≡ held_of w.state x
  held x = held-set_fenced (set_settled w.state st.fenced) (7 * st.next) x ∙ held-set_settled w.state st.fenced x

  promises : (x : ℕ) → x < 8 → promise_of new_state x ≡ promise_of w.state x
  promises x l = promise-set_fenced (set_settled w.state st.fenced) (7 * st.next) x ∙ promise-set_settled w.state st.fenced x

  pub area-size : length new_area ≡ 64 * D
  area-size = length-homes_after D (closed_below st.fenced w.book.commits)

  pub inside : (h : ℕ) → In h due → h < D
  inside h i = due_below G D r.b r.tr r.old w z r.commits c st.fenced h i

  others : (h : ℕ) → h < D → (In h due → ⊥) → home_at new_area h ≡ home_at w.area h
  others h l n =
      sym
      (settle-untouched G D r.b r.tr r.old w z r.commits c st.fenced h l (settled-most w.state G D c.order h)
      (go (touches_above (base_of w) h (closed_below st.fenced w.book.commits)) refl))
    where
      go : (d : Bool) → touches_above (base_of w) h (closed_below st.fenced w.book.commits) ≡ d
          → touches_above (base_of w) h (closed_below st.fenced w.book.commits) ≡ false
      go true t = absurd (n (touched-due G D r.b r.tr r.old w z r.commits c st.fenced h l t))
      go false t = t

  running : (batch : List ℕ) → st.round ≡ 0 → Running G D (after w (settle batch) effect)
  unfolding feed feed_change is_confirm
  running batch none =
      let o = c.order in
      let u : World = after w (settle batch) effect in
      record {
        b = r.b;
        tr = r.tr;
        old = r.old;
        ready = refl;
        since = r.since;
        commits = r.commits;
        copies =
            copies-renumber G D r.b r.tr w u c
            (rw numbers (renumbered none)) size (λ x l. writers x) (λ x l. held x) promises (rw numbers o.last-closing) (λ x l h. rw numbers ((o.writers x l).logged h).0) refl
            refl (λ slot. refl) (area-size ∙ sym c.area_size) refl refl refl
            (λ h l. rw (numbers, settled-none (with_fenced (with_settled st st.fenced) (7 * st.next)) h none))
            (rw numbers c.apart) (rw numbers c.links) (rw numbers c.last);
        submitted =
            submitted-homes G D r.b r.tr r.old w z r.commits c s new_area due area-size inside
            (λ h i. absurd (omega (arith, (s.behind h i).1))) others u st.fenced o.settled-fenced (omega (arith, s.at_fence))
            (λ h l. (st.fenced, omega arith, omega (arith, s.at_fence), refl)) refl refl refl refl (rw numbers) (rw numbers) (rw numbers) (rw numbers);
        confirmed =
            confirmed-more G r.b w u (home_writes new_area due ++ (FN ∷ [])) r.confirmed refl refl (rw numbers o.fenced-next) (λ bound h. h);
      }

  pub settle-runs : (batch : List ℕ) → st.round ≡ 0 → Running G D (after w (settle batch) (settle_effect (lent w [] batch 0 0)))
  settle-runs batch none = rw (settle-effect batch) (running batch none)

  pub settle-yields : (batch : List ℕ)
      → (settle_effect (lent w [] batch 0 0)).area ≡ homes_after D (closed_below (state_of w.state).fenced w.book.commits)
  settle-yields batch = rw (settle-effect batch)

  pub settle-formed : (batch : List ℕ) → AllFormed (settle_effect (lent w [] batch 0 0)).records
  settle-formed batch =
      rw (settle-effect batch) (formed-append (home_writes new_area due) (FN ∷ []) (formed-homes new_area due D z.homes area-size inside) (tt, tt))
