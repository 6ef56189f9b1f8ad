-- Between two calls of an era: the strip is in order, what the calls wrote reads back as the book's commits that are not trimmed, and a read gives the
-- writer's own newest block, else the newest committed one. That the newest positions show the latter comes from NewestHolds.
use Prim.Native.Nat.{ℕ, suc, ◌+◌, ◌-◌, ◌*◌, ◌≤◌, ◌<◌}
use mathlib.Core.Path.{◌≡◌, refl, sym, ap, ◌∙◌}
use mathlib.Core.Logic.{inl, inr}
use mathlib.Core.Bool.{Bool, true, false, cond}
use mathlib.Core.List.{List, [], ◌∷◌, ◌++◌}
use mathlib.Core.Option.{Option, none, some}
use native.Mathlib.Omega.{arith}
use lib.Dec.{eqb}
use lib.ListN.{length}
use borrow.Author.Tests.{ltb-true, le-leb, lt-leb}
use Rattle.model.specs.declared.Tag.{Tag}
use Rattle.model.specs.Layout.{group_count, home_at}
use Rattle.model.specs.Commit.{members, transactions, newest_in}
use Rattle.model.specs.State.{state_of, next_position, is_in_order, writer_of, held_of, holds, has_logged, holds_home}
use Rattle.model.specs.declared.Writer.{Writer}
use Rattle.model.specs.Effects.{Given, groups, replayed, live_tags, live_base, newest_own, newest_committed, block_or, current, own_else, visible, shown, read_effect}
use Rattle.model.specs.Questions.{writer_known, is_home_known, read_answer}
use Rattle.model.specs.Calls.{Outcome, done, read_call}
use Rattle.model.specs.Book.{Entry, Commit, Task, homes_after, newest_entry, held_or, own_or, read_by}
use Rattle.model.specs.DemandTwo.{found_within, untrimmed, closed_below, Live}
use Rattle.model.specs.History.{World, lent, ends, read, service_ends}
use Rattle.model_laws.proofs.bytes.LayoutLaws.{groups-in}
use Rattle.model_laws.proofs.state.OrderLaws.{order-in}
use Rattle.model_laws.proofs.state.QuestionLaws.{read-ready}
use Rattle.theorems.proofs.steps.DoneLaws.{outcome-code, outcome-done}
use Rattle.model_laws.proofs.trace.Trace.{Ev, mine, hist, tag_at, home_on, block_on, surviving, closer_of, oldest_of, all_landed}
use Rattle.model_laws.proofs.trace.TraceLaws.{All, all_map, Rising, done-rising, logs-own}
use Rattle.model_laws.proofs.trace.WalkLaws.{members-local}
use Rattle.model_laws.proofs.trace.CountLaws.{pick_all, Counted, writer_on, writers, counted-now}
use Rattle.model_laws.proofs.trace.ReplayLaws.{block_for, replay-home, good-found}
use Rattle.theorems.proofs.invariant.RunLaws.{closed_below-old}
use Rattle.theorems.proofs.invariant.Invariant.{Sizes, entry_for, entries_for, Matches, Commits, TaskOk, Copies, Running}
use Rattle.theorems.proofs.invariant.LiveLog.{tags_in, base_of, end_of, kept_in, Shown, all-each, live-from, live-order, lent-groups, lent-homes, lent-tags, live-tags, live-transactions, kept-shown, open-shown}
use Rattle.theorems.proofs.invariant.SettledLaws.{settled-most}
use Rattle.theorems.proofs.steps.SettleRuns.{settle-area}
use Rattle.theorems.proofs.invariant.ReadBack.{SeenIn, untrimmed-old, untrimmed-matches}

-- what is lent shows, at a position, the home and the block that the trace has there
abbrev Seen : Given → ℕ → List Ev → ℕ → Type 0
Seen g b tr p = SeenIn (live_tags g) g.log (groups g) b tr p

-- ---- the book's commits close below the next position

closed-new : (b c : ℕ) (tr : List Ev) (low : ℕ) (cs : List Commit) (ts : List (List ℕ)) → Rising low c ts → Matches b tr cs ts
    → closed_below c cs ≡ cs
unfolding closed_below
closed-new b c tr low [] [] r m = refl
closed-new b c tr low [] (t ∷ ts) r m = absurd m
closed-new b c tr low (k ∷ cs) [] r m = absurd m
closed-new b c tr low (k ∷ cs) (t ∷ ts) r m =
    rw (le-leb k.ticket c (omega (arith, m.1)), closed-new b c tr (suc (closer_of t)) cs ts r.2 m.2)

pub closed_all : (D b : ℕ) (tr : List Ev) (old cs : List Commit) → Commits D b tr old cs → closed_below (7 * b + length tr) cs ≡ cs
closed_all D b tr old cs k =
    rw k.split
    (closed_below-old D (7 * b + length tr) old k.new k.past
    ∙ ap (λ (l : List Commit). old ++ l)
    (closed-new b (7 * b + length tr) tr (7 * b) k.new (hist (7 * b) tr).done (done-rising (7 * b) tr) k.matches))

-- ---- the newest entry of an open transaction

newest-snoc : (h : ℕ) (xs : List Entry) (e : Entry) (other : List ℕ)
    → newest_entry h (xs ++ (e ∷ [])) other ≡ cond (eqb e.home h) e.block (newest_entry h xs other)
unfolding newest_entry
newest-snoc h [] e other = refl
newest-snoc h (x ∷ xs) e other = newest-snoc h xs e (cond (eqb x.home h) x.block other)

newest-entries : (g : Given) (b : ℕ) (tr : List Ev) (h : ℕ) (ps : List ℕ) (other : List ℕ) → All (Seen g b tr) ps
    → block_or g (newest_in (live_tags g) h ps) other ≡ newest_entry h (entries_for b tr ps) other
unfolding newest_in block_or entries_for entry_for
newest-entries g b tr h [] other a = unfold newest_entry in refl
newest-entries g b tr h (p ∷ ps) other a =
    rw a.0.0 (go (eqb (home_on (7 * b) tr p) h) (newest-entries g b tr h ps other a.1))
    ∙ sym (newest-snoc h (entries_for b tr ps) (entry_for b tr p) other)
  where
    go : (d : Bool) → block_or g (newest_in (live_tags g) h ps) other ≡ newest_entry h (entries_for b tr ps) other
        → block_or g (cond d (some p) (newest_in (live_tags g) h ps)) other
        ≡ cond d (block_on (7 * b) tr p) (newest_entry h (entries_for b tr ps) other)
    go true e = a.0.1
    go false e = e

landed-all : (ps : List ℕ) → all_landed (λ p. true) ps ≡ true
unfolding all_landed
landed-all [] = refl
landed-all (p ∷ ps) = landed-all ps

counted-all : (c : ℕ) (log : ℕ → Tag) (n : ℕ) (ps : List ℕ) → Counted (λ p. true) c log n ps → 1 ≤ length ps
    → c ≤ oldest_of ps → members (surviving (λ p. true) c log) (oldest_of ps) c n ≡ ps
unfolding oldest_of
counted-all c log n [] k l h = absurd (omega arith)
counted-all c log n (q ∷ qs) k l h = k h ∙ pick_all (λ p. true) (q ∷ qs) (landed-all (q ∷ qs))

-- the entries of a trace's open transaction are those found with its first position
pub open-members : (base : ℕ) (tr : List Ev) (c n v : ℕ) → base ≤ c → c + n ≡ base + length tr → 1 ≤ length ((hist base tr).open_transaction v)
    → c ≤ oldest_of ((hist base tr).open_transaction v)
    → members (surviving (λ p. true) c (tag_at base tr)) (oldest_of ((hist base tr).open_transaction v)) c n ≡ (hist base tr).open_transaction v
unfolding mine
open-members base tr c n v f q l h =
    let next : Ev = record { used = true; writer = v; home = 0; block = []; fresh = false; final = false; link = 0 } in
    counted-all c (tag_at base tr) n ((hist base tr).open_transaction v)
    (counted-now (λ p. true) c (tag_at base tr) (writer_on base tr) base f tr next n q (logs-own base tr)
    (writers (writer_on base tr) base tr (λ p u. refl)))
    l h

-- ---- a read, layer by layer

-- a writer that has logged nothing
own-none : (g : Given) (r : Writer) (other : List ℕ) → r.mode < 3 → block_or g (newest_own g r) other ≡ other
unfolding newest_own has_logged block_or
own-none g r other m = rw (lt-leb 3 r.mode m)

-- one that has
own-some : (g : Given) (r : Writer) (other ps : List ℕ) → 3 ≤ r.mode
    → members (live_tags g) r.first (live_base g) (next_position (state_of g.state) - live_base g) ≡ ps
    → block_or g (newest_own g r) other ≡ block_or g (newest_in (live_tags g) g.home ps) other
unfolding newest_own has_logged
own-some g r other ps m e = rw (le-leb 3 r.mode m, e)

holds-none : (r : Writer) (h : ℕ) → r.mode < 2 → holds_home r h ≡ false
unfolding holds_home holds
holds-none r h m = rw (lt-leb 2 r.mode m)

holds-some : (r : Writer) (h : ℕ) → 2 ≤ r.mode → holds_home r h ≡ eqb r.home h
unfolding holds_home holds
holds-some r h m = rw (le-leb 2 r.mode m)

block-for : (g : Given) (o : Option ℕ) (other : List ℕ) → block_or g o other ≡ block_for g.log (groups g) o other
unfolding block_or block_for
block-for g none other = refl
block-for g (some p) other = refl

module _ (G D b : ℕ) (tr : List Ev) (old : List Commit) (w : World) (z : Sizes G D) (k : Commits D b tr old w.book.commits)
    (c : Copies G D b tr w) where
  -- the replay of all that is committed gives the book's homes
  homes_now : replayed w.log G (tags_in G D w) (transactions (tags_in G D w) (base_of w) (end_of w - base_of w)) w.area
      ≡ homes_after D w.book.commits
  homes_now =
      let o = c.order in
      settle-area G D b tr old w z k c (end_of w) (unfold next_position in omega (arith, o.settled-fenced, o.fenced-next))
      (λ h. unfold next_position in omega (arith, settled-most w.state G D o h, o.fenced-next)) (omega arith)
      ∙ rw (c.position, closed_all D b tr old w.book.commits k)

  module _ (block : List ℕ) (v h : ℕ) where
    abbrev g : Given
    g = lent w block [] v h

    seen : (p : ℕ) → Shown G D b tr w p → Seen g b tr p
    unfolding lent
    seen p s = (rw (lent-tags G D b tr w z c block [] v h) s.home, rw (lent-groups G D b tr w z c block [] v h) s.block)

    found-entries : found_within g ≡ untrimmed (base_of w) w.book.commits
    unfolding found_within lent live_base
    found-entries =
        rw (lent-tags G D b tr w z c block [] v h, lent-groups G D b tr w z c block [] v h, live-transactions G D b tr w z c, k.split, untrimmed-old D (base_of w) old k.new k.past)
        (untrimmed-matches (tags_in G D w) w.log G b tr (base_of w) k.new (hist (7 * b) tr).done k.matches
        (all-each (Shown G D b tr w) (SeenIn (tags_in G D w) w.log G b tr) (λ p s. (s.home, s.block)) (kept_in b tr w) (kept-shown G D b tr w z c)))

    -- the newest committed block, else the data copy's
    pub current-is : h < D → current g ≡ home_at (homes_after D w.book.commits) h
    unfolding current newest_committed lent live_base
    current-is l =
        block-for g (newest_committed g) (home_at w.area h)
        ∙ rw (lent-groups G D b tr w z c block [] v h, lent-tags G D b tr w z c block [] v h)
        (sym (replay-home w.log G D (tags_in G D w) (transactions (tags_in G D w) (base_of w) (end_of w - base_of w)) w.area h
        (good-found w.log G D (state_of w.state).start (omega (arith, z.low)) c.log_size (base_of w) (end_of w - base_of w)) c.area_size l)
        ∙ ap (λ (a : List ℕ). home_at a h) homes_now)

    -- what the writer has logged of its open transaction
    own-members : 1 ≤ length ((hist (7 * b) tr).open_transaction v) → base_of w ≤ oldest_of ((hist (7 * b) tr).open_transaction v)
        → members (live_tags g) (oldest_of ((hist (7 * b) tr).open_transaction v)) (live_base g) (next_position (state_of g.state) - live_base g)
        ≡ (hist (7 * b) tr).open_transaction v
    unfolding lent live_base
    own-members l o =
        let i : base_of w ≤ end_of w = live-order G D b tr w z c in
        rw (lent-tags G D b tr w z c block [] v h)
        (members-local (tags_in G D w) (surviving (λ q. true) (base_of w) (tag_at (7 * b) tr)) (oldest_of ((hist (7 * b) tr).open_transaction v)) (base_of w)
        (end_of w - base_of w) (λ q m u. live-tags G D b tr w z c q m (omega arith))
        ∙ open-members (7 * b) tr (base_of w) (end_of w - base_of w) v (live-from G D b tr w z c) (omega (arith, c.position)) l o)

    abbrev r : Writer
    r = writer_of w.state v

    -- the writer's own newest block, else another
    own_is : v < 8 → (other : List ℕ)
        → cond (holds_home r h) (held_of w.state v) (block_or g (newest_own g r) other) ≡ own_or h (w.book.tasks v) other
    unfolding own_or held_or
    own_is l other = go (w.book.tasks v) (c.tasks v l)
      where
        go : (t : Task) → TaskOk b tr r (held_of w.state v) ((hist (7 * b) tr).open_transaction v) t
            → cond (holds_home r h) (held_of w.state v) (block_or g (newest_own g r) other) ≡ own_or h t other
        go t (inl e) = rw (e.1, holds-none r h (omega (arith, e.0)), own-none g r other (omega (arith, e.0)))
        go t (inr (inl e)) =
            rw (e.1, holds-none r h (omega (arith, e.0)), own-none g r other (omega (arith, e.0))) (unfold newest_entry in refl)
        go t (inr (inr (inl e))) =
            rw (e.1, holds-some r h (omega (arith, e.0)), own-none g r other (omega (arith, e.0))) (unfold newest_entry in refl)
        go t (inr (inr (inr e))) =
            let o : base_of w ≤ oldest_of ((hist (7 * b) tr).open_transaction v) = omega (arith, e.2, ((c.order.writers v l).logged (omega (arith, e.0))).0) in
            rw (
              e.1,
              holds-some r h (omega (arith, e.0)),
              own-some g r other ((hist (7 * b) tr).open_transaction v) (omega (arith, e.0)) (rw e.2 (own-members e.4 o)),
            )
            (ap (cond (eqb r.home h) (held_of w.state v))
            (unfold lent in newest-entries g b tr h ((hist (7 * b) tr).open_transaction v) other
            (all_map (Shown G D b tr w) (Seen g b tr) seen ((hist (7 * b) tr).open_transaction v) (open-shown G D b tr w z c v o))))

    visible-is : v < 8 → h < D → visible g ≡ read_by D w.book v h
    unfolding visible own_else read_by lent
    visible-is l d = rw (current-is d) (own_is l (home_at (homes_after D w.book.commits) h))

-- a read shows what the commit rule finds (proofs/newest/NewestHolds)
module _ (G D : ℕ) (z : Sizes G D) (w : World) (r : Running G D w)
    (shows : (block : List ℕ) (v h : ℕ) → h < D → shown (lent w block [] v h) ≡ current (lent w block [] v h)) where
  state-holds : is_in_order w.state (group_count (length w.log)) w.homes ≡ true
  state-holds =
      let c = r.copies in
      rw (c.log_size, groups-in G, c.homes) (order-in w.state G D c.order)

  home_below : (v h : ℕ) (block : List ℕ) → is_home_known (lent w block [] v h) ≡ true → h < D
  unfolding lent is_home_known
  home_below v h block d = ltb-true h D (rw (lent-homes G D r.b r.tr w z r.copies block [] v h) at d)

  read_is : (v h : ℕ) (block : List ℕ) → writer_known (lent w block [] v h) ≡ true → h < D
      → own_else (lent w block [] v h) (shown (lent w block [] v h)) ≡ read_by D w.book v h
  unfolding writer_known
  read_is v h block l d =
      ap (own_else (lent w block [] v h)) (shows block v h d)
      ∙ (unfold visible lent in visible-is G D r.b r.tr r.old w z r.commits r.copies block v h (ltb-true v 8 l) d)

  pub read-yields : (v h : ℕ) (block : List ℕ) → (ends w (read v h block)).code ≡ 0 → (ends w (read v h block)).block ≡ read_by w.homes w.book v h
  unfolding ends service_ends read_call done read_effect
  read-yields v h block e =
      let g : Given = lent w block [] v h in
      let a : read_answer g ≡ 0 = sym (outcome-code g (read_answer g) (read_effect g)) ∙ e in
      let k = read-ready g a in
      ap (λ (o : Outcome). o.block) (outcome-done g (read_answer g) (read_effect g) a) ∙ read_is v h block k.2 (home_below v h block k.3)
      ∙ ap (λ (n : ℕ). read_by n w.book v h) (sym r.copies.homes)

  pub live-holds : Live w
  live-holds =
      record {
        state_fits = state-holds;
        read_again = found-entries G D r.b r.tr r.old w z r.commits r.copies [] 0 0;
        readable = read-yields;
      }
