-- What a home shows by the newest positions, where these are those of the book. Assumes nothing.
use Prim.Native.Nat.{ℕ, ◌+◌, ◌*◌, ◌≤◌, ◌<◌}
use mathlib.Core.Path.{◌≡◌, refl, sym, ap, ◌∙◌}
use mathlib.Core.Bool.{Bool, true, false, cond, ◌&&◌}
use mathlib.Core.List.{List, [], ◌∷◌}
use mathlib.Core.Option.{Option, none, some}
use native.Mathlib.Omega.{arith}
use lib.Dec.{eqb, leb}
use borrow.Author.Tests.{le-leb, lt-ltb, le-ltb}
use Rattle.model.specs.Tag.{present, home_of}
use Rattle.model.specs.declared.Tag.{Tag}
use Rattle.model.specs.Bytes.{part}
use Rattle.model.specs.Layout.{home_at}
use Rattle.model.specs.Commit.{newest_in, or_else, newest}
use Rattle.model.specs.State.{state_of, next_position, list_home}
use Rattle.model.specs.Newest.{no_position, kept_as, kept_for}
use Rattle.model.specs.Effects.{Given, live_tags, live_base, newest_committed, current, own_else, visible, is_there, kept_position, shown, block_or}
use Rattle.model.specs.Rights.{read_list}
use Rattle.model.specs.Book.{homes_after}
use Rattle.model.specs.History.{World, lent}
use Rattle.model_laws.proofs.state.RightLaws.{list-by, list-part}
use Rattle.model_laws.proofs.trace.Trace.{block_on}
use Rattle.model_laws.proofs.trace.TraceLaws.{All}
use Rattle.theorems.proofs.invariant.Invariant.{Sizes, Running}
use Rattle.theorems.proofs.invariant.LiveLog.{tags_in, base_of, end_of, kept_in, Shown, all-each, live-from, live-room, lent-groups, lent-tags, live-transactions, kept-shown}
use Rattle.theorems.proofs.invariant.NewestBook.{last_committed, HomeIn, newest-committed}
use Rattle.theorems.proofs.demands.LiveHolds.{current-is}
use Rattle.theorems.proofs.rights.ListRights.{shown-at}
use Rattle.theorems.proofs.newest.NewestFollows.{Placed}

-- ---- what is known of a newest position

abbrev With : (ℕ → Type 0) → (ℕ → Tag) → ℕ → Option ℕ → Type 0
With P tags h none = Unit {0}
With P tags h (some q) = P q × (eqb (home_of (tags q)) h ≡ true)

with_in : (P : ℕ → Type 0) (tags : ℕ → Tag) (h : ℕ) (t : List ℕ) → All P t → With P tags h (newest_in tags h t)
unfolding newest_in
with_in P tags h [] a = tt
with_in P tags h (p ∷ ps) a = go (eqb (home_of (tags p)) h) refl (with_in P tags h ps a.1)
  where
    go : (d : Bool) → eqb (home_of (tags p)) h ≡ d → With P tags h (newest_in tags h ps) → With P tags h (cond d (some p) (newest_in tags h ps))
    go true e k = (a.0, e)
    go false e k = k

with-else : (P : ℕ → Type 0) (tags : ℕ → Tag) (h : ℕ) (x y : Option ℕ) → With P tags h x → With P tags h y → With P tags h (or_else x y)
unfolding or_else
with-else P tags h none y k l = l
with-else P tags h (some q) y k l = k

with-newest : (P : ℕ → Type 0) (tags : ℕ → Tag) (h : ℕ) (ts : List (List ℕ)) → All (All P) ts → With P tags h (newest tags h ts)
unfolding newest
with-newest P tags h [] a = tt
with-newest P tags h (t ∷ ts) a =
    with-else P tags h (newest tags h ts) (newest_in tags h t) (with-newest P tags h ts a.1) (with_in P tags h t a.0)

-- ---- a world of an era

and-false : (a b c : Bool) → (a && false && b && c) ≡ false
and-false true b c = refl
and-false false b c = refl

module _ (G D : ℕ) (z : Sizes G D) (w : World) (r : Running G D w) (p : Placed G D w) where
  abbrev tags : ℕ → Tag
  tags = tags_in G D w

  abbrev ts : List (List ℕ)
  ts = kept_in r.b r.tr w

  shown-there : All (All (Shown G D r.b r.tr w)) ts
  shown-there = kept-shown G D r.b r.tr w z r.copies

  -- by the book and by the commit rule
  book-is : (h : ℕ) → newest tags h ts ≡ last_committed r.b (base_of w) h w.book.commits
  book-is h =
      newest-committed D tags r.b r.tr r.old (base_of w) h w.book.commits r.commits
      (all-each (Shown G D r.b r.tr w) (HomeIn tags r.b r.tr)
      (λ q s. (omega (arith, s.low, live-from G D r.b r.tr w z r.copies), s.home)) ts shown-there)

  pub kept-is : (h : ℕ) → h < D → kept_for w.newest h ≡ kept_as (newest tags h ts)
  kept-is h l = p h l ∙ ap kept_as (sym (rw (← r.since) (book-is h)))

  module _ (block : List ℕ) (v h : ℕ) where
    abbrev g : Given
    g = lent w block [] v h

    pub newest-is : newest_committed g ≡ newest tags h ts
    unfolding newest_committed lent live_base
    newest-is = rw (lent-tags G D r.b r.tr w z r.copies block [] v h, live-transactions G D r.b r.tr w z r.copies)

    -- none is beyond every position; one that is kept has its entry in the log
    there : (o : Option ℕ) → With (Shown G D r.b r.tr w) tags h o → cond (is_there g (kept_as o)) (some (kept_as o)) none ≡ o
    unfolding is_there lent live_base kept_as
    there none k =
        let m : end_of w ≤ no_position = omega (arith, live-room G D r.b r.tr w z r.copies, r.copies.order.start-most, z.high) in
        rw (le-ltb no_position (next_position (state_of w.state)) m)
        (ap (λ (d : Bool). cond d (some no_position) none)
        (and-false (leb (7 * (state_of w.state).start) no_position) (present (live_tags (lent w block [] v h) no_position)) (eqb (home_of (live_tags (lent w block [] v h) no_position)) h)))
    there (some q) k =
        rw (
          lent-tags G D r.b r.tr w z r.copies block [] v h,
          le-leb (7 * (state_of w.state).start) q k.0.low,
          lt-ltb q (next_position (state_of w.state)) k.0.high,
          k.0.used,
          k.1,
        )

    position-is : h < D → kept_position g ≡ newest_committed g
    unfolding kept_position
    position-is l =
        let e : kept_for g.newest g.home ≡ kept_as (newest tags h ts) = unfold lent in kept-is h l in
        rw newest-is
        (ap (λ (n : ℕ). cond (is_there g n) (some n) none) e
        ∙ there (newest tags h ts) (with-newest (Shown G D r.b r.tr w) tags h ts shown-there))

    pub shown-current : h < D → shown g ≡ current g
    unfolding shown current
    shown-current l = rw (position-is l)

    pub shown-same : h < D → own_else g (shown g) ≡ visible g
    unfolding visible
    shown-same l = ap (own_else g) (shown-current l)

  -- its newest committed block by the book
  pub block-shown : (h : ℕ) → h < D → shown (lent w [] [] 0 h) ≡ home_at (homes_after D w.book.commits) h
  block-shown h l = shown-current [] 0 h l ∙ current-is G D r.b r.tr r.old w z r.commits r.copies [] 0 h l

  -- so the list that a call lent the newest positions finds is that of the book
  pub list-shown : list_home + 4 ≤ D → read_list (lent w [] [] 0 0) ≡ part (homes_after D w.book.commits) (64 * list_home) 256
  unfolding read_list lent
  list-shown m =
      list-part (lent w [] [] 0 0) (λ i. kept_for w.newest (list_home + i)) (homes_after D w.book.commits) 4
      (λ i l. shown-at w [] [] 0 0 (list_home + i) ∙ block-shown (list_home + i) (omega arith))

  -- which position is kept, and what the log has there
  pub placed_at : (h : ℕ) → h < D
      → (o : Option ℕ) × (kept_for w.newest h ≡ kept_as o) × (shown (lent w [] [] 0 h) ≡ block_or (lent w [] [] 0 h) o (home_at w.area h))
      × With (Shown G D r.b r.tr w) tags h o
  unfolding shown
  placed_at h l = (
    newest tags h ts,
    kept-is h l,
    (rw (position-is [] 0 h l, newest-is [] 0 h) (unfold lent in refl)),
    with-newest (Shown G D r.b r.tr w) tags h ts shown-there,
  )

-- ---- two worlds with the same data copy and the same positions of the list's homes

module _ (G D : ℕ) (z : Sizes G D) (w : World) (r : Running G D w) (p : Placed G D w) (y : World) (r' : Running G D y) (p' : Placed G D y)
    (area : y.area ≡ w.area) (older : (q : ℕ) → q < end_of w → block_on (7 * r'.b) r'.tr q ≡ block_on (7 * r.b) r.tr q) where
  low-position : (u : World) (s : Running G D u) (q : ℕ) → q < end_of u → q < no_position
  low-position u s q l = omega (arith, live-room G D s.b s.tr u z s.copies, s.copies.order.start-most, z.high)

  same_block : (h : ℕ) (o o' : Option ℕ) → With (Shown G D r.b r.tr w) (tags_in G D w) h o → With (Shown G D r'.b r'.tr y) (tags_in G D y) h o'
      → kept_as o' ≡ kept_as o → block_or (lent y [] [] 0 h) o' (home_at y.area h) ≡ block_or (lent w [] [] 0 h) o (home_at w.area h)
  unfolding block_or kept_as
  same_block h none none k k' e = rw area
  same_block h none (some q) k k' e = absurd (omega (arith, e, low-position y r' q k'.0.high))
  same_block h (some q) none k k' e = absurd (omega (arith, e, low-position w r q k.0.high))
  same_block h (some q) (some q') k k' e =
      rw (lent-groups G D r.b r.tr w z r.copies [] [] 0 h, lent-groups G D r'.b r'.tr y z r'.copies [] [] 0 h)
      (unfold lent in (k'.0.block ∙ ap (block_on (7 * r'.b) r'.tr) e ∙ older q k.0.high ∙ sym k.0.block))

  same-shown : (h : ℕ) → h < D → kept_for y.newest h ≡ kept_for w.newest h → shown (lent y [] [] 0 h) ≡ shown (lent w [] [] 0 h)
  same-shown h l e =
      let a = placed_at G D z w r p h l in
      let b = placed_at G D z y r' p' h l in
      b.2 ∙ same_block h a.0 b.0 a.3 b.3 (sym b.1 ∙ e ∙ a.1) ∙ sym a.2

  pub same-list : list_home + 4 ≤ D → ((i : ℕ) → i < 4 → kept_for y.newest (list_home + i) ≡ kept_for w.newest (list_home + i))
      → part (homes_after D y.book.commits) (64 * list_home) 256 ≡ part (homes_after D w.book.commits) (64 * list_home) 256
  same-list m f =
      let e : read_list (lent y [] [] 0 0) ≡ read_list (lent w [] [] 0 0) = unfold read_list lent in
      list-by (lent y [] [] 0 0) (lent w [] [] 0 0) (λ i. kept_for y.newest (list_home + i)) (λ i. kept_for w.newest (list_home + i)) 4
      (λ i l. shown-at y [] [] 0 0 (list_home + i) ∙ same-shown (list_home + i) (omega arith) (f i l) ∙ sym (shown-at w [] [] 0 0 (list_home + i))) in
      sym (list-shown G D z y r' p' m) ∙ e ∙ list-shown G D z w r p m
