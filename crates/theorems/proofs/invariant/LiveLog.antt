-- What the calls of an era see of the log copy: at each position what the trace has there, and the committed transactions that are not trimmed.
-- Assumes nothing.
use Prim.Native.Nat.{ℕ, ◌+◌, ◌-◌, ◌*◌, ◌/◌, ◌%◌, ◌≤◌, ◌<◌}
use mathlib.Core.Path.{◌≡◌, refl, ap, ◌∙◌}
use mathlib.Core.Bool.{Bool, true, false, cond, ◌||◌, or_comm}
use mathlib.Core.List.{List, [], ◌∷◌}
use mathlib.Core.Option.{Option, none, some}
use native.Mathlib.Omega.{arith}
use lib.Dec.{eqb, ltb}
use lib.ListN.{length}
use borrow.Author.Tests.{le-leb}
use Rattle.model.specs.Tag.{says, present, home_of}
use Rattle.model.specs.declared.Tag.{Tag}
use Rattle.model.specs.Layout.{group_at, group_count, home_count, entry_at, block_at}
use Rattle.model.specs.Commit.{committed, transactions, newest_in, or_else, newest, found}
use Rattle.model.specs.State.{state_of, next_position}
use Rattle.model.specs.Effects.{groups, homes, tags_of, live_tags, live_base}
use Rattle.model.specs.History.{World, lent}
use Rattle.model_laws.proofs.bytes.LayoutLaws.{groups-in, homes_in}
use Rattle.model_laws.proofs.state.OrderLaws.{next-within}
use Rattle.theorems.proofs.invariant.GrowLaws.{used-inside, holds_at}
use Rattle.model_laws.proofs.trace.Trace.{Ev, hist, tag_at, home_on, block_on, first_in, surviving, closer_of, oldest_of, closing_from}
use Rattle.model_laws.proofs.trace.TraceLaws.{All, all_map, Names, Named, tag_at-back, tag_at-home, open-named, done-named}
use Rattle.model_laws.proofs.trace.WholeLaws.{whole-all}
use Rattle.model_laws.proofs.trace.WalkLaws.{Agree, committed-local, transactions-local, transactions-upto, closing_below, surviving-back}
use Rattle.model_laws.proofs.trace.CountLaws.{spans_of}
use Rattle.model_laws.proofs.trace.Survivors.{survivors-spans, all-survive}
use Rattle.theorems.proofs.invariant.LogStep.{used-present, entry-of-holds, block-of-holds}
use Rattle.theorems.proofs.invariant.BookReplay.{hits, hits_any, Fits, fits-used}
use Rattle.theorems.proofs.invariant.LateOpens.{all-taken}
use Rattle.theorems.proofs.invariant.Invariant.{Sizes, used_at, HoldsAt, Copies}

-- what the log copy says at each position, where the log starts and where it ends
abbrev pub tags_in : ℕ → ℕ → World → ℕ → Tag
tags_in G D w = entry_at w.log G D (state_of w.state).start

abbrev pub base_of : World → ℕ
base_of w = 7 * (state_of w.state).start

abbrev pub end_of : World → ℕ
end_of w = next_position (state_of w.state)

-- the trace's commits that are not trimmed
abbrev pub kept_in : ℕ → List Ev → World → List (List ℕ)
kept_in b tr w = closing_from (7 * (state_of w.state).start) (hist (7 * b) tr).done

-- the log copy has, at a position, what the trace has there
pub record Shown (G D b : ℕ) (tr : List Ev) (w : World) (p : ℕ) : Type 0 where
  pub low : base_of w ≤ p
  pub high : p < end_of w
  pub tag : tags_in G D w p ≡ tag_at (7 * b) tr p
  pub used : present (tags_in G D w p) ≡ true
  pub home : home_of (tags_in G D w p) ≡ home_on (7 * b) tr p
  pub block : block_at w.log G p ≡ block_on (7 * b) tr p
  pub fits : Fits D b tr p

-- ---- lists of transactions

pub all-below : (P : List ℕ → Type 0) (c : ℕ) (ts : List (List ℕ)) → All P ts → All P (closing_below c ts)
unfolding closing_below
all-below P c [] h = tt
all-below P c (t ∷ ts) h = go (ltb (closer_of t) c) (all-below P c ts h.1)
  where
    go : (d : Bool) → All P (closing_below c ts) → All P (cond d (t ∷ closing_below c ts) (closing_below c ts))
    go true k = (h.0, k)
    go false k = k

pub all-each : (P Q : ℕ → Type 0) → ((p : ℕ) → P p → Q p) → (ts : List (List ℕ)) → All (All P) ts → All (All Q) ts
all-each P Q f ts h = all_map (All P) (All Q) (all_map P Q f) ts h

-- ---- a tag that names a first position at or above c

pub kept-tag : (c : ℕ) (log : ℕ → Tag) (p : ℕ) → c ≤ first_in (log p) → surviving (λ q. true) c log p ≡ log p
unfolding surviving says
kept-tag c log p l = rw (le-leb c (first_in (log p)) l, says)

-- ---- a home that some entry is for

pub found-else : (a b : Option ℕ) → found (or_else a b) ≡ (found a || found b)
unfolding found or_else
found-else none b = refl
found-else (some p) b = refl

pub found_in : (tags : ℕ → Tag) (home : ℕ → ℕ) (h : ℕ) (ps : List ℕ) → All (λ p. home_of (tags p) ≡ home p) ps
    → found (newest_in tags h ps) ≡ hits home h ps
unfolding newest_in hits found
found_in tags home h [] a = refl
found_in tags home h (p ∷ ps) a = rw a.0 (go (eqb (home p) h) (found_in tags home h ps a.1))
  where
    go : (d : Bool) → found (newest_in tags h ps) ≡ hits home h ps → found (cond d (some p) (newest_in tags h ps)) ≡ (d || hits home h ps)
    go true e = refl
    go false e = e

pub found-any : (tags : ℕ → Tag) (home : ℕ → ℕ) (h : ℕ) (ts : List (List ℕ)) → All (All (λ p. home_of (tags p) ≡ home p)) ts
    → found (newest tags h ts) ≡ hits_any home h ts
unfolding newest hits_any found
found-any tags home h [] a = refl
found-any tags home h (t ∷ ts) a =
    found-else (newest tags h ts) (newest_in tags h t) ∙ rw (found-any tags home h ts a.1, found_in tags home h t a.0)
    (or_comm (hits_any home h ts) (hits home h t))

module _ (G D b : ℕ) (tr : List Ev) (w : World) (z : Sizes G D) (c : Copies G D b tr w) where
  -- ---- where the log lies

  pub live-position : 7 * (state_of w.state).next + (state_of w.state).filled ≡ 7 * b + length tr
  live-position = unfold next_position in c.position

  pub live-from : 7 * b ≤ base_of w
  live-from = omega (arith, c.from)

  pub live-order : base_of w ≤ end_of w
  unfolding next_position
  live-order = omega (arith, c.order.start-next)

  pub live-room : end_of w ≤ 7 * ((state_of w.state).start + G)
  live-room = next-within w.state G D c.order

  -- ---- what is lent

  module _ (block batch : List ℕ) (v h : ℕ) where
    pub lent-groups : groups (lent w block batch v h) ≡ G
    unfolding lent
    lent-groups = ap group_count c.log_size ∙ groups-in G

    pub lent-homes : homes (lent w block batch v h) ≡ D
    unfolding lent
    lent-homes = ap home_count c.area_size ∙ homes_in D

    pub lent-tags : live_tags (lent w block batch v h) ≡ tags_in G D w
    unfolding lent live_tags tags_of
    lent-tags = rw (lent-groups, lent-homes)

    pub lent-base : live_base (lent w block batch v h) ≡ base_of w
    unfolding lent live_base
    lent-base = refl

  -- ---- the tags

  live-group : (p : ℕ) → base_of w ≤ p → p < end_of w → HoldsAt G (7 * b) tr (group_at w.log (p / 7 % G)) (p / 7) (p % 7)
  live-group p l h =
      holds_at G (7 * b) tr (group_at w.log (p / 7 % G)) (p / 7) (p % 7) (omega arith) (c.groups (p / 7) (omega arith) (omega (arith, c.position)))

  pub live-tags : (p : ℕ) → base_of w ≤ p → p < end_of w → tags_in G D w p ≡ surviving (λ q. true) (base_of w) (tag_at (7 * b) tr) p
  unfolding surviving
  live-tags p l h =
      let e : 7 * (p / 7) + p % 7 ≡ p = omega arith in
      rw e at
      (entry-of-holds w.log G D (state_of w.state).start (p / 7) (p % 7) b tr z.homes c.sound (omega arith)
      (omega (arith, live-room)) (omega arith) (live-group p l h))

  -- those of transactions that begin at or above the start are the trace's own
  pub live-shown : (p : ℕ) → present (tag_at (7 * b) tr p) ≡ true → base_of w ≤ first_in (tag_at (7 * b) tr p) → Shown G D b tr w p
  live-shown p u l =
      let i : used_at (7 * b) tr p ≡ true = used-present (7 * b) tr p ∙ u in
      let q : p < end_of w = omega (arith, used-inside (7 * b) tr p i, c.position) in
      let o : base_of w ≤ p = omega (arith, tag_at-back (7 * b) tr p) in
      let t : tags_in G D w p ≡ tag_at (7 * b) tr p = live-tags p o q ∙ kept-tag (base_of w) (tag_at (7 * b) tr) p l in
      let e : 7 * (p / 7) + p % 7 ≡ p = omega arith in
      record {
        low = o;
        high = q;
        tag = t;
        used = ap present t ∙ u;
        home = ap home_of t ∙ tag_at-home (7 * b) tr p u;
        block = rw e at (block-of-holds w.log G D (p / 7) (p % 7) b tr z.homes c.sound (omega arith) (rw e i) (live-group p o q));
        fits = fits-used D b tr p c.sound i;
      }

  -- ---- the transactions

  live-agree : (n : ℕ) → base_of w + n ≤ end_of w → Agree (tags_in G D w) (surviving (λ q. true) (base_of w) (tag_at (7 * b) tr)) (base_of w) n
  live-agree n i q l h = live-tags q l (omega arith)

  pub live-transactions : transactions (tags_in G D w) (base_of w) (end_of w - base_of w) ≡ kept_in b tr w
  live-transactions =
      let i : base_of w ≤ end_of w = live-order in
      transactions-local (tags_in G D w) (surviving (λ q. true) (base_of w) (tag_at (7 * b) tr)) (base_of w) (end_of w - base_of w)
      (live-agree (end_of w - base_of w) (omega arith))
      ∙ all-survive (7 * b) tr (base_of w) (end_of w - base_of w) live-from c.apart c.links (omega (arith, c.position))

  pub live-spans : committed (tags_in G D w) (base_of w) (end_of w - base_of w) ≡ spans_of (kept_in b tr w)
  live-spans =
      let i : base_of w ≤ end_of w = live-order in
      committed-local (tags_in G D w) (surviving (λ q. true) (base_of w) (tag_at (7 * b) tr)) (base_of w) (end_of w - base_of w)
      (live-agree (end_of w - base_of w) (omega arith))
      ∙ survivors-spans (7 * b) tr (base_of w) (λ q. true) (end_of w - base_of w) live-from c.apart c.links (omega (arith, c.position))
      ∙ ap spans_of (whole-all (kept_in b tr w))

  pub live-upto : (F : ℕ) → base_of w ≤ F → F ≤ end_of w
      → transactions (tags_in G D w) (base_of w) (F - base_of w) ≡ closing_below F (kept_in b tr w)
  live-upto F l h =
      let i : base_of w ≤ end_of w = live-order in
      let e : base_of w + (F - base_of w) ≡ F = omega arith in
      let rest : ℕ → Tag = surviving (λ q. true) (base_of w) (tag_at (7 * b) tr) in
      transactions-local (tags_in G D w) rest (base_of w) (F - base_of w) (live-agree (F - base_of w) (omega arith))
      ∙ transactions-upto rest (base_of w) (F - base_of w) (end_of w - base_of w) (omega arith)
      (surviving-back (λ q. true) (base_of w) (tag_at (7 * b) tr) (tag_at-back (7 * b) tr))
      ∙ rw (e, all-survive (7 * b) tr (base_of w) (end_of w - base_of w) live-from c.apart c.links (omega (arith, c.position)))

  -- ---- what stands at their positions

  pub kept-shown : All (All (Shown G D b tr w)) (kept_in b tr w)
  kept-shown =
      rw whole-all at
      (all-taken (λ q. true) (base_of w) (Named (tag_at (7 * b) tr)) (All (Shown G D b tr w))
      (λ t n l a. all_map (Names (tag_at (7 * b) tr) (oldest_of t)) (Shown G D b tr w) (λ p k. live-shown p k.0 (omega (arith, k.1))) t n)
      (hist (7 * b) tr).done (done-named (7 * b) tr) c.apart)

  -- so too of those that close below a position
  pub upto-shown : (F : ℕ) → All (All (Shown G D b tr w)) (closing_below F (kept_in b tr w))
  upto-shown F = all-below (All (Shown G D b tr w)) F (kept_in b tr w) kept-shown

  -- and of the entries of an open transaction that does not begin before the start
  pub open-shown : (v : ℕ) → base_of w ≤ oldest_of ((hist (7 * b) tr).open_transaction v) → All (Shown G D b tr w) ((hist (7 * b) tr).open_transaction v)
  open-shown v l =
      all_map (Names (tag_at (7 * b) tr) (oldest_of ((hist (7 * b) tr).open_transaction v))) (Shown G D b tr w)
      (λ p k. live-shown p k.0 (omega (arith, k.1))) ((hist (7 * b) tr).open_transaction v) (open-named (7 * b) tr v)

  -- ---- homes that they are for

  pub shown-homes : (ts : List (List ℕ)) → All (All (Shown G D b tr w)) ts → All (All (λ p. home_of (tags_in G D w p) ≡ home_on (7 * b) tr p)) ts
  shown-homes ts a = all-each (Shown G D b tr w) (λ p. home_of (tags_in G D w p) ≡ home_on (7 * b) tr p) (λ p k. k.home) ts a

  pub found-hits : (h : ℕ) (ts : List (List ℕ)) → All (All (Shown G D b tr w)) ts
      → found (newest (tags_in G D w) h ts) ≡ hits_any (home_on (7 * b) tr) h ts
  found-hits h ts a = found-any (tags_in G D w) (home_on (7 * b) tr) h ts (shown-homes ts a)
