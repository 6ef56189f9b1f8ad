-- The position of a home's newest committed entry, by the book: each entry of this era has its row and its place in it. It is the one that the commit rule
-- finds, a commit puts its own entries in front, and a trim leaves those at or above the new start. Assumes nothing.
use Prim.Native.Nat.{ℕ, suc, ◌+◌, ◌-◌, ◌*◌, ◌/◌, ◌%◌, ◌≤◌, ◌<◌}
use mathlib.Core.Path.{◌≡◌, refl, sym, ap, ◌∙◌}
use mathlib.Core.Logic.{◌⊎◌, inl, inr}
use mathlib.Core.Bool.{Bool, true, false, cond}
use mathlib.Core.List.{List, [], ◌∷◌, ◌++◌}
use mathlib.Core.Option.{Option, none, some}
use native.Mathlib.Omega.{arith}
use lib.Dec.{eqb, leb, ltb}
use lib.ListN.{length}
use borrow.Author.Tests.{le-leb, lt-leb, lt-ltb, le-ltb}
use Rattle.model.specs.Tag.{home_of}
use Rattle.model.specs.declared.Tag.{Tag}
use Rattle.model.specs.Commit.{newest_in, or_else, newest}
use Rattle.model.specs.Book.{Landing, row, persisted, Entry, Commit, owed_by, all_owed}
use Rattle.model_laws.proofs.rule.MemberLaws.{or_else-none, or_else-assoc}
use Rattle.model_laws.proofs.trace.Trace.{Ev, hist, first_of, tag_at, home_on, closer_of, oldest_of, closing_from, Apart}
use Rattle.model_laws.proofs.trace.TraceLaws.{All, all_map, Falling, Rising, Names, Named, tag_at-home, tag_at-back, tag_at-from, done-named, done-falling, done-rising}
use Rattle.model_laws.proofs.trace.WholeLaws.{closing_from-all}
use Rattle.theorems.proofs.invariant.Invariant.{entry_for, entries_for, Matches, OldCommits, Commits}
use Rattle.theorems.proofs.invariant.BookReplay.{ticket-above}

-- an entry's position, where row 0 is group b
unfoldable pub place_of : ℕ → Landing → ℕ
place_of b (row r k) = 7 * (b + r) + k
place_of b persisted = 0

-- the position of the last entry for a home
unfoldable pub last_entry : ℕ → ℕ → List Entry → Option ℕ
last_entry b h [] = none
last_entry b h (e ∷ es) = or_else (last_entry b h es) (cond (eqb e.home h) (some (place_of b e.landing)) none)

-- that of the last commit that is not trimmed and has one
unfoldable pub last_committed : ℕ → ℕ → ℕ → List Commit → Option ℕ
last_committed b base h [] = none
last_committed b base h (c ∷ cs) = or_else (last_committed b base h cs) (cond (ltb base c.ticket) (last_entry b h c.entries) none)

-- ---- lists

entry-append : (b h : ℕ) (xs ys : List Entry) → last_entry b h (xs ++ ys) ≡ or_else (last_entry b h ys) (last_entry b h xs)
unfolding last_entry
entry-append b h [] ys = sym (or_else-none (last_entry b h ys))
entry-append b h (x ∷ xs) ys =
    ap (λ (o : Option ℕ). or_else o (cond (eqb x.home h) (some (place_of b x.landing)) none)) (entry-append b h xs ys)
    ∙ or_else-assoc (last_entry b h ys) (last_entry b h xs) (cond (eqb x.home h) (some (place_of b x.landing)) none)

committed-append : (b c h : ℕ) (xs ys : List Commit) → last_committed b c h (xs ++ ys) ≡ or_else (last_committed b c h ys) (last_committed b c h xs)
unfolding last_committed
committed-append b c h [] ys = sym (or_else-none (last_committed b c h ys))
committed-append b c h (x ∷ xs) ys =
    ap (λ (o : Option ℕ). or_else o (cond (ltb c x.ticket) (last_entry b h x.entries) none)) (committed-append b c h xs ys)
    ∙ or_else-assoc (last_committed b c h ys) (last_committed b c h xs) (cond (ltb c x.ticket) (last_entry b h x.entries) none)

-- a commit that is added
pub committed-more : (b c h : ℕ) (cs : List Commit) (k : Commit) → c < k.ticket
    → last_committed b c h (cs ++ (k ∷ [])) ≡ or_else (last_entry b h k.entries) (last_committed b c h cs)
unfolding last_committed or_else
committed-more b c h cs k l = committed-append b c h cs (k ∷ []) ∙ rw (lt-ltb c k.ticket l)

-- commits of earlier eras have no ticket
pub committed-old : (D b c h : ℕ) (old : List Commit) → OldCommits D old → last_committed b c h old ≡ none
unfolding last_committed or_else
committed-old D b c h [] p = refl
committed-old D b c h (k ∷ ks) p = rw (committed-old D b c h ks p.2, p.0, le-ltb c 0 (omega arith))

-- whether they are owed does not matter
pub committed-by : (mark b c h : ℕ) (cs : List Commit) → last_committed b c h (owed_by mark cs) ≡ last_committed b c h cs
unfolding last_committed owed_by
committed-by mark b c h [] = refl
committed-by mark b c h (k ∷ ks) = rw (committed-by mark b c h ks)

pub committed-all : (b c h : ℕ) (cs : List Commit) → last_committed b c h (all_owed cs) ≡ last_committed b c h cs
unfolding last_committed all_owed
committed-all b c h [] = refl
committed-all b c h (k ∷ ks) = rw (committed-all b c h ks)

-- ---- the book against a log

-- a log that has, at a position of this era, the home that the trace has there
abbrev pub HomeIn : (ℕ → Tag) → ℕ → List Ev → ℕ → Type 0
HomeIn tags b tr p = (7 * b ≤ p) × (home_of (tags p) ≡ home_on (7 * b) tr p)

pub newest-entries : (tags : ℕ → Tag) (b : ℕ) (tr : List Ev) (h : ℕ) (t : List ℕ) → All (HomeIn tags b tr) t
    → newest_in tags h t ≡ last_entry b h (entries_for b tr t)
unfolding newest_in entries_for entry_for last_entry
newest-entries tags b tr h [] a = refl
newest-entries tags b tr h (p ∷ ps) a =
    rw (a.0.1, newest-entries tags b tr h ps a.1) (go (eqb (home_on (7 * b) tr p) h))
    ∙ sym (entry-append b h (entries_for b tr ps) (entry_for b tr p ∷ []))
  where
    place : place_of b (row (p / 7 - b) (p % 7)) ≡ p
    place = unfold place_of in omega (arith, a.0.0)

    go : (d : Bool) → cond d (some p) (last_entry b h (entries_for b tr ps))
        ≡ or_else (or_else none (cond d (some (place_of b (row (p / 7 - b) (p % 7)))) none)) (last_entry b h (entries_for b tr ps))
    go true = rw place (unfold or_else in refl)
    go false = unfold or_else in refl

newest-matches : (tags : ℕ → Tag) (b : ℕ) (tr : List Ev) (c h : ℕ) (cs : List Commit) (ts : List (List ℕ)) → Matches b tr cs ts
    → All (All (HomeIn tags b tr)) (closing_from c ts) → newest tags h (closing_from c ts) ≡ last_committed b c h cs
unfolding last_committed closing_from newest
newest-matches tags b tr c h [] [] m a = refl
newest-matches tags b tr c h [] (t ∷ ts) m a = absurd m
newest-matches tags b tr c h (k ∷ cs) [] m a = absurd m
newest-matches tags b tr c h (k ∷ cs) (t ∷ ts) m a =
    rw (m.0, m.1, ticket-above (closer_of t) c) (go (leb c (closer_of t)) a (newest-matches tags b tr c h cs ts m.2))
  where
    go : (d : Bool) → All (All (HomeIn tags b tr)) (cond d (t ∷ closing_from c ts) (closing_from c ts))
        → (All (All (HomeIn tags b tr)) (closing_from c ts) → newest tags h (closing_from c ts) ≡ last_committed b c h cs)
        → newest tags h (cond d (t ∷ closing_from c ts) (closing_from c ts))
        ≡ or_else (last_committed b c h cs) (cond d (last_entry b h (entries_for b tr t)) none)
    go true a ih = rw (ih a.1, newest-entries tags b tr h t a.0)
    go false a ih = ih a ∙ sym (or_else-none (last_committed b c h cs))

pub newest-committed : (D : ℕ) (tags : ℕ → Tag) (b : ℕ) (tr : List Ev) (old : List Commit) (c h : ℕ) (cs : List Commit) → Commits D b tr old cs
    → All (All (HomeIn tags b tr)) (closing_from c (hist (7 * b) tr).done)
    → newest tags h (closing_from c (hist (7 * b) tr).done) ≡ last_committed b c h cs
newest-committed D tags b tr old c h cs k a =
    newest-matches tags b tr c h k.new (hist (7 * b) tr).done k.matches a
    ∙ sym (rw k.split (committed-append b c h old k.new ∙ rw (committed-old D b c h old k.past) (or_else-none (last_committed b c h k.new))))

-- ---- the trace's own homes

all_from : (P : List ℕ → Type 0) (c : ℕ) (ts : List (List ℕ)) → All P ts → All P (closing_from c ts)
unfolding closing_from
all_from P c [] a = tt
all_from P c (t ∷ ts) a = go (leb c (closer_of t)) (all_from P c ts a.1)
  where
    go : (d : Bool) → All P (closing_from c ts) → All P (cond d (t ∷ closing_from c ts) (closing_from c ts))
    go true k = (a.0, k)
    go false k = k

own-homes : (b : ℕ) (tr : List Ev) → All (All (HomeIn (tag_at (7 * b) tr) b tr)) (hist (7 * b) tr).done
own-homes b tr =
    all_map (Named (tag_at (7 * b) tr)) (All (HomeIn (tag_at (7 * b) tr) b tr))
    (λ t n. all_map (Names (tag_at (7 * b) tr) (oldest_of t)) (HomeIn (tag_at (7 * b) tr) b tr)
    (λ p k. (omega (arith, tag_at-from (7 * b) tr p k.0, tag_at-back (7 * b) tr p), tag_at-home (7 * b) tr p k.0)) t n)
    (hist (7 * b) tr).done (done-named (7 * b) tr)

-- ---- a trim

-- what a trim to position c leaves of a newest position
unfoldable pub trimmed_at : ℕ → Option ℕ → Option ℕ
trimmed_at c none = none
trimmed_at c (some p) = cond (ltb p c) none (some p)

-- a transaction's positions lie from its first to its closing entry
abbrev Spanned : List ℕ → Type 0
Spanned t = (oldest_of t ≤ closer_of t) × All (λ p. (oldest_of t ≤ p) × (p ≤ closer_of t)) t

falling-spanned : (low high : ℕ) (t : List ℕ) → Falling low high t → Spanned t
unfolding oldest_of closer_of first_of
falling-spanned low high [] f = (omega arith, tt)
falling-spanned low high (p ∷ []) f = (omega arith, ((omega arith, omega arith), tt))
falling-spanned low high (p ∷ q ∷ ps) f =
    let k = falling-spanned low p (q ∷ ps) f.2 in
    let l : first_of q ps ≤ q = k.0 in
    let o : q < p = f.2.1 in (
      omega arith,
      (
        (omega arith, omega arith),
        all_map (λ x. (first_of q ps ≤ x) × (x ≤ q)) (λ x. (first_of q ps ≤ x) × (x ≤ p)) (λ x m. (m.0, omega (arith, m.1))) (q ∷ ps) k.1,
      ),
    )

trimmed-low : (log : ℕ → Tag) (h c hi : ℕ) (t : List ℕ) → hi < c → (lo : ℕ) → All (λ p. (lo ≤ p) × (p ≤ hi)) t → trimmed_at c (newest_in log h t) ≡ none
unfolding newest_in
trimmed-low log h c hi [] l lo a = unfold trimmed_at in refl
trimmed-low log h c hi (p ∷ ps) l lo a = go (eqb (home_of (log p)) h) (trimmed-low log h c hi ps l lo a.1)
  where
    go : (d : Bool) → trimmed_at c (newest_in log h ps) ≡ none → trimmed_at c (cond d (some p) (newest_in log h ps)) ≡ none
    go true e = unfold trimmed_at in rw (lt-ltb p c (omega (arith, a.0.1)))
    go false e = e

trimmed-high : (log : ℕ → Tag) (h c lo hi : ℕ) (t : List ℕ) → c ≤ lo → All (λ p. (lo ≤ p) × (p ≤ hi)) t
    → newest_in log h t ≡ trimmed_at c (newest_in log h t)
unfolding newest_in
trimmed-high log h c lo hi [] l a = unfold trimmed_at in refl
trimmed-high log h c lo hi (p ∷ ps) l a = go (eqb (home_of (log p)) h) (trimmed-high log h c lo hi ps l a.1)
  where
    go : (d : Bool) → newest_in log h ps ≡ trimmed_at c (newest_in log h ps)
        → cond d (some p) (newest_in log h ps) ≡ trimmed_at c (cond d (some p) (newest_in log h ps))
    go true e = unfold trimmed_at in rw (le-ltb p c (omega (arith, a.0.0)))
    go false e = e

trimmed-front : (c : ℕ) (x y : Option ℕ) → trimmed_at c y ≡ none → trimmed_at c x ≡ trimmed_at c (or_else x y)
unfolding or_else trimmed_at
trimmed-front c none y e = sym e
trimmed-front c (some p) y e = refl

trimmed-both : (c : ℕ) (x y : Option ℕ) → x ≡ trimmed_at c x → y ≡ trimmed_at c y → or_else x y ≡ trimmed_at c (or_else x y)
unfolding or_else
trimmed-both c none y e f = f
trimmed-both c (some p) y e f = e

newest-trimmed : (log : ℕ → Tag) (h c c' low high : ℕ) (ts : List (List ℕ)) → c ≤ c' → Apart c' ts → Rising low high ts → All Spanned ts
    → newest log h (closing_from c' ts) ≡ trimmed_at c' (newest log h (closing_from c ts))
unfolding closing_from newest
newest-trimmed log h c c' low high [] l a r s = unfold trimmed_at in refl
newest-trimmed log h c c' low high (t ∷ ts) l a r s =
    side a.0 (newest-trimmed log h c c' (suc (closer_of t)) high ts l a.1 r.2 s.1)
  where
    IH : Type 0
    IH = newest log h (closing_from c' ts) ≡ trimmed_at c' (newest log h (closing_from c ts))

    below : (d : Bool) → closer_of t < c' → IH
        → newest log h (closing_from c' ts) ≡ trimmed_at c' (newest log h (cond d (t ∷ closing_from c ts) (closing_from c ts)))
    below true k ih =
        ih ∙ trimmed-front c' (newest log h (closing_from c ts)) (newest_in log h t)
        (trimmed-low log h c' (closer_of t) t k (oldest_of t) s.0.1)
    below false k ih = ih

    above : c' ≤ closer_of t → c' ≤ oldest_of t → IH
        → newest log h (t ∷ closing_from c' ts) ≡ trimmed_at c' (newest log h (t ∷ closing_from c ts))
    above k o ih =
        let e : closing_from c' ts ≡ ts = closing_from-all c' (suc (closer_of t)) high ts (omega arith) r.2 in
        let f : closing_from c ts ≡ ts = closing_from-all c (suc (closer_of t)) high ts (omega arith) r.2 in
        rw (e, f)
        (trimmed-both c' (newest log h ts) (newest_in log h t) (rw (e, f) at ih)
        (trimmed-high log h c' (oldest_of t) (closer_of t) t o s.0.1))

    side : (closer_of t < c') ⊎ (c' ≤ oldest_of t) → IH
        → newest log h (cond (leb c' (closer_of t)) (t ∷ closing_from c' ts) (closing_from c' ts))
        ≡ trimmed_at c' (newest log h (cond (leb c (closer_of t)) (t ∷ closing_from c ts) (closing_from c ts)))
    side (inl k) ih = rw (lt-leb c' (closer_of t) k) (below (leb c (closer_of t)) k ih)
    side (inr k) ih =
        let m : c' ≤ closer_of t = omega (arith, s.0.0) in
        rw (le-leb c' (closer_of t) m, le-leb c (closer_of t) (omega arith)) (above m k ih)

pub committed-trimmed : (D b : ℕ) (tr : List Ev) (old : List Commit) (c c' h : ℕ) (cs : List Commit) → Commits D b tr old cs → c ≤ c'
    → Apart c' (hist (7 * b) tr).done → last_committed b c' h cs ≡ trimmed_at c' (last_committed b c h cs)
committed-trimmed D b tr old c c' h cs k l a =
    let tags : ℕ → Tag = tag_at (7 * b) tr in
    let own = own-homes b tr in
    let P = All (HomeIn (tag_at (7 * b) tr) b tr) in
    sym (newest-committed D tags b tr old c' h cs k (all_from P c' (hist (7 * b) tr).done own))
    ∙ newest-trimmed tags h c c' (7 * b) (7 * b + length tr) (hist (7 * b) tr).done l a (done-rising (7 * b) tr)
    (all_map (Falling (7 * b) (7 * b + length tr)) Spanned (falling-spanned (7 * b) (7 * b + length tr)) (hist (7 * b) tr).done (done-falling (7 * b) tr))
    ∙ ap (trimmed_at c') (newest-committed D tags b tr old c h cs k (all_from P c (hist (7 * b) tr).done own))
