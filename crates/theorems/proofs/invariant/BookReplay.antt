-- Laws of replay: the book's commits written in order are their transactions replayed, and what a replay leaves, home by home. Assumes nothing.
use Prim.Native.Nat.{ℕ, ◌+◌, ◌*◌, ◌<◌}
use mathlib.Core.Path.{◌≡◌, refl, sym, ap, ◌∙◌}
use mathlib.Core.Logic.{◌⊎◌, inl, inr}
use mathlib.Core.Bool.{Bool, true, false, cond, ◌&&◌, ◌||◌, false≢true, or_comm, or-false}
use mathlib.Core.List.{List, [], ◌∷◌, ◌++◌}
use native.Mathlib.Omega.{arith}
use lib.Dec.{eqb, leb, ltb}
use lib.ListN.{length}
use borrow.Author.Tests.{eqb-true, eqb-false, leb-true, leb-false, lt-ltb, le-ltb}
use Rattle.model.specs.Tag.{home_of}
use Rattle.model.specs.declared.Tag.{Tag}
use Rattle.model.specs.Layout.{block_at, home_at, put_home}
use Rattle.model.specs.Commit.{write_all, replay}
use Rattle.model.specs.Effects.{restore}
use Rattle.model.specs.Book.{Entry, Commit, write_entries, write_commits}
use Rattle.model_laws.proofs.bytes.LayoutLaws.{home_same, home-other, length-put_home, area-ext}
use Rattle.model_laws.proofs.trace.Trace.{Ev, home_on, block_on, closer_of, closing_from}
use Rattle.model_laws.proofs.trace.TraceLaws.{All}
use Rattle.theorems.proofs.invariant.Invariant.{Sound, used_at, entry_for, entries_for, Matches, OldCommits, has_home, touches_above}

-- the entry of a position goes into its home
unfoldable pub place : ℕ → List Ev → ℕ → List ℕ → List ℕ
place b tr p area = put_home area (home_on (7 * b) tr p) (block_on (7 * b) tr p)

-- ---- commits and transactions

pub write_commits-append : (xs ys : List Commit) (area : List ℕ) → write_commits (xs ++ ys) area ≡ write_commits ys (write_commits xs area)
unfolding write_commits
write_commits-append [] ys area = refl
write_commits-append (c ∷ xs) ys area = write_commits-append xs ys (write_entries c.entries area)

length-write_entries : (es : List Entry) (area : List ℕ) → length (write_entries es area) ≡ length area
unfolding write_entries
length-write_entries [] area = refl
length-write_entries (e ∷ es) area = length-write_entries es (put_home area e.home e.block) ∙ length-put_home area e.home e.block

pub length-write_commits : (cs : List Commit) (area : List ℕ) → length (write_commits cs area) ≡ length area
unfolding write_commits
length-write_commits [] area = refl
length-write_commits (c ∷ cs) area = length-write_commits cs (write_entries c.entries area) ∙ length-write_entries c.entries area

pub replay-append : (put : ℕ → List ℕ → List ℕ) (xs ys : List (List ℕ)) (area : List ℕ)
    → replay put (xs ++ ys) area ≡ replay put ys (replay put xs area)
unfolding replay
replay-append put [] ys area = refl
replay-append put (t ∷ xs) ys area = replay-append put xs ys (write_all put t area)

write_entries-append : (xs ys : List Entry) (area : List ℕ) → write_entries (xs ++ ys) area ≡ write_entries ys (write_entries xs area)
unfolding write_entries
write_entries-append [] ys area = refl
write_entries-append (e ∷ xs) ys area = write_entries-append xs ys (put_home area e.home e.block)

-- oldest first in the book, newest first in the trace
pub entries-replay : (b : ℕ) (tr : List Ev) (t : List ℕ) (area : List ℕ) → write_entries (entries_for b tr t) area ≡ write_all (place b tr) t area
unfolding write_entries entries_for entry_for write_all place
entries-replay b tr [] area = refl
entries-replay b tr (p ∷ ps) area = write_entries-append (entries_for b tr ps) (entry_for b tr p ∷ []) area ∙ rw (entries-replay b tr ps area)

pub commits-replay : (b : ℕ) (tr : List Ev) (cs : List Commit) (ts : List (List ℕ)) (area : List ℕ) → Matches b tr cs ts
    → write_commits cs area ≡ replay (place b tr) ts area
unfolding write_commits replay
commits-replay b tr [] [] area m = refl
commits-replay b tr [] (t ∷ ts) area m = absurd m
commits-replay b tr (c ∷ cs) [] area m = absurd m
commits-replay b tr (c ∷ cs) (t ∷ ts) area m = rw (m.0, entries-replay b tr t area) (commits-replay b tr cs ts (write_all (place b tr) t area) m.2)

-- a replay reads only what stands at its positions
write_all-ext : (put put' : ℕ → List ℕ → List ℕ) (t : List ℕ) (area : List ℕ) → All (λ p. (a : List ℕ) → put p a ≡ put' p a) t
    → write_all put t area ≡ write_all put' t area
unfolding write_all
write_all-ext put put' [] area h = refl
write_all-ext put put' (p ∷ ps) area h = h.0 (write_all put ps area) ∙ ap (put' p) (write_all-ext put put' ps area h.1)

pub replay-ext : (put put' : ℕ → List ℕ → List ℕ) (ts : List (List ℕ)) (area : List ℕ) → All (All (λ p. (a : List ℕ) → put p a ≡ put' p a)) ts
    → replay put ts area ≡ replay put' ts area
unfolding replay
replay-ext put put' [] area h = refl
replay-ext put put' (t ∷ ts) area h = ap (replay put ts) (write_all-ext put put' t area h.0) ∙ replay-ext put put' ts (write_all put' t area) h.1

-- a log that holds, at a position, what the trace has there
pub restore-place : (log : List ℕ) (G : ℕ) (tags : ℕ → Tag) (b : ℕ) (tr : List Ev) (p : ℕ) → home_of (tags p) ≡ home_on (7 * b) tr p
    → block_at log G p ≡ block_on (7 * b) tr p → (a : List ℕ) → restore log G tags p a ≡ place b tr p a
unfolding restore place
restore-place log G tags b tr p h k a = rw (h, k)

-- ---- home by home

-- whether some of the positions are for a home
unfoldable pub hits : (ℕ → ℕ) → ℕ → List ℕ → Bool
hits home h [] = false
hits home h (p ∷ ps) = eqb (home p) h || hits home h ps

unfoldable pub hits_any : (ℕ → ℕ) → ℕ → List (List ℕ) → Bool
hits_any home h [] = false
hits_any home h (t ∷ ts) = hits home h t || hits_any home h ts

-- homes and blocks in range
abbrev pub Fits : ℕ → ℕ → List Ev → ℕ → Type 0
Fits D b tr p = (home_on (7 * b) tr p < D) × (length (block_on (7 * b) tr p) ≡ 64)

used-fits : (base D : ℕ) (tr : List Ev) (p : ℕ) → Sound base D tr → used_at base tr p ≡ true
    → (home_on base tr p < D) × (length (block_on base tr p) ≡ 64)
unfolding used_at home_on block_on
used-fits base D [] p s u = absurd (false≢true u)
used-fits base D (e ∷ tr) p s u = go (eqb p (base + length tr)) u (used-fits base D tr p s.1)
  where
    go : (x : Bool) → cond x e.used (used_at base tr p) ≡ true
        → (used_at base tr p ≡ true → (home_on base tr p < D) × (length (block_on base tr p) ≡ 64))
        → (cond x e.home (home_on base tr p) < D) × (length (cond x e.block (block_on base tr p)) ≡ 64)
    go true u ih = let k = s.0 u in (k.home, k.block)
    go false u ih = ih u

-- those of a position in use are
pub fits-used : (D b : ℕ) (tr : List Ev) (p : ℕ) → Sound (7 * b) D tr → used_at (7 * b) tr p ≡ true → Fits D b tr p
fits-used D b tr p s u = used-fits (7 * b) D tr p s u

pub length-write_all : (b : ℕ) (tr : List Ev) (t : List ℕ) (area : List ℕ) → length (write_all (place b tr) t area) ≡ length area
unfolding write_all place
length-write_all b tr [] area = refl
length-write_all b tr (p ∷ ps) area =
    length-put_home (write_all (place b tr) ps area) (home_on (7 * b) tr p) (block_on (7 * b) tr p) ∙ length-write_all b tr ps area

pub length-replay : (b : ℕ) (tr : List Ev) (ts : List (List ℕ)) (area : List ℕ) → length (replay (place b tr) ts area) ≡ length area
unfolding replay
length-replay b tr [] area = refl
length-replay b tr (t ∷ ts) area = length-replay b tr ts (write_all (place b tr) t area) ∙ length-write_all b tr t area

module _ (D b : ℕ) (tr : List Ev) (h : ℕ) where
  abbrev Agree : List ℕ → List ℕ → Type 0
  Agree x y = home_at x h ≡ home_at y h

  place-home : (p : ℕ) (x y : List ℕ) → Fits D b tr p → length x ≡ 64 * D → length y ≡ 64 * D
      → (Agree x y ⊎ (eqb (home_on (7 * b) tr p) h ≡ true)) → Agree (place b tr p x) (place b tr p y)
  unfolding place
  place-home p x y f l r o = go (eqb (home_on (7 * b) tr p) h) refl o
    where
      j : ℕ
      j = home_on (7 * b) tr p

      bytes : List ℕ
      bytes = block_on (7 * b) tr p

      go : (d : Bool) → eqb j h ≡ d → Agree x y ⊎ (d ≡ true) → Agree (put_home x j bytes) (put_home y j bytes)
      go true e o =
          let q : j ≡ h = eqb-true j h e in
          rw (← q) (home_same x j bytes f.1 (omega (arith, f.0)) ∙ sym (home_same y j bytes f.1 (omega (arith, f.0))))
      go false e (inl a) =
          let q : h ≡ j → ⊥ = λ z. eqb-false j h e (sym z) in
          home-other x j bytes h q (omega (arith, f.1)) ∙ a ∙ sym (home-other y j bytes h q (omega (arith, f.1)))
      go false e (inr z) = absurd (false≢true z)

  write-home : (t : List ℕ) (x y : List ℕ) → All (Fits D b tr) t → length x ≡ 64 * D → length y ≡ 64 * D
      → (Agree x y ⊎ (hits (home_on (7 * b) tr) h t ≡ true)) → Agree (write_all (place b tr) t x) (write_all (place b tr) t y)
  unfolding write_all hits
  write-home [] x y f l r (inl a) = a
  write-home [] x y f l r (inr z) = absurd (false≢true z)
  write-home (p ∷ ps) x y f l r o =
      place-home p (write_all (place b tr) ps x) (write_all (place b tr) ps y) f.0 (length-write_all b tr ps x ∙ l) (length-write_all b tr ps y ∙ r)
      (go (eqb (home_on (7 * b) tr p) h) o (write-home ps x y f.1 l r))
    where
      go : (d : Bool) → Agree x y ⊎ ((d || hits (home_on (7 * b) tr) h ps) ≡ true)
          → ((Agree x y ⊎ (hits (home_on (7 * b) tr) h ps ≡ true)) → Agree (write_all (place b tr) ps x) (write_all (place b tr) ps y))
          → Agree (write_all (place b tr) ps x) (write_all (place b tr) ps y) ⊎ (d ≡ true)
      go true o ih = inr refl
      go false o ih = inl (ih o)

  -- two areas that agree at a home, or a transaction that writes it
  pub replay-home : (ts : List (List ℕ)) (x y : List ℕ) → All (All (Fits D b tr)) ts → length x ≡ 64 * D → length y ≡ 64 * D
      → ((home_at x h ≡ home_at y h) ⊎ (hits_any (home_on (7 * b) tr) h ts ≡ true))
      → home_at (replay (place b tr) ts x) h ≡ home_at (replay (place b tr) ts y) h
  unfolding replay hits_any
  replay-home [] x y f l r (inl a) = a
  replay-home [] x y f l r (inr z) = absurd (false≢true z)
  replay-home (t ∷ ts) x y f l r o =
      replay-home ts (write_all (place b tr) t x) (write_all (place b tr) t y) f.1 (length-write_all b tr t x ∙ l) (length-write_all b tr t y ∙ r)
      (go (hits (home_on (7 * b) tr) h t) o (write-home t x y f.0 l r))
    where
      go : (d : Bool) → Agree x y ⊎ ((d || hits_any (home_on (7 * b) tr) h ts) ≡ true)
          → ((Agree x y ⊎ (d ≡ true)) → Agree (write_all (place b tr) t x) (write_all (place b tr) t y))
          → Agree (write_all (place b tr) t x) (write_all (place b tr) t y) ⊎ (hits_any (home_on (7 * b) tr) h ts ≡ true)
      go d (inl a) w = inl (w (inl a))
      go true (inr z) w = inl (w (inr refl))
      go false (inr z) w = inr z

-- so the areas that a replay leaves are equal
pub replay-area : (D b : ℕ) (tr : List Ev) (ts : List (List ℕ)) (x y : List ℕ) → All (All (Fits D b tr)) ts → length x ≡ 64 * D → length y ≡ 64 * D
    → ((h : ℕ) → h < D → (home_at x h ≡ home_at y h) ⊎ (hits_any (home_on (7 * b) tr) h ts ≡ true))
    → replay (place b tr) ts x ≡ replay (place b tr) ts y
replay-area D b tr ts x y f l r o =
    area-ext (replay (place b tr) ts x) (replay (place b tr) ts y) D (length-replay b tr ts x ∙ l) (length-replay b tr ts y ∙ r)
    (λ h d. replay-home D b tr h ts x y f l r (o h d))

-- ---- the homes that the book's commits touch

has_home-append : (h : ℕ) (xs ys : List Entry) → has_home h (xs ++ ys) ≡ (has_home h xs || has_home h ys)
unfolding has_home
has_home-append h [] ys = refl
has_home-append h (e ∷ xs) ys = go (eqb e.home h) (has_home-append h xs ys)
  where
    go : (d : Bool) → has_home h (xs ++ ys) ≡ (has_home h xs || has_home h ys) → (d || has_home h (xs ++ ys)) ≡ ((d || has_home h xs) || has_home h ys)
    go true q = refl
    go false q = q

has_home-hits : (b : ℕ) (tr : List Ev) (h : ℕ) (t : List ℕ) → has_home h (entries_for b tr t) ≡ hits (home_on (7 * b) tr) h t
unfolding has_home entries_for entry_for hits
has_home-hits b tr h [] = refl
has_home-hits b tr h (p ∷ ps) =
    has_home-append h (entries_for b tr ps) (entry_for b tr p ∷ [])
    ∙ rw (has_home-hits b tr h ps, or-false (eqb (home_on (7 * b) tr p) h)) (or_comm (hits (home_on (7 * b) tr) h ps) (eqb (home_on (7 * b) tr p) h))

pub ticket-above : (p c : ℕ) → ltb c (p + 1) ≡ leb c p
ticket-above p c = go (leb c p) refl
  where
    go : (d : Bool) → leb c p ≡ d → ltb c (p + 1) ≡ d
    go true e = lt-ltb c (p + 1) (omega (arith, leb-true c p e))
    go false e = le-ltb c (p + 1) (omega (arith, leb-false c p e))

pub touches-hits : (b : ℕ) (tr : List Ev) (c h : ℕ) (cs : List Commit) (ts : List (List ℕ)) → Matches b tr cs ts
    → touches_above c h cs ≡ hits_any (home_on (7 * b) tr) h (closing_from c ts)
unfolding touches_above closing_from hits_any
touches-hits b tr c h [] [] m = refl
touches-hits b tr c h [] (t ∷ ts) m = absurd m
touches-hits b tr c h (k ∷ cs) [] m = absurd m
touches-hits b tr c h (k ∷ cs) (t ∷ ts) m =
    rw (m.0, m.1, ticket-above (closer_of t) c, has_home-hits b tr h t, touches-hits b tr c h cs ts m.2) (go (leb c (closer_of t)))
  where
    go : (d : Bool) → ((d && hits (home_on (7 * b) tr) h t) || hits_any (home_on (7 * b) tr) h (closing_from c ts))
        ≡ hits_any (home_on (7 * b) tr) h (cond d (t ∷ closing_from c ts) (closing_from c ts))
    go true = refl
    go false = refl

pub touches-old : (D c h : ℕ) (old new : List Commit) → OldCommits D old → touches_above c h (old ++ new) ≡ touches_above c h new
unfolding touches_above
touches-old D c h [] new o = refl
touches-old D c h (k ∷ ks) new o = rw (o.0, le-ltb c 0 (omega arith)) (touches-old D c h ks new o.2)
