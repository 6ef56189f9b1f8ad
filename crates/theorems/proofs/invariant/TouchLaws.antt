-- Laws of the homes after some of the book's commits, home by home: which commits touch a home, and that a home which none of them touches stays.
-- Last, the run after a crash: it has every commit below a position up to which everything persisted. Assumes nothing.
use Prim.Native.Nat.{ℕ, suc, ◌+◌, ◌*◌, ◌≤◌, ◌<◌}
use mathlib.Core.Path.{◌≡◌, refl, sym, ap, ◌∙◌}
use mathlib.Core.Bool.{Bool, true, false, cond, ◌&&◌, ◌||◌, false≢true, or-true}
use mathlib.Core.List.{List, [], ◌∷◌, ◌++◌, append_assoc}
use native.Mathlib.Omega.{arith}
use lib.Dec.{eqb, leb, ltb}
use lib.ListN.{length}
use borrow.Author.Tests.{eqb-true, eqb-false, leb-true, leb-false, ltb-true, lt-leb, lt-ltb}
use Rattle.model.specs.Tag.{present}
use Rattle.model.specs.Layout.{home_at, put_home}
use Rattle.model.specs.Book.{Entry, Commit, all_survive, run, write_entries, write_commits, homes_after, newest_entry}
use Rattle.model.specs.DemandTwo.{closed_below}
use Rattle.model_laws.proofs.bytes.ByteLaws.{length-zeros}
use Rattle.model_laws.proofs.bytes.LayoutLaws.{home_same, home-other, length-put_home}
use Rattle.model_laws.proofs.trace.Trace.{Ev, hist, tag_at, closer_of, oldest_of, all_landed}
use Rattle.model_laws.proofs.trace.TraceLaws.{All, all_map, all_snoc, Falling, Rising, Names, Named, done-falling, done-rising, done-named}
use Rattle.theorems.proofs.invariant.Invariant.{Sound, entry_for, entries_for, Matches, OldEntries, OldCommits, Commits, has_home, touches_above, landed_in}
use Rattle.theorems.proofs.invariant.LogStep.{used-present}
use Rattle.theorems.proofs.invariant.RunLaws.{survive-landed, run-old, closed_below-old}
use Rattle.theorems.proofs.invariant.BookReplay.{length-write_commits, fits-used}

-- ---- entries whose home and block are in range

abbrev pub EntryFits : ℕ → Entry → Type 0
EntryFits D e = (e.home < D) × (length e.block ≡ 64)

abbrev pub CommitFits : ℕ → Commit → Type 0
CommitFits D c = All (EntryFits D) c.entries

pub all_append : {A : Type 0} (P : A → Type 0) (xs ys : List A) → All P xs → All P ys → All P (xs ++ ys)
all_append P [] ys h k = k
all_append P (x ∷ xs) ys h k = (h.0, all_append P xs ys h.1 k)

entries-old : (D : ℕ) (es : List Entry) → OldEntries D es → All (EntryFits D) es
entries-old D [] h = tt
entries-old D (e ∷ es) h = ((h.1, h.2), entries-old D es h.3)

fit-old : (D : ℕ) (cs : List Commit) → OldCommits D cs → All (CommitFits D) cs
fit-old D [] h = tt
fit-old D (c ∷ cs) h = (entries-old D c.entries h.1, fit-old D cs h.2)

fit-entries : (b D : ℕ) (tr : List Ev) (t : List ℕ) → Sound (7 * b) D tr → All (λ p. present (tag_at (7 * b) tr p) ≡ true) t
    → All (EntryFits D) (entries_for b tr t)
unfolding entries_for entry_for
fit-entries b D tr [] s h = tt
fit-entries b D tr (p ∷ ps) s h =
    all_snoc (EntryFits D) (entries_for b tr ps) (entry_for b tr p) (fit-entries b D tr ps s h.1)
    (fits-used D b tr p s (used-present (7 * b) tr p ∙ h.0))

fit-new : (b D : ℕ) (tr : List Ev) (cs : List Commit) (ts : List (List ℕ)) → Sound (7 * b) D tr → All (Named (tag_at (7 * b) tr)) ts
    → Matches b tr cs ts → All (CommitFits D) cs
fit-new b D tr [] [] s n m = tt
fit-new b D tr [] (t ∷ ts) s n m = absurd m
fit-new b D tr (c ∷ cs) [] s n m = absurd m
fit-new b D tr (c ∷ cs) (t ∷ ts) s n m = (
  rw m.0
      (fit-entries b D tr t s (all_map (Names (tag_at (7 * b) tr) (oldest_of t)) (λ p. present (tag_at (7 * b) tr p) ≡ true) (λ p h. h.0) t n.0)),
  fit-new b D tr cs ts s n.1 m.2,
)

pub commits-fit : (D b : ℕ) (tr : List Ev) (old cs : List Commit) → Sound (7 * b) D tr → Commits D b tr old cs → All (CommitFits D) cs
commits-fit D b tr old cs s k =
    rw k.split
    (all_append (CommitFits D) old k.new (fit-old D old k.past)
    (fit-new b D tr k.new (hist (7 * b) tr).done s (done-named (7 * b) tr) k.matches))

-- ---- homes written

pub length-homes_after : (D : ℕ) (cs : List Commit) → length (homes_after D cs) ≡ 64 * D
unfolding homes_after
length-homes_after D cs = length-write_commits cs _ ∙ length-zeros (64 * D)

home-put : (D : ℕ) (e : Entry) (area : List ℕ) (h : ℕ) → EntryFits D e → length area ≡ 64 * D
    → home_at (put_home area e.home e.block) h ≡ cond (eqb e.home h) e.block (home_at area h)
home-put D e area h f l = go (eqb e.home h) refl
  where
    go : (b : Bool) → eqb e.home h ≡ b → home_at (put_home area e.home e.block) h ≡ cond b e.block (home_at area h)
    go true t =
        let q : e.home ≡ h = eqb-true e.home h t in
        rw (← q) (home_same area e.home e.block f.1 (omega (arith, f.0)))
    go false t = home-other area e.home e.block h (λ q. eqb-false e.home h t (sym q)) (omega (arith, f.1))

-- a home after some entries is the newest block for it
pub home_at-entries : (D : ℕ) (es : List Entry) (area : List ℕ) (h : ℕ) → All (EntryFits D) es → length area ≡ 64 * D
    → home_at (write_entries es area) h ≡ newest_entry h es (home_at area h)
unfolding write_entries newest_entry
home_at-entries D [] area h f l = refl
home_at-entries D (e ∷ es) area h f l =
    home_at-entries D es (put_home area e.home e.block) h f.1 (length-put_home area e.home e.block ∙ l)
    ∙ rw (home-put D e area h f.0 l)

newest-none : (h : ℕ) (es : List Entry) (block : List ℕ) → has_home h es ≡ false → newest_entry h es block ≡ block
unfolding newest_entry has_home
newest-none h [] block n = refl
newest-none h (e ∷ es) block n = go (eqb e.home h) n (newest-none h es block)
  where
    go : (b : Bool) → (b || has_home h es) ≡ false → (has_home h es ≡ false → newest_entry h es block ≡ block)
        → newest_entry h es (cond b e.block block) ≡ block
    go true n ih = absurd (false≢true (sym n))
    go false n ih = ih n

-- ---- commits that touch a home

neither : (a b : Bool) → (a || b) ≡ false → (a ≡ false) × (b ≡ false)
neither true b h = absurd (false≢true (sym h))
neither false b h = (refl, h)

pub touches-append : (c h : ℕ) (xs ys : List Commit) → touches_above c h (xs ++ ys) ≡ (touches_above c h xs || touches_above c h ys)
unfolding touches_above
touches-append c h [] ys = refl
touches-append c h (k ∷ xs) ys = go (ltb c k.ticket && has_home h k.entries) (touches-append c h xs ys)
  where
    go : (b : Bool) → touches_above c h (xs ++ ys) ≡ (touches_above c h xs || touches_above c h ys)
        → (b || touches_above c h (xs ++ ys)) ≡ ((b || touches_above c h xs) || touches_above c h ys)
    go true q = refl
    go false q = q

pub touches-left : (c h : ℕ) (xs ys : List Commit) → touches_above c h xs ≡ true → touches_above c h (xs ++ ys) ≡ true
touches-left c h xs ys t = touches-append c h xs ys ∙ rw t

-- more commits touch it, and those above a lower ticket too
pub touches-more : (c h bound bound' : ℕ) (cs : List Commit) → bound ≤ bound' → touches_above c h (closed_below bound cs) ≡ true
    → touches_above c h (closed_below bound' cs) ≡ true
unfolding closed_below touches_above
touches-more c h bound bound' [] l t = t
touches-more c h bound bound' (k ∷ cs) l t =
    go (leb k.ticket bound) (leb k.ticket bound') refl refl t (touches-more c h bound bound' cs l)
  where
    here : Bool
    here = ltb c k.ticket && has_home h k.entries

    both : (b : Bool) → (b || touches_above c h (closed_below bound cs)) ≡ true
        → (touches_above c h (closed_below bound cs) ≡ true → touches_above c h (closed_below bound' cs) ≡ true)
        → (b || touches_above c h (closed_below bound' cs)) ≡ true
    both true q ih = refl
    both false q ih = ih q

    go : (b b' : Bool) → leb k.ticket bound ≡ b → leb k.ticket bound' ≡ b'
        → touches_above c h (cond b (k ∷ closed_below bound cs) (closed_below bound cs)) ≡ true
        → (touches_above c h (closed_below bound cs) ≡ true → touches_above c h (closed_below bound' cs) ≡ true)
        → touches_above c h (cond b' (k ∷ closed_below bound' cs) (closed_below bound' cs)) ≡ true
    go true true p q t ih = both here t ih
    go true false p q t ih = absurd (omega (arith, leb-true k.ticket bound p, leb-false k.ticket bound' q))
    go false true p q t ih = rw (ih t) (or-true here)
    go false false p q t ih = ih t

pub touches-lower : (c c' h : ℕ) (cs : List Commit) → c' ≤ c → touches_above c h cs ≡ true → touches_above c' h cs ≡ true
unfolding touches_above
touches-lower c c' h [] l t = t
touches-lower c c' h (k ∷ cs) l t = go (ltb c k.ticket) (has_home h k.entries) refl refl t (touches-lower c c' h cs l)
  where
    go : (b d : Bool) → ltb c k.ticket ≡ b → has_home h k.entries ≡ d → ((b && d) || touches_above c h cs) ≡ true
        → (touches_above c h cs ≡ true → touches_above c' h cs ≡ true)
        → ((ltb c' k.ticket && has_home h k.entries) || touches_above c' h cs) ≡ true
    go true true p q t ih = rw (lt-ltb c' k.ticket (omega (arith, ltb-true c k.ticket p)), q)
    go true false p q t ih = rw (ih t) (or-true (ltb c' k.ticket && has_home h k.entries))
    go false d p q t ih = rw (ih t) (or-true (ltb c' k.ticket && has_home h k.entries))

-- a home that no commit between two bounds touches is the same after the commits below either
module _ (D h c c' : ℕ) (order : c ≤ c') where
  untouched : (cs : List Commit) (x y : List ℕ) → All (CommitFits D) cs → length x ≡ 64 * D → length y ≡ 64 * D
      → touches_above c h (closed_below c' cs) ≡ false → home_at x h ≡ home_at y h
      → home_at (write_commits (closed_below c cs) x) h ≡ home_at (write_commits (closed_below c' cs) y) h
  unfolding closed_below touches_above write_commits
  untouched [] x y f l r n e = e
  untouched (k ∷ cs) x y f l r n e = go (leb k.ticket c) (leb k.ticket c') refl refl n (λ v w. untouched cs v w f.1)
    where
      x' : List ℕ
      x' = write_entries k.entries x

      y' : List ℕ
      y' = write_entries k.entries y

      right : length y' ≡ 64 * D
      right = length-write_commits (k ∷ []) y ∙ r

      go : (b b' : Bool) → leb k.ticket c ≡ b → leb k.ticket c' ≡ b'
          → touches_above c h (cond b' (k ∷ closed_below c' cs) (closed_below c' cs)) ≡ false
          → ((v w : List ℕ) → length v ≡ 64 * D → length w ≡ 64 * D → touches_above c h (closed_below c' cs) ≡ false → home_at v h ≡ home_at w h
          → home_at (write_commits (closed_below c cs) v) h ≡ home_at (write_commits (closed_below c' cs) w) h)
          → home_at (write_commits (cond b (k ∷ closed_below c cs) (closed_below c cs)) x) h
          ≡ home_at (write_commits (cond b' (k ∷ closed_below c' cs) (closed_below c' cs)) y) h
      go true true p q n ih =
          let z = neither (ltb c k.ticket && has_home h k.entries) _ n in
          ih x' y' (length-write_commits (k ∷ []) x ∙ l) right z.1
          (home_at-entries D k.entries x h f.0 l ∙ ap (newest_entry h k.entries) e ∙ sym (home_at-entries D k.entries y h f.0 r))
      go true false p q n ih = absurd (omega (arith, leb-true k.ticket c p, leb-false k.ticket c' q))
      go false true p q n ih =
          let z = neither (ltb c k.ticket && has_home h k.entries) _ n in
          let u : has_home h k.entries ≡ false = rw (lt-ltb c k.ticket (leb-false k.ticket c p)) at z.0 in
          ih x y' l right z.1 (e ∙ sym (newest-none h k.entries (home_at y h) u) ∙ sym (home_at-entries D k.entries y h f.0 r))
      go false false p q n ih = ih x y l r n e

  pub homes_after-untouched : (cs : List Commit) → All (CommitFits D) cs → touches_above c h (closed_below c' cs) ≡ false
      → home_at (homes_after D (closed_below c cs)) h ≡ home_at (homes_after D (closed_below c' cs)) h
  unfolding homes_after
  homes_after-untouched cs f n = untouched cs _ _ f (length-zeros (64 * D)) (length-zeros (64 * D)) n refl

-- ---- the run has every commit below a position up to which everything persisted

abbrev pub LandedBelow : ℕ → ℕ → (ℕ → Bool) → Type 0
LandedBelow base c landed = (p : ℕ) → base ≤ p → p < c → landed p ≡ true

landed-falling : (base high c : ℕ) (landed : ℕ → Bool) (t : List ℕ) → LandedBelow base c landed → Falling base high t → closer_of t < c
    → all_landed landed t ≡ true
unfolding all_landed closer_of
landed-falling base high c landed [] a f l = refl
landed-falling base high c landed (p ∷ ps) a f l = rw (a p f.0 l) (go ps (landed-falling base p c landed ps a f.2) f.2)
  where
    go : (qs : List ℕ) → (closer_of qs < c → all_landed landed qs ≡ true) → Falling base p qs → all_landed landed qs ≡ true
    go [] ih g = refl
    go (q ∷ qs) ih g = ih (omega arith)

closed-later : (b c : ℕ) (tr : List Ev) (low high : ℕ) (cs : List Commit) (ts : List (List ℕ)) → c ≤ low → Rising low high ts → Matches b tr cs ts
    → closed_below c cs ≡ []
unfolding closed_below
closed-later b c tr low high [] [] h r m = refl
closed-later b c tr low high [] (t ∷ ts) h r m = absurd m
closed-later b c tr low high (k ∷ cs) [] h r m = absurd m
closed-later b c tr low high (k ∷ cs) (t ∷ ts) h r m =
    rw (lt-leb k.ticket c (omega (arith, m.1))) (closed-later b c tr (suc (closer_of t)) high cs ts (omega arith) r.2 m.2)

abbrev pub Begins : List Commit → List Commit → Type 0
Begins xs ys = (rest : List Commit) × (ys ≡ xs ++ rest)

run-new : (b c : ℕ) (tr : List Ev) (fs : List (ℕ → Bool)) (low high : ℕ) (cs : List Commit) (ts : List (List ℕ))
    → LandedBelow (7 * b) c (landed_in b fs) → Rising low high ts → All (Falling (7 * b) (7 * b + length tr)) ts → Matches b tr cs ts
    → Begins (closed_below c cs) (run fs cs)
unfolding run closed_below
run-new b c tr fs low high [] [] a r f m = ([], refl)
run-new b c tr fs low high [] (t ∷ ts) a r f m = absurd m
run-new b c tr fs low high (k ∷ cs) [] a r f m = absurd m
run-new b c tr fs low high (k ∷ cs) (t ∷ ts) a r f m =
    go (leb k.ticket c) refl (run-new b c tr fs (suc (closer_of t)) high cs ts a r.2 f.1 m.2)
  where
    lands : closer_of t < c → all_survive fs k.entries ≡ true
    lands l = rw m.0 (survive-landed b tr fs t ∙ landed-falling (7 * b) (7 * b + length tr) c (landed_in b fs) t a f.0 l)

    none-later : c < k.ticket → closed_below c cs ≡ []
    none-later l = closed-later b c tr (suc (closer_of t)) high cs ts (omega (arith, m.1)) r.2 m.2

    go : (d : Bool) → leb k.ticket c ≡ d → Begins (closed_below c cs) (run fs cs)
        → Begins (cond d (k ∷ closed_below c cs) (closed_below c cs)) (cond (all_survive fs k.entries) (k ∷ run fs cs) [])
    go true e ih =
        let l : closer_of t < c = omega (arith, m.1, leb-true k.ticket c e) in
        (ih.0, rw (lands l) (ap (λ (x : List Commit). k ∷ x) ih.1))
    go false e ih = (cond (all_survive fs k.entries) (k ∷ run fs cs) [], rw (none-later (leb-false k.ticket c e)))

pub run-closed : (D b c : ℕ) (tr : List Ev) (old cs : List Commit) (fs : List (ℕ → Bool)) → Commits D b tr old cs
    → LandedBelow (7 * b) c (landed_in b fs) → Begins (closed_below c cs) (run fs cs)
run-closed D b c tr old cs fs k a =
    (new.0, rw (k.split, run-old D fs old k.new k.past, closed_below-old D c old k.new k.past, new.1, append_assoc))
  where
    new : Begins (closed_below c k.new) (run fs k.new)
    new =
        run-new b c tr fs (7 * b) (7 * b + length tr) k.new (hist (7 * b) tr).done a (done-rising (7 * b) tr) (done-falling (7 * b) tr) k.matches

pub touches-run : (D b c low h : ℕ) (tr : List Ev) (old cs : List Commit) (fs : List (ℕ → Bool)) → Commits D b tr old cs
    → LandedBelow (7 * b) c (landed_in b fs) → touches_above low h (closed_below c cs) ≡ true → touches_above low h (run fs cs) ≡ true
touches-run D b c low h tr old cs fs k a t =
    let r = run-closed D b c tr old cs fs k a in
    rw r.1 (touches-left low h (closed_below c cs) r.0 t)
