-- The book under labels: what its commits wrote to the homes of a unit is what their labels say, for every front of its list. Assumes nothing.
use Prim.Native.Nat.{ℕ, zero, suc, ◌+◌, ◌*◌, ◌/◌, ◌≤◌}
use mathlib.Core.Path.{◌≡◌, refl, sym, ap, ◌∙◌}
use mathlib.Core.Logic.{◌⊎◌, inl, inr}
use mathlib.Core.Bool.{cond}
use mathlib.Core.List.{List, [], ◌∷◌, ◌++◌}
use native.Mathlib.Omega.{arith}
use lib.Dec.{eqb}
use lib.ListN.{length, take}
use lib.Seq.{take-add, length-take-le, take_all}
use borrow.Author.Tests.{eq-eqb, ne_eqb}
use Rattle.model.specs.Bytes.{part, puts}
use Rattle.model.specs.Layout.{put_home}
use Rattle.model.specs.Book.{Entry, Commit, Held, write_entries, write_commits}
use Rattle.model.specs.DemandTwo.{held_entries}
use Rattle.acts.specs.Units.{Label, other, unit, last_unit, Apart}
use Rattle.model_laws.proofs.bytes.ByteLaws.{puts-append, puts-nil}
use Rattle.model_laws.proofs.bytes.LayoutLaws.{part_apart, part-written, length-put_home}

-- ---- the entries of a unit

-- the first n blocks of a strip, each with its home
unfoldable pub spread : ℕ → List ℕ → ℕ → List Held
spread home blocks zero = []
spread home blocks (suc n) = spread home blocks n ++ (record { home = home + n; block = part blocks (64 * n) 64 } ∷ [])

unfoldable pub write_held : List Held → List ℕ → List ℕ
write_held [] area = area
write_held (h ∷ hs) area = write_held hs (put_home area h.home h.block)

pub write-held : (es : List Entry) (area : List ℕ) → write_entries es area ≡ write_held (held_entries es) area
unfolding write_entries write_held held_entries
write-held [] area = refl
write-held (e ∷ es) area = write-held es (put_home area e.home e.block)

write-append : (xs ys : List Held) (area : List ℕ) → write_held (xs ++ ys) area ≡ write_held ys (write_held xs area)
unfolding write_held
write-append [] ys area = refl
write-append (h ∷ xs) ys area = write-append xs ys (put_home area h.home h.block)

pub held-append : (xs ys : List Entry) → held_entries (xs ++ ys) ≡ held_entries xs ++ held_entries ys
unfolding held_entries
held-append [] ys = refl
held-append (e ∷ xs) ys = ap {B = List Held} (λ r. record { home = e.home; block = e.block } ∷ r) (held-append xs ys)

-- written one by one they are written as one
one_more : (home : ℕ) (blocks : List ℕ) (n : ℕ) (area : List ℕ) → 64 * suc n ≤ length blocks
    → put_home (puts area (64 * home) (take (64 * n) blocks)) (home + n) (part blocks (64 * n) 64) ≡ puts area (64 * home) (take (64 * suc n) blocks)
unfolding put_home
one_more home blocks n area l =
    let q : 64 * suc n ≡ 64 * n + 64 = omega arith in
    let e : take (64 * suc n) blocks ≡ take (64 * n) blocks ++ part blocks (64 * n) 64 =
    ap (λ (k : ℕ). take k blocks) q ∙ take-add (64 * n) 64 blocks ∙ (unfold part in refl) in
    sym (ap (puts area (64 * home)) e ∙ puts-append area (64 * home) (take (64 * n) blocks) (part blocks (64 * n) 64)
    ∙ ap (λ (k : ℕ). puts (puts area (64 * home) (take (64 * n) blocks)) k (part blocks (64 * n) 64)) where_next)
  where
    where_next : 64 * home + length (take (64 * n) blocks) ≡ 64 * (home + n)
    where_next = omega (arith, length-take-le (64 * n) blocks (omega arith))

write-spread : (home : ℕ) (blocks : List ℕ) (n : ℕ) (area : List ℕ) → 64 * n ≤ length blocks
    → write_held (spread home blocks n) area ≡ puts area (64 * home) (take (64 * n) blocks)
unfolding spread write_held
write-spread home blocks zero area l = sym (puts-nil area (64 * home))
write-spread home blocks (suc n) area l =
    write-append (spread home blocks n) (record { home = home + n; block = part blocks (64 * n) 64 } ∷ []) area
    ∙ ap (λ (a : List ℕ). put_home a (home + n) (part blocks (64 * n) 64)) (write-spread home blocks n area (omega arith))
    ∙ one_more home blocks n area l

-- ---- entries outside

abbrev pub Outside : ℕ → ℕ → List Held → Type 0
Outside home n [] = Unit {0}
Outside home n (h ∷ hs) = (length h.block ≡ 64) × Apart home n h.home 1 × Outside home n hs

pub outside-append : (home n : ℕ) (xs ys : List Held) → Outside home n xs → Outside home n ys → Outside home n (xs ++ ys)
outside-append home n [] ys o p = p
outside-append home n (h ∷ xs) ys o p = (o.0, o.1, outside-append home n xs ys o.2 p)

apart-part : (home n h : ℕ) (block area : List ℕ) → length block ≡ 64 → Apart home n h 1
    → part (put_home area h block) (64 * home) (64 * n) ≡ part area (64 * home) (64 * n)
unfolding put_home
apart-part home n h block area l (inl a) = part_apart area (64 * h) block (64 * home) (64 * n) (λ x y. absurd (omega (arith, a, l)))
apart-part home n h block area l (inr a) = part_apart area (64 * h) block (64 * home) (64 * n) (λ x y. absurd (omega (arith, a, l)))

outside-part : (home n : ℕ) (hs : List Held) (area : List ℕ) → Outside home n hs
    → part (write_held hs area) (64 * home) (64 * n) ≡ part area (64 * home) (64 * n)
unfolding write_held
outside-part home n [] area o = refl
outside-part home n (h ∷ hs) area o =
    outside-part home n hs (put_home area h.home h.block) o.2 ∙ apart-part home n h.home h.block area o.0 o.1

length-written : (hs : List Held) (area : List ℕ) → length (write_held hs area) ≡ length area
unfolding write_held
length-written [] area = refl
length-written (h ∷ hs) area = length-written hs (put_home area h.home h.block) ∙ length-put_home area h.home h.block

pub commits-length : (cs : List Commit) (area : List ℕ) → length (write_commits cs area) ≡ length area
unfolding write_commits
commits-length [] area = refl
commits-length (c ∷ cs) area =
    commits-length cs (write_entries c.entries area) ∙ ap length (write-held c.entries area) ∙ length-written (held_entries c.entries) area

-- ---- labels

-- "a commit labelled `unit` has exactly the entries home, home + 1, .. with those blocks in order"; one that is labelled otherwise, or a unit at
-- another home, has none in this unit
abbrev pub Says : ℕ → ℕ → List Held → Label → Type 0
Says home n hs other = Outside home n hs
Says home n hs (unit h blocks) =
    (hs ≡ spread h blocks (length blocks / 64)) × (((h ≡ home) × (length blocks ≡ 64 * n)) ⊎ ((h ≡ home → ⊥) × Outside home n hs))

abbrev pub Fit : ℕ → ℕ → List Commit → List Label → Type 0
Fit home n [] [] = Unit {0}
Fit home n [] (l ∷ ls) = ⊥
Fit home n (c ∷ cs) [] = ⊥
Fit home n (c ∷ cs) (l ∷ ls) = Says home n (held_entries c.entries) l × Fit home n cs ls

pub fit_length : (home n : ℕ) (cs : List Commit) (ls : List Label) → Fit home n cs ls → length ls ≡ length cs
fit_length home n [] [] f = refl
fit_length home n [] (l ∷ ls) f = absurd f
fit_length home n (c ∷ cs) [] f = absurd f
fit_length home n (c ∷ cs) (l ∷ ls) f = ap suc (fit_length home n cs ls f.1)

pub fit-take : (home n k : ℕ) (cs : List Commit) (ls : List Label) → Fit home n cs ls → Fit home n (take k cs) (take k ls)
fit-take home n zero cs ls f = tt
fit-take home n (suc k) [] [] f = tt
fit-take home n (suc k) [] (l ∷ ls) f = absurd f
fit-take home n (suc k) (c ∷ cs) [] f = absurd f
fit-take home n (suc k) (c ∷ cs) (l ∷ ls) f = (f.0, fit-take home n k cs ls f.1)

pub fit-snoc : (home n : ℕ) (cs : List Commit) (ls : List Label) (c : Commit) (l : Label) → Fit home n cs ls → Says home n (held_entries c.entries) l
    → Fit home n (cs ++ (c ∷ [])) (ls ++ (l ∷ []))
fit-snoc home n [] [] c l f s = (s, tt)
fit-snoc home n [] (m ∷ ls) c l f s = absurd f
fit-snoc home n (d ∷ cs) [] c l f s = absurd f
fit-snoc home n (d ∷ cs) (m ∷ ls) c l f s = (f.0, fit-snoc home n cs ls c l f.1 s)

-- what one commit leaves in the unit
unfoldable after_one : ℕ → List ℕ → Label → List ℕ
after_one home blocks other = blocks
after_one home blocks (unit h bs) = cond (eqb h home) bs blocks

one-says : (home n D : ℕ) (hs : List Held) (l : Label) (area : List ℕ) → home + n ≤ D → length area ≡ 64 * D → Says home n hs l
    → part (write_held hs area) (64 * home) (64 * n) ≡ after_one home (part area (64 * home) (64 * n)) l
unfolding after_one
one-says home n D hs other area d a s = outside-part home n hs area s
one-says home n D hs (unit h blocks) area d a (e, inl (p, q)) =
    rw (eq-eqb h home p)
    (ap (λ (x : List Held). part (write_held x area) (64 * home) (64 * n)) e ∙ whole p q)
  where
    many : length blocks ≡ 64 * n → length blocks / 64 ≡ n
    many q = rw q (omega arith)

    whole : h ≡ home → length blocks ≡ 64 * n → part (write_held (spread h blocks (length blocks / 64)) area) (64 * home) (64 * n) ≡ blocks
    whole p q =
        rw (write-spread h blocks (length blocks / 64) area (omega (arith, many q, q)), many q, p, take_all (64 * n) blocks (omega (arith, q)))
        (part-written area (64 * home) blocks (64 * n) q (omega (arith, a, d)))
one-says home n D hs (unit h blocks) area d a (e, inr (p, o)) = rw (ne_eqb h home p) (outside-part home n hs area o)

last_one : (home : ℕ) (blocks : List ℕ) (l : Label) (ls : List Label) → last_unit home blocks (l ∷ ls) ≡ last_unit home (after_one home blocks l) ls
unfolding last_unit after_one
last_one home blocks other ls = refl
last_one home blocks (unit h bs) ls = refl

-- what the commits leave there is what the labels say
pub labels-say : (home n D : ℕ) (cs : List Commit) (ls : List Label) (area : List ℕ) → home + n ≤ D → length area ≡ 64 * D → Fit home n cs ls
    → part (write_commits cs area) (64 * home) (64 * n) ≡ last_unit home (part area (64 * home) (64 * n)) ls
unfolding write_commits
labels-say home n D [] [] area d a f = unfold last_unit in refl
labels-say home n D [] (l ∷ ls) area d a f = absurd f
labels-say home n D (c ∷ cs) [] area d a f = absurd f
labels-say home n D (c ∷ cs) (l ∷ ls) area d a f =
    let hs : List Held = held_entries c.entries in
    let e : write_entries c.entries area ≡ write_held hs area = write-held c.entries area in
    ap (λ (x : List ℕ). part (write_commits cs x) (64 * home) (64 * n)) e ∙ labels-say home n D cs ls (write_held hs area) d (length-written hs area ∙ a) f.1
    ∙ ap (λ (b : List ℕ). last_unit home b ls) (one-says home n D hs l area d a f.0) ∙ sym (last_one home (part area (64 * home) (64 * n)) l ls)
