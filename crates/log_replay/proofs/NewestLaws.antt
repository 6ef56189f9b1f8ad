-- The newest entries of one word's homes along its chain: what lies between two entries changes nothing, each entry is taken as the definition
-- says, and at the chain's end the newest ones are found. Assumes nothing.
use mathlib.Core.Path.{◌≡◌, refl, sym, ap, ◌∙◌}
use mathlib.Core.Bool.{Bool, true, false, cond, false≢true}
use mathlib.Core.List.{List}
use Prim.Native.Nat.{ℕ, zero, suc, ◌+◌, ◌-◌, ◌*◌, ◌/◌, ◌%◌, ◌^◌, ◌≤◌, ◌<◌}
use native.Mathlib.Decide.{ℕ_discrete}
use native.Mathlib.Omega.{arith}
use borrow.Author.Tests.{eq-eqb, ne_eqb, eqb-true, eqb-false, lt-ltb, le-ltb, ltb-true}
use lib.Dec.{eqb, ltb}
use lib.ListN.{length, get_or, set, replicate, length-set, length-replicate}
use lib.Seq.{get_or-set_same, get_or-set_other}
use Rattle.model.specs.Tag.{present, field, home_field, read_tag}
use Rattle.model_laws.proofs.bytes.TagLaws.{entry-fields, entry_known, closing-fields, closing-known}
use Rattle.model.specs.Layout.{entry_at}
use Rattle.model.specs.Commit.{newest}
use Rattle.model.specs.declared.Tag.{Tag}
use Rattle.model.specs.declared.Tag.TheVariants.{Nothing, Entry, Closing}
use Rattle.base_bitmap.specs.Marks.{bit, marks, with_mark}
use Rattle.base_bitmap.proofs.MapLaws.{marks-in, marks-none, mark-each, length-mark}
use Rattle.log_scan.proofs.ScanLaws.{Placed, placed}
use Rattle.log_gather.specs.Closers.{closer}
use Rattle.log_replay.specs.Best.{from, Best, nothing, better, taken, best}
use Rattle.log_scan.specs.Walk.{closed_below}
use Rattle.log_replay.proofs.BestLaws.{from-here, from_past, Says, best-newest}
use Rattle.log_gather.specs.Chains.{in_word, top}
use Rattle.log_replay.specs.Words.{Word, unseen, Sized, offered, taken_in, take, Newest}
use Rattle.log_gather.proofs.ChainLaws.{top-here, top-same, top-zero, top_in}

-- ---- between two entries of a chain

module _ (c : ℕ → ℕ) (tags : ℕ → Tag) (base w : ℕ) where
  best-other : (k i m : ℕ) → k < 64 → in_word w (tags (base + i)) ≡ false
      → best c tags base (64 * w + k) i (suc m) ≡ best c tags base (64 * w + k) (suc i) m
  unfolding best taken in_word
  best-other k i m l e = go (tags (base + i)) e
    where
      go : (t : Tag) → in_word w t ≡ false → taken c (64 * w + k) i t (best c tags base (64 * w + k) (suc i) m) ≡ best c tags base (64 * w + k) (suc i) m
      go Nothing q = refl
      go (Entry h f) q = rw (ne_eqb h (64 * w + k) (λ z. eqb-false (h / 64) w q (omega arith)))
      go (Closing h f link count) q = rw (ne_eqb h (64 * w + k) (λ z. eqb-false (h / 64) w q (omega arith)))

  pub best-skip : (N i : ℕ) → i ≤ N → (k : ℕ) → k < 64
      → best c tags base (64 * w + k) (top tags base w i) (N - top tags base w i) ≡ best c tags base (64 * w + k) i (N - i)
  best-skip N zero h k l = rw (top-zero tags base w)
  best-skip N (suc i) h k l = go (in_word w (tags (base + i))) refl (best-skip N i (omega arith) k l)
    where
      go : (b : Bool) → in_word w (tags (base + i)) ≡ b
          → best c tags base (64 * w + k) (top tags base w i) (N - top tags base w i) ≡ best c tags base (64 * w + k) i (N - i)
          → best c tags base (64 * w + k) (top tags base w (suc i)) (N - top tags base w (suc i)) ≡ best c tags base (64 * w + k) (suc i) (N - suc i)
      go true q e = let z : top tags base w (suc i) ≡ suc i = top-here tags base w i q ∙ omega arith in rw z
      go false q e =
          let d : N - i ≡ suc (N - suc i) = omega arith in
          rw (top-same tags base w i q) (e ∙ rw d (best-other k i (N - suc i) l q))

  -- the best one is not past the last
  pub best-most : (h i m : ℕ) → (best c tags base h i m).entry ≤ i + m
  unfolding best taken nothing better
  best-most h i zero = omega arith
  best-most h i (suc m) = go (tags (base + i)) (best c tags base h (suc i) m) (best-most h (suc i) m)
    where
      one : (g f : ℕ) (r : Best) → r.entry ≤ suc i + m → (cond (eqb g h) (better (from i (c f)) (i + 1) r) r).entry ≤ i + suc m
      one g f r k = both (eqb g h) (ltb r.closer (from i (c f)))
        where
          both : (x y : Bool) → (cond x (cond y (record { closer = from i (c f); entry = i + 1 }) r) r).entry ≤ i + suc m
          both true true = omega arith
          both true false = omega arith
          both false y = omega arith

      go : (t : Tag) (r : Best) → r.entry ≤ suc i + m → (taken c h i t r).entry ≤ i + suc m
      go Nothing r k = omega arith
      go (Entry g f) r k = one g f r k
      go (Closing g f link count) r k = one g f r k

-- ---- one entry is taken

-- a home's part of the state holds a best entry
pub record HoldsAt (g : Word) (k : ℕ) (r : Best) : Type 0 where
  pub closer : get_or g.closers k 0 ≡ r.closer
  pub entry : get_or g.table k 0 ≡ r.entry
  pub there : marks g.map k ≡ ltb 0 r.closer

abbrev pub Room : Word → Type 0
Room g = Sized g.closers g.table g.map

module _ (g : Word) (j code m : ℕ) (l : j < 64) (room : Room g) where
  room-offered : Room (offered j m code g)
  unfolding offered
  room-offered = go (ltb (get_or g.closers j 0) m)
    where
      go : (b : Bool) → Room (cond b (record { closers = set g.closers j m; table = set g.table j code; map = with_mark g.map j }) g)
      go true =
          record {
            closing = length-set g.closers j m ∙ room.closing;
            each = length-set g.table j code ∙ room.each;
            words = length-mark g.map j ∙ room.words;
          }
      go false = room

  holds-here : (r : Best) → HoldsAt g j r → HoldsAt (offered j m code g) j (better m code r)
  unfolding offered better
  holds-here r e = go (ltb (get_or g.closers j 0) m) refl (ltb r.closer m) (ap (λ (x : ℕ). ltb x m) e.closer)
    where
      go : (b : Bool) → ltb (get_or g.closers j 0) m ≡ b → (d : Bool) → b ≡ d
          → HoldsAt (cond b (record { closers = set g.closers j m; table = set g.table j code; map = with_mark g.map j }) g) j
          (cond d (record { closer = m; entry = code }) r)
      go true q true z =
          record {
            closer = get_or-set_same g.closers j m 0 (omega (arith, room.closing));
            entry = get_or-set_same g.table j code 0 (omega (arith, room.each));
            there =
                mark-each g.map j (omega (arith, room.words)) j
                ∙ rw (eq-eqb j j refl, lt-ltb 0 m (omega (arith, ltb-true (get_or g.closers j 0) m q)));
          }
      go false q false z = e
      go true q false z = let y : ◌≡◌ {A = ℕ} 0 1 = cc in absurd (omega arith)
      go false q true z = let y : ◌≡◌ {A = ℕ} 0 1 = cc in absurd (omega arith)

  holds-other : (k : ℕ) (r : Best) → (k ≡ j → ⊥) → HoldsAt g k r → HoldsAt (offered j m code g) k r
  unfolding offered
  holds-other k r n e = go (ltb (get_or g.closers j 0) m)
    where
      go : (b : Bool) → HoldsAt (cond b (record { closers = set g.closers j m; table = set g.table j code; map = with_mark g.map j }) g) k r
      go true =
          record {
            closer = get_or-set_other g.closers j k m 0 n ∙ e.closer;
            entry = get_or-set_other g.table j k code 0 n ∙ e.entry;
            there = mark-each g.map j (omega (arith, room.words)) k ∙ rw (ne_eqb j k (λ z. n (sym z))) e.there;
          }
      go false = e

  holds-offered : (k : ℕ) (r : Best) → HoldsAt g k r → HoldsAt (offered j m code g) k (cond (eqb j k) (better m code r) r)
  holds-offered k r e = go (ℕ_discrete k j)
    where
      go : Dec (k ≡ j) → HoldsAt (offered j m code g) k (cond (eqb j k) (better m code r) r)
      go (yes z) = rw (z, eq-eqb j j refl) (holds-here r (rw z at e))
      go (no z) = rw (ne_eqb j k (λ y. z (sym y))) (holds-other k r z e)

-- as the code takes it
pub offered-now : (k m code : ℕ) (g : Word) (map : List ℕ) → get_or g.closers k 0 < m → map ≡ with_mark g.map k
    → ◌≡◌ {A = Word} (record { closers = set g.closers k m; table = set g.table k code; map = map }) (offered k m code g)
unfolding offered
offered-now k m code g map h e = rw (lt-ltb (get_or g.closers k 0) m h, e)

pub offered-not : (k m code : ℕ) (g : Word) → m ≤ get_or g.closers k 0 → g ≡ offered k m code g
unfolding offered
offered-not k m code g h = rw (le-ltb (get_or g.closers k 0) m h)

pub taken-now : (last : List ℕ) (home first i : ℕ) (g d : Word) → i < get_or last first 0 → d ≡ offered (home % 64) (get_or last first 0) (i + 1) g
    → d ≡ taken_in last home first i g
unfolding taken_in
taken-now last home first i g d h e = rw (from-here i (get_or last first 0) h) e

pub taken_not : (last : List ℕ) (home first i : ℕ) (g : Word) → get_or last first 0 ≤ i → g ≡ taken_in last home first i g
unfolding taken_in
taken_not last home first i g h = rw (from_past i (get_or last first 0) h) (offered-not (home % 64) 0 (i + 1) g (omega arith))

-- a tag t, which says r, is taken
module _ (last : List ℕ) (base i : ℕ) (g : Word) (r t : Tag) (e : t ≡ r) where
  pub take-nothing : t ≡ Nothing → g ≡ take last base i r g
  unfolding take
  take-nothing d = rw (← e, d)

  pub take-entry : (h f : ℕ) (d : Word) → t ≡ Entry h f → d ≡ taken_in last h (f - base) i g → d ≡ take last base i r g
  unfolding take
  take-entry h f d q k = rw (← e, q) k

  pub take-closing : (h f link count : ℕ) (d : Word) → t ≡ Closing h f link count → d ≡ taken_in last h (f - base) i g → d ≡ take last base i r g
  unfolding take
  take-closing h f link count d q k = rw (← e, q) k

-- a home's index in its word, by its low bits
same_place : (q low high h k : ℕ) → low ≡ q % 2 ^ 12 → h ≡ low + 2 ^ 12 * high → k ≡ q % 2 ^ 6 → h % 64 ≡ k % 64
same_place q low high h k x y z = omega arith

-- the word of an entry r that is there
module _ (base i word homes : ℕ) (r : Tag) (e : read_tag word (base + i) base homes ≡ r) (there : present r ≡ true) where
  pub word-begun : field word 14 13 ≤ i
  unfolding present
  word-begun = go r e there
    where
      go : (t : Tag) → read_tag word (base + i) base homes ≡ t → present t ≡ true → field word 14 13 ≤ i
      go Nothing q p = absurd (false≢true p)
      go (Entry h f) q p = omega (arith, entry-fields word (base + i) base homes h f q, entry_known word (base + i) base homes h f q)
      go (Closing h f link count) q p =
          omega (arith, closing-fields word (base + i) base homes h f link count q, closing-known word (base + i) base homes h f link count q)

  pub word-taken : (last : List ℕ) (g : Word) (k back : ℕ) (d : Word) → k ≡ word / 2 ^ 2 % 2 ^ 6 → back ≡ field word 14 13
      → d ≡ taken_in last k (i - back) i g → d ≡ take last base i r g
  unfolding present take taken_in
  word-taken last g k back d a b c = go r e there
    where
      same : (h f : ℕ) → h ≡ home_field word → f + field word 14 13 ≡ base + i → base ≤ f → d ≡ taken_in last h (f - base) i g
      same h f x y z =
          let u : h % 64 ≡ k % 64 = same_place (word / 2 ^ 2) (field word 2 12) (field word 53 4) h k (unfold field in refl) x a in
          let v : f - base ≡ i - back = omega arith in
          rw (u, v) c

      go : (t : Tag) → read_tag word (base + i) base homes ≡ t → present t ≡ true → d ≡ take last base i t g
      go Nothing q p = absurd (false≢true p)
      go (Entry h f) q p =
          let x = entry-fields word (base + i) base homes h f q in same h f x.0 x.1 (entry_known word (base + i) base homes h f q).1
      go (Closing h f link count) q p =
          let x = closing-fields word (base + i) base homes h f link count q in
          same h f x.0 x.1 (closing-known word (base + i) base homes h f link count q).1

-- a tag t of the log
module _ (log : List ℕ) (groups homes start p : ℕ) (t : Tag) (e : t ≡ entry_at log groups homes start p) where
  pub entry_first : (h f : ℕ) → t ≡ Entry h f → (7 * start ≤ f) × (f ≤ p)
  entry_first h f d = (placed log groups homes start).entry p h f (sym e ∙ d)

  pub closing-first : (h f link count : ℕ) → t ≡ Closing h f link count → (7 * start ≤ f) × (f ≤ p)
  closing-first h f link count d = (placed log groups homes start).closing p h f link count (sym e ∙ d)

-- a home by its word and its index in it
same_home : (h w k : ℕ) → k < 64 → eqb (h / 64) w ≡ true → eqb (h % 64) k ≡ eqb h (64 * w + k)
same_home h w k l e = go (ℕ_discrete (h % 64) k)
  where
    go : Dec (h % 64 ≡ k) → eqb (h % 64) k ≡ eqb h (64 * w + k)
    go (yes z) = eq-eqb (h % 64) k z ∙ sym (eq-eqb h (64 * w + k) (omega (arith, eqb-true (h / 64) w e)))
    go (no z) = ne_eqb (h % 64) k z ∙ sym (ne_eqb h (64 * w + k) (λ y. z (omega arith)))

-- the homes' parts of the state hold the best entries from an offset on, among the first B, by the closing entries of the first N
pub record Agrees (tags : ℕ → Tag) (base N B w code : ℕ) (g : Word) : Type 0 where
  pub room : Room g
  pub home : (k : ℕ) → k < 64 → HoldsAt g k (best (closer tags base N) tags base (64 * w + k) code (B - code))

module _ (tags : ℕ → Tag) (base N B w : ℕ) (last : List ℕ) (at : Placed tags base)
    (closing : (f : ℕ) → base ≤ f → f < base + length last → get_or last (f - base) 0 ≡ closer tags base N f) where
  agrees-take : (i m : ℕ) (g : Word) → i < length last → Room g
      → ((k : ℕ) → k < 64 → HoldsAt g k (best (closer tags base N) tags base (64 * w + k) (suc i) m)) → (t : Tag) → tags (base + i) ≡ t → in_word w t ≡ true
      → Room (take last base i t g) × ((k : ℕ) → k < 64 → HoldsAt (take last base i t g) k (best (closer tags base N) tags base (64 * w + k) i (suc m)))
  unfolding take taken_in best taken in_word
  agrees-take i m g l r k Nothing e q = let z : ◌≡◌ {A = ℕ} 0 1 = cc in absurd (omega arith)
  agrees-take i m g l r k (Entry h f) e q =
      let p = at.entry (base + i) h f e in
      let u : get_or last (f - base) 0 ≡ closer tags base N f = closing f p.0 (omega arith) in
      rw (e, u) (
        room-offered g (h % 64) (i + 1) (from i (closer tags base N f)) (omega arith) r,
        λ j b. rw (← same_home h w j b q)
            (holds-offered g (h % 64) (i + 1) (from i (closer tags base N f)) (omega arith) r j (best (closer tags base N) tags base (64 * w + j) (suc i) m) (k j b)),
      )
  agrees-take i m g l r k (Closing h f link count) e q =
      let p = at.closing (base + i) h f link count e in
      let u : get_or last (f - base) 0 ≡ closer tags base N f = closing f p.0 (omega arith) in
      rw (e, u) (
        room-offered g (h % 64) (i + 1) (from i (closer tags base N f)) (omega arith) r,
        λ j b. rw (← same_home h w j b q)
            (holds-offered g (h % 64) (i + 1) (from i (closer tags base N f)) (omega arith) r j (best (closer tags base N) tags base (64 * w + j) (suc i) m) (k j b)),
      )

  -- the next entry of the chain, and then the one before it
  pub agrees-next : (i : ℕ) (g d : Word) → i < B → B ≤ length last → top tags base w (suc i) ≡ suc i → Agrees tags base N B w (suc i) g
      → d ≡ take last base i (tags (base + i)) g → Agrees tags base N B w (top tags base w i) d
  agrees-next i g d l s z k e =
      let a = agrees-take i (B - suc i) g (omega arith) k.room k.home (tags (base + i)) refl (top_in tags base w i z) in
      let b : suc (B - suc i) ≡ B - i = omega arith in
      record {
        room = rw e a.0;
        home = λ j m. rw (best-skip (closer tags base N) tags base w B i (omega arith) j m, e) (rw b at (a.1 j m));
      }

-- nothing is taken yet
pub agrees_start : (tags : ℕ → Tag) (base N B w : ℕ) (g : Word) → g ≡ unseen → Agrees tags base N B w (top tags base w B) g
unfolding unseen
agrees_start tags base N B w g e =
    let b : B - B ≡ 0 = omega arith in
    rw e
    (record {
      room = record { closing = length-replicate {A = ℕ} 64 0; each = length-replicate {A = ℕ} 64 0; words = length-replicate {A = ℕ} 1 0 };
      home = λ k m. rw (best-skip (closer tags base N) tags base w B B (omega arith) k m, b) (unfold best nothing in record {
        closer = get_d-zeros 64 k;
        entry = get_d-zeros 64 k;
        there = marks-none 1 k;
      });
    })
  where
    get_d-zeros : (n i : ℕ) → ◌≡◌ {A = ℕ} (get_or (replicate n 0) i 0) 0
    get_d-zeros zero i = refl
    get_d-zeros (suc n) zero = refl
    get_d-zeros (suc n) (suc i) = get_d-zeros n i

-- an entry of a word's chain is there
pub present-in : (w : ℕ) (t : Tag) → in_word w t ≡ true → present t ≡ true
unfolding in_word present
present-in w Nothing e = e
present-in w (Entry h f) e = refl
present-in w (Closing h f link count) e = refl

-- the chain's end
pub newest-all : (log : List ℕ) (groups homes start end B w : ℕ) (closers table map : List ℕ) → end - 7 * start ≤ B → B ≤ 7 * groups
    → Agrees (entry_at log groups homes start) (7 * start) (end - 7 * start) B w 0 (record { closers = closers; table = table; map = map })
    → Newest log groups homes start end w table (get_or map 0 0)
newest-all log groups homes start end B w closers table map covers inside a =
    let z : B - 0 ≡ B = omega arith in
    record {
      each = a.room.each;
      entry = λ k l. rw z at (a.home k l).entry ∙ (says k).entry;
      most = λ k l.
          omega (
            arith,
            rw z at (a.home k l).entry,
            best-most (closer (entry_at log groups homes start) (7 * start) (end - 7 * start)) (entry_at log groups homes start) (7 * start) w (64 * w + k) 0 B,
          );
      there = λ k l. sym (bits k l) ∙ rw z at (a.home k l).there ∙ (says k).there;
    }
  where
    says : (k : ℕ)
        → Says (entry_at log groups homes start) (7 * start) (64 * w + k)
        (best (closer (entry_at log groups homes start) (7 * start) (end - 7 * start)) (entry_at log groups homes start) (7 * start) (64 * w + k) 0 B)
        (newest (entry_at log groups homes start) (64 * w + k) (closed_below log groups homes start end))
    says k = best-newest (entry_at log groups homes start) (7 * start) (64 * w + k) (placed log groups homes start) B (end - 7 * start) covers

    bits : (k : ℕ) → k < 64 → marks map k ≡ bit (get_or map 0 0) k
    bits k l = let z : 64 * 0 + k ≡ k = omega arith in rw z at (marks-in map 0 k l)
