-- An image that a crash may leave stays good when the trace grows by an event whose row has not persisted. Assumes nothing.
use Prim.Native.Nat.{ℕ, suc, ◌+◌, ◌-◌, ◌*◌, ◌/◌, ◌%◌, ◌≤◌, ◌<◌}
use mathlib.Core.Path.{◌≡◌, sym, ◌∙◌}
use mathlib.Core.Logic.{inl, inr}
use mathlib.Core.Bool.{Bool, true, false, false≢true}
use mathlib.Core.List.{List, [], ◌∷◌, ◌++◌}
use mathlib.Core.Option.{Option, none, some}
use native.Mathlib.Omega.{arith}
use lib.ListN.{length}
use Rattle.model.specs.Layout.{group_at, header_start}
use Rattle.model.specs.Crash.{Memory}
use Rattle.model.specs.Book.{Commit, fate_at, all_survive}
use Rattle.model.specs.declared.Tag.{Tag}
use Rattle.model_laws.proofs.trace.Trace.{Ev, mine, hist, tag_at, closer_of, oldest_of, Apart, LinkedIf}
use Rattle.model_laws.proofs.trace.TraceLaws.{All, all_map, Rising, tag_at-older, done-rising}
use Rattle.theorems.proofs.invariant.Invariant.{HoldsAt, entries_for, landed_in, Late, ImageOk}
use Rattle.theorems.proofs.invariant.GrowLaws.{holds_at-older, gap-done, open_done, close-done, oldest-upto, survive-newest, run-snoc, closed-snoc}

-- ---- transactions apart, and links, with one transaction more

pub apart_snoc : (c : ℕ) (ts : List (List ℕ)) (t : List ℕ) → c ≤ oldest_of t → Apart c ts → Apart c (ts ++ (t ∷ []))
apart_snoc c [] t h a = (inr h, tt)
apart_snoc c (u ∷ ts) t h a = (a.0, apart_snoc c ts t h a.1)

-- the closing entries of the list read the same in another log
pub linked_if-ext : (landed : ℕ → Bool) (c : ℕ) (log log' : ℕ → Tag) (prev : Option ℕ) (ts : List (List ℕ))
    → All (λ t. log' (closer_of t) ≡ log (closer_of t)) ts → LinkedIf landed c log prev ts → LinkedIf landed c log' prev ts
linked_if-ext landed c log log' prev [] h l = tt
linked_if-ext landed c log log' prev (t ∷ ts) h l =
    (λ a i. rw h.0 (l.0 a i), linked_if-ext landed c log log' (some (closer_of t)) ts h.1 l.1)

-- the new closing entry has not persisted
pub linked_if-snoc : (landed : ℕ → Bool) (c : ℕ) (log : ℕ → Tag) (prev : Option ℕ) (ts : List (List ℕ)) (t : List ℕ) → landed (closer_of t) ≡ false
    → LinkedIf landed c log prev ts → LinkedIf landed c log prev (ts ++ (t ∷ []))
linked_if-snoc landed c log prev [] t h l = (λ a i. absurd (false≢true (sym h ∙ a)), tt)
linked_if-snoc landed c log prev (u ∷ ts) t h l = (l.0, linked_if-snoc landed c log (some (closer_of u)) ts t h l.1)

rising-below : (low high : ℕ) (ts : List (List ℕ)) → Rising low high ts → All (λ t. closer_of t < high) ts
rising-below low high [] r = tt
rising-below low high (t ∷ ts) r = (r.1, rising-below (suc (closer_of t)) high ts r.2)

-- the closing entries of a trace read the same with one event more
pub closers-older : (base : ℕ) (e : Ev) (tr : List Ev) → All (λ t. tag_at base (e ∷ tr) (closer_of t) ≡ tag_at base tr (closer_of t)) (hist base tr).done
closers-older base e tr =
    all_map (λ t. closer_of t < base + length tr) (λ t. tag_at base (e ∷ tr) (closer_of t) ≡ tag_at base tr (closer_of t))
    (λ t h. tag_at-older base e tr (closer_of t) h) (hist base tr).done (rising-below base (base + length tr) (hist base tr).done (done-rising base tr))

-- ---- an image stays good when the trace grows

module _ (G D b : ℕ) (e : Ev) (tr : List Ev) (cs : List Commit) (m : Memory) (fs : List (ℕ → Bool)) where
  late-there : Late G D b tr cs m fs → (n k : ℕ) → header_start m.log ≤ n → n < header_start m.log + G → k < 7 → fate_at fs (n - b) k ≡ true
      → HoldsAt G (7 * b) (e ∷ tr) (group_at m.log (n % G)) n k
  late-there l n k i j small a =
      let q : 7 * (n - b) + 7 ≤ length tr = l.inside (n - b) k a in
      let r : b ≤ header_start m.log = l.from in
      holds_at-older G (7 * b) e tr (group_at m.log (n % G)) n k (omega arith) (l.there n k i j small a)

  late-inside : Late G D b tr cs m fs → (r k : ℕ) → fate_at fs r k ≡ true → 7 * r + 7 ≤ length (e ∷ tr)
  late-inside l r k a = let q : 7 * r + 7 ≤ length tr = l.inside r k a in omega arith

  late-links : Late G D b tr cs m fs → LinkedIf (landed_in b fs) (7 * header_start m.log) (tag_at (7 * b) (e ∷ tr)) none (hist (7 * b) tr).done
  late-links l =
      linked_if-ext (landed_in b fs) (7 * header_start m.log) (tag_at (7 * b) tr) (tag_at (7 * b) (e ∷ tr)) none (hist (7 * b) tr).done
      (closers-older (7 * b) e tr) l.links

  late-same : (hist (7 * b) (e ∷ tr)).done ≡ (hist (7 * b) tr).done → Late G D b tr cs m fs → Late G D b (e ∷ tr) cs m fs
  late-same q l =
      record {
        log_size = l.log_size;
        area_size = l.area_size;
        header = l.header;
        start = l.start;
        from = l.from;
        numbers = l.numbers;
        below = l.below;
        inside = late-inside l;
        within = l.within;
        there = late-there l;
        absent = l.absent;
        apart = rw q l.apart;
        links = rw q (late-links l);
        homes = l.homes;
      }

  pub late-gap : e.used ≡ false → Late G D b tr cs m fs → Late G D b (e ∷ tr) cs m fs
  late-gap u l = late-same (gap-done (7 * b) e tr u) l

  pub late-open : e.final ≡ false → Late G D b tr cs m fs → Late G D b (e ∷ tr) cs m fs
  late-open f l = late-same (open_done (7 * b) e tr f) l

  pub late-close : (c : Commit) → e.used ≡ true → e.final ≡ true
      → c.entries ≡ entries_for b (e ∷ tr) ((7 * b + length tr) ∷ mine (hist (7 * b) tr) e) → c.ticket ≡ 7 * b + length tr + 1
      → fate_at fs ((7 * b + length tr) / 7 - b) ((7 * b + length tr) % 7) ≡ false
      → 7 * header_start m.log ≤ oldest_of ((7 * b + length tr) ∷ mine (hist (7 * b) tr) e)
      → Late G D b tr cs m fs → Late G D b (e ∷ tr) (cs ++ (c ∷ [])) m fs
  unfolding landed_in closer_of
  late-close c u f es k a h l =
      record {
        log_size = l.log_size;
        area_size = l.area_size;
        header = l.header;
        start = l.start;
        from = l.from;
        numbers = l.numbers;
        below = l.below;
        inside = late-inside l;
        within = l.within;
        there = late-there l;
        absent = l.absent;
        apart = rw (close-done (7 * b) e tr u f) (apart_snoc (7 * header_start m.log) (hist (7 * b) tr).done new h l.apart);
        links =
            rw (close-done (7 * b) e tr u f)
            (linked_if-snoc (landed_in b fs) (7 * header_start m.log) (tag_at (7 * b) (e ∷ tr)) none (hist (7 * b) tr).done new a (late-links l));
        homes = rw (run-snoc fs cs c gone, closed-snoc (7 * header_start m.log) cs c late) l.homes;
      }
    where
      new : List ℕ
      new = (7 * b + length tr) ∷ mine (hist (7 * b) tr) e

      gone : all_survive fs c.entries ≡ false
      gone = rw es (survive-newest fs b (e ∷ tr) (7 * b + length tr) (mine (hist (7 * b) tr) e) a)

      late : 7 * header_start m.log < c.ticket
      late = omega (arith, (oldest-upto (7 * b) e tr).1)

module _ (G D b : ℕ) (was : List ℕ) (e : Ev) (tr : List Ev) (old cs : List Commit) (m : Memory) (fs : List (ℕ → Bool)) where
  pub image-gap : e.used ≡ false → ImageOk G D b was tr old cs m fs → ImageOk G D b was (e ∷ tr) old cs m fs
  image-gap u (inl i) = inl i
  image-gap u (inr l) = inr (late-gap G D b e tr cs m fs u l)

  pub image-open : e.final ≡ false → ImageOk G D b was tr old cs m fs → ImageOk G D b was (e ∷ tr) old cs m fs
  image-open f (inl i) = inl i
  image-open f (inr l) = inr (late-open G D b e tr cs m fs f l)

  pub image-close : (c : Commit) → e.used ≡ true → e.final ≡ true
      → c.entries ≡ entries_for b (e ∷ tr) ((7 * b + length tr) ∷ mine (hist (7 * b) tr) e) → c.ticket ≡ 7 * b + length tr + 1
      → fate_at fs ((7 * b + length tr) / 7 - b) ((7 * b + length tr) % 7) ≡ false
      → (Late G D b tr cs m fs → 7 * header_start m.log ≤ oldest_of ((7 * b + length tr) ∷ mine (hist (7 * b) tr) e))
      → ImageOk G D b was tr old cs m fs → ImageOk G D b was (e ∷ tr) old (cs ++ (c ∷ [])) m fs
  image-close c u f es k a h (inl i) = inl i
  image-close c u f es k a h (inr l) = inr (late-close G D b e tr cs m fs c u f es k a (h l) l)
