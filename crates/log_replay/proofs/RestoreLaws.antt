-- Laws of replay into the data copy word by word: the homes of a word, the newest entries of all of them, and the records in the batch.
-- Assumes nothing.
use mathlib.Core.Path.{◌≡◌, refl, sym, ap, ◌∙◌}
use mathlib.Core.Logic.{inl, inr}
use mathlib.Core.Bool.{Bool, true, false, cond, ◌&&◌, false≢true}
use mathlib.Core.List.{List, [], ◌∷◌, ◌++◌}
use mathlib.Core.Option.{Option, none, some}
use Prim.Native.Nat.{ℕ, zero, suc, ◌+◌, ◌-◌, ◌*◌, ◌≤◌, ◌<◌}
use native.Mathlib.Decide.{dec_lt, ℕ_discrete}
use native.Mathlib.Omega.{arith}
use borrow.Author.Tests.{ne_eqb}
use lib.Dec.{eqb, leb}
use lib.ListN.{length, get_or, drop, replicate, length-append}
use Rattle.model.specs.Bytes.{puts}
use Rattle.model.specs.Tag.{belongs, home_of}
use Rattle.model.specs.Layout.{entry_at, block_at, home_at, put_home}
use Rattle.model.specs.Commit.{Span, add_if, members, entries, each_entries, newest_in, newest, or_else, found}
use Rattle.model.specs.Batch.{batch_bytes}
use Rattle.model.specs.Effects.{marked, touched, replayed, home_writes}
use Rattle.model.specs.declared.Tag.{Tag}
use Rattle.model_laws.proofs.rule.Closings.{closings}
use Rattle.model_laws.proofs.bytes.ByteLaws.{puts-append, puts-nil}
use Rattle.model_laws.proofs.bytes.LayoutLaws.{length-put_home, home_same, home-other, area-ext}
use Rattle.model_laws.proofs.trace.TraceLaws.{All}
use Rattle.model_laws.proofs.trace.HomeLaws.{In, in-marked, marked-in}
use Rattle.model_laws.proofs.trace.ReplayLaws.{block_for, Good, length-block_at, length-replayed, replay-home, good-each}
use Rattle.base_bitmap.specs.Marks.{bit, bits_of, raised}
use Rattle.base_bitmap.proofs.MarkedLaws.{raised-nil, raised-cons, length-raised, marked-zero, marked-same, marked-add, marked-up-to, length-marked-le}
use Rattle.base_bitmap.proofs.WordLaws.{no_bits}
use Rattle.base_batch.specs.Within.{Within}
use Rattle.base_batch.proofs.HomeLaws.{bytes-append, bytes-nil, length-writes, within-right, within-marked}
use Rattle.log_scan.specs.Walk.{Walkable, closed_below}
use Rattle.log_replay.specs.Best.{offset_code}
use Rattle.log_gather.specs.Chains.{max_homes, max_words, top, Chained}
use Rattle.log_replay.specs.Words.{unseen, Newest, touches, word_homes}
use Rattle.log_replay.specs.Restore.{restored, place_of, newest_at, Ready}
use Rattle.log_replay.proofs.NewestLaws.{agrees_start, newest-all}

-- ---- lists of homes

pub raised-in : (base h : ℕ) (ks : List ℕ) → In h (raised base ks) → (k : ℕ) × (h ≡ base + k) × In k ks
unfolding raised
raised-in base h [] i = absurd i
raised-in base h (x ∷ ks) (inl e) = (x, e, inl refl)
raised-in base h (x ∷ ks) (inr i) = let r = raised-in base h ks i in (r.0, r.1, inr r.2)

raised-least : (base h : ℕ) (ks : List ℕ) → In h (raised base ks) → base ≤ h
raised-least base h ks i = let r = raised-in base h ks i in omega (arith, r.1)

pub writes-same : (a b hs : List ℕ) → ((h : ℕ) → In h hs → home_at a h ≡ home_at b h) → home_writes a hs ≡ home_writes b hs
unfolding home_writes
writes-same a b [] e = refl
writes-same a b (h ∷ hs) e = rw (e h (inl refl), writes-same a b hs (λ x i. e x (inr i)))

-- ---- the homes of a word, the lowest first

module _ (log : List ℕ) (groups : ℕ) (at : ℕ → ℕ) where
  pub length-restored : (hs area : List ℕ) → length (restored log groups at hs area) ≡ length area
  unfolding restored
  length-restored [] area = refl
  length-restored (h ∷ hs) area = length-restored hs _ ∙ length-put_home area h (block_at log groups (at h))

  pub restored-append : (hs ks area : List ℕ) → restored log groups at (hs ++ ks) area ≡ restored log groups at ks (restored log groups at hs area)
  unfolding restored
  restored-append [] ks area = refl
  restored-append (h ∷ hs) ks area = restored-append hs ks _

  pub restored-nil : (area : List ℕ) → restored log groups at [] area ≡ area
  unfolding restored
  restored-nil area = refl

  restored_same : (to : ℕ → ℕ) (hs area : List ℕ) → ((h : ℕ) → In h hs → at h ≡ to h) → restored log groups at hs area ≡ restored log groups to hs area
  unfolding restored
  restored_same to [] area e = refl
  restored_same to (h ∷ hs) area e = rw (e h (inl refl)) (restored_same to hs (put_home area h (block_at log groups (to h))) (λ x i. e x (inr i)))

  -- a word with its lowest bit t, and v without it
  module _ (base w t v : ℕ) (first : bits_of w ≡ t ∷ drop 1 (bits_of w)) (rest : bits_of v ≡ drop 1 (bits_of w)) where
    pub word-turn : (now d : List ℕ) (p : ℕ) → d ≡ put_home now (base + t) (block_at log groups p) → p ≡ at (base + t)
        → restored log groups at (raised base (bits_of v)) d ≡ restored log groups at (raised base (bits_of w)) now
    unfolding restored
    word-turn now d p e q =
        let f : raised base (bits_of w) ≡ (base + t) ∷ raised base (drop 1 (bits_of w)) = ap (raised base) first ∙ raised-cons base t (drop 1 (bits_of w)) in
        rw (f, rest, e, q)

  pub word_end : (base w : ℕ) (area : List ℕ) → w ≡ 0 → restored log groups at (raised base (bits_of w)) area ≡ area
  word_end base w area e = rw (e, no_bits, raised-nil) (restored-nil area)

module _ (area : List ℕ) (groups : ℕ) (table : List ℕ) (base : ℕ) where
  pub first-ready : (w t : ℕ) → bits_of w ≡ t ∷ drop 1 (bits_of w) → Ready area groups table base (bits_of w)
      → (64 * (base + t) + 64 ≤ length area) × (t < length table) × (0 < get_or table t 0) × (get_or table t 0 ≤ 7 * groups)
  first-ready w t first r = let q = rw first at r in (q.0, q.1, q.2, q.3)

  pub rest-ready : (w t v : ℕ) → bits_of w ≡ t ∷ drop 1 (bits_of w) → bits_of v ≡ drop 1 (bits_of w) → Ready area groups table base (bits_of w)
      → Ready area groups table base (bits_of v)
  rest-ready w t v first rest r = rw rest (rw first at r).4

  ready-append : (ks ls : List ℕ) → Ready area groups table base ks → Ready area groups table base ls → Ready area groups table base (ks ++ ls)
  ready-append [] ls r s = s
  ready-append (k ∷ ks) ls r s = (r.0, r.1, r.2, r.3, ready-append ks ls r.4 s)

  ready_marked : (f : ℕ → Bool) (n : ℕ)
      → ((k : ℕ) → k < n → f k ≡ true → (64 * (base + k) + 64 ≤ length area) × (k < length table) × (0 < get_or table k 0) × (get_or table k 0 ≤ 7 * groups))
      → Ready area groups table base (marked f n)
  unfolding marked
  ready_marked f zero k = tt
  ready_marked f (suc n) k = ready-append (marked f n) _ (ready_marked f n (λ j l. k j (omega arith))) (go (f n) refl)
    where
      go : (b : Bool) → f n ≡ b → Ready area groups table base (cond b (n ∷ []) [])
      go true e = let r = k n (omega arith) e in (r.0, r.1, r.2, r.3, tt)
      go false e = tt

-- ---- the newest entries lie in the log, and are for homes that there are

-- no entry lies before the start
module _ (tags : ℕ → Tag) (base h : ℕ) where
  none-some : (p : ℕ) → ◌≡◌ {A = Option ℕ} none (some p) → ⊥
  none-some p e = let z : ◌≡◌ {A = ℕ} 0 1 = cc in absurd (omega arith)

  in-above : (f n p : ℕ) → newest_in tags h (members tags f base n) ≡ some p → base ≤ p
  unfolding members newest_in add_if
  in-above f zero p e = absurd (none-some p e)
  in-above f (suc n) p e = go (leb f (base + n) && belongs f (tags (base + n))) e (in-above f n p)
    where
      hit : (b : Bool) → cond b (some (base + n)) (newest_in tags h (members tags f base n)) ≡ some p
          → (newest_in tags h (members tags f base n) ≡ some p → base ≤ p) → base ≤ p
      hit true e k = let z : base + n ≡ p = cc in omega arith
      hit false e k = k e

      go : (b : Bool) → newest_in tags h (add_if b (base + n) (members tags f base n)) ≡ some p
          → (newest_in tags h (members tags f base n) ≡ some p → base ≤ p) → base ≤ p
      go true e k = hit (eqb (home_of (tags (base + n))) h) e k
      go false e k = k e

  newest-above : (ss : List Span) (p : ℕ) → newest tags h (each_entries tags base ss) ≡ some p → base ≤ p
  unfolding newest each_entries or_else entries
  newest-above [] p e = absurd (none-some p e)
  newest-above (s ∷ ss) p e = go (newest tags h (each_entries tags base ss)) refl e (newest-above ss p)
    where
      go : (o : Option ℕ) → newest tags h (each_entries tags base ss) ≡ o → or_else o (newest_in tags h (entries tags base s)) ≡ some p
          → (newest tags h (each_entries tags base ss) ≡ some p → base ≤ p) → base ≤ p
      go none q e k = in-above s.first (suc s.closing - base) p e
      go (some x) q e k = k (q ∙ e)

module _ (log : List ℕ) (G D : ℕ) (tags : ℕ → Tag) (h : ℕ) (k : D ≤ h) where
  none_in : (ps : List ℕ) → All (Good log G D tags) ps → newest_in tags h ps ≡ none
  unfolding newest_in
  none_in [] g = refl
  none_in (p ∷ ps) g =
      let l : home_of (tags p) < D = g.0.0 in
      let e : eqb (home_of (tags p)) h ≡ false = ne_eqb (home_of (tags p)) h (λ z. omega arith) in
      rw e (none_in ps g.1)

  none-newest : (ts : List (List ℕ)) → All (All (Good log G D tags)) ts → newest tags h ts ≡ none
  unfolding newest or_else
  none-newest [] g = refl
  none-newest (t ∷ ts) g = rw (none-newest ts g.1) (none_in t g.0)

-- ---- a home that is restored, and any other

module _ (log : List ℕ) (groups : ℕ) (at : ℕ → ℕ) (some-groups : 0 < groups) (long : length log ≡ 64 + 512 * groups) where
  abbrev block_of : ℕ → List ℕ
  block_of h = block_at log groups (at h)

  length-block_of : (h : ℕ) → length (block_of h) ≡ 64
  length-block_of h = length-block_at log groups (at h) some-groups long

  keeps : (hs area : List ℕ) (h : ℕ) → 64 * h + 64 ≤ length area → home_at area h ≡ block_of h → home_at (restored log groups at hs area) h ≡ block_of h
  unfolding restored
  keeps [] area h l e = e
  keeps (x ∷ hs) area h l e =
      keeps hs (put_home area x (block_of x)) h (omega (arith, length-put_home area x (block_of x))) (go (ℕ_discrete h x))
    where
      go : Dec (h ≡ x) → home_at (put_home area x (block_of x)) h ≡ block_of h
      go (yes z) = rw (← z) (home_same area h (block_of h) (length-block_of h) l)
      go (no z) = home-other area x (block_of x) h z (omega (arith, length-block_of x)) ∙ e

  restored-in : (hs area : List ℕ) (h : ℕ) → 64 * h + 64 ≤ length area → In h hs → home_at (restored log groups at hs area) h ≡ block_of h
  unfolding restored
  restored-in [] area h l i = absurd i
  restored-in (x ∷ hs) area h l (inl e) =
      keeps hs (put_home area x (block_of x)) h (omega (arith, length-put_home area x (block_of x)))
      (rw (← e) (home_same area h (block_of h) (length-block_of h) l))
  restored-in (x ∷ hs) area h l (inr i) = restored-in hs (put_home area x (block_of x)) h (omega (arith, length-put_home area x (block_of x))) i

  pub restored-out : (hs area : List ℕ) (h : ℕ) → (In h hs → ⊥) → home_at (restored log groups at hs area) h ≡ home_at area h
  unfolding restored
  restored-out [] area h n = refl
  restored-out (x ∷ hs) area h n =
      restored-out hs (put_home area x (block_of x)) h (λ i. n (inr i))
      ∙ home-other area x (block_of x) h (λ e. n (inl e)) (omega (arith, length-block_of x))

-- ---- the whole replay

module _ (log : List ℕ) (groups homes start end : ℕ) (w : Walkable log groups start end) where
  abbrev tags : ℕ → Tag
  tags = entry_at log groups homes start

  abbrev ts : List (List ℕ)
  ts = closed_below log groups homes start end

  abbrev f : ℕ → Bool
  f = touches log groups homes start end

  abbrev at : ℕ → ℕ
  at = newest_at log groups homes start end

  good : All (All (Good log groups homes tags)) ts
  good = good-each log groups homes start w.some w.long (7 * start) (closings (entry_at log groups homes start) (7 * start) (end - 7 * start))

  pub touches-above : (h : ℕ) → homes ≤ h → touches log groups homes start end h ≡ false
  unfolding found
  touches-above h l = rw (none-newest log groups homes tags h l ts good)

  pub touches-below : (h : ℕ) → touches log groups homes start end h ≡ true → h < homes
  touches-below h t = go (dec_lt h homes)
    where
      go : Dec (h < homes) → h < homes
      go (yes l) = l
      go (no l) = absurd (false≢true (sym (touches-above h (omega arith)) ∙ t))

  -- a touched home has a newest entry
  pub touched-some : (h : ℕ) → touches log groups homes start end h ≡ true → (p : ℕ) × (newest tags h ts ≡ some p) × (7 * start ≤ p)
  touched-some h t = go (newest tags h ts) refl t
    where
      go : (o : Option ℕ) → newest (entry_at log groups homes start) h (closed_below log groups homes start end) ≡ o → found o ≡ true
          → (p : ℕ) × (newest (entry_at log groups homes start) h (closed_below log groups homes start end) ≡ some p) × (7 * start ≤ p)
      go none e q = let y : false ≡ found none = unfold found in refl in absurd (false≢true (y ∙ q))
      go (some p) e q =
          (p, e, newest-above (entry_at log groups homes start) (7 * start) h (closings (entry_at log groups homes start) (7 * start) (end - 7 * start)) p e)

  -- all words together
  pub touched-all : (n : ℕ) → homes ≤ n
      → marked (touches log groups homes start end) n ≡ touched (entry_at log groups homes start) (closed_below log groups homes start end) homes
  unfolding touched
  touched-all n few = marked-up-to (touches log groups homes start end) n homes few (λ h l. touches-above h l)

  pub restored-replayed : (area : List ℕ) → length area ≡ 64 * homes
      → restored log groups (newest_at log groups homes start end) (touched (entry_at log groups homes start) (closed_below log groups homes start end) homes) area
      ≡ replayed log groups (entry_at log groups homes start) (closed_below log groups homes start end) area
  unfolding touched
  restored-replayed area size =
      area-ext _ _ homes (length-restored log groups at (marked f homes) area ∙ size) (length-replayed log groups homes tags ts area ∙ size)
      (λ h l. go h l (newest tags h ts) refl ∙ sym (replay-home log groups homes tags ts area h good size l))
    where
      go : (h : ℕ) → h < homes → (o : Option ℕ) → newest (entry_at log groups homes start) h (closed_below log groups homes start end) ≡ o
          → home_at (restored log groups (newest_at log groups homes start end) (marked (touches log groups homes start end) homes) area) h
          ≡ block_for log groups (newest (entry_at log groups homes start) h (closed_below log groups homes start end)) (home_at area h)
      go h l none e =
          restored-out log groups at w.some w.long (marked f homes) area h (λ i. false≢true (sym (rw e (unfold found in refl)) ∙ (in-marked h f homes i).1))
          ∙ rw e (unfold block_for in refl)
      go h l (some p) e =
          restored-in log groups at w.some w.long (marked f homes) area h (omega arith) (marked-in h f homes l (rw e (unfold found in refl)))
          ∙ rw e (unfold place_of block_for in refl)

  -- ---- a word of it

  pub word_more : (i : ℕ) → marked (touches log groups homes start end) (64 * (i + 1))
      ≡ marked (touches log groups homes start end) (64 * i) ++ word_homes (touches log groups homes start end) i
  word_more i = let e : 64 * (i + 1) ≡ 64 * i + 64 = omega arith in ap (marked f) e ∙ marked-add f (64 * i) 64

  pub count-more : (i : ℕ) → length (marked (touches log groups homes start end) (64 * (i + 1)))
      ≡ length (marked (touches log groups homes start end) (64 * i)) + length (word_homes (touches log groups homes start end) i)
  count-more i = ap length (word_more i) ∙ length-append (marked f (64 * i)) (word_homes f i)

  pub count_most : (i : ℕ) → i < 1024 → homes ≤ max_homes
      → length (marked (touches log groups homes start end) (64 * i)) + length (word_homes (touches log groups homes start end) i)
      ≤ length (touched (entry_at log groups homes start) (closed_below log groups homes start end) homes)
  count_most i l few =
      omega (arith, count-more i, length-marked-le f (64 * (i + 1)) (64 * 1024) (omega arith), ap length (touched-all (64 * 1024) (omega arith)))

  within_word : (i : ℕ) (area : List ℕ) → length area ≡ 64 * homes → Within area (word_homes (touches log groups homes start end) i)
  within_word i area size =
      within-right area (marked f (64 * i)) (word_homes f i)
      (rw (← word_more i) (within-marked area f (64 * (i + 1)) (λ h t. (let l : h < homes = touches-below h t in omega arith))))

  -- the newest entries of word i, found
  module _ (i : ℕ) (table : List ℕ) (bits : ℕ) (n : Newest log groups homes start end i table bits) where
    pub word-bits : raised (64 * i) (bits_of bits) ≡ word_homes (touches log groups homes start end) i
    unfolding bits_of
    word-bits = ap (raised (64 * i)) (marked-same (bit bits) 64 (λ k. f (64 * i + k)) (λ k l. n.there k l))

    pub word-length : length (bits_of bits) ≡ length (word_homes (touches log groups homes start end) i)
    word-length = sym (length-raised (64 * i) (bits_of bits)) ∙ ap length word-bits

    pub word-ready : (area : List ℕ) → length area ≡ 64 * homes → Ready area groups table (64 * i) (bits_of bits)
    unfolding bits_of
    word-ready area size = ready_marked area groups table (64 * i) (bit bits) 64 (λ k l t. go k l (sym (n.there k l) ∙ t))
      where
        go : (k : ℕ) → k < 64 → touches log groups homes start end (64 * i + k) ≡ true
            → (64 * (64 * i + k) + 64 ≤ length area) × (k < length table) × (0 < get_or table k 0) × (get_or table k 0 ≤ 7 * groups)
        go k l t =
            let s = touched-some (64 * i + k) t in
            let c : get_or table k 0 ≡ s.0 - 7 * start + 1 = n.entry k l ∙ rw s.1 (unfold offset_code in refl) in
            (omega (arith, touches-below (64 * i + k) t), omega (arith, n.each), omega (arith, c), omega (arith, n.most k l, w.within))

    pub word-within : (area : List ℕ) → length area ≡ 64 * homes → Within area (raised (64 * i) (bits_of bits))
    word-within area size = rw word-bits (within_word i area size)

    -- the positions in the table are those of the newest entries
    pub word-restored : (area d : List ℕ)
        → d ≡ restored log groups (λ h. 7 * start + get_or table (h - 64 * i) 0 - 1) (raised (64 * i) (bits_of bits)) area
        → d ≡ restored log groups (newest_at log groups homes start end) (word_homes (touches log groups homes start end) i) area
    word-restored area d e =
        e ∙ rw word-bits (restored_same log groups (λ h. 7 * start + get_or table (h - 64 * i) 0 - 1) at (word_homes f i) area (λ h j. same h (inside h j)))
      where
        inside : (h : ℕ) → In h (raised (64 * i) (marked (λ k. touches log groups homes start end (64 * i + k)) 64))
            → (k : ℕ) × (h ≡ 64 * i + k) × (k < 64) × (touches log groups homes start end (64 * i + k) ≡ true)
        inside h j =
            let r = raised-in (64 * i) h (marked (λ k. touches log groups homes start end (64 * i + k)) 64) j in
            let m = in-marked r.0 (λ k. touches log groups homes start end (64 * i + k)) 64 r.2 in
            (r.0, r.1, m.0, m.1)

        same : (h : ℕ) → (k : ℕ) × (h ≡ 64 * i + k) × (k < 64) × (touches log groups homes start end (64 * i + k) ≡ true)
            → 7 * start + get_or table (h - 64 * i) 0 - 1 ≡ newest_at log groups homes start end h
        same h q =
            let s = touched-some (64 * i + q.0) q.3 in
            let c : get_or table q.0 0 ≡ s.0 - 7 * start + 1 = n.entry q.0 q.2 ∙ rw s.1 (unfold offset_code in refl) in
            let d : 64 * i + q.0 - 64 * i ≡ q.0 = omega arith in
            let y : place_of (some s.0) ≡ s.0 = unfold place_of in refl in
            rw (q.1, d, s.1) (omega (arith, c, s.2, y))

    pub word-written : (a batch d : List ℕ) (p : ℕ) → d ≡ puts batch p (batch_bytes (home_writes a (raised (64 * i) (bits_of bits))))
        → d ≡ puts batch p (batch_bytes (home_writes a (word_homes (touches log groups homes start end) i)))
    word-written a batch d p e = e ∙ rw word-bits

  -- a word whose chain is empty
  pub empty-word : (last heads links : List ℕ) → Chained log groups homes start end last heads links → (i : ℕ) → i < max_words → get_or heads i 0 ≡ 0
      → word_homes (touches log groups homes start end) i ≡ []
  unfolding unseen
  empty-word last heads links c i l z =
      let t : top tags (7 * start) i c.reach ≡ 0 = sym (c.head i l) ∙ z in
      let a = rw t at (agrees_start tags (7 * start) (end - 7 * start) c.reach i unseen refl) in
      let n : Newest log groups homes start end i (replicate 64 0) 0 =
      newest-all log groups homes start end c.reach i (replicate 64 0) (replicate 64 0) (replicate 1 0) c.covers c.inside a in
      sym (word-bits i (replicate 64 0) 0 n) ∙ rw (no_bits, raised-nil)

  -- nothing to bring back
  pub none-brought : (i : ℕ) → word_homes (touches log groups homes start end) i ≡ [] → (p : ℕ) (area batch : List ℕ)
      → (p ≡ p + 68 * length (word_homes (touches log groups homes start end) i))
      × (area ≡ restored log groups (newest_at log groups homes start end) (word_homes (touches log groups homes start end) i) area)
      × (batch ≡ puts batch p (batch_bytes (home_writes area (word_homes (touches log groups homes start end) i))))
  none-brought i e p area batch = rw e (omega arith, sym (restored-nil log groups at area), sym (rw (bytes-nil, puts-nil)))

  -- ---- word by word

  pub area-start : (area : List ℕ) → area ≡ restored log groups (newest_at log groups homes start end) (marked (touches log groups homes start end) 0) area
  area-start area = sym (rw (marked-zero f) (restored-nil log groups at area))

  pub area-turn : (i : ℕ) (area₀ area a : List ℕ)
      → area ≡ restored log groups (newest_at log groups homes start end) (marked (touches log groups homes start end) (64 * i)) area₀
      → a ≡ restored log groups (newest_at log groups homes start end) (word_homes (touches log groups homes start end) i) area
      → a ≡ restored log groups (newest_at log groups homes start end) (marked (touches log groups homes start end) (64 * (i + 1))) area₀
  area-turn i area₀ area a e q =
      q ∙ rw e (sym (ap (λ (hs : List ℕ). restored log groups at hs area₀) (word_more i) ∙ restored-append log groups at (marked f (64 * i)) (word_homes f i) area₀))

  pub batch-start : (area batch : List ℕ) → batch ≡ puts batch 0 (batch_bytes (home_writes area (marked (touches log groups homes start end) 0)))
  batch-start area batch = sym (rw (marked-zero f, bytes-nil, puts-nil))

  -- the homes of earlier words stay as they are
  earlier : (i : ℕ) (area a : List ℕ) → a ≡ restored log groups (newest_at log groups homes start end) (word_homes (touches log groups homes start end) i) area
      → home_writes area (marked (touches log groups homes start end) (64 * i)) ≡ home_writes a (marked (touches log groups homes start end) (64 * i))
  earlier i area a e =
      writes-same area a (marked f (64 * i))
      (λ h j. sym (ap (λ (x : List ℕ). home_at x h) e
      ∙ restored-out log groups at w.some w.long (word_homes f i) area h (λ k. omega (arith, (in-marked h f (64 * i) j).0, raised-least (64 * i) h _ k))))

  pub batch-turn : (i : ℕ) (area a batch₀ batch d : List ℕ) (p : ℕ) → length area ≡ 64 * homes
      → a ≡ restored log groups (newest_at log groups homes start end) (word_homes (touches log groups homes start end) i) area
      → batch ≡ puts batch₀ 0 (batch_bytes (home_writes area (marked (touches log groups homes start end) (64 * i))))
      → p ≡ 68 * length (marked (touches log groups homes start end) (64 * i))
      → d ≡ puts batch p (batch_bytes (home_writes a (word_homes (touches log groups homes start end) i)))
      → d ≡ puts batch₀ 0 (batch_bytes (home_writes a (marked (touches log groups homes start end) (64 * (i + 1)))))
  batch-turn i area a batch₀ batch d p size e b q g =
      let s : length a ≡ 64 * homes = ap length e ∙ length-restored log groups at (word_homes f i) area ∙ size in
      let n : length (batch_bytes (home_writes a (marked f (64 * i)))) ≡ p =
      length-writes a (marked f (64 * i)) (within-marked a f (64 * i) (λ h t. (let l : h < homes = touches-below h t in omega arith))) ∙ sym q in
      let z : 0 + p ≡ p = omega arith in
      let m : batch_bytes (home_writes a (marked f (64 * (i + 1)))) ≡ batch_bytes (home_writes a (marked f (64 * i))) ++ batch_bytes (home_writes a (word_homes f i)) =
      ap (λ (hs : List ℕ). batch_bytes (home_writes a hs)) (word_more i) ∙ bytes-append a (marked f (64 * i)) (word_homes f i) in
      g ∙ rw (b, earlier i area a e, m, puts-append, n, z)
