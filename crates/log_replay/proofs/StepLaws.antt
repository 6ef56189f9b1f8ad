-- Laws of a round's step: the touched homes of a stretch of homes, one home after another and one word after another. Assumes nothing.
use mathlib.Core.Path.{◌≡◌, refl, sym, ap, ◌∙◌}
use mathlib.Core.Logic.{inl, inr, ◌≢◌}
use mathlib.Core.Bool.{Bool, true, false, cond, ◌&&◌, false≢true}
use mathlib.Core.List.{List, [], ◌∷◌, ◌++◌, append-nil}
use mathlib.Core.Option.{Option, none, some}
use Prim.Native.Nat.{ℕ, ◌+◌, ◌-◌, ◌*◌, ◌≤◌, ◌<◌}
use native.Mathlib.Decide.{dec_lt, dec_le}
use native.Mathlib.Omega.{arith}
use borrow.Author.Tests.{eqb-true, eqb-false, eq-eqb, ne_eqb, le-leb, lt-leb}
use lib.Dec.{eqb, leb}
use lib.ListN.{length, get_or, take, length-append, get_or-append}
use lib.Seq.{take_at, get_or_at}
use Rattle.model.specs.Bytes.{puts}
use Rattle.model.specs.Layout.{entry_at, block_at, home_at, put_home}
use Rattle.model.specs.Commit.{newest, found}
use Rattle.model.specs.Batch.{HW, record_bytes, batch_bytes}
use Rattle.model.specs.Effects.{marked, home_writes, touched_from, restore_home, restored_homes}
use Rattle.model.specs.declared.Tag.{Tag}
use Rattle.model_laws.proofs.bytes.ByteLaws.{puts-append, puts-nil}
use Rattle.model_laws.proofs.trace.HomeLaws.{In, in-marked}
use Rattle.base_bitmap.specs.Marks.{raised}
use Rattle.base_bitmap.proofs.MarkedLaws.{raised-nil, raised-cons, raised-append, length-raised, marked-zero, marked-same, marked-none, marked-add, length_marked}
use Rattle.base_bitmap.proofs.WordLaws.{no_bits}
use Rattle.base_batch.specs.Within.{Within}
use Rattle.base_batch.proofs.HomeLaws.{bytes-append, bytes-nil, bytes-cons, length-writes, within-marked}
use Rattle.log_scan.specs.Walk.{Walkable, closed_below}
use Rattle.log_replay.specs.Best.{offset_code}
use Rattle.log_replay.specs.Words.{Newest, touches, word_homes}
use Rattle.log_replay.specs.Restore.{restored, place_of, newest_at}
use Rattle.log_replay.specs.Steps.{span, Stepped, Left}
use Rattle.log_replay.proofs.RestoreLaws.{word-bits, touches-above, touches-below, touched-some, length-restored, restored-nil, restored-append, restored-out, raised-in, writes-same}

-- ---- by a code: none, or one more

module _ (code : ℕ) where
  pub none-counted : (n : ℕ) → code ≡ 0 → n ≡ n + cond (eqb code 0) 0 1
  none-counted n e = rw (eq-eqb code 0 e) (omega arith)

  pub one-counted : (n : ℕ) → code ≢ 0 → n + 1 ≡ n + cond (eqb code 0) 0 1
  one-counted n e = rw (ne_eqb code 0 e)

  pub none-chosen : (x y : List ℕ) → code ≡ 0 → x ≡ cond (eqb code 0) x y
  none-chosen x y e = rw (eq-eqb code 0 e)

  pub one-chosen : (x y : List ℕ) → code ≢ 0 → y ≡ cond (eqb code 0) x y
  one-chosen x y e = rw (ne_eqb code 0 e)

pub one-most : (b : Bool) (h : ℕ) → length (cond b (h ∷ []) []) ≤ 1
one-most true h = omega arith
one-most false h = omega arith

-- ---- stretches of homes

module _ (f : ℕ → Bool) where
  pub span_none : (from : ℕ) → span f from 0 ≡ []
  unfolding span
  span_none from = ap (raised from) (marked-zero (λ j. f (from + j))) ∙ raised-nil from

  pub span-add : (from m n : ℕ) → span f from (m + n) ≡ span f from m ++ span f (from + m) n
  unfolding span
  span-add from m n =
      ap (raised from) (marked-add (λ j. f (from + j)) m n)
      ∙ raised-append from (marked (λ j. f (from + j)) m) (raised m (marked (λ j. f (from + (m + j))) n))
      ∙ ap (λ (x : List ℕ). raised from (marked (λ j. f (from + j)) m) ++ x)
      (twice (marked (λ j. f (from + (m + j))) n)
      ∙ ap (raised (from + m)) (marked-same (λ j. f (from + (m + j))) n (λ j. f (from + m + j)) (λ j l. ap f (omega arith))))
    where
      twice : (ks : List ℕ) → raised from (raised m ks) ≡ raised (from + m) ks
      twice [] = rw (raised-nil m, raised-nil from, raised-nil (from + m))
      twice (k ∷ ks) =
          rw (raised-cons m k ks, raised-cons from (m + k) (raised m ks), raised-cons (from + m) k ks)
          (let e : from + (m + k) ≡ from + m + k = omega arith in rw (e, twice ks))

  -- one home
  one-home : (h : ℕ) → span f h 1 ≡ cond (f h) (h ∷ []) []
  unfolding span marked raised
  one-home h = let e : h + 0 ≡ h = omega arith in rw e (go (f h))
    where
      go : (b : Bool) → raised h (cond b (0 ∷ []) []) ≡ cond b (h ∷ []) []
      go true = let e : h + 0 ≡ h = omega arith in rw e
      go false = refl

  pub span-next : (from h : ℕ) → from ≤ h → span f from (h + 1 - from) ≡ span f from (h - from) ++ cond (f h) (h ∷ []) []
  span-next from h l =
      let e : h + 1 - from ≡ h - from + 1 = omega arith in
      let q : from + (h - from) ≡ h = omega arith in
      rw e (span-add from (h - from) 1 ∙ rw (q, one-home h))

  pub span-on : (from m h : ℕ) → from ≤ m → m ≤ h → span f from (h - from) ≡ span f from (m - from) ++ span f m (h - m)
  span-on from m h l k =
      let e : h - from ≡ m - from + (h - m) = omega arith in
      let q : from + (m - from) ≡ m = omega arith in
      rw e (span-add from (m - from) (h - m) ∙ rw q)

  pub span-in : (from n h : ℕ) → In h (span f from n) → (from ≤ h) × (h < from + n) × (f h ≡ true)
  unfolding span
  span-in from n h i =
      let r = raised-in from h (marked (λ j. f (from + j)) n) i in
      let m = in-marked r.0 (λ j. f (from + j)) n r.2 in
      (omega (arith, r.1), omega (arith, r.1, m.0), ap f r.1 ∙ m.1)

  -- the homes from a cursor on that the test marks
  pub span-from : (cursor n : ℕ) → cursor ≤ n → marked (λ h. leb cursor h && f h) n ≡ span f cursor (n - cursor)
  unfolding span
  span-from cursor n l =
      let e : n ≡ cursor + (n - cursor) = omega arith in
      ap (marked (λ h. leb cursor h && f h)) e ∙ marked-add (λ h. leb cursor h && f h) cursor (n - cursor)
      ∙ rw (marked-none (λ h. leb cursor h && f h) cursor (λ j k. below j k))
      (ap (raised cursor) (marked-same (λ j. leb cursor (cursor + j) && f (cursor + j)) (n - cursor) (λ j. f (cursor + j)) (λ j k. from j)))
    where
      below : (j : ℕ) → j < cursor → (leb cursor j && f j) ≡ false
      below j k = rw (lt-leb cursor j k)

      from : (j : ℕ) → (leb cursor (cursor + j) && f (cursor + j)) ≡ f (cursor + j)
      from j = rw (le-leb cursor (cursor + j) (omega arith))

  pub span-beyond : (cursor n : ℕ) → n ≤ cursor → marked (λ h. leb cursor h && f h) n ≡ []
  span-beyond cursor n l = marked-none (λ h. leb cursor h && f h) n (λ j k. rw (lt-leb cursor j (omega arith)))

  pub length-span : (from n : ℕ) → length (span f from n) ≤ n
  unfolding span
  length-span from n = omega (arith, length-raised from (marked (λ j. f (from + j)) n), length_marked (λ j. f (from + j)) n)

  -- a whole word
  pub word-span : (i from upto : ℕ) → 64 * i ≤ from → from ≤ upto → upto ≤ 64 * i + 64 → upto - from ≡ 64 → word_homes f i ≡ span f from (upto - from)
  unfolding span
  word-span i from upto l k u e = let z : from ≡ 64 * i = omega arith in rw (e, z)

  pub length-on : (from m h : ℕ) → from ≤ m → m ≤ h → length (span f from (h - from)) ≡ length (span f from (m - from)) + length (span f m (h - m))
  length-on from m h l k = ap length (span-on from m h l k) ∙ length-append (span f from (m - from)) (span f m (h - m))

  -- a pass that began at a cursor and has come to the end of all homes, or began beyond it
  pub span-all : (cursor h homes : ℕ) → cursor ≤ h → (cursor < h → h ≤ homes) → homes ≤ h
      → span f cursor (h - cursor) ≡ span f cursor (homes - cursor)
  span-all cursor h homes l k u = go (dec_lt cursor h)
    where
      go : Dec (cursor < h) → span f cursor (h - cursor) ≡ span f cursor (homes - cursor)
      go (yes d) = let e : h ≡ homes = omega (arith, k d) in rw e
      go (no d) = let e : h - cursor ≡ 0 = omega arith in let q : homes - cursor ≡ 0 = omega arith in rw (e, q)

-- ---- in a log

module _ (log : List ℕ) (groups homes start end : ℕ) (w : Walkable log groups start end) where
  abbrev tags : ℕ → Tag
  tags = entry_at log groups homes start

  abbrev ts : List (List ℕ)
  ts = closed_below log groups homes start end

  abbrev f : ℕ → Bool
  f = touches log groups homes start end

  abbrev at : ℕ → ℕ
  at = newest_at log groups homes start end

  -- what a code of the table says of its home
  module _ (i : ℕ) (table : List ℕ) (bits : ℕ) (n : Newest log groups homes start end i table bits) (h : ℕ) (low : 64 * i ≤ h) (high : h < 64 * i + 64) where
    abbrev code : ℕ
    code = get_or table (h - 64 * i) 0

    code_is : code ≡ offset_code (7 * start) (newest tags h ts)
    code_is = let e : 64 * i + (h - 64 * i) ≡ h = omega arith in rw e at (n.entry (h - 64 * i) (omega arith))

    pub code-zero : code ≡ 0 → f h ≡ false
    unfolding found offset_code
    code-zero e = go (newest tags h ts) (sym code_is ∙ e)
      where
        go : (o : Option ℕ) → offset_code (7 * start) o ≡ 0 → found o ≡ false
        go none q = refl
        go (some p) q = absurd (omega arith)

    pub code-some : code ≢ 0 → (f h ≡ true) × (7 * start + (code - 1) ≡ at h)
    unfolding offset_code
    code-some e = go (newest tags h ts) refl code_is
      where
        go : (o : Option ℕ) → newest tags h ts ≡ o → code ≡ offset_code (7 * start) o → (f h ≡ true) × (7 * start + (code - 1) ≡ at h)
        go none q c = absurd (e c)
        go (some p) q c =
            let t : f h ≡ true = rw q (unfold found in refl) in
            let s = touched-some log groups homes start end w h t in
            let y : at h ≡ s.0 = rw s.1 (unfold place_of in refl) in
            let z : code ≡ s.0 - 7 * start + 1 = code_is ∙ rw s.1 in
            (t, omega (arith, z, y, s.2))

    pub code-most : code ≤ 7 * groups
    code-most = n.most (h - 64 * i) (omega arith)

    pub code_one : cond (eqb code 0) 0 1 ≡ length (cond (f h) (h ∷ []) [])
    code_one = go (eqb code 0) refl
      where
        go : (b : Bool) → eqb code 0 ≡ b → cond b 0 1 ≡ length (cond (f h) (h ∷ []) [])
        go true e = rw (code-zero (eqb-true code 0 e))
        go false e = rw (code-some (eqb-false code 0 e)).0

  -- a word with no home marked
  pub no-touched : (i : ℕ) (table : List ℕ) (bits : ℕ) → Newest log groups homes start end i table bits → bits ≡ 0 → word_homes f i ≡ []
  no-touched i table bits n e = sym (word-bits log groups homes start end w i table bits n) ∙ rw (e, no_bits, raised-nil)

  -- homes of a word that touches none
  pub part_none : (i : ℕ) → word_homes f i ≡ [] → (from upto : ℕ) → 64 * i ≤ from → from ≤ upto → upto ≤ 64 * i + 64
      → span f from (upto - from) ≡ []
  part_none i e from upto l k u =
      let w : span f (64 * i) (64 * i + 64 - 64 * i) ≡ [] = (let q : 64 * i + 64 - 64 * i ≡ 64 = omega arith in rw q (unfold span in e)) in
      let a = span-on f (64 * i) from (64 * i + 64) l (omega arith) in
      let b = span-on f from upto (64 * i + 64) k u in
      let n : length (span f from (upto - from)) ≡ 0 =
      omega (
        arith,
        ap length w,
        ap length a ∙ length-append (span f (64 * i) (from - 64 * i)) (span f from (64 * i + 64 - from)),
        ap length b ∙ length-append (span f from (upto - from)) (span f upto (64 * i + 64 - upto)),
      ) in
      empty (span f from (upto - from)) n
    where
      empty : (xs : List ℕ) → length xs ≡ 0 → xs ≡ []
      empty [] e = refl
      empty (x ∷ xs) e = absurd (omega arith)

  -- ---- what one home more leaves

  pub length-next : (from h : ℕ) → from ≤ h → length (span f from (h + 1 - from)) ≡ length (span f from (h - from)) + length (cond (f h) (h ∷ []) [])
  length-next from h l = ap length (span-next f from h l) ∙ length-append (span f from (h - from)) (cond (f h) (h ∷ []) [])

  inside : (from n : ℕ) (a : List ℕ) → length a ≡ 64 * homes → Within a (span f from n)
  inside from n a size =
      let e : marked (λ h. leb from h && f h) (from + n) ≡ span f from n =
      span-from f from (from + n) (omega arith) ∙ ap (span f from) (omega arith) in
      rw (← e) (within-marked a (λ h. leb from h && f h) (from + n) (λ h t. fits h t))
    where
      fits : (h : ℕ) → (leb from h && f h) ≡ true → 64 * h + 64 ≤ length a
      fits h t = let l : h < homes = touches-below log groups homes start end w h (right (leb from h) (f h) t) in omega arith
        where
          right : (x y : Bool) → (x && y) ≡ true → y ≡ true
          right true y e = e
          right false y e = absurd (false≢true e)

  -- records written before, and those of homes that come after
  pub written_on : (from m h : ℕ) → from ≤ m → m ≤ h → (area a batch b d : List ℕ) (p : ℕ) → length area ≡ 64 * homes
      → a ≡ restored log groups at (span f m (h - m)) area
      → b ≡ puts batch p (batch_bytes (home_writes area (span f from (m - from))))
      → d ≡ puts b (p + 68 * length (span f from (m - from))) (batch_bytes (home_writes a (span f m (h - m))))
      → d ≡ puts batch p (batch_bytes (home_writes a (span f from (h - from))))
  written_on from m h l k area a batch b d p size e g q =
      let s : home_writes area (span f from (m - from)) ≡ home_writes a (span f from (m - from)) =
      writes-same area a (span f from (m - from))
      (λ x i. sym (ap (λ (y : List ℕ). home_at y x) e
      ∙ restored-out log groups at w.some w.long (span f m (h - m)) area x
      (λ j. let u = span-in f from (m - from) x i in let v = span-in f m (h - m) x j in omega (arith, u.1, v.0)))) in
      let t : length a ≡ 64 * homes = ap length e ∙ length-restored log groups at (span f m (h - m)) area ∙ size in
      let n : length (batch_bytes (home_writes a (span f from (m - from)))) ≡ 68 * length (span f from (m - from)) =
      length-writes a (span f from (m - from)) (inside from (m - from) a t) in
      q ∙ rw (g, s, span-on f from m h l k, bytes-append a (span f from (m - from)) (span f m (h - m)), puts-append, n)

  pub copied_on : (from m h : ℕ) → from ≤ m → m ≤ h → (area b a : List ℕ) → b ≡ restored log groups at (span f from (m - from)) area
      → a ≡ restored log groups at (span f m (h - m)) b → a ≡ restored log groups at (span f from (h - from)) area
  copied_on from m h l k area b a e q =
      q ∙ rw (e, span-on f from m h l k) (sym (restored-append log groups at (span f from (m - from)) (span f m (h - m)) area))

  -- ---- one home brought back, or none

  module _ (h : ℕ) (b : Bool) (e : f h ≡ b) (area a batch d : List ℕ) (p : ℕ) where
    pub one-copied : a ≡ cond b (put_home area h (block_at log groups (at h))) area → a ≡ restored log groups at (span f h (h + 1 - h)) area
    unfolding restored
    one-copied q = let s : h + 1 - h ≡ 1 = omega arith in rw (s, one-home f h, e) (go b q)
      where
        go : (c : Bool) → a ≡ cond c (put_home area h (block_at log groups (at h))) area
            → a ≡ restored log groups at (cond c (h ∷ []) []) area
        go true q = q
        go false q = q

    pub one_written : d ≡ cond b (puts batch p (record_bytes (HW h (home_at a h)))) batch
        → d ≡ puts batch p (batch_bytes (home_writes a (span f h (h + 1 - h))))
    one_written q = let s : h + 1 - h ≡ 1 = omega arith in rw (s, one-home f h, e) (go b q)
      where
        go : (c : Bool) → d ≡ cond c (puts batch p (record_bytes (HW h (home_at a h)))) batch
            → d ≡ puts batch p (batch_bytes (home_writes a (cond c (h ∷ []) [])))
        go true q = q ∙ ap (puts batch p) (sym (bytes-cons a h [] ∙ ap (λ (x : List ℕ). record_bytes (HW h (home_at a h)) ++ x) (bytes-nil a) ∙ append-nil _))
        go false q = q ∙ sym (rw (bytes-nil, puts-nil))

  -- the same by a code of the table
  module _ (i : ℕ) (table : List ℕ) (bits : ℕ) (n : Newest log groups homes start end i table bits) (h : ℕ) (low : 64 * i ≤ h) (high : h < 64 * i + 64) where
    abbrev told : ℕ
    told = get_or table (h - 64 * i) 0

    pub home-copied : (area a : List ℕ) → a ≡ cond (eqb told 0) area (put_home area h (block_at log groups (7 * start + (told - 1))))
        → a ≡ restored log groups at (span f h (h + 1 - h)) area
    home-copied area a q = go (eqb told 0) refl q
      where
        go : (b : Bool) → eqb told 0 ≡ b → a ≡ cond b area (put_home area h (block_at log groups (7 * start + (told - 1))))
            → a ≡ restored log groups at (span f h (h + 1 - h)) area
        go true e q = one-copied h false (code-zero i table bits n h low high (eqb-true told 0 e)) area a [] [] 0 q
        go false e q =
            let s = code-some i table bits n h low high (eqb-false told 0 e) in
            one-copied h true s.0 area a [] [] 0 (q ∙ ap (λ (x : ℕ). put_home area h (block_at log groups x)) s.1)

    pub home-written : (a batch d : List ℕ) (p : ℕ) → d ≡ cond (eqb told 0) batch (puts batch p (record_bytes (HW h (home_at a h))))
        → d ≡ puts batch p (batch_bytes (home_writes a (span f h (h + 1 - h))))
    home-written a batch d p q = go (eqb told 0) refl q
      where
        go : (b : Bool) → eqb told 0 ≡ b → d ≡ cond b batch (puts batch p (record_bytes (HW h (home_at a h))))
            → d ≡ puts batch p (batch_bytes (home_writes a (span f h (h + 1 - h))))
        go true e q = one_written h false (code-zero i table bits n h low high (eqb-true told 0 e)) [] a batch d p q
        go false e q = one_written h true (code-some i table bits n h low high (eqb-false told 0 e)).0 [] a batch d p q

    -- one more done, so this one is touched
    pub home-touched : (k r : ℕ) → r ≡ k + cond (eqb told 0) 0 1 → k < r → f h ≡ true
    home-touched k r q l = go (eqb told 0) refl q
      where
        go : (b : Bool) → eqb told 0 ≡ b → r ≡ k + cond b 0 1 → f h ≡ true
        go true e q = absurd (omega arith)
        go false e q = (code-some i table bits n h low high (eqb-false told 0 e)).0

  -- an empty stretch
  pub none-stepped : (hs : List ℕ) → hs ≡ [] → (done : ℕ) (area batch : List ℕ) (p : ℕ)
      → (done ≡ done + length hs) × (area ≡ restored log groups at hs area) × (batch ≡ puts batch p (batch_bytes (home_writes area hs)))
  none-stepped hs e done area batch p = rw e (omega arith, sym (restored-nil log groups at area), sym (rw (bytes-nil, puts-nil)))

  -- a part of a step that has not reached its limit comes further
  pub progress : (from upto done limit : ℕ) (area batch : List ℕ) (home n : ℕ) (a b : List ℕ)
      → Stepped log groups homes start end from upto done limit area batch home n a b → from < upto → done < limit → from < home
  progress from upto done limit area batch home n a b s l k = go (dec_lt from home)
    where
      go : Dec (from < home) → from < home
      go (yes d) = d
      go (no d) =
          let e : home - from ≡ 0 = omega (arith, s.rises) in
          let z : length (span f from (home - from)) ≡ 0 = rw e (ap length (span_none f from)) in
          let q : n ≡ limit = s.full (omega arith) in
          absurd (omega (arith, s.counted, z, q))

  -- a part of a step that follows others, which did not reach the limit
  pub stepped-on : (cursor h upto n limit : ℕ) (area₀ batch₀ area batch : List ℕ) (home m k : ℕ) (a b : List ℕ)
      → area ≡ restored log groups at (span f cursor (h - cursor)) area₀
      → batch ≡ puts batch₀ 0 (batch_bytes (home_writes area (span f cursor (h - cursor))))
      → n ≡ length (span f cursor (h - cursor)) → cursor ≤ h → n < limit → length area ≡ 64 * homes → k ≡ m
      → Stepped log groups homes start end h upto n limit area batch home m a b
      → Stepped log groups homes start end cursor home 0 limit area₀ batch₀ home k a b
  stepped-on cursor h upto n limit area₀ batch₀ area batch home m k a b x y z l j size e s =
      let q : 0 + 68 * length (span f cursor (h - cursor)) ≡ 68 * n = omega (arith, z) in
      record {
        rises = omega (arith, l, s.rises);
        within = omega arith;
        counted = omega (arith, e, s.counted, z, length-on f cursor h home l s.rises);
        most = omega (arith, e, s.most);
        full = λ u. absurd (omega (arith, u));
        last_done = λ u v. (let d = s.last_done (omega (arith, v, e, j)) (omega (arith, v, e)) in (omega (arith, d.0, l), d.1));
        copied = copied_on cursor h home l s.rises area₀ area a x s.copied;
        written = written_on cursor h home l s.rises area a batch₀ batch b 0 size s.copied y (rw q s.written);
      }

  -- one that does not reach the limit comes to its end
  pub stepped-whole : (from upto done limit : ℕ) (area batch : List ℕ) (home n : ℕ) (a b : List ℕ)
      → Stepped log groups homes start end from upto done limit area batch home n a b → (n ≡ limit → ⊥) → home ≡ upto
  stepped-whole from upto done limit area batch home n a b s k = go (dec_lt home upto)
    where
      go : Dec (home < upto) → home ≡ upto
      go (yes d) = absurd (k (s.full d))
      go (no d) = omega (arith, s.within)

  -- what is left of the homes from the cursor on: some of the last word, those of later words, or none
  module _ (cursor home upto limit m rest : ℕ) (l : cursor ≤ home) (k : home ≤ upto) (u : upto ≤ homes) (e : m ≡ limit)
      (c : m ≡ length (span f cursor (home - cursor))) where
    lengths : length (span f cursor (homes - cursor))
        ≡ m + length (span f home (upto - home)) + length (span f upto (homes - upto))
    lengths = omega (arith, c, length-on f cursor home homes l (omega arith), length-on f home upto homes k u)

    pub left_here : rest ≡ length (span f home (upto - home)) → (rest ≡ 0 → ⊥) → Left f homes cursor limit m rest
    left_here r z = record { all = λ q. absurd (z q); some = λ q. e; most = omega (arith, lengths, r) }

    pub left-later : length (span f home (upto - home)) ≡ 0 → (rest ≤ 0 → rest ≡ length (span f upto (homes - upto)))
        → rest ≤ length (span f upto (homes - upto)) → Left f homes cursor limit m rest
    left-later r z q = record { all = λ o. omega (arith, lengths, r, o, z (omega (arith, o))); some = λ o. e; most = omega (arith, lengths, r, q) }

  pub left-none : (cursor limit n : ℕ) → n ≡ length (span f cursor (homes - cursor)) → Left f homes cursor limit n 0
  left-none cursor limit n e = record { all = λ z. e; some = λ z. absurd (omega (arith, z)); most = omega (arith, e) }

  pub left-all : (cursor limit rest : ℕ) → limit ≡ 0 → (rest ≤ 0 → rest ≡ length (span f cursor (homes - cursor)))
      → rest ≤ length (span f cursor (homes - cursor)) → Left f homes cursor limit 0 rest
  left-all cursor limit rest e z q = record { all = λ o. omega (arith, o, z (omega (arith, o))); some = λ o. omega (arith, e); most = omega (arith, q) }

  -- ---- the step as a whole

  abbrev pub due : ℕ → List ℕ
  due cursor = touched_from (entry_at log groups homes start) (closed_below log groups homes start end) cursor homes

  pub due-span : (cursor : ℕ) → touched_from (entry_at log groups homes start) (closed_below log groups homes start end) cursor homes ≡ span f cursor (homes - cursor)
  unfolding touched_from
  due-span cursor = go (dec_le cursor homes)
    where
      go : Dec (cursor ≤ homes) → marked (λ h. leb cursor h && found (newest (entry_at log groups homes start) h (closed_below log groups homes start end))) homes ≡ span f cursor (homes - cursor)
      go (yes l) = span-from f cursor homes l
      go (no l) = let e : homes - cursor ≡ 0 = omega arith in rw e (span-beyond f cursor homes (omega arith) ∙ sym (span_none f cursor))

  pub due-length : (cursor : ℕ) → length (due cursor) ≤ homes
  unfolding touched_from
  due-length cursor = length_marked (λ h. leb cursor h && found (newest (entry_at log groups homes start) h (closed_below log groups homes start end))) homes

  none_above : (from n : ℕ) → homes ≤ from → span f from n ≡ []
  unfolding span
  none_above from n l =
      ap (raised from) (marked-none (λ j. f (from + j)) n (λ j k. touches-above log groups homes start end w (from + j) (omega arith))) ∙ raised-nil from

  -- the homes up to where the step has come are the first of those due
  pub span-take : (cursor r : ℕ) → cursor ≤ r → span f cursor (r - cursor) ≡ take (length (span f cursor (r - cursor))) (due cursor)
  span-take cursor r l = rw (due-span cursor) (go (dec_le r homes))
    where
      go : Dec (r ≤ homes) → span f cursor (r - cursor) ≡ take (length (span f cursor (r - cursor))) (span f cursor (homes - cursor))
      go (yes k) = sym (rw (span-on f cursor r homes l k) (take_at (span f cursor (r - cursor)) (span f r (homes - r)) _ refl))
      go (no k) = go' (dec_le cursor homes)
        where
          go' : Dec (cursor ≤ homes) → span f cursor (r - cursor) ≡ take (length (span f cursor (r - cursor))) (span f cursor (homes - cursor))
          go' (yes j) =
              let e : span f cursor (r - cursor) ≡ span f cursor (homes - cursor) =
              span-on f cursor homes r j (omega arith) ∙ rw (none_above homes (r - homes) (omega arith)) (append-nil _) in
              rw e (sym (take_at (span f cursor (homes - cursor)) [] _ refl ∙ refl) ∙ ap (take (length (span f cursor (homes - cursor)))) (append-nil (span f cursor (homes - cursor))))
          go' (no j) = rw (none_above cursor (r - cursor) (omega arith))

  -- the last of them
  pub span_last : (cursor r : ℕ) → cursor < r → f (r - 1) ≡ true
      → get_or (due cursor) (length (span f cursor (r - cursor)) - 1) 0 + 1 ≡ r
  span_last cursor r l t =
      let k : r - 1 < homes = touches-below log groups homes start end w (r - 1) t in
      let q : r - 1 + 1 ≡ r = omega arith in
      let p : span f cursor (r - cursor) ≡ span f cursor (r - 1 - cursor) ++ ((r - 1) ∷ []) =
      ap (λ (x : ℕ). span f cursor (x - cursor)) (sym q) ∙ span-next f cursor (r - 1) (omega arith) ∙ rw t in
      let m : length (span f cursor (r - cursor)) ≡ length (span f cursor (r - 1 - cursor)) + 1 =
      ap length p ∙ length-append (span f cursor (r - 1 - cursor)) ((r - 1) ∷ []) in
      let i : length (span f cursor (r - cursor)) - 1 ≡ length (span f cursor (r - 1 - cursor)) = omega arith in
      let d : get_or (due cursor) (length (span f cursor (r - cursor)) - 1) 0 ≡ r - 1 =
      ap (λ (x : ℕ). get_or (due cursor) x 0) i
      ∙ ap (λ (x : List ℕ). get_or x (length (span f cursor (r - 1 - cursor))) 0) (due-span cursor ∙ span-on f cursor r homes (omega arith) (omega arith))
      ∙ get_or-append (span f cursor (r - cursor)) (span f r (homes - r)) 0 (length (span f cursor (r - 1 - cursor))) (omega arith)
      ∙ ap (λ (x : List ℕ). get_or x (length (span f cursor (r - 1 - cursor))) 0) p
      ∙ get_or_at (span f cursor (r - 1 - cursor)) (r - 1) [] 0 _ refl in
      omega (arith, d)

  -- touched homes restored by their newest entries
  pub restored-homes : (hs area : List ℕ) → ((h : ℕ) → In h hs → f h ≡ true)
      → restored log groups at hs area ≡ restored_homes log groups (entry_at log groups homes start) (closed_below log groups homes start end) hs area
  unfolding restored restored_homes
  restored-homes [] area t = refl
  restored-homes (h ∷ hs) area t =
      let s = touched-some log groups homes start end w h (t h (inl refl)) in
      restored-homes hs (put_home area h (block_at log groups (at h))) (λ x i. t x (inr i))
      ∙ ap (restored_homes log groups tags ts hs) (rw s.1 (unfold place_of restore_home in refl))
