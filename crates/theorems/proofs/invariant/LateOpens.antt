-- An opening of memory that a crash left after this era's header persisted brings back the book's run. Assumes nothing.
use Prim.Native.Nat.{ℕ, suc, ◌+◌, ◌-◌, ◌*◌, ◌/◌, ◌%◌, ◌≤◌, ◌<◌}
use mathlib.Core.Path.{◌≡◌, refl, sym, ap, ◌∙◌}
use mathlib.Core.Logic.{◌⊎◌, inl, inr}
use mathlib.Core.Bool.{Bool, true, false, cond, ◌&&◌, false≢true}
use mathlib.Core.List.{List, [], ◌∷◌}
use native.Mathlib.Nat.{add_comm}
use native.Mathlib.Omega.{arith}
use lib.Dec.{leb}
use lib.ListN.{length}
use borrow.Author.Tests.{leb-true, leb-false, le-leb}
use Rattle.model.specs.Bytes.{zeros}
use Rattle.model.specs.Tag.{says, present, home_of}
use Rattle.model.specs.declared.Tag.{Tag}
use Rattle.model.specs.declared.Tag.TheVariants.{Nothing}
use Rattle.model.specs.Layout.{group_at, header_start, entry_at, block_at, home_at}
use Rattle.model.specs.Commit.{transactions, replay}
use Rattle.model.specs.Effects.{restore, replayed}
use Rattle.model.specs.Crash.{Memory}
use Rattle.model.specs.Book.{Commit, fate_at, run, write_commits, homes_after}
use Rattle.model.specs.DemandTwo.{each_contents, untrimmed, closed_below}
use Rattle.abstract_store.specs.Store.{found_in_memory}
use Rattle.model_laws.proofs.bytes.ByteLaws.{length-zeros}
use Rattle.model_laws.proofs.trace.Trace.{Ev, hist, tag_at, home_on, block_on, first_in, surviving, closer_of, oldest_of, closing_from, all_landed, whole, Apart}
use Rattle.model_laws.proofs.trace.TraceLaws.{All, all_map, Falling, falling_inside, Names, Named, tag_at-beyond, tag_at-back, tag_at-home, done-falling, done-rising, done-named, surviving-nothing}
use Rattle.model_laws.proofs.trace.WalkLaws.{Agree, transactions-local, transactions-beyond, closing_below}
use Rattle.model_laws.proofs.trace.Survivors.{survivors-if}
use Rattle.theorems.proofs.invariant.RunLaws.{run-matches, run-old, closed_below-old, closed_below-matches, SafeBelow, whole_split, whole_above}
use Rattle.theorems.proofs.invariant.BookReplay.{place, write_commits-append, replay-append, commits-replay, replay-ext, restore-place, hits_any, Fits, fits-used, replay-area, touches-hits, touches-old, length-write_commits}
use Rattle.theorems.proofs.invariant.ReadBack.{SeenIn, untrimmed-old, untrimmed-matches}
use Rattle.theorems.proofs.invariant.LogStep.{used-present, entry-of-holds, entry-of-absent, block-of-holds}
use Rattle.theorems.proofs.invariant.Invariant.{Sizes, used_at, Sound, HoldsAt, Commits, Opens, touches_above, landed_in, Late}

-- ---- transactions that the walk takes

-- each of them begins at or above c and has persisted
pub all-taken : (landed : ℕ → Bool) (c : ℕ) (N P : List ℕ → Type 0) → ((t : List ℕ) → N t → c ≤ oldest_of t → all_landed landed t ≡ true → P t)
    → (ts : List (List ℕ)) → All N ts → Apart c ts → All P (whole landed (closing_from c ts))
unfolding closing_from whole
all-taken landed c N P f [] n x = tt
all-taken landed c N P f (t ∷ ts) n x = above (leb c (closer_of t)) refl (all-taken landed c N P f ts n.1 x.1)
  where
    taken : c ≤ oldest_of t → (b : Bool) → all_landed landed t ≡ b → All P (whole landed (closing_from c ts))
        → All P (cond b (t ∷ whole landed (closing_from c ts)) [])
    taken h true a ih = (f t n.0 h a, ih)
    taken h false a ih = tt

    begins : c ≤ closer_of t → (closer_of t < c) ⊎ (c ≤ oldest_of t) → c ≤ oldest_of t
    begins h (inl z) = omega arith
    begins h (inr z) = z

    above : (b : Bool) → leb c (closer_of t) ≡ b → All P (whole landed (closing_from c ts))
        → All P (whole landed (cond b (t ∷ closing_from c ts) (closing_from c ts)))
    above true e ih = taken (begins (leb-true c (closer_of t) e) x.0) (all_landed landed t) refl ih
    above false e ih = ih

all-landed : (landed : ℕ → Bool) (ps : List ℕ) → All (λ p. landed p ≡ true) ps → all_landed landed ps ≡ true
unfolding all_landed
all-landed landed [] h = refl
all-landed landed (p ∷ ps) h = rw h.0 (all-landed landed ps h.1)

landed-each : (landed : ℕ → Bool) (ps : List ℕ) → all_landed landed ps ≡ true → All (λ p. landed p ≡ true) ps
unfolding all_landed
landed-each landed [] a = tt
landed-each landed (p ∷ ps) a = go (landed p) refl a (landed-each landed ps)
  where
    go : (b : Bool) → landed p ≡ b → (b && all_landed landed ps) ≡ true → (all_landed landed ps ≡ true → All (λ q. landed q ≡ true) ps)
        → (landed p ≡ true) × All (λ q. landed q ≡ true) ps
    go true e a f = (e, f a)
    go false e a f = absurd (false≢true a)

all_both : {A : Type 0} (P Q R : A → Type 0) → ((a : A) → P a → Q a → R a) → (l : List A) → All P l → All Q l → All R l
all_both P Q R f [] h k = tt
all_both P Q R f (x ∷ xs) h k = (f x h.0 k.0, all_both P Q R f xs h.1 k.1)

-- no position of a transaction lies past its closing entry
below-closer : (low high : ℕ) (t : List ℕ) → Falling low high t → All (λ p. (low ≤ p) × (p < suc (closer_of t))) t
unfolding closer_of
below-closer low high [] f = tt
below-closer low high (p ∷ ps) f = falling_inside low (suc p) (p ∷ ps) (f.0, omega arith, f.2)

-- ---- the memory

module _ (G D b : ℕ) (tr : List Ev) (old commits : List Commit) (m : Memory) (fs : List (ℕ → Bool)) (sizes : Sizes G D) (sound : Sound (7 * b) D tr)
    (known : Commits D b tr old commits) (late : Late G D b tr commits m fs) where
  abbrev s : ℕ
  s = header_start m.log

  abbrev c : ℕ
  c = 7 * header_start m.log

  abbrev tags : ℕ → Tag
  tags = entry_at m.log G D (header_start m.log)

  abbrev landed : ℕ → Bool
  landed = landed_in b fs

  abbrev log : ℕ → Tag
  log = tag_at (7 * b) tr

  abbrev done : List (List ℕ)
  done = (hist (7 * b) tr).done

  -- the commits that an opening brings back from the log
  abbrev saved : List (List ℕ)
  saved = whole (landed_in b fs) (closing_from (7 * header_start m.log) (hist (7 * b) tr).done)

  abbrev rest : ℕ → Tag
  rest = surviving (landed_in b fs) (7 * header_start m.log) (tag_at (7 * b) tr)

  lost-past : (p : ℕ) → 7 * (s + G) ≤ p → landed p ≡ false
  unfolding landed_in
  lost-past p h = go (fate_at fs (p / 7 - b) (p % 7)) refl
    where
      go : (x : Bool) → fate_at fs (p / 7 - b) (p % 7) ≡ x → x ≡ false
      go true e =
          let w : b + (p / 7 - b) < s + G = late.within (p / 7 - b) (p % 7) e in
          absurd (omega arith)
      go false e = refl

  -- what the log says at each position from c on
  tags-rest : Agree tags rest c (7 * G)
  unfolding surviving landed_in
  tags-rest p l h = go (fate_at fs (p / 7 - b) (p % 7)) refl
    where
      e : 7 * (p / 7) + p % 7 ≡ p
      e = omega arith

      low : s ≤ p / 7
      low = omega arith

      high : p / 7 < s + G
      high = omega arith

      go : (x : Bool) → fate_at fs (p / 7 - b) (p % 7) ≡ x → tags p ≡ says (x && leb c (first_in (log p))) (log p)
      go true f =
          rw e at
          (entry-of-holds m.log G D s (p / 7) (p % 7) b tr sizes.homes sound low high (omega arith)
          (late.there (p / 7) (p % 7) low high (omega arith) f))
      go false f =
          unfold says in
          (rw e at
          (entry-of-absent m.log G D s (p / 7) (p % 7) (omega arith) (late.absent (p / 7) (p % 7) low high (omega arith) f)))

  -- what an opening finds
  start-inside : c ≤ 7 * b + length tr
  start-inside = go (leb s b) refl
    where
      go : (x : Bool) → leb s b ≡ x → c ≤ 7 * b + length tr
      go true e = omega (arith, leb-true s b e)
      go false e =
          let f : b < s = leb-false s b e in
          let k : 7 * (s - 1 - b) + 7 ≤ length tr = late.inside (s - 1 - b) 0 (late.below (s - 1) 0 (omega arith) (omega arith)) in
          omega arith

  rest-lost : (p : ℕ) → landed p ≡ false → rest p ≡ Nothing
  unfolding surviving says
  rest-lost p e = rw (e, says)

  found : transactions tags c (7 * G) ≡ saved
  found =
      let n : ℕ = 7 * b + length tr - c in
      let i : c ≤ 7 * b + length tr = start-inside in
      transactions-local tags rest c (7 * G) tags-rest
      ∙ sym (transactions-beyond rest c (7 * G) n (λ j h. rest-lost (c + j) (lost-past (c + j) (omega arith))))
      ∙ ap (transactions rest c) (add_comm n (7 * G))
      ∙ transactions-beyond rest c n (7 * G) (λ j h. surviving-nothing landed c log (c + j) (tag_at-beyond (7 * b) tr (c + j) (omega arith)))
      ∙ survivors-if (7 * b) tr c landed n (omega (arith, late.from)) late.apart late.links (omega arith)

  -- all that closes below c has persisted
  landed-below : (p : ℕ) → 7 * b ≤ p → p < c → landed p ≡ true
  unfolding landed_in
  landed-below p l h = late.below (p / 7) (p % 7) (omega arith) (omega arith)

  safe-one : (t : List ℕ) → Falling (7 * b) (7 * b + length tr) t → SafeBelow landed c t
  safe-one t f h =
      all-landed landed t
      (all_map (λ p. (7 * b ≤ p) × (p < suc (closer_of t))) (λ p. landed p ≡ true) (λ p k. landed-below p k.0 (omega (arith, k.1))) t
      (below-closer (7 * b) (7 * b + length tr) t f))

  safe : All (SafeBelow landed c) done
  safe = all_map (Falling (7 * b) (7 * b + length tr)) (SafeBelow landed c) safe-one done (done-falling (7 * b) tr)

  -- each entry that is replayed is the trace's
  fits-at : (p : ℕ) → present (log p) ≡ true → Fits D b tr p
  fits-at p h = fits-used D b tr p sound (used-present (7 * b) tr p ∙ h)

  group-held : (p : ℕ) → c ≤ p → landed p ≡ true → (p < 7 * (s + G)) × HoldsAt G (7 * b) tr (group_at m.log (p / 7 % G)) (p / 7) (p % 7)
  unfolding landed_in
  group-held p l e =
      let w : b + (p / 7 - b) < s + G = late.within (p / 7 - b) (p % 7) e in
      let o : b ≤ s = late.from in
      (omega arith, late.there (p / 7) (p % 7) (omega arith) (omega arith) (omega arith) e)

  block_held : (p : ℕ) → HoldsAt G (7 * b) tr (group_at m.log (p / 7 % G)) (p / 7) (p % 7) → used_at (7 * b) tr p ≡ true
      → block_at m.log G p ≡ block_on (7 * b) tr p
  block_held p h u =
      let e : 7 * (p / 7) + p % 7 ≡ p = omega arith in
      rw e at (block-of-holds m.log G D (p / 7) (p % 7) b tr sizes.homes sound (omega arith) (rw e u) h)

  rest-kept : (p : ℕ) → landed p ≡ true → c ≤ first_in (log p) → rest p ≡ log p
  unfolding surviving says
  rest-kept p e l = rw (e, le-leb c (first_in (log p)) l, says)

  -- the log shows what the trace has at an entry that persisted
  seen_at : (p : ℕ) → landed p ≡ true → c ≤ first_in (log p) → present (log p) ≡ true → SeenIn tags m.log G b tr p
  seen_at p e l h =
      let o : c ≤ p = omega (arith, tag_at-back (7 * b) tr p) in
      let g = group-held p o e in (
        ap home_of (tags-rest p o (omega (arith, g.0)) ∙ rest-kept p e l) ∙ tag_at-home (7 * b) tr p h,
        block_held p g.1 (used-present (7 * b) tr p ∙ h),
      )

  seen : All (All (SeenIn tags m.log G b tr)) saved
  seen =
      all-taken landed c (Named log) (All (SeenIn tags m.log G b tr))
      (λ t n l a.
      all_both (Names log (oldest_of t)) (λ p. landed p ≡ true) (SeenIn tags m.log G b tr)
      (λ p k e. seen_at p e (omega (arith, k.1)) k.0) t n (landed-each landed t a))
      done (done-named (7 * b) tr) late.apart

  placed : All (All (λ p. (a : List ℕ) → restore m.log G tags p a ≡ place b tr p a)) saved
  placed =
      all_map (All (SeenIn tags m.log G b tr)) (All (λ p. (a : List ℕ) → restore m.log G tags p a ≡ place b tr p a))
      (all_map (SeenIn tags m.log G b tr) (λ p. (a : List ℕ) → restore m.log G tags p a ≡ place b tr p a)
      (λ p k. restore-place m.log G tags b tr p k.0 k.1)) saved seen

  fits : All (All (Fits D b tr)) saved
  fits =
      all-taken landed c (Named log) (All (Fits D b tr)) (λ t n l a. all_map (Names log (oldest_of t)) (Fits D b tr) (λ p k. fits-at p k.0) t n)
      done (done-named (7 * b) tr) late.apart

  -- the book's homes
  book-below : homes_after D (closed_below c commits) ≡ replay (place b tr) (closing_below c done) (write_commits old (zeros (64 * D)))
  unfolding homes_after
  book-below =
      rw (known.split, closed_below-old D c old known.new known.past, write_commits-append old (closed_below c known.new) (zeros (64 * D)))
      (commits-replay b tr (closed_below c known.new) (closing_below c done) (write_commits old (zeros (64 * D)))
      (closed_below-matches b tr c known.new done known.matches))

  book-whole : homes_after D (run fs commits) ≡ replay (place b tr) (whole landed done) (write_commits old (zeros (64 * D)))
  unfolding homes_after
  book-whole =
      rw (known.split, run-old D fs old known.new known.past, write_commits-append old (run fs known.new) (zeros (64 * D)))
      (commits-replay b tr (run fs known.new) (whole landed done) (write_commits old (zeros (64 * D)))
      (run-matches b tr fs known.new done known.matches))

  book-run : homes_after D (run fs commits) ≡ replay (place b tr) saved (homes_after D (closed_below c commits))
  book-run =
      rw (book-below, book-whole, whole_split landed c (7 * b) (7 * b + length tr) done (done-rising (7 * b) tr) safe)
      (replay-append (place b tr) (closing_below c done) saved (write_commits old (zeros (64 * D))))

  touches : (h : ℕ) → touches_above c h (run fs commits) ≡ hits_any (home_on (7 * b) tr) h saved
  touches h =
      rw (known.split, run-old D fs old known.new known.past, touches-old D c h old (run fs known.new) known.past)
      (rw (← whole_above landed c done safe)
      (touches-hits b tr c h (run fs known.new) (whole landed done) (run-matches b tr fs known.new done known.matches)))

  book-size : length (homes_after D (closed_below c commits)) ≡ 64 * D
  unfolding homes_after
  book-size = length-write_commits (closed_below c commits) (zeros (64 * D)) ∙ length-zeros (64 * D)

  home-agrees : (h : ℕ) → h < D
      → (home_at m.area h ≡ home_at (homes_after D (closed_below c commits)) h) ⊎ (hits_any (home_on (7 * b) tr) h saved ≡ true)
  home-agrees h l = go (late.homes h l)
    where
      go : (home_at m.area h ≡ home_at (homes_after D (closed_below c commits)) h) ⊎ (touches_above c h (run fs commits) ≡ true)
          → (home_at m.area h ≡ home_at (homes_after D (closed_below c commits)) h) ⊎ (hits_any (home_on (7 * b) tr) h saved ≡ true)
      go (inl e) = inl e
      go (inr e) = inr (sym (touches h) ∙ e)

  brought-back : replayed m.log G tags (transactions tags c (7 * G)) m.area ≡ homes_after D (run fs commits)
  unfolding replayed
  brought-back =
      ap (λ l. replay (restore m.log G tags) l m.area) found
      ∙ replay-ext (restore m.log G tags) (place b tr) saved m.area placed
      ∙ replay-area D b tr saved m.area (homes_after D (closed_below c commits)) fits late.area_size book-size home-agrees
      ∙ sym book-run

  pub late-opens : Opens G D m (homes_after D (run fs commits))
  late-opens =
      record {
        log_size = late.log_size;
        area_size = late.area_size;
        header = late.header;
        start = late.start;
        numbers = late.numbers;
        restored = brought-back;
      }

  -- what the rule finds, entry by entry: the commits of the run that the header has not trimmed
  pub late-found : found_in_memory G D m ≡ untrimmed c (run fs commits)
  unfolding found_in_memory
  late-found =
      ap (each_contents tags m.log G) (found ∙ sym (whole_above landed c done safe))
      ∙ untrimmed-matches tags m.log G b tr c (run fs known.new) (whole landed done) (run-matches b tr fs known.new done known.matches)
      (rw (whole_above landed c done safe) seen)
      ∙ sym (rw (known.split, run-old D fs old known.new known.past) (untrimmed-old D c old (run fs known.new) known.past))
