-- The memory that a crash may leave in the stretch after the last fence: any choice of the groups submitted since, and of the homes that a settle or
-- a round's steps write or the header that a trim writes, leaves memory as the invariant has it (Late). Assumes nothing.
use Prim.Native.Nat.{ℕ, ◌+◌, ◌-◌, ◌*◌, ◌/◌, ◌%◌, ◌^◌, ◌≤◌, ◌<◌}
use mathlib.Core.Path.{◌≡◌, refl, sym, ap, ◌∙◌}
use mathlib.Core.Logic.{◌⊎◌, inl, inr}
use mathlib.Core.Bool.{Bool, true, false, cond, ◌&&◌, false≢true}
use mathlib.Core.List.{List, [], ◌∷◌, ◌++◌, append-nil}
use mathlib.Core.Option.{Option, none, some}
use native.Mathlib.Nat.{mod-lt}
use native.Mathlib.Omega.{arith}
use lib.Dec.{eqb, leb}
use lib.ListN.{length}
use borrow.Author.Tests.{ne_eqb, leb-true, leb-false}
use Rattle.model.specs.Bytes.{part, puts, same}
use Rattle.model.specs.Layout.{header, group_mark, group_at, group_number, group_block, turn_of, top_bit, header_right, header_start, home_at}
use Rattle.model.specs.Batch.{KW, Record}
use Rattle.model.specs.Effects.{home_writes}
use Rattle.model.specs.Crash.{Memory, persist_chosen, fates_chosen}
use Rattle.model.specs.Book.{Commit, fate_at, run, homes_after}
use Rattle.model.specs.DemandTwo.{closed_below}
use Rattle.model.specs.declared.Tag.{Tag}
use Rattle.model_laws.proofs.bytes.ByteLaws.{length-puts}
use Rattle.model_laws.proofs.bytes.TurnLaws.{turn_of-lt}
use Rattle.model_laws.proofs.bytes.LayoutLaws.{length-header, header-start, header-right, length-group_at, group-fits, group-header, ring}
use Rattle.model_laws.proofs.bytes.BlockLaws.{block_in, same-mark, same_number, same_tag, same-data, group-ext}
use Rattle.model_laws.proofs.trace.CrashLaws.{trues, submits, piece_count, none-submits, chosen-append, fate-append, fate_at-trues, fate_at-after, NoFence, none-homes, none-append}
use Rattle.model_laws.proofs.trace.SubmitLaws.{fate_at-submits, fate_at-submits-past, area-submits, length-submits, header_start-submits, header_right-submits, group_at-elsewhere, block_in-submits, meta-submits}
use Rattle.model_laws.proofs.trace.HomeLaws.{In, fates-homes, log-homes, length-homes, home_at-homes, log-header, area-header, fates-header}
use Rattle.model_laws.proofs.trace.Trace.{Ev, hist, tag_at, closer_of, Apart, Linked, LinkedIf}
use Rattle.model_laws.proofs.trace.LinkLaws.{linked-later}
use Rattle.theorems.proofs.invariant.Invariant.{Holds, HoldsAt, NotGroup, NotAt, FoundBelow, touches_above, landed_in, Late, HeldHome}
use Rattle.theorems.proofs.invariant.GrowLaws.{holds_at}
use Rattle.theorems.proofs.invariant.TouchLaws.{commits-fit, touches-more, homes_after-untouched, LandedBelow, touches-run}
use Rattle.theorems.proofs.invariant.Now.{Now}

-- ---- numbers

-- a number below a group, in a stretch of k from it on, or past that
where-is : (n group k : ℕ) → (n < group) ⊎ (((group ≤ n) × (n < group + k)) ⊎ (group + k ≤ n))
where-is n group k = go (leb group n) (leb (group + k) n) refl refl
  where
    go : (x y : Bool) → leb group n ≡ x → leb (group + k) n ≡ y → (n < group) ⊎ (((group ≤ n) × (n < group + k)) ⊎ (group + k ≤ n))
    go false y p q = inl (leb-false group n p)
    go true false p q = inr (inl (leb-true group n p, leb-false (group + k) n q))
    go true true p q = inr (inr (leb-true (group + k) n q))

-- where all numbers found are below a bound, no slot holds a group from it on
pub found-not : (log : List ℕ) (G bound slot n : ℕ) → FoundBelow log G bound → slot < G → bound ≤ n → NotGroup (group_at log slot) n
found-not log G bound slot n f l h = go (same (part (group_at log slot) 0 2) group_mark) refl
  where
    go : (d : Bool) → same (part (group_at log slot) 0 2) group_mark ≡ d → (d && eqb (group_number (group_at log slot)) n) ≡ false
    go true e = ne_eqb (group_number (group_at log slot)) n (λ q. omega (arith, f slot l e))
    go false e = refl

-- slots with the same metadata
not-group-same : (g h : List ℕ) (n : ℕ) → block_in g 0 ≡ block_in h 0 → NotGroup h n → NotGroup g n
not-group-same g h n e k = rw (same-mark g h e, same_number g h e) k

opposite : (t : ℕ) → t < 2 → 1 - t ≡ t → ⊥
opposite t l e = omega arith

linked_if-all : (landed : ℕ → Bool) (c : ℕ) (log : ℕ → Tag) (prev : Option ℕ) (ts : List (List ℕ)) → Linked c log prev ts
    → LinkedIf landed c log prev ts
linked_if-all landed c log prev [] l = tt
linked_if-all landed c log prev (t ∷ ts) l = (λ a i. l.0 i, linked_if-all landed c log (some (closer_of t)) ts l.1)

module _ {G D b : ℕ} {tr : List Ev} {old commits : List Commit} {start settled group count : ℕ} {content : ℕ → List ℕ} {m : Memory}
    (N : Now G D b tr old commits start settled group count content m) where
  low : b ≤ group
  low = omega (arith, N.from, N.start_settled, N.settled_group)

  content-size : (n : ℕ) → group ≤ n → n < group + count → length (content n) ≡ 512
  content-size n x y = (N.contents n x y).size

  -- ---- the fates of the groups

  module _ (chosen : ℕ → Bool) where
    abbrev fates_now : List (ℕ → Bool)
    fates_now = trues (group - b) ++ fates_chosen chosen 0 (submits G group content count)

    abbrev pub image : Memory
    image = persist_chosen chosen 0 (submits G group content count) m

    fate-before : (n k : ℕ) → b ≤ n → n < group → fate_at fates_now (n - b) k ≡ true
    fate-before n k l h = fate_at-trues (group - b) _ (n - b) k (omega (arith, low))

    -- whether block j of a group submitted since was chosen
    abbrev pub took : ℕ → ℕ → Bool
    took n j = chosen (0 + 8 * (n - group) + j)

    fate-since : (n k : ℕ) → group ≤ n → n < group + count → k < 7 → fate_at fates_now (n - b) k ≡ (took n 0 && took n (k + 1))
    fate-since n k x y z =
        let e : n - b - (group - b) ≡ n - group = omega (arith, low) in
        let i : k % 7 ≡ k = omega arith in
        fate_at-after (group - b) _ (n - b) k (omega arith) ∙ rw e (rw i at (fate_at-submits chosen 0 G group content count (n - group) k (omega arith)))

    fate-beyond : (n k : ℕ) → group + count ≤ n → fate_at fates_now (n - b) k ≡ false
    fate-beyond n k h =
        fate_at-after (group - b) _ (n - b) k (omega arith)
        ∙ fate_at-submits-past chosen 0 G group content count (n - b - (group - b)) k (omega (arith, low))

    -- only groups that were submitted persisted
    pub fates-within : (r k : ℕ) → fate_at fates_now r k ≡ true → b + r < group + count
    fates-within r k t = go (leb (group + count) (b + r)) refl
      where
        go : (d : Bool) → leb (group + count) (b + r) ≡ d → b + r < group + count
        go true e =
            let q : b + r - b ≡ r = omega arith in
            let f : fate_at fates_now r k ≡ false = rw q at (fate-beyond (b + r) k (leb-true (group + count) (b + r) e)) in
            absurd (false≢true (sym f ∙ t))
        go false e = leb-false (group + count) (b + r) e

    landed-below : LandedBelow (7 * b) (7 * group) (landed_in b fates_now)
    unfolding landed_in
    landed-below p x y = fate-before (p / 7) (p % 7) (omega arith) (omega arith)

    -- ---- the groups in the log

    room : count ≤ G
    room = omega (arith, N.room, N.start_settled, N.settled_group)

    pub numbers-now : FoundBelow image.log G (group + count)
    numbers-now slot l t = go (meta-submits chosen 0 G group content count m slot (omega arith) room N.log_size content-size)
      where
        go : (block_in (group_at image.log slot) 0 ≡ block_in (group_at m.log slot) 0)
            ⊎ ((n : ℕ) × (group ≤ n) × (n < group + count) × (block_in (group_at image.log slot) 0 ≡ block_in (content n) 0))
            → group_number (group_at image.log slot) < group + count
        go (inl e) =
            let f : same (part (group_at m.log slot) 0 2) group_mark ≡ true = ap (λ (x : List ℕ). same x group_mark) (sym (same-mark _ _ e)) ∙ t in
            omega (arith, same_number (group_at image.log slot) (group_at m.log slot) e, N.numbers slot l f)
        go (inr x) =
            omega (arith, same_number (group_at image.log slot) (content x.0) x.3, (N.contents x.0 x.1 x.2).number, x.2)

    -- groups submitted before the fence, those since that were chosen, and those that were not
    pub kept : (n : ℕ) → start ≤ n → n < start + G → (group ≤ n → n < group + count → ⊥) → group_at image.log (n % G) ≡ group_at m.log (n % G)
    kept n x y o =
        group_at-elsewhere chosen 0 G group content count m (n % G)
        (λ i u v e.
        let q : n ≡ i = ring start G n i x y (omega (arith, N.start_settled, N.settled_group)) (omega (arith, N.room)) e in
        o (omega arith) (omega arith))

    pub there-before : (n : ℕ) → start ≤ n → n < group → Holds G (7 * b) tr (group_at image.log (n % G)) n
    there-before n x y =
        rw (kept n x (omega (arith, N.room)) (λ i j. omega arith)) (N.there n x y)

    written : (n j : ℕ) → group ≤ n → n < group + count → j < 8
        → block_in (group_at image.log (n % G)) j ≡ cond (took n j) (block_in (content n) j) (block_in (group_at m.log (n % G)) j)
    written n j x y h =
        block_in-submits chosen 0 G group content count m n j (omega (arith, N.sizes.low)) room N.log_size content-size x y h

    group-size : (n : ℕ) → length (group_at image.log (n % G)) ≡ 512
    group-size n =
        length-group_at image.log (n % G)
        (group-fits (n % G) image.log G (mod-lt n (omega (arith, N.sizes.low))) (length-submits chosen 0 G group content count m ∙ N.log_size))

    -- all blocks of it were chosen
    pub there-since : (n : ℕ) → group ≤ n → n < group + count → ((j : ℕ) → took n j ≡ true) → Holds G (7 * b) tr (group_at image.log (n % G)) n
    there-since n x y t =
        rw (group-ext (group_at image.log (n % G)) (content n) (group-size n) (content-size n x y) (λ j h. written n j x y h ∙ rw (t j)))
        (N.contents n x y)

    -- its metadata and data block k were
    entry-since : (n k : ℕ) → group ≤ n → n < group + count → k < 7 → took n 0 ≡ true → took n (k + 1) ≡ true
        → HoldsAt G (7 * b) tr (group_at image.log (n % G)) n k
    entry-since n k x y i t u =
        let e : block_in (group_at image.log (n % G)) 0 ≡ block_in (content n) 0 = written n 0 x y (omega arith) ∙ rw t in
        let f : group_block (group_at image.log (n % G)) k ≡ group_block (content n) k =
        same-data _ (content n) k (written n (k + 1) x y (omega arith) ∙ rw u) in
        let h = N.contents n x y in
        record {
          mark = rw (same-mark _ (content n) e) h.mark;
          number = same_number _ (content n) e ∙ h.number;
          word = same_tag _ (content n) e k i ∙ h.words k i;
          turn = rw f (h.turns k i);
          block = λ v. f ∙ h.blocks k i v;
        }

    -- one of them was not: the slot has older metadata, or a data block of the other turn
    absent-since : (n k : ℕ) → group ≤ n → n < group + count → k < 7 → (took n 0 && took n (k + 1)) ≡ false
        → NotAt G (group_at image.log (n % G)) n k
    absent-since n k x y i t = go (took n 0) (took n (k + 1)) refl refl t
      where
        before : NotGroup (group_at m.log (n % G)) n
        before = found-not m.log G group (n % G) n N.numbers (mod-lt n (omega (arith, N.sizes.low))) x

        go : (d e : Bool) → took n 0 ≡ d → took n (k + 1) ≡ e → (d && e) ≡ false → NotAt G (group_at image.log (n % G)) n k
        go false e p q r = inl (not-group-same _ (group_at m.log (n % G)) n (written n 0 x y (omega arith) ∙ rw p) before)
        go true true p q r = absurd (false≢true (sym r))
        go true false p q r =
            let f : group_block (group_at image.log (n % G)) k ≡ group_block (group_at m.log (n % G)) k =
            same-data _ (group_at m.log (n % G)) k (written n (k + 1) x y (omega arith) ∙ rw q) in
            inr (λ u. opposite (turn_of G n) (turn_of-lt G n) (sym (N.turned n x (omega (arith, N.room)) k i) ∙ ap top_bit (sym f) ∙ u))

    -- ---- memory with the header at s, these groups and some homes

    module _ (s : ℕ) (M : Memory) (from : start ≤ s) (upto : 7 * s ≤ settled) (most : s ≤ 2 ^ 47) (apart : Apart (7 * s) (hist (7 * b) tr).done)
        (log_size : length M.log ≡ 64 + 512 * G) (area_size : length M.area ≡ 64 * D) (right : header_right M.log G D ≡ true)
        (at : header_start M.log ≡ s) (groups : (slot : ℕ) → group_at M.log slot ≡ group_at image.log slot)
        (homes : (h : ℕ) → h < D → HeldHome D commits (7 * s) (7 * group) M.area h) where
      late-there : (n k : ℕ) → s ≤ n → k < 7 → fate_at fates_now (n - b) k ≡ true → HoldsAt G (7 * b) tr (group_at M.log (n % G)) n k
      late-there n k x i t = rw (groups (n % G)) (go (where-is n group count))
        where
          both : (d e : Bool) → (d && e) ≡ true → (d ≡ true) × (e ≡ true)
          both true e q = (refl, q)
          both false e q = absurd (false≢true q)

          go : (n < group) ⊎ (((group ≤ n) × (n < group + count)) ⊎ (group + count ≤ n)) → HoldsAt G (7 * b) tr (group_at image.log (n % G)) n k
          go (inl h) = holds_at G (7 * b) tr (group_at image.log (n % G)) n k i (there-before n (omega arith) h)
          go (inr (inl h)) =
              let q = both (took n 0) (took n (k + 1)) (sym (fate-since n k h.0 h.1 i) ∙ t) in
              entry-since n k h.0 h.1 i q.0 q.1
          go (inr (inr h)) = absurd (false≢true (sym (fate-beyond n k h) ∙ t))

      late-absent : (n k : ℕ) → s ≤ n → k < 7 → fate_at fates_now (n - b) k ≡ false → NotAt G (group_at M.log (n % G)) n k
      late-absent n k x i t = rw (groups (n % G)) (go (where-is n group count))
        where
          go : (n < group) ⊎ (((group ≤ n) × (n < group + count)) ⊎ (group + count ≤ n)) → NotAt G (group_at image.log (n % G)) n k
          go (inl h) = absurd (false≢true (sym t ∙ fate-before n k (omega (arith, N.from)) h))
          go (inr (inl h)) = absent-since n k h.0 h.1 i (sym (fate-since n k h.0 h.1 i) ∙ t)
          go (inr (inr h)) = inl (found-not image.log G (group + count) (n % G) n numbers-now (mod-lt n (omega (arith, N.sizes.low))) h)

      late-homes : (h : ℕ) → h < D
          → (home_at M.area h ≡ home_at (homes_after D (closed_below (7 * s) commits)) h) ⊎ (touches_above (7 * s) h (run fates_now commits) ≡ true)
      late-homes h l = let x = homes h l in go x.0 x.1 x.2 x.3 (touches_above (7 * s) h (closed_below x.0 commits)) refl
        where
          go : (bound : ℕ) → 7 * s ≤ bound → bound ≤ 7 * group → home_at M.area h ≡ home_at (homes_after D (closed_below bound commits)) h
              → (d : Bool) → touches_above (7 * s) h (closed_below bound commits) ≡ d
              → (home_at M.area h ≡ home_at (homes_after D (closed_below (7 * s) commits)) h) ⊎ (touches_above (7 * s) h (run fates_now commits) ≡ true)
          go bound x y e true q =
              inr
              (touches-run D b (7 * group) (7 * s) h tr old commits fates_now N.booked landed-below
              (touches-more (7 * s) h bound (7 * group) commits y q))
          go bound x y e false q =
              inl (e ∙ sym (homes_after-untouched D h (7 * s) bound x commits (commits-fit D b tr old commits N.sound N.booked) q))

      late : Late G D b tr commits M fates_now
      late =
          record {
            log_size = log_size;
            area_size = area_size;
            header = right;
            start = rw at most;
            from = rw at (omega (arith, N.from));
            numbers = rw at (λ slot l t. late-number slot l t);
            below = rw at (λ n k x y. fate-before n k x (omega (arith, N.settled_group)));
            inside = λ r k t. omega (arith, fates-within r k t, N.logged);
            within = rw at (λ r k t. omega (arith, fates-within r k t, N.room));
            there = rw at (λ n k x y i t. late-there n k x i t);
            absent = rw at (λ n k x y i t. late-absent n k x i t);
            apart = rw at apart;
            links =
                rw at
                (linked_if-all (landed_in b fates_now) (7 * s) (tag_at (7 * b) tr) none (hist (7 * b) tr).done
                (linked-later (7 * start) (7 * s) (tag_at (7 * b) tr) none (hist (7 * b) tr).done (omega arith) N.links));
            homes = rw at late-homes;
          }
        where
          late-number : (slot : ℕ) → slot < G → same (part (group_at M.log slot) 0 2) group_mark ≡ true → group_number (group_at M.log slot) < s + G
          late-number slot l t = rw (groups slot) (omega (arith, N.room, numbers-now slot l (rw (groups slot) at t)))

  -- ---- the groups alone

  pub image-start : (chosen : ℕ → Bool) → header_start (image chosen).log ≡ start
  image-start chosen = header_start-submits chosen 0 G group content count m ∙ N.head_start

  pub image-right : (chosen : ℕ → Bool) → header_right (image chosen).log G D ≡ true
  image-right chosen = header_right-submits chosen 0 G group content count m G D ∙ N.header

  pub image-size : (chosen : ℕ → Bool) → length (image chosen).log ≡ 64 + 512 * G
  image-size chosen = length-submits chosen 0 G group content count m ∙ N.log_size

  pub image-area : (chosen : ℕ → Bool) → (image chosen).area ≡ m.area
  image-area chosen = area-submits chosen 0 G group content count m

  pub image-homes : (chosen : ℕ → Bool) → length (image chosen).area ≡ 64 * D
  image-homes chosen = ap length (image-area chosen) ∙ N.area_size

  -- ---- the groups, and homes that are written after them

  module _ (area' hs : List ℕ) (size : length area' ≡ 64 * D) (inside : (h : ℕ) → In h hs → h < D)
      (held : (h : ℕ) → In h hs → HeldHome D commits settled (7 * group) area' h) (chosen : ℕ → Bool) where
    abbrev stretch : List Record
    stretch = submits G group content count ++ home_writes area' hs

    abbrev at : ℕ
    at = 0 + piece_count (submits G group content count)

    abbrev homed : Memory
    homed = persist_chosen chosen at (home_writes area' hs) (image chosen)

    homed-is : persist_chosen chosen 0 stretch m ≡ homed
    homed-is = chosen-append chosen 0 (submits G group content count) (home_writes area' hs) m (none-submits G group content count)

    homed-fates : fates_chosen chosen 0 stretch ≡ fates_chosen chosen 0 (submits G group content count)
    homed-fates =
        fate-append chosen 0 (submits G group content count) (home_writes area' hs) (none-submits G group content count)
        ∙ rw fates-homes (append-nil (fates_chosen chosen 0 (submits G group content count)))

    homed-log : homed.log ≡ (image chosen).log
    homed-log = log-homes chosen at area' hs (image chosen)

    homed-size : length homed.area ≡ 64 * D
    homed-size = length-homes chosen at area' hs (image chosen) ∙ image-homes chosen

    -- each home is as it was, or as the settle or the round's step has it
    homed-homes : (s : ℕ) → 7 * s ≤ settled → (h : ℕ) → h < D → HeldHome D commits (7 * s) (7 * group) homed.area h
    homed-homes s l h i = go (home_at-homes chosen at area' hs (image chosen) h D inside (image-homes chosen) size)
      where
        go : (home_at homed.area h ≡ home_at (image chosen).area h) ⊎ (In h hs × (home_at homed.area h ≡ home_at area' h))
            → HeldHome D commits (7 * s) (7 * group) homed.area h
        go (inl e) = let x = N.homes h i in (x.0, omega (arith, x.1), x.2, e ∙ ap (λ a. home_at a h) (image-area chosen) ∙ x.3)
        go (inr p) = let x = held h p.0 in (x.0, omega (arith, x.1), x.2, p.1 ∙ x.3)

    pub now-late-homes : Late G D b tr commits (persist_chosen chosen 0 stretch m) (trues (group - b) ++ fates_chosen chosen 0 stretch)
    now-late-homes =
        rw (homed-is, homed-fates)
        (late chosen start homed (omega arith) N.start_settled N.most N.apart (rw homed-log (image-size chosen)) homed-size
        (rw homed-log (image-right chosen)) (rw homed-log (image-start chosen)) (λ slot. rw homed-log)
        (λ h l. homed-homes start N.start_settled h l))

    pub same_start : header_start (persist_chosen chosen 0 stretch m).log ≡ start
    same_start = rw (homed-is, homed-log) (image-start chosen)

    -- ---- the header that a trim writes after them

    module _ (s : ℕ) (from : start ≤ s) (upto : 7 * s ≤ settled) (most : s ≤ 2 ^ 47) (apart : Apart (7 * s) (hist (7 * b) tr).done) where
      abbrev moved : Memory
      moved = persist_chosen chosen (0 + piece_count stretch) (KW (header s G D) ∷ []) (persist_chosen chosen 0 stretch m)

      no-fence : NoFence stretch
      no-fence = none-append (submits G group content count) (home_writes area' hs) (none-submits G group content count) (none-homes area' hs)

      moved-is : persist_chosen chosen 0 (stretch ++ (KW (header s G D) ∷ [])) m ≡ moved
      moved-is = chosen-append chosen 0 stretch (KW (header s G D) ∷ []) m no-fence

      moved-fates : fates_chosen chosen 0 (stretch ++ (KW (header s G D) ∷ [])) ≡ fates_chosen chosen 0 (submits G group content count)
      moved-fates =
          fate-append chosen 0 stretch (KW (header s G D) ∷ []) no-fence ∙ rw fates-header (append-nil (fates_chosen chosen 0 stretch)) ∙ homed-fates

      moved-area : moved.area ≡ homed.area
      moved-area = area-header chosen (0 + piece_count stretch) (header s G D) (persist_chosen chosen 0 stretch m) ∙ ap (λ (x : Memory). x.area) homed-is

      moved-log : moved.log ≡ cond (chosen (0 + piece_count stretch)) (puts (image chosen).log 0 (header s G D)) (image chosen).log
      moved-log =
          log-header chosen (0 + piece_count stretch) (header s G D) (persist_chosen chosen 0 stretch m)
          ∙ rw (homed-is, homed-log)

      long : 64 ≤ length (image chosen).log
      long = omega (arith, image-size chosen)

      moved-homes : (r : ℕ) → 7 * r ≤ settled → (h : ℕ) → h < D → HeldHome D commits (7 * r) (7 * group) moved.area h
      moved-homes r l h i = rw moved-area (homed-homes r l h i)

      pub now-late-trim :
          Late G D b tr commits (persist_chosen chosen 0 (stretch ++ (KW (header s G D) ∷ [])) m)
          (trues (group - b) ++ fates_chosen chosen 0 (stretch ++ (KW (header s G D) ∷ [])))
      now-late-trim = rw (moved-is, moved-fates) (go (chosen (0 + piece_count stretch)) moved-log)
        where
          go : (d : Bool) → moved.log ≡ cond d (puts (image chosen).log 0 (header s G D)) (image chosen).log
              → Late G D b tr commits moved (trues (group - b) ++ fates_chosen chosen 0 (submits G group content count))
          go true e =
              late chosen s moved from upto most apart (rw e (length-puts (image chosen).log 0 (header s G D) ∙ image-size chosen))
              (rw moved-area homed-size)
              (rw e (header-right (image chosen).log s G D (omega (arith, N.sizes.high)) (omega (arith, N.sizes.homes)) long))
              (rw e (header-start (image chosen).log s G D (omega arith) long))
              (λ slot. rw e (group-header (image chosen).log (header s G D) slot (omega (arith, length-header s G D))))
              (λ h l. moved-homes s upto h l)
          go false e =
              late chosen start moved (omega arith) N.start_settled N.most N.apart (rw e (image-size chosen)) (rw moved-area homed-size)
              (rw e (image-right chosen)) (rw e (image-start chosen)) (λ slot. rw e) (λ h l. moved-homes start N.start_settled h l)

      -- the header of memory is the old one or the new one
      pub start-trim : header_start (persist_chosen chosen 0 (stretch ++ (KW (header s G D) ∷ [])) m).log ≤ s
      start-trim = rw moved-is (go (chosen (0 + piece_count stretch)) moved-log)
        where
          go : (d : Bool) → moved.log ≡ cond d (puts (image chosen).log 0 (header s G D)) (image chosen).log → header_start moved.log ≤ s
          go true e = rw (e, header-start (image chosen).log s G D (omega arith) long) (omega arith)
          go false e = rw (e, image-start chosen) from
