-- A done opening begins an era.
use mathlib.Core.Path.{◌≡◌, refl, sym, ap, ◌∙◌, subst}
use mathlib.Core.Logic.{◌⊎◌, inl, inr}
use mathlib.Core.Bool.{Bool, true, false, cond, false≢true}
use mathlib.Core.List.{List, [], ◌∷◌, ◌++◌, append-nil, append_assoc}
use Prim.Native.Nat.{ℕ, zero, suc, ◌+◌, ◌-◌, ◌*◌, ◌%◌, ◌^◌, ◌≤◌, ◌<◌}
use native.Mathlib.Nat.{mod-lt}
use native.Mathlib.Omega.{arith}
use lib.ListN.{length, drop}
use Rattle.model.specs.Rights.{open_sign}
use Rattle.model.specs.Bytes.{part, puts, same}
use Rattle.model.specs.Layout.{group_count, home_count, header_start, group_mark, group_at, group_number, unused_group, empty_log, home_at}
use Rattle.model.specs.Batch.{Record, KW, FN}
use Rattle.model.specs.State.{state_of, next_position, fresh_state, idle}
use Rattle.model.specs.declared.State.{State}
use Rattle.model.specs.Effects.{Effect, open_effect, open_tags, open_start, blank_writes, home_writes}
use Rattle.model.specs.Newest.{nothing_kept}
use Rattle.model.specs.Crash.{Memory, fences, persist, persist_chosen, fates}
use Rattle.model.specs.Book.{Commit, homes_after, write_commits, all_owed, with_commits, fate_at}
use Rattle.model.specs.DemandTwo.{settled_for, group_writes}
use Rattle.model.specs.History.{opening, World, loaded, feed, is_confirm, feed_change}
use Rattle.model_laws.proofs.bytes.ByteLaws.{puts_whole}
use Rattle.model_laws.proofs.bytes.LayoutLaws.{length-header, groups-in, homes_in}
use Rattle.model_laws.proofs.bytes.BlockLaws.{block_in, same-mark, same_number}
use Rattle.model_laws.proofs.bytes.EmptyLaws.{length-unused_group, unused-mark, unused-opposite, length-empty_log, empty_log-start, empty_log-right, empty_log-group}
use Rattle.model_laws.proofs.state.OrderLaws.{in_order, length-fresh, state-fresh, writer-fresh, in-order-fresh}
use Rattle.model_laws.proofs.trace.CrashLaws.{write_records, submits, NoFence, write-append, write-FN, group_writes-fence, write-nil}
use Rattle.model_laws.proofs.trace.HomeLaws.{log-homes, log-homes-wrote, log-header, area-header, log-header-wrote, area-header-wrote}
use Rattle.model_laws.proofs.trace.SubmitLaws.{area-submits, length-submits, header_start-submits, header_right-submits, meta-submits}
use Rattle.model_laws.proofs.trace.OpeningLaws.{none-blanks, group_writes-blanks, blank-submits, write-blanks, opening_records, fences-opening, group_writes-opening, opening-none, opening-one, opening-two}
use Rattle.model_laws.proofs.trace.FateLaws.{drop-fates}
use Rattle.model_laws.proofs.trace.MixLaws.{group_part, home_part}
use Rattle.model_laws.proofs.trace.Trace.{hist}
use Rattle.theorems.proofs.steps.DoneLaws.{after}
use Rattle.theorems.proofs.invariant.OpenLaws.{hs, ts, new_start, new_header, restored-size, closed-old, early-chosen, early-written, all-written, new-start, new-right, new-size, new-numbers, late-begin}
use Rattle.theorems.proofs.invariant.Invariant.{Sizes, OldCommits, OwedBelow, Running, Closed, Opens, ImageOk, FoundBelow, Turned, last_closer}

-- owed or not, the homes are the same
pub homes-owed : (cs : List Commit) (A : List ℕ) → write_commits (all_owed cs) A ≡ write_commits cs A
unfolding all_owed write_commits
homes-owed [] A = refl
homes-owed (c ∷ cs) A = homes-owed cs _

pub old-owed : (D : ℕ) (cs : List Commit) → OldCommits D cs → OldCommits D (all_owed cs)
unfolding all_owed
old-owed D [] o = tt
old-owed D (c ∷ cs) o = (o.0, o.1, old-owed D cs o.2)

old-none-owed : (D bound : ℕ) (cs : List Commit) → OldCommits D cs → OwedBelow bound cs
old-none-owed D bound [] o = tt
old-none-owed D bound (c ∷ cs) o = ((λ w h. omega (arith, o.0)), old-none-owed D bound cs o.2)

module _ (G D : ℕ) (z : Sizes G D) (w : World) (c : Closed G D w) where
  abbrev X : List ℕ
  X = homes_after D w.book.commits

  abbrev m : Memory
  m = w.memory

  abbrev o : Opens G D w.memory (homes_after D w.book.commits)
  o = c.opens

  abbrev b : ℕ
  b = new_start G D z m X o

  abbrev old : List Commit
  old = all_owed w.book.commits

  -- what the opening does, with G and D as they are
  abbrev pub opens-with : Effect
  opens-with =
      record {
        figure = length (ts G D z m X o);
        state = fresh_state G D b (open_sign D X);
        newest = nothing_kept D;
        log = empty_log b G D;
        area = X;
        block = [];
        records = home_writes X (hs G D z m X o) ++ (FN ∷ KW (new_header G D z m X o) ∷ FN ∷ (blank_writes G b G ++ (FN ∷ [])));
      }

  pub open-effect : (state newest batch : List ℕ) → open_effect (loaded w state newest batch) ≡ opens-with
  unfolding open_effect open_tags open_start loaded
  open-effect state newest batch =
      let eg : group_count (length w.memory.log) ≡ G = ap group_count o.log_size ∙ groups-in G in
      let ed : home_count (length w.memory.area) ≡ D = ap home_count o.area_size ∙ homes_in D in
      rw (eg, ed, o.restored)

  homes_same : X ≡ homes_after D old
  unfolding homes_after
  homes_same = sym (homes-owed w.book.commits _)

  past : OldCommits D old
  past = old-owed D w.book.commits c.past

  -- the memory where the whole batch has persisted
  abbrev blanks : List Record
  blanks = blank_writes G b G

  abbrev fenced : List Record
  fenced = home_writes X (hs G D z m X o) ++ (FN ∷ KW (new_header G D z m X o) ∷ FN ∷ blanks)

  quiet : NoFence blanks
  quiet = none-blanks G b G

  abbrev batch_of : List Record
  batch_of = opening_records X (hs G D z m X o) (new_header G D z m X o) blanks quiet

  whole-batch : fenced ++ (FN ∷ []) ≡ batch_of
  whole-batch = append_assoc (home_writes X (hs G D z m X o)) (FN ∷ KW (new_header G D z m X o) ∷ FN ∷ blanks) (FN ∷ [])

  -- with its homes written, and with its header
  abbrev homes-in-place : Memory
  homes-in-place = write_records (home_writes X (hs G D z m X o)) m

  abbrev headed : Memory
  headed = write_records (KW (new_header G D z m X o) ∷ []) homes-in-place

  headed-log : headed.log ≡ puts m.log 0 (new_header G D z m X o)
  headed-log = log-header-wrote (new_header G D z m X o) homes-in-place ∙ ap (λ (l : List ℕ). puts l 0 (new_header G D z m X o)) (log-homes-wrote X (hs G D z m X o) m)

  headed-area : headed.area ≡ X
  headed-area = area-header-wrote (new_header G D z m X o) homes-in-place ∙ all-written G D z m X o

  headed-is : headed ≡ record { log = puts m.log 0 (new_header G D z m X o); area = X }
  headed-is = λ i. record { log = headed-log i; area = headed-area i }

  written : write_records fenced m ≡ record { log = empty_log b G D; area = X }
  unfolding empty_log
  written =
      write-append (home_writes X (hs G D z m X o)) (FN ∷ KW (new_header G D z m X o) ∷ FN ∷ blanks) m
      ∙ write-append (FN ∷ []) (KW (new_header G D z m X o) ∷ FN ∷ blanks) homes-in-place
      ∙ ap (write_records (KW (new_header G D z m X o) ∷ FN ∷ blanks)) (write-FN homes-in-place)
      ∙ write-append (KW (new_header G D z m X o) ∷ []) (FN ∷ blanks) homes-in-place
      ∙ write-append (FN ∷ []) blanks headed ∙ ap (write_records blanks) (write-FN headed ∙ headed-is)
      ∙ write-blanks G b G m.log (new_header G D z m X o) X (length-header b G D)
      ∙ ap {B = Memory} (λ (l : List ℕ). record { log = l; area = X }) (puts_whole m.log (empty_log b G D) (o.log_size ∙ sym (length-empty_log b G D)))

  written-log : (write_records fenced m).log ≡ empty_log b G D
  written-log = ap (λ (x : Memory). x.log) written

  written-area : (write_records fenced m).area ≡ X
  written-area = ap (λ (x : Memory). x.area) written

  -- an unused slot holds no group
  empty-numbers : (bound : ℕ) → FoundBelow (empty_log b G D) G bound
  empty-numbers bound slot l t =
      absurd (false≢true (sym (unused-mark G b slot) ∙ ap (λ (g : List ℕ). same (part g 0 2) group_mark) (sym (empty_log-group b G D slot l)) ∙ t))

  empty-turned : (n : ℕ) → b ≤ n → n < b + G → Turned G (group_at (empty_log b G D) (n % G)) n
  empty-turned n l h k i = rw (empty_log-group b G D (n % G) (mod-lt n (omega arith))) (unused-opposite G b n k l h i)

  -- memory that a crash may leave before the opening's last fence: none of its group writes is a row
  no_rows : (passed : ℕ) (chosen : ℕ → Bool) → drop G (fates passed chosen (fenced ++ (FN ∷ []))) ≡ []
  no_rows passed chosen =
      rw whole-batch
      (drop-fates G passed chosen batch_of
      (omega (arith, group_writes-opening X (hs G D z m X o) (new_header G D z m X o) blanks quiet, group_writes-blanks G b G)))

  image-none : (chosen : ℕ → Bool) → ImageOk G D b m.log [] old old (persist 0 chosen (fenced ++ (FN ∷ [])) m) []
  unfolding fate_at
  image-none chosen =
      rw (whole-batch, opening-none X (hs G D z m X o) (new_header G D z m X o) blanks quiet chosen m)
      (inl (record { same = log-homes chosen 0 X (hs G D z m X o) m; opens = rw (← homes_same) (early-chosen G D z m X o chosen); nothing = λ r k. refl }))

  image-one : (chosen : ℕ → Bool) → b ≤ 2 ^ 47 → ImageOk G D b m.log [] old old (persist 1 chosen (fenced ++ (FN ∷ [])) m) []
  image-one chosen most =
      rw (whole-batch, opening-one X (hs G D z m X o) (new_header G D z m X o) blanks quiet chosen m) (go (chosen 0) e-log)
    where
      n : Memory
      n = persist_chosen chosen 0 (KW (new_header G D z m X o) ∷ []) homes-in-place

      e-log : n.log ≡ cond (chosen 0) (puts homes-in-place.log 0 (new_header G D z m X o)) homes-in-place.log
      e-log = log-header chosen 0 (new_header G D z m X o) homes-in-place

      e-area : n.area ≡ homes-in-place.area
      e-area = area-header chosen 0 (new_header G D z m X o) homes-in-place

      go : (t : Bool) → n.log ≡ cond t (puts homes-in-place.log 0 (new_header G D z m X o)) homes-in-place.log → ImageOk G D b m.log [] old old n []
      go true e =
          let el : n.log ≡ puts m.log 0 (new_header G D z m X o) =
          e ∙ ap (λ (l : List ℕ). puts l 0 (new_header G D z m X o)) (log-homes-wrote X (hs G D z m X o) m) in
          inr (late-begin G D z m X o old n most past homes_same (rw el (new-size G D z m X o)) (rw el (new-right G D z m X o)) (rw el (new-start G D z m X o))
          (rw el (new-numbers G D z m X o)) (e-area ∙ all-written G D z m X o))
      go false e =
          inl (record { same = e ∙ log-homes-wrote X (hs G D z m X o) m; opens = rw (← homes_same) (same_memory n e e-area); nothing = λ r k. unfold fate_at in refl })
        where
          same_memory : (x : Memory) → x.log ≡ homes-in-place.log → x.area ≡ homes-in-place.area → Opens G D x X
          same_memory x p q = subst (λ (y : Memory). Opens G D y X) (sym (λ i. record { log = p i; area = q i })) (early-written G D z m X o)

  -- the header has persisted, and any choice of the blanks' blocks: what metadata is left is older than the new start
  module _ (chosen : ℕ → Bool) where
    abbrev blanking : Memory
    blanking = persist_chosen chosen 0 (submits G 0 (unused_group G b) G) headed

    blanking-is : persist 2 chosen (fenced ++ (FN ∷ [])) m ≡ blanking
    blanking-is =
        rw (whole-batch, opening-two X (hs G D z m X o) (new_header G D z m X o) blanks quiet chosen m, blank-submits G b G (omega arith))

    headed-size : length headed.log ≡ 64 + 512 * G
    headed-size = rw headed-log (new-size G D z m X o)

    blanking-start : header_start blanking.log ≡ b
    blanking-start = header_start-submits chosen 0 G 0 (unused_group G b) G headed ∙ rw headed-log (new-start G D z m X o)

    blanking-numbers : FoundBelow blanking.log G b
    blanking-numbers slot l t =
        go (meta-submits chosen 0 G 0 (unused_group G b) G headed slot (omega arith) (omega arith) headed-size (λ n x y. length-unused_group G b n))
      where
        go : (block_in (group_at blanking.log slot) 0 ≡ block_in (group_at headed.log slot) 0)
            ⊎ ((n : ℕ) × (0 ≤ n) × (n < 0 + G) × (block_in (group_at blanking.log slot) 0 ≡ block_in (unused_group G b n) 0))
            → group_number (group_at blanking.log slot) < b
        go (inl e) =
            let f : same (part (group_at headed.log slot) 0 2) group_mark ≡ true = ap (λ (x : List ℕ). same x group_mark) (sym (same-mark _ _ e)) ∙ t in
            let k : group_number (group_at headed.log slot) < b = rw headed-log (new-numbers G D z m X o slot l (rw headed-log at f)) in
            omega (arith, same_number (group_at blanking.log slot) (group_at headed.log slot) e)
        go (inr x) =
            absurd (false≢true (sym (unused-mark G b x.0) ∙ ap (λ (y : List ℕ). same y group_mark) (sym (same-mark _ _ x.3)) ∙ t))

    image-two : b ≤ 2 ^ 47 → ImageOk G D b m.log [] old old (persist 2 chosen (fenced ++ (FN ∷ [])) m) []
    image-two most =
        rw blanking-is
        (inr (late-begin G D z m X o old blanking most past homes_same (length-submits chosen 0 G 0 (unused_group G b) G headed ∙ headed-size)
        (header_right-submits chosen 0 G 0 (unused_group G b) G headed G D ∙ rw headed-log (new-right G D z m X o)) blanking-start blanking-numbers
        (area-submits chosen 0 G 0 (unused_group G b) G headed ∙ headed-area)))

  images-of : (passed : ℕ) (chosen : ℕ → Bool) → b ≤ 2 ^ 47 → passed < 3
      → ImageOk G D b m.log [] old old (persist passed chosen (fenced ++ (FN ∷ [])) m) (drop G (fates passed chosen (fenced ++ (FN ∷ []))))
  images-of passed chosen most l = rw no_rows (go passed l)
    where
      go : (passed : ℕ) → passed < 3 → ImageOk G D b m.log [] old old (persist passed chosen (fenced ++ (FN ∷ [])) m) []
      go zero l = image-none chosen
      go (suc zero) l = image-one chosen most
      go (suc (suc zero)) l = image-two chosen most
      go (suc (suc (suc n))) l = absurd (omega arith)

  bounded_of : (passed : ℕ) (chosen : ℕ → Bool) → passed < 3 → header_start (persist passed chosen (fenced ++ (FN ∷ [])) m).log ≤ b
  bounded_of zero chosen l =
      rw (whole-batch, opening-none X (hs G D z m X o) (new_header G D z m X o) blanks quiet chosen m, log-homes) (omega arith)
  bounded_of (suc zero) chosen l =
      rw (whole-batch, opening-one X (hs G D z m X o) (new_header G D z m X o) blanks quiet chosen m, log-header, log-homes-wrote) (go (chosen 0))
    where
      go : (t : Bool) → header_start (cond t (puts m.log 0 (new_header G D z m X o)) m.log) ≤ b
      go true = omega (arith, new-start G D z m X o)
      go false = omega arith
  bounded_of (suc (suc zero)) chosen l = rw blanking-is (omega (arith, blanking-start chosen))
  bounded_of (suc (suc (suc n))) chosen l = absurd (omega arith)

  fence-count : fences (fenced ++ (FN ∷ [])) ≡ 3
  fence-count = ap fences whole-batch ∙ fences-opening X (hs G D z m X o) (new_header G D z m X o) blanks quiet

  -- the strip's numbers
  numbers : state_of (fresh_state G D b (open_sign D X))
      ≡ record { groups = G; homes = D; start = b; next = b; filled = 0; settled = 7 * b; fenced = 7 * b; durable = 7 * b; last = 0; round = 0; cursor = 0 }
  numbers = state-fresh G D b (open_sign D X) (omega arith) (omega arith) (omega (arith, o.start))

  wrote : group_writes fenced ≡ b - b + G
  wrote =
      sym (group_writes-fence fenced) ∙ ap group_writes whole-batch
      ∙ group_writes-opening X (hs G D z m X o) (new_header G D z m X o) blanks quiet ∙ group_writes-blanks G b G ∙ omega arith

  pub open-runs : (state newest batch : List ℕ) → b ≤ 2 ^ 47 → Running G D (after w (opening state newest batch) opens-with)
  unfolding feed feed_change is_confirm with_commits hist
  open-runs state newest batch most =
      let u : World = after w (opening state newest batch) opens-with in
      record {
        b = b;
        tr = [];
        old = old;
        ready = refl;
        since = refl;
        commits = record { new = []; split = sym (append-nil old); past = past; matches = tt };
        copies = record {
          homes = c.homes;
          state_size = length-fresh G D b (open_sign D X);
          log_size = length-empty_log b G D;
          area_size = restored-size G D z m X o;
          order = in_order (fresh_state G D b (open_sign D X)) G D (in-order-fresh G D b (open_sign D X) most (omega arith) (omega arith));
          from = omega (arith, ap (λ (s : State). s.start) numbers);
          position = rw numbers (unfold next_position in omega arith);
          sound = tt;
          groups = λ n l k. absurd (omega (arith, ap (λ (s : State). s.start) numbers));
          apart = tt;
          links = tt;
          last = inl (ap (λ (s : State). s.last) numbers ∙ (unfold last_closer in refl));
          tasks = λ v l. rw (writer-fresh G D b (open_sign D X) v l) (inl ((unfold idle in refl), c.tasks v));
          rows = c.rows ∙ omega (arith, ap (λ (s : State). s.next) numbers);
          filled = c.filled ∙ sym (ap (λ (s : State). s.filled) numbers);
          settled_homes = λ h l.
              ap (λ (a : List ℕ). home_at a h) (homes_same ∙ sym (ap (homes_after D) (closed-old D (settled_for (state_of (fresh_state G D b (open_sign D X))) h) old past)));
        };
        submitted = record {
          fenced = fenced;
          group = b;
          count = 0;
          content = λ n. [];
          tail = [];
          done = [];
          split = rw c.pending (sym whole-batch ∙ sym (append-nil (fenced ++ (FN ∷ []))));
          mixed = tt;
          groups_of = unfold submits group_part in refl;
          homes_of = unfold home_writes home_part in refl;
          behind = λ h i. absurd i;
          area = ap (λ (m : Memory). m.area) (write-nil (write_records fenced w.memory)) ∙ written-area;
          at_fence = ap (λ (s : State). s.fenced) numbers;
          next = omega (arith, ap (λ (s : State). s.next) numbers);
          low = omega arith;
          written = wrote;
          contents = λ n l k. absurd (omega arith);
          log_size = rw written-log (length-empty_log b G D);
          area_size = rw written-area (restored-size G D z m X o);
          homes = λ h l. (
            7 * b,
            omega (arith, ap (λ (s : State). s.settled) numbers),
            omega arith,
            ap (λ (a : List ℕ). home_at a h) (written-area ∙ homes_same ∙ sym (ap (homes_after D) (closed-old D (7 * b) old past))),
          );
          header = rw written-log (empty_log-right b G D (omega arith) (omega arith));
          start = rw written-log (empty_log-start b G D (omega arith) ∙ sym (ap (λ (s : State). s.start) numbers));
          numbers = rw written-log (empty-numbers b);
          there = λ n l k. absurd (omega (arith, ap (λ (s : State). s.start) numbers));
          turned = rw (written-log, ap (λ (s : State). s.start) numbers) empty-turned;
          images = λ passed chosen l. images-of passed chosen most (omega (arith, fence-count));
          bounded = λ passed chosen l. rw (ap (λ (s : State). s.start) numbers) (bounded_of passed chosen (omega (arith, fence-count)));
        };
        confirmed = record {
          before = [];
          after = w.pending ++ opens-with.records;
          split = refl;
          count = (unfold fences in sym c.passed);
          ends = inl refl;
          owed = old-none-owed D _ old past;
          reached = (unfold group_writes in omega (arith, ap (λ (s : State). s.fenced) numbers));
        };
      }
