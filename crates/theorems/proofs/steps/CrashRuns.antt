-- A crash: what memory opens to, and that no owed commit is lost.
use mathlib.Core.Path.{◌≡◌, refl, sym, ap, ◌∙◌}
use mathlib.Core.Logic.{◌⊎◌, inl, inr}
use mathlib.Core.Bool.{Bool, true, false, cond, false≢true}
use mathlib.Core.List.{List, [], ◌∷◌, ◌++◌, append-nil}
use Prim.Native.Nat.{ℕ, zero, suc, ◌+◌, ◌-◌, ◌*◌, ◌/◌, ◌%◌, ◌≤◌, ◌<◌}
use native.Mathlib.Decide.{dec_lt, dec_le}
use native.Mathlib.Omega.{arith}
use lib.ListN.{length, drop}
use lib.Seq.{drop-length}
use Rattle.model.specs.Batch.{Record, FN}
use Rattle.model.specs.Crash.{Memory, fences, persist, persist_chosen, fates, fates_chosen}
use Rattle.model.specs.Book.{Landing, persisted, Entry, Commit, Book, fate_at, survives, all_survive, run, persisted_entries, ended, homes_after, write_entries, write_commits}
use Rattle.model.specs.Book as book
use Rattle.model.specs.DemandThree.{lost, NoneOwed, Crashed}
use Rattle.model.specs.DemandTwo.{group_writes}
use Rattle.model.specs.History.{World, row_fates, after_crash}
use Rattle.model_laws.proofs.trace.CrashLaws.{trues, write_records, fences-append, group_writes-fence, persist-stop, fates-stop, persist-last, fates-last, fates-fenced, fate_at-trues, fences-none}
use Rattle.model_laws.proofs.trace.FateLaws.{fate_at-drop, drop-trues}
use Rattle.model_laws.proofs.trace.MixLaws.{none-mixed}
use Rattle.model_laws.proofs.trace.Trace.{Ev, hist, closer_of, all_landed, whole}
use Rattle.model_laws.proofs.trace.TraceLaws.{All, Falling, Rising, Long, done-rising, done-falling, done-long}
use Rattle.model_laws.proofs.trace.WholeLaws.{whole-ext, whole-none}
use Rattle.theorems.proofs.invariant.RunLaws.{survive-landed, run-matches, run-old}
use Rattle.theorems.proofs.invariant.TouchLaws.{all_append, EntryFits, CommitFits, commits-fit}
use Rattle.theorems.proofs.invariant.LateOpens.{late-opens}
use Rattle.theorems.proofs.invariant.NowLate.{now-late-homes}
use Rattle.theorems.proofs.steps.FenceRuns.{lasting-groups, now_of, is_in_order, in-order-chosen, done_held}
use Rattle.theorems.proofs.invariant.Invariant.{Sizes, OldEntries, OldCommits, OwedBelow, Matches, landed_in, Commits, Submitted, Running, Closed, Opens, Late, ImageOk}

-- commits of the run, once it is over
ended-entries : (es : List Entry) (A : List ℕ) → write_entries (persisted_entries es) A ≡ write_entries es A
unfolding persisted_entries write_entries
ended-entries [] A = refl
ended-entries (e ∷ es) A = ended-entries es _

ended-writes : (cs : List Commit) (A : List ℕ) → write_commits (ended cs) A ≡ write_commits cs A
unfolding ended write_commits
ended-writes [] A = refl
ended-writes (c ∷ cs) A = ended-writes cs (write_entries (persisted_entries c.entries) A) ∙ ap (write_commits cs) (ended-entries c.entries A)

pub ended-homes : (D : ℕ) (cs : List Commit) → homes_after D (ended cs) ≡ homes_after D cs
unfolding homes_after
ended-homes D cs = ended-writes cs _

old-entries : (D : ℕ) (es : List Entry) → All (EntryFits D) es → OldEntries D (persisted_entries es)
unfolding persisted_entries
old-entries D [] f = tt
old-entries D (e ∷ es) f = (refl, f.0.0, f.0.1, old-entries D es f.1)

old-ended : (D : ℕ) (cs : List Commit) → All (CommitFits D) cs → OldCommits D (ended cs)
unfolding ended
old-ended D [] f = tt
old-ended D (c ∷ cs) f = (refl, old-entries D c.entries f.0, old-ended D cs f.1)

fits-run : (D : ℕ) (fs : List (ℕ → Bool)) (cs : List Commit) → All (CommitFits D) cs → All (CommitFits D) (run fs cs)
unfolding run
fits-run D fs [] f = tt
fits-run D fs (c ∷ cs) f = go (all_survive fs c.entries) (fits-run D fs cs f.1)
  where
    go : (t : Bool) → All (CommitFits D) (run fs cs) → All (CommitFits D) (cond t (c ∷ run fs cs) [])
    go true h = (f.0, h)
    go false h = tt

-- where nothing of the era has persisted the run is what the opening brought back
pub run-early : (D b : ℕ) (tr : List Ev) (old cs : List Commit) (fs : List (ℕ → Bool)) → Commits D b tr old cs → ((r k : ℕ) → fate_at fs r k ≡ false) → run fs cs ≡ old
unfolding landed_in
run-early D b tr old cs fs k lack = ap (run fs) k.split ∙ run-old D fs old k.new k.past ∙ ap (λ (x : List Commit). old ++ x) (nothing (run fs k.new) matched) ∙ append-nil old
  where
    everyone : (ts : List (List ℕ)) → All (All (λ p. landed_in b fs p ≡ false)) ts
    everyone [] = tt
    everyone (t ∷ ts) = (each t, everyone ts)
      where
        each : (ps : List ℕ) → All (λ p. landed_in b fs p ≡ false) ps
        each [] = tt
        each (p ∷ ps) = (lack (p / 7 - b) (p % 7), each ps)

    empty : whole (landed_in b fs) (hist (7 * b) tr).done ≡ []
    empty = whole-ext (landed_in b fs) (λ p. false) (hist (7 * b) tr).done (everyone (hist (7 * b) tr).done) ∙ whole-none (hist (7 * b) tr).done (done-long (7 * b) tr)

    matched : Matches b tr (run fs k.new) []
    matched = rw empty at (run-matches b tr fs k.new (hist (7 * b) tr).done k.matches)

    nothing : (xs : List Commit) → Matches b tr xs [] → xs ≡ []
    nothing [] h = refl
    nothing (x ∷ xs) h = absurd h

-- No owed commit is lost

abbrev Ascending : ℕ → List Commit → Type 0
Ascending low [] = Unit {0}
Ascending low (c ∷ cs) = (low ≤ c.ticket) × Ascending c.ticket cs

ascending-less : (a b : ℕ) (cs : List Commit) → a ≤ b → Ascending b cs → Ascending a cs
ascending-less a b [] l h = tt
ascending-less a b (c ∷ cs) l h = (omega arith, h.1)

none_above : (bound low : ℕ) (cs : List Commit) → bound < low → Ascending low cs → OwedBelow bound cs → NoneOwed cs
none_above bound low [] l a o = tt
none_above bound low (c ∷ cs) l a o = (go c.owed refl, none_above bound c.ticket cs (omega arith) a.1 o.1)
  where
    go : (t : Bool) → c.owed ≡ t → c.owed ≡ false
    go true e = let h = o.0 e (omega arith) in absurd (omega arith)
    go false e = e

none-lost : (bound : ℕ) (fs : List (ℕ → Bool)) (cs : List Commit) (low : ℕ) → Ascending low cs → All (λ c. c.ticket ≤ bound → all_survive fs c.entries ≡ true) cs
    → OwedBelow bound cs → NoneOwed (lost fs cs)
unfolding lost run
none-lost bound fs [] low a s o = tt
none-lost bound fs (c ∷ cs) low a s o = go (none-lost bound fs cs c.ticket a.1 s.1 o.1) (all_survive fs c.entries) refl
  where
    go : NoneOwed (drop (length (run fs cs)) cs) → (t : Bool) → all_survive fs c.entries ≡ t → NoneOwed (drop (length (cond t (c ∷ run fs cs) [])) (c ∷ cs))
    go ih true e = ih
    go ih false e = none_above bound c.ticket (c ∷ cs) (big (dec_le c.ticket bound)) (omega arith, a.1) o
      where
        big : Dec (c.ticket ≤ bound) → bound < c.ticket
        big (yes h) = absurd (false≢true (sym e ∙ s.0 h))
        big (no h) = omega arith

-- tickets rise along the book's list
ascending-new : (b : ℕ) (tr : List Ev) (cs : List Commit) (ts : List (List ℕ)) (low high : ℕ) → Matches b tr cs ts → Rising low high ts → Ascending low cs
ascending-new b tr [] [] low high m r = tt
ascending-new b tr [] (t ∷ ts) low high m r = absurd m
ascending-new b tr (c ∷ cs) [] low high m r = absurd m
ascending-new b tr (c ∷ cs) (t ∷ ts) low high m r =
    (omega (arith, m.1), ascending-less c.ticket (suc (closer_of t)) cs (omega (arith, m.1)) (ascending-new b tr cs ts (suc (closer_of t)) high m.2 r.2))

ascending-all : (D : ℕ) (old new : List Commit) → OldCommits D old → Ascending 0 new → Ascending 0 (old ++ new)
ascending-all D [] new p a = a
ascending-all D (c ∷ old) new p a = (omega arith, rw p.0 (ascending-all D old new p.2 a))

-- entries that all lie in rows that persisted
landed-rows : (b ρ : ℕ) (fs : List (ℕ → Bool)) (ps : List ℕ) (high : ℕ) → ((r k : ℕ) → r < ρ → fate_at fs r k ≡ true) → high ≤ 7 * (b + ρ) → Falling (7 * b) high ps
    → all_landed (landed_in b fs) ps ≡ true
unfolding all_landed landed_in
landed-rows b ρ fs [] high f l h = refl
landed-rows b ρ fs (p ∷ ps) high f l h = rw (f (p / 7 - b) (p % 7) (omega arith), landed-rows b ρ fs ps p f (omega arith) h.2)

old-survive : (D : ℕ) (fs : List (ℕ → Bool)) (es : List Entry) → OldEntries D es → all_survive fs es ≡ true
unfolding all_survive survives
old-survive D fs [] q = refl
old-survive D fs (e ∷ es) q = rw (q.0, old-survive D fs es q.3)

surviving-old : (D bound : ℕ) (fs : List (ℕ → Bool)) (cs : List Commit) → OldCommits D cs → All (λ c. c.ticket ≤ bound → all_survive fs c.entries ≡ true) cs
surviving-old D bound fs [] p = tt
surviving-old D bound fs (c ∷ cs) p = ((λ h. old-survive D fs c.entries p.1), surviving-old D bound fs cs p.2)

surviving-new : (b ρ : ℕ) (tr : List Ev) (fs : List (ℕ → Bool)) (cs : List Commit) (ts : List (List ℕ)) (high : ℕ) → Matches b tr cs ts → ((r k : ℕ) → r < ρ → fate_at fs r k ≡ true)
    → All (Falling (7 * b) high) ts → All Long ts → All (λ c. c.ticket ≤ 7 * (b + ρ) → all_survive fs c.entries ≡ true) cs
surviving-new b ρ tr fs [] ts high m f h g = tt
surviving-new b ρ tr fs (c ∷ cs) [] high m f h g = absurd m
surviving-new b ρ tr fs (c ∷ cs) (t ∷ ts) high m f h g =
    ((λ k. rw m.0 (survive-landed b tr fs t ∙ one t h.0 g.0 (omega (arith, m.1)))), surviving-new b ρ tr fs cs ts high m.2 f h.1 g.1)
  where
    one : (x : List ℕ) → Falling (7 * b) high x → Long x → closer_of x + 1 ≤ 7 * (b + ρ) → all_landed (landed_in b fs) x ≡ true
    one [] q l k = absurd l
    one (p ∷ ps) q l k = landed-rows b ρ fs (p ∷ ps) (suc p) f (unfold closer_of in omega arith) (q.0, omega arith, q.2)

module _ (G D : ℕ) (z : Sizes G D) (w : World) (r : Running G D w) (passed : ℕ) (chosen : ℕ → Bool) (least : w.passed ≤ passed) (most : passed ≤ fences w.pending) where
  abbrev s : Submitted G D r.b r.tr r.old w
  s = r.submitted

  abbrev m : Memory
  m = persist passed chosen w.pending w.memory

  abbrev fs : List (ℕ → Bool)
  fs = row_fates w passed chosen

  fates-are : fs ≡ drop G (fates passed chosen w.pending)
  unfolding row_fates
  fates-are = rw (lasting-groups G D r.b r.tr r.old w s)

  -- rows before a fence that is known to have passed have persisted
  rows-landed : (i k : ℕ) → i < group_writes r.confirmed.before - G → fate_at fs i k ≡ true
  rows-landed i k l = rw fates-are (fate_at-drop G (fates passed chosen w.pending) i k ∙ go r.confirmed.ends)
    where
      go : (r.confirmed.before ≡ []) ⊎ ((x : List Record) × (r.confirmed.before ≡ x ++ (FN ∷ []))) → fate_at (fates passed chosen w.pending) (G + i) k ≡ true
      go (inl e) = absurd (let q : group_writes r.confirmed.before ≡ 0 = rw e (unfold group_writes in refl) in omega arith)
      go (inr (x, e)) =
          let p : passed ≡ fences (x ++ (FN ∷ [])) + (passed - fences (x ++ (FN ∷ []))) = omega (arith, ap fences (sym e) ∙ r.confirmed.count) in
          let q : group_writes r.confirmed.before ≡ group_writes x = ap group_writes e ∙ group_writes-fence x in
          let f : fates passed chosen w.pending ≡ trues (group_writes x) ++ fates (passed - fences (x ++ (FN ∷ []))) chosen r.confirmed.after =
          ap (fates passed chosen) (r.confirmed.split ∙ ap (λ (y : List Record). y ++ r.confirmed.after) e)
          ∙ ap (λ (n : ℕ). fates n chosen ((x ++ (FN ∷ [])) ++ r.confirmed.after)) p ∙ fates-fenced x (passed - fences (x ++ (FN ∷ []))) chosen r.confirmed.after in
          rw f (fate_at-trues (group_writes x) _ (G + i) k (omega arith))

  -- "In that run is every commit confirmed durable before, and all that an earlier opening brought back"
  owed-kept : (fs : List (ℕ → Bool)) → ((i k : ℕ) → i < group_writes r.confirmed.before - G → fate_at fs i k ≡ true)
      → NoneOwed (lost fs w.book.commits)
  owed-kept fs all =
      let k = r.commits in
      let ρ = group_writes r.confirmed.before - G in
      none-lost (7 * (r.b + ρ)) fs w.book.commits 0
      (rw k.split (ascending-all D r.old k.new k.past (ascending-less 0 (7 * r.b) k.new (omega arith) (ascending-new r.b r.tr k.new _ (7 * r.b) _ k.matches (done-rising (7 * r.b) r.tr)))))
      (rw k.split (all_append (λ c. c.ticket ≤ 7 * (r.b + ρ) → all_survive fs c.entries ≡ true) r.old k.new (surviving-old D (7 * (r.b + ρ)) fs r.old k.past)
      (surviving-new r.b ρ r.tr fs k.new _ _ k.matches all (done-falling (7 * r.b) r.tr) (done-long (7 * r.b) r.tr))))
      r.confirmed.owed

  pub crash-owed : Crashed w passed chosen
  crash-owed = owed-kept fs rows-landed

  -- what memory opens to
  pending-fences : fences w.pending ≡ fences (s.fenced ++ (FN ∷ []))
  pending-fences =
      ap fences s.split ∙ fences-append (s.fenced ++ (FN ∷ [])) s.tail ∙ omega (arith, fences-none s.tail (none-mixed s.tail s.mixed))

  -- everything up to the last fence, and a choice of what was written since
  late-now : Late G D r.b r.tr w.book.commits (persist_chosen chosen 0 s.tail (write_records s.fenced w.memory))
      (trues (s.group - r.b) ++ fates_chosen chosen 0 s.tail)
  late-now =
      rw append-nil
      at (in-order-chosen G D r.b r.tr r.old w s (λ x y. Late G D r.b r.tr w.book.commits x (trues (s.group - r.b) ++ y)) []
      (λ c. rw (append-nil (is_in_order G D r.b r.tr r.old w s))
      (now-late-homes (now_of G D r.b r.tr r.old w z r.commits r.copies s) w.area s.done r.copies.area_size (λ h i. (s.behind h i).0)
      (done_held G D r.b r.tr r.old w s r.copies) c)) chosen)

  pub image : ImageOk G D r.b w.memory.log r.tr r.old w.book.commits m fs
  image = rw fates-are (go (dec_lt passed (fences (s.fenced ++ (FN ∷ [])))))
    where
      go : Dec (passed < fences (s.fenced ++ (FN ∷ []))) → ImageOk G D r.b w.memory.log r.tr r.old w.book.commits m (drop G (fates passed chosen w.pending))
      go (yes h) =
          let e₁ : m ≡ persist passed chosen (s.fenced ++ (FN ∷ [])) w.memory = ap (λ (x : List Record). persist passed chosen x w.memory) s.split ∙ persist-stop passed chosen (s.fenced ++ (FN ∷ [])) _ w.memory h in
          let e₂ : fates passed chosen w.pending ≡ fates passed chosen (s.fenced ++ (FN ∷ [])) = ap (fates passed chosen) s.split ∙ fates-stop passed chosen (s.fenced ++ (FN ∷ [])) _ h in
          rw (e₁, e₂) (s.images passed chosen h)
      go (no h) =
          let p : passed ≡ fences (s.fenced ++ (FN ∷ [])) = omega (arith, pending-fences) in
          let e₁ : m ≡ persist_chosen chosen 0 s.tail (write_records s.fenced w.memory) =
          ap (λ (x : List Record). persist passed chosen x w.memory) s.split ∙ ap (λ (n : ℕ). persist n chosen ((s.fenced ++ (FN ∷ [])) ++ s.tail) w.memory) p
          ∙ persist-last s.fenced chosen s.tail w.memory in
          let e₂ : fates passed chosen w.pending ≡ trues (s.group - r.b + G) ++ fates_chosen chosen 0 s.tail =
          ap (fates passed chosen) s.split ∙ ap (λ (n : ℕ). fates n chosen ((s.fenced ++ (FN ∷ [])) ++ s.tail)) p
          ∙ fates-last s.fenced chosen s.tail ∙ ap (λ (n : ℕ). trues n ++ fates_chosen chosen 0 s.tail) s.written in
          let e₃ : s.group - r.b + G - G ≡ s.group - r.b = omega arith in
          rw (e₁, e₂, drop-trues G (s.group - r.b + G) (fates_chosen chosen 0 s.tail) (omega arith), e₃) (inr late-now)

  opens-to : Opens G D m (homes_after D (run fs w.book.commits))
  opens-to = go image
    where
      go : ImageOk G D r.b w.memory.log r.tr r.old w.book.commits m fs → Opens G D m (homes_after D (run fs w.book.commits))
      go (inl e) = rw (run-early D r.b r.tr r.old w.book.commits fs r.commits e.nothing) e.opens
      go (inr l) = late-opens G D r.b r.tr r.old w.book.commits m fs z r.copies.sound r.commits l

  pub crash-closed : Closed G D (after_crash w passed chosen)
  unfolding after_crash book.crash
  crash-closed =
      record {
        ready = refl;
        homes = r.copies.homes;
        pending = refl;
        passed = refl;
        rows = refl;
        filled = refl;
        tasks = λ v. refl;
        past = old-ended D (run fs w.book.commits) (fits-run D fs w.book.commits (commits-fit D r.b r.tr r.old w.book.commits r.copies.sound r.commits));
        opens = rw (ended-homes D (run fs w.book.commits)) opens-to;
      }

-- a crash before an opening is done leaves memory as it is, and loses no commit

again-entries : (D : ℕ) (es : List Entry) → OldEntries D es → OldEntries D (persisted_entries es)
unfolding persisted_entries
again-entries D [] o = tt
again-entries D (e ∷ es) o = (refl, o.1, o.2, again-entries D es o.3)

again-old : (D : ℕ) (cs : List Commit) → OldCommits D cs → OldCommits D (ended cs)
unfolding ended
again-old D [] o = tt
again-old D (c ∷ cs) o = (refl, again-entries D c.entries o.1, again-old D cs o.2)

run-all : (D : ℕ) (fs : List (ℕ → Bool)) (cs : List Commit) → OldCommits D cs → run fs cs ≡ cs
unfolding run
run-all D fs cs o = ap (run fs) (sym (append-nil cs)) ∙ run-old D fs cs [] o ∙ append-nil cs

module _ (G D : ℕ) (w : World) (c : Closed G D w) (passed : ℕ) (chosen : ℕ → Bool) where
  pub same_memory : persist passed chosen w.pending w.memory ≡ w.memory
  same_memory = rw c.pending (go passed)
    where
      go : (n : ℕ) → persist n chosen [] w.memory ≡ w.memory
      go zero = unfold persist in refl
      go (suc n) = unfold persist in refl

  pub quiet-closed : Closed G D (after_crash w passed chosen)
  unfolding after_crash book.crash
  quiet-closed =
      let e = run-all D (row_fates w passed chosen) w.book.commits c.past in
      record {
        ready = refl;
        homes = c.homes;
        pending = refl;
        passed = refl;
        rows = refl;
        filled = refl;
        tasks = λ v. refl;
        past = rw e (again-old D w.book.commits c.past);
        opens = rw (same_memory, e, ended-homes D w.book.commits) c.opens;
      }

  pub quiet-owed : Crashed w passed chosen
  unfolding lost
  quiet-owed = rw (run-all D (row_fates w passed chosen) w.book.commits c.past, drop-length w.book.commits) tt
