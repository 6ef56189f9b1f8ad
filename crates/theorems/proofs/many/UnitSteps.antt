-- Every act keeps the labels true: as many as there are commits, each saying what its commit wrote. Assumes nothing.
use Prim.Native.Nat.{ℕ, zero, suc, ◌+◌, ◌*◌, ◌/◌, ◌≤◌, ◌<◌}
use mathlib.Core.Path.{◌≡◌, refl, sym, ap, ◌∙◌, subst}
use mathlib.Core.Logic.{◌⊎◌, inl, inr}
use mathlib.Core.Bool.{Bool, true, false, cond}
use mathlib.Core.List.{List, [], ◌∷◌, ◌++◌}
use mathlib.Core.Option.{Option, none, some}
use native.Mathlib.Omega.{arith}
use lib.Dec.{eqb}
use lib.ListN.{length, take}
use lib.Seq.{take_at, take_all}
use borrow.Author.Tests.{eqb-true, eqb-false, ne_eqb}
use Rattle.model.specs.Bytes.{part}
use Rattle.model.specs.Effects.{Given, store_effect}
use Rattle.model.specs.Questions.{store_answer}
use Rattle.model.specs.Calls.{size_of, store_call}
use Rattle.acts.specs.Many.{blocks_lent, transact_effect, transact_answer, transact_call}
use Rattle.model.specs.Book.{Entry, Commit, Held, Task, idle, opened, Book, set_task, with_task, entry_of, submit, filled_up, hold, store_task, add_commit, commit_task, owed_by, all_owed, with_commits, all_survive, run, persisted_entries, ended, empty}
use Rattle.model.specs.Book as book
use Rattle.model.specs.DemandTwo.{held_entries}
use Rattle.model.specs.History.{Change, begins, reserves, aborts, stores, commits, flushes, Call, opening, confirm, change, service, Event, call, crash, World, lent, ends, change_ends, feed, feed_change, after_done, after_refused, after_call, after_crash, row_fates, step}
use Rattle.acts.specs.Units.{Act, plain, transacts, fetches, revises, transact_ends, feed_transact, left_under, act, acted, relabel, Label, other, unit, label_of, labels_from, Apart, SparedByChange, SparedByCall, SparedByEvent, Spared, Reserved}
use Rattle.model_laws.proofs.bytes.ByteLaws.{length_part}
use Rattle.acts.proofs.ManyLaws.{TransactReady, transact-ready, store-block}
use Rattle.theorems.proofs.steps.DoneLaws.{outcome-code}
use Rattle.theorems.proofs.steps.HeldLogs.{filled-commits}
use Rattle.theorems.proofs.many.UnitBooks.{spread, held-append, Outside, outside-append, Says, Fit, fit_length, fit-snoc}
use Rattle.theorems.proofs.many.TransactBooks.{filled-tasks, Transacted, transacted}

-- ---- commits

fit-owed-by : (home n mark : ℕ) (cs : List Commit) (ls : List Label) → Fit home n cs ls → Fit home n (owed_by mark cs) ls
unfolding owed_by
fit-owed-by home n mark [] [] f = tt
fit-owed-by home n mark [] (l ∷ ls) f = absurd f
fit-owed-by home n mark (c ∷ cs) [] f = absurd f
fit-owed-by home n mark (c ∷ cs) (l ∷ ls) f = (f.0, fit-owed-by home n mark cs ls f.1)

fit-owed-all : (home n : ℕ) (cs : List Commit) (ls : List Label) → Fit home n cs ls → Fit home n (all_owed cs) ls
unfolding all_owed
fit-owed-all home n [] [] f = tt
fit-owed-all home n [] (l ∷ ls) f = absurd f
fit-owed-all home n (c ∷ cs) [] f = absurd f
fit-owed-all home n (c ∷ cs) (l ∷ ls) f = (f.0, fit-owed-all home n cs ls f.1)

held-settled : (es : List Entry) → held_entries (persisted_entries es) ≡ held_entries es
unfolding held_entries persisted_entries
held-settled [] = refl
held-settled (e ∷ es) = ap {B = List Held} (λ r. record { home = e.home; block = e.block } ∷ r) (held-settled es)

-- a crash leaves a front of the commits, and as many labels
fit_cut : (home n : ℕ) (fs : List (ℕ → Bool)) (cs : List Commit) (ls more : List Label) → Fit home n cs ls
    → Fit home n (ended (run fs cs)) (take (length (ended (run fs cs))) (ls ++ more))
unfolding run ended
fit_cut home n fs [] [] more f = tt
fit_cut home n fs [] (l ∷ ls) more f = absurd f
fit_cut home n fs (c ∷ cs) [] more f = absurd f
fit_cut home n fs (c ∷ cs) (l ∷ ls) more f = go (all_survive fs c.entries) (fit_cut home n fs cs ls more f.1)
  where
    go : (d : Bool) → Fit home n (ended (run fs cs)) (take (length (ended (run fs cs))) (ls ++ more))
        → Fit home n (ended (cond d (c ∷ run fs cs) [])) (take (length (ended (cond d (c ∷ run fs cs) []))) (l ∷ (ls ++ more)))
    go true r = (subst (λ (hs : List Held). Says home n hs l) (sym (held-settled c.entries)) f.0, r)
    go false r = tt

-- ---- tasks

abbrev pub HeldOutside : ℕ → ℕ → Option Held → Type 0
HeldOutside home n none = Unit {0}
HeldOutside home n (some h) = (length h.block ≡ 64) × Apart home n h.home 1

abbrev pub TaskOutside : ℕ → ℕ → Task → Type 0
TaskOutside home n idle = Unit {0}
TaskOutside home n (opened es held) = Outside home n (held_entries es) × HeldOutside home n held

pub record Labelled (home n : ℕ) (b : Book) (ls : List Label) : Type 0 where
  pub fit : Fit home n b.commits ls
  pub tasks : (v : ℕ) → TaskOutside home n (b.tasks v)

-- the labels once an act has left a book
abbrev Relabelled : ℕ → ℕ → Book → List Label → Label → Type 0
Relabelled home n b ls l = Labelled home n b (take (length b.commits) (ls ++ (l ∷ [])))

stays : (home n : ℕ) (b : Book) (ls : List Label) (l : Label) → Labelled home n b ls → Relabelled home n b ls l
stays home n b ls l k =
    let e : take (length b.commits) (ls ++ (l ∷ [])) ≡ ls = take_at ls (l ∷ []) (length b.commits) (fit_length home n b.commits ls k.fit) in
    rw e k

joins : (home n : ℕ) (b : Book) (cs : List Commit) (c : Commit) (ls : List Label) (l : Label) → b.commits ≡ cs ++ (c ∷ []) → Fit home n cs ls
    → Says home n (held_entries c.entries) l → ((v : ℕ) → TaskOutside home n (b.tasks v)) → Relabelled home n b ls l
joins home n b cs c ls l e f s t =
    let f' : Fit home n b.commits (ls ++ (l ∷ [])) = rw e (fit-snoc home n cs ls c l f s) in
    let q : take (length b.commits) (ls ++ (l ∷ [])) ≡ ls ++ (l ∷ []) =
    take_all (length b.commits) (ls ++ (l ∷ [])) (omega (arith, fit_length home n b.commits (ls ++ (l ∷ [])) f')) in
    rw q (record { fit = f'; tasks = t })

one_of : (P : Task → Type 0) (d : Bool) (t s : Task) → P t → P s → P (cond d t s)
one_of P true t s p q = p
one_of P false t s p q = q

module _ (home n : ℕ) where
  with-task : (b : Book) (v : ℕ) (t : Task) (ls : List Label) → Labelled home n b ls → TaskOutside home n t → Labelled home n (with_task b v t) ls
  unfolding with_task set_task
  with-task b v t ls k o = record { fit = k.fit; tasks = λ x. one_of (TaskOutside home n) (eqb v x) t (b.tasks x) o (k.tasks x) }

  filled-labelled : (b : Book) (ls : List Label) → Labelled home n b ls → Labelled home n (filled_up b) ls
  filled-labelled b ls k =
      record {
        fit = rw (filled-commits b) k.fit;
        tasks = λ x. subst (λ (ts : ℕ → Task). TaskOutside home n (ts x)) (sym (filled-tasks b)) (k.tasks x);
      }

  entry-outside : (b : Book) (es : List Entry) (h : Held) → Outside home n (held_entries es) → HeldOutside home n (some h)
      → Outside home n (held_entries (es ++ (entry_of b h ∷ [])))
  unfolding entry_of
  entry-outside b es h o p =
      subst (Outside home n) (sym (held-append es (entry_of b h ∷ [])))
      (outside-append home n (held_entries es) (held_entries (entry_of b h ∷ [])) o (unfold held_entries in (p.0, p.1, tt)))

  store-labelled : (b : Book) (v h : ℕ) (block : List ℕ) (t : Task) (ls : List Label) → Labelled home n b ls → TaskOutside home n t → length block ≡ 64
      → Apart home n h 1 → Labelled home n (store_task b v h block t) ls
  unfolding store_task hold
  store-labelled b v h block idle ls k o l a = k
  store-labelled b v h block (opened es none) ls k o l a = with-task b v (opened es (hold h block)) ls k (o.0, (l, a))
  store-labelled b v h block (opened es (some x)) ls k o l a = go (eqb x.home h)
    where
      go : (d : Bool)
          → Labelled home n
          (cond d (with_task b v (opened es (hold h block))) (with_task (filled_up b) v (opened (es ++ (entry_of b x ∷ [])) (hold h block)))) ls
      go true = with-task b v (opened es (hold h block)) ls k (o.0, (l, a))
      go false =
          with-task (filled_up b) v (opened (es ++ (entry_of b x ∷ [])) (hold h block)) ls (filled-labelled b ls k) (entry-outside b es x o.0 o.1, (l, a))

  commit-labelled : (b : Book) (v ticket : ℕ) (t : Task) (ls : List Label) → Labelled home n b ls → TaskOutside home n t
      → Relabelled home n (commit_task b v ticket t) ls other
  unfolding commit_task
  commit-labelled b v ticket idle ls k o = stays home n b ls other k
  commit-labelled b v ticket (opened es none) ls k o = stays home n (with_task b v idle) ls other (with-task b v idle ls k tt)
  commit-labelled b v ticket (opened es (some h)) ls k o =
      let f = filled-labelled b ls k in
      let c : Commit = record { entries = es ++ (entry_of b h ∷ []); ticket = ticket; owed = false } in
      joins home n (with_task (add_commit (filled_up b) c) v idle) (filled_up b).commits c ls other (unfold with_task add_commit in refl) f.fit
      (entry-outside b es h o.0 o.1)
      (λ x. unfold with_task set_task add_commit in one_of (TaskOutside home n) (eqb v x) idle ((filled_up b).tasks x) tt (f.tasks x))

  flush-labelled : (b : Book) (ls : List Label) → Labelled home n b ls → Labelled home n (book.flush b) ls
  unfolding book.flush submit
  flush-labelled b ls k = go (eqb b.filled 0)
    where
      go : (d : Bool) → Labelled home n (cond d b (submit b)) ls
      go true = k
      go false = record { fit = k.fit; tasks = k.tasks }

  -- ---- events

  begun-outside : TaskOutside home n (opened [] none)
  unfolding held_entries
  begun-outside = (tt, tt)

  change-labelled : (w : World) (c : Change) (ls : List Label) → Labelled home n w.book ls → SparedByChange home n c → (change_ends w c).code ≡ 0
      → Relabelled home n (feed_change w.book c (change_ends w c).figure) ls other
  unfolding feed_change change_ends book.begin book.abort book.store book.commit store_call lent
  change-labelled w (begins v) ls k s z =
      stays home n (with_task w.book v (opened [] none)) ls other (with-task w.book v (opened [] none) ls k begun-outside)
  change-labelled w (reserves v places) ls k s z =
      stays home n (with_task w.book v (opened [] none)) ls other (with-task w.book v (opened [] none) ls k begun-outside)
  change-labelled w (aborts v) ls k s z = stays home n (with_task w.book v idle) ls other (with-task w.book v idle ls k tt)
  change-labelled w (stores v h block batch) ls k s z =
      let g : Given = lent w block batch v h in
      let q : store_answer g (size_of (store_effect g)) ≡ 0 = sym (outcome-code g (store_answer g (size_of (store_effect g))) (store_effect g)) ∙ z in
      stays home n (store_task w.book v h block (w.book.tasks v)) ls other
      (store-labelled w.book v h block (w.book.tasks v) ls k (k.tasks v) (store-block g (size_of (store_effect g)) q) s)
  change-labelled w (commits v batch) ls k s z = commit-labelled w.book v (change_ends w (commits v batch)).figure (w.book.tasks v) ls k (k.tasks v)
  change-labelled w (flushes batch) ls k s z = stays home n (book.flush w.book) ls other (flush-labelled w.book ls k)

  done-labelled : (w : World) (c : Call) (ls : List Label) → Labelled home n w.book ls → SparedByCall home n c → (ends w c).code ≡ 0
      → Relabelled home n (feed w.book c (ends w c).figure) ls other
  unfolding feed ends with_commits
  done-labelled w (opening state newest batch) ls k s z =
      stays home n (with_commits w.book (all_owed w.book.commits)) ls other
      (record { fit = fit-owed-all home n w.book.commits ls k.fit; tasks = k.tasks })
  done-labelled w confirm ls k s z =
      stays home n (with_commits w.book (owed_by (ends w confirm).figure w.book.commits)) ls other
      (record { fit = fit-owed-by home n (ends w confirm).figure w.book.commits ls k.fit; tasks = k.tasks })
  done-labelled w (change c) ls k s z = change-labelled w c ls k s z
  done-labelled w (service c) ls k s z = stays home n w.book ls other k

  event-labelled : (w : World) (e : Event) (ls : List Label) → Labelled home n w.book ls → SparedByEvent home n e
      → Relabelled home n (step w e).book ls other
  unfolding step after_call after_done after_refused after_crash
  event-labelled w (call c) ls k s = go (ends w c).code refl
    where
      go : (code : ℕ) → (ends w c).code ≡ code → Relabelled home n (after_call w c (ends w c) code).book ls other
      go zero z = done-labelled w c ls k s z
      go (suc code) z = stays home n w.book ls other k
  event-labelled w (crash passed chosen) ls k s =
      unfold book.crash in
      record { fit = fit_cut home n (row_fates w passed chosen) w.book.commits ls (other ∷ []) k.fit; tasks = λ v. tt }

  -- ---- a done transact

  spread-outside : (h : ℕ) (blocks : List ℕ) (k : ℕ) → 64 * k ≤ length blocks → ((j : ℕ) → j < k → Apart home n (h + j) 1)
      → Outside home n (spread h blocks k)
  unfolding spread
  spread-outside h blocks zero l a = tt
  spread-outside h blocks (suc k) l a =
      outside-append home n (spread h blocks k) (record { home = h + k; block = part blocks (64 * k) 64 } ∷ [])
      (spread-outside h blocks k (omega arith) (λ j m. a j (omega arith)))
      (length_part blocks (64 * k) 64 (omega arith), a k (omega arith), tt)

  apart-each : (h m : ℕ) → Apart home n h m → (j : ℕ) → j < m → Apart home n (h + j) 1
  apart-each h m (inl a) j l = inl (omega arith)
  apart-each h m (inr a) j l = inr (omega arith)

  pub apart-home : (h m : ℕ) → 1 ≤ n → 1 ≤ m → Apart home n h m → h ≡ home → ⊥
  apart-home h m p q (inl a) e = omega arith
  apart-home h m p q (inr a) e = omega arith

  unit-says : (h : ℕ) (blocks : List ℕ) (hs : List Held) → 1 ≤ n → 1 ≤ length blocks / 64 → length blocks ≡ 64 * (length blocks / 64)
      → hs ≡ spread h blocks (length blocks / 64) → ((h ≡ home) × (length blocks ≡ 64 * n)) ⊎ Apart home n h (length blocks / 64)
      → Says home n hs (unit h blocks)
  unit-says h blocks hs p q r e (inl s) = (e, inl s)
  unit-says h blocks hs p q r e (inr s) = (
    e,
    inr (
      apart-home h (length blocks / 64) p q s,
      subst (Outside home n) (sym e) (spread-outside h blocks (length blocks / 64) (omega (arith, r)) (apart-each h (length blocks / 64) s)),
    ),
  )

  transact-labelled : (b c : Book) (v h : ℕ) (blocks : List ℕ) (ls : List Label) → Transacted b c v h blocks → Labelled home n b ls
      → Says home n (spread h blocks (length blocks / 64)) (unit h blocks) → Relabelled home n c ls (unit h blocks)
  transact-labelled b c v h blocks ls t k s =
      joins home n c b.commits t.commit ls (unit h blocks) t.commits k.fit (subst (λ (hs : List Held). Says home n hs (unit h blocks)) (sym t.entries) s)
      (λ x. go x (eqb x v) refl)
    where
      go : (x : ℕ) (d : Bool) → eqb x v ≡ d → TaskOutside home n (c.tasks x)
      go x true e = subst (TaskOutside home n) (sym (ap c.tasks (eqb-true x v e) ∙ t.own)) tt
      go x false e = subst (TaskOutside home n) (sym (t.others x (eqb-false x v e))) (k.tasks x)

  -- ---- acts

  pub act-labelled : (w : World) (a : Act) (ls : List Label) → 1 ≤ n → Labelled home n w.book ls → Spared home n a
      → Labelled home n (act w a).book (relabel (act w a) ls (label_of a))
  unfolding act relabel label_of left_under
  act-labelled w (plain e) ls p k s = event-labelled w e ls k s
  act-labelled w (transacts v h blocks batch) ls p k s = go (transact_ends w v h blocks batch).code refl
    where
      g : Given
      g = lent w blocks batch v h

      ready : (transact_ends w v h blocks batch).code ≡ 0 → TransactReady g (size_of (transact_effect g))
      ready e =
          transact-ready g (size_of (transact_effect g))
          (sym (outcome-code g (transact_answer g (size_of (transact_effect g))) (transact_effect g)) ∙ (unfold transact_ends transact_call in e))

      go : (code : ℕ) → (transact_ends w v h blocks batch).code ≡ code
          → Relabelled home n (cond (eqb code 0) (feed_transact w.book v h blocks (transact_ends w v h blocks batch).figure) w.book) ls (unit h blocks)
      go zero e =
          let r = (ready e).lent in
          let many : 1 ≤ length blocks / 64 = (unfold blocks_lent lent in r.some) in
          let whole : length blocks ≡ 64 * (length blocks / 64) = (unfold blocks_lent lent in r.whole) in
          transact-labelled w.book (feed_transact w.book v h blocks (transact_ends w v h blocks batch).figure) v h blocks ls
          (transacted w.book v h blocks (transact_ends w v h blocks batch).figure many) k
          (unit-says h blocks (spread h blocks (length blocks / 64)) p many whole refl s)
      go (suc code) e = rw (ne_eqb (suc code) 0 (λ q. omega arith)) (stays home n w.book ls (unit h blocks) k)
  act-labelled w (fetches v h blocks) ls p k s = stays home n w.book ls other k
  act-labelled w (revises v h blocks) ls p k s = stays home n w.book ls other k

  pub acts-labelled : (acts : List Act) (w : World) (ls : List Label) → 1 ≤ n → Labelled home n w.book ls → Reserved home n acts
      → Labelled home n (acted w acts).book (labels_from w ls acts)
  unfolding acted labels_from
  acts-labelled [] w ls p k s = k
  acts-labelled (a ∷ more) w ls p k s =
      acts-labelled more (act w a) (relabel (act w a) ls (label_of a)) p (act-labelled w a ls p k s.0) s.1

  pub empty-labelled : Labelled home n empty []
  unfolding empty
  empty-labelled = record { fit = tt; tasks = λ v. tt }
