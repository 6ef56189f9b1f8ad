-- What events do to the book's list of commits: all but a cut keep it and add at most one, and no event takes one that is owed. Assumes nothing.
use Prim.Native.Nat.{ℕ, zero, suc, ◌+◌, ◌≤◌, ◌<◌}
use mathlib.Core.Path.{◌≡◌, refl, sym, ap, ◌∙◌, subst}
use mathlib.Core.Bool.{Bool, true, false, cond, ◌&&◌, ◌||◌, false≢true}
use mathlib.Core.List.{List, [], ◌∷◌, ◌++◌, append-nil}
use mathlib.Core.Option.{none, some}
use native.Mathlib.Omega.{arith}
use lib.Dec.{eqb, leb}
use lib.ListN.{length, drop, length-append}
use borrow.Author.Tests.{le-leb}
use Rattle.model.specs.Book.{Commit, Task, idle, opened, Book, with_task, submit, filled_up, store_task, add_commit, commit_task, owed_by, all_owed, with_commits, all_survive, run, ended}
use Rattle.model.specs.Book as book
use Rattle.model.specs.DemandThree.{lost, NoneOwed, Crashed, Holds, AllHold}
use Rattle.model.specs.History.{Change, begins, reserves, aborts, stores, commits, flushes, Call, opening, confirm, change, service, Event, call, crash, World, after_format, ends, feed, feed_change, row_fates, after_done, after_refused, after_call, after_crash, step, after, Allowed, AllAllowed}
use Rattle.abstract_store.specs.Store.{Store}
use Rattle.theorems.proofs.steps.HeldLogs.{filled-commits}
use Rattle.theorems.proofs.demands.DemandThree.{demand3}
use Rattle.theorems.proofs.store.Reached.{Reached, allowed-append}

-- ---- the commit at a place of a list

abbrev pub At : (Commit → Type 0) → ℕ → List Commit → Type 0
At P n [] = ⊥
At P zero (c ∷ cs) = P c
At P (suc n) (c ∷ cs) = At P n cs

abbrev pub Owed : Commit → Type 0
Owed c = c.owed ≡ true

abbrev pub Ticket : ℕ → Commit → Type 0
Ticket t c = c.ticket ≡ t

pub at-inside : (P : Commit → Type 0) (n : ℕ) (cs : List Commit) → At P n cs → n < length cs
at-inside P n [] a = absurd a
at-inside P zero (c ∷ cs) a = omega arith
at-inside P (suc n) (c ∷ cs) a = omega (arith, at-inside P n cs a)

pub at_front : (P : Commit → Type 0) (n : ℕ) (cs ds : List Commit) → At P n cs → At P n (cs ++ ds)
at_front P n [] ds a = absurd a
at_front P zero (c ∷ cs) ds a = a
at_front P (suc n) (c ∷ cs) ds a = at_front P n cs ds a

pub at_last : (P : Commit → Type 0) (cs : List Commit) (c : Commit) → P c → At P (length cs) (cs ++ (c ∷ []))
at_last P [] c p = p
at_last P (d ∷ cs) c p = at_last P cs c p

-- ---- confirm and opening

or_left : (a b : Bool) → a ≡ true → (a || b) ≡ true
or_left true b e = refl
or_left false b e = absurd (false≢true e)

or_right : (a b : Bool) → b ≡ true → (a || b) ≡ true
or_right true b e = refl
or_right false b e = e

owed-by : (n mark : ℕ) (cs : List Commit) → At Owed n cs → At Owed n (owed_by mark cs)
unfolding owed_by
owed-by n mark [] a = absurd a
owed-by zero mark (c ∷ cs) a = or_left c.owed (leb 1 c.ticket && leb c.ticket mark) a
owed-by (suc n) mark (c ∷ cs) a = owed-by n mark cs a

owed_all : (n : ℕ) (cs : List Commit) → At Owed n cs → At Owed n (all_owed cs)
unfolding all_owed
owed_all n [] a = absurd a
owed_all zero (c ∷ cs) a = refl
owed_all (suc n) (c ∷ cs) a = owed_all n cs a

ticket-by : (n t mark : ℕ) (cs : List Commit) → At (Ticket t) n cs → At (Ticket t) n (owed_by mark cs)
unfolding owed_by
ticket-by n t mark [] a = absurd a
ticket-by zero t mark (c ∷ cs) a = a
ticket-by (suc n) t mark (c ∷ cs) a = ticket-by n t mark cs a

ticket-all : (n t : ℕ) (cs : List Commit) → At (Ticket t) n cs → At (Ticket t) n (all_owed cs)
unfolding all_owed
ticket-all n t [] a = absurd a
ticket-all zero t (c ∷ cs) a = a
ticket-all (suc n) t (c ∷ cs) a = ticket-all n t cs a

-- a confirm of its ticket or more makes it owed
pub confirmed : (n t mark : ℕ) (cs : List Commit) → 1 ≤ t → t ≤ mark → At (Ticket t) n cs → At Owed n (owed_by mark cs)
unfolding owed_by
confirmed n t mark [] l m a = absurd a
confirmed zero t mark (c ∷ cs) l m a =
    or_right c.owed (leb 1 c.ticket && leb c.ticket mark) (rw (a, le-leb 1 t l, le-leb t mark m))
confirmed (suc n) t mark (c ∷ cs) l m a = confirmed n t mark cs l m a

length-by : (mark : ℕ) (cs : List Commit) → length (owed_by mark cs) ≡ length cs
unfolding owed_by
length-by mark [] = refl
length-by mark (c ∷ cs) = ap suc (length-by mark cs)

length-all : (cs : List Commit) → length (all_owed cs) ≡ length cs
unfolding all_owed
length-all [] = refl
length-all (c ∷ cs) = ap suc (length-all cs)

-- ---- a cut

none-at : (n : ℕ) (cs : List Commit) → NoneOwed cs → At Owed n cs → ⊥
none-at n [] o a = a
none-at zero (c ∷ cs) o a = false≢true (sym o.0 ∙ a)
none-at (suc n) (c ∷ cs) o a = none-at n cs o.1 a

owed-cut : (n : ℕ) (fs : List (ℕ → Bool)) (cs : List Commit) → NoneOwed (drop (length (run fs cs)) cs) → At Owed n cs → At Owed n (ended (run fs cs))
unfolding run ended
owed-cut n fs [] o a = absurd a
owed-cut n fs (c ∷ cs) o a = go (all_survive fs c.entries) n o a (λ m p q. owed-cut m fs cs p q)
  where
    go : (b : Bool) (k : ℕ) → NoneOwed (drop (length (cond b (c ∷ run fs cs) [])) (c ∷ cs)) → At Owed k (c ∷ cs)
        → ((m : ℕ) → NoneOwed (drop (length (run fs cs)) cs) → At Owed m cs → At Owed m (ended (run fs cs))) → At Owed k (ended (cond b (c ∷ run fs cs) []))
    go true zero p q rest = q
    go true (suc k) p q rest = rest k p q
    go false k p q rest = absurd (none-at k (c ∷ cs) p q)

length-ended : (cs : List Commit) → length (ended cs) ≡ length cs
unfolding ended
length-ended [] = refl
length-ended (c ∷ cs) = ap suc (length-ended cs)

length_run : (fs : List (ℕ → Bool)) (cs : List Commit) → length (run fs cs) ≤ length cs
unfolding run
length_run fs [] = omega arith
length_run fs (c ∷ cs) = go (all_survive fs c.entries) (length_run fs cs)
  where
    go : (b : Bool) → length (run fs cs) ≤ length cs → length (cond b (c ∷ run fs cs) []) ≤ length (c ∷ cs)
    go true l = omega arith
    go false l = omega arith

-- ---- a call that changes the book adds at most one

pub record Grown (cs ds : List Commit) : Type 0 where
  pub added : List Commit
  pub is : ds ≡ cs ++ added
  pub few : length added ≤ 1

stays : (cs ds : List Commit) → ds ≡ cs → Grown cs ds
stays cs ds e = record { added = []; is = e ∙ sym (append-nil cs); few = omega arith }

pub store-grown : (b : Book) (v h : ℕ) (block : List ℕ) (t : Task) → (store_task b v h block t).commits ≡ b.commits
unfolding store_task with_task
store-grown b v h block idle = refl
store-grown b v h block (opened es none) = refl
store-grown b v h block (opened es (some x)) = go (eqb x.home h)
  where
    go : (d : Bool) → (cond d (with_task b v (opened es (book.hold h block))) (with_task (filled_up b) v (opened (es ++ (book.entry_of b x ∷ [])) (book.hold h block)))).commits ≡ b.commits
    go true = refl
    go false = filled-commits b

commit-grown : (b : Book) (v ticket : ℕ) (t : Task) → Grown b.commits (commit_task b v ticket t).commits
unfolding commit_task with_task add_commit
commit-grown b v ticket idle = stays b.commits b.commits refl
commit-grown b v ticket (opened es none) = stays b.commits b.commits refl
commit-grown b v ticket (opened es (some x)) =
    record {
      added = record { entries = es ++ (book.entry_of b x ∷ []); ticket = ticket; owed = false } ∷ [];
      is = rw (filled-commits b);
      few = omega arith;
    }

flush-same : (b : Book) → (book.flush b).commits ≡ b.commits
unfolding book.flush submit
flush-same b = go (eqb b.filled 0)
  where
    go : (d : Bool) → (cond d b (submit b)).commits ≡ b.commits
    go true = refl
    go false = refl

change-grown : (b : Book) (c : Change) (figure : ℕ) → Grown b.commits (feed_change b c figure).commits
unfolding feed_change book.begin book.abort book.store book.commit
change-grown b (begins v) figure = stays b.commits _ (unfold with_task in refl)
change-grown b (reserves v places) figure = stays b.commits _ (unfold with_task in refl)
change-grown b (aborts v) figure = stays b.commits _ (unfold with_task in refl)
change-grown b (stores v h block batch) figure = stays b.commits _ (store-grown b v h block (b.tasks v))
change-grown b (commits v batch) figure = commit-grown b v figure (b.tasks v)
change-grown b (flushes batch) figure = stays b.commits _ (flush-same b)

-- ---- a done call

-- a property of commits that confirms and openings leave alone
pub record Steady (P : Commit → Type 0) : Type 0 where
  pub by : (n mark : ℕ) (cs : List Commit) → At P n cs → At P n (owed_by mark cs)
  pub all : (n : ℕ) (cs : List Commit) → At P n cs → At P n (all_owed cs)

pub owed-steady : Steady Owed
owed-steady = record { by = owed-by; all = owed_all }

pub ticket-steady : (t : ℕ) → Steady (Ticket t)
ticket-steady t = record { by = λ n mark cs. ticket-by n t mark cs; all = λ n cs. ticket-all n t cs }

fed-at : (P : Commit → Type 0) → Steady P → (b : Book) (c : Call) (figure n : ℕ) → At P n b.commits → At P n (feed b c figure).commits
unfolding feed with_commits
fed-at P k b (opening state newest batch) figure n a = k.all n b.commits a
fed-at P k b confirm figure n a = k.by n figure b.commits a
fed-at P k b (change c) figure n a =
    let g = change-grown b c figure in subst (At P n) (sym g.is) (at_front P n b.commits g.added a)
fed-at P k b (service c) figure n a = a

fed-grows : (b : Book) (c : Call) (figure : ℕ) → length (feed b c figure).commits ≤ length b.commits + 1
unfolding feed with_commits
fed-grows b (opening state newest batch) figure = omega (arith, length-all b.commits)
fed-grows b confirm figure = omega (arith, length-by figure b.commits)
fed-grows b (change c) figure =
    let g = change-grown b c figure in
    let l = g.few in omega (arith, ap length g.is, length-append b.commits g.added)
fed-grows b (service c) figure = omega arith

pub call_at : (P : Commit → Type 0) → Steady P → (w : World) (c : Call) (n : ℕ) → At P n w.book.commits → At P n (step w (call c)).book.commits
unfolding step
call_at P k w c n a = go (ends w c).code
  where
    go : (code : ℕ) → At P n (after_call w c (ends w c) code).book.commits
    go zero = unfold after_call after_done in fed-at P k w.book c (ends w c).figure n a
    go (suc code) = unfold after_call after_refused in a

pub event-grows : (w : World) (e : Event) → length (step w e).book.commits ≤ length w.book.commits + 1
unfolding step
event-grows w (call c) = go (ends w c).code
  where
    go : (code : ℕ) → length (after_call w c (ends w c) code).book.commits ≤ length w.book.commits + 1
    go zero = unfold after_call after_done in fed-grows w.book c (ends w c).figure
    go (suc code) = unfold after_call after_refused in omega arith
event-grows w (crash passed chosen) =
    unfold after_crash book.crash in
    (let fs : List (ℕ → Bool) = row_fates w passed chosen in omega (arith, length-ended (run fs w.book.commits), length_run fs w.book.commits))

-- ---- demand 3 at a cut of a world that a history reaches

last-holds : (es : List Event) (e : Event) (w : World) → AllHold w (es ++ (e ∷ [])) → Holds (after w es) e
unfolding after
last-holds [] e w h = h.0
last-holds (d ∷ es) e w h = last-holds es e (step w d) h.1

crash-holds : (w : World) (s : Store) (passed : ℕ) (chosen : ℕ → Bool) → Reached w s → Allowed w (crash passed chosen) → Crashed w passed chosen
crash-holds w s passed chosen r a =
    let e : Event = crash passed chosen in
    let w₀ : World = after_format r.format in
    let h = demand3 r.groups r.homes r.format (r.events ++ (e ∷ []))
    (allowed-append r.events (e ∷ []) w₀ r.allowed (subst (λ (v : World). AllAllowed v (e ∷ [])) (sym r.world) (a, tt))) in
    subst (λ (v : World). Crashed v passed chosen) r.world (last-holds r.events e w₀ h)

pub event-owed : (w : World) (s : Store) (e : Event) (n : ℕ) → Reached w s → Allowed w e → At Owed n w.book.commits → At Owed n (step w e).book.commits
event-owed w s (call c) n r ok a = call_at Owed owed-steady w c n a
event-owed w s (crash passed chosen) n r ok a =
    unfold step after_crash book.crash in
    owed-cut n (row_fates w passed chosen) w.book.commits (unfold lost in crash-holds w s passed chosen r ok) a
