-- The book along a transact: begin, the stores one by one, and the commit that it adds. Assumes nothing.
use Prim.Native.Nat.{ℕ, zero, suc, ◌+◌, ◌*◌, ◌/◌, ◌≤◌}
use mathlib.Core.Path.{◌≡◌, refl, sym, ap, ◌∙◌, subst}
use mathlib.Core.Bool.{Bool, true, false, cond}
use mathlib.Core.List.{List, [], ◌∷◌, ◌++◌}
use mathlib.Core.Option.{Option, none, some}
use native.Mathlib.Omega.{arith}
use lib.Dec.{eqb}
use lib.ListN.{length}
use borrow.Author.Tests.{ne_eqb}
use Rattle.model.specs.Bytes.{part}
use Rattle.model.specs.Book.{Entry, Commit, Held, Task, idle, opened, Book, with_task, entry_of, submit, grown, filled_up, hold, store_task, add_commit, commit_task}
use Rattle.model.specs.Book as book
use Rattle.model.specs.DemandTwo.{held_entries}
use Rattle.acts.specs.Units.{feed_stores, feed_transact}
use Rattle.theorems.proofs.steps.WriterSteps.{task-here, task-other}
use Rattle.theorems.proofs.steps.HeldLogs.{filled-commits}
use Rattle.theorems.proofs.many.UnitBooks.{spread, held-append}

pub filled-tasks : (b : Book) → (filled_up b).tasks ≡ b.tasks
unfolding filled_up submit grown
filled-tasks b = go (eqb b.filled 6)
  where
    go : (d : Bool) → (cond d (submit b) (grown b)).tasks ≡ b.tasks
    go true = refl
    go false = refl

-- the book after begin and some of the stores of a transact: the writer has logged all but the last of them, which it holds
abbrev pub held_after : ℕ → List ℕ → ℕ → Option Held
held_after h blocks zero = none
held_after h blocks (suc k) = some (record { home = h + k; block = part blocks (64 * k) 64 })

abbrev pub logged_after : ℕ → List ℕ → ℕ → List Held
logged_after h blocks zero = []
logged_after h blocks (suc k) = spread h blocks k

pub record Chained (b c : Book) (v h : ℕ) (blocks : List ℕ) (k : ℕ) : Type 0 where
  pub commits : c.commits ≡ b.commits
  pub others : (x : ℕ) → (x ≡ v → ⊥) → c.tasks x ≡ b.tasks x
  pub logged : List Entry
  pub entries : held_entries logged ≡ logged_after h blocks k
  pub task : c.tasks v ≡ opened logged (held_after h blocks k)

pub chained-store : (b c : Book) (v h : ℕ) (blocks : List ℕ) (k : ℕ) → Chained b c v h blocks k
    → Chained b (store_task c v (h + k) (part blocks (64 * k) 64) (c.tasks v)) v h blocks (suc k)
unfolding store_task hold
chained-store b c v h blocks zero r =
    rw r.task
    (let t : Task = opened r.logged (held_after h blocks 1) in
    record {
      commits = (unfold with_task in r.commits);
      others = λ x n. task-other c v x t n ∙ r.others x n;
      logged = r.logged;
      entries = r.entries ∙ (unfold spread in refl);
      task = task-here c v t;
    })
chained-store b c v h blocks (suc k) r =
    let last : Held = record { home = h + k; block = part blocks (64 * k) 64 } in
    let es : List Entry = r.logged ++ (entry_of c last ∷ []) in
    let t : Task = opened es (held_after h blocks (suc (suc k))) in
    rw (r.task, ne_eqb (h + k) (h + suc k) (λ e. omega arith))
    (record {
      commits = (unfold with_task in filled-commits c ∙ r.commits);
      others = λ x n. task-other (filled_up c) v x t n ∙ ap (λ (ts : ℕ → Task). ts x) (filled-tasks c) ∙ r.others x n;
      logged = es;
      entries = held-append r.logged (entry_of c last ∷ []) ∙ rw r.entries (unfold held_entries entry_of spread in refl);
      task = task-here (filled_up c) v t;
    })

pub chained : (b : Book) (v h : ℕ) (blocks : List ℕ) (k : ℕ) → Chained b (feed_stores b v h blocks k) v h blocks k
unfolding feed_stores book.begin book.store
chained b v h blocks zero =
    record {
      commits = (unfold with_task in refl);
      others = λ x n. task-other b v x (opened [] none) n;
      logged = [];
      entries = (unfold held_entries spread in refl);
      task = task-here b v (opened [] none);
    }
chained b v h blocks (suc k) = chained-store b (feed_stores b v h blocks k) v h blocks k (chained b v h blocks k)

-- a transact adds one commit, of all its homes and blocks, and leaves every writer as it was but its own, which is idle
pub record Transacted (b c : Book) (v h : ℕ) (blocks : List ℕ) : Type 0 where
  pub commit : Commit
  pub commits : c.commits ≡ b.commits ++ (commit ∷ [])
  pub entries : held_entries commit.entries ≡ spread h blocks (length blocks / 64)
  pub others : (x : ℕ) → (x ≡ v → ⊥) → c.tasks x ≡ b.tasks x
  pub own : c.tasks v ≡ idle

transacted-commit : (b c : Book) (v h : ℕ) (blocks : List ℕ) (figure k : ℕ) → length blocks / 64 ≡ suc k → Chained b c v h blocks (suc k)
    → Transacted b (commit_task c v figure (c.tasks v)) v h blocks
unfolding commit_task
transacted-commit b c v h blocks figure k e r =
    let last : Held = record { home = h + k; block = part blocks (64 * k) 64 } in
    let new : Commit = record { entries = r.logged ++ (entry_of c last ∷ []); ticket = figure; owed = false } in
    let d : Book = add_commit (filled_up c) new in
    let same : (x : ℕ) → d.tasks x ≡ c.tasks x = λ x. (unfold add_commit in ap (λ (ts : ℕ → Task). ts x) (filled-tasks c)) in
    rw r.task
    (record {
      commit = new;
      commits = (unfold with_task add_commit in rw (filled-commits c, r.commits));
      entries = rw e (held-append r.logged (entry_of c last ∷ []) ∙ rw r.entries (unfold held_entries entry_of spread in refl));
      others = λ x n. task-other d v x idle n ∙ same x ∙ r.others x n;
      own = task-here d v idle;
    })

pub transacted : (b : Book) (v h : ℕ) (blocks : List ℕ) (figure : ℕ) → 1 ≤ length blocks / 64 → Transacted b (feed_transact b v h blocks figure) v h blocks
unfolding feed_transact book.commit
transacted b v h blocks figure l = go (length blocks / 64) refl l
  where
    go : (m : ℕ) → length blocks / 64 ≡ m → 1 ≤ m
        → Transacted b
        (commit_task (feed_stores b v h blocks (length blocks / 64)) v figure ((feed_stores b v h blocks (length blocks / 64)).tasks v)) v h blocks
    go zero e p = absurd (omega arith)
    go (suc k) e p =
        subst
        (λ (m : ℕ). Transacted b (commit_task (feed_stores b v h blocks m) v figure ((feed_stores b v h blocks m).tasks v)) v h blocks) (sym e)
        (transacted-commit b (feed_stores b v h blocks (suc k)) v h blocks figure k e (chained b v h blocks (suc k)))
