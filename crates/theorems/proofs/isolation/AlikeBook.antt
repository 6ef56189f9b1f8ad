-- Books that are alike but for bytes in hidden homes: the calls keep them so, and a home that is not hidden shows the same. Assumes nothing.
use Prim.Native.Nat.{ℕ, ◌+◌, ◌*◌}
use mathlib.Core.Path.{◌≡◌, refl, sym, ap, ◌∙◌}
use mathlib.Core.Bool.{Bool, true, false, cond, ◌&&◌, ◌||◌, false≢true}
use mathlib.Core.List.{List, [], ◌∷◌, ◌++◌}
use mathlib.Core.Option.{some}
use lib.Dec.{eqb, leb}
use lib.ListN.{length}
use borrow.Author.Tests.{eqb-true}
use Rattle.model.specs.Bytes.{zeros}
use Rattle.model.specs.Layout.{home_at}
use Rattle.model.specs.Book.{Entry, Commit, Held, Task, opened, Book, set_task, with_task, begin, abort, entry_of, submit, grown, filled_up, hold, store_task, store, add_commit, commit_task, commit, flush, owed_by, with_commits, write_entries, write_commits, homes_after, newest_entry, held_or, own_or, read_by}
use Rattle.model.specs.History.{Change, begins, reserves, aborts, stores, commits, flushes, Call, opening, confirm, change, service, feed, feed_change, is_opening}
use Rattle.theorems.specs.Isolation.{Each, both, more, EntryAlike, CommitAlike, HeldAlike, TaskAlike, idles, empties, holds, CallAlike, equal, stored}
use Rattle.model_laws.proofs.bytes.ByteLaws.{length-zeros}
use Rattle.model_laws.proofs.trace.TraceLaws.{All}
use Rattle.theorems.proofs.invariant.TouchLaws.{CommitFits, home_at-entries}
use Rattle.theorems.proofs.invariant.BookReplay.{length-write_commits}

pub each_append : {A : Type 0} {R : A → A → Type 0} {xs ys us vs : List A} → Each R xs ys → Each R us vs → Each R (xs ++ us) (ys ++ vs)
each_append both k = k
each_append (more r es) k = more r (each_append es k)

module _ (hidden : ℕ → Bool) where
  pub record BookAlike (b d : Book) : Type 0 where
    pub rows : b.rows ≡ d.rows
    pub filled : b.filled ≡ d.filled
    pub commits : Each (CommitAlike hidden) b.commits d.commits
    pub tasks : (w : ℕ) → TaskAlike hidden (b.tasks w) (d.tasks w)

  -- ---- the calls

  either : {b d x y : Book} (e f : Bool) → e ≡ f → BookAlike b d → BookAlike x y → BookAlike (cond e b x) (cond f d y)
  either true true q a k = a
  either true false q a k = absurd (false≢true (sym q))
  either false true q a k = absurd (false≢true q)
  either false false q a k = k

  with-task : {b d : Book} (w : ℕ) {t u : Task} → BookAlike b d → TaskAlike hidden t u → BookAlike (with_task b w t) (with_task d w u)
  unfolding with_task set_task
  with-task {b} {d} w {t} {u} a k =
      record { rows = a.rows; filled = a.filled; commits = a.commits; tasks = λ x. go x (eqb w x) }
    where
      go : (x : ℕ) (e : Bool) → TaskAlike hidden (cond e t (b.tasks x)) (cond e u (d.tasks x))
      go x true = k
      go x false = a.tasks x

  entry-of : {b d : Book} {h k : Held} → BookAlike b d → HeldAlike hidden h k → EntryAlike hidden (entry_of b h) (entry_of d k)
  unfolding entry_of
  entry-of a q = record { home = q.home; landing = rw (a.rows, a.filled); block = q.block }

  submit-alike : {b d : Book} → BookAlike b d → BookAlike (submit b) (submit d)
  unfolding submit
  submit-alike a = record { rows = ap (λ (n : ℕ). n + 1) a.rows; filled = refl; commits = a.commits; tasks = a.tasks }

  grown-alike : {b d : Book} → BookAlike b d → BookAlike (grown b) (grown d)
  unfolding grown
  grown-alike a = record { rows = a.rows; filled = ap (λ (n : ℕ). n + 1) a.filled; commits = a.commits; tasks = a.tasks }

  filled-up : {b d : Book} → BookAlike b d → BookAlike (filled_up b) (filled_up d)
  unfolding filled_up
  filled-up {b} {d} a =
      either (eqb b.filled 6) (eqb d.filled 6) (ap (λ (n : ℕ). eqb n 6) a.filled) (submit-alike a) (grown-alike a)

  hold-alike : {xs ys : List Entry} (home : ℕ) (x y : List ℕ) → Each (EntryAlike hidden) xs ys → (hidden home ≡ false → x ≡ y)
      → TaskAlike hidden (opened xs (hold home x)) (opened ys (hold home y))
  unfolding hold
  hold-alike home x y es h = holds es (record { home = refl; block = h })

  store-task : {b d : Book} (w home : ℕ) (x y : List ℕ) {t u : Task} → (hidden home ≡ false → x ≡ y) → BookAlike b d → TaskAlike hidden t u
      → BookAlike (store_task b w home x t) (store_task d w home y u)
  unfolding store_task
  store-task w home x y h a idles = a
  store-task w home x y h a (empties es) = with-task w a (hold-alike home x y es h)
  store-task w home x y h a (holds {a = m} {b = n} es q) =
      either (eqb m.home home) (eqb n.home home) (ap (λ (z : ℕ). eqb z home) q.home) (with-task w a (hold-alike home x y es h))
      (with-task w (filled-up a) (hold-alike home x y (each_append es (more (entry-of a q) both)) h))

  store-alike : {b d : Book} (w home : ℕ) (x y : List ℕ) → (hidden home ≡ false → x ≡ y) → BookAlike b d → BookAlike (store b w home x) (store d w home y)
  unfolding store
  store-alike w home x y h a = store-task w home x y h a (a.tasks w)

  add-commit : {b d : Book} {c k : Commit} → BookAlike b d → CommitAlike hidden c k → BookAlike (add_commit b c) (add_commit d k)
  unfolding add_commit
  add-commit a q = record { rows = a.rows; filled = a.filled; commits = each_append a.commits (more q both); tasks = a.tasks }

  commit-task : {b d : Book} (w ticket : ℕ) {t u : Task} → BookAlike b d → TaskAlike hidden t u
      → BookAlike (commit_task b w ticket t) (commit_task d w ticket u)
  unfolding commit_task
  commit-task w ticket a idles = a
  commit-task w ticket a (empties es) = with-task w a idles
  commit-task w ticket a (holds es q) =
      with-task w
      (add-commit (filled-up a) (record { entries = each_append es (more (entry-of a q) both); ticket = refl; owed = refl }))
      idles

  commit-alike : {b d : Book} (w ticket : ℕ) → BookAlike b d → BookAlike (commit b w ticket) (commit d w ticket)
  unfolding commit
  commit-alike w ticket a = commit-task w ticket a (a.tasks w)

  pub flush-alike : {b d : Book} → BookAlike b d → BookAlike (flush b) (flush d)
  unfolding flush
  flush-alike {b} {d} a = either (eqb b.filled 0) (eqb d.filled 0) (ap (λ (n : ℕ). eqb n 0) a.filled) a (submit-alike a)

  owed-by : {cs ds : List Commit} (mark : ℕ) → Each (CommitAlike hidden) cs ds → Each (CommitAlike hidden) (owed_by mark cs) (owed_by mark ds)
  unfolding owed_by
  owed-by mark both = both
  owed-by mark (more {a} {b} q es) =
      more {a = record { entries = a.entries; ticket = a.ticket; owed = a.owed || (leb 1 a.ticket && leb a.ticket mark) }}
      {b = record { entries = b.entries; ticket = b.ticket; owed = b.owed || (leb 1 b.ticket && leb b.ticket mark) }}
      (record { entries = q.entries; ticket = q.ticket; owed = rw (q.owed, q.ticket) }) (owed-by mark es)

  change-alike : {b d : Book} (c : Change) (figure : ℕ) → BookAlike b d → BookAlike (feed_change b c figure) (feed_change d c figure)
  unfolding feed_change begin abort
  change-alike (begins v) figure a = with-task v a (empties both)
  change-alike (reserves v places) figure a = with-task v a (empties both)
  change-alike (aborts v) figure a = with-task v a idles
  change-alike (stores v home block batch) figure a = store-alike v home block block (λ h. refl) a
  change-alike (commits v batch) figure a = commit-alike v figure a
  change-alike (flushes batch) figure a = flush-alike a

  -- what the book is fed by two calls that are alike
  pub feed-alike : {b d : Book} {c e : Call} (figure : ℕ) → is_opening c ≡ false → CallAlike hidden c e → BookAlike b d
      → BookAlike (feed b c figure) (feed d e figure)
  unfolding feed is_opening
  feed-alike figure n (equal {c = opening state newest batch}) a = absurd (false≢true (sym n))
  feed-alike figure n (equal {c = confirm}) a =
      unfold with_commits in record { rows = a.rows; filled = a.filled; commits = owed-by figure a.commits; tasks = a.tasks }
  feed-alike figure n (equal {c = change c}) a = change-alike c figure a
  feed-alike figure n (equal {c = service c}) a = a
  feed-alike figure n (stored {writer = v} {home = home} {a = x} {b = y} t l) a =
      unfold feed_change in store-alike v home x y (λ f. absurd (false≢true (sym f ∙ t))) a

  -- ---- what a home that is not hidden shows

  module _ (h : ℕ) (shows : hidden h ≡ false) where
    newest-alike : {xs ys : List Entry} {p q : List ℕ} → Each (EntryAlike hidden) xs ys → p ≡ q → newest_entry h xs p ≡ newest_entry h ys q
    unfolding newest_entry
    newest-alike both e = e
    newest-alike {p = p} {q = q} (more {a} {b} k es) e = newest-alike es (rw k.home (go (eqb b.home h) refl))
      where
        go : (d : Bool) → eqb b.home h ≡ d → cond d a.block p ≡ cond d b.block q
        go true t = k.block (ap hidden (k.home ∙ eqb-true b.home h t) ∙ shows)
        go false t = e

    held-alike : {m n : Held} {p q : List ℕ} → HeldAlike hidden m n → p ≡ q → held_or h (some m) p ≡ held_or h (some n) q
    unfolding held_or
    held-alike {m} {n} {p} {q} k e = rw k.home (go (eqb n.home h) refl)
      where
        go : (d : Bool) → eqb n.home h ≡ d → cond d m.block p ≡ cond d n.block q
        go true t = k.block (ap hidden (k.home ∙ eqb-true n.home h t) ∙ shows)
        go false t = e

    own-alike : {t u : Task} {p q : List ℕ} → TaskAlike hidden t u → p ≡ q → own_or h t p ≡ own_or h u q
    unfolding own_or
    own-alike idles e = e
    own-alike (empties es) e = unfold held_or in newest-alike es e
    own-alike (holds es k) e = held-alike k (newest-alike es e)

    module _ (D : ℕ) where
      written-alike : {cs ds : List Commit} (p q : List ℕ) → Each (CommitAlike hidden) cs ds → All (CommitFits D) cs → All (CommitFits D) ds
          → length p ≡ 64 * D → length q ≡ 64 * D → home_at p h ≡ home_at q h → home_at (write_commits cs p) h ≡ home_at (write_commits ds q) h
      unfolding write_commits
      written-alike p q both f g l m e = e
      written-alike p q (more {a} {b} k es) f g l m e =
          written-alike (write_entries a.entries p) (write_entries b.entries q) es f.1 g.1 (length-write_commits (a ∷ []) p ∙ l)
          (length-write_commits (b ∷ []) q ∙ m)
          (home_at-entries D a.entries p h f.0 l ∙ newest-alike k.entries e ∙ sym (home_at-entries D b.entries q h g.0 m))

      pub homes-alike : {cs ds : List Commit} → Each (CommitAlike hidden) cs ds → All (CommitFits D) cs → All (CommitFits D) ds
          → home_at (homes_after D cs) h ≡ home_at (homes_after D ds) h
      unfolding homes_after
      homes-alike es f g = written-alike (zeros (64 * D)) (zeros (64 * D)) es f g (length-zeros (64 * D)) (length-zeros (64 * D)) refl

      -- a writer reads it the same
      pub reads-alike : {b d : Book} (w : ℕ) → BookAlike b d → All (CommitFits D) b.commits → All (CommitFits D) d.commits
          → read_by D b w h ≡ read_by D d w h
      unfolding read_by
      reads-alike w a f g = own-alike (a.tasks w) (homes-alike a.commits f g)
