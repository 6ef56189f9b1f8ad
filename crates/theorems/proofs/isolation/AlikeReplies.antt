-- Stores that are alike but for bytes in hidden homes answer every call alike: the answers hang on numbers, on homes and on the list of rights, and the
-- list's own homes are never hidden. Assumes nothing.
use Prim.Native.Nat.{ℕ, zero, suc, ◌+◌, ◌-◌, ◌*◌, ◌/◌, ◌≤◌, ◌<◌}
use mathlib.Core.Path.{◌≡◌, refl, sym, ap, ◌∙◌}
use mathlib.Core.Bool.{Bool, true, false, cond, ◌&&◌, false≢true}
use mathlib.Core.List.{List, ◌∷◌}
use native.Mathlib.Omega.{arith}
use lib.Dec.{leb, ltb}
use lib.ListN.{length}
use borrow.Author.Tests.{leb-true, le-leb, lt-ltb}
use Rattle.model.specs.Bytes.{part}
use Rattle.model.specs.Layout.{home_at}
use Rattle.model.specs.State.{list_home}
use Rattle.model.specs.Effects.{largest}
use Rattle.model.specs.Rights.{of_list, is_list, may_store, may_read}
use Rattle.model.specs.Book.{Entry, Commit, Task, homes_after}
use Rattle.model.specs.DemandTwo.{held_entries, untrimmed, closed_below, some_before, across, any_across, open_before, any_open_before}
use Rattle.model.specs.History.{Change, begins, reserves, aborts, stores, commits, flushes, Service, settles, trims, reads, round_begins, round_steps, Call, opening, confirm, change, service, is_opening}
use Rattle.abstract_store.specs.Store.{Store, group_of_first, next_group, next_of, places_left, promised_to, free_left, has_room_left, may_flush, entry_bytes, is_idle, store_must_log, commit_must_log, wrote, any_wrote, many_homes, to_settle, to_step, may_start, next_start, list_of, reply_change, reply_service, reply}
use Rattle.theorems.specs.Isolation.{Each, both, more, EntryAlike, CommitAlike, TaskAlike, idles, empties, holds, StoreAlike, CallAlike, equal, stored, Denied}
use Rattle.model_laws.proofs.bytes.ByteLaws.{length_part, part-within}
use Rattle.model_laws.proofs.bytes.LayoutLaws.{area-ext}
use Rattle.model_laws.proofs.trace.TraceLaws.{All}
use Rattle.theorems.proofs.invariant.TouchLaws.{CommitFits, length-homes_after}
use Rattle.theorems.proofs.store.StoreLaws.{marked-same}
use Rattle.theorems.proofs.isolation.AlikeBook.{homes-alike}

-- ---- tests that are the same everywhere

largest-same : (f g : ℕ → Bool) (start n : ℕ) → ((x : ℕ) → f x ≡ g x) → largest f start n ≡ largest g start n
unfolding largest
largest-same f g start zero e = refl
largest-same f g start (suc n) e = rw (e (start + suc n), largest-same f g start n e)

promised-same : (f g : ℕ → ℕ) (n : ℕ) → ((w : ℕ) → f w ≡ g w) → promised_to f n ≡ promised_to g n
unfolding promised_to
promised-same f g zero e = refl
promised-same f g (suc n) e = rw (e n, promised-same f g n e)

-- the list's own homes are not hidden
abbrev pub ListShown : (ℕ → Bool) → Type 0
ListShown hidden = (h : ℕ) → h < 4 → hidden (8 + h) ≡ false

module _ (hidden : ℕ → Bool) where
  -- ---- writers

  pub idle-alike : {t u : Task} → TaskAlike hidden t u → is_idle t ≡ is_idle u
  unfolding is_idle
  idle-alike idles = refl
  idle-alike (empties es) = refl
  idle-alike (holds es k) = refl

  pub store-logs-alike : {t u : Task} (home : ℕ) → TaskAlike hidden t u → store_must_log t home ≡ store_must_log u home
  unfolding store_must_log
  store-logs-alike home idles = refl
  store-logs-alike home (empties es) = refl
  store-logs-alike home (holds es k) = rw k.home

  commit-logs-alike : {t u : Task} → TaskAlike hidden t u → commit_must_log t ≡ commit_must_log u
  unfolding commit_must_log
  commit-logs-alike idles = refl
  commit-logs-alike (empties es) = refl
  commit-logs-alike (holds es k) = refl

  -- ---- entries and commits

  wrote-alike : {xs ys : List Entry} (h : ℕ) → Each (EntryAlike hidden) xs ys → wrote h (held_entries xs) ≡ wrote h (held_entries ys)
  unfolding wrote held_entries
  wrote-alike h both = refl
  wrote-alike h (more k es) = rw (wrote-alike h es, k.home)

  closed-alike : {cs ds : List Commit} (bound : ℕ) → Each (CommitAlike hidden) cs ds
      → Each (CommitAlike hidden) (closed_below bound cs) (closed_below bound ds)
  unfolding closed_below
  closed-alike bound both = both
  closed-alike bound (more {a} {b} {xs} {ys} k es) =
      go (leb a.ticket bound) (leb b.ticket bound) (ap (λ (n : ℕ). leb n bound) k.ticket) (closed-alike bound es)
    where
      go : (e f : Bool) → e ≡ f → Each (CommitAlike hidden) (closed_below bound xs) (closed_below bound ys)
          → Each (CommitAlike hidden) (cond e (a ∷ closed_below bound xs) (closed_below bound xs)) (cond f (b ∷ closed_below bound ys) (closed_below bound ys))
      go true true z q = more k q
      go true false z q = absurd (false≢true (sym z))
      go false true z q = absurd (false≢true z)
      go false false z q = q

  any-wrote-alike : {cs ds : List Commit} (h base : ℕ) → Each (CommitAlike hidden) cs ds → any_wrote h (untrimmed base cs) ≡ any_wrote h (untrimmed base ds)
  unfolding untrimmed
  any-wrote-alike h base both = refl
  any-wrote-alike h base (more {a} {b} {xs} {ys} k es) = rw k.ticket (go (ltb base b.ticket) (any-wrote-alike h base es))
    where
      go : (e : Bool) → any_wrote h (untrimmed base xs) ≡ any_wrote h (untrimmed base ys)
          → any_wrote h (cond e (held_entries a.entries ∷ untrimmed base xs) (untrimmed base xs))
          ≡ any_wrote h (cond e (held_entries b.entries ∷ untrimmed base ys) (untrimmed base ys))
      go true q = unfold any_wrote in rw (q, wrote-alike h k.entries)
      go false q = q

  before-alike : {xs ys : List Entry} (first position : ℕ) → Each (EntryAlike hidden) xs ys → some_before first position xs ≡ some_before first position ys
  unfolding some_before
  before-alike first position both = refl
  before-alike first position (more k es) = rw (k.landing, before-alike first position es)

  across-alike : {cs ds : List Commit} (first position : ℕ) → Each (CommitAlike hidden) cs ds → any_across first position cs ≡ any_across first position ds
  unfolding any_across across
  across-alike first position both = refl
  across-alike first position (more k es) = rw (k.ticket, before-alike first position k.entries, across-alike first position es)

  open-alike : {t u : Task} (first position : ℕ) → TaskAlike hidden t u → open_before first position t ≡ open_before first position u
  unfolding open_before
  open-alike first position idles = refl
  open-alike first position (empties es) = before-alike first position es
  open-alike first position (holds es k) = before-alike first position es

  opens-alike : (t u : ℕ → Task) (first position n : ℕ) → ((w : ℕ) → TaskAlike hidden (t w) (u w))
      → any_open_before first position t n ≡ any_open_before first position u n
  unfolding any_open_before
  opens-alike t u first position zero a = refl
  opens-alike t u first position (suc n) a = rw (open-alike first position (a n), opens-alike t u first position n a)

  -- ---- numbers

  module _ {s t : Store} (a : StoreAlike hidden s t) where
    pub first_alike : group_of_first s ≡ group_of_first t
    unfolding group_of_first
    first_alike = rw (a.head, a.groups)

    pub group-alike : next_group s ≡ next_group t
    unfolding next_group
    group-alike = rw (first_alike, a.rows)

    next-alike : next_of s ≡ next_of t
    unfolding next_of
    next-alike = rw (group-alike, a.filled)

    places-alike : places_left s ≡ places_left t
    unfolding places_left
    places-alike = rw (next-alike, a.start, a.groups)

    promised-alike : promised_to s.promises 8 ≡ promised_to t.promises 8
    promised-alike = promised-same s.promises t.promises 8 a.promises

    pub free-alike : free_left s ≡ free_left t
    unfolding free_left
    free-alike = rw (places-alike, promised-alike)

    room-alike : (w : ℕ) → has_room_left s w ≡ has_room_left t w
    unfolding has_room_left
    room-alike w = rw (a.promises w, promised-alike, places-alike)

    flush-may-alike : may_flush s ≡ may_flush t
    unfolding may_flush
    flush-may-alike = rw (group-alike, promised-alike, a.filled, a.start, a.groups)

    bytes-alike : entry_bytes s ≡ entry_bytes t
    unfolding entry_bytes
    bytes-alike = rw a.filled

    settle-alike : many_homes s.homes (to_settle s) ≡ many_homes t.homes (to_settle t)
    unfolding many_homes to_settle
    settle-alike =
        rw (a.homes, a.start, a.fenced)
        (ap length
        (marked-same (λ h. any_wrote h (untrimmed (7 * t.start) (closed_below t.fenced s.book.commits)))
        (λ h. any_wrote h (untrimmed (7 * t.start) (closed_below t.fenced t.book.commits))) t.homes
        (λ h. any-wrote-alike h (7 * t.start) (closed-alike t.fenced a.commits))))

    pub step-alike : to_step s ≡ to_step t
    unfolding to_step
    step-alike =
        rw (a.homes, a.start, a.round, a.cursor)
        (marked-same (λ h. leb t.cursor h && any_wrote h (untrimmed (7 * t.start) (closed_below (t.round - 1) s.book.commits)))
        (λ h. leb t.cursor h && any_wrote h (untrimmed (7 * t.start) (closed_below (t.round - 1) t.book.commits))) t.homes
        (λ h. ap (λ (b : Bool). leb t.cursor h && b) (any-wrote-alike h (7 * t.start) (closed-alike (t.round - 1) a.commits))))

    start-may-alike : (x : ℕ) → may_start s x ≡ may_start t x
    unfolding may_start
    start-may-alike x =
        rw (first_alike, across-alike (group_of_first t) (7 * x) a.commits, opens-alike s.book.tasks t.book.tasks (group_of_first t) (7 * x) 8 a.tasks)

    pub start-alike : next_start s ≡ next_start t
    unfolding next_start
    start-alike =
        largest-same (may_start s) (may_start t) s.start (s.settled / 7 - s.start) start-may-alike ∙ rw (a.start, a.settled)

  -- ---- the list of rights

  list-shown : (D : ℕ) (list : List ℕ) (w h : ℕ) → h < 4 → may_read D list w (8 + h) ≡ true
  unfolding may_read of_list
  list-shown D list w h l = rw (le-leb 8 (8 + h) (omega arith), lt-ltb (8 + h) 12 (omega arith))

  pub not_hidden : (w : ℕ) (s : Store) (h : ℕ) → Denied w hidden s → may_read s.homes (list_of s) w h ≡ true → hidden h ≡ false
  not_hidden w s h d m = go (hidden h) refl
    where
      go : (e : Bool) → hidden h ≡ e → hidden h ≡ false
      go true e = absurd (false≢true (sym (d h e) ∙ m))
      go false e = e

  pub list-shows : (w : ℕ) (s : Store) → Denied w hidden s → ListShown hidden
  list-shows w s d h l = not_hidden w s (8 + h) d (list-shown s.homes (list_of s) w h l)

  -- where D is too small for a list, it is not looked at
  read-no-list : (D : ℕ) (l m : List ℕ) (w h : ℕ) → leb (list_home + 4) D ≡ false → may_read D l w h ≡ may_read D m w h
  unfolding may_read is_list
  read-no-list D l m w h e = rw e

  store-no-list : (D : ℕ) (l m : List ℕ) (w h : ℕ) → leb (list_home + 4) D ≡ false → may_store D l w h ≡ may_store D m w h
  unfolding may_store is_list
  store-no-list D l m w h e = rw e

  list-home : (A : List ℕ) (h : ℕ) → h < 4 → home_at (part A (64 * list_home) 256) h ≡ home_at A (8 + h)
  unfolding home_at
  list-home A h l =
      let e : 64 * list_home + 64 * h ≡ 64 * (8 + h) = omega arith in
      part-within A (64 * list_home) 256 (64 * h) 64 (omega arith) ∙ ap (λ (n : ℕ). part A n 64) e

  module _ (shows : ListShown hidden) {s t : Store} (a : StoreAlike hidden s t) (f : All (CommitFits s.homes) s.book.commits)
      (g : All (CommitFits s.homes) t.book.commits) where
    list-alike : list_home + 4 ≤ s.homes → list_of s ≡ list_of t
    unfolding list_of
    list-alike l =
        rw (← a.homes)
        (area-ext (part (homes_after s.homes s.book.commits) (64 * list_home) 256) (part (homes_after s.homes t.book.commits) (64 * list_home) 256) 4
        (length_part (homes_after s.homes s.book.commits) (64 * list_home) 256 (omega (arith, length-homes_after s.homes s.book.commits)))
        (length_part (homes_after s.homes t.book.commits) (64 * list_home) 256 (omega (arith, length-homes_after s.homes t.book.commits))) each)
      where
        each : (h : ℕ) → h < 4
            → home_at (part (homes_after s.homes s.book.commits) (64 * list_home) 256) h
            ≡ home_at (part (homes_after s.homes t.book.commits) (64 * list_home) 256) h
        each h k =
            list-home (homes_after s.homes s.book.commits) h k
            ∙ homes-alike hidden (8 + h) (shows h k) s.homes a.commits f g
            ∙ sym (list-home (homes_after s.homes t.book.commits) h k)

    pub may-read-alike : (v h : ℕ) → may_read s.homes (list_of s) v h ≡ may_read t.homes (list_of t) v h
    may-read-alike v h = go (leb (list_home + 4) s.homes) refl ∙ ap (λ (n : ℕ). may_read n (list_of t) v h) a.homes
      where
        go : (b : Bool) → leb (list_home + 4) s.homes ≡ b → may_read s.homes (list_of s) v h ≡ may_read s.homes (list_of t) v h
        go true e = ap (λ (l : List ℕ). may_read s.homes l v h) (list-alike (leb-true (list_home + 4) s.homes e))
        go false e = read-no-list s.homes (list_of s) (list_of t) v h e

    pub may-store-alike : (v h : ℕ) → may_store s.homes (list_of s) v h ≡ may_store t.homes (list_of t) v h
    may-store-alike v h = go (leb (list_home + 4) s.homes) refl ∙ ap (λ (n : ℕ). may_store n (list_of t) v h) a.homes
      where
        go : (b : Bool) → leb (list_home + 4) s.homes ≡ b → may_store s.homes (list_of s) v h ≡ may_store s.homes (list_of t) v h
        go true e = ap (λ (l : List ℕ). may_store s.homes l v h) (list-alike (leb-true (list_home + 4) s.homes e))
        go false e = store-no-list s.homes (list_of s) (list_of t) v h e

    -- ---- replies

    stores-reply : (v home : ℕ) (x y batch : List ℕ) → length x ≡ length y → reply_change s (stores v home x batch) ≡ reply_change t (stores v home y batch)
    unfolding reply_change
    stores-reply v home x y batch l =
        rw (l, may-store-alike v home, idle-alike (a.tasks v), store-logs-alike home (a.tasks v), room-alike a v, bytes-alike a, a.homes)

    change-reply : (c : Change) → reply_change s c ≡ reply_change t c
    unfolding reply_change
    change-reply (begins v) = rw (idle-alike (a.tasks v))
    change-reply (reserves v places) = rw (idle-alike (a.tasks v), free-alike a)
    change-reply (aborts v) = rw (idle-alike (a.tasks v))
    change-reply (stores v home block batch) = stores-reply v home block block batch refl
    change-reply (commits v batch) = rw (idle-alike (a.tasks v), commit-logs-alike (a.tasks v), room-alike a v, bytes-alike a, next-alike a)
    change-reply (flushes batch) = rw (flush-may-alike a, a.filled)

    service-reply : (c : Service) → reply_service s c ≡ reply_service t c
    unfolding reply_service
    service-reply (settles batch) = rw (settle-alike a, a.round)
    service-reply round_begins = rw a.round
    service-reply (round_steps homes batch) = rw (step-alike a, a.round)
    service-reply (trims batch) = rw (start-alike a, a.start)
    service-reply (reads v home block) = rw (may-read-alike v home, a.homes)

    pub reply-alike : {c e : Call} → is_opening c ≡ false → CallAlike hidden c e → reply s c ≡ reply t e
    unfolding reply is_opening
    reply-alike n (equal {c = opening state newest batch}) = absurd (false≢true (sym n))
    reply-alike n (equal {c = confirm}) = rw a.fenced
    reply-alike n (equal {c = change c}) = change-reply c
    reply-alike n (equal {c = service c}) = service-reply c
    reply-alike n (stored {writer = v} {home = home} {a = x} {b = y} {batch = batch} h l) = stores-reply v home x y batch l
