-- Stores that are alike but for bytes in hidden homes stay so over calls that are alike and answered alike. Assumes nothing.
use Prim.Native.Nat.{ℕ, ◌+◌, ◌-◌, ◌*◌}
use mathlib.Core.Path.{◌≡◌, refl, sym, ap}
use mathlib.Core.Bool.{Bool, true, false, cond, false≢true}
use lib.Dec.{eqb, leb}
use lib.ListN.{length, get_or}
use mathlib.Core.List.{List, [], ◌∷◌}
use mathlib.Core.Option.{none, some}
use Rattle.model.specs.Book.{Entry, Commit, Task, idle, opened, Book}
use Rattle.model.specs.History.{Change, begins, reserves, aborts, stores, commits, flushes, Service, settles, trims, reads, round_begins, round_steps, Call, opening, confirm, change, service, is_opening}
use Rattle.abstract_store.specs.Store.{Store, next_group, next_start, to_step, store_must_log, last_after, fenced_after, set_for, promises_after, numbered, with_round, round_over, trimmed_to, after_service, after_done, Reply, after_reply}
use Rattle.theorems.specs.Isolation.{Each, both, more, EntryAlike, CommitAlike, TaskAlike, idles, empties, holds, StoreAlike, CallAlike, equal, stored}
use Rattle.theorems.proofs.isolation.AlikeBook.{BookAlike, feed-alike, flush-alike}
use Rattle.theorems.proofs.isolation.AlikeReplies.{first_alike, group-alike, start-alike, step-alike, store-logs-alike}

module _ (hidden : ℕ → Bool) where
  pub book-alike : {s t : Store} → StoreAlike hidden s t → BookAlike hidden s.book t.book
  book-alike a = record { rows = a.rows; filled = a.filled; commits = a.commits; tasks = a.tasks }

  either : {s t x y : Store} (e f : Bool) → e ≡ f → StoreAlike hidden s t → StoreAlike hidden x y → StoreAlike hidden (cond e s x) (cond f t y)
  either true true q a k = a
  either true false q a k = absurd (false≢true (sym q))
  either false true q a k = absurd (false≢true q)
  either false false q a k = k

  -- ---- the same numbers

  numbered-alike : {s t : Store} {b d : Book} (start settled fenced durable last start' settled' fenced' durable' last' : ℕ) (p q : ℕ → ℕ)
      → start ≡ start' → settled ≡ settled' → fenced ≡ fenced' → durable ≡ durable' → last ≡ last' → ((w : ℕ) → p w ≡ q w) → StoreAlike hidden s t
      → BookAlike hidden b d
      → StoreAlike hidden (numbered s start settled fenced durable last p b) (numbered t start' settled' fenced' durable' last' q d)
  unfolding numbered
  numbered-alike start settled fenced durable last start' settled' fenced' durable' last' p q e₁ e₂ e₃ e₄ e₅ e₆ a k =
      record {
        groups = a.groups;
        homes = a.homes;
        head = a.head;
        start = e₁;
        settled = e₂;
        fenced = e₃;
        durable = e₄;
        last = e₅;
        promises = e₆;
        round = a.round;
        cursor = a.cursor;
        rows = k.rows;
        filled = k.filled;
        commits = k.commits;
        tasks = k.tasks;
      }

  round-alike : {s t : Store} (round cursor round' cursor' : ℕ) → round ≡ round' → cursor ≡ cursor' → StoreAlike hidden s t
      → StoreAlike hidden (with_round s round cursor) (with_round t round' cursor')
  unfolding with_round
  round-alike round cursor round' cursor' e f a =
      record {
        groups = a.groups;
        homes = a.homes;
        head = a.head;
        start = a.start;
        settled = a.settled;
        fenced = a.fenced;
        durable = a.durable;
        last = a.last;
        promises = a.promises;
        round = e;
        cursor = f;
        rows = a.rows;
        filled = a.filled;
        commits = a.commits;
        tasks = a.tasks;
      }

  module _ {s t : Store} (a : StoreAlike hidden s t) where
    -- ---- settle, rounds and trim

    behind-alike : 7 * next_group s ≡ 7 * next_group t
    behind-alike = ap (λ (n : ℕ). 7 * n) (group-alike hidden a)

    settled-alike : StoreAlike hidden (numbered s s.start s.fenced (7 * next_group s) s.durable s.last s.promises s.book)
        (numbered t t.start t.fenced (7 * next_group t) t.durable t.last t.promises t.book)
    settled-alike =
        numbered-alike s.start s.fenced (7 * next_group s) s.durable s.last t.start t.fenced (7 * next_group t) t.durable t.last
        s.promises t.promises a.start a.fenced behind-alike a.durable a.last a.promises a (book-alike a)

    over-alike : StoreAlike hidden (round_over s) (round_over t)
    unfolding round_over
    over-alike =
        round-alike 0 0 0 0 refl refl
        (numbered-alike s.start (s.round - 1) (7 * next_group s) s.durable s.last t.start (t.round - 1) (7 * next_group t) t.durable t.last
        s.promises t.promises a.start (ap (λ (n : ℕ). n - 1) a.round) behind-alike a.durable a.last a.promises a (book-alike a))

    trimmed-alike : StoreAlike hidden (trimmed_to s (next_start s)) (trimmed_to t (next_start t))
    unfolding trimmed_to
    trimmed-alike =
        numbered-alike (next_start s) s.settled (7 * next_group s) s.durable (cond (leb s.last (7 * next_start s)) 0 s.last) (next_start t) t.settled
        (7 * next_group t) t.durable (cond (leb t.last (7 * next_start t)) 0 t.last) s.promises t.promises (start-alike hidden a) a.settled behind-alike
        a.durable (rw (start-alike hidden a, a.last)) a.promises a (book-alike a)

    service-alike : (c : Service) → StoreAlike hidden (after_service s c) (after_service t c)
    unfolding after_service
    service-alike (settles batch) = settled-alike
    service-alike round_begins = round-alike (s.fenced + 1) 0 (t.fenced + 1) 0 (ap (λ (n : ℕ). n + 1) a.fenced) refl a
    service-alike (round_steps homes batch) =
        either (leb (length (to_step s)) homes) (leb (length (to_step t)) homes) (rw (step-alike hidden a)) over-alike
        (round-alike s.round (get_or (to_step s) (homes - 1) 0 + 1) t.round (get_or (to_step t) (homes - 1) 0 + 1) a.round (rw (step-alike hidden a)) a)
    service-alike (trims batch) =
        either (eqb (next_start s) s.start) (eqb (next_start t) t.start) (rw (start-alike hidden a, a.start)) a trimmed-alike
    service-alike (reads writer home block) = a

    -- ---- calls that the book is fed

    fenced-alike : (c : Change) → fenced_after s c ≡ fenced_after t c
    unfolding fenced_after
    fenced-alike (begins v) = a.fenced
    fenced-alike (reserves v places) = a.fenced
    fenced-alike (aborts v) = a.fenced
    fenced-alike (stores v home block batch) = a.fenced
    fenced-alike (commits v batch) = a.fenced
    fenced-alike (flushes batch) = rw (first_alike hidden a, (flush-alike hidden (book-alike a)).rows)

    last-alike : (c : Change) (figure : ℕ) → last_after s.last c figure ≡ last_after t.last c figure
    last-alike c figure = ap (λ (n : ℕ). last_after n c figure) a.last

    set-alike : (p q : ℕ → ℕ) (v n m : ℕ) → n ≡ m → ((w : ℕ) → p w ≡ q w) → (w : ℕ) → set_for p v n w ≡ set_for q v m w
    unfolding set_for
    set-alike p q v n m e h w = rw (e, h w)

    store-promises : (v home w : ℕ)
        → cond (store_must_log (s.book.tasks v) home) (set_for s.promises v (s.promises v - 1)) s.promises w
        ≡ cond (store_must_log (t.book.tasks v) home) (set_for t.promises v (t.promises v - 1)) t.promises w
    store-promises v home w =
        go (store_must_log (s.book.tasks v) home) (store_must_log (t.book.tasks v) home) (store-logs-alike hidden home (a.tasks v))
      where
        go : (e f : Bool) → e ≡ f
            → cond e (set_for s.promises v (s.promises v - 1)) s.promises w ≡ cond f (set_for t.promises v (t.promises v - 1)) t.promises w
        go true true q = set-alike s.promises t.promises v (s.promises v - 1) (t.promises v - 1) (ap (λ (n : ℕ). n - 1) (a.promises v)) a.promises w
        go true false q = absurd (false≢true (sym q))
        go false true q = absurd (false≢true q)
        go false false q = a.promises w

    promises-alike : (c : Change) (w : ℕ) → promises_after s c w ≡ promises_after t c w
    unfolding promises_after
    promises-alike (begins v) w = a.promises w
    promises-alike (reserves v places) w = set-alike s.promises t.promises v places places refl a.promises w
    promises-alike (aborts v) w = set-alike s.promises t.promises v 0 0 refl a.promises w
    promises-alike (stores v home block batch) w = store-promises v home w
    promises-alike (commits v batch) w = set-alike s.promises t.promises v 0 0 refl a.promises w
    promises-alike (flushes batch) w = a.promises w

    fed-alike : {b d : Book} (c : Change) (figure : ℕ) → BookAlike hidden b d
        → StoreAlike hidden
        (numbered s s.start s.settled (fenced_after s c) s.durable (last_after s.last c figure) (promises_after s c) b)
        (numbered t t.start t.settled (fenced_after t c) t.durable (last_after t.last c figure) (promises_after t c) d)
    fed-alike c figure k =
        numbered-alike s.start s.settled (fenced_after s c) s.durable (last_after s.last c figure) t.start t.settled (fenced_after t c) t.durable
        (last_after t.last c figure) (promises_after s c) (promises_after t c) a.start a.settled (fenced-alike c) a.durable (last-alike c figure)
        (promises-alike c) a k

    -- ---- a call

    done-alike : {c e : Call} (figure : ℕ) → is_opening c ≡ false → CallAlike hidden c e → StoreAlike hidden (after_done s c figure) (after_done t e figure)
    unfolding after_done
    done-alike figure n (equal {c = opening state newest batch}) = absurd (false≢true (sym (unfold is_opening in n)))
    done-alike figure n (equal {c = confirm}) =
        numbered-alike s.start s.settled s.fenced figure s.last t.start t.settled t.fenced figure t.last s.promises t.promises
        a.start a.settled a.fenced refl a.last a.promises a (feed-alike hidden figure n (equal {c = confirm}) (book-alike a))
    done-alike figure n (equal {c = change c}) = fed-alike c figure (feed-alike hidden figure n (equal {c = change c}) (book-alike a))
    done-alike figure n (equal {c = service c}) = service-alike c
    done-alike figure n (stored {writer = v} {home = home} {a = x} {b = y} {batch = batch} h l) =
        unfold fenced_after last_after promises_after in
        numbered-alike s.start s.settled s.fenced s.durable s.last t.start t.settled t.fenced t.durable t.last
        (cond (store_must_log (s.book.tasks v) home) (set_for s.promises v (s.promises v - 1)) s.promises)
        (cond (store_must_log (t.book.tasks v) home) (set_for t.promises v (t.promises v - 1)) t.promises) a.start a.settled a.fenced a.durable a.last
        (store-promises v home) a
        (feed-alike hidden figure n (stored {writer = v} {home = home} {a = x} {b = y} {batch = batch} h l) (book-alike a))

    -- the two answers are one
    pub reply-keeps-alike : {c e : Call} (r : Reply) → is_opening c ≡ false → CallAlike hidden c e → StoreAlike hidden (after_reply s c r) (after_reply t e r)
    unfolding after_reply
    reply-keeps-alike r n k = either (eqb r.code 0) (eqb r.code 0) refl (done-alike r.figure n k) a

-- a store is like itself
module _ (hidden : ℕ → Bool) where
  entries-self : (es : List Entry) → Each (EntryAlike hidden) es es
  entries-self [] = both
  entries-self (e ∷ es) = more (record { home = refl; landing = refl; block = λ h. refl }) (entries-self es)

  commits-self : (cs : List Commit) → Each (CommitAlike hidden) cs cs
  commits-self [] = both
  commits-self (c ∷ cs) = more (record { entries = entries-self c.entries; ticket = refl; owed = refl }) (commits-self cs)

  task-self : (t : Task) → TaskAlike hidden t t
  task-self idle = idles
  task-self (opened es none) = empties (entries-self es)
  task-self (opened es (some h)) = holds (entries-self es) (record { home = refl; block = λ h. refl })

  pub store-self : (s : Store) → StoreAlike hidden s s
  store-self s =
      record {
        groups = refl;
        homes = refl;
        head = refl;
        start = refl;
        settled = refl;
        fenced = refl;
        durable = refl;
        last = refl;
        promises = λ w. refl;
        round = refl;
        cursor = refl;
        rows = refl;
        filled = refl;
        commits = commits-self s.book.commits;
        tasks = λ w. task-self (s.book.tasks w);
      }
