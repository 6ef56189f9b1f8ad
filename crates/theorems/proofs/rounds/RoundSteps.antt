-- No call between a round's steps makes more homes remain. Assumes nothing.
use Prim.Native.Nat.{ℕ, zero, suc, ◌-◌, ◌*◌, ◌≤◌, ◌<◌}
use mathlib.Core.Path.{◌≡◌, refl, sym, ap, ◌∙◌}
use mathlib.Core.Logic.{◌⊎◌, inl, inr}
use mathlib.Core.Bool.{Bool, true, false, cond, ◌&&◌, ◌||◌, false≢true}
use mathlib.Core.List.{List, [], ◌∷◌, ◌++◌}
use mathlib.Core.Option.{none, some}
use native.Mathlib.Omega.{arith}
use lib.Dec.{leb, ltb, eqb}
use lib.ListN.{length, length-append}
use borrow.Author.Tests.{ltb-true, lt-ltb}
use Rattle.model.specs.Effects.{marked}
use Rattle.model.specs.Book.{Commit, Book, Task, idle, opened, commit_task, with_task, add_commit, filled_up, owed_by, with_commits, write_commits, homes_after}
use Rattle.model.specs.Book as book
use Rattle.model.specs.DemandTwo.{untrimmed, closed_below, held_entries}
use Rattle.model.specs.History.{Change, Service, trims, Call, opening, confirm, change, service, feed, feed_change}
use Rattle.abstract_store.specs.Store.{Store, wrote, any_wrote, to_step, next_start, numbered, trimmed_to, after_service, after_done}
use Rattle.abstract_store.specs.Rounds.{may_come, TicketAbove, StepsShrink}
use Rattle.theorems.proofs.steps.TrimLaws.{largest-from}
use Rattle.theorems.proofs.invariant.GrowLaws.{closed-snoc}
use Rattle.theorems.proofs.steps.HeldLogs.{filled-commits}
use Rattle.theorems.proofs.steps.Footprint.{committed, log_start, rounds, Touch, committed-commit, start-trim, round-begin, round-step, Spares, frame, Steady, steady}

marked-fewer : (p q : ℕ → Bool) (n : ℕ) → ((h : ℕ) → p h ≡ true → q h ≡ true) → length (marked p n) ≤ length (marked q n)
unfolding marked
marked-fewer p q zero f = omega arith
marked-fewer p q (suc n) f = go (p n) (q n) (f n) (marked-fewer p q n f)
  where
    go : (a b : Bool) → (a ≡ true → b ≡ true) → length (marked p n) ≤ length (marked q n)
        → length (marked p n ++ cond a (n ∷ []) []) ≤ length (marked q n ++ cond b (n ∷ []) [])
    go false b g i =
        rw (length-append (marked p n) [], length-append (marked q n) (cond b (n ∷ []) [])) (omega (arith, i))
    go true b g i =
        rw (g refl, length-append (marked p n) (n ∷ []), length-append (marked q n) (n ∷ [])) (omega (arith, i))

or_left : (a b : Bool) → a ≡ true → (a || b) ≡ true
or_left true b e = refl
or_left false b e = absurd (false≢true e)

or_cases : (a b c : Bool) → (a ≡ true → c ≡ true) → (a || b) ≡ true → (c || b) ≡ true
or_cases true b c f e = or_left c b (f refl)
or_cases false true true f e = refl
or_cases false true false f e = refl
or_cases false false c f e = absurd (false≢true e)

wrote-fewer : (h x y : ℕ) (cs : List Commit) → x ≤ y → any_wrote h (untrimmed y cs) ≡ true → any_wrote h (untrimmed x cs) ≡ true
unfolding untrimmed any_wrote
wrote-fewer h x y [] l e = e
wrote-fewer h x y (c ∷ cs) l e = go (ltb y c.ticket) (ltb x c.ticket) refl refl e (wrote-fewer h x y cs l)
  where
    go : (a b : Bool) → ltb y c.ticket ≡ a → ltb x c.ticket ≡ b
        → any_wrote h (cond a (held_entries c.entries ∷ untrimmed y cs) (untrimmed y cs)) ≡ true
        → (any_wrote h (untrimmed y cs) ≡ true → any_wrote h (untrimmed x cs) ≡ true)
        → any_wrote h (cond b (held_entries c.entries ∷ untrimmed x cs) (untrimmed x cs)) ≡ true
    go true true p q e f = or_cases (any_wrote h (untrimmed y cs)) (wrote h (held_entries c.entries)) (any_wrote h (untrimmed x cs)) f e
    go true false p q e f = absurd (false≢true (sym q ∙ lt-ltb x c.ticket (omega (arith, ltb-true y c.ticket p))))
    go false true p q e f = or_left (any_wrote h (untrimmed x cs)) (wrote h (held_entries c.entries)) (f e)
    go false false p q e f = f e

-- a confirm owes commits and changes no other
owed_same : (mark bound x : ℕ) (cs : List Commit) → untrimmed x (closed_below bound (owed_by mark cs)) ≡ untrimmed x (closed_below bound cs)
unfolding untrimmed closed_below owed_by
owed_same mark bound x [] = refl
owed_same mark bound x (c ∷ cs) = go (leb c.ticket bound) (owed_same mark bound x cs)
  where
    go : (d : Bool) → untrimmed x (closed_below bound (owed_by mark cs)) ≡ untrimmed x (closed_below bound cs)
        → untrimmed x (cond d (record { entries = c.entries; ticket = c.ticket; owed = c.owed || (leb 1 c.ticket && leb c.ticket mark) } ∷ closed_below bound (owed_by mark cs)) (closed_below bound (owed_by mark cs)))
        ≡ untrimmed x (cond d (c ∷ closed_below bound cs) (closed_below bound cs))
    go true i = rw i
    go false i = i

-- a commit whose ticket lies above the bound
commit-same : (b : Book) (v bound figure : ℕ) (t : Task) → bound < figure → closed_below bound (commit_task b v figure t).commits ≡ closed_below bound b.commits
unfolding commit_task with_task add_commit
commit-same b v bound figure idle l = refl
commit-same b v bound figure (opened es none) l = refl
commit-same b v bound figure (opened es (some h)) l =
    closed-snoc bound (filled_up b).commits _ l ∙ ap (closed_below bound) (filled-commits b)

change-same : (b : Book) (c : Change) (bound figure : ℕ) → ((feed_change b c figure).commits ≡ b.commits) ⊎ (bound < figure)
    → closed_below bound (feed_change b c figure).commits ≡ closed_below bound b.commits
unfolding feed feed_change book.commit
change-same b c bound figure a = go c a (frame committed (change c))
  where
    go : (c : Change) → ((feed_change b c figure).commits ≡ b.commits) ⊎ (bound < figure) → Touch committed (change c) ⊎ Spares committed (change c)
        → closed_below bound (feed_change b c figure).commits ≡ closed_below bound b.commits
    go c (inl e) q = ap (closed_below bound) e
    go c (inr l) (inl (committed-commit v batch)) = commit-same b v bound figure (b.tasks v) l
    go c (inr l) (inr f) = ap (closed_below bound) (f b figure)

-- the homes hang on no flag that a confirm sets
writes-same : (mark bound : ℕ) (cs : List Commit) (A : List ℕ) → write_commits (closed_below bound (owed_by mark cs)) A ≡ write_commits (closed_below bound cs) A
unfolding write_commits closed_below owed_by
writes-same mark bound [] A = refl
writes-same mark bound (c ∷ cs) A = go (leb c.ticket bound) (writes-same mark bound cs)
  where
    go : (d : Bool) → ((A : List ℕ) → write_commits (closed_below bound (owed_by mark cs)) A ≡ write_commits (closed_below bound cs) A)
        → write_commits (cond d (record { entries = c.entries; ticket = c.ticket; owed = c.owed || (leb 1 c.ticket && leb c.ticket mark) } ∷ closed_below bound (owed_by mark cs)) (closed_below bound (owed_by mark cs))) A
        ≡ write_commits (cond d (c ∷ closed_below bound cs) (closed_below bound cs)) A
    go true i = i _
    go false i = i A

pub homes_same : (D : ℕ) (s : Store) (c : Call) (figure : ℕ) → 1 ≤ s.round → may_come c ≡ true → TicketAbove s c figure
    → homes_after D (closed_below (s.round - 1) (feed s.book c figure).commits) ≡ homes_after D (closed_below (s.round - 1) s.book.commits)
unfolding may_come feed
homes_same D s (opening state newest batch) figure one m a = absurd (false≢true m)
homes_same D s confirm figure one m a = unfold homes_after with_commits in writes-same figure (s.round - 1) s.book.commits _
homes_same D s (change c) figure one m a = ap (homes_after D) (change-same s.book c (s.round - 1) figure (above a))
  where
    above : ((feed_change s.book c figure).commits ≡ s.book.commits) ⊎ (s.round ≤ figure)
        → ((feed_change s.book c figure).commits ≡ s.book.commits) ⊎ (s.round - 1 < figure)
    above (inl e) = inl e
    above (inr l) = inr (omega arith)
homes_same D s (service c) figure one m a = refl

module _ (s : Store) (one : 1 ≤ s.round) where
  shrinks : (start : ℕ) (cs : List Commit) → s.start ≤ start
      → untrimmed (7 * start) (closed_below (s.round - 1) cs) ≡ untrimmed (7 * start) (closed_below (s.round - 1) s.book.commits)
      → length (marked (λ h. leb s.cursor h && any_wrote h (untrimmed (7 * start) (closed_below (s.round - 1) cs))) s.homes) ≤ length (to_step s)
  unfolding to_step
  shrinks start cs l e =
      rw e
      (marked-fewer _ _ s.homes
      (λ h. go (leb s.cursor h) _ _ (wrote-fewer h (7 * s.start) (7 * start) (closed_below (s.round - 1) s.book.commits) (omega arith))))
    where
      go : (a b c : Bool) → (b ≡ true → c ≡ true) → (a && b) ≡ true → (a && c) ≡ true
      go true b c f q = f q
      go false b c f q = q

  trim-shrinks : (batch : List ℕ) → length (to_step (after_service s (trims batch))) ≤ length (to_step s)
  unfolding after_service numbered
  trim-shrinks batch = go (eqb (next_start s) s.start)
    where
      go : (d : Bool) → length (to_step (cond d s (trimmed_to s (next_start s)))) ≤ length (to_step s)
      go true = omega arith
      go false = unfold to_step trimmed_to next_start in unfold to_step in shrinks (next_start s) s.book.commits (unfold next_start in largest-from _ s.start _) refl

  same-steps : (t : Store) → (t.round ≡ s.round) × (t.cursor ≡ s.cursor) → t.start ≡ s.start → t.homes ≡ s.homes → t.book ≡ s.book
      → length (to_step t) ≤ length (to_step s)
  unfolding to_step
  same-steps t r e h b = rw (r.0, r.1, e, h, b) (omega arith)

  service-shrinks : (c : Service) (figure : ℕ) → may_come (service c) ≡ true → length (to_step (after_done s (service c) figure)) ≤ length (to_step s)
  unfolding may_come feed
  service-shrinks c figure m = go c m (frame rounds (service c)) (frame log_start (service c)) (steady s (service c) figure)
    where
      go : (c : Service) → may_come (service c) ≡ true → Touch rounds (service c) ⊎ Spares rounds (service c)
          → Touch log_start (service c) ⊎ Spares log_start (service c) → Steady s (service c) figure
          → length (to_step (after_done s (service c) figure)) ≤ length (to_step s)
      go c m (inl round-begin) k q = absurd (false≢true m)
      go c m (inl (round-step n batch)) k q = absurd (false≢true m)
      go c m (inr f) (inl (start-trim batch)) q = unfold after_done in trim-shrinks batch
      go c m (inr f) (inr k) q = same-steps (after_done s (service c) figure) (f s figure) (k s figure) q.homes q.book

pub steps-shrink : StepsShrink
unfolding may_come after_done numbered feed
steps-shrink s (opening state newest batch) figure one m a = absurd (false≢true m)
steps-shrink s confirm figure one m a =
    unfold to_step with_commits in shrinks s one s.start (owed_by figure s.book.commits) (omega arith) (owed_same figure (s.round - 1) (7 * s.start) s.book.commits)
steps-shrink s (change c) figure one m a =
    unfold to_step in shrinks s one s.start (feed_change s.book c figure).commits (omega arith)
    (ap (untrimmed (7 * s.start)) (change-same s.book c (s.round - 1) figure (above a)))
  where
    above : ((feed_change s.book c figure).commits ≡ s.book.commits) ⊎ (s.round ≤ figure)
        → ((feed_change s.book c figure).commits ≡ s.book.commits) ⊎ (s.round - 1 < figure)
    above (inl e) = inl e
    above (inr l) = inr (omega arith)
steps-shrink s (service c) figure one m a = service-shrinks s one c figure m
