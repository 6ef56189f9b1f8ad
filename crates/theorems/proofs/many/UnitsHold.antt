-- The shared lemma: what the homes of a unit hold, for every front of the book's list, and what a done fetch or revise of them gives. Assumes nothing.
use Prim.Native.Nat.{ℕ, zero, suc, ◌+◌, ◌-◌, ◌*◌, ◌/◌, ◌≤◌, ◌<◌}
use mathlib.Core.Path.{◌≡◌, refl, sym, ap, ◌∙◌}
use mathlib.Core.Logic.{inl, inr}
use mathlib.Core.Bool.{true, false}
use mathlib.Core.List.{List, [], ◌∷◌}
use mathlib.Core.Option.{Option, none, some}
use native.Mathlib.Omega.{arith}
use lib.Dec.{eqb}
use lib.ListN.{length, take, replicate, length-replicate, replicate-append-replicate}
use lib.Seq.{take_at, drop_at, take_all}
use borrow.Author.Tests.{ne_eqb}
use Rattle.model.specs.Bytes.{part, zeros}
use Rattle.model.specs.Layout.{home_at}
use Rattle.model.specs.Book.{Entry, Commit, Held, Task, idle, opened, Book, homes_after, newest_entry, held_or, own_or, read_by}
use Rattle.model.specs.DemandTwo.{held_entries}
use Rattle.model.specs.Calls.{Outcome}
use Rattle.model.specs.History.{Call, Event, call, crash, World, unopened, after_format, ends, after_done, after_refused, after_call, after_crash, step}
use Rattle.abstract_store.specs.Store.{new_store}
use Rattle.acts.specs.Units.{Act, plain, transacts, fetches, revises, left_under, act, acted, reads_from, ReadTogether, Label, last_unit, labels, labels_from, Apart, UnitKept, UnitsKept}
use Rattle.model_laws.proofs.bytes.ByteLaws.{length-zeros, length_part, part-within}
use Rattle.theorems.proofs.many.UnitBooks.{commits-length, Outside, Fit, fit_length, fit-take, labels-say}
use Rattle.theorems.proofs.many.UnitSteps.{HeldOutside, TaskOutside, Labelled, acts-labelled, empty-labelled}
use Rattle.theorems.proofs.store.Reached.{begins}
use Rattle.theorems.proofs.rights.ListRights.{joined, joined-part}
use Rattle.theorems.proofs.many.ActsHold.{acts-somewhere}
use Rattle.theorems.proofs.many.FetchReads.{read_at}

-- a part of zeros is zeros
zeros-between : (at n rest : ℕ) → part (zeros (at + (n + rest))) at n ≡ zeros n
unfolding part zeros
zeros-between at n rest =
    rw (
      ← replicate-append-replicate {A = ℕ} at (n + rest) 0,
      drop_at {A = ℕ} (replicate at 0) (replicate (n + rest) 0) at (length-replicate {A = ℕ} at 0),
      ← replicate-append-replicate {A = ℕ} n rest 0,
      take_at {A = ℕ} (replicate n 0) (replicate rest 0) n (length-replicate {A = ℕ} n 0),
    )

part-zeros : (size at n : ℕ) → at + n ≤ size → part (zeros size) at n ≡ zeros n
part-zeros size at n l =
    let e : size ≡ at + (n + (size - (at + n))) = omega arith in
    ap (λ (k : ℕ). part (zeros k) at n) e ∙ zeros-between at n (size - (at + n))

homes-length : (D : ℕ) (cs : List Commit) → length (homes_after D cs) ≡ 64 * D
unfolding homes_after
homes-length D cs = commits-length cs (zeros (64 * D)) ∙ length-zeros (64 * D)

-- no act changes the number of homes
call-homes : (w : World) (c : Call) (o : Outcome) (code : ℕ) → (after_call w c o code).homes ≡ w.homes
unfolding after_call after_done after_refused
call-homes w c o zero = refl
call-homes w c o (suc k) = refl

event-homes : (w : World) (e : Event) → (step w e).homes ≡ w.homes
unfolding step after_crash
event-homes w (call c) = call-homes w c (ends w c) (ends w c).code
event-homes w (crash passed chosen) = refl

pub act-homes : (w : World) (a : Act) → (act w a).homes ≡ w.homes
unfolding act left_under
act-homes w (plain e) = event-homes w e
act-homes w (transacts v h blocks batch) = refl
act-homes w (fetches v h blocks) = refl
act-homes w (revises v h blocks) = refl

pub acts-homes : (acts : List Act) (w : World) → (acted w acts).homes ≡ w.homes
unfolding acted
acts-homes [] w = refl
acts-homes (a ∷ more) w = acts-homes more (act w a) ∙ act-homes w a

-- ---- a writer's own open transaction has none of the homes

module _ (home n x : ℕ) (low : home ≤ x) (high : x < home + n) where
  other-home : (h : ℕ) → Apart home n h 1 → eqb h x ≡ false
  other-home h (inl a) = ne_eqb h x (λ e. omega arith)
  other-home h (inr a) = ne_eqb h x (λ e. omega arith)

  logged_none : (es : List Entry) (other : List ℕ) → Outside home n (held_entries es) → newest_entry x es other ≡ other
  unfolding newest_entry held_entries
  logged_none [] other o = refl
  logged_none (e ∷ es) other o = rw (other-home e.home o.1) (logged_none es other o.2)

  held_none : (h : Option Held) (other : List ℕ) → HeldOutside home n h → held_or x h other ≡ other
  unfolding held_or
  held_none none other o = refl
  held_none (some h) other o = rw (other-home h.home o.1)

  own-none : (t : Task) (other : List ℕ) → TaskOutside home n t → own_or x t other ≡ other
  unfolding own_or
  own-none idle other o = refl
  own-none (opened es held) other o = held_none held (newest_entry x es other) o.1 ∙ logged_none es other o.0

reads-joined : (home n D : ℕ) (b : Book) (v first m : ℕ) → first + m ≤ n → TaskOutside home n (b.tasks v)
    → reads_from D b v (home + first) m ≡ joined (homes_after D b.commits) (home + first) m
unfolding reads_from joined read_by
reads-joined home n D b v first zero l o = refl
reads-joined home n D b v first (suc m) l o =
    rw (
      reads-joined home n D b v first m (omega arith) o,
      own-none home n (home + first + m) (omega arith) (omega arith) (b.tasks v) (home_at (homes_after D b.commits) (home + first + m)) o,
    )

-- ---- a world and its labels

module _ (home n : ℕ) (w : World) (ls : List Label) (fits : home + n ≤ w.homes) (k : Labelled home n w.book ls) where
  held-so : (cs : List Commit) (ms : List Label) → Fit home n cs ms
      → part (homes_after w.homes cs) (64 * home) (64 * n) ≡ last_unit home (zeros (64 * n)) ms
  unfolding homes_after
  held-so cs ms f =
      labels-say home n w.homes cs ms (zeros (64 * w.homes)) fits (length-zeros (64 * w.homes)) f
      ∙ ap (λ (b : List ℕ). last_unit home b ms) (part-zeros (64 * w.homes) (64 * home) (64 * n) (omega arith))

  part-so : (v first m : ℕ) (blocks : List ℕ) → first + m ≤ n → length blocks ≡ 64 * m
      → reads_from w.homes w.book v (home + first) (length blocks / 64) ≡ part (last_unit home (zeros (64 * n)) ls) (64 * first) (64 * m)
  part-so v first m blocks l e =
      let q : length blocks / 64 ≡ m = rw e (omega arith) in
      let area : List ℕ = homes_after w.homes w.book.commits in
      let at : 64 * (home + first) ≡ 64 * home + 64 * first = omega arith in
      rw q
      (reads-joined home n w.homes w.book v first m l (k.tasks v) ∙ joined-part area (home + first) m ∙ ap (λ (x : ℕ). part area x (64 * m)) at
      ∙ sym (part-within area (64 * home) (64 * n) (64 * first) (64 * m) (omega arith))
      ∙ ap (λ (x : List ℕ). part x (64 * first) (64 * m)) (held-so w.book.commits ls k.fit))

  whole_part : (x : List ℕ) → length x ≡ 64 * n → part x (64 * 0) (64 * n) ≡ x
  unfolding part
  whole_part x e = take_all (64 * n) x (omega (arith, e))

  last-length : length (last_unit home (zeros (64 * n)) ls) ≡ 64 * n
  last-length =
      ap length (sym (held-so w.book.commits ls k.fit))
      ∙ length_part (homes_after w.homes w.book.commits) (64 * home) (64 * n) (omega (arith, homes-length w.homes w.book.commits))

  read-so : (v : ℕ) (blocks : List ℕ) → length blocks ≡ 64 * n
      → reads_from w.homes w.book v home (length blocks / 64) ≡ last_unit home (zeros (64 * n)) ls
  read-so v blocks e =
      let q : home + 0 ≡ home = omega arith in
      ap (λ (h : ℕ). reads_from w.homes w.book v h (length blocks / 64)) (sym q) ∙ part-so v 0 n blocks (omega arith) e
      ∙ whole_part (last_unit home (zeros (64 * n)) ls) last-length

  pub unit_kept : (w.ready ≡ true → (v h : ℕ) (blocks : List ℕ) → ReadTogether w v h blocks) → UnitKept home n w ls
  unit_kept reads =
      record {
        many = fit_length home n w.book.commits ls k.fit;
        held = λ j. held-so (take j w.book.commits) (take j ls) (fit-take home n j w.book.commits ls k.fit);
        fetched = λ v blocks ready e z. (reads ready v home blocks).fetched z ∙ read-so v blocks e;
        partly = λ v first m blocks ready l e z. (reads ready v (home + first) blocks).fetched z ∙ part-so v first m blocks l e;
        revised = λ v blocks ready e z. (reads ready v home blocks).revised z ∙ read-so v blocks e;
      }

-- ---- every history

pub units-kept : UnitsKept
unfolding labels
units-kept home n groups homes p d f acts a s =
    let w : World = after_format f in
    let k : Labelled home n (acted w acts).book (labels_from w [] acts) =
    acts-labelled home n acts w [] p (unfold after_format unopened in empty-labelled home n) s in
    let q : w.homes ≡ homes = (unfold after_format unopened in refl) in
    let fits : home + n ≤ (acted w acts).homes = omega (arith, acts-homes acts w, q) in
    unit_kept home n (acted w acts) (labels_from w [] acts) fits k (read_at (acted w acts) (acts-somewhere acts w (new_store groups homes, begins f) a))
