-- What store and read ask of the list of rights is what the book's committed list says, where the newest positions are true. Assumes nothing.
use Prim.Native.Nat.{ℕ, ◌+◌, ◌≤◌, ◌<◌}
use mathlib.Core.Path.{◌≡◌, refl, sym, ap, ◌∙◌, subst}
use mathlib.Core.List.{List, []}
use native.Mathlib.Decide.{dec_lt}
use native.Mathlib.Omega.{arith}
use Rattle.model.specs.Layout.{home_at}
use Rattle.model.specs.State.{list_home, listed_of, list_sign}
use Rattle.model.specs.Newest.{kept_for}
use Rattle.model.specs.Effects.{Given, homes, kept_position, shown}
use Rattle.model.specs.Rights.{for_home, shown_at, store_list, read_list, may_store, may_read, right_to_store, right_to_read, Faithful}
use Rattle.model.specs.Questions.{store_allowed, read_allowed}
use Rattle.model.specs.Book.{homes_after}
use Rattle.model.specs.History.{Change, begins, reserves, aborts, stores, commits, flushes, Service, settles, round_begins, round_steps, trims, reads, Call, opening, confirm, change, service, World, lent}
use Rattle.abstract_store.specs.Store.{Store, list_of}
use Rattle.model.specs.NewestTrue.{NewestTrue}
use Rattle.model_laws.proofs.state.RightLaws.{shown_by, list-by, list-part}
use Rattle.model_laws.proofs.state.SignLaws.{store-agrees, read-agrees, store-none, read_none}
use Rattle.theorems.proofs.invariant.Invariant.{Sizes, Running}
use Rattle.theorems.proofs.invariant.LiveLog.{lent-homes}
use Rattle.theorems.proofs.store.StoreAgrees.{Agrees}

-- store and read are asked for rights, and the answer is that of the abstract store's list
abbrev pub ChangeRights : World → Store → Change → Type 0
ChangeRights w s (begins v) = Unit {0}
ChangeRights w s (reserves v n) = Unit {0}
ChangeRights w s (aborts v) = Unit {0}
ChangeRights w s (stores v home block batch) = store_allowed (lent w block batch v home) ≡ may_store s.homes (list_of s) v home
ChangeRights w s (commits v batch) = Unit {0}
ChangeRights w s (flushes batch) = Unit {0}

abbrev pub ServiceRights : World → Store → Service → Type 0
ServiceRights w s (settles batch) = Unit {0}
ServiceRights w s round_begins = Unit {0}
ServiceRights w s (round_steps k batch) = Unit {0}
ServiceRights w s (trims batch) = Unit {0}
ServiceRights w s (reads v home block) = read_allowed (lent w block [] v home) ≡ may_read s.homes (list_of s) v home

abbrev pub RightsAt : World → Store → Call → Type 0
RightsAt w s (opening state newest batch) = Unit {0}
RightsAt w s confirm = Unit {0}
RightsAt w s (change c) = ChangeRights w s c
RightsAt w s (service c) = ServiceRights w s c

module _ (G D : ℕ) (z : Sizes G D) (w : World) (r : Running G D w) (s : Store) (a : Agrees G D w s) (k : NewestTrue w) (block batch : List ℕ) (v h : ℕ) where
  abbrev g : Given
  g = lent w block batch v h

  shown-kept : (home : ℕ) → shown_at (lent w [] [] 0 home) (kept_for w.newest home) ≡ shown (lent w [] [] 0 home)
  unfolding shown kept_position shown_at lent
  shown-kept home = refl

  -- each home of the list shows its newest committed block by the book
  block-is : list_home + 4 ≤ D → (i : ℕ) → i < 4
      → shown_at (for_home g (list_home + i)) (kept_for w.newest (list_home + i)) ≡ home_at (homes_after D w.book.commits) (list_home + i)
  unfolding for_home lent
  block-is m i l =
      let d : w.homes ≡ D = r.copies.homes in
      let q : shown (lent w [] [] 0 (list_home + i)) ≡ home_at (homes_after w.homes w.book.commits) (list_home + i) =
      k.blocks (list_home + i) (subst (λ (n : ℕ). list_home + i < n) (sym d) (omega arith)) in
      shown_by (lent w [] [] 0 (list_home + i)) w.newest block batch v (kept_for w.newest (list_home + i))
      ∙ shown-kept (list_home + i) ∙ q ∙ ap (λ (n : ℕ). home_at (homes_after n w.book.commits) (list_home + i)) d

  pub read-list : list_home + 4 ≤ D → read_list g ≡ list_of s
  unfolding read_list list_of lent
  read-list m =
      rw (a.homes, a.book) (list-part g (λ i. kept_for w.newest (list_home + i)) (homes_after D w.book.commits) 4 (block-is m))

  -- the state strip has the same four positions
  pub store-list : list_home + 4 ≤ D → store_list g ≡ list_of s
  unfolding store_list read_list lent
  store-list m =
      let d : list_home + 4 ≤ w.homes = subst (λ (n : ℕ). list_home + 4 ≤ n) (sym r.copies.homes) m in
      list-by g g (listed_of w.state) (λ i. kept_for w.newest (list_home + i)) 4
      (λ i l. ap (shown_at (for_home g (list_home + i))) (k.listed d i l)) ∙ read-list m

  homes-are : homes g ≡ s.homes
  homes-are = lent-homes G D r.b r.tr w z r.copies block batch v h ∙ sym a.homes

  -- the sign says nothing false of the abstract store's list
  sign-right : list_home + 4 ≤ D → Faithful (list_sign w.state) (list_of s)
  unfolding list_of
  sign-right m =
      rw (a.homes, a.book, ← r.copies.homes) (k.sign (subst (λ (n : ℕ). list_home + 4 ≤ n) (sym r.copies.homes) m))

  pub store-right : store_allowed g ≡ may_store s.homes (list_of s) v h
  unfolding store_allowed
  store-right = rw homes-are (unfold lent in go (dec_lt s.homes (list_home + 4)))
    where
      go : Dec (s.homes < list_home + 4) → right_to_store (list_sign w.state) s.homes (store_list g) v h ≡ may_store s.homes (list_of s) v h
      go (yes l) = store-none (list_sign w.state) s.homes (store_list g) (list_of s) v h l
      go (no l) =
          let m : list_home + 4 ≤ D = omega (arith, l, a.homes) in
          rw (store-list m) (store-agrees (list_sign w.state) (list_of s) (sign-right m) s.homes v h)

  pub read_right : read_allowed g ≡ may_read s.homes (list_of s) v h
  unfolding read_allowed
  read_right = rw homes-are (unfold lent in go (dec_lt s.homes (list_home + 4)))
    where
      go : Dec (s.homes < list_home + 4) → right_to_read (list_sign w.state) s.homes (read_list g) v h ≡ may_read s.homes (list_of s) v h
      go (yes l) = read_none (list_sign w.state) s.homes (read_list g) (list_of s) v h l
      go (no l) =
          let m : list_home + 4 ≤ D = omega (arith, l, a.homes) in
          rw (read-list m) (read-agrees (list_sign w.state) (list_of s) (sign-right m) s.homes v h)

module _ (G D : ℕ) (z : Sizes G D) (w : World) (r : Running G D w) (s : Store) (a : Agrees G D w s) (k : NewestTrue w) where
  change-rights : (c : Change) → ChangeRights w s c
  change-rights (begins v) = tt
  change-rights (reserves v n) = tt
  change-rights (aborts v) = tt
  change-rights (stores v home block batch) = store-right G D z w r s a k block batch v home
  change-rights (commits v batch) = tt
  change-rights (flushes batch) = tt

  service-rights : (c : Service) → ServiceRights w s c
  service-rights (settles batch) = tt
  service-rights round_begins = tt
  service-rights (round_steps n batch) = tt
  service-rights (trims batch) = tt
  service-rights (reads v home block) = read_right G D z w r s a k block [] v home

  pub rights-at : (c : Call) → RightsAt w s c
  rights-at (opening state newest batch) = tt
  rights-at confirm = tt
  rights-at (change c) = change-rights c
  rights-at (service c) = service-rights c
