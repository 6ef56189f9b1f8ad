-- The abstract store agrees with the world: numbers, promises and book; so where the log stands, and what every call asks first. Assumes nothing.
use Prim.Native.Nat.{ℕ, zero, suc, ◌+◌, ◌-◌, ◌*◌, ◌<◌}
use mathlib.Core.Path.{◌≡◌, refl, sym, ap, ◌∙◌}
use mathlib.Core.Logic.{inl, inr}
use mathlib.Core.Bool.{Bool, true, false, cond, not, ◌&&◌, ◌||◌}
use mathlib.Core.List.{List, [], ◌∷◌}
use native.Mathlib.Omega.{arith}
use lib.Dec.{eqb, leb, ltb}
use lib.ListN.{length, length-append}
use borrow.Author.Tests.{eq-eqb}
use Rattle.model.specs.Layout.{group_count, home_count, header_start}
use Rattle.model.specs.Batch.{GW, record_bytes, batch_bytes}
use Rattle.model.specs.State.{state_of, next_position, promise_of, promised, places, is_open_now, holds}
use Rattle.model.specs.declared.State.{State}
use Rattle.model.specs.declared.Writer.{Writer}
use Rattle.model.specs.Effects.{Effect, groups, homes}
use Rattle.model.specs.Questions.{ask, areas_right, state_right, block_right, state_in_order, is_home_known, writer_open, room_for, room, store_logs, commit_logs, ask_state, ask_block, newest_right, ask_newest, ask_both}
use Rattle.model.specs.Calls.{size_of}
use Rattle.model.specs.Book.{Task, Book}
use Rattle.model.specs.History.{World, lent}
use Rattle.abstract_store.specs.Store.{Store, group_of_first, next_group, next_of, places_left, promised_to, has_room_left, is_idle, store_must_log, commit_must_log, found_in_memory}
use Rattle.model_laws.proofs.bytes.LayoutLaws.{groups-in, homes_in, log-length-right, data-length-right}
use Rattle.model_laws.proofs.state.BatchLaws.{length-GW}
use Rattle.model_laws.proofs.state.OrderLaws.{InOrder, order-in}
use Rattle.model_laws.proofs.trace.Trace.{Ev}
use Rattle.theorems.proofs.invariant.Invariant.{Sizes, TaskOk, Running}

-- the strip's numbers are the abstract store's
pub record Numbers (s : Store) (st : State) : Type 0 where
  pub start : s.start ≡ st.start
  pub settled : s.settled ≡ st.settled
  pub fenced : s.fenced ≡ st.fenced
  pub durable : s.durable ≡ st.durable
  pub last : s.last ≡ st.last
  pub round : s.round ≡ st.round
  pub cursor : s.cursor ≡ st.cursor

-- the abstract store agrees with the world
pub record Agrees (G D : ℕ) (w : World) (s : Store) : Type 0 where
  pub groups : s.groups ≡ G
  pub homes : s.homes ≡ D
  pub head : s.head ≡ header_start w.memory.log
  pub found : found_in_memory G D w.memory ≡ s.back
  pub book : s.book ≡ w.book
  pub numbers : w.ready ≡ true → Numbers s (state_of w.state)
  pub newest : w.ready ≡ true → length w.newest ≡ 8 * D
  pub promises : w.ready ≡ true → (v : ℕ) → v < 8 → s.promises v ≡ promise_of w.state v

-- the promises together
promised-same : (p : ℕ → ℕ) (state_fits : List ℕ) (n : ℕ) → ((v : ℕ) → v < n → p v ≡ promise_of state_fits v) → promised_to p n ≡ promised state_fits n
unfolding promised_to promised
promised-same p state_fits zero f = refl
promised-same p state_fits (suc n) f = rw (promised-same p state_fits n (λ v l. f v (omega arith)), f n (omega arith))

-- ---- a writer's record and the book's task

open-task : (b : ℕ) (tr : List Ev) (r : Writer) (held ps : List ℕ) (t : Task) → TaskOk b tr r held ps t → is_open_now r ≡ not (is_idle t)
unfolding is_open_now is_idle
open-task b tr r held ps t (inl h) = rw (h.0, h.1)
open-task b tr r held ps t (inr (inl h)) = rw (h.0, h.1)
open-task b tr r held ps t (inr (inr (inl h))) = rw (h.0, h.1)
open-task b tr r held ps t (inr (inr (inr h))) = rw (h.0, h.1)

holds-task : (b : ℕ) (tr : List Ev) (r : Writer) (held ps : List ℕ) (t : Task) → TaskOk b tr r held ps t → holds r ≡ commit_must_log t
unfolding holds commit_must_log
holds-task b tr r held ps t (inl h) = rw (h.0, h.1)
holds-task b tr r held ps t (inr (inl h)) = rw (h.0, h.1)
holds-task b tr r held ps t (inr (inr (inl h))) = rw (h.0, h.1)
holds-task b tr r held ps t (inr (inr (inr h))) = rw (h.0, h.1)

logs-task : (b : ℕ) (tr : List Ev) (r : Writer) (held ps : List ℕ) (t : Task) (home : ℕ) → TaskOk b tr r held ps t
    → (holds r && not (eqb r.home home)) ≡ store_must_log t home
unfolding holds store_must_log
logs-task b tr r held ps t home (inl h) = rw (h.0, h.1)
logs-task b tr r held ps t home (inr (inl h)) = rw (h.0, h.1)
logs-task b tr r held ps t home (inr (inr (inl h))) = rw (h.0, h.1)
logs-task b tr r held ps t home (inr (inr (inr h))) = rw (h.0, h.1)

-- ---- the bytes of a call's records

pub size_none : (e : Effect) → e.records ≡ [] → size_of e ≡ 0
unfolding size_of batch_bytes
size_none e h = rw h

-- a group write, where there is one
pub size-group : (b : Bool) (slot : ℕ) (group : List ℕ) → length group ≡ 512 → length (batch_bytes (cond b (GW slot group ∷ []) [])) ≡ cond b 516 0
unfolding batch_bytes
size-group true slot group l = length-append (record_bytes (GW slot group)) [] ∙ omega (arith, length-GW slot group l)
size-group false slot group l = refl

module _ (G D : ℕ) (z : Sizes G D) (w : World) (r : Running G D w) (s : Store) (a : Agrees G D w s) where
  abbrev st : State
  st = state_of w.state

  abbrev o : InOrder w.state G D
  o = r.copies.order

  abbrev n : Numbers s (state_of w.state)
  n = a.numbers r.ready

  -- ---- where the log stands

  pub first-is : group_of_first s ≡ r.b
  unfolding group_of_first
  first-is = omega (arith, a.groups, a.head, r.since)

  pub next-is : next_group s ≡ st.next
  unfolding next_group
  next-is =
      let q : s.book.rows ≡ w.book.rows = ap (λ (b : Book). b.rows) a.book in
      omega (arith, first-is, q, r.copies.rows, r.submitted.low, r.submitted.next)

  pub filled_is : s.book.filled ≡ st.filled
  filled_is = ap (λ (b : Book). b.filled) a.book ∙ r.copies.filled

  pub position-is : next_of s ≡ next_position st
  unfolding next_of next_position
  position-is = omega (arith, next-is, filled_is)

  task-is : (v : ℕ) → s.book.tasks v ≡ w.book.tasks v
  task-is v = ap (λ (b : Book). b.tasks v) a.book

  -- ---- what every call asks first

  pub areas-right : (block batch : List ℕ) (v h : ℕ) → areas_right (lent w block batch v h) ≡ true
  unfolding areas_right lent
  areas-right block batch v h =
      rw (r.copies.log_size, r.copies.area_size, (log-length-right G z.low z.high).1, (data-length-right D z.some-home z.homes).1)

  pub state-right : (block batch : List ℕ) (v h : ℕ) → state_right (lent w block batch v h) ≡ true
  unfolding state_right lent
  state-right block batch v h = rw r.copies.state_size

  lent-groups : (block batch : List ℕ) (v h : ℕ) → groups (lent w block batch v h) ≡ G
  unfolding lent
  lent-groups block batch v h = ap group_count r.copies.log_size ∙ groups-in G

  pub lent-homes : (block batch : List ℕ) (v h : ℕ) → homes (lent w block batch v h) ≡ D
  unfolding lent
  lent-homes block batch v h = ap home_count r.copies.area_size ∙ homes_in D

  pub state-ordered : (block batch : List ℕ) (v h : ℕ) → state_in_order (lent w block batch v h) ≡ true
  unfolding state_in_order
  state-ordered block batch v h = rw (lent-groups block batch v h, lent-homes block batch v h) (unfold lent in order-in w.state G D o)

  pub asked : (block batch : List ℕ) (v h k : ℕ) → ask_state (lent w block batch v h) k ≡ k
  unfolding ask_state ask
  asked block batch v h k = rw (areas-right block batch v h, state-right block batch v h, state-ordered block batch v h)

  pub newest-right : (block batch : List ℕ) (v h : ℕ) → newest_right (lent w block batch v h) ≡ true
  unfolding newest_right
  newest-right block batch v h =
      rw (lent-homes block batch v h) (unfold lent in eq-eqb (length w.newest) (8 * D) (a.newest r.ready))

  pub asked-newest : (block batch : List ℕ) (v h k : ℕ) → ask_newest (lent w block batch v h) k ≡ k
  unfolding ask_newest ask
  asked-newest block batch v h k =
      rw (areas-right block batch v h, state-right block batch v h, newest-right block batch v h, state-ordered block batch v h)

  pub asked-both : (block batch : List ℕ) (v h k : ℕ) → ask_both (lent w block batch v h) k ≡ ask (eqb (length block) 64) 1 k
  unfolding ask_both
  asked-both block batch v h k =
      rw (areas-right block batch v h, state-right block batch v h, newest-right block batch v h, state-ordered block batch v h)
      (unfold block_right lent ask in refl)

  pub asked-block : (block batch : List ℕ) (v h k : ℕ) → ask_block (lent w block batch v h) k ≡ ask (eqb (length block) 64) 1 k
  unfolding ask_block
  asked-block block batch v h k =
      rw (areas-right block batch v h, state-right block batch v h, state-ordered block batch v h) (unfold block_right lent ask in refl)

  -- ---- writers

  pub open_is : (block batch : List ℕ) (v h : ℕ) → v < 8 → writer_open (lent w block batch v h) ≡ not (is_idle (s.book.tasks v))
  unfolding writer_open lent
  open_is block batch v h l = rw (task-is v) (open-task r.b r.tr _ _ _ _ (r.copies.tasks v l))

  pub store-logs : (block batch : List ℕ) (v h : ℕ) → v < 8 → store_logs (lent w block batch v h) ≡ store_must_log (s.book.tasks v) h
  unfolding store_logs lent
  store-logs block batch v h l = rw (task-is v) (logs-task r.b r.tr _ _ _ _ h (r.copies.tasks v l))

  pub commit-logs : (block batch : List ℕ) (v h : ℕ) → v < 8 → commit_logs (lent w block batch v h) ≡ commit_must_log (s.book.tasks v)
  unfolding commit_logs lent
  commit-logs block batch v h l = rw (task-is v) (holds-task r.b r.tr _ _ _ _ (r.copies.tasks v l))

  pub promised-is : promised_to s.promises 8 ≡ promised w.state 8
  promised-is = promised-same s.promises w.state 8 (a.promises r.ready)

  pub places-are : places_left s ≡ places st
  unfolding places_left places
  places-are =
      ap (λ (x : ℕ). 7 * x - next_of s) (ap (λ (x : ℕ). x + s.groups) n.start ∙ ap (λ (x : ℕ). st.start + x) (a.groups ∙ sym o.groups-same))
      ∙ ap (λ (x : ℕ). 7 * (st.start + st.groups) - x) position-is

  pub room-is : (block batch : List ℕ) (v h : ℕ) → v < 8 → room (lent w block batch v h) ≡ has_room_left s v
  unfolding room room_for has_room_left lent
  room-is block batch v h l =
      ap (λ (x : ℕ). leb 1 x || ltb (promised w.state 8) (places st)) (sym (a.promises r.ready v l))
      ∙ ap (λ (x : ℕ). leb 1 (s.promises v) || ltb x (places st)) (sym promised-is)
      ∙ ap (λ (x : ℕ). leb 1 (s.promises v) || ltb (promised_to s.promises 8) x) (sym places-are)

  pub home-is : (block batch : List ℕ) (v h : ℕ) → is_home_known (lent w block batch v h) ≡ ltb h s.homes
  unfolding is_home_known
  home-is block batch v h = rw (lent-homes block batch v h, a.homes) (unfold lent in refl)

  pub double-not : (b : Bool) → not (not b) ≡ b
  double-not true = refl
  double-not false = refl
