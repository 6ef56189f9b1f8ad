-- What the calls on several homes are asked, by the abstract store that agrees with the world: all but the batch length of a transact. Assumes nothing.
use Prim.Native.Nat.{ℕ, zero, suc, ◌+◌, ◌*◌, ◌/◌, ◌<◌}
use mathlib.Core.Path.{◌≡◌, refl, ap, ◌∙◌}
use mathlib.Core.Bool.{Bool, not, ◌&&◌}
use mathlib.Core.List.{List}
use lib.Dec.{eqb, leb, ltb}
use lib.ListN.{length}
use borrow.Author.Tests.{ltb-true}
use Rattle.model.specs.State.{list_sign}
use Rattle.model.specs.Effects.{Given, homes}
use Rattle.model.specs.Rights.{may_store, may_read, right_to_store, right_to_read, read_list}
use Rattle.model.specs.Questions.{ask, writer_open, batch_fits}
use Rattle.model.specs.History.{World, lent}
use Rattle.model.specs.NewestTrue.{NewestTrue}
use Rattle.acts.specs.Many.{blocks_lent, all_of, may_store_all, may_read_all, room_for_all, ask_homes, fetch_answer, revise_answer, transact_answer}
use Rattle.acts.specs.Replies.{many_blocks, whole_blocks, ask_named, ask_blocks, Agreeing}
use Rattle.acts.proofs.RepliesHold.{asked}
use Rattle.abstract_store.specs.Store.{Store, free_left, is_idle, list_of, ask_batch}
use Rattle.theorems.proofs.invariant.Invariant.{Sizes, Running}
use Rattle.theorems.proofs.store.StoreAgrees.{Agrees}
use Rattle.theorems.proofs.store.StoreLaws.{ask-same}
use Rattle.theorems.proofs.many.ActsAnswerHolds.{agreeing}

-- whole blocks, from one to seven
abbrev pub few_blocks : List ℕ → Bool
few_blocks blocks = eqb (length blocks) (64 * (length blocks / 64)) && leb 1 (length blocks / 64) && leb (length blocks / 64) 7

-- the questions of all calls on several homes, and those of a transact but for 9
abbrev pub asked_first : Store → ℕ → ℕ → List ℕ → ℕ → ℕ
asked_first s v h blocks next = ask (few_blocks blocks) 1 (ask (ltb v 8) 4 (ask (leb (h + length blocks / 64) s.homes) 5 next))

abbrev pub stores_all : Store → ℕ → ℕ → List ℕ → Bool
stores_all s v h blocks = all_of (may_store s.homes (list_of s) v) h (length blocks / 64)

abbrev pub reads_all : Store → ℕ → ℕ → List ℕ → Bool
reads_all s v h blocks = all_of (may_read s.homes (list_of s) v) h (length blocks / 64)

abbrev pub asked_transact : Store → ℕ → ℕ → List ℕ → ℕ → ℕ
asked_transact s v h blocks next =
    asked_first s v h blocks
    (ask (stores_all s v h blocks) 19 (ask (is_idle (s.book.tasks v)) 6 (ask (leb (length blocks / 64) (free_left s)) 8 next)))

pub all_same : (f g : ℕ → Bool) (h n : ℕ) → ((x : ℕ) → f x ≡ g x) → all_of f h n ≡ all_of g h n
unfolding all_of
all_same f g h zero e = refl
all_same f g h (suc n) e = rw (all_same f g h n e, e (h + n))

module _ (G D : ℕ) (z : Sizes G D) (w : World) (r : Running G D w) (s : Store) (a : Agrees G D w s) (k : NewestTrue w) (v h : ℕ) (blocks batch : List ℕ) where
  abbrev g : Given
  g = lent w blocks batch v h

  abbrev p : Agreeing w s
  p = agreeing G D z w r s a k

  homes-asked : (next : ℕ) → ask_homes g next ≡ asked_first s v h blocks next
  homes-asked next = unfold ask_blocks ask_named whole_blocks many_blocks in asked w s p v h blocks batch next

  stores-asked : may_store_all g ≡ stores_all s v h blocks
  unfolding may_store_all blocks_lent lent
  stores-asked =
      all_same (right_to_store (list_sign w.state) (homes g) (read_list g) v) (may_store s.homes (list_of s) v) h (length blocks / 64) (p.stores blocks batch v h)

  reads-asked : may_read_all g ≡ reads_all s v h blocks
  unfolding may_read_all blocks_lent lent
  reads-asked =
      all_same (right_to_read (list_sign w.state) (homes g) (read_list g) v) (may_read s.homes (list_of s) v) h (length blocks / 64) (p.reads blocks batch v h)

  idle-asked : v < 8 → not (writer_open g) ≡ is_idle (s.book.tasks v)
  unfolding writer_open lent
  idle-asked l = p.writers v l

  room-asked : room_for_all g ≡ leb (length blocks / 64) (free_left s)
  unfolding room_for_all blocks_lent lent
  room-asked = rw p.free

  pub fetch-asked : fetch_answer g ≡ asked_first s v h blocks (ask (reads_all s v h blocks) 20 0)
  unfolding fetch_answer
  fetch-asked = homes-asked _ ∙ rw reads-asked

  pub revise-asked : revise_answer g ≡ asked_first s v h blocks (ask (stores_all s v h blocks) 19 (ask (reads_all s v h blocks) 20 0))
  unfolding revise_answer
  revise-asked = homes-asked _ ∙ rw (stores-asked, reads-asked)

  pub transact-asked : (size : ℕ) → transact_answer g size ≡ asked_transact s v h blocks (ask_batch size batch)
  unfolding transact_answer batch_fits ask_batch
  transact-asked size =
      homes-asked _
      ∙ ap (λ (x : ℕ). ask (few_blocks blocks) 1 x)
      (ask-same (ltb v 8) 4 _ _ (λ l. rw (stores-asked, idle-asked (ltb-true v 8 l), room-asked) (unfold lent in refl)))
