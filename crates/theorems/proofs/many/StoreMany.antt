-- The abstract store along a transact: each of its calls is done. Assumes nothing.
use Prim.Native.Nat.{ℕ, zero, suc, ◌+◌, ◌-◌, ◌*◌, ◌≤◌, ◌<◌}
use mathlib.Core.Path.{◌≡◌, refl, sym, ap, ◌∙◌}
use mathlib.Core.Bool.{Bool, true, false, cond, not, ◌&&◌, ◌||◌}
use mathlib.Core.List.{List}
use native.Mathlib.Omega.{arith}
use lib.Dec.{eqb, leb, ltb}
use lib.ListN.{length}
use borrow.Author.Tests.{eqb-true, leb-true, eq-eqb, ne_eqb, le-leb, lt-ltb}
use Rattle.model.specs.Bytes.{part, zeros}
use Rattle.model.specs.Rights.{may_store}
use Rattle.model.specs.Book.{Task, Book, with_task, filled_up, submit, grown, store_task}
use Rattle.model.specs.Book as book
use Rattle.model.specs.History.{begin, reserve, store, commit, feed, feed_change}
use Rattle.abstract_store.specs.Store.{Store, group_of_first, next_group, next_of, places_left, promised_to, free_left, has_room_left, entry_bytes, is_idle, store_must_log, commit_must_log, list_of, told, ask_batch, reply_change, reply, set_for, promises_after, numbered}
use Rattle.abstract_store.specs.Store as abstract
use Rattle.acts.specs.Units.{roomy, feed_stores}
use Rattle.model_laws.proofs.bytes.ByteLaws.{length-zeros}
use Rattle.model_laws.proofs.state.QuestionLaws.{ask-yes, ask-passed, and-true}
use Rattle.theorems.proofs.many.TransactBooks.{Chained, chained-store, chained}

-- ---- a reply's number

pub told-code : (a f s : ℕ) → (told a f s).code ≡ a
unfolding told
told-code zero f s = refl
told-code (suc k) f s = refl

batch-asked : (size : ℕ) → size ≤ 516 → ask_batch size roomy ≡ 0
unfolding ask_batch roomy
batch-asked size l = ask-yes (leb size (length (zeros 516))) 9 0 (le-leb size (length (zeros 516)) (omega (arith, length-zeros 516)))

entry-size : (s : Store) (logs : Bool) → cond logs (entry_bytes s) 0 ≤ 516
unfolding entry_bytes
entry-size s logs = go logs (eqb s.book.filled 6)
  where
    go : (a b : Bool) → cond a (cond b 516 0) 0 ≤ 516
    go true true = omega arith
    go true false = omega arith
    go false b = omega arith

or-true : (a b : Bool) → b ≡ true → (a || b) ≡ true
or-true true b e = refl
or-true false b e = e

-- ---- promises and places

fewer : (p : ℕ → ℕ) (v x : ℕ) → set_for p v (p v - 1) x ≤ p x
unfolding set_for
fewer p v x = go (eqb v x) refl
  where
    go : (d : Bool) → eqb v x ≡ d → cond d (p v - 1) (p x) ≤ p x
    go true e = let q : p v ≡ p x = ap p (eqb-true v x e) in omega arith
    go false e = omega arith

fewer-promised : (p : ℕ → ℕ) (v n : ℕ) → promised_to (set_for p v (p v - 1)) n ≤ promised_to p n
unfolding promised_to
fewer-promised p v zero = omega arith
fewer-promised p v (suc n) = omega (arith, fewer-promised p v n, fewer p v n)

filled_next : (b : Book) (x : ℕ) → 7 * (x + (filled_up b).rows) + (filled_up b).filled ≡ 7 * (x + b.rows) + b.filled + 1
unfolding filled_up submit grown
filled_next b x = go (eqb b.filled 6) refl
  where
    go : (d : Bool) → eqb b.filled 6 ≡ d
        → 7 * (x + (cond d (submit b) (grown b)).rows) + (cond d (submit b) (grown b)).filled ≡ 7 * (x + b.rows) + b.filled + 1
    go true e = let q : b.filled ≡ 6 = eqb-true b.filled 6 e in omega arith
    go false e = omega arith

-- ---- along the chain

-- room for the entries still to come once k stores are done: each of them but the last has logged one
abbrev pub Room : Store → ℕ → ℕ → Type 0
Room s n zero = promised_to s.promises 8 + n ≤ places_left s
Room s n (suc k) = promised_to s.promises 8 + n ≤ places_left s + k

pub record Along (s₀ s : Store) (v h : ℕ) (blocks : List ℕ) (n k : ℕ) : Type 0 where
  pub homes : s.homes ≡ s₀.homes
  pub book : Chained s₀.book s.book v h blocks k
  pub room : Room s n k

module _ (s₀ s : Store) (v h : ℕ) (blocks : List ℕ) (n : ℕ) where
  list_same : (k : ℕ) → Along s₀ s v h blocks n k → list_of s ≡ list_of s₀
  unfolding list_of
  list_same k a = rw (a.homes, a.book.commits)

  has_room : (k : ℕ) → Along s₀ s v h blocks n (suc k) → k < n → has_room_left s v ≡ true
  unfolding has_room_left
  has_room k a l = or-true (leb 1 (s.promises v)) (ltb (promised_to s.promises 8) (places_left s)) (lt-ltb (promised_to s.promises 8) (places_left s) (let r = a.room in omega arith))

  is_open : (k : ℕ) → Along s₀ s v h blocks n k → not (is_idle (s.book.tasks v)) ≡ true
  unfolding is_idle
  is_open k a = rw a.book.task

  -- whether the store after k stores logs, and that there is room if it does
  store-room : (k : ℕ) → Along s₀ s v h blocks n k → k < n → (not (store_must_log (s.book.tasks v) (h + k)) || has_room_left s v) ≡ true
  store-room zero a l = unfold store_must_log in rw a.book.task
  store-room (suc k) a l = or-true (not (store_must_log (s.book.tasks v) (h + suc k))) (has_room_left s v) (has_room k a (omega arith))

  pub store-replies : (k : ℕ) → Along s₀ s v h blocks n k → k < n → v < 8 → h + k < s₀.homes → length (part blocks (64 * k) 64) ≡ 64
      → may_store s₀.homes (list_of s₀) v (h + k) ≡ true → (reply s (store v (h + k) (part blocks (64 * k) 64) roomy)).code ≡ 0
  unfolding reply reply_change
  store-replies k a l lv lh lb m =
      let logs : Bool = store_must_log (s.book.tasks v) (h + k) in
      let homes : s.homes ≡ s₀.homes = a.homes in
      let e : may_store s.homes (list_of s) v (h + k) ≡ true = ap (λ (d : ℕ). may_store d (list_of s) v (h + k)) homes ∙ ap (λ (x : List ℕ). may_store s₀.homes x v (h + k)) (list_same k a) ∙ m in
      told-code _ _ _ ∙ ask-yes (eqb (length (part blocks (64 * k) 64)) 64) 1 _ (eq-eqb _ 64 lb) ∙ ask-yes (ltb v 8) 4 _ (lt-ltb v 8 lv)
      ∙ ask-yes (ltb (h + k) s.homes) 5 _ (lt-ltb (h + k) s.homes (omega arith)) ∙ ask-yes (may_store s.homes (list_of s) v (h + k)) 19 _ e
      ∙ ask-yes (not (is_idle (s.book.tasks v))) 7 _ (is_open k a) ∙ ask-yes (not logs || has_room_left s v) 8 _ (store-room k a l)
      ∙ batch-asked (cond logs (entry_bytes s) 0) (entry-size s logs)

  pub commit-replies : (k : ℕ) → Along s₀ s v h blocks n (suc k) → k < n → v < 8 → (reply s (commit v roomy)).code ≡ 0
  unfolding reply reply_change
  commit-replies k a l lv =
      let logs : Bool = commit_must_log (s.book.tasks v) in
      told-code _ _ _ ∙ ask-yes (ltb v 8) 4 _ (lt-ltb v 8 lv) ∙ ask-yes (not (is_idle (s.book.tasks v))) 7 _ (is_open (suc k) a)
      ∙ ask-yes (not logs || has_room_left s v) 8 _ (or-true (not logs) (has_room_left s v) (has_room k a l)) ∙ batch-asked (cond logs (entry_bytes s) 0) (entry-size s logs)

  -- one store more
  room_after : (k : ℕ) (t : Task) → t ≡ s.book.tasks v → Along s₀ s v h blocks n k → k < n → (fenced last : ℕ)
      → Room (numbered s s.start s.settled fenced s.durable last (cond (store_must_log t (h + k)) (set_for s.promises v (s.promises v - 1)) s.promises)
      (store_task s.book v (h + k) (part blocks (64 * k) 64) t)) n (suc k)
  unfolding places_left next_of next_group group_of_first numbered store_must_log store_task with_task
  room_after zero t e a l fenced last = let r = a.room in rw (e ∙ a.book.task) (omega arith)
  room_after (suc k) t e a l fenced last =
      let r = a.room in
      rw (e ∙ a.book.task, ne_eqb (h + k) (h + suc k) (λ q. omega arith))
      (omega (arith, fewer-promised s.promises v 8, filled_next s.book (s.head + s.groups)))

  pub store-along : (k figure : ℕ) → Along s₀ s v h blocks n k → k < n
      → Along s₀ (abstract.after_done s (store v (h + k) (part blocks (64 * k) 64) roomy) figure) v h blocks n (suc k)
  unfolding abstract.after_done feed feed_change book.store promises_after
  store-along k figure a l =
      record {
        homes = (unfold numbered in a.homes);
        book = (unfold numbered in chained-store s₀.book s.book v h blocks k a.book);
        room = room_after k (s.book.tasks v) refl a l _ _;
      }

-- a done reserve says how many places are free, and a begin leaves them
pub reserved-room : (s : Store) (v n : ℕ) → (reply s (reserve v n)).code ≡ 0 → Room s n zero
unfolding reply reply_change free_left
reserved-room s v n e =
    let a = ask-passed (ltb v 8) 3 _ (sym (told-code _ _ _) ∙ e) in
    let b = ask-passed (is_idle (s.book.tasks v)) 5 _ a.1 in
    let c = ask-passed (leb 1 n && leb n (places_left s - promised_to s.promises 8)) 16 0 b.1 in
    let d = and-true (leb 1 n) (leb n (places_left s - promised_to s.promises 8)) c.0 in
    omega (arith, leb-true 1 n d.0, leb-true n (places_left s - promised_to s.promises 8) d.1)

pub begin-along : (s : Store) (v h : ℕ) (blocks : List ℕ) (n figure : ℕ) → Room s n zero → Along s (abstract.after_done s (begin v) figure) v h blocks n 0
unfolding abstract.after_done feed feed_change promises_after numbered book.begin
begin-along s v h blocks n figure r =
    record {
      homes = refl;
      book = (unfold feed_stores in chained s.book v h blocks 0);
      room = (unfold places_left next_of next_group group_of_first with_task in r);
    }
