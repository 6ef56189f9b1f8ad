-- What fetch, revise and transact answer at a moment at which the strip agrees with the abstract store. Assumes nothing.
use Prim.Native.Nat.{ℕ, zero, suc, ◌+◌, ◌*◌, ◌/◌, ◌≤◌, ◌<◌}
use mathlib.Core.Path.{◌≡◌, refl, sym, ap, ◌∙◌}
use mathlib.Core.Bool.{Bool, true, false, not, ◌&&◌}
use mathlib.Core.List.{List, []}
use native.Mathlib.Omega.{arith}
use lib.Dec.{eqb, leb, ltb}
use lib.ListN.{length}
use borrow.Author.Tests.{eq-eqb, eqb-true, leb-true, ltb-true}
use Rattle.model.specs.Layout.{group_count, home_count}
use Rattle.model.specs.Batch.{batch_bytes}
use Rattle.model.specs.State.{places, free_places}
use Rattle.model.specs.Effects.{Given, groups, homes}
use Rattle.model.specs.Questions.{ask, areas_right, state_right, newest_right, state_in_order, writer_known, writer_open, batch_fits}
use Rattle.model.specs.Calls.{size_of}
use Rattle.model.specs.History.{World, lent}
use Rattle.abstract_store.specs.Store.{Store, next_of, free_left, is_idle, ask_batch, reply_of}
use Rattle.abstract_store.proofs.ReplyLaws.{answers, ask-same}
use Rattle.model_laws.proofs.bytes.LayoutLaws.{groups-in, homes_in, log-length-right, data-length-right}
use Rattle.model_laws.proofs.state.OrderLaws.{InOrder, in_order}
use Rattle.model_laws.proofs.state.QuestionLaws.{ask-passed, and-true}
use Rattle.acts.specs.Many.{blocks_lent, fetch_effect, transact_effect, blocks_right, homes_known, all_of, may_store_all, may_read_all, room_for_all, ask_homes, fetch_answer, revise_answer, transact_answer, fetch_call, revise_call, transact_call}
use Rattle.acts.specs.Units.{fetch_ends, revise_ends, transact_ends}
use Rattle.acts.specs.Steps.{Several}
use Rattle.acts.specs.Replies.{many_blocks, whole_blocks, every_home, may_store_each, may_read_each, ask_named, ask_blocks, transact_bytes, ask_entries, reply_fetch, reply_revise, reply_transact, Agreeing, AgreeingAnswer}
use Rattle.acts.proofs.TransactedLaws.{bytes-are, ticket_is}

-- ---- a test of all homes, from the first on and up to the last

and_assoc : (a b c : Bool) → ((a && b) && c) ≡ (a && (b && c))
and_assoc true b c = refl
and_assoc false b c = refl

and-end : (a : Bool) → (a && true) ≡ a
and-end true = refl
and-end false = refl

every-last : (test : ℕ → Bool) (home n : ℕ) → every_home test home (suc n) ≡ (every_home test home n && test (home + n))
unfolding every_home
every-last test home zero = let e : home + 0 ≡ home = omega arith in and-end (test home) ∙ ap test (sym e)
every-last test home (suc n) =
    let e : home + 1 + n ≡ home + suc n = omega arith in
    ap (λ (b : Bool). test home && b) (every-last test (home + 1) n) ∙ sym (and_assoc (test home) (every_home test (home + 1) n) (test (home + 1 + n)))
    ∙ ap (λ (x : ℕ). (test home && every_home test (home + 1) n) && test x) e

every-all : (f test : ℕ → Bool) (home n : ℕ) → ((x : ℕ) → f x ≡ test x) → all_of f home n ≡ every_home test home n
unfolding all_of
every-all f test home zero same = unfold every_home in refl
every-all f test home (suc n) same =
    rw (every-all f test home n same, same (home + n)) (sym (every-last test home n))

-- ---- what the three calls ask

module _ (w : World) (s : Store) (a : Agreeing w s) (v h : ℕ) (blocks batch : List ℕ) where
  abbrev g : Given
  g = lent w blocks batch v h

  abbrev n : ℕ
  n = many_blocks blocks

  homes-are : homes (lent w blocks batch v h) ≡ s.homes
  unfolding lent
  homes-are = ap home_count a.area ∙ homes_in s.homes

  groups-are : groups (lent w blocks batch v h) ≡ s.groups
  unfolding lent
  groups-are = ap group_count a.log ∙ groups-in s.groups

  areas-right : areas_right (lent w blocks batch v h) ≡ true
  unfolding areas_right lent
  areas-right =
      rw (a.log, a.area, (log-length-right s.groups a.groups_least a.groups_most).1, (data-length-right s.homes a.homes_least a.homes_most).1)

  state-right : state_right (lent w blocks batch v h) ≡ true
  unfolding state_right lent
  state-right = rw a.state

  newest-right : newest_right (lent w blocks batch v h) ≡ true
  unfolding newest_right
  newest-right = rw homes-are (unfold lent in eq-eqb (length w.newest) (8 * s.homes) a.newest)

  order-right : state_in_order (lent w blocks batch v h) ≡ true
  unfolding state_in_order
  order-right = rw (groups-are, homes-are) (unfold lent in a.order)

  blocks-right : blocks_right (lent w blocks batch v h) ≡ whole_blocks blocks
  unfolding blocks_right blocks_lent whole_blocks many_blocks lent
  blocks-right = refl

  homes-known : homes_known (lent w blocks batch v h) ≡ leb (h + many_blocks blocks) s.homes
  unfolding homes_known
  homes-known = rw homes-are (unfold blocks_lent many_blocks lent in refl)

  known_is : writer_known (lent w blocks batch v h) ≡ ltb v 8
  unfolding writer_known lent
  known_is = refl

  pub asked : (next : ℕ) → ask_homes (lent w blocks batch v h) next ≡ ask_blocks s v h blocks next
  unfolding ask_homes ask_blocks ask_named
  asked next =
      rw (areas-right, state-right, newest-right, order-right, blocks-right, known_is, homes-known) (unfold ask in refl)

  may-store : may_store_all (lent w blocks batch v h) ≡ may_store_each s v h (many_blocks blocks)
  unfolding may_store_all may_store_each blocks_lent many_blocks lent
  may-store = every-all _ _ h (length blocks / 64) (λ x. unfold lent in a.stores blocks batch v h x)

  may_read : may_read_all (lent w blocks batch v h) ≡ may_read_each s v h (many_blocks blocks)
  unfolding may_read_all may_read_each blocks_lent many_blocks lent
  may_read = every-all _ _ h (length blocks / 64) (λ x. unfold lent in a.reads blocks batch v h x)

  -- what follows question 5 is asked of whole blocks, a known writer and known homes
  asked-same : (x y : ℕ) → (whole_blocks blocks ≡ true → v < 8 → h + many_blocks blocks ≤ s.homes → x ≡ y) → ask_blocks s v h blocks x ≡ ask_blocks s v h blocks y
  unfolding ask_blocks ask_named
  asked-same x y f =
      ask-same (whole_blocks blocks) 1 _ _ (λ p.
      ask-same (ltb v 8) 4 _ _ (λ q.
      ask-same (leb (h + many_blocks blocks) s.homes) 5 x y (λ r. f p (ltb-true v 8 q) (leb-true (h + many_blocks blocks) s.homes r))))

  -- ---- transact's size and ticket

  in_use : InOrder w.state s.groups s.homes
  in_use = in_order w.state s.groups s.homes a.order

  several : whole_blocks blocks ≡ true → v < 8 → h + many_blocks blocks ≤ s.homes → leb (many_blocks blocks) (free_left s) ≡ true
      → Several w.log w.state blocks v h (length blocks / 64)
  unfolding whole_blocks many_blocks free_places places
  several p l q f =
      let o = in_use in
      let b = and-true (eqb (length blocks) (64 * (length blocks / 64)) && leb 1 (length blocks / 64)) (leb (length blocks / 64) 7) p in
      let d = and-true (eqb (length blocks) (64 * (length blocks / 64))) (leb 1 (length blocks / 64)) b.0 in
      let some : 1 ≤ length blocks / 64 = leb-true 1 (length blocks / 64) d.1 in
      let free : length blocks / 64 ≤ free_left s = leb-true (length blocks / 64) (free_left s) f in
      record {
        state_fits = a.state;
        writer = l;
        some = omega (arith, o.groups-same, a.groups_least);
        few = omega (arith, o.groups-same, a.groups_most);
        known = omega (arith, o.homes_same, a.homes_most);
        log = omega (arith, o.groups-same, a.log);
        high = o.start-most;
        low = o.start-next;
        filled = o.filled-most;
        last = o.last-closing;
        homes = omega (arith, q, a.homes_most);
        blocks = eqb-true (length blocks) (64 * (length blocks / 64)) d.0;
        least = some;
        most = leb-true (length blocks / 64) 7 b.1;
        room = omega (arith, free, a.free, some);
      }

  module _ (c : Several w.log w.state blocks v h (length blocks / 64)) where
    size_is : size_of (transact_effect (lent w blocks batch v h)) ≡ transact_bytes s (many_blocks blocks)
    unfolding transact_bytes many_blocks
    size_is = rw (← a.filled) (unfold lent in bytes-are (lent w blocks batch v h) c)

    ticket : (transact_effect (lent w blocks batch v h)).figure ≡ next_of s + many_blocks blocks
    unfolding many_blocks
    ticket = rw (← a.next) (unfold lent in ticket_is (lent w blocks batch v h) c)

  -- ---- the replies

  none_written : size_of (fetch_effect (lent w blocks [] v h)) ≡ 0
  unfolding size_of fetch_effect batch_bytes
  none_written = refl

  no-figure : (fetch_effect (lent w blocks [] v h)).figure ≡ 0
  unfolding fetch_effect
  no-figure = refl

  idle-is : v < 8 → not (writer_open (lent w blocks batch v h)) ≡ is_idle (s.book.tasks v)
  unfolding writer_open lent
  idle-is l = a.writers v l

  room-is : room_for_all (lent w blocks batch v h) ≡ leb (many_blocks blocks) (free_left s)
  unfolding room_for_all blocks_lent many_blocks lent
  room-is = rw a.free

  fits-is : (size : ℕ) → ask (batch_fits (lent w blocks batch v h) size) 9 0 ≡ ask_batch size batch
  unfolding batch_fits ask_batch lent
  fits-is size = refl

  entries-same : whole_blocks blocks ≡ true → v < 8 → h + many_blocks blocks ≤ s.homes
      → ask (not (writer_open (lent w blocks batch v h))) 6
      (ask (room_for_all (lent w blocks batch v h)) 8
      (ask (batch_fits (lent w blocks batch v h) (size_of (transact_effect (lent w blocks batch v h)))) 9 0))
      ≡ ask_entries s v (many_blocks blocks) batch
  unfolding ask_entries
  entries-same p l q =
      rw (idle-is l, room-is, fits-is (size_of (transact_effect (lent w blocks batch v h))))
      (ask-same (is_idle (s.book.tasks v)) 6 _ _ (λ i.
      ask-same (leb (many_blocks blocks) (free_left s)) 8 _ _ (λ f. ap (λ (x : ℕ). ask_batch x batch) (size_is (several p l q f)))))

  transact-number : transact_answer (lent w blocks batch v h) (size_of (transact_effect (lent w blocks batch v h)))
      ≡ ask_blocks s v h blocks (ask (may_store_each s v h (many_blocks blocks)) 19 (ask_entries s v (many_blocks blocks) batch))
  unfolding transact_answer
  transact-number =
      asked _ ∙ asked-same _ _ (λ p l q. rw may-store (ap (λ (x : ℕ). ask (may_store_each s v h (many_blocks blocks)) 19 x) (entries-same p l q)))

  -- what a number of 0 says
  passed : ask_blocks s v h blocks (ask (may_store_each s v h (many_blocks blocks)) 19 (ask_entries s v (many_blocks blocks) batch)) ≡ 0
      → Several w.log w.state blocks v h (length blocks / 64)
  unfolding ask_blocks ask_named ask_entries
  passed e =
      let i = ask-passed (whole_blocks blocks) 0 _ e in
      let j = ask-passed (ltb v 8) 3 _ i.1 in
      let k = ask-passed (leb (h + many_blocks blocks) s.homes) 4 _ j.1 in
      let l = ask-passed (may_store_each s v h (many_blocks blocks)) 18 _ k.1 in
      let m = ask-passed (is_idle (s.book.tasks v)) 5 _ l.1 in
      let o = ask-passed (leb (many_blocks blocks) (free_left s)) 7 _ m.1 in
      several i.0 (ltb-true v 8 j.0) (leb-true (h + many_blocks blocks) s.homes k.0) o.0

  transact-replies : reply_of (transact_ends w v h blocks batch) ≡ reply_transact s v h blocks batch
  unfolding transact_ends transact_call reply_transact
  transact-replies =
      answers (lent w blocks batch v h) _ (transact_effect (lent w blocks batch v h)) _ _ _ transact-number
      (λ e. (ticket (passed e), size_is (passed e)))

module _ (w : World) (s : Store) (a : Agreeing w s) (v h : ℕ) (blocks : List ℕ) where
  fetch-replies : reply_of (fetch_ends w v h blocks) ≡ reply_fetch s v h blocks
  unfolding fetch_ends fetch_call fetch_answer reply_fetch
  fetch-replies =
      answers (lent w blocks [] v h) _ (fetch_effect (lent w blocks [] v h)) _ 0 0
      (asked w s a v h blocks [] _ ∙ rw (may_read w s a v h blocks [])) (λ e. (no-figure w s a v h blocks [], none_written w s a v h blocks []))

  revise-replies : reply_of (revise_ends w v h blocks) ≡ reply_revise s v h blocks
  unfolding revise_ends revise_call revise_answer reply_revise
  revise-replies =
      answers (lent w blocks [] v h) _ (fetch_effect (lent w blocks [] v h)) _ 0 0
      (asked w s a v h blocks [] _ ∙ rw (may-store w s a v h blocks [], may_read w s a v h blocks []))
      (λ e. (no-figure w s a v h blocks [], none_written w s a v h blocks []))

pub agreeing-answer : AgreeingAnswer
agreeing-answer w s a v h blocks batch =
    record {
      fetch = fetch-replies w s a v h blocks;
      revise = revise-replies w s a v h blocks;
      transact = transact-replies w s a v h blocks batch;
    }
