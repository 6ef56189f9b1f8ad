-- A done transact is its begin, stores and commit, one after the other: all of them are done, and they leave the world that it leaves. Assumes nothing.
use Prim.Native.Nat.{ℕ, zero, suc, ◌+◌, ◌*◌, ◌/◌, ◌≤◌, ◌<◌}
use mathlib.Core.Path.{◌≡◌, refl, sym, ap, ◌∙◌, subst}
use mathlib.Core.Bool.{true, false, cond, not, ◌&&◌}
use mathlib.Core.List.{List, [], ◌∷◌}
use native.Mathlib.Omega.{arith}
use lib.Dec.{eqb}
use lib.ListN.{length, take}
use borrow.Author.Tests.{le-leb, ltb-true}
use Rattle.model.specs.Bytes.{part}
use Rattle.model.specs.Batch.{batch_bytes, read_batch}
use Rattle.model.specs.State.{list_sign}
use Rattle.model.specs.Effects.{Given, Effect, homes, new_state, begin_effect, reserve_effect, store_effect, commit_effect}
use Rattle.model.specs.Rights.{may_store, right_to_store, read_list}
use Rattle.model.specs.Questions.{ask, areas_right, state_right, state_in_order, writer_known, writer_open, may_promise, ask_state, begin_answer, reserve_answer, batch_fits}
use Rattle.model.specs.Calls.{Outcome, done, outcome, size_of, begin_call, reserve_call}
use Rattle.acts.specs.Many.{blocks_lent, lent_on, and_then, stored_first, transact_effect, may_store_all, room_for_all, transact_answer, transact_call}
use Rattle.model.specs.Book.{Book}
use Rattle.model.specs.History.{Call, begin, reserve, store, commit, call, World, lent, ends, change_ends, feed, feed_change, is_opening, is_confirm, step, after as played, Allowed, AllAllowed}
use Rattle.abstract_store.specs.Store.{Store, list_of, follow}
use Rattle.abstract_store.specs.Store as abstract
use Rattle.acts.specs.Units.{transacts, transact_ends, feed_stores, feed_transact, left_under, act, roomy, stores_from, chain}
use Rattle.model_laws.proofs.bytes.ByteLaws.{length_part}
use Rattle.model_laws.proofs.state.BatchLaws.{AllFormed, formed-append}
use Rattle.model_laws.proofs.state.QuestionLaws.{ask-yes}
use Rattle.acts.proofs.ManyLaws.{each_of, TransactReady, transact-ready}
use Rattle.theorems.proofs.steps.DoneLaws.{outcome-code, outcome-done, records-read, step-done}
use Rattle.theorems.proofs.store.Reached.{Reached, after-append, allowed-append, goes_on, call-code, kept_then, same-book, same-homes}
use Rattle.theorems.proofs.many.StoreMany.{Along, store-replies, commit-replies, store-along, reserved-room, begin-along}
use Rattle.theorems.proofs.rights.ListRights.{lent-homes, rights-same}
use Rattle.model_laws.proofs.state.LoggingLaws.{fits}
use Rattle.theorems.proofs.many.ChainCalls.{stepped, follow-done, one-played, left-done, done-size, store-steps, store-formed-on, commit-steps, commit-formed-on, store-sized, commit-sized, sizes, sizes-append, one_size, size-then}

-- a transact is told as its calls are: its bytes are theirs together, its figure is its commit's
pub record ChainTold (w : World) (v h : ℕ) (blocks : List ℕ) (e : Effect) : Type 0 where
  pub stores : AllAllowed w (stores_from v h blocks (length blocks / 64))
  pub ready : (played w (stores_from v h blocks (length blocks / 64))).ready ≡ true
  pub size : size_of e ≡ sizes w (stores_from v h blocks (length blocks / 64)) + (ends (played w (stores_from v h blocks (length blocks / 64))) (commit v roomy)).size
  pub figure : e.figure ≡ (ends (played w (stores_from v h blocks (length blocks / 64))) (commit v roomy)).figure

-- ---- the chain

module _ (w : World) (s : Store) (r : Reached w s) (ready : w.ready ≡ true) (v h : ℕ) (blocks batch : List ℕ) (size : ℕ)
    (t : TransactReady (lent w blocks batch v h) size) where
  abbrev g : Given
  g = lent w blocks batch v h

  abbrev n : ℕ
  n = length blocks / 64

  whole : length blocks ≡ 64 * n
  whole = unfold blocks_lent lent in t.lent.whole

  known : v < 8
  unfolding writer_known lent
  known = ltb-true v 8 t.lent.writer

  allowed-call : (c : Call) → is_opening c ≡ false → is_opening c ≡ not w.ready
  allowed-call c e = e ∙ ap not (sym ready)

  in_use : (next : ℕ) → ask_state (lent w [] [] v 0) next ≡ next
  unfolding ask_state areas_right state_right state_in_order lent
  in_use next =
      ask-yes (areas_right g && state_right g) 1 _ (rw (t.lent.areas, t.lent.state_fits)) ∙ ask-yes (state_in_order g) 2 next t.lent.order

  known-now : writer_known (lent w [] [] v 0) ≡ true
  unfolding writer_known lent
  known-now = t.lent.writer

  idle-now : not (writer_open (lent w [] [] v 0)) ≡ true
  unfolding writer_open lent
  idle-now = t.idle

  many : 1 ≤ n
  unfolding blocks_lent lent
  many = t.lent.some

  may-promise : may_promise (lent w [] [] v 0).state n ≡ true
  unfolding may_promise room_for_all blocks_lent lent
  may-promise = rw (le-leb 1 n many) t.room

  begin-done : (ends w (begin v)).code ≡ 0
  unfolding ends change_ends begin_call begin_answer
  begin-done =
      let x : Given = lent w [] [] v 0 in
      outcome-code x (begin_answer x) (begin_effect x) ∙ in_use (ask (writer_known x) 4 (ask (not (writer_open x)) 6 0))
      ∙ ask-yes (writer_known x) 4 (ask (not (writer_open x)) 6 0) known-now ∙ ask-yes (not (writer_open x)) 6 0 idle-now

  reserve-done : (ends w (reserve v n)).code ≡ 0
  unfolding ends change_ends reserve_call reserve_answer
  reserve-done =
      let x : Given = lent w [] [] v 0 in
      let last : ℕ = ask (may_promise x.state n) 17 0 in
      outcome-code x (reserve_answer x n) (reserve_effect x n) ∙ in_use (ask (writer_known x) 4 (ask (not (writer_open x)) 6 last))
      ∙ ask-yes (writer_known x) 4 (ask (not (writer_open x)) 6 last) known-now ∙ ask-yes (not (writer_open x)) 6 last idle-now
      ∙ ask-yes (may_promise x.state n) 17 0 may-promise

  record At (k : ℕ) : Type 0 where
    store : Store
    reached : Reached (stepped w (stored_first g k) (feed_stores w.book v h blocks k)) store
    along : Along s store v h blocks n k
    formed : AllFormed (stored_first g k).records
    allowed : AllAllowed w (stores_from v h blocks k)
    sums : size_of (stored_first g k) ≡ sizes w (stores_from v h blocks k)
    world : played w (stores_from v h blocks k) ≡ stepped w (stored_first g k) (feed_stores w.book v h blocks k)

  begin-fits : size_of (begin_effect (lent w [] [] v 0)) ≤ length (lent w [] [] v 0).batch
  unfolding size_of begin_effect new_state batch_bytes
  begin-fits = omega arith

  begin-steps : step w (call (begin v)) ≡ stepped w (stored_first g 0) (feed_stores w.book v h blocks 0)
  unfolding ends change_ends begin_call stored_first feed_stores
  begin-steps =
      let x : Given = lent w [] [] v 0 in
      step-done w (begin v) x (begin_answer x) (begin_effect x) refl (sym (outcome-code x (begin_answer x) (begin_effect x)) ∙ begin-done)
      (unfold begin_effect new_state in tt) begin-fits
      ∙ (unfold begin_effect new_state lent feed feed_change is_confirm in refl)

  begin-sums : size_of (stored_first g 0) ≡ sizes w (stores_from v h blocks 0)
  unfolding stores_from stored_first ends change_ends begin_call
  begin-sums =
      let x : Given = lent w [] [] v 0 in
      let a : ℕ = begin_answer x in
      let same : size_of (begin_effect g) ≡ size_of (begin_effect x) = (unfold size_of begin_effect new_state in refl) in
      same ∙ sym (done-size x a (begin_effect x) (sym (outcome-code x a (begin_effect x)) ∙ begin-done)).0 ∙ sym (one_size w (begin v))

  at-begin : At 0
  at-begin =
      let c : Call = begin v in
      let f : follow s w (call c) ≡ abstract.after_done s c (ends w c).figure = follow-done w s c begin-done in
      let room = reserved-room s v n (sym (call-code w s (reserve v n) r (allowed-call (reserve v n) (unfold is_opening in refl))) ∙ reserve-done) in
      let ok : Allowed w (call c) = allowed-call c (unfold is_opening in refl) in
      record {
        store = abstract.after_done s c (ends w c).figure;
        reached = subst (λ (u : World). Reached u (abstract.after_done s c (ends w c).figure)) begin-steps
            (subst (λ (x : Store). Reached (step w (call c)) x) f (goes_on w s (call c) r ok));
        along = begin-along s v h blocks n (ends w c).figure room;
        formed = (unfold stored_first begin_effect new_state in tt);
        allowed = (unfold stores_from in (ok, tt));
        sums = begin-sums;
        world = (unfold stores_from played in begin-steps);
      }

  may-store : (k : ℕ) → k < n → may_store s.homes (list_of s) v (h + k) ≡ true
  may-store k l =
      let kept = kept_then w s r ready in
      sym (rights-same w s blocks batch v h (h + k) (same-book w s r) (same-homes w s r) kept t.lent.newest)
      ∙ each_of (right_to_store (list_sign w.state) (homes g) (read_list g) v) h n (unfold may_store_all blocks_lent lent in t.allowed) k l

  home_below : (k : ℕ) → k < n → h + k < s.homes
  home_below k l =
      let kept = kept_then w s r ready in
      let q : h + n ≤ homes g = (unfold blocks_lent lent in t.lent.homes) in
      omega (arith, q, lent-homes w blocks batch v h kept t.lent.newest, same-homes w s r)

  module _ (k : ℕ) where
    abbrev e : Effect
    e = stored_first g k

    abbrev b : Book
    b = feed_stores w.book v h blocks k

    abbrev u : World
    u = stepped w e b

    abbrev c : Call
    c = store v (h + k) (part blocks (64 * k) 64) roomy

    steps_on : (ends u c).code ≡ 0 → step u (call c) ≡ stepped w (stored_first g (suc k)) (feed_stores w.book v h blocks (suc k))
    unfolding lent stored_first feed_stores
    steps_on done = store-steps w g e b (h + k) (part blocks (64 * k) 64) done

    formed-on : (ends u c).code ≡ 0 → AllFormed e.records → AllFormed (stored_first g (suc k)).records
    unfolding lent stored_first and_then
    formed-on done f =
        formed-append e.records (store_effect (lent_on g e (h + k) (part blocks (64 * k) 64))).records f
        (store-formed-on w g e b (h + k) (part blocks (64 * k) 64) done)

    allowed-on : is_opening c ≡ not u.ready
    unfolding is_opening
    allowed-on = refl

    played-on : AllAllowed w (stores_from v h blocks k) → played w (stores_from v h blocks k) ≡ u → (ends u c).code ≡ 0
        → AllAllowed w (stores_from v h blocks (suc k))
        × (played w (stores_from v h blocks (suc k)) ≡ stepped w (stored_first g (suc k)) (feed_stores w.book v h blocks (suc k)))
    unfolding stores_from
    played-on ok same done = (
      allowed-append (stores_from v h blocks k) (call c ∷ []) w ok (subst (λ (x : World). AllAllowed x (call c ∷ [])) (sym same) (allowed-on, tt)),
      after-append (stores_from v h blocks k) (call c ∷ []) w ∙ ap (λ (x : World). played x (call c ∷ [])) same ∙ one-played u (call c) ∙ steps_on done,
    )

    sums_on : (ends u c).code ≡ 0 → played w (stores_from v h blocks k) ≡ u → size_of e ≡ sizes w (stores_from v h blocks k)
        → size_of (stored_first g (suc k)) ≡ sizes w (stores_from v h blocks (suc k))
    unfolding lent stored_first stores_from
    sums_on done same sums =
        size-then g e (store_effect (lent_on g e (h + k) (part blocks (64 * k) 64)))
        ∙ ap (λ (x : ℕ). x + size_of (store_effect (lent_on g e (h + k) (part blocks (64 * k) 64)))) sums
        ∙ ap (λ (x : ℕ). sizes w (stores_from v h blocks k) + x) (sym (store-sized w g e b (h + k) (part blocks (64 * k) 64) done) ∙ sym (one_size u c))
        ∙ ap (λ (x : World). sizes w (stores_from v h blocks k) + sizes x (call c ∷ [])) (sym same) ∙ sym (sizes-append (stores_from v h blocks k) (call c ∷ []) w)

    at_store : k < n → At k → At (suc k)
    at_store l a =
        let done : (ends u c).code ≡ 0 = call-code u a.store c a.reached allowed-on
        ∙ store-replies s a.store v h blocks n k a.along l known (home_below k l) (length_part blocks (64 * k) 64 (omega (arith, whole))) (may-store k l) in
        let f : follow a.store u (call c) ≡ abstract.after_done a.store c (ends u c).figure = follow-done u a.store c done in
        let p = played-on a.allowed a.world done in
        record {
          store = abstract.after_done a.store c (ends u c).figure;
          reached = subst (λ (x : World). Reached x (abstract.after_done a.store c (ends u c).figure)) (steps_on done)
              (subst (λ (x : Store). Reached (step u (call c)) x) f (goes_on u a.store (call c) a.reached allowed-on));
          along = store-along s a.store v h blocks n k (ends u c).figure a.along l;
          formed = formed-on done a.formed;
          allowed = p.0;
          sums = sums_on done a.world a.sums;
          world = p.1;
        }

  at_each : (k : ℕ) → k ≤ n → At k
  at_each zero l = at-begin
  at_each (suc k) l = at_store k (omega arith) (at_each k (omega arith))

  -- the commit, and all of it
  record Whole : Type 0 where
    formed : AllFormed (transact_effect g).records
    allowed : AllAllowed w (chain v h blocks)
    world : played w (chain v h blocks) ≡ stepped w (transact_effect g) (feed_transact w.book v h blocks (transact_effect g).figure)

  last_of : (m : ℕ) → n ≡ suc m → At n → (ends (u n) (commit v roomy)).code ≡ 0
  last_of m q a =
      call-code (u n) a.store (commit v roomy) a.reached (unfold is_opening in refl)
      ∙ commit-replies s a.store v h blocks n m (subst (λ (j : ℕ). Along s a.store v h blocks n j) q a.along) (omega arith) known

  commit-on : (ends (u n) (commit v roomy)).code ≡ 0
      → step (u n) (call (commit v roomy)) ≡ stepped w (transact_effect g) (feed_transact w.book v h blocks (transact_effect g).figure)
  unfolding transact_effect blocks_lent lent feed_transact and_then
  commit-on done = commit-steps w g (e n) (b n) done

  formed-whole : (ends (u n) (commit v roomy)).code ≡ 0 → AllFormed (e n).records → AllFormed (transact_effect g).records
  unfolding transact_effect blocks_lent lent and_then
  formed-whole done f = formed-append (e n).records (commit_effect (lent_on g (e n) 0 [])).records f (commit-formed-on w g (e n) (b n) done)

  commit-allowed : is_opening (commit v roomy) ≡ not (u n).ready
  unfolding is_opening
  commit-allowed = refl

  whole_of : At n → (ends (u n) (commit v roomy)).code ≡ 0 → Whole
  unfolding chain
  whole_of a done =
      let c : Call = commit v roomy in
      record {
        formed = formed-whole done a.formed;
        allowed =
            allowed-append (stores_from v h blocks n) (call c ∷ []) w a.allowed
            (subst (λ (x : World). AllAllowed x (call c ∷ [])) (sym a.world) (commit-allowed, tt));
        world =
            after-append (stores_from v h blocks n) (call c ∷ []) w ∙ ap (λ (x : World). played x (call c ∷ [])) a.world ∙ one-played (u n) (call c)
            ∙ commit-on done;
      }

  commit-done : At n → (ends (u n) (commit v roomy)).code ≡ 0
  commit-done a = go n refl many
    where
      go : (j : ℕ) → n ≡ j → 1 ≤ j → (ends (u n) (commit v roomy)).code ≡ 0
      go zero q l = absurd (omega arith)
      go (suc m) q l = last_of m q a

  all_of : Whole
  all_of = let a = at_each n (omega arith) in whole_of a (commit-done a)

  told_of : At n → ChainTold w v h blocks (transact_effect g)
  unfolding transact_effect blocks_lent lent
  told_of a =
      let c = commit-sized w g (e n) (b n) (commit-done a) in
      let last : Effect = commit_effect (lent_on g (e n) 0 []) in
      record {
        stores = a.allowed;
        ready = ap (λ (x : World). x.ready) a.world;
        size =
            size-then g (e n) last ∙ ap (λ (x : ℕ). x + size_of last) a.sums
            ∙ ap (λ (x : ℕ). sizes w (stores_from v h blocks n) + x) (sym c.0 ∙ ap (λ (x : World). (ends x (commit v roomy)).size) (sym a.world));
        figure = (unfold and_then in sym c.1 ∙ ap (λ (x : World). (ends x (commit v roomy)).figure) (sym a.world));
      }

  pub chain-told : ChainTold w v h blocks (transact_effect g)
  chain-told = told_of (at_each n (omega arith))

  -- the world that the transact itself leaves
  left_so : batch_fits g (size_of (transact_effect g)) ≡ true → (transact_ends w v h blocks batch).code ≡ 0
      → act w (transacts v h blocks batch) ≡ stepped w (transact_effect g) (feed_transact w.book v h blocks (transact_effect g).figure)
  unfolding act transact_ends transact_call
  left_so room z =
      let e : Effect = transact_effect g in
      let a : ℕ = transact_answer g (size_of e) in
      let q : outcome g a e ≡ done g e = outcome-done g a e (sym (outcome-code g a e) ∙ z) in
      let same : read_batch (take (done g e).size (done g e).batch) ≡ e.records = records-read g e all_of.formed (fits g (size_of e) room) in
      ap (λ (o : Outcome). left_under w o (cond (eqb o.code 0) (feed_transact w.book v h blocks o.figure) w.book)) q
      ∙ left-done w g e (feed_transact w.book v h blocks) ready same

-- a done transact is its begin, stores and commit
pub transact-chain : (w : World) (s : Store) → Reached w s → w.ready ≡ true → (v h : ℕ) (blocks batch : List ℕ) → (transact_ends w v h blocks batch).code ≡ 0
    → AllAllowed w (chain v h blocks) × (played w (chain v h blocks) ≡ act w (transacts v h blocks batch))
transact-chain w s r ready v h blocks batch z =
    let g : Given = lent w blocks batch v h in
    let t : TransactReady g (size_of (transact_effect g)) = transact-ready g (size_of (transact_effect g))
    (sym (outcome-code g (transact_answer g (size_of (transact_effect g))) (transact_effect g)) ∙ (unfold transact_ends transact_call in z)) in
    let a = all_of w s r ready v h blocks batch (size_of (transact_effect g)) t in
    (a.allowed, a.world ∙ sym (left_so w s r ready v h blocks batch (size_of (transact_effect g)) t t.batch z))
