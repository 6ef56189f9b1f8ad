-- Calls on several homes that are alike, from stores that are alike but for bytes in hidden homes: they answer the same, and leave stores alike. Assumes
-- nothing.
use Prim.Native.Nat.{ℕ, zero, suc, ◌+◌, ◌*◌, ◌/◌, ◌≤◌, ◌<◌}
use mathlib.Core.Path.{◌≡◌, refl, sym, ap, ◌∙◌, subst}
use mathlib.Core.Bool.{Bool, true, false, cond, not, ◌&&◌}
use mathlib.Core.List.{List, [], ◌∷◌}
use native.Mathlib.Omega.{arith}
use lib.Dec.{eqb, leb, ltb}
use lib.ListN.{length}
use borrow.Author.Tests.{ne_eqb, le-leb}
use Rattle.model.specs.Bytes.{part}
use Rattle.model.specs.Effects.{Given, Effect}
use Rattle.model.specs.Rights.{may_store, may_read}
use Rattle.model.specs.Questions.{ask}
use Rattle.model.specs.Calls.{Outcome, outcome, size_of}
use Rattle.model.specs.History.{Call, store, commit, Event, call, World, lent, ends, is_opening, step, after, AllAllowed}
use Rattle.acts.specs.Many.{all_of, fetch_effect, fetch_answer, fetch_call, revise_answer, revise_call, transact_effect, transact_answer, transact_call}
use Rattle.acts.specs.Units.{transacts, transact_ends, fetch_ends, revise_ends, roomy, stores_from, chain, expand, reads_from}
use Rattle.abstract_store.specs.Store.{Store, free_left, is_idle, list_of, told, ask_batch, Reply, reply_of, follow}
use Rattle.theorems.specs.Isolation.{Each, both, more, StoreAlike, CallAlike, equal, stored, Denied, followed}
use Rattle.theorems.specs.IsolatedActs.{BlocksAlike}
use Rattle.model_laws.proofs.bytes.ByteLaws.{length_part}
use Rattle.model_laws.proofs.state.QuestionLaws.{ask-passed}
use Rattle.acts.proofs.ManyLaws.{TransactReady, each_of, transact-ready}
use Rattle.model_laws.proofs.trace.TraceLaws.{All}
use Rattle.theorems.proofs.invariant.TouchLaws.{CommitFits}
use Rattle.theorems.proofs.store.Reached.{Reached, followed-append, one-follow, goes_on, goes-along, kept_then}
use Rattle.theorems.proofs.store.Moments.{Moment, moment}
use Rattle.theorems.proofs.store.StoreAgrees.{size_none}
use Rattle.theorems.proofs.store.StoreLaws.{reply-outcome, told_same}
use Rattle.theorems.proofs.many.ManyAsked.{asked_first, stores_all, reads_all, asked_transact, all_same, fetch-asked, revise-asked, transact-asked}
use Rattle.theorems.proofs.many.ChainCalls.{sizes}
use Rattle.theorems.proofs.many.ManyRuns.{ChainTold, chain-told}
use Rattle.theorems.proofs.many.FetchReads.{read_at}
use Rattle.theorems.proofs.isolation.AlikeBook.{each_append}
use Rattle.theorems.proofs.isolation.AlikeReplies.{ListShown, not_hidden, may-read-alike, may-store-alike, idle-alike, free-alike}
use Rattle.theorems.proofs.isolation.AlikeHistories.{refused-block, ready_on, left-fits, right-fits, shown-same, same-reply, next-alike}

-- ---- a row of questions, and what stands behind it

-- it matters only if all are answered yes
behind : (b : Bool) (k : ℕ) (f : ℕ → ℕ) (n m : ℕ) → ((f 0 ≡ 0 → n ≡ m) → f n ≡ f m) → (ask b k (f 0) ≡ 0 → n ≡ m) → ask b k (f n) ≡ ask b k (f m)
unfolding ask
behind true k f n m rest h = rest h
behind false k f n m rest h = refl

-- and if the row comes to 0, it does with 0 behind it
falls : (b : Bool) (k : ℕ) (f : ℕ → ℕ) (n : ℕ) → (f n ≡ 0 → f 0 ≡ 0) → ask b k (f n) ≡ 0 → ask b k (f 0) ≡ 0
unfolding ask
falls true k f n rest h = rest h
falls false k f n rest h = h

module _ (s : Store) (x h : ℕ) (blocks : List ℕ) where
  abbrev whole : Bool
  whole = eqb (length blocks) (64 * (length blocks / 64)) && leb 1 (length blocks / 64) && leb (length blocks / 64) 7

  abbrev room : Bool
  room = leb (length blocks / 64) (free_left s)

  abbrev idle : Bool
  idle = is_idle (s.book.tasks x)

  abbrev there : Bool
  there = leb (h + length blocks / 64) s.homes

  asked-behind : (n m : ℕ) → (asked_transact s x h blocks 0 ≡ 0 → n ≡ m) → asked_transact s x h blocks n ≡ asked_transact s x h blocks m
  asked-behind n m =
      behind whole 1 (λ i. ask (ltb x 8) 4 (ask there 5 (ask (stores_all s x h blocks) 19 (ask idle 6 (ask room 8 i))))) n m
      (behind (ltb x 8) 4 (λ i. ask there 5 (ask (stores_all s x h blocks) 19 (ask idle 6 (ask room 8 i)))) n m
      (behind there 5 (λ i. ask (stores_all s x h blocks) 19 (ask idle 6 (ask room 8 i))) n m
      (behind (stores_all s x h blocks) 19 (λ i. ask idle 6 (ask room 8 i)) n m
      (behind idle 6 (λ i. ask room 8 i) n m (behind room 8 (λ i. i) n m (λ e. e refl))))))

  asked-falls : (n : ℕ) → asked_transact s x h blocks n ≡ 0 → asked_transact s x h blocks 0 ≡ 0
  asked-falls n =
      falls whole 1 (λ i. ask (ltb x 8) 4 (ask there 5 (ask (stores_all s x h blocks) 19 (ask idle 6 (ask room 8 i))))) n
      (falls (ltb x 8) 4 (λ i. ask there 5 (ask (stores_all s x h blocks) 19 (ask idle 6 (ask room 8 i)))) n
      (falls there 5 (λ i. ask (stores_all s x h blocks) 19 (ask idle 6 (ask room 8 i))) n
      (falls (stores_all s x h blocks) 19 (λ i. ask idle 6 (ask room 8 i)) n (falls idle 6 (λ i. ask room 8 i) n (falls room 8 (λ i. i) n (λ e. refl))))))

none-asked : (batch : List ℕ) → ask_batch 0 batch ≡ 0
unfolding ask_batch ask
none-asked batch = rw (le-leb 0 (length batch) (omega arith))

-- ---- what a transact is asked and answers, in a world that a history reaches

module _ (w : World) (s : Store) (r : Reached w s) (ready : w.ready ≡ true) (x h : ℕ) (blocks batch : List ℕ) where
  abbrev m : Moment w s
  m = moment w s r ready

  abbrev g : Given
  g = lent w blocks batch x h

  asked-so : (size : ℕ) → transact_answer g size ≡ asked_transact s x h blocks (ask_batch size batch)
  asked-so size = transact-asked m.groups m.homes m.sizes w m.running s m.agrees (kept_then w s r ready) x h blocks batch size

  transact-told : reply_of (transact_ends w x h blocks batch) ≡ told (asked_transact s x h blocks (ask_batch (size_of (transact_effect g)) batch)) (transact_effect g).figure (size_of (transact_effect g))
  unfolding transact_ends transact_call
  transact-told =
      reply-outcome g (transact_answer g (size_of (transact_effect g))) (transact_effect g)
      ∙ ap (λ (k : ℕ). told k (transact_effect g).figure (size_of (transact_effect g))) (asked-so (size_of (transact_effect g)))

  chain-ready : asked_transact s x h blocks 0 ≡ 0 → TransactReady g 0
  chain-ready e = transact-ready g 0 (asked-so 0 ∙ ap (asked_transact s x h blocks) (none-asked batch) ∙ e)

  chained : asked_transact s x h blocks 0 ≡ 0 → ChainTold w x h blocks (transact_effect g)
  chained e = chain-told w s r ready x h blocks batch 0 (chain-ready e)

  -- a call that reads: its answer, with no figure and no records
  read_told : (a : ℕ) → reply_of (outcome (lent w blocks [] x h) a (fetch_effect (lent w blocks [] x h))) ≡ told a 0 0
  read_told a =
      let f : Effect = fetch_effect (lent w blocks [] x h) in
      reply-outcome (lent w blocks [] x h) a f
      ∙ ap (λ (k : ℕ). told a f.figure k) (size_none f (unfold fetch_effect in refl))
      ∙ ap (λ (k : ℕ). told a k 0) (unfold fetch_effect in refl)

  fetch-told : reply_of (fetch_ends w x h blocks) ≡ told (asked_first s x h blocks (ask (reads_all s x h blocks) 20 0)) 0 0
  unfolding fetch_ends fetch_call
  fetch-told =
      read_told (fetch_answer (lent w blocks [] x h))
      ∙ ap (λ (k : ℕ). told k 0 0) (fetch-asked m.groups m.homes m.sizes w m.running s m.agrees (kept_then w s r ready) x h blocks [])

  revise-told : reply_of (revise_ends w x h blocks) ≡ told (asked_first s x h blocks (ask (stores_all s x h blocks) 19 (ask (reads_all s x h blocks) 20 0))) 0 0
  unfolding revise_ends revise_call
  revise-told =
      read_told (revise_answer (lent w blocks [] x h))
      ∙ ap (λ (k : ℕ). told k 0 0) (revise-asked m.groups m.homes m.sizes w m.running s m.agrees (kept_then w s r ready) x h blocks [])

-- a done one was allowed to read every home
first-passed : (s : Store) (x h : ℕ) (blocks : List ℕ) (n : ℕ) → asked_first s x h blocks n ≡ 0 → n ≡ 0
first-passed s x h blocks n e =
    let e₁ = (ask-passed (whole s x h blocks) 0 _ e).1 in
    let e₂ = (ask-passed (ltb x 8) 3 _ e₁).1 in
    (ask-passed (there s x h blocks) 4 n e₂).1

told-code : (k f z : ℕ) → (told k f z).code ≡ k
unfolding told
told-code zero f z = refl
told-code (suc k) f z = refl

code_of : (o : Outcome) (k f z : ℕ) → reply_of o ≡ told k f z → o.code ≡ k
unfolding reply_of
code_of o k f z e = ap (λ (p : Reply). p.code) e ∙ told-code k f z

fetch-refused : (w : World) (x h n : ℕ) (blocks : List ℕ) → (fetch_ends w x h blocks).code ≡ suc n → (fetch_ends w x h blocks).block ≡ blocks
unfolding fetch_ends fetch_call
fetch-refused w x h n blocks c =
    let g : Given = lent w blocks [] x h in
    refused-block g (fetch_answer g) (fetch_effect g) n c ∙ (unfold lent in refl)

revise-refused : (w : World) (x h n : ℕ) (blocks : List ℕ) → (revise_ends w x h blocks).code ≡ suc n → (revise_ends w x h blocks).block ≡ blocks
unfolding revise_ends revise_call
revise-refused w x h n blocks c =
    let g : Given = lent w blocks [] x h in
    refused-block g (revise_answer g) (fetch_effect g) n c ∙ (unfold lent in refl)

reply-same : (o p : Outcome) → reply_of o ≡ reply_of p → (o.code ≡ p.code) × (o.size ≡ p.size) × (o.figure ≡ p.figure)
unfolding reply_of
reply-same o p e = (ap (λ (y : Reply). y.code) e, ap (λ (y : Reply). y.size) e, ap (λ (y : Reply). y.figure) e)

chain-followed : (w : World) (s : Store) (x h : ℕ) (blocks : List ℕ)
    → followed s w (chain x h blocks)
    ≡ follow (followed s w (stores_from x h blocks (length blocks / 64))) (after w (stores_from x h blocks (length blocks / 64))) (call (commit x roomy))
unfolding chain
chain-followed w s x h blocks =
    let es : List Event = stores_from x h blocks (length blocks / 64) in
    followed-append es (call (commit x roomy) ∷ []) s w ∙ one-follow (followed s w es) (after w es) (call (commit x roomy))

commit-plain : (x : ℕ) → is_opening (commit x roomy) ≡ false
unfolding is_opening
commit-plain x = refl

-- ---- events that are alike

module _ (hidden : ℕ → Bool) (shows : ListShown hidden) where
  pub data EventAlike : Event → Event → Type 0 where
    called : {c d : Call} → CallAlike hidden c d → EventAlike (call c) (call d)

  events-same : {es fs : List Event} (w v : World) (s t : Store) → Reached w s → Reached v t → w.ready ≡ true → v.ready ≡ true → StoreAlike hidden s t
      → AllAllowed w es → AllAllowed v fs → Each EventAlike es fs → StoreAlike hidden (followed s w es) (followed t v fs) × (sizes w es ≡ sizes v fs)
  unfolding followed sizes
  events-same w v s t r q w-ready v-ready a ok ok' both = (a, refl)
  events-same w v s t r q w-ready v-ready a ok ok' (more (called {c = c} {d = e} k) ks) =
      let next = next-alike hidden shows r q w-ready v-ready a ok.0 ok'.0 k in
      let rest = events-same (step w (call c)) (step v (call e)) (follow s w (call c)) (follow t v (call e)) (goes_on w s (call c) r ok.0)
      (goes_on v t (call e) q ok'.0) (ready_on w c w-ready) (ready_on v e v-ready) next ok.1 ok'.1 ks in
      let size : (ends w c).size ≡ (ends v e).size = unfold reply_of in ap (λ (p : Reply). p.size) (same-reply hidden shows r q w-ready v-ready a ok.0 ok'.0 k) in
      (rest.0, rw (size, rest.1))

  -- ---- a transact

  module _ (x h : ℕ) (xs ys : List ℕ) (b : BlocksAlike hidden h xs ys) where
    store-like : (k : ℕ) → k < length xs / 64
        → CallAlike hidden (store x (h + k) (part xs (64 * k) 64) roomy) (store x (h + k) (part ys (64 * k) 64) roomy)
    store-like k l = go (hidden (h + k)) refl
      where
        go : (d : Bool) → hidden (h + k) ≡ d
            → CallAlike hidden (store x (h + k) (part xs (64 * k) 64) roomy) (store x (h + k) (part ys (64 * k) 64) roomy)
        go true e = let z = b.size in stored e (length_part xs (64 * k) 64 (omega arith) ∙ sym (length_part ys (64 * k) 64 (omega arith)))
        go false e =
            subst (λ (p : List ℕ). CallAlike hidden (store x (h + k) (part xs (64 * k) 64) roomy) (store x (h + k) p roomy)) (b.shown k l e) equal

    stores-like : (k : ℕ) → k ≤ length xs / 64 → Each EventAlike (stores_from x h xs k) (stores_from x h ys k)
    unfolding stores_from
    stores-like zero l = more (called equal) both
    stores-like (suc k) l = each_append (stores-like k (omega arith)) (more (called (store-like k (omega arith))) both)

    all-like : Each EventAlike (stores_from x h xs (length xs / 64)) (stores_from x h ys (length ys / 64))
    all-like =
        subst (λ (n : ℕ). Each EventAlike (stores_from x h xs (length xs / 64)) (stores_from x h ys (n / 64))) b.size
        (stores-like (length xs / 64) (omega arith))

  module _ {w v : World} {s t : Store} (r : Reached w s) (q : Reached v t) (w-ready : w.ready ≡ true) (v-ready : v.ready ≡ true) (a : StoreAlike hidden s t) where
    abbrev f : All (CommitFits s.homes) s.book.commits
    f = left-fits hidden shows r q w-ready v-ready a

    abbrev f' : All (CommitFits s.homes) t.book.commits
    f' = right-fits hidden shows r q w-ready v-ready a

    stores_same : (x h : ℕ) (xs ys : List ℕ) → length xs ≡ length ys → stores_all s x h xs ≡ stores_all t x h ys
    stores_same x h xs ys e =
        all_same (may_store s.homes (list_of s) x) (may_store t.homes (list_of t) x) h (length xs / 64) (may-store-alike hidden shows a f f' x)
        ∙ ap (λ (n : ℕ). all_of (may_store t.homes (list_of t) x) h (n / 64)) e

    reads_same : (x h : ℕ) (xs : List ℕ) → reads_all s x h xs ≡ reads_all t x h xs
    reads_same x h xs =
        all_same (may_read s.homes (list_of s) x) (may_read t.homes (list_of t) x) h (length xs / 64) (may-read-alike hidden shows a f f' x)

    module _ (x h : ℕ) (xs ys batch : List ℕ) (b : BlocksAlike hidden h xs ys) where
      same_asked : (n : ℕ) → asked_transact s x h xs n ≡ asked_transact t x h ys n
      same_asked n = rw (stores_same x h xs ys b.size, idle-alike hidden (a.tasks x), free-alike hidden a, b.size, a.homes)

      abbrev e : Effect
      e = transact_effect (lent w xs batch x h)

      abbrev e' : Effect
      e' = transact_effect (lent v ys batch x h)

      abbrev es : List Event
      es = stores_from x h xs (length xs / 64)

      abbrev fs : List Event
      fs = stores_from x h ys (length ys / 64)

      -- with the questions answered yes, both are their begin, stores and commit
      record Chains : Type 0 where
        alike : StoreAlike hidden (followed s w (chain x h xs)) (followed t v (chain x h ys))
        size : size_of e ≡ size_of e'
        figure : e.figure ≡ e'.figure

      chains : asked_transact s x h xs 0 ≡ 0 → Chains
      chains z =
          let p : ChainTold w x h xs e = chained w s r w-ready x h xs batch z in
          let p' : ChainTold v x h ys e' = chained v t q v-ready x h ys batch (sym (same_asked 0) ∙ z) in
          let k = events-same w v s t r q w-ready v-ready a p.stores p'.stores (all-like x h xs ys b) in
          let r' = goes-along es w s r p.stores in
          let q' = goes-along fs v t q p'.stores in
          let ok : is_opening (commit x roomy) ≡ not (after w es).ready = commit-plain x ∙ ap not (sym p.ready) in
          let ok' : is_opening (commit x roomy) ≡ not (after v fs).ready = commit-plain x ∙ ap not (sym p'.ready) in
          let told : reply_of (ends (after w es) (commit x roomy)) ≡ reply_of (ends (after v fs) (commit x roomy)) = same-reply hidden shows r' q' p.ready p'.ready k.0 ok ok' (equal {c = commit x roomy}) in
          let same = reply-same (ends (after w es) (commit x roomy)) (ends (after v fs) (commit x roomy)) told in
          let next = next-alike hidden shows r' q' p.ready p'.ready k.0 ok ok' (equal {c = commit x roomy}) in
          record {
            alike =
                subst (λ (y : Store). StoreAlike hidden y (followed t v (chain x h ys))) (sym (chain-followed w s x h xs))
                (subst (StoreAlike hidden (follow (followed s w es) (after w es) (call (commit x roomy)))) (sym (chain-followed v t x h ys)) next);
            size =
                p.size ∙ ap (λ (y : ℕ). y + (ends (after w es) (commit x roomy)).size) k.1 ∙ ap (λ (y : ℕ). sizes v fs + y) same.1 ∙ sym p'.size;
            figure = p.figure ∙ same.2 ∙ sym p'.figure;
          }

      abbrev answer : ℕ
      answer = asked_transact s x h xs (ask_batch (size_of e) batch)

      abbrev answer' : ℕ
      answer' = asked_transact t x h ys (ask_batch (size_of e') batch)

      answer-same : answer ≡ answer'
      answer-same =
          asked-behind s x h xs (ask_batch (size_of e) batch) (ask_batch (size_of e') batch) (λ z. ap (λ (n : ℕ). ask_batch n batch) (chains z).size)
          ∙ same_asked (ask_batch (size_of e') batch)

      pub transact-same : reply_of (transact_ends w x h xs batch) ≡ reply_of (transact_ends v x h ys batch)
      transact-same =
          transact-told w s r w-ready x h xs batch
          ∙ told_same answer answer' e.figure e'.figure (size_of e) (size_of e') answer-same
          (λ z. let k = chains (asked-falls s x h xs (ask_batch (size_of e) batch) (answer-same ∙ z)) in (k.figure, k.size))
          ∙ sym (transact-told v t q v-ready x h ys batch)

      pub transact-next : StoreAlike hidden (followed s w (expand w (transacts x h xs batch))) (followed t v (expand v (transacts x h ys batch)))
      unfolding expand
      transact-next = go (transact_ends w x h xs batch).code (transact_ends v x h ys batch).code refl (unfold reply_of in ap (λ (y : Reply). y.code) transact-same)
        where
          go : (n m : ℕ) → (transact_ends w x h xs batch).code ≡ n → n ≡ m
              → StoreAlike hidden (followed s w (cond (eqb n 0) (chain x h xs) [])) (followed t v (cond (eqb m 0) (chain x h ys) []))
          go zero zero c z =
              (chains (asked-falls s x h xs (ask_batch (size_of e) batch) (sym (code_of (transact_ends w x h xs batch) answer e.figure (size_of e) (transact-told w s r w-ready x h xs batch)) ∙ c))).alike
          go zero (suc m) c z = absurd (omega arith)
          go (suc n) zero c z = absurd (omega arith)
          go (suc n) (suc m) c z = rw (ne_eqb (suc n) 0 (λ y. omega arith), ne_eqb (suc m) 0 (λ y. omega arith)) (unfold followed in a)

    -- ---- fetch and revise

    first-same : (x h : ℕ) (xs : List ℕ) (n m : ℕ) → n ≡ m → asked_first s x h xs n ≡ asked_first t x h xs m
    first-same x h xs n m e = rw (e, a.homes)

    pub fetch-same : (x h : ℕ) (xs : List ℕ) → reply_of (fetch_ends w x h xs) ≡ reply_of (fetch_ends v x h xs)
    fetch-same x h xs =
        fetch-told w s r w-ready x h xs xs
        ∙ ap (λ (k : ℕ). told k 0 0) (first-same x h xs (ask (reads_all s x h xs) 20 0) (ask (reads_all t x h xs) 20 0) (ap (λ (c : Bool). ask c 20 0) (reads_same x h xs)))
        ∙ sym (fetch-told v t q v-ready x h xs xs)

    pub revise-same : (x h : ℕ) (xs : List ℕ) → reply_of (revise_ends w x h xs) ≡ reply_of (revise_ends v x h xs)
    revise-same x h xs =
        revise-told w s r w-ready x h xs xs
        ∙ ap (λ (k : ℕ). told k 0 0)
        (first-same x h xs (ask (stores_all s x h xs) 19 (ask (reads_all s x h xs) 20 0)) (ask (stores_all t x h xs) 19 (ask (reads_all t x h xs) 20 0))
        (rw (stores_same x h xs xs refl, reads_same x h xs)))
        ∙ sym (revise-told v t q v-ready x h xs xs)

    read-row : (x h n : ℕ) → ((k : ℕ) → k < n → hidden (h + k) ≡ false) → reads_from w.homes w.book x h n ≡ reads_from v.homes v.book x h n
    unfolding reads_from
    read-row x h zero l = refl
    read-row x h (suc n) l =
        rw (read-row x h n (λ k i. l k (omega arith)), shown-same hidden shows r q w-ready v-ready a x (h + n) (l n (omega arith)))

    -- what a writer may read of several homes is not hidden from it
    module _ (x : ℕ) (d : Denied x hidden s) (h : ℕ) (xs : List ℕ) where
      none_hidden : reads_all s x h xs ≡ true → (k : ℕ) → k < length xs / 64 → hidden (h + k) ≡ false
      none_hidden e k l = not_hidden hidden x s (h + k) d (each_of (may_read s.homes (list_of s) x) h (length xs / 64) e k l)

      row_same : reads_all s x h xs ≡ true
          → reads_from w.homes w.book x h (length xs / 64) ≡ reads_from v.homes v.book x h (length xs / 64)
      row_same e = read-row x h (length xs / 64) (none_hidden e)

      pub fetch-block : (fetch_ends w x h xs).block ≡ (fetch_ends v x h xs).block
      fetch-block = go (fetch_ends w x h xs).code refl
        where
          same : (fetch_ends w x h xs).code ≡ (fetch_ends v x h xs).code
          same = unfold reply_of in ap (λ (y : Reply). y.code) (fetch-same x h xs)

          go : (n : ℕ) → (fetch_ends w x h xs).code ≡ n → (fetch_ends w x h xs).block ≡ (fetch_ends v x h xs).block
          go zero c =
              let z = sym (code_of (fetch_ends w x h xs) _ 0 0 (fetch-told w s r w-ready x h xs xs)) ∙ c in
              let y = (ask-passed (reads_all s x h xs) 19 0 (first-passed s x h xs _ z)).0 in
              (read_at w (s, r) w-ready x h xs).fetched c ∙ row_same y ∙ sym ((read_at v (t, q) v-ready x h xs).fetched (sym same ∙ c))
          go (suc n) c =
              fetch-refused w x h n xs c ∙ sym (fetch-refused v x h n xs (sym same ∙ c))

      pub revise-block : (revise_ends w x h xs).block ≡ (revise_ends v x h xs).block
      revise-block = go (revise_ends w x h xs).code refl
        where
          same : (revise_ends w x h xs).code ≡ (revise_ends v x h xs).code
          same = unfold reply_of in ap (λ (y : Reply). y.code) (revise-same x h xs)

          go : (n : ℕ) → (revise_ends w x h xs).code ≡ n → (revise_ends w x h xs).block ≡ (revise_ends v x h xs).block
          go zero c =
              let z = sym (code_of (revise_ends w x h xs) _ 0 0 (revise-told w s r w-ready x h xs xs)) ∙ c in
              let y = ask-passed (stores_all s x h xs) 18 _ (first-passed s x h xs _ z) in
              let u = (ask-passed (reads_all s x h xs) 19 0 y.1).0 in
              (read_at w (s, r) w-ready x h xs).revised c ∙ row_same u ∙ sym ((read_at v (t, q) v-ready x h xs).revised (sym same ∙ c))
          go (suc n) c =
              revise-refused w x h n xs c ∙ sym (revise-refused v x h n xs (sym same ∙ c))
