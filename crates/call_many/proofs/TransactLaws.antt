-- Transact: its answer and how it ends. Assumes nothing.
use mathlib.Core.Path.{◌≡◌, refl, sym, ap, ◌∙◌}
use mathlib.Core.Bool.{Bool, true, false, cond, not}
use mathlib.Core.List.{List, [], ◌++◌}
use mathlib.Core.Logic.{◌≢◌, ⊎_elim}
use Prim.Native.Nat.{ℕ, suc, ◌+◌, ◌-◌, ◌*◌, ◌/◌, ◌≤◌, ◌<◌}
use native.Mathlib.Omega.{arith}
use borrow.Author.Tests.{leb-true, le-leb, not-true, not-false}
use lib.Dec.{leb}
use lib.ListN.{length}
use Rattle.model.specs.Bytes.{puts}
use Rattle.model.specs.Layout.{group_count, home_count}
use Rattle.model.specs.Batch.{batch_bytes}
use Rattle.model.specs.declared.State.{State}
use Rattle.model.specs.declared.Writer.{Writer}
use Rattle.model.specs.State.{state_of, next_position, places, free_places, writer_of, held_of, is_open_now, first_for, count_for}
use Rattle.model.specs.Tag.{closing_word}
use Rattle.model.specs.Effects.{Given, Effect, Logged, logged, link_from, log_closing, tags_of, live_base, kept_commit, commit_held}
use Rattle.model.specs.Questions.{ask, areas_right, state_right, newest_right, state_in_order, writer_known, writer_open, batch_fits}
use Rattle.model.specs.Calls.{size_of, outcome}
use Rattle.model_laws.proofs.bytes.ByteLaws.{length-puts}
use Rattle.model_laws.proofs.state.QuestionLaws.{ask-yes, ask-no, ask-passed}
use Rattle.call_ask.specs.Lent.{lent_all, leaves_everything}
use Rattle.call_ask.proofs.AnswerLaws.{Usable, refused-by, done-by}
use Rattle.call_store.specs.Logs.{MayLog, Fits}
use Rattle.call_commit.specs.Closings.{logged_closing, kept_under, Committed}
use Rattle.call_commit.proofs.CommitLaws.{kept-list}
use Rattle.acts.specs.Many.{blocks_lent, blocks_right, homes_known, lent_on, and_then, stored_first, transact_effect, ask_homes, all_of, may_store_all, room_for_all, transact_answer, transact_call}
use Rattle.call_many.specs.Steps.{Several, BatchRoom, Stored, Reached}
use Rattle.call_many_fetch.proofs.AllowedLaws.{read-list-same, store_test}
use Rattle.acts.proofs.StoredLaws.{sizes-more}
use Rattle.acts.proofs.TransactedLaws.{closed, last-store, effect_is, size_is}
use Rattle.call_many.proofs.StoredLaws.{may-log, bytes-more}
use Rattle.call_many_fetch.proofs.QuestionLaws.{HomesLent, homes-refuse, homes-pass, homes-first, homes-lent}

-- ---- what the questions let through

pub chain-lent : (g : Given) → HomesLent g → leb (length g.block / 64) (free_places g.state) ≡ true
    → Several g.log g.state g.block g.writer g.home (length g.block / 64)
unfolding free_places places
chain-lent g k f =
    let u = k.usable in
    let o = u.order in
    let free : length g.block / 64 ≤ free_places g.state = leb-true (length g.block / 64) (free_places g.state) f in
    record {
      state_fits = u.state-length;
      writer = k.writer;
      some = omega (arith, o.groups-same, u.groups-least);
      few = omega (arith, o.groups-same, u.groups-most);
      known = omega (arith, o.homes_same, u.homes-most);
      log = omega (arith, o.groups-same, u.log-length);
      high = o.start-most;
      low = o.start-next;
      filled = o.filled-most;
      last = o.last-closing;
      homes = omega (arith, k.homes, u.homes-most);
      blocks = k.blocks;
      least = k.least;
      most = k.most;
      room = omega (arith, free, k.least);
    }

-- ---- its effect

module _ (g : Given) (n : ℕ) (c : Several g.log g.state g.block g.writer g.home n) (e : Effect) (j : ℕ) (h : Stored g j e) (l : suc j ≡ n) where
  abbrev r : Writer
  r = writer_of e.state g.writer

  abbrev p : ℕ
  p = next_position (state_of e.state)

  abbrev final : Given
  final = lent_on g e 0 []

  abbrev word : ℕ
  word = closing_word r.home (p - first_for r p) (link_from p (state_of e.state)) (count_for r + 1)

  abbrev lo : Logged
  lo = logged e.state e.log word (held_of e.state g.writer)

  size_few : (m k : ℕ) → m ≡ length (batch_bytes e.records) → k ≡ length (batch_bytes (logged_closing e.state e.log (state_of e.state) r g.writer).records)
      → m + k ≤ 516
  unfolding logged_closing batch_bytes
  size_few m k em ek =
      let z : m + k ≡ length (batch_bytes (e.records ++ lo.records)) = rw (em, ek) (sizes-more e.records lo.records) in
      ⊎_elim (λ y. omega (arith, z, ap (λ q. length (batch_bytes q)) y.2)) (λ y. omega (arith, z, y.2)) (closed g n c e j h l)

  homes_same : length e.area ≡ length g.area → Usable g.log g.area g.state → (state_of e.state).homes ≡ home_count (length e.area)
  homes_same area u = h.homes ∙ u.order.homes_same ∙ ap home_count (sym area)

  -- the newest positions, over the numbers of the strip
  kept_same : (area : length e.area ≡ length g.area) (u : Usable g.log g.area g.state) (l' : List ℕ)
      → kept_under l' (state_of e.state) r g.newest ≡ kept_commit final l' (first_for r p) p
  unfolding kept_under kept_commit tags_of live_base lent_on
  kept_same area u l' =
      let x : (state_of e.state).groups ≡ group_count (length e.log) = h.groups ∙ u.order.groups-same ∙ ap group_count (sym h.log) in
      rw (x, homes_same area u, h.newest)

  -- how the call ends
  done-with : Usable g.log g.area g.state → (answer m k c' figure size : ℕ) (b s' p' l' b' : List ℕ) → answer ≡ 0
      → m ≡ length (batch_bytes e.records) → b ≡ puts g.batch 0 (batch_bytes e.records)
      → Committed k s' p' l' b' e.state g.newest e.log b g.area (state_of e.state) r g.writer
      → (c' ≡ 0) × (figure ≡ p + 1) × (size ≡ m + k)
      → leaves_everything c' figure size l' g.area s' p' g.block b' ≡ outcome g answer (and_then g e (commit_held final r p))
  unfolding and_then lent_on commit_held log_closing logged_closing
  done-with u answer m k c' figure size b s' p' l' b' z em eb d q =
      let kept : p' ≡ kept_commit final lo.log (first_for r p) p =
      d.newest ∙ kept_same (ap length h.area) u l' ∙ ap (λ y. kept_commit final y (first_for r p) p) d.log in
      done-by g (and_then g e (commit_held final r p)) answer c' figure size l' g.area s' p' g.block b' z q.0 q.1
      (q.2 ∙ rw (em, d.size) (sizes-more e.records lo.records)) d.log (sym h.area) (kept-list _ _ _ _ _ _ _ _ _ d.state d.log (sym h.area) refl kept) kept refl
      (bytes-more g n c e j h (omega arith) word (held_of e.state g.writer) g.batch b b' eb d.batch)

-- the whole call
module _ (g : Given) (c : Several g.log g.state g.block g.writer g.home (length g.block / 64)) where
  abbrev n : ℕ
  n = length g.block / 64

  abbrev e : Effect
  e = stored_first g (length g.block / 64)

  -- what the commit asks for
  pub commit-requires : (m : ℕ) (s l b p : List ℕ) (st : State) (r : Writer) → BatchRoom g.state g.batch (length g.block / 64)
      → length p ≡ 8 * (state_of g.state).homes → length g.area ≡ 64 * (state_of g.state).homes
      → Reached m s l b g.batch (stored_first g (length g.block / 64)) → st ≡ state_of s → r ≡ writer_of s g.writer
      → MayLog l s b st g.writer × Fits st r (next_position st) × (length p ≡ 8 * st.homes) × (length g.area ≡ 64 * st.homes)
  commit-requires m s l b p st r room len area q es er =
      let k = last-store g c n refl c in
      let h = k.1.1 in
      let room' : BatchRoom g.state b n =
      λ x. omega (arith, room x, ap length q.batch, length-puts g.batch 0 (batch_bytes e.records)) in
      let y = may-log g n c e k.0 h (omega (arith, k.1.0)) b room' in
      rw (es, er, q.state, q.log) (y.0, y.1, omega (arith, len, h.homes), omega (arith, area, h.homes))

  pub sizes-few : (m k : ℕ) (s₁ l₁ b₁ s' p' l' b' : List ℕ) (st : State) (r : Writer)
      → Reached m s₁ l₁ b₁ g.batch (stored_first g (length g.block / 64)) → st ≡ state_of s₁ → r ≡ writer_of s₁ g.writer
      → Committed k s' p' l' b' s₁ g.newest l₁ b₁ g.area st r g.writer → m + k ≤ 516
  sizes-few m k s₁ l₁ b₁ s' p' l' b' st r t es er d =
      let i = last-store g c n refl c in
      let d' = rw (es, er, t.state, t.log) at d in
      size_few g n c e i.0 i.1.1 i.1.0 m k t.size d'.size

  pub ends-done : Usable g.log g.area g.state → (answer m k q c' figure size : ℕ) (s₁ l₁ b₁ s' p' l' b' : List ℕ) (st : State) (r : Writer)
      → answer ≡ 0 → Reached m s₁ l₁ b₁ g.batch (stored_first g (length g.block / 64)) → st ≡ state_of s₁ → r ≡ writer_of s₁ g.writer
      → q ≡ next_position st → Committed k s' p' l' b' s₁ g.newest l₁ b₁ g.area st r g.writer → (c' ≡ 0) × (figure ≡ q + 1) × (size ≡ m + k)
      → leaves_everything c' figure size l' g.area s' p' g.block b' ≡ outcome g answer (transact_effect g)
  ends-done u answer m k q c' figure size s₁ l₁ b₁ s' p' l' b' st r z t es er eq d y =
      let i = last-store g c n refl c in
      let d' = rw (es, er, t.state, t.log) at d in
      let f : figure ≡ next_position (state_of e.state) + 1 = y.1 ∙ rw (eq, es, t.state) in
      rw (effect_is g c) (done-with g n c e i.0 i.1.1 i.1.0 u answer m k c' figure size b₁ s' p' l' b' z t.size t.batch d' (y.0, f, y.2))

-- ---- its answer

module _ (l a s p x b : List ℕ) (w h : ℕ) where
  homes-only : (v : ℕ) → ask_homes (lent_all l a s p x b w h) v ≡ ask_homes (lent_all l a s p x [] w h) v
  unfolding ask_homes areas_right state_right newest_right blocks_right blocks_lent state_in_order writer_known homes_known
  homes-only v = refl

  stores-are : may_store_all (lent_all l a s p x b w h) ≡ all_of (store_test l a s p w) h (length x / 64)
  unfolding may_store_all blocks_lent
  stores-are = rw (read-list-same l a s p x b w h w 0)

  module _ (r : ℕ) (e : r ≡ ask_homes (lent_all l a s p x [] w h) 0) where
    pub transact-first : r ≢ 0 → r ≡ transact_answer (lent_all l a s p x b w h) (size_of (transact_effect (lent_all l a s p x b w h)))
    unfolding transact_answer
    transact-first n = homes-refuse (lent_all l a s p x b w h) r _ (e ∙ sym (homes-only 0)) n

    module _ (z : r ≡ 0) where
      lent-homes : HomesLent (lent_all l a s p x b w h)
      lent-homes = homes-lent (lent_all l a s p x b w h) (homes-only 0 ∙ sym e ∙ z)

      pub asks-rights : Usable l a s × (length p ≡ 8 * home_count (length a)) × (w < 8) × (h + length x / 64 ≤ home_count (length a))
      asks-rights = (lent-homes.usable, lent-homes.newest, lent-homes.writer, lent-homes.homes)

      pub asks-room : (1 ≤ length x / 64) × (length x / 64 ≤ 7)
      asks-room = (lent-homes.least, lent-homes.most)

      module _ (t : Bool) (k : t ≡ all_of (store_test l a s p w) h (length x / 64)) where
        pub stores-no : not t ≡ true → 19 ≡ transact_answer (lent_all l a s p x b w h) (size_of (transact_effect (lent_all l a s p x b w h)))
        unfolding transact_answer
        stores-no q =
            sym (homes-pass (lent_all l a s p x b w h) _ (homes-only 0 ∙ sym e ∙ z) ∙ ask-no _ 19 _ (stores-are ∙ sym k ∙ not-true t q))

        module _ (q : not t ≡ false) (rec : Writer) (o : Bool) (er : rec ≡ writer_of s w) (eo : o ≡ is_open_now rec) where
          rest : (size : ℕ) → transact_answer (lent_all l a s p x b w h) size
              ≡ ask (not (is_open_now (writer_of s w))) 6 (ask (leb (length x / 64) (free_places s)) 8 (ask (leb size (length b)) 9 0))
          unfolding transact_answer writer_open room_for_all blocks_lent batch_fits
          rest size =
              homes-pass (lent_all l a s p x b w h) _ (homes-only 0 ∙ sym e ∙ z) ∙ ask-yes _ 19 _ (stores-are ∙ sym k ∙ not-false t q)

          open_is : (v : Bool) → o ≡ v → is_open_now (writer_of s w) ≡ v
          open_is v i = ap is_open_now (sym er) ∙ sym eo ∙ i

          pub open_no : o ≡ true → 6 ≡ transact_answer (lent_all l a s p x b w h) (size_of (transact_effect (lent_all l a s p x b w h)))
          open_no i = sym (rest _ ∙ ask-no _ 6 _ (rw (open_is true i)))

          pub room-asks : (st : State) (y : ℕ) → o ≡ false → st ≡ state_of s
              → y ≡ ask (leb (length x / 64) (free_places s)) 8 (ask (leb (cond (leb 7 (st.filled + length x / 64)) 516 0) (length b)) 9 0)
              → y ≡ transact_answer (lent_all l a s p x b w h) (size_of (transact_effect (lent_all l a s p x b w h)))
          room-asks st y i es ey =
              (rw es at ey) ∙ go (leb (length x / 64) (free_places s)) refl ∙ sym (rest _ ∙ ask-yes _ 6 _ (rw (open_is false i)))
            where
              go : (f : Bool) → leb (length x / 64) (free_places s) ≡ f
                  → ask (leb (length x / 64) (free_places s)) 8 (ask (leb (cond (leb 7 ((state_of s).filled + length x / 64)) 516 0) (length b)) 9 0)
                  ≡ ask (leb (length x / 64) (free_places s)) 8 (ask (leb (size_of (transact_effect (lent_all l a s p x b w h))) (length b)) 9 0)
              go true f = rw (size_is (lent_all l a s p x b w h) (chain-lent (lent_all l a s p x b w h) lent-homes f))
              go false f = ask-no _ 8 _ f ∙ sym (ask-no _ 8 _ f)

  -- ---- how it ends

  module _ (code : ℕ) (e : code ≡ transact_answer (lent_all l a s p x b w h) (size_of (transact_effect (lent_all l a s p x b w h)))) where
    pub transact-refused : (c figure size : ℕ) → code ≢ 0 → (c ≡ code) × (figure ≡ 0) × (size ≡ 0)
        → leaves_everything c figure size l a s p x b ≡ transact_call (lent_all l a s p x b w h)
    unfolding transact_call
    transact-refused c figure size n q =
        refused-by (lent_all l a s p x b w h) (transact_effect (lent_all l a s p x b w h)) _ c figure size (q.0 ∙ e) (λ z. n (sym q.0 ∙ z)) q.1 q.2

    module _ (z : code ≡ 0) where
      passed : HomesLent (lent_all l a s p x b w h) × (leb (length x / 64) (free_places s) ≡ true)
          × (leb (size_of (transact_effect (lent_all l a s p x b w h))) (length b) ≡ true)
      unfolding transact_answer room_for_all blocks_lent batch_fits
      passed =
          let k = homes-first (lent_all l a s p x b w h) _ (sym e ∙ z) in
          let i = ask-passed (may_store_all (lent_all l a s p x b w h)) 18 _ k.1 in
          let o = ask-passed (not (writer_open (lent_all l a s p x b w h))) 5 _ i.1 in
          let f = ask-passed (leb (length x / 64) (free_places s)) 7 _ o.1 in
          let y = ask-passed _ 8 _ f.1 in
          (homes-lent (lent_all l a s p x b w h) k.0, f.0, y.0)

      pub chain-is : Several l s x w h (length x / 64)
      chain-is = chain-lent (lent_all l a s p x b w h) passed.0 passed.1

      pub room-is : BatchRoom s b (length x / 64)
      room-is k =
          let i : size_of (transact_effect (lent_all l a s p x b w h)) ≡ 516 =
          size_is (lent_all l a s p x b w h) chain-is ∙ rw (le-leb 7 ((state_of s).filled + length x / 64) k) in
          let k' : size_of (transact_effect (lent_all l a s p x b w h)) ≤ length b = leb-true (size_of (transact_effect (lent_all l a s p x b w h))) (length b) passed.2 in
          omega (arith, i, k')

      module _ (m : ℕ) (s₁ l₁ b₁ : List ℕ) (st : State) (rec : Writer)
          (t : (a p : List ℕ) → Reached m s₁ l₁ b₁ b (stored_first (lent_all l a s p x b w h) (length x / 64))) (es : st ≡ state_of s₁) (er : rec ≡ writer_of s₁ w) where
        pub held : MayLog l₁ s₁ b₁ st w × Fits st rec (next_position st) × (length p ≡ 8 * st.homes) × (length a ≡ 64 * st.homes)
        held =
            let u = passed.0.usable in
            commit-requires (lent_all l a s p x b w h) chain-is m s₁ l₁ b₁ p st rec room-is (passed.0.newest ∙ ap (λ n. 8 * n) (sym u.order.homes_same))
            (u.area-length ∙ ap (λ n. 64 * n) (sym u.order.homes_same)) (t a p) es er

        -- its bytes are those of one group at most
        pub stored-size : (k : ℕ) (s' p' l' b' : List ℕ) → Committed k s' p' l' b' s₁ p l₁ b₁ a st rec w → m + k ≤ 516
        stored-size k s' p' l' b' d =
            sizes-few (lent_all l a s p x b w h) chain-is m k s₁ l₁ b₁ s' p' l' b' st rec (t a p) es er d

        pub transact-done : (k q c figure size : ℕ) (s' p' l' b' : List ℕ) → q ≡ next_position st → Committed k s' p' l' b' s₁ p l₁ b₁ a st rec w
            → (c ≡ 0) × (figure ≡ q + 1) × (size ≡ m + k) → leaves_everything c figure size l' a s' p' x b' ≡ transact_call (lent_all l a s p x b w h)
        unfolding transact_call
        transact-done k q c figure size s' p' l' b' eq d y =
            ends-done (lent_all l a s p x b w h) chain-is passed.0.usable _ m k q c figure size s₁ l₁ b₁ s' p' l' b' st rec (sym e ∙ z) (t a p) es er eq d y
