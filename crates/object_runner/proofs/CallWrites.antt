-- What each call of an era writes, call by call.
use Prim.Native.Nat.{ℕ, zero, suc, ◌+◌, ◌-◌, ◌*◌, ◌%◌, ◌≤◌, ◌<◌}
use mathlib.Core.Path.{◌≡◌, refl, sym, ap, ◌∙◌, subst}
use mathlib.Core.Logic.{inl, inr}
use mathlib.Core.Bool.{Bool, true, false, cond, false≢true}
use mathlib.Core.List.{List, [], ◌∷◌, ◌++◌}
use native.Mathlib.Nat.{mod-lt}
use native.Mathlib.Omega.{arith}
use lib.Dec.{eqb, leb}
use lib.ListN.{length, take}
use borrow.Author.Tests.{ltb-true, eqb-true, eqb-false, ne_eqb}
use Rattle.model.specs.Bytes.{part, puts, same}
use Rattle.model.specs.Layout.{home_count, group_mark, group_at, put_blank, header}
use Rattle.model.specs.Tag.{entry_word, closing_word}
use Rattle.model.specs.Batch.{Record, GW, HW, KW, FN}
use Rattle.model.specs.State.{state_of, writer_of, held_of, holds, first_for, count_for, next_position}
use Rattle.model.specs.declared.State.{State}
use Rattle.model.specs.declared.Writer.{Writer}
use Rattle.model.specs.Commit.{transactions}
use Rattle.model.specs.Given.{groups, homes, live_tags, live_base}
use Rattle.model.specs.Effects.{Given, Effect, new_state, touched, touched_from, home_writes, entered, logged, log_held, link_from, log_closing, begin_effect, reserve_effect, abort_effect, store_first, store_again, store_other, store_effect, commit_held, commit_effect, flush_none, flush_part, flush_effect, confirm_effect, settle_effect, begin_round_effect, round_homes, step_homes, step_round_effect, trim_start, trim_to, trim_effect, read_effect}
use Rattle.model.specs.Questions.{writer_known, store_logs, commit_logs, room, store_answer, commit_answer}
use Rattle.model.specs.Calls.{size_of}
use Rattle.model.specs.History.{begins, reserves, aborts, stores, commits, flushes, settles, round_begins, round_steps, trims, reads, Call, opening, confirm, change, service, World, lent, is_opening}
use Rattle.model_laws.proofs.bytes.LayoutLaws.{homes_in, length-group_at, group-fits, group-header, length-header, blank-other, entry-same, entry_other, enter-mark, ring}
use Rattle.model_laws.proofs.state.BatchLaws.{AllFormed}
use Rattle.model_laws.proofs.state.LoggingLaws.{fits, held-size, logged-log, logged-records}
use Rattle.model_laws.proofs.state.OrderLaws.{place-below}
use Rattle.model_laws.proofs.state.QuestionLaws.{Roomy, room-true, StoreReady, CommitReady, store-ready, commit-ready, flush-ready, settle-ready, step-round-ready, trim-ready}
use Rattle.model_laws.proofs.trace.TraceLaws.{All}
use Rattle.model_laws.proofs.trace.HomeLaws.{In, in-marked}
use Rattle.theorems.proofs.invariant.Invariant.{Sizes, Holds, Running}
use Rattle.theorems.proofs.steps.CallRuns.{no_bytes}
use Rattle.theorems.proofs.steps.FormedLaws.{store-formed, commit-formed}
use Rattle.theorems.proofs.steps.SettleRuns.{settle-formed}
use Rattle.theorems.proofs.steps.RoundRuns.{lent-within, step-round-formed}
use Rattle.theorems.proofs.steps.Rows.{row_of}
use Rattle.object.proofs.ChopLaws.{all_append}
use Rattle.object.proofs.WordSteps.{step-records, trim-none, trim-header, flush-none, flush-part}
use Rattle.object_runner.specs.Moves.{Fitting}
use Rattle.object_runner.proofs.WaitingLaws.{Plain}
use Rattle.object_runner.proofs.DueSteps.{headed_of, start-headed, Written}

-- ---- records in the store's shape

abbrev pub InStore : ℕ → ℕ → Record → Type 0
InStore G D (GW slot group) = slot < G
InStore G D (HW home block) = home < D
InStore G D (KW header) = Unit {0}
InStore G D FN = Unit {0}

pub fitting-formed : (G D : ℕ) (rs : List Record) → AllFormed rs → All (InStore G D) rs → Fitting G D rs
fitting-formed G D [] f i = tt
fitting-formed G D (GW slot group ∷ rs) f i = ((i.0, f.0.1), fitting-formed G D rs f.1 i.1)
fitting-formed G D (HW home block ∷ rs) f i = ((i.0, f.0.1), fitting-formed G D rs f.1 i.1)
fitting-formed G D (KW header ∷ rs) f i = (f.0, fitting-formed G D rs f.1 i.1)
fitting-formed G D (FN ∷ rs) f i = fitting-formed G D rs f.1 i.1

pub homes-inside : (G D : ℕ) (area hs : List ℕ) → ((h : ℕ) → In h hs → h < D) → All (InStore G D) (home_writes area hs)
unfolding home_writes
homes-inside G D area [] b = tt
homes-inside G D area (x ∷ hs) b = (b x (inl refl), homes-inside G D area hs (λ h i. b h (inr i)))

homes-plain : (area hs : List ℕ) → Plain (home_writes area hs)
unfolding home_writes
homes-plain area [] = tt
homes-plain area (x ∷ hs) = homes-plain area hs

in_take : (h k : ℕ) (xs : List ℕ) → In h (take k xs) → In h xs
in_take h zero xs i = absurd i
in_take h (suc k) [] i = absurd i
in_take h (suc k) (x ∷ xs) (inl e) = inl e
in_take h (suc k) (x ∷ xs) (inr i) = inr (in_take h k xs i)

-- an entry logged: the other groups stay, and so does the mark of its own
entered-other : (st : State) (slot : ℕ) (log : List ℕ) (word : ℕ) (block : List ℕ) (n : ℕ) → (n ≡ slot → ⊥) → st.filled ≤ 6 → length block ≡ 64
    → group_at (entered st slot log word block) n ≡ group_at log n
unfolding entered
entered-other st slot log word block n o f size = entry_other _ slot _ st.filled word block n o (omega arith) size ∙ blank (eqb st.filled 0)
  where
    blank : (t : Bool) → group_at (cond t (put_blank log st.groups slot st.next) log) n ≡ group_at log n
    blank true = blank-other log st.groups slot st.next n o
    blank false = refl

entered-mark : (st : State) (slot : ℕ) (log : List ℕ) (word : ℕ) (block : List ℕ) → st.filled ≡ 6
    → part (group_at (entered st slot log word block) slot) 0 2 ≡ part (group_at log slot) 0 2
unfolding entered
entered-mark st slot log word block six =
    let n : eqb st.filled 0 ≡ false = ne_eqb st.filled 0 (λ x. omega (arith, x, six)) in
    rw n (ap (λ (x : List ℕ). part x 0 2) (entry-same log slot _ st.filled word block) ∙ enter-mark (group_at log slot) st.filled _ _)

-- a done call: its batch had room, and what it wrote
pub record Wrote (G D : ℕ) (w : World) (c : Call) : Type 0 where
  pub fit : size_of (row_of w c).effect ≤ length (row_of w c).given.batch
  pub written : Written G D w (row_of w c).effect

writer-lt : (g : Given) → writer_known g ≡ true → g.writer < 8
unfolding writer_known
writer-lt g h = ltb-true g.writer 8 h

module _ (G D : ℕ) (z : Sizes G D) (w : World) (r : Running G D w) where
  abbrev st : State
  st = state_of w.state

  slot_lt : st.next % G < G
  slot_lt = mod-lt st.next {m = G} (omega (arith, z.low))

  position-is : 7 * st.next + st.filled ≡ 7 * r.b + length r.tr
  unfolding next_position
  position-is = r.copies.position

  homes-are : home_count (length w.area) ≡ D
  homes-are = ap home_count r.copies.area_size ∙ homes_in D

  -- nothing
  quiet : (e : Effect) → e.records ≡ [] → e.log ≡ w.log → Written G D w e
  quiet e q l =
      record {
        pre = [];
        last = false;
        is = q;
        what = inl tt;
        kept = λ n a b. ap (λ (x : List ℕ). group_at x (n % G)) l;
        fitting = subst (Fitting G D) (sym q) tt;
      }

  -- homes, and perhaps a fence
  fence-inside : (t : Bool) → All (InStore G D) (cond t (FN ∷ []) [])
  fence-inside true = (tt, tt)
  fence-inside false = tt

  homes-wrote : (e : Effect) (area hs : List ℕ) (t : Bool) → e.records ≡ home_writes area hs ++ cond t (FN ∷ []) [] → e.log ≡ w.log
      → AllFormed e.records → ((h : ℕ) → In h hs → h < D) → Written G D w e
  homes-wrote e area hs t q l f b =
      record {
        pre = home_writes area hs;
        last = t;
        is = q;
        what = inl (homes-plain area hs);
        kept = λ n a b. ap (λ (x : List ℕ). group_at x (n % G)) l;
        fitting =
            fitting-formed G D e.records f
            (subst (All (InStore G D)) (sym q) (all_append (InStore G D) (home_writes area hs) (cond t (FN ∷ []) []) (homes-inside G D area hs b) (fence-inside t)));
      }

  -- ---- an entry logged

  module _ (roomy : st.next < st.start + G) where
    other-slot : (n : ℕ) → headed_of w ≤ n → n < st.next → n % G ≡ st.next % G → ⊥
    other-slot n a b q =
        let k : n ≡ st.next =
        ring st.start G n st.next (omega (arith, start-headed G D w r)) (omega arith) (omega (arith, start-headed G D w r)) (omega arith) q in
        omega arith

    logged-wrote : (e : Effect) (word : ℕ) (block : List ℕ) → length block ≡ 64 → e.records ≡ (logged w.state w.log word block).records
        → e.log ≡ (logged w.state w.log word block).log → AllFormed e.records → Written G D w e
    logged-wrote e word block size q l f = go (eqb st.filled 6) refl
      where
        slot : ℕ
        slot = st.next % G

        same-groups : st.next % st.groups ≡ slot
        same-groups = ap (λ (x : ℕ). st.next % x) r.copies.order.groups-same

        log_is : e.log ≡ entered st slot w.log word block
        log_is = l ∙ logged-log w.state w.log word block ∙ ap (λ (x : ℕ). entered st x w.log word block) same-groups

        records-are : (t : Bool) → eqb st.filled 6 ≡ t → e.records ≡ cond t (GW slot (group_at e.log slot) ∷ []) []
        records-are t s =
            q ∙ logged-records w.state w.log word block
            ∙ ap (λ (x : List ℕ). cond (eqb st.filled 6) (GW (st.next % st.groups) (group_at x (st.next % st.groups)) ∷ []) []) (sym l)
            ∙ ap (λ (x : ℕ). cond (eqb st.filled 6) (GW x (group_at e.log x) ∷ []) []) same-groups
            ∙ ap (λ (x : Bool). cond x (GW slot (group_at e.log slot) ∷ []) []) s

        kept-other : (n : ℕ) → headed_of w ≤ n → n < st.next → group_at e.log (n % G) ≡ group_at w.log (n % G)
        kept-other n a b =
            ap (λ (x : List ℕ). group_at x (n % G)) log_is
            ∙ entered-other st slot w.log word block (n % G) (other-slot n a b) r.copies.order.filled-most size

        has-mark : eqb st.filled 6 ≡ true → same (part (group_at e.log slot) 0 2) group_mark ≡ true
        has-mark t =
            let six : st.filled ≡ 6 = eqb-true st.filled 6 t in
            let h : Holds G (7 * r.b) r.tr (group_at w.log slot) st.next =
            r.copies.groups st.next r.copies.order.start-next (omega (arith, position-is, six)) in
            ap (λ (x : List ℕ). same (part (group_at x slot) 0 2) group_mark) log_is
            ∙ ap (λ (x : List ℕ). same x group_mark) (entered-mark st slot w.log word block six) ∙ h.mark

        go : (t : Bool) → eqb st.filled 6 ≡ t → Written G D w e
        go true t =
            record {
              pre = GW slot (group_at e.log slot) ∷ [];
              last = false;
              is = records-are true t;
              what = inr (record { one = refl; marked = has-mark t });
              kept = kept-other;
              fitting = fitting-formed G D e.records f (subst (All (InStore G D)) (sym (records-are true t)) (slot_lt, tt));
            }
        go false t =
            record {
              pre = [];
              last = false;
              is = records-are false t;
              what = inl tt;
              kept = kept-other;
              fitting = subst (Fitting G D) (sym (records-are false t)) tt;
            }

  room_of : (v : ℕ) → v < 8 → Roomy w.state v → st.next < st.start + G
  room_of v l h = omega (arith, place-below w.state G D v r.copies.order l h, r.copies.order.groups-same)

  held-long : (v : ℕ) → v < 8 → length (held_of w.state v) ≡ 64
  held-long v l = held-size w.state v r.copies.state_size l

  -- ---- store and commit

  store_wrote : (v home : ℕ) (block batch : List ℕ) → store_answer (lent w block batch v home) (size_of (store_effect (lent w block batch v home))) ≡ 0
      → Written G D w (store_effect (lent w block batch v home))
  store_wrote v home block batch a = go (holds x) refl (eqb x.home home) refl
    where
      g : Given
      g = lent w block batch v home

      x : Writer
      x = writer_of w.state v

      k : StoreReady g (size_of (store_effect g))
      k = store-ready g (size_of (store_effect g)) a

      P : ℕ
      P = next_position (state_of w.state)

      v-lt : v < 8
      v-lt = unfold lent in writer-lt g k.writer

      go : (t : Bool) → holds x ≡ t → (u : Bool) → eqb x.home home ≡ u → Written G D w (store_effect g)
      go false h u f =
          let e : store_effect g ≡ store_first g = unfold store_effect lent in rw h in
          quiet (store_effect g) (ap (λ (y : Effect). y.records) e ∙ (unfold store_first new_state in refl)) (ap (λ (y : Effect). y.log) e ∙ (unfold store_first new_state lent in refl))
      go true h true f =
          let e : store_effect g ≡ store_again g = unfold store_effect lent in rw (h, f) in
          quiet (store_effect g) (ap (λ (y : Effect). y.records) e ∙ (unfold store_again new_state in refl)) (ap (λ (y : Effect). y.log) e ∙ (unfold store_again new_state lent in refl))
      go true h false f =
          let e : store_effect g ≡ store_other g x P = unfold store_effect lent in rw (h, f) in
          let m : Roomy w.state v = room-true w.state v (unfold store_logs room lent in k.roomy (rw (h, f))) in
          logged-wrote (room_of v v-lt m) (store_effect g) (entry_word x.home (P - first_for x P)) (held_of w.state v) (held-long v v-lt)
          (ap (λ (y : Effect). y.records) e ∙ (unfold store_other log_held lent in refl)) (ap (λ (y : Effect). y.log) e ∙ (unfold store_other log_held lent in refl))
          (store-formed g (size_of (store_effect g)) a)

  commit-wrote : (v : ℕ) (batch : List ℕ) → commit_answer (lent w [] batch v 0) (size_of (commit_effect (lent w [] batch v 0))) ≡ 0
      → Written G D w (commit_effect (lent w [] batch v 0))
  commit-wrote v batch a = go (holds x) refl
    where
      g : Given
      g = lent w [] batch v 0

      x : Writer
      x = writer_of w.state v

      k : CommitReady g (size_of (commit_effect g))
      k = commit-ready g (size_of (commit_effect g)) a

      P : ℕ
      P = next_position (state_of w.state)

      v-lt : v < 8
      v-lt = unfold lent in writer-lt g k.writer

      go : (t : Bool) → holds x ≡ t → Written G D w (commit_effect g)
      go false h =
          let e : commit_effect g ≡ abort_effect g = unfold commit_effect lent in rw h in
          quiet (commit_effect g) (ap (λ (y : Effect). y.records) e ∙ (unfold abort_effect new_state in refl)) (ap (λ (y : Effect). y.log) e ∙ (unfold abort_effect new_state lent in refl))
      go true h =
          let e : commit_effect g ≡ commit_held g x P = unfold commit_effect lent in rw h in
          let m : Roomy w.state v = room-true w.state v (unfold commit_logs room lent in k.roomy h) in
          logged-wrote (room_of v v-lt m) (commit_effect g) (closing_word x.home (P - first_for x P) (link_from P (state_of w.state)) (count_for x + 1)) (held_of w.state v) (held-long v v-lt)
          (ap (λ (y : Effect). y.records) e ∙ (unfold commit_held log_closing lent in refl)) (ap (λ (y : Effect). y.log) e ∙ (unfold commit_held log_closing lent in refl))
          (commit-formed g (size_of (commit_effect g)) a)

  -- ---- flush

  flush-log : (g : Given) → (flush_effect g).log ≡ g.log
  unfolding flush_effect flush_none flush_part
  flush-log g = go (eqb (state_of g.state).filled 0)
    where
      go : (t : Bool) → (cond t (flush_none g (state_of g.state)) (flush_part g (state_of g.state))).log ≡ g.log
      go true = refl
      go false = refl

  flush-wrote : (batch : List ℕ) → Written G D w (flush_effect (lent w [] batch 0 0))
  unfolding lent
  flush-wrote batch = go (eqb st.filled 0) refl
    where
      g : Given
      g = lent w [] batch 0 0

      slot : ℕ
      slot = st.next % G

      log_is : (flush_effect g).log ≡ w.log
      log_is = flush-log g

      go : (t : Bool) → eqb st.filled 0 ≡ t → Written G D w (flush_effect g)
      go true t =
          record {
            pre = [];
            last = true;
            is = flush-none g t;
            what = inl tt;
            kept = λ n a b. ap (λ (x : List ℕ). group_at x (n % G)) log_is;
            fitting = subst (Fitting G D) (sym (flush-none g t)) tt;
          }
      go false t =
          let some : 0 < st.filled = let q = eqb-false st.filled 0 t in omega arith in
          let h : Holds G (7 * r.b) r.tr (group_at w.log slot) st.next =
          r.copies.groups st.next r.copies.order.start-next (omega (arith, position-is, some)) in
          let q : (flush_effect g).records ≡ GW slot (group_at (flush_effect g).log slot) ∷ FN ∷ [] =
          flush-part g t ∙ ap (λ (x : ℕ). GW (st.next % x) (group_at w.log (st.next % x)) ∷ FN ∷ []) r.copies.order.groups-same
          ∙ ap (λ (x : List ℕ). GW slot (group_at x slot) ∷ FN ∷ []) (sym log_is) in
          record {
            pre = GW slot (group_at (flush_effect g).log slot) ∷ [];
            last = true;
            is = q;
            what = inr (record { one = refl; marked = ap (λ (x : List ℕ). same (part (group_at x slot) 0 2) group_mark) log_is ∙ h.mark });
            kept = λ n a b. ap (λ (x : List ℕ). group_at x (n % G)) log_is;
            fitting =
                subst (Fitting G D) (sym q)
                ((slot_lt, ap (λ (x : List ℕ). length (group_at x slot)) log_is ∙ length-group_at w.log slot (group-fits slot w.log G slot_lt r.copies.log_size)), tt);
          }

  -- ---- settle, a round's step, trim

  settle-log : (g : Given) → (settle_effect g).log ≡ g.log
  unfolding settle_effect
  settle-log g = refl

  step-log : (g : Given) (k : ℕ) → (step_round_effect g k).log ≡ g.log
  unfolding step_round_effect step_homes
  step-log g k = refl

  settle-homes : Given → List ℕ
  settle-homes g = touched (live_tags g) (transactions (live_tags g) (live_base g) ((state_of g.state).fenced - live_base g)) (homes g)

  settle-are : (g : Given) → (settle_effect g).records ≡ home_writes (settle_effect g).area (settle-homes g) ++ (FN ∷ [])
  unfolding settle_effect settle-homes
  settle-are g = refl

  settle-below : (batch : List ℕ) (h : ℕ) → In h (settle-homes (lent w [] batch 0 0)) → h < D
  unfolding settle-homes touched lent
  settle-below batch h i = let k = (in-marked h _ (home_count (length w.area)) i).0 in omega (arith, k, homes-are)

  settle-wrote : (batch : List ℕ) → Written G D w (settle_effect (lent w [] batch 0 0))
  settle-wrote batch =
      let g : Given = lent w [] batch 0 0 in
      homes-wrote (settle_effect g) (settle_effect g).area (settle-homes g) true (settle-are g) (settle-log g ∙ (unfold lent in refl))
      (settle-formed G D z w r batch) (settle-below batch)

  round-below : (batch : List ℕ) (h : ℕ) → In h (round_homes (lent w [] batch 0 0)) → h < D
  unfolding round_homes touched_from lent
  round-below batch h i = let k = (in-marked h _ (home_count (length w.area)) i).0 in omega (arith, k, homes-are)

  step-wrote : (k : ℕ) (batch : List ℕ) → 1 ≤ (state_of w.state).round → 1 ≤ k → Written G D w (step_round_effect (lent w [] batch 0 0) k)
  step-wrote k batch under some =
      let g : Given = lent w [] batch 0 0 in
      homes-wrote (step_round_effect g k) (step_round_effect g k).area (take k (round_homes g)) (leb (length (round_homes g)) k) (step-records g k)
      (step-log g k ∙ (unfold lent in refl)) (step-round-formed G D z w r under k batch some) (λ h i. round-below batch h (in_take h k (round_homes g) i))

  trim-wrote : (batch : List ℕ) (start : ℕ) → Written G D w (trim_effect (lent w [] batch 0 0) start)
  trim-wrote batch start = go (eqb start (state_of g.state).start) refl
    where
      g : Given
      g = lent w [] batch 0 0

      new : List ℕ
      new = header start (groups g) (homes g)

      stays : eqb start (state_of g.state).start ≡ true → (trim_effect g start).log ≡ w.log
      stays t = unfold trim_effect new_state lent in rw t

      moves : eqb start (state_of g.state).start ≡ false → (trim_effect g start).log ≡ puts w.log 0 (header start (groups g) (homes g))
      moves t = unfold trim_effect trim_to lent in rw t

      go : (t : Bool) → eqb start (state_of g.state).start ≡ t → Written G D w (trim_effect g start)
      go true t = quiet (trim_effect g start) (trim-none g start t) (stays t)
      go false t =
          record {
            pre = KW new ∷ [];
            last = true;
            is = trim-header g start t;
            what = inl tt;
            kept = λ n a b.
                ap (λ (x : List ℕ). group_at x (n % G)) (moves t) ∙ group-header w.log new (n % G) (omega (arith, length-header start (groups g) (homes g)));
            fitting = subst (Fitting G D) (sym (trim-header g start t)) (length-header start (groups g) (homes g), tt);
          }

  -- ---- every call but an opening

  none : (c : Call) → (row_of w c).effect.records ≡ [] → (row_of w c).effect.log ≡ w.log → Wrote G D w c
  none c q l = record { fit = no_bytes (row_of w c).given (row_of w c).effect q; written = quiet (row_of w c).effect q l }

  pub call-wrote : (c : Call) → is_opening c ≡ false → (row_of w c).answer ≡ 0 → Wrote G D w c
  unfolding row_of is_opening
  call-wrote (opening state newest batch) o a = absurd (false≢true (sym o))
  call-wrote confirm o a = none confirm (unfold confirm_effect new_state in refl) (unfold confirm_effect new_state lent in refl)
  call-wrote (change (begins v)) o a = none (change (begins v)) (unfold begin_effect new_state in refl) (unfold begin_effect new_state lent in refl)
  call-wrote (change (reserves v n)) o a = none (change (reserves v n)) (unfold reserve_effect new_state in refl) (unfold reserve_effect new_state lent in refl)
  call-wrote (change (aborts v)) o a = none (change (aborts v)) (unfold abort_effect new_state in refl) (unfold abort_effect new_state lent in refl)
  call-wrote (change (stores v home block batch)) o a =
      let g : Given = lent w block batch v home in
      record { fit = fits g (size_of (store_effect g)) (store-ready g (size_of (store_effect g)) a).batch; written = store_wrote v home block batch a }
  call-wrote (change (commits v batch)) o a =
      let g : Given = lent w [] batch v 0 in
      record { fit = fits g (size_of (commit_effect g)) (commit-ready g (size_of (commit_effect g)) a).batch; written = commit-wrote v batch a }
  call-wrote (change (flushes batch)) o a =
      let g : Given = lent w [] batch 0 0 in
      record { fit = fits g (size_of (flush_effect g)) (flush-ready g (size_of (flush_effect g)) a).2; written = flush-wrote batch }
  call-wrote (service (settles batch)) o a =
      let g : Given = lent w [] batch 0 0 in
      record { fit = fits g (size_of (settle_effect g)) (settle-ready g (size_of (settle_effect g)) a).2; written = settle-wrote batch }
  call-wrote (service round_begins) o a = none (service round_begins) (unfold begin_round_effect new_state in refl) (unfold begin_round_effect new_state lent in refl)
  call-wrote (service (round_steps k batch)) o a =
      let g : Given = lent w [] batch 0 0 in
      let q = step-round-ready g k (size_of (step_round_effect g k)) a in
      record { fit = fits g (size_of (step_round_effect g k)) q.3; written = step-wrote k batch (lent-within w batch q.1) q.2 }
  call-wrote (service (trims batch)) o a =
      let g : Given = lent w [] batch 0 0 in
      let s : ℕ = trim_start g in
      record { fit = fits g (size_of (trim_effect g s)) (trim-ready g s (size_of (trim_effect g s)) a).2; written = trim-wrote batch s }
  call-wrote (service (reads v home block)) o a =
      none (service (reads v home block)) (unfold read_effect in refl) (unfold read_effect lent in refl)
