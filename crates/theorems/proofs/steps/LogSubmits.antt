-- A call that logs an entry: the records since the last crash after it.
use mathlib.Core.Path.{◌≡◌, refl, sym, ap, ◌∙◌}
use mathlib.Core.Logic.{◌⊎◌, inl, inr}
use mathlib.Core.Bool.{Bool, true, false, cond, false≢true}
use mathlib.Core.List.{List, [], ◌∷◌, ◌++◌, append-nil, append_assoc}
use Prim.Native.Nat.{ℕ, zero, suc, ◌+◌, ◌-◌, ◌*◌, ◌/◌, ◌%◌, ◌≤◌, ◌<◌}
use native.Mathlib.Numerals.{add-one}
use native.Mathlib.Omega.{arith}
use lib.ListN.{length, drop}
use lib.Dec.{eqb}
use borrow.Author.Tests.{eqb-true, eqb-false, eq-eqb, ne_eqb}
use Rattle.model.specs.Layout.{group_at, header_start}
use Rattle.model.specs.State.{state_of, next_position}
use Rattle.model.specs.declared.State.{State}
use Rattle.model.specs.Batch.{Record, GW, FN}
use Rattle.model.specs.Crash.{Memory, fences, persist, fates}
use Rattle.model.specs.Book.{Commit, fate_at}
use Rattle.model.specs.DemandTwo.{closed_below}
use Rattle.model.specs.History.{World}
use Rattle.model_laws.proofs.trace.CrashLaws.{submits, fate_at-none, group_writes-fence, write_records, write-append}
use Rattle.model_laws.proofs.trace.FateLaws.{fate_at-drop}
use Rattle.model_laws.proofs.trace.SubmitLaws.{area-group}
use Rattle.model_laws.proofs.trace.HomeLaws.{In}
use Rattle.model_laws.proofs.trace.MixLaws.{group_part, home_part, mixed-append, group_part-append, home_part-append}
use Rattle.model_laws.proofs.trace.Trace.{Ev}
use Rattle.theorems.proofs.invariant.GrowLaws.{holds-older}
use Rattle.theorems.proofs.invariant.Invariant.{Holds, HeldHome, ImageOk, Copies, Submitted, Confirmed, OwedBelow}
use Rattle.theorems.proofs.steps.LogRuns.{Advance}

pub submits-same : (G n₀ : ℕ) (f g : ℕ → List ℕ) (k : ℕ) → ((n : ℕ) → n₀ ≤ n → n < n₀ + k → f n ≡ g n) → submits G n₀ f k ≡ submits G n₀ g k
unfolding submits
submits-same G n₀ f g zero h = refl
submits-same G n₀ f g (suc k) h = rw (submits-same G n₀ f g k (λ n a b. h n a (omega arith)), h (n₀ + k) (omega arith) (omega arith))

-- one more group submitted
pub submits-more : (G n₀ : ℕ) (f : ℕ → List ℕ) (k n : ℕ) (g : List ℕ) → n₀ + k ≡ n
    → submits G n₀ (λ x. cond (eqb x n) g (f x)) (k + 1) ≡ submits G n₀ f k ++ (GW (n % G) g ∷ [])
unfolding submits
submits-more G n₀ f k n g e =
    rw (add-one k, e, eq-eqb n n refl, submits-same G n₀ (λ x. cond (eqb x n) g (f x)) f k (λ x a b. rw (ne_eqb x n (λ q. omega arith))))

-- one more group write behind a mixture
pub groups-more : (R : List Record) (slot : ℕ) (group : List ℕ) → group_part (R ++ (GW slot group ∷ [])) ≡ group_part R ++ (GW slot group ∷ [])
unfolding group_part
groups-more R slot group = group_part-append R (GW slot group ∷ [])

pub homes_more : (R : List Record) (slot : ℕ) (group : List ℕ) → home_part (R ++ (GW slot group ∷ [])) ≡ home_part R
unfolding home_part
homes_more R slot group = home_part-append R (GW slot group ∷ []) ∙ append-nil (home_part R)

pub area-more : (R : List Record) (slot : ℕ) (group : List ℕ) (m : Memory)
    → (write_records (R ++ (GW slot group ∷ [])) m).area ≡ (write_records R m).area
area-more R slot group m = ap (λ (x : Memory). x.area) (write-append R (GW slot group ∷ []) m) ∙ area-group slot group (write_records R m)

pub submitted-logged : (G D b : ℕ) (tr : List Ev) (old : List Commit) (w u : World) (e : Ev) (last : ℕ)
    → Submitted G D b tr old w → Copies G D b tr w → Copies G D b (e ∷ tr) u → Advance (state_of w.state) (state_of u.state) last
    → (state_of w.state).next < (state_of w.state).start + G
    → u.pending ≡ w.pending ++ cond (eqb (state_of w.state).filled 6) (GW ((state_of w.state).next % G) (group_at u.log ((state_of w.state).next % G)) ∷ []) []
    → u.memory ≡ w.memory → u.area ≡ w.area
    → ((bound : ℕ) → bound ≤ (state_of w.state).fenced → closed_below bound u.book.commits ≡ closed_below bound w.book.commits)
    → ((m : Memory) (fs : List (ℕ → Bool)) → header_start m.log ≤ (state_of w.state).start → fate_at fs ((7 * b + length tr) / 7 - b) ((7 * b + length tr) % 7) ≡ false
    → ImageOk G D b w.memory.log tr old w.book.commits m fs → ImageOk G D b w.memory.log (e ∷ tr) old u.book.commits m fs)
    → Submitted G D b (e ∷ tr) old u
submitted-logged G D b tr old w u e last s c c' a room up um ua uc ig = go a.moved
  where
    st : State
    st = state_of w.state

    q : 7 * st.next + st.filled ≡ 7 * b + length tr
    q = unfold next_position in c.position

    older : (bytes : List ℕ) (n : ℕ) → n < st.next → Holds G (7 * b) tr bytes n → Holds G (7 * b) (e ∷ tr) bytes n
    older bytes n l h = holds-older G (7 * b) e tr bytes n (omega (arith, q)) h

    homes' : (h : ℕ) → h < D
        → HeldHome D u.book.commits (state_of u.state).settled (7 * s.group) (write_records s.fenced w.memory).area h
    homes' h l =
        let x = s.homes h l in
        (x.0, omega (arith, x.1, a.settled), x.2, x.3 ∙ sym (rw (uc x.0 (omega (arith, x.2, s.at_fence)))))

    behind' : (h : ℕ) → In h s.done → (h < D) × (1 ≤ (state_of u.state).round) × (h < (state_of u.state).cursor)
    behind' = rw (a.round, a.cursor) s.behind

    images' : (passed : ℕ) (chosen : ℕ → Bool) → passed < fences (s.fenced ++ (FN ∷ []))
        → ImageOk G D b w.memory.log (e ∷ tr) old u.book.commits (persist passed chosen (s.fenced ++ (FN ∷ [])) w.memory) (drop G (fates passed chosen (s.fenced ++ (FN ∷ []))))
    images' passed chosen l =
        ig _ _ (s.bounded passed chosen l)
        (fate_at-drop G (fates passed chosen (s.fenced ++ (FN ∷ []))) ((7 * b + length tr) / 7 - b) ((7 * b + length tr) % 7)
        ∙ fate_at-none passed chosen (s.fenced ++ (FN ∷ [])) (G + ((7 * b + length tr) / 7 - b)) ((7 * b + length tr) % 7) (omega (arith, group_writes-fence s.fenced, s.written, s.next, s.low, c.order.filled-most, q)))
        (s.images passed chosen l)

    go : ((st.filled < 6) × ((state_of u.state).next ≡ st.next) × ((state_of u.state).filled ≡ st.filled + 1))
        ⊎ ((st.filled ≡ 6) × ((state_of u.state).next ≡ st.next + 1) × ((state_of u.state).filled ≡ 0)) → Submitted G D b (e ∷ tr) old u
    go (inl h) = record {
      fenced = s.fenced;
      group = s.group;
      count = s.count;
      content = s.content;
      tail = s.tail;
      done = s.done;
      split = up ∙ rw (ne_eqb st.filled 6 (λ z. omega arith)) (append-nil w.pending ∙ s.split);
      mixed = s.mixed;
      groups_of = s.groups_of;
      homes_of = rw ua s.homes_of;
      behind = behind';
      area = rw (um, ua) s.area;
      at_fence = a.fenced ∙ s.at_fence;
      next = s.next ∙ sym h.1;
      low = s.low;
      written = s.written;
      contents = λ n x y. older (s.content n) n (omega (arith, s.next)) (s.contents n x y);
      log_size = rw um s.log_size;
      area_size = rw um s.area_size;
      homes = rw um homes';
      header = rw um s.header;
      start = rw (um, a.start) s.start;
      numbers = rw um s.numbers;
      there = rw (um, a.start) (λ n x y. older _ n (omega (arith, s.next)) (s.there n x y));
      turned = rw (um, a.start) s.turned;
      images = rw um images';
      bounded = rw (um, a.start) s.bounded;
    }
    go (inr h) = record {
      fenced = s.fenced;
      group = s.group;
      count = s.count + 1;
      content = λ x. cond (eqb x st.next) (group_at u.log (st.next % G)) (s.content x);
      tail = s.tail ++ more;
      done = s.done;
      split = up ∙ rw (eq-eqb st.filled 6 h.0, s.split) (append_assoc (s.fenced ++ (FN ∷ [])) s.tail more);
      mixed = mixed-append s.tail more s.mixed tt;
      groups_of = groups-more s.tail (st.next % G) (group_at u.log (st.next % G)) ∙ rw s.groups_of (sym (submits-more G s.group s.content s.count st.next (group_at u.log (st.next % G)) s.next));
      homes_of = homes_more s.tail (st.next % G) (group_at u.log (st.next % G)) ∙ rw ua s.homes_of;
      behind = behind';
      area = rw (um, ua) (area-more s.tail (st.next % G) (group_at u.log (st.next % G)) (write_records s.fenced w.memory) ∙ s.area);
      at_fence = a.fenced ∙ s.at_fence;
      next = omega (arith, s.next);
      low = s.low;
      written = s.written;
      contents = λ n x y. sub n x y (eqb n st.next) refl;
      log_size = rw um s.log_size;
      area_size = rw um s.area_size;
      homes = rw um homes';
      header = rw um s.header;
      start = rw (um, a.start) s.start;
      numbers = rw um s.numbers;
      there = rw (um, a.start) (λ n x y. older _ n (omega (arith, s.next)) (s.there n x y));
      turned = rw (um, a.start) s.turned;
      images = rw um images';
      bounded = rw (um, a.start) s.bounded;
    }
      where
        more : List Record
        more = GW (st.next % G) (group_at u.log (st.next % G)) ∷ []

        sub : (n : ℕ) → s.group ≤ n → n < s.group + (s.count + 1) → (t : Bool) → eqb n st.next ≡ t
            → Holds G (7 * b) (e ∷ tr) (cond t (group_at u.log (st.next % G)) (s.content n)) n
        sub n x y true k =
            let z : n ≡ st.next = eqb-true n st.next k in
            rw z (c'.groups st.next (omega (arith, a.start, c.order.start-next)) (omega (arith, q)))
        sub n x y false k =
            let z = eqb-false n st.next k in
            older (s.content n) n (omega (arith, s.next)) (s.contents n x (omega (arith, s.next)))

-- more records are pending
pub confirmed-more : (G b : ℕ) (w u : World) (rs : List Record) → Confirmed G b w → u.pending ≡ w.pending ++ rs → u.passed ≡ w.passed
    → (state_of w.state).fenced ≤ (state_of u.state).fenced
    → ((bound : ℕ) → OwedBelow bound w.book.commits → OwedBelow bound u.book.commits) → Confirmed G b u
confirmed-more G b w u rs c ep eq ef eo =
    record {
      before = c.before;
      after = c.after ++ rs;
      split = ep ∙ rw c.split (append_assoc c.before c.after rs);
      count = c.count ∙ sym eq;
      ends = c.ends;
      owed = eo _ c.owed;
      reached = omega (arith, c.reached);
    }

pub owed-snoc : (bound : ℕ) (cs : List Commit) (c : Commit) → c.owed ≡ false → OwedBelow bound cs → OwedBelow bound (cs ++ (c ∷ []))
owed-snoc bound [] c e o = ((λ h. absurd (false≢true (sym e ∙ h))), tt)
owed-snoc bound (x ∷ cs) c e o = (o.0, owed-snoc bound cs c e o.1)
