-- What a done settle and a done confirm yield in the book's terms, and the strip that every call of an era finds in order. Assumes nothing.
use Prim.Native.Nat.{ℕ, ◌+◌, ◌-◌, ◌*◌, ◌/◌, ◌≤◌, ◌<◌}
use mathlib.Core.Path.{◌≡◌, refl, sym, ap, ◌∙◌, subst}
use mathlib.Core.Bool.{Bool, true, false, ◌&&◌, and-true}
use mathlib.Core.List.{List, [], ◌∷◌, ◌++◌}
use native.Mathlib.Omega.{arith}
use native.Mathlib.Decide.{dec_lt}
use lib.Dec.{leb, ltb}
use lib.ListN.{length}
use borrow.Author.Tests.{le-leb, lt-ltb, le-ltb}
use Rattle.model.specs.Layout.{group_count}
use Rattle.model.specs.Batch.{Record, FN}
use Rattle.model.specs.State.{state_of, set_round, set_cursor, fixed_in, is_in_order}
use Rattle.model.specs.declared.State.{State}
use Rattle.model.specs.Effects.{Given, Effect, new_state, confirm_effect, settle_effect, begin_round_effect, step_round_effect}
use Rattle.model.specs.Questions.{confirm_answer, settle_answer, begin_round_answer, step_round_answer}
use Rattle.model.specs.Calls.{Outcome, outcome, done, size_of, confirm_call, settle_call, begin_round_call, step_round_call}
use Rattle.model.specs.Crash.{is_fence, fences}
use Rattle.model.specs.Book.{Entry, Commit, homes_after, owed_by}
use Rattle.model.specs.DemandTwo.{closed_below, group_writes, fenced_rows, rows_fenced, lands_below, all_below, owed_rows, SettledHomes}
use Rattle.model.specs.History.{confirm, settle, World, lent, ends, service_ends, begin_round, step_round}
use Rattle.model_laws.proofs.bytes.LayoutLaws.{groups-in}
use Rattle.model_laws.proofs.state.OrderLaws.{order-in}
use Rattle.model_laws.proofs.trace.CrashLaws.{NoFence, fences-append, fences-none, group_writes-append, group_writes-fence}
use Rattle.model_laws.proofs.trace.MixLaws.{none-mixed}
use Rattle.theorems.proofs.steps.FenceRuns.{tail-groups}
use Rattle.model_laws.proofs.trace.Trace.{Ev, hist, closer_of}
use Rattle.model_laws.proofs.trace.TraceLaws.{All, Falling, Long, done-falling, done-long}
use Rattle.theorems.proofs.invariant.RunLaws.{ticket-below}
use Rattle.theorems.proofs.steps.DoneLaws.{outcome-code, outcome-done}
use Rattle.theorems.proofs.steps.SettleRuns as settles
use Rattle.theorems.proofs.steps.FenceRuns.{lasting-groups}
use Rattle.theorems.proofs.steps.RoundRuns.{lent_out, lent-within, begun-numbers, step-yields}
use Rattle.model_laws.proofs.state.QuestionLaws.{begin-round-ready, step-round-ready}
use Rattle.model_laws.proofs.state.StateLaws.{with_round, with_cursor}
use Rattle.theorems.proofs.invariant.Invariant.{Sizes, entry_for, entries_for, Matches, OldCommits, Commits, Running}

-- an answer of 0 is a done call
pub ends-done : (o : Outcome) (g : Given) (a : ℕ) (e : Effect) → o ≡ outcome g a e → o.code ≡ 0 → o ≡ done g e
ends-done o g a e q h = q ∙ outcome-done g a e (sym (outcome-code g a e) ∙ ap (λ (x : Outcome). x.code) (sym q) ∙ h)

-- ---- the rows submitted before the last fence

none-fenced : (S : List Record) → NoFence S → fenced_rows S ≡ 0
unfolding fenced_rows
none-fenced [] f = refl
none-fenced (r ∷ S) f = rw (fences-none (r ∷ S) f)

fenced-cons : (r : Record) (T : List Record) → 1 ≤ fences (r ∷ T) → fenced_rows (r ∷ T) ≡ group_writes (r ∷ []) + fenced_rows T
unfolding fenced_rows
fenced-cons r T l = rw (le-leb 1 (fences (r ∷ T)) l)

writes-cons : (r : Record) (T : List Record) → group_writes (r ∷ T) ≡ group_writes (r ∷ []) + group_writes T
writes-cons r T = group_writes-append (r ∷ []) T

pub fenced-rows : (R S : List Record) → NoFence S → fenced_rows ((R ++ (FN ∷ [])) ++ S) ≡ group_writes R
unfolding fences is_fence
fenced-rows [] S f =
    fenced-cons FN S (omega arith) ∙ (unfold group_writes in omega (arith, none-fenced S f))
fenced-rows (r ∷ R) S f =
    let l : 1 ≤ fences ((R ++ (FN ∷ [])) ++ S) = omega (arith, fences-append (R ++ (FN ∷ [])) S, fences-append R (FN ∷ [])) in
    fenced-cons r ((R ++ (FN ∷ [])) ++ S) (omega arith) ∙ rw (fenced-rows R S f, writes-cons r R)

-- ---- the entries of a commit, by the rows they are in

below-append : (n : ℕ) (xs ys : List Entry) → all_below n (xs ++ ys) ≡ (all_below n xs && all_below n ys)
unfolding all_below
below-append n [] ys = refl
below-append n (e ∷ xs) ys = go (lands_below n e.landing) (below-append n xs ys)
  where
    go : (d : Bool) → all_below n (xs ++ ys) ≡ (all_below n xs && all_below n ys)
        → (d && all_below n (xs ++ ys)) ≡ ((d && all_below n xs) && all_below n ys)
    go true h = h
    go false h = refl

-- a position of the era lies in a row below group - b just if it lies below the group
row_below : (b group p : ℕ) → 7 * b ≤ p → ltb (p / 7 - b) (group - b) ≡ ltb p (7 * group)
row_below b group p l = go (dec_lt p (7 * group))
  where
    go : Dec (p < 7 * group) → ltb (p / 7 - b) (group - b) ≡ ltb p (7 * group)
    go (yes h) = lt-ltb (p / 7 - b) (group - b) (omega arith) ∙ sym (lt-ltb p (7 * group) h)
    go (no h) = le-ltb (p / 7 - b) (group - b) (omega arith) ∙ sym (le-ltb p (7 * group) (omega arith))

below-cons : (b group : ℕ) (tr : List Ev) (p : ℕ) (ps : List ℕ) → 7 * b ≤ p
    → all_below (group - b) (entries_for b tr (p ∷ ps)) ≡ (all_below (group - b) (entries_for b tr ps) && ltb p (7 * group))
unfolding entries_for entry_for all_below lands_below
below-cons b group tr p ps l =
    below-append (group - b) (entries_for b tr ps) (entry_for b tr p ∷ [])
    ∙ rw (and-true (ltb (p / 7 - b) (group - b)), row_below b group p l)

below_all : (b group : ℕ) (tr : List Ev) (high : ℕ) (ps : List ℕ) → Falling (7 * b) high ps → high ≤ 7 * group
    → all_below (group - b) (entries_for b tr ps) ≡ true
below_all b group tr high [] f l = unfold entries_for all_below in refl
below_all b group tr high (p ∷ ps) f l =
    below-cons b group tr p ps f.0
    ∙ rw (below_all b group tr p ps f.2 (omega arith), lt-ltb p (7 * group) (omega arith))

-- a transaction's closing entry is its last
pub below-closer : (b group : ℕ) (tr : List Ev) (high : ℕ) (t : List ℕ) → Long t → Falling (7 * b) high t
    → all_below (group - b) (entries_for b tr t) ≡ ltb (closer_of t) (7 * group)
unfolding closer_of
below-closer b group tr high [] l f = absurd l
below-closer b group tr high (p ∷ ps) l f = below-cons b group tr p ps f.0 ∙ go (dec_lt p (7 * group))
  where
    none : (d : Bool) → (d && false) ≡ false
    none true = refl
    none false = refl

    go : Dec (p < 7 * group) → (all_below (group - b) (entries_for b tr ps) && ltb p (7 * group)) ≡ ltb p (7 * group)
    go (yes h) = rw (below_all b group tr p ps f.2 (omega arith))
    go (no h) = rw (le-ltb p (7 * group) (omega arith)) (none (all_below (group - b) (entries_for b tr ps)))

-- ---- confirmed durable, by tickets and by rows

-- commits whose tickets a crash has ended are owed
abbrev pub PastOwed : List Commit → Type 0
PastOwed [] = Unit {0}
PastOwed (c ∷ cs) = (c.ticket ≡ 0 → c.owed ≡ true) × PastOwed cs

owed-new : (b group : ℕ) (tr : List Ev) (high : ℕ) (cs : List Commit) (ts : List (List ℕ)) → Matches b tr cs ts → All Long ts
    → All (Falling (7 * b) high) ts → owed_by (7 * group) cs ≡ owed_rows (group - b) cs
unfolding owed_by owed_rows
owed-new b group tr high [] ts m l f = refl
owed-new b group tr high (c ∷ cs) [] m l f = absurd m
owed-new b group tr high (c ∷ cs) (t ∷ ts) m l f =
    let q : leb c.ticket (7 * group) ≡ ltb (closer_of t) (7 * group) = ap (λ x. leb x (7 * group)) m.1 ∙ ticket-below (closer_of t) (7 * group) in
    let e : all_below (group - b) c.entries ≡ ltb (closer_of t) (7 * group) = ap (all_below (group - b)) m.0 ∙ below-closer b group tr high t l.0 f.0 in
    rw (q, e, le-leb 1 c.ticket (omega (arith, m.1)), owed-new b group tr high cs ts m.2 l.1 f.1)

owed-past : (D mark rows : ℕ) (old xs ys : List Commit) → OldCommits D old → PastOwed old → xs ≡ ys
    → owed_by mark old ++ xs ≡ owed_rows rows old ++ ys
unfolding owed_by owed_rows
owed-past D mark rows [] xs ys o p e = e
owed-past D mark rows (c ∷ cs) xs ys o p e = rw (p.0 o.0, owed-past D mark rows cs xs ys o.2 p.1 e)

by_append : (mark : ℕ) (xs ys : List Commit) → owed_by mark (xs ++ ys) ≡ owed_by mark xs ++ owed_by mark ys
unfolding owed_by
by_append mark [] ys = refl
by_append mark (c ∷ xs) ys = rw (by_append mark xs ys)

rows_append : (rows : ℕ) (xs ys : List Commit) → owed_rows rows (xs ++ ys) ≡ owed_rows rows xs ++ owed_rows rows ys
unfolding owed_rows
rows_append rows [] ys = refl
rows_append rows (c ∷ xs) ys = rw (rows_append rows xs ys)

past-left : (xs ys : List Commit) → PastOwed (xs ++ ys) → PastOwed xs
past-left [] ys p = tt
past-left (c ∷ xs) ys p = (p.0, past-left xs ys p.1)

pub owed_same : (D b group : ℕ) (tr : List Ev) (old commits : List Commit) → Commits D b tr old commits → PastOwed commits
    → owed_by (7 * group) commits ≡ owed_rows (group - b) commits
owed_same D b group tr old commits k p =
    let n : owed_by (7 * group) k.new ≡ owed_rows (group - b) k.new =
    owed-new b group tr (7 * b + length tr) k.new (hist (7 * b) tr).done k.matches (done-long (7 * b) tr) (done-falling (7 * b) tr) in
    ap (owed_by (7 * group)) k.split ∙ by_append (7 * group) old k.new
    ∙ owed-past D (7 * group) (group - b) old (owed_by (7 * group) k.new) (owed_rows (group - b) k.new) k.past
    (past-left old k.new (rw k.split at p)) n
    ∙ sym (rows_append (group - b) old k.new) ∙ ap (owed_rows (group - b)) (sym k.split)

-- ---- in an era

module _ (G D : ℕ) (z : Sizes G D) (w : World) (r : Running G D w) where
  pub groups-are : group_count (length w.log) ≡ G
  groups-are = ap group_count r.copies.log_size ∙ groups-in G

  -- the strip is in order
  pub state-in-order : is_in_order w.state (group_count (length w.log)) w.homes ≡ true
  state-in-order = rw (groups-are, r.copies.homes) (order-in w.state G D r.copies.order)

  -- the rows submitted since the last crash, and those before the last fence
  lasting : group_count (length w.memory.log) ≡ G
  lasting = lasting-groups G D r.b r.tr r.old w r.submitted

  pub rows-pending : w.book.rows ≡ group_writes w.pending - group_count (length w.memory.log)
  rows-pending =
      let s = r.submitted in
      let n : group_writes ((s.fenced ++ (FN ∷ [])) ++ s.tail) ≡ group_writes s.fenced + s.count =
      group_writes-append (s.fenced ++ (FN ∷ [])) s.tail
      ∙ rw (group_writes-fence s.fenced, tail-groups G D r.b r.tr r.old w s) in
      r.copies.rows ∙ rw (lasting, s.split) (omega (arith, s.next, s.written, s.low, n))

  pub rows-fenced : rows_fenced w ≡ r.submitted.group - r.b
  unfolding rows_fenced
  rows-fenced =
      let s = r.submitted in
      let n : fenced_rows w.pending ≡ s.group - r.b + G =
      ap fenced_rows s.split
      ∙ fenced-rows s.fenced s.tail (none-mixed s.tail s.mixed)
      ∙ s.written in
      rw (lasting, n) (omega arith)

  -- confirm
  pub confirm-yields : PastOwed w.book.commits → (ends w confirm).code ≡ 0
      → owed_by (ends w confirm).figure w.book.commits ≡ owed_rows (rows_fenced w) w.book.commits
  unfolding ends confirm_call
  confirm-yields p h =
      let g : Given = lent w [] [] 0 0 in
      let f : (confirm_call g).figure ≡ 7 * r.submitted.group =
      ap (λ (o : Outcome). o.figure) (ends-done (confirm_call g) g (confirm_answer g) (confirm_effect g) refl h)
      ∙ (unfold done confirm_effect new_state lent in r.submitted.at_fence) in
      ap (λ (n : ℕ). owed_by n w.book.commits) f
      ∙ owed_same D r.b r.submitted.group r.tr r.old w.book.commits r.commits p
      ∙ ap (λ (n : ℕ). owed_rows n w.book.commits) (sym rows-fenced)

  -- settle
  pub settle-yields : (batch : List ℕ) → (ends w (settle batch)).code ≡ 0
      → (ends w (settle batch)).area ≡ homes_after w.homes (closed_below (state_of w.state).fenced w.book.commits)
  unfolding ends service_ends settle_call
  settle-yields batch h =
      let g : Given = lent w [] batch 0 0 in
      let e : (done g (settle_effect g)).area ≡ (settle_effect g).area = unfold done in refl in
      ap (λ (o : Outcome). o.area) (ends-done (settle_call g) g (settle_answer g (size_of (settle_effect g))) (settle_effect g) refl h)
      ∙ e ∙ settles.settle-yields G D z w r batch
      ∙ ap (λ (d : ℕ). homes_after d (closed_below (state_of w.state).fenced w.book.commits)) (sym r.copies.homes)

  -- a round
  pub begin-round-yields : (ends w begin_round).code ≡ 0 → fixed_in (state_of (ends w begin_round).state) ≡ (state_of w.state).fenced
  unfolding ends service_ends begin_round_call
  begin-round-yields h =
      let g : Given = lent w [] [] 0 0 in
      let q = ends-done (begin_round_call g) g (begin_round_answer g) (begin_round_effect g) refl h in
      let none : (state_of w.state).round ≡ 0 =
      lent_out w [] (begin-round-ready g (sym (outcome-code g (begin_round_answer g) (begin_round_effect g)) ∙ h)).1 in
      ap (λ (o : Outcome). fixed_in (state_of o.state)) q
      ∙ fixed (begun-numbers G D z w r none)
    where
      fixed : state_of (set_cursor (set_round w.state ((state_of w.state).fenced + 1)) 0)
          ≡ with_cursor (with_round (state_of w.state) ((state_of w.state).fenced + 1)) 0
          → fixed_in (state_of (done (lent w [] [] 0 0) (begin_round_effect (lent w [] [] 0 0))).state) ≡ (state_of w.state).fenced
      fixed e = unfold done begin_round_effect new_state lent fixed_in in (ap (λ (x : State). x.round - 1) e ∙ omega arith)

  pub step-round-yields : (k : ℕ) (batch : List ℕ) → (ends w (step_round k batch)).code ≡ 0
      → SettledHomes w.homes (ends w (step_round k batch)).area (state_of (ends w (step_round k batch)).state) w.book.commits
  unfolding ends service_ends step_round_call
  step-round-yields k batch h =
      let g : Given = lent w [] batch 0 0 in
      let e : Effect = step_round_effect g k in
      let a : step_round_answer g k (size_of e) ≡ 0 = sym (outcome-code g (step_round_answer g k (size_of e)) e) ∙ h in
      let q = step-round-ready g k (size_of e) a in
      let under : 1 ≤ (state_of w.state).round = lent-within w batch q.1 in
      subst (λ (o : Outcome). SettledHomes w.homes o.area (state_of o.state) w.book.commits)
      (sym (ends-done (step_round_call g k) g (step_round_answer g k (size_of e)) e refl h))
      (subst (λ (d : ℕ). SettledHomes d (done g e).area (state_of (done g e).state) w.book.commits) (sym r.copies.homes)
      (left g e (step-yields G D z w r under k batch q.2)))
    where
      left : (g : Given) (e : Effect) → SettledHomes D e.area (state_of e.state) w.book.commits
          → SettledHomes D (done g e).area (state_of (done g e).state) w.book.commits
      left g e f = unfold done in f
