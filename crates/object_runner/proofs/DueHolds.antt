-- The first words that wait are due, in every history.
use Prim.Native.Nat.{ℕ, zero, suc, ◌-◌, ◌/◌, ◌≤◌}
use mathlib.Core.Path.{◌≡◌, refl, sym, ap, ◌∙◌, subst}
use mathlib.Core.Logic.{inl, inr}
use mathlib.Core.Bool.{true, false, not, false≢true}
use mathlib.Core.List.{List, [], ◌∷◌, ◌++◌}
use native.Mathlib.Omega.{arith}
use lib.ListN.{length}
use Rattle.model.specs.Layout.{header}
use Rattle.model.specs.Batch.{Record, GW, HW, KW, FN, batch_bytes, read_batch}
use Rattle.model.specs.State.{state_of}
use Rattle.model.specs.Effects.{Given, Effect, open_effect, open_start, home_writes, blank_writes}
use Rattle.model.specs.Calls.{Outcome, size_of, done}
use Rattle.model.specs.Book.{homes_after}
use Rattle.model.specs.History.{Call, opening, confirm, change, service, call, World, empty_store, unopened, loaded, ends, step, after_crash, is_opening, Allowed}
use Rattle.model.specs.History as history
use Rattle.model_laws.proofs.state.BatchLaws.{AllFormed, taken, read-batch}
use Rattle.model_laws.proofs.state.LoggingLaws.{fits}
use Rattle.model_laws.proofs.state.QuestionLaws.{open-ready}
use Rattle.model_laws.proofs.trace.TraceLaws.{All}
use Rattle.theorems.proofs.invariant.Invariant.{Sizes, Closed, Running, Invariant}
use Rattle.theorems.proofs.invariant.OpenLaws.{hs, touched-below}
use Rattle.theorems.proofs.steps.DoneLaws.{after, step-done}
use Rattle.theorems.proofs.steps.RefusalLaws.{step-refused}
use Rattle.theorems.proofs.steps.OpenStep.{opens-with, open-effect}
use Rattle.theorems.proofs.steps.OpenKeeps.{open-formed}
use Rattle.theorems.proofs.steps.Beginning.{format-closed}
use Rattle.theorems.proofs.steps.FormatRuns.{after-format, sizes}
use Rattle.theorems.proofs.steps.Rows.{row_of, ends-row, row-answer, row_done}
use Rattle.theorems.proofs.demands.DemandThree.{keeps}
use Rattle.object.specs.Medium.{Grain, words, blocks}
use Rattle.object.specs.Order.{Motion, head}
use Rattle.object.specs.Alike.{Tearing, plain, torn, with_memory, tears, torn_after, TearingAllowed, AllTearingsAllowed}
use Rattle.object.proofs.ChopLaws.{all_append}
use Rattle.object.proofs.FormatCuts.{Unparted, unparted-blanks}
use Rattle.object.proofs.TornHolds.{keeps-torn}
use Rattle.object_runner.specs.Moves.{words_from, words_due, headed_at, headed_after, waiting_after, Due, Fitting}
use Rattle.object_runner.specs.Always.{batch_of, records_of, next_of, headed_before, BatchDue, DueAlways}
use Rattle.object_runner.proofs.GoesOnHolds.{blocks-due}
use Rattle.object_runner.proofs.WaitingLaws.{waiting-blocks, no_words}
use Rattle.object_runner.proofs.DueSteps.{headed_of, waiting_of, Waits, headed-next, due-words, waits-on, headed-on, next_low, next-mono}
use Rattle.object_runner.proofs.CallWrites.{InStore, fitting-formed, homes-inside, Wrote, call-wrote}

-- ---- records that read back

-- records in the store's shape can be read off their bytes
pub formed-fitting : (G D : ℕ) → G ≤ 1024 → D ≤ 65535 → (rs : List Record) → Fitting G D rs → AllFormed rs
formed-fitting G D g d [] f = tt
formed-fitting G D g d (GW slot group ∷ rs) f = ((omega (arith, f.0.0), f.0.1), formed-fitting G D g d rs f.1)
formed-fitting G D g d (HW home block ∷ rs) f = ((omega (arith, f.0.0), f.0.1), formed-fitting G D g d rs f.1)
formed-fitting G D g d (KW header ∷ rs) f = (f.0, formed-fitting G D g d rs f.1)
formed-fitting G D g d (FN ∷ rs) f = (tt, formed-fitting G D g d rs f)

-- what a done call puts into its buffer
pub batch-done : (g : Given) (e : Effect) → size_of e ≤ length g.batch → batch_of (done g e) ≡ batch_bytes e.records
unfolding batch_of done size_of
batch-done g e l = taken (batch_bytes e.records) g.batch l

-- ---- groups without a first word, which an opening and a format write

module _ (l : Grain) (G next : ℕ) (log : List ℕ) where
  unparted-head : (slot : ℕ) (group : List ℕ) → Unparted l (GW slot group) → head l slot group ≡ []
  unfolding head
  unparted-head slot group u = rw u

  none-due : words_due l G log next next ≡ []
  none-due = go l
    where
      z : next - next ≡ 0
      z = omega arith

      go : (k : Grain) → words_due k G log next next ≡ []
      go words = unfold words_due in (ap (words_from G log next) z ∙ no_words G log next)
      go blocks = unfold words_due in refl

  same-headed : headed_at l next next ≡ next
  same-headed = go l
    where
      go : (k : Grain) → headed_at k next next ≡ next
      go words = unfold headed_at in omega arith
      go blocks = unfold headed_at in refl

  pub due-none : (rs : List Record) → All (Unparted l) rs → Due l G log next next [] rs
  due-none [] u = tt
  due-none (GW slot group ∷ rs) u = rw (unparted-head slot group u.0) (due-none rs u.1)
  due-none (HW home block ∷ rs) u = due-none rs u.1
  due-none (KW header ∷ rs) u = due-none rs u.1
  due-none (FN ∷ rs) u = (sym none-due, rw same-headed (due-none rs u.1))

  pub headed-none : (rs : List Record) → headed_after l next next rs ≡ next
  unfolding headed_after
  headed-none [] = refl
  headed-none (GW slot group ∷ rs) = headed-none rs
  headed-none (HW home block ∷ rs) = headed-none rs
  headed-none (KW header ∷ rs) = headed-none rs
  headed-none (FN ∷ rs) = rw same-headed (headed-none rs)

  pub waiting_none : (rs : List Record) → All (Unparted l) rs → waiting_after l [] rs ≡ []
  unfolding waiting_after
  waiting_none [] u = refl
  waiting_none (GW slot group ∷ rs) u = rw (unparted-head slot group u.0) (waiting_none rs u.1)
  waiting_none (HW home block ∷ rs) u = waiting_none rs u.1
  waiting_none (KW header ∷ rs) u = waiting_none rs u.1
  waiting_none (FN ∷ rs) u = waiting_none rs u.1

unparted-homes : (l : Grain) (area hs : List ℕ) → All (Unparted l) (home_writes area hs)
unfolding home_writes
unparted-homes l area [] = tt
unparted-homes l area (x ∷ hs) = (tt, unparted-homes l area hs)

blanks-inside : (G D start n : ℕ) → n ≤ G → All (InStore G D) (blank_writes G start n)
unfolding blank_writes
blanks-inside G D start zero h = tt
blanks-inside G D start (suc n) h = all_append (InStore G D) (blank_writes G start n) _ (blanks-inside G D start n (omega arith)) (omega arith, tt)

-- ---- a done call, by its row

record Read (w : World) (c : Call) : Type 0 where
  bytes : batch_of (ends w c) ≡ batch_bytes (row_of w c).effect.records
  records : records_of (ends w c) ≡ (row_of w c).effect.records
  log : (ends w c).log ≡ (row_of w c).effect.log
  state : (ends w c).state ≡ (row_of w c).effect.state
  world : step w (call c) ≡ after w c (row_of w c).effect

read-call : (w : World) (c : Call) → (ends w c).code ≡ 0 → AllFormed (row_of w c).effect.records → size_of (row_of w c).effect ≤ length (row_of w c).given.batch
    → Read w c
read-call w c h f l =
    record {
      bytes = bytes-are;
      records = unfold records_of in (ap read_batch bytes-are ∙ read-batch e.records f);
      log = ap (λ (o : Outcome). o.log) (row_done w c h) ∙ (unfold done in refl);
      state = ap (λ (o : Outcome). o.state) (row_done w c h) ∙ (unfold done in refl);
      world = step-done w c g (row_of w c).answer e (ends-row w c) (row-answer w c h) f l;
    }
  where
    g : Given
    g = (row_of w c).given

    e : Effect
    e = (row_of w c).effect

    bytes-are : batch_of (ends w c) ≡ batch_bytes e.records
    bytes-are = ap batch_of (row_done w c h) ∙ batch-done g e l

module _ (l : Grain) (G D : ℕ) (w : World) (c : Call) (k : Read w c) where
  abbrev e : Effect
  e = (row_of w c).effect

  next-is : next_of (ends w c) ≡ (state_of e.state).next
  unfolding next_of
  next-is = ap (λ (x : List ℕ). (state_of x).next) k.state

  batch-due : (h : ℕ) → headed_before w c ≡ h → Fitting G D e.records → h ≤ (state_of e.state).next
      → Due l G e.log (state_of e.state).next h (waiting_after l [] w.pending) e.records
      → headed_after words h (state_of e.state).next e.records ≡ (state_of e.state).fenced / 7 → BatchDue l G D w c
  batch-due h q f low due on =
      record {
        bytes = k.bytes ∙ ap batch_bytes (sym k.records);
        fitting = subst (Fitting G D) (sym k.records) f;
        low = rw (q, next-is) low;
        due = rw (q, next-is, k.records, k.log) due;
        headed = rw (q, next-is, k.records, k.state) on;
      }

-- ---- what holds between two calls, and of a call

abbrev pub WaitsIf : ℕ → World → Type 0
WaitsIf G w = w.ready ≡ true → Waits G w

pub record Moment (G D : ℕ) (w : World) (c : Call) : Type 0 where
  pub due : (l : Grain) → BatchDue l G D w c
  pub read : step w (call c) ≡ after w c (row_of w c).effect
  pub records : records_of (ends w c) ≡ (row_of w c).effect.records
  pub state : (ends w c).state ≡ (row_of w c).effect.state
  pub waits : Waits G (step w (call c))
  pub grows : is_opening c ≡ false → (state_of w.state).next ≤ next_of (ends w c)

pub running : (G D : ℕ) (w : World) → Invariant G D w → w.ready ≡ true → Running G D w
running G D w (inl k) h = absurd (false≢true (sym k.ready ∙ h))
running G D w (inr r) h = r

module _ (G D : ℕ) (z : Sizes G D) (w : World) (i : Invariant G D w) (j : WaitsIf G w) (c : Call) (a : Allowed w (call c)) (h : (ends w c).code ≡ 0) where
  abbrev E : Effect
  E = (row_of w c).effect

  abbrev u : World
  u = after w c (row_of w c).effect

  next-running : Read w c → Running G D u
  next-running k = running G D u (subst (Invariant G D) k.world (keeps G D z w i (call c) a).0) refl

  -- a call of an era
  era : Running G D w → is_opening c ≡ false → Moment G D w c
  era r o =
      record {
        due = λ l. batch-due l G D w c k (headed_of w) (unfold headed_before in rw o) x.written.fitting (next_low G D w r y c E r' x.written) (due l)
            (headed-on G D w r y c E r' x.written);
        read = k.world;
        records = k.records;
        state = k.state;
        waits = rw k.world (waits-on G D w r y c E r' x.written);
        grows = λ q. rw (next-is words G D w c k) (next-mono G D w r y c E r' x.written);
      }
    where
      x : Wrote G D w c
      x = call-wrote G D z w r c o (row-answer w c h)

      k : Read w c
      k = read-call w c h (formed-fitting G D z.high z.homes E.records x.written.fitting) x.fit

      y : Waits G w
      y = j r.ready

      r' : Running G D u
      r' = next-running k

      due : (l : Grain) → Due l G E.log (state_of E.state).next (headed_of w) (waiting_after l [] w.pending) E.records
      due words = due-words G D w r y c E r' x.written
      due blocks = rw (waiting-blocks w.pending) (blocks-due G (state_of E.state).next (headed_of w) E.log E.records)

module _ (G D : ℕ) (z : Sizes G D) (w : World) (q : Closed G D w) (state newest batch : List ℕ) (h : (ends w (opening state newest batch)).code ≡ 0) where
  abbrev call₀ : Call
  call₀ = opening state newest batch

  abbrev X : List ℕ
  X = homes_after D w.book.commits

  abbrev E₀ : Effect
  E₀ = (row_of w (opening state newest batch)).effect

  is_open : E₀ ≡ opens-with G D z w q
  unfolding row_of
  is_open = open-effect G D z w q state newest batch

  abbrev R : List Record
  R = (opens-with G D z w q).records

  unparted : (l : Grain) → All (Unparted l) R
  unparted l =
      all_append (Unparted l) (home_writes X (hs G D z w.memory X q.opens)) _ (unparted-homes l X (hs G D z w.memory X q.opens))
      (tt, (tt, (tt, all_append (Unparted l) (blank_writes G _ G) (FN ∷ []) (unparted-blanks l G _ G) (tt, tt))))

  inside : All (InStore G D) R
  inside =
      all_append (InStore G D) (home_writes X (hs G D z w.memory X q.opens)) _
      (homes-inside G D X (hs G D z w.memory X q.opens) (touched-below G D z w.memory X q.opens))
      (tt, (tt, (tt, all_append (InStore G D) (blank_writes G _ G) (FN ∷ []) (blanks-inside G D _ G (omega arith)) (tt, tt))))

  formed₀ : AllFormed E₀.records
  unfolding row_of
  formed₀ = open-formed G D z w q state newest batch

  fit₀ : size_of E₀ ≤ length (row_of w call₀).given.batch
  unfolding row_of
  fit₀ =
      let g : Given = loaded w state newest batch in
      fits g (size_of (open_effect g)) (open-ready g (open_start g) (size_of (open_effect g)) (row-answer w call₀ h)).3

  k₀ : Read w call₀
  k₀ = read-call w call₀ h formed₀ fit₀

  abbrev u₀ : World
  u₀ = after w (opening state newest batch) (row_of w (opening state newest batch)).effect

  r₀ : Running G D u₀
  r₀ = running G D u₀ (subst (Invariant G D) k₀.world (keeps G D z w (inl q) (call call₀) (unfold is_opening in (sym (ap not q.ready)))).0) refl

  records₀ : E₀.records ≡ R
  records₀ = ap (λ (x : Effect). x.records) is_open

  none₀ : waiting_of u₀ ≡ []
  none₀ =
      ap (λ (x : List Record). waiting_after words [] (x ++ E₀.records)) q.pending ∙ ap (waiting_after words []) records₀
      ∙ waiting_none words G 0 [] R (unparted words)

  at-next₀ : headed_of u₀ ≡ (state_of E₀.state).next
  at-next₀ = omega (arith, headed-next G D u₀ r₀, ap length none₀)

  open-due : (l : Grain) → Due l G E₀.log (state_of E₀.state).next (state_of E₀.state).next (waiting_after l [] w.pending) E₀.records
  open-due l =
      let n : ℕ = (state_of E₀.state).next in
      let p : waiting_after l [] w.pending ≡ [] = ap (waiting_after l []) q.pending ∙ waiting_none l G 0 [] [] tt in
      subst (λ (W : List Motion). Due l G E₀.log n n W E₀.records) (sym p)
      (subst (Due l G E₀.log n n []) (sym records₀) (due-none l G n E₀.log R (unparted l)))

  opened : Moment G D w call₀
  opened =
      record {
        due = λ l. batch-due l G D w call₀ k₀ (state_of E₀.state).next (unfold headed_before is_opening in next-is l G D w call₀ k₀)
            (fitting-formed G D E₀.records formed₀ (rw records₀ inside)) (omega arith) (open-due l)
            (headed-none words G (state_of E₀.state).next E₀.log E₀.records ∙ sym at-next₀);
        read = k₀.world;
        records = k₀.records;
        state = k₀.state;
        waits = rw k₀.world (none₀ ∙ sym (ap (words_from G E₀.log (headed_of u₀)) (omega (arith, at-next₀)) ∙ no_words G E₀.log (headed_of u₀)));
        grows = λ p. absurd (false≢true (unfold is_opening in sym p));
      }

-- ---- every call, and every history

module _ (G D : ℕ) (z : Sizes G D) where
  opening-due : (w : World) → Closed G D w → (c : Call) → is_opening c ≡ true → (ends w c).code ≡ 0 → Moment G D w c
  unfolding is_opening
  opening-due w k (opening state newest batch) o h = opened G D z w k state newest batch h
  opening-due w k confirm o h = absurd (false≢true o)
  opening-due w k (change x) o h = absurd (false≢true o)
  opening-due w k (service x) o h = absurd (false≢true o)

  pub call-due : (w : World) → Invariant G D w → WaitsIf G w → (c : Call) → Allowed w (call c) → (ends w c).code ≡ 0 → Moment G D w c
  call-due w (inl k) j c a h = opening-due w k c (a ∙ ap not k.ready) h
  call-due w (inr r) j c a h = era G D z w (inr r) j c a h r (a ∙ ap not r.ready)

  pub call-waits : (w : World) → Invariant G D w → WaitsIf G w → (c : Call) → Allowed w (call c) → WaitsIf G (step w (call c))
  call-waits w i j c a = go (ends w c).code refl
    where
      go : (n : ℕ) → (ends w c).code ≡ n → WaitsIf G (step w (call c))
      go zero h = λ x. (call-due w i j c a h).waits
      go (suc n) h = rw (step-refused w c n h) j

  pub tearing-waits : (w : World) → Invariant G D w → WaitsIf G w → (t : Tearing) → TearingAllowed G w t → WaitsIf G (tears w t)
  unfolding tears with_memory step after_crash
  tearing-waits w i j (plain (call c)) a = call-waits w i j c a
  tearing-waits w i j (plain (history.crash passed chosen)) a = λ x. absurd (false≢true x)
  tearing-waits w i j (torn passed chosen left) a = λ x. absurd (false≢true x)

  all-waits : (ts : List Tearing) (w : World) → Invariant G D w → WaitsIf G w → AllTearingsAllowed G w ts
      → Invariant G D (torn_after w ts) × WaitsIf G (torn_after w ts)
  unfolding torn_after
  all-waits [] w i j a = (i, j)
  all-waits (t ∷ ts) w i j a = all-waits ts (tears w t) (keeps-torn G D z w i t a.0).0 (tearing-waits w i j t a.0) a.1

  pub empty-waits : WaitsIf G (empty_store G D)
  unfolding empty_store unopened
  empty-waits = λ x. absurd (false≢true x)

pub due-always : DueAlways
due-always l G D f ts a =
    rw (after-format f)
    (λ c b h. let k = all-waits G D (sizes f) ts (empty_store G D) (inl (format-closed G D (sizes f))) (empty-waits G D (sizes f)) (rw (after-format f) at a) in
    (call-due G D (sizes f) (torn_after (empty_store G D) ts) k.0 k.1 c b h).due l)
