-- The list of notes beside the book's commits in a joint history: as long as these, with a done event last; and its front up to a confirmed one stays.
-- Assumes nothing.
use Prim.Native.Nat.{ℕ, zero, suc, ◌+◌, ◌*◌, ◌≤◌}
use mathlib.Core.Path.{◌≡◌, refl, sym, ap, ◌∙◌, subst}
use mathlib.Core.Bool.{Bool, true, false, cond}
use mathlib.Core.List.{List, [], ◌∷◌, ◌++◌}
use mathlib.Core.Option.{Option, some}
use native.Mathlib.Omega.{arith}
use lib.Dec.{eqb}
use lib.ListN.{length, take, length-append}
use lib.Seq.{length-take-le, take_all, take-append-le}
use borrow.Author.Tests.{eqb-true, eqb-false, ne_eqb}
use Rattle.model.specs.Bytes.{zeros}
use Rattle.model.specs.Book.{with_commits, empty}
use Rattle.model.specs.History.{confirm, call, crash, World, Formatting, after_format, unopened, ends, feed, after_done, after_call, step}
use Rattle.abstract_store.specs.Store.{new_store, Reply, reply_of}
use Rattle.acts.specs.Units.{Act, plain, transacts, fetches, revises, act, acted, ActAllowed, relabel}
use Rattle.theorems.proofs.store.Reached.{begins}
use Rattle.theorems.proofs.many.ActsHold.{Somewhere, act-somewhere, fetch-stays, revise-stays}
use Rattle.unit_events.specs.Homes.{pump_home, alarm_home, alarm_homes}
use Rattle.unit_events.specs.Folded as unit
use Rattle.unit_events.specs.Folded.{offers, read_for, event_answer, storing}
use Rattle.unit_events.proofs.PromisesHold.{refusals-stay}
use Rattle.unit_hours_book.specs.Guarantees as hours
use Rattle.unit_hours_book.specs.Stored as pumps
use Rattle.unit_alarms_list.specs.Guarantees as alarms
use Rattle.unit_alarms_list.specs.Stored as panel
use Rattle.unit_joint.specs.Joint.{Step, acts, sets_table, pump_event, alarm_event, acts_of, stepped, ran, Done, table_set, pump_done, alarm_done, note_of, notes_from, notes, StepAllowed, JointAllowed, IsDone, ticket_of, DoneIsLast, NoCut, NoCuts, confirms, ConfirmedStays}
use Rattle.unit_joint.proofs.UnitCalls.{asks, writer_of, home_of, blocks_of, batch_of, storing_ends, DoneBy, done-by}
use Rattle.unit_joint.proofs.CommitsKept.{At, Owed, Ticket, at-inside, at_last, confirmed, call_at, ticket-steady}
use Rattle.unit_joint.proofs.ActsKeep.{Added, transact-adds, act-grows, act-owed, transact-ticket, ticket_is}

-- ---- what a step comes to: one act, or nothing

abbrev Calm : Act → Type 0
Calm (plain (call c)) = Unit {0}
Calm (plain (crash passed chosen)) = ⊥
Calm (transacts v h blocks batch) = Unit {0}
Calm (fetches v h blocks) = Unit {0}
Calm (revises v h blocks) = Unit {0}

pub data StepIs (w : World) (s : Step) : Type 0 where
  by_act : (a : Act) → ActAllowed w a → (NoCut s → Calm a) → stepped w s ≡ act w a → StepIs w s
  stays : stepped w s ≡ w → StepIs w s

-- the act by which a unit's call stores
abbrev pub stores_by : World → Step → Act
stores_by w s = transacts (writer_of s) (home_of s) (blocks_of w s) (batch_of s)

module _ {E : Type 0} (home n : ℕ) (judge : List ℕ → E → ℕ) (apply : List ℕ → E → List ℕ) (w : World) (v : ℕ) (e : E) (batch : List ℕ) where
  abbrev stored : Act
  stored = transacts v home (apply (read_for home n judge apply w v).block e) batch

  looked : unit.stepped home n judge apply w (offers v e batch)
      ≡ acted w (cond (eqb (event_answer home n judge apply w v e) 0) (storing home n judge apply v (read_for home n judge apply w v).block e batch) [])
  unfolding unit.stepped unit.acts_of acted
  looked =
      ap (λ (u : World). acted u (cond (eqb (event_answer home n judge apply w v e) 0) (storing home n judge apply v (read_for home n judge apply w v).block e batch) []))
      ((refusals-stay w).revising v home (zeros (64 * n)))

  done-step : event_answer home n judge apply w v e ≡ 0 → unit.stepped home n judge apply w (offers v e batch) ≡ act w stored
  unfolding acted storing
  done-step z = looked ∙ rw z

  refused-step : (event_answer home n judge apply w v e ≡ 0 → ⊥) → unit.stepped home n judge apply w (offers v e batch) ≡ w
  unfolding acted
  refused-step z = looked ∙ rw (ne_eqb (event_answer home n judge apply w v e) 0 z)

-- a unit's call whose questions are answered 0 is its transact, another leaves the world
pub unit-done : (w : World) (s : Step) (d : Done) → note_of s ≡ some d → asks w s ≡ 0 → stepped w s ≡ act w (stores_by w s)
unfolding note_of asks writer_of home_of blocks_of batch_of stepped acts_of
unit-done w (acts a) d q z = absurd (let y : ◌≡◌ {A = ℕ} 0 1 = cc in omega arith)
unit-done w (sets_table v rows batch) d q z = unfold unit.acts_of storing acted in refl
unit-done w (pump_event v pump e batch) d q z = unfold unit.stepped in done-step (pump_home pump) 1 pumps.judged hours.held_with w v e batch z
unit-done w (alarm_event v e batch) d q z = unfold unit.stepped in done-step alarm_home alarm_homes panel.judged alarms.held_with w v e batch z

pub unit-refused : (w : World) (s : Step) (d : Done) → note_of s ≡ some d → (asks w s ≡ 0 → ⊥) → stepped w s ≡ w
unfolding note_of asks stepped acts_of
unit-refused w (acts a) d q z = absurd (let y : ◌≡◌ {A = ℕ} 0 1 = cc in omega arith)
unit-refused w (sets_table v rows batch) d q z = absurd (z refl)
unit-refused w (pump_event v pump e batch) d q z = unfold unit.stepped in refused-step (pump_home pump) 1 pumps.judged hours.held_with w v e batch z
unit-refused w (alarm_event v e batch) d q z = unfold unit.stepped in refused-step alarm_home alarm_homes panel.judged alarms.held_with w v e batch z

event-is : (w : World) (s : Step) (d : Done) → note_of s ≡ some d → w.ready ≡ true → StepIs w s
event-is w s d q ready = go (eqb (asks w s) 0) refl
  where
    go : (b : Bool) → eqb (asks w s) 0 ≡ b → StepIs w s
    go true e = by_act (stores_by w s) ready (λ c. tt) (unit-done w s d q (eqb-true (asks w s) 0 e))
    go false e = stays (unit-refused w s d q (eqb-false (asks w s) 0 e))

one-act : (w : World) (a : Act) → acted w (a ∷ []) ≡ act w a
unfolding acted
one-act w a = refl

calm-act : (a : Act) → NoCut (acts a) → Calm a
calm-act (plain (call c)) k = tt
calm-act (plain (crash passed chosen)) k = k
calm-act (transacts v h blocks batch) k = tt
calm-act (fetches v h blocks) k = tt
calm-act (revises v h blocks) k = tt

pub step_is : (w : World) (s : Step) → StepAllowed w s → StepIs w s
step_is w (acts a) ok = by_act a ok (calm-act a) (unfold stepped acts_of in one-act w a)
step_is w (sets_table v rows batch) ok = event-is w (sets_table v rows batch) (table_set rows) (unfold note_of in refl) ok
step_is w (pump_event v pump e batch) ok = event-is w (pump_event v pump e batch) (pump_done pump e) (unfold note_of in refl) ok
step_is w (alarm_event v e batch) ok = event-is w (alarm_event v e batch) (alarm_done e) (unfold note_of in refl) ok

-- ---- what it does to the commits

step-grows : (w : World) (s : Step) → StepIs w s → length (stepped w s).book.commits ≤ length w.book.commits + 1
step-grows w s (by_act a ok c e) = omega (arith, ap (λ (u : World). length u.book.commits) e, act-grows w a)
step-grows w s (stays e) = omega (arith, ap (λ (u : World). length u.book.commits) e)

pub step-somewhere : (w : World) (s : Step) → Somewhere w → StepIs w s → Somewhere (stepped w s)
step-somewhere w s r (by_act a ok c e) = subst Somewhere (sym e) (act-somewhere w a r ok)
step-somewhere w s r (stays e) = subst Somewhere (sym e) r

step-owed : (w : World) (s : Step) (n : ℕ) → Somewhere w → StepIs w s → At Owed n w.book.commits → At Owed n (stepped w s).book.commits
step-owed w s n (t, r) (by_act a ok c e) k = subst (λ (u : World). At Owed n u.book.commits) (sym e) (act-owed w t a n r ok k)
step-owed w s n r (stays e) k = subst (λ (u : World). At Owed n u.book.commits) (sym e) k

calm-ticket : (w : World) (a : Act) (n t : ℕ) → Calm a → At (Ticket t) n w.book.commits → At (Ticket t) n (act w a).book.commits
calm-ticket w (plain (call c)) n t k a = unfold act in call_at (Ticket t) (ticket-steady t) w c n a
calm-ticket w (plain (crash passed chosen)) n t k a = absurd k
calm-ticket w (transacts v h blocks batch) n t k a = transact-ticket w v h blocks batch n t a
calm-ticket w (fetches v h blocks) n t k a = subst (λ (u : World). At (Ticket t) n u.book.commits) (sym (fetch-stays w v h blocks)) a
calm-ticket w (revises v h blocks) n t k a = subst (λ (u : World). At (Ticket t) n u.book.commits) (sym (revise-stays w v h blocks)) a

step-ticket : (w : World) (s : Step) (n t : ℕ) → StepIs w s → NoCut s → At (Ticket t) n w.book.commits → At (Ticket t) n (stepped w s).book.commits
step-ticket w s n t (by_act a ok c e) k x = subst (λ (u : World). At (Ticket t) n u.book.commits) (sym e) (calm-ticket w a n t (c k) x)
step-ticket w s n t (stays e) k x = subst (λ (u : World). At (Ticket t) n u.book.commits) (sym e) x

-- ---- the notes

take_twice : {A : Type 0} (k m : ℕ) (xs : List A) → k ≤ m → take k (take m xs) ≡ take k xs
take_twice zero m xs l = refl
take_twice (suc k) zero xs l = absurd (omega arith)
take_twice (suc k) (suc m) [] l = refl
take_twice (suc k) (suc m) (x ∷ xs) l = ap (λ ys. x ∷ ys) (take_twice k m xs (omega arith))

many-step : (w : World) (s : Step) (ns : List (Option Done)) (l : Option Done) → StepIs w s → length ns ≡ length w.book.commits
    → length (relabel (stepped w s) ns l) ≡ length (stepped w s).book.commits
unfolding relabel
many-step w s ns l k e =
    length-take-le (length (stepped w s).book.commits) (ns ++ (l ∷ [])) (omega (arith, step-grows w s k, length-append ns (l ∷ [])))

front-step : (u : World) (ns : List (Option Done)) (l : Option Done) (k : ℕ) → k ≤ length ns → k ≤ length u.book.commits
    → take k (relabel u ns l) ≡ take k ns
unfolding relabel
front-step u ns l k a b = take_twice k (length u.book.commits) (ns ++ (l ∷ [])) b ∙ take-append-le k ns (l ∷ []) a

-- ---- histories one behind the other

pub ran_append : (ss ts : List Step) (w : World) → ran w (ss ++ ts) ≡ ran (ran w ss) ts
unfolding ran
ran_append [] ts w = refl
ran_append (s ∷ ss) ts w = ran_append ss ts (stepped w s)

pub notes-append : (ss ts : List Step) (w : World) (ns : List (Option Done)) → notes_from w ns (ss ++ ts) ≡ notes_from (ran w ss) (notes_from w ns ss) ts
unfolding ran notes_from
notes-append [] ts w ns = refl
notes-append (s ∷ ss) ts w ns = notes-append ss ts (stepped w s) (relabel (stepped w s) ns (note_of s))

pub steps-split : (ss ts : List Step) (w : World) → JointAllowed w (ss ++ ts) → JointAllowed w ss × JointAllowed (ran w ss) ts
unfolding ran
steps-split [] ts w a = (tt, a)
steps-split (s ∷ ss) ts w a = let k = steps-split ss ts (stepped w s) a.1 in ((a.0, k.0), k.1)

-- a world that a history reaches, with as many notes as commits
pub record Going (w : World) (ns : List (Option Done)) : Type 0 where
  pub somewhere : Somewhere w
  pub many : length ns ≡ length w.book.commits

pub step-goes : (w : World) (ns : List (Option Done)) (s : Step) → Going w ns → StepAllowed w s → Going (stepped w s) (relabel (stepped w s) ns (note_of s))
step-goes w ns s g ok =
    let k = step_is w s ok in record { somewhere = step-somewhere w s g.somewhere k; many = many-step w s ns (note_of s) k g.many }

pub all_go : (ss : List Step) (w : World) (ns : List (Option Done)) → Going w ns → JointAllowed w ss → Going (ran w ss) (notes_from w ns ss)
unfolding ran notes_from
all_go [] w ns g ok = g
all_go (s ∷ ss) w ns g ok = all_go ss (stepped w s) (relabel (stepped w s) ns (note_of s)) (step-goes w ns s g ok.0) ok.1

pub starts : {groups homes : ℕ} (f : Formatting groups homes) → Going (after_format f) []
starts {groups} {homes} f = record { somewhere = (new_store groups homes, begins f); many = (unfold after_format unopened empty in refl) }

-- ---- the front up to an owed commit stays; up to any, while there is no cut

front-owed : (ss : List Step) (w : World) (ns : List (Option Done)) (n : ℕ) → Going w ns → JointAllowed w ss → At Owed n w.book.commits
    → take (suc n) (notes_from w ns ss) ≡ take (suc n) ns
unfolding notes_from
front-owed [] w ns n g ok a = refl
front-owed (s ∷ ss) w ns n g ok a =
    let k = step_is w s ok.0 in
    let b = step-owed w s n g.somewhere k a in
    front-owed ss (stepped w s) (relabel (stepped w s) ns (note_of s)) n (step-goes w ns s g ok.0) ok.1 b
    ∙ front-step (stepped w s) ns (note_of s) (suc n) (let m = g.many in omega (arith, at-inside Owed n w.book.commits a))
    (omega (arith, at-inside Owed n (stepped w s).book.commits b))

front-calm : (ss : List Step) (w : World) (ns : List (Option Done)) (n t : ℕ) → Going w ns → JointAllowed w ss → NoCuts ss → At (Ticket t) n w.book.commits
    → (take (suc n) (notes_from w ns ss) ≡ take (suc n) ns) × At (Ticket t) n (ran w ss).book.commits
unfolding notes_from ran
front-calm [] w ns n t g ok c a = (refl, a)
front-calm (s ∷ ss) w ns n t g ok c a =
    let b = step-ticket w s n t (step_is w s ok.0) c.0 a in
    let rest = front-calm ss (stepped w s) (relabel (stepped w s) ns (note_of s)) n t (step-goes w ns s g ok.0) ok.1 c.1 b in (
      rest.0
          ∙ front-step (stepped w s) ns (note_of s) (suc n) (let m = g.many in omega (arith, at-inside (Ticket t) n w.book.commits a))
          (omega (arith, at-inside (Ticket t) n (stepped w s).book.commits b)),
      rest.1,
    )

-- ---- a done event

module _ (w : World) (ns : List (Option Done)) (s : Step) (d : Done) (g : Going w ns) (q : note_of s ≡ some d) (done : IsDone w s) where
  done-so : DoneBy w s
  done-so = done-by w s d q done

  stored-done : (storing_ends w s).code ≡ 0
  unfolding reply_of
  stored-done = sym (ap (λ (x : Reply). x.code) done-so.told) ∙ done

  same-ticket : (storing_ends w s).figure ≡ ticket_of w s
  unfolding reply_of
  same-ticket = sym (ap (λ (x : Reply). x.figure) done-so.told)

  added : Added w.book.commits (stepped w s).book.commits (ticket_of w s)
  added =
      subst (Added w.book.commits (stepped w s).book.commits) same-ticket
      (subst (λ (u : World). Added w.book.commits u.book.commits (storing_ends w s).figure) (sym (unit-done w s d q done-so.asked))
      (transact-adds w (writer_of s) (home_of s) (blocks_of w s) (batch_of s) stored-done))

  one_more : length (stepped w s).book.commits ≡ length ns + 1
  one_more = let m = g.many in omega (arith, ap length added.is, length-append w.book.commits (added.last ∷ []))

  last-noted : relabel (stepped w s) ns (note_of s) ≡ ns ++ (some d ∷ [])
  unfolding relabel
  last-noted =
      rw (q, one_more) (take_all (length ns + 1) (ns ++ (some d ∷ [])) (omega (arith, length-append ns (some d ∷ []))))

  has-ticket : At (Ticket (ticket_of w s)) (length ns) (stepped w s).book.commits
  has-ticket =
      subst (λ (n : ℕ). At (Ticket (ticket_of w s)) n (stepped w s).book.commits) (sym g.many)
      (subst (At (Ticket (ticket_of w s)) (length w.book.commits)) (sym added.is) (at_last (Ticket (ticket_of w s)) w.book.commits added.last added.has))

  positive : w.ready ≡ true → 1 ≤ ticket_of w s
  positive ready =
      let k = g.somewhere in
      subst (λ (n : ℕ). 1 ≤ n) same-ticket (ticket_is w k.0 k.1 ready (writer_of s) (home_of s) (blocks_of w s) (batch_of s) stored-done)

unit-ready : (w : World) (s : Step) (d : Done) → note_of s ≡ some d → StepAllowed w s → w.ready ≡ true
unfolding note_of
unit-ready w (acts a) d q ok = absurd (let y : ◌≡◌ {A = ℕ} 0 1 = cc in omega arith)
unit-ready w (sets_table v rows batch) d q ok = ok
unit-ready w (pump_event v pump e batch) d q ok = ok
unit-ready w (alarm_event v e batch) d q ok = ok

one-note : (w : World) (ns : List (Option Done)) (s : Step) → notes_from w ns (s ∷ []) ≡ relabel (stepped w s) ns (note_of s)
unfolding notes_from
one-note w ns s = refl

pub done-is-last : DoneIsLast
unfolding notes
done-is-last groups homes f before s d ok q done =
    let w₀ : World = after_format f in
    let k = steps-split before (s ∷ []) w₀ ok in
    notes-append before (s ∷ []) w₀ [] ∙ one-note (ran w₀ before) (notes_from w₀ [] before) s
    ∙ last-noted (ran w₀ before) (notes_from w₀ [] before) s d (all_go before w₀ [] (starts f) k.0) q done

-- the commits after a done confirm
confirm-makes : (w : World) (n t : ℕ) → (ends w confirm).code ≡ 0 → 1 ≤ t → t ≤ (ends w confirm).figure → At (Ticket t) n w.book.commits
    → At Owed n (step w (call confirm)).book.commits
unfolding step
confirm-makes w n t z l m a = rw z (unfold after_call after_done feed with_commits in confirmed n t (ends w confirm).figure w.book.commits l m a)

confirm-step : (w : World) → stepped w confirms ≡ step w (call confirm)
unfolding stepped acts_of acted act
confirm-step w = refl

front-last : (ns : List (Option Done)) (d : Done) → take (suc (length ns)) (ns ++ (some d ∷ [])) ≡ ns ++ (some d ∷ [])
front-last ns d = take_all (suc (length ns)) (ns ++ (some d ∷ [])) (omega (arith, length-append ns (some d ∷ [])))

more-notes : (w : World) (ns : List (Option Done)) (s : Step) (ss : List Step) → notes_from w ns (s ∷ ss) ≡ notes_from (stepped w s) (relabel (stepped w s) ns (note_of s)) ss
unfolding notes_from
more-notes w ns s ss = refl

module _ (w : World) (ns : List (Option Done)) (g : Going w ns) (s : Step) (between later : List Step) (d : Done)
    (ok : JointAllowed w (s ∷ (between ++ (confirms ∷ later)))) (q : note_of s ≡ some d) (done : IsDone w s) (calm : NoCuts between) where
  abbrev n : ℕ
  n = length ns

  abbrev t : ℕ
  t = ticket_of w s

  abbrev w₁ : World
  w₁ = stepped w s

  abbrev ns₁ : List (Option Done)
  ns₁ = relabel (stepped w s) ns (note_of s)

  abbrev w₂ : World
  w₂ = ran w₁ between

  abbrev ns₂ : List (Option Done)
  ns₂ = notes_from w₁ ns₁ between

  g₁ : Going w₁ ns₁
  g₁ = step-goes w ns s g ok.0

  parts : JointAllowed w₁ between × JointAllowed w₂ (confirms ∷ later)
  parts = steps-split between (confirms ∷ later) w₁ ok.1

  g₂ : Going w₂ ns₂
  g₂ = all_go between w₁ ns₁ g₁ parts.0

  kept₂ : (take (suc n) ns₂ ≡ take (suc n) ns₁) × At (Ticket t) n w₂.book.commits
  kept₂ = front-calm between w₁ ns₁ n t g₁ parts.0 calm (has-ticket w ns s d g q done)

  pub stays-there : (ends w₂ confirm).code ≡ 0 → t ≤ (ends w₂ confirm).figure
      → take (suc n) (notes_from w ns (s ∷ (between ++ (confirms ∷ later)))) ≡ ns ++ (some d ∷ [])
  stays-there z m =
      let w₃ : World = stepped w₂ confirms in
      let ns₃ : List (Option Done) = relabel w₃ ns₂ (note_of confirms) in
      let g₃ : Going w₃ ns₃ = step-goes w₂ ns₂ confirms g₂ parts.1.0 in
      let owed : At Owed n w₃.book.commits = subst (λ (u : World). At Owed n u.book.commits) (sym (confirm-step w₂)) (confirm-makes w₂ n t z (positive w ns s d g q done (unit-ready w s d q ok.0)) m kept₂.1) in
      ap (take (suc n)) (more-notes w ns s (between ++ (confirms ∷ later)) ∙ notes-append between (confirms ∷ later) w₁ ns₁ ∙ more-notes w₂ ns₂ confirms later)
      ∙ front-owed later w₃ ns₃ n g₃ parts.1.1 owed
      ∙ front-step w₃ ns₂ (note_of confirms) (suc n) (let y = g₂.many in omega (arith, at-inside (Ticket t) n w₂.book.commits kept₂.1))
      (omega (arith, at-inside Owed n w₃.book.commits owed))
      ∙ kept₂.0 ∙ ap (take (suc n)) (last-noted w ns s d g q done) ∙ front-last ns d

pub confirmed-stays : ConfirmedStays
unfolding notes
confirmed-stays groups homes f before s between later d ok q done calm z m =
    let w₀ : World = after_format f in
    let rest : List Step = s ∷ (between ++ (confirms ∷ later)) in
    let k = steps-split before rest w₀ ok in
    let w : World = ran w₀ before in
    let ns : List (Option Done) = notes_from w₀ [] before in
    ap (take (suc (length ns))) (notes-append before rest w₀ [])
    ∙ stays-there w ns (all_go before w₀ [] (starts f) k.0) s between later d k.1 q done calm z m
