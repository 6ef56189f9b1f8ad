-- Events over the homes of a unit of the store, in every history: the homes hold what the events of the book's list made of them. Assumes nothing.
use Prim.Native.Nat.{ℕ, zero, suc, ◌+◌, ◌*◌, ◌/◌, ◌≤◌}
use mathlib.Core.Path.{◌≡◌, refl, sym, ap, ◌∙◌, subst}
use mathlib.Core.Logic.{inl, inr}
use mathlib.Core.Bool.{Bool, true, false, cond}
use mathlib.Core.List.{List, [], ◌∷◌, ◌++◌, append-nil, append_assoc}
use mathlib.Core.Option.{Option, none, some}
use native.Mathlib.Omega.{arith}
use lib.Dec.{eqb}
use lib.ListN.{length, take}
use lib.Seq.{take_at, take-length}
use borrow.Author.Tests.{eqb-true, eqb-false, eq-eqb, ne_eqb}
use Rattle.model.specs.Bytes.{part, zeros}
use Rattle.model.specs.History.{Change, begins, reserves, aborts, stores, commits, flushes, opening, confirm, change, service, store, Event, call, crash, World, Formatting, after_format, ends, Allowed}
use Rattle.acts.specs.Units.{Act, plain, transacts, fetches, revises, transact_ends, act, acted, ActAllowed, AllActsAllowed, relabel, Label, other, unit, label_of, labels_from, labels, last_unit, Apart, SparedByChange, SparedByEvent, Spared, Reserved, UnitKept}
use Rattle.model_laws.proofs.bytes.ByteLaws.{length-zeros}
use Rattle.theorems.proofs.many.UnitsHold.{units-kept}
use Rattle.unit_events.proofs.PromisesHold.{refusals-stay}
use Rattle.unit_events.specs.Offered.{held_after, AcceptedFrom}
use Rattle.unit_events.specs.Folded.{Step, acts, offers, sets, Happens, first, noted, AllFit, note_of, read_for, event_answer, storing, acts_of, answered, stepped, ran, notes_from, notes, StepAllowed, AllStepsAllowed, SparedByAct, SparedByStep, SparedBySteps, JudgedFrom, Folded, EventsFolded, Recorded, Growing, EventsRecorded}

first-zero : (a b : ℕ) → first a b ≡ 0 → (a ≡ 0) × (b ≡ 0)
unfolding first
first-zero a b e = go (eqb a 0) refl e
  where
    go : (d : Bool) → eqb a 0 ≡ d → cond d b a ≡ 0 → (a ≡ 0) × (b ≡ 0)
    go true q z = (eqb-true a 0 q, z)
    go false q z = absurd (eqb-false a 0 q z)

-- ---- histories of acts, one behind the other

pub acted-append : (xs ys : List Act) (w : World) → acted w (xs ++ ys) ≡ acted (acted w xs) ys
unfolding acted
acted-append [] ys w = refl
acted-append (x ∷ xs) ys w = acted-append xs ys (act w x)

pub allowed-append : (xs ys : List Act) (w : World) → AllActsAllowed w xs → AllActsAllowed (acted w xs) ys → AllActsAllowed w (xs ++ ys)
unfolding acted
allowed-append [] ys w a b = b
allowed-append (x ∷ xs) ys w a b = (a.0, allowed-append xs ys (act w x) a.1 b)

reserved-append : (home n : ℕ) (xs ys : List Act) → Reserved home n xs → Reserved home n ys → Reserved home n (xs ++ ys)
reserved-append home n [] ys a b = b
reserved-append home n (x ∷ xs) ys a b = (a.0, reserved-append home n xs ys a.1 b)

labels_append : (xs ys : List Act) (w : World) (ls : List Label) → labels_from w ls (xs ++ ys) ≡ labels_from (acted w xs) (labels_from w ls xs) ys
unfolding acted labels_from
labels_append [] ys w ls = refl
labels_append (x ∷ xs) ys w ls = labels_append xs ys (act w x) (relabel (act w x) ls (label_of x))

-- units apart do not begin at one home
apart-home : (home n h m : ℕ) → 1 ≤ n → 1 ≤ m → Apart home n h m → h ≡ home → ⊥
apart-home home n h m p q (inl a) e = omega arith
apart-home home n h m p q (inr a) e = omega arith

module _ {E : Type 0} (home n : ℕ) (judge : List ℕ → E → ℕ) (apply : List ℕ → E → List ℕ) (Fit : E → Type 0) where
  -- ---- notes against labels

  abbrev Agree : List ℕ → List (Option E) → List Label → Type 0
  Agree b [] [] = Unit {0}
  Agree b [] (l ∷ ls) = ⊥
  Agree b (none ∷ ns) [] = ⊥
  Agree b (some e ∷ ns) [] = ⊥
  Agree b (none ∷ ns) (l ∷ ls) = (last_unit home b (l ∷ []) ≡ b) × Agree b ns ls
  Agree b (some e ∷ ns) (l ∷ ls) = Fit e × (judge b e ≡ 0) × (l ≡ unit home (apply b e)) × Agree (apply b e) ns ls

  agree-length : (b : List ℕ) (ns : List (Option E)) (ls : List Label) → Agree b ns ls → length ns ≡ length ls
  agree-length b [] [] a = refl
  agree-length b [] (l ∷ ls) a = absurd a
  agree-length b (none ∷ ns) [] a = absurd a
  agree-length b (some e ∷ ns) [] a = absurd a
  agree-length b (none ∷ ns) (l ∷ ls) a = ap suc (agree-length b ns ls a.1)
  agree-length b (some e ∷ ns) (l ∷ ls) a = ap suc (agree-length (apply b e) ns ls a.3)

  agree-take : (k : ℕ) (b : List ℕ) (ns : List (Option E)) (ls : List Label) → Agree b ns ls → Agree b (take k ns) (take k ls)
  agree-take zero b ns ls a = tt
  agree-take (suc k) b [] [] a = tt
  agree-take (suc k) b [] (l ∷ ls) a = absurd a
  agree-take (suc k) b (none ∷ ns) [] a = absurd a
  agree-take (suc k) b (some e ∷ ns) [] a = absurd a
  agree-take (suc k) b (none ∷ ns) (l ∷ ls) a = (a.0, agree-take k b ns ls a.1)
  agree-take (suc k) b (some e ∷ ns) (l ∷ ls) a = (a.0, a.1, a.2, agree-take k (apply b e) ns ls a.3)

  agree-other : (b : List ℕ) (ns : List (Option E)) (ls : List Label) (l : Label) → Agree b ns ls → ((c : List ℕ) → last_unit home c (l ∷ []) ≡ c)
      → Agree b (ns ++ (none ∷ [])) (ls ++ (l ∷ []))
  agree-other b [] [] l a f = (f b, tt)
  agree-other b [] (m ∷ ls) l a f = absurd a
  agree-other b (none ∷ ns) [] l a f = absurd a
  agree-other b (some e ∷ ns) [] l a f = absurd a
  agree-other b (none ∷ ns) (m ∷ ls) l a f = (a.0, agree-other b ns ls l a.1 f)
  agree-other b (some e ∷ ns) (m ∷ ls) l a f = (a.0, a.1, a.2, agree-other (apply b e) ns ls l a.3 f)

  agree-event : (b : List ℕ) (ns : List (Option E)) (ls : List Label) (e : E) → Agree b ns ls → Fit e → judge (held_after apply b (noted ns)) e ≡ 0
      → Agree b (ns ++ (some e ∷ [])) (ls ++ (unit home (apply (held_after apply b (noted ns)) e) ∷ []))
  unfolding noted held_after
  agree-event b [] [] e a f j = (f, j, refl, tt)
  agree-event b [] (m ∷ ls) e a f j = absurd a
  agree-event b (none ∷ ns) [] e a f j = absurd a
  agree-event b (some d ∷ ns) [] e a f j = absurd a
  agree-event b (none ∷ ns) (m ∷ ls) e a f j = (a.0, agree-event b ns ls e a.1 f j)
  agree-event b (some d ∷ ns) (m ∷ ls) e a f j = (a.0, a.1, a.2, agree-event (apply b d) ns ls e a.3 f j)

  last_more : (b : List ℕ) (l : Label) (ls : List Label) → last_unit home b (l ∷ ls) ≡ last_unit home (last_unit home b (l ∷ [])) ls
  unfolding last_unit
  last_more b other ls = refl
  last_more b (unit h bs) ls = refl

  last-own : (b bs : List ℕ) → last_unit home b (unit home bs ∷ []) ≡ bs
  unfolding last_unit
  last-own b bs = rw (eq-eqb home home refl)

  agree-last : (b : List ℕ) (ns : List (Option E)) (ls : List Label) → Agree b ns ls → last_unit home b ls ≡ held_after apply b (noted ns)
  unfolding noted held_after
  agree-last b [] [] a = (unfold last_unit in refl)
  agree-last b [] (l ∷ ls) a = absurd a
  agree-last b (none ∷ ns) [] a = absurd a
  agree-last b (some e ∷ ns) [] a = absurd a
  agree-last b (none ∷ ns) (l ∷ ls) a = last_more b l ls ∙ ap (λ (c : List ℕ). last_unit home c ls) a.0 ∙ agree-last b ns ls a.1
  agree-last b (some e ∷ ns) (l ∷ ls) a =
      last_more b l ls
      ∙ ap (λ (c : List ℕ). last_unit home c ls) (ap (λ (m : Label). last_unit home b (m ∷ [])) a.2 ∙ last-own b (apply b e))
      ∙ agree-last (apply b e) ns ls a.3

  agree-judged : (b : List ℕ) (ns : List (Option E)) (ls : List Label) → Agree b ns ls
      → JudgedFrom home n judge apply b (noted ns) × AllFit Fit (noted ns)
  unfolding noted
  agree-judged b [] [] a = (tt, tt)
  agree-judged b [] (l ∷ ls) a = absurd a
  agree-judged b (none ∷ ns) [] a = absurd a
  agree-judged b (some e ∷ ns) [] a = absurd a
  agree-judged b (none ∷ ns) (l ∷ ls) a = agree-judged b ns ls a.1
  agree-judged b (some e ∷ ns) (l ∷ ls) a = let k = agree-judged (apply b e) ns ls a.3 in ((a.1, k.0), (a.0, k.1))

  -- ---- what every step keeps

  abbrev blank : List ℕ
  blank = zeros (64 * n)

  -- a world that a history of acts reaches, and the notes beside its labels
  record Going (w : World) (ns : List (Option E)) : Type 0 where
    groups : ℕ
    homes : ℕ
    format : Formatting groups homes
    history : List Act
    allowed : AllActsAllowed (after_format format) history
    reserved : Reserved home n history
    world : acted (after_format format) history ≡ w
    some : 1 ≤ n
    inside : home + n ≤ homes
    agree : Agree blank ns (labels_from (after_format format) [] history)

  module _ (w : World) (ns : List (Option E)) (g : Going w ns) where
    abbrev named : List Label
    named = labels_from (after_format g.format) [] g.history

    kept : UnitKept home n w named
    kept =
        subst (λ (v : World). UnitKept home n v named) g.world
        (unfold labels in units-kept home n g.groups g.homes g.some g.inside g.format g.history g.allowed g.reserved)

    as_many : length ns ≡ length w.book.commits
    as_many = agree-length blank ns named g.agree ∙ kept.many

    -- a step that leaves the world as it is leaves the notes
    same-notes : (x : Option E) → relabel w ns x ≡ ns
    unfolding relabel
    same-notes x = take_at ns (x ∷ []) (length w.book.commits) as_many

    goes_by : (a : Act) (x : Option E) → 1 ≤ n → ActAllowed w a → Spared home n a → Agree blank (ns ++ (x ∷ [])) (named ++ (label_of a ∷ []))
        → Going (act w a) (relabel (act w a) ns x)
    goes_by a x p ok s agrees =
        let w₀ : World = after_format g.format in
        let one : acted w (a ∷ []) ≡ act w a = (unfold acted in refl) in
        let last : labels_from w named (a ∷ []) ≡ relabel (act w a) named (label_of a) = (unfold labels_from in refl) in
        let longer : labels_from w₀ [] (g.history ++ (a ∷ [])) ≡ relabel (act w a) named (label_of a) =
        labels_append g.history (a ∷ []) w₀ [] ∙ ap (λ (v : World). labels_from v named (a ∷ [])) g.world ∙ last in
        let front : Agree blank (relabel (act w a) ns x) (relabel (act w a) named (label_of a)) =
        (unfold relabel in agree-take (length (act w a).book.commits) blank (ns ++ (x ∷ [])) (named ++ (label_of a ∷ [])) agrees) in
        record {
          groups = g.groups;
          homes = g.homes;
          format = g.format;
          history = g.history ++ (a ∷ []);
          allowed = allowed-append g.history (a ∷ []) w₀ g.allowed (subst (λ (v : World). AllActsAllowed v (a ∷ [])) (sym g.world) (ok, tt));
          reserved = reserved-append home n g.history (a ∷ []) g.reserved (s, tt);
          world = acted-append g.history (a ∷ []) w₀ ∙ ap (λ (v : World). acted v (a ∷ [])) g.world ∙ one;
          some = g.some;
          inside = g.inside;
          agree =
              subst (Agree blank (relabel (act w a) ns x)) (sym longer) front;
        }

    stays_by : (u : World) (x : Option E) → u ≡ w → Going u (relabel u ns x)
    stays_by u x e = subst (λ (v : World). Going v (relabel v ns x)) (sym e) (rw (same-notes x) g)

    other_last : (c : List ℕ) → last_unit home c (other ∷ []) ≡ c
    unfolding last_unit
    other_last c = refl

    apart-last : (h : ℕ) (bs : List ℕ) → (h ≡ home → ⊥) → (c : List ℕ) → last_unit home c (unit h bs ∷ []) ≡ c
    unfolding last_unit
    apart-last h bs m c = rw (ne_eqb h home m)

    -- an event of demand 3's list that stores to none of the homes, or is refused
    apart-goes : (e : Event) → 1 ≤ n → Allowed w e → SparedByEvent home n e → Going (act w (plain e)) (relabel (act w (plain e)) ns none)
    unfolding label_of
    apart-goes e p ok s = goes_by (plain e) none p ok s (agree-other blank ns named other g.agree other_last)

    change-goes : (c : Change) → 1 ≤ n → Allowed w (call (change c)) → ((ends w (change c)).code ≡ 0 → SparedByChange home n c)
        → Going (act w (plain (call (change c)))) (relabel (act w (plain (call (change c)))) ns none)
    change-goes (begins v) p ok s = apart-goes (call (change (begins v))) p ok tt
    change-goes (reserves v places) p ok s = apart-goes (call (change (reserves v places))) p ok tt
    change-goes (aborts v) p ok s = apart-goes (call (change (aborts v))) p ok tt
    change-goes (stores v h block batch) p ok s = go (eqb (ends w (store v h block batch)).code 0) refl
      where
        go : (d : Bool) → eqb (ends w (store v h block batch)).code 0 ≡ d
            → Going (act w (plain (call (store v h block batch)))) (relabel (act w (plain (call (store v h block batch)))) ns none)
        go true e = apart-goes (call (store v h block batch)) p ok (s (eqb-true (ends w (store v h block batch)).code 0 e))
        go false e =
            stays_by (act w (plain (call (store v h block batch)))) none
            ((refusals-stay w).stores v h block batch (eqb-false (ends w (store v h block batch)).code 0 e))
    change-goes (commits v batch) p ok s = apart-goes (call (change (commits v batch))) p ok tt
    change-goes (flushes batch) p ok s = apart-goes (call (change (flushes batch))) p ok tt

    plain-goes : (e : Event) → 1 ≤ n → Allowed w e → (Happens w e → SparedByEvent home n e)
        → Going (act w (plain e)) (relabel (act w (plain e)) ns none)
    plain-goes (call (opening state newest batch)) p ok s = apart-goes (call (opening state newest batch)) p ok tt
    plain-goes (call confirm) p ok s = apart-goes (call confirm) p ok tt
    plain-goes (call (change c)) p ok s = change-goes c p ok s
    plain-goes (call (service c)) p ok s = apart-goes (call (service c)) p ok tt
    plain-goes (crash passed chosen) p ok s = apart-goes (crash passed chosen) p ok tt

    act-goes : (a : Act) → 1 ≤ n → ActAllowed w a → SparedByAct home n judge apply w a → Going (act w a) (relabel (act w a) ns none)
    unfolding label_of
    act-goes (plain e) p ok s = plain-goes e p ok s
    act-goes (transacts v h blocks batch) p ok s = go (eqb (transact_ends w v h blocks batch).code 0) refl
      where
        go : (d : Bool) → eqb (transact_ends w v h blocks batch).code 0 ≡ d
            → Going (act w (transacts v h blocks batch)) (relabel (act w (transacts v h blocks batch)) ns none)
        go true e =
            let z : (transact_ends w v h blocks batch).code ≡ 0 = eqb-true (transact_ends w v h blocks batch).code 0 e in
            goes_by (transacts v h blocks batch) none p ok (inr (s z))
            (agree-other blank ns named (unit h blocks) g.agree
            (apart-last h blocks (apart-home home n h (length blocks / 64) p ((refusals-stay w).some v h blocks batch z) (s z))))
        go false e =
            stays_by (act w (transacts v h blocks batch)) none
            ((refusals-stay w).transactions v h blocks batch (eqb-false (transact_ends w v h blocks batch).code 0 e))
    act-goes (fetches v h blocks) p ok s = goes_by (fetches v h blocks) none p ok s (agree-other blank ns named other g.agree other_last)
    act-goes (revises v h blocks) p ok s = goes_by (revises v h blocks) none p ok s (agree-other blank ns named other g.agree other_last)

    -- the blocks that an event's call reads
    read-blocks : (v : ℕ) → w.ready ≡ true → (read_for home n judge apply w v).code ≡ 0
        → (read_for home n judge apply w v).block ≡ held_after apply blank (noted ns)
    unfolding read_for
    read-blocks v ready z = kept.revised v blank ready (length-zeros (64 * n)) z ∙ agree-last blank ns named g.agree

    module _ (p : 1 ≤ n) (sized : (b : List ℕ) (d : E) → judge b d ≡ 0 → length (apply b d) ≡ 64 * n) (ready : w.ready ≡ true) (v : ℕ) (e : E)
        (batch : List ℕ) (f : Fit e) where
      -- an event that the blocks held let be done, stored
      held-goes : (blocks : List ℕ) → judge (held_after apply blank (noted ns)) e ≡ 0 → blocks ≡ apply (held_after apply blank (noted ns)) e
          → Going (act w (transacts v home blocks batch)) (relabel (act w (transacts v home blocks batch)) ns (some e))
      unfolding label_of
      held-goes blocks j q =
          let b : List ℕ = held_after apply blank (noted ns) in
          goes_by (transacts v home blocks batch) (some e) p ready (inl (refl, ap length q ∙ sized b e j))
          (subst (λ (c : List ℕ). Agree blank (ns ++ (some e ∷ [])) (named ++ (unit home c ∷ []))) (sym q)
          (agree-event blank ns named e g.agree f j))

      event-goes : event_answer home n judge apply w v e ≡ 0
          → Going (act w (transacts v home (apply (read_for home n judge apply w v).block e) batch))
          (relabel (act w (transacts v home (apply (read_for home n judge apply w v).block e) batch)) ns (some e))
      unfolding event_answer
      event-goes z =
          let k = first-zero (read_for home n judge apply w v).code (judge (read_for home n judge apply w v).block e) z in
          let q : (read_for home n judge apply w v).block ≡ held_after apply blank (noted ns) = read-blocks v ready k.0 in
          held-goes (apply (read_for home n judge apply w v).block e) (subst (λ (c : List ℕ). judge c e ≡ 0) q k.1) (ap (λ (c : List ℕ). apply c e) q)

  -- ---- every history

  module _ (p : 1 ≤ n) (sized : (b : List ℕ) (e : E) → judge b e ≡ 0 → length (apply b e) ≡ 64 * n) where
    one-act : (w : World) (a : Act) → acted w (a ∷ []) ≡ act w a
    unfolding acted
    one-act w a = refl

    two-acts : (w : World) (a c : Act) → acted w (a ∷ c ∷ []) ≡ act (act w a) c
    unfolding acted
    two-acts w a c = refl

    step-goes : (w : World) (ns : List (Option E)) (s : Step E) → Going w ns → StepAllowed home n judge apply w s → SparedByStep home n judge apply Fit w s
        → Going (stepped home n judge apply w s) (relabel (stepped home n judge apply w s) ns (note_of s))
    unfolding stepped acts_of note_of
    step-goes w ns (acts a) g ok f = subst (λ (u : World). Going u (relabel u ns none)) (sym (one-act w a)) (act-goes w ns g a p ok f)
    step-goes w ns (offers v e batch) g ok f = go (eqb (event_answer home n judge apply w v e) 0) refl
      where
        look : Act
        look = revises v home (zeros (64 * n))

        same : act w look ≡ w
        same = (refusals-stay w).revising v home (zeros (64 * n))

        go : (d : Bool) → eqb (event_answer home n judge apply w v e) 0 ≡ d
            → Going (acted w (look ∷ cond d (storing home n judge apply v (read_for home n judge apply w v).block e batch) []))
            (relabel (acted w (look ∷ cond d (storing home n judge apply v (read_for home n judge apply w v).block e batch) [])) ns (some e))
        go true q =
            let a : Act = transacts v home (apply (read_for home n judge apply w v).block e) batch in
            let u : acted w (look ∷ storing home n judge apply v (read_for home n judge apply w v).block e batch) ≡ act w a =
            (unfold storing in two-acts w look a ∙ ap (λ (x : World). act x a) same) in
            subst (λ (x : World). Going x (relabel x ns (some e))) (sym u)
            (event-goes w ns g p sized ok v e batch f (eqb-true (event_answer home n judge apply w v e) 0 q))
        go false q = stays_by w ns g (acted w (look ∷ [])) (some e) (one-act w look ∙ same)
    step-goes w ns (sets v e batch) g ok f =
        let a : Act = transacts v home (apply blank e) batch in
        let h = f.1 (held_after apply blank (noted ns)) in
        let u : acted w (storing home n judge apply v blank e batch) ≡ act w a = (unfold storing in one-act w a) in
        subst (λ (x : World). Going x (relabel x ns (some e))) (sym u) (held-goes w ns g p sized ok v e batch f.0 (apply blank e) h.0 (sym h.1))

    all_go : (ss : List (Step E)) (w : World) (ns : List (Option E)) → Going w ns → AllStepsAllowed home n judge apply w ss
        → SparedBySteps home n judge apply Fit w ss → Going (ran home n judge apply w ss) (notes_from home n judge apply w ns ss)
    unfolding ran notes_from
    all_go [] w ns g ok f = g
    all_go (s ∷ ss) w ns g ok f =
        all_go ss (stepped home n judge apply w s) (relabel (stepped home n judge apply w s) ns (note_of s)) (step-goes w ns s g ok.0 f.0) ok.1 f.1

  -- what an event's call answers once its read is done
  answered-is : (w : World) (v : ℕ) (e : E) (batch : List ℕ) → (read_for home n judge apply w v).code ≡ 0
      → answered home n judge apply w v e batch
      ≡ first (judge (read_for home n judge apply w v).block e) (transact_ends w v home (apply (read_for home n judge apply w v).block e) batch).code
  unfolding answered event_answer first
  answered-is w v e batch z = rw (eq-eqb (read_for home n judge apply w v).code 0 z)

  going-folded : (w : World) (ns : List (Option E)) → Going w ns → Folded home n judge apply Fit w ns
  going-folded w ns g =
      let front : (k : ℕ) → Agree blank (take k ns) (take k (named w ns g)) = λ k. agree-take k blank ns (named w ns g) g.agree in
      record {
        many = as_many w ns g;
        fit = λ k. (agree-judged blank (take k ns) (take k (named w ns g)) (front k)).1;
        judged = λ k. (agree-judged blank (take k ns) (take k (named w ns g)) (front k)).0;
        held = λ k. (kept w ns g).held k ∙ agree-last blank (take k ns) (take k (named w ns g)) (front k);
        fetched = λ v blocks ready l z. (kept w ns g).fetched v blocks ready l z ∙ agree-last blank ns (named w ns g) g.agree;
        partly = λ v from m blocks ready l e z.
            (kept w ns g).partly v from m blocks ready l e z ∙ ap (λ (b : List ℕ). part b (64 * from) (64 * m)) (agree-last blank ns (named w ns g) g.agree);
        read = λ v ready z. read-blocks w ns g v ready z;
      }

  pub events-folded : EventsFolded home n judge apply Fit
  unfolding notes
  events-folded p sized groups homes d f ss ok s =
      let w : World = after_format f in
      let start : Going w [] =
      record {
        groups = groups;
        homes = homes;
        format = f;
        history = [];
        allowed = tt;
        reserved = tt;
        world = (unfold acted in refl);
        some = p;
        inside = d;
        agree = (unfold labels_from in tt);
      } in
      going-folded (ran home n judge apply w ss) (notes_from home n judge apply w [] ss) (all_go p sized ss w [] start ok s)

  -- ---- by a list of events

  module _ (answer : List E → E → ℕ) (Represents : List E → List ℕ → Type 0) (grows : Growing home n judge apply Fit answer Represents) where
    kept-after : (es ds : List E) (b : List ℕ) → Represents ds b → AllFit Fit es → JudgedFrom home n judge apply b es
        → AcceptedFrom answer ds es × Represents (ds ++ es) (held_after apply b es)
    unfolding AcceptedFrom held_after
    kept-after [] ds b k f j = (tt, subst (λ (xs : List E). Represents xs b) (sym (append-nil ds)) k)
    kept-after (e ∷ es) ds b k f j =
        let g = grows ds b e k f.0 in
        let r = kept-after es (ds ++ (e ∷ [])) (apply b e) (g.1 j.0) f.1 j.1 in
        ((sym g.0 ∙ j.0, r.0), subst (λ (xs : List E). Represents xs (held_after apply (apply b e) es)) (append_assoc ds (e ∷ []) es) r.1)

    folded-recorded : (w : World) (ns : List (Option E)) → Represents [] blank → Folded home n judge apply Fit w ns
        → Recorded home n judge apply Fit answer Represents w ns
    folded-recorded w ns base f =
        let whole : noted (take (length ns) ns) ≡ noted ns = ap noted (take-length ns) in
        let front : (k : ℕ) → AcceptedFrom answer [] (noted (take k ns)) × Represents (noted (take k ns)) (held_after apply blank (noted (take k ns))) =
        λ k. kept-after (noted (take k ns)) [] blank base (f.fit k) (f.judged k) in
        let all : Represents (noted ns) (held_after apply blank (noted ns)) =
        subst (λ (es : List E). Represents es (held_after apply blank es)) whole (front (length ns)).1 in
        record {
          many = f.many;
          accepted = λ k. (front k).0;
          kept = λ k. subst (Represents (noted (take k ns))) (sym (f.held k)) (front k).1;
          fetched = λ v blocks ready l z. subst (Represents (noted ns)) (sym (f.fetched v blocks ready l z)) all;
          partly = λ v from m blocks ready l e z. (held_after apply blank (noted ns), all, f.partly v from m blocks ready l e z);
          answers = λ v e batch ready z t.
              answered-is w v e batch z ∙ ap (λ (a : ℕ). first a (transact_ends w v home (apply (read_for home n judge apply w v).block e) batch).code) (ap (λ (b : List ℕ). judge b e) (f.read v ready z) ∙ (grows (noted ns) (held_after apply blank (noted ns)) e all t).0);
        }

  pub events-recorded : (answer : List E → E → ℕ) (Represents : List E → List ℕ → Type 0) → EventsRecorded home n judge apply Fit answer Represents
  events-recorded answer Represents p sized base grows groups homes d f ss ok s =
      folded-recorded answer Represents grows (ran home n judge apply (after_format f) ss) (notes home n judge apply (after_format f) ss) base
      (events-folded p sized groups homes d f ss ok s)
