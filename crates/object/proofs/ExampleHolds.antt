-- The histories of specs/Example meet the premises of DemandRunner, DemandTorn and WordsEnough, which therefore say something of them.
use Prim.Native.Nat.{ℕ, zero, suc, ◌+◌, ◌<◌}
use mathlib.Core.Path.{◌≡◌, refl, sym, ap, subst}
use mathlib.Core.Logic.{◌⊎◌, inl, inr}
use mathlib.Core.Bool.{Bool, true, false, cond, not, ◌&&◌, ◌||◌, false≢true}
use mathlib.Core.List.{List, [], ◌∷◌, ◌++◌}
use native.Mathlib.Omega.{arith}
use lib.Dec.{eqb, leb, ltb}
use lib.ListN.{length, take, drop}
use borrow.Author.Tests.{eqb-true, eqb-false, leb-true, ltb-true}
use Rattle.model.specs.Bytes.{part, zeros, same}
use Rattle.model.specs.Layout.{group_mark, group_at, group_number, header_start, home_at}
use Rattle.model.specs.Batch.{Record}
use Rattle.model.specs.Calls.{Outcome, format_call}
use Rattle.model.specs.Crash.{Memory, is_fence, fences, persist}
use Rattle.model.specs.Book.{Book}
use Rattle.model.specs.Book as book
use Rattle.model.specs.History.{Change, begins, reserves, aborts, stores, commits, flushes, Service, settles, round_begins, round_steps, trims, reads, Call, opening, confirm, change, service, Event, call, crash, World, Formatting, after_format, empty_store, unopened, lent, loaded, change_ends, service_ends, ends, feed, is_opening, after_done, after_refused, after_call, row_fates, after_crash, step, calls as events, Allowed}
use Rattle.model.specs.examples.Trials.{answer_of}
use Rattle.model.specs.examples.Witnesses.{alike, allowed}
use Rattle.model_laws.proofs.bytes.ByteLaws.{length-zeros, same-eq}
use Rattle.model_laws.proofs.bytes.LayoutLaws.{three}
use Rattle.model_laws.proofs.state.QuestionLaws.{and-true}
use Rattle.model.proofs.examples.Computing.{all-definitions}
use Rattle.abstract_store.specs.Store.{new_store}
use Rattle.theorems.proofs.steps.FormatRuns.{after-format}
use Rattle.object.specs.Medium.{Grain, words, unit_of, chop_log, chop_area, chop, chop_all, writes, fences as fences-of, loses}
use Rattle.object.specs.Alike.{hole, rewrites, Alike, Tearing, plain, torn, with_memory, tears, torn_after, AllTearingsAllowed, AllTearingsHold}
use Rattle.object.specs.TornClaims.{LiveTorn, AnswersThroughTorn}
use Rattle.object.specs.Order.{motions, parted, body, head, heads_out, wipe, moves, moved, Left, Allowed as AllowedCut}
use Rattle.object.specs.Runner.{Doing, calls, cuts, Carried, AllRight}
use Rattle.object.specs.Example.{unformatted, open_again, alone, as_doings, third, other, all, history, opens, gives_alone, answered, up_to, behind, carried_out, runs_to, runs_as_listed, Goes, two_commits, torn_memory, as_tearings, tearings, slots_alike, numbers_below, homes_alike, is_alike, tears_to, whole_after, damaged, healing, opens_with}
use Rattle.object.proofs.TornHolds.{demand-torn}
use Rattle.object.proofs.TornClaims.{demand2-torn, answers-torn-hold}
use Rattle.object.proofs.WordsHold.{words-enough}
use Rattle.object.proofs.RunnerHolds.{demand-runner}

-- A world with another book: no call looks at it

unfoldable pub with_book : World → Book → World
with_book w b =
    record {
      homes = w.homes;
      state = w.state;
      newest = w.newest;
      log = w.log;
      area = w.area;
      memory = w.memory;
      pending = w.pending;
      passed = w.passed;
      ready = w.ready;
      book = b;
    }

change-book : (w : World) (b : Book) (c : Change) → change_ends (with_book w b) c ≡ change_ends w c
unfolding with_book change_ends lent
change-book w b (begins writer) = refl
change-book w b (reserves writer places) = refl
change-book w b (aborts writer) = refl
change-book w b (stores writer home block batch) = refl
change-book w b (commits writer batch) = refl
change-book w b (flushes batch) = refl

service-book : (w : World) (b : Book) (c : Service) → service_ends (with_book w b) c ≡ service_ends w c
unfolding with_book service_ends lent
service-book w b (settles batch) = refl
service-book w b round_begins = refl
service-book w b (round_steps homes batch) = refl
service-book w b (trims batch) = refl
service-book w b (reads writer home block) = refl

pub ends-book : (w : World) (b : Book) (c : Call) → ends (with_book w b) c ≡ ends w c
unfolding ends
ends-book w b (opening state newest batch) = unfold with_book loaded in refl
ends-book w b confirm = unfold with_book lent in refl
ends-book w b (change c) = change-book w b c
ends-book w b (service c) = service-book w b c

pub call-book : (w : World) (b : Book) (c : Call) → (d : Book) × (step (with_book w b) (call c) ≡ with_book (step w (call c)) d)
unfolding step
call-book w b c = rw (ends-book w b c) (go (ends w c) (ends w c).code)
  where
    go : (o : Outcome) (code : ℕ) → (d : Book) × (after_call (with_book w b) c o code ≡ with_book (after_call w c o code) d)
    go o zero = (feed b c o.figure, unfold after_call after_done with_book in refl)
    go o (suc code) = (b, unfold after_call after_refused with_book in refl)

pub cut-book : (w : World) (b : Book) (left : Memory) (passed : ℕ) (c : ℕ → Bool)
    → (d : Book) × (tears (with_book w b) (torn passed c left) ≡ with_book (tears w (torn 0 (λ i. false) left)) d)
cut-book w b left passed c =
    (book.crash b (row_fates (with_book w b) passed c), unfold tears with_memory after_crash with_book in refl)

-- The tests are right

alike-true : (a b : Bool) → alike a b ≡ true → a ≡ b
unfolding alike
alike-true true b e = sym e
alike-true false true e = absurd (false≢true e)
alike-true false false e = refl

pub call-allowed : (w : World) (c : Call) → allowed w (call c) ≡ true → is_opening c ≡ not w.ready
unfolding allowed
call-allowed w c h = alike-true (is_opening c) (not w.ready) h

allowed-true : (w : World) (e : Event) → allowed w e ≡ true → Allowed w e
unfolding allowed
allowed-true w (call c) h = call-allowed w c h
allowed-true w (crash passed chosen) h =
    let k = and-true (leb w.passed passed) (leb passed (fences w.pending)) h in
    (leb-true w.passed passed k.0, leb-true passed (fences w.pending) k.1)

split_at : (n : ℕ) (rs : List Record) → rs ≡ up_to n rs ++ behind n rs
unfolding up_to behind
split_at n [] = refl
split_at zero (r ∷ rs) = refl
split_at (suc n) (r ∷ rs) = ap {B = List Record} (λ x. r ∷ x) (split_at (cond (is_fence r) n (suc n)) rs)

carried-true : (l : Grain) (w : World) (b : Book) (many : ℕ) → carried_out l w many ≡ true → Carried l (with_book w b) many
unfolding carried_out with_book
carried-true l w b many h =
    let front : List Record = up_to w.passed w.pending in
    let k = and-true (leb w.passed (fences front)) (leb (length (motions l [] front)) many) h in
    record {
      front = front;
      more = behind w.passed w.pending;
      split = split_at w.passed w.pending;
      confirmed = leb-true w.passed (fences front) k.0;
      out = leb-true (length (motions l [] front)) many k.1;
    }

-- the premises of DemandRunner, whatever choice its cuts find
abbrev Met : Grain → World → List Doing → Type 0
Met l w [] = Unit {0}
Met l w (calls c ∷ ds) = Allowed w (call c) × Met l (step w (call c)) ds
Met l w (cuts many chosen ∷ ds) =
    Carried l w many × ((passed : ℕ) (c : ℕ → Bool) → Met l (tears w (torn passed c (Left l w many chosen))) ds)

met : (l : Grain) (ds : List Doing) (w : World) (b : Book) (answers : List ℕ) (asked : World → Bool) → runs_to l w ds answers asked ≡ true
    → Met l (with_book w b) ds
unfolding runs_to step with_book
met l [] w b answers asked h = tt
met l (calls c ∷ ds) w b answers asked h =
    let next : World = after_call w c (ends w c) (ends w c).code in
    let k = three (allowed w (call c)) (same (answer_of (ends w c)) (take 3 answers)) (runs_to l next ds (drop 3 answers) asked) h in
    let n = call-book w b c in (
      allowed-true w (call c) k.0,
      subst (λ (v : World). Met l v ds) (sym n.1) (met l ds (step w (call c)) n.0 (drop 3 answers) asked k.2),
    )
met l (cuts many chosen ∷ ds) w b answers asked h =
    let left : Memory = Left l w many chosen in
    let k = and-true (carried_out l w many) (runs_to l (tears w (torn 0 (λ i. false) left)) ds answers asked) h in (
      carried-true l w b many k.0,
      λ passed c.
          let n = cut-book w b left passed c in
          subst (λ (v : World). Met l v ds) (sym n.1) (met l ds (tears w (torn 0 (λ i. false) left)) n.0 answers asked k.1),
    )

goes : (l : Grain) (ds : List Doing) (w : World) → AllRight l w ds → Met l w ds → Goes l w ds
goes l [] w r m = tt
goes l (calls c ∷ ds) w r m = let k = r m.0 in (k.0, goes l ds (step w (call c)) k.1 m.1)
goes l (cuts many chosen ∷ ds) w r m =
    let k = r m.0 in (k.0, k.1, k.2, k.3, k.4, goes l ds (tears w (torn k.0 k.1 (Left l w many chosen))) k.5 (m.1 k.0 k.1))

-- the test for memories that are alike

or-true : (a b : Bool) → (a || b) ≡ true → (a ≡ true) ⊎ (b ≡ true)
or-true true b e = inl refl
or-true false b e = inr e

-- what a test says of all numbers below a bound
all-below : (P : ℕ → Type 0) (test : ℕ → Bool) (n : ℕ) → (test 0 ≡ true) → ((k : ℕ) → test (suc k) ≡ true → P k × (test k ≡ true)) → test n ≡ true
    → (k : ℕ) → k < n → P k
all-below P test zero z f h k l = absurd (omega arith)
all-below P test (suc n) z f h k l = go (all-below P test n z f (f n h).1 k) (eqb k n) refl
  where
    go : (k < n → P k) → (t : Bool) → eqb k n ≡ t → P k
    go before true e = subst P (sym (eqb-true k n e)) (f n h).0
    go before false e = before (omega (arith, eqb-false k n e))

module _ (G D : ℕ) (a b : Memory) where
  abbrev start : ℕ
  start = header_start b.log

  abbrev SlotAlike : ℕ → Type 0
  SlotAlike slot =
      (group_at a.log slot ≡ group_at b.log slot)
      ⊎ ((hole G start slot (group_at a.log slot) ≡ true) × (hole G start slot (group_at b.log slot) ≡ true))

  slot-alike : (n : ℕ) → slots_alike G a.log b.log (suc n) ≡ true → SlotAlike n × (slots_alike G a.log b.log n ≡ true)
  unfolding slots_alike
  slot-alike n h =
      let both : Bool = hole G start n (group_at a.log n) && hole G start n (group_at b.log n) in
      let k = and-true (same (group_at a.log n) (group_at b.log n) || both) (slots_alike G a.log b.log n) h in
      (go (or-true (same (group_at a.log n) (group_at b.log n)) both k.0), k.1)
    where
      go : (same (group_at a.log n) (group_at b.log n) ≡ true)
          ⊎ ((hole G start n (group_at a.log n) && hole G start n (group_at b.log n)) ≡ true) → SlotAlike n
      go (inl e) = inl (same-eq (group_at a.log n) (group_at b.log n) e)
      go (inr e) = let q = and-true (hole G start n (group_at a.log n)) (hole G start n (group_at b.log n)) e in inr (q.0, q.1)

  abbrev Below : ℕ → Type 0
  Below slot = same (part (group_at a.log slot) 0 2) group_mark ≡ true → group_number (group_at a.log slot) < start + G

  number-below : (n : ℕ) → numbers_below (start + G) a.log (suc n) ≡ true → Below n × (numbers_below (start + G) a.log n ≡ true)
  unfolding numbers_below
  number-below n h =
      let mark : Bool = same (part (group_at a.log n) 0 2) group_mark in
      let k = and-true (cond mark (ltb (group_number (group_at a.log n)) (start + G)) true) (numbers_below (start + G) a.log n) h in
      (λ e. ltb-true (group_number (group_at a.log n)) (start + G) (rw e at k.0), k.1)

  abbrev HomeAlike : ℕ → Type 0
  HomeAlike h = (home_at a.area h ≡ home_at b.area h) ⊎ (rewrites G D b.log h ≡ true)

  home-alike : (n : ℕ) → homes_alike G D a b (suc n) ≡ true → HomeAlike n × (homes_alike G D a b n ≡ true)
  unfolding homes_alike
  home-alike n h =
      let k = and-true (same (home_at a.area n) (home_at b.area n) || rewrites G D b.log n) (homes_alike G D a b n) h in
      (go (or-true (same (home_at a.area n) (home_at b.area n)) (rewrites G D b.log n) k.0), k.1)
    where
      go : (same (home_at a.area n) (home_at b.area n) ≡ true) ⊎ (rewrites G D b.log n ≡ true) → HomeAlike n
      go (inl e) = inl (same-eq (home_at a.area n) (home_at b.area n) e)
      go (inr e) = inr e

  is-alike : is_alike G D a b ≡ true → Alike G D a b
  unfolding is_alike
  is-alike h =
      let q₅ : Bool = homes_alike G D a b D in
      let q₄ : Bool = numbers_below (start + G) a.log G && q₅ in
      let q₃ : Bool = slots_alike G a.log b.log G && q₄ in
      let q₂ : Bool = same (part a.log 0 64) (part b.log 0 64) && q₃ in
      let q₁ : Bool = eqb (length a.area) (length b.area) && q₂ in
      let k₀ = and-true (eqb (length a.log) (length b.log)) q₁ h in
      let k₁ = and-true (eqb (length a.area) (length b.area)) q₂ k₀.1 in
      let k₂ = and-true (same (part a.log 0 64) (part b.log 0 64)) q₃ k₁.1 in
      let k₃ = and-true (slots_alike G a.log b.log G) q₄ k₂.1 in
      let k₄ = and-true (numbers_below (start + G) a.log G) q₅ k₃.1 in
      record {
        log_size = eqb-true (length a.log) (length b.log) k₀.0;
        area_size = eqb-true (length a.area) (length b.area) k₁.0;
        header = same-eq (part a.log 0 64) (part b.log 0 64) k₂.0;
        slots = all-below SlotAlike (slots_alike G a.log b.log) G (unfold slots_alike in refl) slot-alike k₃.0;
        numbers = all-below Below (numbers_below (start + G) a.log) G (unfold numbers_below in refl) number-below k₄.0;
        homes_of = all-below HomeAlike (homes_alike G D a b) D (unfold homes_alike in refl) home-alike k₄.1;
      }

pub met-torn : (G : ℕ) (ts : List Tearing) (w : World) → tears_to G w ts ≡ true → AllTearingsAllowed G w ts
unfolding tears_to tears
met-torn G [] w h = tt
met-torn G (plain e ∷ ts) w h =
    let k = and-true (allowed w e) (tears_to G (step w e) ts) h in
    (allowed-true w e k.0, met-torn G ts (step w e) k.1)
met-torn G (torn passed chosen left ∷ ts) w h =
    let m : Memory = persist passed chosen w.pending w.memory in
    let rest : Bool = is_alike G w.homes left m && tears_to G (tears w (torn passed chosen left)) ts in
    let k = three (leb w.passed passed) (leb passed (fences w.pending)) rest h in
    let q = and-true (is_alike G w.homes left m) (tears_to G (tears w (torn passed chosen left)) ts) k.2 in (
      (leb-true w.passed passed k.0, leb-true passed (fences w.pending) k.1, is-alike G w.homes left m q.0),
      met-torn G ts (tears w (torn passed chosen left)) q.1,
    )

-- Computed

-- a name that unfolds every definition below
unfoldable pub computed : Bool
unfolding all-definitions unit_of chop_log chop_area chop chop_all writes fences-of loses hole rewrites with_memory tears motions parted body head heads_out wipe moves moved unformatted open_again alone as_doings third other all history opens gives_alone answered up_to behind carried_out runs_to runs_as_listed two_commits torn_memory as_tearings tearings slots_alike numbers_below homes_alike is_alike tears_to whole_after damaged healing opens_with events
computed = true

format-done : (format_call unformatted).code ≡ 0
unfolding computed
format-done = refl

pub format : Formatting 4 4
unfolding unformatted
format =
    record {
      memory = record { log = zeros 2112; area = zeros 256 };
      given = unformatted;
      log_size = length-zeros 2112;
      area_size = length-zeros 256;
      log_copy = length-zeros 2112;
      area_copy = length-zeros 256;
      done = format-done;
    }

runs-as-listed : runs_as_listed ≡ true
unfolding computed
runs-as-listed = refl

torn-as-listed : tears_to 4 (empty_store 4 4) tearings ≡ true
unfolding computed
torn-as-listed = refl

-- torn, the memory is not one that whole blocks leave
pub torn-apart : same torn_memory.log (whole_after 4 two_commits).log ≡ false
unfolding computed
torn-apart = refl

-- but it opens
pub torn-opens : opens_with torn_memory ≡ 0
unfolding computed
torn-opens = refl

-- a format's first motions heal nothing
pub damage-stays : (opens_with damaged ≡ 3) × (opens_with healing ≡ 3)
unfolding computed
damage-stays = (refl, refl)

-- So the theorems say something of them

pub own-book : with_book (empty_store 4 4) book.empty ≡ empty_store 4 4
unfolding with_book empty_store unopened
own-book = refl

pub runner-there : Goes words (after_format format) history
unfolding runs_as_listed
runner-there =
    goes words history (after_format format) (demand-runner words 4 4 format history)
    (rw (after-format format)
    (subst (λ (w : World). Met words w history) own-book (met words history (empty_store 4 4) book.empty answered _ runs-as-listed)))

pub met-tearings : AllTearingsAllowed 4 (after_format format) tearings
met-tearings = rw (after-format format) (met-torn 4 tearings (empty_store 4 4) torn-as-listed)

pub torn-there : AllTearingsHold (after_format format) tearings
torn-there = demand-torn 4 4 format tearings met-tearings

pub live-there : LiveTorn (after_format format) tearings
live-there = demand2-torn 4 4 format tearings met-tearings

pub answers-there : AnswersThroughTorn (after_format format) (new_store 4 4) tearings
answers-there = answers-torn-hold 4 4 format tearings met-tearings

-- and of a cut inside the opening that ends the second
pub enough-there : AllowedCut words 4 (torn_after (after_format format) tearings) 5 (Left words (torn_after (after_format format) tearings) 5 third)
enough-there = words-enough 4 4 format tearings met-tearings words 5 third
