-- The worlds of the bare calls behind a board, each with the abstract store, and what a loss makes of one.
use Prim.Native.Nat.{ℕ, ◌+◌, ◌*◌, ◌≤◌}
use mathlib.Core.Path.{◌≡◌, refl, sym, ap, ◌∙◌, subst}
use mathlib.Core.Logic.{◌⊎◌, inl, inr}
use mathlib.Core.Bool.{Bool, true, false}
use mathlib.Core.List.{List, []}
use native.Mathlib.Omega.{arith}
use lib.Dec.{leb}
use lib.ListN.{length, drop}
use borrow.Author.Tests.{eq-eqb, le-leb}
use Rattle.model.specs.Layout.{max_start}
use Rattle.model.specs.Questions.{ask}
use Rattle.model.specs.State.{state_of, next_position}
use Rattle.model.specs.Book.{Book, Commit, run, owed_by, homes_after}
use Rattle.model.specs.Book as book
use Rattle.model.specs.Crash.{fences}
use Rattle.model.specs.DemandThree.{NoneOwed, lost}
use Rattle.model.specs.History.{Call, opening, call, World, Formatting, after_format, ends, step, row_fates, after_crash, Allowed, is_opening}
use Rattle.abstract_store.specs.Store.{Store, new_store, Reply, reply, reply_of, follow, next_of, next_group, group_of_first, many_homes, any_wrote, told, ask_batch}
use Rattle.model_laws.proofs.trace.TraceLaws.{All}
use Rattle.theorems.proofs.invariant.Invariant.{Sizes, Running}
use Rattle.theorems.proofs.steps.FormatRuns.{after-format, sizes}
use Rattle.theorems.proofs.store.StoreAgrees.{next-is, filled_is}
use Rattle.object.specs.Medium.{Grain}
use Rattle.object.specs.Alike.{Tearing, plain, torn, tears, TearingAllowed, with_memory}
use Rattle.object.specs.Order.{Left}
use Rattle.object.specs.Runner.{Carried}
use Rattle.object.specs.TornClaims.{follow_torn}
use Rattle.object.proofs.StretchesOf.{Stretches}
use Rattle.object.proofs.TornHolds.{keeps-torn}
use Rattle.object.proofs.TornClaims.{Standing, stands, stands-there, answers-now}
use Rattle.object.proofs.WordsHold.{torn-words, cut-words, format-words}
use Rattle.object_runner.proofs.DueHolds.{WaitsIf, running, tearing-waits, empty-waits}
use Rattle.object_board.specs.Board.{cut_to, AllOwed}
use Rattle.object_board.proofs.BareLaws.{run_is, run-within, owed-up-to, tickets-below, marked-few}

-- a loss cuts the book to the run
pub cut-is : (b : Book) (fs : List (ℕ → Bool)) → book.crash b fs ≡ cut_to (length (run fs b.commits)) b
unfolding cut_to book.crash
cut-is b fs = rw (run_is fs b.commits)

module _ (G D : ℕ) (z : Sizes G D) where
  pub record Way (w : World) (s : Store) : Type 0 where
    pub standing : Standing G D z w s
    pub stretches : Stretches G D w
    pub waits : WaitsIf G w

  pub way-torn : (w : World) (s : Store) → Way w s → (t : Tearing) → TearingAllowed G w t → Way (tears w t) (follow_torn s w t)
  way-torn w s k t a =
      record {
        standing = stands G D z w s k.standing t a;
        stretches = torn-words G D z w k.standing.invariant k.stretches t a;
        waits = tearing-waits G D z w k.standing.invariant k.waits t a;
      }

  pub way-call : (w : World) (s : Store) → Way w s → (c : Call) → Allowed w (call c) → Way (step w (call c)) (follow s w (call c))
  way-call w s k c a = unfold tears follow_torn in way-torn w s k (plain (call c)) a

  pub way-running : (w : World) (s : Store) → Way w s → w.ready ≡ true → Running G D w
  way-running w s k h = running G D w k.standing.invariant h

  pub way-answers : (w : World) (s : Store) → Way w s → (c : Call) → Allowed w (call c) → reply_of (ends w c) ≡ reply s c
  way-answers w s k c a = answers-now G D z w s k.standing (plain (call c)) a

  -- where the log stands, by the strip
  pub next-told : (w : World) (s : Store) → Way w s → w.ready ≡ true → (state_of w.state).next ≡ next_group s
  next-told w s k h = sym (next-is G D z w (way-running w s k h) s k.standing.agrees)

  pub fenced-told : (w : World) (s : Store) → Way w s → w.ready ≡ true → (state_of w.state).fenced ≡ s.fenced
  fenced-told w s k h = sym (k.standing.agrees.numbers h).fenced

  -- no commit has a ticket above the next position, so a confirm of a fence up to there owes all
  pub all-owed : (w : World) (s : Store) → Way w s → w.ready ≡ true → s.fenced ≡ next_of s → AllOwed (owed_by s.fenced w.book.commits)
  unfolding next_of next_position
  all-owed w s k h e =
      let r = way-running w s k h in
      let n = next-is G D z w r s k.standing.agrees in
      let f = filled_is G D z w r s k.standing.agrees in
      let p = r.copies.position in
      let q : 7 * r.b + length r.tr ≡ s.fenced = sym p ∙ ap (λ (x : ℕ). 7 * x + (state_of w.state).filled) (sym n) ∙ ap (λ (x : ℕ). 7 * next_group s + x) (sym f) ∙ sym e in
      owed-up-to s.fenced w.book.commits (k.standing.owing h)
      (subst (λ (x : ℕ). All (λ (c : Commit). c.ticket ≤ x) w.book.commits) q (tickets-below D r.b r.tr r.old w.book.commits r.commits))

  -- an opening that is lent enough is done, or the log is worn out
  module _ (s : Store) (state newest batch : List ℕ) (a : length state ≡ 1024) (b : length newest ≡ 8 * s.homes) (c : 72 + 516 * s.groups + 68 * s.homes ≤ length batch) where
    small : 68 * many_homes s.homes s.back + (72 + 516 * s.groups) ≤ length batch
    unfolding many_homes
    small = omega (arith, marked-few (λ x. any_wrote x s.back) s.homes)

    reply-opening : ((reply s (opening state newest batch)).code ≡ 0) ⊎ ((reply s (opening state newest batch)).code ≡ 10)
    unfolding reply ask_batch
    reply-opening =
        rw (eq-eqb (length state) 1024 a, eq-eqb (length newest) (8 * s.homes) b, le-leb (68 * many_homes s.homes s.back + (72 + 516 * s.groups)) (length batch) small)
        (go (leb (group_of_first s) max_start))
      where
        go : (d : Bool) → ((told (ask true 1 (ask d 10 (ask true 9 0))) (length s.back) (68 * many_homes s.homes s.back + (72 + 516 * s.groups))).code ≡ 0)
            ⊎ ((told (ask true 1 (ask d 10 (ask true 9 0))) (length s.back) (68 * many_homes s.homes s.back + (72 + 516 * s.groups))).code ≡ 10)
        go true = inl (unfold told ask in refl)
        go false = inr (unfold told ask in refl)

  pub opening-answers : (w : World) (s : Store) → Way w s → (state newest batch : List ℕ) → w.ready ≡ false → length state ≡ 1024 → length newest ≡ 8 * D
      → 72 + 516 * G + 68 * D ≤ length batch → ((ends w (opening state newest batch)).code ≡ 0) ⊎ ((ends w (opening state newest batch)).code ≡ 10)
  unfolding reply_of
  opening-answers w s k state newest batch h a b c =
      let e : (ends w (opening state newest batch)).code ≡ (reply s (opening state newest batch)).code =
      ap (λ (x : Reply). x.code) (way-answers w s k (opening state newest batch) (unfold is_opening in rw h)) in
      rw e
      (reply-opening s state newest batch a (b ∙ ap (λ (x : ℕ). 8 * x) (sym k.standing.agrees.homes))
      (omega (arith, c, k.standing.agrees.homes, k.standing.agrees.groups)))

  -- a loss: power, or a load
  module _ (l : Grain) where
    pub record Lost (w : World) (s : Store) (many : ℕ) (chosen : ℕ → Bool) : Type 0 where
      pub left : World
      pub store : Store
      pub way : Way left store
      pub commits : ℕ
      pub memory : left.memory ≡ Left l w many chosen
      pub pending : left.pending ≡ []
      pub passed : left.passed ≡ 0
      pub ready : left.ready ≡ false
      pub homes : left.homes ≡ w.homes
      pub book : left.book ≡ cut_to commits w.book
      pub few : commits ≤ length w.book.commits
      pub owed : NoneOwed (drop commits w.book.commits)

    pub loses-way : (w : World) (s : Store) → Way w s → (many : ℕ) (chosen : ℕ → Bool) → Carried l w many → Lost w s many chosen
    unfolding tears with_memory lost
    loses-way w s k many chosen x =
        let i = k.standing.invariant in
        let q = cut-words G D z w i k.stretches l many chosen in
        let low : fences x.front ≤ q.passed = q.least x.front x.more x.split x.out in
        let t : Tearing = torn q.passed q.chosen (Left l w many chosen) in
        let a : TearingAllowed G w t = (omega (arith, x.confirmed), q.most, q.alike) in
        record {
          left = tears w t;
          store = follow_torn s w t;
          way = way-torn w s k t a;
          commits = length (run (row_fates w q.passed q.chosen) w.book.commits);
          memory = refl;
          pending = unfold after_crash in refl;
          passed = unfold after_crash in refl;
          ready = unfold after_crash in refl;
          homes = unfold after_crash in refl;
          book = unfold after_crash in cut-is w.book (row_fates w q.passed q.chosen);
          few = run-within (row_fates w q.passed q.chosen) w.book.commits;
          owed = (keeps-torn G D z w i t a).1;
        }

-- from every format on
pub way-first : (G D : ℕ) (f : Formatting G D) → Way G D (sizes f) (after_format f) (new_store G D)
way-first G D f =
    record {
      standing = stands-there G D f;
      stretches = rw (after-format f) (format-words G D (sizes f));
      waits = rw (after-format f) (empty-waits G D (sizes f));
    }
