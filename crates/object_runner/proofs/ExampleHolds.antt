-- The moments of specs/Example meet the premise of RunnerMoves, and its history that of RunnerCarries, which therefore say something of them.
use Prim.Native.Nat.{ℕ, ◌≤◌}
use mathlib.Core.Path.{◌≡◌, refl, sym, ap, ◌∙◌, subst}
use mathlib.Core.Bool.{Bool, true, false}
use mathlib.Core.List.{List, [], ◌∷◌, ◌++◌, append_assoc}
use lib.Dec.{leb}
use borrow.Author.Tests.{leb-true}
use Rattle.model.specs.Effects.{formatted}
use Rattle.model.specs.Calls.{Outcome}
use Rattle.model.specs.Crash.{Memory}
use Rattle.model.specs.Book.{Book}
use Rattle.model.specs.Book as book
use Rattle.model.specs.History.{flush, trim, call, World, after_format, empty_store, unopened, loaded, ends, is_opening, after_call, after_crash, step, calls, Allowed}
use Rattle.model.specs.examples.Trials.{room}
use Rattle.model.specs.examples.Witnesses.{open_again, allowed}
use Rattle.model.proofs.examples.Computing.{all-definitions}
use Rattle.model_laws.proofs.state.QuestionLaws.{and-true}
use Rattle.theorems.proofs.steps.FormatRuns.{after-format}
use Rattle.object.specs.Medium.{Grain, words}
use Rattle.object.specs.Alike.{Tearing, plain, torn, with_memory, tears, torn_after, AllTearingsAllowed}
use Rattle.object.specs.Order.{Motion, parted, head, motions, Left}
use Rattle.object.specs.Runner.{Doing, calls as runs, cuts}
use Rattle.object.specs.Example.{open_again as open_small, two_commits as two_groups, as_tearings, tearings, torn_memory, opens_with}
use Rattle.object.proofs.ExampleHolds.{computed as torn-definitions, with_book, ends-book, call-book, cut-book, call-allowed, own-book, format, met-tearings, torn-opens}
use Rattle.object_runner.specs.Moves.{words_from, words_due, headed_at, waiting_after, Due}
use Rattle.object_runner.specs.Always.{batch_of, records_of, next_of, headed_before, BatchDue}
use Rattle.object_runner.specs.Carries.{least_after, left_under, AllCarried}
use Rattle.object_runner.specs.Example.{fills, two_commits, before, settled, reopened, DueAt, figures, torn_front, cut_short, may_carry, Goes}
use Rattle.object_runner.proofs.DueHolds.{due-always}
use Rattle.object_runner.proofs.CarriesHold.{runner-carries}

unfoldable computed : Bool
unfolding all-definitions torn-definitions calls parted head words_from words_due headed_at waiting_after batch_of records_of next_of headed_before fills two_commits before settled reopened figures cut_short may_carry least_after
computed = true

-- two first words are due at the flush's fence, one at the trim's, none at the opening's three, which follow seven homes and four blank groups
pub flush-figures : figures before (flush room) ≡ 4 ∷ 6 ∷ 1 ∷ 2 ∷ 1 ∷ []
unfolding computed
flush-figures = refl

pub trim-figures : figures settled (trim room) ≡ 5 ∷ 6 ∷ 1 ∷ 2 ∷ 1 ∷ []
unfolding computed
trim-figures = refl

pub opening-figures : figures reopened open_again ≡ 8 ∷ 8 ∷ 0 ∷ 15 ∷ 3 ∷ []
unfolding computed
opening-figures = refl

pub due-at-flush : DueAt before (flush room)
unfolding computed
due-at-flush = (refl, tt)

pub due-at-trim : DueAt settled (trim room)
unfolding computed
due-at-trim = (refl, tt)

pub due-at-opening : DueAt reopened open_again
unfolding computed
due-at-opening = (refl, (refl, (refl, tt)))

-- whatever log copy and next group are told
pub due-at-format : (log : List ℕ) → Due words 4 log 0 0 [] (formatted 4 8)
unfolding computed
due-at-format log = (refl, (refl, (refl, tt)))

-- ---- RunnerCarries

-- its premises, whatever actions are handed out and whatever choice its cuts find
abbrev Met : Grain → World → ℕ → List Doing → Type 0
Met l w least [] = Unit {0}
Met l w least (runs c ∷ ds) = Allowed w (call c) × Met l (step w (call c)) (least_after c (ends w c) (motions l [] w.pending) least) ds
Met l w least (cuts many chosen ∷ ds) = (least ≤ many) × ((passed : ℕ) (c : ℕ → Bool) → Met l (tears w (torn passed c (Left l w many chosen))) 0 ds)

met : (l : Grain) (ds : List Doing) (w : World) (b : Book) (least : ℕ) → may_carry l w least ds ≡ true → Met l (with_book w b) least ds
unfolding may_carry step with_book
met l [] w b least h = tt
met l (runs c ∷ ds) w b least h =
    let next : ℕ = least_after c (ends w c) (motions l [] w.pending) least in
    let k = and-true (allowed w (call c)) (may_carry l (after_call w c (ends w c) (ends w c).code) next ds) h in
    let n = call-book w b c in (
      call-allowed w c k.0,
      subst (λ (v : World). Met l v (least_after c (ends (with_book w b) c) (motions l [] w.pending) least) ds) (sym n.1)
          (subst (λ (o : Outcome). Met l (with_book (step w (call c)) n.0) (least_after c o (motions l [] w.pending) least) ds) (sym (ends-book w b c))
          (met l ds (step w (call c)) n.0 next k.1)),
    )
met l (cuts many chosen ∷ ds) w b least h =
    let left : Memory = Left l w many chosen in
    let k = and-true (leb least many) (may_carry l (tears w (torn 0 (λ i. false) left)) 0 ds) h in (
      leb-true least many k.0,
      λ passed c.
          let n = cut-book w b left passed c in
          subst (λ (v : World). Met l v 0 ds) (sym n.1) (met l ds (tears w (torn 0 (λ i. false) left)) n.0 0 k.1),
    )

no-motions : (l : Grain) → motions l [] [] ≡ []
unfolding motions
no-motions l = refl

module _ (l : Grain) (G D : ℕ) where
  carried : (ds : List Doing) (w : World) (headed : ℕ) (handed : List Motion) (least : ℕ) → handed ≡ motions l [] w.pending
      → AllCarried l G D w headed handed least ds → Met l w least ds → Goes l G D w headed handed ds
  carried [] w headed handed least e r m = tt
  carried (runs c ∷ ds) w headed handed least e r m =
      let k = r m.0 in
      let n : Met l (step w (call c)) (least_after c (ends w c) handed least) ds =
      subst (λ (x : List Motion). Met l (step w (call c)) (least_after c (ends w c) x least) ds) (sym e) m.1 in
      (k.0, k.1, k.2, k.3, carried ds (step w (call c)) k.2 (handed ++ k.1) (least_after c (ends w c) handed least) k.4 k.5 n)
  carried (cuts many chosen ∷ ds) w headed handed least e r m =
      let k = r m.0 in
      let left : Memory = left_under l w.memory handed many chosen in
      let n : Met l (tears w (torn k.0 k.1 left)) 0 ds =
      subst (λ (x : List Motion). Met l (tears w (torn k.0 k.1 (left_under l w.memory x many chosen))) 0 ds) (sym e) (m.1 k.0 k.1) in
      let p : (tears w (torn k.0 k.1 left)).pending ≡ [] = unfold tears with_memory after_crash in refl in
      (k.0, k.1, k.4, carried ds (tears w (torn k.0 k.1 left)) 0 [] 0 (sym (ap (motions l []) p ∙ no-motions l)) k.5 n)

may-carry : may_carry words (empty_store 4 4) 0 cut_short ≡ true
unfolding computed
may-carry = refl

nothing-pending : [] ≡ motions words [] (after_format format).pending
unfolding empty_store unopened
nothing-pending = sym (ap (λ (w : World). motions words [] w.pending) (after-format format) ∙ no-motions words)

pub carries-there : Goes words 4 4 (after_format format) 0 [] cut_short
carries-there =
    carried words 4 4 cut_short (after_format format) 0 [] 0 nothing-pending (runner-carries words 4 4 format cut_short)
    (rw (after-format format) (subst (λ (w : World). Met words w 0 cut_short) own-book (met words cut_short (empty_store 4 4) book.empty 0 may-carry)))

-- ---- DueAlways, of the opening after a cut that tore words

tearings-front : (G : ℕ) (w : World) (ts us : List Tearing) → AllTearingsAllowed G w (ts ++ us) → AllTearingsAllowed G w ts
tearings-front G w [] us a = tt
tearings-front G w (t ∷ ts) us a = (a.0, tearings-front G (tears w t) ts us a.1)

after_last : (w : World) (ts : List Tearing) (t : Tearing) → torn_after w (ts ++ (t ∷ [])) ≡ tears (torn_after w ts) t
unfolding torn_after
after_last w [] t = refl
after_last w (s ∷ ts) t = after_last (tears w s) ts t

met-front : AllTearingsAllowed 4 (after_format format) torn_front
unfolding torn_front tearings
met-front =
    tearings-front 4 (after_format format) (as_tearings two_groups ++ (torn 4 (λ i. false) torn_memory ∷ [])) (plain (call open_small) ∷ [])
    (subst (AllTearingsAllowed 4 (after_format format)) (sym (append_assoc (as_tearings two_groups) (torn 4 (λ i. false) torn_memory ∷ []) (plain (call open_small) ∷ []))) met-tearings)

abbrev cut_torn : World
cut_torn = tears (torn_after (after_format format) (as_tearings two_groups)) (torn 4 (λ i. false) torn_memory)

is-torn : torn_after (after_format format) torn_front ≡ cut_torn
unfolding torn_front
is-torn = after_last (after_format format) (as_tearings two_groups) (torn 4 (λ i. false) torn_memory)

may-open : Allowed cut_torn (call open_small)
unfolding tears with_memory after_crash open_small is_opening
may-open = refl

opens-torn : (ends cut_torn open_small).code ≡ 0
unfolding tears with_memory ends loaded open_small opens_with unopened
opens-torn = torn-opens

pub due-torn : BatchDue words 4 4 (torn_after (after_format format) torn_front) open_small
due-torn = due-always words 4 4 format torn_front met-front open_small (rw is-torn may-open) (rw is-torn opens-torn)
