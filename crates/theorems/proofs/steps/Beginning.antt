-- A finished format, and what openings can answer.
use mathlib.Core.Path.{◌≡◌, refl, sym, ap, ◌∙◌}
use mathlib.Core.Logic.{◌⊎◌, inl, inr}
use mathlib.Core.Bool.{Bool, true, false, ◌&&◌, false≢true}
use mathlib.Core.List.{List, []}
use Prim.Native.Nat.{ℕ, suc, ◌+◌, ◌*◌, ◌/◌, ◌^◌, ◌<◌}
use native.Mathlib.Nat.{add-zero}
use native.Mathlib.Omega.{arith}
use lib.ListN.{length}
use lib.Dec.{leb, eqb}
use borrow.Author.Tests.{le-leb}
use Rattle.model.specs.Bytes.{part, zeros, same}
use Rattle.model.specs.Layout.{group_count, home_count, group_mark, group_at, group_number, group_valid, slot_of, entry_within, entry_at, empty_log, header_start}
use Rattle.model.specs.Commit.{walk, started, committed, transactions, each_entries, replay}
use Rattle.model.specs.Effects.{Given, replayed}
use Rattle.model.specs.Questions.{ask, areas_right, state_right, header_fits, start_fits, batch_fits, open_answer, newest_right}
use Rattle.model.specs.Book.{homes_after, write_commits, empty}
use Rattle.model.specs.History.{World, unopened, empty_store, loaded}
use Rattle.model.specs.DemandTwo.{each_contents}
use Rattle.abstract_store.specs.Store.{found_in_memory}
use Rattle.model.specs.declared.Tag.TheVariants.{Nothing}
use Rattle.model_laws.proofs.bytes.ByteLaws.{length-zeros}
use Rattle.model_laws.proofs.bytes.EmptyLaws.{unused-mark, length-empty_log, empty_log-start, empty_log-right, empty_log-group}
use Rattle.model_laws.proofs.bytes.LayoutLaws.{groups-in, homes_in}
use Rattle.model_laws.proofs.trace.WalkLaws.{transactions-quiet}
use Rattle.theorems.proofs.invariant.Invariant.{Sizes, FoundBelow, NotGroup, Opens, Closed}
use Rattle.theorems.proofs.invariant.OpenLaws.{found_below}

-- what is not group n is no valid group n
pub not_valid : (group : List ℕ) (G s n : ℕ) → NotGroup group n → group_valid group G s n ≡ false
unfolding group_valid
not_valid group G s n h = go (same (part group 0 2) group_mark) (eqb (group_number group) n) h
  where
    go : (a b : Bool) → (a && b) ≡ false → (a && b && leb s n && leb (suc n) (s + G)) ≡ false
    go true true e = absurd (false≢true (sym e))
    go true false e = refl
    go false b e = refl

pub entry-none : (log : List ℕ) (G D s p : ℕ) → NotGroup (group_at log (slot_of G p)) (p / 7) → entry_at log G D s p ≡ Nothing
unfolding entry_at entry_within
entry-none log G D s p h = rw (not_valid (group_at log (slot_of G p)) G s (p / 7) h)

-- a log in which every number found lies below its start holds nothing
pub nothing-found : (log : List ℕ) (G D s : ℕ) → 0 < G → FoundBelow log G s → (n : ℕ) → transactions (entry_at log G D s) (7 * s) n ≡ []
unfolding slot_of
nothing-found log G D s g f n =
    ap (transactions (entry_at log G D s) (7 * s)) (sym (add-zero n))
    ∙ transactions-quiet (entry_at log G D s) (7 * s) 0 n (λ i a b. entry-none log G D s (7 * s + i) (found_below log G s ((7 * s + i) / 7) g f (omega arith)))
    ∙ (unfold transactions committed walk started each_entries in refl)

module _ (G D : ℕ) (z : Sizes G D) where
  formatted-numbers : FoundBelow (empty_log 0 G D) G 0
  formatted-numbers slot l h =
      absurd (false≢true (sym (unused-mark G 0 slot) ∙ ap (λ (g : List ℕ). same (part g 0 2) group_mark) (sym (empty_log-group 0 G D slot l)) ∙ h))

  pub formatted-start : header_start (empty_log 0 G D) ≡ 0
  formatted-start = empty_log-start 0 G D (omega arith)

  -- the rule finds nothing in it
  formatted-transactions : transactions (entry_at (empty_log 0 G D) G D (header_start (empty_log 0 G D))) (7 * header_start (empty_log 0 G D)) (7 * G) ≡ []
  formatted-transactions =
      nothing-found (empty_log 0 G D) G D (header_start (empty_log 0 G D)) (omega arith) (rw formatted-start formatted-numbers) (7 * G)

  pub formatted-found : found_in_memory G D (record { log = empty_log 0 G D; area = zeros (64 * D) }) ≡ []
  unfolding found_in_memory
  formatted-found = rw formatted-transactions (unfold each_contents in refl)

  formatted-opens : Opens G D (record { log = empty_log 0 G D; area = zeros (64 * D) }) (zeros (64 * D))
  unfolding replayed replay
  formatted-opens =
      record {
        log_size = length-empty_log 0 G D;
        area_size = length-zeros (64 * D);
        header = empty_log-right 0 G D (omega arith) (omega arith);
        start = omega (arith, formatted-start);
        numbers = λ slot l h. let k = formatted-numbers slot l h in absurd (omega arith);
        restored = rw formatted-transactions;
      }

  pub format-closed : Closed G D (empty_store G D)
  unfolding empty_store unopened empty homes_after write_commits
  format-closed =
      record {
        ready = refl;
        homes = refl;
        pending = refl;
        passed = refl;
        rows = refl;
        filled = refl;
        tasks = λ v. refl;
        past = tt;
        opens = formatted-opens;
      }

-- "An opening answers 0, 1, 9 or 10": where memory opens, the header fits
four : (a b c : Bool)
    → (ask a 1 (ask true 3 (ask b 10 (ask c 9 0))) ≡ 0)
    ⊎ ((ask a 1 (ask true 3 (ask b 10 (ask c 9 0))) ≡ 1)
    ⊎ ((ask a 1 (ask true 3 (ask b 10 (ask c 9 0))) ≡ 9) ⊎ (ask a 1 (ask true 3 (ask b 10 (ask c 9 0))) ≡ 10)))
unfolding ask
four true true true = inl refl
four true true false = inr (inr (inl refl))
four true false c = inr (inr (inr refl))
four false b c = inr (inl refl)

pub header-fits : (G D : ℕ) (w : World) (X state newest batch : List ℕ) → Opens G D w.memory X → header_fits (loaded w state newest batch) ≡ true
unfolding header_fits loaded
header-fits G D w X state newest batch o =
    let eg : group_count (length w.memory.log) ≡ G = ap group_count o.log_size ∙ groups-in G in
    let ed : home_count (length w.memory.area) ≡ D = ap home_count o.area_size ∙ homes_in D in
    rw (eg, ed, o.header, le-leb (header_start w.memory.log) (2 ^ 47) o.start)

pub open-answers : (G D : ℕ) (w : World) (X state newest batch : List ℕ) (start size : ℕ) → Opens G D w.memory X
    → (open_answer (loaded w state newest batch) start size ≡ 0)
    ⊎ ((open_answer (loaded w state newest batch) start size ≡ 1)
    ⊎ ((open_answer (loaded w state newest batch) start size ≡ 9) ⊎ (open_answer (loaded w state newest batch) start size ≡ 10)))
unfolding open_answer
open-answers G D w X state newest batch start size o =
    let g : Given = loaded w state newest batch in
    rw (header-fits G D w X state newest batch o) (four (areas_right g && state_right g && newest_right g) (start_fits start) (batch_fits g size))
