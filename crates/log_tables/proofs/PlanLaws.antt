-- What the walk and the count give together: the committed transactions and the homes that they touch; and the records of those homes with
-- what follows them. Assumes nothing.
use mathlib.Core.Path.{◌≡◌, refl, sym, ap, ◌∙◌}
use mathlib.Core.List.{List, [], ◌∷◌, ◌++◌}
use Prim.Native.Nat.{ℕ, suc, ◌+◌, ◌*◌, ◌≤◌, ◌<◌}
use native.Mathlib.Omega.{arith}
use lib.ListN.{length, length-append}
use Rattle.model.specs.Bytes.{puts}
use Rattle.model.specs.Layout.{entry_at}
use Rattle.model.specs.Commit.{Span, committed, each_entries, transactions, newest, found}
use Rattle.model.specs.Batch.{Record, batch_bytes}
use Rattle.model.specs.Effects.{touched, replayed, home_writes}
use Rattle.model.specs.declared.Tag.{Tag}
use Rattle.model_laws.proofs.bytes.ByteLaws.{puts-append}
use Rattle.model_laws.proofs.state.BatchLaws.{batch-append}
use Rattle.model_laws.proofs.rule.Closings.{end_of}
use Rattle.model_laws.proofs.rule.ClosingLaws.{committed-closings}
use Rattle.model_laws.proofs.trace.ReplayLaws.{length-replayed}
use Rattle.base_bitmap.proofs.MarkedLaws.{length_marked}
use Rattle.base_batch.specs.Within.{Within}
use Rattle.base_batch.proofs.HomeLaws.{length-writes, within-marked}
use Rattle.log_scan.specs.Walk.{Walkable, closed_below}
use Rattle.log_scan.specs.declared.commits.Progress.{Progress}
use Rattle.log_gather.specs.Chains.{Chained}
use Rattle.log_gather.proofs.EndLaws.{end-walkable}
use Rattle.log_replay.proofs.RestoreLaws.{touches-below}
use Rattle.log_tables.specs.Plans.{Searchable, Planned}

-- ---- what is planned

length-each : (tags : ℕ → Tag) (base : ℕ) (ss : List Span) → length (each_entries tags base ss) ≡ length ss
unfolding each_entries
length-each tags base [] = refl
length-each tags base (s ∷ ss) = ap suc (length-each tags base ss)

pub end-within : (log : List ℕ) (groups homes start n end : ℕ) → Searchable log groups homes start n
    → end ≡ end_of (committed (entry_at log groups homes start) (7 * start) n) → Walkable log groups start end
end-within log groups homes start n end s e =
    end-walkable log groups homes start n end s.long (omega (arith, s.least)) s.most s.low s.within e

pub below_end : (log : List ℕ) (groups homes start n end : ℕ) → end ≡ end_of (committed (entry_at log groups homes start) (7 * start) n)
    → closed_below log groups homes start end ≡ transactions (entry_at log groups homes start) (7 * start) n
unfolding transactions
below_end log groups homes start n end e =
    rw e (ap (each_entries (entry_at log groups homes start) (7 * start)) (sym (committed-closings (entry_at log groups homes start) (7 * start) n)))

-- a walk has found what is committed, and its tables hold the chains
abbrev pub TablesFilled : List ℕ → ℕ → ℕ → ℕ → ℕ → Progress → List ℕ → List ℕ → List ℕ → Type 0
TablesFilled log groups homes start n found last heads links =
    (found.end ≡ end_of (committed (entry_at log groups homes start) (7 * start) n))
    × (found.number ≡ length (committed (entry_at log groups homes start) (7 * start) n))
    × Chained log groups homes start found.end last heads links

pub told-by : (log : List ℕ) (groups homes start n : ℕ) (found f : Progress) (last heads links a b d : List ℕ) → last ≡ a → heads ≡ b → links ≡ d → found ≡ f
    → TablesFilled log groups homes start n f a b d → TablesFilled log groups homes start n found last heads links
told-by log groups homes start n found f last heads links a b d x y z w t = rw (x, y, z, w) t

pub planned : (log : List ℕ) (groups homes start n end number count : ℕ) → Searchable log groups homes start n
    → end ≡ end_of (committed (entry_at log groups homes start) (7 * start) n) → number ≡ length (committed (entry_at log groups homes start) (7 * start) n)
    → count ≡ length (touched (entry_at log groups homes start) (closed_below log groups homes start end) homes)
    → Planned log groups homes start n end number count
unfolding transactions
planned log groups homes start n end number count s e u c =
    record {
      walkable = end-within log groups homes start n end s e;
      few = s.homes-most;
      below = below_end log groups homes start n end e;
      numbered = u ∙ sym (length-each (entry_at log groups homes start) (7 * start) (committed (entry_at log groups homes start) (7 * start) n));
      counted =
          c ∙ ap (λ (ts : List (List ℕ)). length (touched (entry_at log groups homes start) ts homes)) (below_end log groups homes start n end e);
    }

pub touched-most : (tags : ℕ → Tag) (ts : List (List ℕ)) (homes : ℕ) → length (touched tags ts homes) ≤ homes
unfolding touched
touched-most tags ts homes = length_marked (λ h. found (newest tags h ts)) homes

-- a data copy and a batch that a first pass has left as they were
-- ---- the records of the homes

module _ (log area : List ℕ) (groups homes start n end number count : ℕ) (p : Planned log groups homes start n end number count)
    (l : length area ≡ 64 * homes) where
  abbrev seen : ℕ → Tag
  seen = entry_at log groups homes start

  abbrev closed : List (List ℕ)
  closed = transactions seen (7 * start) n

  abbrev brought : List ℕ
  brought = replayed log groups seen closed area

  within : Within brought (touched seen closed homes)
  unfolding touched
  within =
      within-marked brought (λ h. found (newest seen h closed)) homes
      (λ h t. (let k : h < homes = touches-below log groups homes start end p.walkable h (rw p.below t) in
      omega (arith, length-replayed log groups homes seen closed area)))

  size-of : length (batch_bytes (home_writes brought (touched seen closed homes))) ≡ 68 * count
  size-of = length-writes brought (touched seen closed homes) within ∙ ap (λ (k : ℕ). 68 * k) (sym p.counted)

  pub plan-size : (rs : List Record) → length (batch_bytes (home_writes brought (touched seen closed homes) ++ rs)) ≡ 68 * count + length (batch_bytes rs)
  plan-size rs = rw (batch-append, length-append, size-of)

  pub plan-area : (a : List ℕ) → a ≡ replayed log groups seen (closed_below log groups homes start end) area → a ≡ brought
  plan-area a e = e ∙ ap (λ (ts : List (List ℕ)). replayed log groups seen ts area) p.below

  -- records after those of the homes
  pub plan-batch : (a d b batch : List ℕ) (at : ℕ) (rs : List Record) → a ≡ replayed log groups seen (closed_below log groups homes start end) area
      → d ≡ puts batch 0 (batch_bytes (home_writes a (touched seen (closed_below log groups homes start end) homes))) → at ≡ 68 * count
      → b ≡ puts d at (batch_bytes rs) → b ≡ puts batch 0 (batch_bytes (home_writes brought (touched seen closed homes) ++ rs))
  plan-batch a d b batch at rs e f g h =
      let q : d ≡ puts batch 0 (batch_bytes (home_writes brought (touched seen closed homes))) = f ∙ rw (plan-area a e, p.below) in
      let z : 0 + 68 * count ≡ at = omega arith in
      h ∙ rw (q, batch-append, puts-append, size-of, z)
