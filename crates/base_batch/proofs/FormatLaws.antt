-- The batch of format: its groups and homes, one record for each number below a bound, and the whole, with its length. Assumes nothing.
use mathlib.Core.Path.{◌≡◌, refl, sym, ap, ◌∙◌}
use mathlib.Core.List.{List, [], ◌∷◌, ◌++◌}
use Prim.Native.Nat.{ℕ, zero, suc, ◌+◌, ◌-◌, ◌*◌}
use native.Mathlib.Nat.{mul-suc}
use native.Mathlib.Numerals.{add-one}
use native.Mathlib.Omega.{arith}
use lib.ListN.{length, length-append}
use Rattle.model.specs.Bytes.{puts, zeros}
use Rattle.model.specs.Layout.{header, turn_of, turn_blocks, next_in, unused_group}
use Rattle.model.specs.Batch.{Record, GW, HW, KW, FN, record_bytes, batch_bytes}
use Rattle.model.specs.Effects.{blank_writes, zero_homes, formatted}
use Rattle.model_laws.proofs.bytes.ByteLaws.{puts-nil, length-zeros}
use Rattle.model_laws.proofs.bytes.LayoutLaws.{length-header}
use Rattle.model_laws.proofs.bytes.EmptyLaws.{length-unused_group}
use Rattle.model_laws.proofs.state.BatchLaws.{batch-one, length-GW, length-HW, length-KW, length-FN}
use Rattle.base_batch.proofs.RecordLaws.{length-joined, records-then, records-then-one, one-then-records}

-- ---- a record for each number below n, each of `size` bytes
module _ (r : ℕ → Record) (rs : ℕ → List Record) (size : ℕ) (none : rs 0 ≡ []) (more : (n : ℕ) → rs (suc n) ≡ rs n ++ (r n ∷ []))
    (each : (n : ℕ) → length (record_bytes (r n)) ≡ size) where
  length-counted : (n : ℕ) → length (batch_bytes (rs n)) ≡ size * n
  unfolding batch_bytes
  length-counted zero = rw none (omega arith)
  length-counted (suc n) = rw (more, length-joined, batch-one, length-counted n, each, mul-suc)

  counted_none : (d : List ℕ) (at : ℕ) → d ≡ puts d at (batch_bytes (rs 0))
  unfolding batch_bytes
  counted_none d at = rw (none, puts-nil)

  counted-more : (d : List ℕ) (at n : ℕ) → puts (puts d at (batch_bytes (rs n))) (at + size * n) (record_bytes (r n)) ≡ puts d at (batch_bytes (rs (n + 1)))
  counted-more d at n = rw (add-one, more) (records-then-one d at (rs n) (at + size * n) (r n) (omega (arith, length-counted n)))

-- the groups of a log that starts at group `start`
module _ (groups start : ℕ) where
  group : ℕ → Record
  group n = GW n (unused_group groups start n)

  length-group : (n : ℕ) → length (record_bytes (group n)) ≡ 516
  unfolding group
  length-group n = length-GW n (unused_group groups start n) (length-unused_group groups start n)

  no-groups : blank_writes groups start 0 ≡ []
  unfolding blank_writes
  no-groups = refl

  more-groups : (n : ℕ) → blank_writes groups start (suc n) ≡ blank_writes groups start n ++ (group n ∷ [])
  unfolding blank_writes group
  more-groups n = refl

  pub length-groups : (n : ℕ) → length (batch_bytes (blank_writes groups start n)) ≡ 516 * n
  length-groups n = length-counted group (blank_writes groups start) 516 no-groups more-groups length-group n

  pub groups_none : (d : List ℕ) (at : ℕ) → d ≡ puts d at (batch_bytes (blank_writes groups start 0))
  groups_none d at = counted_none group (blank_writes groups start) 516 no-groups more-groups length-group d at

  pub groups-more : (d : List ℕ) (at n bit : ℕ) → bit ≡ 1 - turn_of groups (next_in groups start n)
      → puts (puts d at (batch_bytes (blank_writes groups start n))) (at + 516 * n) (record_bytes (GW n (zeros 64 ++ turn_blocks 7 bit)))
      ≡ puts d at (batch_bytes (blank_writes groups start (n + 1)))
  unfolding group unused_group
  groups-more d at n bit e = rw e (counted-more group (blank_writes groups start) 516 no-groups more-groups length-group d at n)

-- the homes
home : ℕ → Record
home n = HW n (zeros 64)

length-home : (n : ℕ) → length (record_bytes (home n)) ≡ 68
unfolding home
length-home n = length-HW n (zeros 64) (length-zeros 64)

no-homes : zero_homes 0 ≡ []
unfolding zero_homes
no-homes = refl

more-homes : (n : ℕ) → zero_homes (suc n) ≡ zero_homes n ++ (home n ∷ [])
unfolding zero_homes home
more-homes n = refl

pub length-homes : (n : ℕ) → length (batch_bytes (zero_homes n)) ≡ 68 * n
length-homes n = length-counted home zero_homes 68 no-homes more-homes length-home n

pub homes_none : (d : List ℕ) (at : ℕ) → d ≡ puts d at (batch_bytes (zero_homes 0))
homes_none d at = counted_none home zero_homes 68 no-homes more-homes length-home d at

pub homes_more : (d : List ℕ) (at n : ℕ)
    → puts (puts d at (batch_bytes (zero_homes n))) (at + 68 * n) (record_bytes (HW n (zeros 64))) ≡ puts d at (batch_bytes (zero_homes (n + 1)))
unfolding home
homes_more d at n = counted-more home zero_homes 68 no-homes more-homes length-home d at n

-- ---- the whole batch

length-first : (r : Record) (rs : List Record) → length (batch_bytes (r ∷ rs)) ≡ length (record_bytes r) + length (batch_bytes rs)
unfolding batch_bytes
length-first r rs = length-append (record_bytes r) (batch_bytes rs)

module _ (groups homes : ℕ) where
  -- the fence after the zeros, the header and the last fence
  last : List Record
  last = FN ∷ KW (header 0 groups homes) ∷ FN ∷ []

  length_last : length (batch_bytes last) ≡ 70
  unfolding last
  length_last =
      rw (length-first, length-first, batch-one, length-FN, length-KW (header 0 groups homes) (length-header 0 groups homes))

  -- how long format's batch is
  pub length-formatted : length (batch_bytes (formatted groups homes)) ≡ 138 + 516 * groups + 68 * homes
  unfolding formatted last
  length-formatted =
      rw (length-first, length-first, length-joined, length-joined, length-FN, length-KW (zeros 64) (length-zeros 64), length-groups, length-homes)
      (omega (arith, length_last))

  last_written : (d : List ℕ) (at m n : ℕ) → m ≡ at + 2 → n ≡ m + 66
      → puts (puts (puts d at (record_bytes FN)) m (record_bytes (KW (header 0 groups homes)))) n (record_bytes FN) ≡ puts d at (batch_bytes last)
  unfolding last
  last_written d at m n e f =
      let l : length (record_bytes (KW (header 0 groups homes))) ≡ 66 = length-KW (header 0 groups homes) (length-header 0 groups homes) in
      ap (λ (bs : List ℕ). puts (puts (puts d at (record_bytes FN)) m (record_bytes (KW (header 0 groups homes)))) n bs) (sym (batch-one FN))
      ∙ one-then-records (puts d at (record_bytes FN)) m (KW (header 0 groups homes)) n (FN ∷ []) (omega arith)
      ∙ one-then-records d at FN m (KW (header 0 groups homes) ∷ FN ∷ []) (omega (arith, length-FN))

  -- the records one after the other; a to g are the indexes where the parts after the first begin
  pub formatted-written : (d : List ℕ) (a b c e f g : ℕ) → a ≡ 66 → b ≡ a + 2 → c ≡ b + 516 * groups → e ≡ c + 68 * homes → f ≡ e + 2 → g ≡ f + 66
      → puts
      (puts
      (puts
      (puts
      (puts (puts (puts d 0 (record_bytes (KW (zeros 64)))) a (record_bytes FN)) b (batch_bytes (blank_writes groups 0 groups)))
      c
      (batch_bytes (zero_homes homes)))
      e
      (record_bytes FN))
      f
      (record_bytes (KW (header 0 groups homes))))
      g
      (record_bytes FN)
      ≡ puts d 0 (batch_bytes (formatted groups homes))
  unfolding formatted last
  formatted-written d a b c e f g ha hb hc he hf hg =
      last_written _ e f g hf hg
      ∙ records-then _ c (zero_homes homes) e last (omega (arith, length-homes homes))
      ∙ records-then _ b (blank_writes groups 0 groups) c _ (omega (arith, length-groups groups 0 groups))
      ∙ one-then-records _ a FN b _ (omega (arith, length-FN))
      ∙ one-then-records d 0 (KW (zeros 64)) a _ (omega (arith, length-KW (zeros 64) (length-zeros 64)))
