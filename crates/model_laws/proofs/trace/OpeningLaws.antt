-- The writes that blank every ring slot, and an opening's records: homes, a fence, the header, a fence, the blank slots, a fence.
-- A law takes its variables in the order in which its left side first names them, then its premises. Assumes nothing.
use mathlib.Core.Path.{◌≡◌, refl, sym, ap, ◌∙◌}
use mathlib.Core.Bool.{Bool}
use mathlib.Core.List.{List, [], ◌∷◌, ◌++◌, append_assoc, append-nil}
use Prim.Native.Nat.{ℕ, zero, suc, ◌+◌, ◌%◌, ◌≤◌}
use native.Mathlib.Nat.{mod-eq_of_lt}
use native.Mathlib.Omega.{arith}
use lib.ListN.{length, length-append}
use Rattle.model.specs.Bytes.{puts}
use Rattle.model.specs.Layout.{group_offset, unused_group, unused_slots}
use Rattle.model.specs.Batch.{Record, KW, FN}
use Rattle.model.specs.Effects.{blank_writes, home_writes}
use Rattle.model.specs.Crash.{Memory, pieces, write_each, is_fence, fences, persist_chosen, persist}
use Rattle.model.specs.DemandTwo.{group_writes}
use Rattle.model_laws.proofs.bytes.ByteLaws.{puts-append}
use Rattle.model_laws.proofs.bytes.EmptyLaws.{length-unused_group, length-unused_slots}
use Rattle.model_laws.proofs.state.BatchLaws.{AllFormed, formed-append}
use Rattle.model_laws.proofs.trace.CrashLaws.{write_records, submits, NoFence, none-append, none-homes, fences-none, fences-append, fences-homes, group_writes-append, group_writes-homes, write-append, persist-zero, persist-past, chosen-fence}
use Rattle.model_laws.proofs.trace.SubmitLaws.{write-group}

-- ---- blank slots

module _ (G start : ℕ) where
  pub none-blanks : (n : ℕ) → NoFence (blank_writes G start n)
  unfolding blank_writes is_fence
  none-blanks zero = tt
  none-blanks (suc n) = none-append (blank_writes G start n) _ (none-blanks n) (refl, tt)

  pub group_writes-blanks : (n : ℕ) → group_writes (blank_writes G start n) ≡ n
  unfolding blank_writes group_writes
  group_writes-blanks zero = refl
  group_writes-blanks (suc n) = rw group_writes-append (omega (arith, group_writes-blanks n))

  pub formed-blanks : (n : ℕ) → n ≤ 1024 → AllFormed (blank_writes G start n)
  unfolding blank_writes
  formed-blanks zero h = tt
  formed-blanks (suc n) h = formed-append (blank_writes G start n) _ (formed-blanks n (omega arith)) ((omega arith, length-unused_group G start n), tt)

  -- they are the writes of groups 0 to n - 1
  pub blank-submits : (n : ℕ) → n ≤ G → blank_writes G start n ≡ submits G 0 (unused_group G start) n
  unfolding blank_writes submits
  blank-submits zero h = refl
  blank-submits (suc n) h =
      let e : 0 + n ≡ n = omega arith in
      let f : n % G ≡ n = mod-eq_of_lt (omega arith) in
      rw (e, f, blank-submits n (omega arith))

  -- all written behind a header
  pub write-blanks : (n : ℕ) (log head area : List ℕ) → length head ≡ 64
      → write_records (blank_writes G start n) (record { log = puts log 0 head; area = area })
      ≡ record { log = puts log 0 (head ++ unused_slots G start n); area = area }
  unfolding blank_writes unused_slots
  write-blanks zero log head area l = unfold write_records in rw (append-nil head)
  write-blanks (suc n) log head area l =
      write-append (blank_writes G start n) _ _
      ∙ rw (write-blanks n log head area l, write-group n (unused_group G start n) (record { log = puts log 0 (head ++ unused_slots G start n); area = area }) (length-unused_group G start n))
      (ap {B = Memory} (λ (x : List ℕ). record { log = x; area = area }) (on (head ++ unused_slots G start n) at ∙ ap (puts log 0) (append_assoc head (unused_slots G start n) (unused_group G start n))))
    where
      at : group_offset n ≡ 0 + length (head ++ unused_slots G start n)
      at = unfold group_offset in rw length-append (omega (arith, length-unused_slots G start n))

      on : (front : List ℕ) → group_offset n ≡ 0 + length front
          → puts (puts log 0 front) (group_offset n) (unused_group G start n) ≡ puts log 0 (front ++ unused_group G start n)
      on front e = rw e (sym (puts-append log 0 front (unused_group G start n)))

-- ---- an opening's records

module _ (area hs header : List ℕ) (blanks : List Record) (quiet : NoFence blanks) where
  abbrev pub opening_records : List Record
  opening_records = home_writes area hs ++ (FN ∷ KW header ∷ FN ∷ (blanks ++ (FN ∷ [])))

  pub fences-opening : fences opening_records ≡ 3
  unfolding fences is_fence
  fences-opening = rw (fences-append, fences-homes, fences-append, fences-none blanks quiet)

  pub group_writes-opening : group_writes opening_records ≡ group_writes blanks
  unfolding group_writes
  group_writes-opening = rw (group_writes-append, group_writes-homes, group_writes-append) (omega arith)

  -- no fence of it has passed
  pub opening-none : (chosen : ℕ → Bool) (m : Memory) → persist 0 chosen opening_records m ≡ persist_chosen chosen 0 (home_writes area hs) m
  opening-none chosen m = rw persist-zero (chosen-fence chosen 0 (home_writes area hs) _ m (none-homes area hs))

  -- the fence after the homes has passed
  pub opening-one : (chosen : ℕ → Bool) (m : Memory)
      → persist 1 chosen opening_records m ≡ persist_chosen chosen 0 (KW header ∷ []) (write_records (home_writes area hs) m)
  unfolding persist persist_chosen is_fence pieces write_each
  opening-one chosen m = rw fences-homes at (persist-past (home_writes area hs) 0 chosen (FN ∷ KW header ∷ FN ∷ (blanks ++ (FN ∷ []))) m)

  -- that after the header too
  pub opening-two : (chosen : ℕ → Bool) (m : Memory)
      → persist 2 chosen opening_records m
      ≡ persist_chosen chosen 0 blanks (write_records (KW header ∷ []) (write_records (home_writes area hs) m))
  unfolding persist is_fence pieces write_each write_records
  opening-two chosen m =
      rw fences-homes at (persist-past (home_writes area hs) 1 chosen (FN ∷ KW header ∷ FN ∷ (blanks ++ (FN ∷ []))) m)
      ∙ persist-zero chosen (blanks ++ (FN ∷ [])) _ ∙ chosen-fence chosen 0 blanks [] _ quiet
