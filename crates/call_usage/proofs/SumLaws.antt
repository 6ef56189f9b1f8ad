-- The entries of the committed transactions are what the closing entries up to the last committed one count. Assumes nothing.
use mathlib.Core.Path.{◌≡◌, refl, sym, ap, ◌∙◌}
use mathlib.Core.Bool.{Bool, true, false, ◌&&◌, false≢true}
use mathlib.Core.List.{List, [], ◌∷◌, ◌++◌}
use Prim.Native.Nat.{ℕ, zero, suc, ◌+◌, ◌-◌, ◌*◌, ◌^◌, ◌≤◌, ◌<◌}
use native.Mathlib.Omega.{arith}
use borrow.Author.Tests.{eqb-true}
use lib.ListN.{length}
use Rattle.model.specs.Tag.{read_tag}
use Rattle.model.specs.Layout.{entry_at}
use Rattle.model.specs.Commit.{members, complete, linked, Span, Walk, started, decided_closing, visit, walk, committed, entries, each_entries, transactions}
use Rattle.abstract_store.specs.Usage.{entries_in}
use Rattle.model.specs.declared.Tag.{Tag}
use Rattle.model.specs.declared.Tag.TheVariants.{Nothing, Entry, Closing}
use Rattle.model_laws.proofs.bytes.TagLaws.{field_lt, closing-fields}
use Rattle.model_laws.proofs.rule.Closings.{end_of}
use Rattle.model_laws.proofs.rule.ClosingLaws.{end_more, committed-most}
use Rattle.log_scan.specs.Scan.{over}
use Rattle.log_scan.specs.Walk.{Walkable}
use Rattle.call_usage.specs.Sums.{add_count, summed}

-- ---- the count of one tag, as the code adds it

module _ (word position base homes sum : ℕ) (t : Tag) (e : t ≡ read_tag word position base homes) where
  pub added-nothing : t ≡ Nothing → sum ≡ add_count (read_tag word position base homes) sum
  unfolding add_count
  added-nothing d = rw (← e, d)

  pub added-entry : (h f : ℕ) → t ≡ Entry h f → sum ≡ add_count (read_tag word position base homes) sum
  unfolding add_count
  added-entry h f d = rw (← e, d)

  pub added-closing : (h f link count : ℕ) → t ≡ Closing h f link count → sum + count ≡ add_count (read_tag word position base homes) sum
  unfolding add_count
  added-closing h f link count d = rw (← e, d)

  pub count_most : (h f link count : ℕ) → t ≡ Closing h f link count → count < 2 ^ 13
  count_most h f link count d =
      let q = closing-fields word position base homes h f link count (sym e ∙ d) in omega (arith, q.3, field_lt word 40 13)

pub add-quiet : (p sum : ℕ) → add_count Nothing sum ≡ sum
unfolding add_count
add-quiet p sum = refl

pub summed-none : (tags : ℕ → Tag) (position n sum : ℕ) → n ≡ 0 → sum ≡ summed tags position n sum
unfolding over
summed-none tags position n sum e = rw e

-- ---- the entries of the walk's transactions

each_snoc : (tags : ℕ → Tag) (base : ℕ) (ss : List Span) (s : Span)
    → entries_in (each_entries tags base (ss ++ (s ∷ []))) ≡ entries_in (each_entries tags base ss) + length (entries tags base s)
unfolding each_entries entries_in
each_snoc tags base [] s = omega arith
each_snoc tags base (x ∷ ss) s = omega (arith, each_snoc tags base ss s)

module _ (tags : ℕ → Tag) (base : ℕ) where
  -- those of the n positions from base on: the closing entries up to the last committed one count them, and while none has failed there is none after it
  record Tallied (n : ℕ) (w : Walk) : Type 0 where
    all : entries_in (each_entries tags base w.spans) ≡ summed tags base (end_of w.spans - base) 0
    none : w.going ≡ true → summed tags base (end_of w.spans - base) 0 ≡ summed tags base n 0

  one_more : (n : ℕ) (t : Tag) → tags (base + n) ≡ t → summed tags base (suc n) 0 ≡ add_count t (summed tags base n 0)
  unfolding over
  one_more n t e = rw e

  quiet : (n : ℕ) (t : Tag) (w : Walk) → tags (base + n) ≡ t → add_count t (summed tags base n 0) ≡ summed tags base n 0 → Tallied n w → Tallied (suc n) w
  quiet n t w e q k = record { all = k.all; none = λ g. k.none g ∙ sym q ∙ sym (one_more n t e) }

  failed : (n : ℕ) (s : Span) (w : Walk) → Tallied n w → Tallied (suc n) (decided_closing false s w)
  unfolding decided_closing
  failed n s w k = record { all = k.all; none = λ g. absurd (false≢true g) }

  passed : (n h f link count : ℕ) (w : Walk) → tags (base + n) ≡ Closing h f link count → w.going ≡ true → complete tags base n f count ≡ true → Tallied n w
      → Tallied (suc n) (decided_closing true (record { first = f; closing = base + n }) w)
  unfolding decided_closing complete entries
  passed n h f link count w e g c k =
      let s : Span = record { first = f; closing = base + n } in
      let z : end_of (w.spans ++ (s ∷ [])) - base ≡ suc n = omega (arith, end_more w.spans s) in
      let d : suc (base + n) - base ≡ suc n = omega arith in
      let m : length (members tags f base (suc (base + n) - base)) ≡ count = ap (λ (x : ℕ). length (members tags f base x)) d ∙ eqb-true (length (members tags f base (suc n))) count c in
      let a : add_count (Closing h f link count) (summed tags base n 0) ≡ summed tags base n 0 + count = unfold add_count in refl in
      record {
        all = rw z (each_snoc tags base w.spans s ∙ omega (arith, m, k.all, k.none g, one_more n (Closing h f link count) e, a));
        none = λ x. rw z;
      }

  visited : (n : ℕ) (t : Tag) (w : Walk) → tags (base + n) ≡ t → Tallied n w → Tallied (suc n) (visit tags base n t w)
  unfolding visit
  visited n Nothing w e k = quiet n Nothing w e (unfold add_count in refl) k
  visited n (Entry h f) w e k = quiet n (Entry h f) w e (unfold add_count in refl) k
  visited n (Closing h f link count) w e k =
      go w.going (linked base w.last (base + n) link) (complete tags base n f count) refl refl
    where
      go : (g a b : Bool) → w.going ≡ g → complete tags base n f count ≡ b
          → Tallied (suc n) (decided_closing (g && a && b) (record { first = f; closing = base + n }) w)
      go true true true p c = passed n h f link count w e p c k
      go true true false p c = failed n (record { first = f; closing = base + n }) w k
      go true false b p c = failed n (record { first = f; closing = base + n }) w k
      go false a b p c = failed n (record { first = f; closing = base + n }) w k

  tallied : (n : ℕ) → Tallied n (walk tags base n)
  unfolding walk started end_of each_entries entries_in over
  tallied zero = let z : 0 - base ≡ 0 = omega arith in record { all = rw z; none = λ g. rw z }
  tallied (suc n) = visited n (tags (base + n)) (walk tags base n) refl (tallied n)

  pub committed-sum : (n r end : ℕ) → end ≡ end_of (committed tags base n) → r ≡ summed tags base (end - base) 0
      → r ≡ entries_in (transactions tags base n)
  unfolding transactions committed
  committed-sum n r end e q = q ∙ ap (λ (x : ℕ). summed tags base (x - base) 0) e ∙ sym (tallied n).all

-- the walk's end lies within the log
pub walkable : (log : List ℕ) (groups homes start n end : ℕ)
    → (length log ≡ 64 + 512 * groups) × (4 ≤ groups) × (groups ≤ 1024) × (homes ≤ 65535) × (start ≤ 2 ^ 47) × (n ≤ 7 * groups)
    → end ≡ end_of (committed (entry_at log groups homes start) (7 * start) n) → Walkable log groups start end
walkable log groups homes start n end p e =
    let m = committed-most (entry_at log groups homes start) (7 * start) n in
    record { long = p.0; some = omega (arith, p.1); most = p.2; low = p.4; within = omega (arith, p.5, m, e) }
