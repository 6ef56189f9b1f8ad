-- What the calls on the table answer for every input. Assumes nothing.
use Prim.Native.Nat.{ℕ, ◌≤◌, ◌<◌}
use mathlib.Core.Path.{◌≡◌, sym, ap, ◌∙◌, subst}
use mathlib.Core.List.{List}
use mathlib.Core.Logic.{◌≢◌}
use native.Mathlib.Omega.{arith}
use borrow.Author.Tests.{ne_eqb, lt-ltb, le-ltb}
use Rattle.unit_events.specs.Homes.{table_home, table_homes}
use Rattle.unit_shared.specs.Unit.{Lent, UnitOutcome, untouched, fetched, transacted}
use Rattle.unit_shared.specs.Refusals.{Refusal}
use Rattle.unit_shared.proofs.RefusalsHold.{untouched-refuses, unit-refusals}
use Rattle.unit_bands_table.specs.Judge.{depths, judgement}
use Rattle.unit_bands_table.specs.Packed.{answered, pack}
use Rattle.unit_bands.specs.Calls.{accepted, set_call, found_within, look_up_call}
use Rattle.unit_bands.specs.Refusals.{RefusalsOnTables}

module _ (l : Lent) (writer : ℕ) where
  deep : (mm : ℕ) → 9999 < mm → look_up_call l writer mm ≡ answered 11 0 0 0
  unfolding look_up_call depths
  deep mm h = rw (le-ltb mm 10000 (omega arith))

  unread : (mm : ℕ) → mm ≤ 9999 → (fetched l writer table_home table_homes).code ≢ 0
      → look_up_call l writer mm ≡ answered (fetched l writer table_home table_homes).code 0 0 0
  unfolding look_up_call found_within depths
  unread mm h n = rw (lt-ltb mm 10000 (omega arith), ne_eqb (fetched l writer table_home table_homes).code 0 n)

  module _ (bytes : List ℕ) where
    turned_down : (judgement bytes).code ≢ 0 → set_call l writer bytes ≡ untouched l (judgement bytes).code (judgement bytes).millimetre
    unfolding set_call accepted
    turned_down n = rw (ne_eqb (judgement bytes).code 0 n)

    taken : (judgement bytes).code ≡ 0 → set_call l writer bytes ≡ transacted l writer table_home (pack bytes)
    unfolding set_call accepted
    taken z = rw z

    rows : (judgement bytes).code ≢ 0
        → ((set_call l writer bytes).code ≡ (judgement bytes).code) × Refusal l (judgement bytes).millimetre (set_call l writer bytes)
    unfolding untouched
    rows n = (ap (λ (x : UnitOutcome). x.code) (turned_down n), subst (Refusal l (judgement bytes).millimetre) (sym (turned_down n)) (untouched-refuses l (judgement bytes).code (judgement bytes).millimetre))

    asked : (judgement bytes).code ≡ 0 → (set_call l writer bytes).code ≡ (transacted l writer table_home (pack bytes)).code
    asked z = ap (λ (x : UnitOutcome). x.code) (taken z)

    refusal : (judgement bytes).code ≡ 0 → (set_call l writer bytes).code ≢ 0 → Refusal l 0 (set_call l writer bytes)
    refusal z n =
        subst (Refusal l 0) (sym (taken z)) ((unit-refusals l writer table_home).transactions (pack bytes) (λ e. n (asked z ∙ e)))

pub refusals-on-tables : RefusalsOnTables
refusals-on-tables l writer =
    record { deep = deep l writer; unread = unread l writer; rows = rows l writer; asked = asked l writer; refusal = refusal l writer }
