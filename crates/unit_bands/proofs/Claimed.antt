-- What the request promises of histories. Assumes nothing.
use Prim.Native.Nat.{ℕ, ◌≤◌}
use mathlib.Core.Path.{◌≡◌, refl, sym, ap, ◌∙◌}
use mathlib.Core.List.{List, [], ◌∷◌, ◌++◌}
use mathlib.Core.Logic.{◌≢◌}
use mathlib.Core.Option.{Option, none, some}
use native.Mathlib.Omega.{arith}
use borrow.Author.Tests.{lt-ltb, ne_eqb}
use Rattle.model.specs.Bytes.{zeros}
use Rattle.unit_events.specs.Homes.{table_home}
use Rattle.unit_shared.specs.Unit.{Lent, untouched, fetched, transacted}
use Rattle.unit_shared.specs.Shown.{Shown}
use Rattle.unit_bands_table.specs.Judge.{depths, judgement}
use Rattle.unit_bands_table.specs.Packed.{pack, found}
use Rattle.unit_bands_table.specs.Stored.{last_from, last_of}
use Rattle.unit_bands_table.proofs.Guaranteed.{promised, blank}
use Rattle.unit_bands.specs.Calls.{accepted, set_call, found_within, look_up_call}
use Rattle.unit_bands.specs.Claims.{Represents, Recording, Claim, Claimed}

last-join : (t : Option (List ℕ)) (ts : List (List ℕ)) (bytes : List ℕ) → last_from t (ts ++ (bytes ∷ [])) ≡ some bytes
unfolding last_from
last-join t [] bytes = refl
last-join t (s ∷ ts) bytes = last-join (some s) ts bytes

some_same : {a b : List ℕ} → ◌≡◌ {A = Option (List ℕ)} (some a) (some b) → a ≡ b
some_same e = cc

kept-none : Represents [] (zeros 192)
unfolding zeros last_from last_of found
kept-none = record { looks = λ mm. blank.refused mm; passed = λ s e. cc }

grows : (ts : List (List ℕ)) (bytes : List ℕ) → (judgement bytes).code ≡ 0 → Represents (ts ++ (bytes ∷ [])) (pack bytes)
unfolding found last_of
grows ts bytes z =
    let j = last-join none ts bytes in
    record {
      looks = λ mm. (promised bytes).found z mm ∙ sym (ap (λ (o : Option (List ℕ)). found mm o) j);
      passed = λ s e. let q : bytes ≡ s = some_same (sym j ∙ e) in rw (← q) z;
    }

pub recording : Recording
recording = record { none = kept-none; grows = grows; size = λ bytes z. (promised bytes).room z }

module _ (l : Lent) (writer : ℕ) (ts : List (List ℕ)) (blocks : List ℕ) (k : Represents ts blocks) (s : Shown l writer table_home 3 blocks) where
  lookup-by : (mm : ℕ) → mm ≤ 9999 → (fetched l writer table_home 3).code ≡ 0 → look_up_call l writer mm ≡ found mm (last_of ts)
  unfolding look_up_call found_within depths
  lookup-by mm h z = rw (lt-ltb mm 10000 (omega arith), z, s.fetched z) (k.looks mm)

  refused-by : (bytes : List ℕ) → (judgement bytes).code ≢ 0 → set_call l writer bytes ≡ untouched l (judgement bytes).code (judgement bytes).millimetre
  unfolding set_call accepted
  refused-by bytes h = rw (ne_eqb (judgement bytes).code 0 h)

  stored-by : (bytes : List ℕ) → (judgement bytes).code ≡ 0 → set_call l writer bytes ≡ transacted l writer table_home (pack bytes)
  unfolding set_call accepted
  stored-by bytes h = rw h

  pub claim : Claim l writer ts
  claim =
      record { lookup = lookup-by; row = λ bytes e mm h. (promised bytes).told (k.passed bytes e) mm h; refused = refused-by; stored = stored-by }

pub claimed : Claimed
claimed = claim
