-- The calls on the table of depth bands, question by question. Assumes nothing.
use mathlib.Core.Path.{◌≡◌, refl, sym, ap, ◌∙◌}
use mathlib.Core.List.{List, []}
use mathlib.Core.Logic.{◌≢◌}
use Prim.Native.Nat.{ℕ, ◌*◌, ◌≤◌, ◌<◌}
use borrow.Author.Tests.{ne_eqb, lt-ltb, le-ltb}
use lib.ListN.{length}
use Rattle.model.specs.Bytes.{zeros}
use Rattle.call_ask.specs.Lent.{lent_all, leaves_everything}
use Rattle.acts.specs.Many.{fetch_call, transact_call}
use Rattle.unit_events.specs.Homes.{table_home}
use Rattle.unit_shared.specs.Unit.{Lent, leaves, fetched}
use Rattle.unit_shared.proofs.UnitLaws.{refusal, transaction, read_as, fetching}
use Rattle.unit_bands_table.specs.Judge.{verdict, depths, judgement}
use Rattle.unit_bands_table.specs.Packed.{Lookup, answered, pack, look_up}
use Rattle.unit_bands_table.proofs.JudgeLaws.{accepted-short}
use Rattle.unit_bands.specs.Calls.{accepted, set_call, found_within, look_up_call}

-- ---- set, from the verdict

module _ (rows : List ℕ) (code mm : ℕ) (v : verdict code mm ≡ judgement rows) where
  pub set-short : code ≡ 0 → length rows ≤ 160
  set-short z = accepted-short rows (sym (ap (λ j. j.code) v) ∙ z)

  module _ (l : Lent) (writer : ℕ) where
    pub set-refused : code ≢ 0 → leaves code mm 0 l.log l.area l.state l.newest l.batch ≡ set_call l writer rows
    unfolding set_call accepted
    set-refused n = rw (← v, ne_eqb code 0 n) (refusal l code mm refl refl refl)

    pub set-stored : code ≡ 0 → (blocks : List ℕ) → blocks ≡ pack rows → {c f s : ℕ} {log state newest batch : List ℕ}
        → leaves_everything c f s log l.area state newest blocks batch
        ≡ transact_call (lent_all l.log l.area l.state l.newest blocks l.batch writer table_home)
        → leaves c f s log l.area state newest batch ≡ set_call l writer rows
    unfolding set_call accepted
    set-stored z blocks p t = rw (← v, z, ← p) (transaction l writer table_home blocks t)

-- ---- look up

module _ (l : Lent) (writer mm : ℕ) where
  pub look-deep : depths ≤ mm → {x : Lookup} → x ≡ answered 11 0 0 0 → x ≡ look_up_call l writer mm
  unfolding look_up_call
  look-deep h q = rw (le-ltb mm depths h) q

  -- from what the fetch gives
  module _
      (h : mm < depths)
      (code figure size : ℕ)
      (given blocks : List ℕ)
      (z : given ≡ zeros (64 * 3))
      (e : read_as l code figure size blocks ≡ fetch_call (lent_all l.log l.area l.state l.newest given [] writer table_home))
    where
      fetch : read_as l code figure size blocks ≡ fetched l writer table_home 3
      fetch = fetching l writer table_home 3 code figure size given blocks z e

      pub look-unread : code ≢ 0 → {x : Lookup} → x ≡ answered code 0 0 0 → x ≡ look_up_call l writer mm
      unfolding look_up_call found_within
      look-unread n q = rw (lt-ltb mm depths h, ← fetch, ne_eqb code 0 n) q

      pub look-read : code ≡ 0 → {x : Lookup} → x ≡ look_up blocks mm → x ≡ look_up_call l writer mm
      unfolding look_up_call found_within
      look-read n q = rw (lt-ltb mm depths h, ← fetch, n) q
