-- The table's homes hold the last table of the book's list, in every history. Assumes nothing.
use Prim.Native.Nat.{ℕ, ◌*◌}
use mathlib.Core.Path.{◌≡◌, refl, sym, ap, ◌∙◌}
use mathlib.Core.List.{List, [], ◌∷◌, ◌++◌}
use mathlib.Core.Option.{Option, none, some}
use native.Mathlib.Omega.{arith}
use Rattle.model.specs.Bytes.{zeros}
use Rattle.unit_events.specs.Homes.{table_home, table_homes}
use Rattle.unit_events.specs.Folded.{Filling, Growing}
use Rattle.unit_events.proofs.FoldedHolds.{events-recorded}
use Rattle.unit_bands_table.specs.Packed.{pack, unpack, found, look_up}
use Rattle.unit_bands_table.specs.Stored.{judged, stored, answer_by, Accepted, last_from, last_of, Represents, TablesRecorded}
use Rattle.unit_bands_table.proofs.Guaranteed.{promised, blank}

last-joined : (t : Option (List ℕ)) (ss : List (List ℕ)) (s : List ℕ) → last_from t (ss ++ (s ∷ [])) ≡ some s
unfolding last_from
last-joined t [] s = refl
last-joined t (r ∷ ss) s = last-joined (some r) ss s

kept_of : (tables : List (List ℕ)) (blocks : List ℕ) → unpack blocks ≡ last_of tables → Represents tables blocks
unfolding look_up
kept_of tables blocks e = record { table = e; lookups = λ mm. ap (found mm) e }

kept-none : Represents [] (zeros (64 * 3))
unfolding last_of last_from zeros
kept-none = kept_of [] (zeros (64 * 3)) blank.empty

pub filling : Filling table_home table_homes judged stored
unfolding judged stored
filling blocks bytes z = (promised bytes).room z

growing : Growing table_home table_homes judged stored Accepted answer_by Represents
unfolding judged stored answer_by last_of
growing tables blocks bytes k a = (refl, λ z. kept_of (tables ++ (bytes ∷ [])) (pack bytes) ((promised bytes).kept z ∙ sym (last-joined none tables bytes)))

pub tables-recorded : TablesRecorded
tables-recorded = events-recorded table_home table_homes judged stored Accepted answer_by Represents (omega arith) filling kept-none growing
