-- `call_store::store_word` meets its contract. Assumes nothing.
use mathlib.Core.Path.{◌≡◌}
use Prim.Native.Nat.{◌-◌}
use native.Mathlib.Omega.{arith}
use Rattle.model.specs.State.{first_for}
use Rattle.model.specs.Tag.{entry_word}
use Rattle.model_laws.proofs.bytes.TagLaws.{entry-fits}
use borrow.Author.Rules.{rules}
use Rattle.call_store.proofs.entry.store_word.Statement.{statement}
use Rattle.call_store.proofs.entry.store_word.Tie as tie

first-for-requires : tie.Need-first_for-requires
first-for-requires c κs = search rules

sub-entry-word : tie.Need-overflow_sub-position
sub-entry-word c = search rules

entry-word-requires : tie.Need-entry_word-requires
entry-word-requires c κs = search rules

returns : tie.Need-returns
returns c =
    let a = c.args in
    let p = c.requires in
    let b = c.first_for.ensures in
    let e : c.entry_word.result ≡ entry_word a.r.home (a.position - first_for a.r a.position) = cc in
    (e, rw e (entry-fits a.r.home (a.position - first_for a.r a.position) p.home (omega (arith, p.near))))

pub store_word_spec : {M : Type 1} → statement M
store_word_spec =
    tie.close (tie.spec first-for-requires sub-entry-word entry-word-requires returns)
