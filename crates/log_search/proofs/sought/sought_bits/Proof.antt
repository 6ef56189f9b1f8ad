-- `log_search::sought_bits` meets its contract. Assumes nothing.
use mathlib.Core.Path.{ap, ◌∙◌}
use Prim.Native.Nat.{ℕ, ◌-◌}
use native.Mathlib.Omega.{arith}
use Rattle.model_laws.proofs.bytes.TagLaws.{entry-fits}
use Rattle.log_search.proofs.SoughtLaws.{bits_of, positive}
use borrow.Author.Rules.{rules}
use Rattle.log_search.proofs.sought.sought_bits.Statement.{statement}
use Rattle.log_search.proofs.sought.sought_bits.Tie as tie

entry-word-requires : tie.Need-entry_word-requires
entry-word-requires c κs = search rules

sub-result : tie.Need-overflow_sub-result
sub-result c = omega (arith, positive _ _ c.entry_word.ensures)

returns : tie.Need-returns
returns c =
    let p = c.requires in
    (ap (λ (x : ℕ). x - 1) c.entry_word.ensures ∙ bits_of _ _, omega (arith, c.entry_word.ensures, entry-fits _ _ p.0 p.1))

pub sought_bits_spec : {M : Type 1} → statement M
sought_bits_spec = tie.close (tie.spec entry-word-requires sub-result returns)
