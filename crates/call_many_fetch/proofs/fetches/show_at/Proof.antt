-- `call_many_fetch::show_at` meets its contract. Assumes nothing.
use Rattle.call_many_fetch.proofs.FetchLaws.{shown-at}
use borrow.Author.Rules.{rules}
use native.Mathlib.Omega.{arith}
use Rattle.call_many_fetch.proofs.fetches.show_at.Statement.{statement}
use Rattle.call_many_fetch.proofs.fetches.show_at.Tie as tie

add-show : tie.Need-overflow_add-at
add-show c = search rules

sub-show : tie.Need-slice_bounds-show-count
sub-show c = search rules

part-show-start : tie.Need-slice_bounds-show-start
part-show-start c = search rules

part-show-end : tie.Need-slice_bounds-show-end
part-show-end c = search rules

show-requires : tie.Need-show-requires
show-requires c κs = search rules

same_length : tie.Need-shape_of-blocks
same_length c = search rules

returns : tie.Need-returns
returns c =
    shown-at _ _ _ _ c.args.blocks.now _ _ c.args.at _ _ c.show.ensures (omega (arith, c.show.auto)) c.requires.1

pub show_at_spec : {M : Type 1} → statement M
show_at_spec =
    tie.close
    (tie.spec add-show sub-show part-show-start part-show-end show-requires same_length returns)
