-- `call_store::closing_word` meets its contract. Assumes nothing.
use mathlib.Core.Path.{◌≡◌}
use Prim.Native.Nat.{◌+◌, ◌-◌}
use native.Mathlib.Omega.{arith}
use Rattle.model.specs.State.{first_for, count_for}
use Rattle.model.specs.Tag.{closing_word}
use Rattle.model.specs.Effects.{link_from}
use Rattle.model_laws.proofs.bytes.TagLaws.{closing-fits}
use borrow.Author.Rules.{rules}
use Rattle.call_store.proofs.entry.closing_word.Statement.{statement}
use Rattle.call_store.proofs.entry.closing_word.Tie as tie

first-for-requires : tie.Need-first_for-requires
first-for-requires c κs = search rules

sub_back : tie.Need-overflow_sub-back
sub_back c = search rules

link-from-requires : tie.Need-link_from-link-requires
link-from-requires c κs = search rules

count-for-requires : tie.Need-count_for-requires
count-for-requires c κs = search rules

add-commit-word : tie.Need-overflow_add-count_for
add-commit-word c = search rules

commit-word-requires : tie.Need-commit_word-requires
commit-word-requires c κs = search rules

returns : tie.Need-returns
returns c =
    let a = c.args in
    let p = c.requires in
    let e : c.commit_word.result
    ≡ closing_word a.r.home (a.position - first_for a.r a.position) (link_from a.position a.st) (count_for a.r + 1) = cc in (
      e,
      rw e (closing-fits a.r.home (a.position - first_for a.r a.position) (link_from a.position a.st) (count_for a.r + 1) p.home
          (omega (arith, p.near)) p.link p.many),
    )

pub closing_word_spec : {M : Type 1} → statement M
closing_word_spec =
    tie.close
    (tie.spec
    first-for-requires
    sub_back
    link-from-requires
    count-for-requires
    add-commit-word
    commit-word-requires
    returns)
