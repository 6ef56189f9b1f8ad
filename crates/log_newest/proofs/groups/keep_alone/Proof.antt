-- `log_newest::keep_alone` meets its contract. Assumes nothing.
use mathlib.Core.Path.{◌≡◌, refl, sym, ◌∙◌}
use mathlib.Core.Bool.{true}
use native.Mathlib.Omega.{arith}
use Rattle.model.specs.Layout.{group_valid}
use Rattle.log_scan.specs.Members.{taking}
use Rattle.log_scan.proofs.PassLaws.{group-turn}
use Rattle.log_newest.specs.Keeping.{keep_at}
use Rattle.log_newest.proofs.KeepLaws.{hole-between}
use borrow.Author.Rules.{rules}
use Rattle.log_newest.proofs.groups.keep_alone.Statement.{statement}
use Rattle.log_newest.proofs.groups.keep_alone.Tie as tie

group-valid-requires : tie.Need-group_valid-requires
group-valid-requires c κs = search rules

returns : tie.Need-returns-then-not-group_valid
returns c before e =
    hole-between _ _ _ _ _ _ _ _ _ before (sym c.group_valid.ensures ∙ c.if-not-group_valid.true) (omega arith) (omega arith) e

word-there-requires : tie.Need-word_there-word-requires
word-there-requires c κs = search rules

mul-position : tie.Need-overflow_mul-position
mul-position c = search rules

add-position : tie.Need-overflow_add-position
add-position c = search rules

mul-keep-word : tie.Need-overflow_mul-start
mul-keep-word c = search rules

keep-word-requires : tie.Need-keep_word-requires
keep-word-requires c κs = search rules

same_length : tie.Need-shape_of-newest
same_length c = search rules

returns-2 : tie.Need-returns
returns-2 c before e =
    let g : group_valid _ _ _ _ ≡ true = sym c.group_valid.ensures ∙ c.if-not-group_valid.false in
    group-turn (taking _ keep_at) _ _ _ _ _ _ _ _ _ _ _ _ g c.requires.5 (omega arith) refl refl
    (c.keep_word.ensures ∙ rw c.word_there-word.ensures) e

pub keep_alone_spec : {M : Type 1} → statement M
keep_alone_spec =
    tie.close
    (tie.spec
    group-valid-requires
    returns
    word-there-requires
    mul-position
    add-position
    mul-keep-word
    keep-word-requires
    same_length
    returns-2)
