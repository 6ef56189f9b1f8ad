-- `call_rights::keep_list` meets its contract. Assumes nothing.
use borrow.Author.Rules.{rules}
use Rattle.model.specs.Layout.{home_count}
use Rattle.call_rights.proofs.KeepLaws.{keeps-none, keeps-positions, left-listed, keeps-sign}
use Rattle.call_rights.proofs.keep.keep_list.Statement.{statement}
use Rattle.call_rights.proofs.keep.keep_list.Tie as tie

returns : tie.Need-returns-then-homes-lt12
unfolding home_count
returns c = keeps-none _ _ _ _ c.requires c.if-homes-lt12.true

same-listed-requires : tie.Need-same_listed-stays-requires
same-listed-requires c κs = search rules

carry-listed-requires : tie.Need-carry_listed-requires
carry-listed-requires c κs = search rules

same_length : tie.Need-shape_of-state-then-stays
same_length c = search rules

returns-2 : tie.Need-returns-then-stays
unfolding home_count
returns-2 c = keeps-positions _ _ _ _ c.requires _ _ c.if-homes-lt12.false c.same_listed-stays.ensures c.if-stays.true c.carry_listed.ensures

sign-list-requires : tie.Need-sign_list-requires
unfolding home_count
sign-list-requires c κs = left-listed _ _ _ _ c.requires _ c.if-homes-lt12.false c.carry_listed.ensures

same-length-2 : tie.Need-shape_of-state
same-length-2 c = search rules

returns-3 : tie.Need-returns
unfolding home_count
returns-3 c = keeps-sign _ _ _ _ c.requires _ _ _ c.if-homes-lt12.false c.same_listed-stays.ensures c.if-stays.false c.carry_listed.ensures c.sign_list.ensures

pub keep_list_spec : {M : Type 1} → statement M
keep_list_spec =
    tie.close
    (tie.spec
    returns
    same-listed-requires
    carry-listed-requires
    same_length
    returns-2
    sign-list-requires
    same-length-2
    returns-3)
