-- `call_rights::sign_list` meets its contract. Assumes nothing.
use borrow.Author.Rules.{rules}
use Rattle.call_rights.proofs.KeepLaws.{sign-first, sign-second}
use Rattle.call_rights.proofs.keep.sign_list.Statement.{statement}
use Rattle.call_rights.proofs.keep.sign_list.Tie as tie

all-zeros-requires : tie.Need-all_zeros-requires
all-zeros-requires c κs = search rules

set-list-sign-requires : tie.Need-set_list_sign-requires
set-list-sign-requires c κs = search rules

same_length : tie.Need-shape_of-state-then-all_zeros
same_length c = search rules

returns : tie.Need-returns-then-all_zeros
returns c = sign-first _ _ _ _ c.all_zeros.ensures c.if-all_zeros.true c.set_list_sign.ensures

set-list-sign-requires-2 : tie.Need-set_list_sign-requires-2
set-list-sign-requires-2 c κs = search rules

same-length-2 : tie.Need-shape_of-state
same-length-2 c = search rules

returns-2 : tie.Need-returns
returns-2 c = sign-second _ _ _ _ c.all_zeros.ensures c.if-all_zeros.false c.set_list_sign-2.ensures

pub sign_list_spec : {M : Type 1} → statement M
sign_list_spec =
    tie.close
    (tie.spec
    all-zeros-requires
    set-list-sign-requires
    same_length
    returns
    set-list-sign-requires-2
    same-length-2
    returns-2)
