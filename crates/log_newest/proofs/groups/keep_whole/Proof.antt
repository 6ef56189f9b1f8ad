-- `log_newest::keep_whole` meets its contract. Assumes nothing.
use borrow.Author.Rules.{rules}
use native.Mathlib.Omega.{arith}
use Rattle.log_scan.proofs.MemberPass.{over-before}
use Rattle.log_newest.specs.Keeping.{keep_at}
use Rattle.log_newest.proofs.KeepLaws.{head-valid}
use Rattle.log_newest.proofs.groups.keep_whole.Statement.{statement}
use Rattle.log_newest.proofs.groups.keep_whole.Tie as tie

has-group-head-requires : tie.Need-has_group_head-requires
has-group-head-requires c κs = search rules

returns : tie.Need-returns-then-not-has_group_head
returns c = (omega arith, over-before _ keep_at _ _ _ _ (omega arith))

keep-seven-requires : tie.Need-keep_seven-requires
keep-seven-requires c κs = search rules

same_length : tie.Need-shape_of-newest
same_length c = search rules

returns-2 : tie.Need-returns
returns-2 c =
    let k = c.keep_seven in
    let i = c.before.before.before.before in (
      k.ensures.0,
      k.ensures.1 _ _
          (record {
            valid = head-valid _ _ _ _ _ (omega arith) (omega arith) (omega arith) (omega arith) i.has_group_head.ensures (i.if-not-has_group_head.false);
            fits = i.requires.5;
            from = omega arith;
          }),
    )

pub keep_whole_spec : {M : Type 1} → statement M
keep_whole_spec =
    tie.close
    (tie.spec
    has-group-head-requires
    returns
    keep-seven-requires
    same_length
    returns-2)
