-- `call_commit::keep_newest` meets its contract. Assumes nothing.
use mathlib.Core.Bool.{not}
use mathlib.Core.Path.{ap}
use borrow.Author.Rules.{rules}
use native.Mathlib.Omega.{arith}
use Rattle.model.specs.State.{next_position}
use Rattle.call_commit.proofs.ClosingLaws.{stretch-one, kept-one, stretch-at, kept_by}
use Rattle.call_commit.proofs.keep_newest.Statement.{statement}
use Rattle.call_commit.proofs.keep_newest.Tie as tie

has-logged-requires : tie.Need-has_logged-requires
has-logged-requires c κs = search rules

keep-one-requires : tie.Need-keep_one-requires
keep-one-requires c κs =
    let p = c.requires in
    (stretch-one _ _ _ _ c.has_logged.ensures (ap not c.if-not-has_logged.true) p.0, omega (arith, p.3), p.1, p.2)

same_length : tie.Need-shape_of-newest-then-not-has_logged
same_length c = search rules

returns : tie.Need-returns-then-not-has_logged
returns c =
    kept-one _ _ _ _ c.has_logged.ensures (ap not c.if-not-has_logged.true) _ _ c.keep_one.ensures

next-position-requires : tie.Need-next_position-position-requires
unfolding next_position
next-position-requires c κs = omega (arith, c.requires.0)

first-for-requires : tie.Need-first_for-first-requires
first-for-requires c κs = search rules

keep-entries-requires : tie.Need-keep_entries-requires
keep-entries-requires c κs =
    let p = c.requires in
    (stretch-at _ _ _ _ _ c.next_position-position.ensures c.first_for-first.ensures p.0, p.1, p.2)

same-length-2 : tie.Need-shape_of-newest
same-length-2 c = search rules

returns-2 : tie.Need-returns
returns-2 c =
    kept_by _ _ _ _ _ c.next_position-position.ensures c.first_for-first.ensures _ _ c.keep_entries.ensures

pub keep_newest_spec : {M : Type 1} → statement M
keep_newest_spec =
    tie.close
    (tie.spec
    has-logged-requires
    keep-one-requires
    same_length
    returns
    next-position-requires
    first-for-requires
    keep-entries-requires
    same-length-2
    returns-2)
