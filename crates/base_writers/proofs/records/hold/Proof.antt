-- `base_writers::records::hold` meets its contract: each return is a case of `held_for`. Assumes nothing.
use mathlib.Core.Bool.{not}
use mathlib.Core.Path.{ap}
use borrow.Author.Rules.{rules}
use Rattle.base_writers.proofs.HeldLaws.{by_first, by-again, by-other}
use Rattle.base_writers.proofs.records.hold.Statement.{statement}
use Rattle.base_writers.proofs.records.hold.Tie as tie

holds-requires : tie.Need-holds-requires
holds-requires c κs = search rules

holding-requires : tie.Need-holding-requires
holding-requires c κs = search rules

returns : tie.Need-returns-then-not-holds
returns c = by_first _ _ _ _ c.holds.ensures _ (ap not c.if-not-holds.true) c.holding.ensures

returns-2 : tie.Need-returns-then-r-home
returns-2 c = by-again _ _ _ _ c.holds.ensures (ap not c.if-not-holds.false) c.if-r-home.true

first-for-requires : tie.Need-first_for-first-requires
first-for-requires c κs = search rules

count-for-requires : tie.Need-count_for-requires
count-for-requires c κs = search rules

add-logging : tie.Need-overflow_add-count_for
add-logging c = search rules

logging-requires : tie.Need-logging-requires
logging-requires c κs = search rules

returns-3 : tie.Need-returns
returns-3 c =
    by-other _ _ _ _ c.holds.ensures _ _ _ (ap not c.if-not-holds.false) c.if-r-home.false
    c.first_for-first.ensures
    c.count_for.ensures
    c.logging.ensures

pub hold_spec : {M : Type 1} → statement M
hold_spec =
    tie.close
    (tie.spec
    holds-requires
    holding-requires
    returns
    returns-2
    first-for-requires
    count-for-requires
    add-logging
    logging-requires
    returns-3)
