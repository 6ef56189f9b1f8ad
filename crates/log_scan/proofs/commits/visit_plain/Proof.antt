-- `log_scan::visit_plain` meets its contract: each return follows the tests that led to it. Assumes nothing.
use mathlib.Core.Path.{sym, ◌∙◌}
use native.Mathlib.Omega.{arith}
use borrow.Author.Rules.{rules}
use Rattle.log_scan.proofs.VisitLaws.{plain-used, below-most, visit-unknown, visit-early, visit-counted}
use Rattle.log_scan.proofs.commits.visit_plain.Statement.{statement}
use Rattle.log_scan.proofs.commits.visit_plain.Tie as tie

has-home-requires : tie.Need-has_home-requires
has-home-requires c κs = search rules

returns : tie.Need-returns-then-not-has_home
returns c homes e =
    visit-unknown _ _ _ _ _ (sym (c.has_home.ensures homes e (plain-used _ c.requires.2)) ∙ c.if-not-has_home.true)

tag-back-requires : tie.Need-tag_back-back-requires
tag-back-requires c κs = search rules

returns-2 : tie.Need-returns-then-index-back
returns-2 c homes e = visit-early _ _ _ _ _ _ c.tag_back-back.ensures c.if-index-back.true

count-entry-requires : tie.Need-count_entry-requires
count-entry-requires c κs =
    let p = c.requires in
    (omega (arith, p), below-most _ _ _ _ p.3 p.0)

same_length : tie.Need-shape_of-counts
same_length c = search rules

returns-3 : tie.Need-returns
returns-3 c homes e =
    let p = c.requires in
    visit-counted _ _ _ _ _ _ c.tag_back-back.ensures
    (sym (c.has_home.ensures homes e (plain-used _ p.2)) ∙ c.if-not-has_home.false)
    (omega (arith, c.if-index-back.false)) _ p.2 c.count_entry.ensures.0

pub visit_plain_spec : {M : Type 1} → statement M
visit_plain_spec =
    tie.close
    (tie.spec
    has-home-requires
    returns
    tag-back-requires
    returns-2
    count-entry-requires
    same_length
    returns-3)
