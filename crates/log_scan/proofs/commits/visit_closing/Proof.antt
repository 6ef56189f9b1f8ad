-- `log_scan::visit_closing` meets its contract: each return follows the tests that led to it. Assumes nothing.
use mathlib.Core.Path.{sym, ◌∙◌}
use native.Mathlib.Omega.{arith}
use borrow.Author.Rules.{rules}
use Rattle.log_scan.proofs.VisitLaws.{closing-used, link-small, below-most, visit-unknown, visit-early, visit-empty, visit-decided}
use Rattle.log_scan.proofs.commits.visit_closing.Statement.{statement}
use Rattle.log_scan.proofs.commits.visit_closing.Tie as tie

has-home-requires : tie.Need-has_home-requires
has-home-requires c κs = search rules

returns : tie.Need-returns-then-not-has_home
returns c homes e =
    visit-unknown _ _ _ _ _ (sym (c.has_home.ensures homes e (closing-used _ c.requires.3)) ∙ c.if-not-has_home.true)

tag-back-requires : tie.Need-tag_back-back-requires
tag-back-requires c κs = search rules

returns-2 : tie.Need-returns-then-index-back
returns-2 c homes e = visit-early _ _ _ _ _ _ c.tag_back-back.ensures c.if-index-back.true

tag-count-requires : tie.Need-tag_count-count-requires
tag-count-requires c κs = search rules

returns-3 : tie.Need-returns-then-count-eq0
returns-3 c homes e =
    let p = c.requires in
    visit-empty _ _ _ _ _ _ c.tag_back-back.ensures
    (sym (c.has_home.ensures homes e (closing-used _ p.3)) ∙ c.if-not-has_home.false)
    (omega (arith, c.if-index-back.false)) p.3 _ c.tag_count-count.ensures c.if-count-eq0.true

count-entry-requires : tie.Need-count_entry-n-requires
count-entry-requires c κs =
    let p = c.requires in
    (omega (arith, p), below-most _ _ _ _ p.4 p.0)

add-decide : tie.Need-overflow_add-base
add-decide c = search rules

tag-link-requires : tie.Need-tag_link-requires
tag-link-requires c κs = search rules

decide-requires : tie.Need-decide-requires
decide-requires c κs =
    let p = c.requires in
    omega (arith, p, p.4.number, p.4.end, link-small _ _ c.tag_link.ensures)

same_length : tie.Need-shape_of-counts
same_length c = search rules

returns-4 : tie.Need-returns
returns-4 c homes e =
    let p = c.requires in
    visit-decided _ _ _ _ _ _ c.tag_back-back.ensures
    (sym (c.has_home.ensures homes e (closing-used _ p.3)) ∙ c.if-not-has_home.false)
    (omega (arith, c.if-index-back.false)) p.3 _ c.tag_count-count.ensures c.if-count-eq0.false _ _ _ _ c.tag_link.ensures
    c.count_entry-n.ensures.0 c.count_entry-n.ensures.1 c.decide.ensures

pub visit_closing_spec : {M : Type 1} → statement M
visit_closing_spec =
    tie.close
    (tie.spec
    has-home-requires
    returns
    tag-back-requires
    returns-2
    tag-count-requires
    returns-3
    count-entry-requires
    add-decide
    tag-link-requires
    decide-requires
    same_length
    returns-4)
