-- `log_scan::visit` meets its contract. Assumes nothing.
use mathlib.Core.Path.{sym, ◌∙◌}
use borrow.Author.Rules.{rules}
use Rattle.log_scan.proofs.VisitLaws.{visit-neither}
use Rattle.log_scan.proofs.commits.visit.Statement.{statement}
use Rattle.log_scan.proofs.commits.visit.Tie as tie

is-plain-requires : tie.Need-is_plain-requires
is-plain-requires c κs = search rules

visit-plain-requires : tie.Need-visit_plain-requires
visit-plain-requires c κs =
    let p = c.requires in
    (p.0, p.2, sym c.is_plain.ensures ∙ c.if-is_plain.true, p.3)

same_length : tie.Need-shape_of-counts-then-is_plain
same_length c = search rules

returns : tie.Need-returns-then-is_plain
returns c = search rules

is-closing-requires : tie.Need-is_closing-requires
is-closing-requires c κs = search rules

visit-closing-requires : tie.Need-visit_closing-requires
visit-closing-requires c κs =
    let p = c.requires in
    (p.0, p.1, p.2, sym c.is_closing.ensures ∙ c.if-is_closing.true, p.3)

same-length-2 : tie.Need-shape_of-counts-then-is_closing
same-length-2 c = search rules

returns-2 : tie.Need-returns-then-is_closing
returns-2 c = search rules

returns-3 : tie.Need-returns
returns-3 c homes e =
    visit-neither _ _ _ _ _ (sym c.is_plain.ensures ∙ c.if-is_plain.false) (sym c.is_closing.ensures ∙ c.if-is_closing.false)

pub visit_spec : {M : Type 1} → statement M
visit_spec =
    tie.close
    (tie.spec
    is-plain-requires
    visit-plain-requires
    same_length
    returns
    is-closing-requires
    visit-closing-requires
    same-length-2
    returns-2
    returns-3)
