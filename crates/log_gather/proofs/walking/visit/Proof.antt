-- `log_gather::visit` of the pass that walks and chains meets its contract. Assumes nothing.
use mathlib.Core.Path.{sym, ◌∙◌}
use Rattle.log_gather.proofs.WordVisits.{word-neither}
use borrow.Author.Rules.{rules}
use Rattle.log_gather.proofs.walking.visit.Statement.{statement}
use Rattle.log_gather.proofs.walking.visit.Tie as tie

is-plain-requires : tie.Need-is_plain-requires
is-plain-requires c κs = search rules

visit-plain-requires : tie.Need-visit_plain-requires
visit-plain-requires c κs =
    let p = c.requires in
    (p.0, p.2, p.3, sym c.is_plain.ensures ∙ c.if-is_plain.true, p.6)

same_length : tie.Need-shape_of-cells-then-is_plain
same_length c = search rules

same-length-2 : tie.Need-shape_of-heads-then-is_plain
same-length-2 c = search rules

same-length-3 : tie.Need-shape_of-links-then-is_plain
same-length-3 c = search rules

returns : tie.Need-returns-then-is_plain
returns c = search rules

is-closing-requires : tie.Need-is_closing-requires
is-closing-requires c κs = search rules

visit-closing-requires : tie.Need-visit_closing-requires
visit-closing-requires c κs =
    let p = c.requires in
    (p.0, p.1, p.2, p.3, sym c.is_closing.ensures ∙ c.if-is_closing.true, p.4, p.5, p.6)

same-length-4 : tie.Need-shape_of-cells-then-is_closing
same-length-4 c = search rules

same-length-5 : tie.Need-shape_of-heads-then-is_closing
same-length-5 c = search rules

same-length-6 : tie.Need-shape_of-links-then-is_closing
same-length-6 c = search rules

returns-2 : tie.Need-returns-then-is_closing
returns-2 c = search rules

returns-3 : tie.Need-returns
returns-3 c homes e =
    word-neither _ _ _ _ _ c.requires.3 (sym c.is_plain.ensures ∙ c.if-is_plain.false)
    (sym c.is_closing.ensures ∙ c.if-is_closing.false)

pub visit_spec : {M : Type 1} → statement M
visit_spec =
    tie.close
    (tie.spec
    is-plain-requires
    visit-plain-requires
    same_length
    same-length-2
    same-length-3
    returns
    is-closing-requires
    visit-closing-requires
    same-length-4
    same-length-5
    same-length-6
    returns-2
    returns-3)
