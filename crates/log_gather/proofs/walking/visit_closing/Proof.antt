-- `log_gather::visit_closing` meets its contract: each return follows the tests that led to it. Assumes nothing.
use mathlib.Core.Path.{sym, ◌∙◌}
use native.Mathlib.Omega.{arith}
use Rattle.log_gather.proofs.WordVisits.{closing-used, link-small, home-small, word-unknown, word-early, word-empty, word-closed}
use borrow.Author.Rules.{rules}
use Rattle.log_gather.proofs.walking.visit_closing.Statement.{statement}
use Rattle.log_gather.proofs.walking.visit_closing.Tie as tie

has-home-requires : tie.Need-has_home-requires
has-home-requires c κs = search rules

returns : tie.Need-returns-then-not-has_home
returns c homes e =
    let p = c.requires in
    word-unknown _ _ _ _ _ p.3 (sym (c.has_home.ensures homes e (closing-used _ p.4)) ∙ c.if-not-has_home.true)

tag-back-requires : tie.Need-tag_back-back-requires
tag-back-requires c κs = search rules

returns-2 : tie.Need-returns-then-index-back
returns-2 c homes e = word-early _ _ _ _ _ c.requires.3 _ c.tag_back-back.ensures c.if-index-back.true

tag-count-requires : tie.Need-tag_count-count-requires
tag-count-requires c κs = search rules

returns-3 : tie.Need-returns-then-count-eq0
returns-3 c homes e =
    let p = c.requires in
    word-empty _ _ _ _ _ p.3 _ c.tag_back-back.ensures
    (sym (c.has_home.ensures homes e (closing-used _ p.4)) ∙ c.if-not-has_home.false)
    (omega (arith, c.if-index-back.false)) p.4 _ c.tag_count-count.ensures c.if-count-eq0.true

tag-link-requires : tie.Need-tag_link-link-requires
tag-link-requires c κs = search rules

add-join-closing : tie.Need-overflow_add-base
add-join-closing c = search rules

tag-home-requires : tie.Need-tag_home-requires
tag-home-requires c κs = search rules

join-closing-requires : tie.Need-join_closing-requires
join-closing-requires c κs =
    let p = c.requires in (
      omega arith,
      omega (arith, p.0),
      omega (arith, p.0, p.1),
      link-small _ _ c.tag_link-link.ensures,
      p.5,
      p.6,
      omega (arith, p.2),
      omega (arith, p.2),
      home-small _ _ c.tag_home.ensures,
      p.7,
    )

same_length : tie.Need-shape_of-cells
same_length c = search rules

same-length-2 : tie.Need-shape_of-heads
same-length-2 c = search rules

same-length-3 : tie.Need-shape_of-links
same-length-3 c = search rules

returns-4 : tie.Need-returns
returns-4 c homes e =
    let p = c.requires in
    word-closed _ _ _ _ _ p.3 _ c.tag_back-back.ensures
    (sym (c.has_home.ensures homes e (closing-used _ p.4)) ∙ c.if-not-has_home.false)
    (omega (arith, c.if-index-back.false)) p.4 _ c.tag_count-count.ensures c.if-count-eq0.false _ _ _ c.tag_home.ensures
    c.tag_link-link.ensures c.join_closing.ensures

pub visit_closing_spec : {M : Type 1} → statement M
visit_closing_spec =
    tie.close
    (tie.spec
    has-home-requires
    returns
    tag-back-requires
    returns-2
    tag-count-requires
    returns-3
    tag-link-requires
    add-join-closing
    tag-home-requires
    join-closing-requires
    same_length
    same-length-2
    same-length-3
    returns-4)
