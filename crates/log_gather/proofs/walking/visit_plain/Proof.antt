-- `log_gather::visit_plain` meets its contract: each return follows the tests that led to it. Assumes nothing.
use mathlib.Core.Path.{sym, ◌∙◌}
use native.Mathlib.Omega.{arith}
use Rattle.log_gather.proofs.WordVisits.{plain-used, home-small, word-unknown, word-early, word-joined}
use borrow.Author.Rules.{rules}
use Rattle.log_gather.proofs.walking.visit_plain.Statement.{statement}
use Rattle.log_gather.proofs.walking.visit_plain.Tie as tie

has-home-requires : tie.Need-has_home-requires
has-home-requires c κs = search rules

returns : tie.Need-returns-then-not-has_home
returns c homes e =
    let p = c.requires in
    word-unknown _ _ _ _ _ p.2 (sym (c.has_home.ensures homes e (plain-used _ p.3)) ∙ c.if-not-has_home.true)

tag-back-requires : tie.Need-tag_back-back-requires
tag-back-requires c κs = search rules

returns-2 : tie.Need-returns-then-index-back
returns-2 c homes e = word-early _ _ _ _ _ c.requires.2 _ c.tag_back-back.ensures c.if-index-back.true

tag-home-requires : tie.Need-tag_home-requires
tag-home-requires c κs = search rules

join-entry-requires : tie.Need-join_entry-requires
join-entry-requires c κs =
    let p = c.requires in (
      omega (arith, p.1),
      omega (arith, p.1),
      omega (arith, p.0),
      home-small _ _ c.tag_home.ensures,
      p.4,
    )

same_length : tie.Need-shape_of-cells
same_length c = search rules

same-length-2 : tie.Need-shape_of-heads
same-length-2 c = search rules

same-length-3 : tie.Need-shape_of-links
same-length-3 c = search rules

returns-3 : tie.Need-returns
returns-3 c homes e =
    let p = c.requires in
    word-joined _ _ _ _ _ p.2 _ c.tag_back-back.ensures
    (sym (c.has_home.ensures homes e (plain-used _ p.3)) ∙ c.if-not-has_home.false)
    (omega (arith, c.if-index-back.false)) _ _ p.3 c.tag_home.ensures c.join_entry.ensures

pub visit_plain_spec : {M : Type 1} → statement M
visit_plain_spec =
    tie.close
    (tie.spec
    has-home-requires
    returns
    tag-back-requires
    returns-2
    tag-home-requires
    join-entry-requires
    same_length
    same-length-2
    same-length-3
    returns-3)
