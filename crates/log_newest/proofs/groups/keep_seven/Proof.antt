-- `log_newest::keep_seven` meets its contract: each tag takes the pass one further. Assumes nothing.
use mathlib.Core.Path.{◌∙◌}
use native.Mathlib.Omega.{arith}
use borrow.Author.Rules.{rules}
use Rattle.log_scan.proofs.MemberPass.{over-before}
use Rattle.log_newest.specs.Keeping.{keep_at}
use Rattle.log_newest.proofs.groups.keep_seven.Statement.{statement}
use Rattle.log_newest.proofs.groups.keep_seven.Tie as tie

mul-entry-word : tie.Need-overflow_mul-n
mul-entry-word c = search rules

sub-entry-word : tie.Need-overflow_sub-n
sub-entry-word c = search rules

entry-word-requires : tie.Need-entry_word-plain-requires
entry-word-requires c κs = search rules

near-homes-requires : tie.Need-near_homes-near-requires
near-homes-requires c κs = tt

keep-next-requires : tie.Need-keep_next-requires
keep-next-requires c κs =
    let p = c.requires in
    let n = c.near_homes-near.ensures in
    (p.0, omega (arith, p.1), p.2, p.3, p.4, p.5, p.6, omega arith, c.entry_word-plain.ensures, n.0, n.1)

same_length : tie.Need-shape_of-newest-then-not-keep_next
same_length c = omega (arith, c.keep_next.auto)

returns : tie.Need-returns-then-not-keep_next
returns c = (
  omega arith,
  λ groups start v.
      c.keep_next.ensures.0 (c.if-not-keep_next.true)
      ∙ over-before _ keep_at _ _ _ _ (omega arith),
)

keep-next-requires-2 : tie.Need-keep_next-requires-2
keep-next-requires-2 c κs =
    let p = c.requires in
    let n = c.near_homes-near.ensures in
    (p.0, omega (arith, p.1, c.keep_next.auto), p.2, p.3, p.4, p.5, p.6, omega arith, c.entry_word-plain.ensures, n.0, n.1)

same-length-2 : tie.Need-shape_of-newest-then-not-keep_next-2
same-length-2 c = omega (arith, c.keep_next.auto, c.keep_next-2.auto)

returns-2 : tie.Need-returns-then-not-keep_next-2
returns-2 c = (
  omega arith,
  λ groups start v.
      c.keep_next-2.ensures.0 (c.if-not-keep_next-2.true)
      ∙ c.keep_next.ensures.1 (c.if-not-keep_next.false) groups start _ v (over-before _ keep_at _ _ _ _ (omega arith)),
)

keep-next-requires-3 : tie.Need-keep_next-requires-3
keep-next-requires-3 c κs =
    let p = c.requires in
    let n = c.near_homes-near.ensures in
    (p.0, omega (arith, p.1, c.keep_next.auto, c.keep_next-2.auto), p.2, p.3, p.4, p.5, p.6, omega arith, c.entry_word-plain.ensures, n.0, n.1)

same-length-3 : tie.Need-shape_of-newest-then-not-keep_next-3
same-length-3 c = omega (arith, c.keep_next.auto, c.keep_next-2.auto, c.keep_next-3.auto)

returns-3 : tie.Need-returns-then-not-keep_next-3
returns-3 c = (
  omega arith,
  λ groups start v.
      c.keep_next-3.ensures.0 (c.if-not-keep_next-3.true)
      ∙ c.keep_next-2.ensures.1 (c.if-not-keep_next-2.false) groups start _ v (c.keep_next.ensures.1 (c.if-not-keep_next.false) groups start _ v (over-before _ keep_at _ _ _ _ (omega arith))),
)

keep-next-requires-4 : tie.Need-keep_next-requires-4
keep-next-requires-4 c κs =
    let p = c.requires in
    let n = c.near_homes-near.ensures in
    (p.0, omega (arith, p.1, c.keep_next.auto, c.keep_next-2.auto, c.keep_next-3.auto), p.2, p.3, p.4, p.5, p.6, omega arith, c.entry_word-plain.ensures, n.0, n.1)

same-length-4 : tie.Need-shape_of-newest-then-not-keep_next-4
same-length-4 c = omega (arith, c.keep_next.auto, c.keep_next-2.auto, c.keep_next-3.auto, c.keep_next-4.auto)

returns-4 : tie.Need-returns-then-not-keep_next-4
returns-4 c = (
  omega arith,
  λ groups start v.
      c.keep_next-4.ensures.0 (c.if-not-keep_next-4.true)
      ∙ c.keep_next-3.ensures.1 (c.if-not-keep_next-3.false) groups start _ v (c.keep_next-2.ensures.1 (c.if-not-keep_next-2.false) groups start _ v (c.keep_next.ensures.1 (c.if-not-keep_next.false) groups start _ v (over-before _ keep_at _ _ _ _ (omega arith)))),
)

keep-next-requires-5 : tie.Need-keep_next-requires-5
keep-next-requires-5 c κs =
    let p = c.requires in
    let n = c.near_homes-near.ensures in
    (p.0, omega (arith, p.1, c.keep_next.auto, c.keep_next-2.auto, c.keep_next-3.auto, c.keep_next-4.auto), p.2, p.3, p.4, p.5, p.6, omega arith, c.entry_word-plain.ensures, n.0, n.1)

same-length-5 : tie.Need-shape_of-newest-then-not-keep_next-5
same-length-5 c = omega (arith, c.keep_next.auto, c.keep_next-2.auto, c.keep_next-3.auto, c.keep_next-4.auto, c.keep_next-5.auto)

returns-5 : tie.Need-returns-then-not-keep_next-5
returns-5 c = (
  omega arith,
  λ groups start v.
      c.keep_next-5.ensures.0 (c.if-not-keep_next-5.true)
      ∙ c.keep_next-4.ensures.1 (c.if-not-keep_next-4.false) groups start _ v (c.keep_next-3.ensures.1 (c.if-not-keep_next-3.false) groups start _ v (c.keep_next-2.ensures.1 (c.if-not-keep_next-2.false) groups start _ v (c.keep_next.ensures.1 (c.if-not-keep_next.false) groups start _ v (over-before _ keep_at _ _ _ _ (omega arith))))),
)

keep-next-requires-6 : tie.Need-keep_next-requires-6
keep-next-requires-6 c κs =
    let p = c.requires in
    let n = c.near_homes-near.ensures in
    (p.0, omega (arith, p.1, c.keep_next.auto, c.keep_next-2.auto, c.keep_next-3.auto, c.keep_next-4.auto, c.keep_next-5.auto), p.2, p.3, p.4, p.5, p.6, omega arith, c.entry_word-plain.ensures, n.0, n.1)

same-length-6 : tie.Need-shape_of-newest-then-not-keep_next-6
same-length-6 c = omega (arith, c.keep_next.auto, c.keep_next-2.auto, c.keep_next-3.auto, c.keep_next-4.auto, c.keep_next-5.auto, c.keep_next-6.auto)

returns-6 : tie.Need-returns-then-not-keep_next-6
returns-6 c = (
  omega arith,
  λ groups start v.
      c.keep_next-6.ensures.0 (c.if-not-keep_next-6.true)
      ∙ c.keep_next-5.ensures.1 (c.if-not-keep_next-5.false) groups start _ v (c.keep_next-4.ensures.1 (c.if-not-keep_next-4.false) groups start _ v (c.keep_next-3.ensures.1 (c.if-not-keep_next-3.false) groups start _ v (c.keep_next-2.ensures.1 (c.if-not-keep_next-2.false) groups start _ v (c.keep_next.ensures.1 (c.if-not-keep_next.false) groups start _ v (over-before _ keep_at _ _ _ _ (omega arith)))))),
)

keep-next-requires-7 : tie.Need-keep_next-requires-7
keep-next-requires-7 c κs =
    let p = c.requires in
    let n = c.near_homes-near.ensures in
    (p.0, omega (arith, p.1, c.keep_next.auto, c.keep_next-2.auto, c.keep_next-3.auto, c.keep_next-4.auto, c.keep_next-5.auto, c.keep_next-6.auto), p.2, p.3, p.4, p.5, p.6, omega arith, c.entry_word-plain.ensures, n.0, n.1)

same-length-7 : tie.Need-shape_of-newest-then-not-keep_next-7
same-length-7 c = omega (arith, c.keep_next.auto, c.keep_next-2.auto, c.keep_next-3.auto, c.keep_next-4.auto, c.keep_next-5.auto, c.keep_next-6.auto, c.keep_next-7.auto)

returns-7 : tie.Need-returns-then-not-keep_next-7
returns-7 c = (
  omega arith,
  λ groups start v.
      c.keep_next-7.ensures.0 (c.if-not-keep_next-7.true)
      ∙ c.keep_next-6.ensures.1 (c.if-not-keep_next-6.false) groups start _ v (c.keep_next-5.ensures.1 (c.if-not-keep_next-5.false) groups start _ v (c.keep_next-4.ensures.1 (c.if-not-keep_next-4.false) groups start _ v (c.keep_next-3.ensures.1 (c.if-not-keep_next-3.false) groups start _ v (c.keep_next-2.ensures.1 (c.if-not-keep_next-2.false) groups start _ v (c.keep_next.ensures.1 (c.if-not-keep_next.false) groups start _ v (over-before _ keep_at _ _ _ _ (omega arith))))))),
)

same-length-8 : tie.Need-shape_of-newest
same-length-8 c = omega (arith, c.keep_next.auto, c.keep_next-2.auto, c.keep_next-3.auto, c.keep_next-4.auto, c.keep_next-5.auto, c.keep_next-6.auto, c.keep_next-7.auto)

returns-8 : tie.Need-returns
returns-8 c = (
  omega arith,
  λ groups start v. c.keep_next-7.ensures.1 (c.if-not-keep_next-7.false) groups start _ v (c.keep_next-6.ensures.1 (c.if-not-keep_next-6.false) groups start _ v (c.keep_next-5.ensures.1 (c.if-not-keep_next-5.false) groups start _ v (c.keep_next-4.ensures.1 (c.if-not-keep_next-4.false) groups start _ v (c.keep_next-3.ensures.1 (c.if-not-keep_next-3.false) groups start _ v (c.keep_next-2.ensures.1 (c.if-not-keep_next-2.false) groups start _ v (c.keep_next.ensures.1 (c.if-not-keep_next.false) groups start _ v (over-before _ keep_at _ _ _ _ (omega arith)))))))),
)

pub keep_seven_spec : {M : Type 1} → statement M
keep_seven_spec =
    tie.close
    (tie.spec
    mul-entry-word
    sub-entry-word
    entry-word-requires
    near-homes-requires
    keep-next-requires
    same_length
    returns
    keep-next-requires-2
    same-length-2
    returns-2
    keep-next-requires-3
    same-length-3
    returns-3
    keep-next-requires-4
    same-length-4
    returns-4
    keep-next-requires-5
    same-length-5
    returns-5
    keep-next-requires-6
    same-length-6
    returns-6
    keep-next-requires-7
    same-length-7
    returns-7
    same-length-8
    returns-8)
