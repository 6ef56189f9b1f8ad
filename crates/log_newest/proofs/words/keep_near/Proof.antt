-- `log_newest::keep_near` meets its contract. Assumes nothing.
use mathlib.Core.Path.{refl, sym}
use mathlib.Core.Bool.{false≢true}
use native.Mathlib.Omega.{arith}
use Rattle.log_newest.proofs.KeepLaws.{turn-passed, plain-passed, home-kept}
use borrow.Author.Rules.{rules}
use Rattle.log_newest.proofs.words.keep_near.Statement.{statement}
use Rattle.log_newest.proofs.words.keep_near.Tie as tie

mul-number : tie.Need-overflow_mul-k
mul-number c = search rules

add-number : tie.Need-overflow_add-k
add-number c = search rules

number-requires : tie.Need-number-word-requires
number-requires c κs = search rules

other-back-requires : tie.Need-other_back-requires
other-back-requires c κs = search rules

returns : tie.Need-returns-then-other_back
returns c = (
  λ t. absurd (false≢true (sym t)),
  λ t first base f. plain-passed _ _ _ _ _ _ _ _ _ _ c.number-word.ensures.0 f (c.other_back.ensures c.if-other_back.true),
)

near-home-requires : tie.Need-near_home-home-requires
near-home-requires c κs = search rules

keep-plain-requires : tie.Need-keep_plain-requires
keep-plain-requires c κs = search rules

same_length : tie.Need-shape_of-newest-then-home-near
same_length c = search rules

returns-2 : tie.Need-returns-then-home-near
returns-2 c = c.keep_plain.ensures

mul-other-turn : tie.Need-overflow_mul-k-2
mul-other-turn c = search rules

add-other-turn : tie.Need-overflow_add-k-2
add-other-turn c = search rules

other-turn-requires : tie.Need-other_turn-requires
other-turn-requires c κs = search rules

returns-3 : tie.Need-returns-then-other_turn
returns-3 c =
    let w = c.before.before.before.before.before.before in (
      λ t. absurd (false≢true (sym t)),
      λ t first base f. turn-passed _ _ _ _ _ _ _ _ _ _ w.number-word.ensures.0 f _ refl (c.other_turn.ensures.0 c.if-other_turn.true),
    )

keep-requires : tie.Need-keep-requires
keep-requires c κs = search rules

same-length-2 : tie.Need-shape_of-newest
same-length-2 c = search rules

returns-4 : tie.Need-returns
returns-4 c =
    let p = c.requires in (
      λ t. absurd (false≢true (sym t)),
      λ t first base f.
          home-kept _ _ _ _ _ _ _ _ _ _ c.number-word.ensures.0 f _ _ _ refl (c.other_turn.ensures.1 c.if-other_turn.false)
          (omega (arith, c.if-home-near.false, p.6)) (omega (arith, c.if-home-near.false, p.5))
          (c.near_home-home.ensures (omega (arith, c.if-home-near.false, p.6))) c.keep.ensures,
    )

pub keep_near_spec : {M : Type 1} → statement M
keep_near_spec =
    tie.close
    (tie.spec
    mul-number
    add-number
    number-requires
    other-back-requires
    returns
    near-home-requires
    keep-plain-requires
    same_length
    returns-2
    mul-other-turn
    add-other-turn
    other-turn-requires
    returns-3
    keep-requires
    same-length-2
    returns-4)
