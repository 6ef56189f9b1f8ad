-- `log_newest::keep_plain` meets its contract. Assumes nothing.
use mathlib.Core.Path.{refl, sym}
use mathlib.Core.Bool.{false≢true}
use borrow.Author.Rules.{rules}
use native.Mathlib.Omega.{arith}
use Rattle.log_newest.proofs.KeepLaws.{turn-passed, plain-passed, plain-kept}
use Rattle.log_newest.proofs.words.keep_plain.Statement.{statement}
use Rattle.log_newest.proofs.words.keep_plain.Tie as tie

mul-number : tie.Need-overflow_mul-k
mul-number c = search rules

add-number : tie.Need-overflow_add-k
add-number c = search rules

number-requires : tie.Need-number-word-requires
number-requires c κs = search rules

fits-plain-requires : tie.Need-fits_plain-requires
fits-plain-requires c κs = search rules

other-back-requires : tie.Need-other_back-requires
other-back-requires c κs = search rules

returns : tie.Need-returns-then-not-fits_plain
returns c =
    (λ t. refl, λ t first base f. plain-passed _ _ _ _ _ _ _ _ _ _ c.number-word.ensures.0 f (c.other_back.ensures t))

mul-other-turn : tie.Need-overflow_mul-k-2
mul-other-turn c = search rules

add-other-turn : tie.Need-overflow_add-k-2
add-other-turn c = search rules

other-turn-requires : tie.Need-other_turn-requires
other-turn-requires c κs = search rules

returns-2 : tie.Need-returns-then-other_turn
returns-2 c =
    let w = c.before.before.before.before in (
      λ t. absurd (false≢true (sym t)),
      λ t first base f. turn-passed _ _ _ _ _ _ _ _ _ _ w.number-word.ensures.0 f _ refl (c.other_turn.ensures.0 c.if-other_turn.true),
    )

plain-home-requires : tie.Need-plain_home-home-requires
plain-home-requires c κs = search rules

returns-3 : tie.Need-returns-then-home-homes
returns-3 c = (λ t. refl, λ t. absurd (false≢true t))

keep-requires : tie.Need-keep-requires
keep-requires c κs = search rules

same_length : tie.Need-shape_of-newest
same_length c = search rules

returns-4 : tie.Need-returns
returns-4 c =
    let w = c.before.before.before.before.before.before.before.before.before.before in (
      λ t. absurd (false≢true (sym t)),
      λ t first base f.
          plain-kept _ _ _ _ _ _ _ _ _ _ w.number-word.ensures.0 f _ _ _ refl (c.other_turn.ensures.1 c.if-other_turn.false) (omega arith) (omega arith)
          (c.fits_plain.ensures (c.if-not-fits_plain.false)) c.plain_home-home.ensures c.keep.ensures,
    )

pub keep_plain_spec : {M : Type 1} → statement M
keep_plain_spec =
    tie.close
    (tie.spec
    mul-number
    add-number
    number-requires
    fits-plain-requires
    other-back-requires
    returns
    mul-other-turn
    add-other-turn
    other-turn-requires
    returns-2
    plain-home-requires
    returns-3
    keep-requires
    same_length
    returns-4)
