-- `log_newest::keep_next` meets its contract. Assumes nothing.
use mathlib.Core.Path.{refl}
use Prim.Native.Nat.{◌-◌, ◌*◌}
use native.Mathlib.Omega.{arith}
use Rattle.model_laws.proofs.bytes.TagLaws.{entry-fits}
use Rattle.log_scan.specs.Members.{taking}
use Rattle.log_scan.proofs.PassLaws.{group-turn}
use Rattle.log_newest.specs.Keeping.{keep_at}
use Rattle.model.specs.Tag.{tag_word, entry_word}
use borrow.Author.Rules.{rules}
use Rattle.log_newest.proofs.groups.keep_next.Statement.{statement}
use Rattle.log_newest.proofs.groups.keep_next.Tie as tie

mul-position : tie.Need-overflow_mul-position
mul-position c = search rules

add-position : tie.Need-overflow_add-position
add-position c = search rules

mul-keep-near : tie.Need-overflow_mul-k
mul-keep-near c = search rules

add-keep-near : tie.Need-overflow_add-plain
add-keep-near c =
    let p = c.requires in
    let a = c.args in
    omega (arith, p.8, entry-fits 0 (7 * a.n - a.first) (omega arith) (omega (arith, p.5)))

keep-near-requires : tie.Need-keep_near-requires
keep-near-requires c κs = search rules

same_length : tie.Need-shape_of-newest
same_length c = search rules

returns : tie.Need-returns
unfolding entry_word tag_word
returns c =
    let k = c.keep_near.ensures in
    let p = c.requires in (
      k.0,
      λ t groups start before v q.
          group-turn (taking _ keep_at) _ _ _ _ _ _ _ _ _ _ _ _ v.valid v.fits p.7 refl refl
          (k.1 t _ _ (record { word = omega (arith, p.4, p.8); start = v.from; from = omega (arith, p.4); near = omega (arith, p.5, p.7) })) q,
    )

pub keep_next_spec : {M : Type 1} → statement M
keep_next_spec =
    tie.close
    (tie.spec
    mul-position
    add-position
    mul-keep-near
    add-keep-near
    keep-near-requires
    same_length
    returns)
