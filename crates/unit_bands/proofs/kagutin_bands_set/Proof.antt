-- `kagutin_bands_set` meets its contract. Assumes nothing.
use Rattle.unit_bands.proofs.CallLaws.{set-short, set-refused, set-stored}
use borrow.Author.Rules.{rules}
use Rattle.unit_bands.proofs.kagutin_bands_set.Statement.{statement}
use Rattle.unit_bands.proofs.kagutin_bands_set.Tie as tie

judge-requires : tie.Need-judge-v-requires
judge-requires c κs = search rules

returns : tie.Need-returns-then-v-ne0
returns c = set-refused _ _ _ c.judge-v.ensures _ _ c.if-v-ne0.true

slice-aggregate-pack : tie.Need-slice_bounds-pack-end
slice-aggregate-pack c = search rules

pack-requires : tie.Need-pack-requires
pack-requires c κs = (set-short _ _ _ c.judge-v.ensures c.if-v-ne0.false, search rules)

slice-aggregate-kagutin-transact : tie.Need-slice_bounds-kagutin_transact-end
slice-aggregate-kagutin-transact c = search rules

kagutin-transact-requires : tie.Need-kagutin_transact-requires
kagutin-transact-requires c κs = search rules

same_length : tie.Need-shape_of-log
same_length c = search rules

same-length-2 : tie.Need-shape_of-state
same-length-2 c = search rules

same-length-3 : tie.Need-shape_of-newest
same-length-3 c = search rules

same-length-4 : tie.Need-shape_of-batch
same-length-4 c = search rules

returns-2 : tie.Need-returns
returns-2 c =
    set-stored _ _ _ c.judge-v.ensures _ _ c.if-v-ne0.false _ c.pack.ensures c.kagutin_transact.ensures

pub kagutin_bands_set_spec : {M : Type 1} → statement M
kagutin_bands_set_spec =
    tie.close
    (tie.spec
    judge-requires
    returns
    slice-aggregate-pack
    pack-requires
    slice-aggregate-kagutin-transact
    kagutin-transact-requires
    same_length
    same-length-2
    same-length-3
    same-length-4
    returns-2)
