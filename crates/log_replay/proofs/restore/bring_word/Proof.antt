-- `log_replay::bring_word` meets its contract. Assumes nothing.
use native.Mathlib.Omega.{arith}
use borrow.Author.Rules.{rules}
use Rattle.log_replay.proofs.RestoreLaws.{empty-word, none-brought}
use Rattle.log_replay.proofs.restore.bring_word.Statement.{statement}
use Rattle.log_replay.proofs.restore.bring_word.Tie as tie

mul-if1 : tie.Need-offset_bounds-heads-w
mul-if1 c = omega (arith, c.requires.2.room.words)

shared-slice-read-if1 : tie.Need-bounds-heads-w
shared-slice-read-if1 c = omega (arith, c.requires.2.room.words)

returns : tie.Need-returns-then-heads-w-eq0
returns c =
    let p = c.requires in
    let a = c.args in
    let n = none-brought _ _ _ _ _ p.0 _ (empty-word _ _ _ _ _ p.0 _ _ _ p.2 _ p.3 c.if-heads-w-eq0.true) a.at a.area.now a.batch.now in
    (n.0, (n.1, n.2))

bring-chain-requires : tie.Need-bring_chain-requires
bring-chain-requires c κs = let p = c.requires in (p.0, p.1, p.2, p.3, p.4, p.5, p.6)

same_length : tie.Need-shape_of-area
same_length c = search rules

same-length-2 : tie.Need-shape_of-batch
same-length-2 c = search rules

returns-2 : tie.Need-returns
returns-2 c = c.bring_chain.ensures

pub bring_word_spec : {M : Type 1} → statement M
bring_word_spec =
    tie.close
    (tie.spec
    mul-if1
    shared-slice-read-if1
    returns
    bring-chain-requires
    same_length
    same-length-2
    returns-2)
