-- `base_codec::read_tag` meets its contract: each return follows the tests that led to it. Assumes nothing.
use native.Mathlib.Omega.{arith}
use Rattle.base_codec.proofs.ReadLaws.{word-unused, word-above, word-home, word-start, word-upper, word_count, word-entry, word-closing}
use Rattle.base_codec.proofs.tags.read_tag.Statement.{statement}
use Rattle.base_codec.proofs.tags.read_tag.Tie as tie

returns : tie.Need-returns-then-word-eq0
returns c = word-unused _ _ _ _ (omega arith) c.if-word-eq0.true

returns-2 : tie.Need-returns-then-word-ne0
returns-2 c = word-above _ _ _ _ (omega arith) c.if-word-ne0.true

returns-3 : tie.Need-returns-then-homes-home
returns-3 c = word-home _ _ _ _ (omega arith) c.if-homes-home.true

returns-4 : tie.Need-returns-then-position-back
returns-4 c = word-start _ _ _ _ (omega arith) (omega (arith, c.if-position-back.true))

returns-5 : tie.Need-returns-then-first-base
returns-5 c = word-start _ _ _ _ (omega arith) (omega (arith, c.if-first-base.true, c.if-position-back.false))

returns-6 : tie.Need-returns-then-word-eq0-3
returns-6 c =
    word-entry _ _ _ _ (omega arith) c.if-word-eq0.false c.if-word-ne0.false c.if-homes-home.false (omega (arith, c.if-position-back.false, c.if-first-base.false))
    c.if-word-eq0-2.true c.if-word-eq0-3.true

returns-7 : tie.Need-returns-then-word-eq0-2
returns-7 c = word-upper _ _ _ _ (omega arith) c.if-word-eq0-2.true c.if-word-eq0-3.false

returns-8 : tie.Need-returns-then-count-eq0
returns-8 c = word_count _ _ _ _ (omega arith) c.if-word-eq0-2.false c.if-count-eq0.true

returns-9 : tie.Need-returns
returns-9 c =
    word-closing _ _ _ _ (omega arith) c.if-word-eq0.false c.if-word-ne0.false c.if-homes-home.false (omega (arith, c.if-position-back.false, c.if-first-base.false))
    c.if-word-eq0-2.false c.if-count-eq0.false

pub read_tag_spec : {M : Type 1} → statement M
read_tag_spec = tie.close (tie.spec returns returns-2 returns-3 returns-4 returns-5 returns-6 returns-7 returns-8 returns-9)
