-- `log_replay::place_in_word` meets its contract. Assumes nothing.
use lib.Bits.{and_mask}
use Rattle.log_replay.proofs.words.place_in_word.Statement.{statement}
use Rattle.log_replay.proofs.words.place_in_word.Tie as tie

returns : tie.Need-returns
returns c = and_mask _ 6

pub place_in_word_spec : {M : Type 1} → statement M
place_in_word_spec = tie.close (tie.spec returns)
