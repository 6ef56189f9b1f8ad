-- No number is no writer; one up to 65,535 begins or commits (proofs/LineLaws.antt).
use Rattle.std.proofs.Common.{rules}
use Rattle.prog_lines.proofs.LineLaws.{writer-none, writer-begins, writer-commits}
use Rattle.prog_lines.proofs.of_writer.Goals as goal

pub returns-in-None : goal.returns-in-None
returns-in-None c = writer-none c.args.letter c.args.text.now (search rules)

pub returns-then-letter-eq98 : goal.returns-then-letter-eq98
returns-then-letter-eq98 c = writer-begins c.args.letter c.args.text.now c.in-Some.writer (search rules) (search rules) (search rules)

pub returns-else-letter-eq98 : goal.returns-else-letter-eq98
returns-else-letter-eq98 c = writer-commits c.args.letter c.args.text.now c.in-Some.writer (search rules) (search rules) (search rules)
