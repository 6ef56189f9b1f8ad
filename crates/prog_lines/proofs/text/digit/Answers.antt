-- A digit's value lies between the two marks of specs/Text; any other byte lies below or above them.
use Rattle.std.proofs.Common.{rules}
use Rattle.prog_lines.specs.Text.{digit_of}
use Rattle.prog_lines.proofs.text.digit.Goals as goal

pub returns-then-is_ascii_digit-clause-value : goal.returns-then-is_ascii_digit-clause-value
unfolding digit_of
returns-then-is_ascii_digit-clause-value c = search rules

pub returns-else-is_ascii_digit-clause-value : goal.returns-else-is_ascii_digit-clause-value
unfolding digit_of
returns-else-is_ascii_digit-clause-value c = search rules
