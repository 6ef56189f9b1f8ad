-- Each line by its length, its second byte and its letter (proofs/LineLaws.antt).
use Rattle.std.proofs.Common.{rules, ◌∙◌}
use Rattle.prog_lines.proofs.LineLaws.{line-empty, line-bare, line-unspaced, line-begin, line-commit, line_store, line_other, all-behind}
use Rattle.prog_lines.proofs.parse.Goals.{in-98-1, in-99-1}
use Rattle.prog_lines.proofs.parse.Goals as goal

pub returns-in-empty : goal.returns-in-empty
returns-in-empty c = line-empty c.args.line.now (search rules)

pub returns-in-len1 : goal.returns-in-len1
returns-in-len1 c = c.bare.ensures ∙ line-bare c.args.line.now (search rules)

pub returns-in-115 : goal.returns-in-115
returns-in-115 c =
    let line = c.args.line.now in
    let e = all-behind line (search rules) in
    let h = line_store line (search rules) (search rules) (search rules) in
    search (rules, e, h)

pub returns-in_default-letter : goal.returns-in_default-letter
returns-in_default-letter c = line_other c.args.line.now (search rules) (search rules) (search rules) (search rules) (search rules)

pub returns-in-98 : goal.returns-in-98
returns-in-98 c =
    let line = c.args.line.now in
    let e = all-behind line (search rules) in
    elim c.in-98-1.branch [ in-98-1 w ↦ search (rules, e, line-begin line (search rules) (search rules) (search rules)) | in-99-1 w ↦ search (rules, e, line-commit line (search rules) (search rules) (search rules)) ]

pub returns-in_default : goal.returns-in_default
returns-in_default c = line-unspaced c.args.line.now (search rules) (search rules)
