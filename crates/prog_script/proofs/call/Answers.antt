-- `call` meets its contract, case by case of the line.
use borrow.Author.Rules.{rules}
use Rattle.prog_script.proofs.CallLaws.{does-begin, does-store, does-commit, does-flush, does-settle, does-trim, does-nothing}
use Rattle.prog_script.proofs.call.Goals as goal

pub returns-in-Begin : goal.returns-in-Begin
returns-in-Begin c = search (rules, does-begin)

pub returns-in-Store : goal.returns-in-Store
returns-in-Store c = search (rules, does-store)

pub returns-in-Commit : goal.returns-in-Commit
returns-in-Commit c = search (rules, does-commit)

pub returns-in-Flush : goal.returns-in-Flush
returns-in-Flush c = search (rules, does-flush)

pub returns-in-Settle : goal.returns-in-Settle
returns-in-Settle c = search (rules, does-settle)

pub returns-in-Trim : goal.returns-in-Trim
returns-in-Trim c = search (rules, does-trim)

pub returns-in-Malformed : goal.returns-in-Malformed
returns-in-Malformed c = search (rules, does-nothing)
