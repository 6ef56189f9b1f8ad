-- Each way out is one of the laws of a store's line (proofs/LineLaws.antt).
use Rattle.std.proofs.Common.{rules}
use Rattle.prog_lines.proofs.LineLaws.{store-short, store_two, store-writer, store-home, store_byte, store-right}
use Rattle.prog_lines.proofs.of_store.Goals as goal

pub returns-then-first-text : goal.returns-then-first-text
returns-then-first-text c = store-short c.args.text.now c.until-first.result (search rules) (search rules)

pub returns-then-second-text : goal.returns-then-second-text
returns-then-second-text c =
    store_two c.args.text.now c.until-first.result (search rules) c.until-second.result (search rules) (search rules) (search rules) (search rules)

pub returns-in_err-writer : goal.returns-in_err-writer
returns-in_err-writer c =
    let h = store-writer c.args.text.now c.until-first.result (search rules) c.until-second.result (search rules) (search rules) (search rules) (search rules) (search rules) (search rules) in
    search (rules, h)

pub returns-in_err-home : goal.returns-in_err-home
returns-in_err-home c =
    let h = store-home c.args.text.now c.until-first.result (search rules) c.until-second.result (search rules) (search rules) (search rules) (search rules) (search rules)
    c.in_ok-writer.writer (search rules) (search rules) (search rules) in
    search (rules, h)

pub returns-in_err-fill : goal.returns-in_err-fill
returns-in_err-fill c =
    let h = store_byte c.args.text.now c.until-first.result (search rules) c.until-second.result (search rules) (search rules) (search rules) (search rules) (search rules)
    c.in_ok-writer.writer (search rules) (search rules) c.in_ok-home.home (search rules) (search rules) (search rules) in
    search (rules, h)

pub returns-in_err-ok : goal.returns-in_err-ok
returns-in_err-ok c =
    let h = store_byte c.args.text.now c.until-first.result (search rules) c.until-second.result (search rules) (search rules) (search rules) (search rules) (search rules)
    c.in_ok-writer.writer (search rules) (search rules) c.in_ok-home.home (search rules) (search rules) (search rules) in
    search (rules, h)

pub returns : goal.returns
returns c =
    store-right c.args.text.now c.until-first.result (search rules) c.until-second.result (search rules) (search rules) (search rules) (search rules) (search rules)
    c.in_ok-writer.writer (search rules) (search rules) c.in_ok-home.home (search rules) (search rules) c.in_ok-ok.field-0 (search rules) (search rules)
