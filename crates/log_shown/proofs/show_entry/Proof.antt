-- `log_shown::show_entry` meets its contract. Assumes nothing.
use mathlib.Core.Path.{◌∙◌}
use Prim.Native.Nat.{◌/◌, ◌%◌, ◌<◌}
use native.Mathlib.Nat.{mod-lt}
use native.Mathlib.Omega.{arith}
use borrow.Author.Rules.{rules}
use Rattle.log_shown.proofs.ThereLaws.{entry-copied}
use Rattle.log_shown.proofs.show_entry.Statement.{statement}
use Rattle.log_shown.proofs.show_entry.Tie as tie

-- the ring slot is one of the log's
slot : (c : tie.After-copy_entry-arg-1)
    → c.args.position / 7 % c.args.groups < c.args.groups
slot c = mod-lt (c.args.position / 7) (omega arith)

rem-slot : tie.Need-nonzero_rem-slot
rem-slot c = search rules

copy-entry-requires : tie.Need-copy_entry-requires
copy-entry-requires c κs = omega (arith, slot c)

same_length : tie.Need-shape_of-block
same_length c = search rules

returns : tie.Need-returns
returns c =
    let p = c.requires in
    c.copy_entry.ensures ∙ entry-copied _ _ _ _ p.0 p.1 p.2

pub show_entry_spec : {M : Type 1} → statement M
show_entry_spec = tie.close (tie.spec rem-slot copy-entry-requires same_length returns)
