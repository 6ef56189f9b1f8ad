-- `call_usage::told` meets its contract. Assumes nothing.
use native.Mathlib.Omega.{arith}
use Rattle.call_ask.proofs.AnswerLaws.{usable-groups}
use Rattle.call_usage.proofs.UsageLaws.{numbers, usage-told}
use borrow.Author.Rules.{rules}
use Rattle.call_usage.proofs.told.Statement.{statement}
use Rattle.call_usage.proofs.told.Tie as tie

state-requires : tie.Need-state-st-requires
state-requires c κs = search rules

live-entries-requires : tie.Need-live_entries-live-requires
live-entries-requires c κs = search rules

places-requires : tie.Need-places-free-requires
places-requires c κs = usable-groups _ _ _ _ c.requires c.state-st.ensures

mul-rest : tie.Need-overflow_mul-st
mul-rest c =
    omega (arith, numbers _ _ _ _ c.requires c.state-st.ensures)

sub-rest : tie.Need-overflow_sub-st
sub-rest c =
    omega (arith, numbers _ _ _ _ c.requires c.state-st.ensures, c.places-free.ensures)

rest-requires : tie.Need-rest-dead-requires
rest-requires c κs = search rules

promised-requires : tie.Need-promised-promised-requires
promised-requires c κs = search rules

holder-requires : tie.Need-holder-held-requires
holder-requires c κs = search rules

returns : tie.Need-returns
returns c =
    usage-told _ _ _ _ _ _ _ _ _ c.requires c.state-st.ensures c.live_entries-live.ensures c.places-free.ensures c.rest-dead.ensures
    c.promised-promised.ensures c.holder-held.ensures

pub told_spec : {M : Type 1} → statement M
told_spec =
    tie.close
    (tie.spec
    state-requires
    live-entries-requires
    places-requires
    mul-rest
    sub-rest
    rest-requires
    promised-requires
    holder-requires
    returns)
