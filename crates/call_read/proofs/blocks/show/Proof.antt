-- `call_read::show` meets its contract. Assumes nothing.
use borrow.Author.Rules.{rules}
use native.Mathlib.Omega.{arith}
use Rattle.call_ask.proofs.NewestAnswers.{newest-fits}
use Rattle.log_shown.proofs.ThereLaws.{searchable}
use Rattle.call_read.proofs.ReadLaws.{home_known, own_first, shown-held, shown-home, shown-entry}
use Rattle.call_read.proofs.blocks.show.Statement.{statement}
use Rattle.call_read.proofs.blocks.show.Tie as tie

state-requires : tie.Need-state-st-requires
state-requires c κs = search rules

writer-requires : tie.Need-writer-r-requires
writer-requires c κs = search rules

holds-home-requires : tie.Need-holds_home-requires
holds-home-requires c κs = search rules

show-held-requires : tie.Need-show_held-requires
show-held-requires c κs = search rules

same_length : tie.Need-shape_of-block-then-holds_home
same_length c = search rules

returns : tie.Need-returns-then-holds_home
returns c =
    shown-held _ _ _ c.state-st.ensures c.writer-r.ensures _ _ c.holds_home.ensures c.if-holds_home.true c.show_held.ensures

seen-requires : tie.Need-seen-entry-requires
seen-requires c κs = (
  searchable _ _ _ _ c.requires.0 c.state-st.ensures,
  c.state-st.ensures,
  c.requires.0.state-length,
  newest-fits _ _ _ _ _ c.requires.0 c.state-st.ensures c.requires.2,
  own_first _ _ _ _ _ _ c.requires.0 c.state-st.ensures c.writer-r.ensures c.requires.3,
  home_known _ _ _ _ _ c.requires.0 c.state-st.ensures c.requires.4,
)

get-home-requires : tie.Need-get_home-requires
get-home-requires c κs = search rules

same-length-2 : tie.Need-shape_of-block-then-entry-eq0
same-length-2 c = search rules

returns-2 : tie.Need-returns-then-entry-eq0
returns-2 c =
    shown-home _ _ _ c.state-st.ensures c.writer-r.ensures _ _ _ c.requires.0.order c.holds_home.ensures c.if-holds_home.false c.seen-entry.ensures
    c.if-entry-eq0.true c.get_home.ensures

sub-show-entry : tie.Need-overflow_sub-entry
sub-show-entry c = search rules

show-entry-requires : tie.Need-show_entry-requires
show-entry-requires c κs =
    let s = searchable _ _ _ _ c.requires.0 c.state-st.ensures in omega (arith, s)

same-length-3 : tie.Need-shape_of-block
same-length-3 c = search rules

returns-3 : tie.Need-returns
returns-3 c =
    shown-entry _ _ _ c.state-st.ensures c.writer-r.ensures _ _ _ c.requires.0.order c.holds_home.ensures c.if-holds_home.false c.seen-entry.ensures
    c.if-entry-eq0.false c.show_entry.ensures

pub show_spec : {M : Type 1} → statement M
show_spec =
    tie.close
    (tie.spec
    state-requires
    writer-requires
    holds-home-requires
    show-held-requires
    same_length
    returns
    seen-requires
    get-home-requires
    same-length-2
    returns-2
    sub-show-entry
    show-entry-requires
    same-length-3
    returns-3)
