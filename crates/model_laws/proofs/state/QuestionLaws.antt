-- The questions: what an answer of 0 says of what was lent, and which of two failing questions answers.
use mathlib.Core.Path.{◌≡◌, refl, sym, ◌∙◌}
use mathlib.Core.Bool.{Bool, true, false, not, ◌&&◌, ◌||◌, false≢true}
use mathlib.Core.Logic.{◌⊎◌, inl, inr}
use mathlib.Core.List.{List}
use Prim.Native.Nat.{ℕ, suc, ◌+◌, ◌-◌, ◌*◌, ◌≤◌, ◌<◌}
use native.Mathlib.Omega.{arith}
use lib.Dec.{leb, ltb, eqb}
use borrow.Author.Tests.{leb-true, leb-false, ltb-true, eqb-true, lt-leb}
use Rattle.model.specs.Layout.{max_start}
use Rattle.model.specs.State.{state_of, under_way, promise_of, promised, places, free_places}
use Rattle.model.specs.Effects.{Given}
use Rattle.model.specs.Questions.{ask, areas_right, state_right, block_right, newest_right, state_in_order, header_fits, writer_known, is_home_known, store_allowed, read_allowed, writer_open, room_for, room, may_promise, keeps_promises, store_logs, commit_logs, start_fits, batch_fits, format_answer, open_answer, ask_state, ask_block, ask_newest, ask_both, begin_answer, reserve_answer, abort_answer, store_answer, commit_answer, flush_answer, confirm_answer, settle_answer, trim_answer, read_answer, in_round, begin_round_answer, step_round_answer}

-- a question answered no, answered yes, and one that let an answer of 0 through
pub ask-no : (b : Bool) (k v : ℕ) → b ≡ false → ask b k v ≡ k
unfolding ask
ask-no true k v e = absurd (false≢true (sym e))
ask-no false k v e = refl

pub ask-yes : (b : Bool) (k v : ℕ) → b ≡ true → ask b k v ≡ v
unfolding ask
ask-yes true k v e = refl
ask-yes false k v e = absurd (false≢true e)

pub ask-passed : (b : Bool) (k v : ℕ) → ask b (suc k) v ≡ 0 → (b ≡ true) × (v ≡ 0)
unfolding ask
ask-passed true k v e = (refl, e)
ask-passed false k v e = absurd (omega arith)

pub and-true : (a b : Bool) → (a && b) ≡ true → (a ≡ true) × (b ≡ true)
and-true true b e = (refl, e)
and-true false b e = absurd (false≢true e)

not-true : (b : Bool) → not b ≡ true → b ≡ false
not-true true e = absurd (false≢true e)
not-true false e = refl

-- what every call but format has been lent when it is done
pub record Lent (g : Given) : Type 0 where
  pub areas : areas_right g ≡ true
  pub state_fits : state_right g ≡ true

pub record InUse (g : Given) : Type 0 where
  pub areas : areas_right g ≡ true
  pub state_fits : state_right g ≡ true
  pub order : state_in_order g ≡ true

state-passed : (g : Given) (v : ℕ) → ask_state g v ≡ 0 → InUse g × (v ≡ 0)
unfolding ask_state
state-passed g v e =
    let a = ask-passed (areas_right g && state_right g) 0 (ask (state_in_order g) 2 v) e in
    let b = ask-passed (state_in_order g) 1 v a.1 in
    let c = and-true (areas_right g) (state_right g) a.0 in
    (record { areas = c.0; state_fits = c.1; order = b.0 }, b.1)

-- those that ask for more lengths: the rest is right too
more-passed : (g : Given) (rest : Bool) (v : ℕ) → ask (areas_right g && state_right g && rest) 1 (ask (state_in_order g) 2 v) ≡ 0
    → InUse g × (rest ≡ true) × (v ≡ 0)
more-passed g rest v e =
    let a = ask-passed (areas_right g && state_right g && rest) 0 (ask (state_in_order g) 2 v) e in
    let b = ask-passed (state_in_order g) 1 v a.1 in
    let c = and-true (areas_right g && state_right g) rest a.0 in
    let d = and-true (areas_right g) (state_right g) c.0 in
    (record { areas = d.0; state_fits = d.1; order = b.0 }, c.1, b.1)

block-passed : (g : Given) (v : ℕ) → ask_block g v ≡ 0 → InUse g × (block_right g ≡ true) × (v ≡ 0)
unfolding ask_block
block-passed g v e = more-passed g (block_right g) v e

newest-passed : (g : Given) (v : ℕ) → ask_newest g v ≡ 0 → InUse g × (newest_right g ≡ true) × (v ≡ 0)
unfolding ask_newest
newest-passed g v e = more-passed g (newest_right g) v e

both-passed : (g : Given) (v : ℕ) → ask_both g v ≡ 0 → InUse g × (newest_right g ≡ true) × (block_right g ≡ true) × (v ≡ 0)
unfolding ask_both
both-passed g v e =
    let a = ask-passed (areas_right g && state_right g && newest_right g && block_right g) 0 (ask (state_in_order g) 2 v) e in
    let b = ask-passed (state_in_order g) 1 v a.1 in
    let c = and-true (areas_right g && state_right g && newest_right g) (block_right g) a.0 in
    let d = and-true (areas_right g && state_right g) (newest_right g) c.0 in
    let f = and-true (areas_right g) (state_right g) d.0 in
    (record { areas = f.0; state_fits = f.1; order = b.0 }, d.1, c.1, b.1)

-- what an answer of 0 says, call by call
pub format-ready : (g : Given) (size : ℕ) → format_answer g size ≡ 0 → (areas_right g ≡ true) × (batch_fits g size ≡ true)
unfolding format_answer
format-ready g size e =
    let a = ask-passed (areas_right g) 0 (ask (batch_fits g size) 9 0) e in
    let b = ask-passed (batch_fits g size) 8 0 a.1 in
    (a.0, b.0)

pub open-ready : (g : Given) (start size : ℕ) → open_answer g start size ≡ 0
    → Lent g × (header_fits g ≡ true) × (start_fits start ≡ true) × (batch_fits g size ≡ true) × (newest_right g ≡ true)
unfolding open_answer
open-ready g start size e =
    let a = ask-passed (areas_right g && state_right g && newest_right g) 0 _ e in
    let b = ask-passed (header_fits g) 2 _ a.1 in
    let c = ask-passed (start_fits start) 9 _ b.1 in
    let d = ask-passed (batch_fits g size) 8 0 c.1 in
    let l = and-true (areas_right g && state_right g) (newest_right g) a.0 in
    let m = and-true (areas_right g) (state_right g) l.0 in
    (record { areas = m.0; state_fits = m.1 }, b.0, c.0, d.0, l.1)

pub begin-ready : (g : Given) → begin_answer g ≡ 0 → InUse g × (writer_known g ≡ true) × (writer_open g ≡ false)
unfolding begin_answer
begin-ready g e =
    let a = state-passed g _ e in
    let b = ask-passed (writer_known g) 3 _ a.1 in
    let c = ask-passed (not (writer_open g)) 5 0 b.1 in
    (a.0, b.0, not-true (writer_open g) c.0)

pub reserve-ready : (g : Given) (n : ℕ) → reserve_answer g n ≡ 0
    → InUse g × (writer_known g ≡ true) × (writer_open g ≡ false) × (may_promise g.state n ≡ true)
unfolding reserve_answer
reserve-ready g n e =
    let a = state-passed g _ e in
    let b = ask-passed (writer_known g) 3 _ a.1 in
    let c = ask-passed (not (writer_open g)) 5 _ b.1 in
    let d = ask-passed (may_promise g.state n) 16 0 c.1 in
    (a.0, b.0, not-true (writer_open g) c.0, d.0)

pub may-promise : (s : List ℕ) (n : ℕ) → may_promise s n ≡ true → (1 ≤ n) × (n ≤ free_places s)
unfolding may_promise
may-promise s n e = let a = and-true (leb 1 n) (leb n (free_places s)) e in (leb-true 1 n a.0, leb-true n (free_places s) a.1)

pub abort-ready : (g : Given) → abort_answer g ≡ 0 → InUse g × (writer_known g ≡ true) × (writer_open g ≡ true)
unfolding abort_answer
abort-ready g e =
    let a = state-passed g _ e in
    let b = ask-passed (writer_known g) 3 _ a.1 in
    let c = ask-passed (writer_open g) 6 0 b.1 in
    (a.0, b.0, c.0)

-- a writer's entry has room: a place promised to it is left, or one that is promised to nobody
abbrev pub Roomy : List ℕ → ℕ → Type 0
Roomy s w = (1 ≤ promise_of s w) ⊎ (promised s 8 < places (state_of s))

pub room-true : (s : List ℕ) (w : ℕ) → room_for s w ≡ true → Roomy s w
unfolding room_for
room-true s w e = go (leb 1 (promise_of s w)) refl e
  where
    go : (b : Bool) → leb 1 (promise_of s w) ≡ b → (b || ltb (promised s 8) (places (state_of s))) ≡ true → Roomy s w
    go true h e = inl (leb-true 1 (promise_of s w) h)
    go false h e = inr (ltb-true (promised s 8) (places (state_of s)) e)

-- room where an entry must be logged
room-for : (logs has : Bool) → (not logs || has) ≡ true → logs ≡ true → has ≡ true
room-for true has e h = e
room-for false has e h = absurd (false≢true h)

pub record StoreReady (g : Given) (size : ℕ) : Type 0 where
  pub is_in_use : InUse g
  pub block : block_right g ≡ true
  pub writer : writer_known g ≡ true
  pub home : is_home_known g ≡ true
  pub allowed : store_allowed g ≡ true
  pub opened : writer_open g ≡ true
  pub roomy : store_logs g ≡ true → room g ≡ true
  pub batch : batch_fits g size ≡ true

pub store-ready : (g : Given) (size : ℕ) → store_answer g size ≡ 0 → StoreReady g size
unfolding store_answer
store-ready g size e =
    let a = block-passed g _ e in
    let b = ask-passed (writer_known g) 3 _ a.2 in
    let c = ask-passed (is_home_known g) 4 _ b.1 in
    let k = ask-passed (store_allowed g) 18 _ c.1 in
    let d = ask-passed (writer_open g) 6 _ k.1 in
    let f = ask-passed (not (store_logs g) || room g) 7 _ d.1 in
    let h = ask-passed (batch_fits g size) 8 0 f.1 in
    record {
      is_in_use = a.0;
      block = a.1;
      writer = b.0;
      home = c.0;
      allowed = k.0;
      opened = d.0;
      roomy = room-for (store_logs g) (room g) f.0;
      batch = h.0;
    }

pub record CommitReady (g : Given) (size : ℕ) : Type 0 where
  pub is_in_use : InUse g
  pub newest : newest_right g ≡ true
  pub writer : writer_known g ≡ true
  pub opened : writer_open g ≡ true
  pub roomy : commit_logs g ≡ true → room g ≡ true
  pub batch : batch_fits g size ≡ true

pub commit-ready : (g : Given) (size : ℕ) → commit_answer g size ≡ 0 → CommitReady g size
unfolding commit_answer
commit-ready g size e =
    let a = newest-passed g _ e in
    let b = ask-passed (writer_known g) 3 _ a.2 in
    let d = ask-passed (writer_open g) 6 _ b.1 in
    let f = ask-passed (not (commit_logs g) || room g) 7 _ d.1 in
    let h = ask-passed (batch_fits g size) 8 0 f.1 in
    record { is_in_use = a.0; newest = a.1; writer = b.0; opened = d.0; roomy = room-for (commit_logs g) (room g) f.0; batch = h.0 }

pub flush-ready : (g : Given) (size : ℕ) → flush_answer g size ≡ 0 → InUse g × (keeps_promises g.state ≡ true) × (batch_fits g size ≡ true)
unfolding flush_answer
flush-ready g size e =
    let a = state-passed g _ e in
    let b = ask-passed (keeps_promises g.state) 17 _ a.1 in
    let c = ask-passed (batch_fits g size) 8 0 b.1 in
    (a.0, b.0, c.0)

pub keeps-promises : (s : List ℕ) → keeps_promises s ≡ true
    → ((state_of s).filled ≡ 0) ⊎ (promised s 8 ≤ 7 * ((state_of s).start + (state_of s).groups) - 7 * ((state_of s).next + 1))
unfolding keeps_promises
keeps-promises s e = go (eqb (state_of s).filled 0) refl e
  where
    go : (b : Bool) → eqb (state_of s).filled 0 ≡ b → (b || leb (promised s 8) (7 * ((state_of s).start + (state_of s).groups) - 7 * ((state_of s).next + 1))) ≡ true
        → ((state_of s).filled ≡ 0) ⊎ (promised s 8 ≤ 7 * ((state_of s).start + (state_of s).groups) - 7 * ((state_of s).next + 1))
    go true h e = inl (eqb-true (state_of s).filled 0 h)
    go false h e = inr (leb-true (promised s 8) (7 * ((state_of s).start + (state_of s).groups) - 7 * ((state_of s).next + 1)) e)

pub confirm-ready : (g : Given) → confirm_answer g ≡ 0 → InUse g
unfolding confirm_answer
confirm-ready g e = (state-passed g 0 e).0

pub settle-ready : (g : Given) (size : ℕ) → settle_answer g size ≡ 0 → InUse g × (in_round g ≡ false) × (batch_fits g size ≡ true)
unfolding settle_answer
settle-ready g size e =
    let a = state-passed g _ e in
    let b = ask-passed (not (in_round g)) 20 _ a.1 in
    let c = ask-passed (batch_fits g size) 8 0 b.1 in
    (a.0, not-true (in_round g) b.0, c.0)

pub begin-round-ready : (g : Given) → begin_round_answer g ≡ 0 → InUse g × (in_round g ≡ false)
unfolding begin_round_answer
begin-round-ready g e =
    let a = state-passed g _ e in
    let b = ask-passed (not (in_round g)) 20 0 a.1 in
    (a.0, not-true (in_round g) b.0)

pub step-round-ready : (g : Given) (k size : ℕ) → step_round_answer g k size ≡ 0
    → InUse g × (in_round g ≡ true) × (1 ≤ k) × (batch_fits g size ≡ true)
unfolding step_round_answer
step-round-ready g k size e =
    let a = state-passed g _ e in
    let b = ask-passed (in_round g && leb 1 k) 20 _ a.1 in
    let c = ask-passed (batch_fits g size) 8 0 b.1 in
    let d = and-true (in_round g) (leb 1 k) b.0 in
    (a.0, d.0, leb-true 1 k d.1, c.0)

-- whether a round is under way, by the strip's number
pub out-of-round : (g : Given) → in_round g ≡ false → (state_of g.state).round ≡ 0
unfolding in_round under_way
out-of-round g e = let k = leb-false 1 (state_of g.state).round e in omega arith

pub within-round : (g : Given) → in_round g ≡ true → 1 ≤ (state_of g.state).round
unfolding in_round under_way
within-round g e = leb-true 1 (state_of g.state).round e

pub trim-ready : (g : Given) (start size : ℕ) → trim_answer g start size ≡ 0
    → InUse g × (start_fits start ≡ true) × (batch_fits g size ≡ true) × (newest_right g ≡ true)
unfolding trim_answer
trim-ready g start size e =
    let a = newest-passed g _ e in
    let b = ask-passed (start_fits start) 9 _ a.2 in
    let c = ask-passed (batch_fits g size) 8 0 b.1 in
    (a.0, b.0, c.0, a.1)

pub read-ready : (g : Given) → read_answer g ≡ 0
    → InUse g × (block_right g ≡ true) × (writer_known g ≡ true) × (is_home_known g ≡ true) × (newest_right g ≡ true) × (read_allowed g ≡ true)
unfolding read_answer
read-ready g e =
    let a = both-passed g _ e in
    let b = ask-passed (writer_known g) 3 _ a.3 in
    let c = ask-passed (is_home_known g) 4 _ b.1 in
    let d = ask-passed (read_allowed g) 19 0 c.1 in
    (a.0, a.2, b.0, c.0, a.1, d.0)

-- "Question 9 answers 10 and comes before question 10": a start that does not fit answers 10, whatever the batch
pub open-start-first : (g : Given) (start size : ℕ) → (areas_right g && state_right g && newest_right g) ≡ true → header_fits g ≡ true → max_start < start
    → open_answer g start size ≡ 10
unfolding open_answer start_fits
open-start-first g start size a h l =
    ask-yes _ 1 _ a ∙ ask-yes (header_fits g) 3 _ h ∙ ask-no _ 10 _ (lt-leb start max_start l)

pub trim-start-first : (g : Given) (start size : ℕ) → (areas_right g && state_right g && newest_right g) ≡ true → state_in_order g ≡ true → max_start < start
    → trim_answer g start size ≡ 10
unfolding trim_answer ask_newest start_fits
trim-start-first g start size a h l =
    ask-yes _ 1 _ a ∙ ask-yes (state_in_order g) 2 _ h ∙ ask-no _ 10 _ (lt-leb start max_start l)
