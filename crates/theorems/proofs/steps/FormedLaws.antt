-- The records of a done begin, store or commit can be read back off its batch, whatever world it is called in. Assumes nothing.
use Prim.Native.Nat.{ℕ, ◌+◌, ◌*◌, ◌%◌, ◌≤◌, ◌<◌}
use mathlib.Core.Path.{◌≡◌, ◌∙◌}
use mathlib.Core.Bool.{Bool, true, false, cond, ◌&&◌}
use mathlib.Core.List.{List}
use native.Mathlib.Nat.{mod-lt}
use native.Mathlib.Omega.{arith}
use lib.Dec.{eqb, leb}
use lib.ListN.{length}
use borrow.Author.Tests.{eqb-true}
use Rattle.model.specs.Layout.{log_length_right, data_length_right}
use Rattle.model.specs.State.{state_of, next_position, writer_of, holds, numbers_in_order, promised, places, writers_in_order, is_in_order}
use Rattle.model.specs.declared.State.{State}
use Rattle.model.specs.declared.Writer.{Writer}
use Rattle.model.specs.Effects.{Given, groups, homes, new_state, entered, submitted, logged, log_held, log_closing, store_first, store_again, store_other, store_effect, commit_held, abort_effect, commit_effect}
use Rattle.model.specs.Questions.{areas_right, state_right, newest_right, block_right, state_in_order, ask_block, ask_newest, store_answer, commit_answer}
use Rattle.model_laws.proofs.bytes.LayoutLaws.{log-length, length-group_at, group-fits}
use Rattle.model_laws.proofs.state.BatchLaws.{AllFormed}
use Rattle.model_laws.proofs.state.QuestionLaws.{ask-passed, and-true}
use Rattle.model_laws.proofs.state.LoggingLaws.{length-entered}

-- the log is as long as its groups are many, and the strip has their number
record Sized (g : Given) : Type 0 where
  size : length g.log ≡ 64 + 512 * groups g
  low : 4 ≤ groups g
  high : groups g ≤ 1024
  same : (state_of g.state).groups ≡ groups g

sized : (g : Given) → areas_right g ≡ true → state_in_order g ≡ true → Sized g
unfolding areas_right state_in_order is_in_order
sized g a o =
    let st : State = state_of g.state in
    let l = log-length (length g.log) (and-true (log_length_right (length g.log)) (data_length_right (length g.area)) a).0 in
    let p = and-true (eqb st.groups (groups g) && eqb st.homes (homes g) && numbers_in_order st && leb (promised g.state 8) (places st)) (writers_in_order g.state st 8) o in
    let q = and-true (eqb st.groups (groups g) && eqb st.homes (homes g) && numbers_in_order st) (leb (promised g.state 8) (places st)) p.0 in
    let r = and-true (eqb st.groups (groups g) && eqb st.homes (homes g)) (numbers_in_order st) q.0 in
    let s = and-true (eqb st.groups (groups g)) (eqb st.homes (homes g)) r.0 in
    record { size = l.0; low = l.1; high = l.2; same = eqb-true st.groups (groups g) s.0 }

logged-formed : (g : Given) (word : ℕ) (block : List ℕ) → Sized g → AllFormed (logged g.state g.log word block).records
unfolding logged submitted
logged-formed g word block z = go (eqb (state_of g.state).filled 6)
  where
    st : State
    st = state_of g.state

    slot : ℕ
    slot = st.next % st.groups

    log : List ℕ
    log = entered st slot g.log word block

    below : slot < groups g
    below = rw z.same (mod-lt st.next {m = groups g} (omega (arith, z.low)))

    size : length log ≡ 64 + 512 * groups g
    size = length-entered st slot g.log word block ∙ z.size

    go : (t : Bool) → AllFormed (submitted t g.state st slot log).records
    go true = ((omega (arith, below, z.high), length-group_at log slot (group-fits slot log (groups g) below size)), tt)
    go false = tt

pub store-formed : (g : Given) (size : ℕ) → store_answer g size ≡ 0 → AllFormed (store_effect g).records
unfolding store_answer ask_block store_effect store_first store_again store_other new_state log_held
store-formed g size e = go (holds r) (eqb r.home g.home)
  where
    r : Writer
    r = writer_of g.state g.writer

    z : Sized g
    z =
        let a = ask-passed (areas_right g && state_right g && block_right g) 0 _ e in
        let b = ask-passed (state_in_order g) 1 _ a.1 in
        sized g (and-true (areas_right g) (state_right g) (and-true (areas_right g && state_right g) (block_right g) a.0).0).0 b.0

    go : (d f : Bool)
        → AllFormed (cond d (cond f (store_again g) (store_other g (writer_of g.state g.writer) (next_position (state_of g.state)))) (store_first g)).records
    go true true = tt
    go true false = logged-formed g _ _ z
    go false f = tt

pub commit-formed : (g : Given) (size : ℕ) → commit_answer g size ≡ 0 → AllFormed (commit_effect g).records
unfolding commit_answer ask_newest commit_effect commit_held abort_effect new_state log_closing
commit-formed g size e = go (holds (writer_of g.state g.writer))
  where
    z : Sized g
    z =
        let a = ask-passed (areas_right g && state_right g && newest_right g) 0 _ e in
        let b = ask-passed (state_in_order g) 1 _ a.1 in
        sized g (and-true (areas_right g) (state_right g) (and-true (areas_right g && state_right g) (newest_right g) a.0).0).0 b.0

    go : (d : Bool) → AllFormed (cond d (commit_held g (writer_of g.state g.writer) (next_position (state_of g.state))) (abort_effect g)).records
    go true = logged-formed g _ _ z
    go false = tt
