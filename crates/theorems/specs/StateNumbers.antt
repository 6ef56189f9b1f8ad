-- The strip's numbers are the abstract store's, at every moment after a done opening. Some are in no reply: the durable mark, the last closing entry.
use Rattle.std.specs.Prelude.{ℕ, ◌<◌, ◌≡◌, true, List, [], ◌∷◌}
use Rattle.model.specs.State.{state_of, promise_of}
use Rattle.model.specs.History.{Event, World, Formatting, after_format, step, AllAllowed}
use Rattle.abstract_store.specs.Store.{Store, new_store, next_group, follow}

-- [S-51]
pub record StateTold (w : World) (s : Store) : Type 0 where
  pub groups : (state_of w.state).groups ≡ s.groups
  pub homes : (state_of w.state).homes ≡ s.homes
  pub start : (state_of w.state).start ≡ s.start
  pub next : (state_of w.state).next ≡ next_group s
  pub filled : (state_of w.state).filled ≡ s.book.filled
  pub settled : (state_of w.state).settled ≡ s.settled
  pub fenced : (state_of w.state).fenced ≡ s.fenced
  pub durable : (state_of w.state).durable ≡ s.durable
  pub last : (state_of w.state).last ≡ s.last
  pub round : (state_of w.state).round ≡ s.round
  pub cursor : (state_of w.state).cursor ≡ s.cursor
  pub promises : (writer : ℕ) → writer < 8 → promise_of w.state writer ≡ s.promises writer

abbrev pub StateThroughout : World → Store → List Event → Type 0
StateThroughout w s [] = w.ready ≡ true → StateTold w s
StateThroughout w s (e ∷ es) = (w.ready ≡ true → StateTold w s) × StateThroughout (step w e) (follow s w e) es

-- [S-25, S-51]
abbrev pub StateKept : Type 0
StateKept =
    (groups homes : ℕ) (f : Formatting groups homes) (es : List Event) → AllAllowed (after_format f) es →
    StateThroughout (after_format f) (new_store groups homes) es
