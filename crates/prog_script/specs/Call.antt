-- What a line of the script does: for each case of `Line` the call of the paper, with all that it is lent and leaves; a malformed line touches nothing.
use Rattle.std.specs.Prelude.{ℕ, ◌≡◌, List, [], replicate}
use Rattle.model.specs.Calls.{begin_call, store_call, commit_call, flush_call, settle_call, trim_call}
use Rattle.call_ask.specs.Lent.{lent_all, leaves_everything, lent, leaves}
use Rattle.prog_lines.specs.declared.Line.{Line}
use Rattle.prog_lines.specs.declared.Line.TheVariants.{Begin, Store, Commit, Flush, Settle, Trim, Malformed}

-- log copy, data copy, strip, newest positions and batch buffer
pub record Memory : Type 0 where
  pub log : List ℕ
  pub area : List ℕ
  pub state : List ℕ
  pub newest : List ℕ
  pub batch : List ℕ

abbrev pub memory : List ℕ → List ℕ → List ℕ → List ℕ → List ℕ → Memory
memory log area state newest batch = record { log = log; area = area; state = state; newest = newest; batch = batch }

-- the answer of a malformed line, which no call has
abbrev pub malformed : ℕ
malformed = 11

abbrev pub Does : Line → Memory → ℕ → ℕ → ℕ → Memory → Type 0
Does (Begin w) m code figure size n =
    (leaves code figure size n.log n.area n.state [] [] ≡ begin_call (lent m.log m.area m.state [] [] w 0))
    × (n.newest ≡ m.newest)
    × (n.batch ≡ m.batch)
Does (Store w home fill) m code figure size n =
    (leaves code figure size n.log n.area n.state (replicate 64 fill) n.batch
    ≡ store_call (lent m.log m.area m.state (replicate 64 fill) m.batch w home))
    × (n.newest ≡ m.newest)
Does (Commit w) m code figure size n =
    leaves_everything code figure size n.log n.area n.state n.newest [] n.batch ≡ commit_call (lent_all m.log m.area m.state m.newest [] m.batch w 0)
Does Flush m code figure size n =
    (leaves code figure size n.log n.area n.state [] n.batch ≡ flush_call (lent m.log m.area m.state [] m.batch 0 0))
    × (n.newest ≡ m.newest)
Does Settle m code figure size n =
    (leaves code figure size n.log n.area n.state [] n.batch ≡ settle_call (lent m.log m.area m.state [] m.batch 0 0))
    × (n.newest ≡ m.newest)
Does Trim m code figure size n =
    leaves_everything code figure size n.log n.area n.state n.newest [] n.batch ≡ trim_call (lent_all m.log m.area m.state m.newest [] m.batch 0 0)
Does Malformed m code figure size n = (code ≡ malformed) × (size ≡ 0) × (n ≡ m)
