-- The calls, each as one definition of its answer and of everything it was lent.
use Rattle.std.specs.Prelude.{ℕ, zero, suc, List, length}
use Rattle.model.specs.Bytes.{puts}
use Rattle.model.specs.Batch.{batch_bytes}
use Rattle.model.specs.Effects.{Given, Effect, format_effect, open_effect, open_start, begin_effect, reserve_effect, abort_effect, store_effect, commit_effect, flush_effect, confirm_effect, settle_effect, begin_round_effect, step_round_effect, trim_start, trim_effect, read_effect}
use Rattle.model.specs.Questions.{format_answer, open_answer, begin_answer, reserve_answer, abort_answer, store_answer, commit_answer, flush_answer, confirm_answer, settle_answer, begin_round_answer, step_round_answer, trim_answer, read_answer}

-- all that a call gives and leaves: its number, figure and batch length, the strip, the newest positions, both copies, the block and the whole batch
-- buffer
pub record Outcome : Type 0 where
  pub code : ℕ
  pub figure : ℕ
  pub size : ℕ
  pub state : List ℕ
  pub newest : List ℕ
  pub log : List ℕ
  pub area : List ℕ
  pub block : List ℕ
  pub batch : List ℕ

-- "A refusal returns its number, no other figure but zero, no train bytes, and all lent memory untouched." [S-8]
unfoldable pub refused : Given → ℕ → Outcome
refused g code =
    record {
      code = code;
      figure = 0;
      size = 0;
      state = g.state;
      newest = g.newest;
      log = g.log;
      area = g.area;
      block = g.block;
      batch = g.batch;
    }

-- "Train bytes past the returned length stay." [S-7, S-9]
unfoldable pub done : Given → Effect → Outcome
done g e =
    record {
      code = 0;
      figure = e.figure;
      size = length (batch_bytes e.records);
      state = e.state;
      newest = e.newest;
      log = e.log;
      area = e.area;
      block = e.block;
      batch = puts g.batch 0 (batch_bytes e.records);
    }

-- the number of bytes that an effect writes
unfoldable pub size_of : Effect → ℕ
size_of e = length (batch_bytes e.records)

-- an answer of 0 is done, every other one refuses [S-7]
unfoldable pub outcome : Given → ℕ → Effect → Outcome
outcome g zero e = done g e
outcome g (suc k) e = refused g (suc k)

unfoldable pub format_call : Given → Outcome
format_call g = let e : Effect = format_effect g in outcome g (format_answer g (size_of e)) e

unfoldable pub open_call : Given → Outcome
open_call g = let e : Effect = open_effect g in outcome g (open_answer g (open_start g) (size_of e)) e

unfoldable pub begin_call : Given → Outcome
begin_call g = let e : Effect = begin_effect g in outcome g (begin_answer g) e

unfoldable pub reserve_call : Given → ℕ → Outcome
reserve_call g n = let e : Effect = reserve_effect g n in outcome g (reserve_answer g n) e

unfoldable pub abort_call : Given → Outcome
abort_call g = let e : Effect = abort_effect g in outcome g (abort_answer g) e

unfoldable pub store_call : Given → Outcome
store_call g = let e : Effect = store_effect g in outcome g (store_answer g (size_of e)) e

unfoldable pub commit_call : Given → Outcome
commit_call g = let e : Effect = commit_effect g in outcome g (commit_answer g (size_of e)) e

unfoldable pub flush_call : Given → Outcome
flush_call g = let e : Effect = flush_effect g in outcome g (flush_answer g (size_of e)) e

unfoldable pub confirm_call : Given → Outcome
confirm_call g = let e : Effect = confirm_effect g in outcome g (confirm_answer g) e

unfoldable pub settle_call : Given → Outcome
settle_call g = let e : Effect = settle_effect g in outcome g (settle_answer g (size_of e)) e

unfoldable pub begin_round_call : Given → Outcome
begin_round_call g = let e : Effect = begin_round_effect g in outcome g (begin_round_answer g) e

unfoldable pub step_round_call : Given → ℕ → Outcome
step_round_call g k = let e : Effect = step_round_effect g k in outcome g (step_round_answer g k (size_of e)) e

unfoldable pub trim_call : Given → Outcome
trim_call g = let s : ℕ = trim_start g in let e : Effect = trim_effect g s in outcome g (trim_answer g s (size_of e)) e

unfoldable pub read_call : Given → Outcome
read_call g = let e : Effect = read_effect g in outcome g (read_answer g) e
