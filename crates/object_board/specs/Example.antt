-- A board's history on words (G 4, D 4), with all that demand 4 speaks of: operations, a cut that tears words, a failure, openings, a read, room made and a round.
use Rattle.std.specs.Prelude.{ℕ, zero, suc, ◌%◌, Bool, true, cond, [], eqb}
use Rattle.model.specs.Bytes.{zeros}
use Rattle.model.specs.Book as book
use Rattle.model.specs.History.{empty_store}
use Rattle.model.specs.examples.Trials.{lane, fill}
use Rattle.object.specs.Medium.{words}
use Rattle.object_machine.specs.Control.{fresh}
use Rattle.object_machine.specs.Moves.{done}
use Rattle.object_machine.specs.Next.{lent_to}
use Rattle.object_board.specs.Board.{Board, Happening, asks, begins, goes, breaks, cuts, is_over, happens}

unfoldable pub all : ℕ → Bool
all i = true

unfoldable pub third : ℕ → Bool
third i = eqb (i % 3) 0

-- a program that has just started, on a new format
unfoldable pub start : Board
start =
    record {
      homes = 4;
      control = fresh 0 0 0;
      memory = lent_to (zeros 2112) (zeros 256) (zeros 1024) (zeros 32) [] lane;
      turn = done 0 0;
      told = done 0 0;
      shown = [];
      medium = record { lasting = (empty_store 4 4).memory; written = [] };
      book = book.empty;
    }

-- the driver carries out what it is asked, up to `most` turns; n is the number of commits that a loss leaves
unfoldable pub carries : ℕ → Board → ℕ → Board
carries zero b n = b
carries (suc most) b n = cond (is_over b.turn) b (carries most (happens words b (goes all) n) n)

unfoldable pub runs : Board → Happening → ℕ → Board
runs b h n = carries 40 (happens words b h n) n

unfoldable pub opened : Board
opened = runs start (asks 19 0 0 0 []) 0

-- a commit, synced
unfoldable pub synced : Board
synced =
    runs (runs (runs (happens words opened (begins 0) 0) (asks 3 0 2 0 (fill 9)) 0) (asks 4 0 0 0 []) 0) (asks 5 0 0 0 []) 0

-- another, whose sync is cut in the middle of the group's body: of its words every third has landed, and one commit is left
unfoldable pub torn : Board
torn =
    let b : Board = runs (runs (happens words synced (begins 1) 0) (asks 3 1 3 0 (fill 7)) 0) (asks 4 1 0 0 []) 0 in
    happens words (carries 3 (happens words b (asks 5 0 0 0 []) 0) 0) (cuts third start) 1

unfoldable pub reopened : Board
reopened = runs torn (asks 19 0 0 0 []) 1

-- a third commit, whose sync fails at its first fence; then an operation, and an opening
unfoldable pub failing : Board
failing =
    let b : Board = runs (runs (happens words reopened (begins 2) 0) (asks 3 2 1 0 (fill 5)) 0) (asks 4 2 0 0 []) 0 in
    happens words (carries 3 (happens words b (asks 5 0 0 0 []) 0) 0) (breaks 4) 0

unfoldable pub after : Board
after = runs failing (asks 19 0 0 0 []) 1

-- room made for a reserve of all places but a few, and a round of steps of one home
unfoldable pub roomy : Board
roomy = runs synced (asks 2 3 0 28 []) 0

unfoldable pub rounded : Board
rounded = runs synced (asks 16 0 0 1 []) 0
