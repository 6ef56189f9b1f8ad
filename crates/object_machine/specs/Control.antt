-- The control block: 256 bytes that the caller lends, numbers of eight bytes at fixed offsets. Bytes that no number has are spare: no call changes them,
-- and none reads them.
use Rattle.std.specs.Prelude.{ℕ, ◌+◌, ◌^◌, ◌<◌, ◌≡◌, Bool, ◌&&◌, List, [], ◌∷◌, leb, length, get_or}
use Rattle.model.specs.Bytes.{number, put_number}
pub use Rattle.object_machine.specs.declared.Control.{Control}
pub use Rattle.object_machine.specs.declared.Turn.{Turn}
pub use Rattle.object_machine.specs.declared.Moved.{Moved}

abbrev pub control_bytes : ℕ
control_bytes = 256

unfoldable pub control_of : List ℕ → Control
control_of s =
    record {
      condition = number 8 s 0;
      error = number 8 s 8;
      stage = number 8 s 16;
      op = number 8 s 24;
      writer = number 8 s 32;
      home = number 8 s 40;
      number = number 8 s 48;
      tried = number 8 s 56;
      from = number 8 s 64;
      figure = number 8 s 72;
      size = number 8 s 80;
      at = number 8 s 88;
      headed = number 8 s 96;
      step = number 8 s 104;
      landing = number 8 s 112;
      room = number 8 s 120;
      lists = number 8 s 128;
    }

-- numbers of eight bytes, written one behind the other
unfoldable pub put_numbers : List ℕ → ℕ → List ℕ → List ℕ
put_numbers s at [] = s
put_numbers s at (v ∷ vs) = put_numbers (put_number 8 s at v) (at + 8) vs

unfoldable pub first_fields : Control → List ℕ
first_fields c = c.condition ∷ c.error ∷ c.stage ∷ c.op ∷ c.writer ∷ c.home ∷ []

unfoldable pub middle_fields : Control → List ℕ
middle_fields c = c.number ∷ c.tried ∷ c.from ∷ c.figure ∷ c.size ∷ c.at ∷ []

unfoldable pub last_fields : Control → List ℕ
last_fields c = c.headed ∷ c.step ∷ c.landing ∷ c.room ∷ c.lists ∷ []

unfoldable pub put_control : List ℕ → Control → List ℕ
put_control s c = put_numbers (put_numbers (put_numbers s 0 (first_fields c)) 48 (middle_fields c)) 96 (last_fields c)

-- every number of a control block fits its eight bytes, as those of the program do
pub record FieldsFit (c : Control) : Type 0 where
  pub first : (i : ℕ) → get_or (first_fields c) i 0 < 256 ^ 8
  pub middle : (i : ℕ) → get_or (middle_fields c) i 0 < 256 ^ 8
  pub last : (i : ℕ) → get_or (last_fields c) i 0 < 256 ^ 8

-- what a turn leaves in the block is what the next one finds [S-88]
abbrev pub ControlKept : Type 0
ControlKept = (s : List ℕ) (c : Control) → length s ≡ 256 → FieldsFit c → control_of (put_control s c) ≡ c

-- conditions: 1 closed, 2 ready, 3 failed. A block of zeros has none.
abbrev pub closed : ℕ
closed = 1

abbrev pub ready : ℕ
ready = 2

abbrev pub failed : ℕ
failed = 3

-- the numbers of a block that a call has made
unfoldable pub known : Control → Bool
known c = leb 1 c.condition && leb c.condition 3 && leb c.stage 25

-- a store that has been initialised: closed, and nothing under way
unfoldable pub fresh : ℕ → ℕ → ℕ → Control
fresh landing room lists =
    record {
      condition = closed;
      error = 0;
      stage = 0;
      op = 0;
      writer = 0;
      home = 0;
      number = 0;
      tried = 0;
      from = 0;
      figure = 0;
      size = 0;
      at = 0;
      headed = 0;
      step = 0;
      landing = landing;
      room = room;
      lists = lists;
    }

-- Control blocks changed.

unfoldable pub with_stage : Control → ℕ → Control
with_stage c stage =
    record {
      condition = c.condition;
      error = c.error;
      stage = stage;
      op = c.op;
      writer = c.writer;
      home = c.home;
      number = c.number;
      tried = c.tried;
      from = c.from;
      figure = c.figure;
      size = c.size;
      at = c.at;
      headed = c.headed;
      step = c.step;
      landing = c.landing;
      room = c.room;
      lists = c.lists;
    }

-- nothing is under way, and no batch is in hand
unfoldable pub with_condition : Control → ℕ → ℕ → Control
with_condition c condition error =
    record {
      condition = condition;
      error = error;
      stage = 0;
      op = c.op;
      writer = c.writer;
      home = c.home;
      number = c.number;
      tried = c.tried;
      from = c.from;
      figure = c.figure;
      size = 0;
      at = 0;
      headed = c.headed;
      step = 0;
      landing = c.landing;
      room = c.room;
      lists = c.lists;
    }

-- a batch in hand, of which nothing has been handed out, and the stage that comes behind it
unfoldable pub with_batch : Control → ℕ → ℕ → ℕ → Control
with_batch c stage figure size =
    record {
      condition = c.condition;
      error = c.error;
      stage = stage;
      op = c.op;
      writer = c.writer;
      home = c.home;
      number = c.number;
      tried = c.tried;
      from = c.from;
      figure = figure;
      size = size;
      at = 0;
      headed = c.headed;
      step = 0;
      landing = c.landing;
      room = c.room;
      lists = c.lists;
    }

-- how far the batch has been handed out
unfoldable pub with_cursor : Control → ℕ → ℕ → ℕ → Control
with_cursor c at headed step =
    record {
      condition = c.condition;
      error = c.error;
      stage = c.stage;
      op = c.op;
      writer = c.writer;
      home = c.home;
      number = c.number;
      tried = c.tried;
      from = c.from;
      figure = c.figure;
      size = c.size;
      at = at;
      headed = headed;
      step = step;
      landing = c.landing;
      room = c.room;
      lists = c.lists;
    }

-- an operation is asked for, which begins with a stage
unfoldable pub with_ask : Control → ℕ → ℕ → ℕ → ℕ → ℕ → Control
with_ask c condition stage writer home n =
    record {
      condition = condition;
      error = 0;
      stage = stage;
      op = stage;
      writer = writer;
      home = home;
      number = n;
      tried = 0;
      from = 0;
      figure = 0;
      size = 0;
      at = 0;
      headed = c.headed;
      step = 0;
      landing = c.landing;
      room = c.room;
      lists = c.lists;
    }

-- room is made, from the log's start of now on
unfoldable pub with_room : Control → ℕ → ℕ → Control
with_room c stage from =
    record {
      condition = c.condition;
      error = c.error;
      stage = stage;
      op = c.op;
      writer = c.writer;
      home = c.home;
      number = c.number;
      tried = 1;
      from = from;
      figure = c.figure;
      size = c.size;
      at = c.at;
      headed = c.headed;
      step = c.step;
      landing = c.landing;
      room = c.room;
      lists = c.lists;
    }
