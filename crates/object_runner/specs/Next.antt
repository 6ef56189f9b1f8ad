-- The runner: the next action for a driver, by what stands at the cursor. `rest` is the batch from there on.
use Rattle.std.specs.Prelude.{ℕ, ◌+◌, ◌*◌, ◌%◌, Bool, cond, not, ◌&&◌, List, eqb, leb, ltb, length, drop}
use Rattle.model.specs.Bytes.{part, zeros, number, same}
use Rattle.model.specs.Layout.{group_offset}
use Rattle.model.specs.Batch.{group_write_mark, home_write_mark, header_write_mark, fence_mark}
use Rattle.object_runner.specs.declared.Cursor.{Cursor}
use Rattle.object_runner.specs.declared.Action.{Action}

abbrev pub cursor : ℕ → ℕ → ℕ → Cursor
cursor at headed stage = record { at = at; headed = headed; stage = stage }

-- kinds of actions, areas, and where the bytes lie
abbrev pub done : ℕ
done = 0

abbrev pub writing : ℕ
writing = 1

abbrev pub fencing : ℕ
fencing = 2

abbrev pub refused : ℕ
refused = 3

abbrev pub log_area : ℕ
log_area = 0

abbrev pub homes_area : ℕ
homes_area = 1

abbrev pub from_batch : ℕ
from_batch = 0

abbrev pub from_copy : ℕ
from_copy = 1

unfoldable pub bare : ℕ → Cursor → Action
bare kind c =
    record { kind = kind; area = 0; offset = 0; size = 0; source = 0; from = 0; at = c.at; headed = c.headed; stage = c.stage }

unfoldable pub write : ℕ → ℕ → ℕ → ℕ → ℕ → Cursor → Action
write area offset size source from c =
    record { kind = writing; area = area; offset = offset; size = size; source = source; from = from; at = c.at; headed = c.headed; stage = c.stage }

-- past a record of n bytes
unfoldable pub past : Cursor → ℕ → Cursor
past c n = cursor (c.at + n) c.headed 0

-- a group that goes out without its first word, which is not zeros
unfoldable pub parts : Bool → List ℕ → Bool
parts words rest = words && not (same (part rest 4 8) (zeros 8))

unfoldable pub group_action : Bool → ℕ → List ℕ → Cursor → Action
group_action words groups rest c =
    let slot : ℕ = number 2 rest 2 in
    cond (leb 516 (length rest) && ltb slot groups)
    (cond (parts words rest) (write log_area (group_offset slot + 8) 504 from_batch (c.at + 4 + 8) (past c 516))
    (write log_area (group_offset slot) 512 from_batch (c.at + 4) (past c 516)))
    (bare refused c)

unfoldable pub home_action : ℕ → List ℕ → Cursor → Action
home_action homes rest c =
    let home : ℕ = number 2 rest 2 in
    cond (leb 68 (length rest) && ltb home homes) (write homes_area (64 * home) 64 from_batch (c.at + 4) (past c 68)) (bare refused c)

-- a header without a mark, as a format begins with, on words: its first word, a fence, and then all of it
unfoldable pub wiping : Bool → List ℕ → Bool
wiping words rest = words && same (part rest 2 8) (zeros 8)

unfoldable pub whole_header : Cursor → Action
whole_header c = write log_area 0 64 from_batch (c.at + 2) (past c 66)

unfoldable pub wipe_action : ℕ → Cursor → Action
wipe_action stage c =
    cond (eqb stage 0) (write log_area 0 8 from_batch (c.at + 2) (cursor c.at c.headed 1))
    (cond (eqb stage 1) (bare fencing (cursor c.at c.headed 2)) (whole_header c))

unfoldable pub header_action : Bool → List ℕ → Cursor → Action
header_action words rest c = cond (leb 66 (length rest)) (cond (wiping words rest) (wipe_action c.stage c) (whole_header c)) (bare refused c)

-- a fence; on words, where first words wait: a fence of their own, each of these words, which lies in the log copy where it lies in the log, and then the fence
unfoldable pub due : Bool → ℕ → ℕ → Bool
due words headed next = words && ltb headed next

unfoldable pub due_action : ℕ → Cursor → Action
due_action groups c =
    let offset : ℕ = group_offset (c.headed % groups) in
    cond (eqb c.stage 0) (bare fencing (cursor c.at c.headed 1))
    (write log_area offset 8 from_copy offset (cursor c.at (c.headed + 1) 1))

unfoldable pub fence_action : Bool → ℕ → ℕ → Cursor → Action
fence_action words groups next c = cond (due words c.headed next) (due_action groups c) (bare fencing (past c 2))

unfoldable pub record_action : Bool → ℕ → ℕ → ℕ → List ℕ → Cursor → Action
record_action words groups homes next rest c =
    cond (same (part rest 0 2) group_write_mark) (group_action words groups rest c)
    (cond (same (part rest 0 2) home_write_mark) (home_action homes rest c)
    (cond (same (part rest 0 2) header_write_mark) (header_action words rest c)
    (cond (same (part rest 0 2) fence_mark) (fence_action words groups next c) (bare refused c))))

-- what may be asked: a medium, the groups of a store, and a cursor that lies in the batch, has no first word beyond the next group and is at a step that
-- there is
unfoldable pub asked : ℕ → ℕ → ℕ → ℕ → Cursor → Bool
asked landing groups next size c =
    leb landing 1 && leb 1 groups && leb groups 1024 && leb c.at size && leb c.headed next && leb c.stage 2

-- [S-85]
unfoldable pub next_action : ℕ → ℕ → ℕ → ℕ → List ℕ → Cursor → Action
next_action landing groups homes next batch c =
    cond (asked landing groups next (length batch) c)
    (cond (eqb c.at (length batch)) (bare done c)
    (cond (leb (c.at + 2) (length batch)) (record_action (eqb landing 0) groups homes next (drop c.at batch) c) (bare refused c)))
    (bare refused c)
