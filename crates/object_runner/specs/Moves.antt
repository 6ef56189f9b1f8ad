-- The actions, one after the other, are the motions that DemandRunner speaks of (crates/object/specs/Order.antt, Runner.antt).
use Rattle.std.specs.Prelude.{ℕ, zero, suc, ◌+◌, ◌-◌, ◌%◌, ◌≤◌, ◌<◌, ◌≡◌, cond, List, [], ◌∷◌, ◌++◌, eqb, length}
use Rattle.model.specs.Bytes.{part}
use Rattle.model.specs.Layout.{group_offset}
use Rattle.model.specs.Batch.{Record, GW, HW, KW, FN, batch_bytes}
use Rattle.model.specs.Crash.{Piece, to_log, to_area}
use Rattle.object.specs.Medium.{Grain, words, blocks}
use Rattle.object.specs.Order.{Motion, put, wait, head, motions}
use Rattle.object_runner.specs.declared.Cursor.{Cursor}
use Rattle.object_runner.specs.declared.Action.{Action}
use Rattle.object_runner.specs.Next.{cursor, done, writing, fencing, log_area, from_batch, bare, next_action}

unfoldable pub landing_of : Grain → ℕ
landing_of words = 0
landing_of blocks = 1

-- what a write writes, and where
unfoldable pub bytes_of : List ℕ → List ℕ → Action → List ℕ
bytes_of batch log a = part (cond (eqb a.source from_batch) batch log) a.from a.size

unfoldable pub piece_of : List ℕ → List ℕ → Action → Piece
piece_of batch log a =
    cond (eqb a.area log_area) (to_log a.offset (bytes_of batch log a)) (to_area a.offset (bytes_of batch log a))

-- an action is a motion
abbrev pub Does : List ℕ → List ℕ → Action → Motion → Type 0
Does batch log a (put p) = (a.kind ≡ writing) × (piece_of batch log a ≡ p)
Does batch log a wait = a.kind ≡ fencing

-- from a cursor on the actions are these motions, and then all is done, with the first words of all groups below `headed` written
module _ (l : Grain) (groups homes next : ℕ) (batch log : List ℕ) where
  abbrev pub Hands : Cursor → List Motion → ℕ → Type 0
  Hands c [] headed = (next_action (landing_of l) groups homes next batch c ≡ bare done c) × (c.headed ≡ headed)
  Hands c (m ∷ ms) headed =
      let a : Action = next_action (landing_of l) groups homes next batch c in
      Does batch log a m × Hands (cursor a.at a.headed a.stage) ms headed

-- the first words of n groups from `headed` on, as the log copy has them
unfoldable pub words_from : ℕ → List ℕ → ℕ → ℕ → List Motion
words_from groups log headed zero = []
words_from groups log headed (suc n) =
    let offset : ℕ = group_offset (headed % groups) in
    put (to_log offset (part log offset 8)) ∷ words_from groups log (headed + 1) n

unfoldable pub words_due : Grain → ℕ → List ℕ → ℕ → ℕ → List Motion
words_due words groups log headed next = words_from groups log headed (next - headed)
words_due blocks groups log headed next = []

unfoldable pub headed_at : Grain → ℕ → ℕ → ℕ
headed_at words headed next = headed + (next - headed)
headed_at blocks headed next = headed

unfoldable pub headed_after : Grain → ℕ → ℕ → List Record → ℕ
headed_after l headed next [] = headed
headed_after l headed next (GW slot group ∷ rs) = headed_after l headed next rs
headed_after l headed next (HW home block ∷ rs) = headed_after l headed next rs
headed_after l headed next (KW header ∷ rs) = headed_after l headed next rs
headed_after l headed next (FN ∷ rs) = headed_after l (headed_at l headed next) next rs

-- the first words that wait after some records
unfoldable pub waiting_after : Grain → List Motion → List Record → List Motion
waiting_after l waiting [] = waiting
waiting_after l waiting (GW slot group ∷ rs) = waiting_after l (waiting ++ head l slot group) rs
waiting_after l waiting (HW home block ∷ rs) = waiting_after l waiting rs
waiting_after l waiting (KW header ∷ rs) = waiting_after l waiting rs
waiting_after l waiting (FN ∷ rs) = waiting_after l [] rs

-- the premise: at each fence the first words that wait are those of the groups from `headed` to below the next one. Every batch of every history meets it
-- (Always.antt).
abbrev pub Due : Grain → ℕ → List ℕ → ℕ → ℕ → List Motion → List Record → Type 0
Due l groups log next headed waiting [] = Unit {0}
Due l groups log next headed waiting (GW slot group ∷ rs) = Due l groups log next headed (waiting ++ head l slot group) rs
Due l groups log next headed waiting (HW home block ∷ rs) = Due l groups log next headed waiting rs
Due l groups log next headed waiting (KW header ∷ rs) = Due l groups log next headed waiting rs
Due l groups log next headed waiting (FN ∷ rs) =
    (waiting ≡ words_due l groups log headed next) × Due l groups log next (headed_at l headed next) [] rs

-- records as a call's batch has them, in the store's shape
abbrev pub Fitting : ℕ → ℕ → List Record → Type 0
Fitting groups homes [] = Unit {0}
Fitting groups homes (GW slot group ∷ rs) = ((slot < groups) × (length group ≡ 512)) × Fitting groups homes rs
Fitting groups homes (HW home block ∷ rs) = ((home < homes) × (length block ≡ 64)) × Fitting groups homes rs
Fitting groups homes (KW header ∷ rs) = (length header ≡ 64) × Fitting groups homes rs
Fitting groups homes (FN ∷ rs) = Fitting groups homes rs

-- [S-85]
abbrev pub RunnerMoves : Type 0
RunnerMoves =
    (l : Grain) (groups homes next headed : ℕ) (log : List ℕ) (waiting : List Motion) (rs : List Record) → 1 ≤ groups → groups ≤ 1024 → homes ≤ 65535 →
    headed ≤ next → Fitting groups homes rs → Due l groups log next headed waiting rs →
    Hands l groups homes next (batch_bytes rs) log (cursor 0 headed 0) (motions l waiting rs) (headed_after l headed next rs)

-- on blocks no word waits
abbrev pub BlocksDue : Type 0
BlocksDue = (groups next headed : ℕ) (log : List ℕ) (rs : List Record) → Due blocks groups log next headed [] rs

-- Batch by batch: the motions of a batch go on from those of all records before it, the first words that wait among them. So where `Due` holds of each, the
-- actions of all batches since the last cut are `motions l [] w.pending`, which DemandRunner speaks of (Carries.antt).
abbrev pub MotionsGoOn : Type 0
MotionsGoOn =
    (l : Grain) (before rs : List Record) → motions l [] (before ++ rs) ≡ motions l [] before ++ motions l (waiting_after l [] before) rs
