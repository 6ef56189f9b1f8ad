-- Laws of the definitions of specs/Batch: the lengths of records, records there and back, and a batch in the buffer that is lent for it.
-- A law takes its variables in the order in which its left side first names them, then its premises. Assumes nothing.
use mathlib.Core.Path.{◌≡◌, refl, sym, ap, ◌∙◌}
use mathlib.Core.Bool.{Bool, true, false}
use mathlib.Core.List.{List, [], ◌∷◌, ◌++◌, append_assoc, append-nil}
use Prim.Native.Nat.{ℕ, zero, suc, ◌+◌, ◌≤◌, ◌<◌}
use native.Mathlib.Omega.{arith}
use borrow.Author.Tests.{le-leb}
use lib.Dec.{leb}
use lib.ListN.{length, take, drop, get_or, length-append}
use lib.Seq.{drop_at, get_or-take, get_or-drop}
use Rattle.model.specs.Bytes.{part, puts, bytes, number, same}
use Rattle.model.specs.Batch.{Record, GW, HW, KW, FN, group_write_mark, home_write_mark, header_write_mark, record_bytes, batch_bytes, or_stop, Mark, group_write, home_write, header_write, fence, unknown, mark_of, read_records, read_batch}
use Rattle.model_laws.proofs.bytes.ByteLaws.{length-bytes, part_same, part-above}
use Rattle.model_laws.proofs.bytes.LayoutLaws.{part-front, part-after, number-front, number-after}

-- ---- lengths

pub length-GW : (slot : ℕ) (group : List ℕ) → length group ≡ 512 → length (record_bytes (GW slot group)) ≡ 516
unfolding record_bytes
length-GW slot group e = simp (length-append, length-bytes) (omega arith)

pub length-HW : (home : ℕ) (block : List ℕ) → length block ≡ 64 → length (record_bytes (HW home block)) ≡ 68
unfolding record_bytes
length-HW home block e = simp (length-append, length-bytes) (omega arith)

pub length-KW : (header : List ℕ) → length header ≡ 64 → length (record_bytes (KW header)) ≡ 66
unfolding record_bytes
length-KW header e = omega arith

pub length-FN : length (record_bytes FN) ≡ 2
unfolding record_bytes
length-FN = refl

-- ---- records joined

pub batch-append : (rs ss : List Record) → batch_bytes (rs ++ ss) ≡ batch_bytes rs ++ batch_bytes ss
unfolding batch_bytes
batch-append [] ss = refl
batch-append (r ∷ rs) ss = rw (batch-append rs ss, append_assoc)

pub batch-one : (r : Record) → batch_bytes (r ∷ []) ≡ record_bytes r
unfolding batch_bytes
batch-one r = append-nil (record_bytes r)

-- ---- well-formed records

abbrev pub Formed : Record → Type 0
Formed (GW slot group) = (slot < 65536) × (length group ≡ 512)
Formed (HW home block) = (home < 65536) × (length block ≡ 64)
Formed (KW header) = length header ≡ 64
Formed FN = Unit {0}

abbrev pub AllFormed : List Record → Type 0
AllFormed [] = Unit {0}
AllFormed (r ∷ rs) = Formed r × AllFormed rs

pub formed-append : (rs ss : List Record) → AllFormed rs → AllFormed ss → AllFormed (rs ++ ss)
formed-append [] ss f g = g
formed-append (r ∷ rs) ss f g = (f.0, formed-append rs ss f.1 g)

-- ---- records there and back

pub mark-GW : (slot : ℕ) (group rest : List ℕ) → mark_of (record_bytes (GW slot group) ++ rest) ≡ group_write
unfolding mark_of record_bytes part same
mark-GW slot group rest = refl

pub mark-HW : (home : ℕ) (block rest : List ℕ) → mark_of (record_bytes (HW home block) ++ rest) ≡ home_write
unfolding mark_of record_bytes part same
mark-HW home block rest = refl

pub mark-KW : (header rest : List ℕ) → mark_of (record_bytes (KW header) ++ rest) ≡ header_write
unfolding mark_of record_bytes part same
mark-KW header rest = refl

pub mark-FN : (rest : List ℕ) → mark_of (record_bytes FN ++ rest) ≡ fence
unfolding mark_of record_bytes part same
mark-FN rest = refl

pub mark-nil : mark_of [] ≡ unknown
unfolding mark_of part same
mark-nil = refl

-- what is read by each mark
pub read-zero : (bs : List ℕ) → read_records 0 bs ≡ []
unfolding read_records
read-zero bs = refl

turn : ℕ → List ℕ → Mark → List Record
turn fuel bs m = elim m [
  | group_write ↦ or_stop (leb 516 (length bs)) (GW (number 2 bs 2) (part bs 4 512) ∷ read_records fuel (drop 516 bs))
  | home_write ↦ or_stop (leb 68 (length bs)) (HW (number 2 bs 2) (part bs 4 64) ∷ read_records fuel (drop 68 bs))
  | header_write ↦ or_stop (leb 66 (length bs)) (KW (part bs 2 64) ∷ read_records fuel (drop 66 bs))
  | fence ↦ FN ∷ read_records fuel (drop 2 bs)
  | unknown ↦ []
]

by-mark : (fuel : ℕ) (bs : List ℕ) (m : Mark) → mark_of bs ≡ m → read_records (suc fuel) bs ≡ turn fuel bs m
unfolding read_records turn
by-mark fuel bs m e = ap (turn fuel bs) e

stop-not : (b : Bool) (rs : List Record) → b ≡ true → or_stop b rs ≡ rs
unfolding or_stop
stop-not true rs e = refl
stop-not false rs e = cc

pub read-GW : (fuel : ℕ) (bs : List ℕ) → mark_of bs ≡ group_write → 516 ≤ length bs
    → read_records (suc fuel) bs ≡ GW (number 2 bs 2) (part bs 4 512) ∷ read_records fuel (drop 516 bs)
unfolding turn
read-GW fuel bs m h = by-mark fuel bs group_write m ∙ stop-not (leb 516 (length bs)) _ (le-leb 516 (length bs) h)

pub read-HW : (fuel : ℕ) (bs : List ℕ) → mark_of bs ≡ home_write → 68 ≤ length bs
    → read_records (suc fuel) bs ≡ HW (number 2 bs 2) (part bs 4 64) ∷ read_records fuel (drop 68 bs)
unfolding turn
read-HW fuel bs m h = by-mark fuel bs home_write m ∙ stop-not (leb 68 (length bs)) _ (le-leb 68 (length bs) h)

pub read-KW : (fuel : ℕ) (bs : List ℕ) → mark_of bs ≡ header_write → 66 ≤ length bs
    → read_records (suc fuel) bs ≡ KW (part bs 2 64) ∷ read_records fuel (drop 66 bs)
unfolding turn
read-KW fuel bs m h = by-mark fuel bs header_write m ∙ stop-not (leb 66 (length bs)) _ (le-leb 66 (length bs) h)

pub read-FN : (fuel : ℕ) (bs : List ℕ) → mark_of bs ≡ fence → read_records (suc fuel) bs ≡ FN ∷ read_records fuel (drop 2 bs)
unfolding turn
read-FN fuel bs m = by-mark fuel bs fence m

pub read_none : (fuel : ℕ) (bs : List ℕ) → mark_of bs ≡ unknown → read_records (suc fuel) bs ≡ []
unfolding turn
read_none fuel bs m = by-mark fuel bs unknown m

marked-number : (mark : List ℕ) (v : ℕ) (body rest : List ℕ) → length mark ≡ 2 → v < 65536
    → number 2 ((mark ++ (bytes 2 v ++ body)) ++ rest) 2 ≡ v
marked-number mark v body rest e h =
    simp append_assoc (number-after 2 mark (bytes 2 v ++ (body ++ rest)) 2 0 e ∙ number-front 2 v (body ++ rest) h)

marked-body : (mark : List ℕ) (v : ℕ) (body rest : List ℕ) (n : ℕ) → length mark ≡ 2 → length body ≡ n
    → part ((mark ++ (bytes 2 v ++ body)) ++ rest) 4 n ≡ body
marked-body mark v body rest n e h =
    simp append_assoc
    (part-after mark (bytes 2 v ++ (body ++ rest)) 2 2 n e
    ∙ part-after (bytes 2 v) (body ++ rest) 2 0 n (length-bytes 2 v)
    ∙ part-front body rest n h)

pub number-GW : (slot : ℕ) (group rest : List ℕ) → slot < 65536 → number 2 (record_bytes (GW slot group) ++ rest) 2 ≡ slot
unfolding record_bytes
number-GW slot group rest h = marked-number group_write_mark slot group rest refl h

pub number-HW : (home : ℕ) (block rest : List ℕ) → home < 65536 → number 2 (record_bytes (HW home block) ++ rest) 2 ≡ home
unfolding record_bytes
number-HW home block rest h = marked-number home_write_mark home block rest refl h

pub part-GW : (slot : ℕ) (group rest : List ℕ) → length group ≡ 512 → part (record_bytes (GW slot group) ++ rest) 4 512 ≡ group
unfolding record_bytes
part-GW slot group rest e = marked-body group_write_mark slot group rest 512 refl e

pub part-HW : (home : ℕ) (block rest : List ℕ) → length block ≡ 64 → part (record_bytes (HW home block) ++ rest) 4 64 ≡ block
unfolding record_bytes
part-HW home block rest e = marked-body home_write_mark home block rest 64 refl e

pub part-KW : (header rest : List ℕ) → length header ≡ 64 → part (record_bytes (KW header) ++ rest) 2 64 ≡ header
unfolding record_bytes
part-KW header rest e = part-after header_write_mark (header ++ rest) 2 0 64 refl ∙ part-front header rest 64 e

pub read_one : (fuel : ℕ) (r : Record) (rest : List ℕ) → Formed r → read_records (suc fuel) (record_bytes r ++ rest) ≡ r ∷ read_records fuel rest
read_one fuel (GW slot group) rest f =
    let l : length (record_bytes (GW slot group)) ≡ 516 = length-GW slot group f.1 in
    read-GW fuel (record_bytes (GW slot group) ++ rest) (mark-GW slot group rest) (rw length-append (omega arith))
    ∙ rw (number-GW slot group rest f.0, part-GW slot group rest f.1, drop_at (record_bytes (GW slot group)) rest 516 l)
read_one fuel (HW home block) rest f =
    let l : length (record_bytes (HW home block)) ≡ 68 = length-HW home block f.1 in
    read-HW fuel (record_bytes (HW home block) ++ rest) (mark-HW home block rest) (rw length-append (omega arith))
    ∙ rw (number-HW home block rest f.0, part-HW home block rest f.1, drop_at (record_bytes (HW home block)) rest 68 l)
read_one fuel (KW header) rest f =
    let l : length (record_bytes (KW header)) ≡ 66 = length-KW header f in
    read-KW fuel (record_bytes (KW header) ++ rest) (mark-KW header rest) (rw length-append (omega arith))
    ∙ rw (part-KW header rest f, drop_at (record_bytes (KW header)) rest 66 l)
read_one fuel FN rest f = read-FN fuel (record_bytes FN ++ rest) (mark-FN rest) ∙ rw (drop_at (record_bytes FN) rest 2 length-FN)

pub read-records : (n : ℕ) (rs : List Record) → length rs ≤ n → AllFormed rs → read_records n (batch_bytes rs) ≡ rs
unfolding batch_bytes
read-records zero [] h f = read-zero []
read-records zero (r ∷ rs) h f = absurd (omega arith)
read-records (suc n) [] h f = read_none n [] mark-nil
read-records (suc n) (r ∷ rs) h f =
    read_one n r (batch_bytes rs) f.0 ∙ ap {B = List Record} (λ ss. r ∷ ss) (read-records n rs (omega arith) f.1)

record-some : (r : Record) → 2 ≤ length (record_bytes r)
unfolding record_bytes
record-some (GW slot group) = omega arith
record-some (HW home block) = omega arith
record-some (KW header) = omega arith
record-some FN = omega arith

pub batch-many : (rs : List Record) → length rs ≤ length (batch_bytes rs)
unfolding batch_bytes
batch-many [] = omega arith
batch-many (r ∷ rs) = rw length-append (omega (arith, record-some r, batch-many rs))

pub read-batch : (rs : List Record) → AllFormed rs → read_batch (batch_bytes rs) ≡ rs
unfolding read_batch
read-batch rs f = read-records (length (batch_bytes rs)) rs (batch-many rs) f

-- ---- a batch in its buffer

pub taken : (bs batch : List ℕ) → length bs ≤ length batch → take (length bs) (puts batch 0 bs) ≡ bs
unfolding part
taken bs batch h = part_same batch 0 bs (omega arith)

get_d_part : (d : List ℕ) (i : ℕ) → get_or (part d i 1) 0 0 ≡ get_or d i 0
unfolding part
get_d_part d i =
    let h : 0 < 1 = omega arith in
    let e : i + 0 ≡ i = omega arith in
    rw (get_or-take, get_or-drop, e)

pub kept : (batch bs : List ℕ) (i : ℕ) → length bs ≤ i → get_or (puts batch 0 bs) i 0 ≡ get_or batch i 0
kept batch bs i h =
    sym (get_d_part (puts batch 0 bs) i) ∙ ap (λ (r : List ℕ). get_or r 0 0) (part-above batch 0 bs i 1 (omega arith)) ∙ get_d_part batch i
