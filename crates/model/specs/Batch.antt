-- The records of a batch ("train") and their bytes.
-- "Every record begins with a two-byte mark: 47 57 hex (GW, a group write: two-byte ring place, 512 bytes), 48 57 (HW, a home write: two-byte
-- home, 64 bytes), 4B 57 (KW, a head write: 64 bytes), 46 4E (FN, a fence: nothing more). They take 516, 68, 66 and 2 bytes."
use Rattle.std.specs.Prelude.{ℕ, zero, suc, Bool, true, false, cond, List, [], ◌∷◌, ◌++◌, leb, length, drop}
use Rattle.model.specs.Bytes.{part, bytes, number, same}

pub data Record : Type 0 where
  GW : (slot : ℕ) (group : List ℕ) → Record
  HW : (home : ℕ) (block : List ℕ) → Record
  KW : (header : List ℕ) → Record
  FN : Record

abbrev pub group_write_mark : List ℕ
group_write_mark = 0x47 ∷ 0x57 ∷ []

abbrev pub home_write_mark : List ℕ
home_write_mark = 0x48 ∷ 0x57 ∷ []

abbrev pub header_write_mark : List ℕ
header_write_mark = 0x4b ∷ 0x57 ∷ []

abbrev pub fence_mark : List ℕ
fence_mark = 0x46 ∷ 0x4e ∷ []

-- [S-5]
unfoldable pub record_bytes : Record → List ℕ
record_bytes (GW slot group) = group_write_mark ++ (bytes 2 slot ++ group)
record_bytes (HW home block) = home_write_mark ++ (bytes 2 home ++ block)
record_bytes (KW header) = header_write_mark ++ header
record_bytes FN = fence_mark

unfoldable pub batch_bytes : List Record → List ℕ
batch_bytes [] = []
batch_bytes (r ∷ rs) = record_bytes r ++ batch_bytes rs

-- A driver reads a batch from its front: by the mark, the record and its length; it stops where no mark fits.
unfoldable pub or_stop : Bool → List Record → List Record
or_stop true rs = rs
or_stop false rs = []

pub data Mark : Type 0 where
  group_write : Mark
  home_write : Mark
  header_write : Mark
  fence : Mark
  unknown : Mark

unfoldable pub mark_of : List ℕ → Mark
mark_of bs =
    cond (same (part bs 0 2) group_write_mark) group_write
    (cond (same (part bs 0 2) home_write_mark) home_write
    (cond (same (part bs 0 2) header_write_mark) header_write
    (cond (same (part bs 0 2) fence_mark) fence unknown)))

-- a record of `size` bytes at the front of bs, and the records after it, where so many bytes are there
unfoldable pub read_records : ℕ → List ℕ → List Record
read_records zero bs = []
read_records (suc fuel) bs = elim (mark_of bs) [
  | group_write ↦ or_stop (leb 516 (length bs)) (GW (number 2 bs 2) (part bs 4 512) ∷ read_records fuel (drop 516 bs))
  | home_write ↦ or_stop (leb 68 (length bs)) (HW (number 2 bs 2) (part bs 4 64) ∷ read_records fuel (drop 68 bs))
  | header_write ↦ or_stop (leb 66 (length bs)) (KW (part bs 2 64) ∷ read_records fuel (drop 66 bs))
  | fence ↦ FN ∷ read_records fuel (drop 2 bs)
  | unknown ↦ []
]

-- the records of a batch's bytes
unfoldable pub read_batch : List ℕ → List Record
read_batch bs = read_records (length bs) bs
