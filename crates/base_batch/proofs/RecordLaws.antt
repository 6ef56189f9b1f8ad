-- Records written piece by piece, and records one after the other in a batch's buffer. Assumes nothing.
use mathlib.Core.Path.{◌≡◌, refl, sym}
use mathlib.Core.List.{List, [], ◌∷◌, ◌++◌}
use Prim.Native.Nat.{ℕ, ◌+◌, ◌-◌, ◌*◌}
use native.Mathlib.Omega.{arith}
use lib.ListN.{length, take, drop, length-append}
use Rattle.model.specs.Bytes.{part, puts, zeros, bytes, put_number}
use Rattle.model.specs.Layout.{group_offset, group_at, home_at}
use Rattle.model.specs.Batch.{Record, GW, HW, KW, group_write_mark, home_write_mark, header_write_mark, record_bytes, batch_bytes}
use Rattle.model_laws.proofs.bytes.ByteLaws.{puts-append}
use Rattle.model_laws.proofs.state.BatchLaws.{batch-append, batch-one}
use Rattle.base_areas.proofs.PieceLaws.{number-then}

-- ---- one record

marked-written : (mark d : List ℕ) (at v : ℕ) (body : List ℕ) → length mark ≡ 2
    → puts (put_number 2 (puts d at mark) (at + 2) v) (at + 4) body ≡ puts d at (mark ++ (bytes 2 v ++ body))
marked-written mark d at v body e =
    rw (puts-append, e) (number-then 2 (puts d at mark) (at + 2) v body (at + 4) (omega arith))

-- the 512 bytes that a copy is lent, from a start to an end
part-lent : (xs : List ℕ) (at n : ℕ) → take (at + n - at) (drop at xs) ≡ part xs at n
unfolding part
part-lent xs at n = let e : at + n - at ≡ n = omega arith in rw e

module _ (d : List ℕ) (at : ℕ) where
  pub group-written : (slot : ℕ) (log : List ℕ)
      → puts (put_number 2 (puts d at group_write_mark) (at + 2) slot) (at + 4) (take (64 + 512 * slot + 512 - (64 + 512 * slot)) (drop (64 + 512 * slot) log))
      ≡ puts d at (record_bytes (GW slot (group_at log slot)))
  unfolding record_bytes group_at group_offset
  group-written slot log = rw part-lent (marked-written group_write_mark d at slot _ refl)

  pub home-written : (home : ℕ) (area : List ℕ)
      → puts (put_number 2 (puts d at home_write_mark) (at + 2) home) (at + 4) (part area (64 * home) 64)
      ≡ puts d at (record_bytes (HW home (home_at area home)))
  unfolding record_bytes home_at
  home-written home area = marked-written home_write_mark d at home _ refl

  pub header-written : (header : List ℕ) → puts (puts d at header_write_mark) (at + 2) header ≡ puts d at (record_bytes (KW header))
  unfolding record_bytes
  header-written header = sym (puts-append d at header_write_mark header)

  pub unused-written : (slot : ℕ) (group : List ℕ)
      → puts (put_number 2 (puts d at group_write_mark) (at + 2) slot) (at + 4) group ≡ puts d at (record_bytes (GW slot group))
  unfolding record_bytes
  unused-written slot group = marked-written group_write_mark d at slot group refl

  pub zero-home-written : (home : ℕ)
      → puts (put_number 2 (puts d at home_write_mark) (at + 2) home) (at + 4) (zeros 64) ≡ puts d at (record_bytes (HW home (zeros 64)))
  unfolding record_bytes
  zero-home-written home = marked-written home_write_mark d at home (zeros 64) refl

-- ---- records one after the other: n is the index after those that stand already

pub length-joined : (rs ss : List Record) → length (batch_bytes (rs ++ ss)) ≡ length (batch_bytes rs) + length (batch_bytes ss)
length-joined rs ss = rw (batch-append, length-append)

module _ (d : List ℕ) (at : ℕ) where
  pub records-then : (rs : List Record) (n : ℕ) (ss : List Record) → n ≡ at + length (batch_bytes rs)
      → puts (puts d at (batch_bytes rs)) n (batch_bytes ss) ≡ puts d at (batch_bytes (rs ++ ss))
  records-then rs n ss e = rw (batch-append, puts-append, e)

  pub records-then-one : (rs : List Record) (n : ℕ) (r : Record) → n ≡ at + length (batch_bytes rs)
      → puts (puts d at (batch_bytes rs)) n (record_bytes r) ≡ puts d at (batch_bytes (rs ++ (r ∷ [])))
  records-then-one rs n r e = rw (← batch-one r) (records-then rs n (r ∷ []) e)

  pub one-then-records : (r : Record) (n : ℕ) (ss : List Record) → n ≡ at + length (record_bytes r)
      → puts (puts d at (record_bytes r)) n (batch_bytes ss) ≡ puts d at (batch_bytes (r ∷ ss))
  unfolding batch_bytes
  one-then-records r n ss e = rw (puts-append, e)
