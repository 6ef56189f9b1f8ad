-- Pieces written one after the other: a number and what follows it. Assumes nothing.
use mathlib.Core.Path.{◌≡◌}
use mathlib.Core.List.{List, ◌++◌}
use Prim.Native.Nat.{ℕ, ◌+◌}
use Rattle.model.specs.Bytes.{puts, bytes, put_number}
use Rattle.model_laws.proofs.bytes.ByteLaws.{puts-append, length-bytes}

pub number-then : (k : ℕ) (d : List ℕ) (at v : ℕ) (s : List ℕ) (n : ℕ) → n ≡ at + k → puts (put_number k d at v) n s ≡ puts d at (bytes k v ++ s)
unfolding put_number
number-then k d at v s n e = rw (puts-append, length-bytes, e)
