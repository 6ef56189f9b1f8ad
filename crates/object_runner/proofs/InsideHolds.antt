-- What the runner answers lies inside, whatever is asked.
use Prim.Native.Nat.{ℕ, ◌+◌, ◌-◌, ◌*◌, ◌%◌, ◌≤◌, ◌<◌}
use mathlib.Core.Path.{◌≡◌, refl}
use mathlib.Core.Bool.{Bool, true, false, cond, ◌&&◌}
use mathlib.Core.List.{List}
use native.Mathlib.Nat.{mod-lt}
use native.Mathlib.Omega.{arith}
use lib.Dec.{eqb, leb, ltb}
use lib.ListN.{length, drop, length-drop}
use borrow.Author.Tests.{leb-true, ltb-true}
use Rattle.model.specs.Bytes.{part, number, same}
use Rattle.model.specs.Layout.{group_offset}
use Rattle.model.specs.Batch.{group_write_mark, home_write_mark, header_write_mark, fence_mark}
use Rattle.model_laws.proofs.state.QuestionLaws.{and-true}
use Rattle.object_runner.specs.declared.Cursor.{Cursor}
use Rattle.object_runner.specs.declared.Action.{Action}
use Rattle.object_runner.specs.Next.{cursor, done, fencing, refused, log_area, homes_area, from_batch, from_copy, bare, write, past, parts, group_action, home_action, wiping, whole_header, wipe_action, header_action, due, due_action, fence_action, record_action, asked, next_action}
use Rattle.object_runner.specs.Inside.{area_size, source_size, Fits, Inside}
use Rattle.object_runner.proofs.AskedLaws.{Asked, asked-true}

module _ (groups homes next size : ℕ) where
  abbrev In : Action → Type 0
  In a = Fits groups homes next size a

  -- a cursor that may be asked
  abbrev Sound : Cursor → Type 0
  Sound c = (c.at ≤ size) × (c.headed ≤ next) × (c.stage ≤ 2)

  refused-in : (c : Cursor) → In (bare refused c)
  unfolding bare
  refused-in c = record { area = λ e. absurd (omega (arith, e)); source = λ e. absurd (omega (arith, e)); cursor = λ e. absurd (e refl) }

  done-in : (c : Cursor) → Sound c → In (bare done c)
  unfolding bare
  done-in c s = record { area = λ e. absurd (omega (arith, e)); source = λ e. absurd (omega (arith, e)); cursor = λ e. s }

  fence-in : (c : Cursor) → Sound c → In (bare fencing c)
  unfolding bare
  fence-in c s = record { area = λ e. absurd (omega (arith, e)); source = λ e. absurd (omega (arith, e)); cursor = λ e. s }

  write-in : (area offset n source from : ℕ) (c : Cursor) → area ≤ 1 → offset + n ≤ area_size groups homes area → source ≤ 1
      → from + n ≤ source_size groups size source → Sound c → In (write area offset n source from c)
  unfolding write
  write-in area offset n source from c a b d e s = record { area = λ q. (a, b); source = λ q. (d, e); cursor = λ q. s }

  module _ (some : 1 ≤ groups) (rest : List ℕ) (c : Cursor) (s : Sound c) (two : c.at + 2 ≤ size) (long : length rest ≡ size - c.at) where
    past-sound : (n : ℕ) → c.at + n ≤ size → Sound (past c n)
    unfolding past
    past-sound n h = (h, s.1, omega arith)

    group-in : (w : Bool) → In (group_action w groups rest c)
    unfolding group_action group_offset area_size source_size
    group-in w = go (leb 516 (length rest) && ltb (number 2 rest 2) groups) refl
      where
        slot : ℕ
        slot = number 2 rest 2

        go : (t : Bool) → (leb 516 (length rest) && ltb (number 2 rest 2) groups) ≡ t
            → In (cond t (cond (parts w rest) (write log_area (group_offset (number 2 rest 2) + 8) 504 from_batch (c.at + 4 + 8) (past c 516))
            (write log_area (group_offset (number 2 rest 2)) 512 from_batch (c.at + 4) (past c 516))) (bare refused c))
        go false e = refused-in c
        go true e = pick (parts w rest)
          where
            k : (leb 516 (length rest) ≡ true) × (ltb slot groups ≡ true)
            k = and-true (leb 516 (length rest)) (ltb slot groups) e

            enough : c.at + 516 ≤ size
            enough = omega (arith, leb-true 516 (length rest) k.0, long)

            low : slot < groups
            low = ltb-true slot groups k.1

            pick : (t : Bool)
                → In (cond t (write log_area (group_offset (number 2 rest 2) + 8) 504 from_batch (c.at + 4 + 8) (past c 516))
                (write log_area (group_offset (number 2 rest 2)) 512 from_batch (c.at + 4) (past c 516)))
            pick true =
                write-in log_area (group_offset slot + 8) 504 from_batch (c.at + 4 + 8) (past c 516) (omega arith) (omega (arith, low)) (omega arith)
                (omega (arith, enough)) (past-sound 516 enough)
            pick false =
                write-in log_area (group_offset slot) 512 from_batch (c.at + 4) (past c 516) (omega arith) (omega (arith, low)) (omega arith)
                (omega (arith, enough)) (past-sound 516 enough)

    home-in : In (home_action homes rest c)
    unfolding home_action area_size source_size
    home-in = go (leb 68 (length rest) && ltb (number 2 rest 2) homes) refl
      where
        go : (t : Bool) → (leb 68 (length rest) && ltb (number 2 rest 2) homes) ≡ t
            → In (cond t (write homes_area (64 * number 2 rest 2) 64 from_batch (c.at + 4) (past c 68)) (bare refused c))
        go false e = refused-in c
        go true e =
            let k = and-true (leb 68 (length rest)) (ltb (number 2 rest 2) homes) e in
            let enough : c.at + 68 ≤ size = omega (arith, leb-true 68 (length rest) k.0, long) in
            write-in homes_area (64 * number 2 rest 2) 64 from_batch (c.at + 4) (past c 68) (omega arith) (omega (arith, ltb-true (number 2 rest 2) homes k.1))
            (omega arith) (omega (arith, enough)) (past-sound 68 enough)

    header-in : (w : Bool) → In (header_action w rest c)
    unfolding header_action whole_header wipe_action area_size source_size
    header-in w = go (leb 66 (length rest)) refl
      where
        go : (t : Bool) → leb 66 (length rest) ≡ t → In (cond t (cond (wiping w rest) (wipe_action c.stage c) (whole_header c)) (bare refused c))
        go false e = refused-in c
        go true e = pick (wiping w rest)
          where
            enough : c.at + 66 ≤ size
            enough = omega (arith, leb-true 66 (length rest) e, long)

            whole : In (whole_header c)
            whole =
                write-in log_area 0 64 from_batch (c.at + 2) (past c 66) (omega arith) (omega arith) (omega arith) (omega (arith, enough)) (past-sound 66 enough)

            wipe : (a b : Bool)
                → In (cond a (write log_area 0 8 from_batch (c.at + 2) (cursor c.at c.headed 1)) (cond b (bare fencing (cursor c.at c.headed 2)) (whole_header c)))
            wipe true b =
                write-in log_area 0 8 from_batch (c.at + 2) (cursor c.at c.headed 1) (omega arith) (omega arith) (omega arith) (omega (arith, enough))
                (s.0, s.1, omega arith)
            wipe false true = fence-in (cursor c.at c.headed 2) (s.0, s.1, omega arith)
            wipe false false = whole

            pick : (t : Bool) → In (cond t (wipe_action c.stage c) (whole_header c))
            pick true = wipe (eqb c.stage 0) (eqb c.stage 1)
            pick false = whole

    words-in : (w : Bool) → In (fence_action w groups next c)
    unfolding fence_action due due_action group_offset area_size source_size
    words-in w = go (w && ltb c.headed next) refl
      where
        go : (t : Bool) → (w && ltb c.headed next) ≡ t → In (cond t (due_action groups c) (bare fencing (past c 2)))
        go false e = fence-in (past c 2) (past-sound 2 two)
        go true e = pick (eqb c.stage 0)
          where
            more : c.headed < next
            more = ltb-true c.headed next (and-true w (ltb c.headed next) e).1

            low : c.headed % groups < groups
            low = mod-lt c.headed {m = groups} (omega arith)

            pick : (t : Bool)
                → In (cond t (bare fencing (cursor c.at c.headed 1))
                (write log_area (group_offset (c.headed % groups)) 8 from_copy (group_offset (c.headed % groups)) (cursor c.at (c.headed + 1) 1)))
            pick true = fence-in (cursor c.at c.headed 1) (s.0, s.1, omega arith)
            pick false =
                write-in log_area (group_offset (c.headed % groups)) 8 from_copy (group_offset (c.headed % groups)) (cursor c.at (c.headed + 1) 1) (omega arith)
                (omega (arith, low)) (omega arith) (omega (arith, low)) (s.0, omega (arith, more), omega arith)

    record-in : (w : Bool) → In (record_action w groups homes next rest c)
    unfolding record_action
    record-in w = go (same (part rest 0 2) group_write_mark) (same (part rest 0 2) home_write_mark) (same (part rest 0 2) header_write_mark) (same (part rest 0 2) fence_mark)
      where
        go : (g h k f : Bool)
            → In (cond g (group_action w groups rest c) (cond h (home_action homes rest c) (cond k (header_action w rest c) (cond f (fence_action w groups next c) (bare refused c)))))
        go true h k f = group-in w
        go false true k f = home-in
        go false false true f = header-in w
        go false false false true = words-in w
        go false false false false = refused-in c

pub inside : Inside
unfolding next_action
inside landing groups homes next batch c = go (asked landing groups next (length batch) c) refl
  where
    go : (t : Bool) → asked landing groups next (length batch) c ≡ t
        → Fits groups homes next (length batch)
        (cond t (cond (eqb c.at (length batch)) (bare done c)
        (cond (leb (c.at + 2) (length batch)) (record_action (eqb landing 0) groups homes next (drop c.at batch) c) (bare refused c))) (bare refused c))
    go false e = refused-in groups homes next (length batch) c
    go true e = pick (eqb c.at (length batch)) (leb (c.at + 2) (length batch)) refl
      where
        a : Asked landing groups next (length batch) c
        a = asked-true landing groups next (length batch) c e

        s : (c.at ≤ length batch) × (c.headed ≤ next) × (c.stage ≤ 2)
        s = (a.within, a.low, a.step)

        pick : (d t : Bool) → leb (c.at + 2) (length batch) ≡ t
            → Fits groups homes next (length batch)
            (cond d (bare done c) (cond t (record_action (eqb landing 0) groups homes next (drop c.at batch) c) (bare refused c)))
        pick true t q = done-in groups homes next (length batch) c s
        pick false true q =
            record-in groups homes next (length batch) a.some (drop c.at batch) c s (leb-true (c.at + 2) (length batch) q) (length-drop c.at batch) (eqb landing 0)
        pick false false q = refused-in groups homes next (length batch) c
