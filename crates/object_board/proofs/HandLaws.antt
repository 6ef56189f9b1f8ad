-- When the runner has handed all of a batch out, and when not.
use Prim.Native.Nat.{ℕ, ◌+◌, ◌*◌, ◌%◌, ◌≤◌, ◌<◌}
use Rattle.model.specs.Layout.{group_offset}
use mathlib.Core.Path.{◌≡◌, refl, ap, ◌∙◌}
use mathlib.Core.Logic.{◌⊎◌, inl, inr}
use mathlib.Core.Bool.{Bool, true, false, cond, ◌&&◌, false≢true}
use mathlib.Core.List.{List, [], ◌∷◌, ◌++◌}
use native.Mathlib.Omega.{arith}
use lib.Dec.{eqb, leb, ltb}
use lib.ListN.{length, drop}
use borrow.Author.Tests.{eqb-true, leb-true, le-leb, eq-eqb}
use Rattle.model.specs.Bytes.{part, number, same}
use Rattle.model.specs.Batch.{group_write_mark, home_write_mark, header_write_mark, fence_mark}
use Rattle.object.specs.Medium.{Grain, words, blocks, Medium}
use Rattle.object.specs.Order.{Motion, put, wait, moves, moved}
use Rattle.object_runner.specs.declared.Cursor.{Cursor}
use Rattle.object_runner.specs.declared.Action.{Action}
use Rattle.object_runner.specs.Next.{cursor, past, log_area, homes_area, from_batch, from_copy, fencing, done, bare, write, refused, parts, group_action, home_action, wiping, whole_header, wipe_action, header_action, due, due_action, fence_action, record_action, asked, next_action}
use Rattle.object_runner.specs.Moves.{landing_of, Hands}

-- motions one behind the other

pub moved-append : (m : Medium) (xs ys : List Motion) → moved m (xs ++ ys) ≡ moved (moved m xs) ys
unfolding moved
moved-append m [] ys = refl
moved-append m (a ∷ xs) ys = moved-append (moves m a) xs ys

-- kinds of actions

abbrev NotDone : Action → Type 0
NotDone a = a.kind ≡ 0 → ⊥

refused-not : (c : Cursor) → NotDone (bare refused c)
unfolding bare
refused-not c h = omega (arith, h)

group-not : (on_words : Bool) (groups : ℕ) (rest : List ℕ) (c : Cursor) → NotDone (group_action on_words groups rest c)
unfolding group_action write bare
group-not on_words groups rest c = go (leb 516 (length rest) && ltb (number 2 rest 2) groups) (parts on_words rest)
  where
    go : (a b : Bool)
        → NotDone
        (cond a
        (cond b (write log_area (group_offset (number 2 rest 2) + 8) 504 from_batch (c.at + 4 + 8) (past c 516))
        (write log_area (group_offset (number 2 rest 2)) 512 from_batch (c.at + 4) (past c 516)))
        (bare refused c))
    go true true h = omega (arith, h)
    go true false h = omega (arith, h)
    go false b h = omega (arith, h)

home-not : (homes : ℕ) (rest : List ℕ) (c : Cursor) → NotDone (home_action homes rest c)
unfolding home_action write bare
home-not homes rest c = go (leb 68 (length rest) && ltb (number 2 rest 2) homes)
  where
    go : (a : Bool) → NotDone (cond a (write homes_area (64 * number 2 rest 2) 64 from_batch (c.at + 4) (past c 68)) (bare refused c))
    go true h = omega (arith, h)
    go false h = omega (arith, h)

wipe-not : (stage : ℕ) (c : Cursor) → NotDone (wipe_action stage c)
unfolding wipe_action whole_header write bare
wipe-not stage c = go (eqb stage 0) (eqb stage 1)
  where
    go : (a b : Bool)
        → NotDone
        (cond a (write log_area 0 8 from_batch (c.at + 2) (cursor c.at c.headed 1))
        (cond b (bare fencing (cursor c.at c.headed 2)) (write log_area 0 64 from_batch (c.at + 2) (past c 66))))
    go true b h = omega (arith, h)
    go false true h = omega (arith, h)
    go false false h = omega (arith, h)

whole-not : (c : Cursor) → NotDone (whole_header c)
unfolding whole_header write
whole-not c h = omega (arith, h)

header-not : (on_words : Bool) (rest : List ℕ) (c : Cursor) → NotDone (header_action on_words rest c)
unfolding header_action
header-not on_words rest c = go (leb 66 (length rest)) (wiping on_words rest)
  where
    go : (a b : Bool) → NotDone (cond a (cond b (wipe_action c.stage c) (whole_header c)) (bare refused c))
    go true true h = wipe-not c.stage c h
    go true false h = whole-not c h
    go false b h = refused-not c h

fence-not : (on_words : Bool) (groups next : ℕ) (c : Cursor) → NotDone (fence_action on_words groups next c)
unfolding fence_action due_action write bare
fence-not on_words groups next c = go (due on_words c.headed next) (eqb c.stage 0)
  where
    go : (a b : Bool)
        → NotDone
        (cond a
        (cond b (bare fencing (cursor c.at c.headed 1))
        (write log_area (group_offset (c.headed % groups)) 8 from_copy (group_offset (c.headed % groups)) (cursor c.at (c.headed + 1) 1)))
        (bare fencing (past c 2)))
    go true true h = omega (arith, h)
    go true false h = omega (arith, h)
    go false b h = omega (arith, h)

record-not : (on_words : Bool) (groups homes next : ℕ) (rest : List ℕ) (c : Cursor) → NotDone (record_action on_words groups homes next rest c)
unfolding record_action
record-not on_words groups homes next rest c =
    go (same (part rest 0 2) group_write_mark) (same (part rest 0 2) home_write_mark) (same (part rest 0 2) header_write_mark) (same (part rest 0 2) fence_mark)
  where
    go : (a b d e : Bool)
        → NotDone
        (cond a (group_action on_words groups rest c)
        (cond b (home_action homes rest c)
        (cond d (header_action on_words rest c) (cond e (fence_action on_words groups next c) (bare refused c)))))
    go true b d e h = group-not on_words groups rest c h
    go false true d e h = home-not homes rest c h
    go false false true e h = header-not on_words rest c h
    go false false false true h = fence-not on_words groups next c h
    go false false false false h = refused-not c h

bare-kind : (k : ℕ) (c : Cursor) → (bare k c).kind ≡ k
unfolding bare
bare-kind k c = refl

last-true : (a b d e f g : Bool) → (a && b && d && e && f && g) ≡ true → g ≡ true
last-true true true true true true g h = h
last-true false b d e f g h = absurd (false≢true h)
last-true true false d e f g h = absurd (false≢true h)
last-true true true false e f g h = absurd (false≢true h)
last-true true true true false f g h = absurd (false≢true h)
last-true true true true true false g h = absurd (false≢true h)

module _ (landing groups homes next : ℕ) (batch : List ℕ) (c : Cursor) where
  -- done, at the batch's end alone
  pub done_at : (next_action landing groups homes next batch c).kind ≡ 0 → c.at ≡ length batch
  unfolding next_action
  done_at = go (asked landing groups next (length batch) c) (eqb c.at (length batch)) refl (leb (c.at + 2) (length batch))
    where
      go : (a b : Bool) → eqb c.at (length batch) ≡ b → (d : Bool)
          → (cond a (cond b (bare done c) (cond d (record_action (eqb landing 0) groups homes next (drop c.at batch) c) (bare refused c))) (bare refused c)).kind ≡ 0
          → c.at ≡ length batch
      go true true e d h = eqb-true c.at (length batch) e
      go true false e true h = absurd (record-not (eqb landing 0) groups homes next (drop c.at batch) c h)
      go true false e false h = absurd (refused-not c h)
      go false b e d h = absurd (refused-not c h)

  -- a write or a fence, before it
  pub some_at : ((next_action landing groups homes next batch c).kind ≡ 1) ⊎ ((next_action landing groups homes next batch c).kind ≡ 2) → c.at < length batch
  unfolding next_action
  some_at = go (asked landing groups next (length batch) c) (eqb c.at (length batch)) (leb (c.at + 2) (length batch)) refl
    where
      bare-no : (k : ℕ) → ((bare k c).kind ≡ 1) ⊎ ((bare k c).kind ≡ 2) → (k ≡ 1) ⊎ (k ≡ 2)
      bare-no k h = (unfold bare in h)

      no : (k : ℕ) → (k ≡ 1 → ⊥) → (k ≡ 2 → ⊥) → (k ≡ 1) ⊎ (k ≡ 2) → ⊥
      no k a b (inl h) = a h
      no k a b (inr h) = b h

      go : (a b d : Bool) → leb (c.at + 2) (length batch) ≡ d
          → ((cond a (cond b (bare done c) (cond d (record_action (eqb landing 0) groups homes next (drop c.at batch) c) (bare refused c))) (bare refused c)).kind ≡ 1)
          ⊎ ((cond a (cond b (bare done c) (cond d (record_action (eqb landing 0) groups homes next (drop c.at batch) c) (bare refused c))) (bare refused c)).kind ≡ 2)
          → c.at < length batch
      go true true d e h = absurd (no 0 (λ q. omega (arith, q)) (λ q. omega (arith, q)) (bare-no 0 h))
      go true false true e h = omega (arith, leb-true (c.at + 2) (length batch) e)
      go true false false e h = absurd (no 3 (λ q. omega (arith, q)) (λ q. omega (arith, q)) (bare-no 3 h))
      go false b d e h = absurd (no 3 (λ q. omega (arith, q)) (λ q. omega (arith, q)) (bare-no 3 h))

  few-at : ((next_action landing groups homes next batch c).kind ≡ 3 → ⊥) → c.stage ≤ 2
  unfolding next_action
  few-at = go (asked landing groups next (length batch) c) refl
    where
      go : (a : Bool) → asked landing groups next (length batch) c ≡ a
          → ((cond a
          (cond (eqb c.at (length batch)) (bare done c)
          (cond (leb (c.at + 2) (length batch)) (record_action (eqb landing 0) groups homes next (drop c.at batch) c) (bare refused c)))
          (bare refused c)).kind ≡ 3 → ⊥) → c.stage ≤ 2
      go true e h = leb-true c.stage 2 (last-true (leb landing 1) (leb 1 groups) (leb groups 1024) (leb c.at (length batch)) (leb c.headed next) (leb c.stage 2) (unfold asked in e))
      go false e h = absurd (h (unfold bare in refl))

module _ (l : Grain) (G D next : ℕ) (g₁ : 1 ≤ G) (g₂ : G ≤ 1024) where
  landing-low : leb (landing_of l) 1 ≡ true
  landing-low = go l
    where
      go : (k : Grain) → leb (landing_of k) 1 ≡ true
      go words = unfold landing_of in le-leb 0 1 (omega arith)
      go blocks = unfold landing_of in le-leb 1 1 (omega arith)

  -- at its end nothing is left to hand out, whatever the next group is
  pub end-hands : (batch log : List ℕ) (c : Cursor) → c.at ≡ length batch → c.headed ≤ next → c.stage ≤ 2 → Hands l G D next batch log c [] c.headed
  unfolding next_action asked
  end-hands batch log c e h t = (at-end, refl)
    where
      at-end : next_action (landing_of l) G D next batch c ≡ bare done c
      at-end =
          rw (landing-low, le-leb 1 G g₁, le-leb G 1024 g₂, le-leb c.at (length batch) (omega (arith, e)), le-leb c.headed next h, le-leb c.stage 2 t, eq-eqb c.at (length batch) e)

  pub hands_end : (batch log : List ℕ) (c : Cursor) (H : ℕ) → Hands l G D next batch log c [] H → c.at ≡ length batch
  hands_end batch log c H h = done_at (landing_of l) G D next batch c (ap (λ (a : Action). a.kind) h.0 ∙ (unfold bare in refl))

  pub hands-some : (batch log : List ℕ) (c : Cursor) (m : Motion) (ms : List Motion) (H : ℕ) → Hands l G D next batch log c (m ∷ ms) H → c.at < length batch
  hands-some batch log c (put p) ms H h = some_at (landing_of l) G D next batch c (inl h.0.0)
  hands-some batch log c wait ms H h = some_at (landing_of l) G D next batch c (inr h.0)

  -- the runner answers something else than a refusal only where the cursor may be asked
  pub hands-few : (batch log : List ℕ) (c : Cursor) (ms : List Motion) (H : ℕ) → Hands l G D next batch log c ms H → c.stage ≤ 2
  hands-few batch log c [] H h =
      let k : (next_action (landing_of l) G D next batch c).kind ≡ 0 = ap (λ (a : Action). a.kind) h.0 ∙ bare-kind 0 c in
      few-at (landing_of l) G D next batch c (λ q. omega (arith, q, k))
  hands-few batch log c (put p ∷ ms) H h = few-at (landing_of l) G D next batch c (λ q. omega (arith, q, h.0.0))
  hands-few batch log c (wait ∷ ms) H h = few-at (landing_of l) G D next batch c (λ q. omega (arith, q, h.0))
