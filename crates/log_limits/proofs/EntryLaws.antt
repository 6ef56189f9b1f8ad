-- What is known of an entry of the log that closes a transaction. Assumes nothing.
use mathlib.Core.Path.{◌≡◌, sym}
use mathlib.Core.Bool.{Bool, true, false, cond}
use mathlib.Core.List.{List}
use Prim.Native.Nat.{ℕ, ◌*◌, ◌/◌, ◌≤◌, ◌<◌}
use native.Mathlib.Omega.{arith}
use Rattle.model.specs.Tag.{read_tag}
use Rattle.model.specs.Layout.{group_valid, group_at, turn_of, slot_of, index_of, word_there, entry_within, entry_at}
use Rattle.model.specs.declared.Tag.{Tag}
use Rattle.model.specs.declared.Tag.TheVariants.{Nothing, Closing}
use Rattle.model_laws.proofs.bytes.TagLaws.{closing-known}

valid : (b : Bool) (t u : Tag) → cond b t Nothing ≡ u → (u ≡ Nothing → ⊥) → t ≡ u
valid true t u e n = e
valid false t u e n = absurd (n (sym e))

module _ (log : List ℕ) (groups homes start p : ℕ) where
  -- the word of the entry's tag, and whether it stands in a valid group
  word : ℕ
  word = word_there (group_at log (slot_of groups p)) (turn_of groups (p / 7)) (index_of p)

  stands : Bool
  stands = group_valid (group_at log (slot_of groups p)) groups start (p / 7)

  read_at : (u : Tag) → entry_at log groups homes start p ≡ u → (u ≡ Nothing → ⊥) → read_tag word p (7 * start) homes ≡ u
  unfolding entry_at entry_within word stands
  read_at u e n = valid stands (read_tag word p (7 * start) homes) u e n

  pub closing-at-known : (h f l n : ℕ) → entry_at log groups homes start p ≡ Closing h f l n → (h < homes) × (7 * start ≤ f) × (f ≤ p) × (1 ≤ n)
  closing-at-known h f l n e =
      closing-known word p (7 * start) homes h f l n (read_at (Closing h f l n) e (λ z. let k : ◌≡◌ {A = ℕ} 0 1 = cc in omega arith))
