-- What the tag of an entry for a home has, if its transaction's first entry lies so far back.
use Rattle.std.specs.Prelude.{ℕ, ◌+◌, ◌*◌, ◌/◌, ◌%◌, ◌^◌, ◌≡◌, List, ◌≢◌}
use Rattle.model.specs.Tag.{field, home_field}
use Rattle.model.specs.Layout.{group_tag}

-- the bits of its home and its distance back in the word, all others 0
unfoldable pub sought_bits : ℕ → ℕ → ℕ
sought_bits home back = 2 ^ 2 * (home % 2 ^ 12) + 2 ^ 14 * back + 2 ^ 53 * (home / 2 ^ 12)

-- tag k of a group holds another home or another distance back
pub record Other (group : List ℕ) (k home back : ℕ) : Type 0 where
  pub apart : home_field (group_tag group k) ≡ home → field (group_tag group k) 14 13 ≢ back
