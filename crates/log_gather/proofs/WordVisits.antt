-- What taking a word into the pass that walks and chains makes, kind by kind. Assumes nothing.
use mathlib.Core.Path.{◌≡◌, refl, ◌∙◌}
use mathlib.Core.Bool.{Bool, true, false, ◌&&◌, false≢true}
use Prim.Native.Nat.{ℕ, ◌+◌, ◌-◌, ◌^◌, ◌≤◌, ◌<◌}
use native.Mathlib.Omega.{arith}
use borrow.Author.Tests.{eqb-true}
use lib.Dec.{eqb, leb}
use Rattle.model.specs.Tag.{field, home_field, read_tag}
use Rattle.model_laws.proofs.bytes.TagLaws.{field_lt}
use Rattle.base_codec.proofs.KindLaws.{neither-kind, no-such-home, begun-before, plain-said, closing-said, closing-empty}
use Rattle.log_gather.specs.Walks.{Walk, join_entry, join_closing, join}
use Rattle.log_gather.proofs.WalkSteps.{join-nothing, join-entry, join-closing}

abbrev plain : ℕ → Bool
plain w = eqb (field w 0 1) 1 && eqb (field w 58 6) 0 && eqb (field w 1 1) 0 && eqb (field w 27 26) 0

abbrev closing : ℕ → Bool
closing w = eqb (field w 0 1) 1 && eqb (field w 58 6) 0 && eqb (field w 1 1) 1

-- both are used
pub plain-used : (w : ℕ) → plain w ≡ true → field w 0 1 ≡ 1
plain-used w h = eqb-true (field w 0 1) 1 (go _ (eqb (field w 58 6) 0) (eqb (field w 1 1) 0) (eqb (field w 27 26) 0) h)
  where
    go : (a b c d : Bool) → (a && b && c && d) ≡ true → a ≡ true
    go true b c d h = refl
    go false b c d h = absurd (false≢true h)

pub closing-used : (w : ℕ) → closing w ≡ true → field w 0 1 ≡ 1
closing-used w h = eqb-true (field w 0 1) 1 (go _ (eqb (field w 58 6) 0) (eqb (field w 1 1) 1) h)
  where
    go : (a b c : Bool) → (a && b && c) ≡ true → a ≡ true
    go true b c h = refl
    go false b c h = absurd (false≢true h)

pub link-small : (w link : ℕ) → link ≡ field w 27 13 → link < 2 ^ 13
link-small w link e = omega (arith, field_lt w 27 13)

-- a word's home is one of 2 ^ 16
pub home-small : (w home : ℕ) → home ≡ home_field w → home < 65536
home-small w home e = omega (arith, field_lt w 2 12, field_lt w 53 4)

-- a word at an index of the log is taken into a pass that goes on
module _ (word base index homes : ℕ) (g : Walk) (z : g.progress.failed ≡ 0) where
  pub word-neither : plain word ≡ false → closing word ≡ false → g ≡ join base (base + index) (read_tag word (base + index) base homes) g
  word-neither p q = join-nothing base (base + index) g _ _ refl z (neither-kind word (base + index) base homes p q)

  pub word-unknown : leb (home_field word + 1) homes ≡ false → g ≡ join base (base + index) (read_tag word (base + index) base homes) g
  word-unknown e = join-nothing base (base + index) g _ _ refl z (no-such-home word (base + index) base homes e)

  module _ (back : ℕ) (b : back ≡ field word 14 13) where
    pub word-early : index < back → g ≡ join base (base + index) (read_tag word (base + index) base homes) g
    word-early h = join-nothing base (base + index) g _ _ refl z (begun-before word (base + index) base homes (omega arith))

    module _ (known : leb (home_field word + 1) homes ≡ true) (begun : back ≤ index) where
      first-is : base + index - field word 14 13 - base ≡ index - back
      first-is = omega arith

      index_is : base + index - base ≡ index
      index_is = omega arith

      started : base + field word 14 13 ≤ base + index
      started = omega arith

      pub word-joined : (d : Walk) (home : ℕ) → plain word ≡ true → home ≡ home_field word → d ≡ join_entry home index (index - back) g
          → d ≡ join base (base + index) (read_tag word (base + index) base homes) g
      word-joined d home k h e =
          join-entry base (base + index) g _ _ refl z (home_field word) (base + index - field word 14 13) d
          (plain-said word (base + index) base homes known started k) (rw (index_is, first-is, ← h) e)

      module _ (k : closing word ≡ true) (count : ℕ) (n : count ≡ field word 40 13) where
        pub word-empty : count ≡ 0 → g ≡ join base (base + index) (read_tag word (base + index) base homes) g
        word-empty o = join-nothing base (base + index) g _ _ refl z (closing-empty word (base + index) base homes known started k (omega arith))

        pub word-closed : (count ≡ 0 → ⊥) → (d : Walk) (home link : ℕ) → home ≡ home_field word → link ≡ field word 27 13
            → d ≡ join_closing base (base + index) home (index - back) link count g
            → d ≡ join base (base + index) (read_tag word (base + index) base homes) g
        word-closed o d home link h l e =
            join-closing base (base + index) g _ _ refl z (home_field word) (base + index - field word 14 13) (field word 27 13) (field word 40 13) d
            (closing-said word (base + index) base homes known started k (λ y. o (n ∙ y))) (rw (first-is, ← h, ← l, ← n) e)
