-- What taking a word into the pass makes, kind by kind. Assumes nothing.
use mathlib.Core.Path.{◌≡◌, refl, sym, ◌∙◌}
use mathlib.Core.Bool.{Bool, true, false, ◌&&◌, false≢true}
use mathlib.Core.List.{List}
use Prim.Native.Nat.{ℕ, ◌+◌, ◌-◌, ◌^◌, ◌≤◌, ◌<◌}
use native.Mathlib.Omega.{arith}
use borrow.Author.Tests.{eqb-true}
use lib.Dec.{eqb, leb}
use lib.ListN.{get_or}
use Rattle.model.specs.Tag.{field, home_field, read_tag}
use Rattle.model.specs.declared.Tag.{Tag}
use Rattle.model.specs.declared.Tag.TheVariants.{Nothing}
use Rattle.model_laws.proofs.bytes.TagLaws.{field_lt}
use Rattle.base_codec.proofs.KindLaws.{neither-kind, no-such-home, begun-before, plain-said, closing-said, closing-empty}
use Rattle.log_scan.specs.declared.commits.Progress.{Progress}
use Rattle.log_scan.specs.Scan.{Scan, max_entries, counted, decided, enter, Within}

-- ---- the kinds of a word

abbrev plain : ℕ → Bool
plain w = eqb (field w 0 1) 1 && eqb (field w 58 6) 0 && eqb (field w 1 1) 0 && eqb (field w 27 26) 0

abbrev closing : ℕ → Bool
closing w = eqb (field w 0 1) 1 && eqb (field w 58 6) 0 && eqb (field w 1 1) 1

first_of : (a b c : Bool) → (a && b && c) ≡ true → a ≡ true
first_of true b c h = refl
first_of false b c h = absurd (false≢true h)

first-of-four : (a b c d : Bool) → (a && b && c && d) ≡ true → a ≡ true
first-of-four true b c d h = refl
first-of-four false b c d h = absurd (false≢true h)

-- both are used
pub plain-used : (w : ℕ) → plain w ≡ true → field w 0 1 ≡ 1
plain-used w h = eqb-true (field w 0 1) 1 (first-of-four _ (eqb (field w 58 6) 0) (eqb (field w 1 1) 0) (eqb (field w 27 26) 0) h)

pub closing-used : (w : ℕ) → closing w ≡ true → field w 0 1 ≡ 1
closing-used w h = eqb-true (field w 0 1) 1 (first_of _ (eqb (field w 58 6) 0) (eqb (field w 1 1) 1) h)

-- a word's link is small
pub link-small : (w link : ℕ) → link ≡ field w 27 13 → link < 2 ^ 13
link-small w link e = omega (arith, field_lt w 27 13)

-- the pass has room for one entry more
pub below-most : (base index i : ℕ) (s : Scan) → Within base (base + index) s → index < max_entries → get_or s.counts i 0 < max_entries
below-most base index i s k h = omega (arith, k.each i)

-- ---- a word at an index of the log is taken into the pass

module _ (word base index homes : ℕ) (s : Scan) where
  nothing : (t : Tag) → t ≡ Nothing → s ≡ enter base (base + index) t s
  unfolding enter
  nothing t d = rw d

  pub visit-neither : plain word ≡ false → closing word ≡ false → s ≡ enter base (base + index) (read_tag word (base + index) base homes) s
  visit-neither p q = nothing _ (neither-kind word (base + index) base homes p q)

  pub visit-unknown : leb (home_field word + 1) homes ≡ false → s ≡ enter base (base + index) (read_tag word (base + index) base homes) s
  visit-unknown e = nothing _ (no-such-home word (base + index) base homes e)

  -- where its distance back is known
  module _ (back : ℕ) (b : back ≡ field word 14 13) where
    pub visit-early : index < back → s ≡ enter base (base + index) (read_tag word (base + index) base homes) s
    visit-early h = nothing _ (begun-before word (base + index) base homes (omega arith))

    -- and its home, and where it begins
    module _ (known : leb (home_field word + 1) homes ≡ true) (begun : back ≤ index) where
      begins : base + index - field word 14 13 - base ≡ index - back
      begins = omega arith

      started : base + field word 14 13 ≤ base + index
      started = omega arith

      pub visit-counted : (counts : List ℕ) → plain word ≡ true → counts ≡ counted s.counts (index - back)
          → ◌≡◌ {A = Scan} (record { counts = counts; progress = s.progress }) (enter base (base + index) (read_tag word (base + index) base homes) s)
      unfolding enter
      visit-counted counts k c = rw (plain-said word (base + index) base homes known started k, begins, c)

      module _ (k : closing word ≡ true) (count : ℕ) (n : count ≡ field word 40 13) where
        pub visit-empty : count ≡ 0 → s ≡ enter base (base + index) (read_tag word (base + index) base homes) s
        visit-empty z = nothing _ (closing-empty word (base + index) base homes known started k (sym n ∙ z))

        pub visit-decided : (count ≡ 0 → ⊥) → (link m : ℕ) (counts : List ℕ) (p : Progress) → link ≡ field word 27 13
            → counts ≡ counted s.counts (index - back) → m ≡ get_or s.counts (index - back) 0 + 1
            → p ≡ decided base (base + index) link (eqb m count) s.progress
            → ◌≡◌ {A = Scan} (record { counts = counts; progress = p }) (enter base (base + index) (read_tag word (base + index) base homes) s)
        unfolding enter
        visit-decided z link m counts p l c d q =
            rw (closing-said word (base + index) base homes known started k (λ e. z (n ∙ e)), begins, c, q, d, l, n)
