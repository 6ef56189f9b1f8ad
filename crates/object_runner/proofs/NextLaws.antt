-- Laws of the next action, one for each way that the code takes. Assumes nothing.
use Prim.Native.Nat.{ℕ, ◌+◌, ◌-◌, ◌*◌, ◌%◌, ◌≤◌, ◌<◌}
use mathlib.Core.Path.{◌≡◌, sym, ap, ◌∙◌}
use mathlib.Core.Bool.{Bool, true, false, not, false≢true}
use mathlib.Core.List.{List}
use native.Mathlib.Omega.{arith}
use lib.Dec.{eqb, ltb}
use lib.ListN.{length, drop, length-drop}
use lib.Seq.{drop-drop}
use borrow.Author.Tests.{le-leb, lt-leb, le-ltb, lt-ltb, eq-eqb, ne_eqb, ltb-true}
use Rattle.model.specs.Bytes.{part, zeros, number, same}
use Rattle.model.specs.Layout.{group_offset}
use Rattle.model.specs.Batch.{group_write_mark, home_write_mark, header_write_mark, fence_mark}
use Rattle.object_runner.specs.declared.Cursor.{Cursor}
use Rattle.object_runner.specs.declared.Action.{Action}
use Rattle.object_runner.specs.Next.{cursor, bare, write, past, parts, group_action, home_action, wiping, whole_header, wipe_action, header_action, due, due_action, fence_action, record_action, asked, next_action}
use Rattle.object_runner.proofs.AskedLaws.{Asked, true-asked, not-asked, was-asked}

-- the batch from an index on

part-drop : (xs : List ℕ) (a b n : ℕ) → part (drop a xs) b n ≡ part xs (a + b) n
unfolding part
part-drop xs a b n = rw drop-drop

number-drop : (k : ℕ) (xs : List ℕ) (a b : ℕ) → number k (drop a xs) b ≡ number k xs (a + b)
unfolding number
number-drop k xs a b = rw drop-drop

part-front : (xs : List ℕ) (a n : ℕ) → part (drop a xs) 0 n ≡ part xs a n
part-front xs a n = let e : a + 0 ≡ a = omega arith in rw (part-drop xs a 0 n, e)

size_is : (xs : List ℕ) (a : ℕ) → length (drop a xs) ≡ length xs - a
size_is xs a = length-drop a xs

-- groups

pub parts-words : (batch : List ℕ) (at : ℕ) (words z r : Bool) → words ≡ true → z ≡ same (part batch (at + 4) 8) (zeros 8) → r ≡ not z → r ≡ parts words (drop at batch)
unfolding parts
parts-words batch at words z r w e q = rw (w, part-drop batch at 4 8) (q ∙ ap not e)

pub parts-blocks : (batch : List ℕ) (at : ℕ) (words : Bool) → words ≡ false → false ≡ parts words (drop at batch)
unfolding parts
parts-blocks batch at words w = rw w

module _ (batch : List ℕ) (words : Bool) (groups : ℕ) (c : Cursor) (r : Action) where
  pub group-short : length batch - c.at < 516 → r ≡ bare 3 c → r ≡ group_action words groups (drop c.at batch) c
  unfolding group_action
  group-short h e = rw (lt-leb 516 (length (drop c.at batch)) (rw size_is h)) e

  module _ (s : ℕ) (h : 516 ≤ length batch - c.at) (n : s ≡ number 2 batch (c.at + 2)) where
    pub group-high : groups ≤ s → r ≡ bare 3 c → r ≡ group_action words groups (drop c.at batch) c
    unfolding group_action
    group-high l e = rw (le-leb 516 (length (drop c.at batch)) (rw size_is h), number-drop 2 batch c.at 2, ← n, le-ltb s groups l) e

    pub group-parted : s < groups → (p : Bool) → p ≡ parts words (drop c.at batch) → p ≡ true
        → r ≡ write 0 (64 + 512 * s + 8) 504 0 (c.at + 4 + 8) (cursor (c.at + 516) c.headed 0) → r ≡ group_action words groups (drop c.at batch) c
    unfolding group_action group_offset past
    group-parted l p q t e =
        rw (le-leb 516 (length (drop c.at batch)) (rw size_is h), number-drop 2 batch c.at 2, ← n, lt-ltb s groups l, ← q, t) e

    pub group-whole : s < groups → (p : Bool) → p ≡ parts words (drop c.at batch) → p ≡ false
        → r ≡ write 0 (64 + 512 * s) 512 0 (c.at + 4) (cursor (c.at + 516) c.headed 0) → r ≡ group_action words groups (drop c.at batch) c
    unfolding group_action group_offset past
    group-whole l p q t e =
        rw (le-leb 516 (length (drop c.at batch)) (rw size_is h), number-drop 2 batch c.at 2, ← n, lt-ltb s groups l, ← q, t) e

-- homes

module _ (batch : List ℕ) (homes : ℕ) (c : Cursor) (r : Action) where
  pub home-short : length batch - c.at < 68 → r ≡ bare 3 c → r ≡ home_action homes (drop c.at batch) c
  unfolding home_action
  home-short h e = rw (lt-leb 68 (length (drop c.at batch)) (rw size_is h)) e

  module _ (s : ℕ) (h : 68 ≤ length batch - c.at) (n : s ≡ number 2 batch (c.at + 2)) where
    pub home-high : homes ≤ s → r ≡ bare 3 c → r ≡ home_action homes (drop c.at batch) c
    unfolding home_action
    home-high l e = rw (le-leb 68 (length (drop c.at batch)) (rw size_is h), number-drop 2 batch c.at 2, ← n, le-ltb s homes l) e

    pub home-done : s < homes → r ≡ write 1 (64 * s) 64 0 (c.at + 4) (cursor (c.at + 68) c.headed 0) → r ≡ home_action homes (drop c.at batch) c
    unfolding home_action past
    home-done l e = rw (le-leb 68 (length (drop c.at batch)) (rw size_is h), number-drop 2 batch c.at 2, ← n, lt-ltb s homes l) e

-- headers

pub wiping-words : (batch : List ℕ) (at : ℕ) (words r : Bool) → words ≡ true → r ≡ same (part batch (at + 2) 8) (zeros 8) → r ≡ wiping words (drop at batch)
unfolding wiping
wiping-words batch at words r w e = rw (w, part-drop batch at 2 8) e

pub wiping-blocks : (batch : List ℕ) (at : ℕ) (words : Bool) → words ≡ false → false ≡ wiping words (drop at batch)
unfolding wiping
wiping-blocks batch at words w = rw w

module _ (c : Cursor) (r : Action) where
  pub header-whole : r ≡ write 0 0 64 0 (c.at + 2) (cursor (c.at + 66) c.headed 0) → r ≡ whole_header c
  unfolding whole_header past
  header-whole e = e

  pub wipe-first : c.stage ≡ 0 → r ≡ write 0 0 8 0 (c.at + 2) (cursor c.at c.headed 1) → r ≡ wipe_action c.stage c
  unfolding wipe_action
  wipe-first s e = rw (eq-eqb c.stage 0 s) e

  pub wipe-fence : (c.stage ≡ 0 → ⊥) → c.stage ≡ 1 → r ≡ bare 2 (cursor c.at c.headed 2) → r ≡ wipe_action c.stage c
  unfolding wipe_action
  wipe-fence n s e = rw (ne_eqb c.stage 0 n, eq-eqb c.stage 1 s) e

  pub wipe-rest : (c.stage ≡ 0 → ⊥) → (c.stage ≡ 1 → ⊥) → r ≡ whole_header c → r ≡ wipe_action c.stage c
  unfolding wipe_action
  wipe-rest n s e = rw (ne_eqb c.stage 0 n, ne_eqb c.stage 1 s) e

module _ (batch : List ℕ) (words : Bool) (c : Cursor) (r : Action) where
  pub header-short : length batch - c.at < 66 → r ≡ bare 3 c → r ≡ header_action words (drop c.at batch) c
  unfolding header_action
  header-short h e = rw (lt-leb 66 (length (drop c.at batch)) (rw size_is h)) e

  module _ (h : 66 ≤ length batch - c.at) (p : Bool) (q : p ≡ wiping words (drop c.at batch)) where
    pub header-wiped : p ≡ true → r ≡ wipe_action c.stage c → r ≡ header_action words (drop c.at batch) c
    unfolding header_action
    header-wiped t e = rw (le-leb 66 (length (drop c.at batch)) (rw size_is h), ← q, t) e

    pub header-kept : p ≡ false → r ≡ whole_header c → r ≡ header_action words (drop c.at batch) c
    unfolding header_action
    header-kept t e = rw (le-leb 66 (length (drop c.at batch)) (rw size_is h), ← q, t) e

-- fences

pub due-words : (words : Bool) (headed next : ℕ) (r : Bool) → words ≡ true → r ≡ ltb headed next → r ≡ due words headed next
unfolding due
due-words words headed next r w e = rw w e

pub due-blocks : (words : Bool) (headed next : ℕ) → words ≡ false → false ≡ due words headed next
unfolding due
due-blocks words headed next w = rw w

pub due-lt : (words : Bool) (headed next : ℕ) (p : Bool) → p ≡ due words headed next → p ≡ true → headed < next
unfolding due
due-lt true headed next p q t = ltb-true headed next (sym q ∙ t)
due-lt false headed next p q t = absurd (false≢true (sym q ∙ t))

module _ (groups : ℕ) (c : Cursor) (r : Action) where
  pub due-fence : c.stage ≡ 0 → r ≡ bare 2 (cursor c.at c.headed 1) → r ≡ due_action groups c
  unfolding due_action
  due-fence s e = rw (eq-eqb c.stage 0 s) e

  pub due-word : (c.stage ≡ 0 → ⊥) → r ≡ write 0 (64 + 512 * (c.headed % groups)) 8 1 (64 + 512 * (c.headed % groups)) (cursor c.at (c.headed + 1) 1)
      → r ≡ due_action groups c
  unfolding due_action group_offset
  due-word n e = rw (ne_eqb c.stage 0 n) e

module _ (words : Bool) (groups next : ℕ) (c : Cursor) (r : Action) (p : Bool) (q : p ≡ due words c.headed next) where
  pub fence-due : p ≡ true → r ≡ due_action groups c → r ≡ fence_action words groups next c
  unfolding fence_action
  fence-due t e = rw (← q, t) e

  pub fence-past : p ≡ false → r ≡ bare 2 (cursor (c.at + 2) c.headed 0) → r ≡ fence_action words groups next c
  unfolding fence_action past
  fence-past t e = rw (← q, t) e

-- records by their marks

module _ (batch : List ℕ) (words : Bool) (groups homes next : ℕ) (c : Cursor) (r : Action) where
  abbrev rest : List ℕ
  rest = drop c.at batch

  abbrev pub Is : List ℕ → Bool → Bool → Type 0
  Is mark p t = (p ≡ same (part batch c.at 2) mark) × (p ≡ t)

  front-is : (mark : List ℕ) (p t : Bool) → Is mark p t → same (part rest 0 2) mark ≡ t
  front-is mark p t k = rw part-front (sym k.0 ∙ k.1)

  module _ (p₁ p₂ p₃ p₄ : Bool) where
    pub by-group : Is group_write_mark p₁ true → r ≡ group_action words groups rest c → r ≡ record_action words groups homes next rest c
    unfolding record_action
    by-group k e = rw (front-is group_write_mark p₁ true k) e

    pub by_home : Is group_write_mark p₁ false → Is home_write_mark p₂ true → r ≡ home_action homes rest c → r ≡ record_action words groups homes next rest c
    unfolding record_action
    by_home a k e = rw (front-is group_write_mark p₁ false a, front-is home_write_mark p₂ true k) e

    pub by-header : Is group_write_mark p₁ false → Is home_write_mark p₂ false → Is header_write_mark p₃ true → r ≡ header_action words rest c
        → r ≡ record_action words groups homes next rest c
    unfolding record_action
    by-header a b k e = rw (front-is group_write_mark p₁ false a, front-is home_write_mark p₂ false b, front-is header_write_mark p₃ true k) e

    module _ (a : Is group_write_mark p₁ false) (b : Is home_write_mark p₂ false) (d : Is header_write_mark p₃ false) where
      pub by-fence : Is fence_mark p₄ true → r ≡ fence_action words groups next c → r ≡ record_action words groups homes next rest c
      unfolding record_action
      by-fence k e =
          rw (front-is group_write_mark p₁ false a, front-is home_write_mark p₂ false b, front-is header_write_mark p₃ false d, front-is fence_mark p₄ true k) e

      pub by-none : Is fence_mark p₄ false → r ≡ bare 3 c → r ≡ record_action words groups homes next rest c
      unfolding record_action
      by-none k e =
          rw (front-is group_write_mark p₁ false a, front-is home_write_mark p₂ false b, front-is header_write_mark p₃ false d, front-is fence_mark p₄ false k) e

-- the call

module _ (batch : List ℕ) (landing groups homes next : ℕ) (c : Cursor) (r : Action) (b : Bool) (q : b ≡ asked landing groups next (length batch) c) where
  abbrev told : Type 0
  told = r ≡ next_action landing groups homes next batch c

  pub next-refused : not b ≡ true → r ≡ bare 3 c → told
  unfolding next_action
  next-refused h e = rw (not-asked landing groups next (length batch) c b q h) e

  module _ (h : not b ≡ false) where
    a : Asked landing groups next (length batch) c
    a = was-asked landing groups next (length batch) c b q h

    may : asked landing groups next (length batch) c ≡ true
    may = true-asked landing groups next (length batch) c a

    pub next-done : c.at ≡ length batch → r ≡ bare 0 c → told
    unfolding next_action
    next-done d e = rw (may, eq-eqb c.at (length batch) d) e

    module _ (n : c.at ≡ length batch → ⊥) where
      pub next-short : length batch - c.at < 2 → r ≡ bare 3 c → told
      unfolding next_action
      next-short s e = rw (may, ne_eqb c.at (length batch) n, lt-leb (c.at + 2) (length batch) (omega (arith, a.within))) e

      pub next-record : (w : Bool) → w ≡ eqb landing 0 → 2 ≤ length batch - c.at → r ≡ record_action w groups homes next (drop c.at batch) c → told
      unfolding next_action
      next-record w l s e = rw (may, ne_eqb c.at (length batch) n, le-leb (c.at + 2) (length batch) (omega (arith, a.within)), ← l) e
