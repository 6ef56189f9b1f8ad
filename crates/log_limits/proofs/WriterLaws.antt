-- Laws of the highest start that no open transaction lies across, writer by writer. Assumes nothing.
use mathlib.Core.Path.{◌≡◌, refl, sym, ◌∙◌, subst}
use mathlib.Core.Bool.{Bool, true, false, not, ◌&&◌, and-false}
use mathlib.Core.List.{List}
use Prim.Native.Nat.{ℕ, zero, suc, ◌+◌, ◌*◌, ◌/◌, min, ◌≤◌, ◌<◌}
use native.Mathlib.Decide.{dec_le, dec_lt}
use native.Mathlib.Numerals.{add-one}
use native.Mathlib.Omega.{arith}
use borrow.Author.Tests.{le-leb, lt-leb, leb-true, lt-ltb, le-ltb, ltb-false}
use lib.Dec.{leb, ltb}
use Rattle.model.specs.Bytes.{number}
use Rattle.model.specs.State.{state_of, mode_offset, writer_offset, writer_of, has_logged}
use Rattle.model.specs.Effects.{none_open_before}
use Rattle.model_laws.proofs.state.OrderLaws.{InOrder, both}
use Rattle.log_limits.specs.Limits.{Highest, writer_limit}

-- ---- the limit of one writer, as the code makes it

module _ (s : List ℕ) (w limit : ℕ) where
  pub writer-none : (mode : ℕ) → mode ≡ number 1 s (104 + w) → mode < 3 → limit ≡ writer_limit (writer_of s w) limit
  unfolding writer_limit has_logged writer_of mode_offset writer_offset
  writer-none mode e h = rw (← e, lt-leb 3 mode h)

  writer-first : (mode first : ℕ) → mode ≡ number 1 s (104 + w) → 3 ≤ mode → first ≡ number 8 s (128 + 24 * w + 8)
      → min (first / 7) limit ≡ writer_limit (writer_of s w) limit
  unfolding writer_limit has_logged writer_of mode_offset writer_offset
  writer-first mode first e h f = rw (← e, le-leb 3 mode h, ← f)

  pub writer-low : (mode first : ℕ) → mode ≡ number 1 s (104 + w) → 3 ≤ mode → first ≡ number 8 s (128 + 24 * w + 8) → first / 7 < limit
      → first / 7 ≡ writer_limit (writer_of s w) limit
  writer-low mode first e h f l = let q : first / 7 ≡ min (first / 7) limit = omega arith in q ∙ writer-first mode first e h f

  pub writer-high : (mode first : ℕ) → mode ≡ number 1 s (104 + w) → 3 ≤ mode → first ≡ number 8 s (128 + 24 * w + 8) → limit ≤ first / 7
      → limit ≡ writer_limit (writer_of s w) limit
  writer-high mode first e h f l = let q : limit ≡ min (first / 7) limit = omega arith in q ∙ writer-first mode first e h f

-- ---- open transactions, writer by writer

-- what is none before a position is none before a lower one
pub open-below : (s : List ℕ) (p q n : ℕ) → q ≤ p → none_open_before p s n ≡ true → none_open_before q s n ≡ true
unfolding none_open_before
open-below s p q zero h e = refl
open-below s p q (suc n) h e =
    let f = (both (none_open_before p s n) _).0 e in
    rw (open-below s p q n h f.0) (go (has_logged (writer_of s n)) f.1)
  where
    later : (x : ℕ) → not (ltb x p) ≡ true → not (ltb x q) ≡ true
    later x k = again (ltb x p) refl k
      where
        again : (b : Bool) → ltb x p ≡ b → not b ≡ true → not (ltb x q) ≡ true
        again true i j = cc
        again false i j = rw (le-ltb x q (omega (arith, ltb-false x p i)))

    go : (b : Bool) → not (b && ltb (writer_of s n).first p) ≡ true → not (b && ltb (writer_of s n).first q) ≡ true
    go true k = later (writer_of s n).first k
    go false k = refl

pub open_none : (s : List ℕ) (limit : ℕ) → Highest (λ t. none_open_before (7 * t) s 0) limit limit
unfolding none_open_before
open_none s limit = record { most = omega arith; allowed = refl; above = λ t h k. absurd (omega arith) }

pub open_turn : (s : List ℕ) (n limit r r' : ℕ) → r' ≡ writer_limit (writer_of s n) r → Highest (λ t. none_open_before (7 * t) s n) limit r
    → Highest (λ t. none_open_before (7 * t) s (n + 1)) limit r'
unfolding none_open_before writer_limit
open_turn s n limit r r' e i = rw add-one (go (has_logged (writer_of s n)) refl)
  where
    first : ℕ
    first = (writer_of s n).first

    go : (b : Bool) → has_logged (writer_of s n) ≡ b → Highest (λ t. none_open_before (7 * t) s (suc n)) limit r'
    go true f =
        let q : r' ≡ min (first / 7) r = rw f at e in
        record {
          most = omega (arith, i.most);
          allowed = rw (f, open-below s (7 * r) (7 * r') n (omega arith) i.allowed, le-ltb first (7 * r') (omega arith));
          above = λ t h k. rw f (over t h k q (dec_lt first (7 * t)));
        }
      where
        over : (t : ℕ) → r' < t → t ≤ limit → r' ≡ min (first / 7) r → Dec (first < 7 * t)
            → (none_open_before (7 * t) s n && not (ltb first (7 * t))) ≡ false
        over t h k q (yes l) = rw (lt-ltb first (7 * t) l) (and-false (none_open_before (7 * t) s n))
        over t h k q (no l) = rw (i.above t (omega arith) k)
    go false f =
        let q : r' ≡ r = rw f at e in
        record {
          most = omega (arith, i.most);
          allowed = rw f (subst (λ (x : ℕ). (none_open_before (7 * x) s n && true) ≡ true) (sym q) (rw i.allowed));
          above = λ t h k. rw (f, i.above t (omega arith) k);
        }

pub open-end : (s : List ℕ) (n m limit r : ℕ) → n ≡ m → Highest (λ t. none_open_before (7 * t) s n) limit r → Highest (λ t. none_open_before (7 * t) s m) limit r
open-end s n m limit r e h = rw e at h

never : {A : Type 0} {b : Bool} → b ≡ true → b ≡ false → A
never e f = let z : true ≡ false = sym e ∙ f in let k : ◌≡◌ {A = ℕ} 0 1 = cc in absurd (omega arith)

-- none has an entry before the start
open-start : (s : List ℕ) (p n : ℕ) → ((w : ℕ) → w < n → 3 ≤ (writer_of s w).mode → p ≤ (writer_of s w).first) → none_open_before p s n ≡ true
unfolding none_open_before has_logged
open-start s p zero h = refl
open-start s p (suc n) h =
    rw (open-start s p n (λ w k m. h w (omega arith) m)) (go (leb 3 (writer_of s n).mode) refl)
  where
    go : (b : Bool) → leb 3 (writer_of s n).mode ≡ b → not (b && ltb (writer_of s n).first p) ≡ true
    go true e = rw (le-ltb (writer_of s n).first p (h n (omega arith) (leb-true 3 _ e)))
    go false e = refl

pub open-from : (s : List ℕ) (groups homes start limit r : ℕ) → InOrder s groups homes → (state_of s).start ≡ start → start ≤ limit
    → Highest (λ t. none_open_before (7 * t) s 8) limit r → start ≤ r
open-from s groups homes start limit r o e l h = go (dec_le start r)
  where
    go : Dec (start ≤ r) → start ≤ r
    go (yes k) = k
    go (no k) =
        never (open-start s (7 * start) 8 (λ w i m. let g = (o.writers w i).logged m in omega arith)) (h.above start (omega arith) l)
