-- Fetch and revise: the blocks read one behind the other, their questions and how they end. Assumes nothing.
use mathlib.Core.Path.{◌≡◌, refl, sym, ap, ◌∙◌}
use mathlib.Core.Bool.{Bool, true, false, cond, not}
use mathlib.Core.List.{List, [], ◌++◌, append_assoc}
use mathlib.Core.Logic.{◌≢◌}
use Prim.Native.Nat.{ℕ, suc, ◌+◌, ◌-◌, ◌*◌, ◌/◌, ◌≤◌, ◌<◌}
use native.Mathlib.Omega.{arith}
use borrow.Author.Tests.{not-true, not-false}
use borrow.Rule.Slice.PartMut.{put_mid, Post-is}
use lib.ListN.{length, take, drop, length-append}
use lib.Seq.{sets-eq}
use Rattle.model.specs.Bytes.{puts}
use Rattle.model.specs.Batch.{batch_bytes}
use Rattle.model.specs.Layout.{home_count, home_at}
use Rattle.model.specs.declared.Writer.{Writer}
use Rattle.model.specs.State.{writer_of, held_of, holds_home}
use Rattle.model.specs.Effects.{Given, block_or, newest_own, own_else, kept_position, shown, is_there, live_tags, live_base, tags_of, read_effect}
use Rattle.model.specs.Questions.{ask}
use Rattle.model.specs.Calls.{outcome}
use Rattle.model_laws.proofs.bytes.ByteLaws.{puts-nil, puts-sets, puts-append, puts_whole}
use Rattle.model_laws.proofs.state.QuestionLaws.{ask-yes, ask-no}
use Rattle.call_ask.specs.Lent.{lent_all, leaves_everything}
use Rattle.call_ask.proofs.AnswerLaws.{Usable, refused-by, done-by}
use Rattle.call_read.specs.Shown.{read_block}
use Rattle.model.specs.Rights.{for_home}
use Rattle.acts.specs.Many.{blocks_lent, blocks_read, fetch_effect, ask_homes, all_of, may_store_all, may_read_all, fetch_answer, revise_answer, fetch_call, revise_call}
use Rattle.call_many_fetch.proofs.AllowedLaws.{block_same, read-list-same, store_test, read_test}
use Rattle.call_many_fetch.proofs.QuestionLaws.{HomesLent, homes-refuse, homes-pass, homes-first, homes-lent}

-- ---- one block in its place

pub put-part : (d e : List ℕ) (at : ℕ) → length e ≡ 64 → at + 64 ≤ length d → put_mid at (at + 64 - at) d e ≡ puts d at e
put-part d e at l h =
    rw (Post-is at (at + 64) d (omega arith))
    (sym (puts-sets d at e ∙ sets-eq e d at (omega arith) ∙ rw l (append_assoc (take at d) e (drop (at + 64) d))))

-- what a read shows hangs on neither the block nor the batch
pub read_same : (l a s p x b : List ℕ) (w h : ℕ) → read_block (lent_all l a s p x b w h) ≡ read_block (lent_all l a s p [] [] w h)
unfolding own_else shown newest_own kept_position is_there live_tags live_base tags_of
read_same l a s p x b w h =
    let g : Given = lent_all l a s p x b w h in
    let k : Given = lent_all l a s p [] [] w h in
    let r : Writer = writer_of s w in
    ap (λ (z : List ℕ). cond (holds_home r h) (held_of s w) z)
    (block_same g k (newest_own k r) (block_or g (kept_position k) (home_at a h)) refl
    ∙ ap (block_or k (newest_own k r)) (block_same g k (kept_position k) (home_at a h) refl))

pub shown-at : (l a s p d x y : List ℕ) (at w h : ℕ) → x ≡ read_block (lent_all l a s p y [] w h) → length x ≡ 64 → at + 64 ≤ length d
    → (put_mid at (at + 64 - at) d x ≡ puts d at (read_block (lent_all l a s p [] [] w h))) × (length (read_block (lent_all l a s p [] [] w h)) ≡ 64)
shown-at l a s p d x y at w h e n k =
    let q : x ≡ read_block (lent_all l a s p [] [] w h) = e ∙ read_same l a s p y [] w h in
    (put-part d x at n k ∙ ap (puts d at) q, ap length (sym q) ∙ n)

-- ---- all of them

module _ (l a s p x : List ℕ) (w h : ℕ) where
  pub read_none : (x ≡ puts x 0 (blocks_read (lent_all l a s p x [] w h) 0)) × (length (blocks_read (lent_all l a s p x [] w h) 0) ≡ 64 * 0)
  unfolding blocks_read
  read_none = (sym (puts-nil x 0), refl)

  next-block : (i : ℕ) → blocks_read (lent_all l a s p x [] w h) (suc i)
      ≡ blocks_read (lent_all l a s p x [] w h) i ++ read_block (lent_all l a s p x [] w (h + i))
  unfolding blocks_read read_effect for_home
  next-block i = refl

  pub read_more : (i : ℕ) (d d' : List ℕ)
      → (d ≡ puts x 0 (blocks_read (lent_all l a s p x [] w h) i)) × (length (blocks_read (lent_all l a s p x [] w h) i) ≡ 64 * i)
      → (d' ≡ puts d (64 * i) (read_block (lent_all l a s p [] [] w (h + i)))) × (length (read_block (lent_all l a s p [] [] w (h + i))) ≡ 64)
      → (d' ≡ puts x 0 (blocks_read (lent_all l a s p x [] w h) (i + 1))) × (length (blocks_read (lent_all l a s p x [] w h) (i + 1)) ≡ 64 * (i + 1))
  read_more i d d' f k =
      let m : i + 1 ≡ suc i = omega arith in
      let e : blocks_read (lent_all l a s p x [] w h) (i + 1)
      ≡ blocks_read (lent_all l a s p x [] w h) i ++ read_block (lent_all l a s p [] [] w (h + i)) =
      rw m (next-block i ∙ rw (read_same l a s p x [] w (h + i))) in
      let z : 0 + length (blocks_read (lent_all l a s p x [] w h) i) ≡ 64 * i = omega (arith, f.1) in (
        k.0 ∙ rw (f.0, e) (sym (puts-append x 0 (blocks_read (lent_all l a s p x [] w h) i) (read_block (lent_all l a s p [] [] w (h + i))) ∙ rw z)),
        omega (arith, ap length e, length-append (blocks_read (lent_all l a s p x [] w h) i) (read_block (lent_all l a s p [] [] w (h + i))), f.1, k.1),
      )

  pub read_all : (i n : ℕ) (d : List ℕ)
      → (d ≡ puts x 0 (blocks_read (lent_all l a s p x [] w h) i)) × (length (blocks_read (lent_all l a s p x [] w h) i) ≡ 64 * i) → length x ≡ 64 * n → i ≡ n
      → d ≡ blocks_read (lent_all l a s p x [] w h) n
  read_all i n d f m e = f.0 ∙ puts_whole x _ (omega (arith, m, f.1)) ∙ ap (blocks_read (lent_all l a s p x [] w h)) e

  -- ---- their questions

  pub stores-are : may_store_all (lent_all l a s p x [] w h) ≡ all_of (store_test l a s p w) h (length x / 64)
  unfolding may_store_all blocks_lent
  stores-are = rw (read-list-same l a s p x [] w h w 0)

  pub reads-are : may_read_all (lent_all l a s p x [] w h) ≡ all_of (read_test l a s p w) h (length x / 64)
  unfolding may_read_all blocks_lent
  reads-are = rw (read-list-same l a s p x [] w h w 0)

  module _ (r : ℕ) (e : r ≡ ask_homes (lent_all l a s p x [] w h) 0) where
    pub fetch-first : r ≢ 0 → r ≡ fetch_answer (lent_all l a s p x [] w h)
    unfolding fetch_answer
    fetch-first n = homes-refuse (lent_all l a s p x [] w h) r _ e n

    pub revise-first : r ≢ 0 → r ≡ revise_answer (lent_all l a s p x [] w h)
    unfolding revise_answer
    revise-first n = homes-refuse (lent_all l a s p x [] w h) r _ e n

    module _ (z : r ≡ 0) where
      lent-homes : HomesLent (lent_all l a s p x [] w h)
      lent-homes = homes-lent (lent_all l a s p x [] w h) (sym e ∙ z)

      pub asks-rights : Usable l a s × (length p ≡ 8 * home_count (length a)) × (w < 8) × (h + length x / 64 ≤ home_count (length a))
      asks-rights = (lent-homes.usable, lent-homes.newest, lent-homes.writer, lent-homes.homes)

      pub fetch-no : (t : Bool) → t ≡ all_of (read_test l a s p w) h (length x / 64) → not t ≡ true → 20 ≡ fetch_answer (lent_all l a s p x [] w h)
      unfolding fetch_answer
      fetch-no t k q = sym (homes-pass (lent_all l a s p x [] w h) _ (sym e ∙ z) ∙ ask-no _ 20 0 (reads-are ∙ sym k ∙ not-true t q))

      pub fetch-yes : (t : Bool) → t ≡ all_of (read_test l a s p w) h (length x / 64) → not t ≡ false → 0 ≡ fetch_answer (lent_all l a s p x [] w h)
      unfolding fetch_answer
      fetch-yes t k q = sym (homes-pass (lent_all l a s p x [] w h) _ (sym e ∙ z) ∙ ask-yes _ 20 0 (reads-are ∙ sym k ∙ not-false t q))

      module _ (t : Bool) (k : t ≡ all_of (store_test l a s p w) h (length x / 64)) where
        pub revise-no : not t ≡ true → 19 ≡ revise_answer (lent_all l a s p x [] w h)
        unfolding revise_answer
        revise-no q = sym (homes-pass (lent_all l a s p x [] w h) _ (sym e ∙ z) ∙ ask-no _ 19 _ (stores-are ∙ sym k ∙ not-true t q))

        module _ (q : not t ≡ false) (u : Bool) (m : u ≡ all_of (read_test l a s p w) h (length x / 64)) where
          rest : revise_answer (lent_all l a s p x [] w h) ≡ ask (may_read_all (lent_all l a s p x [] w h)) 20 0
          unfolding revise_answer
          rest = homes-pass (lent_all l a s p x [] w h) _ (sym e ∙ z) ∙ ask-yes _ 19 _ (stores-are ∙ sym k ∙ not-false t q)

          pub revise-reads-no : not u ≡ true → 20 ≡ revise_answer (lent_all l a s p x [] w h)
          revise-reads-no y = sym (rest ∙ ask-no _ 20 0 (reads-are ∙ sym m ∙ not-true u y))

          pub revise-yes : not u ≡ false → 0 ≡ revise_answer (lent_all l a s p x [] w h)
          revise-yes y = sym (rest ∙ ask-yes _ 20 0 (reads-are ∙ sym m ∙ not-false u y))

  -- ---- how they end

  fetched-lent : (v : ℕ) → ask_homes (lent_all l a s p x [] w h) v ≡ 0
      → Usable l a s × (length p ≡ 8 * home_count (length a)) × (length x ≡ 64 * (length x / 64)) × (w < 8) × (h + length x / 64 ≤ home_count (length a))
  fetched-lent v e =
      let k = homes-lent (lent_all l a s p x [] w h) (homes-first (lent_all l a s p x [] w h) v e).0 in
      (k.usable, k.newest, k.blocks, k.writer, k.homes)

  ends-done : (answer c figure size : ℕ) (x' : List ℕ) → answer ≡ 0 → x' ≡ blocks_read (lent_all l a s p x [] w h) (length x / 64)
      → (c ≡ 0) × (figure ≡ 0) × (size ≡ 0)
      → leaves_everything c figure size l a s p x' [] ≡ outcome (lent_all l a s p x [] w h) answer (fetch_effect (lent_all l a s p x [] w h))
  unfolding fetch_effect blocks_lent batch_bytes
  ends-done answer c figure size x' z e q =
      done-by (lent_all l a s p x [] w h) (fetch_effect (lent_all l a s p x [] w h)) answer c figure size l a s p x' [] z q.0 q.1 q.2 refl refl refl refl e
      (sym (puts-nil [] 0))

  module _ (code : ℕ) (e : code ≡ fetch_answer (lent_all l a s p x [] w h)) where
    pub fetch-refused : (c figure size : ℕ) → code ≢ 0 → (c ≡ code) × (figure ≡ 0) × (size ≡ 0)
        → leaves_everything c figure size l a s p x [] ≡ fetch_call (lent_all l a s p x [] w h)
    unfolding fetch_call
    fetch-refused c figure size n q =
        refused-by (lent_all l a s p x [] w h) (fetch_effect (lent_all l a s p x [] w h)) _ c figure size (q.0 ∙ e) (λ z. n (sym q.0 ∙ z)) q.1 q.2

    pub fetch-lent : code ≡ 0
        → Usable l a s × (length p ≡ 8 * home_count (length a)) × (length x ≡ 64 * (length x / 64)) × (w < 8) × (h + length x / 64 ≤ home_count (length a))
    unfolding fetch_answer
    fetch-lent z = fetched-lent _ (sym e ∙ z)

    pub fetch-done : (c figure size : ℕ) (x' : List ℕ) → code ≡ 0 → x' ≡ blocks_read (lent_all l a s p x [] w h) (length x / 64)
        → (c ≡ 0) × (figure ≡ 0) × (size ≡ 0) → leaves_everything c figure size l a s p x' [] ≡ fetch_call (lent_all l a s p x [] w h)
    unfolding fetch_call
    fetch-done c figure size x' z k q = ends-done _ c figure size x' (sym e ∙ z) k q

  module _ (code : ℕ) (e : code ≡ revise_answer (lent_all l a s p x [] w h)) where
    pub revise-refused : (c figure size : ℕ) → code ≢ 0 → (c ≡ code) × (figure ≡ 0) × (size ≡ 0)
        → leaves_everything c figure size l a s p x [] ≡ revise_call (lent_all l a s p x [] w h)
    unfolding revise_call
    revise-refused c figure size n q =
        refused-by (lent_all l a s p x [] w h) (fetch_effect (lent_all l a s p x [] w h)) _ c figure size (q.0 ∙ e) (λ z. n (sym q.0 ∙ z)) q.1 q.2

    pub revise-lent : code ≡ 0
        → Usable l a s × (length p ≡ 8 * home_count (length a)) × (length x ≡ 64 * (length x / 64)) × (w < 8) × (h + length x / 64 ≤ home_count (length a))
    unfolding revise_answer
    revise-lent z = fetched-lent _ (sym e ∙ z)

    pub revise-done : (c figure size : ℕ) (x' : List ℕ) → code ≡ 0 → x' ≡ blocks_read (lent_all l a s p x [] w h) (length x / 64)
        → (c ≡ 0) × (figure ≡ 0) × (size ≡ 0) → leaves_everything c figure size l a s p x' [] ≡ revise_call (lent_all l a s p x [] w h)
    unfolding revise_call
    revise-done c figure size x' z k q = ends-done _ c figure size x' (sym e ∙ z) k q
