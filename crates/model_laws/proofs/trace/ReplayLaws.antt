-- Replay, home by home: each home has the block of its newest entry among the transactions replayed, else what it had.
use mathlib.Core.Path.{◌≡◌, refl, sym, ap, ◌∙◌}
use mathlib.Core.Logic.{◌⊎◌, inl, inr}
use mathlib.Core.Bool.{Bool, true, false, cond, false≢true}
use mathlib.Core.List.{List, [], ◌∷◌}
use mathlib.Core.Option.{Option, none, some}
use Prim.Native.Nat.{ℕ, suc, ◌+◌, ◌-◌, ◌*◌, ◌/◌, ◌<◌}
use native.Mathlib.Omega.{arith}
use lib.ListN.{length}
use lib.Dec.{eqb}
use borrow.Author.Tests.{eqb-true, eqb-false}
use Rattle.model.specs.Tag.{belongs, home_of, read_tag}
use Rattle.model.specs.Layout.{group_at, group_valid, turn_of, slot_of, index_of, word_there, entry_within, entry_at, block_at, home_at, put_home}
use Rattle.model.specs.Commit.{Span, members, committed, entries, each_entries, transactions, write_all, replay, newest_in, or_else, newest, found}
use Rattle.model.specs.Effects.{restore, replayed}
use Rattle.model.specs.declared.Tag.{Tag}
use Rattle.model.specs.declared.Tag.TheVariants.{Nothing, Entry, Closing}
use Rattle.model_laws.proofs.bytes.LayoutLaws.{length-put_home, length-group_at, length-block_of, group-fits, slot_lt, index-lt, home_same, home-other, area-ext}
use Rattle.model_laws.proofs.bytes.TagLaws.{entry_known, closing-known}
use Rattle.model_laws.proofs.trace.TraceLaws.{All, all_map}
use Rattle.model_laws.proofs.trace.CountLaws.{members-belong}

-- the block at a position, or another
unfoldable pub block_for : List ℕ → ℕ → Option ℕ → List ℕ → List ℕ
block_for log G none other = other
block_for log G (some p) other = block_at log G p

block_for-else : (log : List ℕ) (G : ℕ) (a b : Option ℕ) (other : List ℕ) → block_for log G a (block_for log G b other) ≡ block_for log G (or_else a b) other
unfolding block_for or_else
block_for-else log G none b other = refl
block_for-else log G (some p) b other = refl

module _ (log : List ℕ) (G D : ℕ) (tags : ℕ → Tag) where
  -- an entry that can be restored
  abbrev pub Good : ℕ → Type 0
  Good p = (home_of (tags p) < D) × (length (block_at log G p) ≡ 64)

  pub length-write_all : (ps : List ℕ) (A : List ℕ) → length (write_all (restore log G tags) ps A) ≡ length A
  unfolding write_all restore
  length-write_all [] A = refl
  length-write_all (p ∷ ps) A = length-put_home (write_all (restore log G tags) ps A) (home_of (tags p)) (block_at log G p) ∙ length-write_all ps A

  pub length-replayed : (ts : List (List ℕ)) (A : List ℕ) → length (replayed log G tags ts A) ≡ length A
  unfolding replayed replay
  length-replayed [] A = refl
  length-replayed (t ∷ ts) A = length-replayed ts (write_all (restore log G tags) t A) ∙ length-write_all t A

  restore-home : (p h : ℕ) (A : List ℕ) (o : Option ℕ) (X : List ℕ) → Good p → length A ≡ 64 * D → h < D → home_at A h ≡ block_for log G o X
      → (t : Bool) → eqb (home_of (tags p)) h ≡ t → home_at (put_home A (home_of (tags p)) (block_at log G p)) h ≡ block_for log G (cond t (some p) o) X
  unfolding block_for
  restore-home p h A o X g l k e true q =
      let z : home_of (tags p) ≡ h = eqb-true (home_of (tags p)) h q in
      rw z (home_same A h (block_at log G p) g.1 (omega arith))
  restore-home p h A o X g l k e false q =
      home-other A (home_of (tags p)) (block_at log G p) h (λ z. eqb-false (home_of (tags p)) h q (sym z)) (omega arith) ∙ e

  write-home : (ps : List ℕ) (A : List ℕ) (h : ℕ) → All Good ps → length A ≡ 64 * D → h < D
      → home_at (write_all (restore log G tags) ps A) h ≡ block_for log G (newest_in tags h ps) (home_at A h)
  unfolding write_all restore newest_in block_for
  write-home [] A h g l k = refl
  write-home (p ∷ ps) A h g l k =
      restore-home p h (write_all (restore log G tags) ps A) (newest_in tags h ps) (home_at A h) g.0 (length-write_all ps A ∙ l) k
      (write-home ps A h g.1 l k) (eqb (home_of (tags p)) h) refl

  pub replay-home : (ts : List (List ℕ)) (A : List ℕ) (h : ℕ) → All (All Good) ts → length A ≡ 64 * D → h < D
      → home_at (replayed log G tags ts A) h ≡ block_for log G (newest tags h ts) (home_at A h)
  unfolding replayed replay newest
  replay-home [] A h g l k = unfold block_for in refl
  replay-home (t ∷ ts) A h g l k =
      replay-home ts (write_all (restore log G tags) t A) h g.1 (length-write_all t A ∙ l) k
      ∙ ap (block_for log G (newest tags h ts)) (write-home t A h g.0 l k)
      ∙ block_for-else log G (newest tags h ts) (newest_in tags h t) (home_at A h)

  -- replay over two areas that agree where nothing is replayed gives the same
  pub replay-same : (ts : List (List ℕ)) (A B : List ℕ) → All (All Good) ts → length A ≡ 64 * D → length B ≡ 64 * D
      → ((h : ℕ) → h < D → found (newest tags h ts) ≡ false → home_at A h ≡ home_at B h) → replayed log G tags ts A ≡ replayed log G tags ts B
  replay-same ts A B g l m f =
      area-ext (replayed log G tags ts A) (replayed log G tags ts B) D (length-replayed ts A ∙ l) (length-replayed ts B ∙ m)
      (λ h k. replay-home ts A h g l k ∙ go h k (newest tags h ts) refl ∙ sym (replay-home ts B h g m k))
    where
      go : (h : ℕ) → h < D → (o : Option ℕ) → newest tags h ts ≡ o → block_for log G o (home_at A h) ≡ block_for log G o (home_at B h)
      go h k none e = unfold block_for in f h k (rw e (unfold found in refl))
      go h k (some p) e = unfold block_for in refl

  -- a home that nothing is replayed into stays
  pub replay-kept : (ts : List (List ℕ)) (A : List ℕ) (h : ℕ) → All (All Good) ts → length A ≡ 64 * D → h < D → found (newest tags h ts) ≡ false
      → home_at (replayed log G tags ts A) h ≡ home_at A h
  replay-kept ts A h g l k e = replay-home ts A h g l k ∙ go (newest tags h ts) e
    where
      go : (o : Option ℕ) → found o ≡ false → block_for log G o (home_at A h) ≡ home_at A h
      go none e = unfold block_for in refl
      go (some p) e = unfold found in absurd (false≢true (sym e))

-- what a walk finds in a log area can be restored

cond-entry : (b : Bool) (x t : Tag) → cond b x Nothing ≡ t → (t ≡ Nothing) ⊎ (x ≡ t)
cond-entry true x t e = inr e
cond-entry false x t e = inl (sym e)

pub known : (log : List ℕ) (G D s p f : ℕ) (t : Tag) → entry_at log G D s p ≡ t → belongs f t ≡ true → home_of t < D
unfolding entry_at entry_within belongs home_of
known log G D s p f Nothing e b = absurd (false≢true b)
known log G D s p f (Entry h g) e b = go (cond-entry (group_valid (group_at log (slot_of G p)) G s (p / 7)) _ _ e)
  where
    go : (Entry h g ≡ Nothing) ⊎ (read_tag (word_there (group_at log (slot_of G p)) (turn_of G (p / 7)) (index_of p)) p (7 * s) D ≡ Entry h g) → h < D
    go (inl z) = let n : ◌≡◌ {A = ℕ} 0 1 = cc in absurd (omega arith)
    go (inr z) = (entry_known _ p (7 * s) D h g z).0
known log G D s p f (Closing h g l c) e b = go (cond-entry (group_valid (group_at log (slot_of G p)) G s (p / 7)) _ _ e)
  where
    go : (Closing h g l c ≡ Nothing) ⊎ (read_tag (word_there (group_at log (slot_of G p)) (turn_of G (p / 7)) (index_of p)) p (7 * s) D ≡ Closing h g l c) → h < D
    go (inl z) = let n : ◌≡◌ {A = ℕ} 0 1 = cc in absurd (omega arith)
    go (inr z) = (closing-known _ p (7 * s) D h g l c z).0

pub length-block_at : (log : List ℕ) (G p : ℕ) → 0 < G → length log ≡ 64 + 512 * G → length (block_at log G p) ≡ 64
unfolding block_at
length-block_at log G p g l =
    length-block_of (group_at log (slot_of G p)) (index_of p) (length-group_at log (slot_of G p) (group-fits (slot_of G p) log G (slot_lt G p g) l)) (index-lt p)

module _ (log : List ℕ) (G D s : ℕ) (g : 0 < G) (l : length log ≡ 64 + 512 * G) where
  good-members : (f c n : ℕ) → All (Good log G D (entry_at log G D s)) (members (entry_at log G D s) f c n)
  good-members f c n =
      all_map (λ p. belongs f (entry_at log G D s p) ≡ true) (Good log G D (entry_at log G D s))
      (λ p b. (known log G D s p f (entry_at log G D s p) refl b, length-block_at log G p g l)) (members (entry_at log G D s) f c n)
      (members-belong (entry_at log G D s) f c n)

  pub good-each : (c : ℕ) (ss : List Span) → All (All (Good log G D (entry_at log G D s))) (each_entries (entry_at log G D s) c ss)
  unfolding each_entries entries
  good-each c [] = tt
  good-each c (x ∷ ss) = (good-members x.first c (suc x.closing - c), good-each c ss)

  pub good-found : (c n : ℕ) → All (All (Good log G D (entry_at log G D s))) (transactions (entry_at log G D s) c n)
  unfolding transactions
  good-found c n = good-each c (committed (entry_at log G D s) c n)
