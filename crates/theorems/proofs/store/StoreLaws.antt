-- Laws of the abstract store's definitions: the homes that transactions write, the lengths of batches. Assumes nothing.
use Prim.Native.Nat.{ℕ, zero, suc, ◌+◌, ◌*◌, ◌<◌}
use mathlib.Core.Path.{◌≡◌, refl, sym, ap, ◌∙◌}
use mathlib.Core.Logic.{inl, inr}
use mathlib.Core.Bool.{Bool, true, false, cond, ◌||◌, or_comm}
use mathlib.Core.List.{List, [], ◌∷◌, ◌++◌}
use mathlib.Core.Option.{some}
use native.Mathlib.Omega.{arith}
use lib.Dec.{eqb}
use lib.ListN.{length, length-append}
use Rattle.model.specs.Tag.{home_of}
use Rattle.model.specs.declared.Tag.{Tag}
use Rattle.model.specs.Layout.{unused_group, block_at, home_at}
use Rattle.model.specs.Commit.{newest_in, newest, found}
use Rattle.model.specs.Batch.{Record, GW, HW, KW, FN, record_bytes, batch_bytes}
use Rattle.model.specs.Effects.{marked, blank_writes, home_writes}
use Rattle.model.specs.Book.{Held}
use Rattle.model.specs.DemandTwo.{contents, each_contents}
use Rattle.abstract_store.specs.Store.{wrote, any_wrote}
pub use Rattle.abstract_store.proofs.ReplyLaws.{reply-outcome, told_same, answers, ask-same}
use Rattle.model_laws.proofs.bytes.ByteLaws.{length_part}
use Rattle.model_laws.proofs.bytes.EmptyLaws.{length-unused_group}
use Rattle.model_laws.proofs.state.BatchLaws.{length-GW, length-HW, length-KW, length-FN, batch-append, batch-one}
use Rattle.model_laws.proofs.trace.HomeLaws.{In}
use Rattle.theorems.proofs.invariant.LiveLog.{found-else}

-- ---- the homes that transactions write

or_assoc : (a b c : Bool) → ((a || b) || c) ≡ (a || (b || c))
or_assoc true b c = refl
or_assoc false b c = refl

wrote-append : (h : ℕ) (xs ys : List Held) → wrote h (xs ++ ys) ≡ (wrote h ys || wrote h xs)
unfolding wrote
wrote-append h [] ys = or_comm false (wrote h ys)
wrote-append h (x ∷ xs) ys =
    ap (λ (b : Bool). b || eqb x.home h) (wrote-append h xs ys) ∙ or_assoc (wrote h ys) (wrote h xs) (eqb x.home h)

found-wrote : (tags : ℕ → Tag) (log : List ℕ) (G h : ℕ) (ps : List ℕ) → found (newest_in tags h ps) ≡ wrote h (contents tags log G ps)
unfolding newest_in contents found
found-wrote tags log G h [] = unfold wrote in refl
found-wrote tags log G h (p ∷ ps) =
    go (eqb (home_of (tags p)) h) (found-wrote tags log G h ps)
    ∙ sym (wrote-append h (contents tags log G ps) (record { home = home_of (tags p); block = block_at log G p } ∷ []) ∙ (unfold wrote in refl))
  where
    go : (d : Bool) → found (newest_in tags h ps) ≡ wrote h (contents tags log G ps)
        → found (cond d (some p) (newest_in tags h ps)) ≡ ((false || d) || wrote h (contents tags log G ps))
    go true e = refl
    go false e = e

pub found-any-wrote : (tags : ℕ → Tag) (log : List ℕ) (G h : ℕ) (ts : List (List ℕ))
    → found (newest tags h ts) ≡ any_wrote h (each_contents tags log G ts)
unfolding newest each_contents any_wrote
found-any-wrote tags log G h [] = unfold found in refl
found-any-wrote tags log G h (t ∷ ts) =
    found-else (newest tags h ts) (newest_in tags h t) ∙ rw (found-any-wrote tags log G h ts, found-wrote tags log G h t)

pub length-contents : (tags : ℕ → Tag) (log : List ℕ) (G : ℕ) (ts : List (List ℕ)) → length (each_contents tags log G ts) ≡ length ts
unfolding each_contents
length-contents tags log G [] = refl
length-contents tags log G (t ∷ ts) = ap (λ (n : ℕ). suc n) (length-contents tags log G ts)

pub marked-same : (f g : ℕ → Bool) (n : ℕ) → ((h : ℕ) → f h ≡ g h) → marked f n ≡ marked g n
unfolding marked
marked-same f g zero e = refl
marked-same f g (suc n) e = rw (e n, marked-same f g n e)

-- ---- the bytes of home writes

pub bytes-homes : (D : ℕ) (area hs : List ℕ) → length area ≡ 64 * D → ((h : ℕ) → In h hs → h < D)
    → length (batch_bytes (home_writes area hs)) ≡ 68 * length hs
unfolding batch_bytes home_writes home_at
bytes-homes D area [] l b = refl
bytes-homes D area (h ∷ hs) l b =
    let i : h < D = b h (inl refl) in
    let s : length (record_bytes (HW h (home_at area h))) ≡ 68 = length-HW h (home_at area h) (unfold home_at in length_part area (64 * h) 64 (omega arith)) in
    length-append (record_bytes (HW h (home_at area h))) (batch_bytes (home_writes area hs))
    ∙ omega (arith, s, bytes-homes D area hs l (λ x k. b x (inr k)))

-- ---- the bytes of blank slots, and of an opening's records after its homes

bytes-more : (rs : List Record) (r : Record) → length (batch_bytes (r ∷ rs)) ≡ length (record_bytes r) + length (batch_bytes rs)
unfolding batch_bytes
bytes-more rs r = length-append (record_bytes r) (batch_bytes rs)

pub bytes-blanks : (G start n : ℕ) → length (batch_bytes (blank_writes G start n)) ≡ 516 * n
unfolding blank_writes
bytes-blanks G start zero = unfold batch_bytes in refl
bytes-blanks G start (suc n) =
    ap length (batch-append (blank_writes G start n) (GW n (unused_group G start n) ∷ []))
    ∙ length-append (batch_bytes (blank_writes G start n)) (batch_bytes (GW n (unused_group G start n) ∷ []))
    ∙ omega (
      arith,
      bytes-blanks G start n,
      ap length (batch-one (GW n (unused_group G start n))) ∙ length-GW n (unused_group G start n) (length-unused_group G start n),
    )

pub bytes-opening : (G start : ℕ) (head : List ℕ) → length head ≡ 64
    → length (batch_bytes (FN ∷ KW head ∷ FN ∷ (blank_writes G start G ++ (FN ∷ [])))) ≡ 72 + 516 * G
bytes-opening G start head l =
    let blanks : List Record = blank_writes G start G in
    let e : length (batch_bytes (blanks ++ (FN ∷ []))) ≡ length (batch_bytes blanks) + length (batch_bytes (FN ∷ [])) =
    ap length (batch-append blanks (FN ∷ [])) ∙ length-append (batch_bytes blanks) (batch_bytes (FN ∷ [])) in
    bytes-more (KW head ∷ FN ∷ (blanks ++ (FN ∷ []))) FN
    ∙ omega (
      arith,
      bytes-more (FN ∷ (blanks ++ (FN ∷ []))) (KW head),
      bytes-more (blanks ++ (FN ∷ [])) FN,
      bytes-blanks G start G,
      ap length (batch-one FN) ∙ length-FN,
      length-KW head l,
      length-FN,
    )
