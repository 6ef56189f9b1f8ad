-- Laws of the chains: the last entry for a word of homes, and what the pass over the log's positions holds. Assumes nothing.
use mathlib.Core.Path.{◌≡◌, refl, sym, ap, ◌∙◌}
use mathlib.Core.Bool.{Bool, true, false, cond}
use mathlib.Core.List.{List}
use Prim.Native.Nat.{ℕ, zero, suc, ◌+◌, ◌-◌, ◌*◌, ◌/◌, ◌^◌, ◌≤◌, ◌<◌}
use native.Mathlib.Decide.{ℕ_discrete}
use native.Mathlib.Omega.{arith}
use borrow.Author.Tests.{eq-eqb, ne_eqb, eqb-true}
use lib.Dec.{eqb}
use lib.ListN.{length, get_or, set, replicate, length-set, length-replicate}
use lib.Seq.{get_or-set_same, get_or-set_other}
use Rattle.model.specs.Tag.{belongs, home_of, read_tag}
use Rattle.model_laws.proofs.bytes.TagLaws.{field_lt, entry_known, closing-known, closing-fields}
use Rattle.model.specs.Layout.{entry_at}
use Rattle.model.specs.declared.Tag.{Tag}
use Rattle.model.specs.declared.Tag.TheVariants.{Nothing, Entry, Closing}
use Rattle.log_scan.specs.Scan.{over}
use Rattle.log_scan.proofs.ScanLaws.{Placed, placed}
use Rattle.log_gather.specs.Closers.{closes, closer}
use Rattle.log_gather.proofs.CloserLaws.{closer-same, closer-now}
use Rattle.model_laws.proofs.trace.ReplayLaws.{known}
use Rattle.log_gather.specs.Chains.{max_words, max_homes, Chains, fresh, chained, note, Roomy, Empty, in_word, top, Holds, Chained}

-- ---- the last entry for a word

module _ (tags : ℕ → Tag) (base w : ℕ) where
  pub top-most : (n : ℕ) → top tags base w n ≤ n
  unfolding top
  top-most zero = omega arith
  top-most (suc n) = go (in_word w (tags (base + n))) (top-most n)
    where
      go : (b : Bool) → top tags base w n ≤ n → cond b (n + 1) (top tags base w n) ≤ suc n
      go true h = omega arith
      go false h = omega arith

  pub top-here : (n : ℕ) → in_word w (tags (base + n)) ≡ true → top tags base w (suc n) ≡ n + 1
  unfolding top
  top-here n e = rw e

  pub top-same : (n : ℕ) → in_word w (tags (base + n)) ≡ false → top tags base w (suc n) ≡ top tags base w n
  unfolding top
  top-same n e = rw e

  -- an offset that is one past the last entry below it
  pub top_in : (i : ℕ) → top tags base w (suc i) ≡ suc i → in_word w (tags (base + i)) ≡ true
  top_in i e = go (in_word w (tags (base + i))) refl
    where
      go : (b : Bool) → in_word w (tags (base + i)) ≡ b → b ≡ true
      go true q = refl
      go false q = absurd (omega (arith, top-same i q, top-most i, e))

  pub top-zero : top tags base w 0 ≡ 0
  unfolding top
  top-zero = refl

  pub top_again : (n : ℕ) → top tags base w (top tags base w n) ≡ top tags base w n
  top_again zero = ap (top tags base w) top-zero
  top_again (suc n) = go (in_word w (tags (base + n))) refl (top_again n)
    where
      go : (b : Bool) → in_word w (tags (base + n)) ≡ b → top tags base w (top tags base w n) ≡ top tags base w n
          → top tags base w (top tags base w (suc n)) ≡ top tags base w (suc n)
      go true q k = let e : top tags base w (suc n) ≡ suc n = top-here n q ∙ omega arith in ap (top tags base w) e
      go false q k = rw (top-same n q) k

-- ---- what the pass holds

abbrev pub Room : ℕ → Chains → Type 0
Room size g = Roomy 0 size g.last g.heads g.links

pub room-note : (size base position : ℕ) (t : Tag) (g : Chains) → Room size g → Room size (note base position t g)
unfolding note chained
room-note size base position Nothing g r = r
room-note size base position (Entry h f) g r =
    record {
      few = r.few;
      lasts = r.lasts;
      words = length-set g.heads (h / 64) (position - base + 1) ∙ r.words;
      each = length-set g.links (position - base) (get_or g.heads (h / 64) 0) ∙ r.each;
    }
room-note size base position (Closing h f link count) g r =
    record {
      few = r.few;
      lasts = length-set g.last (f - base) (position - base + 1) ∙ r.lasts;
      words = length-set g.heads (h / 64) (position - base + 1) ∙ r.words;
      each = length-set g.links (position - base) (get_or g.heads (h / 64) 0) ∙ r.each;
    }

-- a tag t that was read from a word
module _ (word position base homes : ℕ) (t : Tag) (e : t ≡ read_tag word position base homes) where
  pub entry-bounds : (h f : ℕ) → t ≡ Entry h f → (h < homes) × (base ≤ f) × (f ≤ position)
  entry-bounds h f d = entry_known word position base homes h f (sym e ∙ d)

  pub closing-bounds : (h f link count : ℕ) → t ≡ Closing h f link count → (h < homes) × (base ≤ f) × (f ≤ position)
  closing-bounds h f link count d = let r = closing-known word position base homes h f link count (sym e ∙ d) in (r.0, r.1, r.2)

  pub link-bound : (h f link count : ℕ) → t ≡ Closing h f link count → link < 2 ^ 13
  link-bound h f link count d =
      let q = closing-fields word position base homes h f link count (sym e ∙ d) in omega (arith, q.2, field_lt word 27 13)

-- a tag t, which says r, is taken into the pass
module _ (base position : ℕ) (g : Chains) (r t : Tag) (e : t ≡ r) where
  pub note-nothing : t ≡ Nothing → g ≡ note base position r g
  unfolding note
  note-nothing d = rw (← e, d)

  pub note-entry : (h f : ℕ) (heads links : List ℕ) → t ≡ Entry h f → heads ≡ set g.heads (h / 64) (position - base + 1)
      → links ≡ set g.links (position - base) (get_or g.heads (h / 64) 0)
      → ◌≡◌ {A = Chains} (record { last = g.last; heads = heads; links = links }) (note base position r g)
  unfolding note chained
  note-entry h f heads links d a b = rw (← e, d, a, b)

  pub note-closing : (h f link count : ℕ) (last heads links : List ℕ) → t ≡ Closing h f link count
      → last ≡ set g.last (f - base) (position - base + 1) → heads ≡ set g.heads (h / 64) (position - base + 1)
      → links ≡ set g.links (position - base) (get_or g.heads (h / 64) 0)
      → ◌≡◌ {A = Chains} (record { last = last; heads = heads; links = links }) (note base position r g)
  unfolding note chained
  note-closing h f link count last heads links d l a b = rw (← e, d, l, a, b)

pub note-quiet : (base position : ℕ) (g : Chains) → note base position Nothing g ≡ g
unfolding note
note-quiet base position g = refl

-- entries are for homes that there are
pub record Housed (tags : ℕ → Tag) : Type 0 where
  pub entry : (p h f : ℕ) → tags p ≡ Entry h f → h < max_homes
  pub closing : (p h f link count : ℕ) → tags p ≡ Closing h f link count → h < max_homes

pub housed : (log : List ℕ) (groups homes start : ℕ) → homes ≤ max_homes → Housed (entry_at log groups homes start)
unfolding belongs home_of
housed log groups homes start l =
    record {
      entry = λ p h f e. (let k : h < homes = known log groups homes start p f (Entry h f) e (eq-eqb f f refl) in omega arith);
      closing = λ p h f link count e. (let k : h < homes = known log groups homes start p f (Closing h f link count) e (eq-eqb f f refl) in omega arith);
    }

get_d-zeros : (n i : ℕ) → ◌≡◌ {A = ℕ} (get_or (replicate n 0) i 0) 0
get_d-zeros zero i = refl
get_d-zeros (suc n) zero = refl
get_d-zeros (suc n) (suc i) = get_d-zeros n i

module _ (size : ℕ) (tags : ℕ → Tag) (base : ℕ) (at : Placed tags base) (home : Housed tags) where
  -- an entry at offset n for home h goes into its word's chain
  module _ (n h : ℕ) (l : n < size) (k : h < max_homes) (words : (w : ℕ) → in_word w (tags (base + n)) ≡ eqb (h / 64) w) (g : Chains) (r : Room size g)
      (heads : (w : ℕ) → w < max_words → get_or g.heads w 0 ≡ top tags base w n)
      (links : (i : ℕ) → i < n → (w : ℕ) → in_word w (tags (base + i)) ≡ true → get_or g.links i 0 ≡ top tags base w i) where
    head-chained : (w : ℕ) → w < max_words → get_or (set g.heads (h / 64) (n + 1)) w 0 ≡ top tags base w (suc n)
    head-chained w m = go (ℕ_discrete w (h / 64))
      where
        go : Dec (w ≡ h / 64) → get_or (set g.heads (h / 64) (n + 1)) w 0 ≡ top tags base w (suc n)
        go (yes z) =
            rw z (get_or-set_same g.heads (h / 64) (n + 1) 0 (omega (arith, r.words))
            ∙ sym (top-here tags base (h / 64) n (words (h / 64) ∙ eq-eqb (h / 64) (h / 64) refl)))
        go (no z) =
            get_or-set_other g.heads (h / 64) w (n + 1) 0 z ∙ heads w m ∙ sym (top-same tags base w n (words w ∙ ne_eqb (h / 64) w (λ e. z (sym e))))

    link-chained : (i : ℕ) → i < suc n → (w : ℕ) → in_word w (tags (base + i)) ≡ true
        → get_or (set g.links n (get_or g.heads (h / 64) 0)) i 0 ≡ top tags base w i
    link-chained i m w e = go (ℕ_discrete i n)
      where
        go : Dec (i ≡ n) → get_or (set g.links n (get_or g.heads (h / 64) 0)) i 0 ≡ top tags base w i
        go (yes z) =
            let q : h / 64 ≡ w = eqb-true (h / 64) w (sym (words w) ∙ rw z at e) in
            rw (z, ← q) (get_or-set_same g.links n (get_or g.heads (h / 64) 0) 0 (omega (arith, r.each)) ∙ heads (h / 64) (omega arith))
        go (no z) = get_or-set_other g.links n i (get_or g.heads (h / 64) 0) 0 z ∙ links i (omega arith) w e

  -- one position more
  holds-note : (n : ℕ) (g : Chains) → n < size → Room size g → Holds size tags base n g → (t : Tag) → tags (base + n) ≡ t
      → Holds size tags base (suc n) (note base (base + n) t g)
  unfolding note chained closes in_word
  holds-note n g l r k Nothing e =
      record {
        closing = λ f a b. k.closing f a b ∙ sym (closer-same tags base f n (rw e));
        head = λ w m. k.head w m ∙ sym (top-same tags base w n (rw e));
        link = λ i m w q. go i m w q (ℕ_discrete i n);
      }
    where
      go : (i : ℕ) → i < suc n → (w : ℕ) → in_word w (tags (base + i)) ≡ true → Dec (i ≡ n) → get_or g.links i 0 ≡ top tags base w i
      go i m w q (yes z) = let y : false ≡ true = sym (ap (in_word w) e) ∙ rw z at q in let x : ◌≡◌ {A = ℕ} 0 1 = cc in absurd (omega arith)
      go i m w q (no z) = k.link i (omega arith) w q
  holds-note n g l r k (Entry h f) e =
      let d : base + n - base ≡ n = omega arith in
      let o = home.entry (base + n) h f e in
      rw d
      (record {
        closing = λ j a b. k.closing j a b ∙ sym (closer-same tags base j n (rw e));
        head = head-chained n h l o (λ w. rw e) g r k.head k.link;
        link = link-chained n h l o (λ w. rw e) g r k.head k.link;
      })
  holds-note n g l r k (Closing h f link count) e =
      let d : base + n - base ≡ n = omega arith in
      let o = home.closing (base + n) h f link count e in
      let p = at.closing (base + n) h f link count e in
      rw d
      (record {
        closing = λ j a b. last j a b (ℕ_discrete j f) p.0 p.1;
        head = head-chained n h l o (λ w. rw e) g r k.head k.link;
        link = link-chained n h l o (λ w. rw e) g r k.head k.link;
      })
    where
      last : (j : ℕ) → base ≤ j → j < base + size → Dec (j ≡ f) → base ≤ f → f ≤ base + n
          → get_or (set g.last (f - base) (n + 1)) (j - base) 0 ≡ closer tags base (suc n) j
      last j a b (yes z) c d =
          rw z (get_or-set_same g.last (f - base) (n + 1) 0 (omega (arith, r.lasts)) ∙ sym (closer-now tags base f n (rw e (eq-eqb f f refl))))
      last j a b (no z) c d =
          get_or-set_other g.last (f - base) (j - base) (n + 1) 0 (λ y. z (omega arith)) ∙ k.closing j a b
          ∙ sym (closer-same tags base j n (rw e (ne_eqb j f z)))

  pub holds-over : (n : ℕ) → n ≤ size → Room size (over (note base) tags base n (fresh size)) × Holds size tags base n (over (note base) tags base n (fresh size))
  unfolding over
  holds-over zero l = unfold fresh top closer in (
    record {
      few = omega arith;
      lasts = length-replicate {A = ℕ} size 0;
      words = length-replicate {A = ℕ} max_words 0;
      each = length-replicate {A = ℕ} size 0;
    },
    record {
      closing = λ f a b. get_d-zeros size (f - base);
      head = λ w m. get_d-zeros max_words w;
      link = λ i m. absurd (omega arith);
    },
  )
  holds-over (suc n) l =
      let k = holds-over n (omega arith) in (
        room-note size base (base + n) (tags (base + n)) (over (note base) tags base n (fresh size)) k.0,
        holds-note n (over (note base) tags base n (fresh size)) (omega arith) k.0 k.1 (tags (base + n)) refl,
      )

room-same : (size : ℕ) (g s : Chains) → g ≡ s → Room size s → Room size g
room-same size g s e r = rw e r

holds_same : (size : ℕ) (tags : ℕ → Tag) (base n : ℕ) (g s : Chains) → g ≡ s → Holds size tags base n s → Holds size tags base n g
holds_same size tags base n g s e h = rw e h

-- the whole pass
pub chained-all : (log : List ℕ) (groups homes start end n : ℕ) (last heads links : List ℕ) → homes ≤ max_homes → n ≡ end - 7 * start → n ≤ 7 * groups
    → 7 * groups ≤ length last
    → ◌≡◌ {A = Chains} (record { last = last; heads = heads; links = links }) (over (note (7 * start)) (entry_at log groups homes start) (7 * start) n (fresh (length last)))
    → Chained log groups homes start end last heads links
chained-all log groups homes start end n last heads links few d i long e =
    let k = holds-over (length last) (entry_at log groups homes start) (7 * start) (placed log groups homes start) (housed log groups homes start few) n (omega arith) in
    let r = room-same (length last) (record { last = last; heads = heads; links = links }) _ e k.0 in
    let h = holds_same (length last) (entry_at log groups homes start) (7 * start) n (record { last = last; heads = heads; links = links }) _ e k.1 in
    record {
      room = record { few = few; lasts = r.lasts; words = r.words; each = r.each };
      long = long;
      reach = n;
      covers = omega arith;
      inside = i;
      closing = rw (← d) h.closing;
      head = h.head;
      link = h.link;
    }

-- ---- empty tables

module _ (groups : ℕ) (last heads links : List ℕ) where
  pub emptied : last ≡ replicate (length last) 0 → heads ≡ replicate (length heads) 0 → links ≡ replicate (length links) 0 → 7 * groups ≤ length last
      → length heads ≡ max_words → length links ≡ length last → Empty groups last heads links
  emptied x y z l u v = record { long = l; lasts = x; words = y ∙ ap (λ (m : ℕ). replicate m 0) u; each = z ∙ ap (λ (m : ℕ). replicate m 0) v }

  module _ (e : Empty groups last heads links) where
    pub empty-words : length heads ≡ max_words
    empty-words = ap length e.words ∙ length-replicate {A = ℕ} max_words 0

    pub empty-each : length links ≡ length last
    empty-each = ap length e.each ∙ length-replicate {A = ℕ} (length last) 0

-- tables that were made with `size` zeros
pub empty-sized : (groups size : ℕ) → 7 * groups ≤ size → Empty groups (replicate size 0) (replicate max_words 0) (replicate size 0)
empty-sized groups size l =
    let k : length {A = ℕ} (replicate size 0) ≡ size = length-replicate size 0 in
    record { long = omega arith; lasts = rw k; words = refl; each = rw k }

-- the pass begins with empty tables
pub none_over : (tags : ℕ → Tag) (base m groups : ℕ) (last heads links : List ℕ) → m ≡ 0 → Empty groups last heads links
    → ◌≡◌ {A = Chains} (record { last = last; heads = heads; links = links }) (over (note base) tags base m (fresh (length last)))
unfolding over fresh
none_over tags base m groups last heads links z e =
    rw z (whole last heads links (replicate (length last) 0) (replicate max_words 0) (replicate (length last) 0) e.lasts e.words e.each)
  where
    whole : (a b c x y z : List ℕ) → a ≡ x → b ≡ y → c ≡ z
        → ◌≡◌ {A = Chains} (record { last = a; heads = b; links = c }) (record { last = x; heads = y; links = z })
    whole a b c x y z p q r = rw (p, q, r)

pub chained-none : (log : List ℕ) (groups homes start end : ℕ) (last heads links : List ℕ) → homes ≤ max_homes → end ≤ 7 * start
    → Empty groups last heads links → Chained log groups homes start end last heads links
chained-none log groups homes start end last heads links few h z =
    chained-all log groups homes start end 0 last heads links few (omega arith) (omega arith) z.long (none_over _ _ _ _ _ _ _ refl z)
