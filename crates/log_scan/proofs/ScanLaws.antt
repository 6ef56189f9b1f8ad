-- Laws of the pass over the log: its numbers stay small, it goes by groups, and it finds what the commit rule says. Assumes nothing.
use mathlib.Core.Path.{◌≡◌, refl, sym, ap, ◌∙◌}
use mathlib.Core.Bool.{Bool, true, false, cond, ◌&&◌}
use mathlib.Core.List.{List}
use Prim.Native.Nat.{ℕ, zero, suc, ◌+◌, ◌-◌, ◌*◌, ◌/◌, ◌≤◌, ◌<◌}
use native.Mathlib.Decide.{dec_lt, ℕ_discrete}
use native.Mathlib.Nat.{add-zero}
use native.Mathlib.Numerals.{add-one}
use native.Mathlib.Omega.{arith}
use borrow.Author.Tests.{eq-eqb, ne_eqb}
use lib.Dec.{eqb}
use lib.ListN.{length, get_or, set, replicate, length-set, length-append, length-replicate}
use lib.Seq.{get_or-set_same, get_or-set_other, set_out}
use Rattle.model.specs.Bytes.{zeros}
use Rattle.model.specs.Tag.{belongs, read_tag}
use Rattle.model.specs.Layout.{group_at, group_valid, turn_of, slot_of, index_of, word_there, entry_within, entry_at}
use Rattle.model.specs.Commit.{members, complete, linked, Walk, decided_closing, visit, walk, started, committed}
use Rattle.model.specs.declared.Tag.{Tag}
use Rattle.model.specs.declared.Tag.TheVariants.{Nothing, Entry, Closing}
use Rattle.model_laws.proofs.rule.Closings.{end_of}
use Rattle.model_laws.proofs.rule.ClosingLaws.{members-more, members-same, end_more, last_at, walk_more, walked, committed-stopped}
use Rattle.model_laws.proofs.bytes.ByteLaws.{length-zeros}
use Rattle.model_laws.proofs.state.OrderLaws.{byte-zeros}
use Rattle.model_laws.proofs.bytes.TagLaws.{entry_known, closing-known}
use Rattle.log_scan.specs.declared.commits.Progress.{Progress}
use Rattle.log_scan.specs.Scan.{Scan, fresh, counted, taken, decided, enter, over, entered, Within}

-- ---- the numbers of a pass stay small

get_d-counted : (counts : List ℕ) (i j : ℕ) → get_or (counted counts i) j 0 ≤ get_or counts j 0 + 1
unfolding counted
get_d-counted counts i j = go (ℕ_discrete j i) (dec_lt i (length counts))
  where
    go : Dec (j ≡ i) → Dec (i < length counts) → get_or (set counts i (get_or counts i 0 + 1)) j 0 ≤ get_or counts j 0 + 1
    go (yes e) (yes h) = rw (e, get_or-set_same counts i (get_or counts i 0 + 1) 0 h) (omega arith)
    go (yes e) (no h) = rw (set_out counts i (get_or counts i 0 + 1) (omega arith)) (omega arith)
    go (no e) h = rw (get_or-set_other counts i j (get_or counts i 0 + 1) 0 e) (omega arith)

length-counted : (counts : List ℕ) (i : ℕ) → length (counted counts i) ≡ length counts
unfolding counted
length-counted counts i = length-set counts i (get_or counts i 0 + 1)

module _ (base position : ℕ) (s : Scan) (h : base ≤ position) (k : Within base position s) where
  within_same : Within base (position + 1) s
  within_same = record { each = λ i. omega (arith, k.each i); number = omega arith; end = omega arith }

  within-counted : (i : ℕ) (p : Progress) → p.number ≤ s.progress.number + 1 → p.end ≤ position + 1
      → Within base (position + 1) (record { counts = counted s.counts i; progress = p })
  within-counted i p a b =
      record {
        each = λ j. omega (arith, get_d-counted s.counts i j, k.each j);
        number = omega arith;
        end = b;
      }

  within-taken : (b : Bool) → ((taken b position s.progress).number ≤ s.progress.number + 1) × ((taken b position s.progress).end ≤ position + 1)
  unfolding taken
  within-taken true = (omega arith, omega arith)
  within-taken false = (omega arith, omega arith)

  within-enter : (t : Tag) → Within base (position + 1) (enter base position t s)
  unfolding enter decided
  within-enter Nothing = within_same
  within-enter (Entry e f) = within-counted (f - base) s.progress (omega arith) (omega arith)
  within-enter (Closing e f link count) =
      let t = within-taken (eqb s.progress.failed 0 && linked base (last_at s.progress.end) position link && eqb (get_or s.counts (f - base) 0 + 1) count) in
      within-counted (f - base) _ t.0 t.1

entered-within : (tags : ℕ → Tag) (base position m : ℕ) (s : Scan) → base ≤ position → Within base position s
    → Within base (position + m) (entered tags base position m s)
unfolding over
entered-within tags base position zero s h k = rw add-zero k
entered-within tags base position (suc m) s h k =
    let e : position + suc m ≡ position + m + 1 = omega arith in
    rw e (within-enter base (position + m) (entered tags base position m s) (omega arith) (entered-within tags base position m s h k) (tags (position + m)))

pub within-reached : (tags : ℕ → Tag) (base position m reached : ℕ) (s t : Scan) → base ≤ position → reached ≡ position + m
    → t ≡ entered tags base position m s → Within base position s → Within base reached t
within-reached tags base position m reached s t h e f k = rw (e, f) (entered-within tags base position m s h k)

pub fresh-within : (size base : ℕ) → Within base base (fresh size)
unfolding fresh
fresh-within size base = record { each = λ i. rw byte-zeros (omega arith); number = omega arith; end = omega arith }

-- counters of a given size
pub zeros-all : (size : ℕ) → ◌≡◌ {A = List ℕ} (replicate size 0) (zeros (length {A = ℕ} (replicate size 0)))
unfolding zeros
zeros-all size = rw (length-replicate {A = ℕ} size 0)

pub zeros-long : (n size : ℕ) → n ≤ size → n ≤ length {A = ℕ} (replicate size 0)
zeros-long n size l = rw (length-replicate {A = ℕ} size 0) l

-- what says nothing leaves the pass as it is
pub enter-quiet : (base p : ℕ) (s : Scan) → enter base p Nothing s ≡ s
unfolding enter
enter-quiet base p s = refl

-- ---- the pass and the commit rule

-- the first entry of what stands at a position lies between the start and the position
pub record Placed (tags : ℕ → Tag) (base : ℕ) : Type 0 where
  pub entry : (p h f : ℕ) → tags p ≡ Entry h f → (base ≤ f) × (f ≤ p)
  pub closing : (p h f link count : ℕ) → tags p ≡ Closing h f link count → (base ≤ f) × (f ≤ p)

-- the pass over the n positions from base on, with counters for `size` positions, holds what the walk over them says
pub record Agrees (size : ℕ) (tags : ℕ → Tag) (base n : ℕ) (s : Scan) : Type 0 where
  pub room : length s.counts ≡ size
  pub each : (f : ℕ) → base ≤ f → f < base + size → get_or s.counts (f - base) 0 ≡ length (members tags f base n)
  pub end : s.progress.end ≡ end_of (walk tags base n).spans
  pub number : s.progress.number ≡ length (walk tags base n).spans
  pub going : eqb s.progress.failed 0 ≡ (walk tags base n).going

-- what the walk's state and the pass's hold in common
record Matches (p : Progress) (w : Walk) : Type 0 where
  end : p.end ≡ end_of w.spans
  number : p.number ≡ length w.spans
  going : eqb p.failed 0 ≡ w.going

matches-taken : (b : Bool) (position f : ℕ) (p : Progress) (w : Walk) → p.end ≡ end_of w.spans → p.number ≡ length w.spans
    → Matches (taken b position p) (decided_closing b (record { first = f; closing = position }) w)
unfolding taken decided_closing
matches-taken true position f p w e n =
    record {
      end = sym (end_more w.spans (record { first = f; closing = position }));
      number = simp length-append (omega arith);
      going = refl;
    }
matches-taken false position f p w e n = record { end = e; number = n; going = refl }

module _ (size : ℕ) (tags : ℕ → Tag) (base n : ℕ) (s : Scan) (l : n < size) (k : Agrees size tags base n s) where
  -- an entry of the transaction with first position g passes
  counted-each : (g : ℕ) → base ≤ g → g ≤ base + n → ((f : ℕ) → belongs f (tags (base + n)) ≡ eqb f g)
      → (f : ℕ) → base ≤ f → f < base + size → get_or (counted s.counts (g - base)) (f - base) 0 ≡ length (members tags f base (n + 1))
  unfolding counted
  counted-each g a b e f c d = go (ℕ_discrete f g)
    where
      go : Dec (f ≡ g) → get_or (set s.counts (g - base) (get_or s.counts (g - base) 0 + 1)) (f - base) 0 ≡ length (members tags f base (n + 1))
      go (yes z) =
          let r : g - base < length s.counts = omega (arith, k.room) in
          let m : length (members tags f base (n + 1)) ≡ length (members tags f base n) + 1 =
          members-more tags f base n (omega arith) (e f ∙ eq-eqb f g z) in
          let q : get_or s.counts (f - base) 0 ≡ length (members tags f base n) = k.each f c d in
          rw (m, ← q, z) (get_or-set_same s.counts (g - base) (get_or s.counts (g - base) 0 + 1) 0 r)
      go (no z) =
          let m : length (members tags f base (n + 1)) ≡ length (members tags f base n) = members-same tags f base n (λ x. e f ∙ ne_eqb f g z) in
          get_or-set_other s.counts (g - base) (f - base) (get_or s.counts (g - base) 0 + 1) 0 (λ x. z (omega arith)) ∙ k.each f c d ∙ sym m

  agrees-nothing : tags (base + n) ≡ Nothing → Agrees size tags base (n + 1) s
  unfolding visit belongs
  agrees-nothing e =
      let w : walk tags base (n + 1) ≡ walk tags base n = walk_more tags base n ∙ rw e in
      record {
        room = k.room;
        each = λ f a b. k.each f a b ∙ sym (members-same tags f base n (λ x. rw e));
        end = rw w k.end;
        number = rw w k.number;
        going = rw w k.going;
      }

  agrees-entry : (h g : ℕ) → base ≤ g → g ≤ base + n → tags (base + n) ≡ Entry h g
      → Agrees size tags base (n + 1) (record { counts = counted s.counts (g - base); progress = s.progress })
  unfolding visit belongs
  agrees-entry h g a b e =
      let w : walk tags base (n + 1) ≡ walk tags base n = walk_more tags base n ∙ rw e in
      record {
        room = length-counted s.counts (g - base) ∙ k.room;
        each = counted-each g a b (λ f. rw e);
        end = rw w k.end;
        number = rw w k.number;
        going = rw w k.going;
      }

  -- the pass and the walk judge a closing entry alike
  same-decision : (h g link count : ℕ) → base ≤ g → g ≤ base + n → tags (base + n) ≡ Closing h g link count
      → (eqb s.progress.failed 0 && linked base (last_at s.progress.end) (base + n) link && eqb (get_or s.counts (g - base) 0 + 1) count)
      ≡ ((walk tags base n).going && linked base (walk tags base n).last (base + n) link && complete tags base n g count)
  unfolding complete belongs
  same-decision h g link count a b e =
      let m : length (members tags g base (n + 1)) ≡ length (members tags g base n) + 1 =
      members-more tags g base n b (ap (belongs g) e ∙ eq-eqb g g refl) in
      let q : get_or s.counts (g - base) 0 + 1 ≡ length (members tags g base (suc n)) =
      ap (λ (x : ℕ). x + 1) (k.each g a (omega arith)) ∙ sym m ∙ ap (λ (x : ℕ). length (members tags g base x)) (add-one n) in
      rw (k.going, k.end, q, (walked tags base n).last)

  agrees-closing : (h g link count : ℕ) → base ≤ g → g ≤ base + n → tags (base + n) ≡ Closing h g link count
      → Agrees size tags base (n + 1) (record {
        counts = counted s.counts (g - base);
        progress = decided base (base + n) link (eqb (get_or s.counts (g - base) 0 + 1) count) s.progress;
      })
  unfolding visit belongs decided
  agrees-closing h g link count a b e =
      let v : Bool = (walk tags base n).going && linked base (walk tags base n).last (base + n) link && complete tags base n g count in
      let w : walk tags base (n + 1) ≡ decided_closing v (record { first = g; closing = base + n }) (walk tags base n) = walk_more tags base n ∙ rw e in
      let m = matches-taken v (base + n) g s.progress (walk tags base n) k.end k.number in
      record {
        room = length-counted s.counts (g - base) ∙ k.room;
        each = counted-each g a b (λ f. rw e);
        end = rw (w, same-decision h g link count a b e) m.end;
        number = rw (w, same-decision h g link count a b e) m.number;
        going = rw (w, same-decision h g link count a b e) m.going;
      }

agrees-enter : (size : ℕ) (tags : ℕ → Tag) (base n : ℕ) (s : Scan) → n < size → Placed tags base → Agrees size tags base n s
    → (t : Tag) → tags (base + n) ≡ t → Agrees size tags base (n + 1) (enter base (base + n) t s)
unfolding enter
agrees-enter size tags base n s l q k Nothing e = agrees-nothing size tags base n s l k e
agrees-enter size tags base n s l q k (Entry h f) e =
    let r = q.entry (base + n) h f e in
    agrees-entry size tags base n s l k h f r.0 r.1 e
agrees-enter size tags base n s l q k (Closing h f link count) e =
    let r = q.closing (base + n) h f link count e in
    agrees-closing size tags base n s l k h f link count r.0 r.1 e

pub agrees : (size : ℕ) (tags : ℕ → Tag) (base n : ℕ) → n ≤ size → Placed tags base → Agrees size tags base n (entered tags base base n (fresh size))
unfolding over fresh members walk started end_of
agrees size tags base zero h q =
    record { room = length-zeros size; each = λ f a b. byte-zeros size (f - base); end = refl; number = refl; going = refl }
agrees size tags base (suc n) h q =
    let r = agrees size tags base n (omega arith) q in
    rw (← add-one n) (agrees-enter size tags base n (entered tags base base n (fresh size)) (omega arith) q r (tags (base + n)) refl)

-- what the pass found is what the commit rule says: at the end, and where a failure has stopped it
module _ (size : ℕ) (tags : ℕ → Tag) (base n : ℕ) (s : Scan) (h : n ≤ size) (q : Placed tags base) where
  pub found : s ≡ entered tags base base n (fresh size)
      → (s.progress.end ≡ end_of (committed tags base n)) × (s.progress.number ≡ length (committed tags base n))
  unfolding committed
  found e = let r = agrees size tags base n h q in rw e (r.end, r.number)

  pub found-stopped : (i : ℕ) → i ≤ n → s ≡ entered tags base base i (fresh size) → (s.progress.failed ≡ 0 → ⊥)
      → (s.progress.end ≡ end_of (committed tags base n)) × (s.progress.number ≡ length (committed tags base n))
  unfolding committed
  found-stopped i l e g =
      let r = agrees size tags base i (omega arith) q in
      let z : (walk tags base i).going ≡ false = sym r.going ∙ ap (λ (x : Scan). eqb x.progress.failed 0) (sym e) ∙ ne_eqb s.progress.failed 0 g in
      rw (committed-stopped tags base i n l z, e) (r.end, r.number)

-- ---- the log's tags

cond-entry : (b : Bool) (t : Tag) (h f : ℕ) → cond b t Nothing ≡ Entry h f → t ≡ Entry h f
cond-entry true t h f e = e
cond-entry false t h f e = let z : ◌≡◌ {A = ℕ} 0 1 = cc in absurd (omega arith)

cond-closing : (b : Bool) (t : Tag) (h f link count : ℕ) → cond b t Nothing ≡ Closing h f link count → t ≡ Closing h f link count
cond-closing true t h f link count e = e
cond-closing false t h f link count e = let z : ◌≡◌ {A = ℕ} 0 1 = cc in absurd (omega arith)

module _ (group : List ℕ) (groups homes start p : ℕ) where
  in_entry : (h f : ℕ) → entry_within group groups homes start p ≡ Entry h f → (7 * start ≤ f) × (f ≤ p)
  unfolding entry_within
  in_entry h f e =
      let w : ℕ = word_there group (turn_of groups (p / 7)) (index_of p) in
      let r = entry_known w p (7 * start) homes h f (cond-entry (group_valid group groups start (p / 7)) (read_tag w p (7 * start) homes) h f e) in
      (r.1, r.2)

  in-closing : (h f link count : ℕ) → entry_within group groups homes start p ≡ Closing h f link count → (7 * start ≤ f) × (f ≤ p)
  unfolding entry_within
  in-closing h f link count e =
      let w : ℕ = word_there group (turn_of groups (p / 7)) (index_of p) in
      let r = closing-known w p (7 * start) homes h f link count
      (cond-closing (group_valid group groups start (p / 7)) (read_tag w p (7 * start) homes) h f link count e) in
      (r.1, r.2)

pub placed : (log : List ℕ) (groups homes start : ℕ) → Placed (entry_at log groups homes start) (7 * start)
unfolding entry_at
placed log groups homes start =
    record {
      entry = λ p h f e. in_entry (group_at log (slot_of groups p)) groups homes start p h f e;
      closing = λ p h f link count e. in-closing (group_at log (slot_of groups p)) groups homes start p h f link count e;
    }
