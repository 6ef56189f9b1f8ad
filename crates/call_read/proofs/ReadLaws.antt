-- Laws for read: the entry that a writer sees, found layer by layer, and the block that is shown. Assumes nothing.
use mathlib.Core.Path.{◌≡◌, refl, sym, ap, ◌∙◌}
use mathlib.Core.Bool.{Bool, true, false, cond}
use mathlib.Core.List.{List}
use mathlib.Core.Option.{Option, none, some}
use Prim.Native.Nat.{ℕ, ◌+◌, ◌-◌, ◌*◌, ◌/◌, ◌%◌, ◌^◌, ◌≤◌, ◌<◌}
use native.Mathlib.Omega.{arith}
use lib.Dec.{ltb, eqb}
use lib.ListN.{length}
use borrow.Author.Tests.{ltb-true, lt-ltb, le-ltb, leb-true}
use Rattle.model.specs.Bytes.{part, puts}
use Rattle.model.specs.Layout.{block_at, home_count, home_at}
use Rattle.model.specs.Commit.{members, newest_in, or_else}
use Rattle.model.specs.Newest.{kept_for}
use Rattle.model.specs.State.{state_of, next_position, writer_of, held_offset, held_of, holds, has_logged, holds_home}
use Rattle.model.specs.declared.State.{State}
use Rattle.model.specs.declared.Writer.{Writer}
use Rattle.model.specs.Effects.{Given, groups, homes, tags_of, live_tags, live_base, newest_own, block_or, own_else, kept_position, shown, read_effect}
use Rattle.model.specs.Batch.{batch_bytes}
use Rattle.model.specs.Questions.{writer_known, is_home_known, read_allowed, ask_both, read_answer}
use Rattle.model.specs.Calls.{read_call}
use Rattle.model_laws.proofs.bytes.ByteLaws.{puts-nil, puts_whole, length_part}
use Rattle.model_laws.proofs.state.OrderLaws.{InOrder}
use Rattle.call_ask.proofs.AnswerLaws.{Usable, refused-by, done-by}
use Rattle.call_ask.proofs.NewestAnswers.{both-refuses, both-passes, both_zero, both-usable}
use Rattle.call_ask.specs.Lent.{leaves_everything}
use Rattle.model_laws.proofs.state.QuestionLaws.{ask-yes, ask-no, ask-passed}
use Rattle.log_scan.specs.Members.{Stretch}
use Rattle.log_shown.specs.There.{tags_by, there_by, place_of, place_by, Searchable}
use Rattle.log_shown.proofs.ThereLaws.{there-same, there-below}
use Rattle.log_search.specs.Codes.{code_of}
use Rattle.call_read.specs.Newest.{own_entry, entry_kept, seen_entry}
use Rattle.call_read.specs.Shown.{read_block}

-- ---- the numbers of a usable strip

pub home_known : (log area state : List ℕ) (st : State) (home : ℕ) → Usable log area state → st ≡ state_of state → home < home_count (length area) → home < st.homes
home_known log area state st home u e h = rw e (omega (arith, u.order.homes_same))

pub own_first : (log area state : List ℕ) (st : State) (r : Writer) (w : ℕ) → Usable log area state → st ≡ state_of state → r ≡ writer_of state w → w < 8
    → 3 ≤ r.mode → (7 * st.start ≤ r.first) × (r.first < next_position st)
own_first log area state st r w u es er h = rw (es, er) (λ m. let k = (u.order.writers w h).logged m in (k.0, k.1))

-- ---- codes

code-none : (o : Option ℕ) (x : ℕ) → x ≡ code_of o → x ≡ 0 → o ≡ none
unfolding code_of
code-none none x e z = refl
code-none (some p) x e z = absurd (omega arith)

code-some : (o : Option ℕ) (x : ℕ) → x ≡ code_of o → (x ≡ 0 → ⊥) → o ≡ some (x - 1)
unfolding code_of
code-some none x e n = absurd (n e)
code-some (some p) x e n = let q : p ≡ x - 1 = omega arith in ap some q

-- ---- a writer's own entries

pub own-none : (log : List ℕ) (st : State) (r : Writer) (home : ℕ) (b : Bool) → b ≡ has_logged r → b ≡ false → 0 ≡ code_of (own_entry log st r home)
unfolding own_entry code_of
own-none log st r home b e f = rw (sym e ∙ f)

pub own-some : (log : List ℕ) (st : State) (r : Writer) (home end x : ℕ) (b : Bool) → b ≡ has_logged r → b ≡ true → end ≡ next_position st
    → x ≡ code_of (newest_in (tags_by log st) home (members (tags_by log st) r.first (7 * st.start) (end - 7 * st.start)))
    → x ≡ code_of (own_entry log st r home)
unfolding own_entry
own-some log st r home end x b e f g h = h ∙ rw (sym e ∙ f, g)

own-mode : (r : Writer) (b : Bool) → b ≡ has_logged r → b ≡ true → 3 ≤ r.mode
unfolding has_logged
own-mode r b e f = leb-true 3 r.mode (sym e ∙ f)

pub own-stretch : (log : List ℕ) (st : State) (r : Writer) (end : ℕ) (b : Bool) → Searchable log st
    → (3 ≤ r.mode → (7 * st.start ≤ r.first) × (r.first < next_position st)) → b ≡ has_logged r → b ≡ true → end ≡ next_position st
    → Stretch log st.groups st.start r.first end
own-stretch log st r end b s p e f g =
    let k = p (own-mode r b e f) in
    record {
      long = s.long;
      some = omega (arith, s.least);
      most = s.most;
      low = s.low;
      from = k.0;
      upto = omega (arith, k.1);
      within = omega (arith, s.within);
    }

-- ---- the entry at the kept position

module _ (log newest : List ℕ) (st : State) (home p : ℕ) (b : Bool) (e : p ≡ kept_for newest home) (t : b ≡ there_by log st home p) where
  pub kept-none : b ≡ false → 0 ≡ code_of (entry_kept log newest st home)
  unfolding entry_kept code_of
  kept-none f = rw (← e, sym t ∙ f)

  pub kept-some : b ≡ true → p + 1 ≡ code_of (entry_kept log newest st home)
  unfolding entry_kept code_of
  kept-some f = rw (← e, sym t ∙ f)

  pub kept_low : Searchable log st → b ≡ true → p + 1 < 2 ^ 64
  kept_low s f = omega (arith, there-below log st home p (sym t ∙ f), s.within, s.low, s.most)

-- ---- the entry that a writer sees

module _ (log newest : List ℕ) (st : State) (r : Writer) (home own : ℕ) (e : own ≡ code_of (own_entry log st r home)) where
  pub seen-own : (own ≡ 0 → ⊥) → own ≡ code_of (seen_entry log newest st r home)
  unfolding seen_entry code_of or_else
  seen-own n = e ∙ ap code_of (first (own_entry log st r home) _ (λ z. n (e ∙ z)))
    where
      first : (a b : Option ℕ) → (code_of a ≡ 0 → ⊥) → a ≡ or_else a b
      first none b n = absurd (n refl)
      first (some p) b n = refl

  pub seen-kept : (x : ℕ) → own ≡ 0 → x ≡ code_of (entry_kept log newest st home) → x ≡ code_of (seen_entry log newest st r home)
  unfolding seen_entry or_else
  seen-kept x z q = q ∙ rw (code-none (own_entry log st r home) own e z)

-- ---- blocks that are copied

pub held-copied : (block state : List ℕ) (w : ℕ) → length block ≡ 64 → length state ≡ 1024 → w < 8
    → puts block 0 (part state (320 + 64 * w) 64) ≡ held_of state w
unfolding held_of held_offset
held-copied block state w e l h =
    let q : length (part state (320 + 64 * w) 64) ≡ 64 = length_part state (320 + 64 * w) 64 (omega arith) in
    puts_whole block (part state (320 + 64 * w) 64) (omega arith)

-- ---- a home that is held

pub held-other : (r : Writer) (home : ℕ) (b : Bool) → b ≡ holds r → b ≡ false → false ≡ holds_home r home
unfolding holds_home
held-other r home b e f = rw (sym e ∙ f)

pub held-tested : (r : Writer) (home : ℕ) (b : Bool) → b ≡ holds r → b ≡ true → eqb r.home home ≡ holds_home r home
unfolding holds_home
held-tested r home b e f = rw (sym e ∙ f)

-- ---- the block that is shown

module _ (g : Given) (st : State) (r : Writer) (es : st ≡ state_of g.state) (er : r ≡ writer_of g.state g.writer) where
  own_same : InOrder g.state (groups g) (homes g) → newest_own g r ≡ own_entry g.log st r g.home
  unfolding newest_own own_entry live_tags tags_of live_base
  own_same o = rw (es, o.groups-same, o.homes_same)

  kept_same : InOrder g.state (groups g) (homes g) → kept_position g ≡ entry_kept g.log g.newest st g.home
  unfolding kept_position entry_kept
  kept_same o = rw (there-same g st es o.groups-same o.homes_same (kept_for g.newest g.home))

  pub shown-held : (b : Bool) (d : List ℕ) → b ≡ holds_home r g.home → b ≡ true → d ≡ held_of g.state g.writer → d ≡ read_block g
  unfolding own_else
  shown-held b d e f h = rw (← er, sym e ∙ f) h

  -- what is logged, by the entry seen
  layers-none : (a b : Option ℕ) (other : List ℕ) → or_else a b ≡ none → other ≡ block_or g a (block_or g b other)
  unfolding or_else block_or
  layers-none none none other e = refl
  layers-none none (some p) other e = let z : ◌≡◌ {A = ℕ} 0 1 = cc in absurd (omega arith)
  layers-none (some p) b other e = let z : ◌≡◌ {A = ℕ} 0 1 = cc in absurd (omega arith)

  layers-some : (a b : Option ℕ) (p : ℕ) (other : List ℕ) → or_else a b ≡ some p → block_at g.log (groups g) p ≡ block_or g a (block_or g b other)
  unfolding or_else block_or
  layers-some none none p other e = let z : ◌≡◌ {A = ℕ} 0 1 = cc in absurd (omega arith)
  layers-some none (some q) p other e = let z : p ≡ q = cc in rw z
  layers-some (some q) b p other e = let z : p ≡ q = cc in rw z

  pub shown-home : (b : Bool) (x : ℕ) (d : List ℕ) → InOrder g.state (groups g) (homes g) → b ≡ holds_home r g.home → b ≡ false
      → x ≡ code_of (seen_entry g.log g.newest st r g.home) → x ≡ 0 → d ≡ home_at g.area g.home → d ≡ read_block g
  unfolding own_else shown seen_entry
  shown-home b x d o e f s z h =
      let q = code-none _ x s z in
      rw (← er, sym e ∙ f, own_same o, kept_same o) (h ∙ layers-none (own_entry g.log st r g.home) (entry_kept g.log g.newest st g.home) _ q)

  pub shown-entry : (b : Bool) (x : ℕ) (d : List ℕ) → InOrder g.state (groups g) (homes g) → b ≡ holds_home r g.home → b ≡ false
      → x ≡ code_of (seen_entry g.log g.newest st r g.home) → (x ≡ 0 → ⊥) → d ≡ block_at g.log st.groups (x - 1) → d ≡ read_block g
  unfolding own_else shown seen_entry
  shown-entry b x d o e f s n h =
      let q = code-some _ x s n in
      let w : st.groups ≡ groups g = ap (λ (t : State). t.groups) es ∙ o.groups-same in
      rw (← er, sym e ∙ f, own_same o, kept_same o)
      ((rw w at h) ∙ layers-some (own_entry g.log st r g.home) (entry_kept g.log g.newest st g.home) (x - 1) _ q)

-- ---- the questions

module _ (g : Given) where
  pub first-refuse : (x : ℕ) → x ≡ ask_both g 0 → (x ≡ 0 → ⊥) → x ≡ read_answer g
  unfolding read_answer
  first-refuse x e n = both-refuses g x _ e n

  pub writer-refused : ask_both g 0 ≡ 0 → 8 ≤ g.writer → 4 ≡ read_answer g
  unfolding read_answer writer_known
  writer-refused e h = sym (both-passes g _ e ∙ ask-no (ltb g.writer 8) 4 _ (le-ltb g.writer 8 h))

  pub home-refused : ask_both g 0 ≡ 0 → g.writer < 8 → homes g ≤ g.home → 5 ≡ read_answer g
  unfolding read_answer writer_known is_home_known
  home-refused e w h =
      sym (both-passes g _ e ∙ ask-yes (ltb g.writer 8) 4 _ (lt-ltb g.writer 8 w) ∙ ask-no (ltb g.home (homes g)) 5 _ (le-ltb g.home (homes g) h))

  module _ (e : ask_both g 0 ≡ 0) (w : g.writer < 8) (h : g.home < homes g) (b : Bool) (q : b ≡ read_allowed g) where
    pub right-refused : b ≡ false → 20 ≡ read_answer g
    unfolding read_answer writer_known is_home_known
    right-refused n =
        sym
        (both-passes g _ e ∙ ask-yes (ltb g.writer 8) 4 _ (lt-ltb g.writer 8 w)
        ∙ ask-yes (ltb g.home (homes g)) 5 _ (lt-ltb g.home (homes g) h)
        ∙ ask-no (read_allowed g) 20 0 (sym q ∙ n))

    pub none-refused : b ≡ true → 0 ≡ read_answer g
    unfolding read_answer writer_known is_home_known
    none-refused n =
        sym
        (both-passes g _ e ∙ ask-yes (ltb g.writer 8) 4 _ (lt-ltb g.writer 8 w)
        ∙ ask-yes (ltb g.home (homes g)) 5 _ (lt-ltb g.home (homes g) h)
        ∙ ask-yes (read_allowed g) 20 0 (sym q ∙ n))

  -- what a read that none refuses is lent
  pub ready : read_answer g ≡ 0 → Usable g.log g.area g.state × (length g.block ≡ 64) × (length g.newest ≡ 8 * homes g) × (g.writer < 8) × (g.home < homes g)
  unfolding read_answer writer_known is_home_known
  ready e =
      let a : ask_both g 0 ≡ 0 = both_zero g _ e in
      let b = both-usable g a in
      let r = sym (both-passes g _ a) ∙ e in
      let w = ask-passed (ltb g.writer 8) 3 _ r in
      let h = ask-passed (ltb g.home (homes g)) 4 _ w.1 in
      (b.0, b.1, b.2, ltb-true g.writer 8 w.0, ltb-true g.home (homes g) h.0)

  -- how a read ends
  pub read-refused : (x code figure size : ℕ) → x ≡ read_answer g → (x ≡ 0 → ⊥) → code ≡ x → figure ≡ 0 → size ≡ 0
      → leaves_everything code figure size g.log g.area g.state g.newest g.block g.batch ≡ read_call g
  unfolding read_call
  read-refused x code figure size e n h f s = refused-by g (read_effect g) (read_answer g) code figure size (h ∙ e) (λ z. n (sym h ∙ z)) f s

  pub read_done : (x code figure size : ℕ) (block : List ℕ) → x ≡ read_answer g → x ≡ 0 → code ≡ 0 → figure ≡ 0 → size ≡ 0 → block ≡ read_block g
      → leaves_everything code figure size g.log g.area g.state g.newest block g.batch ≡ read_call g
  unfolding read_call read_effect batch_bytes
  read_done x code figure size block e z h f s b =
      done-by g (read_effect g) (read_answer g) code figure size g.log g.area g.state g.newest block g.batch (sym e ∙ z) h f s refl refl refl refl b
      (sym (puts-nil g.batch 0))

-- ---- an entry, by the place of its block

module _ (log : List ℕ) (st : State) (home p at : ℕ) (e : at ≡ place_by log st home p) where
  pub place-hole : at ≡ 0 → false ≡ there_by log st home p
  unfolding place_by place_of
  place-hole z = go (there_by log st home p) e
    where
      go : (b : Bool) → at ≡ cond b (64 + 512 * (p / 7 % st.groups) + (64 + 64 * (p % 7))) 0 → false ≡ b
      go true f = absurd (omega arith)
      go false f = refl

  pub place-entry : (at ≡ 0 → ⊥) → true ≡ there_by log st home p
  unfolding place_by
  place-entry z = go (there_by log st home p) e
    where
      go : (b : Bool) → at ≡ cond b (place_of st.groups p) 0 → true ≡ b
      go true f = refl
      go false f = absurd (z f)
