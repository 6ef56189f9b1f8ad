-- What a done fetch or revise gives, in the book's terms: what a read of each home gives. Assumes nothing.
use Prim.Native.Nat.{ℕ, zero, suc, ◌+◌, ◌/◌, ◌<◌}
use mathlib.Core.Path.{◌≡◌, refl, sym, ap, ◌∙◌}
use mathlib.Core.Bool.{true, cond, ◌&&◌}
use mathlib.Core.List.{List, []}
use mathlib.Core.Option.{Option, none, some}
use native.Mathlib.Omega.{arith}
use lib.ListN.{length}
use borrow.Author.Tests.{eq-eqb, lt-ltb}
use Rattle.model.specs.Bytes.{zeros}
use Rattle.model.specs.Layout.{home_count, home_at}
use Rattle.model.specs.State.{list_home, list_sign, writer_of, held_of, holds_home}
use Rattle.model.specs.declared.Writer.{Writer}
use Rattle.model.specs.Newest.{kept_for}
use Rattle.model.specs.Effects.{Given, homes, newest_own, block_or, own_else, is_there, live_tags, live_base, tags_of, kept_position, shown, read_effect}
use Rattle.model.specs.Rights.{for_home, read_list, right_to_read}
use Rattle.model.specs.Questions.{areas_right, state_right, newest_right, block_right, state_in_order, writer_known, is_home_known, read_allowed, ask_both, read_answer}
use Rattle.model.specs.Calls.{done, outcome, read_call}
use Rattle.acts.specs.Many.{blocks_lent, blocks_read, fetch_effect, may_read_all, fetch_answer, revise_answer, fetch_call, revise_call}
use Rattle.model.specs.Book.{read_by}
use Rattle.model.specs.DemandTwo.{Live}
use Rattle.model.specs.History.{read, World, after_format, lent, ends, service_ends}
use Rattle.abstract_store.specs.Store.{new_store}
use Rattle.acts.specs.Units.{fetch_ends, revise_ends, acted, reads_from, ReadTogether, ActsRead}
use Rattle.model_laws.proofs.bytes.ByteLaws.{length-zeros}
use Rattle.model_laws.proofs.state.QuestionLaws.{ask-yes}
use Rattle.model_laws.proofs.state.RightLaws.{list-by}
use Rattle.acts.proofs.ManyLaws.{HomesReady, each_of, fetch-ready, revise-ready}
use Rattle.theorems.proofs.steps.DoneLaws.{outcome-code, outcome-done}
use Rattle.theorems.proofs.store.Reached.{begins, live_then}
use Rattle.theorems.proofs.rights.ListRights.{shown-at}
use Rattle.theorems.proofs.many.ActsHold.{Somewhere, acts-somewhere}

-- ---- a read does not hang on the block and the batch that it is lent

unfoldable relent : Given → List ℕ → List ℕ → Given
relent g block batch =
    record {
      state = g.state;
      newest = g.newest;
      log = g.log;
      area = g.area;
      block = block;
      batch = batch;
      writer = g.writer;
      home = g.home;
    }

module _ (g : Given) (block batch : List ℕ) where
  block_same : (o : Option ℕ) (other : List ℕ) → block_or (relent g block batch) o other ≡ block_or g o other
  unfolding block_or relent
  block_same none other = refl
  block_same (some p) other = refl

  own_same : (r : Writer) → newest_own (relent g block batch) r ≡ newest_own g r
  unfolding newest_own live_tags tags_of live_base relent
  own_same r = refl

  kept_same : kept_position (relent g block batch) ≡ kept_position g
  unfolding kept_position is_there live_tags tags_of live_base relent
  kept_same = refl

  shown-same : shown (relent g block batch) ≡ shown g
  unfolding shown
  shown-same =
      block_same (kept_position (relent g block batch)) (home_at (relent g block batch).area (relent g block batch).home)
      ∙ rw kept_same (unfold relent in refl)

  else_same : (x : List ℕ) → own_else (relent g block batch) x ≡ own_else g x
  unfolding own_else relent
  else_same x =
      let r : Writer = writer_of g.state g.writer in
      let e : block_or (relent g block batch) (newest_own (relent g block batch) r) x ≡ block_or g (newest_own g r) x =
      block_same (newest_own (relent g block batch) r) x ∙ ap (λ (o : Option ℕ). block_or g o x) (own_same r) in
      ap (λ (y : List ℕ). cond (holds_home r g.home) (held_of g.state g.writer) y) e

  read_same : (read_effect (relent g block batch)).block ≡ (read_effect g).block
  unfolding read_effect
  read_same = ap (own_else (relent g block batch)) shown-same ∙ else_same (shown g)

-- ---- a read of one of the homes

pub list_same : (w : World) (b b' t t' : List ℕ) (v v' h h' : ℕ) → read_list (lent w b t v h) ≡ read_list (lent w b' t' v' h')
unfolding read_list lent
list_same w b b' t t' v v' h h' =
    list-by (lent w b t v h) (lent w b' t' v' h') (λ i. kept_for w.newest (list_home + i)) (λ i. kept_for w.newest (list_home + i)) 4
    (λ i l. shown-at w b t v h (list_home + i) ∙ sym (shown-at w b' t' v' h' (list_home + i)))

module _ (w : World) (v h x : ℕ) (blocks : List ℕ) where
  abbrev one : Given
  one = lent w (zeros 64) [] v x

  abbrev many : Given
  many = lent w blocks [] v h

  lengths : HomesReady many → (areas_right one && state_right one && newest_right one && block_right one) ≡ true
  unfolding areas_right state_right newest_right block_right lent
  lengths r = rw (r.areas, r.state_fits, r.newest, eq-eqb (length (zeros 64)) 64 (length-zeros 64))

  in_order : HomesReady many → state_in_order one ≡ true
  unfolding state_in_order lent
  in_order r = r.order

  known : HomesReady many → writer_known one ≡ true
  unfolding writer_known lent
  known r = r.writer

  below : x < homes many → is_home_known one ≡ true
  unfolding is_home_known lent
  below l = lt-ltb x (home_count (length w.area)) l

  allowed : right_to_read (list_sign w.state) (homes many) (read_list many) v x ≡ true → read_allowed one ≡ true
  unfolding read_allowed
  allowed m = rw (list_same w (zeros 64) blocks [] [] v v x h) (unfold lent in m)

  read-passes : HomesReady many → right_to_read (list_sign w.state) (homes many) (read_list many) v x ≡ true → x < homes many → read_answer one ≡ 0
  unfolding read_answer ask_both
  read-passes r m l =
      ask-yes (areas_right one && state_right one && newest_right one && block_right one) 1 _ (lengths r) ∙ ask-yes (state_in_order one) 2 _ (in_order r)
      ∙ ask-yes (writer_known one) 4 _ (known r) ∙ ask-yes (is_home_known one) 5 _ (below l) ∙ ask-yes (read_allowed one) 20 0 (allowed m)

  block_read : read_answer one ≡ 0 → (ends w (read v x (zeros 64))).block ≡ (read_effect (for_home many x)).block
  unfolding ends service_ends read_call
  block_read e = rw (outcome-done one (read_answer one) (read_effect one) e) (unfold done in same)
    where
      same : (read_effect one).block ≡ (read_effect (for_home many x)).block
      same = (unfold lent for_home relent in read_same (for_home many x) (zeros 64) [])

  code_read : read_answer one ≡ 0 → (ends w (read v x (zeros 64))).code ≡ 0
  unfolding ends service_ends read_call
  code_read e = outcome-code one (read_answer one) (read_effect one) ∙ e

  reads_so : Live w → HomesReady many → right_to_read (list_sign w.state) (homes many) (read_list many) v x ≡ true → x < homes many
      → (read_effect (for_home many x)).block ≡ read_by w.homes w.book v x
  reads_so live r m l = let e = read-passes r m l in sym (block_read e) ∙ live.readable v x (zeros 64) (code_read e)

-- ---- all of them

module _ (w : World) (live : Live w) (v h : ℕ) (blocks : List ℕ) where
  abbrev g : Given
  g = lent w blocks [] v h

  read-each : (n : ℕ) → ((i : ℕ) → i < n → (read_effect (for_home g (h + i))).block ≡ read_by w.homes w.book v (h + i))
      → blocks_read g n ≡ reads_from w.homes w.book v h n
  unfolding blocks_read reads_from lent
  read-each zero f = refl
  read-each (suc n) f = rw (read-each n (λ i l. f i (omega arith)), f n (omega arith))

  fetch-block : HomesReady g → may_read_all g ≡ true → (fetch_effect g).block ≡ reads_from w.homes w.book v h (length blocks / 64)
  unfolding fetch_effect may_read_all blocks_lent lent
  fetch-block r m =
      read-each (length blocks / 64)
      (λ i l. reads_so w v h (h + i) blocks live r (each_of (right_to_read (list_sign w.state) (homes g) (read_list g) v) h (length blocks / 64) m i l) (let q = r.homes in omega arith))

  outcome-block : (a : ℕ) → (outcome g a (fetch_effect g)).code ≡ 0 → (outcome g a (fetch_effect g)).block ≡ (fetch_effect g).block
  outcome-block a z = rw (outcome-done g a (fetch_effect g) (sym (outcome-code g a (fetch_effect g)) ∙ z)) (unfold done in refl)

  pub read-together : ReadTogether w v h blocks
  unfolding fetch_ends revise_ends fetch_call revise_call
  read-together =
      record {
        fetched = λ z.
            let k = fetch-ready g (sym (outcome-code g (fetch_answer g) (fetch_effect g)) ∙ z) in
            outcome-block (fetch_answer g) z ∙ fetch-block k.0 k.1;
        revised = λ z.
            let k = revise-ready g (sym (outcome-code g (revise_answer g) (fetch_effect g)) ∙ z) in
            outcome-block (revise_answer g) z ∙ fetch-block k.0 k.2;
      }

pub read_at : (w : World) → Somewhere w → w.ready ≡ true → (v h : ℕ) (blocks : List ℕ) → ReadTogether w v h blocks
read_at w (s, r) ready v h blocks = read-together w (live_then w s r ready) v h blocks

pub acts-read : ActsRead
acts-read groups homes f acts a ready v h blocks =
    read_at (acted (after_format f) acts) (acts-somewhere acts (after_format f) (new_store groups homes, begins f) a) ready v h blocks
