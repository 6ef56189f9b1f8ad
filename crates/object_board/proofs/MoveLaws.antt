-- Where a stage of the machine leads.
use Prim.Native.Nat.{ℕ}
use mathlib.Core.Path.{◌≡◌, refl, sym, ap, ◌∙◌}
use mathlib.Core.Logic.{◌⊎◌, inl, inr}
use mathlib.Core.Bool.{Bool, true, false, cond, not, ◌&&◌, false≢true}
use lib.Dec.{eqb}
use lib.ListN.{get_or}
use borrow.Author.Tests.{eqb-true, eqb-false, eq-eqb}
use Rattle.model.specs.declared.State.{State}
use Rattle.model.specs.declared.Holder.{Holder}
use Rattle.object_machine.specs.declared.Control.{Control}
use Rattle.object_machine.specs.declared.Moved.{Moved}
use Rattle.object_machine.specs.Control.{ready, with_stage, with_condition, with_batch, with_cursor, with_room}
use Rattle.object_machine.specs.Moves.{done, load, pass, moved, answers, passes, after, goes_further, full, may_make_room, tells_holder, refuses, headed_at, called, settled, gives_up_at, looks, more, uncalled}

and_both : (a b : Bool) → (a && b) ≡ true → (a ≡ true) × (b ≡ true)
and_both true b e = (refl, e)
and_both false b e = absurd (false≢true e)

-- the cursor after a done call
abbrev pub gone : Control → State → Control
gone c st = with_cursor c c.at (headed_at c st) c.step

pub data CalledTo (c : Control) (code figure size : ℕ) (st : State) (m : Moved) : Type 0 where
  -- done, and the operation is over
  over : code ≡ 0 → size ≡ 0 → get_or after c.stage 0 ≡ 22 → m ≡ moved (with_stage (gone c st) 0) (done 0 figure) → CalledTo c code figure size st m
  -- done: the batch, and then the next stage
  on : code ≡ 0 → (get_or after c.stage 0 ≡ 22 → size ≡ 0 → ⊥) → m ≡ moved (with_batch (gone c st) (get_or after c.stage 0) figure size) pass
      → CalledTo c code figure size st m
  -- refused: room, a fence in place of a flush, or the answer
  room : (code ≡ 0 → ⊥) → code ≡ full c.stage → m ≡ moved (with_room c 7 st.start) pass → CalledTo c code figure size st m
  fence : (code ≡ 0 → ⊥) → c.stage ≡ 7 → m ≡ moved (with_stage c 8) pass → CalledTo c code figure size st m
  no : (told : ℕ) → (code ≡ 0 → ⊥) → m ≡ moved (with_stage c 0) (done code told) → CalledTo c code figure size st m

module _ (c : Control) (code figure size groups : ℕ) (st : State) (h : Holder) where
  goes_to : code ≡ 0 → CalledTo c code figure size st (goes_further (gone c st) (get_or after c.stage 0) figure size)
  unfolding goes_further answers passes
  goes_to e = go (eqb (get_or after c.stage 0) 22 && eqb size 0) refl
    where
      go : (d : Bool) → (eqb (get_or after c.stage 0) 22 && eqb size 0) ≡ d
          → CalledTo c code figure size st
          (cond d (moved (with_stage (gone c st) 0) (done 0 figure)) (moved (with_batch (gone c st) (get_or after c.stage 0) figure size) pass))
      go true q = let k = and_both (eqb (get_or after c.stage 0) 22) (eqb size 0) q in over e (eqb-true size 0 k.1) (eqb-true (get_or after c.stage 0) 22 k.0) refl
      go false q =
          on e (λ a b. false≢true (sym q ∙ ap (λ (x : Bool). x && eqb size 0) (eq-eqb (get_or after c.stage 0) 22 a) ∙ eq-eqb size 0 b)) refl

  refuses-to : (code ≡ 0 → ⊥) → CalledTo c code figure size st (refuses c code groups st h)
  unfolding refuses answers passes
  refuses-to n = go (eqb code (full c.stage) && may_make_room c groups st h) refl (eqb c.stage 7 && eqb code 18) refl
    where
      go : (a : Bool) → (eqb code (full c.stage) && may_make_room c groups st h) ≡ a → (b : Bool) → (eqb c.stage 7 && eqb code 18) ≡ b
          → CalledTo c code figure size st
          (cond a (moved (with_room c 7 st.start) pass) (cond b (moved (with_stage c 8) pass) (moved (with_stage c 0) (done code (tells_holder code h)))))
      go true p b q = room n (eqb-true code (full c.stage) (and_both (eqb code (full c.stage)) (may_make_room c groups st h) p).0) refl
      go false p true q = fence n (eqb-true c.stage 7 (and_both (eqb c.stage 7) (eqb code 18) q).0) refl
      go false p false q = no (tells_holder code h) n refl

  pub called-to : CalledTo c code figure size st (called c code figure size groups st h)
  unfolding called
  called-to = go (eqb code 0) refl
    where
      go : (d : Bool) → eqb code 0 ≡ d
          → CalledTo c code figure size st (cond d (goes_further (gone c st) (get_or after c.stage 0) figure size) (refuses c code groups st h))
      go true e = goes_to (eqb-true code 0 e)
      go false e = refuses-to (eqb-false code 0 e)

pub data UncalledTo (c : Control) (log_size area_size : ℕ) (m : Moved) : Type 0 where
  load-log : c.stage ≡ 19 → m ≡ moved (with_stage c 20) (load 0 log_size) → UncalledTo c log_size area_size m
  load-area : c.stage ≡ 20 → m ≡ moved (with_stage c 1) (load 1 area_size) → UncalledTo c log_size area_size m
  opens : c.stage ≡ 21 → m ≡ moved (with_condition c ready 0) (done 0 c.figure) → UncalledTo c log_size area_size m
  ends : (told : ℕ) → (c.stage ≡ 22) ⊎ (c.stage ≡ 25) → m ≡ moved (with_stage c 0) (done 0 told) → UncalledTo c log_size area_size m
  settles : c.stage ≡ 23 → m ≡ moved (with_stage c 11) pass → UncalledTo c log_size area_size m
  again : (c.stage ≡ 21 → ⊥) → m ≡ moved (with_stage c c.op) pass → UncalledTo c log_size area_size m
  gives_up : (told : ℕ) → (c.stage ≡ 21 → ⊥) → m ≡ moved (with_stage c 0) (done (full c.op) told) → UncalledTo c log_size area_size m

module _ (c : Control) (log_size area_size : ℕ) (st : State) (h : Holder) where
  looks-to : (c.stage ≡ 21 → ⊥) → UncalledTo c log_size area_size (looks c st h)
  unfolding looks gives_up_at answers passes
  looks-to n = go (eqb st.start c.from) (eqb c.stage 23 && not (settled st)) refl
    where
      go : (a b : Bool) → (eqb c.stage 23 && not (settled st)) ≡ b
          → UncalledTo c log_size area_size
          (cond a (cond b (moved (with_stage c 11) pass) (moved (with_stage c 0) (done (full c.op) (tells_holder (full c.op) h))))
          (moved (with_stage c c.op) pass))
      go true true q = settles (eqb-true c.stage 23 (and_both (eqb c.stage 23) (not (settled st)) q).0) refl
      go true false q = gives_up (tells_holder (full c.op) h) n refl
      go false b q = again n refl

  pub uncalled-to : UncalledTo c log_size area_size (uncalled c log_size area_size st h)
  unfolding uncalled answers
  uncalled-to = go (eqb c.stage 19) refl (eqb c.stage 20) refl (eqb c.stage 21) refl (eqb c.stage 22) refl (eqb c.stage 25) refl
    where
      go : (a : Bool) → eqb c.stage 19 ≡ a → (b : Bool) → eqb c.stage 20 ≡ b → (d : Bool) → eqb c.stage 21 ≡ d → (e : Bool) → eqb c.stage 22 ≡ e → (f : Bool)
          → eqb c.stage 25 ≡ f
          → UncalledTo c log_size area_size
          (cond a (moved (with_stage c 20) (load 0 log_size))
          (cond b (moved (with_stage c 1) (load 1 area_size))
          (cond d (moved (with_condition c ready 0) (done 0 c.figure))
          (cond e (moved (with_stage c 0) (done 0 c.figure)) (cond f (moved (with_stage c 0) (done 0 (more st))) (looks c st h))))))
      go true p b q d r e s f t = load-log (eqb-true c.stage 19 p) refl
      go false p true q d r e s f t = load-area (eqb-true c.stage 20 q) refl
      go false p false q true r e s f t = opens (eqb-true c.stage 21 r) refl
      go false p false q false r true s f t = ends c.figure (inl (eqb-true c.stage 22 s)) refl
      go false p false q false r false s true t = ends (more st) (inr (eqb-true c.stage 25 t)) refl
      go false p false q false r false s false t = looks-to (eqb-false c.stage 21 r)
