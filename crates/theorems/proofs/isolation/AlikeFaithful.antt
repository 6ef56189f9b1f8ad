-- Two histories whose calls are alike, from stores that are alike but for bytes in hidden homes: every call is answered the same, the stores stay alike, and
-- a writer's reads of homes that are not hidden give the same blocks. Over any worlds that are faithful to their abstract stores. Assumes nothing.
use Prim.Native.Nat.{ℕ, zero, suc}
use mathlib.Core.Path.{◌≡◌, refl, sym, ap, ◌∙◌, subst}
use mathlib.Core.Bool.{Bool, true, false, not}
use mathlib.Core.List.{List, [], ◌∷◌}
use native.Mathlib.Omega.{arith}
use lib.Dec.{eqb, ltb}
use lib.ListN.{length}
use Rattle.model.specs.Effects.{Given, Effect, read_effect}
use Rattle.model.specs.Rights.{may_read}
use Rattle.model.specs.Questions.{ask, read_answer}
use Rattle.model.specs.Calls.{refused, done, outcome, read_call}
use Rattle.model.specs.Book.{Book, read_by}
use Rattle.model.specs.DemandTwo.{Live}
use Rattle.model.specs.History.{Call, read, Event, call, World, lent, ends, service_ends, is_opening, after_done, after_refused, after_call, step, Allowed, AllAllowed, calls}
use Rattle.abstract_store.specs.Store.{Store, list_of, Reply, told, reply_service, reply, reply_of, after_reply, follow}
use Rattle.theorems.specs.Isolation.{Each, both, more, StoreAlike, CallAlike, equal, stored, Denied, DeniedThroughout, ToldSameThroughout}
use Rattle.model_laws.proofs.state.QuestionLaws.{ask-passed}
use Rattle.model_laws.proofs.trace.TraceLaws.{All}
use Rattle.theorems.proofs.invariant.TouchLaws.{CommitFits}
use Rattle.theorems.proofs.isolation.AlikeBook.{reads-alike}
use Rattle.theorems.proofs.isolation.AlikeReplies.{ListShown, reply-alike, list-shows, not_hidden}
use Rattle.theorems.proofs.isolation.AlikeFollows.{book-alike, reply-keeps-alike}

-- what it takes of a world beside its abstract store
pub record Faithful (w : World) (s : Store) : Type 0 where
  pub answers : (c : Call) → is_opening c ≡ not w.ready → reply_of (ends w c) ≡ reply s c
  pub fits : w.ready ≡ true → All (CommitFits s.homes) s.book.commits
  pub live : w.ready ≡ true → Live w
  pub book : s.book ≡ w.book
  pub homes : s.homes ≡ w.homes

-- ---- one call

pub refused-block : (g : Given) (a : ℕ) (e : Effect) (k : ℕ) → (outcome g a e).code ≡ suc k → (outcome g a e).block ≡ g.block
unfolding outcome done refused
refused-block g zero e k h = absurd (omega arith)
refused-block g (suc a) e k h = refl

read-refused : (w : World) (v home k : ℕ) (block : List ℕ) → (ends w (read v home block)).code ≡ suc k → (ends w (read v home block)).block ≡ block
unfolding ends service_ends read_call
read-refused w v home k block h =
    let g : Given = lent w block [] v home in
    refused-block g (read_answer g) (read_effect g) k h ∙ (unfold lent in refl)

told-code : (k f z : ℕ) → (told k f z).code ≡ k
unfolding told
told-code zero f z = refl
told-code (suc k) f z = refl

-- a read that is done was allowed
read-allowed : (s : Store) (v home : ℕ) (block : List ℕ) → (reply s (read v home block)).code ≡ 0 → may_read s.homes (list_of s) v home ≡ true
unfolding reply reply_service
read-allowed s v home block h =
    let may : ℕ = ask (may_read s.homes (list_of s) v home) 20 0 in
    let e = sym (told-code (ask (eqb (length block) 64) 1 (ask (ltb v 8) 4 (ask (ltb home s.homes) 5 may))) 0 0) ∙ h in
    let e₁ = (ask-passed (eqb (length block) 64) 0 (ask (ltb v 8) 4 (ask (ltb home s.homes) 5 may)) e).1 in
    let e₂ = (ask-passed (ltb v 8) 3 (ask (ltb home s.homes) 5 may) e₁).1 in
    (ask-passed (may_read s.homes (list_of s) v home) 19 0 (ask-passed (ltb home s.homes) 4 may e₂).1).0

pub ready_on : (w : World) (c : Call) → w.ready ≡ true → (step w (call c)).ready ≡ true
unfolding step
ready_on w c h = go (ends w c).code
  where
    go : (k : ℕ) → (after_call w c (ends w c) k).ready ≡ true
    go zero = unfold after_call after_done in refl
    go (suc k) = unfold after_call after_refused in h

alike_read : (hidden : ℕ → Bool) {c e : Call} (x home : ℕ) (block : List ℕ) → CallAlike hidden c e → c ≡ read x home block → e ≡ read x home block
alike_read hidden x home block equal q = q
alike_read hidden x home block (stored h l) q = absurd (let z : ◌≡◌ {A = ℕ} 0 1 = cc in omega arith)

module _ (hidden : ℕ → Bool) (shows : ListShown hidden) {w v : World} {s t : Store} (r : Faithful w s) (q : Faithful v t) (w-ready : w.ready ≡ true)
    (v-ready : v.ready ≡ true) (a : StoreAlike hidden s t) where
  pub left-fits : All (CommitFits s.homes) s.book.commits
  left-fits = r.fits w-ready

  pub right-fits : All (CommitFits s.homes) t.book.commits
  right-fits = subst (λ (n : ℕ). All (CommitFits n) t.book.commits) (sym a.homes) (q.fits v-ready)

  -- a home that is not hidden reads the same
  pub shown-same : (x home : ℕ) → hidden home ≡ false → read_by w.homes w.book x home ≡ read_by v.homes v.book x home
  shown-same x home h =
      ap (λ (n : ℕ). read_by n w.book x home) (sym r.homes) ∙ ap (λ (b : Book). read_by s.homes b x home) (sym r.book)
      ∙ reads-alike hidden home h s.homes x (book-alike hidden a) left-fits right-fits
      ∙ ap (λ (b : Book). read_by s.homes b x home) q.book
      ∙ ap (λ (n : ℕ). read_by n v.book x home) (a.homes ∙ q.homes)

  module _ {c e : Call} (ok : is_opening c ≡ not w.ready) (ok' : is_opening e ≡ not v.ready) (k : CallAlike hidden c e) where
    not-opening : is_opening c ≡ false
    not-opening = ok ∙ ap not w-ready

    pub same-reply : reply_of (ends w c) ≡ reply_of (ends v e)
    same-reply = r.answers c ok ∙ reply-alike hidden shows a left-fits right-fits not-opening k ∙ sym (q.answers e ok')

    pub next-alike : StoreAlike hidden (follow s w (call c)) (follow t v (call e))
    unfolding follow
    next-alike =
        subst (λ (x : Reply). StoreAlike hidden (after_reply s c (reply_of (ends w c))) (after_reply t e x)) same-reply
        (reply-keeps-alike hidden a (reply_of (ends w c)) not-opening k)

    same_code : (ends w c).code ≡ (ends v e).code
    same_code = unfold reply_of in ap (λ (x : Reply). x.code) same-reply

    -- done, both give what the book says of a home that is not hidden; refused, both leave the block as it was lent
    module _ (writer : ℕ) (d : Denied writer hidden s) (home : ℕ) (block : List ℕ) (x : c ≡ read writer home block) where
      abbrev y : e ≡ read writer home block
      y = alike_read hidden writer home block k x

      told-zero : (ends w c).code ≡ 0 → (reply s (read writer home block)).code ≡ 0
      told-zero h =
          subst (λ (z : Call). (reply s z).code ≡ 0) x
          (sym (ap (λ (p : Reply). p.code) (r.answers c ok)) ∙ (unfold reply_of in h))

      pub same_block : (ends w c).block ≡ (ends v e).block
      same_block = go (ends w c).code refl
        where
          lent-w : (n : ℕ) → (ends w c).code ≡ n → (ends w (read writer home block)).code ≡ n
          lent-w n h = subst (λ (z : Call). (ends w z).code ≡ n) x h

          lent-v : (n : ℕ) → (ends w c).code ≡ n → (ends v (read writer home block)).code ≡ n
          lent-v n h = subst (λ (z : Call). (ends v z).code ≡ n) y (sym same_code ∙ h)

          by_read : (ends w (read writer home block)).block ≡ (ends v (read writer home block)).block → (ends w c).block ≡ (ends v e).block
          by_read h = ap (λ (z : Call). (ends w z).block) x ∙ h ∙ ap (λ (z : Call). (ends v z).block) (sym y)

          go : (n : ℕ) → (ends w c).code ≡ n → (ends w c).block ≡ (ends v e).block
          go zero h =
              by_read
              ((r.live w-ready).readable writer home block (lent-w 0 h)
              ∙ shown-same writer home (not_hidden hidden writer s home d (read-allowed s writer home block (told-zero h)))
              ∙ sym ((q.live v-ready).readable writer home block (lent-v 0 h)))
          go (suc n) h =
              by_read (read-refused w writer home n block (lent-w (suc n) h) ∙ sym (read-refused v writer home n block (lent-v (suc n) h)))

-- ---- every call, where calls lead from faithful worlds to faithful ones

module _ (Kept : World → Store → Type 0) (faithful : (w : World) (s : Store) → Kept w s → Faithful w s)
    (on : (w : World) (s : Store) (e : Event) → Kept w s → Allowed w e → Kept (step w e) (follow s w e)) where
  pub told-kept : (hidden : ℕ → Bool) (writer : ℕ) (cs ds : List Call) (w v : World) (s t : Store) → Kept w s → Kept v t → AllAllowed w (calls cs)
      → AllAllowed v (calls ds) → w.ready ≡ true → v.ready ≡ true → StoreAlike hidden s t → Each (CallAlike hidden) cs ds
      → DeniedThroughout writer hidden s w (calls cs) → ToldSameThroughout writer w v cs ds
  unfolding calls
  told-kept hidden writer [] [] w v s t k m ok ok' w-ready v-ready a both d = tt
  told-kept hidden writer [] (e ∷ ds) w v s t k m ok ok' w-ready v-ready a unequal d = elim unequal [ ]
  told-kept hidden writer (c ∷ cs) [] w v s t k m ok ok' w-ready v-ready a unequal d = elim unequal [ ]
  told-kept hidden writer (c ∷ cs) (e ∷ ds) w v s t k m ok ok' w-ready v-ready a (more x xs) d =
      let shows : ListShown hidden = list-shows hidden writer s d.0 in
      let r : Faithful w s = faithful w s k in
      let q : Faithful v t = faithful v t m in (
        (same-reply hidden shows r q w-ready v-ready a ok.0 ok'.0 x, same_block hidden shows r q w-ready v-ready a ok.0 ok'.0 x writer d.0),
        told-kept hidden writer cs ds (step w (call c)) (step v (call e)) (follow s w (call c)) (follow t v (call e)) (on w s (call c) k ok.0)
            (on v t (call e) m ok'.0) ok.1 ok'.1 (ready_on w c w-ready) (ready_on v e v-ready)
            (next-alike hidden shows r q w-ready v-ready a ok.0 ok'.0 x) xs d.1,
      )
