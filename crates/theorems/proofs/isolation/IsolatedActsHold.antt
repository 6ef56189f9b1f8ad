-- Rights keep what a writer may not read from it in histories with calls on several homes, and from the format on. Assumes nothing.
use Prim.Native.Nat.{ℕ}
use mathlib.Core.Path.{◌≡◌, refl, sym, ap, ◌∙◌, subst}
use mathlib.Core.Bool.{Bool, true, false, cond, not, false≢true}
use mathlib.Core.List.{List, [], ◌∷◌, ◌++◌}
use lib.Dec.{eqb}
use borrow.Author.Tests.{eqb-true}
use Rattle.model.specs.History.{Service, settles, round_begins, round_steps, trims, reads, Call, opening, confirm, change, service, read, Event, call, World, Formatting, after_format, ends, is_opening, step, after}
use Rattle.acts.specs.Units.{Act, fetch_ends, revise_ends, left_under, act, acted, ActAllowed, AllActsAllowed, expand, expand_all}
use Rattle.abstract_store.specs.Store.{Store, new_store, follow}
use Rattle.theorems.specs.Isolation.{Each, both, more, StoreAlike, CallAlike, equal, stored, Denied, DeniedThroughout, followed}
use Rattle.theorems.specs.IsolatedActs.{ActAlike, called, transacted, fetched, revised, BeforeAlike, differs, shares, answer_of, block_of_service, block_of_read, blocks_of, SameThroughout, followed_acts, ActsIsolated, IsolatedFromFormat}
use Rattle.theorems.proofs.steps.FormatRuns.{after-format}
use Rattle.theorems.proofs.store.Reached.{Reached, begins, followed-append, goes-along}
use Rattle.theorems.proofs.many.ActsHold.{act-expands}
use Rattle.theorems.proofs.isolation.AlikeReplies.{ListShown, list-shows}
use Rattle.theorems.proofs.isolation.AlikeFollows.{store-self}
use Rattle.theorems.proofs.isolation.AlikeHistories.{ready_on, same-reply, same_block, next-alike}
use Rattle.theorems.proofs.isolation.AlikeActs.{transact-same, transact-next, fetch-same, fetch-block, revise-same, revise-block}

-- ---- acts one behind the other

pub acts-split : (xs ys : List Act) (w : World) → AllActsAllowed w (xs ++ ys) → AllActsAllowed w xs × AllActsAllowed (acted w xs) ys
unfolding acted
acts-split [] ys w a = (tt, a)
acts-split (x ∷ xs) ys w a = let k = acts-split xs ys (act w x) a.1 in ((a.0, k.0), k.1)

followed-act : (w : World) (s : Store) (a : Act) (rest : List Event) → Reached w s → ActAllowed w a
    → followed s w (expand w a ++ rest) ≡ followed (followed s w (expand w a)) (act w a) rest
followed-act w s a rest r ok =
    followed-append (expand w a) rest s w ∙ ap (λ (u : World). followed (followed s w (expand w a)) u rest) (act-expands w s a r ok).1

reached-act : (w : World) (s : Store) (a : Act) → Reached w s → ActAllowed w a → Reached (act w a) (followed s w (expand w a))
reached-act w s a r ok =
    let x = act-expands w s a r ok in
    subst (λ (u : World). Reached u (followed s w (expand w a))) x.1 (goes-along (expand w a) w s r x.0)

pub reached-acts : (xs : List Act) (w : World) (s : Store) → Reached w s → AllActsAllowed w xs → Reached (acted w xs) (followed s w (expand_all w xs))
unfolding acted expand_all
reached-acts [] w s r a = unfold followed in r
reached-acts (x ∷ xs) w s r a =
    subst (Reached (acted (act w x) xs)) (sym (followed-act w s x (expand_all (act w x) xs) r a.0))
    (reached-acts xs (act w x) (followed s w (expand w x)) (reached-act w s x r a.0) a.1)

pub denied-now : (writer : ℕ) (hidden : ℕ → Bool) (s : Store) (w : World) (es : List Event) → DeniedThroughout writer hidden s w es → Denied writer hidden s
denied-now writer hidden s w [] d = d
denied-now writer hidden s w (e ∷ es) d = d.0

denied-after : (writer : ℕ) (hidden : ℕ → Bool) (es fs : List Event) (s : Store) (w : World) → DeniedThroughout writer hidden s w (es ++ fs)
    → DeniedThroughout writer hidden (followed s w es) (after w es) fs
unfolding followed after
denied-after writer hidden [] fs s w d = d
denied-after writer hidden (e ∷ es) fs s w d = denied-after writer hidden es fs (follow s w e) (step w e) d.1

-- the same behind acts
pub denied-acts : (writer : ℕ) (hidden : ℕ → Bool) (xs us : List Act) (w : World) (s : Store) → Reached w s → AllActsAllowed w xs
    → DeniedThroughout writer hidden s w (expand_all w (xs ++ us))
    → DeniedThroughout writer hidden (followed s w (expand_all w xs)) (acted w xs) (expand_all (acted w xs) us)
unfolding acted expand_all
denied-acts writer hidden [] us w s r ok d = unfold followed in d
denied-acts writer hidden (x ∷ xs) us w s r ok d =
    let then : DeniedThroughout writer hidden (followed s w (expand w x)) (act w x) (expand_all (act w x) (xs ++ us)) =
    subst (λ (u : World). DeniedThroughout writer hidden (followed s w (expand w x)) u (expand_all (act w x) (xs ++ us))) (act-expands w s x r ok.0).1
    (denied-after writer hidden (expand w x) (expand_all (act w x) (xs ++ us)) s w d) in
    subst (λ (t : Store). DeniedThroughout writer hidden t (acted (act w x) xs) (expand_all (acted (act w x) xs) us))
    (sym (followed-act w s x (expand_all (act w x) xs) r ok.0))
    (denied-acts writer hidden xs us (act w x) (followed s w (expand w x)) (reached-act w s x r ok.0) ok.1 then)

-- ---- one act

act-ready : (hidden : ℕ → Bool) (w : World) {a b : Act} → ActAlike hidden a b → w.ready ≡ true → (act w a).ready ≡ true
unfolding act left_under
act-ready hidden w (called {c} k) e = ready_on w c e
act-ready hidden w (transacted k) e = e
act-ready hidden w fetched e = e
act-ready hidden w revised e = e

other-ready : (hidden : ℕ → Bool) (v : World) {a b : Act} → ActAlike hidden a b → v.ready ≡ true → (act v b).ready ≡ true
unfolding act left_under
other-ready hidden v (called {d = d} k) e = ready_on v d e
other-ready hidden v (transacted k) e = e
other-ready hidden v fetched e = e
other-ready hidden v revised e = e

module _ (hidden : ℕ → Bool) (shows : ListShown hidden) {w v : World} {s t : Store} (r : Reached w s) (q : Reached v t) (w-ready : w.ready ≡ true)
    (v-ready : v.ready ≡ true) (a : StoreAlike hidden s t) where
  answer-same : {x y : Act} → ActAllowed w x → ActAllowed v y → ActAlike hidden x y → answer_of w x ≡ answer_of v y
  unfolding answer_of
  answer-same ok ok' (called k) = same-reply hidden shows r q w-ready v-ready a ok ok' k
  answer-same ok ok' (transacted {writer = x} {home = h} {a = xs} {b = ys} {batch = batch} k) = transact-same hidden shows r q w-ready v-ready a x h xs ys batch k
  answer-same ok ok' (fetched {writer = x} {home = h} {blocks = xs}) = fetch-same hidden shows r q w-ready v-ready a x h xs
  answer-same ok ok' (revised {writer = x} {home = h} {blocks = xs}) = revise-same hidden shows r q w-ready v-ready a x h xs

  act-next : {x y : Act} → ActAllowed w x → ActAllowed v y → ActAlike hidden x y → StoreAlike hidden (followed s w (expand w x)) (followed t v (expand v y))
  act-next ok ok' (called k) = unfold expand followed in next-alike hidden shows r q w-ready v-ready a ok ok' k
  act-next ok ok' (transacted {writer = x} {home = h} {a = xs} {b = ys} {batch = batch} k) = transact-next hidden shows r q w-ready v-ready a x h xs ys batch k
  act-next ok ok' fetched = unfold expand followed in a
  act-next ok ok' revised = unfold expand followed in a

  -- the writer's own reads
  module _ (writer : ℕ) (d : Denied writer hidden s) where
    own-only : (x : ℕ) (p p' : List ℕ) → (x ≡ writer → p ≡ p') → cond (eqb x writer) p [] ≡ cond (eqb x writer) p' []
    own-only x p p' k = go (eqb x writer) refl
      where
        go : (e : Bool) → eqb x writer ≡ e → cond e p [] ≡ cond e p' []
        go true e = k (eqb-true x writer e)
        go false e = refl

    service-blocks : (c : Service) → is_opening (service c) ≡ not w.ready → is_opening (service c) ≡ not v.ready
        → block_of_service writer c (ends w (service c)) ≡ block_of_service writer c (ends v (service c))
    unfolding block_of_service
    service-blocks (settles batch) ok ok' = refl
    service-blocks round_begins ok ok' = refl
    service-blocks (round_steps homes batch) ok ok' = refl
    service-blocks (trims batch) ok ok' = refl
    service-blocks (reads x home block) ok ok' =
        own-only x (ends w (service (reads x home block))).block (ends v (service (reads x home block))).block
        (λ e. same_block hidden shows r q w-ready v-ready a ok ok' (equal {c = read x home block}) writer d home block (ap (λ (n : ℕ). read n home block) e))

    call-blocks : {c e : Call} → is_opening c ≡ not w.ready → is_opening e ≡ not v.ready → CallAlike hidden c e
        → block_of_read writer c (ends w c) ≡ block_of_read writer e (ends v e)
    unfolding block_of_read
    call-blocks ok ok' (equal {c = opening state newest batch}) = refl
    call-blocks ok ok' (equal {c = confirm}) = refl
    call-blocks ok ok' (equal {c = change c}) = refl
    call-blocks ok ok' (equal {c = service c}) = service-blocks c ok ok'
    call-blocks ok ok' (stored h l) = refl

    own-denied : (x : ℕ) → x ≡ writer → Denied x hidden s
    own-denied x e = subst (λ (n : ℕ). Denied n hidden s) (sym e) d

    blocks-same : {x y : Act} → ActAllowed w x → ActAllowed v y → ActAlike hidden x y → blocks_of writer w x ≡ blocks_of writer v y
    unfolding blocks_of
    blocks-same ok ok' (called k) = call-blocks ok ok' k
    blocks-same ok ok' (transacted k) = refl
    blocks-same ok ok' (fetched {writer = x} {home = h} {blocks = xs}) =
        own-only x (fetch_ends w x h xs).block (fetch_ends v x h xs).block (λ e. fetch-block hidden shows r q w-ready v-ready a x (own-denied x e) h xs)
    blocks-same ok ok' (revised {writer = x} {home = h} {blocks = xs}) =
        own-only x (revise_ends w x h xs).block (revise_ends v x h xs).block (λ e. revise-block hidden shows r q w-ready v-ready a x (own-denied x e) h xs)

-- ---- every act

module _ (hidden : ℕ → Bool) (writer : ℕ) where
  pub same-throughout : (xs ys : List Act) (w v : World) (s t : Store) → Reached w s → Reached v t → AllActsAllowed w xs → AllActsAllowed v ys → w.ready ≡ true
      → v.ready ≡ true → StoreAlike hidden s t → Each (ActAlike hidden) xs ys → DeniedThroughout writer hidden s w (expand_all w xs)
      → SameThroughout writer w v xs ys
  same-throughout [] [] w v s t r q ok ok' w-ready v-ready a both d = tt
  same-throughout [] (y ∷ ys) w v s t r q ok ok' w-ready v-ready a unequal d = elim unequal [ ]
  same-throughout (x ∷ xs) [] w v s t r q ok ok' w-ready v-ready a unequal d = elim unequal [ ]
  same-throughout (x ∷ xs) (y ∷ ys) w v s t r q ok ok' w-ready v-ready a (more k ks) d =
      let es : List Event = expand w x in
      let rest : List Event = expand_all (act w x) xs in
      let all : DeniedThroughout writer hidden s w (es ++ rest) = (unfold expand_all in d) in
      let now : Denied writer hidden s = denied-now writer hidden s w (es ++ rest) all in
      let shows : ListShown hidden = list-shows hidden writer s now in
      let then : DeniedThroughout writer hidden (followed s w es) (act w x) rest =
      subst (λ (u : World). DeniedThroughout writer hidden (followed s w es) u rest) (act-expands w s x r ok.0).1 (denied-after writer hidden es rest s w all) in (
        answer-same hidden shows r q w-ready v-ready a ok.0 ok'.0 k,
        blocks-same hidden shows r q w-ready v-ready a writer now ok.0 ok'.0 k,
        same-throughout xs ys (act w x) (act v y) (followed s w es) (followed t v (expand v y)) (reached-act w s x r ok.0) (reached-act v t y q ok'.0) ok.1 ok'.1
            (act-ready hidden w k w-ready) (other-ready hidden v k v-ready) (act-next hidden shows r q w-ready v-ready a ok.0 ok'.0 k) ks then,
      )

-- acts that are alike leave stores alike
pub record Beside (hidden : ℕ → Bool) (w v : World) (s t : Store) : Type 0 where
  pub left : Reached w s
  pub right : Reached v t
  pub left-ready : w.ready ≡ true
  pub right-ready : v.ready ≡ true
  pub alike : StoreAlike hidden s t

module _ (hidden : ℕ → Bool) (shows : ListShown hidden) where
  act-beside : (w v : World) (s t : Store) {x y : Act} → ActAllowed w x → ActAllowed v y → ActAlike hidden x y → Beside hidden w v s t
      → Beside hidden (act w x) (act v y) (followed s w (expand w x)) (followed t v (expand v y))
  act-beside w v s t {x} {y} ok ok' k b =
      record {
        left = reached-act w s x b.left ok;
        right = reached-act v t y b.right ok';
        left-ready = act-ready hidden w k b.left-ready;
        right-ready = other-ready hidden v k b.right-ready;
        alike = act-next hidden shows b.left b.right b.left-ready b.right-ready b.alike ok ok' k;
      }

  pub acts-next : (xs ys : List Act) (w v : World) (s t : Store) → AllActsAllowed w xs → AllActsAllowed v ys → Each (ActAlike hidden) xs ys
      → Beside hidden w v s t → Beside hidden (acted w xs) (acted v ys) (followed s w (expand_all w xs)) (followed t v (expand_all v ys))
  unfolding acted expand_all
  acts-next [] [] w v s t ok ok' both b = unfold followed in b
  acts-next [] (y ∷ ys) w v s t ok ok' unequal b = elim unequal [ ]
  acts-next (x ∷ xs) [] w v s t ok ok' unequal b = elim unequal [ ]
  acts-next (x ∷ xs) (y ∷ ys) w v s t ok ok' (more k ks) b =
      let rest = acts-next xs ys (act w x) (act v y) (followed s w (expand w x)) (followed t v (expand v y)) ok.1 ok'.1 ks (act-beside w v s t ok.0 ok'.0 k b) in
      subst (λ (u : Store). Beside hidden (acted (act w x) xs) (acted (act v y) ys) u (followed t v (expand v y ++ expand_all (act v y) ys)))
      (sym (followed-act w s x (expand_all (act w x) xs) b.left ok.0))
      (subst (Beside hidden (acted (act w x) xs) (acted (act v y) ys) (followed (followed s w (expand w x)) (act w x) (expand_all (act w x) xs)))
      (sym (followed-act v t y (expand_all (act v y) ys) b.right ok'.0)) rest)

pub acts-isolated : ActsIsolated
acts-isolated G D f g before other xs ys writer hidden ok ok' f-ready g-ready a k d =
    let p = acts-split before xs (after_format f) ok in
    let q = acts-split other ys (after_format g) ok' in
    same-throughout hidden writer xs ys (acted (after_format f) before) (acted (after_format g) other) (followed_acts (new_store G D) (after_format f) before)
    (followed_acts (new_store G D) (after_format g) other) (reached-acts before (after_format f) (new_store G D) (begins f) p.0)
    (reached-acts other (after_format g) (new_store G D) (begins g) q.0) p.1 q.1 f-ready g-ready a k d

-- ---- from the format on

-- two worlds before an opening is done are the same; after it their stores are alike
data Near (hidden : ℕ → Bool) (w v : World) (s t : Store) : Type 0 where
  unopened_yet : w.ready ≡ false → w ≡ v → s ≡ t → Near hidden w v s t
  is_in_use : w.ready ≡ true → v.ready ≡ true → StoreAlike hidden s t → Near hidden w v s t

module _ (hidden : ℕ → Bool) (shows : ListShown hidden) where
  equal-near : (w : World) (s : Store) → Near hidden w w s s
  equal-near w s = go w.ready refl
    where
      go : (e : Bool) → w.ready ≡ e → Near hidden w w s s
      go true e = is_in_use e e (store-self hidden s)
      go false e = unopened_yet e refl refl

  opening-near : (w v : World) (s t : Store) {c e : Call} → w ≡ v → s ≡ t → is_opening c ≡ true → CallAlike hidden c e
      → Near hidden (step w (call c)) (step v (call e)) (follow s w (call c)) (follow t v (call e))
  opening-near w v s t n m o (equal {c = c}) =
      subst (λ (u : World). Near hidden (step w (call c)) (step u (call c)) (follow s w (call c)) (follow t u (call c))) n
      (subst (λ (x : Store). Near hidden (step w (call c)) (step w (call c)) (follow s w (call c)) (follow x w (call c))) m
      (equal-near (step w (call c)) (follow s w (call c))))
  opening-near w v s t n m o (stored h l) = absurd (false≢true (unfold is_opening in o))

  act-near : (w v : World) (s t : Store) {x y : Act} → Reached w s → Reached v t → ActAllowed w x → ActAllowed v y → ActAlike hidden x y → Near hidden w v s t
      → Near hidden (act w x) (act v y) (followed s w (expand w x)) (followed t v (expand v y))
  act-near w v s t r q ok ok' k (is_in_use w-ready v-ready a) =
      is_in_use (act-ready hidden w k w-ready) (other-ready hidden v k v-ready) (act-next hidden shows r q w-ready v-ready a ok ok' k)
  act-near w v s t r q ok ok' (called k) (unopened_yet f n m) = unfold act expand followed in opening-near w v s t n m (ok ∙ ap not f) k
  act-near w v s t r q ok ok' (transacted k) (unopened_yet f n m) = absurd (false≢true (sym f ∙ ok))
  act-near w v s t r q ok ok' fetched (unopened_yet f n m) = absurd (false≢true (sym f ∙ ok))
  act-near w v s t r q ok ok' revised (unopened_yet f n m) = absurd (false≢true (sym f ∙ ok))

  acts-near : (xs ys : List Act) (w v : World) (s t : Store) → Reached w s → Reached v t → AllActsAllowed w xs → AllActsAllowed v ys
      → Each (ActAlike hidden) xs ys → Near hidden w v s t → Near hidden (acted w xs) (acted v ys) (followed s w (expand_all w xs)) (followed t v (expand_all v ys))
  unfolding acted expand_all
  acts-near [] [] w v s t r q ok ok' both n = unfold followed in n
  acts-near [] (y ∷ ys) w v s t r q ok ok' unequal n = elim unequal [ ]
  acts-near (x ∷ xs) [] w v s t r q ok ok' unequal n = elim unequal [ ]
  acts-near (x ∷ xs) (y ∷ ys) w v s t r q ok ok' (more k ks) n =
      rw (followed-act w s x (expand_all (act w x) xs) r ok.0, followed-act v t y (expand_all (act v y) ys) q ok'.0)
      (acts-near xs ys (act w x) (act v y) (followed s w (expand w x)) (followed t v (expand v y)) (reached-act w s x r ok.0) (reached-act v t y q ok'.0)
      ok.1 ok'.1 ks (act-near w v s t r q ok.0 ok'.0 k n))

  -- the same acts keep equal worlds equal
  before-near : {xs ys : List Act} (w v : World) (s t : Store) → w ≡ v → s ≡ t → Reached w s → Reached v t → AllActsAllowed w xs → AllActsAllowed v ys
      → BeforeAlike hidden xs ys → Near hidden (acted w xs) (acted v ys) (followed s w (expand_all w xs)) (followed t v (expand_all v ys))
  unfolding acted expand_all
  before-near w v s t n m r q ok ok' (differs {xs = xs} {ys = ys} k) =
      acts-near xs ys w v s t r q ok ok' k
      (subst (λ (u : World). Near hidden w u s t) n (subst (Near hidden w w s) m (equal-near w s)))
  before-near w v s t n m r q ok ok' (shares {a = x} {xs = xs} {ys = ys} k) =
      rw (followed-act w s x (expand_all (act w x) xs) r ok.0, followed-act v t x (expand_all (act v x) ys) q ok'.0)
      (before-near (act w x) (act v x) (followed s w (expand w x)) (followed t v (expand v x)) (ap (λ (u : World). act u x) n) (rw (n, m))
      (reached-act w s x r ok.0) (reached-act v t x q ok'.0) ok.1 ok'.1 k)

-- so stores are alike behind what is alike from the format on
pub beside-there : (G D : ℕ) (f g : Formatting G D) (before other : List Act) (hidden : ℕ → Bool) → ListShown hidden → AllActsAllowed (after_format f) before
    → AllActsAllowed (after_format g) other → (acted (after_format f) before).ready ≡ true → BeforeAlike hidden before other
    → Beside hidden (acted (after_format f) before) (acted (after_format g) other) (followed_acts (new_store G D) (after_format f) before)
    (followed_acts (new_store G D) (after_format g) other)
beside-there G D f g before other hidden shows ok ok' f-ready k =
    go (before-near hidden shows w₀ v₀ s₀ s₀ (after-format f ∙ sym (after-format g)) refl (begins f) (begins g) ok ok' k)
  where
    w₀ : World
    w₀ = after_format f

    v₀ : World
    v₀ = after_format g

    s₀ : Store
    s₀ = new_store G D

    go : Near hidden (acted w₀ before) (acted v₀ other) (followed_acts s₀ w₀ before) (followed_acts s₀ v₀ other)
        → Beside hidden (acted w₀ before) (acted v₀ other) (followed_acts s₀ w₀ before) (followed_acts s₀ v₀ other)
    go (unopened_yet e n m) = absurd (false≢true (sym e ∙ f-ready))
    go (is_in_use e e' a) =
        record {
          left = reached-acts before w₀ s₀ (begins f) ok;
          right = reached-acts other v₀ s₀ (begins g) ok';
          left-ready = e;
          right-ready = e';
          alike = a;
        }

pub isolated-from-format : IsolatedFromFormat
isolated-from-format G D f g before other xs ys writer hidden ok ok' f-ready k ks d =
    let w : World = acted (after_format f) before in
    let v : World = acted (after_format g) other in
    let s : Store = followed_acts (new_store G D) (after_format f) before in
    let t : Store = followed_acts (new_store G D) (after_format g) other in
    let p = acts-split before xs (after_format f) ok in
    let q = acts-split other ys (after_format g) ok' in
    let shows : ListShown hidden = list-shows hidden writer s (denied-now writer hidden s w (expand_all w xs) d) in
    let b = beside-there G D f g before other hidden shows p.0 q.0 f-ready k in
    same-throughout hidden writer xs ys w v s t b.left b.right p.1 q.1 b.left-ready b.right-ready b.alike ks d
