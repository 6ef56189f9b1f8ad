-- The worlds that histories under the premises reach, each with the abstract store beside it, and what the claims say of one. Assumes nothing.
use Prim.Native.Nat.{ℕ, zero, suc}
use mathlib.Core.Path.{◌≡◌, refl, sym, ap, ◌∙◌, subst}
use mathlib.Core.Bool.{true, cond, not}
use mathlib.Core.List.{List, [], ◌∷◌, ◌++◌}
use lib.Dec.{eqb}
use native.Mathlib.Omega.{arith}
use borrow.Author.Tests.{ne_eqb}
use Rattle.model.specs.DemandTwo.{Live, LiveThroughout}
use Rattle.model.specs.NewestTrue.{NewestTrue, NewestThroughout}
use Rattle.model.specs.History.{Call, Event, call, crash, World, unopened, Formatting, after_format, ends, feed, is_opening, after_call, after_done, after_refused, after_crash, step, after, Allowed, AllAllowed}
use Rattle.abstract_store.specs.Store.{Store, new_store, Reply, after_reply, reply, reply_of, follow, AnswersAt, AnswersThroughout}
use Rattle.abstract_store.specs.Store as store
use Rattle.theorems.specs.Isolation.{followed}
use Rattle.theorems.proofs.steps.Footprint.{steady}
use Rattle.model.specs.Book.{Book}
use Rattle.theorems.proofs.newest.NewestHolds.{newest-kept}
use Rattle.theorems.proofs.store.AnswersHold.{answers-hold}
use Rattle.theorems.proofs.demands.DemandTwo.{demand2}

pub record Reached (w : World) (s : Store) : Type 0 where
  pub groups : ℕ
  pub homes : ℕ
  pub format : Formatting groups homes
  pub events : List Event
  pub allowed : AllAllowed (after_format format) events
  pub world : after (after_format format) events ≡ w
  pub store : followed (new_store groups homes) (after_format format) events ≡ s

-- ---- histories one behind the other

pub after-append : (es fs : List Event) (w : World) → after w (es ++ fs) ≡ after (after w es) fs
unfolding after
after-append [] fs w = refl
after-append (e ∷ es) fs w = after-append es fs (step w e)

pub followed-append : (es fs : List Event) (s : Store) (w : World) → followed s w (es ++ fs) ≡ followed (followed s w es) (after w es) fs
unfolding after followed
followed-append [] fs s w = refl
followed-append (e ∷ es) fs s w = followed-append es fs (follow s w e) (step w e)

pub allowed-append : (es fs : List Event) (w : World) → AllAllowed w es → AllAllowed (after w es) fs → AllAllowed w (es ++ fs)
unfolding after
allowed-append [] fs w a b = b
allowed-append (e ∷ es) fs w a b = (a.0, allowed-append es fs (step w e) a.1 b)

pub allowed-split : (es fs : List Event) (w : World) → AllAllowed w (es ++ fs) → AllAllowed w es × AllAllowed (after w es) fs
unfolding after
allowed-split [] fs w a = (tt, a)
allowed-split (e ∷ es) fs w a = let k = allowed-split es fs (step w e) a.1 in ((a.0, k.0), k.1)

pub begins : {groups homes : ℕ} (f : Formatting groups homes) → Reached (after_format f) (new_store groups homes)
unfolding after followed
begins {groups} {homes} f = record { groups = groups; homes = homes; format = f; events = []; allowed = tt; world = refl; store = refl }

one-step : (w : World) (e : Event) → after w (e ∷ []) ≡ step w e
unfolding after
one-step w e = refl

pub one-follow : (s : Store) (w : World) (e : Event) → followed s w (e ∷ []) ≡ follow s w e
unfolding followed
one-follow s w e = refl

pub goes_on : (w : World) (s : Store) (e : Event) → Reached w s → Allowed w e → Reached (step w e) (follow s w e)
goes_on w s e r a =
    let w₀ : World = after_format r.format in
    let s₀ : Store = new_store r.groups r.homes in
    record {
      groups = r.groups;
      homes = r.homes;
      format = r.format;
      events = r.events ++ (e ∷ []);
      allowed = allowed-append r.events (e ∷ []) w₀ r.allowed (subst (λ (v : World). AllAllowed v (e ∷ [])) (sym r.world) (a, tt));
      world = after-append r.events (e ∷ []) w₀ ∙ ap (λ (v : World). after v (e ∷ [])) r.world ∙ one-step w e;
      store =
          followed-append r.events (e ∷ []) s₀ w₀ ∙ ap (λ (v : World). followed (followed s₀ w₀ r.events) v (e ∷ [])) r.world
          ∙ ap (λ (t : Store). followed t w (e ∷ [])) r.store ∙ one-follow s w e;
    }

pub goes-along : (es : List Event) (w : World) (s : Store) → Reached w s → AllAllowed w es → Reached (after w es) (followed s w es)
unfolding after followed
goes-along [] w s r a = r
goes-along (e ∷ es) w s r a = goes-along es (step w e) (follow s w e) (goes_on w s e r a.0) a.1

-- ---- what the claims say

last-answers : (es : List Event) (e : Event) (w : World) (s : Store) → AnswersThroughout w s (es ++ (e ∷ []))
    → AnswersAt (after w es) (followed s w es) e
unfolding after followed
last-answers [] e w s h = h.1
last-answers (d ∷ es) e w s h = last-answers es e (step w d) (follow s w d) h.2

last-kept : (es : List Event) (w : World) → NewestThroughout w es → (after w es).ready ≡ true → NewestTrue (after w es)
unfolding after
last-kept [] w h = h
last-kept (e ∷ es) w h = last-kept es (step w e) h.1

last-live : (es : List Event) (w : World) → LiveThroughout w es → (after w es).ready ≡ true → Live (after w es)
unfolding after
last-live [] w h = h
last-live (e ∷ es) w h = last-live es (step w e) h.2

pub call-answers : (w : World) (s : Store) (c : Call) → Reached w s → is_opening c ≡ not w.ready → reply_of (ends w c) ≡ reply s c
call-answers w s c r a =
    let w₀ : World = after_format r.format in
    let s₀ : Store = new_store r.groups r.homes in
    let h = answers-hold r.groups r.homes r.format (r.events ++ (call c ∷ []))
    (allowed-append r.events (call c ∷ []) w₀ r.allowed (subst (λ (v : World). AllAllowed v (call c ∷ [])) (sym r.world) (a, tt))) in
    subst (λ (v : World). reply_of (ends v c) ≡ reply s c) r.world
    (subst (λ (t : Store). reply_of (ends (after w₀ r.events) c) ≡ reply t c) r.store (last-answers r.events (call c) w₀ s₀ h))

pub call-code : (w : World) (s : Store) (c : Call) → Reached w s → is_opening c ≡ not w.ready → (ends w c).code ≡ (reply s c).code
unfolding reply_of
call-code w s c r a = ap (λ (x : Reply). x.code) (call-answers w s c r a)

pub kept_then : (w : World) (s : Store) → Reached w s → w.ready ≡ true → NewestTrue w
kept_then w s r =
    subst (λ (v : World). v.ready ≡ true → NewestTrue v) r.world
    (last-kept r.events (after_format r.format) (newest-kept r.groups r.homes r.format r.events r.allowed))

pub live_then : (w : World) (s : Store) → Reached w s → w.ready ≡ true → Live w
live_then w s r =
    subst (λ (v : World). v.ready ≡ true → Live v) r.world
    (last-live r.events (after_format r.format) (demand2 r.groups r.homes r.format r.events r.allowed))

-- ---- the abstract store has the world's book and number of homes

record Alike (w : World) (s : Store) : Type 0 where
  book : s.book ≡ w.book
  homes : s.homes ≡ w.homes

done-alike : (w : World) (s : Store) (c : Call) (figure : ℕ) → Alike w s
    → ((store.after_done s c figure).book ≡ feed w.book c figure) × ((store.after_done s c figure).homes ≡ w.homes)
done-alike w s c figure a =
    let q = steady s c figure in (q.book ∙ ap (λ (b : Book). feed b c figure) a.book, q.homes ∙ a.homes)

step-alike : (w : World) (s : Store) (e : Event) → Alike w s → Alike (step w e) (follow s w e)
unfolding step follow after_reply reply_of
step-alike w s (call c) a = go (ends w c).code refl
  where
    go : (code : ℕ) → (ends w c).code ≡ code
        → Alike (after_call w c (ends w c) code) (cond (eqb code 0) (store.after_done s c (ends w c).figure) s)
    go zero z = let k = done-alike w s c (ends w c).figure a in (unfold after_call after_done in record { book = k.0; homes = k.1 })
    go (suc code) z = rw (ne_eqb (suc code) 0 (λ q. omega arith)) (unfold after_call after_refused in record { book = a.book; homes = a.homes })
step-alike w s (crash passed chosen) a = unfold after_crash store.after_crash in record { book = rw a.book; homes = a.homes }

all_alike : (es : List Event) (w : World) (s : Store) → Alike w s → Alike (after w es) (followed s w es)
unfolding after followed
all_alike [] w s a = a
all_alike (e ∷ es) w s a = all_alike es (step w e) (follow s w e) (step-alike w s e a)

first_alike : {groups homes : ℕ} (f : Formatting groups homes) → Alike (after_format f) (new_store groups homes)
unfolding after_format unopened new_store
first_alike f = record { book = refl; homes = refl }

alike : (w : World) (s : Store) → Reached w s → Alike w s
alike w s r =
    subst (λ (v : World). Alike v s) r.world
    (subst (λ (t : Store). Alike (after (after_format r.format) r.events) t) r.store
    (all_alike r.events (after_format r.format) (new_store r.groups r.homes) (first_alike r.format)))

pub same-book : (w : World) (s : Store) → Reached w s → s.book ≡ w.book
same-book w s r = (alike w s r).book

pub same-homes : (w : World) (s : Store) → Reached w s → s.homes ≡ w.homes
same-homes w s r = (alike w s r).homes
