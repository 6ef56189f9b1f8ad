-- The same for worlds that a history has reached (AlikeFaithful): each is faithful to its abstract store.
use Prim.Native.Nat.{ℕ}
use mathlib.Core.Path.{◌≡◌}
use mathlib.Core.Bool.{Bool, true, false, not}
use mathlib.Core.List.{List}
use Rattle.model.specs.Book.{read_by}
use Rattle.model.specs.History.{Call, read, call, World, ends, is_opening, AllAllowed, calls}
use Rattle.abstract_store.specs.Store.{Store, reply_of, follow}
use Rattle.theorems.specs.Isolation.{Each, StoreAlike, CallAlike, Denied, DeniedThroughout, ToldSameThroughout}
use Rattle.model_laws.proofs.trace.TraceLaws.{All}
use Rattle.theorems.proofs.invariant.TouchLaws.{CommitFits}
use Rattle.theorems.proofs.store.Reached.{Reached, goes_on, call-answers, live_then, same-book, same-homes}
use Rattle.theorems.proofs.store.Moments.{moment, fits-then}
use Rattle.theorems.proofs.isolation.AlikeReplies.{ListShown}
use Rattle.theorems.proofs.isolation.AlikeFaithful.{Faithful, told-kept}
use Rattle.theorems.proofs.isolation.AlikeFaithful as faithfully
pub use Rattle.theorems.proofs.isolation.AlikeFaithful.{refused-block, ready_on}

pub faithful : (w : World) (s : Store) → Reached w s → Faithful w s
faithful w s r =
    record {
      answers = λ c ok. call-answers w s c r ok;
      fits = λ h. fits-then w s (moment w s r h);
      live = live_then w s r;
      book = same-book w s r;
      homes = same-homes w s r;
    }

module _ (hidden : ℕ → Bool) (shows : ListShown hidden) {w v : World} {s t : Store} (r : Reached w s) (q : Reached v t) (w-ready : w.ready ≡ true)
    (v-ready : v.ready ≡ true) (a : StoreAlike hidden s t) where
  pub left-fits : All (CommitFits s.homes) s.book.commits
  left-fits = faithfully.left-fits hidden shows (faithful w s r) (faithful v t q) w-ready v-ready a

  pub right-fits : All (CommitFits s.homes) t.book.commits
  right-fits = faithfully.right-fits hidden shows (faithful w s r) (faithful v t q) w-ready v-ready a

  pub shown-same : (x home : ℕ) → hidden home ≡ false → read_by w.homes w.book x home ≡ read_by v.homes v.book x home
  shown-same = faithfully.shown-same hidden shows (faithful w s r) (faithful v t q) w-ready v-ready a

  module _ {c e : Call} (ok : is_opening c ≡ not w.ready) (ok' : is_opening e ≡ not v.ready) (k : CallAlike hidden c e) where
    pub same-reply : reply_of (ends w c) ≡ reply_of (ends v e)
    same-reply = faithfully.same-reply hidden shows (faithful w s r) (faithful v t q) w-ready v-ready a ok ok' k

    pub next-alike : StoreAlike hidden (follow s w (call c)) (follow t v (call e))
    next-alike = faithfully.next-alike hidden shows (faithful w s r) (faithful v t q) w-ready v-ready a ok ok' k

    pub same_block : (writer : ℕ) → Denied writer hidden s → (home : ℕ) (block : List ℕ) → c ≡ read writer home block → (ends w c).block ≡ (ends v e).block
    same_block = faithfully.same_block hidden shows (faithful w s r) (faithful v t q) w-ready v-ready a ok ok' k

pub told-throughout : (hidden : ℕ → Bool) (writer : ℕ) (cs ds : List Call) (w v : World) (s t : Store) → Reached w s → Reached v t → AllAllowed w (calls cs)
    → AllAllowed v (calls ds) → w.ready ≡ true → v.ready ≡ true → StoreAlike hidden s t → Each (CallAlike hidden) cs ds
    → DeniedThroughout writer hidden s w (calls cs) → ToldSameThroughout writer w v cs ds
told-throughout = told-kept Reached faithful goes_on
