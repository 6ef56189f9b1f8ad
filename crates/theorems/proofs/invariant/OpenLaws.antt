-- An opening: what it leaves in memory while it is under way, and when it is done.
use mathlib.Core.Path.{◌≡◌, refl, sym, ap, ◌∙◌}
use mathlib.Core.Logic.{◌⊎◌, inl, inr}
use mathlib.Core.Bool.{Bool, true, false, ◌&&◌, false≢true}
use mathlib.Core.List.{List, [], ◌∷◌}
use Prim.Native.Nat.{ℕ, ◌+◌, ◌*◌, ◌%◌, ◌^◌, ◌≤◌, ◌<◌}
use native.Mathlib.Nat.{mod-lt}
use native.Mathlib.Omega.{arith}
use lib.ListN.{length}
use lib.Dec.{eqb}
use borrow.Author.Tests.{ne_eqb, le-leb}
use Rattle.model.specs.Bytes.{part, puts, same}
use Rattle.model.specs.Layout.{group_mark, group_at, group_number, header, header_start, header_right, entry_at, home_at}
use Rattle.model.specs.Commit.{transactions, newest, found}
use Rattle.model.specs.Effects.{touched, home_writes}
use Rattle.model.specs.Crash.{Memory, persist_chosen}
use Rattle.model.specs.Book.{Commit, fate_at, homes_after}
use Rattle.model.specs.DemandTwo.{closed_below}
use Rattle.model.specs.declared.Tag.{Tag}
use Rattle.model_laws.proofs.bytes.LayoutLaws.{length-header, header-start, header-right, group-header, area-ext}
use Rattle.model_laws.proofs.bytes.ByteLaws.{length-puts}
use Rattle.model_laws.proofs.trace.ReplayLaws.{Good, length-replayed, replay-same, replay-kept, good-found}
use Rattle.model_laws.proofs.trace.TraceLaws.{All}
use Rattle.model_laws.proofs.trace.CrashLaws.{write_records, chosen-all, none-homes}
use Rattle.model_laws.proofs.trace.HomeLaws.{In, in-marked, marked-in, marked-below, log-homes, length-homes, home_at-homes, length-homes-wrote, home_at-unwritten, home_at-wrote}
use Rattle.model_laws.proofs.trace.Trace.{hist}
use Rattle.theorems.proofs.invariant.Invariant.{Sizes, FoundBelow, NotGroup, OldCommits, Opens, Late}

-- a slot whose number lies below n does not hold group n
pub found_below : (log : List ℕ) (G bound n : ℕ) → 0 < G → FoundBelow log G bound → bound ≤ n → NotGroup (group_at log (n % G)) n
found_below log G bound n g f l = go (same (part (group_at log (n % G)) 0 2) group_mark) (f (n % G) (mod-lt n g))
  where
    go : (b : Bool) → (b ≡ true → group_number (group_at log (n % G)) < bound) → (b && eqb (group_number (group_at log (n % G))) n) ≡ false
    go true h = ne_eqb (group_number (group_at log (n % G))) n (λ e. let k = h refl in omega arith)
    go false h = refl

-- commits of earlier eras close below everything
pub closed-old : (D bound : ℕ) (cs : List Commit) → OldCommits D cs → closed_below bound cs ≡ cs
unfolding closed_below
closed-old D bound [] o = refl
closed-old D bound (c ∷ cs) o = rw (le-leb c.ticket bound (omega (arith, o.0))) (ap {B = List Commit} (λ x. c ∷ x) (closed-old D bound cs o.2))

-- While an opening is under way: some of the homes that it restores have been written, the header not
module _ (G D : ℕ) (z : Sizes G D) (m : Memory) (X : List ℕ) (o : Opens G D m X) where
  abbrev pub tags : ℕ → Tag
  tags = entry_at m.log G D (header_start m.log)

  abbrev pub ts : List (List ℕ)
  ts = transactions tags (7 * header_start m.log) (7 * G)

  abbrev pub hs : List ℕ
  hs = touched tags ts D

  good : All (All (Good m.log G D tags)) ts
  good = good-found m.log G D (header_start m.log) (omega arith) o.log_size (7 * header_start m.log) (7 * G)

  pub restored-size : length X ≡ 64 * D
  restored-size = ap length (sym o.restored) ∙ length-replayed m.log G D tags ts m.area ∙ o.area_size

  pub touched-below : (h : ℕ) → In h hs → h < D
  unfolding touched
  touched-below h i = marked-below (λ x. found (newest tags x ts)) D h i

  -- a home that is not touched has its block already
  pub untouched : (h : ℕ) → h < D → (In h hs → ⊥) → home_at m.area h ≡ home_at X h
  unfolding touched
  untouched h l n = sym (replay-kept m.log G D tags ts m.area h good o.area_size l (go (found (newest tags h ts)) refl)) ∙ ap (λ (x : List ℕ). home_at x h) o.restored
    where
      go : (b : Bool) → found (newest tags h ts) ≡ b → found (newest tags h ts) ≡ false
      go true e = absurd (n (marked-in h (λ x. found (newest tags x ts)) D l e))
      go false e = e

  not_in : (h : ℕ) → found (newest tags h ts) ≡ false → In h hs → ⊥
  unfolding touched
  not_in h e i = false≢true (sym e ∙ (in-marked h (λ x. found (newest tags x ts)) D i).1)

  -- memory with some homes written opens to the same
  pub partly : (m' : Memory) → m'.log ≡ m.log → length m'.area ≡ 64 * D
      → ((h : ℕ) → (home_at m'.area h ≡ home_at m.area h) ⊎ (In h hs × (home_at m'.area h ≡ home_at X h))) → Opens G D m' X
  partly m' el la f =
      record {
        log_size = ap length el ∙ o.log_size;
        area_size = la;
        header = rw el o.header;
        start = rw el o.start;
        numbers = rw el o.numbers;
        restored = rw el (replay-same m.log G D tags ts m'.area m.area good la o.area_size (λ h l e. go h e (f h)) ∙ o.restored);
      }
    where
      go : (h : ℕ) → found (newest tags h ts) ≡ false
          → (home_at m'.area h ≡ home_at m.area h) ⊎ (In h hs × (home_at m'.area h ≡ home_at X h)) → home_at m'.area h ≡ home_at m.area h
      go h e (inl k) = k
      go h e (inr k) = absurd (not_in h e k.0)

  pub early-chosen : (chosen : ℕ → Bool) → Opens G D (persist_chosen chosen 0 (home_writes X hs) m) X
  early-chosen chosen =
      partly (persist_chosen chosen 0 (home_writes X hs) m) (log-homes chosen 0 X hs m) (length-homes chosen 0 X hs m ∙ o.area_size)
      (λ h. home_at-homes chosen 0 X hs m h D touched-below o.area_size restored-size)

  -- all homes written
  pub all-written : (write_records (home_writes X hs) m).area ≡ X
  all-written =
      area-ext (write_records (home_writes X hs) m).area X D (length-homes-wrote X hs m ∙ o.area_size) restored-size
      (λ h l. go h l (found (newest tags h ts)) refl)
    where
      go : (h : ℕ) → h < D → (b : Bool) → found (newest tags h ts) ≡ b → home_at (write_records (home_writes X hs) m).area h ≡ home_at X h
      go h l true e = home_at-wrote X hs m h D touched-below o.area_size restored-size (unfold touched in marked-in h (λ x. found (newest tags x ts)) D l e)
      go h l false e =
          home_at-unwritten X hs m h D touched-below o.area_size restored-size (not_in h e) ∙ untouched h l (not_in h e)

  pub early-written : Opens G D (write_records (home_writes X hs) m) X
  early-written = rw (chosen-all 0 (home_writes X hs) m (none-homes X hs)) at (early-chosen (λ k. true))

  -- the new header is written too
  abbrev pub new_start : ℕ
  new_start = header_start m.log + G

  abbrev pub new_header : List ℕ
  new_header = header new_start G D

  big : 64 ≤ length m.log
  big = omega (arith, o.log_size)

  pub new-start : header_start (puts m.log 0 new_header) ≡ new_start
  new-start = header-start m.log new_start G D (omega (arith, o.start)) big

  pub new-right : header_right (puts m.log 0 new_header) G D ≡ true
  new-right = header-right m.log new_start G D (omega arith) (omega arith) big

  pub new-size : length (puts m.log 0 new_header) ≡ 64 + 512 * G
  new-size = length-puts m.log 0 new_header ∙ o.log_size

  pub new-numbers : FoundBelow (puts m.log 0 new_header) G new_start
  new-numbers slot l =
      let e : group_at (puts m.log 0 new_header) slot ≡ group_at m.log slot = group-header m.log new_header slot (omega (arith, length-header new_start G D)) in
      rw e (o.numbers slot l)

  -- no group of the new era is there: nothing has persisted, however much of the log is blank
  pub late-begin : (old : List Commit) (m' : Memory) → new_start ≤ 2 ^ 47 → OldCommits D old → X ≡ homes_after D old
      → length m'.log ≡ 64 + 512 * G → header_right m'.log G D ≡ true → header_start m'.log ≡ new_start → FoundBelow m'.log G new_start
      → m'.area ≡ X → Late G D new_start [] old m' []
  unfolding hist fate_at
  late-begin old m' most past e_x size right es numbers ea =
      record {
        log_size = size;
        area_size = rw ea restored-size;
        header = right;
        start = rw es most;
        from = omega (arith, es);
        numbers = λ slot l h. let k : group_number (group_at m'.log slot) < new_start = numbers slot l h in omega (arith, es);
        below = λ n k a b. absurd (omega (arith, es));
        inside = λ r k e. absurd (false≢true e);
        within = λ r k e. absurd (false≢true e);
        there = λ n k a b i e. absurd (false≢true e);
        absent = λ n k a b i e. inl (found_below m'.log G new_start n (omega arith) numbers (omega (arith, es)));
        apart = tt;
        links = tt;
        homes = λ h l. inl (rw (ea, closed-old D (7 * header_start m'.log) old past, e_x));
      }
