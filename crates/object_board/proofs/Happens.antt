-- Each happening leaves a good board, and makes true what is claimed of it.
use Prim.Native.Nat.{ℕ, suc, ◌≤◌}
use mathlib.Core.Path.{◌≡◌, refl, sym, ap, ◌∙◌, subst}
use mathlib.Core.Logic.{inl, inr}
use mathlib.Core.Bool.{Bool, true, false, cond, false≢true}
use mathlib.Core.List.{List, [], ◌∷◌, ◌++◌}
use native.Mathlib.Omega.{arith}
use lib.Dec.{eqb}
use lib.ListN.{length, take, drop}
use borrow.Author.Tests.{eqb-true, eqb-false, eq-eqb, ne_eqb}
use Rattle.model.specs.Book.{Book}
use Rattle.model.specs.Crash.{Memory}
use Rattle.model.specs.Crash as crash
use Rattle.model.specs.DemandThree.{NoneOwed}
use Rattle.model.specs.History.{World}
use Rattle.abstract_store.specs.Store.{Store}
use Rattle.theorems.proofs.invariant.Invariant.{Sizes}
use Rattle.object.specs.Medium.{Grain, Medium, writes, fences, loses}
use Rattle.object.specs.Order.{Motion, put, wait, motions, moves, moved}
use Rattle.object.specs.Runner.{Carried}
use Rattle.object_machine.specs.declared.Control.{Control}
use Rattle.object_machine.specs.declared.Turn.{Turn}
use Rattle.object_machine.specs.Control.{failed, fresh, with_condition}
use Rattle.object_machine.specs.Moves.{done, load, pass}
use Rattle.object_machine.specs.Moves as machine
use Rattle.object_machine.specs.Next.{goes as goes_past, stays, fails}
use Rattle.object_board.specs.Board.{Board, goes, breaks, cuts, in_hand, piece_of, is_over, loads_log, loads_area, cut_to, fed_by, made_call, left, with_book, next, with_medium, refused_to, attempted, carried, copied, keeps, goes_further, happens, Started, Tells}
use Rattle.object_board.proofs.Ways.{Way, loses-way}
use Rattle.object_board.proofs.Along.{first, Along}
use Rattle.object_board.proofs.Follows.{due_of, ahead_of, Facts, Follows}
use Rattle.object_board.proofs.Good.{goes-next, take-front, Sized, Under, Kept, Waiting, rests, asked, loads, Good, behind, loaded, follows, under, kept, under-like, kept-like, along-like}

module _ (l : Grain) (G D : ℕ) (z : Sizes G D) where
  -- ---- a task is told something, and nothing else happens

  told-waiting : (b : Board) (t : Turn) → Waiting l G D z b → Waiting l G D z (refused_to b t)
  unfolding refused_to
  told-waiting b t (rests e o) = rests e o
  told-waiting b t (asked e o q) = asked e o q
  told-waiting b t (loads n e o q) = loads n e o q

  due-told : (b : Board) (t : Turn) → due_of (refused_to b t) ≡ due_of b
  unfolding due_of refused_to piece_of in_hand
  due-told b t = refl

  told-follows : (b : Board) (t : Turn) → Follows l G D z b → Follows l G D z (refused_to b t)
  unfolding refused_to with_medium along-like
  told-follows b t f =
      record {
        along = along-like l G D z (ahead_of b) (ahead_of (refused_to b t)) refl refl refl refl (ap (moved b.medium) (due-told b t)) f.along;
        facts = f.facts;
        before = f.before;
        out = f.out ∙ ap (λ (x : List Motion). f.before ++ x) (sym (due-told b t));
        medium = f.medium;
        carried = f.carried;
        idle = f.idle;
        live = f.live;
        log = f.log;
        area = f.area;
      }

  pub told-good : (b : Board) (t : Turn) → Good l G D z b → Good l G D z (refused_to b t)
  unfolding refused_to under-like
  told-good b t (behind k) =
      behind
      (record {
        under = under-like l G D z b (refused_to b t) refl refl refl k.under;
        kept = kept-like l G D z b (refused_to b t) refl refl k.kept;
        shut = k.shut;
        left = k.left;
        waiting = told-waiting b t k.waiting;
      })
  told-good b t (loaded k) =
      loaded
      (record {
        under = under-like l G D z b (refused_to b t) refl refl refl k.under;
        kept = kept-like l G D z b (refused_to b t) refl refl k.kept;
        ready = k.ready;
        quiet = k.quiet;
        passed = k.passed;
        condition = k.condition;
        stage = k.stage;
        op = k.op;
        left = k.left;
        turn = k.turn;
        log = k.log;
        whole = k.whole;
      })
  told-good b t (follows f) = follows (told-follows b t f)

  -- ---- a loss

  lost-whole : (chosen : ℕ → Bool) (m : Medium) → loses l chosen m ≡ record { lasting = (loses l chosen m).lasting; written = [] }
  unfolding loses
  lost-whole chosen m = refl

  pub none-carried : (w : World) → w.pending ≡ [] → w.passed ≡ 0 → Carried l w 0
  unfolding motions crash.fences
  none-carried w e q = record { front = []; more = []; split = e; confirmed = omega (arith, q); out = omega arith }

  pub none-taken : (m : Medium) (ms : List Motion) → moved m (take 0 ms) ≡ m
  unfolding moved
  none-taken m ms = refl

  -- what is left of a board's medium and book
  pub record Losing (b : Board) (chosen : ℕ → Bool) : Type 0 where
    pub commits : ℕ
    pub few : commits ≤ length b.book.commits
    pub owed : NoneOwed (drop commits b.book.commits)
    pub w : World
    pub s : Store
    pub way : Way G D z w s
    pub book : cut_to commits b.book ≡ w.book
    pub medium : loses l chosen b.medium ≡ first w
    pub pending : w.pending ≡ []
    pub passed : w.passed ≡ 0
    pub ready : w.ready ≡ false

  pub losing : (b : Board) (chosen : ℕ → Bool) → Under l G D z b → Losing b chosen
  losing b chosen u =
      let k = loses-way G D z l u.w u.s u.way u.many chosen u.carried in
      record {
        commits = k.commits;
        few = subst (λ (i : Book). k.commits ≤ length i.commits) (sym u.book) k.few;
        owed = subst (λ (i : Book). NoneOwed (drop k.commits i.commits)) (sym u.book) k.owed;
        w = k.left;
        s = k.store;
        way = k.way;
        book = ap (cut_to k.commits) u.book ∙ sym k.book;
        medium =
            ap (loses l chosen) u.medium ∙ lost-whole chosen (moved (first u.w) (take u.many (motions l [] u.w.pending)))
            ∙ ap (λ (i : Memory). record { lasting = i; written = [] }) (sym k.memory);
        pending = k.pending;
        passed = k.passed;
        ready = k.ready;
      }

  -- a board with nothing written since
  unfoldable pub lost-under : (b b' : Board) (chosen : ℕ → Bool) (k : Losing b chosen) → b'.homes ≡ D → b'.book ≡ cut_to k.commits b.book → b'.medium ≡ loses l chosen b.medium → Under l G D z b'
  lost-under b b' chosen k e₁ e₂ e₃ =
      record {
        w = k.w;
        s = k.s;
        way = k.way;
        homes = e₁;
        book = e₂ ∙ k.book;
        many = 0;
        medium = e₃ ∙ k.medium ∙ sym (none-taken (first k.w) (motions l [] k.w.pending));
        carried = none-carried k.w k.pending k.passed;
      }

  -- power goes
  pub started-kept : (b b' : Board) → Started l G D b → b'.memory ≡ b.memory → b'.control ≡ b.control → Kept l G D z b'
  unfolding fresh
  started-kept b b' k e f =
      record {
        sized =
            subst (Sized l G D z) (sym e)
            (record { state = k.state_size; newest = k.newest_size; log = k.log_size; area = k.area_size; room = k.batch_size });
        landing = ap (λ (c : Control). c.landing) (f ∙ k.control);
      }

  pub fresh-is : (b : Board) → Started l G D b → (b.control.condition ≡ 1) × (b.control.stage ≡ 0)
  unfolding fresh
  fresh-is b k = (ap (λ (c : Control). c.condition) k.control, ap (λ (c : Control). c.stage) k.control)

  pub over_done : (code figure : ℕ) → is_over (done code figure) ≡ true
  unfolding is_over done
  over_done code figure = refl

  pub cuts-good : (b : Board) → Good l G D z b → (chosen : ℕ → Bool) (memory : Board) → Started l G b.homes memory → (k : Losing b chosen)
      → Good l G D z (happens l b (cuts chosen memory) k.commits)
  unfolding happens
  cuts-good b g chosen memory s k =
      let d : b.homes ≡ D = (under l G D z b g).homes in
      let t : Started l G D memory = subst (λ (i : ℕ). Started l G i memory) d s in
      behind
      (record {
        under = lost-under b (happens l b (cuts chosen memory) k.commits) chosen k d refl refl;
        kept = started-kept memory (happens l b (cuts chosen memory) k.commits) t refl refl;
        shut = inl (fresh-is memory t).0;
        left = λ q. absurd (q (fresh-is memory t).1);
        waiting = rests (fresh-is memory t).1 (over_done 0 0);
      })

  -- ---- an open store goes on

  pub load-none : (b : Board) → loads_log b.turn ≡ false → loads_area b.turn ≡ false → (chosen : ℕ → Bool) (n : ℕ)
      → happens l b (goes chosen) n ≡ next (ahead_of b) 0
  unfolding happens goes_further carried copied keeps with_medium due_of moved moves
  load-none b e f chosen n = rw (e, f) (go (eqb b.turn.kind 1) (eqb b.turn.kind 2))
    where
      go : (x y : Bool)
          → next
          (with_medium b (cond x (writes b.medium (piece_of b b.turn)) (cond y (fences b.medium) b.medium)) b.memory b.book) 0
          ≡ next (with_medium b (moved b.medium (cond x (put (piece_of b b.turn) ∷ []) (cond y (wait ∷ []) []))) b.memory b.book) 0
      go true y = refl
      go false true = refl
      go false false = refl

  pub follows-goes : (b : Board) → Follows l G D z b → is_over b.turn ≡ false → (chosen : ℕ → Bool) (n : ℕ)
      → Good l G D z (happens l b (goes chosen) n) × (is_over (happens l b (goes chosen) n).told ≡ true → Tells (happens l b (goes chosen) n))
  follows-goes b f o chosen n =
      let r = goes-next l G D z (ahead_of b) f.along (ahead-facts b f) (ahead-stage b (f.live o)) in
      subst (λ (x : Board). Good l G D z x × (is_over x.told ≡ true → Tells x)) (sym (load-none b f.log f.area chosen n)) (follows r.0, r.1)
    where
      ahead-facts : (b : Board) (f : Follows l G D z b) → Facts l G D z (ahead_of b).control f.along.w f.along.s
      ahead-facts b f = (unfold with_medium in f.facts)

      ahead-stage : (b : Board) → (b.control.stage ≡ 0 → ⊥) → (ahead_of b).control.stage ≡ 0 → ⊥
      ahead-stage b h = (unfold with_medium in h)

  -- ---- the driver fails

  record Fails (b b' : Board) (error : ℕ) : Type 0 where
    homes : b'.homes ≡ b.homes
    control : b'.control ≡ with_condition b.control failed error
    memory : b'.memory ≡ b.memory
    turn : b'.turn ≡ done 65 error
    told : b'.told ≡ done 65 error
    medium : b'.medium ≡ b.medium
    book : b'.book ≡ b.book

  fails-next : (b : Board) (e : ℕ) → Fails b (next b (suc e)) (suc e)
  unfolding next left with_book made_call fed_by goes_past stays fails machine.moved
  fails-next b e =
      let q : eqb (suc e) 0 ≡ false = ne_eqb (suc e) 0 (λ h. omega (arith, h)) in
      record { homes = refl; control = rw q; memory = rw q; turn = rw q; told = rw q; medium = refl; book = rw q }

  failed-is : (c : Control) (e : ℕ) → ((with_condition c failed e).condition ≡ 3) × ((with_condition c failed e).stage ≡ 0) × ((with_condition c failed e).landing ≡ c.landing)
  unfolding with_condition
  failed-is c e = (refl, refl, refl)

  along_under : (b : Board) → Along l G D z b → Under l G D z b
  along_under b a =
      record {
        w = a.w;
        s = a.s;
        way = a.way;
        homes = a.homes;
        book = a.book;
        many = length a.out;
        medium = a.medium ∙ ap (moved (first a.w)) (sym (take-front l G D z a.out a.rest) ∙ ap (take (length a.out)) (sym a.split));
        carried = a.carried;
      }

  attempts-none : (b : Board) → (b.turn.kind ≡ 1 → ⊥) → attempted b ≡ b.medium
  unfolding attempted
  attempts-none b n = rw (ne_eqb b.turn.kind 1 n)

  attempts-one : (b : Board) → b.turn.kind ≡ 1 → attempted b ≡ moved b.medium (due_of b)
  unfolding attempted due_of moved moves
  attempts-one b e = rw (eq-eqb b.turn.kind 1 e)

  pass-kind : (b : Board) → b.turn ≡ pass → b.turn.kind ≡ 1 → ⊥
  unfolding pass
  pass-kind b e h = omega (arith, h, ap (λ (t : Turn). t.kind) e)

  load-kind : (b : Board) (area n : ℕ) → b.turn ≡ load area n → b.turn.kind ≡ 1 → ⊥
  unfolding load
  load-kind b area n e h = omega (arith, h, ap (λ (t : Turn). t.kind) e)

  attempted-under : (b : Board) → Good l G D z b → is_over b.turn ≡ false → Under l G D z (with_medium b (attempted b) b.memory b.book)
  unfolding with_medium
  attempted-under b (behind k) o = under-like l G D z b (with_medium b (attempted b) b.memory b.book) refl refl (attempts-none b (go k.waiting)) k.under
    where
      go : Waiting l G D z b → b.turn.kind ≡ 1 → ⊥
      go (rests e q) = absurd (false≢true (sym o ∙ q))
      go (asked e q t) = pass-kind b t
      go (loads n e q t) = load-kind b 0 n t
  attempted-under b (loaded k) o =
      under-like l G D z b (with_medium b (attempted b) b.memory b.book) refl refl (attempts-none b (load-kind b 1 k.turn.0 k.turn.1)) k.under
  attempted-under b (follows f) o = go (eqb b.turn.kind 1) refl
    where
      go : (d : Bool) → eqb b.turn.kind 1 ≡ d → Under l G D z (with_medium b (attempted b) b.memory b.book)
      go true e =
          under-like l G D z (ahead_of b) (with_medium b (attempted b) b.memory b.book) refl refl (attempts-one b (eqb-true b.turn.kind 1 e)) (along_under (ahead_of b) f.along)
      go false e =
          under-like l G D z b (with_medium b (attempted b) b.memory b.book) refl refl (attempts-none b (eqb-false b.turn.kind 1 e)) (under l G D z b (follows f))

  pub breaks-good : (b : Board) → Good l G D z b → is_over b.turn ≡ false → (error n : ℕ)
      → Good l G D z (happens l b (breaks error) n) × (((happens l b (breaks error) n).told ≡ done 65 (suc error)) × ((happens l b (breaks error) n).control.condition ≡ failed))
  unfolding happens with_medium
  breaks-good b g o error n =
      let b₁ : Board = with_medium b (attempted b) b.memory b.book in
      let k = fails-next b₁ error in
      let c = failed-is b.control (suc error) in (
        behind
            (record {
              under = under-like l G D z b₁ (next b₁ (suc error)) k.homes k.book k.medium (attempted-under b g o);
              kept = kept-like l G D z b (next b₁ (suc error)) k.memory (ap (λ (i : Control). i.landing) k.control ∙ c.2) (kept l G D z b g);
              shut = inr (ap (λ (i : Control). i.condition) k.control ∙ c.0);
              left = λ q. absurd (q (ap (λ (i : Control). i.stage) k.control ∙ c.1));
              waiting = rests (ap (λ (i : Control). i.stage) k.control ∙ c.1) (ap is_over k.turn ∙ over_done 65 (suc error));
            }),
        (k.told, ap (λ (i : Control). i.condition) k.control ∙ c.0),
      )
