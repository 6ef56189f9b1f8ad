-- Demand 4.
use Prim.Native.Nat.{ℕ}
use mathlib.Core.Path.{◌≡◌, refl, sym, ◌∙◌, subst}
use mathlib.Core.Logic.{inl}
use mathlib.Core.Bool.{Bool, false, false≢true}
use mathlib.Core.List.{List, [], ◌∷◌}
use Rattle.model.specs.History.{Formatting, after_format, unopened}
use Rattle.abstract_store.specs.Store.{new_store}
use Rattle.theorems.proofs.invariant.Invariant.{Sizes}
use Rattle.theorems.proofs.steps.FormatRuns.{sizes}
use Rattle.object.specs.Medium.{Grain}
use Rattle.object.specs.Order.{moved}
use Rattle.object_board.specs.Board.{Board, Happening, asks, begins, aborts, reads, goes, breaks, cuts, is_over, loads_log, is_loss, happens, Started, Driven, Leaves, Right, AllRight, board_of, Demand4}
use Rattle.object_board.proofs.Ways.{way-first}
use Rattle.object_board.proofs.Good.{Under, Waiting, rests, asked, loads, Behind, Good, behind, loaded, follows, under}
use Rattle.object_board.proofs.Happens.{losing, cuts-good, breaks-good, follows-goes, none-carried, over_done, started-kept, fresh-is}
use Rattle.object_board.proofs.Loads.{asked-goes, loads-goes, is-loss, pass-quiet}
use Rattle.object_board.proofs.Opening.{loaded-goes, no-loss}
use Rattle.object_board.proofs.Asks.{asks-good, asks-right}
use Rattle.object_board.proofs.Once.{begins-good, aborts-good, reads-good, reads-right, once-told}

module _ (l : Grain) (G D : ℕ) (z : Sizes G D) where
  -- what is claimed of one happening
  abbrev Goes : Board → Happening → Type 0
  Goes b h = (n : ℕ) × Leaves b (is_loss b h) n × Right b h (happens l b h n) × Good l G D z (happens l b h n)

  no-loss-goes : (b : Board) (chosen : ℕ → Bool) → loads_log b.turn ≡ false → Right b (goes chosen) (happens l b (goes chosen) 0) × Good l G D z (happens l b (goes chosen) 0) → Goes b (goes chosen)
  unfolding is_loss
  no-loss-goes b chosen e r = (0, subst (λ (i : Bool). Leaves b i 0) (sym e) tt, r.0, r.1)

  waiting-goes : (b : Board) (k : Behind l G D z b) → Waiting l G D z b → is_over b.turn ≡ false → (chosen : ℕ → Bool) → Goes b (goes chosen)
  waiting-goes b k (rests e q) o chosen = absurd (false≢true (sym o ∙ q))
  waiting-goes b k (asked e q t) o chosen =
      let r = asked-goes l G D z b k e q t chosen 0 in
      no-loss-goes b chosen (pass-quiet b t).1 (λ h. absurd (false≢true (sym r.1 ∙ h)), r.0)
  waiting-goes b k (loads m e q t) o chosen =
      let x = losing l G D z b chosen k.under in
      let r = loads-goes l G D z b k m e q t chosen x in
      (x.commits, loss, λ h. absurd (false≢true (sym r.1 ∙ h)), r.0)
    where
      loss : Leaves b (is_loss b (goes chosen)) (losing l G D z b chosen k.under).commits
      loss =
          let x = losing l G D z b chosen k.under in
          (unfold is_loss in subst (λ (i : Bool). Leaves b i x.commits) (sym (is-loss l G D z b m t)) (x.few, x.owed))

  goes_on : (b : Board) → Good l G D z b → is_over b.turn ≡ false → (chosen : ℕ → Bool) → Goes b (goes chosen)
  goes_on b (behind k) o chosen = waiting-goes b k k.waiting o chosen
  goes_on b (loaded k) o chosen =
      let r = loaded-goes l G D z b k chosen 0 in no-loss-goes b chosen (no-loss b k.turn.0 k.turn.1) (r.1, r.0)
  goes_on b (follows f) o chosen = let r = follows-goes l G D z b f o chosen 0 in no-loss-goes b chosen f.log (r.1, r.0)

  happening : (b : Board) → Good l G D z b → (h : Happening) → Driven l G b h → Goes b h
  unfolding is_loss
  happening b g (asks stage writer home number block) d =
      (0, tt, (λ r s. asks-right l G D z b g stage writer home number block d 0 r s), asks-good l G D z b g stage writer home number block d 0)
  happening b g (begins v) d = (0, tt, (unfold happens in once-told b _ _), begins-good l G D z b g v 0)
  happening b g (aborts v) d = (0, tt, (unfold happens in once-told b _ _), aborts-good l G D z b g v 0)
  happening b g (reads v home block) d = (0, tt, ((unfold happens in once-told b _ _), reads-right l G D z b g v home block 0), reads-good l G D z b g v home block 0)
  happening b g (goes chosen) d = goes_on b g d chosen
  happening b g (breaks error) d = let r = breaks-good l G D z b g d error 0 in (0, tt, r.1, r.0)
  happening b g (cuts chosen memory) d =
      let x = losing l G D z b chosen (under l G D z b g) in (x.commits, (x.few, x.owed), tt, cuts-good l G D z b g chosen memory d x)

  all_right : (hs : List Happening) (b : Board) → Good l G D z b → AllRight l G b hs
  all_right [] b g = tt
  all_right (h ∷ hs) b g = λ d. let r = happening b g h d in (r.0, r.1, r.2, all_right hs _ r.3)

first_good : (l : Grain) (G D : ℕ) (f : Formatting G D) (b : Board) → Started l G D b → Good l G D (sizes f) (board_of f b)
unfolding board_of
first_good l G D f b s =
    behind
    (record {
      under = first_under;
      kept = started-kept l G D (sizes f) b (board_of f b) s refl refl;
      shut = inl (fresh-is l G D (sizes f) b s).0;
      left = λ q. absurd (q (fresh-is l G D (sizes f) b s).1);
      waiting = rests (fresh-is l G D (sizes f) b s).1 (over_done l G D (sizes f) 0 0);
    })
  where
    first_under : Under l G D (sizes f) (board_of f b)
    first_under =
        unfold moved after_format unopened in
        record {
          w = after_format f;
          s = new_store G D;
          way = way-first G D f;
          homes = refl;
          book = refl;
          many = 0;
          medium = refl;
          carried = none-carried l G D (sizes f) (after_format f) refl refl;
        }

pub demand4 : Demand4
demand4 l G D f b s hs = all_right l G D (sizes f) hs (board_of f b) (first_good l G D f b s)
