-- What a cut inside a format may leave, and the pieces that keep a header without a mark so, written or not.
use Prim.Native.Nat.{ℕ, zero, suc, ◌+◌, ◌*◌, ◌/◌, ◌≤◌}
use mathlib.Core.Path.{◌≡◌, refl, sym, ap, ◌∙◌, subst}
use mathlib.Core.Logic.{◌⊎◌, inl, inr}
use mathlib.Core.Bool.{Bool, true, false, cond}
use mathlib.Core.List.{List, [], ◌∷◌, ◌++◌, append_assoc, append-nil}
use native.Mathlib.Omega.{arith}
use lib.ListN.{length, take, drop}
use Rattle.model.specs.Bytes.{part, puts, zeros}
use Rattle.model.specs.Layout.{group_offset, header}
use Rattle.model.specs.Batch.{Record, GW, HW, KW, FN}
use Rattle.model.specs.Crash.{Memory, Piece, to_log, to_area, write, write_each, write_if, write_chosen}
use Rattle.model.specs.Facts.{NeverOpens}
use Rattle.model.specs.History.{Formatting, after_format}
use Rattle.model_laws.proofs.bytes.ByteLaws.{length-puts}
use Rattle.model_laws.proofs.trace.TraceLaws.{All}
use Rattle.theorems.proofs.steps.FormatRuns.{sizes, Unmarked, unmarked-closed, NoHeader, unmarked-log, unmarked-area}
use Rattle.object.specs.Medium.{Grain, words, blocks, Medium, unit_of, chop_log, chop_area, chop, chop_all, writes, fences, loses}
use Rattle.object.specs.Order.{Motion, wait, parted, moves, moved}
use Rattle.object.proofs.ChopLaws.{all_append, body_of, bodies}
use Rattle.object.proofs.MotionLaws.{puttings}

-- Bytes

pub puts-own : (d : List ℕ) (at n : ℕ) → puts d at (take n (drop at d)) ≡ d
unfolding puts
puts-own [] at n = refl
puts-own (x ∷ d) (suc at) n = ap {B = List ℕ} (λ r. x ∷ r) (puts-own d at n)
puts-own (x ∷ d) zero zero = refl
puts-own (x ∷ d) zero (suc n) = ap {B = List ℕ} (λ r. x ∷ r) (puts-own d zero n)

pub puts-over : (d s t : List ℕ) → length s ≤ length t → puts (puts d 0 s) 0 t ≡ puts d 0 t
unfolding puts
puts-over [] s t h = refl
puts-over (x ∷ d) [] t h = refl
puts-over (x ∷ d) (y ∷ s) [] h = absurd (omega arith)
puts-over (x ∷ d) (y ∷ s) (u ∷ t) h = ap {B = List ℕ} (λ r. u ∷ r) (puts-over d s t (omega arith))

-- zeros written into a front of zeros leave it
zeros-stay : (xs : List ℕ) (k at n : ℕ) → take k xs ≡ zeros k → take k (puts xs at (zeros n)) ≡ zeros k
unfolding puts zeros
zeros-stay [] k at n e = e
zeros-stay (x ∷ xs) zero at n e = refl
zeros-stay (x ∷ xs) (suc k) (suc at) n e =
    let a : x ≡ 0 = cc in
    let b : take k xs ≡ zeros k = cc in
    rw a (ap {B = List ℕ} (λ r. 0 ∷ r) (zeros-stay xs k at n b))
zeros-stay (x ∷ xs) (suc k) zero zero e = e
zeros-stay (x ∷ xs) (suc k) zero (suc n) e =
    let b : take k xs ≡ zeros k = cc in
    ap {B = List ℕ} (λ r. 0 ∷ r) (zeros-stay xs k zero n b)

pub part-of-zeros : (n at k : ℕ) → at + k ≤ n → part (zeros n) at k ≡ zeros k
unfolding part zeros
part-of-zeros n zero zero h = refl
part-of-zeros zero zero (suc k) h = absurd (omega arith)
part-of-zeros (suc n) zero (suc k) h = ap {B = List ℕ} (λ r. 0 ∷ r) (part-of-zeros n zero k (omega arith))
part-of-zeros zero (suc at) k h = absurd (omega arith)
part-of-zeros (suc n) (suc at) k h = part-of-zeros n at k (omega arith)

-- pieces that keep a header without a mark, written or not

abbrev Safe : ℕ → ℕ → Piece → Type 0
Safe G D p = (b : Bool) (m : Memory) → Unmarked G D m → Unmarked G D (write_if b p m)

-- one, and its words or blocks
abbrev pub Harmless : Grain → ℕ → ℕ → Piece → Type 0
Harmless l G D p = Safe G D p × All (Safe G D) (chop l p)

-- n pieces of zeros one behind the other
unfoldable pub zero_pieces : ℕ → ℕ → ℕ → List Piece
zero_pieces unit at zero = []
zero_pieces unit at (suc n) = to_log at (zeros unit) ∷ zero_pieces unit (at + unit) n

module _ (G D : ℕ) where
  safe-chosen : (ps : List Piece) → All (Safe G D) ps → (chosen : ℕ → Bool) (i : ℕ) (m : Memory) → Unmarked G D m
      → Unmarked G D (write_chosen chosen i ps m)
  unfolding write_chosen
  safe-chosen [] s chosen i m u = u
  safe-chosen (p ∷ ps) s chosen i m u = safe-chosen ps s.1 chosen (i + 1) (write_if (chosen i) p m) (s.0 (chosen i) m u)

  module _ (l : Grain) where
    safe-each : (ps : List Piece) → All (Harmless l G D) ps → (m : Memory) → Unmarked G D m → Unmarked G D (write_each ps m)
    unfolding write_each
    safe-each [] s m u = u
    safe-each (p ∷ ps) s m u = safe-each ps s.1 (write p m) (unfold write_if in s.0.0 true m u)

    safe-chopped : (ps : List Piece) → All (Harmless l G D) ps → All (Safe G D) (chop_all l ps)
    unfolding chop_all
    safe-chopped [] s = tt
    safe-chopped (p ∷ ps) s = all_append (Safe G D) (chop l p) (chop_all l ps) s.0.1 (safe-chopped ps s.1)

  safe-log : (at : ℕ) (bs : List ℕ) → 64 ≤ at → Safe G D (to_log at bs)
  safe-log at bs h b m u = unmarked-log G D b m at bs h u

  safe-area : (at : ℕ) (bs : List ℕ) → Safe G D (to_area at bs)
  safe-area at bs b m u = unmarked-area G D b m at bs u

  safe-zeros : (at n : ℕ) → Safe G D (to_log at (zeros n))
  unfolding write_if write
  safe-zeros at n true m u =
      record { log = length-puts m.log at (zeros n) ∙ u.log; area = u.area; mark = unfold part in zeros-stay m.log 2 at n (unfold part in u.mark) }
  safe-zeros at n false m u = u

  log-pieces : (unit at : ℕ) (bs : List ℕ) (n : ℕ) → 64 ≤ at → All (Safe G D) (chop_log unit at bs n)
  unfolding chop_log
  log-pieces unit at bs zero h = tt
  log-pieces unit at bs (suc n) h = (safe-log at (take unit bs) h, log-pieces unit (at + unit) (drop unit bs) n (omega arith))

  area-pieces : (unit at : ℕ) (bs : List ℕ) (n : ℕ) → All (Safe G D) (chop_area unit at bs n)
  unfolding chop_area
  area-pieces unit at bs zero = tt
  area-pieces unit at bs (suc n) = (safe-area at (take unit bs), area-pieces unit (at + unit) (drop unit bs) n)

  zero-pieces : (unit at n : ℕ) → All (Safe G D) (zero_pieces unit at n)
  unfolding zero_pieces
  zero-pieces unit at zero = tt
  zero-pieces unit at (suc n) = (safe-zeros at unit, zero-pieces unit (at + unit) n)

  module _ (l : Grain) where
    harmless-log : (at : ℕ) (bs : List ℕ) → 64 ≤ at → Harmless l G D (to_log at bs)
    unfolding chop
    harmless-log at bs h = (safe-log at bs h, log-pieces (unit_of l) at bs (length bs / unit_of l) h)

    harmless-area : (at : ℕ) (bs : List ℕ) → Harmless l G D (to_area at bs)
    unfolding chop
    harmless-area at bs = (safe-area at bs, area-pieces (unit_of l) at bs (length bs / unit_of l))

    -- the groups and homes of a format
    pub harmless-bodies : (T : List Record) → NoHeader T → All (Harmless l G D) (bodies l T)
    unfolding bodies
    harmless-bodies [] n = tt
    harmless-bodies (GW slot group ∷ T) n = (one, harmless-bodies T n)
      where
        one : Harmless l G D (body_of l slot group)
        one = unfold body_of in go (parted l group)
          where
            go : (t : Bool) → Harmless l G D (cond t (to_log (group_offset slot + 8) (drop 8 group)) (to_log (group_offset slot) group))
            go true = harmless-log (group_offset slot + 8) (drop 8 group) (unfold group_offset in omega arith)
            go false = harmless-log (group_offset slot) group (unfold group_offset in omega arith)
    harmless-bodies (HW home block ∷ T) n = (harmless-area (64 * home) block, harmless-bodies T n)
    harmless-bodies (KW header ∷ T) n = absurd n
    harmless-bodies (FN ∷ T) n = harmless-bodies T n

chop-zeros : (l : Grain) → chop l (to_log 0 (zeros 64)) ≡ zero_pieces (unit_of l) 0 (64 / unit_of l)
unfolding chop unit_of chop_log zero_pieces zeros
chop-zeros words = refl
chop-zeros blocks = refl

pub harmless-zeros : (l : Grain) (G D : ℕ) → Harmless l G D (to_log 0 (zeros 64))
harmless-zeros l G D = (safe-zeros G D 0 64, subst (All (Safe G D)) (sym (chop-zeros l)) (zero-pieces G D (unit_of l) 0 (64 / unit_of l)))

-- what a cut may leave

abbrev pub Allowed : {G D : ℕ} → Formatting G D → Memory → Type 0
Allowed f m = (m ≡ f.memory) ⊎ (NeverOpens m ⊎ (m ≡ (after_format f).memory))

abbrev pub medium : Memory → List Piece → Medium
medium M W = record { lasting = M; written = W }

-- at one moment, and at every moment of some motions
abbrev pub Fine : Grain → {G D : ℕ} → Formatting G D → Medium → Type 0
Fine l f m = (chosen : ℕ → Bool) → Allowed f (loses l chosen m).lasting

abbrev pub AllFine : Grain → {G D : ℕ} → Formatting G D → Medium → List Motion → Type 0
AllFine l f m [] = Fine l f m
AllFine l f m (a ∷ more) = Fine l f m × AllFine l f (moves m a) more

pub fine-cut : (l : Grain) {G D : ℕ} (f : Formatting G D) (ms : List Motion) (m : Medium) → AllFine l f m ms → (many : ℕ) → Fine l f (moved m (take many ms))
unfolding moved
fine-cut l f [] m a zero = a
fine-cut l f [] m a (suc n) = a
fine-cut l f (x ∷ ms) m a zero = a.0
fine-cut l f (x ∷ ms) m a (suc n) = fine-cut l f ms (moves m x) a.1 n

module _ (l : Grain) {G D : ℕ} (f : Formatting G D) where
  pub fine-unmarked : (M : Memory) (W : List Piece) → Unmarked G D M → All (Harmless l G D) W → Fine l f (medium M W)
  unfolding loses
  fine-unmarked M W u h chosen =
      inr (inl (unmarked-closed G D (sizes f) _ (safe-chosen G D (chop_all l W) (safe-chopped G D l W h) chosen 0 M u)))

  pub puts-fine : (ps : List Piece) (M : Memory) (W : List Piece) (more : List Motion) → Unmarked G D M → All (Harmless l G D) W → All (Harmless l G D) ps
      → AllFine l f (medium M (W ++ ps)) more → AllFine l f (medium M W) (puttings ps ++ more)
  unfolding puttings moves writes
  puts-fine [] M W more u h g a = subst (λ (x : List Piece). AllFine l f (medium M x) more) (append-nil W) a
  puts-fine (p ∷ ps) M W more u h g a = (
    fine-unmarked M W u h,
    puts-fine ps M (W ++ (p ∷ [])) more u (all_append (Harmless l G D) W (p ∷ []) h (g.0, tt)) g.1
        (subst (λ (x : List Piece). AllFine l f (medium M x) more) (sym (append_assoc W (p ∷ []) ps)) a),
  )

  pub wait-fine : (M : Memory) (W : List Piece) (more : List Motion) → Unmarked G D M → All (Harmless l G D) W
      → AllFine l f (medium (write_each W M) []) more → AllFine l f (medium M W) (wait ∷ more)
  unfolding moves fences
  wait-fine M W more u h a = (fine-unmarked M W u h, a)
